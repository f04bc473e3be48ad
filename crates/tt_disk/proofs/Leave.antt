-- What a crash leaves of the entries, one after another.
use Rattle.std.proofs.Common.{◌≡◌, inl, inr, ℕ, ◌+◌, ◌<◌, Bool, true, false, arith, Some, None, List, [], ◌∷◌, ◌++◌, length, take, get_or, map, Option, refl, sym, ◌∙◌, ap, subst, Result, Ok, Err, Vec}
use Rattle.std.specs.Prelude.{IfOk}
use Rattle.std.specs.declared.alloc.Global.{Global}
use Rattle.std.proofs.lemmas.List.{take_more, map-append}
use Rattle.tt_disk.specs.declared.volume.Name.{Name}
use Rattle.tt_disk.specs.declared.memory.file.MemFile.{MemFile}
use Rattle.tt_disk.specs.declared.memory.file.Step.{Step}
use Rattle.tt_disk.specs.declared.memory.file.Step.TheVariants.{Create, Make, Write, Remove}
use Rattle.tt_disk.specs.Leave.{each_contents, was_emptied, emptied_if, least_of, least_of_any, AreLeft}
use Rattle.tt_disk.specs.Steps.{contents, Does, Leads}
use Rattle.tt_disk.specs.File.{file_may}
use Rattle.tt_disk.specs.Files.{same_name, found, now_of, files_now, files_may}
use Rattle.tt_disk.proofs.Files.{bool_cases}
use Rattle.tt_disk.proofs.File.{does_nothing, leads_on}
use Rattle.tt_disk.specs.Volume.{File}

pub leads_more : (steps : List Step) (i : ℕ) (s : Step) (old d new : File) → i < length steps → s ≡ get_or steps i s → Leads (take i steps) old d → Does s d new → Leads (take (i + 1) steps) old new
leads_more steps i s old d new inside read leads does =
    let P : List Step → Type 0 = λ l. Leads l old new in
    subst P (sym (take_more steps i s inside ∙ ap (λ t. take i steps ++ t ∷ []) (sym read))) (leads_on (take i steps) s old d new leads does)

pub left_push : (olds news : List MemFile) (old new : MemFile) → AreLeft olds news → new.name ≡ old.name → file_may old (contents new.bytes) → ((c : File) → file_may new c → c ≡ contents new.bytes)
    → AreLeft (olds ++ old ∷ []) (news ++ new ∷ [])
left_push [] [] old new left name may only = (name, may, only, tt)
left_push [] (n ∷ news) old new left name may only = absurd left
left_push (o ∷ olds) [] old new left name may only = absurd left
left_push (o ∷ olds) (n ∷ news) old new left name may only = (left.0, left.1, left.2, left_push olds news old new left.3 name may only)

pub left_more : (files news : List MemFile) (i : ℕ) (old new : MemFile) → i < length files → old ≡ get_or files i old → AreLeft (take i files) news → new.name ≡ old.name → file_may old (contents new.bytes)
    → ((c : File) → file_may new c → c ≡ contents new.bytes) → AreLeft (take (i + 1) files) (news ++ new ∷ [])
left_more files news i old new inside read left name may only =
    let P : List MemFile → Type 0 = λ l. AreLeft l (news ++ new ∷ []) in
    subst P (sym (take_more files i old inside ∙ ap (λ f. take i files ++ f ∷ []) (sym read))) (left_push (take i files) news old new left name may only)

pub all_left : (olds news : List MemFile) → AreLeft olds news → (n : Name) → files_may olds n (files_now news n) × ((c : File) → files_may news n c → c ≡ files_now news n)
all_left [] [] left n = (refl, λ c is. is)
all_left [] (new ∷ news) left n = absurd left
all_left (old ∷ olds) [] left n = absurd left
all_left (old ∷ olds) (new ∷ news) left n =
    let rest = all_left olds news left.3 n in
    elim (bool_cases (same_name old.name n)) [
      | inl here ↦ (let there = ap (λ m. same_name m n) left.0 ∙ here in rw (here, there) (left.1, left.2))
      | inr other ↦ (let past = ap (λ m. same_name m n) left.0 ∙ other in rw (other, past) rest)
    ]

-- What is left of each entry is a function of it.
module _ (leaves : MemFile → File) where
  pub contents_more : (files news : List MemFile) (i : ℕ) (old new : MemFile) → i < length files → old ≡ get_or files i old → each_contents news ≡ map leaves (take i files) → contents new.bytes ≡ leaves old
      → each_contents (news ++ new ∷ []) ≡ map leaves (take (i + 1) files)
  contents_more files news i old new inside read same own =
      map-append (λ file. contents file.bytes) news (new ∷ []) ∙ ap (λ l. l ++ contents new.bytes ∷ []) same ∙ ap (λ o. map leaves (take i files) ++ o ∷ []) own
      ∙ sym (map-append leaves (take i files) (old ∷ []))
      ∙ ap (map leaves) (sym (take_more files i old inside ∙ ap (λ f. take i files ++ f ∷ []) (sym read)))

  -- what is left of a name that may have no entry
  abbrev pub leaves_any : Option MemFile → File
  leaves_any None = None
  leaves_any (Some file) = leaves file

  pub reads_left : (olds news : List MemFile) → AreLeft olds news → each_contents news ≡ map leaves olds → (n : Name) → files_now news n ≡ leaves_any (found olds n)
  reads_left [] [] left same n = refl
  reads_left [] (new ∷ news) left same n = absurd left
  reads_left (old ∷ olds) [] left same n = absurd left
  reads_left (old ∷ olds) (new ∷ news) left same n =
      let own : contents new.bytes ≡ leaves old = cc in
      let others : each_contents news ≡ map leaves olds = cc in
      let rest = reads_left olds news left.3 others n in
      elim (bool_cases (same_name old.name n)) [
        | inl here ↦ (let there = ap (λ m. same_name m n) left.0 ∙ here in rw (here, there) own)
        | inr other ↦ (let past = ap (λ m. same_name m n) left.0 ∙ other in rw (other, past) rest)
      ]

-- the entries as they read, and the least of each
pub reads_same : (olds news : List MemFile) → AreLeft olds news → each_contents news ≡ each_contents olds → (n : Name) → files_now news n ≡ files_now olds n
reads_same olds news left same n = reads_left (λ file. contents file.bytes) olds news left same n ∙ elim (found olds n) as (λ o. leaves_any (λ file. contents file.bytes) o ≡ now_of o) [ None ↦ refl | Some file ↦ refl ]

pub reads_least : (olds news : List MemFile) → AreLeft olds news → each_contents news ≡ map least_of olds → (n : Name) → files_now news n ≡ least_of_any (found olds n)
reads_least olds news left same n = reads_left least_of olds news left same n ∙ elim (found olds n) as (λ o. leaves_any least_of o ≡ least_of_any o) [ None ↦ refl | Some file ↦ refl ]

-- calls none of which was done
all_undone : (steps : List Step) (o : File) → Leads steps o o
all_undone [] o = refl
all_undone (s ∷ steps) o = (o, does_nothing s o, all_undone steps o)

-- a call that emptied the file was done, and none of the others
one_emptied : (there : Bool) (steps : List Step) (bytes : List ℕ) → was_emptied there steps ≡ true → Leads steps (Some bytes) (Some [])
one_emptied there [] bytes is = cc
one_emptied there (Create ∷ steps) bytes is = (Some [], inr ([], refl, omega arith), all_undone steps (Some []))
one_emptied there (Make ∷ steps) bytes is = (Some bytes, inl refl, one_emptied true steps bytes is)
one_emptied there (Write at len ∷ steps) bytes is = (Some bytes, does_nothing (Write at len) (Some bytes), one_emptied true steps bytes is)
one_emptied there (Remove ∷ steps) bytes is = (Some bytes, inl refl, one_emptied false steps bytes is)

least_leads : (steps : List Step) (o : File) (emptied : Bool) → was_emptied true steps ≡ emptied → Leads steps o (emptied_if emptied o)
least_leads steps o false is = all_undone steps o
least_leads steps None true is = all_undone steps None
least_leads steps (Some bytes) true is = one_emptied true steps bytes is

-- the least is left by a crash
pub least_may : (file : MemFile) → file_may file (least_of file)
least_may file = inr (least_leads file.steps.items (contents file.settled) (was_emptied true file.steps.items) refl)

pub least_left_may : {E : Type 0} (r : Result (Option (Vec ℕ Global)) E) (file : MemFile) → IfOk r (λ left. contents left ≡ least_of file) → IfOk r (λ left. file_may file (contents left))
least_left_may (Ok left) file is = subst (λ o. file_may file o) (sym is) (least_may file)
least_left_may (Err e) file is = tt

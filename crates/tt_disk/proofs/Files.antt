-- How a step of one entry is a step of the volume.
use Rattle.std.proofs.Common.{◌≡◌, ◌⊎◌, inl, inr, ℕ, ◌+◌, ◌<◌, Bool, true, false, List, [], ◌∷◌, ◌++◌, length, take, drop, Option, Some, None, refl, sym, ◌∙◌, ap, subst, arith, set, get_or, take-append-drop, ⊎_elim, ◌≤◌}
use Rattle.std.proofs.lemmas.List.{set_at, get_or_at, length-take-le, drop_more, take_more}
use Rattle.std.proofs.lemmas.Bool.{eq-eqb, eqb-true}
use Rattle.tt_disk.specs.declared.volume.Name.{Name}
use Rattle.tt_disk.specs.declared.volume.Name.TheVariants.{Ds, Log, SetImage, SetLog}
use Rattle.tt_disk.specs.declared.memory.file.MemFile.{MemFile}
use Rattle.tt_disk.specs.declared.memory.file.Step.{Step}
use Rattle.tt_disk.specs.Volume.{Steps, Keeps, IsSettled, File, Files, Outcomes}
use Rattle.tt_disk.specs.Steps.{contents, Leads}
use Rattle.tt_disk.specs.File.{file_may, FileSteps, Reaches}
use Rattle.tt_disk.specs.Files.{same_name, found, now_of, may_of, files_now, files_may, IsAt, is_below}
use Rattle.tt_disk.specs.Memory.{ReachesAll, KeepsAll, KeepsOthers}

pub same_name_yes : (a b : Name) → same_name a b ≡ true → a ≡ b
same_name_yes (Ds a) (Ds b) is = ap (λ n. Ds n) (eqb-true a b is)
same_name_yes (Log a) (Log b) is = ap (λ n. Log n) (eqb-true a b is)
same_name_yes (SetImage a) (SetImage b) is = ap (λ n. SetImage n) (eqb-true a b is)
same_name_yes (SetLog a) (SetLog b) is = ap (λ n. SetLog n) (eqb-true a b is)
same_name_yes (Ds a) (Log b) is = cc
same_name_yes (Ds a) (SetImage b) is = cc
same_name_yes (Ds a) (SetLog b) is = cc
same_name_yes (Log a) (Ds b) is = cc
same_name_yes (Log a) (SetImage b) is = cc
same_name_yes (Log a) (SetLog b) is = cc
same_name_yes (SetImage a) (Ds b) is = cc
same_name_yes (SetImage a) (Log b) is = cc
same_name_yes (SetImage a) (SetLog b) is = cc
same_name_yes (SetLog a) (Ds b) is = cc
same_name_yes (SetLog a) (Log b) is = cc
same_name_yes (SetLog a) (SetImage b) is = cc

pub same_name_refl : (a : Name) → same_name a a ≡ true
same_name_refl (Ds a) = eq-eqb a a refl
same_name_refl (Log a) = eq-eqb a a refl
same_name_refl (SetImage a) = eq-eqb a a refl
same_name_refl (SetLog a) = eq-eqb a a refl

pub bool_cases : (b : Bool) → (b ≡ true) ⊎ (b ≡ false)
bool_cases true = inl refl
bool_cases false = inr refl

pub other_name : (a b : Name) → ¬ (a ≡ b) → same_name a b ≡ false
other_name a b differ = elim (bool_cases (same_name a b)) [ inl same ↦ absurd (differ (same_name_yes a b same)) | inr is ↦ is ]

-- behind entries of other names it is the first of its name
pub found_behind : (front : List MemFile) (file : MemFile) (rest : List MemFile) (name : Name) → found front name ≡ None → same_name file.name name ≡ true
    → found (front ++ file ∷ rest) name ≡ Some file
found_behind [] file rest name none is = rw is refl
found_behind (f ∷ front) file rest name none is = elim (bool_cases (same_name f.name name)) [
  | inl here ↦ let bad : Some f ≡ None = rw here at none in cc
  | inr other ↦ let less : found front name ≡ None = rw other at none in rw other (found_behind front file rest name less is)
]

pub found_none : (front : List MemFile) (file : MemFile) (name : Name) → found front name ≡ None → same_name file.name name ≡ false → found (front ++ file ∷ []) name ≡ None
found_none [] file name none other = rw other refl
found_none (f ∷ front) file name none other = elim (bool_cases (same_name f.name name)) [
  | inl here ↦ let bad : Some f ≡ None = rw here at none in cc
  | inr past ↦ let less : found front name ≡ None = rw past at none in rw past (found_none front file name less other)
]

-- an entry counts for its own name alone
pub found_past : (front : List MemFile) (file file' : MemFile) (rest : List MemFile) (n : Name) → same_name file.name n ≡ false → same_name file'.name n ≡ false
    → found (front ++ file' ∷ rest) n ≡ found (front ++ file ∷ rest) n
found_past [] file file' rest n other other' = rw (other, other') refl
found_past (f ∷ front) file file' rest n other other' = elim (bool_cases (same_name f.name n)) [
  | inl here ↦ rw here refl
  | inr past ↦ rw past (found_past front file file' rest n other other')
]

pub is_at : (files : List MemFile) (name : Name) (i : ℕ) (file : MemFile) → i < length files → file ≡ get_or files i file → found (take i files) name ≡ None → same_name file.name name ≡ true → IsAt files name i
is_at files name i file inside is before here = record {
  file = file;
  split = sym (take-append-drop i files) ∙ ap (λ (l : List MemFile). take i files ++ l) (drop_more files i file inside ∙ ap (λ f. f ∷ drop (i + 1) files) (sym is));
  before = before;
  here = here;
  inside = inside;
}

pub none_before : (files : List MemFile) (name : Name) (i : ℕ) (file : MemFile) → i < length files → file ≡ get_or files i file → found (take i files) name ≡ None → same_name file.name name ≡ false → found (take (i + 1) files) name ≡ None
none_before files name i file inside is before other =
    ap (λ (l : List MemFile). found l name) (take_more files i file inside ∙ ap (λ f. take i files ++ f ∷ []) (sym is)) ∙ found_none (take i files) file name before other

pub found_at : (files : List MemFile) (name : Name) (i : ℕ) → (at : IsAt files name i) → found files name ≡ Some at.file
found_at files name i at = ap (λ (l : List MemFile). found l name) at.split ∙ found_behind (take i files) at.file (drop (i + 1) files) name at.before at.here

set_at_split : (files : List MemFile) (name : Name) (i : ℕ) (at : IsAt files name i) (file' : MemFile) → set files i file' ≡ take i files ++ file' ∷ drop (i + 1) files
set_at_split files name i at file' =
    ap (λ (l : List MemFile). set l i file') at.split ∙ set_at (take i files) at.file (drop (i + 1) files) file' i (length-take-le i files (omega (arith, at.inside)))

-- the entry is replaced by another of the same name
module _ (files files' : List MemFile) (name : Name) (i : ℕ) (at : IsAt files name i) (file' : MemFile) (is : files' ≡ set files i file') (named : file'.name ≡ at.file.name) where
  pub found_new : found files' name ≡ Some file'
  found_new =
      ap (λ (l : List MemFile). found l name) (is ∙ set_at_split files name i at file')
      ∙ found_behind (take i files) file' (drop (i + 1) files) name at.before (ap (λ m. same_name m name) named ∙ at.here)

  pub found_others : (n : Name) → ¬ (n ≡ name) → found files' n ≡ found files n
  found_others n differ =
      let own : at.file.name ≡ name = same_name_yes at.file.name name at.here in
      let other : same_name at.file.name n ≡ false = other_name at.file.name n (λ same. differ (sym same ∙ own)) in
      ap (λ (l : List MemFile). found l n) (is ∙ set_at_split files name i at file')
      ∙ found_past (take i files) at.file file' (drop (i + 1) files) n other (ap (λ m. same_name m n) named ∙ other)
      ∙ ap (λ (l : List MemFile). found l n) (sym at.split)

pub steps_at : (step : File → File → Type 0) (files files' : List MemFile) (name : Name) (i : ℕ) (at : IsAt files name i) (file' : MemFile)
    → files' ≡ set files i file' → FileSteps step at.file file' → Steps step name (files_now files) (files_now files') (files_may files) (files_may files')
steps_at step files files' name i at file' is steps =
    let new = found_new files files' name i at file' is steps.name in
    let old = found_at files name i at in
    record {
      reads = subst (λ o. step (now_of (found files name)) (now_of o)) (sym new) (subst (λ o. step (now_of o) (contents file'.bytes)) (sym old) steps.reads);
      crash = λ c left.
          let from = steps.crash c (subst (λ o. may_of o c) new left) in
          (from.0, subst (λ o. may_of o from.0) (sym old) from.1, from.2);
      others = λ n differ. ap now_of (found_others files files' name i at file' is steps.name n differ);
      others_crash = λ n differ c left. subst (λ o. may_of o c) (found_others files files' name i at file' is steps.name n differ) left;
    }

pub now_index_or : (files : List MemFile) (name : Name) (i : ℕ) → IsAt files name i → (d : MemFile) → files_now files name ≡ contents (get_or files i d).bytes
now_index_or files name i at d =
    ap now_of (found_at files name i at)
    ∙ ap (λ f. contents f.bytes) (sym (get_or_at (take i files) at.file (drop (i + 1) files) d i (length-take-le i files (omega (arith, at.inside)))) ∙ ap (λ (l : List MemFile). get_or l i d) (sym at.split))

-- The entry of a name was read by its index.
module _ (files : List MemFile) (name : Name) (i : ℕ) (at : IsAt files name i) (file : MemFile) (read : file ≡ get_or files i file) where
  pub file_is : at.file ≡ file
  file_is =
      sym (get_or_at (take i files) at.file (drop (i + 1) files) file i (length-take-le i files (omega (arith, at.inside))))
      ∙ ap (λ (l : List MemFile). get_or l i file) (sym at.split) ∙ sym read

  pub now_index : files_now files name ≡ contents file.bytes
  now_index = ap now_of (found_at files name i at) ∙ ap (λ f. contents f.bytes) file_is

  pub named : same_name file.name name ≡ true
  named = ap (λ f. same_name f.name name) (sym file_is) ∙ at.here

  -- the file as it reads
  pub was_now : files_now files name ≡ contents file.bytes
  was_now = ap now_of (found_at files name i at ∙ ap (λ f. Some f) file_is)

  pub steps_index : (step : File → File → Type 0) (file' : MemFile) → FileSteps step file file'
      → Steps step name (files_now files) (files_now (set files i file')) (files_may files) (files_may (set files i file'))
  steps_index step file' steps = steps_at step files (set files i file') name i at file' refl (subst (λ f. FileSteps step f file') (sym file_is) steps)

  pub now_set : (file' : MemFile) → file'.name ≡ file.name → files_now (set files i file') name ≡ contents file'.bytes
  now_set file' same = ap now_of (found_new files (set files i file') name i at file' refl (same ∙ ap (λ f. f.name) (sym file_is)))

  pub settled_set : (file' : MemFile) → file'.name ≡ file.name → ((c : File) → file_may file' c → c ≡ contents file'.bytes) → IsSettled name (files_now (set files i file')) (files_may (set files i file'))
  settled_set file' same only c left =
      only c (subst (λ o. may_of o c) (found_new files (set files i file') name i at file' refl (same ∙ ap (λ f. f.name) (sym file_is))) left) ∙ sym (now_set file' same)

  pub keeps_set : (file' : MemFile) → file'.name ≡ file.name → contents file'.bytes ≡ contents file.bytes → ((c : File) → file_may file' c → file_may file c)
      → Keeps (files_now files) (files_now (set files i file')) (files_may files) (files_may (set files i file'))
  keeps_set file' same bytes less =
      let no_step : File → File → Type 0 = λ old new. new ≡ old in
      let steps = steps_index no_step file' (record { name = same; reads = bytes; crash = λ c left. (c, less c left, refl) }) in
      record {
        reads = λ n. elim (bool_cases (same_name n name)) [
          | inl here ↦ ap (files_now (set files i file')) (same_name_yes n name here) ∙ steps.reads ∙ ap (files_now files) (sym (same_name_yes n name here))
          | inr other ↦ steps.others n (λ same. let bad : true ≡ false = sym (same_name_refl name) ∙ ap (λ m. same_name m name) (sym same) ∙ other in cc)
        ];
        crash = λ n c left. elim (bool_cases (same_name n name)) [
          | inl here ↦
              let own = same_name_yes n name here in
              let from = steps.crash c (subst (λ m. files_may (set files i file') m c) own left) in
              subst (λ m. files_may files m c) (sym own) (subst (files_may files name) (sym from.2) from.1)
          | inr other ↦ steps.others_crash n (λ same. let bad : true ≡ false = sym (same_name_refl name) ∙ ap (λ m. same_name m name) (sym same) ∙ other in cc) c left
        ];
      }

pub keeps_all : (now : Files) (may : Outcomes) → Keeps now now may may
keeps_all now may = record { reads = λ n. refl; crash = λ n c left. left }

pub no_steps : (step : File → File → Type 0) (name : Name) (now : Files) (may : Outcomes)
    → ((o : File) → step o o) → Steps step name now now may may
no_steps step name now may same = record { reads = same (now name); crash = λ c left. (c, left, same c); others = λ n differ. refl; others_crash = λ n differ c left. left }

pub found_push : (files : List MemFile) (file : MemFile) (n : Name) → same_name file.name n ≡ false → found (files ++ file ∷ []) n ≡ found files n
found_push [] file n other = rw other refl
found_push (f ∷ files) file n other = elim (bool_cases (same_name f.name n)) [
  | inl here ↦ rw here refl
  | inr past ↦ rw past (found_push files file n other)
]

-- an entry is added for a name that has none
module _ (files : List MemFile) (name : Name) (none : found files name ≡ None) (file : MemFile) (own : file.name ≡ name) where
  pub found_added : found (files ++ file ∷ []) name ≡ Some file
  found_added = found_behind files file [] name none (ap (λ m. same_name m name) own ∙ same_name_refl name)

  pub now_added : files_now (files ++ file ∷ []) name ≡ contents file.bytes
  now_added = ap now_of found_added

  pub steps_added : (step : File → File → Type 0) (blank : MemFile) → contents blank.bytes ≡ None → contents blank.settled ≡ None → blank.steps.items ≡ [] → FileSteps step blank file
      → Steps step name (files_now files) (files_now (files ++ file ∷ [])) (files_may files) (files_may (files ++ file ∷ []))
  steps_added step blank absent unsettled untouched steps =
      let others : (n : Name) → ¬ (n ≡ name) → found (files ++ file ∷ []) n ≡ found files n =
      λ n differ. found_push files file n (other_name file.name n (λ same. differ (sym same ∙ own))) in
      record {
        reads = subst (λ o. step (now_of (found files name)) o) (sym now_added) (subst (λ o. step (now_of o) (contents file.bytes)) (sym none) (subst (λ o. step o (contents file.bytes)) absent steps.reads));
        crash = λ c left.
            let from = steps.crash c (subst (λ o. may_of o c) found_added left) in
            (from.0, subst (λ o. may_of o from.0) (sym none) (was_none from.0 from.1), from.2);
        others = λ n differ. ap now_of (others n differ);
        others_crash = λ n differ c left. subst (λ o. may_of o c) (others n differ) left;
      }
    where
      was_none : (d : File) → file_may blank d → d ≡ None
      was_none d (inl now) = now ∙ absent
      was_none d (inr leads) = (let P : List Step → Type 0 = λ l. Leads l (contents blank.settled) d in subst P untouched leads) ∙ unsettled

-- An entry was replaced by what a call made of it: what could be left of the volume before may be left now.
module _ (files : List MemFile) (name : Name) (i : ℕ) (at : IsAt files name i) (file : MemFile) (read : file ≡ get_or files i file) (file' : MemFile) (named : file'.name ≡ file.name) where
  was_found : found files name ≡ Some file
  was_found = found_at files name i at ∙ ap (λ f. Some f) (file_is files name i at file read)

  is_found : found (set files i file') name ≡ Some file'
  is_found = found_new files (set files i file') name i at file' refl (named ∙ ap (λ f. f.name) (sym (file_is files name i at file read)))

  pub others_index : KeepsOthers name (files_may files) (files_may (set files i file'))
  others_index n differ c left =
      subst (λ o. may_of o c) (sym (found_others files (set files i file') name i at file' refl (named ∙ ap (λ f. f.name) (sym (file_is files name i at file read))) n differ)) left

  pub reaches_index : (step : File → File → Type 0) → Reaches step file file' → ReachesAll step name (files_may files) (files_may (set files i file'))
  reaches_index step reaches = record {
    crash = λ d c before does. subst (λ o. ∥ may_of o c ∥₁) (sym is_found) (reaches.crash d c (subst (λ o. may_of o d) was_found before) does);
    others = others_index;
  }

  pub keeps_all_index : ((c : File) → file_may file c → file_may file' c) → KeepsAll (files_may files) (files_may (set files i file'))
  keeps_all_index more n c left = elim (bool_cases (same_name n name)) [
    | inl here ↦
        let own = same_name_yes n name here in
        subst (λ m. files_may (set files i file') m c) (sym own) (subst (λ o. may_of o c) (sym is_found) (more c (subst (λ o. may_of o c) was_found (subst (λ m. files_may files m c) own left))))
    | inr other ↦ others_index n (λ same. let bad : true ≡ false = sym (same_name_refl name) ∙ ap (λ m. same_name m name) (sym same) ∙ other in cc) c left
  ]

-- An entry was added for a name that had none.
pub reaches_added : (files : List MemFile) (name : Name) (none : found files name ≡ None) (file : MemFile) (own : file.name ≡ name) (step : File → File → Type 0) (blank : MemFile)
    → contents blank.bytes ≡ None → Reaches step blank file → ReachesAll step name (files_may files) (files_may (files ++ file ∷ []))
reaches_added files name none file own step blank absent reaches = record {
  crash = λ d c before does.
      let is_none : d ≡ None = subst (λ o. may_of o d) none before in
      subst (λ o. ∥ may_of o c ∥₁) (sym (found_added files name none file own)) (reaches.crash d c (inl (is_none ∙ sym absent)) does);
  others = λ n differ c left. subst (λ o. may_of o c) (sym (found_push files file n (other_name file.name n (λ same. differ (sym same ∙ own))))) left;
}

-- a step of the search for the least log passes one more entry
pub passes : (files : List MemFile) (i : ℕ) (file : MemFile) (from : ℕ) (least least' : Option ℕ) → i < length files → file ≡ get_or files i file
    → ((k : ℕ) → is_below k least' ≡ true → is_below k least ≡ true)
    → ((k : ℕ) → from ≤ k → is_below k least' ≡ true → same_name file.name (Log k) ≡ true → files_now files (Log k) ≡ None)
    → ((k : ℕ) → from ≤ k → is_below k least ≡ true → (found (take i files) (Log k) ≡ None) ⊎ (files_now files (Log k) ≡ None))
    → (k : ℕ) → from ≤ k → is_below k least' ≡ true → (found (take (i + 1) files) (Log k) ≡ None) ⊎ (files_now files (Log k) ≡ None)
passes files i file from least least' inside read below own passed k since is =
    elim (bool_cases (same_name file.name (Log k))) [
      | inl here ↦ inr (own k since is here)
      | inr other ↦ ⊎_elim (λ none. inl (none_before files (Log k) i file inside read none other)) (λ absent. inr absent) (passed k since (below k is))
    ]

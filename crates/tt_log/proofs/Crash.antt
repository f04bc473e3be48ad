-- What a crash leaves of a log around a write to its last file.
use Rattle.std.proofs.Common.{◌≡◌, ◌≤◌, ◌<◌, ◌+◌, ◌-◌, ◌==◌, ℕ, List, [], refl, sym, ap, ◌∙◌, subst, Bool, true, false, arith, Some, Ok, if◌then◌else◌}
use Rattle.std.proofs.lemmas.Bool.{eq-eqb, eqb-true}
use Rattle.tt_disk.specs.declared.volume.Name.{Name}
use Rattle.tt_disk.specs.Volume.{Files, Outcomes, File}
use Rattle.tt_disk.specs.declared.volume.Name.TheVariants.{Ds, Log, SetImage, SetLog}
use Rattle.tt_gate.specs.Gate.{gated}
use Rattle.tt_gate.specs.GateFile.{with_batch}
use Rattle.tt_record.specs.declared.entry.Entry.{Entry}
use Rattle.tt_record.specs.Read.{entries_of}
use Rattle.tt_log.specs.Lengths.{total}
use Rattle.tt_log.specs.Walk.{LogContents, log_of, with_more, switched, no_switch, switches, log_header}
use Rattle.tt_log.specs.Limits.{file_most}
use Rattle.tt_log.specs.Log.{MayLeaveLogs, CrashLeavesLog}
use Rattle.tt_log.proofs.FileParts.{file_push, file_switch, file_same, file_made}
use Rattle.tt_log.proofs.Walks.{grown, switches_over, alike}

-- other files, but this log file as given
abbrev pub put_log : ℕ → File → Files → Files
put_log m c files (Ds k) = files (Ds k)
put_log m c files (Log k) = if k == m then c else files (Log k)
put_log m c files (SetImage k) = files (SetImage k)
put_log m c files (SetLog k) = files (SetLog k)

pub put_here : (m : ℕ) (c : File) (files : Files) → put_log m c files (Log m) ≡ c
put_here m c files = ap (λ (b : Bool). if b then c else files (Log m)) (eq-eqb m m refl)

put_test : (m j : ℕ) (c : File) (files : Files) (b : Bool) → (j == m) ≡ b → ¬ (j ≡ m) → (if b then c else files (Log j)) ≡ files (Log j)
put_test m j c files true test apart = absurd (apart (eqb-true j m test))
put_test m j c files false test apart = refl

pub put_apart : (m j : ℕ) (c : File) (files : Files) → ¬ (j ≡ m) → put_log m c files (Log j) ≡ files (Log j)
put_apart m j c files apart = put_test m j c files (j == m) refl apart

may_test : (m k : ℕ) (c : File) (files : Files) (may : Outcomes) (b : Bool) → (k == m) ≡ b → may (Log m) c → ((j : ℕ) → ¬ (Log j ≡ Log m) → may (Log j) (files (Log j))) → may (Log k) (if b then c else files (Log k))
may_test m k c files may true test here others = subst (λ (j : ℕ). may (Log j) c) (sym (eqb-true k m test)) here
may_test m k c files may false test here others = others k (λ same. let eq : k ≡ m = cc in let bad : true ≡ false = sym (eq-eqb k m eq) ∙ test in cc)

-- a map that differs from one that a crash could leave at one log file at most, with that file as it was
pub put_left : (m : ℕ) (c : File) (files : Files) (may : Outcomes) → may (Log m) c → ((j : ℕ) → ¬ (Log j ≡ Log m) → may (Log j) (files (Log j))) → MayLeaveLogs may (put_log m c files)
put_left m c files may here others k = may_test m k c files may (k == m) refl here others

-- the same map, where that file could be left too
pub all_left : (m : ℕ) (files : Files) (may : Outcomes) → may (Log m) (files (Log m)) → ((j : ℕ) → ¬ (Log j ≡ Log m) → may (Log j) (files (Log j))) → MayLeaveLogs may files
all_left m files may here others k = by_test (k == m) refl
  where
    by_test : (b : Bool) → (k == m) ≡ b → may (Log k) (files (Log k))
    by_test true test = subst (λ (j : ℕ). may (Log j) (files (Log j))) (sym (eqb-true k m test)) here
    by_test false test = others k (λ same. let eq : k ≡ m = cc in let bad : true ≡ false = sym (eq-eqb k m eq) ∙ test in cc)

-- one more batch in the last file
pub more_in : (first m : ℕ) (body : List ℕ) (fs : List Entry) (files others : Files) (found : LogContents) → log_of first files ≡ Ok found → found.end.file ≡ m → ((j : ℕ) → ¬ (j ≡ m) → others (Log j) ≡ files (Log j))
    → gated (others (Log m)) ≡ with_batch body (gated (files (Log m))) → entries_of body ≡ Some fs → no_switch fs ≡ true → found.end.offset + total fs ≤ file_most → log_of first others ≡ with_more fs (Ok found)
unfolding log_of
more_in first m body fs files others found is at same more entries plain room =
    grown (1000000 - first) first m files others found fs is at same (λ es long read. file_push m (files (Log m)) (others (Log m)) body es fs read more entries plain (omega (arith, long, room)))

pub same_in : (first m : ℕ) (files others : Files) (found : LogContents) → log_of first files ≡ Ok found → found.end.file ≡ m → ((j : ℕ) → j < m → others (Log j) ≡ files (Log j))
    → gated (others (Log m)) ≡ gated (files (Log m)) → log_of first others ≡ Ok found
unfolding log_of
same_in first m files others found is at same read =
    alike (1000000 - first) first m files others found is at same (λ es there. file_same m (files (Log m)) (others (Log m)) es read there)

pub switched_in : (first m : ℕ) (body : List ℕ) (fs : List Entry) (files others : Files) (found : LogContents) → log_of first files ≡ Ok found → found.end.file ≡ m → first + 1 ≤ 1000000 → m + 2 ≤ 1000000 → ((j : ℕ) → j < m → others (Log j) ≡ files (Log j))
    → gated (others (Log m)) ≡ with_batch body (gated (files (Log m))) → entries_of body ≡ Some fs → no_switch fs ≡ false → switches m fs ≡ true → gated (others (Log (m + 1))) ≡ Ok (log_header (m + 1), [])
    → log_of first others ≡ switched (Ok found)
unfolding log_of
switched_in first m body fs files others found is at low room same more entries plain switch next =
    switches_over (1000000 - first) first m files others found is at (omega (arith, low, room)) same
    (λ es read. file_switch m (files (Log m)) (others (Log m)) body es fs read more entries plain switch) (file_made (m + 1) (others (Log (m + 1))) next)

-- what is left around a batch of entries
pub record Around (first m base : ℕ) (old : Files) (may : Outcomes) : Type 1 where
  pub found : LogContents
  pub is : log_of first old ≡ Ok found
  pub at : found.end.file ≡ m
  pub offset : found.end.offset ≡ base
  pub reads : (n : Name) → may n (old n)
  pub kept : CrashLeavesLog first (log_of first old) may

-- the map with the last file as it was
pub was : (first m base : ℕ) (old files : Files) (may : Outcomes) (a : Around first m base old may) → ((j : ℕ) → ¬ (Log j ≡ Log m) → may (Log j) (files (Log j))) → log_of first (put_log m (old (Log m)) files) ≡ Ok a.found
was first m base old files may a others = a.kept (put_log m (old (Log m)) files) (put_left m (old (Log m)) files may (a.reads (Log m)) others) ∙ a.is

pub left_same : (first m base : ℕ) (old files : Files) (may : Outcomes) → Around first m base old may → ((j : ℕ) → ¬ (Log j ≡ Log m) → may (Log j) (files (Log j))) → gated (files (Log m)) ≡ gated (old (Log m))
    → log_of first files ≡ log_of first old
left_same first m base old files may a others same =
    same_in first m (put_log m (old (Log m)) files) files a.found (was first m base old files may a others) a.at
    (λ j below. sym (put_apart m j (old (Log m)) files (λ eq. omega (arith, below, eq)))) (same ∙ ap gated (sym (put_here m (old (Log m)) files))) ∙ sym a.is

pub left_more : (first m base : ℕ) (body : List ℕ) (fs : List Entry) (old files : Files) (may : Outcomes) → Around first m base old may → ((j : ℕ) → ¬ (Log j ≡ Log m) → may (Log j) (files (Log j))) → gated (files (Log m)) ≡ with_batch body (gated (old (Log m)))
    → entries_of body ≡ Some fs → no_switch fs ≡ true → base + total fs ≤ file_most → log_of first files ≡ with_more fs (log_of first old)
left_more first m base body fs old files may a others more entries plain room =
    more_in first m body fs (put_log m (old (Log m)) files) files a.found (was first m base old files may a others) a.at
    (λ j apart. sym (put_apart m j (old (Log m)) files apart)) (more ∙ ap (λ o. with_batch body (gated o)) (sym (put_here m (old (Log m)) files))) entries plain (omega (arith, room, a.offset))
    ∙ ap (with_more fs) (sym a.is)

pub left_switched : (first m base : ℕ) (body : List ℕ) (fs : List Entry) (old files : Files) (may : Outcomes) → Around first m base old may → ((j : ℕ) → ¬ (Log j ≡ Log m) → may (Log j) (files (Log j))) → gated (files (Log m)) ≡ with_batch body (gated (old (Log m)))
    → entries_of body ≡ Some fs → no_switch fs ≡ false → switches m fs ≡ true → first + 1 ≤ 1000000 → m + 2 ≤ 1000000 → gated (files (Log (m + 1))) ≡ Ok (log_header (m + 1), [])
    → log_of first files ≡ switched (log_of first old)
left_switched first m base body fs old files may a others more entries plain switch low room next =
    switched_in first m body fs (put_log m (old (Log m)) files) files a.found (was first m base old files may a others) a.at low room
    (λ j below. sym (put_apart m j (old (Log m)) files (λ eq. omega (arith, below, eq)))) (more ∙ ap (λ o. with_batch body (gated o)) (sym (put_here m (old (Log m)) files))) entries plain switch next
    ∙ ap switched (sym a.is)

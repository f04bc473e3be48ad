-- Which log files are there behind a call.
use Rattle.std.proofs.Common.{◌≡◌, ◌+◌, ◌≤◌, ℕ, Bool, true, false, nat_eq, Some, None, if◌then◌else◌, refl, sym, ap, ◌∙◌, arith}
use Rattle.std.specs.Prelude.{IsSome, is_some}
use Rattle.tt_disk.specs.Volume.{OnlyAt, Files, Outcomes, File}
use Rattle.tt_disk.specs.declared.volume.Name.TheVariants.{Log as LogFile}
use Rattle.tt_log.specs.declared.log.Log.{Log}
use Rattle.tt_log.specs.Log.{AddsFile, AddsNone, IsOpen, OnlyTwo}
use Rattle.tt_log.proofs.Standing.{file_there}
use Rattle.tt_log.proofs.Switching.{apart_next}

some_there : (o : File) → IsSome o → is_some o ≡ true
some_there (Some file) is = refl
some_there None is = absurd (let bad = is in cc)

-- the files from the first to the current one are there
pub open_there : (log : Log) (now : Files) (may : Outcomes) (k : ℕ) → IsOpen log now may → log.first_file ≤ k → k ≤ log.current_file → is_some (now (LogFile k)) ≡ true
open_there log now may k o low high = some_there (now (LogFile k)) (file_there log now k (o.whole, o.end) low high log.numbers)

-- where a file is there and the others are as they were, the file is all that was added
at_number : (b : Bool) (k n : ℕ) (old new : Files) → nat_eq k n ≡ b → is_some (new (LogFile n)) ≡ true → (¬ (k ≡ n) → is_some (new (LogFile k)) ≡ is_some (old (LogFile k))) → is_some (new (LogFile k)) ≡ (if b then true else is_some (old (LogFile k)))
at_number true k n old new is there others = ap (λ j. is_some (new (LogFile j))) (let same : k ≡ n = grind (arith, is) in same) ∙ there
at_number false k n old new is there others = others (λ same. absurd (grind (arith, is, same)))

pub none_added : (n : ℕ) (old : Files) → is_some (old (LogFile n)) ≡ true → AddsFile n old old
none_added n old there k = at_number (nat_eq k n) k n old old refl there (λ apart. refl)

pub kept_there : (n : ℕ) (old new : Files) (may may' : Outcomes) → OnlyAt (LogFile n) old new may may' → is_some (new (LogFile n)) ≡ true → AddsFile n old new
kept_there n old new may may' only there k =
    at_number (nat_eq k n) k n old new refl there (λ apart. ap is_some (only.reads (LogFile k) (apart_next (LogFile k) k n refl apart)))

pub same_there : (n : ℕ) (old new : Files) (may may' : Outcomes) → OnlyAt (LogFile n) old new may may' → is_some (old (LogFile n)) ≡ true → is_some (new (LogFile n)) ≡ true → AddsNone old new
same_there n old new may may' only was there k = kept_there n old new may may' only there k ∙ sym (none_added n old was k)

-- one of two files was there, and both are now
one_more : (b : Bool) (k n : ℕ) (old new : Files) (may may' : Outcomes) → nat_eq k n ≡ b → OnlyTwo (LogFile n) (LogFile (n + 1)) old new may may' → is_some (old (LogFile n)) ≡ true → is_some (new (LogFile n)) ≡ true → ¬ (k ≡ n + 1) → is_some (new (LogFile k)) ≡ is_some (old (LogFile k))
one_more true k n old new may may' is only was there apart =
    let same : k ≡ n = grind (arith, is) in
    ap (λ j. is_some (new (LogFile j))) same ∙ there ∙ sym was ∙ sym (ap (λ j. is_some (old (LogFile j))) same)
one_more false k n old new may may' is only was there apart =
    ap is_some (only.reads (LogFile k) (apart_next (LogFile k) k n refl (λ same. absurd (grind (arith, is, same)))) (apart_next (LogFile k) k (n + 1) refl apart))

pub next_added : (n : ℕ) (old new : Files) (may may' : Outcomes) → OnlyTwo (LogFile n) (LogFile (n + 1)) old new may may' → is_some (old (LogFile n)) ≡ true → is_some (new (LogFile n)) ≡ true → is_some (new (LogFile (n + 1))) ≡ true → AddsFile (n + 1) old new
next_added n old new may may' only was there next k =
    at_number (nat_eq k (n + 1)) k (n + 1) old new refl next (λ apart. one_more (nat_eq k n) k n old new may may' refl only was there apart)

-- Lengths of lists of entries, and numbers that are greater.
use Rattle.std.proofs.Common.{◌≡◌, ◌<◌, ◌+◌, ℕ, List, [], ◌∷◌, ◌++◌, nat_le, false, arith}
use Rattle.std.proofs.lemmas.Bool.Decides.{nat_tests}
use Rattle.tt_record.specs.declared.entry.Entry.{Entry}
use Rattle.tt_log.specs.Lengths.{total}

pub total_more : (es fs : List Entry) → total (es ++ fs) ≡ total es + total fs
total_more [] fs = omega arith
total_more (e ∷ es) fs = omega (arith, total_more es fs)

pub not_le : (a b : ℕ) → b < a → nat_le a b ≡ false
not_le a b below = grind (arith, nat_tests)

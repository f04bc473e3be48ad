-- Which words of places are full.
use Rattle.std.specs.Prelude.{◌≡◌, ◌<◌, ◌≤◌, ◌+◌, ◌*◌, ◌/◌, ◌%◌, ℕ, zero, suc, Bool, true, false, List, length, get_or, nat_eq, if◌then◌else◌, refl}
use Rattle.std.specs.Int.{bit_at}
use Rattle.std.specs.Ordering.{nat_cmp}
use Rattle.std.specs.Coded.{Coded, code_by, coded×, coded_ℕ}
use Rattle.std.specs.FinSet as set
use Rattle.tt_cells.specs.Bits.{ALL_BITS}
use Rattle.tt_cells.specs.Limits.{places_end}
use Rattle.tt_cells.specs.NumberSet.{Numbers, members}

-- every number of a word of 64 is a member; the word number 0 has the numbers 0 to 63
abbrev pub IsFullWord : set.FinSet nat_cmp → ℕ → Type 0
IsFullWord s at = (i : ℕ) → i < 64 → set.contains s (64 * at + i) ≡ true

-- a second set marks the full words of the first, and has room for a mark of each
pub record MarksFull (numbers full : Numbers) : Type 0 where
  pub marked : (at : ℕ) → set.contains full.members at ≡ true → IsFullWord numbers.members at
  pub all : (at : ℕ) → IsFullWord numbers.members at → set.contains full.members at ≡ true
  pub room : numbers.room ≤ 64 * full.room

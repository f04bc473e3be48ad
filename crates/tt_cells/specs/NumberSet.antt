-- A set of numbers, kept as the bits of words.
use Rattle.std.specs.Prelude.{◌≡◌, ◌<◌, ◌≤◌, ◌+◌, ◌*◌, ◌/◌, ◌%◌, ℕ, zero, suc, Bool, true, false, List, length, get_or, nat_eq, if◌then◌else◌, refl}
use Rattle.std.specs.Int.{bit_at}
use Rattle.std.specs.Ordering.{nat_cmp}
use Rattle.std.specs.Coded.{Coded, code_by, coded×, coded_ℕ}
use Rattle.std.specs.FinSet as set
use Rattle.tt_cells.specs.Bits.{ALL_BITS}
use Rattle.tt_cells.specs.Limits.{places_end}

-- the numbers below n that pass a test
unfoldable pub set_of : (ℕ → Bool) → ℕ → set.FinSet nat_cmp
set_of passes zero = set.empty
set_of passes (suc n) = if passes n then set.insert (set_of passes n) n else set_of passes n

-- whether the bit of a number is set
unfoldable pub bit_of : List ℕ → ℕ → Bool
bit_of words q = nat_eq (bit_at (get_or words (q / 64) 0) (q % 64)) 1

unfoldable pub members : List ℕ → set.FinSet nat_cmp
members words = set_of (bit_of words) (64 * length words)

-- the members, and the least number that there is no room for
pub record Numbers : Type 0 where
  pub members : set.FinSet nat_cmp
  pub room : ℕ

abbrev pub numbers_code : Coded Numbers
numbers_code =
    code_by (set.FinSet nat_cmp × ℕ) (coded× (set.code coded_ℕ) coded_ℕ) (λ s. (s.members, s.room)) (λ p. record { members = p.0; room = p.1 }) (λ _. refl)

-- the words before one have every bit set
abbrev pub FullUpTo : List ℕ → ℕ → Type 0
FullUpTo words full = (i : ℕ) → i < full → get_or words i 0 ≡ ALL_BITS

-- what is kept beside the words: how many members there are, and how many words have every bit set
pub record IsKept (words : List ℕ) (count full : ℕ) : Type 0 where
  pub counted : count ≡ set.len (members words)
  pub all_set : FullUpTo words full
  pub within : full ≤ length words
  pub small : 64 * length words ≤ places_end

-- the least member from a number on
pub record IsNext (s : set.FinSet nat_cmp) (from found : ℕ) : Type 0 where
  pub member : set.contains s found ≡ true
  pub onward : from ≤ found
  pub between : (q : ℕ) → from ≤ q → q < found → set.contains s q ≡ false

abbrev pub NoneFrom : set.FinSet nat_cmp → ℕ → Type 0
NoneFrom s from = (q : ℕ) → from ≤ q → set.contains s q ≡ false

-- every number below one is a member
abbrev pub HasAllBelow : set.FinSet nat_cmp → ℕ → Type 0
HasAllBelow s n = (q : ℕ) → q < n → set.contains s q ≡ true

-- the least number that is no member
pub record IsLeastAbsent (s : set.FinSet nat_cmp) (least : ℕ) : Type 0 where
  pub absent : set.contains s least ≡ false
  pub below : HasAllBelow s least

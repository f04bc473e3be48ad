-- What holds of the indexes behind each call, for those who use them.
use Rattle.std.specs.Prelude.{◌≡◌, ◌&&◌, ◌||◌, not, ℕ, Bool, true, false, [], nat_eq, is_some, if◌then◌else◌}
use Rattle.std.specs.List.{list_any}
use Rattle.std.specs.List.Sorted.{IsStrictlySortedBy}
use Rattle.std.specs.Map.{lookup, keys_of}
use Rattle.std.specs.BTreeMap.{is_at}
use Rattle.std.specs.BTreeMap.Range.{range_contains}
use Rattle.std.specs.Ordering.{nat_cmp, is_eq}
use Rattle.std.specs.declared.ops.Bound.{Bound}
use Rattle.tt_value.specs.Order.{row_cmp}
use Rattle.tt_value.specs.declared.value.Row.{Row}
use Rattle.tt_index.specs.Indexes.{Entries, Numbered, entries_of, places_at, places_between, places_in, has_pair, with_place, without_place, with_pair, without_pair, without_index, AreAmong}

-- A key of an index is the given one.
abbrev pub is_key : ℕ → Row → ℕ → Row → Bool
is_key index key number other = nat_eq index number && is_eq (row_cmp key other)

-- A pair of an index is the given one.
abbrev pub is_pair : ℕ → Row → ℕ → ℕ → Row → ℕ → Bool
is_pair index key place number other at = is_key index key number other && nat_eq place at

-- whether an index is there, so that it takes memory
abbrev pub is_there : ℕ → Numbered → Bool
is_there index indexes = is_some (lookup (is_at (nat_cmp index)) indexes)

-- Which pairs there are: a call adds or takes away those that it names, and no others.
pub record PairsAreSeen : Type 0 where
  pub none : (number : ℕ) (key : Row) (at : ℕ) → has_pair number key at [] ≡ false
  pub added : (index : ℕ) (key : Row) (place : ℕ) (indexes : Numbered) (number : ℕ) (other : Row) (at : ℕ)
      → has_pair number other at (with_pair index key place indexes)
      ≡ (is_pair index key place number other at || has_pair number other at indexes)
  pub dropped : (index : ℕ) (key : Row) (place : ℕ) (indexes : Numbered) (number : ℕ) (other : Row) (at : ℕ)
      → has_pair number other at (without_pair index key place indexes)
      ≡ (not (is_pair index key place number other at) && has_pair number other at indexes)
  pub index_dropped : (index : ℕ) (indexes : Numbered) (number : ℕ) (other : Row) (at : ℕ)
      → has_pair number other at (without_index index indexes)
      ≡ (not (nat_eq index number) && has_pair number other at indexes)

-- Which places a key has: those of one key change by a call on a pair, those of no other.
pub record PlacesAreSeen : Type 0 where
  pub added : (index : ℕ) (key : Row) (place : ℕ) (indexes : Numbered) (number : ℕ) (other : Row)
      → let places = places_in number other indexes in
      places_in number other (with_pair index key place indexes)
      ≡ (if is_key index key number other then with_place place places else places)
  pub dropped : (index : ℕ) (key : Row) (place : ℕ) (indexes : Numbered) (number : ℕ) (other : Row)
      → let places = places_in number other indexes in
      places_in number other (without_pair index key place indexes)
      ≡ (if is_key index key number other then without_place place places else places)

-- Which indexes there are: one that never had a pair, was dropped or has lost its last pair is empty and isn't there.
pub record IndexesAreSeen : Type 0 where
  pub none : (number : ℕ) → is_there number [] ≡ false
  pub empty : (number : ℕ) (indexes : Numbered) → is_there number indexes ≡ false → entries_of number indexes ≡ []
  pub dropped : (index : ℕ) (indexes : Numbered) → is_there index (without_index index indexes) ≡ false
  pub others : (index : ℕ) (indexes : Numbered) (number : ℕ)
      → entries_of number (without_index index indexes) ≡ (if nat_eq index number then [] else entries_of number indexes)
  pub emptied : (index : ℕ) (key : Row) (place : ℕ) (indexes : Numbered)
      → let left = without_pair index key place indexes in
      entries_of index left ≡ [] → is_there index left ≡ false

-- Indexes that aren't in use are empty, and stay so: pairs are added to those in use alone, and a dropped one is in use no more.
pub record UnusedStayEmpty : Type 0 where
  pub none : (used : ℕ → Bool) → AreAmong used []
  pub added : (used : ℕ → Bool) (index : ℕ) (key : Row) (place : ℕ) (indexes : Numbered) → used index ≡ true → AreAmong used indexes
      → AreAmong used (with_pair index key place indexes)
  pub dropped : (used : ℕ → Bool) (index : ℕ) (key : Row) (place : ℕ) (indexes : Numbered) → AreAmong used indexes
      → AreAmong used (without_pair index key place indexes)
  pub index_dropped : (used : ℕ → Bool) (index : ℕ) (indexes : Numbered) → AreAmong used indexes
      → AreAmong (λ number. used number && not (nat_eq index number)) (without_index index indexes)
  pub more_used : (used more : ℕ → Bool) (indexes : Numbered) → ((number : ℕ) → more number ≡ false → used number ≡ false)
      → AreAmong used indexes → AreAmong more indexes

-- Which places a range gives: those of the pairs whose keys are between its bounds, and no others.
pub record RangesAreSeen : Type 0 where
  pub all : (low high : Bound Row) (entries : Entries) (key : Row) (place : ℕ) → range_contains row_cmp low high key ≡ true
      → list_any (nat_eq place) (places_at key entries) ≡ true → list_any (nat_eq place) (places_between low high entries) ≡ true
  pub only : (low high : Bound Row) (entries : Entries) (place : ℕ) → IsStrictlySortedBy row_cmp (keys_of entries)
      → list_any (nat_eq place) (places_between low high entries) ≡ true
      → (key : Row) × (range_contains row_cmp low high key ≡ true) × (list_any (nat_eq place) (places_at key entries) ≡ true)

-- Keys that are equal in the order are equal.
abbrev pub KeysAreTold : Type 0
KeysAreTold = (key other : Row) → is_eq (row_cmp key other) ≡ true → key ≡ other

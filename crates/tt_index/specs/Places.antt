-- The keys that are left.
use Rattle.std.specs.Prelude.{◌≡◌, ◌<◌, ◌++◌, ℕ, List, [], length}
use Rattle.tt_index.specs.declared.places.Rest.{Rest}
use Rattle.tt_index.specs.declared.places.Rest.TheVariants.{Nothing, OfNumbers, OfRows}
use Rattle.tt_index.specs.PlaceSet.{places_of}
use Rattle.tt_index.specs.Numbers.{as_rows}

abbrev pub rest_places : Rest → List ℕ
rest_places Nothing = []
rest_places (OfNumbers entries) = places_of (as_rows entries)
rest_places (OfRows entries) = places_of entries

abbrev pub key_count : Rest → ℕ
key_count Nothing = 0
key_count (OfNumbers entries) = length entries
key_count (OfRows entries) = length entries

-- no key was left
abbrev pub HasEnded : Rest → Rest → Type 0
HasEnded old new = (rest_places old ≡ []) × (rest_places new ≡ [])

-- the places of the next key were taken
abbrev pub TakesKey : Rest → List ℕ → Rest → Type 0
TakesKey old places new = (rest_places old ≡ places ++ rest_places new) × (key_count new < key_count old)

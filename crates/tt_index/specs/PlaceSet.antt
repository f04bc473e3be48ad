-- How the places of a key are kept.
use Rattle.std.specs.Prelude.{ℕ, List, [], ◌∷◌, Option, Some, None}
use Rattle.std.specs.List.{flat_map}
use Rattle.tt_value.specs.declared.value.Row.{Row}
use Rattle.tt_index.specs.declared.place_set.Kept.{Kept}
use Rattle.tt_index.specs.declared.place_set.Kept.TheVariants.{One, Many}
use Rattle.tt_index.specs.Indexes.{Entries}
use Rattle.tt_index.specs.declared.place_set.Left.{Left}
use Rattle.tt_index.specs.declared.place_set.Left.TheVariants.{Single, Several}

abbrev pub kept_places : Kept → List ℕ
kept_places (One place) = place ∷ []
kept_places (Many places) = places.value.keys

abbrev pub places_of : Entries → List ℕ
places_of entries = flat_map (λ (e : Row × List ℕ). e.1) entries

abbrev pub option_places : Option ℕ → List ℕ
option_places None = []
option_places (Some place) = place ∷ []

abbrev pub left_places : Left → List ℕ
left_places (Single place) = option_places place
left_places (Several places) = places

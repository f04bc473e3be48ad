-- Whether entries get their places, one behind the other.
use Rattle.std.specs.Prelude.{ℕ, List, [], ◌∷◌, Bool, true, false, Option, Some, None}
use Rattle.tt_value.specs.declared.position.Position.{Position}
use Rattle.tt_record.specs.Place.{end_of, position_of}

abbrev pub placed_then : Option Position → (Position → Bool) → Bool
placed_then None more = false
placed_then (Some at) more = more at

-- entries of these lengths all get a place behind an end, each behind the one before
abbrev pub all_placed : Position → ℕ → List ℕ → Bool
all_placed end size [] = true
all_placed end size (n ∷ ns) = placed_then (position_of end n size) (λ at. all_placed (end_of at n) size ns)

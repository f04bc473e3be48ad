-- How much of the trail is forced.
use Rattle.std.specs.Prelude.{ℕ, ◌+◌, Bool, ◌||◌, nat_lt, length, sum_by, if◌then◌else◌}
use Rattle.tt_value.specs.declared.position.Position.{Position}
use Rattle.tt_record.specs.Place.{next_position}
use Rattle.tt_model.specs.Trail.{Trail, placed_length, newest}

-- Whether an entry of this length begins a new file behind an end.
abbrev pub begins_file : Position → ℕ → ℕ → Bool
begins_file end n file_size = nat_lt end.file ((next_position end n file_size).file)

-- The lengths of the entries after the first n together.
abbrev pub unforced_length : ℕ → Trail → ℕ
unforced_length forced trail = sum_by placed_length (newest forced trail)

-- Whether an entry of a length forces the earlier ones: where it begins a new file, or where it would pass the buffer's size
-- together with the unforced ones.
abbrev pub forces_earlier : ℕ → ℕ → Position → ℕ → ℕ → Bool
forces_earlier file_size buffer_size end unforced n = begins_file end n file_size || nat_lt buffer_size (unforced + n)

-- How many entries are forced once one of length n is appended to a trail that ends there: all earlier ones, where it forces
-- them.
unfoldable pub forced_for : ℕ → ℕ → Position → ℕ → Trail → ℕ → ℕ
forced_for file_size buffer_size end n trail forced =
    if forces_earlier file_size buffer_size end (unforced_length forced trail) n then length trail else forced

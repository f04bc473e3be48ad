-- Where entries stand.
use Rattle.std.specs.Prelude.{ℕ, ◌+◌, nat_le, nat_lt, if◌then◌else◌, Option, Some, None}
use Rattle.tt_value.specs.declared.position.Position.{Position}
use Rattle.tt_record.specs.Limits.{log_files_end}

abbrev pub position : ℕ → ℕ → Position
position file offset = record { file = file; offset = offset }

-- the end of an entry of this length
abbrev pub end_of : Position → ℕ → Position
end_of at length = position at.file (at.offset + length)

-- behind the end where the entry fits into the file, else at the head of the next file
abbrev pub next_position : Position → ℕ → ℕ → Position
next_position end length size = if nat_le (end.offset + length) size then end else position (end.file + 1) 0

-- the place of an entry of this length behind an end, if a file's number is left
abbrev pub position_of : Position → ℕ → ℕ → Option Position
position_of end length size = let at = next_position end length size in if nat_lt at.file log_files_end then Some at else None

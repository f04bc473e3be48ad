-- The lines of a script.
use Rattle.std.specs.Prelude.{ℕ, ◌^◌, ◌==◌, nat_le, if◌then◌else◌, List, [], ◌∷◌, length, map, Option, Some, None}
use Rattle.std.specs.List.{list_any}
use Rattle.std.specs.Str.Lines.{lines}
use Rattle.tt_flow.specs.LineBuf.{line_most}

-- a line, or None where it is too long
abbrev pub measured : List ℕ → Option (List ℕ)
measured line = if nat_le (length line) line_most then Some line else None

-- The lines of a script. A line ends with a line feed or the end of the script, and one carriage return before its line
-- feed is dropped. Nothing behind the last line feed is no line.
abbrev pub script_lines : List ℕ → List (Option (List ℕ))
script_lines script = map measured (lines script)

-- the bytes up to the last line feed, it included
abbrev pub ended_part : List ℕ → List ℕ
ended_part [] = []
ended_part (byte ∷ bytes) = if list_any (λ b. b == 10) (byte ∷ bytes) then byte ∷ ended_part bytes else []

-- the lines whose line feed is among these bytes
abbrev pub ended_lines : List ℕ → List (Option (List ℕ))
ended_lines bytes = script_lines (ended_part bytes)

-- how many bytes of a script are taken: a longer one is too long
abbrev pub script_most : ℕ
script_most = 2 ^ 30

-- how many bytes a reader of lines has room for
abbrev pub buffer_size : ℕ
buffer_size = 8192

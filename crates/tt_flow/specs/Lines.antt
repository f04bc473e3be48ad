-- How a reader of lines and its source stand between two calls.
use Rattle.std.specs.Prelude.{◌≡◌, ◌≢◌, ◌⊎◌, ◌≤◌, ◌+◌, ◌-◌, ◌==◌, ◌<◌, ℕ, true, false, if◌then◌else◌, List, [], ◌∷◌, ◌++◌, length, take, drop, Option, Some, None, Result, Ok, Err}
use Rattle.std.specs.List.{list_any}
use Rattle.tt_flow.specs.LineBuf.{line_most}
use Rattle.tt_flow.specs.Script.{script_lines, ended_lines, script_most}
use Rattle.tt_flow.specs.declared.lines.LineReader.{LineReader}
use Rattle.tt_disk.specs.declared.volume.Failed.{Failed}
use Rattle.tt_flow.specs.declared.lines.Input.TheVariants.{Ended, Over}
use Rattle.tt_flow.specs.declared.lines.LineRead.{LineRead}
use Rattle.tt_flow.specs.declared.lines.LineRead.TheVariants.{Line, TooLong, End, ScriptTooLong}

-- no line feed is among these bytes
abbrev pub HasNoFeed : List ℕ → Type 0
HasNoFeed bytes = list_any (λ b. b == 10) bytes ≡ false

-- the bytes that were taken and kept
abbrev pub kept_bytes : LineReader → List ℕ
kept_bytes reader = take (reader.end - reader.start) (drop reader.start reader.buffer)

-- The reader has taken these bytes and given no line of them. Of a line that is too long it drops bytes.
pub record HoldsBytes (bytes : List ℕ) (reader : LineReader) : Type 0 where
  pub dropped : List ℕ
  pub whole : bytes ≡ dropped ++ kept_bytes reader
  pub one_line : HasNoFeed dropped
  pub long : reader.skipping ≡ true → line_most + 2 ≤ length dropped
  pub none : reader.skipping ≡ false → dropped ≡ []

-- Of this script the reader has given these lines, and the source has these bytes left.
pub record HasGiven (script : List ℕ) (lines : List (Option (List ℕ))) (reader : LineReader) (left : List ℕ) : Type 0 where
  pub front : List ℕ
  pub tail : List ℕ
  pub whole : script ≡ front ++ (tail ++ left)
  pub count : reader.taken ≡ length front + length tail
  pub given : script_lines front ≡ lines
  pub cut : (front ≡ []) ⊎ (((body : List ℕ) × (front ≡ body ++ 10 ∷ [])) ⊎ ((reader.input ≡ Ended) × (tail ≡ [])))
  pub holds : HoldsBytes tail reader
  pub ended : reader.input ≡ Ended → left ≡ []
  pub not_over : reader.input ≢ Over

-- Of this script the reader has given these lines, and its source tells what it has left.
abbrev pub HasGivenTold : List ℕ → List (Option (List ℕ)) → LineReader → Option (List ℕ) → Type 0
HasGivenTold script lines reader left = (rest : List ℕ) × (left ≡ Some rest) × HasGiven script lines reader rest

-- What an answer says of a script of which these lines were given before: the next line, that there is none, that the script is
-- too long, or that the source failed. At the last two each line whose line feed was taken was given.
abbrev pub Reads : List ℕ → List (Option (List ℕ)) → Result LineRead Failed → List ℕ → LineReader → Option (List ℕ) → Type 0
Reads script given (Ok Line) line reader left = HasGivenTold script (given ++ Some line ∷ []) reader left
Reads script given (Ok TooLong) line reader left = HasGivenTold script (given ++ None ∷ []) reader left
Reads script given (Ok End) line reader left = (length script ≤ script_most) × (script_lines script ≡ given)
Reads script given (Ok ScriptTooLong) line reader left = (script_most < length script) × (ended_lines (take script_most script) ≡ given)
Reads script given (Err failed) line reader left = (rest : List ℕ) × (left ≡ Some rest) × HasGiven script given reader rest × (ended_lines (take (length script - length rest) script) ≡ given)

-- a bound on the bytes that are still to come, which each line lowers
abbrev pub bytes_to_come : LineReader → ℕ
bytes_to_come reader = (script_most - reader.taken) + (reader.end - reader.start) + (if reader.skipping then 1 else 0)

-- more bytes came than a script has
abbrev pub IsOver : LineReader → Type 0
IsOver reader = reader.input ≡ Over

-- the answer is a line, maybe one that is too long
abbrev pub IsLine : Result LineRead Failed → Type 0
IsLine (Ok Line) = Unit {0}
IsLine (Ok TooLong) = Unit {0}
IsLine _ = ⊥

-- a whole line is left among the bytes that were taken
abbrev pub HoldsLine : LineReader → Type 0
HoldsLine reader = list_any (λ b. b == 10) (kept_bytes reader) ≡ true

-- Whatever lines were given of a script, the answer goes on from them.
abbrev pub ReadsOn : LineReader → Option (List ℕ) → Result LineRead Failed → List ℕ → LineReader → Option (List ℕ) → Type 0
ReadsOn old before result line new after =
    (script left : List ℕ) (given : List (Option (List ℕ))) → before ≡ Some left → HasGiven script given old left
    → Reads script given result line new after

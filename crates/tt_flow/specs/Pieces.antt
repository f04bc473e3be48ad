-- What the steps of a reader of lines do.
use Rattle.std.specs.Prelude.{◌≡◌, ◌<◌, ◌+◌, ◌++◌, ℕ, List, [], ◌∷◌, length, take, drop, Option, Some, None, Result, Ok, Err}
use Rattle.std.specs.Io.KnownBytes.{Consumes}
use Rattle.tt_flow.specs.declared.lines.LineReader.{LineReader}
use Rattle.tt_disk.specs.declared.volume.Failed.{Failed}
use Rattle.tt_flow.specs.declared.lines.Input.TheVariants.{Ended, Over}
use Rattle.tt_flow.specs.declared.lines.LineRead.{LineRead}
use Rattle.tt_flow.specs.declared.lines.LineRead.TheVariants.{ScriptTooLong}
use Rattle.tt_flow.specs.declared.lines.Filled.{Filled}
use Rattle.tt_flow.specs.declared.lines.Filled.TheVariants.{More, NoMore, TooMany}
use Rattle.tt_flow.specs.Lines.{HasGiven, HasGivenTold, Reads, IsLine, HasNoFeed, kept_bytes}

-- the first line feed of these bytes stands here
pub record IsFirstFeed (bytes : List ℕ) (at : ℕ) : Type 0 where
  pub within : at < length bytes
  pub whole : bytes ≡ take at bytes ++ 10 ∷ drop (at + 1) bytes
  pub before : HasNoFeed (take at bytes)

-- apart from its buffer the reader is as before
pub record ChangesOnlyBuffer (old new : LineReader) : Type 0 where
  pub taken : new.taken ≡ old.taken
  pub skipping : new.skipping ≡ old.skipping
  pub input : new.input ≡ old.input

-- what the reader has given of a script it has given after this step too
abbrev pub KeepsGiven : LineReader → LineReader → Type 0
KeepsGiven old new = (script left : List ℕ) (given : List (Option (List ℕ))) → HasGiven script given old left → HasGiven script given new left

-- what this answer of a reader that takes nothing says of a script
abbrev pub GivesLine : LineReader → LineRead → List ℕ → LineReader → Type 0
GivesLine old answer line new = (script left : List ℕ) (given : List (Option (List ℕ))) → HasGiven script given old left → Reads script given (Ok answer) line new (Some left)

-- what an answer says of a script, where there may be none yet
abbrev pub ReadsPiece : List ℕ → List (Option (List ℕ)) → Result (Option LineRead) Failed → List ℕ → LineReader → Option (List ℕ) → Type 0
ReadsPiece script given (Ok (Some answer)) line reader left = Reads script given (Ok answer) line reader left
ReadsPiece script given (Ok None) line reader left = HasGivenTold script given reader left
ReadsPiece script given (Err failed) line reader left = Reads script given (Err failed) line reader left

-- the answer is there, and is a line
abbrev pub IsPieceLine : Result (Option LineRead) Failed → Type 0
IsPieceLine (Ok (Some answer)) = IsLine (Ok answer)
IsPieceLine _ = ⊥

-- what a take from the source says of a script
abbrev pub Fills : List ℕ → List (Option (List ℕ)) → Result Filled Failed → LineReader → Option (List ℕ) → Type 0
Fills script given (Ok More) reader left = HasGivenTold script given reader left
Fills script given (Ok NoMore) reader left = HasGivenTold script given reader left
Fills script given (Ok TooMany) reader left = Reads script given (Ok ScriptTooLong) [] reader left
Fills script given (Err failed) reader left = Reads script given (Err failed) [] reader left

-- the reader has these bytes after those that it kept
pub record Took (bytes : List ℕ) (old new : LineReader) : Type 0 where
  pub kept : kept_bytes new ≡ kept_bytes old ++ bytes
  pub taken : new.taken ≡ old.taken + length bytes
  pub skipping : new.skipping ≡ old.skipping

-- a take that gives no byte found the end of input, unless it failed
abbrev pub Takes : List ℕ → Result Filled Failed → LineReader → LineReader → Type 0
Takes bytes (Ok More) old new = Took bytes old new × (0 < length bytes) × (new.input ≡ old.input)
Takes bytes (Ok NoMore) old new = Took bytes old new × (bytes ≡ []) × (new.input ≡ Ended)
Takes bytes (Ok TooMany) old new = ⊥
Takes bytes (Err failed) old new = Took bytes old new × (bytes ≡ []) × (new.input ≡ old.input)

-- a take past the most bytes of a script changes no more than what is known of the input
abbrev pub TakesPast : List ℕ → Result Filled Failed → LineReader → LineReader → Type 0
TakesPast bytes (Ok More) old new = ⊥
TakesPast bytes (Ok NoMore) old new = Took [] old new × (bytes ≡ []) × (new.input ≡ Ended)
TakesPast bytes (Ok TooMany) old new = Took [] old new × (0 < length bytes) × (new.input ≡ Over)
TakesPast bytes (Err failed) old new = Took [] old new × (bytes ≡ []) × (new.input ≡ old.input)

-- The reader took bytes, and the source has just these no longer left.
abbrev pub TakesOn : LineReader → Option (List ℕ) → Result Filled Failed → LineReader → Option (List ℕ) → Type 0
TakesOn old before result new after = (bytes : List ℕ) × Takes bytes result old new × Consumes before after bytes

-- The reader took bytes past the most of a script, and the source has just these no longer left.
abbrev pub TakesPastOn : LineReader → Option (List ℕ) → Result Filled Failed → LineReader → Option (List ℕ) → Type 0
TakesPastOn old before result new after = (bytes : List ℕ) × TakesPast bytes result old new × Consumes before after bytes

-- Whatever lines were given of a script, a line more is given, or the reader has more bytes of it.
abbrev pub ReadsPieceOn : LineReader → Option (List ℕ) → Result (Option LineRead) Failed → List ℕ → LineReader → Option (List ℕ) → Type 0
ReadsPieceOn old before result line new after =
    (script left : List ℕ) (given : List (Option (List ℕ))) → before ≡ Some left → HasGiven script given old left
    → ReadsPiece script given result line new after

-- Whatever lines were given of a script, the reader has more bytes of it, or its end.
abbrev pub FillsOn : LineReader → Option (List ℕ) → Result Filled Failed → LineReader → Option (List ℕ) → Type 0
FillsOn old before result new after =
    (script left : List ℕ) (given : List (Option (List ℕ))) → before ≡ Some left → HasGiven script given old left
    → Fills script given result new after

-- The source has ended, and the reader has the bytes that it had.
abbrev pub HasNoMore : LineReader → LineReader → Type 0
HasNoMore old new = (new.input ≡ Ended) × (kept_bytes new ≡ kept_bytes old)

-- How a line that was read is handed out.
use Rattle.std.specs.Prelude.{◌≡◌, ℕ, Bool, if◌then◌else◌, List, Option, Some, None}
use Rattle.tt_flow.specs.Script.{measured}
use Rattle.tt_flow.specs.declared.lines.LineRead.{LineRead}
use Rattle.tt_flow.specs.declared.lines.LineRead.TheVariants.{Line, TooLong, End, ScriptTooLong}

-- a line of which bytes may have been dropped, since it is too long
abbrev pub told_line : Bool → List ℕ → Option (List ℕ)
told_line skipping body = if skipping then None else measured body

-- the answer and the line that was put say what the line is
abbrev pub PutsLine : List ℕ → Bool → LineRead → List ℕ → Type 0
PutsLine body skipping Line line = told_line skipping body ≡ Some line
PutsLine body skipping TooLong line = told_line skipping body ≡ None
PutsLine body skipping End line = ⊥
PutsLine body skipping ScriptTooLong line = ⊥

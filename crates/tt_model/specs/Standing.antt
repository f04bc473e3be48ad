-- What a log stands for, and what an image with the log behind it stands for.
use Rattle.std.specs.Prelude.{ℕ, zero, suc, ◌+◌, Bool, false, not, ◌&&◌, nat_eq, List, [], ◌∷◌, unwrap_or, Option, Some, None, if◌then◌else◌}
use Rattle.std.specs.Option.{option_or}
use Rattle.std.specs.List.{list_any}
use Rattle.tt_value.specs.declared.value.Cell.{Cell}
use Rattle.tt_value.specs.declared.position.Position.{Position}
use Rattle.tt_record.specs.Entry.{length_of}
use Rattle.tt_record.specs.Place.{position}
use Rattle.tt_record.specs.declared.entry.Entry.{Entry}
use Rattle.tt_record.specs.declared.entry.Entry.TheVariants.{Change, Commit, Abort, Switch}
use Rattle.tt_model.specs.Trail.{Trail}
use Rattle.tt_model.specs.Committed.{Cells}
use Rattle.tt_record.specs.Limits.{log_files_end}

-- A file's entries laid behind a trail, from an offset of that file on; Switch counts for nothing.
abbrev pub laid_one : ℕ → Entry → Trail × ℕ → Trail × ℕ
laid_one file (Switch next) (before, offset) = (before, offset)
laid_one file e (before, offset) = (record { at = position file offset; entry = e } ∷ before, offset + length_of e)

abbrev pub laid : ℕ → List Entry → Trail × ℕ → Trail × ℕ
laid file [] so_far = so_far
laid file (e ∷ es) so_far = laid file es (laid_one file e so_far)

-- The file that the last entry names, where it is a Switch.
abbrev pub named_next : List Entry → Option ℕ
named_next [] = None
named_next (Switch file ∷ []) = Some file
named_next (e ∷ es) = named_next es

-- What the files from one on stand for, through each Switch: the trail and its end. What a file's open batches are is given
-- by a function of its number; it is none where the file is absent, has a wrong header or a batch off the grammar. No log has
-- more than a million files.
abbrev pub walked : ℕ → (ℕ → Option (List Entry)) → ℕ → Trail → Option (Trail × Position)
walked zero entries_in file before = None
walked (suc more) entries_in file before =
    elim (entries_in file) [
      | None ↦ None
      | Some es ↦ elim (named_next es) [
        | None ↦ Some ((laid file es (before, 0)).0, position file ((laid file es (before, 0)).1))
        | Some next ↦ walked more entries_in next ((laid file es (before, 0)).0)
      ]
    ]

unfoldable pub log_of : (ℕ → Option (List Entry)) → ℕ → Option (Trail × Position)
log_of entries_in file = walked log_files_end entries_in file []

-- A transaction is ended among entries where they have a Commit or an Abort of it.
abbrev pub is_end_of : ℕ → Entry → Bool
is_end_of t (Commit u) = nat_eq t u
is_end_of t (Abort u) = nat_eq t u
is_end_of t _ = false

abbrev pub is_ended : ℕ → Trail → Bool
is_ended t entries = list_any (λ e. is_end_of t e.entry) entries

-- The row after of an ended transaction's Change at a place; the row before of an unended one's.
abbrev pub after_ended : (ℕ → Bool) → ℕ → Entry → Option Cell
after_ended ended place (Change t q before after) = if nat_eq place q && ended t then Some after else None
after_ended ended place _ = None

abbrev pub before_unended : (ℕ → Bool) → ℕ → Entry → Option Cell
before_unended ended place (Change t q before after) = if nat_eq place q && not (ended t) then Some before else None
before_unended ended place _ = None

-- The last such after, the first such before.
abbrev pub last_after : (ℕ → Bool) → ℕ → Trail → Option Cell
last_after ended place [] = None
last_after ended place (e ∷ older) = option_or (after_ended ended place e.entry) (last_after ended place older)

abbrev pub first_before : (ℕ → Bool) → ℕ → Trail → Option Cell
first_before ended place [] = None
first_before ended place (e ∷ older) = option_or (first_before ended place older) (before_unended ended place e.entry)

abbrev pub standing_at : (ℕ → Bool) → Cell → Trail → ℕ → Cell
standing_at ended cell entries place = unwrap_or (last_after ended place entries) (unwrap_or (first_before ended place entries) cell)

-- The cell at each place, of an image and the entries from its scan position on.
unfoldable pub standing : Cells → Trail → Cells
standing image entries place = standing_at (λ t. is_ended t entries) (image place) entries place

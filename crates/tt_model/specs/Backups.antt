-- What a ttBackup line means.
use Rattle.std.specs.Prelude.{ℕ, Bool, true, false, not, ◌&&◌, ◌||◌, nat_eq, nat_le, [], ◌∷◌, length, is_some, is_none, Option, Some, None, if◌then◌else◌}
use Rattle.tt_value.specs.declared.position.Position.{Position}
use Rattle.tt_value.specs.declared.refusal.Refusal.{Refusal}
use Rattle.tt_value.specs.declared.refusal.Refusal.TheVariants.{SetThere, NoSet, NotIncremental, TooMany}
use Rattle.tt_parse.specs.declared.command.BackupKind.{BackupKind}
use Rattle.tt_parse.specs.declared.command.BackupKind.TheVariants.{Full, FullEnable, Incremental, IncrOrFull, Stop}
use Rattle.tt_model.specs.Trail.{position_lt}
use Rattle.tt_model.specs.Committed.{current}
use Rattle.tt_model.specs.Opened.{Head}
use Rattle.tt_model.specs.Sets.{BackupSet, SetStanding, Readable, Unreadable, set_end, full_set, extended}
use Rattle.tt_model.specs.Tables.{PlacedRow, set_row, position_at}
use Rattle.tt_model.specs.State.{State, at_one, trail, cells_of, bound, newest_number, next, low_now, write_position, force_position}
use Rattle.tt_model.specs.declared.definition.CellEdit.{CellEdit}
use Rattle.tt_model.specs.Meaning.{refused_if, first_of, no_room}
use Rattle.tt_model.specs.System.{in_transaction, system_rows, adds, rewrites, number}

abbrev pub row_of_set : ℕ → State → Option PlacedRow
row_of_set set s = set_row set (bound s) (cells_of s)

-- What a ttBackup line does to its set: it makes it anew, with a row where incremental ones are to follow; it continues it; or it ends
-- that incremental ones follow.
pub data SetWork : Type 0 where
  MakesSet : Bool → SetWork
  ContinuesSet : SetWork
  EndsSet : SetWork

-- fileIncrOrFull is fileIncremental where the set has a row and its image is whole, else fileFullEnable.
abbrev pub set_work : BackupKind → ℕ → State → SetWork
set_work Full set s = MakesSet false
set_work FullEnable set s = MakesSet true
set_work Incremental set s = ContinuesSet
set_work IncrOrFull set s = if is_some (row_of_set set s) && is_some (s.sets set) then ContinuesSet else MakesSet true
set_work Stop set s = EndsSet

-- The set ends before the position that its row has: an older copy of it stands there.
abbrev pub ends_before_row : PlacedRow → BackupSet → Bool
ends_before_row r b = position_lt (set_end b) (position_at 1 r)

-- The set ends past what is forced here: it has entries that this log may not have.
abbrev pub ends_past_forced : BackupSet → State → Bool
ends_past_forced b s = position_lt (force_position s) (set_end b)

abbrev pub is_of_another_database : BackupSet → State → Bool
is_of_another_database b s = not (nat_eq b.head.database s.database)

-- A set can't be continued that has no row, or that isn't the one that the row tells of.
abbrev pub can't_continue : Option PlacedRow → BackupSet → State → Bool
can't_continue None b s = true
can't_continue (Some r) b s = ends_before_row r b || ends_past_forced b s || is_of_another_database b s

abbrev pub is_not_incremental : Option PlacedRow → Option SetStanding → State → Bool
is_not_incremental row None s = false
is_not_incremental row (Some Unreadable) s = true
is_not_incremental row (Some (Readable b)) s = can't_continue row b s

abbrev pub first_row_refusal : ℕ → State → Option Refusal
first_row_refusal set s =
    if is_some (row_of_set set s) then None else first_of (refused_if (nat_le 64 (length (system_rows 6 s))) (TooMany 64) ∷ no_room 1 s ∷ [])

-- The first refusal, but for the log numbers.
unfoldable pub backup_refusal : ℕ → State → ℕ → SetWork → Option Refusal
backup_refusal session s set (MakesSet false) = first_of (in_transaction session s ∷ refused_if (is_some (s.sets set)) SetThere ∷ [])
backup_refusal session s set (MakesSet true) = first_of (in_transaction session s ∷ refused_if (is_some (s.sets set)) SetThere ∷ first_row_refusal set s ∷ [])
backup_refusal session s set ContinuesSet = first_of (in_transaction session s ∷ refused_if (is_none (s.sets set)) NoSet ∷ refused_if (is_not_incremental (row_of_set set s) (s.sets set) s) NotIncremental ∷ [])
backup_refusal session s set EndsSet = first_of (in_transaction session s ∷ refused_if (is_none (row_of_set set s)) NotIncremental ∷ [])

-- The SETS row with a new end.
abbrev pub set_edit : Option PlacedRow → ℕ → Position → CellEdit
set_edit None set end = adds 6 (number set ∷ number end.file ∷ number end.offset ∷ [])
set_edit (Some r) set end = rewrites 6 r (number set ∷ number end.file ∷ number end.offset ∷ [])

-- The header of a full backup's image: the number of the newest checkpoint, the write position, the pages, the next
-- transaction and the database.
abbrev pub backup_head : State → Head
backup_head s = record { number = newest_number s; scan = write_position s; pages = s.pages; next = next s; database = s.database }

-- A full backup's image has the cells as they are held, with the live Changes; its batch begins at the Low of the write position.
abbrev pub full_now : State → BackupSet
full_now s = full_set (backup_head s) (current s.found.cells s.entries) (low_now s) (write_position s) (trail s)

-- An incremental backup adds to the set.
abbrev pub extended_now : Option SetStanding → State → Option SetStanding
extended_now (Some (Readable b)) s = Some (Readable (extended b (write_position s) (trail s)))
extended_now other s = other

abbrev pub with_set : ℕ → Option SetStanding → State → State
with_set set standing s = record s { sets = at_one set standing s.sets }

-- One line: what it does to the state, and what it is answered.
use Rattle.std.specs.Prelude.{◌≡◌, ◌⊎◌, ◌&&◌, ℕ, suc, ◌+◌, Bool, true, false, not, ◌||◌, nat_le, nat_lt, List, [], ◌∷◌, ◌++◌, map, length, take, option_map, is_some, Option, Some, None, Result, Ok, Err, if◌then◌else◌}
use Rattle.std.specs.Option.{option_or}
use Rattle.tt_value.specs.declared.refusal.Refusal.{Refusal}
use Rattle.tt_value.specs.declared.refusal.Refusal.TheVariants.{LogOut, CkptOpen, TransactionOpen, NoReader, NoBookmark, BookmarkBusy, NoMemory}
use Rattle.tt_value.specs.declared.value.Row.{Row}
use Rattle.tt_value.specs.declared.reply.Reply.{Reply}
use Rattle.tt_value.specs.declared.reply.Reply.TheVariants.{Done, Changed, Rows, Checkpoint, Positions, Holds, Updates, Backup, Refused}
use Rattle.tt_parse.specs.declared.command.Command.{Command}
use Rattle.tt_parse.specs.declared.command.Command.TheVariants.{CreateTable, DropTable, CreateIndex, DropIndex, Insert, Update, Delete, Select, Commit as CommitLine, Rollback, DurableCommit, Flush, Ckpt, CkptBlocking, LogHolds, Bookmark, Backup as BackupLine, XlaCreate, XlaDelete, XlaSubscribe, XlaUnsubscribe, XlaOpen, XlaNext, XlaAcknowledge, XlaClose}
use Rattle.tt_parse.specs.declared.command.BackupKind.TheVariants.{Stop}
use Rattle.tt_record.specs.declared.entry.Entry.TheVariants.{Change, Commit, Abort}
use Rattle.tt_record.specs.Entry.{length_of}
use Rattle.tt_model.specs.Trail.{oldest}
use Rattle.tt_model.specs.Tables.{PlacedRow, number_at, position_at, subscriptions_of}
use Rattle.tt_model.specs.Due.{DueChange, due, read_to}
use Rattle.tt_model.specs.Meaning.{Meant, Refuses, Makes, refused_if, meant_by_insert, meant_by_update, meant_by_delete, meant_by_select}
use Rattle.tt_model.specs.System.{reader_on, bookmark, deletes, meant_by_create_table, meant_by_drop_table, meant_by_create_index, meant_by_drop_index, meant_by_create_bookmark, meant_by_delete_bookmark, meant_by_subscribe, meant_by_unsubscribe, meant_by_acknowledge}
use Rattle.tt_model.specs.Backups.{SetWork, MakesSet, ContinuesSet, EndsSet, set_work, backup_refusal, row_of_set, set_edit, full_now, extended_now, with_set}
use Rattle.tt_model.specs.Sets.{Readable}
use Rattle.tt_model.specs.State.{Underway, State, Reader, ReadPlace, newest_number, at_one, trail, cells_of, bound, catalog, next, live_in, holds, least_hold, write_position, force_position, with_entry, with_edits, all_forced, reversals, lengths_fit}
use Rattle.tt_model.specs.Checkpoint.{begin_checkpoint, with_copies, with_all_copies, with_completion, begun_in}
use Rattle.tt_model.specs.declared.definition.CellEdit.{CellEdit}
use Rattle.tt_record.specs.Limits.{transactions_end}

-- A line is answered, and leaves a state.
abbrev pub Answered : Type 0
Answered = Reply × State

abbrev pub refused : Refusal → State → Answered
refused r s = (Refused r, s)

abbrev pub unless_refused : Option Refusal → Answered → State → Answered
unless_refused (Some r) a s = refused r s
unless_refused None a s = a

abbrev pub forced_where : Bool → State → State
forced_where true s = all_forced s
forced_where false s = s

-- The length of the Change that an edit makes, which is the same for all numbers and places.
abbrev pub edit_length : CellEdit → ℕ
edit_length e = length_of (Change 1 0 e.before e.after)

-- A Commit or an Abort, whatever its number.
abbrev pub end_length : ℕ
end_length = length_of (Commit 1)

-- An entry of a line would stand in file 1,000,000, or a new transaction's number would be 2^48.
abbrev pub no_position : List ℕ → State → Option Refusal
no_position lengths s = refused_if (not (lengths_fit s.settings.log_file_size (write_position s) lengths)) LogOut

abbrev pub no_number : State → Option Refusal
no_number s = refused_if (nat_le transactions_end (next s)) LogOut

abbrev pub no_number_for : Option ℕ → State → Option Refusal
no_number_for None s = no_number s
no_number_for (Some t) s = None

-- insert, update, delete, select

abbrev pub number_for : Option ℕ → State → ℕ
number_for None s = next s
number_for (Some t) s = t

abbrev pub made_in : ℕ → ℕ → List CellEdit → State → State
made_in session t edits s = record (with_edits t edits s) { own = at_one session (Some t) s.own }

abbrev pub made : ℕ → List CellEdit → State → Answered
made session [] s = (Changed 0, s)
made session (e ∷ es) s =
    unless_refused (option_or (no_number_for (s.own session) s) (no_position (map edit_length (e ∷ es)) s))
    (Changed (suc (length es)), made_in session (number_for (s.own session) s) (e ∷ es) s) s

abbrev pub statement : ℕ → Meant → State → Answered
statement session (Refuses r) s = refused r s
statement session (Makes edits) s = made session edits s

abbrev pub selected : Result (List Row) Refusal → State → Answered
selected (Ok rows) s = (Rows rows, s)
selected (Err r) s = refused r s

-- commit and rollback

abbrev pub session_ended : ℕ → State → State
session_ended session s = record s { own = at_one session None s.own; wish = at_one session false s.wish }

abbrev pub is_durable : ℕ → State → Bool
is_durable session s = s.settings.durable_commits || s.wish session

abbrev pub commit_of : ℕ → Option ℕ → State → Answered
commit_of session None s = (Done, session_ended session (forced_where (is_durable session s) s))
commit_of session (Some t) s =
    unless_refused (no_position (end_length ∷ []) s) (Done, session_ended session (forced_where (is_durable session s) (with_entry (Commit t) s))) s

abbrev pub rolled_back : ℕ → State → State
rolled_back t s = with_entry (Abort t) (with_edits t (reversals t s.entries) s)

abbrev pub rollback_lengths : ℕ → State → List ℕ
rollback_lengths t s = map edit_length (reversals t s.entries) ++ end_length ∷ []

abbrev pub rollback_of : ℕ → Option ℕ → State → Answered
rollback_of session None s = (Done, session_ended session s)
rollback_of session (Some t) s = unless_refused (no_position (rollback_lengths t s) s) (Done, session_ended session (rolled_back t s)) s

-- a transaction of its own

abbrev pub system_done : List CellEdit → State → State
system_done edits s = forced_where s.settings.durable_commits (with_entry (Commit (next s)) (with_edits (next s) edits s))

abbrev pub no_system_position : List CellEdit → State → Option Refusal
no_system_position edits s = option_or (no_number s) (no_position (map edit_length edits ++ end_length ∷ []) s)

abbrev pub system : Meant → State → Answered
system (Refuses r) s = refused r s
system (Makes edits) s = unless_refused (no_system_position edits s) (Done, system_done edits s) s

-- readers

abbrev pub with_reader : ℕ → Option Reader → State → State
with_reader session r s = record s { reader = at_one session r s.reader }

abbrev pub kept_read : PlacedRow → ReadPlace
kept_read r = record { at = position_at 1 r; skip = number_at 3 r; hold = position_at 4 r }

abbrev pub open_at : ℕ → List ℕ → Option PlacedRow → State → Answered
open_at session name None s = refused NoBookmark s
open_at session name (Some r) s =
    unless_refused (option_map BookmarkBusy (reader_on name s)) (Done, with_reader session (Some (record { bookmark = name; place = kept_read r })) s) s

abbrev pub reader_opened : ℕ → List ℕ → State → Answered
reader_opened session name s = if is_some (s.reader session) then refused (BookmarkBusy session) s else open_at session name (bookmark name s) s

abbrev pub all_due : Reader → State → List DueChange
all_due r s = due r.place (subscriptions_of r.bookmark (bound s) (cells_of s)) (catalog s) (oldest s.forced (trail s))

abbrev pub next_read_of : Reader → ℕ → State → ReadPlace
next_read_of r n s = read_to r.place n (force_position s) (trail s) (take n (all_due r s))

-- The count of the Changes that were given of a place's Commit has four bytes. A read whose next place would have more finds no
-- memory for it.
abbrev pub no_skip : ReadPlace → Option Refusal
no_skip place = refused_if (nat_lt 4294967295 place.skip) NoMemory

abbrev pub given_to : ℕ → Reader → ℕ → State → Answered
given_to session r n s =
    (Updates (map (λ d. d.given) (take n (all_due r s))), with_reader session (Some (record r { place = next_read_of r n s })) s)

abbrev pub given : ℕ → Option Reader → ℕ → State → Answered
given session None n s = refused NoReader s
given session (Some r) n s = unless_refused (no_skip (next_read_of r n s)) (given_to session r n s) s

abbrev pub closed : ℕ → Option Reader → State → Answered
closed session None s = refused NoReader s
closed session (Some r) s = (Done, with_reader session None s)

-- backups

abbrev pub backed_up : ℕ → SetWork → State → Answered
backed_up set (MakesSet false) s = (Backup set true (write_position s), with_set set (Some (Readable (full_now s))) (all_forced s))
backed_up set (MakesSet true) s = (
  Backup set true (write_position s),
  system_done (set_edit (row_of_set set s) set (write_position s) ∷ []) (with_set set (Some (Readable (full_now s))) (all_forced s)),
)
backed_up set ContinuesSet s = (
  Backup set false (write_position s),
  system_done (set_edit (row_of_set set s) set (write_position s) ∷ []) (with_set set (extended_now (s.sets set) s) (all_forced s)),
)
backed_up set EndsSet s = (Done, elim (row_of_set set s) [ None ↦ s | Some r ↦ system_done (deletes 6 r ∷ []) s ])

abbrev pub backup_position : ℕ → SetWork → State → Option Refusal
backup_position set (MakesSet false) s = None
backup_position set EndsSet s = elim (row_of_set set s) [ None ↦ None | Some r ↦ no_system_position (deletes 6 r ∷ []) s ]
backup_position set work s = no_system_position (set_edit (row_of_set set s) set (write_position s) ∷ []) s

abbrev pub backup_line : ℕ → ℕ → SetWork → State → Answered
backup_line session set work s = unless_refused (option_or (backup_refusal session s set work) (backup_position set work s)) (backed_up set work s) s

-- checkpoints

abbrev pub checkpoint_open : State → Option Refusal
checkpoint_open s = option_map (λ b. CkptOpen b.number) s.underway

abbrev pub no_checkpoint_number : State → Option Refusal
no_checkpoint_number s = refused_if (nat_le transactions_end (newest_number s + 1)) LogOut

abbrev pub least_open : List ℕ → Option Refusal
least_open [] = None
least_open (t ∷ ts) = Some (TransactionOpen t)

abbrev pub begun_reply : State → Reply
begun_reply s = Checkpoint ((begun_in s).number) (length ((begun_in s).left))

abbrev pub checkpoint_line : State → Answered
checkpoint_line s = unless_refused (option_or (checkpoint_open s) (no_checkpoint_number s)) (begun_reply s, begin_checkpoint s) s

abbrev pub blocking_line : State → Answered
blocking_line s =
    unless_refused (option_or (checkpoint_open s) (option_or (least_open (live_in s)) (no_checkpoint_number s)))
    (begun_reply s, with_completion (with_all_copies (begin_checkpoint s))) s

-- What each line does, by the table of lines.
unfoldable pub line : ℕ → Command → State → Answered
line session (Insert table values) s = statement session (meant_by_insert session s table values) s
line session (Update table sets cond) s = statement session (meant_by_update session s table sets cond) s
line session (Delete table cond) s = statement session (meant_by_delete session s table cond) s
line session (Select table items cond order) s = selected (meant_by_select session s table items cond order) s
line session CommitLine s = commit_of session (s.own session) s
line session Rollback s = rollback_of session (s.own session) s
line session DurableCommit s = (Done, record s { wish = at_one session true s.wish })
line session Flush s = (Done, all_forced s)
line session LogHolds s = (Holds (holds s), s)
line session Bookmark s = (Positions (write_position s) (force_position s) (least_hold s), s)
line session (CreateTable name columns key) s = system (meant_by_create_table session s name columns key) s
line session (DropTable name) s = system (meant_by_drop_table session s name) s
line session (CreateIndex name table columns unique) s = system (meant_by_create_index session s name table columns unique) s
line session (DropIndex name) s = system (meant_by_drop_index session s name) s
line session (XlaCreate name) s = system (meant_by_create_bookmark session s name) s
line session (XlaDelete name) s = system (meant_by_delete_bookmark session s name) s
line session (XlaSubscribe table name) s = system (meant_by_subscribe session s table name) s
line session (XlaUnsubscribe table name) s = system (meant_by_unsubscribe session s table name) s
line session XlaAcknowledge s = system (meant_by_acknowledge session s) s
line session (XlaOpen name) s = reader_opened session name s
line session (XlaNext n) s = given session (s.reader session) n s
line session XlaClose s = closed session (s.reader session) s
line session (BackupLine set kind) s = backup_line session set (set_work kind set s) s
line session Ckpt s = checkpoint_line s
line session CkptBlocking s = blocking_line s

abbrev pub answer : ℕ → Result Command Refusal → State → Answered
answer session (Err r) s = refused r s
answer session (Ok command) s = line session command s

-- The lines that are answered in any memory.
abbrev pub takes_memory : Command → Bool
takes_memory CommitLine = false
takes_memory Rollback = false
takes_memory Flush = false
takes_memory DurableCommit = false
takes_memory Bookmark = false
takes_memory _ = true

-- Only a backup may have forced the log before it finds no memory.
abbrev pub forces_first : Command → Bool
forces_first (BackupLine set Stop) = false
forces_first (BackupLine set kind) = true
forces_first _ = false

abbrev pub is_refused : Reply → Bool
is_refused (Refused r) = true
is_refused _ = false

-- What the table says.
abbrev pub ByTable : ℕ → Result Command Refusal → State → Reply → State → Type 0
ByTable session what s reply after = (reply ≡ (answer session what s).0) × (after ≡ (answer session what s).1)

-- NoMemory, with the effect left out; a backup that would be done may have forced the log before.
abbrev pub WantsMemory : ℕ → Result Command Refusal → State → Reply → State → Type 0
WantsMemory session (Err r) s reply after = ⊥
WantsMemory session (Ok command) s reply after =
    (takes_memory command ≡ true) × (reply ≡ Refused NoMemory)
    × ((after ≡ s) ⊎ ((forces_first command && not (is_refused ((line session command s).0)) ≡ true) × (after ≡ all_forced s)))

-- What a line may answer and leave.
abbrev pub Answers : ℕ → Result Command Refusal → State → Reply → State → Type 0
Answers session what s reply after = ByTable session what s reply after ⊎ WantsMemory session what s reply after

-- One line that isn't skipped: the copies of a checkpoint under way, the line, the completion where it is due. A completion
-- is due of a checkpoint that was under way before the line.
abbrev pub completion_after : Option Underway → State → State
completion_after None s = s
completion_after (Some b) s = with_completion s

pub record Step (s : State) (session : ℕ) (what : Result Command Refusal) (reply : Reply) (after : State) : Type 0 where
  pub between : State
  pub line : Answers session what (with_copies s) reply between
  pub is : after ≡ completion_after s.underway between

-- The step that the table says.
abbrev pub stepped : ℕ → Command → State → Answered
stepped session command s =
    let a = line session command (with_copies s) in
    (a.0, completion_after s.underway (a.1))

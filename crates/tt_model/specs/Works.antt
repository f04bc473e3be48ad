-- What a line does to the log: the entries that it appends, in order, and whether all is forced behind them. Performing that leaves
-- the log of the line's state.
use Rattle.std.specs.Prelude.{◌≡◌, ℕ, Bool, true, false, List, [], ◌∷◌, ◌++◌, map, Option, Some, None}
use Rattle.std.specs.Option.{option_or}
use Rattle.tt_value.specs.declared.refusal.Refusal.{Refusal}
use Rattle.tt_parse.specs.declared.command.Command.{Command}
use Rattle.tt_parse.specs.declared.command.Command.TheVariants.{CreateTable, DropTable, CreateIndex, DropIndex, Insert, Update, Delete, Select, Commit as CommitLine, Rollback, DurableCommit, Flush, Ckpt, CkptBlocking, LogHolds, Bookmark, Backup as BackupLine, XlaCreate, XlaDelete, XlaSubscribe, XlaUnsubscribe, XlaOpen, XlaNext, XlaAcknowledge, XlaClose}
use Rattle.tt_record.specs.declared.entry.Entry.{Entry}
use Rattle.tt_record.specs.declared.entry.Entry.TheVariants.{Change, Commit, Abort}
use Rattle.tt_record.specs.Entry.{length_of}
use Rattle.tt_model.specs.Tables.{PlacedRow}
use Rattle.tt_model.specs.Meaning.{Meant, Refuses, Makes, meant_by_insert, meant_by_update, meant_by_delete}
use Rattle.tt_model.specs.System.{deletes, meant_by_create_table, meant_by_drop_table, meant_by_create_index, meant_by_drop_index, meant_by_create_bookmark, meant_by_delete_bookmark, meant_by_subscribe, meant_by_unsubscribe, meant_by_acknowledge}
use Rattle.tt_model.specs.Backups.{SetWork, MakesSet, ContinuesSet, EndsSet, set_work, backup_refusal, row_of_set, set_edit}
use Rattle.tt_model.specs.State.{State, next, live_in, place_for, write_position, lengths_fit, with_entry, with_edit, all_forced, reversals}
use Rattle.tt_model.specs.declared.definition.CellEdit.{CellEdit}
use Rattle.tt_model.specs.Step.{backup_position, checkpoint_open, edit_length, end_length, forced_where, is_durable, least_open, line, no_checkpoint_number, no_number_for, no_position, no_system_position, number_for, rollback_lengths}
use Rattle.tt_model.specs.Run.{ended, ended_one, has_position}

pub record Work : Type 0 where
  pub entries : List Entry
  pub force : Bool

abbrev pub no_work : Work
no_work = record { entries = []; force = false }

abbrev pub force_where : Bool → Work
force_where c = record { entries = []; force = c }

-- ---- performing

abbrev pub with_entries : List Entry → State → State
with_entries [] s = s
with_entries (e ∷ es) s = with_entries es (with_entry e s)

abbrev pub performed : Work → State → State
performed w s = forced_where w.force (with_entries w.entries s)

abbrev pub all_performed : List Work → State → State
all_performed [] s = s
all_performed (w ∷ ws) s = all_performed ws (performed w s)

-- Two states have the same log: one trail, forced as far, in the same files.
pub record SameLog (a b : State) : Type 0 where
  pub settings : a.settings ≡ b.settings
  pub found : a.found ≡ b.found
  pub entries : a.entries ≡ b.entries
  pub forced : a.forced ≡ b.forced
  pub pages : a.pages ≡ b.pages
  pub files : a.files ≡ b.files

-- ---- the work of each line

-- Where a refusal is answered, nothing is done.
abbrev pub unless_refused : Option Refusal → Work → Work
unless_refused (Some r) w = no_work
unless_refused None w = w

-- A transaction's Changes for some edits, each in the place that it gets.
abbrev pub changes : ℕ → List CellEdit → State → List Entry
changes t [] s = []
changes t (edit ∷ edits) s = Change t (place_for edit.place s) edit.before edit.after ∷ changes t edits (with_edit t edit s)

abbrev pub work_of_edits : ℕ → List CellEdit → State → Work
work_of_edits session [] s = no_work
work_of_edits session (e ∷ es) s =
    unless_refused (option_or (no_number_for (s.own session) s) (no_position (map edit_length (e ∷ es)) s))
    (record { entries = changes (number_for (s.own session) s) (e ∷ es) s; force = false })

abbrev pub work_of_statement : ℕ → Meant → State → Work
work_of_statement session (Refuses r) s = no_work
work_of_statement session (Makes edits) s = work_of_edits session edits s

abbrev pub work_of_commit : ℕ → Option ℕ → State → Work
work_of_commit session None s = force_where (is_durable session s)
work_of_commit session (Some t) s = unless_refused (no_position (end_length ∷ []) s) (record { entries = Commit t ∷ []; force = is_durable session s })

abbrev pub rolled_entries : ℕ → State → List Entry
rolled_entries t s = changes t (reversals t s.entries) s ++ Abort t ∷ []

abbrev pub work_of_rollback : Option ℕ → State → Work
work_of_rollback None s = no_work
work_of_rollback (Some t) s = unless_refused (no_position (rollback_lengths t s) s) (record { entries = rolled_entries t s; force = false })

-- A transaction of its own.
abbrev pub system_work : List CellEdit → State → Work
system_work edits s = record { entries = changes (next s) edits s ++ Commit (next s) ∷ []; force = s.settings.durable_commits }

abbrev pub work_of_system : Meant → State → Work
work_of_system (Refuses r) s = no_work
work_of_system (Makes edits) s = unless_refused (no_system_position edits s) (system_work edits s)

-- A backup forces the log, and once the set is written it may have a transaction of its own.
abbrev pub works_unless : Option Refusal → List Work → List Work
works_unless (Some r) ws = []
works_unless None ws = ws

abbrev pub row_work : ℕ → State → Work
row_work set s = system_work (set_edit (row_of_set set s) set (write_position s) ∷ []) (all_forced s)

abbrev pub stop_works : State → Option PlacedRow → List Work
stop_works s None = []
stop_works s (Some r) = system_work (deletes 6 r ∷ []) s ∷ []

abbrev pub works_of_set : ℕ → SetWork → State → List Work
works_of_set set (MakesSet false) s = force_where true ∷ []
works_of_set set (MakesSet true) s = force_where true ∷ row_work set s ∷ []
works_of_set set ContinuesSet s = force_where true ∷ row_work set s ∷ []
works_of_set set EndsSet s = stop_works s (row_of_set set s)

abbrev pub works_of_backup : ℕ → ℕ → SetWork → State → List Work
works_of_backup session set work s = works_unless (option_or (backup_refusal session s set work) (backup_position set work s)) (works_of_set set work s)

-- A blocking checkpoint completes, which forces the log.
abbrev pub work_of_blocking : State → Work
work_of_blocking s = unless_refused (option_or (checkpoint_open s) (option_or (least_open (live_in s)) (no_checkpoint_number s))) (force_where true)

abbrev pub one : Work → List Work
one w = w ∷ []

-- The works of each line, one after another.
unfoldable pub works_of : ℕ → Command → State → List Work
works_of session (Insert table values) s = one (work_of_statement session (meant_by_insert session s table values) s)
works_of session (Update table sets cond) s = one (work_of_statement session (meant_by_update session s table sets cond) s)
works_of session (Delete table cond) s = one (work_of_statement session (meant_by_delete session s table cond) s)
works_of session (Select table items cond order) s = []
works_of session CommitLine s = one (work_of_commit session (s.own session) s)
works_of session Rollback s = one (work_of_rollback (s.own session) s)
works_of session DurableCommit s = []
works_of session Flush s = one (force_where true)
works_of session LogHolds s = []
works_of session Bookmark s = []
works_of session (CreateTable name columns key) s = one (work_of_system (meant_by_create_table session s name columns key) s)
works_of session (DropTable name) s = one (work_of_system (meant_by_drop_table session s name) s)
works_of session (CreateIndex name table columns unique) s = one (work_of_system (meant_by_create_index session s name table columns unique) s)
works_of session (DropIndex name) s = one (work_of_system (meant_by_drop_index session s name) s)
works_of session (XlaCreate name) s = one (work_of_system (meant_by_create_bookmark session s name) s)
works_of session (XlaDelete name) s = one (work_of_system (meant_by_delete_bookmark session s name) s)
works_of session (XlaSubscribe table name) s = one (work_of_system (meant_by_subscribe session s table name) s)
works_of session (XlaUnsubscribe table name) s = one (work_of_system (meant_by_unsubscribe session s table name) s)
works_of session XlaAcknowledge s = one (work_of_system (meant_by_acknowledge session s) s)
works_of session (XlaOpen name) s = []
works_of session (XlaNext n) s = []
works_of session XlaClose s = []
works_of session (BackupLine set kind) s = works_of_backup session set (set_work kind set s) s
works_of session Ckpt s = []
works_of session CkptBlocking s = one (work_of_blocking s)

-- The end of a run: the live transactions are rolled back one after another, and all is forced, where each has a place.
abbrev pub work_behind : List Entry → Work → Work
work_behind es w = record { entries = es ++ w.entries; force = w.force }

abbrev pub work_of_all : List ℕ → State → Work
work_of_all [] s = force_where true
work_of_all (t ∷ ts) s = elim (has_position t s) [ true ↦ work_behind (rolled_entries t s) (work_of_all ts (ended_one t s)) | false ↦ no_work ]

abbrev pub work_of_end : State → Work
work_of_end s = work_of_all (live_in s) (record s { underway = None })

-- ---- the law

abbrev pub is_blocking_line : Command → Bool
is_blocking_line CkptBlocking = true
is_blocking_line _ = false

-- Each line leaves the log as its works do, and so does the end of a run. A blocking checkpoint purges log files besides.
pub record LinesAreWorks : Type 0 where
  pub each : (session : ℕ) (command : Command) (s : State) → is_blocking_line command ≡ false → SameLog ((line session command s).1) (all_performed (works_of session command s) s)
  pub blocking : (session : ℕ) (s : State) → SameLog (record ((line session CkptBlocking s).1) { files = s.files }) (all_performed (works_of session CkptBlocking s) s)
  pub end : (s : State) → SameLog ((ended s).1) (performed (work_of_end s) s)

-- Each entry of a work gets a place behind the one before.
abbrev pub Fits : Work → State → Type 0
Fits w s = lengths_fit s.settings.log_file_size (write_position s) (map length_of w.entries) ≡ true

abbrev pub AllFit : List Work → State → Type 0
AllFit [] s = Unit {0}
AllFit (w ∷ ws) s = Fits w s × AllFit ws (performed w s)

-- So do those of each line's works: a line is refused where one has none.
abbrev pub WorksFit : Type 0
WorksFit = (session : ℕ) (command : Command) (s : State) → AllFit (works_of session command s) s

-- And those of the end of a run.
abbrev pub EndFits : Type 0
EndFits = (s : State) → Fits (work_of_end s) s

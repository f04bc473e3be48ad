-- Each line leaves users' rows good by the catalog that it leaves.
use Rattle.std.proofs.Common.{◌≡◌, ◌≤◌, inl, inr, ℕ, Bool, true, false, cond, List, [], ◌∷◌, map, Option, Some, None, if◌then◌else◌, refl, sym, subst, lit<}
use Rattle.std.specs.Prelude.{◌==◌, length, is_some, option_map, bytes_eq, Result, Ok, Err}
use Rattle.std.specs.Option.{option_or}
use Rattle.tt_value.specs.declared.refusal.Refusal.{Refusal}
use Rattle.tt_value.specs.declared.refusal.Refusal.TheVariants.{BookmarkBusy}
use Rattle.tt_value.specs.declared.reply.Reply.{Reply}
use Rattle.tt_value.specs.declared.reply.Reply.TheVariants.{Done}
use Rattle.tt_value.specs.declared.position.Position.{Position}
use Rattle.tt_value.specs.declared.value.Cell.TheVariants.{Full as FullCell}
use Rattle.tt_parse.specs.declared.command.Command.{Command}
use Rattle.tt_parse.specs.declared.command.Command.TheVariants.{CreateTable, DropTable, CreateIndex, DropIndex, Insert, Update, Delete, Select, Commit as CommitLine, Rollback, DurableCommit, Flush, Ckpt, CkptBlocking, LogHolds, Bookmark, Backup as BackupLine, XlaCreate, XlaDelete, XlaSubscribe, XlaUnsubscribe, XlaOpen, XlaNext, XlaAcknowledge, XlaClose}
use Rattle.tt_model.specs.Sets.{Readable, SetStanding}
use Rattle.tt_model.specs.Tables.{PlacedRow, Table, index_named, table_named, table_with}
use Rattle.tt_model.specs.State.{Underway, Reader, State, all_forced, catalog, cells_of, live_in, write_position}
use Rattle.tt_model.specs.declared.definition.CellEdit.{CellEdit}
use Rattle.tt_model.specs.Meaning.{Makes, meant_by_delete, meant_by_insert, meant_by_select, meant_by_update}
use Rattle.tt_model.specs.System.{bookmark, deletes, meant_by_acknowledge, meant_by_create_index, meant_by_delete_bookmark, meant_by_drop_index, meant_by_drop_table, meant_by_subscribe, meant_by_unsubscribe, reader_on}
use Rattle.tt_model.specs.Backups.{backup_refusal, extended_now, full_now, row_of_set, set_edit, with_set, SetWork, MakesSet, ContinuesSet, EndsSet, set_work}
use Rattle.tt_model.specs.Sound.{IsSound}
use Rattle.tt_model.specs.Checkpoint.{begin_checkpoint, complete_where_due, completed, copied, with_all_copies, with_completion, with_copies}
use Rattle.tt_model.specs.Step.{Answers, Step, backed_up, backup_position, begun_reply, checkpoint_open, closed, completion_after, given, kept_read, least_open, line, no_checkpoint_number, number_for, open_at, refused, system_done, with_reader, no_skip, next_read_of, given_to, backup_line}
use Rattle.tt_model.proofs.BookmarkLines.{may_good, may_new}
use Rattle.tt_model.proofs.CatalogLemmas.{LeaveUserTables, not_held_user}
use Rattle.tt_model.proofs.EditLemmas.{AreNew, fresh_entries}
use Rattle.tt_model.proofs.LineLemmas.{AreSome, create_bookmark-new, create_table-new, subscribe_new, selected-has}
use Rattle.tt_model.proofs.OneHolderStatements.{each-found}
use Rattle.tt_model.proofs.SoundLines.{writes}
use Rattle.tt_model.proofs.StatementLemmas.{delete-MayEdit, insert-MayEdit, table-user, update-MayEdit}
use Rattle.tt_model.proofs.SystemLines.{AreGood, acknowledge-good, delete_bookmark-good, drop_index-good, drop_table-good, one_row, rewrite-good, rows-good, set-lies, sound-with_set, unsubscribe-good}
use Rattle.tt_model.proofs.TableLines.{acknowledge-elsewhere, create_bookmark-elsewhere, create_table-elsewhere, delete_bookmark-elsewhere, deletes-elsewhere, drop_index-elsewhere, set-elsewhere, subscribe-elsewhere, unsubscribe-elsewhere}
use Rattle.tt_model.proofs.TableRows.{AreElsewhere}
use Rattle.tt_model.proofs.RowsEdits.{acknowledge-of_system, create_bookmark-of_system, create_table-of_system, delete_bookmark-of_system, deletes-of_system, drop_index-of_system, drop_table-leaves, drop_table-of_system, row-has_table, set-of_system, subscribe-of_system, unsubscribe-of_system}
use Rattle.tt_model.proofs.RowsStatements.{delete_allowed, insert-allowed, update-allowed}
use Rattle.tt_model.proofs.RowsStates.{AreOfSystem, seen-fits}
use Rattle.tt_model.proofs.RowsTables.{HasRowOf}
use Rattle.tt_model.proofs.RowsWorks.{IsReady, LeaveRows, Leaves, leaves-commit, leaves-forced, leaves-rollback, leaves-self, leaves-statement, leaves-system, leaves-system_by, leaves-system_done, leaves-unless}

-- ---- edits of each kind

new_rows : (s : State) (edits : List CellEdit) → IsReady s → AreSome edits × AreNew edits × LeaveUserTables edits → AreOfSystem edits →
    ((m : ℕ) → 16 ≤ m → HasRowOf s m → AreElsewhere m edits) → LeaveRows s edits
new_rows s edits r n low elsewhere = record { some = n.0; may = may_new s edits r.sound (n.1); system = low; leave = n.2; elsewhere = elsewhere }

good_rows : (s : State) (edits : List CellEdit) → IsReady s → AreGood s edits → AreOfSystem edits → ((m : ℕ) → 16 ≤ m → HasRowOf s m → AreElsewhere m edits) → LeaveRows s edits
good_rows s edits r g low elsewhere = record { some = g.some; may = may_good s edits r.sound g; system = low; leave = g.leave; elsewhere = elsewhere }

-- A table that a name finds is the one that its number finds.
named_table : (s : State) (name : List ℕ) (t : Table) → IsReady s → table_named name (catalog s) ≡ Some t → table_with t.id (catalog s) ≡ Some t
named_table s name t r e = each-found (λ (x : Table). table_with x.id (catalog s) ≡ Some x) (λ (x : Table). bytes_eq x.name name) t (catalog s).tables r.own e

-- ---- backups

ready-with_set : (set : ℕ) (standing : Option SetStanding) (s : State) → IsReady s → IsReady (with_set set standing (all_forced s))
unfolding all_forced
ready-with_set set standing s r = record { sound = sound-with_set set standing s r.sound; held = r.held; own = r.own; stand = r.stand }

set_rows : (o : Option PlacedRow) (set : ℕ) (end : Position) (s : State) → IsReady s → ((r : PlacedRow) → o ≡ Some r → cells_of s (r.0) ≡ FullCell 6 (r.1)) → LeaveRows s (set_edit o set end ∷ [])
set_rows None set end s r l = new_rows s (set_edit None set end ∷ []) r (tt, (refl, refl, tt), (not_held_user _ refl, tt)) (set-of_system None set end) (λ m user has. set-elsewhere m None set end)
set_rows (Some at) set end s r l =
    good_rows s (set_edit (Some at) set end ∷ []) r (rewrite-good s 6 at _ (lit< tt) (l at refl) (not_held_user _ refl, tt)) (set-of_system (Some at) set end) (λ m user has. set-elsewhere m (Some at) set end)

leaves_set : (set : ℕ) (standing : Option SetStanding) (s : State) → IsReady s →
    Leaves (system_done (set_edit (row_of_set set s) set (write_position s) ∷ []) (with_set set standing (all_forced s)))
unfolding all_forced
leaves_set set standing s r =
    let mid : State = with_set set standing (all_forced s) in
    let ready : IsReady mid = ready-with_set set standing s r in
    leaves-system_done (set_edit (row_of_set set s) set (write_position s) ∷ []) mid ready (set_rows (row_of_set set s) set (write_position s) mid ready (λ at e. set-lies set s at e))

leaves_stop : (set : ℕ) (s : State) (o : Option PlacedRow) → row_of_set set s ≡ o → IsReady s → Leaves (elim o as (λ x. State) [ None ↦ s | Some r ↦ system_done (deletes 6 r ∷ []) s ])
leaves_stop set s None e r = leaves-self s r
leaves_stop set s (Some at) e r =
    leaves-system_done (map (deletes 6) (at ∷ [])) s r
    (good_rows s (map (deletes 6) (at ∷ [])) r (rows-good s 6 (at ∷ []) (lit< tt) (one_row 6 s at (set-lies set s at e)) tt) (deletes-of_system 6 (at ∷ []) (lit< tt))
    (λ m user has. deletes-elsewhere m 6 (at ∷ []) refl refl))

leaves_backed_up : (set : ℕ) (work : SetWork) (s : State) → IsReady s → Leaves ((backed_up set work s).1)
leaves_backed_up set (MakesSet false) s r = leaves-self (with_set set (Some (Readable (full_now s))) (all_forced s)) (ready-with_set set (Some (Readable (full_now s))) s r)
leaves_backed_up set (MakesSet true) s r = leaves_set set (Some (Readable (full_now s))) s r
leaves_backed_up set ContinuesSet s r = leaves_set set (extended_now (s.sets set) s) s r
leaves_backed_up set EndsSet s r = leaves_stop set s (row_of_set set s) refl r

leaves_backup : (session set : ℕ) (work : SetWork) (s : State) → IsReady s → Leaves ((backup_line session set work s).1)
leaves_backup session set work s r =
    leaves-unless (option_or (backup_refusal session s set work) (backup_position set work s)) ((backed_up set work s).0) ((backed_up set work s).1) s (leaves-self s r) (leaves_backed_up set work s r)

-- ---- readers

leaves_open_at : (session : ℕ) (name : List ℕ) (o : Option PlacedRow) (s : State) → Leaves s → Leaves ((open_at session name o s).1)
leaves_open_at session name None s a = a
leaves_open_at session name (Some r) s a =
    leaves-unless (option_map BookmarkBusy (reader_on name s)) Done (with_reader session (Some (record { bookmark = name; place = kept_read r })) s) s a a

leaves_opened : (session : ℕ) (name : List ℕ) (s : State) (c : Bool) → Leaves s → Leaves ((cond c (refused (BookmarkBusy session) s) (open_at session name (bookmark name s) s)).1)
leaves_opened session name s true a = a
leaves_opened session name s false a = leaves_open_at session name (bookmark name s) s a

leaves_given : (session : ℕ) (o : Option Reader) (n : ℕ) (s : State) → Leaves s → Leaves ((given session o n s).1)
leaves_given session None n s a = a
leaves_given session (Some r) n s a = leaves-unless (no_skip (next_read_of r n s)) ((given_to session r n s).0) ((given_to session r n s).1) s a a

leaves_closed : (session : ℕ) (o : Option Reader) (s : State) → Leaves s → Leaves ((closed session o s).1)
leaves_closed session None s a = a
leaves_closed session (Some r) s a = a

-- ---- checkpoints

through_copied : (n : ℕ) (o : Option Underway) (s : State) → Leaves s → Leaves (copied n o s)
through_copied n None s a = a
through_copied n (Some b) s a = a

through_all_copies : (s : State) → Leaves s → Leaves (with_all_copies s)
unfolding with_all_copies
through_all_copies s a = through_copied s.pages s.underway s a

through_begin : (s : State) → Leaves s → Leaves (begin_checkpoint s)
unfolding begin_checkpoint
through_begin s a = a

through_completed : (b : Underway) (s : State) → Leaves s → Leaves (completed b s)
unfolding completed all_forced
through_completed b s a = a

through_due : (b : Underway) (s : State) (c : Bool) → Leaves s → Leaves (if c then completed b s else s)
through_due b s true a = through_completed b s a
through_due b s false a = a

through_where : (o : Option Underway) (s : State) → Leaves s → Leaves (complete_where_due o s)
through_where None s a = a
through_where (Some b) s a = through_due b s (length b.left == 0) a

through_completion : (s : State) → Leaves s → Leaves (with_completion s)
unfolding with_completion
through_completion s a = through_where s.underway s a

pub through_after : (o : Option Underway) (s : State) → Leaves s → Leaves (completion_after o s)
through_after None s a = a
through_after (Some b) s a = through_completion s a

-- ---- each line

-- What a line that creates an index leaves.
abbrev pub IndexLeaves : ℕ → Command → State → Type 0
IndexLeaves session (CreateIndex name table columns unique) s = (edits : List CellEdit) → meant_by_create_index session s name table columns unique ≡ Makes edits → Leaves (system_done edits s)
IndexLeaves session _ s = Unit {0}

leaves_line : (session : ℕ) (command : Command) (s : State) → IsReady s → IndexLeaves session command s → Leaves ((line session command s).1)
unfolding line meant_by_insert meant_by_update meant_by_delete meant_by_select meant_by_create_index meant_by_subscribe meant_by_drop_table meant_by_drop_index meant_by_delete_bookmark meant_by_unsubscribe meant_by_acknowledge
leaves_line session (Insert table values) s r i =
    leaves-statement session _ s r (λ edits e. (
      insert-MayEdit session s table values edits r.sound e,
      insert-allowed session s values (table_named table (catalog s)) edits r.sound (λ t f. named_table s table t r f) e,
    ))
leaves_line session (Update table sets condition) s r i =
    leaves-statement session _ s r (λ edits e. (
      update-MayEdit session s table sets condition edits r.sound e,
      update-allowed session s sets condition (table_named table (catalog s)) edits r.sound (λ t f. (named_table s table t r f, table-user s table t r.sound f))
          (seen-fits (catalog s) s.found.cells s.entries (number_for (s.own session) s) (r.stand).fits
          (fresh_entries (number_for (s.own session) s) s (r.sound).entries (writes s session r.sound))) e,
    ))
leaves_line session (Delete table condition) s r i =
    leaves-statement session _ s r (λ edits e. (
      delete-MayEdit session s table condition edits r.sound e,
      delete_allowed session s condition (table_named table (catalog s)) edits e,
    ))
leaves_line session (Select table items condition order) s r i = selected-has Leaves (meant_by_select session s table items condition order) s (leaves-self s r)
leaves_line session CommitLine s r i = leaves-commit session (s.own session) s r refl
leaves_line session Rollback s r i = leaves-rollback session (s.own session) s r refl
leaves_line session DurableCommit s r i = leaves-self s r
leaves_line session Flush s r i = leaves-forced true s (leaves-self s r)
leaves_line session LogHolds s r i = leaves-self s r
leaves_line session Bookmark s r i = leaves-self s r
leaves_line session (CreateTable x columns key) s r i =
    leaves-system _ s r (λ edits e.
    new_rows s edits r (create_table-new session s x columns key edits e) (create_table-of_system session s x columns key edits e)
    (λ m user has. create_table-elsewhere m session s x columns key edits r.sound (row-has_table s m r.stand user has) e))
leaves_line session (CreateIndex x table columns unique) s r i = leaves-system_by _ s r i
leaves_line session (XlaCreate x) s r i =
    leaves-system _ s r (λ edits e.
    new_rows s edits r (create_bookmark-new session s x edits e) (create_bookmark-of_system session s x edits e) (λ m user has. create_bookmark-elsewhere m session s x edits e))
leaves_line session (XlaSubscribe table x) s r i =
    leaves-system _ s r (λ edits e.
    new_rows s edits r (subscribe_new session s table x edits e) (subscribe-of_system session s x (table_named table (catalog s)) edits e)
    (λ m user has. subscribe-elsewhere m session s x (table_named table (catalog s)) edits e))
leaves_line session (DropTable x) s r i =
    leaves-system _ s r (λ edits e.
    good_rows s edits r (drop_table-good session s x edits e) (drop_table-of_system session s (table_named x (catalog s)) edits e)
    (λ m user has. drop_table-leaves m session s (table_named x (catalog s)) edits r.sound has e))
leaves_line session (DropIndex x) s r i =
    leaves-system _ s r (λ edits e.
    good_rows s edits r (drop_index-good session s x edits e) (drop_index-of_system session s (index_named x (catalog s)) edits e)
    (λ m user has. drop_index-elsewhere m session s (index_named x (catalog s)) edits e))
leaves_line session (XlaDelete x) s r i =
    leaves-system _ s r (λ edits e.
    good_rows s edits r (delete_bookmark-good session s x edits e) (delete_bookmark-of_system session s x (bookmark x s) edits e)
    (λ m user has. delete_bookmark-elsewhere m session s x (bookmark x s) edits e))
leaves_line session (XlaUnsubscribe table x) s r i =
    leaves-system _ s r (λ edits e.
    good_rows s edits r (unsubscribe-good session s table x edits e) (unsubscribe-of_system session s x (table_named table (catalog s)) edits e)
    (λ m user has. unsubscribe-elsewhere m session s x (table_named table (catalog s)) edits e))
leaves_line session XlaAcknowledge s r i =
    leaves-system _ s r (λ edits e.
    good_rows s edits r (acknowledge-good session s edits e) (acknowledge-of_system session s (s.reader session) edits e)
    (λ m user has. acknowledge-elsewhere m session s (s.reader session) edits e))
leaves_line session (XlaOpen x) s r i = leaves_opened session x s (is_some (s.reader session)) (leaves-self s r)
leaves_line session (XlaNext count) s r i = leaves_given session (s.reader session) count s (leaves-self s r)
leaves_line session XlaClose s r i = leaves_closed session (s.reader session) s (leaves-self s r)
leaves_line session (BackupLine set kind) s r i = leaves_backup session set (set_work kind set s) s r
leaves_line session Ckpt s r i =
    leaves-unless (option_or (checkpoint_open s) (no_checkpoint_number s)) (begun_reply s) (begin_checkpoint s) s (leaves-self s r) (through_begin s (leaves-self s r))
leaves_line session CkptBlocking s r i =
    let begun : State = begin_checkpoint s in
    leaves-unless (option_or (checkpoint_open s) (option_or (least_open (live_in s)) (no_checkpoint_number s))) (begun_reply s) (with_completion (with_all_copies begun)) s (leaves-self s r)
    (through_completion (with_all_copies begun) (through_all_copies begun (through_begin s (leaves-self s r))))

abbrev pub AnswerLeaves : ℕ → Result Command Refusal → State → Type 0
AnswerLeaves session (Ok command) s = IndexLeaves session command s
AnswerLeaves session (Err r) s = Unit {0}

pub leaves-answers : (session : ℕ) (what : Result Command Refusal) (s : State) (reply : Reply) (after : State) → IsReady s → AnswerLeaves session what s →
    Answers session what s reply after → Leaves after
leaves-answers session (Ok command) s reply after r i (inl t) = subst Leaves (sym (t.1)) (leaves_line session command s r i)
leaves-answers session (Err x) s reply after r i (inl t) = subst Leaves (sym (t.1)) (leaves-self s r)
leaves-answers session (Err x) s reply after r i (inr w) = absurd w
leaves-answers session (Ok command) s reply after r i (inr w) = elim (w.2) [
  | inl same ↦ subst Leaves (sym same) (leaves-self s r)
  | inr forced ↦ subst Leaves (sym (forced.1)) (leaves-forced true s (leaves-self s r))
]

-- ---- each round

ready_copied : (n : ℕ) (o : Option Underway) (s : State) → IsSound (copied n o s) → IsReady s → IsReady (copied n o s)
ready_copied n None s h r = r
ready_copied n (Some b) s h r = record { sound = h; held = r.held; own = r.own; stand = r.stand }

pub ready-with_copies : (s : State) → IsSound (with_copies s) → IsReady s → IsReady (with_copies s)
unfolding with_copies
ready-with_copies s h r = ready_copied s.settings.ckpt_pages s.underway s h r

pub leaves-step : (s : State) (session : ℕ) (what : Result Command Refusal) (reply : Reply) (after : State) → IsReady s → IsSound (with_copies s) →
    AnswerLeaves session what (with_copies s) → Step s session what reply after → Leaves after
leaves-step s session what reply after r h i st =
    subst Leaves (sym st.is) (through_after s.underway st.between (leaves-answers session what (with_copies s) reply st.between (ready-with_copies s h r) i st.line))

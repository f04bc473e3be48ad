-- Lines that begin and end no checkpoint append entries, force, and change what stands beside the log. So a relation of states that
-- goes through these goes through each such line.
use Rattle.std.proofs.Common.{◌≡◌, ℕ, suc, Bool, true, false, cond, List, [], ◌∷◌, map, length, Option, Some, None, refl, true≢false}
use Rattle.std.specs.Prelude.{option_map, is_some}
use Rattle.std.specs.Option.{option_or}
use Rattle.tt_value.specs.declared.refusal.Refusal.{Refusal}
use Rattle.tt_value.specs.declared.reply.Reply.{Reply}
use Rattle.tt_parse.specs.declared.command.Command.{Command}
use Rattle.tt_parse.specs.declared.command.Command.TheVariants.{CreateTable, DropTable, CreateIndex, DropIndex, Insert, Update, Delete, Select, Commit as CommitLine, Rollback, DurableCommit, Flush, Ckpt, CkptBlocking, LogHolds, Bookmark, Backup as BackupLine, XlaCreate, XlaDelete, XlaSubscribe, XlaUnsubscribe, XlaOpen, XlaNext, XlaAcknowledge, XlaClose}
use Rattle.tt_value.specs.declared.refusal.Refusal.TheVariants.{BookmarkBusy}
use Rattle.tt_value.specs.declared.reply.Reply.TheVariants.{Done, Changed}
use Rattle.tt_record.specs.declared.entry.Entry.{Entry}
use Rattle.tt_record.specs.declared.entry.Entry.TheVariants.{Change, Commit, Abort}
use Rattle.tt_model.specs.Tables.{PlacedRow}
use Rattle.tt_model.specs.Sets.{SetStanding, Readable}
use Rattle.tt_model.specs.State.{State, Reader, at_one, place_for, next, write_position, with_entry, with_edit, with_edits, all_forced, reversals}
use Rattle.tt_model.specs.declared.definition.CellEdit.{CellEdit}
use Rattle.tt_model.specs.Meaning.{Meant, Refuses, Makes, meant_by_select}
use Rattle.tt_model.specs.System.{bookmark, reader_on, deletes}
use Rattle.tt_model.specs.Backups.{backup_refusal, row_of_set, set_edit, full_now, extended_now, with_set, SetWork, MakesSet, ContinuesSet, EndsSet, set_work}
use Rattle.tt_model.specs.Step.{line, unless_refused, forced_where, number_for, no_number_for, no_position, no_system_position, edit_length, end_length, rollback_lengths, is_durable, with_reader, kept_read, next_read_of, made, made_in, statement, session_ended, commit_of, rollback_of, rolled_back, system, system_done, open_at, refused, given, closed, backed_up, backup_position, no_skip, given_to, backup_line}
use Rattle.tt_model.proofs.LineLemmas.{selected-has}

-- A line that begins or ends a checkpoint.
abbrev pub is_checkpoint : Command → Bool
is_checkpoint Ckpt = true
is_checkpoint CkptBlocking = true
is_checkpoint _ = false

-- A line of a reader.
abbrev pub is_readers : Command → Bool
is_readers (XlaOpen name) = true
is_readers (XlaNext n) = true
is_readers XlaClose = true
is_readers _ = false

abbrev pub beside : (ℕ → Option ℕ) → (ℕ → Bool) → (ℕ → Option SetStanding) → State → State
beside own wish sets s = record s { own = own; wish = wish; sets = sets }

-- The readers may change, where readers is true.
module _ (R : State → State → Type 0) (readers : Bool) (same : (s : State) → R s s) (then : (s mid after : State) → R s mid → R mid after → R s after)
    (entry : (e : Entry) (s : State) → R s (with_entry e s)) (force : (s : State) → R s (all_forced s))
    (aside : (own : ℕ → Option ℕ) (wish : ℕ → Bool) (sets : ℕ → Option SetStanding) (s : State) → R s (beside own wish sets s))
    (reading : readers ≡ true → (reader : ℕ → Option Reader) (s : State) → R s (record s { reader = reader })) where
  r-with_edits : (t : ℕ) (edits : List CellEdit) (s : State) → R s (with_edits t edits s)
  r-with_edits t [] s = same s
  r-with_edits t (edit ∷ edits) s = then s (with_edit t edit s) (with_edits t edits (with_edit t edit s)) (entry (Change t (place_for edit.place s) edit.before edit.after) s) (r-with_edits t edits (with_edit t edit s))

  r-forced_where : (c : Bool) (s : State) → R s (forced_where c s)
  r-forced_where true s = force s
  r-forced_where false s = same s

  r-unless : (o : Option Refusal) (reply : Reply) (after s : State) → R s after → R s ((unless_refused o (reply, after) s).1)
  r-unless None reply after s a = a
  r-unless (Some r) reply after s a = same s

  -- ---- lines

  r-made : (session : ℕ) (edits : List CellEdit) (s : State) → R s ((made session edits s).1)
  r-made session [] s = same s
  r-made session (e ∷ es) s =
      let t : ℕ = number_for (s.own session) s in
      r-unless (option_or (no_number_for (s.own session) s) (no_position (map edit_length (e ∷ es)) s)) (Changed (suc (length es))) (made_in session t (e ∷ es) s) s
      (let end : State = with_edits t (e ∷ es) s in then s end (made_in session t (e ∷ es) s) (r-with_edits t (e ∷ es) s) (aside (at_one session (Some t) s.own) end.wish end.sets end))

  r-statement : (session : ℕ) (m : Meant) (s : State) → R s ((statement session m s).1)
  r-statement session (Refuses r) s = same s
  r-statement session (Makes edits) s = r-made session edits s

  r-settled : (session : ℕ) (s after : State) → R s after → R s (session_ended session after)
  r-settled session s after a = then s after (session_ended session after) a (aside (at_one session None after.own) (at_one session false after.wish) after.sets after)

  r-commit_of : (session : ℕ) (o : Option ℕ) (s : State) → R s ((commit_of session o s).1)
  r-commit_of session None s = r-settled session s (forced_where (is_durable session s) s) (r-forced_where (is_durable session s) s)
  r-commit_of session (Some t) s =
      let mid : State = with_entry (Commit t) s in
      let end : State = forced_where (is_durable session s) mid in
      r-unless (no_position (end_length ∷ []) s) Done (session_ended session end) s
      (r-settled session s end (then s mid end (entry (Commit t) s) (r-forced_where (is_durable session s) mid)))

  pub rolled-through : (t : ℕ) (s : State) → R s (rolled_back t s)
  rolled-through t s =
      then s (with_edits t (reversals t s.entries) s) (rolled_back t s) (r-with_edits t (reversals t s.entries) s) (entry (Abort t) (with_edits t (reversals t s.entries) s))

  r-rollback_of : (session : ℕ) (o : Option ℕ) (s : State) → R s ((rollback_of session o s).1)
  r-rollback_of session None s = r-settled session s s (same s)
  r-rollback_of session (Some t) s = r-unless (no_position (rollback_lengths t s) s) Done (session_ended session (rolled_back t s)) s (r-settled session s (rolled_back t s) (rolled-through t s))

  r-in_one : (t : ℕ) (edits : List CellEdit) (c : Bool) (s : State) → R s (forced_where c (with_entry (Commit t) (with_edits t edits s)))
  r-in_one t edits c s =
      let made : State = with_edits t edits s in
      let mid : State = with_entry (Commit t) made in
      then s made (forced_where c mid) (r-with_edits t edits s) (then made mid (forced_where c mid) (entry (Commit t) made) (r-forced_where c mid))

  r-system_done : (edits : List CellEdit) (s : State) → R s (system_done edits s)
  r-system_done edits s = r-in_one (next s) edits s.settings.durable_commits s

  r-system : (m : Meant) (s : State) → R s ((system m s).1)
  r-system (Refuses r) s = same s
  r-system (Makes edits) s = r-unless (no_system_position edits s) Done (system_done edits s) s (r-system_done edits s)

  r-open_at : readers ≡ true → (session : ℕ) (name : List ℕ) (o : Option PlacedRow) (s : State) → R s ((open_at session name o s).1)
  r-open_at y session name None s = same s
  r-open_at y session name (Some r) s =
      r-unless (option_map BookmarkBusy (reader_on name s)) Done (with_reader session (Some (record { bookmark = name; place = kept_read r })) s) s
      (reading y (at_one session (Some (record { bookmark = name; place = kept_read r })) s.reader) s)

  r-opened : readers ≡ true → (session : ℕ) (name : List ℕ) (s : State) (c : Bool) → R s ((cond c (refused (BookmarkBusy session) s) (open_at session name (bookmark name s) s)).1)
  r-opened y session name s true = same s
  r-opened y session name s false = r-open_at y session name (bookmark name s) s

  r-given : readers ≡ true → (session : ℕ) (o : Option Reader) (n : ℕ) (s : State) → R s ((given session o n s).1)
  r-given y session None n s = same s
  r-given y session (Some r) n s =
      r-unless (no_skip (next_read_of r n s)) ((given_to session r n s).0) ((given_to session r n s).1) s
      (reading y (at_one session (Some (record r { place = next_read_of r n s })) s.reader) s)

  r-closed : readers ≡ true → (session : ℕ) (o : Option Reader) (s : State) → R s ((closed session o s).1)
  r-closed y session None s = same s
  r-closed y session (Some r) s = reading y (at_one session None s.reader) s

  r-with_set : (set : ℕ) (standing : Option SetStanding) (s : State) → R s (with_set set standing (all_forced s))
  r-with_set set standing s =
      let end : State = all_forced s in then s end (with_set set standing end) (force s) (aside end.own end.wish (at_one set standing end.sets) end)

  r-set : (set : ℕ) (standing : Option SetStanding) (edits : List CellEdit) (s : State) → R s (system_done edits (with_set set standing (all_forced s)))
  r-set set standing edits s =
      then s (with_set set standing (all_forced s)) (system_done edits (with_set set standing (all_forced s))) (r-with_set set standing s)
      (r-system_done edits (with_set set standing (all_forced s)))

  r-stop : (s : State) (o : Option PlacedRow) → R s (elim o [ None ↦ s | Some r ↦ system_done (deletes 6 r ∷ []) s ])
  r-stop s None = same s
  r-stop s (Some r) = r-system_done (deletes 6 r ∷ []) s

  r-backed_up : (set : ℕ) (work : SetWork) (s : State) → R s ((backed_up set work s).1)
  r-backed_up set (MakesSet false) s = r-with_set set (Some (Readable (full_now s))) s
  r-backed_up set (MakesSet true) s = r-set set (Some (Readable (full_now s))) (set_edit (row_of_set set s) set (write_position s) ∷ []) s
  r-backed_up set ContinuesSet s = r-set set (extended_now (s.sets set) s) (set_edit (row_of_set set s) set (write_position s) ∷ []) s
  r-backed_up set EndsSet s = r-stop s (row_of_set set s)

  r-backup_line : (session set : ℕ) (work : SetWork) (s : State) → R s ((backup_line session set work s).1)
  r-backup_line session set work s = r-unless (option_or (backup_refusal session s set work) (backup_position set work s)) ((backed_up set work s).0) ((backed_up set work s).1) s (r-backed_up set work s)

  pub line-through : (session : ℕ) (command : Command) (s : State) → is_checkpoint command ≡ false → (is_readers command ≡ true → readers ≡ true) → R s ((line session command s).1)
  unfolding line
  line-through session (Insert table values) s n y = r-statement session _ s
  line-through session (Update table sets cond) s n y = r-statement session _ s
  line-through session (Delete table cond) s n y = r-statement session _ s
  line-through session (Select table items cond order) s n y = selected-has (R s) (meant_by_select session s table items cond order) s (same s)
  line-through session CommitLine s n y = r-commit_of session (s.own session) s
  line-through session Rollback s n y = r-rollback_of session (s.own session) s
  line-through session DurableCommit s n y = aside s.own (at_one session true s.wish) s.sets s
  line-through session Flush s n y = force s
  line-through session LogHolds s n y = same s
  line-through session Bookmark s n y = same s
  line-through session (CreateTable name columns key) s n y = r-system _ s
  line-through session (DropTable name) s n y = r-system _ s
  line-through session (CreateIndex name table columns unique) s n y = r-system _ s
  line-through session (DropIndex name) s n y = r-system _ s
  line-through session (XlaCreate name) s n y = r-system _ s
  line-through session (XlaDelete name) s n y = r-system _ s
  line-through session (XlaSubscribe table name) s n y = r-system _ s
  line-through session (XlaUnsubscribe table name) s n y = r-system _ s
  line-through session XlaAcknowledge s n y = r-system _ s
  line-through session (XlaOpen name) s n y = r-opened (y refl) session name s (is_some (s.reader session))
  line-through session (XlaNext count) s n y = r-given (y refl) session (s.reader session) count s
  line-through session XlaClose s n y = r-closed (y refl) session (s.reader session) s
  line-through session (BackupLine set kind) s n y = r-backup_line session set (set_work kind set s) s
  line-through session Ckpt s n y = absurd (true≢false n)
  line-through session CkptBlocking s n y = absurd (true≢false n)

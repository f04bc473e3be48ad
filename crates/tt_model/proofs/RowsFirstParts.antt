-- Each line adds entries behind which there is committed what was before, and from its commit on what there is behind the line.
use Rattle.std.proofs.Common.{◌≡◌, ◌≤◌, ◌+◌, ◌-◌, inl, inr, ℕ, zero, suc, Bool, true, false, cond, List, [], ◌∷◌, drop, length-append, map, Option, Some, None, if◌then◌else◌, sym, subst, arith}
use Rattle.std.specs.Prelude.{◌==◌, length, is_some, option_map, Result, Ok, Err}
use Rattle.std.specs.Option.{option_or}
use Rattle.tt_value.specs.declared.refusal.Refusal.{Refusal}
use Rattle.tt_value.specs.declared.refusal.Refusal.TheVariants.{BookmarkBusy}
use Rattle.tt_value.specs.declared.reply.Reply.{Reply}
use Rattle.tt_value.specs.declared.reply.Reply.TheVariants.{Done}
use Rattle.tt_parse.specs.declared.command.Command.{Command}
use Rattle.tt_parse.specs.declared.command.Command.TheVariants.{CreateTable, DropTable, CreateIndex, DropIndex, Insert, Update, Delete, Select, Commit as CommitLine, Rollback, DurableCommit, Flush, Ckpt, CkptBlocking, LogHolds, Bookmark, Backup as BackupLine, XlaCreate, XlaDelete, XlaSubscribe, XlaUnsubscribe, XlaOpen, XlaNext, XlaAcknowledge, XlaClose}
use Rattle.tt_record.specs.declared.entry.Entry.TheVariants.{Abort, Commit}
use Rattle.tt_model.specs.Trail.{Trail}
use Rattle.tt_model.specs.Committed.{Cells, committed}
use Rattle.tt_model.specs.Sets.{Readable, SetStanding}
use Rattle.tt_model.specs.Tables.{PlacedRow}
use Rattle.tt_model.specs.State.{Underway, Reader, State, all_forced, cells_of, live_in, new_among, next, reversals, trail, with_edit, with_edits, with_entry, write_position}
use Rattle.tt_model.specs.declared.definition.CellEdit.{CellEdit}
use Rattle.tt_model.specs.Meaning.{Makes, Meant, Refuses, meant_by_select}
use Rattle.tt_model.specs.System.{bookmark, deletes, reader_on}
use Rattle.tt_model.specs.Backups.{backup_refusal, extended_now, full_now, row_of_set, set_edit, with_set, SetWork, MakesSet, ContinuesSet, EndsSet, set_work}
use Rattle.tt_model.specs.Checkpoint.{begin_checkpoint, complete_where_due, completed, copied, with_all_copies, with_completion, with_copies}
use Rattle.tt_model.specs.Step.{Answers, Step, backed_up, backup_position, begun_reply, checkpoint_open, closed, commit_of, completion_after, edit_length, end_length, forced_where, given, given_to, is_durable, kept_read, least_open, line, made, made_in, next_read_of, no_checkpoint_number, no_number_for, no_position, no_skip, no_system_position, number_for, open_at, refused, rollback_lengths, rollback_of, rolled_back, session_ended, statement, system, system_done, unless_refused, with_reader, backup_line}
use Rattle.tt_model.specs.Run.{ended, ended_one, has_position, roll_all}
use Rattle.tt_model.proofs.LineLemmas.{selected-has}

-- Each first part of the new entries has it, by what is committed there.
abbrev pub FirstPartsHave : (Cells → Type 0) → Cells → Trail → Type 0
FirstPartsHave Q base [] = Q base
FirstPartsHave Q base (e ∷ es) = Q (committed base (e ∷ es)) × FirstPartsHave Q base es

pub whole-has : (Q : Cells → Type 0) (base : Cells) (es : Trail) → FirstPartsHave Q base es → Q (committed base es)
unfolding committed
whole-has Q base [] h = h
whole-has Q base (e ∷ es) h = h.0

abbrev pub StateHas : (Cells → Type 0) → State → Type 0
StateHas Q s = FirstPartsHave Q s.found.cells s.entries

module _ (Q : Cells → Type 0) where
  -- Where what is committed has it, each first part does.
  Adds : State → Type 0
  Adds s = Q (cells_of s) → StateHas Q s

  self : (s : State) → StateHas Q s → Adds s
  unfolding Adds
  self s h q = h

  unless : (o : Option Refusal) (reply : Reply) (after s : State) → StateHas Q s → Adds after → Adds ((unless_refused o (reply, after) s).1)
  unless None reply after s h a = a
  unless (Some r) reply after s h a = self s h

  forced : (c : Bool) (s : State) → Adds s → Adds (forced_where c s)
  unfolding Adds all_forced
  forced true s a = a
  forced false s a = a

  -- ---- edits, commits and rollbacks

  edits_have : (t : ℕ) (edits : List CellEdit) (s : State) → StateHas Q s → StateHas Q (with_edits t edits s)
  unfolding with_entry committed
  edits_have t [] s h = h
  edits_have t (e ∷ es) s h = edits_have t es (with_edit t e s) (whole-has Q s.found.cells s.entries h, h)

  abort_has : (t : ℕ) (s : State) → StateHas Q s → StateHas Q (with_entry (Abort t) s)
  unfolding with_entry committed
  abort_has t s h = (whole-has Q s.found.cells s.entries h, h)

  commit_adds : (t : ℕ) (s : State) → StateHas Q s → Adds (with_entry (Commit t) s)
  unfolding Adds with_entry
  commit_adds t s h q = (q, h)

  adds_made : (session : ℕ) (edits : List CellEdit) (s : State) → StateHas Q s → Adds ((made session edits s).1)
  unfolding Adds
  adds_made session [] s h = self s h
  adds_made session (e ∷ es) s h =
      unless (option_or (no_number_for (s.own session) s) (no_position (map edit_length (e ∷ es)) s)) _ (made_in session (number_for (s.own session) s) (e ∷ es) s) s h
      (λ q. edits_have (number_for (s.own session) s) (e ∷ es) s h)

  adds_statement : (session : ℕ) (m : Meant) (s : State) → StateHas Q s → Adds ((statement session m s).1)
  adds_statement session (Refuses r) s h = self s h
  adds_statement session (Makes edits) s h = adds_made session edits s h

  adds_commit : (session : ℕ) (o : Option ℕ) (s : State) → StateHas Q s → Adds ((commit_of session o s).1)
  unfolding Adds
  adds_commit session None s h = forced (is_durable session s) s (self s h)
  adds_commit session (Some t) s h =
      let mid : State = with_entry (Commit t) s in
      unless (no_position (end_length ∷ []) s) Done (session_ended session (forced_where (is_durable session s) mid)) s h (forced (is_durable session s) mid (commit_adds t s h))

  rolled_has : (t : ℕ) (s : State) → StateHas Q s → StateHas Q (rolled_back t s)
  rolled_has t s h = abort_has t (with_edits t (reversals t s.entries) s) (edits_have t (reversals t s.entries) s h)

  adds_rollback : (session : ℕ) (o : Option ℕ) (s : State) → StateHas Q s → Adds ((rollback_of session o s).1)
  unfolding Adds
  adds_rollback session None s h = self s h
  adds_rollback session (Some t) s h = unless (no_position (rollback_lengths t s) s) Done (session_ended session (rolled_back t s)) s h (λ q. rolled_has t s h)

  adds_done : (edits : List CellEdit) (s : State) → StateHas Q s → Adds (system_done edits s)
  adds_done edits s h =
      let made : State = with_edits (next s) edits s in
      forced s.settings.durable_commits (with_entry (Commit (next s)) made) (commit_adds (next s) made (edits_have (next s) edits s h))

  adds_system : (m : Meant) (s : State) → StateHas Q s → Adds ((system m s).1)
  adds_system (Refuses r) s h = self s h
  adds_system (Makes edits) s h = unless (no_system_position edits s) Done (system_done edits s) s h (adds_done edits s h)

  -- ---- backups

  set_has : (set : ℕ) (standing : Option SetStanding) (s : State) → StateHas Q s → StateHas Q (with_set set standing (all_forced s))
  unfolding all_forced
  set_has set standing s h = h

  adds_stop : (s : State) (o : Option PlacedRow) → StateHas Q s → Adds (elim o as (λ x. State) [ None ↦ s | Some r ↦ system_done (deletes 6 r ∷ []) s ])
  adds_stop s None h = self s h
  adds_stop s (Some r) h = adds_done (deletes 6 r ∷ []) s h

  adds_set : (set : ℕ) (standing : Option SetStanding) (s : State) → StateHas Q s →
      Adds (system_done (set_edit (row_of_set set s) set (write_position s) ∷ []) (with_set set standing (all_forced s)))
  adds_set set standing s h = adds_done (set_edit (row_of_set set s) set (write_position s) ∷ []) (with_set set standing (all_forced s)) (set_has set standing s h)

  adds_backed_up : (set : ℕ) (work : SetWork) (s : State) → StateHas Q s → Adds ((backed_up set work s).1)
  adds_backed_up set (MakesSet false) s h = self (with_set set (Some (Readable (full_now s))) (all_forced s)) (set_has set (Some (Readable (full_now s))) s h)
  adds_backed_up set (MakesSet true) s h = adds_set set (Some (Readable (full_now s))) s h
  adds_backed_up set ContinuesSet s h = adds_set set (extended_now (s.sets set) s) s h
  adds_backed_up set EndsSet s h = adds_stop s (row_of_set set s) h

  adds_backup : (session set : ℕ) (work : SetWork) (s : State) → StateHas Q s → Adds ((backup_line session set work s).1)
  adds_backup session set work s h =
      unless (option_or (backup_refusal session s set work) (backup_position set work s)) ((backed_up set work s).0) ((backed_up set work s).1) s h (adds_backed_up set work s h)

  -- ---- readers and checkpoints

  adds_open_at : (session : ℕ) (name : List ℕ) (o : Option PlacedRow) (s : State) → StateHas Q s → Adds ((open_at session name o s).1)
  unfolding Adds
  adds_open_at session name None s h = self s h
  adds_open_at session name (Some r) s h =
      unless (option_map BookmarkBusy (reader_on name s)) Done (with_reader session (Some (record { bookmark = name; place = kept_read r })) s) s h (self s h)

  adds_opened : (session : ℕ) (name : List ℕ) (s : State) (c : Bool) → StateHas Q s → Adds ((cond c (refused (BookmarkBusy session) s) (open_at session name (bookmark name s) s)).1)
  adds_opened session name s true h = self s h
  adds_opened session name s false h = adds_open_at session name (bookmark name s) s h

  adds_given : (session : ℕ) (o : Option Reader) (n : ℕ) (s : State) → StateHas Q s → Adds ((given session o n s).1)
  unfolding Adds
  adds_given session None n s h = self s h
  adds_given session (Some r) n s h = unless (no_skip (next_read_of r n s)) ((given_to session r n s).0) ((given_to session r n s).1) s h (self s h)

  adds_closed : (session : ℕ) (o : Option Reader) (s : State) → StateHas Q s → Adds ((closed session o s).1)
  unfolding Adds
  adds_closed session None s h = self s h
  adds_closed session (Some r) s h = self s h

  through_copied : (n : ℕ) (o : Option Underway) (s : State) → Adds s → Adds (copied n o s)
  unfolding Adds
  through_copied n None s a = a
  through_copied n (Some b) s a = a

  through_all_copies : (s : State) → Adds s → Adds (with_all_copies s)
  unfolding with_all_copies
  through_all_copies s a = through_copied s.pages s.underway s a

  through_begin : (s : State) → Adds s → Adds (begin_checkpoint s)
  unfolding Adds begin_checkpoint
  through_begin s a = a

  through_completed : (b : Underway) (s : State) → Adds s → Adds (completed b s)
  unfolding Adds completed all_forced
  through_completed b s a = a

  through_due : (b : Underway) (s : State) (c : Bool) → Adds s → Adds (if c then completed b s else s)
  through_due b s true a = through_completed b s a
  through_due b s false a = a

  through_where : (o : Option Underway) (s : State) → Adds s → Adds (complete_where_due o s)
  through_where None s a = a
  through_where (Some b) s a = through_due b s (length b.left == 0) a

  through_completion : (s : State) → Adds s → Adds (with_completion s)
  unfolding with_completion
  through_completion s a = through_where s.underway s a

  through_after : (o : Option Underway) (s : State) → Adds s → Adds (completion_after o s)
  through_after None s a = a
  through_after (Some b) s a = through_completion s a

  -- ---- each line and each round

  adds_line : (session : ℕ) (command : Command) (s : State) → StateHas Q s → Adds ((line session command s).1)
  unfolding Adds line
  adds_line session (Insert table values) s h = adds_statement session _ s h
  adds_line session (Update table sets condition) s h = adds_statement session _ s h
  adds_line session (Delete table condition) s h = adds_statement session _ s h
  adds_line session (Select table items condition order) s h = selected-has Adds (meant_by_select session s table items condition order) s (self s h)
  adds_line session CommitLine s h = adds_commit session (s.own session) s h
  adds_line session Rollback s h = adds_rollback session (s.own session) s h
  adds_line session DurableCommit s h = self s h
  adds_line session Flush s h = forced true s (self s h)
  adds_line session LogHolds s h = self s h
  adds_line session Bookmark s h = self s h
  adds_line session (CreateTable x columns key) s h = adds_system _ s h
  adds_line session (CreateIndex x table columns unique) s h = adds_system _ s h
  adds_line session (XlaCreate x) s h = adds_system _ s h
  adds_line session (XlaSubscribe table x) s h = adds_system _ s h
  adds_line session (DropTable x) s h = adds_system _ s h
  adds_line session (DropIndex x) s h = adds_system _ s h
  adds_line session (XlaDelete x) s h = adds_system _ s h
  adds_line session (XlaUnsubscribe table x) s h = adds_system _ s h
  adds_line session XlaAcknowledge s h = adds_system _ s h
  adds_line session (XlaOpen x) s h = adds_opened session x s (is_some (s.reader session)) h
  adds_line session (XlaNext count) s h = adds_given session (s.reader session) count s h
  adds_line session XlaClose s h = adds_closed session (s.reader session) s h
  adds_line session (BackupLine set kind) s h = adds_backup session set (set_work kind set s) s h
  adds_line session Ckpt s h = unless (option_or (checkpoint_open s) (no_checkpoint_number s)) (begun_reply s) (begin_checkpoint s) s h (through_begin s (self s h))
  adds_line session CkptBlocking s h =
      let begun : State = begin_checkpoint s in
      unless (option_or (checkpoint_open s) (option_or (least_open (live_in s)) (no_checkpoint_number s))) (begun_reply s) (with_completion (with_all_copies begun)) s h
      (through_completion (with_all_copies begun) (through_all_copies begun (through_begin s (self s h))))

  adds_answers : (session : ℕ) (what : Result Command Refusal) (s : State) (reply : Reply) (after : State) → StateHas Q s → Answers session what s reply after → Adds after
  adds_answers session (Ok command) s reply after h (inl t) = subst Adds (sym (t.1)) (adds_line session command s h)
  adds_answers session (Err x) s reply after h (inl t) = subst Adds (sym (t.1)) (self s h)
  adds_answers session (Err x) s reply after h (inr w) = absurd w
  adds_answers session (Ok command) s reply after h (inr w) = elim (w.2) [
    | inl same ↦ subst Adds (sym same) (self s h)
    | inr all ↦ subst Adds (sym (all.1)) (forced true s (self s h))
  ]

  has_copied : (n : ℕ) (o : Option Underway) (s : State) → StateHas Q s → StateHas Q (copied n o s)
  has_copied n None s h = h
  has_copied n (Some b) s h = h

  has_copies : (s : State) → StateHas Q s → StateHas Q (with_copies s)
  unfolding with_copies
  has_copies s h = has_copied s.settings.ckpt_pages s.underway s h

  -- A round whose first parts had it has it, where what is committed behind it has.
  pub adds-step : (s : State) (session : ℕ) (what : Result Command Refusal) (reply : Reply) (after : State) → Step s session what reply after → StateHas Q s → Q (cells_of after) → StateHas Q after
  unfolding Adds
  adds-step s session what reply after st h =
      subst Adds (sym st.is) (through_after s.underway st.between (adds_answers session what (with_copies s) reply st.between (has_copies s h) st.line))

  -- ---- the end of a run

  roll_has : (s : State) (rest : Bool × State) (c : Bool) → StateHas Q s → StateHas Q (rest.1) → StateHas Q ((elim c as (λ x. Bool × State) [ true ↦ rest | false ↦ (false, s) ]).1)
  roll_has s rest true h k = k
  roll_has s rest false h k = h

  all_rolled : (ts : List ℕ) (s : State) → StateHas Q s → StateHas Q ((roll_all ts s).1)
  unfolding all_forced
  all_rolled [] s h = h
  all_rolled (t ∷ ts) s h = roll_has s (roll_all ts (ended_one t s)) (has_position t s) h (all_rolled ts (ended_one t s) (rolled_has t s h))

  pub adds-ended : (s : State) → StateHas Q s → StateHas Q ((ended s).1)
  unfolding ended
  adds-ended s h = all_rolled (live_in s) (record s { underway = None }) h

-- ---- by the count of entries

from-parts : (Q : Cells → Type 0) (base : Cells) (es : Trail) → FirstPartsHave Q base es → (m : ℕ) → Q (committed base (drop m es))
unfolding committed
from-parts Q base [] h zero = h
from-parts Q base [] h (suc m) = h
from-parts Q base (e ∷ es) h zero = h.0
from-parts Q base (e ∷ es) h (suc m) = from-parts Q base es (h.1) m

to-parts : (Q : Cells → Type 0) (base : Cells) (es : Trail) → ((m : ℕ) → m ≤ length es → Q (committed base (drop m es))) → FirstPartsHave Q base es
unfolding committed
to-parts Q base [] f = f 0 (omega arith)
to-parts Q base (e ∷ es) f = (f 0 (omega arith), to-parts Q base es (λ m l. f (suc m) (omega (arith, l))))

pub counts-from : (Q : Cells → Type 0) (s : State) → StateHas Q s → (n : ℕ) → Q (committed s.found.cells (new_among n s))
counts-from Q s h n = from-parts Q s.found.cells s.entries h (length s.entries - (n - length s.found.entries))

pub counts-to : (Q : Cells → Type 0) (s : State) → ((n : ℕ) → length s.found.entries ≤ n → n ≤ length (trail s) → Q (committed s.found.cells (new_among n s))) → StateHas Q s
counts-to Q s f =
    to-parts Q s.found.cells s.entries (λ m l.
    let n : ℕ = (length s.entries - m) + length s.found.entries in
    let whole : length (trail s) ≡ length s.entries + length s.found.entries = length-append s.entries s.found.entries in
    let same : length s.entries - (n - length s.found.entries) ≡ m = omega (arith, l) in
    subst (λ (k : ℕ). Q (committed s.found.cells (drop k s.entries))) same (f n (omega arith) (omega (arith, whole))))

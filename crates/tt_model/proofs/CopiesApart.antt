-- A line does the same before and behind the copies of its round: it looks at neither the stale pages nor the pages left.
use Rattle.std.proofs.Common.{◌≡◌, ℕ, Bool, true, false, cond, List, [], ◌∷◌, map, take, drop, length, Option, Some, None, refl, sym, ap, ap₂, subst, true≢false}
use Rattle.std.specs.Prelude.{option_map, is_some, Result, Ok, Err}
use Rattle.std.specs.Option.{option_or}
use Rattle.tt_value.specs.declared.refusal.Refusal.{Refusal}
use Rattle.tt_value.specs.declared.refusal.Refusal.TheVariants.{BookmarkBusy, CkptOpen}
use Rattle.tt_value.specs.declared.reply.Reply.{Reply}
use Rattle.tt_value.specs.declared.reply.Reply.TheVariants.{Done, Changed, Holds, Positions}
use Rattle.tt_parse.specs.declared.command.Command.{Command}
use Rattle.tt_parse.specs.declared.command.Command.TheVariants.{CreateTable, DropTable, CreateIndex, DropIndex, Insert, Update, Delete, Select, Commit as CommitLine, Rollback, DurableCommit, Flush, Ckpt, CkptBlocking, LogHolds, Bookmark, Backup as BackupLine, XlaCreate, XlaDelete, XlaSubscribe, XlaUnsubscribe, XlaOpen, XlaNext, XlaAcknowledge, XlaClose}
use Rattle.tt_parse.specs.declared.command.BackupKind.{BackupKind}
use Rattle.tt_record.specs.declared.entry.Entry.{Entry}
use Rattle.tt_record.specs.declared.entry.Entry.TheVariants.{Change, Commit, Abort}
use Rattle.tt_model.specs.Tables.{PlacedRow}
use Rattle.tt_model.specs.Sets.{SetStanding, Readable, Unreadable}
use Rattle.tt_model.specs.State.{State, Underway, Reader, all_forced, at_one, force_position, holds, live_in, next, place_for, reversals, stale_after, with_edit, with_edits, with_entry, write_position}
use Rattle.tt_model.specs.declared.definition.CellEdit.{CellEdit}
use Rattle.tt_model.specs.Checkpoint.{begin_checkpoint, copied, with_all_copies, with_completion, with_copies, without_pages}
use Rattle.tt_model.specs.Meaning.{Meant, Refuses, Makes, meant_by_select}
use Rattle.tt_model.specs.System.{bookmark, deletes, reader_on}
use Rattle.tt_model.specs.Backups.{backup_refusal, extended_now, full_now, row_of_set, set_edit, with_set, SetWork, MakesSet, ContinuesSet, EndsSet, set_work}
use Rattle.tt_model.specs.Holds.{least_hold_of}
use Rattle.tt_model.specs.Step.{Answered, backed_up, backup_position, begun_reply, blocking_line, checkpoint_line, closed, commit_of, edit_length, end_length, forced_where, given, given_to, next_read_of, no_skip, is_durable, least_open, line, made, made_in, no_checkpoint_number, no_number_for, no_position, no_system_position, number_for, open_at, refused, rollback_lengths, rollback_of, rolled_back, session_ended, statement, system, system_done, unless_refused, backup_line, selected}
use Rattle.tt_model.specs.StepLaws.{CopiesAndLinesAreApart, DifferInCopies}
use Rattle.tt_model.specs.Meant.{meant}
use Rattle.tt_model.proofs.LineRelation.{is_checkpoint}
use Rattle.tt_model.proofs.WorksApart.{works-apart}
use Rattle.tt_model.proofs.MeantApart.{aside, backup_place-aside, kind-aside, meant-aside, refusal-aside}
use Rattle.tt_value.specs.declared.value.Row.{Row}

-- Some stale pages, and this checkpoint under way, stand in the place of those of a state.
abbrev IsAside : Option Underway → State → State → Type 0
IsAside u s other = (stale : ℕ → ℕ → Bool) × (other ≡ aside stale u s)

abbrev AnswersAside : Option Underway → Answered → Answered → Type 0
AnswersAside u a other = (other.0 ≡ a.0) × IsAside u (a.1) (other.1)

module _ (u : Option Underway) where
  -- What goes for each state aside goes for another that is one.
  aside_then : (f : State → State) (s other : State) → ((stale : ℕ → ℕ → Bool) → IsAside u (f s) (f (aside stale u s))) → IsAside u s other → IsAside u (f s) (f other)
  aside_then f s other h (stale, is) = subst (λ (x : State). IsAside u (f s) (f x)) (sym is) (h stale)

  aside_entry : (e : Entry) (stale : ℕ → ℕ → Bool) (s : State) → IsAside u (with_entry e s) (with_entry e (aside stale u s))
  unfolding with_entry
  aside_entry e stale s = (stale_after e stale, refl)

  aside_place : (o : Option ℕ) (stale : ℕ → ℕ → Bool) (s : State) → place_for o (aside stale u s) ≡ place_for o s
  aside_place None stale s = refl
  aside_place (Some p) stale s = refl

  aside_edit : (t : ℕ) (edit : CellEdit) (stale : ℕ → ℕ → Bool) (s : State) → IsAside u (with_edit t edit s) (with_edit t edit (aside stale u s))
  aside_edit t edit stale s =
      subst (λ p. IsAside u (with_edit t edit s) (with_entry (Change t p edit.before edit.after) (aside stale u s))) (sym (aside_place edit.place stale s))
      (aside_entry (Change t (place_for edit.place s) edit.before edit.after) stale s)

  aside_edits : (t : ℕ) (edits : List CellEdit) (stale : ℕ → ℕ → Bool) (s : State) → IsAside u (with_edits t edits s) (with_edits t edits (aside stale u s))
  aside_edits t [] stale s = (stale, refl)
  aside_edits t (edit ∷ edits) stale s =
      aside_then (with_edits t edits) (with_edit t edit s) (with_edit t edit (aside stale u s)) (λ more. aside_edits t edits more (with_edit t edit s)) (aside_edit t edit stale s)

  aside_force : (stale : ℕ → ℕ → Bool) (s : State) → IsAside u (all_forced s) (all_forced (aside stale u s))
  unfolding all_forced
  aside_force stale s = (stale, refl)

  aside_where : (c : Bool) (stale : ℕ → ℕ → Bool) (s : State) → IsAside u (forced_where c s) (forced_where c (aside stale u s))
  aside_where true stale s = aside_force stale s
  aside_where false stale s = (stale, refl)

  aside_unless : (o : Option Refusal) (reply : Reply) (after other s : State) (stale : ℕ → ℕ → Bool) → IsAside u after other →
      AnswersAside u (unless_refused o (reply, after) s) (unless_refused o (reply, other) (aside stale u s))
  aside_unless None reply after other s stale h = (refl, h)
  aside_unless (Some r) reply after other s stale h = (refl, (stale, refl))

  -- ---- lines

  aside_made_in : (session t : ℕ) (edits : List CellEdit) (stale : ℕ → ℕ → Bool) (s : State) → IsAside u (made_in session t edits s) (made_in session t edits (aside stale u s))
  aside_made_in session t edits stale s =
      let (more, is) = aside_edits t edits stale s in (more, ap (λ (x : State). record x { own = at_one session (Some t) s.own }) is)

  -- edits that aren't none, of the own transaction or the next one
  abbrev made_for : ℕ → Option ℕ → List CellEdit → State → Answered
  made_for session o edits s =
      unless_refused (option_or (no_number_for o s) (no_position (map edit_length edits) s)) (Changed (length edits), made_in session (number_for o s) edits s) s

  aside_made_for : (session : ℕ) (o : Option ℕ) (edits : List CellEdit) (stale : ℕ → ℕ → Bool) (s : State) → AnswersAside u (made_for session o edits s) (made_for session o edits (aside stale u s))
  aside_made_for session None edits stale s =
      aside_unless (option_or (no_number_for None s) (no_position (map edit_length edits) s)) (Changed (length edits)) (made_in session (next s) edits s) (made_in session (next s) edits (aside stale u s)) s stale
      (aside_made_in session (next s) edits stale s)
  aside_made_for session (Some t) edits stale s =
      aside_unless (option_or None (no_position (map edit_length edits) s)) (Changed (length edits)) (made_in session t edits s) (made_in session t edits (aside stale u s)) s stale
      (aside_made_in session t edits stale s)

  aside_made : (session : ℕ) (edits : List CellEdit) (stale : ℕ → ℕ → Bool) (s : State) → AnswersAside u (made session edits s) (made session edits (aside stale u s))
  aside_made session [] stale s = (refl, (stale, refl))
  aside_made session (e ∷ es) stale s = aside_made_for session (s.own session) (e ∷ es) stale s

  aside_statement : (session : ℕ) (m : Meant) (stale : ℕ → ℕ → Bool) (s : State) → AnswersAside u (statement session m s) (statement session m (aside stale u s))
  aside_statement session (Refuses r) stale s = (refl, (stale, refl))
  aside_statement session (Makes edits) stale s = aside_made session edits stale s

  aside_settled : (session : ℕ) (s other : State) → IsAside u s other → IsAside u (session_ended session s) (session_ended session other)
  aside_settled session s other h = aside_then (session_ended session) s other (λ stale. (stale, refl)) h

  aside_commit : (session : ℕ) (o : Option ℕ) (stale : ℕ → ℕ → Bool) (s : State) → AnswersAside u (commit_of session o s) (commit_of session o (aside stale u s))
  aside_commit session None stale s =
      (refl, aside_settled session (forced_where (is_durable session s) s) (forced_where (is_durable session s) (aside stale u s)) (aside_where (is_durable session s) stale s))
  aside_commit session (Some t) stale s =
      let c : Bool = is_durable session s in
      let mid : State = with_entry (Commit t) s in
      let other : State = with_entry (Commit t) (aside stale u s) in
      aside_unless (no_position (end_length ∷ []) s) Done (session_ended session (forced_where c mid)) (session_ended session (forced_where c other)) s stale
      (aside_settled session (forced_where c mid) (forced_where c other) (aside_then (forced_where c) mid other (λ more. aside_where c more mid) (aside_entry (Commit t) stale s)))

  -- edits, and an entry behind them
  aside_behind : (t : ℕ) (edits : List CellEdit) (e : Entry) (stale : ℕ → ℕ → Bool) (s : State) → IsAside u (with_entry e (with_edits t edits s)) (with_entry e (with_edits t edits (aside stale u s)))
  aside_behind t edits e stale s =
      aside_then (with_entry e) (with_edits t edits s) (with_edits t edits (aside stale u s)) (λ more. aside_entry e more (with_edits t edits s)) (aside_edits t edits stale s)

  aside_rollback : (session : ℕ) (o : Option ℕ) (stale : ℕ → ℕ → Bool) (s : State) → AnswersAside u (rollback_of session o s) (rollback_of session o (aside stale u s))
  aside_rollback session None stale s = (refl, (stale, refl))
  aside_rollback session (Some t) stale s =
      aside_unless (no_position (rollback_lengths t s) s) Done (session_ended session (rolled_back t s)) (session_ended session (rolled_back t (aside stale u s))) s stale
      (aside_settled session (rolled_back t s) (rolled_back t (aside stale u s)) (aside_behind t (reversals t s.entries) (Abort t) stale s))

  aside_system_done : (edits : List CellEdit) (stale : ℕ → ℕ → Bool) (s : State) → IsAside u (system_done edits s) (system_done edits (aside stale u s))
  aside_system_done edits stale s =
      let c : Bool = s.settings.durable_commits in
      let mid : State = with_entry (Commit (next s)) (with_edits (next s) edits s) in
      aside_then (forced_where c) mid (with_entry (Commit (next s)) (with_edits (next s) edits (aside stale u s))) (λ more. aside_where c more mid)
      (aside_behind (next s) edits (Commit (next s)) stale s)

  aside_system : (m : Meant) (stale : ℕ → ℕ → Bool) (s : State) → AnswersAside u (system m s) (system m (aside stale u s))
  aside_system (Refuses r) stale s = (refl, (stale, refl))
  aside_system (Makes edits) stale s = aside_unless (no_system_position edits s) Done (system_done edits s) (system_done edits (aside stale u s)) s stale (aside_system_done edits stale s)

  aside_open : (session : ℕ) (name : List ℕ) (o : Option PlacedRow) (stale : ℕ → ℕ → Bool) (s : State) → AnswersAside u (open_at session name o s) (open_at session name o (aside stale u s))
  aside_open session name None stale s = (refl, (stale, refl))
  aside_open session name (Some r) stale s = aside_unless (option_map BookmarkBusy (reader_on name s)) Done _ _ s stale (stale, refl)

  aside_opened : (session : ℕ) (name : List ℕ) (stale : ℕ → ℕ → Bool) (s : State) (c : Bool) →
      AnswersAside u (cond c (refused (BookmarkBusy session) s) (open_at session name (bookmark name s) s))
      (cond c (refused (BookmarkBusy session) (aside stale u s)) (open_at session name (bookmark name s) (aside stale u s)))
  aside_opened session name stale s true = (refl, (stale, refl))
  aside_opened session name stale s false = aside_open session name (bookmark name s) stale s

  aside_given : (session : ℕ) (o : Option Reader) (n : ℕ) (stale : ℕ → ℕ → Bool) (s : State) → AnswersAside u (given session o n s) (given session o n (aside stale u s))
  aside_given session None n stale s = (refl, (stale, refl))
  aside_given session (Some r) n stale s =
      aside_unless (no_skip (next_read_of r n s)) ((given_to session r n s).0) ((given_to session r n s).1) ((given_to session r n (aside stale u s)).1) s stale (stale, refl)

  aside_closed : (session : ℕ) (o : Option Reader) (stale : ℕ → ℕ → Bool) (s : State) → AnswersAside u (closed session o s) (closed session o (aside stale u s))
  aside_closed session None stale s = (refl, (stale, refl))
  aside_closed session (Some r) stale s = (refl, (stale, refl))

  -- ---- backups

  aside_with_set : (set : ℕ) (standing : Option SetStanding) (stale : ℕ → ℕ → Bool) (s : State) → IsAside u (with_set set standing (all_forced s)) (with_set set standing (all_forced (aside stale u s)))
  unfolding all_forced
  aside_with_set set standing stale s = (stale, refl)

  aside_set : (set : ℕ) (standing : Option SetStanding) (edits : List CellEdit) (stale : ℕ → ℕ → Bool) (s : State) →
      IsAside u (system_done edits (with_set set standing (all_forced s))) (system_done edits (with_set set standing (all_forced (aside stale u s))))
  aside_set set standing edits stale s =
      let beside : State = with_set set standing (all_forced s) in
      aside_then (system_done edits) beside (with_set set standing (all_forced (aside stale u s))) (λ more. aside_system_done edits more beside) (aside_with_set set standing stale s)

  abbrev stop_with : Option PlacedRow → State → State
  stop_with o s = elim o [ None ↦ s | Some r ↦ system_done (deletes 6 r ∷ []) s ]

  aside_stop : (o : Option PlacedRow) (stale : ℕ → ℕ → Bool) (s : State) → IsAside u (stop_with o s) (stop_with o (aside stale u s))
  aside_stop None stale s = (stale, refl)
  aside_stop (Some r) stale s = aside_system_done (deletes 6 r ∷ []) stale s

  abbrev extended_with : ℕ → Option SetStanding → List CellEdit → State → State
  extended_with set o edits s = system_done edits (with_set set (extended_now o s) (all_forced s))

  aside_extended : (set : ℕ) (o : Option SetStanding) (edits : List CellEdit) (stale : ℕ → ℕ → Bool) (s : State) → IsAside u (extended_with set o edits s) (extended_with set o edits (aside stale u s))
  aside_extended set None edits stale s = aside_set set None edits stale s
  aside_extended set (Some (Readable b)) edits stale s = aside_set set (extended_now (Some (Readable b)) s) edits stale s
  aside_extended set (Some Unreadable) edits stale s = aside_set set (Some Unreadable) edits stale s

  aside_backed_up : (set : ℕ) (work : SetWork) (stale : ℕ → ℕ → Bool) (s : State) → AnswersAside u (backed_up set work s) (backed_up set work (aside stale u s))
  aside_backed_up set (MakesSet false) stale s = (refl, aside_with_set set (Some (Readable (full_now s))) stale s)
  aside_backed_up set (MakesSet true) stale s = (refl, aside_set set (Some (Readable (full_now s))) (set_edit (row_of_set set s) set (write_position s) ∷ []) stale s)
  aside_backed_up set ContinuesSet stale s = (refl, aside_extended set (s.sets set) (set_edit (row_of_set set s) set (write_position s) ∷ []) stale s)
  aside_backed_up set EndsSet stale s = (refl, aside_stop (row_of_set set s) stale s)

  aside_answered : (o : Option Refusal) (a other : Answered) (stale : ℕ → ℕ → Bool) (s : State) → AnswersAside u a other → AnswersAside u (unless_refused o a s) (unless_refused o other (aside stale u s))
  aside_answered None a other stale s h = h
  aside_answered (Some r) a other stale s h = (refl, (stale, refl))

  aside_backup_line : (session set : ℕ) (work : SetWork) (stale : ℕ → ℕ → Bool) (s : State) → AnswersAside u (backup_line session set work s) (backup_line session set work (aside stale u s))
  aside_backup_line session set work stale s =
      let is : option_or (backup_refusal session s set work) (backup_position set work s) ≡ option_or (backup_refusal session (aside stale u s) set work) (backup_position set work (aside stale u s))
      = sym (ap₂ option_or (refusal-aside session set work stale u s) (backup_place-aside set work stale u s)) in
      subst (λ o. AnswersAside u (backup_line session set work s) (unless_refused o (backed_up set work (aside stale u s)) (aside stale u s))) is
      (aside_answered (option_or (backup_refusal session s set work) (backup_position set work s)) (backed_up set work s) (backed_up set work (aside stale u s)) stale s (aside_backed_up set work stale s))

  aside_backup : (session set : ℕ) (kind : BackupKind) (stale : ℕ → ℕ → Bool) (s : State) →
      AnswersAside u (backup_line session set (set_work kind set s) s) (backup_line session set (set_work kind set (aside stale u s)) (aside stale u s))
  aside_backup session set kind stale s =
      subst (λ done. AnswersAside u (backup_line session set (set_work kind set s) s) (backup_line session set done (aside stale u s))) (sym (kind-aside set kind stale u s))
      (aside_backup_line session set (set_work kind set s) stale s)

  -- ---- all lines but those of checkpoints

  aside_selected : (rows : Result (List Row) Refusal) (stale : ℕ → ℕ → Bool) (s : State) → AnswersAside u (selected rows s) (selected rows (aside stale u s))
  aside_selected (Ok rows) stale s = (refl, (stale, refl))
  aside_selected (Err r) stale s = (refl, (stale, refl))

  by_statement : (session : ℕ) (command : Command) (stale : ℕ → ℕ → Bool) (s : State) →
      AnswersAside u (statement session (meant session command s) s) (statement session (meant session command (aside stale u s)) (aside stale u s))
  by_statement session command stale s =
      subst (λ m. AnswersAside u (statement session (meant session command s) s) (statement session m (aside stale u s))) (sym (meant-aside session command stale u s))
      (aside_statement session (meant session command s) stale s)

  by_system : (session : ℕ) (command : Command) (stale : ℕ → ℕ → Bool) (s : State) → AnswersAside u (system (meant session command s) s) (system (meant session command (aside stale u s)) (aside stale u s))
  by_system session command stale s =
      subst (λ m. AnswersAside u (system (meant session command s) s) (system m (aside stale u s))) (sym (meant-aside session command stale u s)) (aside_system (meant session command s) stale s)

  pub line-aside : (session : ℕ) (command : Command) (stale : ℕ → ℕ → Bool) (s : State) → is_checkpoint command ≡ false → holds (aside stale u s) ≡ holds s →
      AnswersAside u (line session command s) (line session command (aside stale u s))
  unfolding line meant_by_select
  line-aside session (Insert table values) stale s n h = by_statement session (Insert table values) stale s
  line-aside session (Update table sets cond) stale s n h = by_statement session (Update table sets cond) stale s
  line-aside session (Delete table cond) stale s n h = by_statement session (Delete table cond) stale s
  line-aside session (Select table items cond order) stale s n h = aside_selected (meant_by_select session s table items cond order) stale s
  line-aside session CommitLine stale s n h = aside_commit session (s.own session) stale s
  line-aside session Rollback stale s n h = aside_rollback session (s.own session) stale s
  line-aside session DurableCommit stale s n h = (refl, (stale, refl))
  line-aside session Flush stale s n h = (refl, aside_force stale s)
  line-aside session LogHolds stale s n h = (ap Holds h, (stale, refl))
  line-aside session Bookmark stale s n h = (ap (λ hs. Positions (write_position s) (force_position s) (least_hold_of (write_position s) hs)) h, (stale, refl))
  line-aside session (CreateTable name columns key) stale s n h = by_system session (CreateTable name columns key) stale s
  line-aside session (DropTable name) stale s n h = by_system session (DropTable name) stale s
  line-aside session (CreateIndex name table columns unique) stale s n h = by_system session (CreateIndex name table columns unique) stale s
  line-aside session (DropIndex name) stale s n h = by_system session (DropIndex name) stale s
  line-aside session (XlaCreate name) stale s n h = by_system session (XlaCreate name) stale s
  line-aside session (XlaDelete name) stale s n h = by_system session (XlaDelete name) stale s
  line-aside session (XlaSubscribe table name) stale s n h = by_system session (XlaSubscribe table name) stale s
  line-aside session (XlaUnsubscribe table name) stale s n h = by_system session (XlaUnsubscribe table name) stale s
  line-aside session XlaAcknowledge stale s n h = by_system session XlaAcknowledge stale s
  line-aside session (XlaOpen name) stale s n h = aside_opened session name stale s (is_some (s.reader session))
  line-aside session (XlaNext count) stale s n h = aside_given session (s.reader session) count stale s
  line-aside session XlaClose stale s n h = aside_closed session (s.reader session) stale s
  line-aside session (BackupLine set kind) stale s n h = aside_backup session set kind stale s
  line-aside session Ckpt stale s n h = absurd (true≢false n)
  line-aside session CkptBlocking stale s n h = absurd (true≢false n)

-- ---- with a checkpoint under way

-- It goes on with fewer pages left.
abbrev pub going_on : Underway → List ℕ → Option Underway
going_on b left = Some (record b { left = left })

holds-going_on : (b : Underway) (left : List ℕ) (stale : ℕ → ℕ → Bool) (s : State) → s.underway ≡ Some b → holds (aside stale (going_on b left) s) ≡ holds s
holds-going_on b left stale s is = ap (λ (o : Option Underway). holds (aside stale o s)) (sym is)

-- A line that begins a checkpoint is refused, with the number of the one under way.
refused_begin : (b : Underway) (left : List ℕ) (stale : ℕ → ℕ → Bool) (s : State) → s.underway ≡ Some b → AnswersAside (going_on b left) (checkpoint_line s) (checkpoint_line (aside stale (going_on b left) s))
refused_begin b left stale s is =
    subst (λ (o : Option Underway). AnswersAside (going_on b left) (unless_refused (option_or (option_map (λ (x : Underway). CkptOpen x.number) o) (no_checkpoint_number s)) (begun_reply s, begin_checkpoint s) s)
    (checkpoint_line (aside stale (going_on b left) s))) (sym is) (refl, (stale, refl))

refused_blocking : (b : Underway) (left : List ℕ) (stale : ℕ → ℕ → Bool) (s : State) → s.underway ≡ Some b → AnswersAside (going_on b left) (blocking_line s) (blocking_line (aside stale (going_on b left) s))
refused_blocking b left stale s is =
    subst (λ (o : Option Underway). AnswersAside (going_on b left)
    (unless_refused (option_or (option_map (λ (x : Underway). CkptOpen x.number) o) (option_or (least_open (live_in s)) (no_checkpoint_number s))) (begun_reply s, with_completion (with_all_copies (begin_checkpoint s))) s)
    (blocking_line (aside stale (going_on b left) s))) (sym is) (refl, (stale, refl))

command-aside : (session : ℕ) (command : Command) (b : Underway) (left : List ℕ) (stale : ℕ → ℕ → Bool) (s : State) → s.underway ≡ Some b →
    AnswersAside (going_on b left) (line session command s) (line session command (aside stale (going_on b left) s))
unfolding line
command-aside session Ckpt b left stale s is = refused_begin b left stale s is
command-aside session CkptBlocking b left stale s is = refused_blocking b left stale s is
command-aside session command b left stale s is = line-aside (going_on b left) session command stale s refl (holds-going_on b left stale s is)

differs : (u : Option Underway) (s other : State) → IsAside u s other → DifferInCopies s other
differs u s other (stale, is) = subst (DifferInCopies s) (sym is) refl

-- ---- copies

record IsApart (session : ℕ) (command : Command) (s other : State) : Type 0 where
  reply : (line session command other).0 ≡ (line session command s).0
  state : DifferInCopies ((line session command s).1) ((line session command other).1)

copied_apart : (session : ℕ) (command : Command) (n : ℕ) (s : State) (o : Option Underway) → s.underway ≡ o → IsApart session command s (copied n o s)
copied_apart session command n s None is = record { reply = refl; state = refl }
copied_apart session command n s (Some b) is =
    let left : List ℕ = drop n b.left in
    let stale : ℕ → ℕ → Bool = at_one b.file (without_pages (take n b.left) (s.stale b.file)) s.stale in
    let both : AnswersAside (going_on b left) (line session command s) (line session command (aside stale (going_on b left) s)) = command-aside session command b left stale s is in
    record { reply = both.0; state = differs (going_on b left) ((line session command s).1) ((line session command (aside stale (going_on b left) s)).1) (both.1) }

copies_apart : (session : ℕ) (command : Command) (s : State) → IsApart session command s (with_copies s)
unfolding with_copies
copies_apart session command s = copied_apart session command s.settings.ckpt_pages s s.underway refl

pub copies_and_lines : CopiesAndLinesAreApart
copies_and_lines = record {
  reply = λ session command s. (copies_apart session command s).reply;
  state = λ session command s. (copies_apart session command s).state;
  works = works-apart;
}

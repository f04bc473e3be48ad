-- Rounds keep at most one holder of each key and unique value of the tables and indexes that were there before.
use Rattle.std.proofs.Common.{◌≡◌, inl, inr, ℕ, Bool, true, false, cond, List, [], ◌∷◌, map, Option, Some, None, if◌then◌else◌, refl, sym, ◌∙◌, subst}
use Rattle.std.specs.Prelude.{◌==◌, length, is_some, option_map, Result, Ok, Err}
use Rattle.std.specs.Option.{option_or}
use Rattle.tt_value.specs.declared.refusal.Refusal.{Refusal}
use Rattle.tt_value.specs.declared.refusal.Refusal.TheVariants.{BookmarkBusy}
use Rattle.tt_value.specs.declared.reply.Reply.{Reply}
use Rattle.tt_value.specs.declared.reply.Reply.TheVariants.{Done}
use Rattle.tt_parse.specs.declared.command.Command.{Command}
use Rattle.tt_parse.specs.declared.command.Command.TheVariants.{CreateTable, DropTable, CreateIndex, DropIndex, Insert, Update, Delete, Select, Commit as CommitLine, Rollback, DurableCommit, Flush, Ckpt, CkptBlocking, LogHolds, Bookmark, Backup as BackupLine, XlaCreate, XlaDelete, XlaSubscribe, XlaUnsubscribe, XlaOpen, XlaNext, XlaAcknowledge, XlaClose}
use Rattle.tt_record.specs.declared.entry.Entry.TheVariants.{Commit}
use Rattle.tt_set.specs.declared.settings.Settings.{Settings}
use Rattle.tt_model.specs.Holders.{Held, HasOneHolder}
use Rattle.tt_model.specs.Opened.{Opened}
use Rattle.tt_model.specs.Sets.{Readable, SetStanding}
use Rattle.tt_model.specs.Tables.{PlacedRow, table_named, Catalog}
use Rattle.tt_model.specs.State.{State, Reader, Underway, live_in, next, catalog, write_position, with_entry, with_edits, all_forced}
use Rattle.tt_model.specs.declared.definition.CellEdit.{CellEdit}
use Rattle.tt_model.specs.Meaning.{Meant, Makes, Refuses, meant_by_insert, meant_by_update, meant_by_delete, meant_by_select}
use Rattle.tt_model.specs.System.{bookmark, reader_on, deletes}
use Rattle.tt_model.specs.Backups.{row_of_set, set_edit, full_now, extended_now, with_set, backup_refusal, SetWork, MakesSet, ContinuesSet, EndsSet, set_work}
use Rattle.tt_model.specs.Sound.{IsSound}
use Rattle.tt_model.specs.Checkpoint.{begin_checkpoint, copied, with_copies, with_all_copies, complete_where_due, completed, with_completion}
use Rattle.tt_model.specs.Step.{Step, Answers, WantsMemory, line, unless_refused, forced_where, statement, made, made_in, number_for, no_number_for, no_position, no_system_position, edit_length, session_ended, is_durable, commit_of, rollback_of, rolled_back, rollback_lengths, end_length, system, system_done, open_at, given, closed, refused, kept_read, with_reader, backed_up, backup_position, checkpoint_open, no_checkpoint_number, least_open, begun_reply, completion_after, no_skip, given_to, next_read_of, backup_line}
use Rattle.tt_model.specs.Run.{begun}
use Rattle.tt_model.specs.WholeRuns.{Each, HasKeysOnce, HasValuesOnce, HeldOnce, HeldOnceStays}
use Rattle.tt_model.proofs.OneHolderLemmas.{one_holder-Mark}
use Rattle.tt_model.proofs.SoundLines.{writes, sound-with_copies}
use Rattle.tt_model.proofs.OneHolderLines.{AllFree, one-with_edits, fresh-holder, one-system, one-rolled_back}
use Rattle.tt_model.proofs.OneHolderStatements.{IsAmong, AllSafe, each-mapped, insert-free, delete-free, update-free, key-safe, value-safe}
use Rattle.tt_model.proofs.LineLemmas.{selected-has}

module _ (name : Held) where
  Holds : State → Type 0
  Holds s = HasOneHolder name s.entries

  same_entries : (s after : State) → after.entries ≡ s.entries → Holds s → Holds after
  unfolding Holds
  same_entries s after e one = subst (HasOneHolder name) (sym e) one

  holds_unless : (o : Option Refusal) (reply : Reply) (after s : State) → Holds s → Holds after → Holds ((unless_refused o (reply, after) s).1)
  holds_unless None reply after s one k = k
  holds_unless (Some r) reply after s one k = one

  entries_forced : (c : Bool) (s : State) → (forced_where c s).entries ≡ s.entries
  unfolding all_forced
  entries_forced true s = refl
  entries_forced false s = refl

  entries_all_forced : (s : State) → (all_forced s).entries ≡ s.entries
  unfolding all_forced
  entries_all_forced s = refl

  -- ---- statements

  holds_made : (session : ℕ) (edits : List CellEdit) (s : State) → IsSound s → AllFree (number_for (s.own session) s) name edits s.entries → Holds s → Holds ((made session edits s).1)
  unfolding Holds
  holds_made session [] s h f one = one
  holds_made session (e ∷ es) s h f one =
      let t : ℕ = number_for (s.own session) s in
      holds_unless (option_or (no_number_for (s.own session) s) (no_position (map edit_length (e ∷ es)) s)) _ (made_in session t (e ∷ es) s) s one
      (one-with_edits name t (e ∷ es) s one (fresh-holder name t s (writes s session h)) f)

  holds_statement : (session : ℕ) (m : Meant) (s : State) → IsSound s → ((edits : List CellEdit) → m ≡ Makes edits → AllFree (number_for (s.own session) s) name edits s.entries) →
      Holds s → Holds ((statement session m s).1)
  holds_statement session (Refuses r) s h f one = one
  holds_statement session (Makes edits) s h f one = holds_made session edits s h (f edits refl) one

  -- ---- commits, rollbacks and transactions of their own

  holds_Commit : (t : ℕ) (s : State) → Holds s → Holds (with_entry (Commit t) s)
  unfolding Holds
  holds_Commit t s one = one-system name t [] s one

  holds_commit : (session : ℕ) (o : Option ℕ) (s : State) → Holds s → Holds ((commit_of session o s).1)
  holds_commit session None s one = same_entries s (session_ended session (forced_where (is_durable session s) s)) (entries_forced (is_durable session s) s) one
  holds_commit session (Some t) s one =
      let mid : State = with_entry (Commit t) s in
      holds_unless (no_position (end_length ∷ []) s) Done (session_ended session (forced_where (is_durable session s) mid)) s one
      (same_entries mid (session_ended session (forced_where (is_durable session s) mid)) (entries_forced (is_durable session s) mid) (holds_Commit t s one))

  holds_rollback : (session : ℕ) (o : Option ℕ) (s : State) → Holds s → Holds ((rollback_of session o s).1)
  unfolding Holds
  holds_rollback session None s one = one
  holds_rollback session (Some t) s one =
      holds_unless (no_position (rollback_lengths t s) s) Done (session_ended session (rolled_back t s)) s one (one-rolled_back name t s one)

  holds_system_done : (edits : List CellEdit) (s : State) → Holds s → Holds (system_done edits s)
  unfolding Holds
  holds_system_done edits s one =
      let done : State = with_entry (Commit (next s)) (with_edits (next s) edits s) in
      same_entries done (forced_where s.settings.durable_commits done) (entries_forced s.settings.durable_commits done) (one-system name (next s) edits s one)

  holds_system : (m : Meant) (s : State) → Holds s → Holds ((system m s).1)
  holds_system (Refuses r) s one = one
  holds_system (Makes edits) s one = holds_unless (no_system_position edits s) Done (system_done edits s) s one (holds_system_done edits s one)

  -- ---- readers and backups

  holds_open_at : (session : ℕ) (bookmark_name : List ℕ) (o : Option PlacedRow) (s : State) → Holds s → Holds ((open_at session bookmark_name o s).1)
  unfolding Holds
  holds_open_at session bookmark_name None s one = one
  holds_open_at session bookmark_name (Some r) s one =
      holds_unless (option_map BookmarkBusy (reader_on bookmark_name s)) Done (with_reader session (Some (record { bookmark = bookmark_name; place = kept_read r })) s) s one one

  holds_opened : (session : ℕ) (bookmark_name : List ℕ) (s : State) (c : Bool) → Holds s → Holds ((cond c (refused (BookmarkBusy session) s) (open_at session bookmark_name (bookmark bookmark_name s) s)).1)
  holds_opened session bookmark_name s true one = one
  holds_opened session bookmark_name s false one = holds_open_at session bookmark_name (bookmark bookmark_name s) s one

  holds_given : (session : ℕ) (o : Option Reader) (n : ℕ) (s : State) → Holds s → Holds ((given session o n s).1)
  unfolding Holds
  holds_given session None n s one = one
  holds_given session (Some r) n s one = holds_unless (no_skip (next_read_of r n s)) ((given_to session r n s).0) ((given_to session r n s).1) s one one

  holds_closed : (session : ℕ) (o : Option Reader) (s : State) → Holds s → Holds ((closed session o s).1)
  unfolding Holds
  holds_closed session None s one = one
  holds_closed session (Some r) s one = one

  holds_with_set : (set : ℕ) (standing : Option SetStanding) (s : State) → Holds s → Holds (with_set set standing (all_forced s))
  holds_with_set set standing s one = same_entries s (with_set set standing (all_forced s)) (entries_all_forced s) one

  holds_stop : (s : State) (o : Option PlacedRow) → Holds s → Holds (elim o as (λ x. State) [ None ↦ s | Some r ↦ system_done (deletes 6 r ∷ []) s ])
  holds_stop s None one = one
  holds_stop s (Some r) one = holds_system_done (deletes 6 r ∷ []) s one

  holds_backed_up : (set : ℕ) (work : SetWork) (s : State) → Holds s → Holds ((backed_up set work s).1)
  holds_backed_up set (MakesSet false) s one = holds_with_set set (Some (Readable (full_now s))) s one
  holds_backed_up set (MakesSet true) s one =
      holds_system_done (set_edit (row_of_set set s) set (write_position s) ∷ []) (with_set set (Some (Readable (full_now s))) (all_forced s)) (holds_with_set set (Some (Readable (full_now s))) s one)
  holds_backed_up set ContinuesSet s one =
      holds_system_done (set_edit (row_of_set set s) set (write_position s) ∷ []) (with_set set (extended_now (s.sets set) s) (all_forced s)) (holds_with_set set (extended_now (s.sets set) s) s one)
  holds_backed_up set EndsSet s one = holds_stop s (row_of_set set s) one

  holds_backup : (session set : ℕ) (work : SetWork) (s : State) → Holds s → Holds ((backup_line session set work s).1)
  holds_backup session set work s one =
      holds_unless (option_or (backup_refusal session s set work) (backup_position set work s)) ((backed_up set work s).0) ((backed_up set work s).1) s one (holds_backed_up set work s one)

  -- ---- checkpoints

  entries_copied : (n : ℕ) (o : Option Underway) (s : State) → (copied n o s).entries ≡ s.entries
  entries_copied n None s = refl
  entries_copied n (Some b) s = refl

  entries_copies : (s : State) → (with_copies s).entries ≡ s.entries
  unfolding with_copies
  entries_copies s = entries_copied s.settings.ckpt_pages s.underway s

  entries_all_copies : (s : State) → (with_all_copies s).entries ≡ s.entries
  unfolding with_all_copies
  entries_all_copies s = entries_copied s.pages s.underway s

  entries_begin : (s : State) → (begin_checkpoint s).entries ≡ s.entries
  unfolding begin_checkpoint
  entries_begin s = refl

  entries_completed : (b : Underway) (s : State) → (completed b s).entries ≡ s.entries
  unfolding completed all_forced
  entries_completed b s = refl

  entries_due : (b : Underway) (s : State) (c : Bool) → (if c then completed b s else s).entries ≡ s.entries
  entries_due b s true = entries_completed b s
  entries_due b s false = refl

  entries_where : (o : Option Underway) (s : State) → (complete_where_due o s).entries ≡ s.entries
  entries_where None s = refl
  entries_where (Some b) s = entries_due b s (length b.left == 0)

  entries_with_completion : (s : State) → (with_completion s).entries ≡ s.entries
  unfolding with_completion
  entries_with_completion s = entries_where s.underway s

  entries_completion_after : (o : Option Underway) (s : State) → (completion_after o s).entries ≡ s.entries
  entries_completion_after None s = refl
  entries_completion_after (Some b) s = entries_with_completion s

  -- ---- each line

  holds_line : (session : ℕ) (command : Command) (s : State) → IsSound s → AllSafe name session s → Holds s → Holds ((line session command s).1)
  unfolding line meant_by_insert meant_by_update meant_by_delete meant_by_select
  holds_line session (Insert table values) s h f one =
      holds_statement session _ s h (λ edits m. insert-free name session s table values (table_named table (catalog s)) edits h f refl m) one
  holds_line session (Update table sets condition) s h f one =
      holds_statement session _ s h (λ edits m. update-free name session s table sets condition (table_named table (catalog s)) edits h f refl m) one
  holds_line session (Delete table condition) s h f one =
      holds_statement session _ s h (λ edits m. delete-free name session s table condition (table_named table (catalog s)) edits h f refl m) one
  holds_line session (Select table items condition order) s h f one = selected-has Holds (meant_by_select session s table items condition order) s one
  holds_line session CommitLine s h f one = holds_commit session (s.own session) s one
  holds_line session Rollback s h f one = holds_rollback session (s.own session) s one
  holds_line session DurableCommit s h f one = same_entries s _ refl one
  holds_line session Flush s h f one = same_entries s (all_forced s) (entries_all_forced s) one
  holds_line session LogHolds s h f one = one
  holds_line session Bookmark s h f one = one
  holds_line session (CreateTable x columns key) s h f one = holds_system _ s one
  holds_line session (DropTable x) s h f one = holds_system _ s one
  holds_line session (CreateIndex x table columns unique) s h f one = holds_system _ s one
  holds_line session (DropIndex x) s h f one = holds_system _ s one
  holds_line session (XlaCreate x) s h f one = holds_system _ s one
  holds_line session (XlaDelete x) s h f one = holds_system _ s one
  holds_line session (XlaSubscribe table x) s h f one = holds_system _ s one
  holds_line session (XlaUnsubscribe table x) s h f one = holds_system _ s one
  holds_line session XlaAcknowledge s h f one = holds_system _ s one
  holds_line session (XlaOpen x) s h f one = holds_opened session x s (is_some (s.reader session)) one
  holds_line session (XlaNext n) s h f one = holds_given session (s.reader session) n s one
  holds_line session XlaClose s h f one = holds_closed session (s.reader session) s one
  holds_line session (BackupLine set kind) s h f one = holds_backup session set (set_work kind set s) s one
  holds_line session Ckpt s h f one =
      holds_unless (option_or (checkpoint_open s) (no_checkpoint_number s)) (begun_reply s) (begin_checkpoint s) s one (same_entries s (begin_checkpoint s) (entries_begin s) one)
  holds_line session CkptBlocking s h f one =
      let begun_one : State = begin_checkpoint s in
      let end : State = with_completion (with_all_copies begun_one) in
      holds_unless (option_or (checkpoint_open s) (option_or (least_open (live_in s)) (no_checkpoint_number s))) (begun_reply s) end s one
      (same_entries s end (entries_with_completion (with_all_copies begun_one) ∙ (entries_all_copies begun_one ∙ entries_begin s)) one)

  holds_memory : (session : ℕ) (what : Result Command Refusal) (s : State) (reply : Reply) (after : State) → WantsMemory session what s reply after → Holds s → Holds after
  holds_memory session (Err r) s reply after w one = absurd w
  holds_memory session (Ok command) s reply after w one = elim (w.2) [
    | inl same ↦ subst Holds (sym same) one
    | inr forced ↦ subst Holds (sym (forced.1)) (same_entries s (all_forced s) (entries_all_forced s) one)
  ]

  holds_answers : (session : ℕ) (what : Result Command Refusal) (s : State) (reply : Reply) (after : State) → IsSound s → AllSafe name session s → Answers session what s reply after → Holds s → Holds after
  holds_answers session what s reply after h f (inr w) one = holds_memory session what s reply after w one
  holds_answers session (Ok command) s reply after h f (inl t) one = subst Holds (sym (t.1)) (holds_line session command s h f one)
  holds_answers session (Err r) s reply after h f (inl t) one = subst Holds (sym (t.1)) one

  -- A round, where the name is safe in the state that its line finds.
  pub one-round : (s : State) (session : ℕ) (what : Result Command Refusal) (reply : Reply) (after : State) → IsSound s → AllSafe name session (with_copies s) → Step s session what reply after →
      HasOneHolder name s.entries → HasOneHolder name after.entries
  unfolding Holds
  one-round s session what reply after h f st one =
      subst Holds (sym st.is)
      (same_entries st.between (completion_after s.underway st.between) (entries_completion_after s.underway st.between)
      (holds_answers session what (with_copies s) reply st.between (sound-with_copies s h) f st.line (same_entries s (with_copies s) (entries_copies s) one)))

-- ---- the catalog

catalog_copied : (n : ℕ) (o : Option Underway) (s : State) → catalog (copied n o s) ≡ catalog s
catalog_copied n None s = refl
catalog_copied n (Some b) s = refl

pub catalog-with_copies : (s : State) → catalog (with_copies s) ≡ catalog s
unfolding with_copies
catalog-with_copies s = catalog_copied s.settings.ckpt_pages s.underway s

stays-step : (s : State) (session : ℕ) (what : Result Command Refusal) (reply : Reply) (after : State) → IsSound s → HeldOnce (catalog s) s.entries → Step s session what reply after →
    HeldOnce (catalog s) after.entries
stays-step s session what reply after h once st =
    let same : catalog s ≡ catalog (with_copies s) = sym (catalog-with_copies s) in
    record {
      keys = each-mapped (HasKeysOnce s.entries) (HasKeysOnce after.entries) (catalog s).tables
          (λ t a keys values. one-round (record { table = t.id; columns = t.key; values = values }) s session what reply after h
          (key-safe session (with_copies s) t values (subst (λ (c : Catalog). IsAmong t c.tables) same a)) st (keys values)) once.keys;
      values = each-mapped (HasValuesOnce s.entries) (HasValuesOnce after.entries) (catalog s).indexes
          (λ i a vals unique values null. one-round (record { table = i.table; columns = i.columns; values = values }) s session what reply after h
          (value-safe session (with_copies s) i values (subst (λ (c : Catalog). IsAmong i c.indexes) same a) unique null) st (vals unique values null)) once.values;
    }

each-all : {X : Type 0} (P : X → Type 0) (xs : List X) → ((x : X) → P x) → Each P xs
each-all P [] f = tt
each-all P (x ∷ xs) f = (f x, each-all P xs f)

stays-begun : (settings : Settings) (found : Opened) (files : ℕ → Bool) (sets : ℕ → Option SetStanding) (c : Catalog) → HeldOnce c ((begun settings found files sets).entries)
unfolding begun with_entry
stays-begun settings found files sets c = record {
  keys = each-all (HasKeysOnce ((begun settings found files sets).entries)) c.tables (λ t values. one_holder-Mark _ (record { table = t.id; columns = t.key; values = values }) []);
  values = each-all (HasValuesOnce ((begun settings found files sets).entries)) c.indexes (λ i unique values null. one_holder-Mark _ (record { table = i.table; columns = i.columns; values = values }) []);
}

pub held_once_stays : HeldOnceStays
held_once_stays = record { begun = stays-begun; step = stays-step }

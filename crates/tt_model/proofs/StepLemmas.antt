-- Rounds, and the beginning of a run.
use Rattle.std.proofs.Common.{true≢false, ◌≡◌, ◌<◌, ◌≤◌, ◌*◌, inl, inr, ℕ, Bool, true, false, length, Option, refl, sym, ap, ◌∙◌, subst, arith}
use Rattle.std.proofs.lemmas.Bool.{or_cases, both_ways}
use Rattle.std.specs.Prelude.{Result, Ok, Err, is_some}
use Rattle.tt_value.specs.declared.refusal.Refusal.{Refusal}
use Rattle.tt_value.specs.declared.reply.Reply.{Reply}
use Rattle.tt_parse.specs.declared.command.Command.{Command}
use Rattle.tt_record.specs.Entry.{length_of}
use Rattle.tt_record.specs.declared.entry.Entry.TheVariants.{Mark}
use Rattle.tt_set.specs.declared.settings.Settings.{Settings}
use Rattle.tt_model.specs.Committed.{committed, is_full}
use Rattle.tt_model.specs.Live.{live, in_use}
use Rattle.tt_model.specs.Opened.{Opened}
use Rattle.tt_model.specs.Sets.{SetStanding}
use Rattle.tt_model.specs.State.{State, with_entry, live_in}
use Rattle.tt_model.specs.Checkpoint.{with_copies, begin_checkpoint, with_all_copies}
use Rattle.tt_model.specs.Step.{Step, Answers, WantsMemory, answer, line, stepped, takes_memory, completion_after, checkpoint_open, no_checkpoint_number, least_open}
use Rattle.tt_model.specs.Sound.{IsUserTable, IsSound}
use Rattle.tt_model.specs.Run.{opened, begun}
use Rattle.tt_model.proofs.AppendLemmas.{forced_for-most, forced_for-least}
use Rattle.tt_model.proofs.PositionLemmas.{next_place-onward}
use Rattle.tt_model.proofs.SoundLines.{sound-all_forced, sound-with_copies, sound-completion_after, sound-begin_checkpoint, sound-with_all_copies, sound-with_completion}
use Rattle.tt_model.proofs.LineLemmas.{sound-unless, sound-system_new, sound-statement, create_table-new, create_index_new, create_bookmark-new, subscribe_new, sound-commit_of, sound-rollback_of, sound_opened_if, sound-given, sound-closed, selected-has}
use Rattle.tt_model.proofs.StatementLemmas.{insert-MayEdit, update-MayEdit, delete-MayEdit, insert-users, update-users, delete-users}
use Rattle.tt_model.proofs.SystemLines.{sound-system_rows, drop_table-good, drop_index-good, delete_bookmark-good, unsubscribe-good, acknowledge-good, sound-backup_line}
use Rattle.tt_parse.specs.declared.command.Command.TheVariants.{CreateTable, DropTable, CreateIndex, DropIndex, Insert, Update, Delete, Select, Commit as CommitLine, Rollback, DurableCommit, Flush, Ckpt, CkptBlocking, LogHolds, Bookmark, Backup as BackupLine, XlaCreate, XlaDelete, XlaSubscribe, XlaUnsubscribe, XlaOpen, XlaNext, XlaAcknowledge, XlaClose}
use Rattle.std.specs.Option.{option_or}
use Rattle.tt_model.specs.Meaning.{meant_by_insert, meant_by_update, meant_by_delete, meant_by_select}
use Rattle.tt_model.specs.Backups.{set_work}

-- Each line.
pub sound-line : (session : ℕ) (command : Command) (s : State) → IsSound s → IsSound ((line session command s).1)
unfolding line
sound-line session (Insert table values) s h = sound-statement session (meant_by_insert session s table values) s h (λ edits m. (insert-users session s table values edits h m, insert-MayEdit session s table values edits h m))
sound-line session (Update table sets cond) s h = sound-statement session (meant_by_update session s table sets cond) s h (λ edits m. (update-users session s table sets cond edits h m, update-MayEdit session s table sets cond edits h m))
sound-line session (Delete table cond) s h = sound-statement session (meant_by_delete session s table cond) s h (λ edits m. (delete-users session s table cond edits h m, delete-MayEdit session s table cond edits h m))
sound-line session (Select table items cond order) s h = selected-has IsSound (meant_by_select session s table items cond order) s h
sound-line session CommitLine s h = sound-commit_of session (s.own session) s h refl
sound-line session Rollback s h = sound-rollback_of session (s.own session) s h refl
sound-line session DurableCommit s h = record { entries = h.entries; owned = h.owned; catalog = h.catalog }
sound-line session Flush s h = sound-all_forced s h
sound-line session LogHolds s h = h
sound-line session Bookmark s h = h
sound-line session (CreateTable name columns key) s h = sound-system_new _ s h (λ edits m. create_table-new session s name columns key edits m)
sound-line session (CreateIndex name table columns unique) s h = sound-system_new _ s h (λ edits m. create_index_new session s name table columns unique edits m)
sound-line session (XlaCreate name) s h = sound-system_new _ s h (λ edits m. create_bookmark-new session s name edits m)
sound-line session (XlaSubscribe table name) s h = sound-system_new _ s h (λ edits m. subscribe_new session s table name edits m)
sound-line session (XlaOpen name) s h = sound_opened_if session name s (is_some (s.reader session)) h
sound-line session (XlaNext count) s h = sound-given session (s.reader session) count s h
sound-line session XlaClose s h = sound-closed session (s.reader session) s h
sound-line session (BackupLine set kind) s h = sound-backup_line session set (set_work kind set s) s h
sound-line session Ckpt s h = sound-unless (option_or (checkpoint_open s) (no_checkpoint_number s)) _ _ s h (sound-begin_checkpoint s h)
sound-line session CkptBlocking s h =
    sound-unless (option_or (checkpoint_open s) (option_or (least_open (live_in s)) (no_checkpoint_number s))) _ _ s h
    (sound-with_completion (with_all_copies (begin_checkpoint s)) (sound-with_all_copies (begin_checkpoint s) (sound-begin_checkpoint s h)))
sound-line session (DropTable name) s h = sound-system_rows _ s h (λ edits m. drop_table-good session s name edits m)
sound-line session (DropIndex name) s h = sound-system_rows _ s h (λ edits m. drop_index-good session s name edits m)
sound-line session (XlaDelete name) s h = sound-system_rows _ s h (λ edits m. delete_bookmark-good session s name edits m)
sound-line session (XlaUnsubscribe table name) s h = sound-system_rows _ s h (λ edits m. unsubscribe-good session s table name edits m)
sound-line session XlaAcknowledge s h = sound-system_rows _ s h (λ edits m. acknowledge-good session s edits m)

sound-answer : (session : ℕ) (what : Result Command Refusal) (s : State) → IsSound s → IsSound ((answer session what s).1)
sound-answer session (Ok command) s h = sound-line session command s h
sound-answer session (Err r) s h = h

sound-memory : (session : ℕ) (what : Result Command Refusal) (s : State) (reply : Reply) (after : State) → IsSound s → WantsMemory session what s reply after → IsSound after
sound-memory session (Err r) s reply after h w = absurd w
sound-memory session (Ok command) s reply after h w = elim (w.2) [
  | inl same ↦ subst IsSound (sym same) h
  | inr forced ↦ subst IsSound (sym (forced.1)) (sound-all_forced s h)
]

sound-answers : (session : ℕ) (what : Result Command Refusal) (s : State) (reply : Reply) (after : State) → IsSound s → Answers session what s reply after → IsSound after
sound-answers session what s reply after h (inl by_table) = subst IsSound (sym (by_table.1)) (sound-answer session what s h)
sound-answers session what s reply after h (inr wants) = sound-memory session what s reply after h wants

-- A round leads from a sound state to a sound one.
pub sound-step : (s : State) (session : ℕ) (what : Result Command Refusal) (reply : Reply) (after : State) → IsSound s → Step s session what reply after → IsSound after
sound-step s session what reply after h st =
    subst IsSound (sym st.is)
    (sound-completion_after s.underway st.between (sound-answers session what (with_copies s) reply st.between (sound-with_copies s h) st.line))

-- A run begins sound.
pub sound-begun : (settings : Settings) (found : Opened) (files : ℕ → Bool) (sets : ℕ → Option SetStanding) →
    ((q : ℕ) → is_full (found.cells q) ≡ true → q < 32 * (opened settings found files sets).pages) → ((q : ℕ) → IsUserTable (found.cells q)) →
    IsSound (begun settings found files sets)
unfolding begun with_entry committed in_use live
sound-begun settings found files sets low user =
    let s : State = opened settings found files sets in
    let most : (with_entry Mark s).forced ≤ length found.entries
    = forced_for-most settings.log_file_size settings.log_buf_size (length_of Mark) found.end found.entries (length found.entries) (omega arith) in
    record {
      entries = record {
        grown = (tt, tt);
        marked = refl;
        ordered = (next_place-onward found.end (length_of Mark) settings.log_file_size, tt);
        forced_least = forced_for-least settings.log_file_size settings.log_buf_size (length_of Mark) found.end found.entries (length found.entries) (omega arith);
        forced_most = omega (arith, most);
        below = λ q u. elim (or_cases (is_full (found.cells q)) false u) [ inl y ↦ low q y | inr y ↦ let no : ⊥ = cc in absurd no ];
      };
      owned = record { live = λ session t h. let no : ⊥ = cc in absurd no; once = λ a b t h k. let no : ⊥ = cc in absurd no };
      catalog = record { users = λ t table l lo. absurd (true≢false (sym l)); tables = user };
    }

-- A line that does what the table says, in a whole round.
pub stepped-Step : (s : State) (session : ℕ) (command : Command) → Step s session (Ok command) ((stepped session command s).0) ((stepped session command s).1)
stepped-Step s session command = record { between = (line session command (with_copies s)).1; line = inl (refl, refl); is = refl }

-- The five lines that take no memory have one answer alone.
pub step-without_memory : (s : State) (session : ℕ) (command : Command) (reply : Reply) (after : State) → takes_memory command ≡ false →
    Step s session (Ok command) reply after → (reply ≡ (stepped session command s).0) × (after ≡ (stepped session command s).1)
step-without_memory s session command reply after n st = elim st.line [
  | inl w ↦ (w.0, st.is ∙ ap (completion_after s.underway) (w.1))
  | inr w ↦ absurd (both_ways (takes_memory command) n (w.0))
]

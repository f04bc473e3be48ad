-- A refused line leaves the state, and rounds are determined but for the want of memory.
use Rattle.std.proofs.Common.{◌≡◌, ◌⊎◌, inl, inr, ℕ, suc, Bool, true, false, not, cond, List, [], ◌∷◌, map, length, Option, Some, None, refl, sym, ap, ◌∙◌, true≢false}
use Rattle.std.proofs.lemmas.Bool.{and_parts, both_ways}
use Rattle.std.specs.Prelude.{option_map, is_some, Result, Ok, Err}
use Rattle.std.specs.Option.{option_or}
use Rattle.tt_value.specs.declared.refusal.Refusal.{Refusal}
use Rattle.tt_value.specs.declared.refusal.Refusal.TheVariants.{BookmarkBusy, NoMemory}
use Rattle.tt_value.specs.declared.reply.Reply.{Reply}
use Rattle.tt_value.specs.declared.reply.Reply.TheVariants.{Done, Changed, Refused}
use Rattle.tt_parse.specs.declared.command.Command.{Command}
use Rattle.tt_parse.specs.declared.command.Command.TheVariants.{CreateTable, DropTable, CreateIndex, DropIndex, Insert, Update, Delete, Select, Commit as CommitLine, Rollback, DurableCommit, Flush, Ckpt, CkptBlocking, LogHolds, Bookmark, Backup as BackupLine, XlaCreate, XlaDelete, XlaSubscribe, XlaUnsubscribe, XlaOpen, XlaNext, XlaAcknowledge, XlaClose}
use Rattle.tt_model.specs.Tables.{PlacedRow}
use Rattle.tt_model.specs.State.{State, Reader, all_forced, live_in}
use Rattle.tt_model.specs.declared.definition.CellEdit.{CellEdit}
use Rattle.tt_model.specs.Checkpoint.{begin_checkpoint, with_all_copies, with_completion, with_copies}
use Rattle.tt_model.specs.Meaning.{Meant, Refuses, Makes, meant_by_select}
use Rattle.tt_model.specs.System.{bookmark, reader_on}
use Rattle.tt_model.specs.Backups.{backup_refusal, SetWork, MakesSet, ContinuesSet, EndsSet, set_work}
use Rattle.tt_model.specs.Step.{Step, Answers, Answered, WantsMemory, answer, backed_up, backup_position, begun_reply, checkpoint_open, closed, commit_of, completion_after, edit_length, end_length, forces_first, given, given_to, next_read_of, no_skip, is_refused, least_open, line, made, made_in, no_checkpoint_number, no_number_for, no_position, no_system_position, number_for, open_at, refused, rollback_lengths, rollback_of, rolled_back, session_ended, statement, system, system_done, unless_refused, backup_line, selected}
use Rattle.tt_model.specs.StepLaws.{RefusedLinesLeaveAll, StepsAreDetermined, forces_before}
use Rattle.tt_value.specs.declared.value.Row.{Row}

-- ---- lines

abbrev LeavesWhereRefused : Answered → State → Type 0
LeavesWhereRefused a s = is_refused (a.0) ≡ true → a.1 ≡ s

left_unless : (o : Option Refusal) (a : Answered) (s : State) → is_refused (a.0) ≡ false → LeavesWhereRefused (unless_refused o a s) s
left_unless None a s isnt is = absurd (both_ways (is_refused (a.0)) isnt is)
left_unless (Some r) a s isnt is = refl

left_made : (session : ℕ) (edits : List CellEdit) (s : State) → LeavesWhereRefused (made session edits s) s
left_made session [] s is = refl
left_made session (e ∷ es) s is =
    left_unless (option_or (no_number_for (s.own session) s) (no_position (map edit_length (e ∷ es)) s)) (Changed (suc (length es)), made_in session (number_for (s.own session) s) (e ∷ es) s) s refl is

left_statement : (session : ℕ) (m : Meant) (s : State) → LeavesWhereRefused (statement session m s) s
left_statement session (Refuses r) s is = refl
left_statement session (Makes edits) s is = left_made session edits s is

left_commit : (session : ℕ) (o : Option ℕ) (s : State) → LeavesWhereRefused (commit_of session o s) s
left_commit session None s is = absurd (true≢false (sym is))
left_commit session (Some t) s is = left_unless (no_position (end_length ∷ []) s) _ s refl is

left_rollback : (session : ℕ) (o : Option ℕ) (s : State) → LeavesWhereRefused (rollback_of session o s) s
left_rollback session None s is = absurd (true≢false (sym is))
left_rollback session (Some t) s is = left_unless (no_position (rollback_lengths t s) s) (Done, session_ended session (rolled_back t s)) s refl is

left_system : (m : Meant) (s : State) → LeavesWhereRefused (system m s) s
left_system (Refuses r) s is = refl
left_system (Makes edits) s is = left_unless (no_system_position edits s) (Done, system_done edits s) s refl is

left_open : (session : ℕ) (name : List ℕ) (o : Option PlacedRow) (s : State) → LeavesWhereRefused (open_at session name o s) s
left_open session name None s is = refl
left_open session name (Some r) s is = left_unless (option_map BookmarkBusy (reader_on name s)) _ s refl is

left_opened : (session : ℕ) (name : List ℕ) (s : State) (c : Bool) → LeavesWhereRefused (cond c (refused (BookmarkBusy session) s) (open_at session name (bookmark name s) s)) s
left_opened session name s true is = refl
left_opened session name s false is = left_open session name (bookmark name s) s is

left_given : (session : ℕ) (o : Option Reader) (n : ℕ) (s : State) → LeavesWhereRefused (given session o n s) s
left_given session None n s is = refl
left_given session (Some r) n s is = left_unless (no_skip (next_read_of r n s)) (given_to session r n s) s refl is

left_closed : (session : ℕ) (o : Option Reader) (s : State) → LeavesWhereRefused (closed session o s) s
left_closed session None s is = refl
left_closed session (Some r) s is = absurd (true≢false (sym is))

left_selected : (rows : Result (List Row) Refusal) (s : State) → LeavesWhereRefused (selected rows s) s
left_selected (Ok rows) s is = refl
left_selected (Err r) s is = refl

backs_up : (set : ℕ) (work : SetWork) (s : State) → is_refused ((backed_up set work s).0) ≡ false
backs_up set (MakesSet false) s = refl
backs_up set (MakesSet true) s = refl
backs_up set ContinuesSet s = refl
backs_up set EndsSet s = refl

left_backup : (session set : ℕ) (work : SetWork) (s : State) → LeavesWhereRefused (backup_line session set work s) s
left_backup session set work s is = left_unless (option_or (backup_refusal session s set work) (backup_position set work s)) (backed_up set work s) s (backs_up set work s) is

line_left : (session : ℕ) (command : Command) (s : State) → LeavesWhereRefused (line session command s) s
unfolding line
line_left session (Insert table values) s is = left_statement session _ s is
line_left session (Update table sets cond) s is = left_statement session _ s is
line_left session (Delete table cond) s is = left_statement session _ s is
line_left session (Select table items cond order) s is = left_selected (meant_by_select session s table items cond order) s is
line_left session CommitLine s is = left_commit session (s.own session) s is
line_left session Rollback s is = left_rollback session (s.own session) s is
line_left session DurableCommit s is = absurd (true≢false (sym is))
line_left session Flush s is = absurd (true≢false (sym is))
line_left session LogHolds s is = refl
line_left session Bookmark s is = refl
line_left session (CreateTable name columns key) s is = left_system _ s is
line_left session (DropTable name) s is = left_system _ s is
line_left session (CreateIndex name table columns unique) s is = left_system _ s is
line_left session (DropIndex name) s is = left_system _ s is
line_left session (XlaCreate name) s is = left_system _ s is
line_left session (XlaDelete name) s is = left_system _ s is
line_left session (XlaSubscribe table name) s is = left_system _ s is
line_left session (XlaUnsubscribe table name) s is = left_system _ s is
line_left session XlaAcknowledge s is = left_system _ s is
line_left session (XlaOpen name) s is = left_opened session name s (is_some (s.reader session)) is
line_left session (XlaNext n) s is = left_given session (s.reader session) n s is
line_left session XlaClose s is = left_closed session (s.reader session) s is
line_left session (BackupLine set kind) s is = left_backup session set (set_work kind set s) s is
line_left session Ckpt s is = left_unless (option_or (checkpoint_open s) (no_checkpoint_number s)) (begun_reply s, begin_checkpoint s) s refl is
line_left session CkptBlocking s is =
    left_unless (option_or (checkpoint_open s) (option_or (least_open (live_in s)) (no_checkpoint_number s))) (begun_reply s, with_completion (with_all_copies (begin_checkpoint s))) s refl is

-- ---- rounds

answer_left : (session : ℕ) (what : Result Command Refusal) (s : State) → LeavesWhereRefused (answer session what s) s
answer_left session (Ok command) s is = line_left session command s is
answer_left session (Err r) s is = refl

abbrev IsLeft : Result Command Refusal → Reply → State → State → Type 0
IsLeft what reply s after = (after ≡ s) ⊎ ((reply ≡ Refused NoMemory) × (forces_before what ≡ true) × (after ≡ all_forced s))

memory_left : (session : ℕ) (what : Result Command Refusal) (s : State) (reply : Reply) (after : State) → WantsMemory session what s reply after → IsLeft what reply s after
memory_left session (Err r) s reply after w = absurd w
memory_left session (Ok command) s reply after (takes, said, left) = elim left [
  | inl same ↦ inl same
  | inr forced ↦ inr (said, (and_parts (forces_first command) (not (is_refused ((line session command s).0))) (forced.0)).0, forced.1)
]

answers_left : (session : ℕ) (what : Result Command Refusal) (s : State) (reply : Reply) (after : State) → Answers session what s reply after → is_refused reply ≡ true → IsLeft what reply s after
answers_left session what s reply after (inl t) is = inl (t.1 ∙ answer_left session what s (sym (ap is_refused (t.0)) ∙ is))
answers_left session what s reply after (inr w) is = memory_left session what s reply after w

step_left : (s : State) (session : ℕ) (what : Result Command Refusal) (reply : Reply) (after : State) → Step s session what reply after → is_refused reply ≡ true →
    (after ≡ completion_after s.underway (with_copies s)) ⊎ ((reply ≡ Refused NoMemory) × (forces_before what ≡ true) × (after ≡ completion_after s.underway (all_forced (with_copies s))))
step_left s session what reply after st is = elim (answers_left session what (with_copies s) reply st.between st.line is) [
  | inl same ↦ inl (st.is ∙ ap (completion_after s.underway) same)
  | inr forced ↦ inr (forced.0, forced.1, st.is ∙ ap (completion_after s.underway) (forced.2))
]

pub refused_lines_leave : RefusedLinesLeaveAll
refused_lines_leave = record { line = line_left; step = step_left }

-- ---- what is determined

wants_memory : (session : ℕ) (what : Result Command Refusal) (s : State) (reply : Reply) (after : State) → WantsMemory session what s reply after → reply ≡ Refused NoMemory
wants_memory session (Err r) s reply after w = absurd w
wants_memory session (Ok command) s reply after w = w.1

pub determined : StepsAreDetermined
determined s session what reply other_reply after other_after one two = elim one.line [
  | inl t ↦ elim two.line [
    | inl u ↦ inr (inr (t.0 ∙ sym (u.0), one.is ∙ (ap (completion_after s.underway) (t.1 ∙ sym (u.1)) ∙ sym two.is)))
    | inr w ↦ inr (inl (wants_memory session what (with_copies s) other_reply two.between w))
  ]
  | inr w ↦ inl (wants_memory session what (with_copies s) reply one.between w)
]

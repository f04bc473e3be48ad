-- Each line, each round and the end of a run keep a good catalog.
use Rattle.std.proofs.Common.{◌≡◌, ◌≤◌, inl, inr, ℕ, Bool, true, false, cond, List, [], ◌∷◌, length, Option, Some, None, if◌then◌else◌, refl, sym, ◌∙◌, subst}
use Rattle.std.specs.Prelude.{◌==◌, is_some, Result, Ok, Err}
use Rattle.std.specs.Option.{option_or}
use Rattle.tt_value.specs.declared.refusal.Refusal.{Refusal}
use Rattle.tt_value.specs.declared.reply.Reply.{Reply}
use Rattle.tt_value.specs.declared.reply.Reply.TheVariants.{Done}
use Rattle.tt_parse.specs.declared.command.Command.{Command}
use Rattle.tt_parse.specs.declared.command.Command.TheVariants.{CreateTable, DropTable, CreateIndex, DropIndex, Insert, Update, Delete, Select, Commit as CommitLine, Rollback, DurableCommit, Flush, Ckpt, CkptBlocking, LogHolds, Bookmark, Backup as BackupLine, XlaCreate, XlaDelete, XlaSubscribe, XlaUnsubscribe, XlaOpen, XlaNext, XlaAcknowledge, XlaClose}
use Rattle.tt_model.specs.Tables.{PlacedRow}
use Rattle.tt_model.specs.State.{State, Reader, Underway, cells_of, live_in, all_forced}
use Rattle.tt_model.specs.declared.definition.CellEdit.{CellEdit}
use Rattle.tt_model.specs.Checkpoint.{begin_checkpoint, copied, with_copies, with_all_copies, complete_where_due, completed, with_completion}
use Rattle.tt_model.specs.Meaning.{Meant, Makes, Refuses, first_of, meant_by_select}
use Rattle.tt_model.specs.System.{bookmark, bookmark_values, in_transaction, acknowledge, rewrites, meant_by_acknowledge, reader_at, reader_row}
use Rattle.tt_model.specs.Step.{Step, Answers, line, unless_refused, system, system_done, no_system_position, checkpoint_open, no_checkpoint_number, least_open, begun_reply, completion_after}
use Rattle.tt_model.specs.Sound.{IsSound}
use Rattle.tt_model.specs.Entries.{HasLogInRange, IsKept, IsOfGrammar, HasKeptReaders}
use Rattle.tt_model.specs.Ranges.{HasRanges}
use Rattle.tt_model.proofs.StatementLemmas.{unless-makes, makes_same}
use Rattle.tt_model.proofs.SoundLines.{sound-with_copies}
use Rattle.tt_model.proofs.SystemLines.{refuses_none}
use Rattle.tt_model.proofs.StepLemmas.{sound-line}
use Rattle.tt_model.proofs.BookmarkLines.{cells_opened, cells_given, cells_closed, cells_begin, cells_all_copies, cells_with_completion, cells_all_forced, cells_unless}
use Rattle.tt_model.proofs.GoodDeletes.{HasGood, good-unsubscribe, good-drop_index}
use Rattle.tt_model.proofs.GoodDrops.{good-delete_bookmark, good-drop_table}
use Rattle.tt_model.proofs.GoodAdds.{good-create_bookmark, good-subscribe, good-acknowledged}
use Rattle.tt_model.proofs.GoodBackups.{good-backup}
use Rattle.tt_model.proofs.GoodIndexes.{good-create_index}
use Rattle.tt_model.proofs.GoodCreation.{good-create_table}
use Rattle.tt_model.proofs.GoodCommits.{good-cells, cells-statement, cells-rollback, good-commit}
use Rattle.tt_model.specs.Backups.{set_work}
use Rattle.tt_model.proofs.LineLemmas.{selected-has}

good_unless : (o : Option Refusal) (reply : Reply) (after s : State) → HasGood s → HasGood after → HasGood ((unless_refused o (reply, after) s).1)
good_unless None reply after s g k = k
good_unless (Some r) reply after s g k = g

good_system : (m : Meant) (s : State) → ((edits : List CellEdit) → m ≡ Makes edits → HasGood (system_done edits s)) → HasGood s → HasGood ((system m s).1)
good_system (Refuses r) s f g = g
good_system (Makes edits) s f g = good_unless (no_system_position edits s) Done (system_done edits s) s g (f edits refl)

-- ---- acknowledging

acknowledged_good : (session : ℕ) (s : State) (r : Reader) (o : Option PlacedRow) (edits : List CellEdit) → IsSound s → bookmark r.bookmark s ≡ o →
    IsKept r.place.at × IsKept r.place.hold × (r.place.skip ≤ 4294967295) → acknowledge session s (reader_at r o) ≡ Makes edits → HasGood s → HasGood (system_done edits s)
acknowledged_good session s r None edits h e k m g = absurd (refuses_none _ _ edits m)
acknowledged_good session s r (Some at) edits h e k m g =
    let written : List CellEdit = rewrites 4 at (bookmark_values r.bookmark r.place) ∷ [] in
    subst (λ (es : List CellEdit). HasGood (system_done es s)) (makes_same written edits ((unless-makes (first_of (in_transaction session s ∷ [])) (Makes written) edits m).1))
    (good-acknowledged s r at h e (k.0) (k.1) (k.2) g)

acknowledge_good : (session : ℕ) (s : State) (o : Option Reader) (edits : List CellEdit) → IsSound s → ((r : Reader) → o ≡ Some r → IsKept r.place.at × IsKept r.place.hold × (r.place.skip ≤ 4294967295)) →
    acknowledge session s (reader_row s o) ≡ Makes edits → HasGood s → HasGood (system_done edits s)
acknowledge_good session s None edits h k m g = absurd (refuses_none _ _ edits m)
acknowledge_good session s (Some r) edits h k m g = acknowledged_good session s r (bookmark r.bookmark s) edits h refl (k r refl) m g

good-acknowledge : (session : ℕ) (s : State) (edits : List CellEdit) → IsSound s → HasKeptReaders s → meant_by_acknowledge session s ≡ Makes edits → HasGood s → HasGood (system_done edits s)
unfolding meant_by_acknowledge
good-acknowledge session s edits h k m g = acknowledge_good session s (s.reader session) edits h (λ r e. k session r e) m g

-- ---- checkpoints

cells_blocking : (s : State) → cells_of (with_completion (with_all_copies (begin_checkpoint s))) ≡ cells_of s
cells_blocking s = cells_with_completion (with_all_copies (begin_checkpoint s)) ∙ (cells_all_copies (begin_checkpoint s) ∙ cells_begin s)

-- ---- each line

good_all_forced : (s : State) → HasGood s → HasGood (all_forced s)
unfolding all_forced
good_all_forced s g = g

good_copied : (n : ℕ) (o : Option Underway) (s : State) → HasGood s → HasGood (copied n o s)
good_copied n None s g = g
good_copied n (Some b) s g = g

log_copied : (n : ℕ) (o : Option Underway) (s : State) → HasLogInRange s → HasLogInRange (copied n o s)
log_copied n None s k = k
log_copied n (Some b) s k = record { size = k.size; found = k.found; end = k.end; entries = k.entries }

readers_copied : (n : ℕ) (o : Option Underway) (s : State) → HasKeptReaders s → HasKeptReaders (copied n o s)
readers_copied n None s k = k
readers_copied n (Some b) s k = k

good_completed : (b : Underway) (s : State) → HasGood s → HasGood (completed b s)
unfolding completed all_forced
good_completed b s g = g

good_due : (b : Underway) (s : State) (c : Bool) → HasGood s → HasGood (if c then completed b s else s)
good_due b s true g = good_completed b s g
good_due b s false g = g

good_where : (o : Option Underway) (s : State) → HasGood s → HasGood (complete_where_due o s)
good_where None s g = g
good_where (Some b) s g = good_due b s (length b.left == 0) g

good_completion : (s : State) → HasGood s → HasGood (with_completion s)
unfolding with_completion
good_completion s g = good_where s.underway s g

good_after : (o : Option Underway) (s : State) → HasGood s → HasGood (completion_after o s)
good_after None s g = g
good_after (Some b) s g = good_completion s g

pub good-line : (session : ℕ) (command : Command) (s : State) → HasRanges command → IsSound s → HasLogInRange s → HasKeptReaders s → IsSound ((line session command s).1) →
    HasGood s → HasGood ((line session command s).1)
unfolding line
good-line session (Insert table values) s v h log r k g = good-cells s _ h k (cells-statement session _ s) g
good-line session (Update table sets cond) s v h log r k g = good-cells s _ h k (cells-statement session _ s) g
good-line session (Delete table cond) s v h log r k g = good-cells s _ h k (cells-statement session _ s) g
good-line session (Select table items cond order) s v h log r k g = selected-has HasGood (meant_by_select session s table items cond order) s g
good-line session CommitLine s v h log r k g = good-commit session (s.own session) s refl h k g
good-line session Rollback s v h log r k g = good-cells s _ h k (cells-rollback session (s.own session) s) g
good-line session DurableCommit s v h log r k g = g
good-line session Flush s v h log r k g = good-cells s _ h k (cells_all_forced s) g
good-line session LogHolds s v h log r k g = g
good-line session Bookmark s v h log r k g = g
good-line session (CreateTable name columns key) s v h log r k g = good_system _ s (λ edits m. good-create_table session s name columns key edits h v m g) g
good-line session (CreateIndex name table columns unique) s v h log r k g = good_system _ s (λ edits m. good-create_index session s name table columns unique edits h v m g) g
good-line session (XlaCreate name) s v h log r k g = good_system _ s (λ edits m. good-create_bookmark session s name edits h log v m g) g
good-line session (XlaSubscribe table name) s v h log r k g = good_system _ s (λ edits m. good-subscribe session s table name edits h log m g) g
good-line session (DropTable name) s v h log r k g = good_system _ s (λ edits m. good-drop_table session s name edits h m g) g
good-line session (DropIndex name) s v h log r k g = good_system _ s (λ edits m. good-drop_index session s name edits h m g) g
good-line session (XlaDelete name) s v h log r k g = good_system _ s (λ edits m. good-delete_bookmark session s name edits h m g) g
good-line session (XlaUnsubscribe table name) s v h log r k g = good_system _ s (λ edits m. good-unsubscribe session s table name edits h m g) g
good-line session XlaAcknowledge s v h log r k g = good_system _ s (λ edits m. good-acknowledge session s edits h r m g) g
good-line session (XlaOpen name) s v h log r k g = good-cells s _ h k (cells_opened session name s (is_some (s.reader session))) g
good-line session (XlaNext count) s v h log r k g = good-cells s _ h k (cells_given session (s.reader session) count s) g
good-line session XlaClose s v h log r k g = good-cells s _ h k (cells_closed session (s.reader session) s) g
good-line session (BackupLine set kind) s v h log r k g = good-backup session set (set_work kind set s) s h log (v.0) (v.1) g
good-line session Ckpt s v h log r k g =
    good-cells s _ h k (cells_unless (option_or (checkpoint_open s) (no_checkpoint_number s)) (begun_reply s) (begin_checkpoint s) s (cells_begin s)) g
good-line session CkptBlocking s v h log r k g =
    good-cells s _ h k (cells_unless (option_or (checkpoint_open s) (option_or (least_open (live_in s)) (no_checkpoint_number s))) (begun_reply s) (with_completion (with_all_copies (begin_checkpoint s))) s (cells_blocking s)) g

good_answers : (session : ℕ) (what : Result Command Refusal) (s : State) (reply : Reply) (after : State) → IsOfGrammar what → IsSound s → HasLogInRange s → HasKeptReaders s → HasGood s →
    Answers session what s reply after → HasGood after
good_answers session (Ok command) s reply after v h log r g (inl t) = subst HasGood (sym (t.1)) (good-line session command s v h log r (sound-line session command s h) g)
good_answers session (Err e) s reply after v h log r g (inl t) = subst HasGood (sym (t.1)) g
good_answers session (Err e) s reply after v h log r g (inr w) = absurd w
good_answers session (Ok command) s reply after v h log r g (inr w) = elim (w.2) [
  | inl same ↦ subst HasGood (sym same) g
  | inr forced ↦ subst HasGood (sym (forced.1)) (good_all_forced s g)
]

-- ---- each round

pub good-step : (s : State) (session : ℕ) (what : Result Command Refusal) (reply : Reply) (after : State) → IsOfGrammar what → IsSound s → HasLogInRange s → HasKeptReaders s →
    HasGood s → Step s session what reply after → HasGood after
unfolding with_copies
good-step s session what reply after v h log r g st =
    let n : ℕ = s.settings.ckpt_pages in
    subst HasGood (sym st.is)
    (good_after s.underway st.between
    (good_answers session what (copied n s.underway s) reply st.between v (sound-with_copies s h) (log_copied n s.underway s log) (readers_copied n s.underway s r) (good_copied n s.underway s g) st.line))

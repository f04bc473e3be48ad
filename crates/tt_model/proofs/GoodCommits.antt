-- Statements, commits, rollbacks, readers' lines and checkpoints leave the rows of system tables.
use Rattle.std.proofs.Common.{◌≡◌, ◌<◌, inl, inr, ℕ, suc, Bool, true, false, List, [], ◌∷◌, map, length, Option, Some, None, refl, sym, ap, ◌∙◌, subst}
use Rattle.std.proofs.lemmas.Bool.{cases_Bool}
use Rattle.std.specs.Option.{option_or}
use Rattle.tt_value.specs.declared.reply.Reply.TheVariants.{Changed, Done}
use Rattle.tt_record.specs.declared.entry.Entry.TheVariants.{Commit}
use Rattle.tt_model.specs.Committed.{Cells, changed_by}
use Rattle.tt_model.specs.Live.{is_live, touched}
use Rattle.tt_model.specs.Tables.{row_in}
use Rattle.tt_model.specs.State.{State, cells_of, live_in, with_entry, with_edits, reversals}
use Rattle.tt_model.specs.declared.definition.CellEdit.{CellEdit}
use Rattle.tt_model.specs.Meaning.{Meant, Makes, Refuses}
use Rattle.tt_model.specs.Step.{unless_refused, forced_where, statement, made, made_in, number_for, no_number_for, no_position, edit_length, session_ended, is_durable, commit_of, rollback_of, rolled_back, rollback_lengths, end_length}
use Rattle.tt_model.specs.Sound.{whole_table, IsSound}
use Rattle.tt_model.specs.Run.{ended, ended_one, roll_all, has_position}
use Rattle.tt_model.proofs.AppendLemmas.{cells-Abort, cells-Commit}
use Rattle.tt_model.proofs.SteadyLemmas.{changed_by-untouched}
use Rattle.tt_model.proofs.EndLemmas.{sound-ended}
use Rattle.tt_model.proofs.TableRows.{row_none, place_none, left-none}
use Rattle.tt_model.proofs.BookmarkLemmas.{cells-with_edits, cells_forced}
use Rattle.tt_model.proofs.BookmarkLines.{cells_unless, cells_all_forced}
use Rattle.tt_model.proofs.GoodCells.{IsGood, no_row}
use Rattle.tt_model.proofs.GoodFrames.{AreSameSystem, good-same}
use Rattle.tt_model.proofs.GoodDeletes.{HasGood, good-lift}

-- Where the cells stay.
pub good-cells : (s after : State) → IsSound s → IsSound after → cells_of after ≡ cells_of s → HasGood s → HasGood after
good-cells s after h k e g = good-lift s after h k (λ n l m x. subst (λ (cells : Cells). IsGood n cells) (sym e) x) g

cells_made : (session : ℕ) (edits : List CellEdit) (s : State) → cells_of ((made session edits s).1) ≡ cells_of s
cells_made session [] s = refl
cells_made session (e ∷ es) s =
    let t : ℕ = number_for (s.own session) s in
    cells_unless (option_or (no_number_for (s.own session) s) (no_position (map edit_length (e ∷ es)) s)) (Changed (suc (length es))) (made_in session t (e ∷ es) s) s (cells-with_edits t (e ∷ es) s)

pub cells-statement : (session : ℕ) (m : Meant) (s : State) → cells_of ((statement session m s).1) ≡ cells_of s
cells-statement session (Refuses r) s = refl
cells-statement session (Makes edits) s = cells_made session edits s

cells_rolled : (t : ℕ) (s : State) → cells_of (rolled_back t s) ≡ cells_of s
cells_rolled t s = cells-Abort t (with_edits t (reversals t s.entries) s) ∙ cells-with_edits t (reversals t s.entries) s

pub cells-rollback : (session : ℕ) (o : Option ℕ) (s : State) → cells_of ((rollback_of session o s).1) ≡ cells_of s
cells-rollback session None s = refl
cells-rollback session (Some t) s = cells_unless (no_position (rollback_lengths t s) s) Done (session_ended session (rolled_back t s)) s (cells_rolled t s)

-- ---- commits

module _ (s : State) (t : ℕ) (h : IsSound s) (l : is_live t s.entries ≡ true) where
  same_row : (id q : ℕ) → id < 16 → row_in id (changed_by t s.entries (cells_of s) q) ≡ row_in id (cells_of s q)
  same_row id q low = elim (cases_Bool (touched t q s.entries)) [
    | inr n ↦ ap (row_in id) (changed_by-untouched t q s.entries (cells_of s) n)
    | inl y ↦
        row_none id (changed_by t s.entries (cells_of s) q)
        (left-none (whole_table id) t q s.entries (cells_of s) ((h.catalog).users t id l low) (place_none s t q id h l low y))
        ∙ sym (row_none id (cells_of s q) (place_none s t q id h l low y))
  ]

  pub same-Commit : AreSameSystem (cells_of s) (cells_of (with_entry (Commit t) s))
  same-Commit = subst (λ (x : Cells). AreSameSystem (cells_of s) x) (sym (cells-Commit t s)) (record { rows = same_row })

commit_good : (o : _) (session : ℕ) (s end : State) → IsSound s → AreSameSystem (cells_of s) (cells_of end) → IsSound ((unless_refused o (Done, session_ended session end) s).1) → HasGood s →
    HasGood ((unless_refused o (Done, session_ended session end) s).1)
commit_good None session s end h same k g = good-lift s (session_ended session end) h k (λ n l m x. good-same no_row n (cells_of s) (cells_of end) same x) g
commit_good (Some r) session s end h same k g = g

pub good-commit : (session : ℕ) (o : Option ℕ) (s : State) → s.own session ≡ o → IsSound s → IsSound ((commit_of session o s).1) → HasGood s → HasGood ((commit_of session o s).1)
good-commit session None s e h k g = good-cells s (session_ended session (forced_where (is_durable session s) s)) h k (cells_forced (is_durable session s) s) g
good-commit session (Some t) s e h k g =
    let mid : State = with_entry (Commit t) s in
    let end : State = forced_where (is_durable session s) mid in
    commit_good (no_position (end_length ∷ []) s) session s end h
    (subst (λ (x : Cells). AreSameSystem (cells_of s) x) (sym (cells_forced (is_durable session s) mid)) (same-Commit s t h ((h.owned).live session t e))) k g

-- ---- the end of a run

cells_roll_where : (t : ℕ) (ts : List ℕ) (s : State) → cells_of ((roll_all ts (ended_one t s)).1) ≡ cells_of (ended_one t s) → (b : Bool) →
    cells_of ((elim b as (λ x. Bool × State) [ true ↦ roll_all ts (ended_one t s) | false ↦ (false, s) ]).1) ≡ cells_of s
cells_roll_where t ts s e true = e ∙ cells_rolled t s
cells_roll_where t ts s e false = refl

cells_roll_all : (ts : List ℕ) (s : State) → cells_of ((roll_all ts s).1) ≡ cells_of s
cells_roll_all [] s = cells_all_forced s
cells_roll_all (t ∷ ts) s = cells_roll_where t ts s (cells_roll_all ts (ended_one t s)) (has_position t s)

cells_ended : (s : State) → cells_of ((ended s).1) ≡ cells_of s
unfolding ended
cells_ended s = cells_roll_all (live_in s) (record s { underway = None })

pub good-ended : (s : State) → IsSound s → HasGood s → HasGood ((ended s).1)
good-ended s h g = good-cells s ((ended s).1) h (sound-ended s h) (cells_ended s) g

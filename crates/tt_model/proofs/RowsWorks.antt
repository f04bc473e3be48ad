-- Statements, commits, rollbacks and transactions of the system leave users' rows good by the catalog that they leave.
use Rattle.std.proofs.Common.{◌≡◌, ◌≤◌, ◌<◌, ◌+◌, ℕ, Bool, true, false, List, [], ◌∷◌, map, Option, Some, None, refl, sym, ap, ◌∙◌, subst, arith}
use Rattle.std.specs.List.{list_any}
use Rattle.std.specs.Option.{option_or}
use Rattle.std.proofs.lemmas.Bool.{or_left}
use Rattle.tt_value.specs.declared.refusal.Refusal.{Refusal}
use Rattle.tt_value.specs.declared.reply.Reply.{Reply}
use Rattle.tt_value.specs.declared.reply.Reply.TheVariants.{Done}
use Rattle.tt_record.specs.declared.entry.Entry.TheVariants.{Commit}
use Rattle.tt_model.specs.Committed.{Cells, is_full}
use Rattle.tt_model.specs.Live.{in_use, is_live, live, touched}
use Rattle.tt_model.specs.Tables.{Catalog, row_in}
use Rattle.tt_model.specs.State.{State, all_forced, bound, catalog, cells_of, next, reversals, trail, with_edits, with_entry}
use Rattle.tt_model.specs.declared.definition.CellEdit.{CellEdit}
use Rattle.tt_model.specs.Meaning.{Meant, Makes, Refuses}
use Rattle.tt_model.specs.Sound.{IsSound, MayEdit}
use Rattle.tt_model.specs.Step.{commit_of, edit_length, end_length, forced_where, is_durable, made, made_in, no_number_for, no_position, no_system_position, number_for, rollback_lengths, rollback_of, rolled_back, session_ended, statement, system, system_done, unless_refused}
use Rattle.tt_model.specs.WholeRuns.{HeldOnce}
use Rattle.tt_model.proofs.RowsCatalog.{HasOwnNumbers}
use Rattle.tt_model.proofs.AppendLemmas.{cells-Abort, cells-Commit}
use Rattle.tt_model.proofs.BookmarkLemmas.{cells-with_edits}
use Rattle.tt_model.proofs.BoundLemmas.{LieBelow, catalog-either}
use Rattle.tt_model.proofs.CatalogLemmas.{LeaveUserTables}
use Rattle.tt_model.proofs.LineLemmas.{AreSome}
use Rattle.tt_model.proofs.SoundLemmas.{LogOf, log-Commit}
use Rattle.tt_model.proofs.SoundLines.{log-rolled_back, log-with_edits, sound-system_done, writes}
use Rattle.tt_model.proofs.TableRows.{AreElsewhere}
use Rattle.tt_model.proofs.RowsStates.{AreAllowed, AreOfSystem, StandIn, held-unique, stand-Abort, stand-Commit, stand-with_edits}
use Rattle.tt_model.proofs.RowsSystem.{stand-elsewhere}
use Rattle.tt_model.proofs.RowsTables.{HasRowOf}
use Rattle.tt_model.proofs.RowsViews.{catalog-alike, system-seen}

-- A sound state with good rows.
pub record IsReady (s : State) : Type 0 where
  pub sound : IsSound s
  pub held : HeldOnce (catalog s) s.entries
  pub own : HasOwnNumbers (catalog s)
  pub stand : StandIn (catalog s) s

-- Users' rows stand good by its own catalog, where each table has a number of its own.
abbrev pub Leaves : State → Type 0
Leaves s = HasOwnNumbers (catalog s) → StandIn (catalog s) s

pub leaves-self : (s : State) → IsReady s → Leaves s
leaves-self s r own = r.stand

pub leaves-unless : (o : Option Refusal) (reply : Reply) (after s : State) → Leaves s → Leaves after → Leaves ((unless_refused o (reply, after) s).1)
leaves-unless None reply after s a b = b
leaves-unless (Some r) reply after s a b = a

pub leaves-forced : (c : Bool) (s : State) → Leaves s → Leaves (forced_where c s)
unfolding all_forced
leaves-forced true s a = a
leaves-forced false s a = a

-- ---- the catalog stays

pub log-below : (s : State) → LogOf s → LieBelow (bound s) (cells_of s)
unfolding in_use
log-below s h q y = h.below q (or_left (is_full (cells_of s q)) (list_any (λ t. touched t q (trail s)) (live (trail s))) y)

pub catalog-kept : (s after : State) → LogOf s → LogOf after → ((table q : ℕ) → table < 16 → row_in table (cells_of after q) ≡ row_in table (cells_of s q)) → catalog after ≡ catalog s
catalog-kept s after h k same =
    let n : ℕ = bound s + bound after in
    let below : LieBelow (bound s) (cells_of s) = log-below s h in
    let below_after : LieBelow (bound after) (cells_of after) = log-below after k in
    catalog-either (bound after) n (cells_of after) below_after (λ q y. let low : q < bound after = below_after q y in omega (arith, low))
    ∙ (catalog-alike n (cells_of s) (cells_of after) same ∙ catalog-either n (bound s) (cells_of s) (λ q y. let low : q < bound s = below q y in omega (arith, low)) below)

-- ---- statements

leaves-edits : (session : ℕ) (edits : List CellEdit) (s : State) → IsReady s → MayEdit (number_for (s.own session) s) edits s → AreAllowed (catalog s) (number_for (s.own session) s) edits s →
    StandIn (catalog (with_edits (number_for (s.own session) s) edits s)) (with_edits (number_for (s.own session) s) edits s)
leaves-edits session edits s r may allowed =
    let t : ℕ = number_for (s.own session) s in
    let mid : State = with_edits t edits s in
    let log : LogOf mid = log-with_edits t edits s (r.sound).entries (writes s session r.sound) may in
    subst (λ (c : Catalog). StandIn c mid) (sym (catalog-kept s mid (r.sound).entries log (λ table q low. ap (λ (c : Cells). row_in table (c q)) (cells-with_edits t edits s))))
    (stand-with_edits (catalog s) t edits s (r.sound).entries (writes s session r.sound) may allowed r.stand)

leaves-made : (session : ℕ) (edits : List CellEdit) (s : State) → IsReady s → MayEdit (number_for (s.own session) s) edits s → AreAllowed (catalog s) (number_for (s.own session) s) edits s →
    Leaves ((made session edits s).1)
leaves-made session [] s r may allowed = leaves-self s r
leaves-made session (e ∷ es) s r may allowed =
    leaves-unless (option_or (no_number_for (s.own session) s) (no_position (map edit_length (e ∷ es)) s)) _ (made_in session (number_for (s.own session) s) (e ∷ es) s) s (leaves-self s r)
    (λ own. leaves-edits session (e ∷ es) s r may allowed)

pub leaves-statement : (session : ℕ) (m : Meant) (s : State) → IsReady s →
    ((edits : List CellEdit) → m ≡ Makes edits → MayEdit (number_for (s.own session) s) edits s × AreAllowed (catalog s) (number_for (s.own session) s) edits s) → Leaves ((statement session m s).1)
leaves-statement session (Refuses x) s r f = leaves-self s r
leaves-statement session (Makes edits) s r f = leaves-made session edits s r ((f edits refl).0) ((f edits refl).1)

-- ---- commits and rollbacks

leaves-Commit : (t : ℕ) (s : State) → IsReady s → is_live t s.entries ≡ true → StandIn (catalog (with_entry (Commit t) s)) (with_entry (Commit t) s)
leaves-Commit t s r l =
    let mid : State = with_entry (Commit t) s in
    subst (λ (c : Catalog). StandIn c mid)
    (sym (catalog-kept s mid (r.sound).entries (log-Commit t s (r.sound).entries l)
    (λ table q low. ap (λ (c : Cells). row_in table (c q)) (cells-Commit t s) ∙ system-seen s t r.sound l table q low)))
    (stand-Commit (catalog s) t s l (λ name u. held-unique (catalog s) s.entries name r.held u) r.stand)

pub leaves-commit : (session : ℕ) (o : Option ℕ) (s : State) → IsReady s → s.own session ≡ o → Leaves ((commit_of session o s).1)
leaves-commit session None s r e = leaves-forced (is_durable session s) s (leaves-self s r)
leaves-commit session (Some t) s r e =
    let mid : State = with_entry (Commit t) s in
    leaves-unless (no_position (end_length ∷ []) s) Done (session_ended session (forced_where (is_durable session s) mid)) s (leaves-self s r)
    (leaves-forced (is_durable session s) mid (λ own. leaves-Commit t s r (((r.sound).owned).live session t e)))

pub leaves-rolled_back : (t : ℕ) (s : State) → IsSound s → StandIn (catalog s) s → is_live t s.entries ≡ true → StandIn (catalog (rolled_back t s)) (rolled_back t s)
leaves-rolled_back t s h stand l =
    let edits : List CellEdit = reversals t s.entries in
    subst (λ (c : Catalog). StandIn c (rolled_back t s))
    (sym (catalog-kept s (rolled_back t s) h.entries (log-rolled_back t s h.entries l)
    (λ table q low. ap (λ (c : Cells). row_in table (c q)) (cells-Abort t (with_edits t edits s) ∙ cells-with_edits t edits s))))
    (stand-Abort (catalog s) t edits s stand)

pub leaves-rollback : (session : ℕ) (o : Option ℕ) (s : State) → IsReady s → s.own session ≡ o → Leaves ((rollback_of session o s).1)
leaves-rollback session None s r e = leaves-self s r
leaves-rollback session (Some t) s r e =
    leaves-unless (no_position (rollback_lengths t s) s) Done (session_ended session (rolled_back t s)) s (leaves-self s r)
    (λ own. leaves-rolled_back t s r.sound r.stand (((r.sound).owned).live session t e))

-- ---- transactions of the system

-- Edits of the system's rows, of other ones than those of tables with rows.
pub record LeaveRows (s : State) (edits : List CellEdit) : Type 0 where
  pub some : AreSome edits
  pub may : MayEdit (next s) edits s
  pub system : AreOfSystem edits
  pub leave : LeaveUserTables edits
  pub elsewhere : (m : ℕ) → 16 ≤ m → HasRowOf s m → AreElsewhere m edits

pub sound-done : (edits : List CellEdit) (s : State) → IsSound s → AreSome edits → LeaveUserTables edits → MayEdit (next s) edits s → IsSound (system_done edits s)
sound-done [] s h some leave may = absurd some
sound-done (e ∷ es) s h some leave may = sound-system_done e es s h leave may

pub leaves-system_done : (edits : List CellEdit) (s : State) → IsReady s → LeaveRows s edits → Leaves (system_done edits s)
leaves-system_done edits s r m own =
    stand-elsewhere edits s r.sound (sound-done edits s r.sound m.some m.leave m.may) r.stand r.held own m.some m.may m.system m.elsewhere

pub leaves-system_by : (m : Meant) (s : State) → IsReady s → ((edits : List CellEdit) → m ≡ Makes edits → Leaves (system_done edits s)) → Leaves ((system m s).1)
leaves-system_by (Refuses x) s r f = leaves-self s r
leaves-system_by (Makes edits) s r f = leaves-unless (no_system_position edits s) Done (system_done edits s) s (leaves-self s r) (f edits refl)

pub leaves-system : (m : Meant) (s : State) → IsReady s → ((edits : List CellEdit) → m ≡ Makes edits → LeaveRows s edits) → Leaves ((system m s).1)
leaves-system m s r f = leaves-system_by m s r (λ edits e. leaves-system_done edits s r (f edits e))

-- Live transactions keep to users' tables.
use Rattle.std.proofs.Common.{◌≡◌, ◌<◌, ◌≤◌, inl, inr, ℕ, suc, Bool, true, false, cond, ◌&&◌, ◌||◌, nat_eq, List, [], ◌∷◌, refl, sym, ap, ◌∙◌, subst, arith, lit<, true≢false}
use Rattle.std.proofs.lemmas.Bool.{eq-eqb, eqb-true, cases_Bool, or_cases, or_parts, or_left, or_right, and_from, and_parts, both_ways, false_from_ne_true}
use Rattle.std.proofs.lemmas.List.Folds.{list_any-append}
use Rattle.tt_value.specs.declared.value.Row.{Row}
use Rattle.tt_value.specs.declared.value.Cell.{Cell}
use Rattle.tt_value.specs.declared.value.Cell.TheVariants.{Full}
use Rattle.tt_record.specs.declared.entry.Entry.{Entry}
use Rattle.tt_record.specs.declared.entry.Entry.TheVariants.{Change, Commit, Abort, Mark, Switch}
use Rattle.tt_model.specs.Trail.{Trail}
use Rattle.tt_model.specs.Committed.{Cells, committed, changed, changed_by, put}
use Rattle.tt_model.specs.Live.{live, is_live, after_number, next_number}
use Rattle.tt_model.specs.Holders.{Held, has_held, holds_by, is_held_by}
use Rattle.tt_model.specs.State.{State, trail, next, with_entry, with_edit, with_edits}
use Rattle.tt_model.specs.declared.definition.CellEdit.{CellEdit}
use Rattle.tt_model.specs.Sound.{whole_table, IsUserTable, KeepsCatalog, MayWrite}
use Rattle.tt_model.proofs.SteadyLemmas.{list_any-with_number, is_in-without}

-- ---- who holds what

holds_below : (name : Held) (t : ℕ) (x : Entry) → holds_by name t x ≡ true → suc t ≤ after_number x
holds_below name t (Change u p b a) h =
    let e : t ≡ u = eqb-true t u ((and_parts (nat_eq t u) (has_held name b || has_held name a) h).0) in omega (arith, e)
holds_below name t (Commit u) h = absurd (true≢false (sym h))
holds_below name t (Abort u) h = absurd (true≢false (sym h))
holds_below name t Mark h = absurd (true≢false (sym h))
holds_below name t (Switch n) h = absurd (true≢false (sym h))

held-below : (first t : ℕ) (name : Held) (es : Trail) → is_held_by name es t ≡ true → t < next_number first es
unfolding next_number
held-below first t name [] h = absurd (true≢false (sym h))
held-below first t name (e ∷ es) h = elim (or_cases (holds_by name t e.entry) (is_held_by name es t) h) [
  | inl y ↦ let now : suc t ≤ after_number e.entry = holds_below name t e.entry y in omega (arith, now)
  | inr y ↦ let before : t < next_number first es = held-below first t name es y in omega (arith, before)
]

-- The next number holds nothing.
pub next-holds_nothing : (name : Held) (s : State) → is_held_by name s.entries (next s) ≡ false
next-holds_nothing name s = false_from_ne_true (is_held_by name s.entries (next s)) (λ y.
    let below : next s < next s = held-below s.found.next (next s) name (trail s)
    (list_any-append (λ e. holds_by name (next s) e.entry) s.entries s.found.entries ∙ or_left (is_held_by name s.entries (next s)) (is_held_by name s.found.entries (next s)) y) in
    omega (arith, below))

-- ---- the tables that others than t have changed

abbrev pub KeepBut : ℕ → Trail → Type 0
KeepBut t es = (u table : ℕ) → nat_eq t u ≡ false → is_live u es ≡ true → table < 16 → is_held_by (whole_table table) es u ≡ false

flip : (t u : ℕ) → nat_eq t u ≡ false → nat_eq u t ≡ false
flip t u n = false_from_ne_true (nat_eq u t) (λ y. both_ways (nat_eq t u) n (eq-eqb t u (sym (eqb-true u t y))))

keep-with_edit : (t : ℕ) (edit : CellEdit) (s : State) → KeepBut t s.entries → KeepBut t ((with_edit t edit s).entries)
unfolding with_entry live
keep-with_edit t edit s k u table n l low =
    let before : is_live u s.entries ≡ true = elim (or_cases (nat_eq u t) (is_live u s.entries) (sym (list_any-with_number (nat_eq u) t (live s.entries)) ∙ l)) [
      | inl y ↦ absurd (both_ways (nat_eq u t) (flip t u n) y)
      | inr y ↦ y
    ] in
    ap (λ b. b && (has_held (whole_table table) edit.before || has_held (whole_table table) edit.after) || is_held_by (whole_table table) s.entries u) (flip t u n)
    ∙ k u table n before low

pub keep-with_edits : (t : ℕ) (edits : List CellEdit) (s : State) → KeepBut t s.entries → KeepBut t ((with_edits t edits s).entries)
keep-with_edits t [] s k = k
keep-with_edits t (edit ∷ edits) s k = keep-with_edits t edits (with_edit t edit s) (keep-with_edit t edit s k)

-- Once t has ended, all keep to users' tables.
pub users-Commit : (t : ℕ) (s : State) → KeepBut t s.entries → (u table : ℕ) → is_live u ((with_entry (Commit t) s).entries) ≡ true → table < 16 →
    is_held_by (whole_table table) ((with_entry (Commit t) s).entries) u ≡ false
unfolding with_entry live
users-Commit t s k u table l low =
    let left : (nat_eq t u ≡ false) × (is_live u s.entries ≡ true) = is_in-without t u (live s.entries) l in k u table (left.0) (left.1) low

pub users-Abort : (t : ℕ) (s : State) → KeepBut t s.entries → (u table : ℕ) → is_live u ((with_entry (Abort t) s).entries) ≡ true → table < 16 →
    is_held_by (whole_table table) ((with_entry (Abort t) s).entries) u ≡ false
unfolding with_entry live
users-Abort t s k u table l low =
    let left : (nat_eq t u ≡ false) × (is_live u s.entries ≡ true) = is_in-without t u (live s.entries) l in k u table (left.0) (left.1) low

-- ---- edits of users' tables

abbrev pub AreOfUsers : List CellEdit → Type 0
AreOfUsers [] = Unit {0}
AreOfUsers (edit ∷ edits) =
    ((table : ℕ) → table < 16 → (has_held (whole_table table) edit.before || has_held (whole_table table) edit.after) ≡ false) × AreOfUsers edits

and_false : (x : Bool) → (x && false) ≡ false
and_false true = refl
and_false false = refl

own-with_edits : (t table : ℕ) (edits : List CellEdit) (s : State) → table < 16 → AreOfUsers edits → is_held_by (whole_table table) s.entries t ≡ false →
    is_held_by (whole_table table) ((with_edits t edits s).entries) t ≡ false
unfolding with_entry
own-with_edits t table [] s low o h = h
own-with_edits t table (edit ∷ edits) s low o h =
    own-with_edits t table edits (with_edit t edit s) low (o.1)
    (ap (λ b. nat_eq t t && b || is_held_by (whole_table table) s.entries t) ((o.0) table low)
    ∙ (ap (λ b. b || is_held_by (whole_table table) s.entries t) (and_false (nat_eq t t)) ∙ h))

users_at : (t : ℕ) (edits : List CellEdit) (s : State) → KeepsCatalog s.found.cells s.entries → AreOfUsers edits → (table : ℕ) → table < 16 →
    is_held_by (whole_table table) s.entries t ≡ false → (u : ℕ) → is_live u ((with_edits t edits s).entries) ≡ true → is_held_by (whole_table table) ((with_edits t edits s).entries) u ≡ false
users_at t edits s k o table low own u l = elim (cases_Bool (nat_eq t u)) [
  | inl e ↦ ap (λ x. is_held_by (whole_table table) ((with_edits t edits s).entries) x) (sym (eqb-true t u e)) ∙ own-with_edits t table edits s low o own
  | inr n ↦ keep-with_edits t edits s (λ v tab m lv lo. k.users v tab lv lo) u table n l low
]

pub users-with_edits : (t : ℕ) (edits : List CellEdit) (s : State) → KeepsCatalog s.found.cells s.entries → MayWrite t s → AreOfUsers edits →
    (u table : ℕ) → is_live u ((with_edits t edits s).entries) ≡ true → table < 16 → is_held_by (whole_table table) ((with_edits t edits s).entries) u ≡ false
users-with_edits t edits s k (inl lives) o u table l low = users_at t edits s k o table low (k.users t table lives low) u l
users-with_edits t edits s k (inr fresh) o u table l low = users_at t edits s k o table low
    (ap (is_held_by (whole_table table) s.entries) fresh ∙ next-holds_nothing (whole_table table) s) u l

-- ---- the rows of TABLES

-- Each Change of t leaves a user's table, or none.
abbrev LeavesUser : ℕ → Entry → Type 0
LeavesUser t (Change u p b a) = nat_eq t u ≡ true → IsUserTable a
LeavesUser t _ = Unit {0}

abbrev LeaveUsers : ℕ → Trail → Type 0
LeaveUsers t [] = Unit {0}
LeaveUsers t (e ∷ es) = LeavesUser t e.entry × LeaveUsers t es

put_user : (q p : ℕ) (a : Cell) (cells : Cells) → IsUserTable a → IsUserTable (cells q) → (c : Bool) → IsUserTable (cond c a (cells q))
put_user q p a cells ua uc true = ua
put_user q p a cells ua uc false = uc

changed_user : (t q u p : ℕ) (a : Cell) (cells : Cells) → (nat_eq t u ≡ true → IsUserTable a) → IsUserTable (cells q) → (c : Bool) → nat_eq t u ≡ c →
    IsUserTable (cond c (put p a cells) cells q)
changed_user t q u p a cells ua uc true e = put_user q p a cells (ua e) uc (nat_eq q p)
changed_user t q u p a cells ua uc false e = uc

changed_step : (t q : ℕ) (x : Entry) (cells : Cells) → LeavesUser t x → IsUserTable (cells q) → IsUserTable (changed t x cells q)
changed_step t q (Change u p b a) cells l uc = changed_user t q u p a cells l uc (nat_eq t u) refl
changed_step t q (Commit u) cells l uc = uc
changed_step t q (Abort u) cells l uc = uc
changed_step t q Mark cells l uc = uc
changed_step t q (Switch n) cells l uc = uc

pub tables-changed_by : (t q : ℕ) (es : Trail) (cells : Cells) → LeaveUsers t es → IsUserTable (cells q) → IsUserTable (changed_by t es cells q)
tables-changed_by t q [] cells l uc = uc
tables-changed_by t q (e ∷ es) cells l uc = changed_step t q e.entry (changed_by t es cells) (l.0) (tables-changed_by t q es cells (l.1) uc)

-- A cell of TABLES has that whole table.
table_of_one : (c : Cell) (row : Row) → c ≡ Full 1 row → has_held (whole_table 1) c ≡ true
table_of_one c row e = ap (has_held (whole_table 1)) e

pub not_held_user : (a : Cell) → has_held (whole_table 1) a ≡ false → IsUserTable a
not_held_user a n row e = absurd (both_ways (has_held (whole_table 1) a) n (table_of_one a row e))

leaves_not_held : (t : ℕ) (x : Entry) → holds_by (whole_table 1) t x ≡ false → LeavesUser t x
leaves_not_held t (Change u p b a) n = λ e.
    not_held_user a (false_from_ne_true (has_held (whole_table 1) a) (λ y.
    both_ways (nat_eq t u && (has_held (whole_table 1) b || has_held (whole_table 1) a)) n
    (and_from (nat_eq t u) (has_held (whole_table 1) b || has_held (whole_table 1) a) e (or_right (has_held (whole_table 1) b) (has_held (whole_table 1) a) y))))
leaves_not_held t (Commit u) n = tt
leaves_not_held t (Abort u) n = tt
leaves_not_held t Mark n = tt
leaves_not_held t (Switch f) n = tt

-- Who changed no row of TABLES leaves users' tables.
pub leave-not_held : (t : ℕ) (es : Trail) → is_held_by (whole_table 1) es t ≡ false → LeaveUsers t es
leave-not_held t [] n = tt
leave-not_held t (e ∷ es) n =
    let parts : (holds_by (whole_table 1) t e.entry ≡ false) × (is_held_by (whole_table 1) es t ≡ false) = or_parts (holds_by (whole_table 1) t e.entry) (is_held_by (whole_table 1) es t) n in
    (leaves_not_held t e.entry (parts.0), leave-not_held t es (parts.1))

-- Edits after which each row of TABLES is a user's.
abbrev pub LeaveUserTables : List CellEdit → Type 0
LeaveUserTables [] = Unit {0}
LeaveUserTables (edit ∷ edits) = IsUserTable edit.after × LeaveUserTables edits

pub leave-with_edits : (t : ℕ) (edits : List CellEdit) (s : State) → LeaveUsers t s.entries → LeaveUserTables edits → LeaveUsers t ((with_edits t edits s).entries)
unfolding with_entry
leave-with_edits t [] s l e = l
leave-with_edits t (edit ∷ edits) s l e = leave-with_edits t edits (with_edit t edit s) ((λ k. e.0), l) (e.1)

-- ---- what keeps the catalog

committed-with_edits : (base : Cells) (t : ℕ) (edits : List CellEdit) (s : State) → committed base ((with_edits t edits s).entries) ≡ committed base s.entries
unfolding committed with_entry
committed-with_edits base t [] s = refl
committed-with_edits base t (edit ∷ edits) s = committed-with_edits base t edits (with_edit t edit s)

same_tables : (c d : Cells) → c ≡ d → ((place : ℕ) → IsUserTable (d place)) → (place : ℕ) → IsUserTable (c place)
same_tables c d e u = subst (λ (x : Cells). (place : ℕ) → IsUserTable (x place)) (sym e) u

others_keep : (t : ℕ) (s : State) → KeepsCatalog s.found.cells s.entries → KeepBut t s.entries
others_keep t s k u table n l low = k.users u table l low

pub catalog-with_edits : (t : ℕ) (edits : List CellEdit) (s : State) → KeepsCatalog s.found.cells s.entries → MayWrite t s → AreOfUsers edits →
    KeepsCatalog s.found.cells ((with_edits t edits s).entries)
catalog-with_edits t edits s k w o = record {
  users = users-with_edits t edits s k w o;
  tables = same_tables (committed s.found.cells ((with_edits t edits s).entries)) (committed s.found.cells s.entries) (committed-with_edits s.found.cells t edits s) k.tables;
}

pub catalog-Commit : (t : ℕ) (s : State) → KeepsCatalog s.found.cells s.entries → is_live t s.entries ≡ true → KeepsCatalog s.found.cells ((with_entry (Commit t) s).entries)
unfolding with_entry committed
catalog-Commit t s k lives = record {
  users = users-Commit t s (others_keep t s k);
  tables = λ place. tables-changed_by t place s.entries (committed s.found.cells s.entries) (leave-not_held t s.entries (k.users t 1 lives (lit< tt))) (k.tables place);
}

pub catalog-rolled_back : (t : ℕ) (edits : List CellEdit) (s : State) → KeepsCatalog s.found.cells s.entries →
    KeepsCatalog s.found.cells ((with_entry (Abort t) (with_edits t edits s)).entries)
unfolding with_entry committed
catalog-rolled_back t edits s k = record {
  users = users-Abort t (with_edits t edits s) (keep-with_edits t edits s (others_keep t s k));
  tables = same_tables (committed s.found.cells ((with_edits t edits s).entries)) (committed s.found.cells s.entries) (committed-with_edits s.found.cells t edits s) k.tables;
}

pub catalog-system : (edits : List CellEdit) (s : State) → KeepsCatalog s.found.cells s.entries → LeaveUserTables edits →
    KeepsCatalog s.found.cells ((with_entry (Commit (next s)) (with_edits (next s) edits s)).entries)
unfolding with_entry committed
catalog-system edits s k e = record {
  users = users-Commit (next s) (with_edits (next s) edits s) (keep-with_edits (next s) edits s (others_keep (next s) s k));
  tables = λ place. tables-changed_by (next s) place ((with_edits (next s) edits s).entries) (committed s.found.cells ((with_edits (next s) edits s).entries))
      (leave-with_edits (next s) edits s (leave-not_held (next s) s.entries (next-holds_nothing (whole_table 1) s)) e)
      (same_tables (committed s.found.cells ((with_edits (next s) edits s).entries)) (committed s.found.cells s.entries) (committed-with_edits s.found.cells (next s) edits s) k.tables place);
}

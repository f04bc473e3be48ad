-- Rows of TABLES, COLUMNS and INDEXES of one table: which edits and commits leave them as they are, and that the key of the table is then
-- the same.
use Rattle.std.proofs.Common.{◌≡◌, ◌≤◌, ◌<◌, ◌+◌, inl, inr, ℕ, zero, suc, Bool, true, false, cond, ◌||◌, ◌&&◌, nat_eq, filter, List, [], ◌∷◌, if◌then◌else◌, Option, Some, None, refl, sym, ap, ◌∙◌, subst, arith, lit<, true≢false}
use Rattle.std.specs.Prelude.{◌==◌, filter_map, option_map, is_some}
use Rattle.std.specs.List.{cons_option}
use Rattle.std.proofs.lemmas.Bool.{cases_Bool, eqb-true, or_parts, both_ways, false_from_ne_true}
use Rattle.tt_value.specs.declared.value.Row.{Row}
use Rattle.tt_value.specs.declared.value.Cell.{Cell}
use Rattle.tt_value.specs.declared.value.Cell.TheVariants.{Empty, Full}
use Rattle.tt_record.specs.declared.entry.Entry.{Entry}
use Rattle.tt_record.specs.declared.entry.Entry.TheVariants.{Change, Commit, Abort, Mark, Switch}
use Rattle.tt_model.specs.Trail.{Trail}
use Rattle.tt_model.specs.Committed.{Cells, is_full, put, changed, changed_by, committed}
use Rattle.tt_model.specs.Live.{is_live, touched, numbers_from}
use Rattle.tt_model.specs.Holders.{Held, value_at, has_held, holds_by, is_held_by}
use Rattle.tt_model.specs.Tables.{PlacedRow, row_in, row_at, rows_of, number_at, with_number_at, whole_number_of}
use Rattle.tt_model.specs.State.{State, trail, next, cells_of, bound, place_for, with_entry, with_edit, with_edits}
use Rattle.tt_model.specs.declared.definition.CellEdit.{CellEdit}
use Rattle.tt_model.specs.Steady.{MayChange}
use Rattle.tt_model.specs.Sound.{whole_table, IsSound, MayWrite, MayEdit}
use Rattle.tt_model.specs.Step.{system_done}
use Rattle.tt_model.proofs.AppendLemmas.{cells-Commit, changed-own}
use Rattle.tt_model.proofs.SteadyLemmas.{changed_by-untouched}
use Rattle.tt_model.proofs.SteadySteps.{steady-grown}
use Rattle.tt_model.proofs.FirstBeforeLemmas.{first_before-committed}
use Rattle.tt_model.proofs.RowLemmas.{first_from}
use Rattle.tt_model.proofs.ConflictLemmas.{held_first}
use Rattle.tt_model.proofs.SoundLemmas.{LogOf, log-Change, untouched-trail}
use Rattle.tt_model.proofs.SoundLines.{own_live-with_edit}
use Rattle.tt_model.proofs.NumberLemmas.{next-untouched}
use Rattle.tt_model.proofs.IsolationLemmas.{full-below}
use Rattle.tt_model.proofs.BookmarkLemmas.{before_is_seen, seen_by, cells_forced}

-- ---- the rows of a table's number

abbrev pub kept_row : ℕ → ℕ → Option Row → Option Row
kept_row column m None = None
kept_row column m (Some row) = if whole_number_of (value_at row column) == m then Some row else None

-- The row of a cell in a system table, where it has this number in this column.
abbrev pub row_with : ℕ → ℕ → ℕ → Cell → Option Row
row_with table column m c = kept_row column m (row_in table c)

-- A row of TABLES has the number.
abbrev pub HasTable : ℕ → Cells → Type 0
HasTable m cells = (q : ℕ) × (is_some (row_with 1 0 m (cells q)) ≡ true)

-- The rows of TABLES and COLUMNS with the number are the same in two maps of cells, and the second has no other one of INDEXES.
pub record AreAlike (m : ℕ) (c d : Cells) : Type 0 where
  pub tables : (q : ℕ) → row_with 1 0 m (d q) ≡ row_with 1 0 m (c q)
  pub columns : (q : ℕ) → row_with 2 0 m (d q) ≡ row_with 2 0 m (c q)
  pub indexes : (q : ℕ) → is_some (row_with 3 1 m (d q)) ≡ true → d q ≡ c q

pub alike-pointwise : (m : ℕ) (c d : Cells) → ((q : ℕ) → d q ≡ c q) → AreAlike m c d
alike-pointwise m c d h = record { tables = λ q. ap (row_with 1 0 m) (h q); columns = λ q. ap (row_with 2 0 m) (h q); indexes = λ q y. h q }

pub alike-then : (m : ℕ) (c d e : Cells) → AreAlike m c d → AreAlike m d e → AreAlike m c e
alike-then m c d e a b = record {
  tables = λ q. b.tables q ∙ a.tables q;
  columns = λ q. b.columns q ∙ a.columns q;
  indexes = λ q y. let same : e q ≡ d q = b.indexes q y in same ∙ a.indexes q (ap (λ x. is_some (row_with 3 1 m x)) (sym same) ∙ y);
}

pub has-alike : (m : ℕ) (c d : Cells) → AreAlike m c d → HasTable m c → HasTable m d
has-alike m c d a t = (t.0, ap (λ (o : Option Row). is_some o) (a.tables (t.0)) ∙ t.1)

-- ---- edits of other rows

-- A cell with no row of the table's number in TABLES and COLUMNS.
pub record IsApart (m : ℕ) (c : Cell) : Type 0 where
  pub table : row_with 1 0 m c ≡ None
  pub column : row_with 2 0 m c ≡ None

-- An edit of other rows. What it leaves is no row of the table in INDEXES either.
pub record IsElsewhere (m : ℕ) (e : CellEdit) : Type 0 where
  pub before : IsApart m e.before
  pub after : IsApart m e.after
  pub index : row_with 3 1 m e.after ≡ None

abbrev pub AreElsewhere : ℕ → List CellEdit → Type 0
AreElsewhere m [] = Unit {0}
AreElsewhere m (e ∷ es) = IsElsewhere m e × AreElsewhere m es

some_none : (o : Option Row) → o ≡ None → is_some o ≡ true → ⊥
some_none o n y = true≢false (sym y ∙ ap (λ (x : Option Row). is_some x) n)

module _ (m p : ℕ) (b a : Cell) (cells : Cells) (seen : b ≡ cells p) (before : IsApart m b) (after : IsApart m a) (index : row_with 3 1 m a ≡ None) where
  here : (q : ℕ) → nat_eq q p ≡ true → b ≡ cells q
  here q e = seen ∙ ap cells (sym (eqb-true q p e))

  tables_put : (q : ℕ) (c : Bool) → nat_eq q p ≡ c → row_with 1 0 m (cond c a (cells q)) ≡ row_with 1 0 m (cells q)
  tables_put q true e = after.table ∙ sym (ap (row_with 1 0 m) (sym (here q e)) ∙ before.table)
  tables_put q false e = refl

  columns_put : (q : ℕ) (c : Bool) → nat_eq q p ≡ c → row_with 2 0 m (cond c a (cells q)) ≡ row_with 2 0 m (cells q)
  columns_put q true e = after.column ∙ sym (ap (row_with 2 0 m) (sym (here q e)) ∙ before.column)
  columns_put q false e = refl

  indexes_put : (q : ℕ) (c : Bool) → is_some (row_with 3 1 m (cond c a (cells q))) ≡ true → cond c a (cells q) ≡ cells q
  indexes_put q true y = absurd (some_none (row_with 3 1 m a) index y)
  indexes_put q false y = refl

  pub alike-put : AreAlike m cells (put p a cells)
  alike-put = record {
    tables = λ q. tables_put q (nat_eq q p) refl;
    columns = λ q. columns_put q (nat_eq q p) refl;
    indexes = λ q y. indexes_put q (nat_eq q p) y;
  }

alike_edit : (m t : ℕ) (edit : CellEdit) (s : State) → LogOf s → MayChange s.found.cells s.entries t (place_for edit.place s) edit.before → IsElsewhere m edit →
    AreAlike m (seen_by t s) (seen_by t (with_edit t edit s))
unfolding with_entry committed
alike_edit m t edit s h may elsewhere =
    subst (AreAlike m (seen_by t s)) (sym (changed-own t (place_for edit.place s) edit.before edit.after (seen_by t s)))
    (alike-put m (place_for edit.place s) edit.before edit.after (seen_by t s)
    (before_is_seen s.found.cells s.entries t (place_for edit.place s) edit.before (steady-grown s.found.cells s.entries h.grown) may) elsewhere.before elsewhere.after elsewhere.index)

alike_edits : (m t : ℕ) (edits : List CellEdit) (s : State) → LogOf s → MayWrite t s → MayEdit t edits s → AreElsewhere m edits → AreAlike m (seen_by t s) (seen_by t (with_edits t edits s))
alike_edits m t [] s h w may elsewhere = alike-pointwise m (seen_by t s) (seen_by t s) (λ q. refl)
alike_edits m t (edit ∷ edits) s h w may elsewhere =
    let mid : State = with_edit t edit s in
    alike-then m (seen_by t s) (seen_by t mid) (seen_by t (with_edits t edits mid)) (alike_edit m t edit s h (may.0) (elsewhere.0))
    (alike_edits m t edits mid (log-Change t (place_for edit.place s) edit.before edit.after s h w (may.0)) (inl (own_live-with_edit t edit s)) (may.1) (elsewhere.1))

-- A transaction of its own whose edits are of other rows.
pub alike-system_done : (m : ℕ) (edits : List CellEdit) (s : State) → IsSound s → MayEdit (next s) edits s → AreElsewhere m edits → AreAlike m (cells_of s) (cells_of (system_done edits s))
alike-system_done m edits s h may elsewhere =
    let t : ℕ = next s in
    let made : State = with_edits t edits s in
    let first : AreAlike m (cells_of s) (seen_by t s)
    = alike-pointwise m (cells_of s) (seen_by t s) (λ q. changed_by-untouched t q s.entries (cells_of s) (untouched-trail t q s.entries s.found.entries (next-untouched s.found.next q (trail s)))) in
    let more : AreAlike m (seen_by t s) (seen_by t made) = alike_edits m t edits s h.entries (inr refl) may elsewhere in
    subst (AreAlike m (cells_of s)) (sym (cells_forced s.settings.durable_commits (with_entry (Commit t) made) ∙ cells-Commit t made))
    (alike-then m (cells_of s) (seen_by t s) (seen_by t made) first more)

-- ---- commits of users' transactions

-- A cell of another table has no row in this one.
pub row_none : (table : ℕ) (c : Cell) → has_held (whole_table table) c ≡ false → row_in table c ≡ None
row_none table Empty n = refl
row_none table (Full u row) n = by_test (nat_eq table u) n
  where
    by_test : (b : Bool) → (b && true) ≡ false → (if b then Some row else None) ≡ None
    by_test true k = absurd (true≢false k)
    by_test false k = refl

with_none : (table column m : ℕ) (c : Cell) → has_held (whole_table table) c ≡ false → row_with table column m c ≡ None
with_none table column m c n = ap (kept_row column m) (row_none table c n)

-- Where a transaction changed no row of a table, it leaves none.
left_put : (name : Held) (t u p q : ℕ) (b a : Cell) (cells : Cells) → (nat_eq t u && (has_held name b || has_held name a)) ≡ false → has_held name (cells q) ≡ false →
    (c : Bool) → nat_eq t u ≡ c → (d : Bool) → nat_eq q p ≡ d → has_held name ((if c then put p a cells else cells) q) ≡ false
left_put name t u p q b a cells n h false e d f = h
left_put name t u p q b a cells n h true e true f =
    let none : (has_held name b || has_held name a) ≡ false = ap (λ x. x && (has_held name b || has_held name a)) (sym e) ∙ n in
    ap (λ x. has_held name (cond x a (cells q))) f ∙ (or_parts (has_held name b) (has_held name a) none).1
left_put name t u p q b a cells n h true e false f = ap (λ x. has_held name (cond x a (cells q))) f ∙ h

left_step : (name : Held) (t q : ℕ) (x : Entry) (cells : Cells) → holds_by name t x ≡ false → has_held name (cells q) ≡ false → has_held name (changed t x cells q) ≡ false
left_step name t q (Change u p b a) cells n h = left_put name t u p q b a cells n h (nat_eq t u) refl (nat_eq q p) refl
left_step name t q (Commit u) cells n h = h
left_step name t q (Abort u) cells n h = h
left_step name t q Mark cells n h = h
left_step name t q (Switch f) cells n h = h

pub left-none : (name : Held) (t q : ℕ) (es : Trail) (cells : Cells) → is_held_by name es t ≡ false → has_held name (cells q) ≡ false → has_held name (changed_by t es cells q) ≡ false
left-none name t q [] cells n h = h
left-none name t q (e ∷ es) cells n h =
    let parts : (holds_by name t e.entry ≡ false) × (is_held_by name es t ≡ false) = or_parts (holds_by name t e.entry) (is_held_by name es t) n in
    left_step name t q e.entry (changed_by t es cells) (parts.0) (left-none name t q es cells (parts.1) h)

-- A place that a live transaction touched has no row of a system table.
pub place_none : (s : State) (t q table : ℕ) → IsSound s → is_live t s.entries ≡ true → table < 16 → touched t q s.entries ≡ true → has_held (whole_table table) (cells_of s q) ≡ false
place_none s t q table h l low y = false_from_ne_true (has_held (whole_table table) (cells_of s q)) (λ k.
    both_ways (is_held_by (whole_table table) s.entries t) ((h.catalog).users t table l low)
    (held_first (whole_table table) t q s.entries (cells_of s q) (first_before-committed s.found.cells t q s.entries ((h.entries).grown) l y) k))

module _ (s : State) (t : ℕ) (h : IsSound s) (l : is_live t s.entries ≡ true) where
  after_commit : Cells
  after_commit = changed_by t s.entries (cells_of s)

  unheld : (table : ℕ) → table < 16 → (q : ℕ) → touched t q s.entries ≡ true → has_held (whole_table table) (after_commit q) ≡ false
  unfolding after_commit
  unheld table low q y = left-none (whole_table table) t q s.entries (cells_of s) ((h.catalog).users t table l low) (place_none s t q table h l low y)

  rows_same : (table column m : ℕ) → table < 16 → (q : ℕ) → row_with table column m (after_commit q) ≡ row_with table column m (cells_of s q)
  unfolding after_commit
  rows_same table column m low q = elim (cases_Bool (touched t q s.entries)) [
    | inl y ↦ with_none table column m (after_commit q) (unheld table low q y) ∙ sym (with_none table column m (cells_of s q) (place_none s t q table h l low y))
    | inr n ↦ ap (row_with table column m) (changed_by-untouched t q s.entries (cells_of s) n)
  ]

  indexes_same : (m q : ℕ) → is_some (row_with 3 1 m (after_commit q)) ≡ true → after_commit q ≡ cells_of s q
  unfolding after_commit
  indexes_same m q k = elim (cases_Bool (touched t q s.entries)) [
    | inl y ↦ absurd (some_none (row_with 3 1 m (after_commit q)) (with_none 3 1 m (after_commit q) (unheld 3 (lit< tt) q y)) k)
    | inr n ↦ changed_by-untouched t q s.entries (cells_of s) n
  ]

  -- A commit of a session's transaction.
  pub alike-Commit : (m : ℕ) → AreAlike m (cells_of s) (cells_of (with_entry (Commit t) s))
  unfolding after_commit
  alike-Commit m = subst (AreAlike m (cells_of s)) (sym (cells-Commit t s)) (record {
    tables = rows_same 1 0 m (lit< tt);
    columns = rows_same 2 0 m (lit< tt);
    indexes = indexes_same m;
  })

-- ---- the key of a table

abbrev row_here : ℕ → Cells → ℕ → Option PlacedRow
row_here m cells q = option_map (λ row. (q, row)) (row_with 2 0 m (cells q))

filter_one : (m q : ℕ) (o : Option Row) (rows more : List PlacedRow) → filter (λ (r : PlacedRow). number_at 0 r == m) rows ≡ more →
    filter (λ (r : PlacedRow). number_at 0 r == m) (cons_option (option_map (λ row. (q, row)) o) rows) ≡ cons_option (option_map (λ row. (q, row)) (kept_row 0 m o)) more
filter_one m q None rows more h = h
filter_one m q (Some row) rows more h = by_test (whole_number_of (value_at row 0) == m)
  where
    by_test : (c : Bool) → cond c ((q, row) ∷ filter (λ (r : PlacedRow). number_at 0 r == m) rows) (filter (λ (r : PlacedRow). number_at 0 r == m) rows)
        ≡ cons_option (option_map (λ row. (q, row)) (if c then Some row else None)) more
    by_test true = ap (λ (xs : List PlacedRow). (q, row) ∷ xs) h
    by_test false = h

filter_rows : (m n from : ℕ) (cells : Cells) → filter (λ (r : PlacedRow). number_at 0 r == m) (filter_map (row_at 2 cells) (numbers_from n from)) ≡ filter_map (row_here m cells) (numbers_from n from)
filter_rows m zero from cells = refl
filter_rows m (suc n) from cells =
    filter_one m from (row_in 2 (cells from)) (filter_map (row_at 2 cells) (numbers_from n (suc from))) (filter_map (row_here m cells) (numbers_from n (suc from))) (filter_rows m n (suc from) cells)

-- The columns of a table, in the order of their places.
abbrev columns_with : ℕ → State → List PlacedRow
columns_with m s = with_number_at 0 m (rows_of 2 (bound s) (cells_of s))

not_full_none : (m : ℕ) (c : Cell) → is_full c ≡ false → row_with 2 0 m c ≡ None
not_full_none m Empty n = refl
not_full_none m (Full table row) n = absurd (true≢false n)

above_none : (m : ℕ) (s : State) → IsSound s → (q : ℕ) → bound s ≤ q → row_here m (cells_of s) q ≡ None
above_none m s h q l = ap (λ (o : Option Row). option_map (λ row. (q, row)) o)
    (not_full_none m (cells_of s q) (false_from_ne_true (is_full (cells_of s q)) (λ y. let below : q < bound s = full-below s q h y in absurd (omega (arith, l, below)))))

columns_here : (m n : ℕ) (s : State) → IsSound s → bound s ≤ n → columns_with m s ≡ filter_map (row_here m (cells_of s)) (numbers_from n 0)
unfolding rows_of
columns_here m n s h l =
    filter_rows m (bound s) 0 (cells_of s)
    ∙ sym (first_from (row_here m (cells_of s)) (bound s) n 0 l (λ q k. above_none m s h q (omega (arith, k))))

pub columns-alike : (m : ℕ) (s after : State) → IsSound s → IsSound after → AreAlike m (cells_of s) (cells_of after) →
    with_number_at 0 m (rows_of 2 (bound after) (cells_of after)) ≡ with_number_at 0 m (rows_of 2 (bound s) (cells_of s))
columns-alike m s after h k a =
    let n : ℕ = bound s + bound after in
    columns_here m n after k (omega arith)
    ∙ (ap (λ (g : ℕ → Option PlacedRow). filter_map g (numbers_from n 0)) (λ i q. option_map (λ row. (q, row)) (a.columns q i))
    ∙ sym (columns_here m n s h (omega arith)))

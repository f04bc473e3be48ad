-- The lines that delete rows of system tables leave a good catalog.
use Rattle.std.proofs.Common.{◌≡◌, ◌<◌, ◌≤◌, ◌+◌, ◌⊎◌, inl, inr, ℕ, Bool, true, false, cond, ◌||◌, nat_eq, map, List, [], ◌∷◌, ◌++◌, Option, Some, None, refl, sym, ap, ◌∙◌, subst, arith, lit<}
use Rattle.std.proofs.lemmas.Bool.{eq-eqb, or_parts, both_ways, false_from_ne_true}
use Rattle.std.proofs.lemmas.List.Folds.{list_any-append}
use Rattle.std.specs.Prelude.{◌==◌}
use Rattle.tt_value.specs.declared.value.Row.{Row}
use Rattle.tt_value.specs.declared.value.Cell.TheVariants.{Empty, Full}
use Rattle.tt_model.specs.Committed.{Cells}
use Rattle.tt_model.specs.Holders.{value_at}
use Rattle.tt_model.specs.Tables.{Table, Index, PlacedRow, number_at, with_number_at, table_named, index_named}
use Rattle.tt_model.specs.State.{State, next, cells_of, bound, catalog}
use Rattle.tt_model.specs.declared.definition.CellEdit.{CellEdit}
use Rattle.tt_model.specs.Meaning.{Makes}
use Rattle.tt_model.specs.System.{system_rows, deletes, subscription, unsubscribe, drop_index, meant_by_unsubscribe, meant_by_drop_index}
use Rattle.tt_model.specs.Backups.{row_of_set}
use Rattle.tt_model.specs.Step.{system_done}
use Rattle.tt_model.specs.Sound.{IsSound}
use Rattle.tt_model.specs.Damage.{SystemTable, id_of, table_column}
use Rattle.tt_model.proofs.EditLemmas.{is_at, has_edit}
use Rattle.tt_model.proofs.IsolationLemmas.{full-below}
use Rattle.tt_model.proofs.RowLemmas.{LieIn, AreRows, are_rows-filter}
use Rattle.tt_model.proofs.StatementLemmas.{unless-makes, makes_same}
use Rattle.tt_model.proofs.SystemLemmas.{deleted_in}
use Rattle.tt_model.proofs.SystemLines.{AreGood, sound-good, refuses_none, are_system_rows, subscription-rows, set-lies, one_row, rows-good, unsubscribe-good, drop_index-good}
use Rattle.tt_model.proofs.GoodCells.{IsGood, LiesBelow, good-more, good-fewer}
use Rattle.tt_model.proofs.GoodFrames.{Removes}
use Rattle.tt_model.proofs.GoodRemovals.{empty-full, good-removed}
use Rattle.tt_model.proofs.GoodPuts.{full-id}
use Rattle.tt_model.proofs.GoodEdits.{AreDeletes, cells-system_done, cells-deleted, deletes-are}

-- ---- states

abbrev pub HasGood : State → Type 0
HasGood s = IsGood (bound s) (cells_of s)

pub lies-below : (s : State) → IsSound s → LiesBelow (bound s) (cells_of s)
lies-below s h q f = full-below s q h f

-- A bound that no row of two states reaches serves both.
pub good-lift : (s after : State) → IsSound s → IsSound after → ((n : ℕ) → bound s ≤ n → bound after ≤ n → IsGood n (cells_of s) → IsGood n (cells_of after)) → HasGood s → HasGood after
good-lift s after h k f g =
    let n : ℕ = bound s + bound after in
    good-fewer (bound after) n (cells_of after) (lies-below after k) (omega arith)
    (f n (omega arith) (omega arith) (good-more (bound s) n (cells_of s) (lies-below s h) (omega arith) g))

-- ---- deletes

-- Where a row stays, those stay that it names, and the columns of its table.
pub record NamesStay (c : Cells) (edits : List CellEdit) : Type 0 where
  pub tables : (table : SystemTable) (q p column : ℕ) (row other : Row) → has_edit q edits ≡ false → c q ≡ Full (id_of table) row → table_column table ≡ Some column → c p ≡ Full 1 other →
      value_at other 0 ≡ value_at row column → has_edit p edits ≡ false
  pub bookmarks : (q p : ℕ) (row other : Row) → has_edit q edits ≡ false → c q ≡ Full 5 row → c p ≡ Full 4 other → value_at other 0 ≡ value_at row 0 → has_edit p edits ≡ false
  pub columns : (q p : ℕ) (row other : Row) → has_edit q edits ≡ false → c q ≡ Full 1 row → c p ≡ Full 2 other → value_at other 0 ≡ value_at row 0 → has_edit p edits ≡ false
  pub indexed : (q p : ℕ) (row other : Row) → has_edit q edits ≡ false → c q ≡ Full 3 row → c p ≡ Full 2 other → value_at other 0 ≡ value_at row 1 → has_edit p edits ≡ false

module _ (c d : Cells) (edits : List CellEdit) (left : (q : ℕ) → d q ≡ cond (has_edit q edits) Empty (c q)) where
  gone_or_same : (q : ℕ) (b : Bool) → has_edit q edits ≡ b → (d q ≡ c q) ⊎ (d q ≡ Empty)
  gone_or_same q true e = inr (left q ∙ ap (λ b. cond b Empty (c q)) e)
  gone_or_same q false e = inl (left q ∙ ap (λ b. cond b Empty (c q)) e)

  same : (q : ℕ) → has_edit q edits ≡ false → d q ≡ c q
  same q e = left q ∙ ap (λ b. cond b Empty (c q)) e

  not_named : (q id : ℕ) (row : Row) → d q ≡ Full id row → has_edit q edits ≡ false
  not_named q id row e = false_from_ne_true (has_edit q edits) (λ y. empty-full (d q) id row (left q ∙ ap (λ b. cond b Empty (c q)) y) e)

  was : (q id : ℕ) (row : Row) → d q ≡ Full id row → c q ≡ Full id row
  was q id row e = sym (same q (not_named q id row e)) ∙ e

  removes-by : NamesStay c edits → Removes c d
  removes-by n = record {
    each = λ q. gone_or_same q (has_edit q edits) refl;
    tables = λ table q p column row other e i l v. same p (n.tables table q p column row other (not_named q (id_of table) row e) (was q (id_of table) row e) i l v);
    bookmarks = λ q p row other e l v. same p (n.bookmarks q p row other (not_named q 5 row e) (was q 5 row e) l v);
    columns = λ q p row other e l v. same p (n.columns q p row other (not_named q 1 row e) (was q 1 row e) l v);
    indexed = λ q p row other e l v. same p (n.indexed q p row other (not_named q 3 row e) (was q 3 row e) l v);
  }

-- A transaction of its own that deletes rows whose names no other needs.
pub good-deletes : (s : State) (edits : List CellEdit) → IsSound s → AreGood s edits → AreDeletes edits → NamesStay (cells_of s) edits → HasGood s → HasGood (system_done edits s)
good-deletes s edits h good are names g =
    good-lift s (system_done edits s) h (sound-good edits s h good)
    (λ n l m k.
    good-removed (λ row. false) n (cells_of s) (cells_of (system_done edits s)) (λ q f. let low : q < bound s = full-below s q h f in omega (arith, low, l))
    (removes-by (cells_of s) (cells_of (system_done edits s)) edits
    (λ q. ap (λ (x : Cells). x q) (cells-system_done edits s) ∙ cells-deleted (next s) edits s (cells_of s) q are) names) k) g

-- ---- rows of one table that names no other row

pub not_of : (c : Cells) (table id p : ℕ) (rows : List PlacedRow) (other : Row) → LieIn table c rows → c p ≡ Full id other → nat_eq table id ≡ false → has_edit p (map (deletes table) rows) ≡ false
not_of c table id p rows other l e n = false_from_ne_true (has_edit p (map (deletes table) rows)) (λ y.
    let row : (row : Row) × (c p ≡ Full table row) = deleted_in table p c rows l y in
    both_ways (nat_eq table id) n (eq-eqb table id (full-id table id (row.0) other (sym (row.1) ∙ e))))

names_of : (c : Cells) (table : ℕ) (rows : List PlacedRow) → LieIn table c rows → nat_eq table 1 ≡ false → nat_eq table 2 ≡ false → nat_eq table 4 ≡ false → NamesStay c (map (deletes table) rows)
names_of c table rows l one two four = record {
  tables = λ t q p column row other n e i k v. not_of c table 1 p rows other l k one;
  bookmarks = λ q p row other n e k v. not_of c table 4 p rows other l k four;
  columns = λ q p row other n e k v. not_of c table 2 p rows other l k two;
  indexed = λ q p row other n e k v. not_of c table 2 p rows other l k two;
}

good_rows : (s : State) (table : ℕ) (rows : List PlacedRow) (edits : List CellEdit) → IsSound s → AreRows table (cells_of s) rows → nat_eq table 1 ≡ false → nat_eq table 2 ≡ false → nat_eq table 4 ≡ false →
    map (deletes table) rows ≡ edits → AreGood s edits → HasGood s → HasGood (system_done edits s)
good_rows s table rows edits h r one two four e good g =
    good-deletes s edits h good (subst AreDeletes e (deletes-are table rows)) (subst (NamesStay (cells_of s)) e (names_of (cells_of s) table rows r.lie one two four)) g

unsubscribe_deletes : (session : ℕ) (s : State) (name : List ℕ) (o : Option Table) (edits : List CellEdit) → IsSound s → AreGood s edits → unsubscribe session s name o ≡ Makes edits → HasGood s → HasGood (system_done edits s)
unsubscribe_deletes session s name None edits h good m g = absurd (refuses_none _ _ edits m)
unsubscribe_deletes session s name (Some t) edits h good m g =
    good_rows s 5 (subscription name t.id s) edits h (subscription-rows name t.id s) refl refl refl (makes_same _ edits ((unless-makes _ _ edits m).1)) good g

pub good-unsubscribe : (session : ℕ) (s : State) (table name : List ℕ) (edits : List CellEdit) → IsSound s → meant_by_unsubscribe session s table name ≡ Makes edits → HasGood s → HasGood (system_done edits s)
unfolding meant_by_unsubscribe
good-unsubscribe session s table name edits h m g =
    unsubscribe_deletes session s name (table_named table (catalog s)) edits h (unsubscribe-good session s table name edits m) m g

drop_index_deletes : (session : ℕ) (s : State) (o : Option Index) (edits : List CellEdit) → IsSound s → AreGood s edits → drop_index session s o ≡ Makes edits → HasGood s → HasGood (system_done edits s)
drop_index_deletes session s None edits h good m g = absurd (refuses_none _ _ edits m)
drop_index_deletes session s (Some i) edits h good m g =
    good_rows s 3 (with_number_at 0 i.id (system_rows 3 s)) edits h (are_rows-filter 3 (cells_of s) (λ r. number_at 0 r == i.id) (system_rows 3 s) (are_system_rows 3 s)) refl refl refl
    (makes_same _ edits ((unless-makes _ _ edits m).1)) good g

pub good-drop_index : (session : ℕ) (s : State) (name : List ℕ) (edits : List CellEdit) → IsSound s → meant_by_drop_index session s name ≡ Makes edits → HasGood s → HasGood (system_done edits s)
unfolding meant_by_drop_index
good-drop_index session s name edits h m g = drop_index_deletes session s (index_named name (catalog s)) edits h (drop_index-good session s name edits m) m g

pub good-stop : (set : ℕ) (s : State) (r : PlacedRow) → IsSound s → row_of_set set s ≡ Some r → HasGood s → HasGood (system_done (deletes 6 r ∷ []) s)
good-stop set s r h e g =
    let rows : AreRows 6 (cells_of s) (r ∷ []) = one_row 6 s r (set-lies set s r e) in
    good_rows s 6 (r ∷ []) (deletes 6 r ∷ []) h rows refl refl refl refl (rows-good s 6 (r ∷ []) (lit< tt) rows tt) g

-- ---- edits of several tables

pub none_in : (xs ys : List CellEdit) (p : ℕ) → has_edit p xs ≡ false → has_edit p ys ≡ false → has_edit p (xs ++ ys) ≡ false
none_in xs ys p a b = list_any-append (λ (e : CellEdit). is_at p e.place) xs ys ∙ (ap (λ x. x || has_edit p ys) a ∙ b)

pub none_parts : (xs ys : List CellEdit) (p : ℕ) → has_edit p (xs ++ ys) ≡ false → (has_edit p xs ≡ false) × (has_edit p ys ≡ false)
none_parts xs ys p h = or_parts (has_edit p xs) (has_edit p ys) (sym (list_any-append (λ (e : CellEdit). is_at p e.place) xs ys) ∙ h)

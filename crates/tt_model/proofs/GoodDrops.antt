-- Deleting a bookmark and dropping a table leave a good catalog: what names them goes with them.
use Rattle.std.proofs.Common.{◌≡◌, inl, inr, ℕ, Bool, true, false, nat_eq, filter, map, List, [], ◌∷◌, ◌++◌, Option, Some, None, unwrap_or, refl, sym, ap, ◌∙◌, subst, true≢false}
use Rattle.std.proofs.lemmas.Bool.{eqb-true, or_cases, both_ways, false_from_ne_true}
use Rattle.std.specs.Prelude.{◌==◌, bytes_eq}
use Rattle.std.specs.Ordering.{nat_cmp}
use Rattle.std.specs.Cmp.Lexicographic.{slice_cmp}
use Rattle.tt_value.specs.Order.{text_of}
use Rattle.tt_value.specs.declared.value.Row.{Row}
use Rattle.tt_value.specs.declared.value.Cell.TheVariants.{Full}
use Rattle.tt_model.specs.Committed.{Cells, is_full}
use Rattle.tt_model.specs.Holders.{value_at}
use Rattle.tt_model.specs.Tables.{Table, PlacedRow, by_number, by_text, number_at, text_at, with_number_at, with_text_at, table_named, whole_number_of}
use Rattle.tt_model.specs.State.{State, cells_of, bound, catalog}
use Rattle.tt_model.specs.declared.definition.CellEdit.{CellEdit}
use Rattle.tt_model.specs.Meaning.{Makes}
use Rattle.tt_model.specs.System.{system_rows, deletes, bookmark, delete_bookmark, drop_table, meant_by_delete_bookmark, meant_by_drop_table}
use Rattle.tt_model.specs.Step.{system_done}
use Rattle.tt_model.specs.Sound.{IsSound}
use Rattle.tt_model.specs.Damage.{SystemTable, Tables, Columns, Indexes, Bookmarks, Subscriptions, Sets, id_of, table_column}
use Rattle.tt_model.proofs.EditLemmas.{has_edit}
use Rattle.tt_model.proofs.IsolationLemmas.{full-below}
use Rattle.tt_model.proofs.RowLemmas.{AreRows, are_rows-in_order, are_rows-filter}
use Rattle.tt_model.proofs.StatementLemmas.{unless-makes, makes_same}
use Rattle.tt_model.proofs.SystemLines.{AreGood, refuses_none, are_system_rows, numbered-rows, bookmark-lies, one_row, delete_bookmark-good, drop_table-good}
use Rattle.tt_model.proofs.BookmarkLemmas.{find-passes, is_named}
use Rattle.tt_model.proofs.GoodPuts.{full-row}
use Rattle.tt_model.proofs.GoodEdits.{AreDeletes, deletes-are, deletes-append, deleted-there, there-deleted, edit-in_order}
use Rattle.tt_model.proofs.GoodDeletes.{HasGood, NamesStay, good-deletes, not_of, none_in, none_parts}

-- ---- a bookmark and its subscriptions

module _ (s : State) (name : List ℕ) (r : PlacedRow) (h : IsSound s) (found : bookmark name s ≡ Some r) where
  c : Cells
  c = cells_of s

  is_of : PlacedRow → Bool
  is_of x = bytes_eq (text_at 0 x) name

  five : List PlacedRow
  five = by_number 1 (filter is_of (system_rows 5 s))

  rows_five : AreRows 5 c five
  unfolding c five is_of
  rows_five = are_rows-in_order 5 (cells_of s) (λ a b. nat_cmp (number_at 1 a) (number_at 1 b)) (with_text_at 0 name (system_rows 5 s))
      (are_rows-filter 5 (cells_of s) (λ r. bytes_eq (text_at 0 r) name) (system_rows 5 s) (are_system_rows 5 s))

  row_four : AreRows 4 c (r ∷ [])
  unfolding c
  row_four = one_row 4 s r (bookmark-lies name s r found)

  both_gone : List CellEdit
  both_gone = map (deletes 5) five ++ deletes 4 r ∷ []

  none_of : (id p : ℕ) (other : Row) → c p ≡ Full id other → nat_eq 5 id ≡ false → nat_eq 4 id ≡ false → has_edit p both_gone ≡ false
  unfolding both_gone
  none_of id p other e a b = none_in (map (deletes 5) five) (deletes 4 r ∷ []) p (not_of c 5 id p five other rows_five.lie e a) (not_of c 4 id p (r ∷ []) other row_four.lie e b)

  subscription_gone : (q : ℕ) (row : Row) → c q ≡ Full 5 row → bytes_eq (text_of (value_at row 0)) name ≡ true → has_edit q (map (deletes 5) five) ≡ true
  unfolding c five is_of
  subscription_gone q row e t =
      edit-in_order 5 q (λ a b. nat_cmp (number_at 1 a) (number_at 1 b)) (filter is_of (system_rows 5 s))
      ∙ deleted-there is_of 5 (bound s) (cells_of s) q row e t (full-below s q h (ap is_full e))

  bookmark_named : (q p : ℕ) (row other : Row) → has_edit q both_gone ≡ false → c q ≡ Full 5 row → c p ≡ Full 4 other → value_at other 0 ≡ value_at row 0 → has_edit p both_gone ≡ false
  unfolding both_gone
  bookmark_named q p row other n e l v = none_in (map (deletes 5) five) (deletes 4 r ∷ []) p (not_of c 5 4 p five other rows_five.lie l refl)
      (false_from_ne_true (has_edit p (deletes 4 r ∷ [])) (λ y. elim (or_cases (nat_eq (r.0) p) false y) [
        | inr n ↦ true≢false (sym n)
        | inl at ↦
            let place : r.0 ≡ p = eqb-true (r.0) p at in
            let same : other ≡ r.1 = full-row 4 4 other (r.1) (sym l ∙ (ap c (sym place) ∙ (row_four.lie).0)) in
            let text : bytes_eq (text_of (value_at row 0)) name ≡ true
            = ap (λ w. bytes_eq (text_of w) name) (sym v) ∙ (ap (λ (x : Row). bytes_eq (text_of (value_at x 0)) name) same ∙ find-passes (is_named name) (system_rows 4 s) r found) in
            both_ways (has_edit q (map (deletes 5) five)) ((none_parts (map (deletes 5) five) (deletes 4 r ∷ []) q n).0) (subscription_gone q row e text)
      ]))

  bookmark_names : NamesStay c both_gone
  bookmark_names = record {
    tables = λ t q p column row other n e k l v. none_of 1 p other l refl refl;
    bookmarks = bookmark_named;
    columns = λ q p row other n e l v. none_of 2 p other l refl refl;
    indexed = λ q p row other n e l v. none_of 2 p other l refl refl;
  }

  pub bookmark_gone : (edits : List CellEdit) → AreGood s edits → map (deletes 5) (by_number 1 (with_text_at 0 name (system_rows 5 s))) ++ deletes 4 r ∷ [] ≡ edits → HasGood s → HasGood (system_done edits s)
  unfolding c five is_of both_gone
  bookmark_gone edits good e g =
      good-deletes s edits h good (subst AreDeletes e (deletes-append (map (deletes 5) five) (deletes 4 r ∷ []) (deletes-are 5 five) (deletes-are 4 (r ∷ []))))
      (subst (NamesStay (cells_of s)) e bookmark_names) g

delete_bookmark_deletes : (session : ℕ) (s : State) (name : List ℕ) (o : Option PlacedRow) (edits : List CellEdit) → IsSound s → AreGood s edits → bookmark name s ≡ o →
    delete_bookmark session s name o ≡ Makes edits → HasGood s → HasGood (system_done edits s)
delete_bookmark_deletes session s name None edits h good e m g = absurd (refuses_none _ _ edits m)
delete_bookmark_deletes session s name (Some r) edits h good e m g = bookmark_gone s name r h e edits good (makes_same _ edits ((unless-makes _ _ edits m).1)) g

pub good-delete_bookmark : (session : ℕ) (s : State) (name : List ℕ) (edits : List CellEdit) → IsSound s → meant_by_delete_bookmark session s name ≡ Makes edits → HasGood s → HasGood (system_done edits s)
unfolding meant_by_delete_bookmark
good-delete_bookmark session s name edits h m g = delete_bookmark_deletes session s name (bookmark name s) edits h (delete_bookmark-good session s name edits m) refl m g

-- ---- a table, its columns, its indexes and its subscriptions

module _ (s : State) (id : ℕ) (h : IsSound s) where
  cells : Cells
  cells = cells_of s

  has_id : ℕ → PlacedRow → Bool
  has_id column x = number_at column x == id

  part5 : List CellEdit
  part5 = map (deletes 5) (by_text 0 (with_number_at 1 id (system_rows 5 s)))

  part3 : List CellEdit
  part3 = map (deletes 3) (by_number 0 (with_number_at 1 id (system_rows 3 s)))

  part2 : List CellEdit
  part2 = map (deletes 2) (by_number 1 (with_number_at 0 id (system_rows 2 s)))

  part1 : List CellEdit
  part1 = map (deletes 1) (with_number_at 0 id (system_rows 1 s))

  all_gone : List CellEdit
  all_gone = part5 ++ (part3 ++ (part2 ++ part1))

  not5 : (k p : ℕ) (other : Row) → cells p ≡ Full k other → nat_eq 5 k ≡ false → has_edit p part5 ≡ false
  unfolding cells part5
  not5 k p other e n = not_of (cells_of s) 5 k p (by_text 0 (with_number_at 1 id (system_rows 5 s))) other
      ((are_rows-in_order 5 (cells_of s) (λ a b. slice_cmp nat_cmp (text_at 0 a) (text_at 0 b)) (with_number_at 1 id (system_rows 5 s)) (numbered-rows 5 1 id s)).lie) e n

  not3 : (k p : ℕ) (other : Row) → cells p ≡ Full k other → nat_eq 3 k ≡ false → has_edit p part3 ≡ false
  unfolding cells part3
  not3 k p other e n = not_of (cells_of s) 3 k p (by_number 0 (with_number_at 1 id (system_rows 3 s))) other
      ((are_rows-in_order 3 (cells_of s) (λ a b. nat_cmp (number_at 0 a) (number_at 0 b)) (with_number_at 1 id (system_rows 3 s)) (numbered-rows 3 1 id s)).lie) e n

  not2 : (k p : ℕ) (other : Row) → cells p ≡ Full k other → nat_eq 2 k ≡ false → has_edit p part2 ≡ false
  unfolding cells part2
  not2 k p other e n = not_of (cells_of s) 2 k p (by_number 1 (with_number_at 0 id (system_rows 2 s))) other
      ((are_rows-in_order 2 (cells_of s) (λ a b. nat_cmp (number_at 1 a) (number_at 1 b)) (with_number_at 0 id (system_rows 2 s)) (numbered-rows 2 0 id s)).lie) e n

  not1 : (k p : ℕ) (other : Row) → cells p ≡ Full k other → nat_eq 1 k ≡ false → has_edit p part1 ≡ false
  unfolding cells part1
  not1 k p other e n = not_of (cells_of s) 1 k p (with_number_at 0 id (system_rows 1 s)) other ((numbered-rows 1 0 id s).lie) e n

  none_all : (p : ℕ) → has_edit p part5 ≡ false → has_edit p part3 ≡ false → has_edit p part2 ≡ false → has_edit p part1 ≡ false → has_edit p all_gone ≡ false
  unfolding all_gone
  none_all p a b x y = none_in part5 (part3 ++ (part2 ++ part1)) p a (none_in part3 (part2 ++ part1) p b (none_in part2 part1 p x y))

  gone5 : (q : ℕ) (row : Row) → cells q ≡ Full 5 row → (whole_number_of (value_at row 1) == id) ≡ true → has_edit q all_gone ≡ false → ⊥
  unfolding cells all_gone part5
  gone5 q row e t n = both_ways (has_edit q part5) ((none_parts part5 (part3 ++ (part2 ++ part1)) q n).0)
      (edit-in_order 5 q (λ a b. slice_cmp nat_cmp (text_at 0 a) (text_at 0 b)) (with_number_at 1 id (system_rows 5 s))
      ∙ deleted-there (λ (x : PlacedRow). number_at 1 x == id) 5 (bound s) (cells_of s) q row e t (full-below s q h (ap is_full e)))

  gone3 : (q : ℕ) (row : Row) → cells q ≡ Full 3 row → (whole_number_of (value_at row 1) == id) ≡ true → has_edit q all_gone ≡ false → ⊥
  unfolding cells all_gone part3
  gone3 q row e t n = both_ways (has_edit q part3) ((none_parts part3 (part2 ++ part1) q ((none_parts part5 (part3 ++ (part2 ++ part1)) q n).1)).0)
      (edit-in_order 3 q (λ a b. nat_cmp (number_at 0 a) (number_at 0 b)) (with_number_at 1 id (system_rows 3 s))
      ∙ deleted-there (λ (x : PlacedRow). number_at 1 x == id) 3 (bound s) (cells_of s) q row e t (full-below s q h (ap is_full e)))

  gone2 : (q : ℕ) (row : Row) → cells q ≡ Full 2 row → (whole_number_of (value_at row 0) == id) ≡ true → has_edit q all_gone ≡ false → ⊥
  unfolding cells all_gone part2
  gone2 q row e t n = both_ways (has_edit q part2) ((none_parts part2 part1 q ((none_parts part3 (part2 ++ part1) q ((none_parts part5 (part3 ++ (part2 ++ part1)) q n).1)).1)).0)
      (edit-in_order 2 q (λ a b. nat_cmp (number_at 1 a) (number_at 1 b)) (with_number_at 0 id (system_rows 2 s))
      ∙ deleted-there (λ (x : PlacedRow). number_at 0 x == id) 2 (bound s) (cells_of s) q row e t (full-below s q h (ap is_full e)))

  gone1 : (q : ℕ) (row : Row) → cells q ≡ Full 1 row → (whole_number_of (value_at row 0) == id) ≡ true → has_edit q all_gone ≡ false → ⊥
  unfolding cells all_gone part1
  gone1 q row e t n = both_ways (has_edit q part1) ((none_parts part2 part1 q ((none_parts part3 (part2 ++ part1) q ((none_parts part5 (part3 ++ (part2 ++ part1)) q n).1)).1)).1)
      (deleted-there (λ (x : PlacedRow). number_at 0 x == id) 1 (bound s) (cells_of s) q row e t (full-below s q h (ap is_full e)))

  of1 : (p : ℕ) (other : Row) → cells p ≡ Full 1 other → has_edit p part1 ≡ true → (whole_number_of (value_at other 0) == id) ≡ true
  unfolding cells part1
  of1 p other e y =
      let row : (row : Row) × (cells_of s p ≡ Full 1 row) × ((number_at 0 (p, row) == id) ≡ true) = there-deleted (λ (x : PlacedRow). number_at 0 x == id) 1 (bound s) (cells_of s) p y in
      ap (λ (x : Row). whole_number_of (value_at x 0) == id) (full-row 1 1 other (row.0) (sym e ∙ row.1)) ∙ row.2

  of2 : (p : ℕ) (other : Row) → cells p ≡ Full 2 other → has_edit p part2 ≡ true → (whole_number_of (value_at other 0) == id) ≡ true
  unfolding cells part2
  of2 p other e y =
      let row : (row : Row) × (cells_of s p ≡ Full 2 row) × ((number_at 0 (p, row) == id) ≡ true)
      = there-deleted (λ (x : PlacedRow). number_at 0 x == id) 2 (bound s) (cells_of s) p (sym (edit-in_order 2 p (λ a b. nat_cmp (number_at 1 a) (number_at 1 b)) (with_number_at 0 id (system_rows 2 s))) ∙ y) in
      ap (λ (x : Row). whole_number_of (value_at x 0) == id) (full-row 2 2 other (row.0) (sym e ∙ row.1)) ∙ row.2

  -- A row that stays and names a table with the number.
  namer : (t : SystemTable) (q column : ℕ) (row : Row) → has_edit q all_gone ≡ false → cells q ≡ Full (id_of t) row → table_column t ≡ Some column → (whole_number_of (value_at row column) == id) ≡ true → ⊥
  namer Columns q column row n e k t = gone2 q row e (ap (λ x. whole_number_of (value_at row x) == id) (ap (λ o. unwrap_or o 0) k) ∙ t) n
  namer Indexes q column row n e k t = gone3 q row e (ap (λ x. whole_number_of (value_at row x) == id) (ap (λ o. unwrap_or o 0) k) ∙ t) n
  namer Subscriptions q column row n e k t = gone5 q row e (ap (λ x. whole_number_of (value_at row x) == id) (ap (λ o. unwrap_or o 0) k) ∙ t) n
  namer Tables q column row n e k t = cc
  namer Bookmarks q column row n e k t = cc
  namer Sets q column row n e k t = cc

  table_names : NamesStay cells all_gone
  table_names = record {
    tables = λ t q p column row other n e k l v. none_all p (not5 1 p other l refl) (not3 1 p other l refl) (not2 1 p other l refl)
        (false_from_ne_true (has_edit p part1) (λ y. namer t q column row n e k (ap (λ w. whole_number_of w == id) (sym v) ∙ of1 p other l y)));
    bookmarks = λ q p row other n e l v. none_all p (not5 4 p other l refl) (not3 4 p other l refl) (not2 4 p other l refl) (not1 4 p other l refl);
    columns = λ q p row other n e l v. none_all p (not5 2 p other l refl) (not3 2 p other l refl)
        (false_from_ne_true (has_edit p part2) (λ y. gone1 q row e (ap (λ w. whole_number_of w == id) (sym v) ∙ of2 p other l y) n)) (not1 2 p other l refl);
    indexed = λ q p row other n e l v. none_all p (not5 2 p other l refl) (not3 2 p other l refl)
        (false_from_ne_true (has_edit p part2) (λ y. gone3 q row e (ap (λ w. whole_number_of w == id) (sym v) ∙ of2 p other l y) n)) (not1 2 p other l refl);
  }

  are_gone : AreDeletes all_gone
  unfolding all_gone part5 part3 part2 part1
  are_gone = deletes-append part5 (part3 ++ (part2 ++ part1)) (deletes-are 5 _) (deletes-append part3 (part2 ++ part1) (deletes-are 3 _) (deletes-append part2 part1 (deletes-are 2 _) (deletes-are 1 _)))

  pub table_gone : (edits : List CellEdit) → AreGood s edits →
      map (deletes 5) (by_text 0 (with_number_at 1 id (system_rows 5 s))) ++ (map (deletes 3) (by_number 0 (with_number_at 1 id (system_rows 3 s)))
      ++ (map (deletes 2) (by_number 1 (with_number_at 0 id (system_rows 2 s))) ++ map (deletes 1) (with_number_at 0 id (system_rows 1 s)))) ≡ edits → HasGood s → HasGood (system_done edits s)
  unfolding cells all_gone part5 part3 part2 part1
  table_gone edits good e g = good-deletes s edits h good (subst AreDeletes e are_gone) (subst (NamesStay (cells_of s)) e table_names) g

drop_table_deletes : (session : ℕ) (s : State) (o : Option Table) (edits : List CellEdit) → IsSound s → AreGood s edits → drop_table session s o ≡ Makes edits → HasGood s → HasGood (system_done edits s)
drop_table_deletes session s None edits h good m g = absurd (refuses_none _ _ edits m)
drop_table_deletes session s (Some t) edits h good m g = table_gone s t.id h edits good (makes_same _ edits ((unless-makes _ _ edits m).1)) g

pub good-drop_table : (session : ℕ) (s : State) (name : List ℕ) (edits : List CellEdit) → IsSound s → meant_by_drop_table session s name ≡ Makes edits → HasGood s → HasGood (system_done edits s)
unfolding meant_by_drop_table
good-drop_table session s name edits h m g = drop_table_deletes session s (table_named name (catalog s)) edits h (drop_table-good session s name edits m) m g

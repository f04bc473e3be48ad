-- Where no system row is damaged, rows can be stored into the tables.
use Rattle.std.proofs.Common.{◌≡◌, ◌≤◌, ℕ, Bool, true, false, not, cond, ◌||◌, nat_eq, nat_le, nat_lt, List, [], ◌∷◌, map, length, get_or, None, refl, sym, ap, ◌∙◌, subst, arith, true≢false}
use Rattle.std.proofs.lemmas.Bool.{and_parts, both_ways, eq-eqb, eqb-true, leb-true, ltb-false}
use Rattle.std.proofs.lemmas.Option.{unwrap_or-slice_get}
use Rattle.std.specs.Prelude.{pos, negsuc, unsigned_abs, ◌==◌}
use Rattle.std.specs.Ordering.{int_eq, nat_cmp}
use Rattle.std.specs.Cmp.{signed_Decides}
use Rattle.tt_model.proofs.ConflictLemmas.{same_value-self}
use Rattle.tt_value.specs.Same.{same_value}
use Rattle.tt_value.specs.declared.value.Cell.TheVariants.{Full}
use Rattle.tt_value.specs.declared.value.Value.{Value}
use Rattle.tt_value.specs.declared.value.Value.TheVariants.{Null, Int, Number, Text}
use Rattle.tt_value.specs.declared.value.ColumnType.TheVariants.{BigInt, Varchar, Number as NumberOf}
use Rattle.tt_parse.specs.declared.command.ColumnText.{ColumnText}
use Rattle.tt_model.specs.Committed.{is_full}
use Rattle.tt_model.specs.Holders.{value_at}
use Rattle.tt_model.specs.Tables.{PlacedRow, by_number, catalog_of, column_of, number_at, rows_of, table_of, type_of, whole_number_of, with_number_at}
use Rattle.tt_model.specs.Damage.{SystemTable, Columns, Tables, are_counted, are_taken, breaks_catalog, column_tests, columns_with, first_bad_catalog, has_wrong_columns, id_of, is_number, is_number_from, is_size_of, is_table_id, is_twice, key_positions, values_in}
use Rattle.tt_model.specs.Ranges.{IsType}
use Rattle.tt_model.specs.State.{State, bound, cells_of}
use Rattle.tt_model.specs.Sound.{IsSound}
use Rattle.tt_model.specs.WholeRuns.{Each}
use Rattle.tt_model.specs.Entries.{HasStorableTables, IsStorableTable}
use Rattle.tt_model.proofs.FewNames.{mapped-length}
use Rattle.tt_model.proofs.GoodBookmarks.{no_rule-broken, not_bad}
use Rattle.tt_model.proofs.IsolationLemmas.{full-below}
use Rattle.tt_model.proofs.PlainIndexes.{not_so, ordered-length}
use Rattle.tt_model.proofs.RowLemmas.{AreRows, LieIn, are_rows-filter, are_rows-in_order, are_rows-rows_of}

-- ---- numbers

record IsNumber (least most : ℕ) (v : Value) : Type 0 where
  low : least ≤ whole_number_of v
  high : whole_number_of v ≤ most

number_of : (least most : ℕ) (v : Value) → is_number_from least most v ≡ true → IsNumber least most v
number_of least most Null h = absurd (true≢false (sym h))
number_of least most (Int (pos n)) h = let parts = and_parts (nat_le least n) (nat_le n most) h in record { low = leb-true least n (parts.0); high = leb-true n most (parts.1) }
number_of least most (Int (negsuc n)) h = absurd (true≢false (sym h))
number_of least most (Number s n) h = absurd (true≢false (sym h))
number_of least most (Text t) h = absurd (true≢false (sym h))

-- ---- types

is_typed : (k : ℕ) (w : Value) (c d : Bool) → (k == 1) ≡ c → (k == 2) ≡ d → is_size_of (Int (pos k)) w ≡ true → IsType (cond c BigInt (cond d (Varchar (whole_number_of w)) (NumberOf (whole_number_of w))))
is_typed k w true d e f h = tt
is_typed k w false true e f h =
    let n : IsNumber 1 200 w = number_of 1 200 w (subst (λ (m : ℕ). is_size_of (Int (pos m)) w ≡ true) (eqb-true k 2 f) h) in (n.low, n.high)
is_typed k w false false e f h = scale (is_number 1 (Int (pos k))) (is_number 2 (Int (pos k))) refl h
  where
    scale : (a b : Bool) → is_number 2 (Int (pos k)) ≡ b → cond a (is_number 0 w) (cond b (is_number_from 1 200 w) (is_number_from 0 18 w)) ≡ true → whole_number_of w ≤ 18
    scale true b same k0 = let n : IsNumber 0 0 w = number_of 0 0 w k0 in let most : whole_number_of w ≤ 0 = n.high in omega (arith, most)
    scale false true same k0 =
        let parts : (nat_le 2 k ≡ true) × (nat_le k 2 ≡ true) = and_parts (nat_le 2 k) (nat_le k 2) same in
        let low : 2 ≤ k = leb-true 2 k (parts.0) in
        let high : k ≤ 2 = leb-true k 2 (parts.1) in
        absurd (both_ways (k == 2) f (eq-eqb k 2 (omega (arith, low, high))))
    scale false false same k0 = (number_of 0 18 w k0).high

typed : (v w : Value) → is_size_of v w ≡ true → IsType (type_of (whole_number_of v) (whole_number_of w))
typed Null w h = (number_of 0 18 w h).high
typed (Int (pos k)) w h = is_typed k w (k == 1) (k == 2) refl refl h
typed (Int (negsuc n)) w h = (number_of 0 18 w h).high
typed (Number s n) w h = (number_of 0 18 w h).high
typed (Text t) w h = (number_of 0 18 w h).high

-- ---- the columns of a table

both_alike : (x y : Bool) → (x ≡ true → y ≡ true) → (y ≡ true → x ≡ true) → x ≡ y
both_alike true y f g = sym (f refl)
both_alike false true f g = g refl
both_alike false false f g = refl

same_test : (v w : Value) → is_table_id v ≡ true → is_table_id w ≡ true → same_value v w ≡ (whole_number_of v == whole_number_of w)
same_test Null w h k = absurd (true≢false (sym h))
same_test (Int (negsuc n)) w h k = absurd (true≢false (sym h))
same_test (Number s n) w h k = absurd (true≢false (sym h))
same_test (Text t) w h k = absurd (true≢false (sym h))
same_test (Int (pos m)) Null h k = absurd (true≢false (sym k))
same_test (Int (pos m)) (Int (pos n)) h k = both_alike (int_eq (pos m) (pos n)) (m == n) (λ y. eq-eqb m n (ap unsigned_abs ((signed_Decides (pos m) (pos n)).0 y))) (λ y. subst (λ (x : ℕ). int_eq (pos m) (pos x) ≡ true) (eqb-true m n y) (same_value-self (Int (pos m))))
same_test (Int (pos m)) (Int (negsuc n)) h k = absurd (true≢false (sym k))
same_test (Int (pos m)) (Number s n) h k = absurd (true≢false (sym k))
same_test (Int (pos m)) (Text t) h k = absurd (true≢false (sym k))

first_id : (vs : List Value) → are_taken (column_tests Columns) vs ≡ true → is_table_id (get_or vs 0 Null) ≡ true
first_id [] h = absurd (true≢false (sym h))
first_id (v ∷ vs) h = (and_parts (is_table_id v) _ h).0

table_id : (vs : List Value) → are_taken (column_tests Tables) vs ≡ true → is_table_id (get_or vs 0 Null) ≡ true
table_id [] h = absurd (true≢false (sym h))
table_id (v ∷ vs) h = (and_parts (is_table_id v) _ h).0

at_first : (r : PlacedRow) → is_table_id (get_or ((r.1).values) 0 Null) ≡ true → is_table_id (value_at (r.1) 0) ≡ true
at_first r h = subst (λ (v : Value). is_table_id v ≡ true) (sym (unwrap_or-slice_get ((r.1).values) 0 Null)) h

-- What is known of each row of COLUMNS.
record IsGoodColumn (r : PlacedRow) : Type 0 where
  id : is_table_id (value_at (r.1) 0) ≡ true
  type : IsType (type_of (number_at 2 r) (number_at 3 r))

columns_typed : (rows : List PlacedRow) → Each IsGoodColumn rows → Each (λ (c : ColumnText). IsType c.kind) (map column_of rows)
columns_typed [] h = tt
columns_typed (r ∷ rows) h = ((h.0).type, columns_typed rows (h.1))

same_rows : (v : Value) (rows : List PlacedRow) → is_table_id v ≡ true → Each IsGoodColumn rows → columns_with v rows ≡ with_number_at 0 (whole_number_of v) rows
same_rows v [] is h = refl
same_rows v (r ∷ rows) is h =
    ap (λ c. cond c (r ∷ columns_with v rows) (columns_with v rows)) (same_test (value_at (r.1) 0) v ((h.0).id) is)
    ∙ ap (λ (xs : List PlacedRow). cond (number_at 0 r == whole_number_of v) (r ∷ xs) xs) (same_rows v rows is (h.1))

no_positions : (rows : List PlacedRow) → nat_eq (length (key_positions rows)) 0 ≡ false → 1 ≤ length rows
no_positions [] h = absurd (true≢false h)
no_positions (r ∷ rows) h = omega arith

no_rule : (a b c d e : Bool) → (a || b || c || d || e) ≡ false → (a ≡ false) × (e ≡ false)
no_rule true b c d e k = absurd (true≢false k)
no_rule false true c d e k = absurd (true≢false k)
no_rule false false true d e k = absurd (true≢false k)
no_rule false false false true e k = absurd (true≢false k)
no_rule false false false false e k = (refl, k)

counted_columns : (row : _) (columns : List PlacedRow) → has_wrong_columns Tables row columns ≡ false → (1 ≤ length (columns_with (value_at row 0) columns)) × (length (columns_with (value_at row 0) columns) ≤ 16)
counted_columns row columns h =
    let own : List PlacedRow = columns_with (value_at row 0) columns in
    let parts : (nat_lt 16 (length own) ≡ false) × (nat_eq (length (key_positions own)) 0 ≡ false)
    = no_rule (nat_lt 16 (length own)) (not (are_counted (values_in 1 own))) (is_twice (values_in 6 own)) (not (are_counted (key_positions own))) (nat_eq (length (key_positions own)) 0) h in
    (no_positions own (parts.1), ltb-false 16 (length own) (parts.0))

-- ---- tables

module _ (s : State) (sound : IsSound s) (none : first_bad_catalog (bound s) (cells_of s) ≡ None) where
  abbrev rows : SystemTable → List PlacedRow
  rows t = rows_of (id_of t) (bound s) (cells_of s)

  column_good : (r : PlacedRow) → cells_of s (r.0) ≡ Full 2 (r.1) → IsGoodColumn r
  column_good r lies =
      let good : breaks_catalog rows Columns r ≡ false = not_bad (bound s) (cells_of s) (r.0) (Full 2 (r.1)) none (full-below s (r.0) sound (ap is_full lies)) lies in
      let rules = no_rule-broken rows Columns r good in
      record {
        id = at_first r (first_id ((r.1).values) (not_so (are_taken (column_tests Columns) ((r.1).values)) (rules.0)));
        type = typed (value_at (r.1) 2) (value_at (r.1) 3) (not_so (is_size_of (value_at (r.1) 2) (value_at (r.1) 3)) (rules.1));
      }

  columns_good : (xs : List PlacedRow) → LieIn 2 (cells_of s) xs → Each IsGoodColumn xs
  columns_good [] l = tt
  columns_good (r ∷ xs) l = (column_good r (l.0), columns_good xs (l.1))

  table_good : (r : PlacedRow) → cells_of s (r.0) ≡ Full 1 (r.1) → IsStorableTable (table_of (rows Columns) r)
  table_good r lies =
      let good : breaks_catalog rows Tables r ≡ false = not_bad (bound s) (cells_of s) (r.0) (Full 1 (r.1)) none (full-below s (r.0) sound (ap is_full lies)) lies in
      let rules = no_rule-broken rows Tables r good in
      let is : is_table_id (value_at (r.1) 0) ≡ true = at_first r (table_id ((r.1).values) (not_so (are_taken (column_tests Tables) ((r.1).values)) (rules.0))) in
      let id : IsNumber 16 271 (value_at (r.1) 0) = number_of 16 271 (value_at (r.1) 0) is in
      let low : 16 ≤ number_at 0 r = id.low in
      let high : number_at 0 r ≤ 271 = id.high in
      let columns : AreRows 2 (cells_of s) (rows Columns) = are_rows-rows_of 2 (bound s) (cells_of s) in
      let of_table : List PlacedRow = with_number_at 0 (number_at 0 r) (rows Columns) in
      let own : List PlacedRow = by_number 1 of_table in
      let lying : AreRows 2 (cells_of s) own
      = are_rows-in_order 2 (cells_of s) (λ a b. nat_cmp (number_at 1 a) (number_at 1 b)) of_table (are_rows-filter 2 (cells_of s) (λ c. number_at 0 c == number_at 0 r) (rows Columns) columns) in
      let count : length (map column_of own) ≡ length own = mapped-length column_of own in
      let ordered : length own ≡ length of_table = ordered-length (λ a b. nat_cmp (number_at 1 a) (number_at 1 b)) of_table in
      let same : length (columns_with (value_at (r.1) 0) (rows Columns)) ≡ length of_table = ap length (same_rows (value_at (r.1) 0) (rows Columns) is (columns_good (rows Columns) columns.lie)) in
      let counted = counted_columns (r.1) (rows Columns) (rules.2) in
      let some : 1 ≤ length (columns_with (value_at (r.1) 0) (rows Columns)) = counted.0 in
      let few : length (columns_with (value_at (r.1) 0) (rows Columns)) ≤ 16 = counted.1 in
      record {
        some_id = omega (arith, low);
        id = omega (arith, high);
        some = omega (arith, count, ordered, same, some);
        few = omega (arith, count, ordered, same, few);
        types = columns_typed own (columns_good own lying.lie);
      }

  tables_good : (xs : List PlacedRow) → LieIn 1 (cells_of s) xs → Each IsStorableTable (map (table_of (rows Columns)) xs)
  tables_good [] l = tt
  tables_good (r ∷ xs) l = (table_good r (l.0), tables_good xs (l.1))

  pub good-tables : HasStorableTables s
  unfolding catalog_of
  good-tables =
      tables_good (by_number 0 (rows Tables))
      (are_rows-in_order 1 (cells_of s) (λ a b. nat_cmp (number_at 0 a) (number_at 0 b)) (rows Tables) (are_rows-rows_of 1 (bound s) (cells_of s))).lie

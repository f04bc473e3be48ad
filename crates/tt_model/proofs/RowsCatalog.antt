-- Where no system row is damaged, each table is the one that its number finds, and has at most 16 columns.
use Rattle.std.proofs.Common.{◌≡◌, ◌≤◌, ◌<◌, inl, inr, ℕ, suc, pos, negsuc, Bool, true, false, cond, nat_lt, filter, find, List, [], ◌∷◌, length, map, slice_get, Option, Some, None, unwrap_or, refl, sym, ap, ◌∙◌, subst, arith, true≢false}
use Rattle.std.specs.Prelude.{◌==◌}
use Rattle.std.specs.Ordering.{is_gt, nat_cmp}
use Rattle.std.specs.declared.cmp.Ordering.{Ordering}
use Rattle.std.proofs.lemmas.List.{length-map}
use Rattle.std.proofs.lemmas.Bool.{cases_order, eqb-true, eq-eqb, or_parts, and_parts, both_ways, ltb-false}
use Rattle.tt_value.specs.Same.{same_value}
use Rattle.tt_value.specs.declared.value.Value.{Value}
use Rattle.tt_value.specs.declared.value.Value.TheVariants.{Null, Int, Number, Text}
use Rattle.tt_value.specs.declared.value.Row.{Row}
use Rattle.tt_value.specs.declared.value.Cell.TheVariants.{Full}
use Rattle.tt_model.specs.Committed.{Cells, is_full}
use Rattle.tt_model.specs.Live.{numbers_below}
use Rattle.tt_model.specs.Holders.{Held, value_at}
use Rattle.tt_model.specs.Tables.{Catalog, PlacedRow, Table, by_number, catalog_of, column_of, in_order, inserted, number_at, rows_of, table_of, table_with, whole_number_of, with_number_at}
use Rattle.tt_model.specs.Damage.{SystemTable, Tables, Columns, Bookmarks, are_taken, breaks_catalog, column_tests, columns_with, first_bad_catalog, has_key_before, has_name_before, has_wrong_columns, has_wrong_positions, has_wrong_size, has_wrong_values, id_of, is_bad_catalog_at, is_bad_catalog_row, is_free_key, is_number_from, is_past_limit, is_table_id, lacks_bookmark, lacks_table}
use Rattle.tt_model.specs.WholeRuns.{Each}
use Rattle.tt_model.proofs.BookmarkLines.{among}
use Rattle.tt_model.proofs.BoundLemmas.{LieBelow}
use Rattle.tt_model.proofs.ConflictLemmas.{none_passes, same_value-self}
use Rattle.tt_model.proofs.RowLemmas.{LieIn, are_rows-in_order, are_rows-rows_of}
use Rattle.tt_model.proofs.OneHolderStatements.{IsAmong}
use Rattle.tt_model.proofs.TableLines.{not_none}
use Rattle.tt_model.proofs.RowsGood.{among-lies, before_not}

-- ---- what a good catalog has of tables

-- Each table is the one that its number finds.
abbrev pub HasOwnNumbers : Catalog → Type 0
HasOwnNumbers catalog = Each (λ (t : Table). table_with t.id catalog ≡ Some t) catalog.tables

-- And each has at most 16 columns.
pub record HasGoodTables (catalog : Catalog) : Type 0 where
  pub numbers : HasOwnNumbers catalog
  pub columns : Each (λ (t : Table). length t.columns ≤ 16) catalog.tables

-- ---- lists

each-among : {X : Type 0} (P : X → Type 0) (xs : List X) → ((x : X) → IsAmong x xs → P x) → Each P xs
each-among P [] f = tt
each-among P (x ∷ xs) f = (f x (inl refl), each-among P xs (λ y a. f y (inr a)))

-- Where one element alone passes, it is found.
only_step : {X : Type 0} (p : X → Bool) (x y : X) (o : Option X) → (p y ≡ true → y ≡ x) → (p y ≡ false → o ≡ Some x) → (c : Bool) → p y ≡ c → cond c (Some y) o ≡ Some x
only_step p x y o here later true e = ap Some (here e)
only_step p x y o here later false e = later e

found-only : {X : Type 0} (p : X → Bool) (x : X) (xs : List X) → IsAmong x xs → p x ≡ true → ((y : X) → IsAmong y xs → p y ≡ true → y ≡ x) → find p xs ≡ Some x
found-only p x [] a k f = absurd a
found-only p x (y ∷ ys) (inl same) k f = only_step p x y (find p ys) (f y (inl refl)) (λ n. absurd (both_ways (p y) n (ap p same ∙ k))) (p y) refl
found-only p x (y ∷ ys) (inr a) k f = only_step p x y (find p ys) (f y (inl refl)) (λ n. found-only p x ys a k (λ z b. f z (inr b))) (p y) refl

-- Where a mapped element comes from.
pub record IsMapped {X Y : Type 0} (f : X → Y) (y : Y) (xs : List X) : Type 0 where
  pub from : X
  pub among : IsAmong from xs
  pub is : f from ≡ y

mapped-from : {X Y : Type 0} (f : X → Y) (y : Y) (xs : List X) → IsAmong y (map f xs) → IsMapped f y xs
mapped-from f y [] a = absurd a
mapped-from f y (x ∷ xs) (inl same) = record { from = x; among = inl refl; is = same }
mapped-from f y (x ∷ xs) (inr a) = let m = mapped-from f y xs a in record { from = m.from; among = inr m.among; is = m.is }

length_step : {X : Type 0} (x y : X) (ys zs : List X) → length zs ≡ suc (length ys) → (c : Bool) → length (cond c (y ∷ zs) (x ∷ y ∷ ys)) ≡ suc (suc (length ys))
length_step x y ys zs e true = ap suc e
length_step x y ys zs e false = refl

length-inserted : {X : Type 0} (cmp : X → X → Ordering) (x : X) (ys : List X) → length (inserted cmp x ys) ≡ suc (length ys)
length-inserted cmp x [] = refl
length-inserted cmp x (y ∷ ys) = length_step x y ys (inserted cmp x ys) (length-inserted cmp x ys) (is_gt (cmp x y))

length-ordered : {X : Type 0} (cmp : X → X → Ordering) (xs : List X) → length (in_order cmp xs) ≡ length xs
length-ordered cmp [] = refl
length-ordered cmp (x ∷ xs) = length-inserted cmp x (in_order cmp xs) ∙ ap suc (length-ordered cmp xs)

fewer_step : {X : Type 0} (x : X) (xs ys : List X) → length xs ≤ length ys → (c d : Bool) → (c ≡ true → d ≡ true) → length (cond c (x ∷ xs) xs) ≤ length (cond d (x ∷ ys) ys)
fewer_step x xs ys l true true f = omega (arith, l)
fewer_step x xs ys l true false f = absurd (true≢false (sym (f refl)))
fewer_step x xs ys l false true f = omega (arith, l)
fewer_step x xs ys l false false f = l

filter-fewer : {X : Type 0} (f g : X → Bool) (xs : List X) → ((x : X) → IsAmong x xs → f x ≡ true → g x ≡ true) → length (filter f xs) ≤ length (filter g xs)
filter-fewer f g [] h = omega arith
filter-fewer f g (x ∷ xs) h = fewer_step x (filter f xs) (filter g xs) (filter-fewer f g xs (λ y a. h y (inr a))) (f x) (g x) (h x (inl refl))

-- ---- values

first_taken : (test : Value → Bool) (tests : List (Value → Bool)) (vs : List Value) → are_taken (test ∷ tests) vs ≡ true → test (unwrap_or (slice_get vs 0) Null) ≡ true
first_taken test tests [] h = absurd (true≢false (sym h))
first_taken test tests (v ∷ vs) h = (and_parts (test v) (are_taken tests vs) h).0

number-is : (least most : ℕ) (v : Value) → is_number_from least most v ≡ true → v ≡ Int (pos (whole_number_of v))
number-is least most Null h = absurd (true≢false (sym h))
number-is least most (Int (pos n)) h = refl
number-is least most (Int (negsuc n)) h = absurd (true≢false (sym h))
number-is least most (Number s z) h = absurd (true≢false (sym h))
number-is least most (Text bytes) h = absurd (true≢false (sym h))

-- ---- the rules of TABLES and COLUMNS

module _ (bound : ℕ) (cells : Cells) (h : first_bad_catalog bound cells ≡ None) (below : LieBelow bound cells) where
  abbrev rows : SystemTable → List PlacedRow
  rows table = rows_of (id_of table) bound cells

  not_bad : (q id : ℕ) (row : Row) → cells q ≡ Full id row → is_bad_catalog_row bound cells q (Full id row) ≡ false
  unfolding first_bad_catalog
  not_bad q id row e =
      let low : q < bound = below q (ap is_full e) in
      ap (is_bad_catalog_row bound cells q) (sym e)
      ∙ none_passes (is_bad_catalog_at bound cells) (numbers_below bound) h q (among q bound 0 (omega arith) (omega (arith, low)))

  -- Of a row of TABLES: its values, its key and its columns.
  pub record IsRight (q : ℕ) (row : Row) : Type 0 where
    pub number : value_at row 0 ≡ Int (pos (whole_number_of (value_at row 0)))
    pub key : has_key_before Tables (q, row) (rows Tables) ≡ false
    pub columns : has_wrong_columns Tables row (rows Columns) ≡ false

  first_number : (table : SystemTable) (row : Row) (tests : List (Value → Bool)) → column_tests table ≡ is_table_id ∷ tests → has_wrong_values table row ≡ false →
      value_at row 0 ≡ Int (pos (whole_number_of (value_at row 0)))
  first_number table row tests e n =
      number-is 16 271 (value_at row 0)
      (first_taken is_table_id tests row.values (ap (λ (ts : List (Value → Bool)). are_taken ts row.values) (sym e) ∙ not_none (are_taken (column_tests table) row.values) n))

  table_right : (q : ℕ) (row : Row) → cells q ≡ Full 1 row → IsRight q row
  table_right q row e =
      let all : breaks_catalog rows Tables (q, row) ≡ false = not_bad q 1 row e in
      let nine = or_parts _ (is_past_limit Tables (q, row) (rows Tables)) all in
      let eight = or_parts _ (has_wrong_positions Tables (q, row) (rows Columns)) (nine.0) in
      let seven = or_parts _ (lacks_bookmark Tables row (rows Bookmarks)) (eight.0) in
      let six = or_parts _ (lacks_table Tables row (rows Tables)) (seven.0) in
      let five = or_parts _ (has_wrong_columns Tables row (rows Columns)) (six.0) in
      let four = or_parts _ (has_name_before Tables (q, row) (rows Tables)) (five.0) in
      let three = or_parts _ (has_key_before Tables (q, row) (rows Tables)) (four.0) in
      let two = or_parts _ (is_free_key Tables row) (three.0) in
      let one = or_parts (has_wrong_values Tables row) (has_wrong_size Tables row) (two.0) in
      record { number = first_number Tables row _ refl (one.0); key = three.1; columns = five.1 }

  column_number : (q : ℕ) (row : Row) → cells q ≡ Full 2 row → value_at row 0 ≡ Int (pos (whole_number_of (value_at row 0)))
  column_number q row e =
      let all : breaks_catalog rows Columns (q, row) ≡ false = not_bad q 2 row e in
      let nine = or_parts _ (is_past_limit Columns (q, row) (rows Columns)) all in
      let eight = or_parts _ (has_wrong_positions Columns (q, row) (rows Columns)) (nine.0) in
      let seven = or_parts _ (lacks_bookmark Columns row (rows Bookmarks)) (eight.0) in
      let six = or_parts _ (lacks_table Columns row (rows Tables)) (seven.0) in
      let five = or_parts _ (has_wrong_columns Columns row (rows Columns)) (six.0) in
      let four = or_parts _ (has_name_before Columns (q, row) (rows Columns)) (five.0) in
      let three = or_parts _ (has_key_before Columns (q, row) (rows Columns)) (four.0) in
      let two = or_parts _ (is_free_key Columns row) (three.0) in
      let one = or_parts (has_wrong_values Columns row) (has_wrong_size Columns row) (two.0) in
      first_number Columns row _ refl (one.0)

  -- ---- each number once

  abbrev numbered : Row → Held
  numbered row = record { table = 1; columns = 0 ∷ []; values = value_at row 0 ∷ [] }

  not_less : (p q : ℕ) (a b : Row) → p < q → cells p ≡ Full 1 a → cells q ≡ Full 1 b → whole_number_of (value_at a 0) ≡ whole_number_of (value_at b 0) → ⊥
  not_less p q a b l ea eb same =
      let right_a : IsRight p a = table_right p a ea in
      let right_b : IsRight q b = table_right q b eb in
      let value : value_at a 0 ≡ value_at b 0 = right_a.number ∙ (ap (λ (n : ℕ). Int (pos n)) same ∙ sym right_b.number) in
      before_not bound cells (numbered b) p q a b l (below p (ap is_full ea)) ea eb (ap (λ (v : Value). v ∷ []) value) refl right_b.key

  one_place : (p q : ℕ) (a b : Row) → cells p ≡ Full 1 a → cells q ≡ Full 1 b → whole_number_of (value_at a 0) ≡ whole_number_of (value_at b 0) → p ≡ q
  one_place p q a b ea eb same = elim (cases_order p q) [
    | inl e ↦ e
    | inr (inl l) ↦ absurd (not_less p q a b l ea eb same)
    | inr (inr l) ↦ absurd (not_less q p b a l eb ea (sym same))
  ]

  same_row : (a b : Row) → Full 1 a ≡ Full 1 b → a ≡ b
  same_row a b e = cc

  abbrev sorted : List PlacedRow
  sorted = by_number 0 (rows_of 1 bound cells)

  lies : LieIn 1 cells sorted
  lies = (are_rows-in_order 1 cells (λ a b. nat_cmp (number_at 0 a) (number_at 0 b)) (rows_of 1 bound cells) (are_rows-rows_of 1 bound cells)).lie

  abbrev built : PlacedRow → Table
  built r = table_of (rows_of 2 bound cells) r

  finds_itself : (t : Table) → IsAmong t (map built sorted) → find (λ (x : Table). x.id == t.id) (map built sorted) ≡ Some t
  finds_itself t a =
      let m : IsMapped built t sorted = mapped-from built t sorted a in
      found-only (λ (x : Table). x.id == t.id) t (map built sorted) a (eq-eqb t.id t.id refl) (λ y b k.
      let n : IsMapped built y sorted = mapped-from built y sorted b in
      let at_m : cells ((m.from).0) ≡ Full 1 ((m.from).1) = among-lies 1 cells sorted m.from lies m.among in
      let at_n : cells ((n.from).0) ≡ Full 1 ((n.from).1) = among-lies 1 cells sorted n.from lies n.among in
      let ids : number_at 0 n.from ≡ number_at 0 m.from = ap (λ (x : Table). x.id) n.is ∙ (eqb-true y.id t.id k ∙ ap (λ (x : Table). x.id) (sym m.is)) in
      let place : (n.from).0 ≡ (m.from).0 = one_place ((n.from).0) ((m.from).0) ((n.from).1) ((m.from).1) at_n at_m ids in
      let row : (n.from).1 ≡ (m.from).1 = same_row ((n.from).1) ((m.from).1) (sym at_n ∙ (ap cells place ∙ at_m)) in
      sym n.is ∙ (ap (λ (p : ℕ). built (p, (n.from).1)) place ∙ (ap (λ (r : Row). built ((m.from).0, r)) row ∙ m.is)))

  -- ---- columns

  few_own : (row : Row) → has_wrong_columns Tables row (rows Columns) ≡ false → length (columns_with (value_at row 0) (rows Columns)) ≤ 16
  few_own row n =
      let four = or_parts _ _ n in
      let three = or_parts _ _ (four.0) in
      let two = or_parts _ _ (three.0) in
      let one = or_parts (nat_lt 16 (length (columns_with (value_at row 0) (rows Columns)))) _ (two.0) in
      ltb-false 16 (length (columns_with (value_at row 0) (rows Columns))) (one.0)

  few : (r : PlacedRow) → cells (r.0) ≡ Full 1 (r.1) → length ((built r).columns) ≤ 16
  few r e =
      let right : IsRight (r.0) (r.1) = table_right (r.0) (r.1) e in
      let columns : List PlacedRow = rows_of 2 bound cells in
      let own : List PlacedRow = with_number_at 0 (number_at 0 r) columns in
      let count : length (map column_of (by_number 1 own)) ≡ length own
      = length-map (by_number 1 own) column_of ∙ length-ordered (λ a b. nat_cmp (number_at 1 a) (number_at 1 b)) own in
      let fewer : length own ≤ length (columns_with (value_at (r.1) 0) columns)
      = filter-fewer (λ (x : PlacedRow). number_at 0 x == number_at 0 r) (λ (x : PlacedRow). same_value (value_at (x.1) 0) (value_at (r.1) 0)) columns (λ x a k.
      let there : cells (x.0) ≡ Full 2 (x.1) = among-lies 2 cells columns x ((are_rows-rows_of 2 bound cells).lie) a in
      let value : value_at (x.1) 0 ≡ value_at (r.1) 0
      = column_number (x.0) (x.1) there ∙ (ap (λ (n : ℕ). Int (pos n)) (eqb-true (number_at 0 x) (number_at 0 r) k) ∙ sym right.number) in
      ap (λ (v : Value). same_value v (value_at (r.1) 0)) value ∙ same_value-self (value_at (r.1) 0)) in
      let most : length (columns_with (value_at (r.1) 0) columns) ≤ 16 = few_own (r.1) right.columns in
      omega (arith, count, fewer, most)

  pub good-tables : HasGoodTables (catalog_of bound cells)
  unfolding catalog_of
  good-tables = record {
    numbers = each-among (λ (t : Table). table_with t.id (catalog_of bound cells) ≡ Some t) (map built sorted) (λ t a. finds_itself t a);
    columns = each-among (λ (t : Table). length t.columns ≤ 16) (map built sorted) (λ t a.
        let m : IsMapped built t sorted = mapped-from built t sorted a in
        subst (λ (x : Table). length x.columns ≤ 16) m.is (few m.from (among-lies 1 cells sorted m.from lies m.among)));
  }

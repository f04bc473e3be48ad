-- A table of the catalog and its columns, in a state whose catalog is good.
use Rattle.std.proofs.Common.{◌≡◌, ◌<◌, ◌≤◌, ◌+◌, inl, inr, ℕ, zero, suc, Bool, true, false, ◌||◌, nat_eq, filter, map, List, [], ◌∷◌, Option, Some, None, unwrap_or, length, refl, sym, ap, ◌∙◌, arith, true≢false}
use Rattle.std.proofs.lemmas.Bool.{cases_Bool, eqb-true, eq-eqb, lt-ltb, ltb-false, leb-true, and_from, and_parts, or_parts, or_from, both_ways, false_from_ne_true, not-false}
use Rattle.std.proofs.lemmas.Slice.Eq.{bytes_eq-Decides}
use Rattle.std.proofs.lemmas.List.Quantifiers.{position-Some}
use Rattle.std.specs.Prelude.{◌==◌, get_or, pos, negsuc, nat_le, nat_lt, not, bytes_eq, is_some, if◌then◌else◌}
use Rattle.std.specs.List.{list_any, list_all, filter_map}
use Rattle.std.specs.Ordering.{nat_cmp}
use Rattle.tt_value.specs.Same.{same_value}
use Rattle.tt_value.specs.declared.value.Value.{Value}
use Rattle.tt_value.specs.declared.value.Value.TheVariants.{Null, Int, Number, Text}
use Rattle.tt_value.specs.declared.value.Row.{Row}
use Rattle.tt_value.specs.declared.value.Cell.TheVariants.{Full}
use Rattle.tt_value.specs.declared.value.ColumnType.TheVariants.{BigInt}
use Rattle.tt_parse.specs.declared.command.ColumnText.{ColumnText}
use Rattle.tt_model.specs.Committed.{Cells}
use Rattle.tt_model.specs.Live.{numbers_from, numbers_below}
use Rattle.tt_model.specs.Holders.{value_at}
use Rattle.tt_model.specs.WholeRuns.{Each}
use Rattle.tt_model.specs.Tables.{Table, PlacedRow, row_in, rows_of, number_at, with_number_at, by_number, table_of, column_of, column_named, catalog_of, table_named, whole_number_of}
use Rattle.tt_model.specs.State.{State, cells_of, bound, catalog}
use Rattle.tt_model.specs.System.{number, system_rows, has_twice, columns_in}
use Rattle.tt_model.specs.Damage.{Tables, Columns, columns_with, is_number_from, is_number, is_table_id, is_flag, is_name_text, has_wrong_columns, are_counted, values_in, is_position_in, has_twice_in, is_twice, key_positions}
use Rattle.tt_model.proofs.ConflictLemmas.{same_value-self}
use Rattle.tt_model.proofs.RowLemmas.{LieIn, in_cell, are_rows-rows_of, are_rows-in_order}
use Rattle.tt_model.proofs.OneHolderStatements.{each-found}
use Rattle.tt_model.proofs.GoodPlaces.{kept_at, filter-rows}
use Rattle.tt_model.proofs.GoodValues.{same-value}
use Rattle.tt_model.proofs.GoodRemovals.{wrong_own}
use Rattle.tt_model.proofs.GoodDeletes.{HasGood}
use Rattle.tt_model.proofs.GoodTaken.{number-is, taken-first, good-taken, count-all}
use Rattle.tt_model.proofs.GoodNumbers.{count-in_order, count-map}

-- ---- the row of a table

-- A table is told by a row of TABLES and rows of COLUMNS.
pub record IsTableOf (s : State) (t : Table) : Type 0 where
  pub at : ℕ
  pub row : Row
  pub lies : cells_of s at ≡ Full 1 row
  pub id_is : t.id ≡ whole_number_of (value_at row 0)
  pub columns_are : t.columns ≡ map column_of (by_number 1 (with_number_at 0 t.id (system_rows 2 s)))

each_table : (s : State) (rows : List PlacedRow) → LieIn 1 (cells_of s) rows → Each (λ (t : Table). IsTableOf s t) (map (table_of (system_rows 2 s)) rows)
each_table s [] l = tt
each_table s (r ∷ rows) l = (record { at = r.0; row = r.1; lies = l.0; id_is = refl; columns_are = refl }, each_table s rows (l.1))

pub table-of : (s : State) (name : List ℕ) (t : Table) → table_named name (catalog s) ≡ Some t → IsTableOf s t
unfolding catalog_of
table-of s name t e =
    let rows : List PlacedRow = system_rows 1 s in
    each-found (λ (x : Table). IsTableOf s x) (λ x. bytes_eq x.name name) t (map (table_of (system_rows 2 s)) (by_number 0 rows))
    (each_table s (by_number 0 rows) ((are_rows-in_order 1 (cells_of s) (λ a b. nat_cmp (number_at 0 a) (number_at 0 b)) rows (are_rows-rows_of 1 (bound s) (cells_of s))).lie)) e

-- ---- ranges

pub number-range : (least most : ℕ) (v : Value) → is_number_from least most v ≡ true → (least ≤ whole_number_of v) × (whole_number_of v ≤ most)
number-range least most (Int (pos n)) h =
    let parts : (nat_le least n ≡ true) × (nat_le n most ≡ true) = and_parts (nat_le least n) (nat_le n most) h in (leb-true least n (parts.0), leb-true n most (parts.1))
number-range least most (Int (negsuc n)) h = absurd (true≢false (sym h))
number-range least most Null h = absurd (true≢false (sym h))
number-range least most (Number k n) h = absurd (true≢false (sym h))
number-range least most (Text bytes) h = absurd (true≢false (sym h))

-- ---- the rows of its columns

bool_same : (a b : Bool) → (a ≡ true → b ≡ true) → (b ≡ true → a ≡ true) → a ≡ b
bool_same true b f g = sym (f refl)
bool_same false true f g = g refl
bool_same false false f g = refl

kept_agree : (f g : PlacedRow → Bool) (q : ℕ) (o : Option Row) → ((row : Row) → o ≡ Some row → f (q, row) ≡ g (q, row)) → kept_at f q o ≡ kept_at g q o
kept_agree f g q None h = refl
kept_agree f g q (Some row) h = ap (λ b. let o : Option PlacedRow = if b then Some (q, row) else None in o) (h row refl)

-- Two tests that agree on the rows that are there.
filter-agree : (f g : PlacedRow → Bool) (table n : ℕ) (cells : Cells) → ((q : ℕ) (row : Row) → cells q ≡ Full table row → f (q, row) ≡ g (q, row)) →
    filter f (rows_of table n cells) ≡ filter g (rows_of table n cells)
filter-agree f g table n cells h =
    filter-rows f table n cells
    ∙ (ap (λ (k : ℕ → Option PlacedRow). filter_map k (numbers_below n)) (λ i q. kept_agree f g q (row_in table (cells q)) (λ row e. h q row (in_cell table (cells q) row e)) i)
    ∙ sym (filter-rows g table n cells))

module _ (s : State) (t : Table) (g : HasGood s) (found : IsTableOf s t) where
  -- The rows of COLUMNS of the table.
  abbrev pub own : List PlacedRow
  own = columns_with (number t.id) (system_rows 2 s)

  id_of_row : is_table_id (value_at found.row 0) ≡ true
  id_of_row = taken-first is_table_id (is_name_text ∷ []) found.row (good-taken s Tables found.at found.row g found.lies)

  id_value : value_at found.row 0 ≡ number t.id
  id_value = number-is 16 271 (value_at found.row 0) id_of_row ∙ ap number (sym found.id_is)

  by_id : (q : ℕ) (row : Row) → cells_of s q ≡ Full 2 row → same_value (value_at row 0) (number t.id) ≡ (number_at 0 (q, row) == t.id)
  by_id q row e =
      let v : value_at row 0 ≡ number (whole_number_of (value_at row 0))
      = number-is 16 271 (value_at row 0) (taken-first is_table_id (is_number_from 1 16 ∷ is_number_from 1 3 ∷ is_number_from 0 200 ∷ is_flag ∷ is_number_from 0 16 ∷ is_name_text ∷ []) row (good-taken s Columns q row g e)) in
      bool_same (same_value (value_at row 0) (number t.id)) (whole_number_of (value_at row 0) == t.id)
      (λ y. eq-eqb (whole_number_of (value_at row 0)) t.id (ap whole_number_of (same-value (value_at row 0) (number t.id) y)))
      (λ y. ap (λ w. same_value w (number t.id)) (v ∙ ap number (eqb-true (whole_number_of (value_at row 0)) t.id y)) ∙ same_value-self (number t.id))

  own_is : own ≡ with_number_at 0 t.id (system_rows 2 s)
  own_is = filter-agree (λ (r : PlacedRow). same_value (value_at (r.1) 0) (number t.id)) (λ r. number_at 0 r == t.id) 2 (bound s) (cells_of s) by_id

  pub length-own : length t.columns ≡ length own
  length-own =
      ap (λ (cs : List ColumnText). length cs) found.columns_are
      ∙ (sym (count-all (map column_of (by_number 1 (with_number_at 0 t.id (system_rows 2 s)))))
      ∙ (count-map (λ x. true) column_of (by_number 1 (with_number_at 0 t.id (system_rows 2 s)))
      ∙ (count-in_order (λ (x : PlacedRow). true) (λ a b. nat_cmp (number_at 1 a) (number_at 1 b)) (with_number_at 0 t.id (system_rows 2 s))
      ∙ (count-all (with_number_at 0 t.id (system_rows 2 s)) ∙ ap (λ (rs : List PlacedRow). length rs) (sym own_is)))))

  rules : has_wrong_columns Tables found.row (system_rows 2 s) ≡ false
  rules = (g.follow Tables found.at found.row found.lies).columns refl

  two_rules : (nat_lt 16 (length own) ≡ false) × (are_counted (values_in 1 own) ≡ true)
  two_rules =
      let h : wrong_own own ≡ false = ap (λ v. wrong_own (columns_with v (system_rows 2 s))) (sym id_value) ∙ rules in
      let four = or_parts (nat_lt 16 (length own) || not (are_counted (values_in 1 own)) || is_twice (values_in 6 own) || not (are_counted (key_positions own))) (nat_eq (length (key_positions own)) 0) h in
      let three = or_parts (nat_lt 16 (length own) || not (are_counted (values_in 1 own)) || is_twice (values_in 6 own)) (not (are_counted (key_positions own))) (four.0) in
      let two = or_parts (nat_lt 16 (length own) || not (are_counted (values_in 1 own))) (is_twice (values_in 6 own)) (three.0) in
      let one = or_parts (nat_lt 16 (length own)) (not (are_counted (values_in 1 own))) (two.0) in
      (one.0, not-false (are_counted (values_in 1 own)) (one.1))

  -- ---- the columns that a line names

  at_most : length t.columns ≤ 16
  at_most = let l : length own ≤ 16 = ltb-false 16 (length own) (two_rules.0) in let e : length t.columns ≡ length own = length-own in omega (arith, l, e)

  any_value : (f : Value → Bool) (rows : List PlacedRow) → list_any f (values_in 1 rows) ≡ list_any (λ (r : PlacedRow). f (value_at (r.1) 1)) rows
  any_value f [] = refl
  any_value f (r ∷ rows) = ap (λ b. f (value_at (r.1) 1) || b) (any_value f rows)

  all_numbers : (f : ℕ → Bool) (k n from : ℕ) → list_all f (numbers_from n from) ≡ true → from ≤ k → k < from + n → f k ≡ true
  all_numbers f k zero from h l m = absurd (omega (arith, l, m))
  all_numbers f k (suc n) from h l m =
      let parts : (f from ≡ true) × (list_all f (numbers_from n (suc from)) ≡ true) = and_parts (f from) (list_all f (numbers_from n (suc from))) h in
      elim (cases_Bool (nat_eq k from)) [
        | inl y ↦ ap f (eqb-true k from y) ∙ parts.0
        | inr d ↦ all_numbers f k n (suc from) (parts.1) (above from k l d) (omega (arith, m))
      ]
    where
      above : (from q : ℕ) → from ≤ q → nat_eq q from ≡ false → suc from ≤ q
      above from q l n = grind (arith, l, n)

  length_values : (rows : List PlacedRow) → length (values_in 1 rows) ≡ length rows
  length_values [] = refl
  length_values (r ∷ rows) = ap (λ k. suc k) (length_values rows)

  -- Each position below the count of columns is that of a column.
  is_there : (p : ℕ) → p < length t.columns → is_position_in own p ≡ true
  is_there p l =
      let e : length t.columns ≡ length own = length-own in
      let n : length (values_in 1 own) ≡ length own = length_values own in
      sym (any_value (is_number (suc p)) own)
      ∙ all_numbers (λ k. list_any (is_number k) (values_in 1 own)) (suc p) (length (values_in 1 own)) 1 (two_rules.1) (omega arith) (omega (arith, l, e, n))

  some_at : (c : List ℕ) (o : Option ℕ) → column_named t c ≡ o → is_some o ≡ true → column_named t c ≡ Some (unwrap_or (column_named t c) 0)
  some_at c None e h = absurd (true≢false (sym h))
  some_at c (Some i) e h = e ∙ ap (λ o. Some (unwrap_or o 0)) (sym e)

  no_column : ColumnText
  no_column = record { name = []; kind = BigInt; required = false }

  named_at : (c : List ℕ) → is_some (column_named t c) ≡ true → (unwrap_or (column_named t c) 0 < length t.columns) × (bytes_eq ((get_or t.columns (unwrap_or (column_named t c) 0) no_column).name) c ≡ true)
  named_at c h =
      let p = position-Some (λ (x : ColumnText). bytes_eq x.name c) t.columns (unwrap_or (column_named t c) 0) no_column (some_at c (column_named t c) refl h) in
      (p.0, p.1)

  pub all-low : (cs : List (List ℕ)) → list_all (λ c. is_some (column_named t c)) cs ≡ true → list_all (λ p. nat_lt p 16) (columns_in t cs) ≡ true
  all-low [] h = refl
  all-low (c ∷ cs) h =
      let parts : (is_some (column_named t c) ≡ true) × (list_all (λ c. is_some (column_named t c)) cs ≡ true) = and_parts (is_some (column_named t c)) (list_all (λ c. is_some (column_named t c)) cs) h in
      let low : unwrap_or (column_named t c) 0 < length t.columns = (named_at c (parts.0)).0 in
      let few : length t.columns ≤ 16 = at_most in
      and_from (nat_lt (unwrap_or (column_named t c) 0) 16) (list_all (λ p. nat_lt p 16) (columns_in t cs)) (lt-ltb (unwrap_or (column_named t c) 0) 16 (omega (arith, low, few))) (all-low cs (parts.1))

  pub all-there : (cs : List (List ℕ)) → list_all (λ c. is_some (column_named t c)) cs ≡ true → list_all (is_position_in own) (columns_in t cs) ≡ true
  all-there [] h = refl
  all-there (c ∷ cs) h =
      let parts : (is_some (column_named t c) ≡ true) × (list_all (λ c. is_some (column_named t c)) cs ≡ true) = and_parts (is_some (column_named t c)) (list_all (λ c. is_some (column_named t c)) cs) h in
      and_from (is_position_in own (unwrap_or (column_named t c) 0)) (list_all (is_position_in own) (columns_in t cs)) (is_there (unwrap_or (column_named t c) 0) ((named_at c (parts.0)).0)) (all-there cs (parts.1))

  apart_at : (c d : List ℕ) → is_some (column_named t c) ≡ true → is_some (column_named t d) ≡ true → bytes_eq c d ≡ false → nat_eq (unwrap_or (column_named t c) 0) (unwrap_or (column_named t d) 0) ≡ false
  apart_at c d a b n = false_from_ne_true (nat_eq (unwrap_or (column_named t c) 0) (unwrap_or (column_named t d) 0)) (λ y.
      let name : ℕ → List ℕ = λ i. (get_or t.columns i no_column).name in
      let same : name (unwrap_or (column_named t c) 0) ≡ name (unwrap_or (column_named t d) 0) = ap name (eqb-true (unwrap_or (column_named t c) 0) (unwrap_or (column_named t d) 0) y) in
      let one : name (unwrap_or (column_named t c) 0) ≡ c = (bytes_eq-Decides (name (unwrap_or (column_named t c) 0)) c).0 ((named_at c a).1) in
      let two : name (unwrap_or (column_named t d) 0) ≡ d = (bytes_eq-Decides (name (unwrap_or (column_named t d) 0)) d).0 ((named_at d b).1) in
      both_ways (bytes_eq c d) n ((bytes_eq-Decides c d).1 (sym one ∙ (same ∙ two))))

  none_same : (c : List ℕ) (cs : List (List ℕ)) → is_some (column_named t c) ≡ true → list_all (λ c. is_some (column_named t c)) cs ≡ true → list_any (bytes_eq c) cs ≡ false →
      list_any (nat_eq (unwrap_or (column_named t c) 0)) (columns_in t cs) ≡ false
  none_same c [] a h n = refl
  none_same c (d ∷ cs) a h n =
      let parts : (is_some (column_named t d) ≡ true) × (list_all (λ c. is_some (column_named t c)) cs ≡ true) = and_parts (is_some (column_named t d)) (list_all (λ c. is_some (column_named t c)) cs) h in
      let none : (bytes_eq c d ≡ false) × (list_any (bytes_eq c) cs ≡ false) = or_parts (bytes_eq c d) (list_any (bytes_eq c) cs) n in
      or_from (nat_eq (unwrap_or (column_named t c) 0) (unwrap_or (column_named t d) 0)) (list_any (nat_eq (unwrap_or (column_named t c) 0)) (columns_in t cs)) (apart_at c d a (parts.0) (none.0)) (none_same c cs a (parts.1) (none.1))

  pub none-twice : (cs : List (List ℕ)) → list_all (λ c. is_some (column_named t c)) cs ≡ true → has_twice cs ≡ false → has_twice_in (columns_in t cs) ≡ false
  none-twice [] h n = refl
  none-twice (c ∷ cs) h n =
      let parts : (is_some (column_named t c) ≡ true) × (list_all (λ c. is_some (column_named t c)) cs ≡ true) = and_parts (is_some (column_named t c)) (list_all (λ c. is_some (column_named t c)) cs) h in
      let none : (list_any (bytes_eq c) cs ≡ false) × (has_twice cs ≡ false) = or_parts (list_any (bytes_eq c) cs) (has_twice cs) n in
      or_from (list_any (nat_eq (unwrap_or (column_named t c) 0)) (columns_in t cs)) (has_twice_in (columns_in t cs)) (none_same c cs (parts.0) (parts.1) (none.0)) (none-twice cs (parts.1) (none.1))

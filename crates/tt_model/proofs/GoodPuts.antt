-- Where one row is put into a free place, or in place of one with the same first value, the catalog stays good.
use Rattle.std.proofs.Common.{◌≡◌, ◌<◌, ◌⊎◌, inl, inr, ℕ, Bool, true, false, not, nat_eq, List, [], ◌∷◌, Option, Some, None, if◌then◌else◌, refl, sym, ap, ◌∙◌, subst, arith}
use Rattle.std.proofs.lemmas.Bool.{cases_Bool, eqb-true, eq-eqb, ltb-true, and_parts, both_ways, false_from_ne_true, not-false, not_from_true}
use Rattle.std.specs.Prelude.{nat_lt, unwrap_or}
use Rattle.std.specs.List.{list_any}
use Rattle.tt_value.specs.Same.{same_value}
use Rattle.tt_value.specs.declared.value.Value.{Value}
use Rattle.tt_value.specs.declared.value.Row.{Row}
use Rattle.tt_value.specs.declared.value.Cell.{Cell}
use Rattle.tt_value.specs.declared.value.Cell.TheVariants.{Empty, Full}
use Rattle.tt_model.specs.Committed.{Cells}
use Rattle.tt_model.specs.Holders.{value_at, values_at}
use Rattle.tt_model.specs.Values.{same_values}
use Rattle.tt_model.specs.Tables.{PlacedRow, row_in, rows_of, text_at, read_positions}
use Rattle.tt_model.specs.Damage.{SystemTable, Tables, Columns, Indexes, Bookmarks, Subscriptions, Sets, system_table, id_of, has_wrong_values, has_wrong_size, is_free_key, has_name_before, has_wrong_columns, lacks_table, lacks_bookmark, has_wrong_positions, is_past_limit, is_there_before, table_column, has_value_in, columns_with, key_columns}
use Rattle.tt_model.proofs.GoodPlaces.{kept_at, IsThere, rows-same, filter-same, row-in, any-there, there-any, any-none}
use Rattle.tt_model.proofs.GoodValues.{same-value, same-values}
use Rattle.tt_model.proofs.GoodCells.{Follows, IsGoodBut, rows_in, table-of_id}
use Rattle.tt_model.proofs.GoodRemovals.{empty-full, before_test, there_before, has_value, wrong_own, wrong_places}

-- The columns of the names of tables and of indexes.
abbrev pub name_columns : SystemTable → Option (List ℕ)
name_columns Tables = Some (1 ∷ [])
name_columns Indexes = Some (3 ∷ [])
name_columns _ = None

abbrev pub is_columns : SystemTable → Bool
is_columns Columns = true
is_columns _ = false

-- One row of a system table is put into a place that is free, or that has a row with the same first value. It follows the rules, and
-- differs from the other rows of its table in its key and its name.
pub record Puts (but : Row → Bool) (bound : ℕ) (c d : Cells) (own : SystemTable) (p : ℕ) (new : Row) : Type 0 where
  pub here : d p ≡ Full (id_of own) new
  pub others : (q : ℕ) → nat_eq q p ≡ false → d q ≡ c q
  pub low : p < bound
  pub was : (c p ≡ Empty) ⊎ ((old : Row) × (c p ≡ Full (id_of own) old) × (value_at old 0 ≡ value_at new 0))
  pub values : has_wrong_values own new ≡ false
  pub size : has_wrong_size own new ≡ false
  pub free_key : is_free_key own new ≡ false
  pub key : (q : ℕ) (row : Row) → nat_eq q p ≡ false → c q ≡ Full (id_of own) row → values_at (key_columns own) row ≡ values_at (key_columns own) new → ⊥
  pub name : (q : ℕ) (row : Row) (columns : List ℕ) → nat_eq q p ≡ false → c q ≡ Full (id_of own) row → name_columns own ≡ Some columns → values_at columns row ≡ values_at columns new → ⊥
  pub columns : but new ≡ false → has_wrong_columns own new (rows_in bound d Columns) ≡ false
  pub column_tables : (q : ℕ) (row : Row) → is_columns own ≡ true → c q ≡ Full 1 row → but row ≡ false → value_at new 0 ≡ value_at row 0 → ⊥
  pub column_indexes : (q : ℕ) (row : Row) → is_columns own ≡ true → c q ≡ Full 3 row → value_at new 0 ≡ value_at row 1 → ⊥
  pub table_there : lacks_table own new (rows_in bound c Tables) ≡ false
  pub bookmark_there : lacks_bookmark own new (rows_in bound c Bookmarks) ≡ false
  pub positions : has_wrong_positions own (p, new) (rows_in bound c Columns) ≡ false
  pub limit : (q : ℕ) (row : Row) → d q ≡ Full (id_of own) row → is_past_limit own (q, row) (rows_in bound d own) ≡ false

table_some : (t u : SystemTable) → Some t ≡ Some u → t ≡ u
table_some t u h = ap (λ o. unwrap_or o t) h

pub same-table : (t u : SystemTable) → id_of t ≡ id_of u → t ≡ u
same-table t u e = table_some t u (sym (table-of_id t) ∙ (ap system_table e ∙ table-of_id u))

cell_number : Cell → ℕ
cell_number Empty = 0
cell_number (Full id row) = id

cell_row : Row → Cell → Row
cell_row r Empty = r
cell_row r (Full id row) = row

pub full-id : (id k : ℕ) (row other : Row) → Full id row ≡ Full k other → id ≡ k
unfolding cell_number
full-id id k row other h = ap cell_number h

pub full-row : (id k : ℕ) (row other : Row) → Full id row ≡ Full k other → row ≡ other
unfolding cell_row
full-row id k row other h = ap (cell_row row) h

module _ (but : Row → Bool) (bound : ℕ) (c d : Cells) (own : SystemTable) (p : ℕ) (new : Row) (puts : Puts but bound c d own p new) where
  was_there : (q id : ℕ) (row : Row) → nat_eq q p ≡ false → d q ≡ Full id row → c q ≡ Full id row
  was_there q id row n e = sym (puts.others q n) ∙ e

  -- The new row is at its place, of its table.
  new_there : (q id : ℕ) (row : Row) → nat_eq q p ≡ true → d q ≡ Full id row → (id ≡ id_of own) × (row ≡ new)
  new_there q id row y e =
      let same : Full id row ≡ Full (id_of own) new = sym e ∙ (ap d (eqb-true q p y) ∙ puts.here) in
      (full-id id (id_of own) row new same, full-row id (id_of own) row new same)

  -- ---- rows of other tables

  other_row : (id q : ℕ) → (id ≡ id_of own → ⊥) → row_in id (d q) ≡ row_in id (c q)
  other_row id q n = elim (cases_Bool (nat_eq q p)) [
    | inr apart ↦ ap (row_in id) (puts.others q apart)
    | inl y ↦
        let at : q ≡ p = eqb-true q p y in
        ap (λ (x : ℕ). row_in id (d x)) at ∙ (ap (row_in id) puts.here ∙ (none_new ∙ (sym (none_old puts.was) ∙ ap (λ (x : ℕ). row_in id (c x)) (sym at))))
  ]
    where
      none_of : (row : Row) → row_in id (Full (id_of own) row) ≡ None
      none_of row = ap (λ b. if b then Some row else None) (false_from_ne_true (nat_eq id (id_of own)) (λ y. n (eqb-true id (id_of own) y)))

      none_new : row_in id (Full (id_of own) new) ≡ None
      none_new = none_of new

      none_old : (c p ≡ Empty) ⊎ ((old : Row) × (c p ≡ Full (id_of own) old) × (value_at old 0 ≡ value_at new 0)) → row_in id (c p) ≡ None
      none_old (inl free) = ap (row_in id) free
      none_old (inr old) = ap (row_in id) (old.1) ∙ none_of (old.0)

  other_rows : (t : SystemTable) → (t ≡ own → ⊥) → rows_in bound d t ≡ rows_in bound c t
  other_rows t n = rows-same (id_of t) bound c d (λ q. other_row (id_of t) q (λ e. n (same-table t own e)))

  -- ---- no row before has the values

  before_old : (columns : List ℕ) (t : SystemTable) (q : ℕ) (row : Row) → (t ≡ own → values_at columns new ≡ values_at columns row → ⊥) →
      is_there_before columns (q, row) (rows_in bound c t) ≡ false → is_there_before columns (q, row) (rows_in bound d t) ≡ false
  before_old columns t q row f n =
      there_before columns q row (rows_in bound d t) ∙ any-none (before_test columns q row) (id_of t) bound d none
    where
      none : IsThere (before_test columns q row) (id_of t) bound d → ⊥
      none h = elim (cases_Bool (nat_eq h.at p)) [
        | inl y ↦
            let new_one : (id_of t ≡ id_of own) × (h.row ≡ new) = new_there h.at (id_of t) h.row y h.lies in
            f (same-table t own (new_one.0))
            (ap (λ (r : Row). values_at columns r) (sym (new_one.1)) ∙ same-values (values_at columns h.row) (values_at columns row) ((and_parts (same_values (values_at columns h.row) (values_at columns row)) (nat_lt h.at q) h.passes).0))
        | inr apart ↦
            both_ways (list_any (before_test columns q row) (rows_of (id_of t) bound c)) (sym (there_before columns q row (rows_in bound c t)) ∙ n)
            (there-any (before_test columns q row) (id_of t) bound c h.at h.row (was_there h.at (id_of t) h.row apart h.lies) h.passes h.low)
      ]

  before_new : (columns : List ℕ) → ((q : ℕ) (row : Row) → nat_eq q p ≡ false → c q ≡ Full (id_of own) row → values_at columns row ≡ values_at columns new → ⊥) →
      is_there_before columns (p, new) (rows_in bound d own) ≡ false
  before_new columns f = there_before columns p new (rows_in bound d own) ∙ any-none (before_test columns p new) (id_of own) bound d none
    where
      none : IsThere (before_test columns p new) (id_of own) bound d → ⊥
      none h =
          let parts : (same_values (values_at columns h.row) (values_at columns new) ≡ true) × (nat_lt h.at p ≡ true) = and_parts (same_values (values_at columns h.row) (values_at columns new)) (nat_lt h.at p) h.passes in
          let less : h.at < p = ltb-true h.at p (parts.1) in
          let apart : nat_eq h.at p ≡ false = false_from_ne_true (nat_eq h.at p) (λ y. let same : h.at ≡ p = eqb-true h.at p y in omega (arith, less, same)) in
          f h.at h.row apart (was_there h.at (id_of own) h.row apart h.lies) (same-values (values_at columns h.row) (values_at columns new) (parts.0))

  -- ---- rows that name others

  still_there : (id : ℕ) (v : Value) → not (has_value_in 0 v (rows_of id bound c)) ≡ false → not (has_value_in 0 v (rows_of id bound d)) ≡ false
  still_there id v h =
      let t : IsThere (has_value 0 v) id bound c = any-there (has_value 0 v) id bound c (not-false (list_any (has_value 0 v) (rows_of id bound c)) h) in
      not_from_true (list_any (has_value 0 v) (rows_of id bound d)) (elim (cases_Bool (nat_eq t.at p)) [
        | inr apart ↦ there-any (has_value 0 v) id bound d t.at t.row (puts.others t.at apart ∙ t.lies) t.passes t.low
        | inl y ↦ by_old t (eqb-true t.at p y) puts.was
      ])
    where
      by_old : (t : IsThere (has_value 0 v) id bound c) → t.at ≡ p → (c p ≡ Empty) ⊎ ((old : Row) × (c p ≡ Full (id_of own) old) × (value_at old 0 ≡ value_at new 0)) →
          list_any (has_value 0 v) (rows_of id bound d) ≡ true
      by_old t e (inl free) = absurd (empty-full (c p) id t.row free (ap c (sym e) ∙ t.lies))
      by_old t e (inr old) =
          let same : Full id t.row ≡ Full (id_of own) (old.0) = sym t.lies ∙ (ap c e ∙ old.1) in
          let first : value_at new 0 ≡ value_at t.row 0 = sym (old.2) ∙ ap (λ (r : Row). value_at r 0) (sym (full-row id (id_of own) t.row (old.0) same)) in
          there-any (has_value 0 v) id bound d p new (puts.here ∙ ap (λ k. Full k new) (sym (full-id id (id_of own) t.row (old.0) same)))
          (ap (λ x. same_value x v) first ∙ t.passes) puts.low

  -- ---- the columns of one table

  kept_new : (v : Value) → (value_at new 0 ≡ v → ⊥) → (row : Row) → value_at row 0 ≡ value_at new 0 → (o : Option Row) → o ≡ Some row → kept_at (has_value 0 v) p o ≡ None
  kept_new v f row e o h =
      ap (kept_at (has_value 0 v) p) h
      ∙ ap (λ b. let o : Option PlacedRow = if b then Some (p, row) else None in o) (false_from_ne_true (same_value (value_at row 0) v) (λ y. f (sym e ∙ same-value (value_at row 0) v y)))

  kept_old : (v : Value) → (value_at new 0 ≡ v → ⊥) → id_of own ≡ 2 → (c p ≡ Empty) ⊎ ((old : Row) × (c p ≡ Full (id_of own) old) × (value_at old 0 ≡ value_at new 0)) →
      kept_at (has_value 0 v) p (row_in 2 (c p)) ≡ None
  kept_old v f e (inl free) = ap (λ (x : Cell). kept_at (has_value 0 v) p (row_in 2 x)) free
  kept_old v f e (inr old) = kept_new v f (old.0) (old.2) (row_in 2 (c p)) (row-in 2 (c p) (old.0) (old.1 ∙ ap (λ k. Full k (old.0)) e))

  kept_same : (v : Value) → (id_of own ≡ 2 → value_at new 0 ≡ v → ⊥) → (q : ℕ) → kept_at (has_value 0 v) q (row_in 2 (d q)) ≡ kept_at (has_value 0 v) q (row_in 2 (c q))
  kept_same v f q = elim (cases_Bool (nat_eq (id_of own) 2)) [
    | inr n ↦ ap (kept_at (has_value 0 v) q) (other_row 2 q (λ e. both_ways (nat_eq (id_of own) 2) n (eq-eqb (id_of own) 2 (sym e))))
    | inl y ↦ elim (cases_Bool (nat_eq q p)) [
      | inr apart ↦ ap (λ (x : Cell). kept_at (has_value 0 v) q (row_in 2 x)) (puts.others q apart)
      | inl at ↦
          let two : id_of own ≡ 2 = eqb-true (id_of own) 2 y in
          let place : q ≡ p = eqb-true q p at in
          ap (λ (x : ℕ). kept_at (has_value 0 v) x (row_in 2 (d x))) place
          ∙ (kept_new v (f two) new refl (row_in 2 (d p)) (row-in 2 (d p) new (puts.here ∙ ap (λ k. Full k new) two))
          ∙ (sym (kept_old v (f two) two puts.was)
          ∙ ap (λ (x : ℕ). kept_at (has_value 0 v) x (row_in 2 (c x))) (sym place)))
    ]
  ]

  columns_same : (v : Value) → (id_of own ≡ 2 → value_at new 0 ≡ v → ⊥) → columns_with v (rows_in bound d Columns) ≡ columns_with v (rows_in bound c Columns)
  columns_same v f = filter-same (has_value 0 v) 2 bound c d (kept_same v f)

  of_columns : id_of own ≡ 2 → is_columns own ≡ true
  of_columns e = ap is_columns (same-table own Columns e)

  -- ---- a row that was there

  name_old : (t : SystemTable) (q : ℕ) (row : Row) → nat_eq q p ≡ false → c q ≡ Full (id_of t) row → has_name_before t (q, row) (rows_in bound c t) ≡ false → has_name_before t (q, row) (rows_in bound d t) ≡ false
  name_old Tables q row n l h = before_old (1 ∷ []) Tables q row (λ e v. puts.name q row (1 ∷ []) n (l ∙ ap (λ t. Full (id_of t) row) e) (ap name_columns (sym e)) (sym v)) h
  name_old Indexes q row n l h = before_old (3 ∷ []) Indexes q row (λ e v. puts.name q row (3 ∷ []) n (l ∙ ap (λ t. Full (id_of t) row) e) (ap name_columns (sym e)) (sym v)) h
  name_old Columns q row n l h = refl
  name_old Bookmarks q row n l h = refl
  name_old Subscriptions q row n l h = refl
  name_old Sets q row n l h = refl

  columns_old : (t : SystemTable) (q : ℕ) (row : Row) → c q ≡ Full (id_of t) row → but row ≡ false → has_wrong_columns t row (rows_in bound c Columns) ≡ false → has_wrong_columns t row (rows_in bound d Columns) ≡ false
  columns_old Tables q row l b h = ap wrong_own (columns_same (value_at row 0) (λ two v. puts.column_tables q row (of_columns two) l b v)) ∙ h
  columns_old Columns q row l b h = refl
  columns_old Indexes q row l b h = refl
  columns_old Bookmarks q row l b h = refl
  columns_old Subscriptions q row l b h = refl
  columns_old Sets q row l b h = refl

  positions_old : (t : SystemTable) (q : ℕ) (row : Row) → c q ≡ Full (id_of t) row → has_wrong_positions t (q, row) (rows_in bound c Columns) ≡ false → has_wrong_positions t (q, row) (rows_in bound d Columns) ≡ false
  positions_old Indexes q row l h = ap (wrong_places (read_positions 0 (text_at 4 (q, row)))) (columns_same (value_at row 1) (λ two v. puts.column_indexes q row (of_columns two) l v)) ∙ h
  positions_old Tables q row l h = refl
  positions_old Columns q row l h = refl
  positions_old Bookmarks q row l h = refl
  positions_old Subscriptions q row l h = refl
  positions_old Sets q row l h = refl

  table_old : (row : Row) (o : Option ℕ) → elim o [ None ↦ false | Some column ↦ not (has_value_in 0 (value_at row column) (rows_in bound c Tables)) ] ≡ false →
      elim o [ None ↦ false | Some column ↦ not (has_value_in 0 (value_at row column) (rows_in bound d Tables)) ] ≡ false
  table_old row None h = refl
  table_old row (Some column) h = still_there 1 (value_at row column) h

  bookmark_old : (t : SystemTable) (row : Row) → lacks_bookmark t row (rows_in bound c Bookmarks) ≡ false → lacks_bookmark t row (rows_in bound d Bookmarks) ≡ false
  bookmark_old Subscriptions row h = still_there 4 (value_at row 0) h
  bookmark_old Tables row h = refl
  bookmark_old Columns row h = refl
  bookmark_old Indexes row h = refl
  bookmark_old Bookmarks row h = refl
  bookmark_old Sets row h = refl

  limit_old : (t : SystemTable) (q : ℕ) (row : Row) → d q ≡ Full (id_of t) row → is_past_limit t (q, row) (rows_in bound c t) ≡ false → is_past_limit t (q, row) (rows_in bound d t) ≡ false
  limit_old t q row l h = elim (cases_Bool (nat_eq (id_of t) (id_of own))) [
    | inl y ↦
        let e : t ≡ own = same-table t own (eqb-true (id_of t) (id_of own) y) in
        subst (λ (x : SystemTable). is_past_limit x (q, row) (rows_in bound d x) ≡ false) (sym e) (puts.limit q row (l ∙ ap (λ x. Full (id_of x) row) e))
    | inr n ↦ ap (λ (rows : List PlacedRow). is_past_limit t (q, row) rows) (other_rows t (λ e. both_ways (nat_eq (id_of t) (id_of own)) n (eq-eqb (id_of t) (id_of own) (ap id_of e)))) ∙ h
  ]

  follows_old : IsGoodBut but bound c → (t : SystemTable) (q : ℕ) (row : Row) → nat_eq q p ≡ false → d q ≡ Full (id_of t) row → Follows but (rows_in bound d) t (q, row)
  follows_old g t q row n l =
      let there : c q ≡ Full (id_of t) row = was_there q (id_of t) row n l in
      let f : Follows but (rows_in bound c) t (q, row) = g.follow t q row there in
      record {
        values = f.values;
        size = f.size;
        free_key = f.free_key;
        key = before_old (key_columns t) t q row
            (λ e v. puts.key q row n (there ∙ ap (λ x. Full (id_of x) row) e) (subst (λ (x : SystemTable). values_at (key_columns x) row ≡ values_at (key_columns x) new) e (sym v))) f.key;
        name = name_old t q row n there f.name;
        columns = λ b. columns_old t q row there b (f.columns b);
        table_there = table_old row (table_column t) f.table_there;
        bookmark_there = bookmark_old t row f.bookmark_there;
        positions = positions_old t q row there f.positions;
        limit = limit_old t q row l f.limit;
      }

  -- ---- the new row

  name_new : (t : SystemTable) → own ≡ t → has_name_before t (p, new) (rows_in bound d own) ≡ false
  name_new Tables e = before_new (1 ∷ []) (λ q row n l v. puts.name q row (1 ∷ []) n l (ap name_columns e) v)
  name_new Indexes e = before_new (3 ∷ []) (λ q row n l v. puts.name q row (3 ∷ []) n l (ap name_columns e) v)
  name_new Columns e = refl
  name_new Bookmarks e = refl
  name_new Subscriptions e = refl
  name_new Sets e = refl

  positions_new : (t : SystemTable) → own ≡ t → has_wrong_positions t (p, new) (rows_in bound c Columns) ≡ false → has_wrong_positions t (p, new) (rows_in bound d Columns) ≡ false
  positions_new Indexes e h =
      ap (wrong_places (read_positions 0 (text_at 4 (p, new)))) (columns_same (value_at new 1) (λ two v. let no : 3 ≡ 2 = ap id_of (sym e) ∙ two in omega (arith, no))) ∙ h
  positions_new Tables e h = refl
  positions_new Columns e h = refl
  positions_new Bookmarks e h = refl
  positions_new Subscriptions e h = refl
  positions_new Sets e h = refl

  follows_new : Follows but (rows_in bound d) own (p, new)
  follows_new = record {
    values = puts.values;
    size = puts.size;
    free_key = puts.free_key;
    key = before_new (key_columns own) puts.key;
    name = name_new own refl;
    columns = puts.columns;
    table_there = table_old new (table_column own) puts.table_there;
    bookmark_there = bookmark_old own new puts.bookmark_there;
    positions = positions_new own refl puts.positions;
    limit = puts.limit p new puts.here;
  }

  follows_all : IsGoodBut but bound c → (t : SystemTable) (q : ℕ) (row : Row) → d q ≡ Full (id_of t) row → Follows but (rows_in bound d) t (q, row)
  follows_all g t q row e = elim (cases_Bool (nat_eq q p)) [
    | inr n ↦ follows_old g t q row n e
    | inl y ↦
        let both : (id_of t ≡ id_of own) × (row ≡ new) = new_there q (id_of t) row y e in
        let at : q ≡ p = eqb-true q p y in
        subst (λ (x : SystemTable). Follows but (rows_in bound d) x (q, row)) (sym (same-table t own (both.0)))
        (subst (λ (x : ℕ). Follows but (rows_in bound d) own (x, row)) (sym at) (subst (λ (x : Row). Follows but (rows_in bound d) own (p, x)) (sym (both.1)) follows_new))
  ]

  known_all : IsGoodBut but bound c → (q id : ℕ) (row : Row) → d q ≡ Full id row → id < 16 → (t : SystemTable) × (id ≡ id_of t)
  known_all g q id row e low = elim (cases_Bool (nat_eq q p)) [
    | inr n ↦ g.known q id row (was_there q id row n e) low
    | inl y ↦ (own, (new_there q id row y e).0)
  ]

  pub good-put : IsGoodBut but bound c → IsGoodBut but bound d
  good-put g = record { known = known_all g; follow = follows_all g }

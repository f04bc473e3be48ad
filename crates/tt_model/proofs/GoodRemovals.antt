-- Where rows go whose names no other row needs, the catalog stays good.
use Rattle.std.proofs.Common.{◌≡◌, inl, inr, ℕ, Bool, true, false, not, ◌&&◌, ◌||◌, nat_eq, List, [], ◌∷◌, Option, Some, None, if◌then◌else◌, refl, sym, ap, ◌∙◌, true≢false}
use Rattle.std.proofs.lemmas.Bool.{both_ways, not-false, not_from_true}
use Rattle.std.specs.Prelude.{length, nat_lt}
use Rattle.std.specs.List.{list_any, list_all}
use Rattle.tt_value.specs.Same.{same_value}
use Rattle.tt_value.specs.declared.value.Value.{Value}
use Rattle.tt_value.specs.declared.value.Row.{Row}
use Rattle.tt_value.specs.declared.value.Cell.{Cell}
use Rattle.tt_value.specs.declared.value.Cell.TheVariants.{Empty, Full}
use Rattle.tt_model.specs.Committed.{Cells, is_full}
use Rattle.tt_model.specs.Holders.{value_at, values_at}
use Rattle.tt_model.specs.Values.{same_values}
use Rattle.tt_model.specs.Tables.{PlacedRow, row_in, rows_of, text_at, read_positions}
use Rattle.tt_model.specs.Damage.{SystemTable, Tables, Columns, Indexes, Bookmarks, Subscriptions, Sets, id_of, has_name_before, has_wrong_columns, lacks_bookmark, has_wrong_positions, is_there_before, is_before, table_column, has_value_in, columns_with, key_columns, are_counted, values_in, is_twice, key_positions, is_position_in, has_twice_in}
use Rattle.tt_model.proofs.RowLemmas.{in_cell}
use Rattle.tt_model.proofs.GoodPlaces.{has_at, kept_at, IsThere, any-filter, filter-same, has-row, row-has, any-there, there-any, any-none}
use Rattle.tt_model.proofs.GoodValues.{same-value}
use Rattle.tt_model.proofs.GoodCells.{Follows, IsGoodBut, rows_in, LiesBelow}
use Rattle.tt_model.proofs.GoodFrames.{Removes, group, limit-fewer}

pub empty-full : (c : Cell) (id : ℕ) (row : Row) → c ≡ Empty → c ≡ Full id row → ⊥
empty-full c id row e f = true≢false (ap is_full (sym f ∙ e))

-- No row at a lesser place has the values, said without the list that is filtered twice.
abbrev pub before_test : List ℕ → ℕ → Row → PlacedRow → Bool
before_test columns q row x = same_values (values_at columns (x.1)) (values_at columns row) && is_before q x

pub there_before : (columns : List ℕ) (q : ℕ) (row : Row) (rows : List PlacedRow) → is_there_before columns (q, row) rows ≡ list_any (before_test columns q row) rows
there_before columns q row rows = any-filter (is_before q) (λ (x : PlacedRow). same_values (values_at columns (x.1)) (values_at columns row)) rows

abbrev pub has_value : ℕ → Value → PlacedRow → Bool
has_value column v x = same_value (value_at (x.1) column) v

-- The rules of columns and of positions, of the columns of one table.
abbrev pub wrong_own : List PlacedRow → Bool
wrong_own own =
    nat_lt 16 (length own) || not (are_counted (values_in 1 own)) || is_twice (values_in 6 own)
    || not (are_counted (key_positions own)) || nat_eq (length (key_positions own)) 0

abbrev pub wrong_places : List ℕ → List PlacedRow → Bool
wrong_places positions own = not (list_all (is_position_in own) positions) || has_twice_in positions

module _ (but : Row → Bool) (bound : ℕ) (c d : Cells) (below : LiesBelow bound c) (removes : Removes c d) where
  stays : (q id : ℕ) (row : Row) → d q ≡ Full id row → c q ≡ Full id row
  stays q id row e = elim (removes.each q) [ inl same ↦ sym same ∙ e | inr gone ↦ absurd (empty-full (d q) id row gone e) ]

  has-stays : (f : PlacedRow → Bool) (id q : ℕ) → has_at f id d q ≡ true → has_at f id c q ≡ true
  has-stays f id q h = let row : (row : Row) × (d q ≡ Full id row) × (f (q, row) ≡ true) = has-row f id d q h in row-has f id c q (row.0) (stays q id (row.0) (row.1)) (row.2)

  none-stays : (f : PlacedRow → Bool) (id : ℕ) → list_any f (rows_of id bound c) ≡ false → list_any f (rows_of id bound d) ≡ false
  none-stays f id n = any-none f id bound d (λ t. both_ways (list_any f (rows_of id bound c)) n (there-any f id bound c t.at t.row (stays t.at id t.row t.lies) t.passes t.low))

  before-stays : (columns : List ℕ) (table : SystemTable) (q : ℕ) (row : Row) → is_there_before columns (q, row) (rows_in bound c table) ≡ false → is_there_before columns (q, row) (rows_in bound d table) ≡ false
  before-stays columns table q row n =
      there_before columns q row (rows_in bound d table) ∙ none-stays (before_test columns q row) (id_of table) (sym (there_before columns q row (rows_in bound c table)) ∙ n)

  name-stays : (table : SystemTable) (q : ℕ) (row : Row) → has_name_before table (q, row) (rows_in bound c table) ≡ false → has_name_before table (q, row) (rows_in bound d table) ≡ false
  name-stays Tables q row n = before-stays (1 ∷ []) Tables q row n
  name-stays Indexes q row n = before-stays (3 ∷ []) Indexes q row n
  name-stays Columns q row n = refl
  name-stays Bookmarks q row n = refl
  name-stays Subscriptions q row n = refl
  name-stays Sets q row n = refl

  -- The columns of a table stay, where each of them does.
  kept_there : (id : Value) (p : ℕ) → ((other : Row) → c p ≡ Full 2 other → value_at other 0 ≡ id → d p ≡ c p) → (o : Option Row) → row_in 2 (c p) ≡ o →
      kept_at (has_value 0 id) p (row_in 2 (d p)) ≡ kept_at (has_value 0 id) p o
  kept_there id p f o e = elim (removes.each p) [
    | inl same ↦ ap (λ (x : Cell). kept_at (has_value 0 id) p (row_in 2 x)) same ∙ ap (kept_at (has_value 0 id) p) e
    | inr gone ↦ ap (λ (x : Cell). kept_at (has_value 0 id) p (row_in 2 x)) gone ∙ sym (none o e gone)
  ]
    where
      none : (o : Option Row) → row_in 2 (c p) ≡ o → d p ≡ Empty → kept_at (has_value 0 id) p o ≡ None
      none None e gone = refl
      none (Some other) e gone = by_test (same_value (value_at other 0) id) refl
        where
          by_test : (b : Bool) → same_value (value_at other 0) id ≡ b → (let o : Option PlacedRow = if b then Some (p, other) else None in o) ≡ None
          by_test true y =
              let lies : c p ≡ Full 2 other = in_cell 2 (c p) other e in
              absurd (empty-full (c p) 2 other (sym (f other lies (same-value (value_at other 0) id y)) ∙ gone) lies)
          by_test false n = refl

  columns-stay : (id : Value) → ((p : ℕ) (other : Row) → c p ≡ Full 2 other → value_at other 0 ≡ id → d p ≡ c p) → columns_with id (rows_in bound d Columns) ≡ columns_with id (rows_in bound c Columns)
  columns-stay id f = filter-same (has_value 0 id) 2 bound c d (λ p. kept_there id p (f p) (row_in 2 (c p)) refl)

  wrong-stays : (table : SystemTable) (q : ℕ) (row : Row) → d q ≡ Full (id_of table) row → has_wrong_columns table row (rows_in bound c Columns) ≡ false → has_wrong_columns table row (rows_in bound d Columns) ≡ false
  wrong-stays Tables q row e h = ap wrong_own (columns-stay (value_at row 0) (λ p other l v. removes.columns q p row other e l v)) ∙ h
  wrong-stays Columns q row e h = refl
  wrong-stays Indexes q row e h = refl
  wrong-stays Bookmarks q row e h = refl
  wrong-stays Subscriptions q row e h = refl
  wrong-stays Sets q row e h = refl

  positions-stay : (table : SystemTable) (q : ℕ) (row : Row) → d q ≡ Full (id_of table) row → has_wrong_positions table (q, row) (rows_in bound c Columns) ≡ false →
      has_wrong_positions table (q, row) (rows_in bound d Columns) ≡ false
  positions-stay Indexes q row e h = ap (wrong_places (read_positions 0 (text_at 4 (q, row)))) (columns-stay (value_at row 1) (λ p other l v. removes.indexed q p row other e l v)) ∙ h
  positions-stay Tables q row e h = refl
  positions-stay Columns q row e h = refl
  positions-stay Bookmarks q row e h = refl
  positions-stay Subscriptions q row e h = refl
  positions-stay Sets q row e h = refl

  value-stays : (id : ℕ) (v : Value) → ((p : ℕ) (other : Row) → c p ≡ Full id other → value_at other 0 ≡ v → d p ≡ c p) → not (has_value_in 0 v (rows_of id bound c)) ≡ false →
      not (has_value_in 0 v (rows_of id bound d)) ≡ false
  value-stays id v f h =
      let t : IsThere (has_value 0 v) id bound c = any-there (has_value 0 v) id bound c (not-false (list_any (has_value 0 v) (rows_of id bound c)) h) in
      let lies : d t.at ≡ Full id t.row = f t.at t.row t.lies (same-value (value_at t.row 0) v t.passes) ∙ t.lies in
      not_from_true (list_any (has_value 0 v) (rows_of id bound d)) (there-any (has_value 0 v) id bound d t.at t.row lies t.passes t.low)

  table-stays : (table : SystemTable) (q : ℕ) (row : Row) → d q ≡ Full (id_of table) row → (o : Option ℕ) → table_column table ≡ o →
      elim o [ None ↦ false | Some column ↦ not (has_value_in 0 (value_at row column) (rows_in bound c Tables)) ] ≡ false →
      elim o [ None ↦ false | Some column ↦ not (has_value_in 0 (value_at row column) (rows_in bound d Tables)) ] ≡ false
  table-stays table q row e None i h = refl
  table-stays table q row e (Some column) i h = value-stays 1 (value_at row column) (λ p other l v. removes.tables table q p column row other e i l v) h

  bookmark-stays : (table : SystemTable) (q : ℕ) (row : Row) → d q ≡ Full (id_of table) row → lacks_bookmark table row (rows_in bound c Bookmarks) ≡ false →
      lacks_bookmark table row (rows_in bound d Bookmarks) ≡ false
  bookmark-stays Subscriptions q row e h = value-stays 4 (value_at row 0) (λ p other l v. removes.bookmarks q p row other e l v) h
  bookmark-stays Tables q row e h = refl
  bookmark-stays Columns q row e h = refl
  bookmark-stays Indexes q row e h = refl
  bookmark-stays Bookmarks q row e h = refl
  bookmark-stays Sets q row e h = refl

  follows-stays : IsGoodBut but bound c → (table : SystemTable) (q : ℕ) (row : Row) → d q ≡ Full (id_of table) row → Follows but (rows_in bound d) table (q, row)
  follows-stays g table q row e =
      let f : Follows but (rows_in bound c) table (q, row) = g.follow table q row (stays q (id_of table) row e) in
      record {
        values = f.values;
        size = f.size;
        free_key = f.free_key;
        key = before-stays (key_columns table) table q row f.key;
        name = name-stays table q row f.name;
        columns = λ n. wrong-stays table q row e (f.columns n);
        table_there = table-stays table q row e (table_column table) refl f.table_there;
        bookmark_there = bookmark-stays table q row e f.bookmark_there;
        positions = positions-stay table q row e f.positions;
        limit = limit-fewer table q row bound c d (λ p. has-stays (λ (x : PlacedRow). group table row x && is_before q x) (id_of table) p) f.limit;
      }

  pub good-removed : IsGoodBut but bound c → IsGoodBut but bound d
  good-removed g = record { known = λ q id row e low. g.known q id row (stays q id row e) low; follow = follows-stays g }

-- A good catalog, said of its places: each system row follows each rule. It doesn't depend on a bound that no row reaches.
use Rattle.std.proofs.Common.{◌≡◌, ◌≤◌, ◌<◌, ◌+◌, inl, inr, ℕ, Bool, true, false, ◌&&◌, List, Option, Some, None, refl, sym, ap, ◌∙◌, subst, arith, true≢false}
use Rattle.std.proofs.lemmas.Bool.{cases_Bool, eqb-true, ltb-true, lt-ltb, or_parts, or_from, false_from_ne_true}
use Rattle.std.specs.Prelude.{nat_lt, option_map, if◌then◌else◌, ◌==◌}
use Rattle.tt_value.specs.declared.value.Row.{Row}
use Rattle.tt_value.specs.declared.value.Cell.{Cell}
use Rattle.tt_value.specs.declared.value.Cell.TheVariants.{Empty, Full}
use Rattle.tt_model.specs.Committed.{Cells, is_full}
use Rattle.tt_model.specs.Live.{numbers_below}
use Rattle.tt_model.specs.Tables.{PlacedRow, row_in, row_at, rows_of}
use Rattle.tt_model.specs.Damage.{SystemTable, Tables, Columns, Indexes, Bookmarks, Subscriptions, Sets, system_table, id_of, breaks_catalog, is_bad_system, is_bad_catalog_row, is_bad_catalog_at, first_bad_catalog, has_wrong_values, has_wrong_size, is_free_key, has_key_before, has_name_before, has_wrong_columns, lacks_table, lacks_bookmark, has_wrong_positions, is_past_limit}
use Rattle.tt_model.proofs.ConflictLemmas.{none_passes}
use Rattle.tt_model.proofs.SystemLemmas.{none_found}
use Rattle.tt_model.proofs.BookmarkLines.{among}
use Rattle.tt_model.proofs.RowLemmas.{first_from}

-- A row of a system table follows each rule, among the rows of all system tables. Of some rows of TABLES nothing is said of their
-- columns.
pub record Follows (but : Row → Bool) (rows : SystemTable → List PlacedRow) (table : SystemTable) (r : PlacedRow) : Type 0 where
  pub values : has_wrong_values table (r.1) ≡ false
  pub size : has_wrong_size table (r.1) ≡ false
  pub free_key : is_free_key table (r.1) ≡ false
  pub key : has_key_before table r (rows table) ≡ false
  pub name : has_name_before table r (rows table) ≡ false
  pub columns : but (r.1) ≡ false → has_wrong_columns table (r.1) (rows Columns) ≡ false
  pub table_there : lacks_table table (r.1) (rows Tables) ≡ false
  pub bookmark_there : lacks_bookmark table (r.1) (rows Bookmarks) ≡ false
  pub positions : has_wrong_positions table r (rows Columns) ≡ false
  pub limit : is_past_limit table r (rows table) ≡ false

-- Of each row all is said.
abbrev pub no_row : Row → Bool
no_row row = false

follows-from : (rows : SystemTable → List PlacedRow) (table : SystemTable) (r : PlacedRow) → breaks_catalog rows table r ≡ false → Follows no_row rows table r
follows-from rows table r h =
    let nine = or_parts _ (is_past_limit table r (rows table)) h in
    let eight = or_parts _ (has_wrong_positions table r (rows Columns)) (nine.0) in
    let seven = or_parts _ (lacks_bookmark table (r.1) (rows Bookmarks)) (eight.0) in
    let six = or_parts _ (lacks_table table (r.1) (rows Tables)) (seven.0) in
    let five = or_parts _ (has_wrong_columns table (r.1) (rows Columns)) (six.0) in
    let four = or_parts _ (has_name_before table r (rows table)) (five.0) in
    let three = or_parts _ (has_key_before table r (rows table)) (four.0) in
    let two = or_parts _ (is_free_key table (r.1)) (three.0) in
    let one = or_parts (has_wrong_values table (r.1)) (has_wrong_size table (r.1)) (two.0) in
    record {
      values = one.0;
      size = one.1;
      free_key = two.1;
      key = three.1;
      name = four.1;
      columns = λ n. five.1;
      table_there = six.1;
      bookmark_there = seven.1;
      positions = eight.1;
      limit = nine.1;
    }

follows-to : (rows : SystemTable → List PlacedRow) (table : SystemTable) (r : PlacedRow) → Follows no_row rows table r → breaks_catalog rows table r ≡ false
follows-to rows table r f =
    let one = or_from (has_wrong_values table (r.1)) (has_wrong_size table (r.1)) f.values f.size in
    let two = or_from _ (is_free_key table (r.1)) one f.free_key in
    let three = or_from _ (has_key_before table r (rows table)) two f.key in
    let four = or_from _ (has_name_before table r (rows table)) three f.name in
    let five = or_from _ (has_wrong_columns table (r.1) (rows Columns)) four (f.columns refl) in
    let six = or_from _ (lacks_table table (r.1) (rows Tables)) five f.table_there in
    let seven = or_from _ (lacks_bookmark table (r.1) (rows Bookmarks)) six f.bookmark_there in
    let eight = or_from _ (has_wrong_positions table r (rows Columns)) seven f.positions in
    or_from _ (is_past_limit table r (rows table)) eight f.limit

-- The rows of each system table below a bound.
abbrev pub rows_in : ℕ → Cells → SystemTable → List PlacedRow
rows_in bound cells table = rows_of (id_of table) bound cells

-- Each row of a number below 16 is of a system table, and follows its rules.
pub record IsGoodBut (but : Row → Bool) (bound : ℕ) (cells : Cells) : Type 0 where
  pub known : (q id : ℕ) (row : Row) → cells q ≡ Full id row → id < 16 → (table : SystemTable) × (id ≡ id_of table)
  pub follow : (table : SystemTable) (q : ℕ) (row : Row) → cells q ≡ Full (id_of table) row → Follows but (rows_in bound cells) table (q, row)

abbrev pub IsGood : ℕ → Cells → Type 0
IsGood bound cells = IsGoodBut no_row bound cells

-- No row reaches the bound.
abbrev pub LiesBelow : ℕ → Cells → Type 0
LiesBelow bound cells = (q : ℕ) → is_full (cells q) ≡ true → q < bound

-- ---- from the least bad place, and back

pub id_low : (table : SystemTable) → id_of table < 16
id_low Tables = omega arith
id_low Columns = omega arith
id_low Indexes = omega arith
id_low Bookmarks = omega arith
id_low Subscriptions = omega arith
id_low Sets = omega arith

pub table-of_id : (table : SystemTable) → system_table (id_of table) ≡ Some table
table-of_id Tables = refl
table-of_id Columns = refl
table-of_id Indexes = refl
table-of_id Bookmarks = refl
table-of_id Subscriptions = refl
table-of_id Sets = refl

full_cell : (c : Cell) (id : ℕ) (row : Row) → c ≡ Full id row → is_full c ≡ true
full_cell c id row e = ap is_full e

not_bad_at : (bound : ℕ) (cells : Cells) → LiesBelow bound cells → first_bad_catalog bound cells ≡ None → (q id : ℕ) (row : Row) → cells q ≡ Full id row → is_bad_catalog_row bound cells q (Full id row) ≡ false
unfolding first_bad_catalog
not_bad_at bound cells below h q id row e =
    let low : q < bound = below q (full_cell (cells q) id row e) in
    ap (is_bad_catalog_row bound cells q) (sym e)
    ∙ none_passes (is_bad_catalog_at bound cells) (numbers_below bound) h q (among q bound 0 (omega arith) (omega (arith, low)))

not_bad_low : (bound : ℕ) (cells : Cells) (q id : ℕ) (row : Row) → is_bad_catalog_row bound cells q (Full id row) ≡ false → id < 16 → is_bad_system bound cells (q, row) (system_table id) ≡ false
not_bad_low bound cells q id row h low = ap (λ b. b && is_bad_system bound cells (q, row) (system_table id)) (sym (lt-ltb id 16 low)) ∙ h

id_in : Option SystemTable → ℕ
id_in None = 0
id_in (Some table) = id_of table

id_step : (id k : ℕ) (table other : SystemTable) (rest : Option SystemTable) → id_of other ≡ k → (rest ≡ Some table → id ≡ id_of table) → (c : Bool) → (id == k) ≡ c →
    (if c then Some other else rest) ≡ Some table → id ≡ id_of table
unfolding id_in
id_step id k table other rest e ih true y h = eqb-true id k y ∙ (sym e ∙ ap id_in h)
id_step id k table other rest e ih false y h = ih h

-- A number that has a system table is its id.
pub id-found : (id : ℕ) (table : SystemTable) → system_table id ≡ Some table → id ≡ id_of table
id-found id table h =
    id_step id 1 table Tables _ refl
    (id_step id 2 table Columns _ refl
    (id_step id 3 table Indexes _ refl
    (id_step id 4 table Bookmarks _ refl
    (id_step id 5 table Subscriptions _ refl
    (id_step id 6 table Sets _ refl (λ y. let no : ⊥ = cc in absurd no) (id == 6) refl)
    (id == 5) refl) (id == 4) refl) (id == 3) refl) (id == 2) refl) (id == 1) refl h

known_by : (bound : ℕ) (cells : Cells) (q id : ℕ) (row : Row) (o : Option SystemTable) → system_table id ≡ o → is_bad_system bound cells (q, row) o ≡ false → (table : SystemTable) × (id ≡ id_of table)
known_by bound cells q id row None e h = absurd (true≢false h)
known_by bound cells q id row (Some table) e h = (table, id-found id table e)

pub good-from : (bound : ℕ) (cells : Cells) → LiesBelow bound cells → first_bad_catalog bound cells ≡ None → IsGood bound cells
good-from bound cells below h = record {
  known = λ q id row e low. known_by bound cells q id row (system_table id) refl (not_bad_low bound cells q id row (not_bad_at bound cells below h q id row e) low);
  follow = λ table q row e. follows-from (rows_in bound cells) table (q, row)
      (ap (is_bad_system bound cells (q, row)) (sym (table-of_id table)) ∙ not_bad_low bound cells q (id_of table) row (not_bad_at bound cells below h q (id_of table) row e) (id_low table));
}

good_cell : (bound : ℕ) (cells : Cells) → IsGood bound cells → (q : ℕ) (c : Cell) → cells q ≡ c → is_bad_catalog_row bound cells q c ≡ false
good_cell bound cells g q Empty e = refl
good_cell bound cells g q (Full id row) e = elim (cases_Bool (nat_lt id 16)) [
  | inl y ↦
      let known : (table : SystemTable) × (id ≡ id_of table) = g.known q id row e (ltb-true id 16 y) in
      ap (λ b. b && is_bad_system bound cells (q, row) (system_table id)) y
      ∙ (ap (is_bad_system bound cells (q, row)) (ap system_table (known.1) ∙ table-of_id (known.0))
      ∙ follows-to (rows_in bound cells) (known.0) (q, row) (g.follow (known.0) q row (e ∙ ap (λ k. Full k row) (known.1))))
  | inr n ↦ ap (λ b. b && is_bad_system bound cells (q, row) (system_table id)) n
]

pub good-to : (bound : ℕ) (cells : Cells) → IsGood bound cells → first_bad_catalog bound cells ≡ None
unfolding first_bad_catalog
good-to bound cells g = none_found (is_bad_catalog_at bound cells) (numbers_below bound) (λ q l. good_cell bound cells g q (cells q) refl)

-- ---- bounds

not_full_row : (table : ℕ) (c : Cell) → is_full c ≡ false → row_in table c ≡ None
not_full_row table Empty n = refl
not_full_row table (Full id row) n = absurd (true≢false n)

above_none : (table bound : ℕ) (cells : Cells) → LiesBelow bound cells → (q : ℕ) → bound + 0 ≤ q → row_at table cells q ≡ None
above_none table bound cells below q l = ap (λ (o : Option Row). option_map (λ row. (q, row)) o)
    (not_full_row table (cells q) (false_from_ne_true (is_full (cells q)) (λ y. let low : q < bound = below q y in omega (arith, l, low))))

pub rows_more : (table bound more : ℕ) (cells : Cells) → LiesBelow bound cells → bound ≤ more → rows_of table more cells ≡ rows_of table bound cells
unfolding rows_of
rows_more table bound more cells below l = first_from (row_at table cells) bound more 0 l (above_none table bound cells below)

rows_all : (bound more : ℕ) (cells : Cells) → LiesBelow bound cells → bound ≤ more → rows_in more cells ≡ rows_in bound cells
rows_all bound more cells below l = λ i table. rows_more (id_of table) bound more cells below l i

pub good-more : (bound more : ℕ) (cells : Cells) → LiesBelow bound cells → bound ≤ more → IsGood bound cells → IsGood more cells
good-more bound more cells below l g = record {
  known = g.known;
  follow = λ table q row e. subst (λ (rows : SystemTable → List PlacedRow). Follows no_row rows table (q, row)) (sym (rows_all bound more cells below l)) (g.follow table q row e);
}

pub good-fewer : (bound more : ℕ) (cells : Cells) → LiesBelow bound cells → bound ≤ more → IsGood more cells → IsGood bound cells
good-fewer bound more cells below l g = record {
  known = g.known;
  follow = λ table q row e. subst (λ (rows : SystemTable → List PlacedRow). Follows no_row rows table (q, row)) (rows_all bound more cells below l) (g.follow table q row e);
}

pub lies-more : (bound more : ℕ) (cells : Cells) → LiesBelow bound cells → bound ≤ more → LiesBelow more cells
lies-more bound more cells below l q h = let low : q < bound = below q h in omega (arith, low, l)

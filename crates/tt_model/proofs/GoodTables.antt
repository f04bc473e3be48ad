-- The row of a new table: it has a number and a name of its own, and the catalog is good but for its columns.
use Rattle.std.proofs.Common.{◌≡◌, ◌<◌, inl, inr, ℕ, Bool, true, false, ◌||◌, nat_eq, map, List, [], ◌∷◌, Some, unwrap_or, length, refl, sym, ap, ◌∙◌, subst, arith, true≢false}
use Rattle.std.proofs.lemmas.Bool.{cases_Bool, eqb-true, eq-eqb, and_from, both_ways, not_from_true, not-false}
use Rattle.std.specs.Prelude.{not, bytes_eq, count_by, is_some, slice_get}
use Rattle.std.specs.List.{list_any}
use Rattle.std.specs.Ordering.{nat_cmp}
use Rattle.tt_value.specs.Ident.{is_name}
use Rattle.tt_value.specs.Same.{same_value}
use Rattle.tt_value.specs.Order.{text_of}
use Rattle.tt_value.specs.declared.value.Value.{Value}
use Rattle.tt_value.specs.declared.value.Value.TheVariants.{Text}
use Rattle.tt_value.specs.declared.value.Row.{Row}
use Rattle.tt_value.specs.declared.value.Cell.TheVariants.{Empty, Full}
use Rattle.tt_model.specs.Committed.{Cells, is_full, put}
use Rattle.tt_model.specs.Holders.{value_at, values_at}
use Rattle.tt_model.specs.Tables.{Table, PlacedRow, rows_of, number_at, text_at, by_number, table_of, catalog_of, table_named, whole_number_of}
use Rattle.tt_model.specs.State.{State, cells_of, bound, catalog}
use Rattle.tt_model.specs.System.{number, row, system_rows}
use Rattle.tt_model.specs.Sound.{IsSound}
use Rattle.tt_model.specs.Damage.{SystemTable, Tables, Columns, Indexes, Bookmarks, Subscriptions, Sets, are_taken, column_tests, is_table_id, has_wrong_columns, columns_with, has_value_in}
use Rattle.tt_model.proofs.ConflictLemmas.{same_value-self}
use Rattle.tt_model.proofs.IsolationLemmas.{full-below}
use Rattle.tt_model.proofs.SystemLines.{any-in_order}
use Rattle.tt_model.proofs.GoodPlaces.{IsThere, found-any, any-there, there-any}
use Rattle.tt_model.proofs.GoodValues.{same-value}
use Rattle.tt_model.proofs.GoodCells.{Follows, IsGood, IsGoodBut, no_row, rows_in, LiesBelow}
use Rattle.tt_model.proofs.GoodRemovals.{has_value, wrong_own}
use Rattle.tt_model.proofs.GoodPuts.{good-put, full-id}
use Rattle.tt_model.proofs.GoodLimits.{group_size, limit-added}
use Rattle.tt_model.proofs.GoodWrites.{put-here, put-other}
use Rattle.tt_model.proofs.GoodTaken.{count-all}
use Rattle.tt_model.proofs.GoodAdds.{bytes-self}
use Rattle.tt_model.proofs.GoodNumbers.{count-in_order, count-map}
use Rattle.tt_model.proofs.GoodNewColumns.{is_new, IsUnderway}

-- ---- the tables of the catalog and the rows of TABLES

tables_by : (s : State) → (catalog s).tables ≡ map (table_of (system_rows 2 s)) (by_number 0 (system_rows 1 s))
unfolding catalog_of
tables_by s = refl

pub length-tables : (s : State) → length (catalog s).tables ≡ count_by (λ (x : PlacedRow). true) (system_rows 1 s)
length-tables s =
    sym (count-all (catalog s).tables)
    ∙ (ap (λ (ts : List Table). count_by (λ x. true) ts) (tables_by s)
    ∙ (count-map (λ x. true) (table_of (system_rows 2 s)) (by_number 0 (system_rows 1 s))
    ∙ count-in_order (λ (x : PlacedRow). true) (λ a b. nat_cmp (number_at 0 a) (number_at 0 b)) (system_rows 1 s)))

pub length-ids : (s : State) → length (map (λ (t : Table). t.id) (catalog s).tables) ≡ length (catalog s).tables
length-ids s = sym (count-all (map (λ (t : Table). t.id) (catalog s).tables)) ∙ (count-map (λ x. true) (λ (t : Table). t.id) (catalog s).tables ∙ count-all (catalog s).tables)

any_mapped : {X Y : Type 0} (f : Y → Bool) (g : X → Y) (xs : List X) → list_any f (map g xs) ≡ list_any (λ x. f (g x)) xs
any_mapped f g [] = refl
any_mapped f g (x ∷ xs) = ap (λ b. f (g x) || b) (any_mapped f g xs)

any_table : (s : State) (f : Table → Bool) (g : PlacedRow → Bool) → ((r : PlacedRow) → f (table_of (system_rows 2 s) r) ≡ g r) → list_any f (catalog s).tables ≡ list_any g (system_rows 1 s)
any_table s f g e =
    ap (λ (ts : List Table). list_any f ts) (tables_by s)
    ∙ (any_mapped f (table_of (system_rows 2 s)) (by_number 0 (system_rows 1 s))
    ∙ (ap (λ (h : PlacedRow → Bool). list_any h (by_number 0 (system_rows 1 s))) (λ i r. e r i)
    ∙ any-in_order g (λ a b. nat_cmp (number_at 0 a) (number_at 0 b)) (system_rows 1 s)))

-- A row of TABLES has its number among those of the catalog.
pub table-among : (s : State) (k q : ℕ) (r : Row) → IsSound s → cells_of s q ≡ Full 1 r → value_at r 0 ≡ number k → list_any (nat_eq k) (map (λ (t : Table). t.id) (catalog s).tables) ≡ true
table-among s k q r h e v =
    any_mapped (nat_eq k) (λ (t : Table). t.id) (catalog s).tables
    ∙ (any_table s (λ (t : Table). nat_eq k t.id) (λ (x : PlacedRow). nat_eq k (number_at 0 x)) (λ x. refl)
    ∙ there-any (λ (x : PlacedRow). nat_eq k (number_at 0 x)) 1 (bound s) (cells_of s) q r e (eq-eqb k (whole_number_of (value_at r 0)) (sym (ap whole_number_of v))) (full-below s q h (ap is_full e)))

-- And a table of its name is there.
pub table-named : (s : State) (name : List ℕ) (q : ℕ) (r : Row) → IsSound s → cells_of s q ≡ Full 1 r → value_at r 1 ≡ Text name → is_some (table_named name (catalog s)) ≡ true
table-named s name q r h e v =
    found-any (λ (t : Table). bytes_eq t.name name) (catalog s).tables
    ∙ (any_table s (λ (t : Table). bytes_eq t.name name) (λ (x : PlacedRow). bytes_eq (text_at 1 x) name) (λ x. refl)
    ∙ there-any (λ (x : PlacedRow). bytes_eq (text_at 1 x) name) 1 (bound s) (cells_of s) q r e (ap (λ w. bytes_eq (text_of w) name) v ∙ bytes-self name) (full-below s q h (ap is_full e)))

-- ---- good but for some rows, and good

weaken : (but : Row → Bool) (n : ℕ) (c : Cells) → IsGood n c → IsGoodBut but n c
weaken but n c g = record {
  known = g.known;
  follow = λ t q r e.
      let f : Follows no_row (rows_in n c) t (q, r) = g.follow t q r e in record {
        values = f.values;
        size = f.size;
        free_key = f.free_key;
        key = f.key;
        name = f.name;
        columns = λ b. f.columns refl;
        table_there = f.table_there;
        bookmark_there = f.bookmark_there;
        positions = f.positions;
        limit = f.limit;
      };
}

module _ (id n : ℕ) (c : Cells) (right : wrong_own (columns_with (number id) (rows_of 2 n c)) ≡ false) where
  of_new : (t : SystemTable) (r : Row) → is_new id r ≡ true → has_wrong_columns t r (rows_of 2 n c) ≡ false
  of_new Tables r y = ap (λ v. wrong_own (columns_with v (rows_of 2 n c))) (same-value (value_at r 0) (number id) y) ∙ right
  of_new Columns r y = refl
  of_new Indexes r y = refl
  of_new Bookmarks r y = refl
  of_new Subscriptions r y = refl
  of_new Sets r y = refl

  pub strengthen : IsGoodBut (is_new id) n c → IsGood n c
  strengthen g = record {
    known = g.known;
    follow = λ t q r e.
        let f : Follows (is_new id) (rows_in n c) t (q, r) = g.follow t q r e in record {
          values = f.values;
          size = f.size;
          free_key = f.free_key;
          key = f.key;
          name = f.name;
          columns = λ b. elim (cases_Bool (is_new id r)) [ inl y ↦ of_new t r y | inr m ↦ f.columns m ];
          table_there = f.table_there;
          bookmark_there = f.bookmark_there;
          positions = f.positions;
          limit = f.limit;
        };
  }

-- ---- the row of the table

first_same : (v w : Value) → v ∷ [] ≡ w ∷ [] → v ≡ w
first_same v w h = ap (λ (xs : List Value). unwrap_or (slice_get xs 0) v) h

some_limit : (a b : ℕ) → Some a ≡ Some b → a ≡ b
some_limit a b h = ap (λ o. unwrap_or o a) h

second_same : (name : List ℕ) (id : ℕ) (r : Row) (k : List ℕ) → Some (1 ∷ []) ≡ Some k → values_at k r ≡ values_at k (row (number id ∷ Text name ∷ [])) → value_at r 1 ≡ Text name
second_same name id r k e v =
    let same : 1 ∷ [] ≡ k = ap (λ o. unwrap_or o []) e in
    first_same (value_at r 1) (Text name) (ap (λ ks. values_at ks r) same ∙ (v ∙ ap (λ ks. values_at ks (row (number id ∷ Text name ∷ []))) (sym same)))

-- No row has the number of a new table.
pub record IsFresh (id n : ℕ) (c : Cells) : Type 0 where
  pub tables : (q : ℕ) (r : Row) → c q ≡ Full 1 r → value_at r 0 ≡ number id → ⊥
  pub columns : (q : ℕ) (r : Row) → c q ≡ Full 2 r → value_at r 0 ≡ number id → ⊥
  pub indexes : (q : ℕ) (r : Row) → c q ≡ Full 3 r → value_at r 1 ≡ number id → ⊥

names_none : (id n : ℕ) (c : Cells) (v : Value) → ((q : ℕ) (r : Row) → c q ≡ Full 1 r → value_at r 0 ≡ number id → ⊥) → not (has_value_in 0 v (rows_of 1 n c)) ≡ false → v ≡ number id → ⊥
names_none id n c v f h e =
    let t : IsThere (has_value 0 v) 1 n c = any-there (has_value 0 v) 1 n c (not-false (list_any (has_value 0 v) (rows_of 1 n c)) h) in
    f t.at t.row t.lies (same-value (value_at t.row 0) v t.passes ∙ e)

pub fresh-by : (id n : ℕ) (c : Cells) → IsGood n c → ((q : ℕ) (r : Row) → c q ≡ Full 1 r → value_at r 0 ≡ number id → ⊥) → IsFresh id n c
fresh-by id n c g f = record {
  tables = f;
  columns = λ q r e v. names_none id n c (value_at r 0) f ((g.follow Columns q r e).table_there) v;
  indexes = λ q r e v. names_none id n c (value_at r 1) f ((g.follow Indexes q r e).table_there) v;
}

module _ (id n p : ℕ) (name : List ℕ) (c : Cells) (fresh : IsFresh id n c) (free : c p ≡ Empty) (low : p < n) where
  abbrev pub new : Row
  new = row (number id ∷ Text name ∷ [])

  abbrev pub after : Cells
  after = put p (Full 1 new) c

  pub good_table : LiesBelow n c → is_table_id (number id) ≡ true → is_name name ≡ true → ((q : ℕ) (r : Row) → c q ≡ Full 1 r → value_at r 1 ≡ Text name → ⊥) →
      count_by (λ (x : PlacedRow). true) (rows_of 1 n c) < 256 → IsGood n c → IsGoodBut (is_new id) n after
  good_table below is_id named other few g =
      let others : (q : ℕ) → nat_eq q p ≡ false → after q ≡ c q = λ q m. put-other p q (Full 1 new) c m in
      let here : after p ≡ Full 1 new = put-here p (Full 1 new) c in
      let weak : IsGoodBut (is_new id) n c = weaken (is_new id) n c g in
      good-put (is_new id) n c after Tables p new (record {
        here = here;
        others = others;
        low = low;
        was = inl free;
        values = not_from_true (are_taken (column_tests Tables) (number id ∷ Text name ∷ [])) (and_from _ _ is_id (and_from _ _ named refl));
        size = refl;
        free_key = refl;
        key = λ q r m e v. fresh.tables q r e (first_same (value_at r 0) (number id) v);
        name = λ q r k m e h v. other q r e (second_same name id r k h v);
        columns = λ m. absurd (both_ways (is_new id new) m (same_value-self (number id)));
        column_tables = λ q r y. absurd (true≢false (sym y));
        column_indexes = λ q r y. absurd (true≢false (sym y));
        table_there = refl;
        bookmark_there = refl;
        positions = refl;
        limit = λ q r e. limit-added n c after Tables p new here others (is_new id) weak
            (λ most h. subst (λ (x : ℕ). group_size n Tables new c < x) (some_limit 256 most h) few) q r (place_low q r below e) e;
      }) weak
    where
      place_low : (q : ℕ) (r : Row) → LiesBelow n c → after q ≡ Full 1 r → q < n
      place_low q r below e = elim (cases_Bool (nat_eq q p)) [
        | inl y ↦ let same : q ≡ p = eqb-true q p y in omega (arith, same, low)
        | inr m ↦ below q (ap is_full (sym (put-other p q (Full 1 new) c m) ∙ e))
      ]

  abbrev other_id : ℕ → Type 0
  other_id k = 1 ≡ k → ⊥

  row_was : (q k : ℕ) (r : Row) → other_id k → after q ≡ Full k r → c q ≡ Full k r
  row_was q k r d e = elim (cases_Bool (nat_eq q p)) [
    | inl y ↦ absurd (d (full-id 1 k new r (sym (put-here p (Full 1 new) c) ∙ (ap after (sym (eqb-true q p y)) ∙ e))))
    | inr m ↦ sym (put-other p q (Full 1 new) c m) ∙ e
  ]

  pub underway : IsUnderway id 1 n after
  underway = record {
    at = p;
    table = new;
    lies = put-here p (Full 1 new) c;
    value = refl;
    low = low;
    columns = λ q r e v. absurd (fresh.columns q r (row_was q 2 r (λ k. omega (arith, k)) e) v);
    indexes = λ q r e v. fresh.indexes q r (row_was q 3 r (λ k. omega (arith, k)) e) v;
  }

  pub no_columns : IsThere (λ (y : PlacedRow). same_value (value_at (y.1) 0) (number id)) 2 n after → ⊥
  no_columns t = fresh.columns t.at t.row (row_was t.at 2 t.row (λ k. omega (arith, k)) t.lies) (same-value (value_at t.row 0) (number id) t.passes)

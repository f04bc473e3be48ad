-- A user's row is damaged exactly where it doesn't fit its table, or two rows of the cells have one key or one unique value.
use Rattle.std.proofs.Common.{◌≡◌, ◌⊎◌, inl, inr, ◌≤◌, ◌<◌, ℕ, Bool, true, false, not, cond, ◌&&◌, ◌||◌, nat_eq, nat_lt, nat_le, filter, List, [], ◌∷◌, Option, Some, None, unwrap_or, refl, sym, ap, ◌∙◌, subst, arith, true≢false}
use Rattle.std.specs.List.{list_any}
use Rattle.std.proofs.lemmas.Bool.{cases_order, eqb-true, eq-eqb, or_parts, and_parts, and_from, both_ways, false_from_ne_true, lt-ltb, ltb-true, leb-true, le-leb}
use Rattle.tt_value.specs.declared.value.Value.{Value}
use Rattle.tt_value.specs.declared.value.Row.{Row}
use Rattle.tt_value.specs.declared.value.Cell.{Cell}
use Rattle.tt_value.specs.declared.value.Cell.TheVariants.{Empty, Full}
use Rattle.tt_model.specs.Values.{same_values}
use Rattle.tt_model.specs.Committed.{Cells, is_full}
use Rattle.tt_model.specs.Live.{numbers_below}
use Rattle.tt_model.specs.Holders.{Held, has_held, has_null, values_at}
use Rattle.tt_model.specs.Tables.{Catalog, Index, PlacedRow, Table, catalog_of, rows_of, table_with, unique_of}
use Rattle.tt_model.specs.Damage.{breaks_table, first_bad_row, has_misfit, has_row_key_before, has_unique_before, is_bad_row_at, is_bad_user_row, is_before, is_there_before}
use Rattle.tt_model.specs.GoodRows.{FitsIn}
use Rattle.tt_model.proofs.ConflictLemmas.{none_passes, same_values-self}
use Rattle.tt_model.proofs.RowLemmas.{LieIn, are_rows-rows_of}
use Rattle.tt_model.proofs.SystemLemmas.{none_found}
use Rattle.tt_model.proofs.BookmarkLines.{among}
use Rattle.tt_model.proofs.OneHolderStatements.{IsAmong, equal_values}
use Rattle.tt_model.proofs.HeldInRuns.{among_rows}
use Rattle.tt_model.proofs.RowsOnce.{IsOnce}

-- The catalog lets at most one row have these values: they are a key, or values without Null of a unique index.
pub record IsUniqueIn (catalog : Catalog) (name : Held) : Type 0 where
  pub table : Table
  pub user : 16 ≤ name.table
  pub found : table_with name.table catalog ≡ Some table
  pub rule : (name.columns ≡ table.key) ⊎ ((i : Index) × IsAmong i (unique_of table catalog) × (name.columns ≡ i.columns) × (has_null name.values ≡ false))

-- Each user's row fits, and each key and unique value stands once.
pub record IsGoodIn (catalog : Catalog) (cells : Cells) : Type 0 where
  pub fits : (q : ℕ) → FitsIn catalog (cells q)
  pub once : (name : Held) → IsUniqueIn catalog name → IsOnce name cells

-- ---- a row that has a name

pub record HasRow (name : Held) (c : Cell) : Type 0 where
  pub row : Row
  pub is : c ≡ Full name.table row
  pub values : values_at name.columns row ≡ name.values

pub held-row : (name : Held) (c : Cell) → has_held name c ≡ true → HasRow name c
held-row name Empty h = absurd (true≢false (sym h))
held-row name (Full table row) h =
    let parts : (nat_eq name.table table ≡ true) × (same_values (values_at name.columns row) name.values ≡ true)
    = and_parts (nat_eq name.table table) (same_values (values_at name.columns row) name.values) h in
    record {
      row = row;
      is = ap (λ (n : ℕ). Full n row) (sym (eqb-true name.table table (parts.0)));
      values = equal_values (values_at name.columns row) name.values (parts.1);
    }

pub row-held : (name : Held) (row : Row) → values_at name.columns row ≡ name.values → has_held name (Full name.table row) ≡ true
row-held name row e =
    and_from (nat_eq name.table name.table) (same_values (values_at name.columns row) name.values) (eq-eqb name.table name.table refl)
    (ap (λ (vs : List Value). same_values (values_at name.columns row) vs) (sym e) ∙ same_values-self (values_at name.columns row))

-- ---- lists

pub any_none : {X : Type 0} (f : X → Bool) (xs : List X) → ((x : X) → IsAmong x xs → f x ≡ false) → list_any f xs ≡ false
any_none f [] h = refl
any_none f (x ∷ xs) h = ap (λ b. b || list_any f xs) (h x (inl refl)) ∙ any_none f xs (λ y a. h y (inr a))

pub none_any : {X : Type 0} (f : X → Bool) (xs : List X) → list_any f xs ≡ false → (x : X) → IsAmong x xs → f x ≡ false
none_any f [] h x a = absurd a
none_any f (y ∷ ys) h x (inl same) = ap f (sym same) ∙ (or_parts (f y) (list_any f ys) h).0
none_any f (y ∷ ys) h x (inr a) = none_any f ys ((or_parts (f y) (list_any f ys) h).1) x a

filter_step : {X : Type 0} (f g : X → Bool) (x : X) (xs : List X) → (g x ≡ true → f x ≡ false) → list_any f (filter g xs) ≡ false → (c : Bool) → g x ≡ c →
    list_any f (cond c (x ∷ filter g xs) (filter g xs)) ≡ false
filter_step f g x xs h ih true e = ap (λ b. b || list_any f (filter g xs)) (h e) ∙ ih
filter_step f g x xs h ih false e = ih

any_filtered : {X : Type 0} (f g : X → Bool) (xs : List X) → ((x : X) → IsAmong x xs → g x ≡ true → f x ≡ false) → list_any f (filter g xs) ≡ false
any_filtered f g [] h = refl
any_filtered f g (x ∷ xs) h = filter_step f g x xs (h x (inl refl)) (any_filtered f g xs (λ y a. h y (inr a))) (g x) refl

rest_step : {X : Type 0} (f g : X → Bool) (x y : X) (ys : List X) → g x ≡ true → (y ≡ x) ⊎ IsAmong x ys → (list_any f (filter g ys) ≡ false → IsAmong x ys → f x ≡ false) →
    (c : Bool) → g y ≡ c → list_any f (cond c (y ∷ filter g ys) (filter g ys)) ≡ false → f x ≡ false
rest_step f g x y ys k (inl same) ih true e h = ap f (sym same) ∙ (or_parts (f y) (list_any f (filter g ys)) h).0
rest_step f g x y ys k (inl same) ih false e h = absurd (both_ways (g y) e (ap g same ∙ k))
rest_step f g x y ys k (inr a) ih true e h = ih ((or_parts (f y) (list_any f (filter g ys)) h).1) a
rest_step f g x y ys k (inr a) ih false e h = ih h a

none_filtered : {X : Type 0} (f g : X → Bool) (xs : List X) → list_any f (filter g xs) ≡ false → (x : X) → IsAmong x xs → g x ≡ true → f x ≡ false
none_filtered f g [] h x a k = absurd a
none_filtered f g (y ∷ ys) h x a k = rest_step f g x y ys k a (λ n b. none_filtered f g ys n x b k) (g y) refl h

pub among-lies : (table : ℕ) (cells : Cells) (rows : List PlacedRow) (r : PlacedRow) → LieIn table cells rows → IsAmong r rows → cells (r.0) ≡ Full table (r.1)
among-lies table cells [] r l a = absurd a
among-lies table cells (x ∷ xs) r l (inl same) = subst (λ (z : PlacedRow). cells (z.0) ≡ Full table (z.1)) same (l.0)
among-lies table cells (x ∷ xs) r l (inr a) = among-lies table cells xs r (l.1) a

-- ---- a lesser place

module _ (bound : ℕ) (cells : Cells) where
  -- Where the values stand once, no row at a lesser place has them.
  not_before : (name : Held) (q : ℕ) (row : Row) → IsOnce name cells → cells q ≡ Full name.table row → values_at name.columns row ≡ name.values →
      is_there_before name.columns (q, row) (rows_of name.table bound cells) ≡ false
  not_before name q row one e v =
      any_filtered (is_before q) (λ (r : PlacedRow). same_values (values_at name.columns (r.1)) (values_at name.columns row)) (rows_of name.table bound cells)
      (λ r a y.
      let lies : cells (r.0) ≡ Full name.table (r.1) = among-lies name.table cells (rows_of name.table bound cells) r ((are_rows-rows_of name.table bound cells).lie) a in
      let values : values_at name.columns (r.1) ≡ name.values = equal_values (values_at name.columns (r.1)) (values_at name.columns row) y ∙ v in
      let same : r.0 ≡ q = one (r.0) q (ap (has_held name) lies ∙ row-held name (r.1) values) (ap (has_held name) e ∙ row-held name row v) in
      false_from_ne_true (nat_lt (r.0) q) (λ l. let less : r.0 < q = ltb-true (r.0) q l in absurd (omega (arith, less, same))))

  -- The other way round: no row at a lesser place has them.
  pub before_not : (name : Held) (p q : ℕ) (a b : Row) → p < q → p < bound → cells p ≡ Full name.table a → cells q ≡ Full name.table b →
      values_at name.columns a ≡ name.values → values_at name.columns b ≡ name.values → is_there_before name.columns (q, b) (rows_of name.table bound cells) ≡ false → ⊥
  unfolding rows_of
  before_not name p q a b l below ea eb va vb none =
      let among_all : IsAmong (p, a) (rows_of name.table bound cells) = among_rows name.table p a cells bound 0 ea (omega arith) (omega (arith, below)) in
      both_ways (nat_lt p q)
      (none_filtered (is_before q) (λ (r : PlacedRow). same_values (values_at name.columns (r.1)) (values_at name.columns b)) (rows_of name.table bound cells) none (p, a) among_all
      (ap (λ (vs : List Value). same_values vs (values_at name.columns b)) (va ∙ sym vb) ∙ same_values-self (values_at name.columns b)))
      (lt-ltb p q l)

-- ---- from the tests

some_table : (t u : Table) → Some t ≡ Some u → t ≡ u
some_table t u h = ap (λ (o : Option Table). unwrap_or o t) h

-- What the tests of one row tell.
pub record Passes (catalog : Catalog) (rows : List PlacedRow) (r : PlacedRow) (id : ℕ) : Type 0 where
  pub table : Table
  pub found : table_with id catalog ≡ Some table
  pub fits : has_misfit table (r.1) ≡ false
  pub key : has_row_key_before table r rows ≡ false
  pub unique : list_any (has_unique_before r rows) (unique_of table catalog) ≡ false

passed : (catalog : Catalog) (rows : List PlacedRow) (r : PlacedRow) (id : ℕ) (o : Option Table) → table_with id catalog ≡ o → breaks_table catalog rows r o ≡ false → Passes catalog rows r id
passed catalog rows r id None e h = absurd (true≢false h)
passed catalog rows r id (Some t) e h =
    let last : Bool = list_any (has_unique_before r rows) (unique_of t catalog) in
    let first : ((has_misfit t (r.1) || has_row_key_before t r rows) ≡ false) × (last ≡ false) = or_parts (has_misfit t (r.1) || has_row_key_before t r rows) last (assoc (has_misfit t (r.1)) (has_row_key_before t r rows) last ∙ h) in
    let both : (has_misfit t (r.1) ≡ false) × (has_row_key_before t r rows ≡ false) = or_parts (has_misfit t (r.1)) (has_row_key_before t r rows) (first.0) in
    record { table = t; found = e; fits = both.0; key = both.1; unique = first.1 }
  where
    assoc : (a b c : Bool) → ((a || b) || c) ≡ (a || b || c)
    assoc true b c = refl
    assoc false b c = refl

module _ (bound : ℕ) (cells : Cells) (h : first_bad_row bound cells ≡ None) (low : (q : ℕ) → is_full (cells q) ≡ true → q < bound) where
  tables : Catalog
  tables = catalog_of bound cells

  row_passes : (q id : ℕ) (row : Row) → cells q ≡ Full id row → 16 ≤ id → Passes (catalog_of bound cells) (rows_of id bound cells) (q, row) id
  unfolding first_bad_row
  row_passes q id row e user =
      let below : q < bound = low q (ap is_full e) in
      let good : is_bad_row_at bound cells q ≡ false = none_passes (is_bad_row_at bound cells) (numbers_below bound) h q (among q bound 0 (omega arith) (omega (arith, below))) in
      let here : is_bad_user_row bound cells q (Full id row) ≡ false = ap (is_bad_user_row bound cells q) (sym e) ∙ good in
      let of_table : breaks_table (catalog_of bound cells) (rows_of id bound cells) (q, row) (table_with id (catalog_of bound cells)) ≡ false
      = ap (λ b. b && breaks_table (catalog_of bound cells) (rows_of id bound cells) (q, row) (table_with id (catalog_of bound cells))) (sym (le-leb 16 id user)) ∙ here in
      passed (catalog_of bound cells) (rows_of id bound cells) (q, row) id (table_with id (catalog_of bound cells)) refl of_table

  good-fits : (q : ℕ) → FitsIn (catalog_of bound cells) (cells q)
  good-fits q id row e user = let p = row_passes q id row e user in (p.table, p.found, p.fits)

  -- A row at a greater place has other values.
  apart : (name : Held) → IsUniqueIn (catalog_of bound cells) name → (p q : ℕ) → p < q → HasRow name (cells p) → HasRow name (cells q) → ⊥
  apart name u p q l hp hq =
      let passes = row_passes q name.table hq.row hq.is u.user in
      let same : passes.table ≡ u.table = some_table passes.table u.table (sym passes.found ∙ u.found) in
      elim u.rule [
        | inl key ↦
            before_not bound cells name p q hp.row hq.row l (low p (ap is_full hp.is)) hp.is hq.is hp.values hq.values
            (ap (λ (cs : List ℕ). is_there_before cs (q, hq.row) (rows_of name.table bound cells)) (key ∙ ap (λ (t : Table). t.key) (sym same)) ∙ passes.key)
        | inr index ↦
            let i : Index = index.0 in
            let tested : has_unique_before (q, hq.row) (rows_of name.table bound cells) i ≡ false
            = none_any (has_unique_before (q, hq.row) (rows_of name.table bound cells)) (unique_of u.table (catalog_of bound cells))
            (ap (λ (t : Table). list_any (has_unique_before (q, hq.row) (rows_of name.table bound cells)) (unique_of t (catalog_of bound cells))) (sym same) ∙ passes.unique) i (index.1) in
            let full : not (has_null (values_at i.columns hq.row)) ≡ true
            = ap (λ (cs : List ℕ). not (has_null (values_at cs hq.row))) (sym (index.2)) ∙ (ap (λ (vs : List Value). not (has_null vs)) hq.values ∙ ap not (index.3)) in
            before_not bound cells name p q hp.row hq.row l (low p (ap is_full hp.is)) hp.is hq.is hp.values hq.values
            (ap (λ (cs : List ℕ). is_there_before cs (q, hq.row) (rows_of name.table bound cells)) (index.2)
            ∙ (ap (λ b. b && is_there_before i.columns (q, hq.row) (rows_of name.table bound cells)) (sym full) ∙ tested))
      ]

  pub good-from : IsGoodIn (catalog_of bound cells) cells
  good-from = record {
    fits = good-fits;
    once = λ name u p q hp hq. elim (cases_order p q) [
      | inl same ↦ same
      | inr (inl l) ↦ absurd (apart name u p q l (held-row name (cells p) hp) (held-row name (cells q) hq))
      | inr (inr l) ↦ absurd (apart name u q p l (held-row name (cells q) hq) (held-row name (cells p) hp))
    ];
  }

-- ---- to the tests

module _ (bound : ℕ) (cells : Cells) (g : IsGoodIn (catalog_of bound cells) cells) where
  no_key : (q id : ℕ) (row : Row) (t : Table) → cells q ≡ Full id row → 16 ≤ id → table_with id (catalog_of bound cells) ≡ Some t →
      has_row_key_before t (q, row) (rows_of id bound cells) ≡ false
  no_key q id row t e user found =
      let name : Held = record { table = id; columns = t.key; values = values_at t.key row } in
      not_before bound cells name q row (g.once name (record { table = t; user = user; found = found; rule = inl refl })) e refl

  by_null : (id : ℕ) (r : PlacedRow) (i : Index) (b : Bool) → has_null (values_at i.columns (r.1)) ≡ b → (b ≡ false → is_there_before i.columns r (rows_of id bound cells) ≡ false) →
      (not b && is_there_before i.columns r (rows_of id bound cells)) ≡ false
  by_null id r i true e h = refl
  by_null id r i false e h = h refl

  no_unique : (q id : ℕ) (row : Row) (t : Table) → cells q ≡ Full id row → 16 ≤ id → table_with id (catalog_of bound cells) ≡ Some t →
      list_any (has_unique_before (q, row) (rows_of id bound cells)) (unique_of t (catalog_of bound cells)) ≡ false
  no_unique q id row t e user found =
      any_none (has_unique_before (q, row) (rows_of id bound cells)) (unique_of t (catalog_of bound cells)) (λ i a.
      by_null id (q, row) i (has_null (values_at i.columns row)) refl (λ null.
      let name : Held = record { table = id; columns = i.columns; values = values_at i.columns row } in
      not_before bound cells name q row (g.once name (record { table = t; user = user; found = found; rule = inr (i, a, refl, null) })) e refl))

  row_good : (q id : ℕ) (row : Row) → cells q ≡ Full id row → (b : Bool) → nat_le 16 id ≡ b →
      (b && breaks_table (catalog_of bound cells) (rows_of id bound cells) (q, row) (table_with id (catalog_of bound cells))) ≡ false
  row_good q id row e false user = refl
  row_good q id row e true user =
      let fit = g.fits q id row e (leb-true 16 id user) in
      let t : Table = fit.0 in
      let rows : List PlacedRow = rows_of id bound cells in
      let least : 16 ≤ id = leb-true 16 id user in
      ap (breaks_table (catalog_of bound cells) rows (q, row)) (fit.1)
      ∙ (ap (λ b. b || has_row_key_before t (q, row) rows || list_any (has_unique_before (q, row) rows) (unique_of t (catalog_of bound cells))) (fit.2)
      ∙ (ap (λ b. b || list_any (has_unique_before (q, row) rows) (unique_of t (catalog_of bound cells))) (no_key q id row t e least (fit.1))
      ∙ no_unique q id row t e least (fit.1)))

  at_place : (q : ℕ) (c : Cell) → cells q ≡ c → is_bad_user_row bound cells q c ≡ false
  at_place q Empty e = refl
  at_place q (Full id row) e = row_good q id row e (nat_le 16 id) refl

  pub good-to : first_bad_row bound cells ≡ None
  unfolding first_bad_row
  good-to = none_found (is_bad_row_at bound cells) (numbers_below bound) (λ q l. at_place q (cells q) refl)

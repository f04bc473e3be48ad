-- What is read of the rows of tables, and what is wrong with them, doesn't depend on a bound below which every row lies.
use Rattle.std.proofs.Common.{◌≡◌, ◌≤◌, ◌<◌, ◌+◌, inl, inr, ℕ, zero, suc, Bool, true, false, cond, ◌&&◌, nat_le, List, map, Option, Some, None, refl, sym, ap, ap₂, ◌∙◌, arith, le_refl, true≢false}
use Rattle.std.proofs.lemmas.Bool.{cases_Bool, leb-true, leb-false, false_from_ne_true}
use Rattle.std.specs.Prelude.{◌==◌, nat_lt, find, bytes_eq, option_map}
use Rattle.tt_value.specs.declared.value.Cell.{Cell}
use Rattle.tt_value.specs.declared.value.Cell.TheVariants.{Empty, Full}
use Rattle.tt_model.specs.Committed.{Cells, is_full}
use Rattle.tt_model.specs.Live.{numbers_from, numbers_below}
use Rattle.tt_model.specs.Tables.{Catalog, PlacedRow, Subscribed, row_in, row_at, rows_of, by_number, table_of, index_of, number_at, text_at, position_at, with_text_at, catalog_of, bookmark_row, set_row, subscriptions_of, table_with}
use Rattle.tt_model.specs.Damage.{SystemTable, system_table, id_of, breaks_catalog, breaks_table, is_bad_system, is_bad_catalog_row, is_bad_catalog_at, is_bad_user_row, is_bad_row_at, first_bad_catalog, first_bad_row}
use Rattle.tt_model.specs.GoodRows.{AreGood}
use Rattle.tt_model.specs.StepLaws.{CatalogIsBelowItsBound}
use Rattle.tt_model.proofs.IsolationLemmas.{empty_above, rows_of-bounds}
use Rattle.tt_model.proofs.RowLemmas.{first_from}

-- Every row lies below a bound.
abbrev pub LieBelow : ℕ → Cells → Type 0
LieBelow bound cells = (q : ℕ) → is_full (cells q) ≡ true → q < bound

pub below-more : (bound more : ℕ) (cells : Cells) → LieBelow bound cells → LieBelow (bound + more) cells
below-more bound more cells below q y = let low : q < bound = below q y in omega (arith, low)

-- ---- rows

-- The rows of one table, where none of it lies at or above the bound.
pub rows-more : (table bound more : ℕ) (cells : Cells) → ((q : ℕ) → bound ≤ q → row_in table (cells q) ≡ None) → rows_of table (bound + more) cells ≡ rows_of table bound cells
unfolding rows_of
rows-more table bound more cells none =
    first_from (row_at table cells) bound (bound + more) 0 (omega arith) (λ q l. ap (option_map {U = PlacedRow} (λ row. (q, row))) (none q (omega (arith, l))))

-- The rows below two bounds.
pub rows-either : (table a b : ℕ) (cells : Cells) → LieBelow a cells → LieBelow b cells → rows_of table a cells ≡ rows_of table b cells
rows-either table a b cells below_a below_b = rows_of-bounds table a b cells (empty_above a cells below_a) (empty_above b cells below_b)

pub catalog-either : (a b : ℕ) (cells : Cells) → LieBelow a cells → LieBelow b cells → catalog_of a cells ≡ catalog_of b cells
unfolding catalog_of
catalog-either a b cells below_a below_b = λ i. record {
  tables = map (table_of (rows-either 2 a b cells below_a below_b i)) (by_number 0 (rows-either 1 a b cells below_a below_b i));
  indexes = map index_of (by_number 0 (rows-either 3 a b cells below_a below_b i));
}

pub bookmark_row-either : (name : List ℕ) (a b : ℕ) (cells : Cells) → LieBelow a cells → LieBelow b cells → bookmark_row name a cells ≡ bookmark_row name b cells
bookmark_row-either name a b cells below_a below_b = ap (find (λ r. bytes_eq (text_at 0 r) name)) (rows-either 4 a b cells below_a below_b)

pub set_row-either : (set a b : ℕ) (cells : Cells) → LieBelow a cells → LieBelow b cells → set_row set a cells ≡ set_row set b cells
set_row-either set a b cells below_a below_b = ap (find (λ r. number_at 0 r == set)) (rows-either 6 a b cells below_a below_b)

pub subscriptions-either : (name : List ℕ) (a b : ℕ) (cells : Cells) → LieBelow a cells → LieBelow b cells → subscriptions_of name a cells ≡ subscriptions_of name b cells
subscriptions-either name a b cells below_a below_b =
    ap (λ (rows : List PlacedRow). map (λ (r : PlacedRow). let x : Subscribed = record { table = number_at 1 r; since = position_at 2 r } in x) (with_text_at 0 name rows)) (rows-either 5 a b cells below_a below_b)

-- ---- damages

-- Numbers of which none passes, and those behind the last that may.
none_found : (f : ℕ → Bool) (n from : ℕ) → ((q : ℕ) → from ≤ q → f q ≡ false) → find f (numbers_from n from) ≡ None
none_found f zero from h = refl
none_found f (suc n) from h = ap (λ c. cond c (Some from) (find f (numbers_from n (suc from)))) (h from (le_refl from)) ∙ none_found f n (suc from) (λ q l. h q (omega (arith, l)))

first_found : (f : ℕ → Bool) (a n from : ℕ) → a ≤ n → ((q : ℕ) → a + from ≤ q → f q ≡ false) → find f (numbers_from n from) ≡ find f (numbers_from a from)
first_found f zero n from l h = none_found f n from (λ q k. h q (omega (arith, k)))
first_found f (suc a) zero from l h = absurd (omega (arith, l))
first_found f (suc a) (suc n) from l h = ap (cond (f from) (Some from)) (first_found f a n (suc from) (omega (arith, l)) (λ q k. h q (omega (arith, k))))

-- Two tests that are alike, and fail at or above either bound.
found_either : (f g : ℕ → Bool) (a b : ℕ) → ((q : ℕ) → f q ≡ g q) → ((q : ℕ) → a ≤ q → f q ≡ false) → ((q : ℕ) → b ≤ q → f q ≡ false) →
    find f (numbers_below a) ≡ find g (numbers_below b)
found_either f g a b alike above_a above_b = elim (cases_Bool (nat_le a b)) [
  | inl y ↦ sym (first_found f a b 0 (leb-true a b y) (λ q l. above_a q (omega (arith, l)))) ∙ ap (λ h. find h (numbers_below b)) (λ i q. alike q i)
  | inr y ↦ let over : b < a = leb-false a b y in
      first_found f b a 0 (omega (arith, over)) (λ q l. above_b q (omega (arith, l))) ∙ ap (λ h. find h (numbers_below b)) (λ i q. alike q i)
]

bad_system-either : (a b : ℕ) (cells : Cells) (r : PlacedRow) (o : Option SystemTable) → LieBelow a cells → LieBelow b cells → is_bad_system a cells r o ≡ is_bad_system b cells r o
bad_system-either a b cells r None below_a below_b = refl
bad_system-either a b cells r (Some table) below_a below_b = ap (λ rows. breaks_catalog rows table r) (λ i t. rows-either (id_of t) a b cells below_a below_b i)

bad_catalog-either : (a b : ℕ) (cells : Cells) (q : ℕ) (c : Cell) → LieBelow a cells → LieBelow b cells → is_bad_catalog_row a cells q c ≡ is_bad_catalog_row b cells q c
bad_catalog-either a b cells q Empty below_a below_b = refl
bad_catalog-either a b cells q (Full id row) below_a below_b = ap (nat_lt id 16 &&◌) (bad_system-either a b cells (q, row) (system_table id) below_a below_b)

bad_user-either : (a b : ℕ) (cells : Cells) (q : ℕ) (c : Cell) → LieBelow a cells → LieBelow b cells → is_bad_user_row a cells q c ≡ is_bad_user_row b cells q c
bad_user-either a b cells q Empty below_a below_b = refl
bad_user-either a b cells q (Full table row) below_a below_b =
    ap₂ (λ (catalog : Catalog) (rows : List PlacedRow). nat_le 16 table && breaks_table catalog rows (q, row) (table_with table catalog))
    (catalog-either a b cells below_a below_b) (rows-either table a b cells below_a below_b)

empty_is_good : (bound : ℕ) (cells : Cells) (q : ℕ) (c : Cell) → is_full c ≡ false → (is_bad_catalog_row bound cells q c ≡ false) × (is_bad_user_row bound cells q c ≡ false)
empty_is_good bound cells q Empty e = (refl, refl)
empty_is_good bound cells q (Full id row) e = absurd (true≢false e)

good_above : (bound above : ℕ) (cells : Cells) → LieBelow above cells → (q : ℕ) → above ≤ q → (is_bad_catalog_at bound cells q ≡ false) × (is_bad_row_at bound cells q ≡ false)
good_above bound above cells below q l =
    empty_is_good bound cells q (cells q) (false_from_ne_true (is_full (cells q)) (λ y. let low : q < above = below q y in omega (arith, low, l)))

pub first_bad_catalog-either : (a b : ℕ) (cells : Cells) → LieBelow a cells → LieBelow b cells → first_bad_catalog a cells ≡ first_bad_catalog b cells
unfolding first_bad_catalog
first_bad_catalog-either a b cells below_a below_b =
    found_either (is_bad_catalog_at a cells) (is_bad_catalog_at b cells) a b (λ q. bad_catalog-either a b cells q (cells q) below_a below_b)
    (λ q l. (good_above a a cells below_a q l).0) (λ q l. (good_above a b cells below_b q l).0)

pub first_bad_row-either : (a b : ℕ) (cells : Cells) → LieBelow a cells → LieBelow b cells → first_bad_row a cells ≡ first_bad_row b cells
unfolding first_bad_row
first_bad_row-either a b cells below_a below_b =
    found_either (is_bad_row_at a cells) (is_bad_row_at b cells) a b (λ q. bad_user-either a b cells q (cells q) below_a below_b)
    (λ q l. (good_above a a cells below_a q l).1) (λ q l. (good_above a b cells below_b q l).1)

pub good-either : (a b : ℕ) (cells : Cells) → LieBelow a cells → LieBelow b cells → AreGood a cells → AreGood b cells
good-either a b cells below_a below_b good = record {
  catalog = sym (first_bad_catalog-either a b cells below_a below_b) ∙ good.catalog;
  rows = sym (first_bad_row-either a b cells below_a below_b) ∙ good.rows;
}

-- ---- the law

pub catalog_below : CatalogIsBelowItsBound
catalog_below = record {
  rows = rows-more;
  catalog = λ bound more cells below. catalog-either (bound + more) bound cells (below-more bound more cells below) below;
  bookmark = λ name bound more cells below. bookmark_row-either name (bound + more) bound cells (below-more bound more cells below) below;
  set = λ set bound more cells below. set_row-either set (bound + more) bound cells (below-more bound more cells below) below;
  bad_catalog = λ bound more cells below. first_bad_catalog-either (bound + more) bound cells (below-more bound more cells below) below;
  bad_row = λ bound more cells below. first_bad_row-either (bound + more) bound cells (below-more bound more cells below) below;
}

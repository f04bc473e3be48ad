-- Where no row of a system table changes, the catalog stays good; and where rows go whose names no other row needs.
use Rattle.std.proofs.Common.{◌≡◌, ◌≤◌, ◌<◌, ◌⊎◌, ℕ, Bool, true, false, ◌&&◌, List, [], ◌∷◌, Option, Some, None, refl, sym, ◌∙◌, subst, arith}
use Rattle.std.proofs.lemmas.Bool.{lt-leb, leb-false}
use Rattle.std.specs.Prelude.{count_by, nat_le}
use Rattle.tt_value.specs.declared.value.Row.{Row}
use Rattle.tt_value.specs.declared.value.Cell.TheVariants.{Empty, Full}
use Rattle.tt_model.specs.Committed.{Cells}
use Rattle.tt_model.specs.Live.{numbers_below}
use Rattle.tt_model.specs.Holders.{value_at, values_at}
use Rattle.tt_model.specs.Values.{same_values}
use Rattle.tt_model.specs.Tables.{PlacedRow, row_in}
use Rattle.tt_model.specs.Damage.{SystemTable, Tables, Columns, Indexes, Bookmarks, Subscriptions, Sets, id_of, is_past_limit, is_before, table_column, counted_with, limit_of}
use Rattle.tt_model.proofs.RowLemmas.{in_cell}
use Rattle.tt_model.proofs.GoodPlaces.{has_at, tally, count-filter, count-rows, tally-fewer, rows-same, row-in}
use Rattle.tt_model.proofs.GoodCells.{Follows, IsGoodBut, rows_in, id_low}

-- ---- no system row changes

pub record AreSameSystem (c d : Cells) : Type 0 where
  pub rows : (id q : ℕ) → id < 16 → row_in id (d q) ≡ row_in id (c q)

pub good-same : (but : Row → Bool) (bound : ℕ) (c d : Cells) → AreSameSystem c d → IsGoodBut but bound c → IsGoodBut but bound d
good-same but bound c d same g = record {
  known = λ q id row e low. g.known q id row (was q id row e low) low;
  follow = λ table q row e.
      subst (λ (rows : SystemTable → List PlacedRow). Follows but rows table (q, row)) (sym all) (g.follow table q row (was q (id_of table) row e (id_low table)));
}
  where
    was : (q id : ℕ) (row : Row) → d q ≡ Full id row → id < 16 → c q ≡ Full id row
    was q id row e low = in_cell id (c q) row (sym (same.rows id q low) ∙ row-in id (d q) row e)

    all : rows_in bound d ≡ rows_in bound c
    all = λ i table. rows-same (id_of table) bound c d (λ q. same.rows (id_of table) q (id_low table)) i

-- ---- counts

-- The rows that are counted together with a row.
abbrev pub group : SystemTable → Row → PlacedRow → Bool
group Indexes row x = same_values (values_at (1 ∷ []) (x.1)) (values_at (1 ∷ []) row)
group _ row x = true

pub count-counted : (f : PlacedRow → Bool) (table : SystemTable) (row : Row) (rows : List PlacedRow) →
    count_by f (counted_with table row rows) ≡ count_by (λ (x : PlacedRow). group table row x && f x) rows
count-counted f Tables row rows = refl
count-counted f Columns row rows = refl
count-counted f Indexes row rows = count-filter f (λ (x : PlacedRow). group Indexes row x) rows
count-counted f Bookmarks row rows = refl
count-counted f Subscriptions row rows = refl
count-counted f Sets row rows = refl

-- How many rows of the group pass a test.
abbrev pub grouped : (PlacedRow → Bool) → SystemTable → Row → ℕ → Cells → ℕ
grouped f table row bound cells = tally (has_at (λ (x : PlacedRow). group table row x && f x) (id_of table) cells) (numbers_below bound)

pub count-grouped : (f : PlacedRow → Bool) (table : SystemTable) (row : Row) (bound : ℕ) (cells : Cells) → count_by f (counted_with table row (rows_in bound cells table)) ≡ grouped f table row bound cells
count-grouped f table row bound cells =
    count-counted f table row (rows_in bound cells table) ∙ count-rows (λ (x : PlacedRow). group table row x && f x) (id_of table) bound cells

limit_step : (most m n : ℕ) → n ≤ m → nat_le most m ≡ false → nat_le most n ≡ false
limit_step most m n l h = let low : m < most = leb-false most m h in lt-leb most n (omega (arith, low, l))

limit_by : (o : Option ℕ) (m n : ℕ) → n ≤ m → elim o [ None ↦ false | Some most ↦ nat_le most m ] ≡ false → elim o [ None ↦ false | Some most ↦ nat_le most n ] ≡ false
limit_by None m n l h = refl
limit_by (Some most) m n l h = limit_step most m n l h

-- No more rows are counted before a place.
pub limit-fewer : (table : SystemTable) (q : ℕ) (row : Row) (bound : ℕ) (c d : Cells) →
    ((p : ℕ) → has_at (λ (x : PlacedRow). group table row x && is_before q x) (id_of table) d p ≡ true → has_at (λ (x : PlacedRow). group table row x && is_before q x) (id_of table) c p ≡ true) →
    is_past_limit table (q, row) (rows_in bound c table) ≡ false → is_past_limit table (q, row) (rows_in bound d table) ≡ false
limit-fewer table q row bound c d f h =
    let less : grouped (is_before q) table row bound d ≤ grouped (is_before q) table row bound c = tally-fewer _ _ (numbers_below bound) f in
    let m : count_by (is_before q) (counted_with table row (rows_in bound c table)) ≡ grouped (is_before q) table row bound c = count-grouped (is_before q) table row bound c in
    let n : count_by (is_before q) (counted_with table row (rows_in bound d table)) ≡ grouped (is_before q) table row bound d = count-grouped (is_before q) table row bound d in
    limit_by (limit_of table) (count_by (is_before q) (counted_with table row (rows_in bound c table))) (count_by (is_before q) (counted_with table row (rows_in bound d table)))
    (subst (λ (x : ℕ). x ≤ count_by (is_before q) (counted_with table row (rows_in bound c table))) (sym n) (subst (λ (x : ℕ). grouped (is_before q) table row bound d ≤ x) (sym m) less)) h

-- ---- rows go

-- Some rows go, the others stay; and where a row stays, those stay that it names, and the columns of its table.
pub record Removes (c d : Cells) : Type 0 where
  pub each : (q : ℕ) → (d q ≡ c q) ⊎ (d q ≡ Empty)
  pub tables : (table : SystemTable) (q p column : ℕ) (row other : Row) → d q ≡ Full (id_of table) row → table_column table ≡ Some column → c p ≡ Full 1 other →
      value_at other 0 ≡ value_at row column → d p ≡ c p
  pub bookmarks : (q p : ℕ) (row other : Row) → d q ≡ Full 5 row → c p ≡ Full 4 other → value_at other 0 ≡ value_at row 0 → d p ≡ c p
  pub columns : (q p : ℕ) (row other : Row) → d q ≡ Full 1 row → c p ≡ Full 2 other → value_at other 0 ≡ value_at row 0 → d p ≡ c p
  pub indexed : (q p : ℕ) (row other : Row) → d q ≡ Full 3 row → c p ≡ Full 2 other → value_at other 0 ≡ value_at row 1 → d p ≡ c p

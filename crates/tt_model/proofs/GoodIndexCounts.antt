-- How many indexes a good catalog has, and which numbers they have.
use Rattle.std.proofs.Common.{◌≡◌, ◌<◌, ◌≤◌, ◌+◌, ◌-◌, ◌*◌, ◌⊎◌, inl, inr, ℕ, suc, Bool, true, false, ◌&&◌, ◌||◌, nat_eq, map, List, [], ◌∷◌, length, refl, sym, ap, ◌∙◌, subst, arith}
use Rattle.std.proofs.lemmas.Bool.{eqb-true, eq-eqb, ltb-true, lt-ltb, leb-false, cases_order, and_from, and_parts, false_from_ne_true}
use Rattle.std.proofs.lemmas.List.Sums.{length-filter}
use Rattle.std.specs.Prelude.{◌==◌, nat_lt, bytes_eq, count_by, is_some}
use Rattle.std.specs.List.{list_any}
use Rattle.std.specs.Ordering.{nat_cmp}
use Rattle.tt_value.specs.declared.value.Row.{Row}
use Rattle.tt_value.specs.declared.value.Cell.TheVariants.{Full}
use Rattle.tt_model.specs.Committed.{is_full}
use Rattle.tt_model.specs.Live.{numbers_below}
use Rattle.tt_model.specs.Holders.{value_at, values_at}
use Rattle.tt_model.specs.Values.{same_values}
use Rattle.tt_model.specs.Tables.{Table, Index, PlacedRow, number_at, text_at, by_number, index_of, indexes_of, index_named, catalog_of, whole_number_of}
use Rattle.tt_model.specs.State.{State, cells_of, bound, catalog}
use Rattle.tt_model.specs.System.{number, system_rows}
use Rattle.tt_model.specs.Damage.{Indexes, is_number_from, is_table_id, is_flag, is_name_text, is_positions_text, is_before}
use Rattle.tt_model.specs.Sound.{IsSound}
use Rattle.tt_model.proofs.ConflictLemmas.{same_values-self}
use Rattle.tt_model.proofs.IsolationLemmas.{full-below}
use Rattle.tt_model.proofs.SystemLines.{any-in_order}
use Rattle.tt_model.proofs.GoodPlaces.{has_at, tally, count-rows, tally-fewer, has-row, row-has, there-any, found-any}
use Rattle.tt_model.proofs.GoodFrames.{group, grouped, count-grouped}
use Rattle.tt_model.proofs.GoodDeletes.{HasGood}
use Rattle.tt_model.proofs.GoodTaken.{number-is, taken-second, good-taken, count-all}
use Rattle.tt_model.proofs.GoodColumns.{number-range}
use Rattle.tt_model.proofs.GoodNumbers.{count-in_order, count-map, tally-limit, fewer-all}

-- ---- the indexes of the catalog and the rows of INDEXES

indexes_by : (s : State) → (catalog s).indexes ≡ map index_of (by_number 0 (system_rows 3 s))
unfolding catalog_of
indexes_by s = refl

pub length-indexes : (s : State) → length (map (λ (i : Index). i.id) (catalog s).indexes) ≡ count_by (λ (x : PlacedRow). true) (system_rows 3 s)
length-indexes s =
    sym (count-all (map (λ (i : Index). i.id) (catalog s).indexes))
    ∙ (count-map (λ x. true) (λ (i : Index). i.id) (catalog s).indexes
    ∙ (ap (λ (is : List Index). count_by (λ x. true) is) (indexes_by s)
    ∙ (count-map (λ x. true) index_of (by_number 0 (system_rows 3 s))
    ∙ count-in_order (λ (x : PlacedRow). true) (λ a b. nat_cmp (number_at 0 a) (number_at 0 b)) (system_rows 3 s))))

pub length-indexes_of : (s : State) (t : Table) → length (indexes_of t (catalog s)) ≡ count_by (λ (r : PlacedRow). number_at 1 r == t.id) (system_rows 3 s)
length-indexes_of s t =
    length-filter (λ (i : Index). i.table == t.id) (catalog s).indexes
    ∙ (ap (λ (is : List Index). count_by (λ (i : Index). i.table == t.id) is) (indexes_by s)
    ∙ (count-map (λ (i : Index). i.table == t.id) index_of (by_number 0 (system_rows 3 s))
    ∙ count-in_order (λ (r : PlacedRow). number_at 1 r == t.id) (λ a b. nat_cmp (number_at 0 a) (number_at 0 b)) (system_rows 3 s)))

any_mapped : {X Y : Type 0} (f : Y → Bool) (g : X → Y) (xs : List X) → list_any f (map g xs) ≡ list_any (λ x. f (g x)) xs
any_mapped f g [] = refl
any_mapped f g (x ∷ xs) = ap (λ b. f (g x) || b) (any_mapped f g xs)

any_index : (s : State) (f : Index → Bool) → list_any f (catalog s).indexes ≡ list_any (λ (r : PlacedRow). f (index_of r)) (system_rows 3 s)
any_index s f =
    ap (λ (is : List Index). list_any f is) (indexes_by s)
    ∙ (any_mapped f index_of (by_number 0 (system_rows 3 s)) ∙ any-in_order (λ (r : PlacedRow). f (index_of r)) (λ a b. nat_cmp (number_at 0 a) (number_at 0 b)) (system_rows 3 s))

-- A row of INDEXES has its number among those of the catalog.
pub index-among : (s : State) (q : ℕ) (row : Row) → IsSound s → cells_of s q ≡ Full 3 row → list_any (nat_eq (whole_number_of (value_at row 0))) (map (λ (i : Index). i.id) (catalog s).indexes) ≡ true
index-among s q row h e =
    any_mapped (nat_eq (whole_number_of (value_at row 0))) (λ (i : Index). i.id) (catalog s).indexes
    ∙ (any_index s (λ (i : Index). nat_eq (whole_number_of (value_at row 0)) i.id)
    ∙ there-any (λ (r : PlacedRow). nat_eq (whole_number_of (value_at row 0)) (number_at 0 r)) 3 (bound s) (cells_of s) q row e
    (eq-eqb (whole_number_of (value_at row 0)) (whole_number_of (value_at row 0)) refl) (full-below s q h (ap is_full e)))

-- And an index of its name is there.
pub index-there : (s : State) (name : List ℕ) (q : ℕ) (row : Row) → IsSound s → cells_of s q ≡ Full 3 row → bytes_eq (text_at 3 (q, row)) name ≡ true → is_some (index_named name (catalog s)) ≡ true
index-there s name q row h e y =
    found-any (λ (i : Index). bytes_eq i.name name) (catalog s).indexes
    ∙ (any_index s (λ (i : Index). bytes_eq i.name name)
    ∙ there-any (λ (r : PlacedRow). bytes_eq (text_at 3 r) name) 3 (bound s) (cells_of s) q row e y (full-below s q h (ap is_full e)))

-- ---- how many there are

module _ (s : State) (h : IsSound s) (g : HasGood s) where
  abbrev ns : List ℕ
  ns = numbers_below (bound s)

  table_is : (q : ℕ) (row : Row) → cells_of s q ≡ Full 3 row → is_table_id (value_at row 1) ≡ true
  table_is q row e = taken-second (is_number_from 1 2048) is_table_id (is_flag ∷ is_name_text ∷ is_positions_text ∷ []) row (good-taken s Indexes q row g e)

  table_value : (q : ℕ) (row : Row) → cells_of s q ≡ Full 3 row → value_at row 1 ≡ number (whole_number_of (value_at row 1))
  table_value q row e = number-is 16 271 (value_at row 1) (table_is q row e)

  abbrev of_group : ℕ → ℕ → Bool
  of_group m = has_at (λ (x : PlacedRow). nat_eq (number_at 1 x) (16 + m)) 3 (cells_of s)

  abbrev of_below : ℕ → ℕ → Bool
  of_below m = has_at (λ (x : PlacedRow). nat_lt (number_at 1 x) (16 + m)) 3 (cells_of s)

  none_below : (q : ℕ) → of_below 0 q ≡ false
  none_below q = false_from_ne_true (of_below 0 q) (λ y.
      let x : (row : Row) × (cells_of s q ≡ Full 3 row) × (nat_lt (whole_number_of (value_at row 1)) (16 + 0) ≡ true) = has-row (λ (x : PlacedRow). nat_lt (number_at 1 x) (16 + 0)) 3 (cells_of s) q y in
      let k : ℕ = whole_number_of (value_at (x.0) 1) in
      let low : 16 ≤ k = (number-range 16 271 (value_at (x.0) 1) (table_is q (x.0) (x.1))).0 in
      let less : k < 16 + 0 = ltb-true k (16 + 0) (x.2) in omega (arith, low, less))

  one_more : (m q : ℕ) → of_below (suc m) q ≡ true → (of_below m q ≡ true) ⊎ (of_group m q ≡ true)
  one_more m q y =
      let x : (row : Row) × (cells_of s q ≡ Full 3 row) × (nat_lt (whole_number_of (value_at row 1)) (16 + suc m) ≡ true) = has-row (λ (x : PlacedRow). nat_lt (number_at 1 x) (16 + suc m)) 3 (cells_of s) q y in
      let k : ℕ = whole_number_of (value_at (x.0) 1) in
      let less : k < 16 + suc m = ltb-true k (16 + suc m) (x.2) in
      elim (cases_order k (16 + m)) [
        | inl same ↦ inr (row-has (λ (x : PlacedRow). nat_eq (number_at 1 x) (16 + m)) 3 (cells_of s) q (x.0) (x.1) (eq-eqb k (16 + m) same))
        | inr (inl fewer) ↦ inl (row-has (λ (x : PlacedRow). nat_lt (number_at 1 x) (16 + m)) 3 (cells_of s) q (x.0) (x.1) (lt-ltb k (16 + m) fewer))
        | inr (inr more) ↦ absurd (omega (arith, less, more))
      ]

  -- Before a row of a group there are fewer than eight of it.
  before_each : (m q : ℕ) → of_group m q ≡ true → tally (λ x. of_group m x && nat_lt x q) ns < 8
  before_each m q y =
      let x : (row : Row) × (cells_of s q ≡ Full 3 row) × (nat_eq (whole_number_of (value_at row 1)) (16 + m) ≡ true) = has-row (λ (x : PlacedRow). nat_eq (number_at 1 x) (16 + m)) 3 (cells_of s) q y in
      let value : value_at (x.0) 1 ≡ number (16 + m) = table_value q (x.0) (x.1) ∙ ap number (eqb-true (whole_number_of (value_at (x.0) 1)) (16 + m) (x.2)) in
      let few : grouped (is_before q) Indexes (x.0) (bound s) (cells_of s) < 8
      = subst (λ (k : ℕ). k < 8) (count-grouped (is_before q) Indexes (x.0) (bound s) (cells_of s)) (leb-false 8 _ ((g.follow Indexes q (x.0) (x.1)).limit)) in
      let less : tally (λ r. of_group m r && nat_lt r q) ns ≤ grouped (is_before q) Indexes (x.0) (bound s) (cells_of s)
      = tally-fewer (λ r. of_group m r && nat_lt r q) (has_at (λ (z : PlacedRow). group Indexes (x.0) z && is_before q z) 3 (cells_of s)) ns (λ r k.
      let both : (of_group m r ≡ true) × (nat_lt r q ≡ true) = and_parts (of_group m r) (nat_lt r q) k in
      let z : (row : Row) × (cells_of s r ≡ Full 3 row) × (nat_eq (whole_number_of (value_at row 1)) (16 + m) ≡ true) = has-row (λ (x : PlacedRow). nat_eq (number_at 1 x) (16 + m)) 3 (cells_of s) r (both.0) in
      let same : value_at (z.0) 1 ≡ number (16 + m) = table_value r (z.0) (z.1) ∙ ap number (eqb-true (whole_number_of (value_at (z.0) 1)) (16 + m) (z.2)) in
      row-has (λ (z : PlacedRow). group Indexes (x.0) z && is_before q z) 3 (cells_of s) r (z.0) (z.1)
      (and_from (group Indexes (x.0) (r, z.0)) (nat_lt r q)
      (ap (λ v. same_values (v ∷ []) (values_at (1 ∷ []) (x.0))) (same ∙ sym value) ∙ same_values-self (values_at (1 ∷ []) (x.0))) (both.1))) in
      omega (arith, few, less)

  eight_most : (m : ℕ) → tally (of_group m) ns ≤ 8
  eight_most m = tally-limit (of_group m) 8 (bound s) (λ q y. before_each m q y)

  all_below : (q : ℕ) → has_at (λ (x : PlacedRow). true) 3 (cells_of s) q ≡ true → of_below 256 q ≡ true
  all_below q y =
      let x : (row : Row) × (cells_of s q ≡ Full 3 row) × (true ≡ true) = has-row (λ (x : PlacedRow). true) 3 (cells_of s) q y in
      let k : ℕ = whole_number_of (value_at (x.0) 1) in
      let high : k ≤ 271 = (number-range 16 271 (value_at (x.0) 1) (table_is q (x.0) (x.1))).1 in
      row-has (λ (x : PlacedRow). nat_lt (number_at 1 x) (16 + 256)) 3 (cells_of s) q (x.0) (x.1) (lt-ltb k (16 + 256) (omega (arith, high)))

  -- Where a table has fewer than eight indexes, there are fewer than 2048.
  pub few-indexes : (id : ℕ) → 16 ≤ id → id ≤ 271 → count_by (λ (r : PlacedRow). number_at 1 r == id) (system_rows 3 s) < 8 → count_by (λ (x : PlacedRow). true) (system_rows 3 s) < 2048
  few-indexes id l m few =
      let j : ℕ = id - 16 in
      let is : 16 + j ≡ id = omega (arith, l) in
      let group_few : tally (of_group j) ns < 8
      = subst (λ (k : ℕ). tally (has_at (λ (x : PlacedRow). nat_eq (number_at 1 x) k) 3 (cells_of s)) ns < 8) (sym is) (subst (λ (k : ℕ). k < 8) (count-rows (λ (r : PlacedRow). number_at 1 r == id) 3 (bound s) (cells_of s)) few) in
      let all : tally (of_below 256) ns + 1 ≤ 8 * 256 = fewer-all of_group of_below ns none_below one_more eight_most j 256 (omega (arith, group_few)) (omega (arith, l, m)) in
      let more : tally (has_at (λ (x : PlacedRow). true) 3 (cells_of s)) ns ≤ tally (of_below 256) ns = tally-fewer (has_at (λ (x : PlacedRow). true) 3 (cells_of s)) (of_below 256) ns all_below in
      let e : count_by (λ (x : PlacedRow). true) (system_rows 3 s) ≡ tally (has_at (λ (x : PlacedRow). true) 3 (cells_of s)) ns = count-rows (λ (x : PlacedRow). true) 3 (bound s) (cells_of s) in
      omega (arith, all, more, e)

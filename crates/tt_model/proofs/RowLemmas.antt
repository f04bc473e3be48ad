-- The rows that a statement changes lie in different places, each with what its session sees there.
use Rattle.std.proofs.Common.{◌≡◌, ◌≤◌, ◌+◌, inl, inr, ℕ, zero, suc, Bool, true, false, cond, ◌||◌, nat_eq, List, [], ◌∷◌, filter, Option, Some, None, unwrap_or, refl, sym, ap, ◌∙◌, arith, le_refl, true≢false}
use Rattle.std.proofs.lemmas.Bool.{eq-eqb, eqb-true, or_cases, or_parts, or_left, or_right, false_from_ne_true, both_ways}
use Rattle.std.specs.Prelude.{option_map}
use Rattle.std.specs.List.{list_any, filter_map, cons_option}
use Rattle.std.specs.Ordering.{is_gt}
use Rattle.std.specs.declared.cmp.Ordering.{Ordering}
use Rattle.tt_value.specs.declared.value.Row.{Row}
use Rattle.tt_value.specs.declared.value.Cell.{Cell}
use Rattle.tt_value.specs.declared.value.Cell.TheVariants.{Empty, Full}
use Rattle.tt_model.specs.Committed.{Cells}
use Rattle.tt_model.specs.Live.{numbers_from}
use Rattle.tt_model.specs.Tables.{PlacedRow, row_in, row_at, rows_of, inserted, in_order}

abbrev pub has_place : ℕ → List PlacedRow → Bool
has_place p rows = list_any (λ (r : PlacedRow). nat_eq p (r.0)) rows

abbrev pub AreApartRows : List PlacedRow → Type 0
AreApartRows [] = Unit {0}
AreApartRows (r ∷ rows) = (has_place (r.0) rows ≡ false) × AreApartRows rows

-- Each row lies in its place.
abbrev pub LieIn : ℕ → Cells → List PlacedRow → Type 0
LieIn table cells [] = Unit {0}
LieIn table cells (r ∷ rows) = (cells (r.0) ≡ Full table (r.1)) × LieIn table cells rows

pub record AreRows (table : ℕ) (cells : Cells) (rows : List PlacedRow) : Type 0 where
  pub lie : LieIn table cells rows
  pub apart : AreApartRows rows

-- ---- lists of numbers

-- Places that give nothing give no rows.
pub none_from : {X : Type 0} (g : ℕ → Option X) (n from : ℕ) → ((q : ℕ) → from ≤ q → g q ≡ None) → filter_map g (numbers_from n from) ≡ []
none_from g zero from h = refl
none_from g (suc n) from h = rw (h from (le_refl from)) (none_from g n (suc from) (λ q l. h q (omega (arith, l))))

-- Where the first places alone give something, the others don't matter.
pub first_from : {X : Type 0} (g : ℕ → Option X) (a n from : ℕ) → a ≤ n → ((q : ℕ) → a + from ≤ q → g q ≡ None) → filter_map g (numbers_from n from) ≡ filter_map g (numbers_from a from)
first_from g zero n from l h = none_from g n from (λ q k. h q (omega (arith, k)))
first_from g (suc a) zero from l h = absurd (omega (arith, l))
first_from {X} g (suc a) (suc n) from l h = ap (λ (rows : List X). cons_option (g from) rows) (first_from g a n (suc from) (omega (arith, l)) (λ q k. h q (omega (arith, k))))

-- ---- the rows of a table

in_cell_same : (table u : ℕ) (row found : Row) (c : Bool) → nat_eq table u ≡ c → cond c (Some found) None ≡ Some row → Full u found ≡ Full table row
in_cell_same table u row found true e h =
    let same_table : table ≡ u = eqb-true table u e in
    let same_row : found ≡ row = ap (λ o. unwrap_or o found) h in
    cc
in_cell_same table u row found false e h = let no : ⊥ = cc in absurd no

pub in_cell : (table : ℕ) (c : Cell) (row : Row) → row_in table c ≡ Some row → c ≡ Full table row
in_cell table Empty row h = let no : ⊥ = cc in absurd no
in_cell table (Full u found) row h = in_cell_same table u row found (nat_eq table u) refl h

-- The places of rows among ascending numbers are no less than the first.
abbrev from_on : ℕ → List PlacedRow → Type 0
from_on n rows = (p : ℕ) → has_place p rows ≡ true → n ≤ p

abbrev with_row : ℕ → Option Row → List PlacedRow → List PlacedRow
with_row p o rows = cons_option (option_map (λ row. (p, row)) o) rows

step_from : (p : ℕ) (o : Option Row) (rows : List PlacedRow) → from_on (suc p) rows → from_on p (with_row p o rows)
step_from p None rows ih q h = let low : suc p ≤ q = ih q h in omega (arith, low)
step_from p (Some row) rows ih q h = elim (or_cases (nat_eq q p) (has_place q rows) h) [
  | inl y ↦ let e : q ≡ p = eqb-true q p y in omega (arith, e)
  | inr y ↦ let low : suc p ≤ q = ih q y in omega (arith, low)
]

not_there : (p : ℕ) (rows : List PlacedRow) → from_on (suc p) rows → has_place p rows ≡ false
not_there p rows ih = false_from_ne_true (has_place p rows) (λ y. let low : suc p ≤ p = ih p y in omega (arith, low))

step_rows : (table : ℕ) (cells : Cells) (p : ℕ) (o : Option Row) (rows : List PlacedRow) → row_in table (cells p) ≡ o → from_on (suc p) rows →
    AreRows table cells rows → AreRows table cells (with_row p o rows)
step_rows table cells p None rows e low r = r
step_rows table cells p (Some row) rows e low r = record {
  lie = (in_cell table (cells p) row e, r.lie);
  apart = (not_there p rows low, r.apart);
}

pub from_on-list : (table : ℕ) (cells : Cells) (n from : ℕ) → from_on from (filter_map (row_at table cells) (numbers_from n from))
from_on-list table cells zero from p h = absurd (true≢false (sym h))
from_on-list table cells (suc n) from p h =
    step_from from (row_in table (cells from)) (filter_map (row_at table cells) (numbers_from n (suc from))) (from_on-list table cells n (suc from)) p h

are_rows-list : (table : ℕ) (cells : Cells) (n from : ℕ) → AreRows table cells (filter_map (row_at table cells) (numbers_from n from))
are_rows-list table cells zero from = record { lie = tt; apart = tt }
are_rows-list table cells (suc n) from =
    step_rows table cells from (row_in table (cells from)) (filter_map (row_at table cells) (numbers_from n (suc from))) refl
    (from_on-list table cells n (suc from)) (are_rows-list table cells n (suc from))

pub are_rows-rows_of : (table bound : ℕ) (cells : Cells) → AreRows table cells (rows_of table bound cells)
unfolding rows_of
are_rows-rows_of table bound cells = are_rows-list table cells bound 0

-- ---- fewer rows, and rows in an order

had_place : (f : PlacedRow → Bool) (p : ℕ) (rows : List PlacedRow) → has_place p (filter f rows) ≡ true → has_place p rows ≡ true
had_place f p [] h = h
had_place f p (r ∷ rows) h = had_step (nat_eq p (r.0)) (has_place p rows) (had_place f p rows) (f r) h
  where
    had_step : (here more : Bool) → (has_place p (filter f rows) ≡ true → more ≡ true) → (c : Bool) →
        has_place p (cond c (r ∷ filter f rows) (filter f rows)) ≡ true → (nat_eq p (r.0) || more) ≡ true
    had_step here more ih true h = elim (or_cases (nat_eq p (r.0)) (has_place p (filter f rows)) h) [
      | inl y ↦ or_left (nat_eq p (r.0)) more y
      | inr y ↦ or_right (nat_eq p (r.0)) more (ih y)
    ]
    had_step here more ih false h = or_right (nat_eq p (r.0)) more (ih h)

no_place : (f : PlacedRow → Bool) (p : ℕ) (rows : List PlacedRow) → has_place p rows ≡ false → has_place p (filter f rows) ≡ false
no_place f p rows n = false_from_ne_true (has_place p (filter f rows)) (λ y. both_ways (has_place p rows) n (had_place f p rows y))

filter_step : (table : ℕ) (cells : Cells) (f : PlacedRow → Bool) (r : PlacedRow) (rows : List PlacedRow) → AreRows table cells (r ∷ rows) →
    AreRows table cells (filter f rows) → (c : Bool) → AreRows table cells (cond c (r ∷ filter f rows) (filter f rows))
filter_step table cells f r rows h ih true = record { lie = ((h.lie).0, ih.lie); apart = (no_place f (r.0) rows ((h.apart).0), ih.apart) }
filter_step table cells f r rows h ih false = ih

pub are_rows-filter : (table : ℕ) (cells : Cells) (f : PlacedRow → Bool) (rows : List PlacedRow) → AreRows table cells rows → AreRows table cells (filter f rows)
are_rows-filter table cells f [] h = h
are_rows-filter table cells f (r ∷ rows) h =
    filter_step table cells f r rows h (are_rows-filter table cells f rows (record { lie = (h.lie).1; apart = (h.apart).1 })) (f r)

or_swap : (a b c : Bool) → (a || (b || c)) ≡ (b || (a || c))
or_swap true true c = refl
or_swap true false c = refl
or_swap false b c = refl

inserted_place : (cmp : PlacedRow → PlacedRow → Ordering) (p : ℕ) (x y : PlacedRow) (ys : List PlacedRow) →
    has_place p (inserted cmp x ys) ≡ (nat_eq p (x.0) || has_place p ys) →
    (c : Bool) → has_place p (cond c (y ∷ inserted cmp x ys) (x ∷ y ∷ ys)) ≡ (nat_eq p (x.0) || (nat_eq p (y.0) || has_place p ys))
inserted_place cmp p x y ys ih true = ap (λ b. nat_eq p (y.0) || b) ih ∙ or_swap (nat_eq p (y.0)) (nat_eq p (x.0)) (has_place p ys)
inserted_place cmp p x y ys ih false = refl

has_place-inserted : (cmp : PlacedRow → PlacedRow → Ordering) (p : ℕ) (x : PlacedRow) (ys : List PlacedRow) →
    has_place p (inserted cmp x ys) ≡ (nat_eq p (x.0) || has_place p ys)
has_place-inserted cmp p x [] = refl
has_place-inserted cmp p x (y ∷ ys) = inserted_place cmp p x y ys (has_place-inserted cmp p x ys) (is_gt (cmp x y))

has_place-in_order : (cmp : PlacedRow → PlacedRow → Ordering) (p : ℕ) (xs : List PlacedRow) → has_place p (in_order cmp xs) ≡ has_place p xs
has_place-in_order cmp p [] = refl
has_place-in_order cmp p (x ∷ xs) = has_place-inserted cmp p x (in_order cmp xs) ∙ ap (λ b. nat_eq p (x.0) || b) (has_place-in_order cmp p xs)

pub flipped : (p q : ℕ) → nat_eq p q ≡ false → nat_eq q p ≡ false
flipped p q n = false_from_ne_true (nat_eq q p) (λ y. both_ways (nat_eq p q) n (eq-eqb p q (sym (eqb-true q p y))))

inserted_rows : (table : ℕ) (cells : Cells) (cmp : PlacedRow → PlacedRow → Ordering) (x y : PlacedRow) (ys : List PlacedRow) →
    cells (x.0) ≡ Full table (x.1) → has_place (x.0) (y ∷ ys) ≡ false → AreRows table cells (y ∷ ys) → AreRows table cells (inserted cmp x ys) →
    (c : Bool) → AreRows table cells (cond c (y ∷ inserted cmp x ys) (x ∷ y ∷ ys))
inserted_rows table cells cmp x y ys lies new h ih true =
    let parts : (nat_eq (x.0) (y.0) ≡ false) × (has_place (x.0) ys ≡ false) = or_parts (nat_eq (x.0) (y.0)) (has_place (x.0) ys) new in
    record {
      lie = ((h.lie).0, ih.lie);
      apart = (has_place-inserted cmp (y.0) x ys ∙ (ap (λ b. b || has_place (y.0) ys) (flipped (x.0) (y.0) (parts.0)) ∙ (h.apart).0), ih.apart);
    }
inserted_rows table cells cmp x y ys lies new h ih false = record { lie = (lies, h.lie); apart = (new, h.apart) }

are_rows-inserted : (table : ℕ) (cells : Cells) (cmp : PlacedRow → PlacedRow → Ordering) (x : PlacedRow) (ys : List PlacedRow) →
    cells (x.0) ≡ Full table (x.1) → has_place (x.0) ys ≡ false → AreRows table cells ys → AreRows table cells (inserted cmp x ys)
are_rows-inserted table cells cmp x [] lies new h = record { lie = (lies, tt); apart = (refl, tt) }
are_rows-inserted table cells cmp x (y ∷ ys) lies new h =
    inserted_rows table cells cmp x y ys lies new h
    (are_rows-inserted table cells cmp x ys lies ((or_parts (nat_eq (x.0) (y.0)) (has_place (x.0) ys) new).1) (record { lie = (h.lie).1; apart = (h.apart).1 }))
    (is_gt (cmp x y))

pub are_rows-in_order : (table : ℕ) (cells : Cells) (cmp : PlacedRow → PlacedRow → Ordering) (xs : List PlacedRow) → AreRows table cells xs → AreRows table cells (in_order cmp xs)
are_rows-in_order table cells cmp [] h = h
are_rows-in_order table cells cmp (x ∷ xs) h =
    are_rows-inserted table cells cmp x (in_order cmp xs) ((h.lie).0) (has_place-in_order cmp (x.0) xs ∙ (h.apart).0)
    (are_rows-in_order table cells cmp xs (record { lie = (h.lie).1; apart = (h.apart).1 }))

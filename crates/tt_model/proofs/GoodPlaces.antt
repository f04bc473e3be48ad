-- What lists of a table's rows tell is told of the cells, place by place.
use Rattle.std.proofs.Common.{◌≡◌, ◌≤◌, ◌<◌, ◌+◌, ◌⊎◌, inl, inr, ℕ, zero, suc, Bool, true, false, cond, ◌&&◌, ◌||◌, nat_eq, filter, List, [], ◌∷◌, Option, Some, None, if◌then◌else◌, refl, sym, ap, ◌∙◌, arith, true≢false}
use Rattle.std.proofs.lemmas.Bool.{cases_Bool, eq-eqb, eqb-true, or_cases, or_left, or_right, both_ways, false_from_ne_true}
use Rattle.std.specs.Prelude.{count_by, find, is_some, option_map}
use Rattle.std.proofs.lemmas.List.Sums.{sum_by-cons}
use Rattle.std.specs.List.{list_any, filter_map, cons_option}
use Rattle.tt_value.specs.declared.value.Row.{Row}
use Rattle.tt_value.specs.declared.value.Cell.{Cell}
use Rattle.tt_value.specs.declared.value.Cell.TheVariants.{Full}
use Rattle.tt_model.specs.Committed.{Cells}
use Rattle.tt_model.specs.Live.{numbers_from, numbers_below}
use Rattle.tt_model.specs.Tables.{PlacedRow, row_in, row_at, rows_of}
use Rattle.tt_model.proofs.RowLemmas.{in_cell}

-- ---- tests of places

abbrev pub among : (PlacedRow → Bool) → ℕ → Option Row → Bool
among f q None = false
among f q (Some row) = f (q, row)

-- A row of the table lies at the place and passes the test.
abbrev pub has_at : (PlacedRow → Bool) → ℕ → Cells → ℕ → Bool
has_at f table cells q = among f q (row_in table (cells q))

abbrev with_row : ℕ → Option Row → List PlacedRow → List PlacedRow
with_row q o rows = cons_option (option_map (λ row. (q, row)) o) rows

any_step : (f : PlacedRow → Bool) (q : ℕ) (o : Option Row) (rows : List PlacedRow) → list_any f (with_row q o rows) ≡ (among f q o || list_any f rows)
any_step f q None rows = refl
any_step f q (Some row) rows = refl

any_among : (f : PlacedRow → Bool) (table n from : ℕ) (cells : Cells) → list_any f (filter_map (row_at table cells) (numbers_from n from)) ≡ list_any (has_at f table cells) (numbers_from n from)
any_among f table zero from cells = refl
any_among f table (suc n) from cells =
    any_step f from (row_in table (cells from)) (filter_map (row_at table cells) (numbers_from n (suc from)))
    ∙ ap (λ b. has_at f table cells from || b) (any_among f table n (suc from) cells)

pub any-rows : (f : PlacedRow → Bool) (table bound : ℕ) (cells : Cells) → list_any f (rows_of table bound cells) ≡ list_any (has_at f table cells) (numbers_below bound)
unfolding rows_of
any-rows f table bound cells = any_among f table bound 0 cells

-- How many numbers pass a test.
abbrev pub tally : (ℕ → Bool) → List ℕ → ℕ
tally h [] = 0
tally h (q ∷ ns) = cond (h q) 1 0 + tally h ns

count_step : (f : PlacedRow → Bool) (q : ℕ) (o : Option Row) (rows : List PlacedRow) → count_by f (with_row q o rows) ≡ (cond (among f q o) 1 0 + count_by f rows)
count_step f q None rows = omega arith
count_step f q (Some row) rows = sum_by-cons (λ (x : PlacedRow). cond (f x) 1 0) (q, row) rows

count_among : (f : PlacedRow → Bool) (table n from : ℕ) (cells : Cells) → count_by f (filter_map (row_at table cells) (numbers_from n from)) ≡ tally (has_at f table cells) (numbers_from n from)
count_among f table zero from cells = refl
count_among f table (suc n) from cells =
    count_step f from (row_in table (cells from)) (filter_map (row_at table cells) (numbers_from n (suc from)))
    ∙ ap (λ k. cond (has_at f table cells from) 1 0 + k) (count_among f table n (suc from) cells)

pub count-rows : (f : PlacedRow → Bool) (table bound : ℕ) (cells : Cells) → count_by f (rows_of table bound cells) ≡ tally (has_at f table cells) (numbers_below bound)
unfolding rows_of
count-rows f table bound cells = count_among f table bound 0 cells

-- ---- among numbers in a row

pub any-passes : (h : ℕ → Bool) (n from : ℕ) → list_any h (numbers_from n from) ≡ true → (q : ℕ) × (h q ≡ true) × (from ≤ q) × (q < from + n)
any-passes h zero from e = absurd (true≢false (sym e))
any-passes h (suc n) from e = elim (or_cases (h from) (list_any h (numbers_from n (suc from))) e) [
  | inl y ↦ (from, y, omega arith, omega arith)
  | inr y ↦
      let more : (q : ℕ) × (h q ≡ true) × (suc from ≤ q) × (q < suc from + n) = any-passes h n (suc from) y in
      let low : suc from ≤ more.0 = more.2 in
      let high : more.0 < suc from + n = more.3 in
      (more.0, more.1, omega (arith, low), omega (arith, high))
]

pub passes-any : (h : ℕ → Bool) (q n from : ℕ) → h q ≡ true → from ≤ q → q < from + n → list_any h (numbers_from n from) ≡ true
passes-any h q zero from e l m = absurd (omega (arith, l, m))
passes-any h q (suc n) from e l m = elim (cases_Bool (nat_eq q from)) [
  | inl y ↦ or_left (h from) (list_any h (numbers_from n (suc from))) (ap h (sym (eqb-true q from y)) ∙ e)
  | inr d ↦
      or_right (h from) (list_any h (numbers_from n (suc from)))
      (passes-any h q n (suc from) e (above from q l d) (omega (arith, m)))
]
  where
    above : (from q : ℕ) → from ≤ q → nat_eq q from ≡ false → suc from ≤ q
    above from q l n = grind (arith, l, n)

-- ---- counts

more_step : (a b c : Bool) (x y z : ℕ) → (a ≡ true → (b ≡ true) ⊎ (c ≡ true)) → x ≤ y + z → cond a 1 0 + x ≤ (cond b 1 0 + y) + (cond c 1 0 + z)
more_step false false false x y z h l = omega (arith, l)
more_step false false true x y z h l = omega (arith, l)
more_step false true false x y z h l = omega (arith, l)
more_step false true true x y z h l = omega (arith, l)
more_step true true false x y z h l = omega (arith, l)
more_step true false true x y z h l = omega (arith, l)
more_step true true true x y z h l = omega (arith, l)
more_step true false false x y z h l = elim (h refl) [ inl y ↦ absurd (true≢false (sym y)) | inr y ↦ absurd (true≢false (sym y)) ]

-- What passes a test passes one of two others.
pub tally-two : (h k l : ℕ → Bool) (ns : List ℕ) → ((q : ℕ) → h q ≡ true → (k q ≡ true) ⊎ (l q ≡ true)) → tally h ns ≤ tally k ns + tally l ns
tally-two h k l [] m = omega arith
tally-two h k l (q ∷ ns) m = more_step (h q) (k q) (l q) (tally h ns) (tally k ns) (tally l ns) (m q) (tally-two h k l ns m)

fewer_step : (a b : Bool) (x y : ℕ) → (a ≡ true → b ≡ true) → x ≤ y → cond a 1 0 + x ≤ cond b 1 0 + y
fewer_step false false x y h l = omega (arith, l)
fewer_step false true x y h l = omega (arith, l)
fewer_step true true x y h l = omega (arith, l)
fewer_step true false x y h l = absurd (true≢false (sym (h refl)))

pub tally-fewer : (h k : ℕ → Bool) (ns : List ℕ) → ((q : ℕ) → h q ≡ true → k q ≡ true) → tally h ns ≤ tally k ns
tally-fewer h k [] m = omega arith
tally-fewer h k (q ∷ ns) m = fewer_step (h q) (k q) (tally h ns) (tally k ns) (m q) (tally-fewer h k ns m)

apart_step : (a b c : Bool) (x y z : ℕ) → (a ≡ true → c ≡ true) → (b ≡ true → c ≡ true) → (a ≡ true → b ≡ true → ⊥) → x + y ≤ z → (cond a 1 0 + x) + (cond b 1 0 + y) ≤ cond c 1 0 + z
apart_step false false false x y z f g d l = omega (arith, l)
apart_step false false true x y z f g d l = omega (arith, l)
apart_step true false true x y z f g d l = omega (arith, l)
apart_step false true true x y z f g d l = omega (arith, l)
apart_step true b false x y z f g d l = absurd (true≢false (sym (f refl)))
apart_step false true false x y z f g d l = absurd (true≢false (sym (g refl)))
apart_step true true true x y z f g d l = absurd (d refl refl)

-- Two tests that nothing passes both.
pub tally-apart : (h k l : ℕ → Bool) (ns : List ℕ) → ((q : ℕ) → h q ≡ true → l q ≡ true) → ((q : ℕ) → k q ≡ true → l q ≡ true) → ((q : ℕ) → h q ≡ true → k q ≡ true → ⊥) →
    tally h ns + tally k ns ≤ tally l ns
tally-apart h k l [] f g d = omega arith
tally-apart h k l (q ∷ ns) f g d =
    apart_step (h q) (k q) (l q) (tally h ns) (tally k ns) (tally l ns) (f q) (g q) (d q) (tally-apart h k l ns f g d)

none_below : (p n from : ℕ) → p < from → tally (nat_eq p) (numbers_from n from) ≡ 0
none_below p zero from l = refl
none_below p (suc n) from l =
    let rest : tally (nat_eq p) (numbers_from n (suc from)) ≡ 0 = none_below p n (suc from) (omega (arith, l)) in
    let other : nat_eq p from ≡ false = false_from_ne_true (nat_eq p from) (λ y. let same : p ≡ from = eqb-true p from y in omega (arith, l, same)) in
    ap (λ b. cond b 1 0 + tally (nat_eq p) (numbers_from n (suc from))) other ∙ omega (arith, rest)

one_step : (p n from : ℕ) → tally (nat_eq p) (numbers_from n (suc from)) ≤ 1 → (c : Bool) → nat_eq p from ≡ c → cond c 1 0 + tally (nat_eq p) (numbers_from n (suc from)) ≤ 1
one_step p n from l false e = omega (arith, l)
one_step p n from l true e =
    let same : p ≡ from = eqb-true p from e in
    let rest : tally (nat_eq p) (numbers_from n (suc from)) ≡ 0 = none_below p n (suc from) (omega (arith, same)) in omega (arith, rest)

-- A number stands there once.
pub tally-one : (p n from : ℕ) → tally (nat_eq p) (numbers_from n from) ≤ 1
tally-one p zero from = omega arith
tally-one p (suc n) from = one_step p n from (tally-one p n (suc from)) (nat_eq p from) refl

once_step : (k p n from : ℕ) → (c : Bool) → nat_eq p from ≡ c → (nat_eq p from ≡ false → 1 ≤ k) → 1 ≤ cond c 1 0 + k
once_step k p n from true e f = omega arith
once_step k p n from false e f = let more : 1 ≤ k = f e in omega (arith, more)

pub tally-there : (p n from : ℕ) → from ≤ p → p < from + n → 1 ≤ tally (nat_eq p) (numbers_from n from)
tally-there p zero from l m = absurd (omega (arith, l, m))
tally-there p (suc n) from l m =
    once_step (tally (nat_eq p) (numbers_from n (suc from))) p n from (nat_eq p from) refl
    (λ d. tally-there p n (suc from) (above from p l d) (omega (arith, m)))
  where
    above : (from q : ℕ) → from ≤ q → nat_eq q from ≡ false → suc from ≤ q
    above from q l n = grind (arith, l, n)

-- ---- filtered rows

filter_step : {X : Type 0} (f g : X → Bool) (x : X) (xs : List X) → list_any f (filter g xs) ≡ list_any (λ x. g x && f x) xs →
    (c : Bool) → list_any f (cond c (x ∷ filter g xs) (filter g xs)) ≡ (c && f x || list_any (λ x. g x && f x) xs)
filter_step f g x xs ih true = ap (λ b. f x || b) ih
filter_step f g x xs ih false = ih

pub any-filter : {X : Type 0} (f g : X → Bool) (xs : List X) → list_any f (filter g xs) ≡ list_any (λ x. g x && f x) xs
any-filter f g [] = refl
any-filter f g (x ∷ xs) = filter_step f g x xs (any-filter f g xs) (g x)

count_filter_step : {X : Type 0} (f g : X → Bool) (x : X) (xs : List X) → count_by f (filter g xs) ≡ count_by (λ x. g x && f x) xs →
    (c : Bool) → count_by f (cond c (x ∷ filter g xs) (filter g xs)) ≡ cond (c && f x) 1 0 + count_by (λ x. g x && f x) xs
count_filter_step f g x xs ih true = sum_by-cons (λ y. cond (f y) 1 0) x (filter g xs) ∙ ap (λ k. cond (f x) 1 0 + k) ih
count_filter_step f g x xs ih false = ih ∙ omega arith

pub count-filter : {X : Type 0} (f g : X → Bool) (xs : List X) → count_by f (filter g xs) ≡ count_by (λ x. g x && f x) xs
count-filter f g [] = refl
count-filter f g (x ∷ xs) = count_filter_step f g x xs (count-filter f g xs) (g x) ∙ sym (sum_by-cons (λ y. cond (g y && f y) 1 0) x xs)

-- A row that passes a test, at its place.
abbrev pub kept_at : (PlacedRow → Bool) → ℕ → Option Row → Option PlacedRow
kept_at f q None = None
kept_at f q (Some row) = if f (q, row) then Some (q, row) else None

kept_step : (f : PlacedRow → Bool) (q : ℕ) (o : Option Row) (rows more : List PlacedRow) → filter f rows ≡ more → filter f (with_row q o rows) ≡ cons_option (kept_at f q o) more
kept_step f q None rows more h = h
kept_step f q (Some row) rows more h = by_test (f (q, row))
  where
    by_test : (c : Bool) → cond c ((q, row) ∷ filter f rows) (filter f rows) ≡ cons_option (if c then Some (q, row) else None) more
    by_test true = ap (λ (xs : List PlacedRow). (q, row) ∷ xs) h
    by_test false = h

kept_among : (f : PlacedRow → Bool) (table n from : ℕ) (cells : Cells) →
    filter f (filter_map (row_at table cells) (numbers_from n from)) ≡ filter_map (λ q. kept_at f q (row_in table (cells q))) (numbers_from n from)
kept_among f table zero from cells = refl
kept_among f table (suc n) from cells =
    kept_step f from (row_in table (cells from)) (filter_map (row_at table cells) (numbers_from n (suc from))) (filter_map (λ q. kept_at f q (row_in table (cells q))) (numbers_from n (suc from)))
    (kept_among f table n (suc from) cells)

pub filter-rows : (f : PlacedRow → Bool) (table bound : ℕ) (cells : Cells) → filter f (rows_of table bound cells) ≡ filter_map (λ q. kept_at f q (row_in table (cells q))) (numbers_below bound)
unfolding rows_of
filter-rows f table bound cells = kept_among f table bound 0 cells

-- Two maps of cells with the same rows of a table that pass.
pub filter-same : (f : PlacedRow → Bool) (table bound : ℕ) (c d : Cells) → ((q : ℕ) → kept_at f q (row_in table (d q)) ≡ kept_at f q (row_in table (c q))) →
    filter f (rows_of table bound d) ≡ filter f (rows_of table bound c)
filter-same f table bound c d h =
    filter-rows f table bound d ∙ (ap (λ (g : ℕ → Option PlacedRow). filter_map g (numbers_below bound)) (λ i q. h q i) ∙ sym (filter-rows f table bound c))

-- Two maps of cells with the same rows of a table.
pub rows-same : (table bound : ℕ) (c d : Cells) → ((q : ℕ) → row_in table (d q) ≡ row_in table (c q)) → rows_of table bound d ≡ rows_of table bound c
unfolding rows_of
rows-same table bound c d h = ap (λ (g : ℕ → Option PlacedRow). filter_map g (numbers_below bound)) (λ i q. option_map (λ row. (q, row)) (h q i))

-- ---- rows that are there

in_own : (table : ℕ) (row : Row) → row_in table (Full table row) ≡ Some row
in_own table row = ap (λ b. if b then Some row else None) (eq-eqb table table refl)

pub row-in : (table : ℕ) (c : Cell) (row : Row) → c ≡ Full table row → row_in table c ≡ Some row
row-in table c row e = ap (row_in table) e ∙ in_own table row

passes_row : (f : PlacedRow → Bool) (table q : ℕ) (c : Cell) (o : Option Row) → row_in table c ≡ o → among f q o ≡ true → (row : Row) × (c ≡ Full table row) × (f (q, row) ≡ true)
passes_row f table q c None e h = absurd (true≢false (sym h))
passes_row f table q c (Some row) e h = (row, in_cell table c row e, h)

pub has-row : (f : PlacedRow → Bool) (table : ℕ) (cells : Cells) (q : ℕ) → has_at f table cells q ≡ true → (row : Row) × (cells q ≡ Full table row) × (f (q, row) ≡ true)
has-row f table cells q h = passes_row f table q (cells q) (row_in table (cells q)) refl h

pub row-has : (f : PlacedRow → Bool) (table : ℕ) (cells : Cells) (q : ℕ) (row : Row) → cells q ≡ Full table row → f (q, row) ≡ true → has_at f table cells q ≡ true
row-has f table cells q row e h = ap (among f q) (row-in table (cells q) row e) ∙ h

-- A row that passes, with its place.
pub record IsThere (f : PlacedRow → Bool) (table bound : ℕ) (cells : Cells) : Type 0 where
  pub at : ℕ
  pub row : Row
  pub lies : cells at ≡ Full table row
  pub passes : f (at, row) ≡ true
  pub low : at < bound

pub any-there : (f : PlacedRow → Bool) (table bound : ℕ) (cells : Cells) → list_any f (rows_of table bound cells) ≡ true → IsThere f table bound cells
any-there f table bound cells h =
    let found : (q : ℕ) × (has_at f table cells q ≡ true) × (0 ≤ q) × (q < 0 + bound) = any-passes (has_at f table cells) bound 0 (sym (any-rows f table bound cells) ∙ h) in
    let row : (row : Row) × (cells (found.0) ≡ Full table row) × (f (found.0, row) ≡ true) = has-row f table cells (found.0) (found.1) in
    let high : found.0 < 0 + bound = found.3 in
    record { at = found.0; row = row.0; lies = row.1; passes = row.2; low = omega (arith, high) }

pub there-any : (f : PlacedRow → Bool) (table bound : ℕ) (cells : Cells) (q : ℕ) (row : Row) → cells q ≡ Full table row → f (q, row) ≡ true → q < bound → list_any f (rows_of table bound cells) ≡ true
there-any f table bound cells q row e h l =
    any-rows f table bound cells ∙ passes-any (has_at f table cells) q bound 0 (row-has f table cells q row e h) (omega arith) (omega (arith, l))

pub any-none : (f : PlacedRow → Bool) (table bound : ℕ) (cells : Cells) → (IsThere f table bound cells → ⊥) → list_any f (rows_of table bound cells) ≡ false
any-none f table bound cells h = false_from_ne_true (list_any f (rows_of table bound cells)) (λ y. h (any-there f table bound cells y))

pub none-there : (f : PlacedRow → Bool) (table bound : ℕ) (cells : Cells) (q : ℕ) (row : Row) → list_any f (rows_of table bound cells) ≡ false → cells q ≡ Full table row → q < bound → f (q, row) ≡ false
none-there f table bound cells q row n e l = false_from_ne_true (f (q, row)) (λ y. both_ways (list_any f (rows_of table bound cells)) n (there-any f table bound cells q row e y l))

-- What is found is what is there.
found_step : {X : Type 0} (p : X → Bool) (x : X) (o : Option X) (more : Bool) → is_some o ≡ more → (c : Bool) → is_some (cond c (Some x) o) ≡ (c || more)
found_step p x o more e true = refl
found_step p x o more e false = e

pub found-any : {X : Type 0} (p : X → Bool) (xs : List X) → is_some (find p xs) ≡ list_any p xs
found-any p [] = refl
found-any p (x ∷ xs) = found_step p x (find p xs) (list_any p xs) (found-any p xs) (p x)

-- The least number that isn't used, and how many indexes there are at most.
use Rattle.std.proofs.Common.{◌≡◌, ◌<◌, ◌≤◌, ◌+◌, ◌*◌, ◌⊎◌, inl, inr, ℕ, zero, suc, Bool, true, false, cond, ◌&&◌, nat_eq, find, map, List, [], ◌∷◌, Option, Some, None, unwrap_or, length, refl, sym, ap, ◌∙◌, subst, arith}
use Rattle.std.proofs.lemmas.Bool.{lt-ltb, le-ltb, cases_order}
use Rattle.std.proofs.lemmas.List.Sums.{sum_by-cons}
use Rattle.std.specs.Prelude.{nat_lt, not, count_by}
use Rattle.std.specs.List.{list_any}
use Rattle.std.specs.Ordering.{is_gt}
use Rattle.std.specs.declared.cmp.Ordering.{Ordering}
use Rattle.tt_model.specs.Live.{numbers_from, numbers_below}
use Rattle.tt_model.specs.Tables.{inserted, in_order}
use Rattle.tt_model.specs.System.{least_unused}
use Rattle.tt_model.proofs.GoodPlaces.{tally, tally-two}

-- ---- the least number that isn't used

find_range : (p : ℕ → Bool) (n from x : ℕ) → find p (numbers_from n from) ≡ Some x → (from ≤ x) × (x < from + n)
find_range p zero from x h = let no_number : ⊥ = cc in absurd no_number
find_range p (suc n) from x h = by_test p n from x (find_range p n (suc from) x) (p from) h
  where
    by_test : (p : ℕ → Bool) (n from x : ℕ) → (find p (numbers_from n (suc from)) ≡ Some x → (suc from ≤ x) × (x < suc from + n)) → (b : Bool) → cond b (Some from) (find p (numbers_from n (suc from))) ≡ Some x →
        (from ≤ x) × (x < from + suc n)
    by_test p n from x ih true e = let same : from ≡ x = ap (λ o. unwrap_or o from) e in (omega (arith, same), omega (arith, same))
    by_test p n from x ih false e =
        let both : (suc from ≤ x) × (x < suc from + n) = ih e in
        let low : suc from ≤ x = both.0 in
        let high : x < suc from + n = both.1 in (omega (arith, low), omega (arith, high))

pub least_unused-range : (from : ℕ) (used : List ℕ) → (from ≤ least_unused from used) × (least_unused from used ≤ from + length used)
least_unused-range from used = by_found (find (λ n. not (list_any (nat_eq n) used)) (numbers_from (suc (length used)) from)) refl
  where
    by_found : (o : Option ℕ) → find (λ n. not (list_any (nat_eq n) used)) (numbers_from (suc (length used)) from) ≡ o → (from ≤ unwrap_or o from) × (unwrap_or o from ≤ from + length used)
    by_found None e = (omega arith, omega arith)
    by_found (Some x) e =
        let both : (from ≤ x) × (x < from + suc (length used)) = find_range (λ n. not (list_any (nat_eq n) used)) (suc (length used)) from x e in
        let high : x < from + suc (length used) = both.1 in (both.0, omega (arith, high))

-- ---- counts in an order

cond_swap : (a b : Bool) (k : ℕ) → cond a 1 0 + (cond b 1 0 + k) ≡ cond b 1 0 + (cond a 1 0 + k)
cond_swap a b k = omega arith

count_inserted : {X : Type 0} (f : X → Bool) (cmp : X → X → Ordering) (x y : X) (ys : List X) → count_by f (inserted cmp x ys) ≡ cond (f x) 1 0 + count_by f ys →
    (b : Bool) → count_by f (cond b (y ∷ inserted cmp x ys) (x ∷ y ∷ ys)) ≡ cond (f x) 1 0 + count_by f (y ∷ ys)
count_inserted f cmp x y ys ih true =
    sum_by-cons (λ z. cond (f z) 1 0) y (inserted cmp x ys)
    ∙ (ap (λ k. cond (f y) 1 0 + k) ih ∙ (cond_swap (f y) (f x) (count_by f ys) ∙ ap (λ k. cond (f x) 1 0 + k) (sym (sum_by-cons (λ z. cond (f z) 1 0) y ys))))
count_inserted f cmp x y ys ih false = sum_by-cons (λ z. cond (f z) 1 0) x (y ∷ ys)

count-inserted : {X : Type 0} (f : X → Bool) (cmp : X → X → Ordering) (x : X) (ys : List X) → count_by f (inserted cmp x ys) ≡ cond (f x) 1 0 + count_by f ys
count-inserted f cmp x [] = sum_by-cons (λ z. cond (f z) 1 0) x []
count-inserted f cmp x (y ∷ ys) = count_inserted f cmp x y ys (count-inserted f cmp x ys) (is_gt (cmp x y))

pub count-in_order : {X : Type 0} (f : X → Bool) (cmp : X → X → Ordering) (xs : List X) → count_by f (in_order cmp xs) ≡ count_by f xs
count-in_order f cmp [] = refl
count-in_order f cmp (x ∷ xs) = count-inserted f cmp x (in_order cmp xs) ∙ (ap (λ k. cond (f x) 1 0 + k) (count-in_order f cmp xs) ∙ sym (sum_by-cons (λ z. cond (f z) 1 0) x xs))

pub count-map : {X Y : Type 0} (f : Y → Bool) (g : X → Y) (xs : List X) → count_by f (map g xs) ≡ count_by (λ x. f (g x)) xs
count-map f g [] = refl
count-map f g (x ∷ xs) = sum_by-cons (λ z. cond (f z) 1 0) (g x) (map g xs) ∙ (ap (λ k. cond (f (g x)) 1 0 + k) (count-map f g xs) ∙ sym (sum_by-cons (λ z. cond (f (g z)) 1 0) x xs))

-- ---- the last that passes

-- Where a test passes, there is a last number that does.
pub record HasLast (h : ℕ → Bool) (ns : List ℕ) : Type 0 where
  pub last : ℕ
  pub passes : h last ≡ true
  pub before : tally h ns ≡ suc (tally (λ q. h q && nat_lt q last) ns)

none_before : (h : ℕ → Bool) (k n from : ℕ) → k ≤ from → tally (λ q. h q && nat_lt q k) (numbers_from n from) ≡ 0
none_before h k zero from l = refl
none_before h k (suc n) from l =
    let rest : tally (λ q. h q && nat_lt q k) (numbers_from n (suc from)) ≡ 0 = none_before h k n (suc from) (omega (arith, l)) in
    let none : (h from && nat_lt from k) ≡ false = ap (λ b. h from && b) (le-ltb from k l) ∙ and_false (h from) in
    ap (λ b. cond b 1 0 + tally (λ q. h q && nat_lt q k) (numbers_from n (suc from))) none ∙ omega (arith, rest)
  where
    and_false : (b : Bool) → (b && false) ≡ false
    and_false true = refl
    and_false false = refl

last_step : (h : ℕ → Bool) (n from : ℕ) → (tally h (numbers_from n (suc from)) ≡ 0) ⊎ ((x : HasLast h (numbers_from n (suc from))) × (suc from ≤ x.last)) → (b : Bool) → h from ≡ b →
    (cond b 1 0 + tally h (numbers_from n (suc from)) ≡ 0) ⊎ ((x : HasLast h (numbers_from (suc n) from)) × (from ≤ x.last))
last_step h n from (inl none) false e = inl (omega (arith, none))
last_step h n from (inl none) true e =
    let before : tally (λ q. h q && nat_lt q from) (numbers_from (suc n) from) ≡ 0 = none_before h from (suc n) from (omega arith) in
    let all : tally h (numbers_from (suc n) from) ≡ suc (tally (λ q. h q && nat_lt q from) (numbers_from (suc n) from))
    = ap (λ b. cond b 1 0 + tally h (numbers_from n (suc from))) e ∙ (ap (λ k. 1 + k) none ∙ sym (ap (λ k. suc k) before)) in
    inr (record { last = from; passes = e; before = all }, omega arith)
last_step h n from (inr x) b e =
    let l : ℕ = (x.0).last in
    let low : suc from ≤ l = x.1 in
    let less : (h from && nat_lt from l) ≡ h from = ap (λ c. h from && c) (lt-ltb from l low) ∙ and_true (h from) in
    let rest : tally h (numbers_from n (suc from)) ≡ suc (tally (λ q. h q && nat_lt q l) (numbers_from n (suc from))) = (x.0).before in
    let all : tally h (numbers_from (suc n) from) ≡ suc (tally (λ q. h q && nat_lt q l) (numbers_from (suc n) from))
    = add_one (h from) (h from && nat_lt from l) (tally h (numbers_from n (suc from))) (tally (λ q. h q && nat_lt q l) (numbers_from n (suc from))) less rest in
    inr (record { last = l; passes = (x.0).passes; before = all }, omega (arith, low))
  where
    and_true : (b : Bool) → (b && true) ≡ b
    and_true true = refl
    and_true false = refl

    add_one : (a b : Bool) (m k : ℕ) → b ≡ a → m ≡ suc k → cond a 1 0 + m ≡ suc (cond b 1 0 + k)
    add_one a b m k e f = ap (λ x. cond a 1 0 + x) f ∙ (ap (λ x. cond x 1 0 + suc k) (sym e) ∙ omega arith)

last-of : (h : ℕ → Bool) (n from : ℕ) → (tally h (numbers_from n from) ≡ 0) ⊎ ((x : HasLast h (numbers_from n from)) × (from ≤ x.last))
last-of h zero from = inl refl
last-of h (suc n) from = last_step h n from (last-of h n (suc from)) (h from) refl

-- What has fewer than a limit before each that passes, has no more than the limit.
pub tally-limit : (h : ℕ → Bool) (limit n : ℕ) → ((q : ℕ) → h q ≡ true → tally (λ x. h x && nat_lt x q) (numbers_below n) < limit) → tally h (numbers_below n) ≤ limit
tally-limit h limit n f = elim (last-of h n 0) [
  | inl none ↦ omega (arith, none)
  | inr x ↦
      let before : tally h (numbers_below n) ≡ suc (tally (λ q. h q && nat_lt q ((x.0).last)) (numbers_below n)) = (x.0).before in
      let less : tally (λ q. h q && nat_lt q ((x.0).last)) (numbers_below n) < limit = f ((x.0).last) ((x.0).passes) in
      omega (arith, before, less)
]

-- ---- groups of eight

module _ (group below : ℕ → ℕ → Bool) (ns : List ℕ) (none : (q : ℕ) → below 0 q ≡ false) (step : (m q : ℕ) → below (suc m) q ≡ true → (below m q ≡ true) ⊎ (group m q ≡ true))
    (most : (m : ℕ) → tally (group m) ns ≤ 8) where
  none_all : (ns : List ℕ) → tally (below 0) ns ≡ 0
  none_all [] = refl
  none_all (q ∷ ns) = ap (λ b. cond b 1 0 + tally (below 0) ns) (none q) ∙ (let rest : tally (below 0) ns ≡ 0 = none_all ns in omega (arith, rest))

  eight_each : (m : ℕ) → tally (below m) ns ≤ 8 * m
  eight_each zero = let z : tally (below 0) ns ≡ 0 = none_all ns in omega (arith, z)
  eight_each (suc m) =
      let both : tally (below (suc m)) ns ≤ tally (below m) ns + tally (group m) ns = tally-two (below (suc m)) (below m) (group m) ns (step m) in
      let rest : tally (below m) ns ≤ 8 * m = eight_each m in
      let few : tally (group m) ns ≤ 8 = most m in
      omega (arith, both, rest, few)

  -- One group has fewer.
  pub fewer-all : (j m : ℕ) → tally (group j) ns ≤ 7 → j < m → tally (below m) ns + 1 ≤ 8 * m
  fewer-all j zero few l = absurd (omega (arith, l))
  fewer-all j (suc m) few l =
      let both : tally (below (suc m)) ns ≤ tally (below m) ns + tally (group m) ns = tally-two (below (suc m)) (below m) (group m) ns (step m) in
      elim (cases_order j m) [
        | inl same ↦
            let seven : tally (group m) ns ≤ 7 = subst (λ (x : ℕ). tally (group x) ns ≤ 7) same few in
            let rest : tally (below m) ns ≤ 8 * m = eight_each m in omega (arith, both, rest, seven)
        | inr (inl less) ↦
            let rest : tally (below m) ns + 1 ≤ 8 * m = fewer-all j m few less in
            let eight : tally (group m) ns ≤ 8 = most m in omega (arith, both, rest, eight)
        | inr (inr more) ↦ absurd (omega (arith, l, more))
      ]

-- What one more Change does to the holders, the places in use and the first entries.
use Rattle.std.proofs.Common.{◌≡◌, inl, inr, ℕ, ◌≤◌, Bool, true, false, not, cond, ◌&&◌, ◌||◌, nat_eq, nat_lt, find, List, [], ◌∷◌, Option, Some, None, refl, sym, ap, ◌∙◌}
use Rattle.std.proofs.lemmas.Bool.{cond-true, cond-false, eq-eqb, eqb-true, cases_Bool, or_cases, and_parts, or_left, or_right, and_from, both_ways}
use Rattle.std.specs.List.{list_any}
use Rattle.tt_value.specs.declared.value.Cell.{Cell}
use Rattle.tt_value.specs.declared.position.Position.{Position}
use Rattle.tt_record.specs.declared.entry.Entry.TheVariants.{Change}
use Rattle.std.specs.Ordering.{is_lt}
use Rattle.tt_record.specs.PlaceLaws.{end_behind}
use Rattle.tt_model.specs.Trail.{Trail, Placed, trail_end, placed_end, placed_length, before}
use Rattle.tt_model.specs.Committed.{Cells, is_full}
use Rattle.tt_model.specs.Live.{live, with_number, is_live, touched, in_use}
use Rattle.tt_model.specs.Holders.{Held, has_held, is_held_by, holder, other_holder}
use Rattle.tt_model.specs.Holds.{first_entry, first_entries, older_or, low, least_of}
use Rattle.tt_model.proofs.SteadyLemmas.{at_place, list_any-with_number}

-- ---- find over the live numbers

find_same : (f g : ℕ → Bool) (us : List ℕ) → ((u : ℕ) → f u ≡ g u) → find f us ≡ find g us
find_same f g us h = ap (λ k. find k us) (λ i u. h u i)

skip_eq : (f : ℕ → Bool) (t u : ℕ) (us : List ℕ) → f t ≡ false → find f (with_number t us) ≡ find f us →
    (b : Bool) → find f (cond b (u ∷ us) (u ∷ with_number t us)) ≡ find f (u ∷ us)
skip_eq f t u us n ih true = refl
skip_eq f t u us n ih false = ap (λ r. cond (f u) (Some u) r) ih

skip_lt : (f : ℕ → Bool) (t u : ℕ) (us : List ℕ) → f t ≡ false → find f (with_number t us) ≡ find f us →
    (b : Bool) → find f (cond b (t ∷ u ∷ us) (cond (nat_eq t u) (u ∷ us) (u ∷ with_number t us))) ≡ find f (u ∷ us)
skip_lt f t u us n ih true = cond-false (f t) (Some t) (find f (u ∷ us)) n
skip_lt f t u us n ih false = skip_eq f t u us n ih (nat_eq t u)

pub find-with_number_other : (f : ℕ → Bool) (t : ℕ) (us : List ℕ) → f t ≡ false → find f (with_number t us) ≡ find f us
find-with_number_other f t [] n = cond-false (f t) (Some t) None n
find-with_number_other f t (u ∷ us) n = skip_lt f t u us n (find-with_number_other f t us n) (nat_lt t u)

-- one number alone passes a test
Alone : (ℕ → Bool) → ℕ → List ℕ → Type 0
Alone f t us = (u : ℕ) → list_any (nat_eq u) us ≡ true → f u ≡ true → u ≡ t

alone_tail : (f : ℕ → Bool) (t u : ℕ) (us : List ℕ) → Alone f t (u ∷ us) → Alone f t us
unfolding Alone
alone_tail f t u us al v h k = al v (or_right (nat_eq v u) (list_any (nat_eq v) us) h) k

head_is : (f : ℕ → Bool) (t u : ℕ) (r : Option ℕ) → (f u ≡ true → u ≡ t) → r ≡ Some t → (b : Bool) → f u ≡ b → cond b (Some u) r ≡ Some t
head_is f t u r al ih true e = ap Some (al e)
head_is f t u r al ih false e = ih

found_eq : (f : ℕ → Bool) (t u : ℕ) (us : List ℕ) → f t ≡ true → (f u ≡ true → u ≡ t) → find f (with_number t us) ≡ Some t →
    (b : Bool) → nat_eq t u ≡ b → find f (cond b (u ∷ us) (u ∷ with_number t us)) ≡ Some t
found_eq f t u us y al ih true e = cond-true (f u) (Some u) (find f us) (ap f (sym (eqb-true t u e)) ∙ y) ∙ ap Some (sym (eqb-true t u e))
found_eq f t u us y al ih false e = head_is f t u (find f (with_number t us)) al ih (f u) refl

found_lt : (f : ℕ → Bool) (t u : ℕ) (us : List ℕ) → f t ≡ true → (f u ≡ true → u ≡ t) → find f (with_number t us) ≡ Some t →
    (b : Bool) → find f (cond b (t ∷ u ∷ us) (cond (nat_eq t u) (u ∷ us) (u ∷ with_number t us))) ≡ Some t
found_lt f t u us y al ih true = cond-true (f t) (Some t) (find f (u ∷ us)) y
found_lt f t u us y al ih false = found_eq f t u us y al ih (nat_eq t u) refl

pub find-with_number_own : (f : ℕ → Bool) (t : ℕ) (us : List ℕ) → f t ≡ true →
    ((u : ℕ) → list_any (nat_eq u) us ≡ true → f u ≡ true → u ≡ t) → find f (with_number t us) ≡ Some t
unfolding Alone
find-with_number_own f t [] y al = cond-true (f t) (Some t) None y
find-with_number_own f t (u ∷ us) y al =
    found_lt f t u us y (al u (or_left (nat_eq u u) (list_any (nat_eq u) us) (eq-eqb u u refl)))
    (find-with_number_own f t us y (alone_tail f t u us al)) (nat_lt t u)

-- ---- holders

and_false : (x : Bool) → (x && false) ≡ false
and_false true = refl
and_false false = refl

flipped : (t u : ℕ) → nat_eq t u ≡ false → nat_eq u t ≡ false
flipped t u n = elim (cases_Bool (nat_eq u t)) [
  | inl y ↦ absurd (both_ways (nat_eq t u) n (eq-eqb t u (sym (eqb-true u t y))))
  | inr m ↦ m
]

not_own : (c x y : Bool) → (c ≡ false → x ≡ y) → (x && not c) ≡ (y && not c)
not_own true x y h = and_false x ∙ sym (and_false y)
not_own false x y h = ap (λ z. z && true) (h refl)

-- The own Changes don't change who else holds something.
pub other_holder-own_Change : (t p : ℕ) (b a : Cell) (at : Position) (name : Held) (es : Trail) →
    other_holder (Some t) name (at_place at (Change t p b a) ∷ es) ≡ other_holder (Some t) name es
unfolding other_holder live
other_holder-own_Change t p b a at name es =
    let held : ℕ → Bool = is_held_by name es in
    let held_now : ℕ → Bool = is_held_by name (at_place at (Change t p b a) ∷ es) in
    find-with_number_other (λ u. held_now u && not (nat_eq t u)) t (live es)
    (ap (λ x. held_now t && not x) (eq-eqb t t refl) ∙ and_false (held_now t))
    ∙ find_same (λ u. held_now u && not (nat_eq t u)) (λ u. held u && not (nat_eq t u)) (live es)
    (λ u. not_own (nat_eq t u) (held_now u) (held u) (λ n. ap (λ x. x && (has_held name b || has_held name a) || held u) (flipped t u n)))

-- Who changes a row that has it, holds it, where no other live one does.
pub holder-Change : (t p : ℕ) (b a : Cell) (at : Position) (name : Held) (es : Trail) →
    (has_held name b || has_held name a) ≡ true →
    ((u : ℕ) → is_live u es ≡ true → is_held_by name es u ≡ true → u ≡ t) →
    holder name (at_place at (Change t p b a) ∷ es) ≡ Some t
unfolding holder live
holder-Change t p b a at name es y al =
    find-with_number_own (is_held_by name (at_place at (Change t p b a) ∷ es)) t (live es)
    (or_left (nat_eq t t && (has_held name b || has_held name a)) (is_held_by name es t) (and_from (nat_eq t t) (has_held name b || has_held name a) (eq-eqb t t refl) y))
    (λ u h k. elim (or_cases (nat_eq u t && (has_held name b || has_held name a)) (is_held_by name es u) k) [
      | inl m ↦ eqb-true u t ((and_parts (nat_eq u t) (has_held name b || has_held name a) m).0)
      | inr m ↦ al u h m
    ])

-- ---- places in use

pub has_one : (g : ℕ → Bool) (t : ℕ) (us : List ℕ) → list_any (nat_eq t) us ≡ true → g t ≡ true → list_any g us ≡ true
has_one g t [] h y = h
has_one g t (u ∷ us) h y = elim (or_cases (nat_eq t u) (list_any (nat_eq t) us) h) [
  | inl e ↦ or_left (g u) (list_any g us) (ap g (sym (eqb-true t u e)) ∙ y)
  | inr k ↦ or_right (g u) (list_any g us) (has_one g t us k y)
]

absorbed : (g : ℕ → Bool) (t : ℕ) (us : List ℕ) → (list_any (nat_eq t) us ≡ false → g t ≡ false) → (g t || list_any g us) ≡ list_any g us
absorbed g t us fresh = elim (cases_Bool (list_any (nat_eq t) us)) [
  | inl y ↦ elim (cases_Bool (g t)) [
    | inl k ↦ or_left (g t) (list_any g us) k ∙ sym (has_one g t us y k)
    | inr k ↦ ap (λ x. x || list_any g us) k
  ]
  | inr n ↦ ap (λ x. x || list_any g us) (fresh n)
]

used_now : (full : Bool) (t p q : ℕ) (g : ℕ → Bool) (us : List ℕ) → (list_any (nat_eq t) us ≡ false → g t ≡ false) → (c : Bool) → nat_eq q p ≡ c →
    (full || list_any (λ u. nat_eq u t && c || g u) (with_number t us)) ≡ (c || (full || list_any g us))
used_now full t p q g us fresh true e =
    or_right full (list_any (λ u. nat_eq u t && true || g u) (with_number t us))
    (list_any-with_number (λ u. nat_eq u t && true || g u) t us
    ∙ or_left (nat_eq t t && true || g t) (list_any (λ u. nat_eq u t && true || g u) us) (or_left (nat_eq t t && true) (g t) (and_from (nat_eq t t) true (eq-eqb t t refl) refl)))
used_now full t p q g us fresh false e =
    ap (λ (h : ℕ → Bool). full || list_any h (with_number t us)) (λ i u. ap (λ x. x || g u) (and_false (nat_eq u t)) i)
    ∙ ap (λ x. full || x) (list_any-with_number g t us ∙ absorbed g t us fresh)

pub in_use-Change : (t p q : ℕ) (b a : Cell) (at : Position) (cells : Cells) (es : Trail) →
    (is_live t es ≡ false → touched t q es ≡ false) →
    in_use cells (at_place at (Change t p b a) ∷ es) q ≡ (nat_eq q p || in_use cells es q)
unfolding in_use live
in_use-Change t p q b a at cells es fresh = used_now (is_full (cells q)) t p q (λ u. touched u q es) (live es) fresh (nat_eq q p) refl

-- ---- first entries and Low

pub first_entry-kept : (t : ℕ) (p : Position) (x : Placed) (es : Trail) → first_entry t es ≡ Some p → first_entry t (x ∷ es) ≡ Some p
unfolding first_entry
first_entry-kept t p x es h = rw h refl

pub first_entry-new : (t p : ℕ) (b a : Cell) (at : Position) (es : Trail) → first_entry t es ≡ None → first_entry t (at_place at (Change t p b a) ∷ es) ≡ Some at
unfolding first_entry
first_entry-new t p b a at es h = rw h (ap (λ x. older_or None x at) (eq-eqb t t refl))

pub first_entry-other : (t u p : ℕ) (b a : Cell) (at : Position) (es : Trail) → nat_eq t u ≡ false → first_entry t (at_place at (Change u p b a) ∷ es) ≡ first_entry t es
unfolding first_entry
first_entry-other t u p b a at es n = rw n (same (first_entry t es))
  where
    same : (o : Option Position) → older_or o false at ≡ o
    same None = refl
    same (Some p) = refl

-- Low of the end of a trail is the least of it and the first entries of the live transactions.
pub low-end : (opened : Position) (x : Placed) (es : Trail) → 1 ≤ placed_length x →
    low (trail_end opened (x ∷ es)) (x ∷ es) ≡ least_of (placed_end x) (first_entries (x ∷ es))
unfolding low before
low-end opened x es h =
    ap (λ c. least_of (placed_end x) (first_entries (cond c (x ∷ es) (before (placed_end x) es)))) (ap is_lt (end_behind x.at (placed_length x) h))

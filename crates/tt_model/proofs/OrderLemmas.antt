-- The order of positions.
use Rattle.std.proofs.Common.{◌≡◌, inl, inr, Bool, true, false, not, cond, refl, sym, ap, ◌∙◌, true≢false, Ordering, Less, Equal, Greater}
use Rattle.std.proofs.lemmas.Bool.{cases_Bool, both_ways}
use Rattle.std.specs.BTreeMap.Comparable.{le_lt_trans}
use Rattle.std.specs.Ordering.{is_eq, is_le, is_lt, ordering_reverse}
use Rattle.tt_value.specs.Position.{position_cmp}
use Rattle.tt_value.specs.declared.position.Position.{Position}
use Rattle.tt_model.specs.Trail.{position_lt, position_le, position_eq, least_position}
use Rattle.tt_model.proofs.LowLemmas.{position_total, lt-not_le, less_is, lt_self}

pub le_lt : (p q r : Position) → position_le p q ≡ true → position_lt q r ≡ true → position_lt p r ≡ true
le_lt p q r h k = ap is_lt (le_lt_trans position_total p q r h (less_is (position_cmp q r) k))

twice_not : (c : Bool) → not (not c) ≡ c
twice_not true = refl
twice_not false = refl

pub le-not_lt : (p q : Position) → position_le p q ≡ not (position_lt q p)
le-not_lt p q = sym (twice_not (position_le p q)) ∙ ap not (sym (lt-not_le q p))

pub not_lt-le : (p q : Position) → position_lt p q ≡ false → position_le q p ≡ true
not_lt-le p q h = le-not_lt q p ∙ ap not h

pub le-not_lt_back : (p q : Position) → position_le p q ≡ true → position_lt q p ≡ false
le-not_lt_back p q h = lt-not_le q p ∙ ap not h

pub lt-not_le_back : (p q : Position) → position_lt p q ≡ true → position_le q p ≡ false
lt-not_le_back p q h = le-not_lt q p ∙ ap not h

pub lt_le : (p q r : Position) → position_lt p q ≡ true → position_le q r ≡ true → position_lt p r ≡ true
lt_le p q r h k = elim (cases_Bool (position_lt p r)) [
  | inl y ↦ y
  | inr n ↦ absurd (both_ways (position_lt r q) (le-not_lt_back q r k) (le_lt r p q (not_lt-le p r n) h))
]

weaker : (o : Ordering) → is_lt o ≡ true → is_le o ≡ true
weaker Less h = refl
weaker Equal h = refl
weaker Greater h = absurd (true≢false (sym h))

pub lt-le : (p q : Position) → position_lt p q ≡ true → position_le p q ≡ true
lt-le p q h = weaker (position_cmp p q) h

pub le_trans : (p q r : Position) → position_le p q ≡ true → position_le q r ≡ true → position_le p r ≡ true
le_trans p q r h k = elim (cases_Bool (position_le p r)) [
  | inl y ↦ y
  | inr n ↦ absurd (both_ways (position_lt r q) (le-not_lt_back q r k) (lt_le r p q (lt-not_le r p ∙ ap not n) h))
]

pub le_self : (p : Position) → position_le p p ≡ true
le_self p = le-not_lt p p ∙ ap not (lt_self p)

not_same : (o : Ordering) → is_lt o ≡ true → is_eq o ≡ false
not_same Less h = refl
not_same Equal h = absurd (true≢false (sym h))
not_same Greater h = refl

pub lt-not_eq : (p q : Position) → position_lt p q ≡ true → position_eq p q ≡ false
lt-not_eq p q h = not_same (position_cmp p q) h

turned : (o : Ordering) → is_eq (ordering_reverse o) ≡ is_eq o
turned Less = refl
turned Equal = refl
turned Greater = refl

pub lt-not_eq_back : (p q : Position) → position_lt p q ≡ true → position_eq q p ≡ false
lt-not_eq_back p q h = ap is_eq (position_total.antisymm q p) ∙ (turned (position_cmp p q) ∙ lt-not_eq p q h)

by_order : (o : Ordering) → is_le o ≡ true → is_lt o ≡ false → is_eq o ≡ true
by_order Less h k = absurd (true≢false k)
by_order Equal h k = refl
by_order Greater h k = absurd (true≢false (sym h))

pub eq_self : (p : Position) → position_eq p p ≡ true
eq_self p = by_order (position_cmp p p) (le_self p) (lt_self p)

as_le : (o : Ordering) → is_eq o ≡ true → is_le o ≡ true
as_le Less h = absurd (true≢false (sym h))
as_le Equal h = refl
as_le Greater h = absurd (true≢false (sym h))

pub eq-le : (p q : Position) → position_eq p q ≡ true → position_le p q ≡ true
eq-le p q h = as_le (position_cmp p q) h

-- The least of two is no more than each, and the greatest no less.
least_where : (p q : Position) (c : Bool) → position_lt p q ≡ c → (position_le (cond c p q) p ≡ true) × (position_le (cond c p q) q ≡ true)
least_where p q true h = (le_self p, lt-le p q h)
least_where p q false h = (not_lt-le p q h, le_self q)

pub least-below : (p q : Position) → (position_le (least_position p q) p ≡ true) × (position_le (least_position p q) q ≡ true)
least-below p q = least_where p q (position_lt p q) refl

-- Values that are the same are equal.
use Rattle.std.proofs.Common.{Bool, true, ◌&&◌, nat_eq, List, ◌≡◌, refl, sym, ap, ap₂, ◌∙◌}
use Rattle.std.specs.Ordering.{int_eq}
use Rattle.std.specs.Cmp.{IsEquivalence, IsPartialEquivalence, partial_equiv_from_equiv}
use Rattle.std.specs.Bool.{Decides}
use Rattle.std.proofs.lemmas.Bool.{and_parts}
use Rattle.std.proofs.lemmas.Bool.Decides.{Decides-eqb, Decides-int_eq, same_from_decides, Decides-like}
use Rattle.std.proofs.lemmas.Slice.Eq.{bytes_eq-Decides, slice_eq-Decides}
use Rattle.tt_value.specs.declared.value.Value.{Value}
use Rattle.tt_value.specs.declared.value.Value.TheVariants.{Null, Int, Number, Text}
use Rattle.tt_value.specs.declared.value.Row.{Row}
use Rattle.tt_value.specs.Same.{same_value, same_row, fed_value}
use Rattle.std.specs.Hash as fed

pub equivalence_from_decides : {K : Type 0} (E : K → K → Bool) → ((x y : K) → Decides (E x y) (x ≡ y)) → IsEquivalence E
equivalence_from_decides E d = record {
  refl = λ x. (d x x).1 refl;
  symm = λ x y. same_from_decides (E x y) (E y x) (d x y) (Decides-like (E y x) sym sym (d y x));
  congr = λ x y z h. ap (λ w. E w z) ((d x y).0 h);
}

to_same : (x y : Value) → same_value x y ≡ true → x ≡ y
to_same Null Null h = refl
to_same (Int a) (Int b) h = ap Int ((Decides-int_eq a b).0 h)
to_same (Number s a) (Number t b) h =
    let (p, q) = and_parts (nat_eq s t) (int_eq a b) h in
    ap₂ Number ((Decides-eqb s t).0 p) ((Decides-int_eq a b).0 q)
to_same (Text a) (Text b) h = ap Text ((bytes_eq-Decides a b).0 h)
to_same Null (Int b) h = cc
to_same Null (Number t b) h = cc
to_same Null (Text b) h = cc
to_same (Int a) Null h = cc
to_same (Int a) (Number t b) h = cc
to_same (Int a) (Text b) h = cc
to_same (Number s a) Null h = cc
to_same (Number s a) (Int b) h = cc
to_same (Number s a) (Text b) h = cc
to_same (Text a) Null h = cc
to_same (Text a) (Int b) h = cc
to_same (Text a) (Number t b) h = cc

same_itself : (x : Value) → same_value x x ≡ true
same_itself Null = refl
same_itself (Int a) = (Decides-int_eq a a).1 refl
same_itself (Number s a) = ap₂ (λ x y. x && y) ((Decides-eqb s s).1 refl) ((Decides-int_eq a a).1 refl)
same_itself (Text a) = (bytes_eq-Decides a a).1 refl

pub same_value-Decides : (x y : Value) → Decides (same_value x y) (x ≡ y)
same_value-Decides x y = (to_same x y, λ e. sym (ap (same_value x) e) ∙ same_itself x)

pub same_row-Decides : (x y : Row) → Decides (same_row x y) (x ≡ y)
same_row-Decides x y =
    Decides-like (same_row x y) (λ e. ap (λ (vs : List Value). record { values = vs }) e) (λ e. ap (λ (r : Row). r.values) e)
    (slice_eq-Decides same_value-Decides x.values y.values (same_row x y) refl)

pub same_value-equivalence : IsEquivalence same_value
same_value-equivalence = equivalence_from_decides same_value same_value-Decides

pub same_row-equivalence : IsEquivalence same_row
same_row-equivalence = equivalence_from_decides same_row same_row-Decides

pub same_value-partial : IsPartialEquivalence same_value
same_value-partial = partial_equiv_from_equiv same_value-equivalence

pub same_row-partial : IsPartialEquivalence same_row
same_row-partial = partial_equiv_from_equiv same_row-equivalence

pub alike_values : (x y : Value) → same_value x y ≡ true → fed_value x ≡ fed_value y
alike_values x y h = ap fed_value (to_same x y h)

pub alike_rows : (x y : Row) → same_row x y ≡ true → fed.slice fed_value x.values ≡ fed.slice fed_value y.values
alike_rows x y h = ap (λ (r : Row). fed.slice fed_value r.values) ((same_row-Decides x y).0 h)

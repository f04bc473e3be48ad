-- Values of one kind: texts are ordered by their bytes alone, others as numbers alone.
use Rattle.std.proofs.Common.{◌≡◌, ℕ, List, refl, sym, subst, arith}
use Rattle.std.specs.declared.cmp.Ordering.{Ordering}
use Rattle.std.specs.declared.cmp.Ordering.TheVariants.{Less, Equal, Greater}
use Rattle.std.specs.Ordering.{nat_cmp, ordering_then}
use Rattle.std.specs.Cmp.Lexicographic.{slice_cmp}
use Rattle.tt_value.specs.declared.value.Value.{Value}
use Rattle.tt_value.specs.declared.value.Value.TheVariants.{Null, Int, Number, Text}
use Rattle.tt_value.specs.Order.{kind_of, text_of, number_cmp}

abbrev within : Value → Value → Ordering
within a b = ordering_then (number_cmp a b) (slice_cmp nat_cmp (text_of a) (text_of b))

text_case : (x : List ℕ) (b : Value) → kind_of (Text x) ≡ kind_of b → slice_cmp nat_cmp x (text_of b) ≡ within (Text x) b
text_case x (Text y) e = refl
text_case x Null e = absurd (omega (arith, e))
text_case x (Int n) e = absurd (omega (arith, e))
text_case x (Number s u) e = absurd (omega (arith, e))

pub texts_alone : (a b : Value) (x : List ℕ) → a ≡ Text x → kind_of a ≡ kind_of b → slice_cmp nat_cmp x (text_of b) ≡ within a b
texts_alone a b x is e =
    let P : Value → Type 0 = λ v. kind_of v ≡ kind_of b → slice_cmp nat_cmp x (text_of b) ≡ within v b in
    subst P (sym is) (text_case x b) e

then_equal : (r : Ordering) → r ≡ ordering_then r Equal
then_equal Less = refl
then_equal Equal = refl
then_equal Greater = refl

pub numbers_alone : (a b : Value) → ((x : List ℕ) → a ≡ Text x → ⊥) → kind_of a ≡ kind_of b → number_cmp a b ≡ within a b
numbers_alone (Text x) b other e = absurd (other x refl)
numbers_alone Null (Text y) other e = absurd (omega (arith, e))
numbers_alone (Int n) (Text y) other e = absurd (omega (arith, e))
numbers_alone (Number s u) (Text y) other e = absurd (omega (arith, e))
numbers_alone Null Null other e = then_equal (number_cmp Null Null)
numbers_alone Null (Int m) other e = absurd (omega (arith, e))
numbers_alone Null (Number r v) other e = absurd (omega (arith, e))
numbers_alone (Int n) Null other e = absurd (omega (arith, e))
numbers_alone (Number s u) Null other e = absurd (omega (arith, e))
numbers_alone (Int n) (Int m) other e = then_equal (number_cmp (Int n) (Int m))
numbers_alone (Int n) (Number r v) other e = then_equal (number_cmp (Int n) (Number r v))
numbers_alone (Number s u) (Int m) other e = then_equal (number_cmp (Number s u) (Int m))
numbers_alone (Number s u) (Number r v) other e = then_equal (number_cmp (Number s u) (Number r v))

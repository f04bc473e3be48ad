-- Values that are the same are equal.
use Rattle.std.proofs.Common.{◌≡◌, true, nat_eq, List, [], ◌∷◌, refl, sym, ap, ◌∙◌, true≢false}
use Rattle.std.proofs.lemmas.Bool.{eqb-true, and_parts}
use Rattle.std.proofs.lemmas.Bool.Decides.{Decides-int_eq}
use Rattle.std.proofs.lemmas.Slice.Eq.{bytes_eq-Decides}
use Rattle.std.specs.Ordering.{int_eq}
use Rattle.tt_value.specs.Same.{same_value}
use Rattle.tt_value.specs.declared.value.Value.{Value}
use Rattle.tt_value.specs.declared.value.Value.TheVariants.{Null, Int, Number, Text}
use Rattle.tt_model.specs.Values.{same_values}

pub same-value : (v w : Value) → same_value v w ≡ true → v ≡ w
same-value Null Null h = refl
same-value (Int a) (Int b) h = ap Int ((Decides-int_eq a b).0 h)
same-value (Number s a) (Number t b) h =
    let parts : (nat_eq s t ≡ true) × (int_eq a b ≡ true) = and_parts (nat_eq s t) (int_eq a b) h in
    ap (λ x. Number x a) (eqb-true s t (parts.0)) ∙ ap (Number t) ((Decides-int_eq a b).0 (parts.1))
same-value (Text a) (Text b) h = ap Text ((bytes_eq-Decides a b).0 h)
same-value Null (Int b) h = absurd (true≢false (sym h))
same-value Null (Number t b) h = absurd (true≢false (sym h))
same-value Null (Text b) h = absurd (true≢false (sym h))
same-value (Int a) Null h = absurd (true≢false (sym h))
same-value (Int a) (Number t b) h = absurd (true≢false (sym h))
same-value (Int a) (Text b) h = absurd (true≢false (sym h))
same-value (Number s a) Null h = absurd (true≢false (sym h))
same-value (Number s a) (Int b) h = absurd (true≢false (sym h))
same-value (Number s a) (Text b) h = absurd (true≢false (sym h))
same-value (Text a) Null h = absurd (true≢false (sym h))
same-value (Text a) (Int b) h = absurd (true≢false (sym h))
same-value (Text a) (Number t b) h = absurd (true≢false (sym h))

pub same-values : (vs ws : List Value) → same_values vs ws ≡ true → vs ≡ ws
same-values [] [] h = refl
same-values (v ∷ vs) (w ∷ ws) h =
    let parts : (same_value v w ≡ true) × (same_values vs ws ≡ true) = and_parts (same_value v w) (same_values vs ws) h in
    ap (λ x. x ∷ vs) (same-value v w (parts.0)) ∙ ap (λ xs. w ∷ xs) (same-values vs ws (parts.1))
same-values [] (w ∷ ws) h = absurd (true≢false (sym h))
same-values (v ∷ vs) [] h = absurd (true≢false (sym h))

-- Reading so many values, one after another.
use Rattle.std.proofs.Common.{◌≡◌, ◌≤◌, ◌<◌, ◌+◌, ℕ, suc, List, [], ◌∷◌, ◌++◌, length, drop, refl, sym, ap, ◌∙◌, arith, append_assoc, Option, Some, None}
use Rattle.std.proofs.lemmas.List.{drop-drop, drop_all, length-drop}
use Rattle.tt_value.specs.declared.value.Value.{Value}
use Rattle.tt_value.specs.ReadingRows.{value_at, values_in, behind, with_rest}

-- with these values in front
abbrev pub in_front : List Value → Option (List Value) → Option (List Value)
in_front vs None = None
in_front vs (Some ws) = Some (vs ++ ws)

in_front-behind : (vs : List Value) (v : Value) (o : Option (List Value)) → in_front vs (behind v o) ≡ in_front (vs ++ v ∷ []) o
in_front-behind vs v None = refl
in_front-behind vs v (Some ws) = ap (λ (l : List Value). Some l) (sym (append_assoc vs (v ∷ []) ws))

-- what is still to be read, behind what was read, is all that is read
pub record Read (count : ℕ) (bytes : List ℕ) (vs : List Value) (left at : ℕ) : Type 0 where
  pub whole : in_front vs (values_in left (drop at bytes)) ≡ values_in count bytes
  pub within : at ≤ length bytes

pub begin_values : (count : ℕ) (bytes : List ℕ) → Read count bytes [] count 0
begin_values count bytes = record { whole = by (values_in count bytes); within = omega arith }
  where
    by : (o : Option (List Value)) → in_front [] o ≡ o
    by None = refl
    by (Some ws) = refl

step_of : (n k : ℕ) (z : List ℕ) (v : Value) → value_at z ≡ Some (v, k) → values_in (suc n) z ≡ behind v (values_in n (drop k z))
unfolding values_in
step_of n k z v is = ap (λ o. with_rest o (λ k. values_in n (drop k z))) is

stop_of : (n : ℕ) (z : List ℕ) → value_at z ≡ None → values_in (suc n) z ≡ None
unfolding values_in
stop_of n z is = ap (λ o. with_rest o (λ k. values_in n (drop k z))) is

pub go_on : (count : ℕ) (bytes : List ℕ) (vs : List Value) (left more at k : ℕ) (v : Value) → Read count bytes vs left at → left ≡ suc more → value_at (drop at bytes) ≡ Some (v, k) → at + k ≤ length bytes → Read count bytes (vs ++ v ∷ []) more (at + k)
go_on count bytes vs left more at k v so is found small = record {
  whole =
      sym (in_front-behind vs v (values_in more (drop (at + k) bytes)))
      ∙ ap (λ z. in_front vs (behind v (values_in more z))) (sym (drop-drop k at bytes))
      ∙ ap (in_front vs) (sym (step_of more k (drop at bytes) v found))
      ∙ ap (λ n. in_front vs (values_in n (drop at bytes))) (sym is)
      ∙ so.whole;
  within = small;
}

pub stopped : (count : ℕ) (bytes : List ℕ) (vs : List Value) (left more at : ℕ) → Read count bytes vs left at → left ≡ suc more → value_at (drop at bytes) ≡ None → values_in count bytes ≡ None
stopped count bytes vs left more at so is found =
    sym so.whole ∙ ap (λ n. in_front vs (values_in n (drop at bytes))) is ∙ ap (in_front vs) (stop_of more (drop at bytes) found)

pub ended : (count : ℕ) (bytes : List ℕ) (vs : List Value) (left at : ℕ) → Read count bytes vs left at → left ≡ 0 → length bytes ≤ at → values_in count bytes ≡ Some vs
unfolding values_in
ended count bytes vs left at so none past =
    sym so.whole ∙ ap (λ n. in_front vs (values_in n (drop at bytes))) none ∙ ap (λ z. in_front vs (values_in 0 z)) (drop_all at bytes past) ∙ ap (λ (l : List Value). Some l) (append_nil vs)
  where
    append_nil : (xs : List Value) → xs ++ [] ≡ xs
    append_nil [] = refl
    append_nil (x ∷ xs) = ap (λ l. x ∷ l) (append_nil xs)

too_long_of : (z : List ℕ) → 0 < length z → values_in 0 z ≡ None
unfolding values_in
too_long_of [] h = absurd (omega arith)
too_long_of (b ∷ z) h = refl

pub too_long : (count : ℕ) (bytes : List ℕ) (vs : List Value) (left at : ℕ) → Read count bytes vs left at → left ≡ 0 → at < length bytes → values_in count bytes ≡ None
too_long count bytes vs left at so none short = sym so.whole ∙ ap (λ n. in_front vs (values_in n (drop at bytes))) none ∙ ap (in_front vs) (too_long_of (drop at bytes) (omega (arith, length-drop at bytes)))

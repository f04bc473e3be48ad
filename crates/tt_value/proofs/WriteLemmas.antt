-- Writing values one after another over bytes.
use Rattle.std.proofs.Common.{◌≡◌, ◌≤◌, ◌<◌, ◌+◌, ℕ, List, [], ◌∷◌, ◌++◌, length, take, drop, get_or, refl, sym, ap, ap₂, ◌∙◌, arith, append_assoc, length-append}
use Rattle.std.proofs.Math.Seq.{take-append_seam, drop-append_seam}
use Rattle.std.proofs.lemmas.List.{drop-drop}
use Rattle.std.proofs.lemmas.Grind.{flat_map-append}
use Rattle.std.proofs.lemmas.List.Folds.{length-flat_map-take}
use Rattle.tt_value.specs.Stored.{value_bytes, values_bytes}
use Rattle.tt_value.specs.declared.value.Value.{Value}

-- the bytes of the values stand in place of the first of the old ones
pub record Written (vs : List Value) (old new : List ℕ) (at : ℕ) : Type 0 where
  pub bytes : new ≡ values_bytes vs ++ drop at old
  pub end : at ≡ length (values_bytes vs)

pub none_written : (old : List ℕ) → Written [] old old 0
none_written old = record { bytes = refl; end = refl }

front : (xs ys : List ℕ) (n : ℕ) → n ≡ length xs → take n (xs ++ ys) ≡ xs
front xs ys n e = ap (λ k. take k (xs ++ ys)) e ∙ take-append_seam xs ys

back : (xs ys : List ℕ) (n : ℕ) → n ≡ length xs → drop n (xs ++ ys) ≡ ys
back xs ys n e = ap (λ k. drop k (xs ++ ys)) e ∙ drop-append_seam xs ys

append_nil : (xs : List ℕ) → xs ++ [] ≡ xs
append_nil [] = refl
append_nil (x ∷ xs) = ap (λ l. x ∷ l) (append_nil xs)

values_bytes-more : (vs : List Value) (v : Value) → values_bytes (vs ++ v ∷ []) ≡ values_bytes vs ++ value_bytes v
values_bytes-more vs v = flat_map-append value_bytes vs (v ∷ []) ∙ ap (λ l. values_bytes vs ++ l) (append_nil (value_bytes v))

pub one_more_written : (vs : List Value) (v : Value) (old new : List ℕ) (at : ℕ) → Written vs old new at →
    Written (vs ++ v ∷ []) old (take at new ++ (value_bytes v ++ drop (length (value_bytes v)) (drop at new))) (at + length (value_bytes v))
one_more_written vs v old new at so =
    let first : take at new ≡ values_bytes vs = ap (take at) so.bytes ∙ front (values_bytes vs) (drop at old) at so.end in
    let rest : drop at new ≡ drop at old = ap (drop at) so.bytes ∙ back (values_bytes vs) (drop at old) at so.end in
    let more = values_bytes-more vs v in
    record {
      bytes =
          ap₂ (λ f r. f ++ (value_bytes v ++ drop (length (value_bytes v)) r)) first rest
          ∙ ap (λ r. values_bytes vs ++ (value_bytes v ++ r)) (drop-drop (length (value_bytes v)) at old)
          ∙ sym (append_assoc (values_bytes vs) (value_bytes v) (drop (at + length (value_bytes v)) old))
          ∙ ap (λ l. l ++ drop (at + length (value_bytes v)) old) (sym more);
      end = omega (arith, so.end, ap length more, length-append (values_bytes vs) (value_bytes v));
    }

-- the next value fits where all of them do
pub room_left : (vs : List Value) (i room : ℕ) (v : Value) → i < length vs → v ≡ get_or vs i v → length (values_bytes vs) ≤ room →
    length (values_bytes (take i vs)) + length (value_bytes v) ≤ room
room_left vs i room v within is small =
    let step = length-flat_map-take value_bytes vs i v within in
    let same : length (value_bytes v) ≡ length (value_bytes (get_or vs i v)) = ap (λ (x : Value). length (value_bytes x)) is in
    omega arith

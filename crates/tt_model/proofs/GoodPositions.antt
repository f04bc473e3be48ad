-- Column positions are read as they were written.
use Rattle.std.proofs.Common.{◌≡◌, ◌<◌, ◌-◌, ℕ, zero, suc, true, List, [], ◌∷◌, ◌++◌, refl, sym, ap, ◌∙◌, arith}
use Rattle.std.proofs.lemmas.Bool.{and_parts, ltb-true}
use Rattle.std.specs.Prelude.{nat_lt}
use Rattle.std.specs.List.{list_all}
use Rattle.tt_model.specs.Tables.{read_positions}
use Rattle.tt_model.specs.System.{positions_text, position_digits}
use Rattle.tt_model.proofs.DueLemmas.{with_none}

-- One position before other bytes.
read_digits : (n : ℕ) (rest : List ℕ) → n < 16 → read_positions 0 (position_digits (suc n) ++ rest) ≡ read_positions (suc n) rest
read_digits zero rest l = refl
read_digits (suc zero) rest l = refl
read_digits (suc (suc zero)) rest l = refl
read_digits (suc (suc (suc zero))) rest l = refl
read_digits (suc (suc (suc (suc zero)))) rest l = refl
read_digits (suc (suc (suc (suc (suc zero))))) rest l = refl
read_digits (suc (suc (suc (suc (suc (suc zero)))))) rest l = refl
read_digits (suc (suc (suc (suc (suc (suc (suc zero))))))) rest l = refl
read_digits (suc (suc (suc (suc (suc (suc (suc (suc zero)))))))) rest l = refl
read_digits (suc (suc (suc (suc (suc (suc (suc (suc (suc zero))))))))) rest l = refl
read_digits (suc (suc (suc (suc (suc (suc (suc (suc (suc (suc zero)))))))))) rest l = refl
read_digits (suc (suc (suc (suc (suc (suc (suc (suc (suc (suc (suc zero))))))))))) rest l = refl
read_digits (suc (suc (suc (suc (suc (suc (suc (suc (suc (suc (suc (suc zero)))))))))))) rest l = refl
read_digits (suc (suc (suc (suc (suc (suc (suc (suc (suc (suc (suc (suc (suc zero))))))))))))) rest l = refl
read_digits (suc (suc (suc (suc (suc (suc (suc (suc (suc (suc (suc (suc (suc (suc zero)))))))))))))) rest l = refl
read_digits (suc (suc (suc (suc (suc (suc (suc (suc (suc (suc (suc (suc (suc (suc (suc zero))))))))))))))) rest l = refl
read_digits (suc (suc (suc (suc (suc (suc (suc (suc (suc (suc (suc (suc (suc (suc (suc (suc n)))))))))))))))) rest l = absurd (omega (arith, l))

less_than : (p : ℕ) (ps : List ℕ) → list_all (λ c. nat_lt c 16) (p ∷ ps) ≡ true → (p < 16) × (list_all (λ c. nat_lt c 16) ps ≡ true)
less_than p ps h = let parts : (nat_lt p 16 ≡ true) × (list_all (λ c. nat_lt c 16) ps ≡ true) = and_parts (nat_lt p 16) (list_all (λ c. nat_lt c 16) ps) h in (ltb-true p 16 (parts.0), parts.1)

pred_same : (p : ℕ) (ps : List ℕ) → (suc p - 1) ∷ ps ≡ p ∷ ps
pred_same p ps = let e : suc p - 1 ≡ p = omega arith in ap (λ x. x ∷ ps) e

-- Positions that were joined by commas.
pub positions-read : (p : ℕ) (ps : List ℕ) → list_all (λ c. nat_lt c 16) (p ∷ ps) ≡ true → read_positions 0 (positions_text (p ∷ ps)) ≡ p ∷ ps
positions-read p [] h =
    ap (read_positions 0) (sym (with_none (position_digits (suc p)))) ∙ (read_digits p [] ((less_than p [] h).0) ∙ pred_same p [])
positions-read p (q ∷ ps) h =
    let parts : (p < 16) × (list_all (λ c. nat_lt c 16) (q ∷ ps) ≡ true) = less_than p (q ∷ ps) h in
    read_digits p (44 ∷ positions_text (q ∷ ps)) (parts.0) ∙ (pred_same p (read_positions 0 (positions_text (q ∷ ps))) ∙ ap (λ xs. p ∷ xs) (positions-read q ps (parts.1)))

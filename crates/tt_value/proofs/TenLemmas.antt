-- Powers of ten, and numbers that are compared over one denominator.
use Rattle.std.proofs.Common.{leb, true, false, ◌≡◌, ◌≤◌, ◌<◌, ◌+◌, ◌-◌, ◌*◌, ◌^◌, ℕ, ℤ, zero, suc, pos, negsuc, neg_ℤ, ◌*ℤ◌, ◌⊎◌, inl, inr, min, arith, sym, ap, ◌∙◌}
use Rattle.std.specs.Int.{w64}
use Rattle.std.specs.Int.RustNames.{FitsSigned}
use Rattle.std.specs.declared.cmp.Ordering.{Ordering}
use Rattle.std.specs.declared.cmp.Ordering.TheVariants.{Less, Greater}
use Rattle.std.specs.Ordering.{int_cmp}
use Rattle.std.specs.Cmp.{int_cmp_is}
use Rattle.std.proofs.lemmas.Int.{ints}
use Rattle.std.proofs.Math.IntN.{pos-*ℤ-pos, negsuc-*ℤ-pos}
use Rattle.std.proofs.Math.Nat.{pow-le-pow_right, le-mul_of_pos_right, mul_comm}
use Rattle.std.proofs.lemmas.Nat.{pow-add}
use Rattle.std.proofs.lemmas.Bool.Decides.{leb_tells}
use Rattle.tt_value.specs.OrderLaws.{times_twice, cmp_times, ten_to}

pub power_fits : (n : ℕ) → n ≤ 19 → 10 ^ n ≤ 10 ^ 19
power_fits n h = pow-le-pow_right {n = 10} (omega arith) h

-- what units with 19 digits more are against units
abbrev far_cmp : ℤ → ℤ → Ordering
far_cmp (pos zero) v = int_cmp (pos 0) v
far_cmp (pos (suc a)) v = Greater
far_cmp (negsuc a) v = Less

at_least : (a k : ℕ) → 10 ^ 19 ≤ k → 10 ^ 19 ≤ suc a * k
at_least a k h = let e = le-mul_of_pos_right k (suc_pos a) in omega (arith, h, e, mul_comm k (suc a))
  where
    suc_pos : (n : ℕ) → 0 < suc n
    suc_pos n = omega arith

far_is : (u v : ℤ) (k : ℕ) → 10 ^ 19 ≤ k → FitsSigned w64 v → int_cmp (u *ℤ pos k) v ≡ far_cmp u v
far_is (pos zero) v k h fits = ap (λ x. int_cmp x v) (pos-*ℤ-pos 0 k ∙ ap pos (let z : 0 * k ≡ 0 = omega arith in z))
far_is (pos (suc a)) v k h fits =
    ap (λ x. int_cmp x v) (pos-*ℤ-pos (suc a) k)
    ∙ sym (int_cmp_is (pos (suc a * k)) v Greater (let big = at_least a k h in omega (arith, ints, fits, big)))
far_is (negsuc a) v k h fits =
    ap (λ x. int_cmp x v) (negsuc-*ℤ-pos a k)
    ∙ sym (int_cmp_is (neg_ℤ (pos (suc a * k))) v Less (let big = at_least a k h in omega (arith, ints, fits, big)))

-- 19 digits more are as good as any more
capped : (u v : ℤ) (d : ℕ) → FitsSigned w64 v → int_cmp (u *ℤ pos (10 ^ min d 19)) v ≡ int_cmp (u *ℤ pos (10 ^ d)) v
capped u v d fits = by (leb_tells d 19)
  where
    by : ((leb d 19 ≡ true) × (d ≤ 19)) ⊎ ((leb d 19 ≡ false) × (19 < d)) → int_cmp (u *ℤ pos (10 ^ min d 19)) v ≡ int_cmp (u *ℤ pos (10 ^ d)) v
    by (inl few) = let small = few.1 in ap (λ n. int_cmp (u *ℤ pos (10 ^ n)) v) (let e : min d 19 ≡ d = omega (arith, small) in e)
    by (inr many) =
        let large = many.1 in
        ap (λ n. int_cmp (u *ℤ pos (10 ^ n)) v) (let e : min d 19 ≡ 19 = omega (arith, large) in e)
        ∙ far_is u v (10 ^ 19) (omega arith) fits
        ∙ sym (far_is u v (10 ^ d) (pow-le-pow_right {n = 10} (omega arith) (let l : 19 ≤ d = omega (arith, large) in l)) fits)

-- the first has no larger scale
pub aligned : (u v : ℤ) (s t : ℕ) → s ≤ t → FitsSigned w64 v → int_cmp (u *ℤ pos (10 ^ min (t - s) 19)) v ≡ int_cmp (u *ℤ pos (10 ^ t)) (v *ℤ pos (10 ^ s))
aligned u v s t h fits =
    let split : 10 ^ t ≡ 10 ^ (t - s) * 10 ^ s = ap (λ n. 10 ^ n) (let e : t ≡ (t - s) + s = omega arith in e) ∙ pow-add 10 (t - s) s in
    capped u v (t - s) fits
    ∙ sym (cmp_times (10 ^ s) (u *ℤ pos (10 ^ (t - s))) v (ten_to s))
    ∙ ap (λ x. int_cmp x (v *ℤ pos (10 ^ s))) (times_twice u (10 ^ (t - s)) (10 ^ s) ∙ ap (λ n. u *ℤ pos n) (sym split))

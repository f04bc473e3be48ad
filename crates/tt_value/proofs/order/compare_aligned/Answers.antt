use Rattle.std.proofs.Common.{◌≡◌, ◌*ℤ◌, ◌^◌, ◌-◌, ℤ, pos, min, ap₂, ◌∙◌, subst}
use Rattle.std.specs.Int.{w64, w128}
use Rattle.std.specs.Int.RustNames.{FitsSigned}
use Rattle.std.specs.Ordering.{int_cmp}
use Rattle.std.proofs.lemmas.Int.{to_z-of_z}
use Rattle.tt_value.specs.Order.{units_of, scale_of}
use Rattle.tt_value.proofs.TenLemmas.{aligned}
use Rattle.tt_value.proofs.order.compare_aligned.Goals as goal

pub returns : goal.returns
returns c =
    let a = c.args.a.now in
    let b = c.args.b.now in
    let first : FitsSigned w64 c.units.result = record { sfits = c.units.type_inv } in
    let second : FitsSigned w64 c.units-2.result = record { sfits = c.units-2.type_inv } in
    let left : c.with_digits.result ≡ units_of a *ℤ pos (10 ^ min (scale_of b - scale_of a) 19) =
    c.with_digits.ensures
    ∙ ap₂ (λ x n. x *ℤ pos (10 ^ min n 19)) (to_z-of_z w64 c.units.result first ∙ c.units.ensures) (ap₂ (λ m n. m - n) c.scale.ensures c.scale-2.ensures) in
    let right : c.from.result ≡ units_of b = c.from.ensures ∙ to_z-of_z w64 c.units-2.result second ∙ c.units-2.ensures in
    let P : ℤ → Type 0 = λ x. FitsSigned w64 x in
    c.cmp.ensures
    ∙ ap₂ int_cmp (to_z-of_z w128 c.with_digits.result (record { sfits = c.with_digits.type_inv })) (to_z-of_z w128 c.from.result (record { sfits = c.from.type_inv }))
    ∙ ap₂ int_cmp left right
    ∙ aligned (units_of a) (units_of b) (scale_of a) (scale_of b) c.requires (subst P c.units-2.ensures second)

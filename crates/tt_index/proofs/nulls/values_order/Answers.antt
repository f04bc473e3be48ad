use Rattle.std.proofs.Common.{rules, ◌≡◌, ◌<◌, ◌∷◌, [], length, ap, sym, ◌∙◌}
use Rattle.std.specs.Cmp.Lexicographic.{slice_cmp}
use Rattle.tt_value.specs.Order.{value_cmp}
use Rattle.tt_value.specs.declared.value.Value.TheVariants.{Null}
use Rattle.tt_index.proofs.Wholes.{null_long}
use Rattle.tt_index.proofs.nulls.values_order.Goals as goal

pub returns-in-len1-up : goal.returns-in-len1-up
returns-in-len1-up c =
    let is : c.args.first.now ≡ Null = search rules in
    let long : 0 < length c.args.rest.now = search rules in
    sym (ap (λ v. slice_cmp value_cmp (v ∷ c.args.rest.now) (Null ∷ [])) is ∙ null_long c.args.rest.now long)

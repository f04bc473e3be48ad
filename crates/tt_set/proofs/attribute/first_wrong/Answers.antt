use Rattle.std.proofs.Common.{◌≡◌, Some, None, arith, subst}
use Rattle.std.proofs.lemmas.Grind.{common_steps}
use Rattle.toml.specs.View.{members_view}
use Rattle.tt_set.proofs.Order.{first_wrong, ascend_from, judged, Judged}
use Rattle.tt_set.proofs.attribute.first_wrong.Goals as goal

pub returns-then-not-is_right-clause-wrong : goal.returns-then-not-is_right-clause-wrong
returns-then-not-is_right-clause-wrong c =
    let ms = members_view c.args.table.now.entries in
    let all = judged ms (ascend_from c.args.table.now.entries c.iter-name-items.ensures.ordered) in
    let found : first_wrong ms ≡ Some c.as_str-then-not-is_right.result.now = grind (arith, common_steps) in
    subst (Judged ms) found all

pub returns-clause-right : goal.returns-clause-right
returns-clause-right c =
    let ms = members_view c.args.table.now.entries in
    let all = judged ms (ascend_from c.args.table.now.entries c.iter-name-items.ensures.ordered) in
    let found : first_wrong ms ≡ None = grind (arith, common_steps) in
    subst (Judged ms) found all

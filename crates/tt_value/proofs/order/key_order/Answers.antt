use Rattle.std.proofs.Common.{sym, ◌∙◌}
use Rattle.tt_value.specs.OrderLaws.{equal_rows}
use Rattle.tt_value.proofs.order.key_order.Goals as goal

pub returns-clause-equal : goal.returns-clause-equal
returns-clause-equal c = λ e. equal_rows c.args.a.now c.args.b.now (sym c.cmp.ensures ∙ e)

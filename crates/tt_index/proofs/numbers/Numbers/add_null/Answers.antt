use Rattle.std.proofs.Common.{ap, sym, ◌∙◌}
use Rattle.std.proofs.lemmas.Result.{on_ok_weaker}
use Rattle.tt_value.specs.Order.{row_cmp}
use Rattle.tt_index.specs.Rows.{changed}
use Rattle.tt_index.specs.Indexes.{with_place}
use Rattle.tt_index.specs.Nulls.{null_row}
use Rattle.tt_index.specs.Numbers.{with_nulls}
use Rattle.tt_index.proofs.Wholes.{changed_null}
use Rattle.tt_index.proofs.numbers.Numbers.add_null.Goals as goal

pub returns-clause-ok : goal.returns-clause-ok
returns-clause-ok c =
    let n = c.self.inside in
    on_ok_weaker c.add_null.result
    (λ e.
    ap (with_nulls n.keys.entries) e
    ∙ sym (changed_null (with_place c.args.place) n.keys.entries n.nulls)
    ∙ ap (changed row_cmp (with_place c.args.place) null_row) c.self.view_is)
    c.add_null.ensures.ok

use Rattle.std.proofs.Common.{ap, sym, ◌∙◌}
use Rattle.std.proofs.lemmas.Result.{on_ok_weaker}
use Rattle.tt_value.specs.Order.{row_cmp}
use Rattle.tt_index.specs.Rows.{changed}
use Rattle.tt_index.specs.Indexes.{with_place}
use Rattle.tt_index.specs.Numbers.{with_nulls}
use Rattle.tt_index.specs.Whole.{whole_row}
use Rattle.tt_index.proofs.Wholes.{changed_whole}
use Rattle.tt_index.proofs.numbers.Numbers.add.Goals as goal

pub returns-clause-ok : goal.returns-clause-ok
returns-clause-ok c =
    let n = c.self.inside in
    on_ok_weaker c.add_whole.result
    (λ e.
    ap (λ es. with_nulls es n.nulls) e
    ∙ sym (changed_whole (with_place c.args.place) c.args.key.now n.keys.entries n.nulls)
    ∙ ap (changed row_cmp (with_place c.args.place) (whole_row c.args.key.now)) c.self.view_is)
    c.add_whole.ensures.ok

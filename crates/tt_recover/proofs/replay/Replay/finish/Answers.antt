use Rattle.std.proofs.Common.{ap, ◌∙◌, unwrap_or, nat_cmp}
use Rattle.std.specs.BTreeSet.{contains}
use Rattle.std.proofs.lemmas.Result.{IfOk-weaker}
use Rattle.tt_value.specs.declared.value.Cell.TheVariants.{Empty}
use Rattle.tt_recover.proofs.ReplayLemmas.{laid_stands}
use Rattle.tt_recover.proofs.replay.Replay.finish.Goals as goal

pub returns-clause-found : goal.returns-clause-found
returns-clause-found c trail has =
    IfOk-weaker c.rows_of.result _ _ (λ rows shown q.
    shown q
    ∙ ap (λ o. unwrap_or o Empty) (c.in_ok-cells.ensures.laid q)
    ∙ laid_stands (contains nat_cmp c.args.self.ended) q c.args.self.changes.items trail has.changes has.ended) c.rows_of.ensures.shown

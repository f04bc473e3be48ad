use Rattle.std.proofs.Common.{◌∙◌, ap, sym}
use Rattle.tt_txn.specs.Table.{first_that_changed}
use Rattle.tt_txn.proofs.Views.{changed_seen}
use Rattle.tt_txn.proofs.txns.Txns.first_that_changed.Goals as goal

pub returns-clause-first : goal.returns-clause-first
returns-clause-first c =
    let t = c.args.table in
    c.first_changer.ensures ∙ ap (first_that_changed t) c.as_slice.ensures.value ∙ sym (changed_seen c.self.inside.locks t c.self.inside.live.items) ∙ ap (first_that_changed t) c.self.view_is

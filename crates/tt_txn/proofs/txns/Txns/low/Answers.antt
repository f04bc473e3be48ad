use Rattle.std.proofs.Common.{◌∙◌, ap, sym}
use Rattle.tt_txn.specs.Table.{Transactions, least_of, firsts}
use Rattle.tt_txn.proofs.Views.{firsts_seen}
use Rattle.tt_txn.proofs.txns.Txns.low.Goals as goal

pub returns : goal.returns
returns c =
    c.low_of.ensures
    ∙ ap (λ (ls : Transactions). least_of c.args.at (firsts ls)) c.as_slice.ensures.value
    ∙ ap (least_of c.args.at) (sym (firsts_seen c.self.inside.locks c.self.inside.live.items))
    ∙ ap (λ (ls : Transactions). least_of c.args.at (firsts ls)) c.self.view_is

use Rattle.std.proofs.Common.{◌∙◌, ap, sym, Some}
use Rattle.tt_txn.proofs.Places.{there}
use Rattle.tt_txn.proofs.table.transaction_in.Goals as goal

pub returns-in-Ok : goal.returns-in-Ok
returns-in-Ok c = ap Some c.index-live-at.is ∙ sym (there c.args.number c.args.live.now c.in-Ok.at c.index-live-at.result c.in-Ok.ensures.found)

use Rattle.std.proofs.Common.{sym}
use Rattle.tt_txn.proofs.Views.{own_is}
use Rattle.tt_txn.proofs.tests.unlock.Goals as goal

pub unlock-requires : goal.unlock-requires
unlock-requires c =
    let whole = c.in-Some.ensures.whole in
    (own_is c.in-Some.number c.args.name.now c.args.txns.now (sym c.in-Some.ensures.holder) whole.ascending (whole.names c.args.name.now)).1

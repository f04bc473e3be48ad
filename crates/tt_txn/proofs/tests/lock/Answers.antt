use Rattle.tt_txn.proofs.Tables.{number_lives}
use Rattle.tt_txn.proofs.tests.lock.Goals as goal

pub lock-requires : goal.lock-requires
lock-requires c = number_lives c.args.session c.in-Some.number c.args.txns.now c.in-Some.ensures.number

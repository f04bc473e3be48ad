use Rattle.tt_txn.proofs.Tables.{number_lives}
use Rattle.tt_txn.proofs.tests.end.Goals as goal

pub end-requires : goal.end-requires
end-requires c = number_lives c.args.session c.in-Some.number c.args.txns.now c.in-Some.ensures.number

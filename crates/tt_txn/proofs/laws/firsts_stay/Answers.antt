use Rattle.tt_txn.proofs.LawProofs.{firsts_stay}
use Rattle.tt_txn.proofs.laws.firsts_stay.Goals as goal

pub returns : goal.returns
returns c = firsts_stay

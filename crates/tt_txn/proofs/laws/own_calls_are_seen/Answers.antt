use Rattle.tt_txn.proofs.LawProofs.{own_calls}
use Rattle.tt_txn.proofs.laws.own_calls_are_seen.Goals as goal

pub returns : goal.returns
returns c = own_calls

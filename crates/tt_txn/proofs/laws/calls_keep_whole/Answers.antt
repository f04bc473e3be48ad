use Rattle.tt_txn.proofs.LawProofs.{calls_keep}
use Rattle.tt_txn.proofs.laws.calls_keep_whole.Goals as goal

pub returns : goal.returns
returns c = calls_keep

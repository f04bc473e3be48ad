use Rattle.tt_txn.proofs.LawProofs.{holders_are}
use Rattle.tt_txn.proofs.laws.holders_are_others.Goals as goal

pub returns : goal.returns
returns c = holders_are

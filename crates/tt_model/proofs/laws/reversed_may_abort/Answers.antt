use Rattle.tt_model.proofs.laws.reversed_may_abort.Goals as goal
use Rattle.tt_model.proofs.Theorems

pub returns : goal.returns
returns c = Theorems.reversed_may_abort

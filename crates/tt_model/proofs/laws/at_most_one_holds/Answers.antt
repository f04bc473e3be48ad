use Rattle.tt_model.proofs.laws.at_most_one_holds.Goals as goal
use Rattle.tt_model.proofs.Theorems

pub returns : goal.returns
returns c = Theorems.at_most_one_holds

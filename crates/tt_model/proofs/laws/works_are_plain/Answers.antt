use Rattle.tt_model.proofs.laws.works_are_plain.Goals as goal
use Rattle.tt_model.proofs.Theorems

pub returns : goal.returns
returns c = Theorems.works_are_plain

use Rattle.tt_model.proofs.laws.commits_alone.Goals as goal
use Rattle.tt_model.proofs.Theorems

pub returns : goal.returns
returns c = Theorems.commits_alone

use Rattle.tt_model.proofs.laws.opening_finds_committed.Goals as goal
use Rattle.tt_model.proofs.Theorems

pub returns : goal.returns
returns c = Theorems.opening_finds_committed

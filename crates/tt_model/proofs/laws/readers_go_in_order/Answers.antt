use Rattle.tt_model.proofs.laws.readers_go_in_order.Goals as goal
use Rattle.tt_model.proofs.Theorems

pub returns : goal.returns
returns c = Theorems.readers_go_in_order

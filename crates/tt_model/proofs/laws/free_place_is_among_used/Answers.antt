use Rattle.tt_model.proofs.laws.free_place_is_among_used.Goals as goal
use Rattle.tt_model.proofs.Theorems

pub returns : goal.returns
returns c = Theorems.free_place_is_among_used

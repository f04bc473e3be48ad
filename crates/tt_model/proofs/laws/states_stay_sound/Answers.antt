use Rattle.tt_model.proofs.laws.states_stay_sound.Goals as goal
use Rattle.tt_model.proofs.Theorems

pub returns : goal.returns
returns c = Theorems.states_stay_sound

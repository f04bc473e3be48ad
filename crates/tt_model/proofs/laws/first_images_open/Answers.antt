use Rattle.tt_model.proofs.laws.first_images_open.Goals as goal
use Rattle.tt_model.proofs.Theorems

pub returns : goal.returns
returns c = Theorems.first_images_open

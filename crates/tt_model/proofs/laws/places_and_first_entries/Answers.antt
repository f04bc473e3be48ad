use Rattle.tt_model.proofs.laws.places_and_first_entries.Goals as goal
use Rattle.tt_model.proofs.Theorems

pub returns : goal.returns
returns c = Theorems.places_and_first_entries

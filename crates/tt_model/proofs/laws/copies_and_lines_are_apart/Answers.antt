use Rattle.tt_model.proofs.laws.copies_and_lines_are_apart.Goals as goal
use Rattle.tt_model.proofs.Theorems

pub returns : goal.returns
returns c = Theorems.copies_and_lines_are_apart

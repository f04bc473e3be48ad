use Rattle.tt_model.proofs.laws.lines_have_answers.Goals as goal
use Rattle.tt_model.proofs.Theorems

pub returns : goal.returns
returns c = Theorems.lines_have_answers

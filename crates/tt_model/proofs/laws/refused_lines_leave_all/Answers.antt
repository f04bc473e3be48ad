use Rattle.tt_model.proofs.laws.refused_lines_leave_all.Goals as goal
use Rattle.tt_model.proofs.Theorems

pub returns : goal.returns
returns c = Theorems.refused_lines_leave_all

use Rattle.tt_cells.proofs.LawLemmas.{rest_stays}
use Rattle.tt_cells.proofs.laws.the_rest_stays.Goals as goal

pub returns : goal.returns
returns c = rest_stays

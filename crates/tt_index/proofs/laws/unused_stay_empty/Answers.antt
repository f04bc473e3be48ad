use Rattle.tt_index.proofs.LawLemmas as lemmas
use Rattle.tt_index.proofs.laws.unused_stay_empty.Goals as goal

pub returns : goal.returns
returns c = lemmas.unused_stay_empty

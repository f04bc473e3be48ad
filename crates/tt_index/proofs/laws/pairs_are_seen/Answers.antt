use Rattle.tt_index.proofs.LawLemmas as lemmas
use Rattle.tt_index.proofs.laws.pairs_are_seen.Goals as goal

pub returns : goal.returns
returns c = lemmas.pairs_are_seen

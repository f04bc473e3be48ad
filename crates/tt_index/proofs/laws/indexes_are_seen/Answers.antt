use Rattle.tt_index.proofs.LawLemmas as lemmas
use Rattle.tt_index.proofs.laws.indexes_are_seen.Goals as goal

pub returns : goal.returns
returns c = lemmas.indexes_are_seen

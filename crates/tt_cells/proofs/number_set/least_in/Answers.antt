use Rattle.std.proofs.Common.{arith}
use Rattle.tt_cells.proofs.SetLemmas.{within_words, full_words_below, full_since}
use Rattle.tt_cells.proofs.number_set.least_in.Goals as goal

pub least_from-requires-clause-within : goal.least_from-requires-clause-within
least_from-requires-clause-within c = within_words c.args.words.now c.args.at c.requires.before

pub least_from-requires-clause-full : goal.least_from-requires-clause-full
least_from-requires-clause-full c = full_words_below c.args.words.now c.args.at (λ i. omega (arith, c.type_inv.words i)) c.requires.before

pub least_from-requires-clause-partial : goal.least_from-requires-clause-partial
least_from-requires-clause-partial c = λ l e. c.requires.partial (full_since c.args.words.now c.args.at e)

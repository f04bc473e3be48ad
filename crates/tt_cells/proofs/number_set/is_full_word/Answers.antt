use Rattle.std.proofs.Common.{arith, IsTrue, false}
use Rattle.tt_cells.proofs.SetLemmas.{word_says, none_full_past}
use Rattle.tt_cells.proofs.number_set.is_full_word.Goals as goal

pub returns-then-at-words : goal.returns-then-at-words
returns-then-at-words c = (λ (h : IsTrue false). cc, λ f. absurd (none_full_past c.args.words.now c.args.at c.if-at-words.true f))

pub returns : goal.returns
returns c = word_says c.args.words.now c.args.at (omega (arith, c.type_inv.words c.args.at))

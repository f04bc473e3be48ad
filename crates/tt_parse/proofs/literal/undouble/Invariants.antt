use Rattle.std.proofs.Common.{◌≡◌, ◌++◌, length, false}
use Rattle.tt_parse.specs.Symbols.{undoubled}
use Rattle.tt_parse.proofs.literal.undouble.Given as goal

abbrev pub invariant-loop-text : goal.invariant-loop-text
invariant-loop-text l = l.plain.items ++ undoubled l.is_second l.text ≡ undoubled false l.initial.text

abbrev pub decreases-loop-text : goal.decreases-loop-text
decreases-loop-text l = length l.text

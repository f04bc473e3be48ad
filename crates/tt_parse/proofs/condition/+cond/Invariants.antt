use Rattle.std.proofs.Common.{◌≡◌, ◌+◌, ◌*◌, length}
use Rattle.tt_parse.specs.Reading as read
use Rattle.tt_parse.proofs.Loops.{both_rest, either_rest}
use Rattle.tt_parse.proofs.condition.+cond.Given as goal

abbrev pub decreases-part : goal.decreases-part
decreases-part l = 4 * l.levels

abbrev pub decreases-negation : goal.decreases-negation
decreases-negation l = 4 * l.levels + 1

abbrev pub decreases-both : goal.decreases-both
decreases-both l = 4 * l.levels + 1

abbrev pub decreases-cond : goal.decreases-cond
decreases-cond l = 4 * l.levels + 2

abbrev pub decreases-parenthesized : goal.decreases-parenthesized
decreases-parenthesized l = 4 * l.levels + 3

abbrev pub invariant-both-ands : goal.invariant-both-ands
invariant-both-ands l = both_rest l.levels l.left l.tokens ≡ read.both (read.part l.levels) l.fn.tokens

abbrev pub decreases-both-ands : goal.decreases-both-ands
decreases-both-ands l = length l.tokens

abbrev pub invariant-cond-ors : goal.invariant-cond-ors
invariant-cond-ors l = either_rest l.levels l.left l.tokens ≡ read.cond_of (read.part l.levels) l.fn.tokens

abbrev pub decreases-cond-ors : goal.decreases-cond-ors
decreases-cond-ors l = length l.tokens

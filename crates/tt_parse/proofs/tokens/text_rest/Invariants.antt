use Rattle.std.proofs.Common.{◌≡◌, ◌+◌, ◌≤◌, length, false}
use Rattle.tt_parse.specs.Tokens.{text_rest}
use Rattle.tt_parse.proofs.tokens.text_rest.Given as goal

abbrev pub invariant-loop-z : goal.invariant-loop-z
invariant-loop-z l = (l.at + text_rest l.is_second l.z ≡ 1 + text_rest false l.initial.z) × (1 ≤ l.at) × (l.at + length l.z ≡ length l.initial.z + 1)

abbrev pub decreases-loop-z : goal.decreases-loop-z
decreases-loop-z l = length l.z

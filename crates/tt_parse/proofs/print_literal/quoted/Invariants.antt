use Rattle.std.proofs.Common.{◌≡◌, length, ◌∷◌, ◌++◌}
use Rattle.tt_parse.specs.Spelling.{doubled}
use Rattle.tt_parse.proofs.print_literal.quoted.Given as goal

abbrev pub invariant-quotes : goal.invariant-quotes
invariant-quotes l = l.bytes.items ++ doubled l.text ≡ 39 ∷ doubled l.fn.text

abbrev pub decreases-quotes : goal.decreases-quotes
decreases-quotes l = length l.text

use Rattle.tt_parse.proofs.print_literal.+dotted.Given as goal

abbrev pub decreases-dotted : goal.decreases-dotted
decreases-dotted l = l.scale

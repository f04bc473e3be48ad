use Rattle.std.proofs.Common.{◌≡◌, length}
use Rattle.tt_parse.specs.Printer.{put_all}
use Rattle.tt_parse.specs.Spelling as spell
use Rattle.tt_parse.proofs.print_list.more_items.Given as goal

abbrev pub invariant-items : goal.invariant-items
invariant-items g l = put_all l.out (spell.more_items g.T.PrintItem.pieces l.items) ≡ put_all l.fn.out (spell.more_items g.T.PrintItem.pieces l.fn.items)

abbrev pub decreases-items : goal.decreases-items
decreases-items g l = length l.items

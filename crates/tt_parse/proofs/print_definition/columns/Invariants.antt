use Rattle.std.proofs.Common.{◌≡◌, length}
use Rattle.tt_parse.specs.Printer.{put_all}
use Rattle.tt_parse.specs.Spelling as spell
use Rattle.tt_parse.proofs.print_definition.columns.Given as goal

abbrev pub invariant-columns : goal.invariant-columns
invariant-columns l = put_all l.out (spell.columns l.columns) ≡ put_all l.fn.out (spell.columns l.fn.columns)

abbrev pub decreases-columns : goal.decreases-columns
decreases-columns l = length l.columns

use Rattle.std.proofs.Common.{ap}
use Rattle.tt_cells.specs.Copies.{copies_of, no_copies}
use Rattle.tt_cells.proofs.copies.PageCopies.new.Goals as goal

pub returns : goal.returns
unfolding copies_of
returns c = ap no_copies c.in_ok-blank_numbers.ensures

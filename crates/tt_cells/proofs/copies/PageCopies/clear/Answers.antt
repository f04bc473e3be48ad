use Rattle.std.proofs.Common.{ap}
use Rattle.tt_cells.specs.Copies.{Copies, copies_of, no_copies}
use Rattle.tt_cells.proofs.copies.PageCopies.clear.Goals as goal

pub returns : goal.returns
unfolding copies_of
returns c = ap (λ (x : Copies). no_copies x.room) c.self.view_is

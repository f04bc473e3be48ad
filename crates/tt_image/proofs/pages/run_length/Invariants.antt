use Rattle.std.proofs.Common.{take, drop}
use Rattle.tt_image.specs.Pages.{AreFrom}
use Rattle.tt_image.proofs.pages.run_length.Given as goal

abbrev pub invariant-loop-count : goal.invariant-loop-count
invariant-loop-count l = AreFrom l.first (take l.count (drop l.from l.copies.copies))

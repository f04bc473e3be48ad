use Rattle.std.proofs.Common.{◌≡◌, drop}
use Rattle.tt_log.specs.Placement.{all_placed}
use Rattle.tt_log.proofs.placement.all_fit.Given as goal

abbrev pub invariant-loop-count : goal.invariant-loop-count
invariant-loop-count l = all_placed l.initial.end l.size l.lengths ≡ all_placed l.end l.size (drop l.count-index l.lengths)

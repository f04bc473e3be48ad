use Rattle.std.proofs.Common.{◌≡◌, true, drop}
use Rattle.tt_disk.specs.Leave.{was_emptied}
use Rattle.tt_disk.proofs.memory.leave.was_emptied.Given as goal

-- what the calls so far leave to be asked of the rest
abbrev pub invariant-loop-step : goal.invariant-loop-step
invariant-loop-step l = was_emptied l.is_there (drop l.step-index l.steps) ≡ was_emptied true l.steps

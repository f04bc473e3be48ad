use Rattle.std.proofs.Common.{take}
use Rattle.tt_disk.specs.Steps.{Leads, contents}
use Rattle.tt_disk.proofs.memory.leave.after_steps.Given as goal

abbrev pub invariant-loop-step : goal.invariant-loop-step
invariant-loop-step l = Leads (take l.step-index l.steps) (contents l.settled) (contents l.content)

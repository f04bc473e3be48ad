use Rattle.std.proofs.lemmas.List.{get_or_default}
use Rattle.tt_disk.proofs.Leave.{leads_more}
use Rattle.tt_disk.proofs.memory.leave.after_steps.Goals as goal

pub loop-step-preserved : goal.loop-step-preserved
loop-step-preserved c = leads_more c.args.steps.now c.loop-step.step-index _ _ _ _ c.loop-step-test.true (get_or_default c.args.steps.now c.loop-step.step-index _ _ c.loop-step-test.true) c.loop-step.invariant c.in_ok-content-2.ensures

use Rattle.std.proofs.Common.{refl}
use Rattle.tt_engine.proofs.CommitLemmas.{wished_so}
use Rattle.tt_engine.proofs.memory.Memory.make_next_durable.Goals as goal

pub returns-clause-decided : goal.returns-clause-decided
returns-clause-decided c s h = wished_so c.args.self.now _ s c.answered.result h refl refl (refl, refl, refl) c.answered.ensures.0 c.answered.ensures.1 c.answered.ensures.2

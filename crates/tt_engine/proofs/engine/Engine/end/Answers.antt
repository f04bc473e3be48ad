use Rattle.std.proofs.Common.{refl}
use Rattle.tt_journal.proofs.TrailLemmas.{none_forced}
use Rattle.tt_engine.proofs.CommitLemmas.{stands_forced}
use Rattle.tt_engine.specs.RepresentsLaws.{state_opens}
use Rattle.tt_engine.proofs.engine.Engine.end.Goals as goal

pub returns-in-Ok-clause-ends : goal.returns-in-Ok-clause-ends
returns-in-Ok-clause-ends g c told = record {
  ready = (c.in-Ok.ensures.performed told).ready;
  stands = λ s h. record { log = ((c.in-Ok.ensures.performed told).written s h.log).stands; memory = stands_forced c.args.self.now.memory c.args.self.now.memory s h.memory refl refl refl refl refl };
  written = λ s h. (c.in-Ok.ensures.performed told).written s h.log;
  stopped = λ s h. tt;
}

pub returns-in-Err-clause-ends : goal.returns-in-Err-clause-ends
returns-in-Err-clause-ends g c told = record {
  ready = tt;
  stands = λ s h. tt;
  written = λ s h. tt;
  stopped = λ s h.
      let b = (c.in-Err.ensures.performed told).broken s h.log in
      record { leaves = λ k. state_opens c.args.self.now _ s (g.L.Volume.may c.write.new.volume) h (none_forced s.forced s (g.L.Volume.may c.write.new.volume) (b.crash k)); breaks = b };
}

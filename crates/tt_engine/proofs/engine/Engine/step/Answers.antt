use Rattle.tt_journal.specs.SameLaws.{ends_of}
use Rattle.tt_engine.proofs.DecidedLemmas.{decided_advances, decided_stops}
use Rattle.tt_engine.proofs.engine.Engine.step.Goals as goal

pub returns-in-Ok-clause-steps : goal.returns-in-Ok-clause-steps
returns-in-Ok-clause-steps g c told = record {
  ready = (c.in-Ok.ensures.performed told).ready;
  done = λ s h. decided_advances g.L.Volume c.args.self.now _ c.args.logs.now c.write.new.volume s c.args.request c.decide-reply.result
      (c.decide-reply.ensures.decided s (ends_of c.args.self.now.log (g.L.Volume.now c.args.logs.now) s h.log) h.memory) ((c.in-Ok.ensures.performed told).written s h.log);
  stopped = λ s h. tt;
}

pub returns-in-Err-clause-steps : goal.returns-in-Err-clause-steps
returns-in-Err-clause-steps g c told = record {
  ready = tt;
  done = λ s h. tt;
  stopped = λ s h. decided_stops g.L.Volume c.args.self.now (record { log = c.write.new.log; memory = c.decide-reply.new.self }) c.args.logs.now c.write.new.volume s c.args.request c.decide-reply.result h
      (c.decide-reply.ensures.decided s (ends_of c.args.self.now.log (g.L.Volume.now c.args.logs.now) s h.log) h.memory) ((c.in-Err.ensures.performed told).broken s h.log);
}

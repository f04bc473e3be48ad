use Rattle.std.proofs.Common.{Bool, true, sym, subst}
use Rattle.tt_model.specs.State.{State}
use Rattle.tt_model.specs.Step.{forced_where}
use Rattle.tt_model.specs.Works.{with_entries}
use Rattle.tt_journal.specs.Journal.{Breaks, Writes}
use Rattle.tt_journal.specs.WriteLaws.{entries_follow, then_forced, writes_breaks, writes_then}
use Rattle.tt_journal.proofs.journal.write.Goals as goal

pub returns-in-Err-clause-performed : goal.returns-in-Err-clause-performed
returns-in-Err-clause-performed g c told = record {
  ready = tt;
  written = λ s h. tt;
  broken = λ s h. then_forced g.V.Volume c.args.log.now c.args.volume.now s c.add_all.new.volume (with_entries (g.E.Entries.left c.args.entries) s) c.args.force h
      (entries_follow (g.E.Entries.left c.args.entries) s h.bounds.1).most ((c.in-Err.ensures.performed told).broken s h);
}

pub returns-in-Ok-force_all-clause-performed : goal.returns-in-Ok-force_all-clause-performed
returns-in-Ok-force_all-clause-performed g c told = record {
  ready = (c.in-Ok-force_all.ensures.performed told).ready;
  written = λ s h.
      let mid : State = with_entries (g.E.Entries.left c.args.entries) s in
      let w = (c.in-Ok.ensures.performed told).written s h in
      subst (λ (b : Bool). Writes g.V.Volume c.args.log.now c.args.volume.now s c.force_all.new.log c.force_all.new.volume (forced_where b mid)) (sym c.if-not-force.false)
      (writes_then g.V.Volume c.args.log.now c.args.volume.now s c.add_all.new.log c.add_all.new.volume mid c.force_all.new.log c.force_all.new.volume (forced_where true mid) w ((c.in-Ok-force_all.ensures.performed told).written mid w.stands));
  broken = λ s h. tt;
}

pub returns-in-Err-force_all-clause-performed : goal.returns-in-Err-force_all-clause-performed
returns-in-Err-force_all-clause-performed g c told = record {
  ready = tt;
  written = λ s h. tt;
  broken = λ s h.
      let mid : State = with_entries (g.E.Entries.left c.args.entries) s in
      let w = (c.in-Ok.ensures.performed told).written s h in
      subst (λ (b : Bool). Breaks g.V.Volume c.args.log.now c.args.volume.now s c.force_all.new.volume (forced_where b mid)) (sym c.if-not-force.false)
      (writes_breaks g.V.Volume c.args.log.now c.args.volume.now s c.add_all.new.log c.add_all.new.volume mid c.force_all.new.volume (forced_where true mid) w ((c.in-Err-force_all.ensures.performed told).broken mid w.stands));
}

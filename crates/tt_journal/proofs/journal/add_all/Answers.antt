use Rattle.std.proofs.Common.{◌∙◌, arith}
use Rattle.tt_log.specs.Log.{write_position_of, file_size_of}
use Rattle.tt_journal.specs.WriteLaws.{rest_follows, so_far_breaks, so_far_more}
use Rattle.tt_journal.proofs.journal.add_all.Goals as goal

pub returns-in-Err-clause-performed : goal.returns-in-Err-clause-performed
returns-in-Err-clause-performed g c told = record {
  ready = tt;
  written = λ s h. tt;
  broken = λ s h. so_far_breaks g.V.Volume c.args.log.now c.args.volume.now s c.entries.log c.entries.volume c.add.new.volume (g.E.Entries.left c.args.entries) (g.E.Entries.left c.entries.entries) c.in-Some.entry (g.E.Entries.left c.next_entry.new.self)
      h (c.entries.invariant.written told s h) c.in-Some.ensures.given (λ mid stands. (c.in-Err.ensures.performed told).broken mid stands);
}

pub entries-preserved : goal.entries-preserved
entries-preserved g c = record {
  follow = rest_follows (file_size_of c.entries.log) (file_size_of c.add.new.log) (write_position_of c.entries.log) (write_position_of c.add.new.log) (g.E.Entries.left c.entries.entries) c.in-Some.entry (g.E.Entries.left c.next_entry.new.self)
      c.entries.invariant.follow c.in-Some.ensures.given c.in-Ok.ensures.rest;
  ready = λ told. (c.in-Ok.ensures.performed told).ready;
  later = omega (arith, c.add.ensures.cause.later, c.entries.invariant.later);
  stays = λ exact. c.in-Ok.ensures.cause.stays exact ∙ c.entries.invariant.stays exact;
  written = λ told s h. so_far_more g.V.Volume c.args.log.now c.args.volume.now s c.entries.log c.entries.volume c.add.new.log c.add.new.volume (g.E.Entries.left c.args.entries) (g.E.Entries.left c.entries.entries) c.in-Some.entry (g.E.Entries.left c.next_entry.new.self)
      (c.entries.invariant.written told s h) c.in-Some.ensures.given (λ mid stands. (c.in-Ok.ensures.performed told).written mid stands);
}

use Rattle.std.proofs.Common.{◌≤◌, ◌-◌}
use Rattle.tt_disk.specs.Faults.{Stays}
use Rattle.tt_log.specs.Scan.{StepsOn, IsUsedUp, most_left}
use Rattle.tt_log.proofs.scan.Scan.refill.Given as goal

abbrev pub decreases-files : goal.decreases-files
decreases-files g l = 1000000 - l.self.file

abbrev pub invariant-files : goal.invariant-files
invariant-files g l = record {
  none : IsUsedUp l.self;
  later : g.V.Volume.faults l.initial.volume ≤ g.V.Volume.faults l.volume;
  stays : Stays g.V.Volume.exact (g.V.Volume.faults l.initial.volume) (g.V.Volume.faults l.volume);
  fewer : most_left l.self ≤ most_left l.initial.self;
  steps : StepsOn g.V.Volume l.initial.self l.self l.initial.volume l.volume;
}

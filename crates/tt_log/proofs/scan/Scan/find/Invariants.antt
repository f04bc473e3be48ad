use Rattle.std.proofs.Common.{◌≡◌, ◌≤◌, ◌<◌}
use Rattle.tt_disk.specs.Volume.{Keeps}
use Rattle.tt_log.specs.Log.{walk_end}
use Rattle.tt_log.specs.Scan.{IsGoing, ahead, from_here, most_left}
use Rattle.tt_disk.specs.Faults.{Stays}
use Rattle.tt_log.proofs.scan.Scan.find.Given as goal

abbrev pub decreases-entries : goal.decreases-entries
decreases-entries g l = most_left l.self

abbrev pub invariant-entries : goal.invariant-entries
invariant-entries g l = record {
  below : l.self.file < 1000000;
  later : g.V.Volume.faults l.initial.volume ≤ g.V.Volume.faults l.volume;
  stays : Stays g.V.Volume.exact (g.V.Volume.faults l.initial.volume) (g.V.Volume.faults l.volume);
  fewer : most_left l.self ≤ most_left l.initial.self;
  from : l.self.from ≡ l.initial.self.from;
  keeps : g.V.Volume.told → Keeps (g.V.Volume.now l.initial.volume) (g.V.Volume.now l.volume) (g.V.Volume.may l.initial.volume) (g.V.Volume.may l.volume);
  going : g.V.Volume.told → IsGoing l.self (g.V.Volume.now l.volume);
  end : g.V.Volume.told → (walk_end (ahead l.self (g.V.Volume.now l.volume))).file ≡ (walk_end (ahead l.initial.self (g.V.Volume.now l.initial.volume))).file;
  here : g.V.Volume.told → from_here l.self (g.V.Volume.now l.volume) ≡ from_here l.initial.self (g.V.Volume.now l.initial.volume);
}

use Rattle.std.proofs.Common.{◌≡◌, ◌≤◌, ◌-◌, take, drop}
use Rattle.tt_disk.specs.Faults.{Stays}
use Rattle.tt_disk.specs.Volume.{size_of, OnlyAt}
use Rattle.tt_image.specs.Pages.{BeginWithin, with_pages}
use Rattle.tt_image.specs.Crash.{LeavesShut}
use Rattle.tt_image.proofs.pages.write_pages.Given as goal

abbrev pub invariant-loop-from : goal.invariant-loop-from
invariant-loop-from g l = record {
  passed : l.from ≤ l.count;
  later : g.V.Volume.faults l.initial.volume ≤ g.V.Volume.faults l.volume;
  stays : Stays g.V.Volume.exact (g.V.Volume.faults l.initial.volume) (g.V.Volume.faults l.volume);
  written : g.V.Volume.told → g.V.Volume.now l.volume l.name ≡ with_pages (take l.from (take l.count l.copies.copies)) (g.V.Volume.now l.initial.volume l.name);
  shut : g.V.Volume.told → LeavesShut (g.V.Volume.may l.volume l.name);
  within : g.V.Volume.told → BeginWithin (size_of (g.V.Volume.now l.volume l.name)) (drop l.from (take l.count l.copies.copies));
  others : g.V.Volume.told → OnlyAt l.name (g.V.Volume.now l.initial.volume) (g.V.Volume.now l.volume) (g.V.Volume.may l.initial.volume) (g.V.Volume.may l.volume);
}

abbrev pub decreases-loop-from : goal.decreases-loop-from
decreases-loop-from g l = l.count - l.from

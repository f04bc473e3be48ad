use Rattle.std.proofs.Common.{◌≡◌, take, map}
use Rattle.tt_disk.specs.Leave.{each_contents, AreLeft, least_of}
use Rattle.tt_disk.proofs.memory.leave.left_files.Given as goal

abbrev pub invariant-loop-i : goal.invariant-loop-i
invariant-loop-i l = record {
  left : AreLeft (take l.i l.files) l.left.items;
  least : l.pick ≡ 0 → each_contents l.left.items ≡ map least_of (take l.i l.files);
  as_read : l.pick ≡ 1 → each_contents l.left.items ≡ each_contents (take l.i l.files);
}

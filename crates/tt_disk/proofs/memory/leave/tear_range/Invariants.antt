use Rattle.std.proofs.Common.{◌≡◌, ◌+◌, length, take, drop}
use Rattle.tt_disk.proofs.memory.leave.tear_range.Given as goal

abbrev pub invariant-loop-i : goal.invariant-loop-i
invariant-loop-i l = record {
  long : length l.content.items ≡ length l.initial.content.items;
  front : take l.from l.content.items ≡ take l.from l.initial.content.items;
  back : drop (l.from + l.count) l.content.items ≡ drop (l.from + l.count) l.initial.content.items;
}

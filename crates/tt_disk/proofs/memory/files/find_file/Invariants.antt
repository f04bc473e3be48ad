use Rattle.std.proofs.Common.{◌≡◌, take, None}
use Rattle.tt_disk.specs.Files.{found}
use Rattle.tt_disk.proofs.memory.files.find_file.Given as goal

abbrev pub invariant-loop-i : goal.invariant-loop-i
invariant-loop-i l = found (take l.i l.files) l.name ≡ None

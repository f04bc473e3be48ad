use Rattle.std.proofs.Common.{◌≡◌, ◌+◌, ◌^◌, min, take}
use Rattle.tt_parse.specs.Symbols.{units}
use Rattle.tt_parse.proofs.number.units.Given as goal

abbrev pub invariant-loop-b : goal.invariant-loop-b
invariant-loop-b l = l.n ≡ min (units (take l.b-index l.bytes)) (2 ^ 63 + 1)

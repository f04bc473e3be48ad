use Rattle.tt_value.proofs.WriteLemmas.{Written}
use Rattle.std.proofs.Common.{take}
use Rattle.tt_value.proofs.stored.write_values.Given as goal

abbrev pub invariant-values : goal.invariant-values
invariant-values l = Written (take l.value-index l.values) l.fn.out l.out l.at

use Rattle.std.proofs.Common.{◌-◌}
use Rattle.tt_value.proofs.ValueLemmas.{Read}
use Rattle.tt_value.proofs.stored.read_values.Given as goal

abbrev pub invariant-values : goal.invariant-values
invariant-values l = Read l.count l.bytes l.values.items (l.count - l.done) l.at

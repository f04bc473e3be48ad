use Rattle.std.proofs.Common.{ℕ, ◌<◌, get_or}
use Rattle.tt_value.specs.Stored.{IsStorableValue}
use Rattle.tt_value.specs.declared.value.Value.{Value}
use Rattle.tt_value.proofs.stored.are_storable.Given as goal

abbrev pub invariant-values : goal.invariant-values
invariant-values l = (k : ℕ) (d : Value) → k < l.value-index → IsStorableValue (get_or l.values k d)

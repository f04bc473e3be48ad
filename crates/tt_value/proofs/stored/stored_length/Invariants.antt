use Rattle.std.proofs.Common.{◌≡◌, ◌≤◌, ◌+◌, ◌*◌, length, take}
use Rattle.tt_value.specs.Stored.{values_bytes}
use Rattle.tt_value.proofs.stored.stored_length.Given as goal

abbrev pub invariant-values : goal.invariant-values
invariant-values l = record {
  so_far : l.total ≡ 1 + length (values_bytes (take l.value-index l.value-items));
  small : l.total ≤ 1 + l.value-index * 65538;
}

use Rattle.std.proofs.Common.{◌≡◌, ◌++◌}
use Rattle.tt_index.specs.Numbers.{as_rows}
use Rattle.tt_index.proofs.numbers.rows_of.Given as goal

abbrev pub invariant-keys : goal.invariant-keys
invariant-keys l = l.rows.entries ++ as_rows l.left ≡ as_rows l.initial.left

use Rattle.std.proofs.Common.{◌≡◌}
use Rattle.toml.specs.View.{members_view}
use Rattle.tt_set.proofs.Order.{first_wrong}
use Rattle.tt_set.proofs.attribute.first_wrong.Given as goal

abbrev pub invariant-names : goal.invariant-names
invariant-names l =
    (goal.iterator-names).can_next l.name-iterator ×
    (goal.iterator-names).is_finite l.name-iterator ×
    (first_wrong (members_view l.name-iterator) ≡ first_wrong (members_view l.table.entries))

use Rattle.std.proofs.Common.{◌≡◌, ℕ, None}
use Rattle.std.specs.BTreeMap.{get}
use Rattle.std.specs.BTreeSet.{contains}
use Rattle.std.specs.Ordering.{nat_cmp}
use Rattle.std.specs.Vec.Iter.{into_iter_items}
use Rattle.tt_recover.specs.Replay.{laid}
use Rattle.tt_recover.proofs.replay.lay_all.Given as goal

abbrev pub invariant-loop-change : goal.invariant-loop-change
invariant-loop-change l = (q : ℕ) → laid (contains nat_cmp l.fn.ended) q (get nat_cmp l.cells q) (into_iter_items l.change-iterator) ≡ laid (contains nat_cmp l.fn.ended) q None l.fn.changes.items

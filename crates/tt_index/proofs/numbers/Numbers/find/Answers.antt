use Rattle.std.proofs.Common.{rules, ◌≡◌, []}
use Rattle.std.specs.Ordering.{nat_cmp}
use Rattle.tt_index.specs.Indexes.{places_at}
use Rattle.tt_index.proofs.Sorted.{none_ascends}
use Rattle.tt_index.proofs.numbers.Numbers.find.Goals as goal

pub returns-in-None-clause-ordered : goal.returns-in-None-clause-ordered
returns-in-None-clause-ordered c =
    let e : places_at c.args.key.now c.args.self.now ≡ [] = search rules in
    none_ascends nat_cmp (places_at c.args.key.now c.args.self.now) e

use Rattle.std.proofs.Common.{rules, ◌≡◌, ◌∙◌, ap}
use Rattle.tt_index.specs.Nulls.{joined_by_null}
use Rattle.tt_index.specs.Numbers.{as_rows}
use Rattle.tt_index.proofs.Wholes.{joined}
use Rattle.tt_index.proofs.numbers.Numbers.to_rows.Goals as goal

pub returns : goal.returns
returns c =
    let n = c.self.inside in
    let made : c.in_ok-rows.rows.entries ≡ as_rows n.keys.entries = search rules in
    let all : c.copy_nulls.new.rows.entries ≡ joined_by_null n.nulls c.in_ok-rows.rows.entries = search rules in
    all ∙ ap (joined_by_null n.nulls) made ∙ joined n.keys.entries n.nulls ∙ c.self.view_is

use Rattle.std.proofs.Common.{rules, ◌≡◌, ◌∙◌, ◌++◌, ap, ap₂, sym, subst}
use Rattle.std.specs.List.Sorted.{IsStrictlySortedBy}
use Rattle.std.specs.Map.{keys_of}
use Rattle.std.specs.BTreeMap.Range.{entries_between}
use Rattle.std.specs.Ordering.{int_cmp}
use Rattle.tt_value.specs.Order.{row_cmp}
use Rattle.tt_index.specs.Indexes.{Entries, places_between}
use Rattle.tt_index.specs.PlaceSet.{places_of}
use Rattle.tt_index.specs.Numbers.{as_rows}
use Rattle.tt_index.proofs.Wholes.{between_both, rows_ascend}
use Rattle.tt_index.proofs.numbers.Numbers.range.Goals as goal

pub returns-clause-places : goal.returns-clause-places
returns-clause-places c =
    let n = c.self.inside in
    let low = c.among.result.low in
    let high = c.among.result.high in
    let part : c.range.result ≡ entries_between int_cmp low high n.keys.entries = search rules in
    let given : c.over_numbers.result ≡ places_of (as_rows c.range.result) ++ c.nulls_between-nulls.result = search rules in
    given ∙ ap₂ (λ fs ps. places_of (as_rows fs) ++ ps) part c.nulls_between-nulls.ensures
    ∙ sym (between_both c.args.low.now c.args.high.now low high c.among.ensures n.keys.entries n.nulls)
    ∙ ap (places_between c.args.low.now c.args.high.now) c.self.view_is

pub returns-clause-ordered : goal.returns-clause-ordered
returns-clause-ordered c =
    let P : Entries → Type 0 = λ es. IsStrictlySortedBy row_cmp (keys_of es) in
    subst P c.self.view_is (rows_ascend c.self.inside.keys.entries c.self.inside.nulls c.range.ensures.ordered)

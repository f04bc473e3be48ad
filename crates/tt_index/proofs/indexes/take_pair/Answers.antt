use Rattle.std.proofs.Common.{refl, sym, ap, ◌∙◌}
use Rattle.std.specs.BTreeMap.{is_at}
use Rattle.std.specs.Ordering.{nat_cmp}
use Rattle.std.proofs.lemmas.Cmp.{nat_cmp_total}
use Rattle.std.proofs.lemmas.Bool.{OnTrue_from, OnFalse_from, both_ways}
use Rattle.tt_value.specs.Order.{row_cmp}
use Rattle.tt_index.specs.Rows.{without, changed}
use Rattle.tt_index.specs.Indexes.{without_place}
use Rattle.tt_index.proofs.Changes.{changed_there, changed_missing, without_written}
use Rattle.tt_index.proofs.indexes.take_pair.Goals as goal

pub returns-in-Some-clause-others : goal.returns-in-Some-clause-others
returns-in-Some-clause-others c =
    let w = c.drop_entry.new.self in
    let test = is_at (nat_cmp c.args.index) in
    OnTrue_from c.is_empty.result _ (λ e. ap (without test) (c.get_mut.follows.holds w).0 ∙ without_written test c.args.indexes.now.entries w)

pub returns-in-Some-clause-left : goal.returns-in-Some-clause-left
returns-in-Some-clause-left c =
    let w = c.drop_entry.new.self in
    let change = changed row_cmp (without_place c.args.place) c.args.key.now in
    OnFalse_from c.is_empty.result _ (λ e.
    (c.get_mut.follows.holds w).0
    ∙ changed_there nat_cmp nat_cmp_total change c.args.index c.args.indexes.now.entries c.in-Some.tree.now w
    c.get_mut.ensures.ordered (sym c.in-Some.ensures.value) c.drop_entry.ensures (λ h. both_ways c.is_empty.result e (c.is_empty.ensures.1 (c.drop_entry.ensures ∙ h))))

pub returns-in-None-clause-left : goal.returns-in-None-clause-left
returns-in-None-clause-left c =
    ap (λ m. m.entries) c.get_mut.follows.holds-at-none
    ∙ sym (changed_missing nat_cmp (changed row_cmp (without_place c.args.place) c.args.key.now) c.args.index c.args.indexes.now.entries (sym c.in-None.ensures.value) refl)

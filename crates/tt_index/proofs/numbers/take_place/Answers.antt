use Rattle.std.proofs.Common.{refl, sym, ap, ◌∙◌}
use Rattle.std.specs.BTreeMap.{is_at}
use Rattle.std.specs.Ordering.{int_cmp}
use Rattle.std.proofs.lemmas.Cmp.{int_cmp_total}
use Rattle.std.proofs.lemmas.Bool.{OnTrue_from, OnFalse_from, OnFalse_at, both_ways}
use Rattle.tt_index.specs.Rows.{without}
use Rattle.tt_index.specs.Indexes.{without_place}
use Rattle.tt_index.proofs.Changes.{changed_there, changed_missing, without_written}
use Rattle.tt_index.proofs.numbers.take_place.Goals as goal

pub returns-in-Some-clause-others : goal.returns-in-Some-clause-others
returns-in-Some-clause-others c =
    let w = c.remove.new.self in
    let test = is_at (int_cmp c.args.key.now) in
    OnTrue_from c.remove.result _ (λ e. ap (without test) (c.get_mut.follows.holds w).0 ∙ without_written test c.args.keys.now.entries w)

pub returns-in-Some-clause-left : goal.returns-in-Some-clause-left
returns-in-Some-clause-left c =
    let w = c.remove.new.self in
    OnFalse_from c.remove.result _ (λ e.
    (c.get_mut.follows.holds w).0
    ∙ changed_there int_cmp int_cmp_total (without_place c.args.place) c.args.key.now c.args.keys.now.entries c.in-Some.places.now w
    c.get_mut.ensures.ordered (sym c.in-Some.ensures.value) (OnFalse_at e c.remove.ensures.left) (λ h. both_ways c.remove.result e (c.remove.ensures.last.1 h)))

pub returns-in-None-clause-left : goal.returns-in-None-clause-left
returns-in-None-clause-left c =
    ap (λ m. m.entries) c.get_mut.follows.holds-at-none
    ∙ sym (changed_missing int_cmp (without_place c.args.place) c.args.key.now c.args.keys.now.entries (sym c.in-None.ensures.value) refl)

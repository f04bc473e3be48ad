use Rattle.std.proofs.Common.{sym, ap, ◌∙◌}
use Rattle.std.specs.Map.{set_value}
use Rattle.std.specs.BTreeMap.{is_at}
use Rattle.std.specs.Ordering.{int_cmp}
use Rattle.std.proofs.lemmas.Cmp.{int_cmp_total}
use Rattle.std.proofs.lemmas.Map.Steps.{set_value_same}
use Rattle.std.proofs.lemmas.Result.{on_ok_weaker, on_err_weaker}
use Rattle.tt_index.specs.Indexes.{with_place}
use Rattle.tt_index.proofs.Changes.{changed_there}
use Rattle.tt_index.proofs.PlaceLists.{with_place_some}
use Rattle.tt_index.proofs.numbers.add_whole.Goals as goal

pub returns-in-Some-clause-ok : goal.returns-in-Some-clause-ok
returns-in-Some-clause-ok c =
    let w = c.add.new.self in
    on_ok_weaker c.add.result
    (λ e.
    (c.get_mut.follows.holds w).0
    ∙ changed_there int_cmp int_cmp_total (with_place c.args.place) c.args.key.now c.args.keys.now.entries c.in-Some.places.now w
    c.get_mut.ensures.ordered (sym c.in-Some.ensures.value) e (with_place_some c.args.place c.in-Some.places.now))
    c.add.ensures.ok

pub returns-in-Some-clause-err : goal.returns-in-Some-clause-err
returns-in-Some-clause-err c =
    let w = c.add.new.self in
    let test = is_at (int_cmp c.args.key.now) in
    let es = c.args.keys.now.entries in
    on_err_weaker c.add.result
    (λ e. (c.get_mut.follows.holds w).0 ∙ ap (set_value test es) e ∙ set_value_same test es c.in-Some.places.now (sym c.in-Some.ensures.value))
    c.add.ensures.err

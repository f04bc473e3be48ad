use Rattle.std.proofs.Common.{ap, sym, ◌∙◌, [], unwrap_or}
use Rattle.std.proofs.lemmas.Result.{on_ok_weaker}
use Rattle.tt_index.specs.Indexes.{with_place}
use Rattle.tt_index.specs.Nulls.{some_places}
use Rattle.tt_index.proofs.PlaceLists.{with_place_some}
use Rattle.tt_index.proofs.Wholes.{some_of}
use Rattle.tt_index.proofs.nulls.add_null.Goals as goal

pub returns-in-Some-clause-ok : goal.returns-in-Some-clause-ok
returns-in-Some-clause-ok c =
    on_ok_weaker c.add.result
    (λ e.
    some_of c.add.new.self (with_place c.args.place c.in-Some.places) e (with_place_some c.args.place c.in-Some.places)
    ∙ ap (λ o. some_places (with_place c.args.place (unwrap_or o []))) (sym c.in-Some.is))
    c.add.ensures.ok

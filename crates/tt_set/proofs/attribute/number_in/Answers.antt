use Rattle.std.proofs.Common.{◌≡◌, Some, None, option_map, option_and_then, unwrap_or, ap, sym, ◌∙◌}
use Rattle.toml.specs.Data.{get_member}
use Rattle.toml.specs.View.{view, table_view}
use Rattle.toml.proofs.Views.{table_get}
use Rattle.tt_set.specs.Attribute.{number_of}
use Rattle.tt_set.proofs.attribute.number_in.Goals as goal

pub returns-in-Some-clause-value : goal.returns-in-Some-clause-value
returns-in-Some-clause-value c =
    let found = table_get c.get.result c.args.name.now c.args.table.now.entries c.get.ensures.value in
    let seen : get_member c.args.name.now (table_view c.args.table.now) ≡ Some (view c.in-Some.value.now) = sym found ∙ ap (option_map (λ x. view x.now)) c.in-Some.is in
    c.unwrap_or.ensures ∙ ap (λ o. unwrap_or o c.args.attribute.default) (c.number_of.ensures.value ∙ ap (option_and_then (number_of c.args.attribute)) (sym seen))

pub returns-in-None-clause-value : goal.returns-in-None-clause-value
returns-in-None-clause-value c =
    let found = table_get c.get.result c.args.name.now c.args.table.now.entries c.get.ensures.value in
    let seen : get_member c.args.name.now (table_view c.args.table.now) ≡ None = sym found ∙ ap (option_map (λ x. view x.now)) c.in-None.is in
    ap (λ o. unwrap_or (option_and_then (number_of c.args.attribute) o) c.args.attribute.default) (sym seen)

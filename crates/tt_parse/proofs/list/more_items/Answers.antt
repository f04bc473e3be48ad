use Rattle.std.proofs.Common.{sym, ap, ◌∙◌}
use Rattle.tt_parse.proofs.Lists.{items_fail, handed_on, stops}
use Rattle.tt_parse.specs.Reading.{comma_item}
use Rattle.tt_parse.specs.Symbols.{is_mark}
use Rattle.tt_parse.specs.declared.kind.Kind.TheVariants.{Comma}
use Rattle.tt_parse.proofs.list.more_items.Goals as goal

pub returns-in_err-read_item : goal.returns-in_err-read_item
returns-in_err-read_item g c =
    handed_on _ c.from_residual.result c.in_err-read_item.field-0.0 c.read_item.new.tokens c.from_residual.ensures.1 (λ other.
    items_fail g.T.ReadItem.reader c.commas.items c.commas.tokens c.read_item.new.tokens _ c.commas.invariant (sym c.sees.ensures ∙ c.commas-test.true)
    (ap g.T.ReadItem.reader (sym c.advance.ensures) ∙ c.in_err-read_item.ensures.read other))

pub returns : goal.returns
returns g c = stops (is_mark Comma) (comma_item g.T.ReadItem.reader) c.commas.items c.commas.tokens _ c.commas.invariant (sym c.sees.ensures ∙ c.commas-test.false)

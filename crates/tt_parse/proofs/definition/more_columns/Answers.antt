use Rattle.std.proofs.Common.{sym, ◌∙◌}
use Rattle.tt_parse.specs.Reading.{is_column, column}
use Rattle.tt_parse.proofs.Lists.{fails, handed_on, stops}
use Rattle.tt_parse.proofs.definition.more_columns.Goals as goal

pub returns-in_err-column : goal.returns-in_err-column
returns-in_err-column c =
    handed_on _ c.from_residual.result c.in_err-column.field-0.0 c.column.new.tokens c.from_residual.ensures.1 (λ other.
    fails is_column column c.columns.columns c.columns.tokens c.column.new.tokens _ c.columns.invariant (sym c.sees_column.ensures ∙ c.columns-test.true) (c.in_err-column.ensures other))

pub returns : goal.returns
returns c = stops is_column column c.columns.columns c.columns.tokens _ c.columns.invariant (sym c.sees_column.ensures ∙ c.columns-test.false)

-- What a condition means of a row, and what is refused of it.
use Rattle.std.specs.Prelude.{ℕ, Bool, true, false, not, ◌&&◌, List, [], Option, Some, None, is_some, unwrap_or, if◌then◌else◌, slice_get}
use Rattle.tt_value.specs.declared.value.Value.{Value}
use Rattle.tt_value.specs.declared.value.Value.TheVariants.{Null}
use Rattle.tt_value.specs.declared.value.Row.{Row}
use Rattle.tt_value.specs.declared.truth.Truth.{Truth}
use Rattle.tt_value.specs.declared.value.ColumnType.{ColumnType}
use Rattle.tt_value.specs.declared.value.ColumnType.TheVariants.{BigInt, Varchar}
use Rattle.tt_parse.specs.declared.command.ColumnText.{ColumnText}
use Rattle.tt_parse.specs.declared.cond.Operand.{Operand}
use Rattle.tt_parse.specs.declared.cond.Operand.TheVariants.{Literal, Column}
use Rattle.tt_parse.specs.declared.cond.Cond.{Cond, fold-Cond}
use Rattle.tt_parse.specs.declared.cond.Cond.TheOpen.{Cond-F, Compare, IsNull, Not, And, Or}
use Rattle.tt_value.specs.Order.{compared}
use Rattle.tt_value.specs.Truth.{truth_of, negated, both_of, either_of}
use Rattle.tt_model.specs.Values.{truth_compared, is_null, is_yes, is_text}
use Rattle.tt_model.specs.Holders.{value_at}
use Rattle.tt_model.specs.Tables.{Table, column_named}

-- The value of a named column.
abbrev pub value_named : Table → Row → List ℕ → Value
value_named t row name = value_at row (unwrap_or (column_named t name) 0)

abbrev pub operand_value : Table → Row → Operand → Value
operand_value t row (Literal v) = v
operand_value t row (Column name) = value_named t row name

abbrev pub truth_at : Cond-F (Table → Row → Truth) → Table → Row → Truth
truth_at (Compare column op right) t row = truth_compared op (compared (value_named t row column) (operand_value t row right))
truth_at (IsNull column isnt) t row = truth_of (if isnt then not (is_null (value_named t row column)) else is_null (value_named t row column))
truth_at (Not inner) t row = negated (inner t row)
truth_at (And a b) t row = both_of (a t row) (b t row)
truth_at (Or a b) t row = either_of (a t row) (b t row)

unfoldable pub truth : Cond → Table → Row → Truth
truth = fold-Cond (Table → Row → Truth) truth_at

-- A row is taken where the condition is Yes, and where there is none.
abbrev pub takes : Option Cond → Table → Row → Bool
takes None t row = true
takes (Some cond) t row = is_yes (truth cond t row)

abbrev pub is_column : Table → List ℕ → Bool
is_column t name = is_some (column_named t name)

abbrev pub is_text_type : ColumnType → Bool
is_text_type (Varchar n) = true
is_text_type _ = false

abbrev pub column_at : Table → ℕ → ColumnText
column_at t i = unwrap_or (slice_get t.columns i) (record { name = []; kind = BigInt; required = false })

abbrev pub is_text_column : Table → List ℕ → Bool
is_text_column t name = is_text_type ((column_at t (unwrap_or (column_named t name) 0)).kind)

abbrev pub operand_is_there : Table → Operand → Bool
operand_is_there t (Literal v) = true
operand_is_there t (Column name) = is_column t name

-- The columns that a condition names are all there.
abbrev pub columns_at : Cond-F (Table → Bool) → Table → Bool
columns_at (Compare column op right) t = is_column t column && operand_is_there t right
columns_at (IsNull column isnt) t = is_column t column
columns_at (Not inner) t = inner t
columns_at (And a b) t = a t && b t
columns_at (Or a b) t = a t && b t

unfoldable pub has_columns : Cond → Table → Bool
has_columns = fold-Cond (Table → Bool) columns_at

-- Numbers go with numbers and texts with texts; Null goes with both.
abbrev pub operand_goes : Table → Bool → Operand → Bool
operand_goes t text (Literal Null) = true
operand_goes t text (Literal v) = if text then is_text v else not (is_text v)
operand_goes t text (Column name) = if text then is_text_column t name else not (is_text_column t name)

abbrev pub kinds_at : Cond-F (Table → Bool) → Table → Bool
kinds_at (Compare column op right) t = operand_goes t (is_text_column t column) right
kinds_at (IsNull column isnt) t = true
kinds_at (Not inner) t = inner t
kinds_at (And a b) t = a t && b t
kinds_at (Or a b) t = a t && b t

unfoldable pub has_kinds : Cond → Table → Bool
has_kinds = fold-Cond (Table → Bool) kinds_at

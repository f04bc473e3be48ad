-- The order of values and rows, and what a comparison of a script answers.
use Rattle.std.specs.Prelude.{ℕ, ℤ, pos, ◌*ℤ◌, ◌^◌, List, [], Option, Some, None}
use Rattle.std.specs.declared.cmp.Ordering.{Ordering}
use Rattle.std.specs.Ordering.{nat_cmp, int_cmp, on, then_cmp}
use Rattle.std.specs.Cmp.Lexicographic.{slice_cmp}
use Rattle.tt_value.specs.declared.value.Value.{Value}
use Rattle.tt_value.specs.declared.value.Value.TheVariants.{Null, Int, Number, Text}
use Rattle.tt_value.specs.declared.value.Row.{Row}

-- a number is its units over ten to the power of its scale
abbrev pub units_of : Value → ℤ
units_of (Int n) = n
units_of (Number scale units) = units
units_of v = pos 0

abbrev pub scale_of : Value → ℕ
scale_of (Number scale units) = scale
scale_of v = 0

-- two numbers over one denominator
abbrev pub amount_cmp : Value → Value → Ordering
amount_cmp a b = int_cmp (units_of a *ℤ pos (10 ^ scale_of b)) (units_of b *ℤ pos (10 ^ scale_of a))

-- numbers before texts, Null after both
abbrev pub kind_of : Value → ℕ
kind_of Null = 2
kind_of (Text text) = 1
kind_of v = 0

-- a whole number before a number with a scale
abbrev pub form_of : Value → ℕ
form_of (Number scale units) = 1
form_of v = 0

abbrev pub text_of : Value → List ℕ
text_of (Text text) = text
text_of v = []

-- by kind, then numbers by their amount, their scale and their form, then texts by their bytes
abbrev pub number_cmp : Value → Value → Ordering
number_cmp = then_cmp amount_cmp (then_cmp (on scale_of nat_cmp) (on form_of nat_cmp))

abbrev pub value_cmp : Value → Value → Ordering
value_cmp = then_cmp (on kind_of nat_cmp) (then_cmp number_cmp (on text_of (slice_cmp nat_cmp)))

-- value by value, a row before its longer extension
abbrev pub row_cmp : Row → Row → Ordering
row_cmp = on (λ (r : Row). r.values) (slice_cmp value_cmp)

-- What a comparison answers: nothing of a text and a number, no order with Null.
abbrev pub compared : Value → Value → Option (Option Ordering)
compared Null b = Some None
compared a Null = Some None
compared (Text a) (Text b) = Some (Some (slice_cmp nat_cmp a b))
compared (Text a) b = None
compared a (Text b) = None
compared a b = Some (Some (amount_cmp a b))

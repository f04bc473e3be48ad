-- Values in conditions: which truth a comparison has, and when values are the same.
use Rattle.std.specs.Prelude.{Bool, true, false, List, Option, Some}
use Rattle.std.specs.declared.cmp.Ordering.{Ordering}
use Rattle.std.specs.Ordering.{is_eq, is_ne, is_lt, is_le, is_gt, is_ge}
use Rattle.std.specs.Cmp.Lexicographic.{pointwise}
use Rattle.tt_value.specs.Same.{same_value}
use Rattle.tt_value.specs.Truth.{truth_of}
use Rattle.tt_value.specs.declared.value.Value.{Value}
use Rattle.tt_value.specs.declared.value.Value.TheVariants.{Null, Text}
use Rattle.tt_value.specs.declared.truth.Truth.{Truth}
use Rattle.tt_value.specs.declared.truth.Truth.TheVariants.{Yes, Unknown}
use Rattle.tt_parse.specs.declared.cond.Op.{Op}
use Rattle.tt_parse.specs.declared.cond.Op.TheVariants.{Eq, Ne, Lt, Le, Gt, Ge}

abbrev pub is_null : Value → Bool
is_null Null = true
is_null _ = false

abbrev pub is_text : Value → Bool
is_text (Text a) = true
is_text _ = false

-- values of two rows in the same columns are the same
abbrev pub same_values : List Value → List Value → Bool
same_values = pointwise same_value

abbrev pub is_yes : Truth → Bool
is_yes Yes = true
is_yes _ = false

abbrev pub op_holds : Op → Ordering → Bool
op_holds Eq o = is_eq o
op_holds Ne o = is_ne o
op_holds Lt o = is_lt o
op_holds Le o = is_le o
op_holds Gt o = is_gt o
op_holds Ge o = is_ge o

-- What a comparison of a script is by the order that was found. With Null there is none, and it is Unknown. A text and a
-- number, of which nothing is answered, are refused before.
abbrev pub truth_compared : Op → Option (Option Ordering) → Truth
truth_compared op (Some (Some o)) = truth_of (op_holds op o)
truth_compared op _ = Unknown

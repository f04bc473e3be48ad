-- When two values are one and the same: a number has its scale, and a whole number isn't a number of scale 0.
use Rattle.std.specs.Prelude.{Bool, true, false, ◌&&◌, nat_eq, ◌++◌}
use Rattle.std.specs.Ordering.{int_eq}
use Rattle.std.specs.Str.{bytes_eq}
use Rattle.std.specs.Cmp.Lexicographic.{pointwise}
use Rattle.std.specs.Hash as fed
use Rattle.tt_value.specs.declared.value.Value.{Value}
use Rattle.tt_value.specs.declared.value.Value.TheVariants.{Null, Int, Number, Text}
use Rattle.tt_value.specs.declared.value.Row.{Row}

abbrev pub same_value : Value → Value → Bool
same_value Null Null = true
same_value (Int a) (Int b) = int_eq a b
same_value (Number s a) (Number t b) = nat_eq s t && int_eq a b
same_value (Text a) (Text b) = bytes_eq a b
same_value _ _ = false

abbrev pub same_row : Row → Row → Bool
same_row a b = pointwise same_value a.values b.values

-- what the hash of a value reads
abbrev pub fed_value : Value → fed.HashWrites
fed_value Null = fed.u8 0
fed_value (Int a) = fed.u8 1 ++ fed.i64 a
fed_value (Number s a) = fed.u8 2 ++ (fed.u8 s ++ fed.i64 a)
fed_value (Text a) = fed.u8 3 ++ fed.str a

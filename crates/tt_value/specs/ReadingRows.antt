-- What is read at the front of bytes.
use Rattle.std.specs.Prelude.{ℕ, zero, suc, ◌+◌, ◌==◌, ◌&&◌, List, [], ◌∷◌, length, take, drop, nat_le, nat_lt, if◌then◌else◌, Option, Some, None, option_map}
use Rattle.std.specs.Int.{cast_signed, w64}
use Rattle.std.specs.Int.RustNames.{unsigned_abs}
use Rattle.std.specs.Str.{is_utf8}
use Rattle.tt_value.specs.BigEndian.{number}
use Rattle.tt_value.specs.Limits.{row_most, values_most, text_most, scale_most, units_end}
use Rattle.tt_value.specs.declared.value.Value.{Value}
use Rattle.tt_value.specs.declared.value.Value.TheVariants.{Null, Int, Number, Text}
use Rattle.tt_value.specs.declared.value.Row.{Row}

-- the whole number in the first 8 bytes, and how many bytes it takes with its tag
unfoldable pub int_at : List ℕ → Option (Value × ℕ)
int_at z = if nat_le 8 (length z) then Some (Int (cast_signed w64 (number 8 z)), 9) else None

-- a scale and the units
unfoldable pub number_at : List ℕ → Option (Value × ℕ)
number_at [] = None
number_at (scale ∷ z) =
    let units = cast_signed w64 (number 8 z) in
    if nat_le 8 (length z) && (nat_le scale scale_most && nat_lt (unsigned_abs units) units_end) then Some (Number scale units, 10) else None

-- a length, and a text of so many bytes
unfoldable pub text_at : List ℕ → Option (Value × ℕ)
text_at z =
    let size = number 2 z in
    let text = take size (drop 2 z) in
    if nat_le 2 (length z) && (nat_le size text_most && (nat_le (size + 2) (length z) && is_utf8 text)) then Some (Text text, size + 3) else None

-- by the tag
abbrev pub tagged_at : ℕ → List ℕ → Option (Value × ℕ)
tagged_at tag z =
    if tag == 0 then Some (Null, 1) else (if tag == 1 then int_at z else (if tag == 2 then number_at z else (if tag == 3 then text_at z else None)))

-- the value at the front, and how many bytes it takes
unfoldable pub value_at : List ℕ → Option (Value × ℕ)
value_at [] = None
value_at (tag ∷ z) = tagged_at tag z

abbrev pub behind : Value → Option (List Value) → Option (List Value)
behind v None = None
behind v (Some vs) = Some (v ∷ vs)

abbrev pub with_rest : Option (Value × ℕ) → (ℕ → Option (List Value)) → Option (List Value)
with_rest None more = None
with_rest (Some p) more = behind p.0 (more p.1)

-- so many values, and nothing behind them
unfoldable pub values_in : ℕ → List ℕ → Option (List Value)
values_in zero [] = Some []
values_in zero (b ∷ z) = None
values_in (suc n) z = with_rest (value_at z) (λ k. values_in n (drop k z))

abbrev pub row_of : List Value → Row
row_of vs = record { values = vs }

-- the row of these bytes, if they are a row's
unfoldable pub row_in : List ℕ → Option Row
row_in [] = None
row_in (count ∷ z) =
    if nat_le (1 + length z) row_most && (nat_le 1 count && nat_le count values_most) then option_map row_of (values_in count z) else None

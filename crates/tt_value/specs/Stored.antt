-- The stored form of a row: one byte with the number of its values, then the values, each a tag and its bytes.
use Rattle.std.specs.Prelude.{◌≡◌, ◌<◌, ◌≤◌, ◌^◌, ℕ, List, [], ◌∷◌, ◌++◌, length, IsUtf8}
use Rattle.std.specs.Int.{cast_unsigned, w64}
use Rattle.std.specs.Int.RustNames.{FitsSigned, unsigned_abs}
use Rattle.std.specs.List.{flat_map, All}
use Rattle.tt_value.specs.BigEndian.{big_endian}
use Rattle.tt_value.specs.Limits.{row_most, values_most, text_most, scale_most, units_end, lengths_end}
use Rattle.tt_value.specs.declared.value.Value.{Value}
use Rattle.tt_value.specs.declared.value.Value.TheVariants.{Null, Int, Number, Text}
use Rattle.tt_value.specs.declared.value.Row.{Row}
use Rattle.tt_value.specs.declared.value.Cell.{Cell}
use Rattle.tt_value.specs.declared.value.Cell.TheVariants.{Empty, Full}

-- whole numbers in two's complement, texts behind their length
abbrev pub value_bytes : Value → List ℕ
value_bytes Null = 0 ∷ []
value_bytes (Int n) = 1 ∷ big_endian 8 (cast_unsigned w64 n)
value_bytes (Number scale units) = 2 ∷ scale ∷ big_endian 8 (cast_unsigned w64 units)
value_bytes (Text text) = 3 ∷ (big_endian 2 (length text) ++ text)

abbrev pub values_bytes : List Value → List ℕ
values_bytes vs = flat_map value_bytes vs

abbrev pub row_bytes : Row → List ℕ
row_bytes r = length r.values ∷ values_bytes r.values

-- the ranges of a value that is stored
abbrev pub IsStorableValue : Value → Type 0
IsStorableValue Null = Unit {0}
IsStorableValue (Int n) = FitsSigned w64 n
IsStorableValue (Number scale units) = (scale ≤ scale_most) × (unsigned_abs units < units_end)
IsStorableValue (Text text) = (length text ≤ text_most) × IsUtf8 text

-- a text whose length has two bytes
abbrev pub HasLength : Value → Type 0
HasLength (Text text) = length text < lengths_end
HasLength v = Unit {0}

-- a row that can be stored
pub record IsStorable (r : Row) : Type 0 where
  pub some : 1 ≤ length r.values
  pub few : length r.values ≤ values_most
  pub in_range : All IsStorableValue r.values
  pub short : length (row_bytes r) ≤ row_most

-- the bytes are those of the row, and nothing follows them
abbrev pub IsStored : List ℕ → Row → Type 0
IsStored bytes r = IsStorable r × (bytes ≡ row_bytes r)

-- a full cell has a table's id, which isn't 0, and a row that can be stored
abbrev pub IsCell : Cell → Type 0
IsCell Empty = Unit {0}
IsCell (Full table row) = (1 ≤ table) × (table < 2 ^ 32) × IsStorable row

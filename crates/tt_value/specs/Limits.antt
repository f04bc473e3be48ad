-- The limits of names and of the stored form of a row.
use Rattle.std.specs.Prelude.{ℕ, ◌^◌}

-- the most bytes that a stored row has
abbrev pub row_most : ℕ
row_most = 240

-- the most values that a row has
abbrev pub values_most : ℕ
values_most = 16

-- the most bytes that a stored text has
abbrev pub text_most : ℕ
text_most = 200

-- the most digits behind the dot of a stored number
abbrev pub scale_most : ℕ
scale_most = 18

-- the units of a stored number are below this in size
abbrev pub units_end : ℕ
units_end = 10 ^ 18

-- a text with fewer bytes than this has a length of two bytes
abbrev pub lengths_end : ℕ
lengths_end = 65536

-- the most bytes that a name has
abbrev pub name_most : ℕ
name_most = 30

-- The bytes of a cell.
use Rattle.std.specs.Prelude.{◌≡◌, ◌-◌, ◌*◌, ℕ, List, [], ◌++◌, take, drop, length, replicate}
use Rattle.std.specs.List.{flat_map, All}
use Rattle.tt_value.specs.BigEndian.{big_endian}
use Rattle.tt_value.specs.Stored.{row_bytes, IsCell}
use Rattle.tt_value.specs.declared.value.Row.{Row}
use Rattle.tt_value.specs.declared.value.Cell.{Cell}
use Rattle.tt_value.specs.declared.value.Cell.TheVariants.{Empty, Full}
use Rattle.tt_cells.specs.Limits.{cell_size, page_places}

unfoldable pub zeros : ℕ → List ℕ
zeros n = replicate n 0

-- a table's id, the length of a row, and the row
abbrev pub full_bytes : ℕ → Row → List ℕ
full_bytes table row = big_endian 4 table ++ (big_endian 2 (length (row_bytes row)) ++ row_bytes row)

-- what stands in front of the zeros
abbrev pub front_bytes : Cell → List ℕ
front_bytes Empty = []
front_bytes (Full table row) = full_bytes table row

-- the front, and zeros to the end
unfoldable pub cell_bytes : Cell → List ℕ
cell_bytes c = front_bytes c ++ zeros (cell_size - length (front_bytes c))

-- the bytes are those of the cell
pub record IsCellOf (bytes : List ℕ) (c : Cell) : Type 0 where
  pub cell : IsCell c
  pub spelled : bytes ≡ cell_bytes c

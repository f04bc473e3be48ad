-- The bytes of a page of 32 cells.
use Rattle.std.specs.Prelude.{◌≡◌, ◌-◌, ◌*◌, ℕ, List, [], ◌++◌, take, drop, length, replicate}
use Rattle.std.specs.List.{flat_map, All}
use Rattle.tt_value.specs.BigEndian.{big_endian}
use Rattle.tt_value.specs.Stored.{row_bytes, IsCell}
use Rattle.tt_value.specs.declared.value.Row.{Row}
use Rattle.tt_value.specs.declared.value.Cell.{Cell}
use Rattle.tt_value.specs.declared.value.Cell.TheVariants.{Empty, Full}
use Rattle.tt_cells.specs.Limits.{cell_size, page_places}
use Rattle.tt_cells.specs.Cell.{cell_bytes}

-- the cells of a page, one after another
abbrev pub page_bytes : List Cell → List ℕ
page_bytes cells = flat_map cell_bytes cells

-- the bytes are those of a page with these cells
pub record IsPageOf (bytes : List ℕ) (cells : List Cell) : Type 0 where
  pub count : length cells ≡ page_places
  pub each : All IsCell cells
  pub spelled : bytes ≡ page_bytes cells

unfoldable pub empty_page : List Cell
empty_page = replicate page_places Empty

-- the bytes of a page, with those of one cell more behind so many
abbrev pub with_cell_bytes : ℕ → Cell → List ℕ → List ℕ
with_cell_bytes at cell bytes = take (cell_size * at) bytes ++ (cell_bytes cell ++ drop cell_size (drop (cell_size * at) bytes))

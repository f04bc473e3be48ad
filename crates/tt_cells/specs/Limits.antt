-- The numbers of the format, each stated here alone.
use Rattle.std.specs.Prelude.{ℕ}

-- the bytes of a cell
abbrev pub cell_size : ℕ
cell_size = 256

-- how many places a page has, each with one cell
abbrev pub page_places : ℕ
page_places = 32

-- the bytes of a page
abbrev pub page_size : ℕ
page_size = 8192

-- places are below this
abbrev pub places_end : ℕ
places_end = 2097152

-- there are at most so many pages
abbrev pub pages_end : ℕ
pages_end = 65536

-- there is room for at most so many copies of pages
abbrev pub copies_most : ℕ
copies_most = 256

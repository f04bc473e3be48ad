-- What cells are to those who use them: a map from place to cell, the reserved places, and the pages stale in each file.
use Rattle.std.specs.Prelude.{◌≡◌, ◌<◌, ◌≤◌, ◌+◌, ◌-◌, ◌*◌, ◌/◌, ◌%◌, ◌==◌, ℕ, zero, suc, Bool, true, false, max, List, [], ◌∷◌, length, get_or, map, if◌then◌else◌, refl}
use Rattle.std.specs.Ordering.{nat_cmp}
use Rattle.std.specs.Coded.{Coded, code_by, coded×, coded_ℕ}
use Rattle.std.specs.FinSet as set
use Rattle.std.specs.FinMap as finite
use Rattle.tt_value.specs.Stored.{IsCell}
use Rattle.tt_value.specs.declared.value.Cell.{Cell}
use Rattle.tt_value.specs.declared.value.Cell.TheVariants.{Empty, Full}
use Rattle.tt_cells.specs.Limits.{page_places, places_end, pages_end}
use Rattle.tt_cells.specs.CellCodes.{cell_code}
use Rattle.tt_cells.specs.NumberSet.{Numbers}
use Rattle.tt_cells.specs.ReadingCells.{or_empty}

pub record Book : Type 0 where
  -- the limit on reserved places, in pages
  pub perm_pages : ℕ
  -- the pages are 0 to one less than this
  pub pages : ℕ
  -- the cells that aren't empty
  pub full : finite.FinMap nat_cmp Cell
  pub reserved : set.FinSet nat_cmp
  -- the pages that the file 0 lacks, and those that the file 1 lacks
  pub stale_0 : set.FinSet nat_cmp
  pub stale_1 : set.FinSet nat_cmp

abbrev BookParts : Type 0
BookParts = ℕ × (ℕ × (finite.FinMap nat_cmp Cell × (set.FinSet nat_cmp × (set.FinSet nat_cmp × set.FinSet nat_cmp))))

abbrev pub book_code : Coded Book
book_code =
    code_by BookParts
    (coded× coded_ℕ (coded× coded_ℕ (coded× (finite.code coded_ℕ cell_code) (coded× (set.code coded_ℕ) (coded× (set.code coded_ℕ) (set.code coded_ℕ))))))
    (λ b. (b.perm_pages, (b.pages, (b.full, (b.reserved, (b.stale_0, b.stale_1))))))
    (λ p. record { perm_pages = p.0; pages = p.1.0; full = p.1.1.0; reserved = p.1.1.1.0; stale_0 = p.1.1.1.1.0; stale_1 = p.1.1.1.1.1 })
    (λ _. refl)

-- ---- what is looked up

-- the cell of a place
abbrev pub cell_at : Book → ℕ → Cell
cell_at b place = or_empty (finite.get b.full place)

-- the limit on reserved places, in pages
abbrev pub perm_pages_of : Book → ℕ
perm_pages_of b = b.perm_pages

-- how many pages there are
abbrev pub page_count : Book → ℕ
page_count b = b.pages

abbrev pub reserved_places : Book → set.FinSet nat_cmp
reserved_places b = b.reserved

abbrev pub is_reserved : Book → ℕ → Bool
is_reserved b place = set.contains b.reserved place

abbrev pub reserved_count : Book → ℕ
reserved_count b = set.len b.reserved

-- the pages that a file lacks
abbrev pub stale_in : ℕ → Book → set.FinSet nat_cmp
stale_in file b = if file == 0 then b.stale_0 else b.stale_1

abbrev pub is_stale : Book → ℕ → ℕ → Bool
is_stale b file page = set.contains (stale_in file b) page

-- as many places are reserved as the limit allows
abbrev pub IsPermFull : Book → Type 0
IsPermFull b = page_places * b.perm_pages ≤ reserved_count b

-- the numbers below n from one on, in order
abbrev pub numbers_from : ℕ → ℕ → List ℕ
numbers_from zero from = []
numbers_from (suc n) from = from ∷ numbers_from n (suc from)

-- the cells of a page
unfoldable pub page_cells : (ℕ → Cell) → ℕ → List Cell
page_cells cells page = map cells (numbers_from page_places (page_places * page))

-- ---- what changes

abbrev pub put_cell : ℕ → Cell → finite.FinMap nat_cmp Cell → finite.FinMap nat_cmp Cell
put_cell place Empty m = finite.remove m place
put_cell place (Full table row) m = finite.insert m place (Full table row)

-- no cells, pages and places
abbrev pub empty_book : ℕ → Book
empty_book perm_pages = record { perm_pages = perm_pages; pages = 0; full = finite.empty; reserved = set.empty; stale_0 = set.empty; stale_1 = set.empty }

-- a cell is put into its place, and its page is stale in both files
unfoldable pub with_cell : ℕ → Cell → Book → Book
with_cell place cell b = record b {
  full = put_cell place cell b.full;
  pages = max (place / page_places + 1) b.pages;
  stale_0 = set.insert b.stale_0 (place / page_places);
  stale_1 = set.insert b.stale_1 (place / page_places);
}

abbrev pub with_reserved : ℕ → Book → Book
with_reserved place b = record b { reserved = set.insert b.reserved place }

abbrev pub without_reserved : ℕ → Book → Book
without_reserved place b = record b { reserved = set.remove b.reserved place }

-- so many numbers from one on are added
abbrev pub with_numbers : ℕ → ℕ → set.FinSet nat_cmp → set.FinSet nat_cmp
with_numbers from zero s = s
with_numbers from (suc n) s = set.insert (with_numbers from n s) (from + n)

-- at least so many pages; those that are added are empty, and stale in both files
unfoldable pub with_pages : ℕ → Book → Book
with_pages n b = record b {
  pages = max n b.pages;
  stale_0 = with_numbers b.pages (n - b.pages) b.stale_0;
  stale_1 = with_numbers b.pages (n - b.pages) b.stale_1;
}

-- a file has a page
abbrev pub without_stale : ℕ → ℕ → Book → Book
without_stale file page b = if file == 0 then record b { stale_0 = set.remove b.stale_0 page } else record b { stale_1 = set.remove b.stale_1 page }

-- ---- what is always so

pub record IsSound (b : Book) : Type 0 where
  pub perm_some : 1 ≤ b.perm_pages
  pub perm_most : b.perm_pages ≤ pages_end
  pub pages_most : b.pages ≤ pages_end
  -- each cell can be stored
  pub stored : (q : ℕ) → IsCell (cell_at b q)
  -- there is no row past the pages, and none in a place that isn't reserved
  pub blank : (q : ℕ) → page_places * b.pages ≤ q → cell_at b q ≡ Empty
  pub unreserved : (q : ℕ) → is_reserved b q ≡ false → cell_at b q ≡ Empty
  pub places : (q : ℕ) → is_reserved b q ≡ true → q < places_end
  -- what is stale is a page
  pub marked_0 : (page : ℕ) → set.contains b.stale_0 page ≡ true → page < b.pages
  pub marked_1 : (page : ℕ) → set.contains b.stale_1 page ≡ true → page < b.pages

-- ---- how it is kept

abbrev pub cell_among : List (List Cell) → ℕ → Cell
cell_among pages q = get_or (get_or pages (q / page_places) []) (q % page_places) Empty

-- the cells of the places below n
unfoldable pub map_of : (ℕ → Cell) → ℕ → finite.FinMap nat_cmp Cell
map_of cells zero = finite.empty
map_of cells (suc n) = put_cell n (cells n) (map_of cells n)

unfoldable pub full_in : List (List Cell) → finite.FinMap nat_cmp Cell
full_in pages = map_of (cell_among pages) (page_places * length pages)

-- there is room for what a reserved place and a page take later
pub record HasRoom (pages : ℕ) (kept : List (List Cell)) (reserved stale_0 stale_1 : Numbers) : Type 0 where
  pub counted : pages ≤ length kept
  pub small : length kept ≤ pages_end
  pub places : (q : ℕ) → set.contains reserved.members q ≡ true → q / page_places < length kept
  pub marks_0 : length kept ≤ stale_0.room
  pub marks_1 : length kept ≤ stale_1.room

abbrev pub book_of : ℕ → ℕ → List (List Cell) → Numbers → Numbers → Numbers → Book
book_of perm_pages pages kept reserved stale_0 stale_1 =
    record { perm_pages = perm_pages; pages = pages; full = full_in kept; reserved = reserved.members; stale_0 = stale_0.members; stale_1 = stale_1.members }

pub record IsHeld (perm_pages pages : ℕ) (kept : List (List Cell)) (reserved stale_0 stale_1 : Numbers) : Type 0 where
  pub sound : IsSound (book_of perm_pages pages kept reserved stale_0 stale_1)
  pub room : HasRoom pages kept reserved stale_0 stale_1

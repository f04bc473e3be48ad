-- Copies of pages that lie side by side: the room for them, and those that are there.
use Rattle.std.specs.Prelude.{◌≡◌, ◌≤◌, ◌*◌, ◌++◌, ℕ, List, [], ◌∷◌, length, take, drop, map, refl}
use Rattle.std.specs.List.{All, flat_map}
use Rattle.std.specs.Coded.{Coded, code_by, coded×, coded_ℕ, coded_list}
use Rattle.tt_cells.specs.declared.cells.PageCopy.{PageCopy}
use Rattle.tt_cells.specs.Limits.{page_size, copies_most}
use Rattle.tt_cells.specs.Page.{page_bytes}
use Rattle.tt_cells.specs.Cells.{Book, cell_at, page_cells}

pub record Copies : Type 0 where
  -- how many there may be
  pub room : ℕ
  -- those that are there, in their order
  pub copies : List PageCopy

abbrev copy_code : Coded PageCopy
copy_code = code_by (ℕ × List ℕ) (coded× coded_ℕ (coded_list coded_ℕ)) (λ c. (c.page, c.bytes)) (λ p. record { page = p.0; bytes = p.1 }) (λ _. refl)

abbrev pub copies_code : Coded Copies
copies_code = code_by (ℕ × List PageCopy) (coded× coded_ℕ (coded_list copy_code)) (λ c. (c.room, c.copies)) (λ p. record { room = p.0; copies = p.1 }) (λ _. refl)

-- room for so many, and none is there
abbrev pub no_copies : ℕ → Copies
no_copies room = record { room = room; copies = [] }

-- one more, behind the others
abbrev pub with_copy : PageCopy → Copies → Copies
with_copy copy c = record { room = c.room; copies = c.copies ++ copy ∷ [] }

-- a copy, by its page and bytes
abbrev pub numbered : ℕ → List ℕ → PageCopy
numbered page bytes = record { page = page; bytes = bytes }

-- the copy of a page as the cells are
abbrev pub copy_of : ℕ → Book → PageCopy
copy_of page b = record { page = page; bytes = page_bytes (page_cells (cell_at b) page) }

-- the numbers of these pages
abbrev pub pages_of : List PageCopy → List ℕ
pages_of copies = map (λ (copy : PageCopy). copy.page) copies

-- their bytes, one after another
abbrev pub joined : List PageCopy → List ℕ
joined copies = flat_map (λ (copy : PageCopy). copy.bytes) copies

-- each has a page's bytes
abbrev pub AreWhole : List PageCopy → Type 0
AreWhole copies = All (λ (copy : PageCopy). length copy.bytes ≡ page_size) copies

-- what is always so
pub record AreSound (c : Copies) : Type 0 where
  pub some : 1 ≤ c.room
  pub most : c.room ≤ copies_most
  pub few : length c.copies ≤ c.room
  pub whole : AreWhole c.copies

-- ---- how they are kept

-- the copies of these pages, so many bytes each, whose bytes lie side by side
unfoldable pub copies_of : ℕ → List ℕ → List ℕ → List PageCopy
copies_of size [] bytes = []
copies_of size (page ∷ pages) bytes = record { page = page; bytes = take size bytes } ∷ copies_of size pages (drop size bytes)

abbrev pub copies_in : ℕ → List ℕ → List ℕ → Copies
copies_in count numbers bytes = record { room = length numbers; copies = copies_of page_size (take count numbers) bytes }

pub record AreKept (count : ℕ) (numbers bytes : List ℕ) : Type 0 where
  pub some : 1 ≤ length numbers
  pub most : length numbers ≤ copies_most
  pub few : count ≤ length numbers
  pub buffer : length bytes ≡ page_size * length numbers

-- these bytes put over those of the copy at a place
abbrev pub put_at : ℕ → ℕ → List ℕ → List ℕ → List ℕ
put_at size at bytes buffer = take (size * at) buffer ++ (bytes ++ drop size (drop (size * at) buffer))

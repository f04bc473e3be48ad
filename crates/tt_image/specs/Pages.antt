-- The pages of a checkpoint file.
use Rattle.std.specs.Prelude.{◌+◌, ◌*◌, ◌-◌, ◌^◌, ◌==◌, ◌&&◌, ℕ, Bool, false, if◌then◌else◌, nat_le, List, [], ◌∷◌, ◌++◌, length, take, drop, replicate, slice_index, Option, Some, None, ◌≡◌, ◌≢◌, ◌≤◌, max}
use Rattle.tt_value.specs.BigEndian.{number, big_endian}
use Rattle.tt_disk.specs.Volume.{bytes_of, written}
use Rattle.tt_cells.specs.Copies.{pages_of}
use Rattle.tt_cells.specs.Limits.{page_size, pages_end}
use Rattle.tt_image.specs.declared.head.ImageHead.{ImageHead}
use Rattle.tt_image.specs.declared.head.HeadRead.{HeadRead}
use Rattle.tt_image.specs.declared.head.HeadRead.TheVariants.{Absent, Closed, Bad, Whole}
use Rattle.tt_image.specs.Head.{page_start}
use Rattle.tt_image.specs.Limits.{head_size}
use Rattle.tt_cells.specs.declared.PageCopy.{PageCopy}

-- so many bytes, with zeros behind those that are there
unfoldable pub padded : ℕ → List ℕ → List ℕ
padded n bytes = take n (bytes ++ replicate n 0)

-- the bytes of a page, with zeros past the file's end
unfoldable pub page_of : ℕ → Option (List ℕ) → List ℕ
page_of page file = padded page_size (drop (page_start page) (bytes_of file))

-- the file with these pages written, one after the other
abbrev pub with_pages : List PageCopy → Option (List ℕ) → Option (List ℕ)
with_pages [] file = file
with_pages (copy ∷ copies) file = with_pages copies (written (page_start copy.page) copy.bytes file)

-- each of these pages begins within the file that those before it leave
abbrev pub BeginWithin : ℕ → List PageCopy → Type 0
BeginWithin size [] = Unit {0}
BeginWithin size (copy ∷ copies) = (page_start copy.page ≤ size) × BeginWithin (max size (page_start (copy.page + 1))) copies

-- these are the page of this number, the one next to it, and so on
abbrev pub AreFrom : ℕ → List PageCopy → Type 0
AreFrom page [] = Unit {0}
AreFrom page (copy ∷ copies) = (copy.page ≡ page) × AreFrom (page + 1) copies

-- a page's bytes behind these copies: those of the last copy of it, or those before
abbrev pub copied : ℕ → List PageCopy → List ℕ → List ℕ
copied page [] bytes = bytes
copied page (copy ∷ copies) bytes = copied page copies (if copy.page == page then copy.bytes else bytes)

-- the number of the page of a copy
abbrev pub page_at : ℕ → List PageCopy → ℕ
page_at at copies = slice_index (pages_of copies) at

-- a run that begins at a copy, and has so many of them, doesn't go on: the copy behind them isn't of the next page
abbrev pub EndsRun : ℕ → ℕ → List PageCopy → Type 0
EndsRun from count copies = page_at (from + count) copies ≢ page_at from copies + count

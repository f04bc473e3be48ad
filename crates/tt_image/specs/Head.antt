-- The header of a checkpoint file, and what is read of it.
use Rattle.std.specs.Prelude.{◌+◌, ◌*◌, ◌-◌, ◌^◌, ◌==◌, ◌&&◌, ℕ, Bool, false, if◌then◌else◌, nat_le, List, [], ◌∷◌, ◌++◌, length, take, drop, replicate, slice_index, Option, Some, None, ◌≡◌, ◌≤◌, max}
use Rattle.tt_value.specs.BigEndian.{number, big_endian}
use Rattle.tt_disk.specs.Volume.{bytes_of, written}
use Rattle.tt_cells.specs.Limits.{page_size, pages_end}
use Rattle.tt_image.specs.Limits.{head_size, gate_open, number_least, numbers_end, last_log, log_most, last_database, letters, letter_t, letter_d, letter_s, format}
use Rattle.tt_image.specs.Limits.{letters_at, format_at, zeros_at, number_at, scan_file_at, scan_offset_at, pages_at, more_zeros_at, transaction_at, database_at, last_zeros_at}
use Rattle.tt_image.specs.Limits.{short_size, word_size, long_size, front_size, scan_size, owner_size}
use Rattle.tt_image.specs.declared.head.ImageHead.{ImageHead}
use Rattle.tt_image.specs.declared.head.HeadRead.{HeadRead}
use Rattle.tt_image.specs.declared.head.HeadRead.TheVariants.{Absent, Closed, Bad, Whole}
use Rattle.tt_cells.specs.declared.PageCopy.{PageCopy}

-- ---- the header

-- the number in the n bytes at an offset
abbrev pub field : ℕ → ℕ → List ℕ → ℕ
field at n file = number n (drop at file)

-- the fields of a header
abbrev pub head_of : List ℕ → ImageHead
head_of file = record {
  number = field number_at long_size file;
  scan = record { file = field scan_file_at word_size file; offset = field scan_offset_at word_size file };
  pages = field pages_at word_size file;
  next_transaction = field transaction_at long_size file;
  database = field database_at long_size file;
}

-- the bytes between the fields: the letters TTDS, the format 1, and zeros
abbrev pub has_form : List ℕ → Bool
has_form file =
    (field letters_at word_size file == letters) && (slice_index file format_at == format) && (field zeros_at short_size file == 0)
    && (field more_zeros_at word_size file == 0) && (field last_zeros_at long_size file == 0) && (field (last_zeros_at + long_size) long_size file == 0)

abbrev pub is_within : ℕ → ℕ → ℕ → Bool
is_within least most n = nat_le least n && nat_le n most

-- each field is in its range
abbrev pub is_head : ImageHead → Bool
is_head h =
    is_within number_least (numbers_end - 1) h.number && nat_le h.scan.file last_log && nat_le h.scan.offset log_most && nat_le h.pages pages_end
    && is_within number_least numbers_end h.next_transaction && is_within number_least last_database h.database

-- where a page begins; so the pages below a number end where that one begins
abbrev pub page_start : ℕ → ℕ
page_start page = head_size + page_size * page

-- the gate byte is there and open
abbrev pub is_open : List ℕ → Bool
is_open [] = false
is_open (gate ∷ rest) = gate == gate_open

abbrev pub is_whole : Option (List ℕ) → Bool
is_whole None = false
is_whole (Some file) = nat_le head_size (length file) && is_open file

abbrev pub is_good : List ℕ → ℕ → Bool
is_good file size = has_form file && is_head (head_of file) && nat_le (page_start (head_of file).pages) size

-- what the header of a checkpoint file says
unfoldable pub head_read : Option (List ℕ) → HeadRead
head_read None = Absent
head_read (Some file) = if is_whole (Some file) then (if is_good file (length file) then Whole (head_of file) else Bad) else Closed

-- the bytes of a header behind the gate: the letters TTDS, the format, two zeros, and the fields
unfoldable pub header_bytes : ImageHead → List ℕ
header_bytes h =
    letter_t ∷ letter_t ∷ letter_d ∷ letter_s ∷ format ∷ 0 ∷ 0 ∷ (big_endian long_size h.number ++ (big_endian word_size h.scan.file ++ (big_endian word_size h.scan.offset
    ++ (big_endian word_size h.pages ++ (big_endian word_size 0 ++ (big_endian long_size h.next_transaction ++ (big_endian long_size h.database
    ++ (big_endian long_size 0 ++ big_endian long_size 0))))))))

-- what the first 64 bytes of a file of a length say
abbrev pub head_judged : List ℕ → ℕ → HeadRead
head_judged bytes size = if is_open bytes then (if is_good bytes size then Whole (head_of bytes) else Bad) else Closed

-- bytes with the letters, the format and the number in front
abbrev pub with_front : ImageHead → List ℕ → List ℕ
with_front head out = letter_t ∷ letter_t ∷ letter_d ∷ letter_s ∷ format ∷ 0 ∷ 0 ∷ (big_endian long_size head.number ++ drop front_size out)

-- bytes with the scan position and the count of pages in front
abbrev pub with_scan : ImageHead → List ℕ → List ℕ
with_scan head out = big_endian word_size head.scan.file ++ (big_endian word_size head.scan.offset ++ (big_endian word_size head.pages ++ drop scan_size out))

-- bytes with the next transaction and the database in front
abbrev pub with_owner : ImageHead → List ℕ → List ℕ
with_owner head out = big_endian long_size head.next_transaction ++ (big_endian long_size head.database ++ drop owner_size out)

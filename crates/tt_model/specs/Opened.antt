-- What opening finds: the tables, the entries that something holds, the end of the log, and the checkpoint files.
use Rattle.std.specs.Prelude.{ℕ, zero, nat_lt, [], option_map, unwrap_or, Option, Some, None, if◌then◌else◌}
use Rattle.tt_value.specs.declared.position.Position.{Position}
use Rattle.tt_record.specs.Place.{position}
use Rattle.tt_model.specs.Trail.{Trail}
use Rattle.tt_model.specs.Committed.{Cells, no_cells}

-- The header of an image: its number, the position from which on its log is read, its count of pages, the next transaction's
-- number, and the number of its database.
pub record Head : Type 0 where
  pub number : ℕ
  pub scan : Position
  pub pages : ℕ
  pub next : ℕ
  pub database : ℕ

-- The tables, the entries from the file of the least hold on, their end, the next transaction's number, and the header of each
-- whole checkpoint file.
pub record Opened : Type 0 where
  pub cells : Cells
  pub entries : Trail
  pub end : Position
  pub next : ℕ
  pub heads : ℕ → Option Head

abbrev pub scan_of : Option Head → Option Position
scan_of head = option_map (λ h. h.scan) head

abbrev pub number_of : Option Head → ℕ
number_of head = unwrap_or (option_map (λ h. h.number) head) 0

-- The checkpoint file with the greatest number.
abbrev pub newest_of : (ℕ → Option Head) → ℕ
newest_of heads = if nat_lt (number_of (heads 0)) (number_of (heads 1)) then 1 else 0

-- The first header of a database: number 1, read from the log's beginning on.
abbrev pub first_head : ℕ → ℕ → Head
first_head pages database = record { number = 1; scan = position 0 0; pages = pages; next = 1; database = database }

-- File 0 alone is whole.
abbrev pub only_first : Head → ℕ → Option Head
only_first head zero = Some head
only_first head _ = None

-- A database whose log is empty, with these rows.
abbrev pub fresh : Cells → ℕ → ℕ → Opened
fresh cells pages database = record { cells = cells; entries = []; end = position 0 0; next = 1; heads = only_first (first_head pages database) }

-- A database just created.
abbrev pub created : ℕ → Opened
created database = fresh no_cells 0 database

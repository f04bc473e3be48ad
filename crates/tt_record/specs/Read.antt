-- What is read at the front of bytes.
use Rattle.std.specs.Prelude.{ℕ, zero, suc, ◌+◌, ◌^◌, ◌==◌, ◌&&◌, List, [], ◌∷◌, length, take, drop, nat_le, nat_lt, if◌then◌else◌, Option, Some, None, option_and_then}
use Rattle.tt_value.specs.BigEndian.{number}
use Rattle.tt_value.specs.ReadingRows.{row_in}
use Rattle.tt_value.specs.declared.value.Row.{Row}
use Rattle.tt_value.specs.declared.value.Cell.{Cell}
use Rattle.tt_value.specs.declared.value.Cell.TheVariants.{Empty, Full}
use Rattle.tt_record.specs.declared.entry.Entry.{Entry}
use Rattle.tt_record.specs.declared.entry.Entry.TheVariants.{Change, Commit, Abort, Mark, Switch}
use Rattle.tt_record.specs.Entry.{of_one_table}
use Rattle.tt_record.specs.Limits.{places_end, transactions_end}

-- a transaction's number
unfoldable pub transaction_at : List ℕ → Option ℕ
transaction_at z = if nat_le 8 (length z) && (nat_le 1 (number 8 z) && nat_lt (number 8 z) transactions_end) then Some (number 8 z) else None

abbrev pub full_of : ℕ → ℕ → Option Row → Option (Cell × ℕ)
full_of table size None = None
full_of table size (Some row) = Some (Full table row, size + 7)

-- a table's id, a row's length and the row
unfoldable pub full_at : List ℕ → Option (Cell × ℕ)
full_at z =
    let size = number 2 (drop 4 z) in
    if nat_le 6 (length z) && (nat_le 1 (number 4 z) && nat_le (size + 6) (length z)) then full_of (number 4 z) size (row_in (take size (drop 6 z))) else None

-- a cell, and how many bytes it takes
unfoldable pub cell_at : List ℕ → Option (Cell × ℕ)
cell_at [] = None
cell_at (tag ∷ z) = if tag == 0 then Some (Empty, 1) else (if tag == 1 then full_at z else None)

abbrev pub with_second : Cell × ℕ → Option (Cell × ℕ) → Option (Cell × Cell × ℕ)
with_second a None = None
with_second a (Some b) = if of_one_table a.0 b.0 then Some (a.0, b.0, a.1 + b.1) else None

-- two cells, the second read behind so many bytes as the first takes
abbrev pub cells_of : Option (Cell × ℕ) → (ℕ → Option (Cell × ℕ)) → Option (Cell × Cell × ℕ)
cells_of None second = None
cells_of (Some first) second = with_second first (second first.1)

-- the two cells of a change, and how many bytes they take
unfoldable pub cells_at : List ℕ → Option (Cell × Cell × ℕ)
cells_at z = cells_of (cell_at z) (λ n. cell_at (drop n z))

abbrev pub change_of : ℕ → ℕ → Option (Cell × Cell × ℕ) → Option (Entry × ℕ)
change_of transaction place None = None
change_of transaction place (Some cells) = Some (Change transaction place cells.0 cells.1, 13 + cells.2)

-- a place in front of two cells
abbrev pub placed : ℕ → List ℕ → Option (Cell × Cell × ℕ) → Option (Entry × ℕ)
placed transaction z cells = if nat_le 4 (length z) && nat_lt (number 4 z) places_end then change_of transaction (number 4 z) cells else None

-- what stands behind a transaction's number: a place and two cells
abbrev pub changed_at : ℕ → List ℕ → Option (Entry × ℕ)
changed_at transaction z = placed transaction z (cells_at (drop 4 z))

-- a transaction's number, a place and two cells
unfoldable pub change_at : List ℕ → Option (Entry × ℕ)
change_at z =
    let place = drop 8 z in
    let cells = drop 4 place in
    option_and_then (λ transaction. placed transaction place (cells_of (cell_at cells) (λ n. cell_at (drop n cells)))) (transaction_at z)

unfoldable pub switch_at : List ℕ → Option (Entry × ℕ)
switch_at z = if nat_le 4 (length z) then Some (Switch (number 4 z), 5) else None

abbrev pub committed : Option ℕ → Option (Entry × ℕ)
committed None = None
committed (Some transaction) = Some (Commit transaction, 9)

abbrev pub aborted : Option ℕ → Option (Entry × ℕ)
aborted None = None
aborted (Some transaction) = Some (Abort transaction, 9)

-- the first entry, by its kind, and how many bytes it takes
unfoldable pub entry_at : List ℕ → Option (Entry × ℕ)
entry_at [] = None
entry_at (kind ∷ z) =
    if kind == 1 then change_at z
    else (if kind == 2 then committed (transaction_at z)
    else (if kind == 3 then aborted (transaction_at z)
    else (if kind == 4 then Some (Mark, 1)
    else (if kind == 5 then switch_at z
    else None))))

abbrev pub behind : Entry → Option (List Entry) → Option (List Entry)
behind e None = None
behind e (Some es) = Some (e ∷ es)

abbrev pub with_rest : Option (Entry × ℕ) → (ℕ → Option (List Entry)) → Option (List Entry)
with_rest None more = None
with_rest (Some p) more = behind p.0 (more p.1)

abbrev pub entries_within : ℕ → List ℕ → Option (List Entry)
entries_within most [] = Some []
entries_within zero (b ∷ z) = None
entries_within (suc most) (b ∷ z) = with_rest (entry_at (b ∷ z)) (λ k. entries_within most (drop k (b ∷ z)))

-- the entries of a whole body, if it is a list of entries
unfoldable pub entries_of : List ℕ → Option (List Entry)
entries_of z = entries_within (length z) z

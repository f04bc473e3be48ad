-- Entries of the log as bytes: a kind, then the fields. Whole numbers have their highest byte first.
use Rattle.std.specs.Prelude.{◌≡◌, ◌≤◌, ◌<◌, ◌^◌, ◌==◌, ℕ, Bool, true, false, List, [], ◌∷◌, ◌++◌, length, drop}
use Rattle.std.specs.List.{flat_map, All}
use Rattle.tt_value.specs.BigEndian.{big_endian}
use Rattle.tt_value.specs.Stored.{row_bytes, IsCell}
use Rattle.tt_value.specs.declared.value.Row.{Row}
use Rattle.tt_value.specs.declared.value.Cell.{Cell}
use Rattle.tt_value.specs.declared.value.Cell.TheVariants.{Empty, Full}
use Rattle.tt_record.specs.declared.entry.Entry.{Entry}
use Rattle.tt_record.specs.declared.entry.Entry.TheVariants.{Change, Commit, Abort, Mark, Switch}
use Rattle.tt_record.specs.Limits.{places_end, transactions_end}

-- a full cell has a table's id, the length of a row, and the row
abbrev pub cell_bytes : Cell → List ℕ
cell_bytes Empty = 0 ∷ []
cell_bytes (Full table row) = 1 ∷ (big_endian 4 table ++ (big_endian 2 (length (row_bytes row)) ++ row_bytes row))

abbrev pub entry_bytes : Entry → List ℕ
entry_bytes (Change transaction place before after) = 1 ∷ (big_endian 8 transaction ++ (big_endian 4 place ++ (cell_bytes before ++ cell_bytes after)))
entry_bytes (Commit transaction) = 2 ∷ big_endian 8 transaction
entry_bytes (Abort transaction) = 3 ∷ big_endian 8 transaction
entry_bytes Mark = 4 ∷ []
entry_bytes (Switch file) = 5 ∷ big_endian 4 file

abbrev pub length_of : Entry → ℕ
length_of e = length (entry_bytes e)

-- at least one cell is full, and two full ones are of one table
abbrev pub of_one_table : Cell → Cell → Bool
of_one_table Empty Empty = false
of_one_table Empty (Full table row) = true
of_one_table (Full table row) Empty = true
of_one_table (Full table row) (Full other row_after) = table == other

abbrev pub IsTransaction : ℕ → Type 0
IsTransaction number = (1 ≤ number) × (number < transactions_end)

-- the ranges of a change
pub record IsChange (number at : ℕ) (old new : Cell) : Type 0 where
  pub transaction : IsTransaction number
  pub place : at < places_end
  pub before : IsCell old
  pub after : IsCell new
  pub table : of_one_table old new ≡ true

-- the ranges of an entry
abbrev pub IsEntry : Entry → Type 0
IsEntry (Change transaction place before after) = IsChange transaction place before after
IsEntry (Commit transaction) = IsTransaction transaction
IsEntry (Abort transaction) = IsTransaction transaction
IsEntry Mark = Unit {0}
IsEntry (Switch file) = file < 2 ^ 32

-- the first bytes are those of an entry
pub record BeginsWith (bytes : List ℕ) (e : Entry) : Type 0 where
  pub entry : IsEntry e
  pub front : bytes ≡ entry_bytes e ++ drop (length_of e) bytes

-- the bytes of entries, one after another
abbrev pub body_bytes : List Entry → List ℕ
body_bytes es = flat_map entry_bytes es

-- the bytes are those of these entries, and nothing follows them
pub record IsBody (bytes : List ℕ) (es : List Entry) : Type 0 where
  pub entries : All IsEntry es
  pub whole : bytes ≡ body_bytes es

-- bytes over the first of others
abbrev pub overlaid : List ℕ → List ℕ → List ℕ
overlaid bytes out = bytes ++ drop (length bytes) out

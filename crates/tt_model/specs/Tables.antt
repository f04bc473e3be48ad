-- The catalog, bookmarks, subscriptions and backup sets: reads of the system rows in the places.
use Rattle.std.specs.Prelude.{ℕ, suc, pos, ◌+◌, ◌-◌, ◌*◌, true, false, not, nat_eq, List, [], ◌∷◌, map, filter, filter_map, find, position, bytes_eq, option_map, Option, Some, None, if◌then◌else◌, ◌==◌}
use Rattle.std.specs.declared.cmp.Ordering.{Ordering}
use Rattle.std.specs.Ordering.{is_gt, nat_cmp}
use Rattle.std.specs.Cmp.Lexicographic.{slice_cmp}
use Rattle.tt_value.specs.Order.{text_of}
use Rattle.tt_value.specs.declared.value.Value.{Value}
use Rattle.tt_value.specs.declared.value.Value.TheVariants.{Int}
use Rattle.tt_value.specs.declared.value.Row.{Row}
use Rattle.tt_value.specs.declared.value.Cell.{Cell}
use Rattle.tt_value.specs.declared.value.Cell.TheVariants.{Empty, Full}
use Rattle.tt_value.specs.declared.value.ColumnType.{ColumnType}
use Rattle.tt_value.specs.declared.value.ColumnType.TheVariants.{BigInt, Varchar, Number as NumberOf}
use Rattle.tt_value.specs.declared.position.Position.{Position}
use Rattle.tt_parse.specs.declared.command.ColumnText.{ColumnText}
use Rattle.tt_model.specs.declared.definition.TableDef.{TableDef}
use Rattle.tt_model.specs.declared.definition.IndexDef.{IndexDef}
use Rattle.tt_record.specs.Place.{position as position_of}
use Rattle.tt_model.specs.Committed.{Cells}
use Rattle.tt_model.specs.Live.{numbers_below}
use Rattle.tt_model.specs.Holders.{value_at}

-- A row with the place where it lies.
abbrev pub PlacedRow : Type 0
PlacedRow = ℕ × Row

abbrev pub row_in : ℕ → Cell → Option Row
row_in table Empty = None
row_in table (Full u row) = if nat_eq table u then Some row else None

abbrev pub row_at : ℕ → Cells → ℕ → Option PlacedRow
row_at table cells place = option_map (λ row. (place, row)) (row_in table (cells place))

-- The rows of a table at the places below a bound, in order of place.
unfoldable pub rows_of : ℕ → ℕ → Cells → List PlacedRow
rows_of table bound cells = filter_map (row_at table cells) (numbers_below bound)

-- A list in an order, by inserting each element in its place.
abbrev pub inserted : {X : Type 0} → (X → X → Ordering) → X → List X → List X
inserted cmp x [] = x ∷ []
inserted cmp x (y ∷ ys) = if is_gt (cmp x y) then y ∷ inserted cmp x ys else x ∷ y ∷ ys

abbrev pub in_order : {X : Type 0} → (X → X → Ordering) → List X → List X
in_order cmp [] = []
in_order cmp (x ∷ xs) = inserted cmp x (in_order cmp xs)

-- The whole number of a value; 0 where it has none.
abbrev pub whole_number_of : Value → ℕ
whole_number_of (Int (pos n)) = n
whole_number_of _ = 0

abbrev pub number_at : ℕ → PlacedRow → ℕ
number_at column r = whole_number_of (value_at (r.1) column)

abbrev pub text_at : ℕ → PlacedRow → List ℕ
text_at column r = text_of (value_at (r.1) column)

abbrev pub position_at : ℕ → PlacedRow → Position
position_at column r = position_of (number_at column r) (number_at (suc column) r)

-- The rows whose column has this number.
abbrev pub with_number_at : ℕ → ℕ → List PlacedRow → List PlacedRow
with_number_at column n rows = filter (λ r. number_at column r == n) rows

abbrev pub with_text_at : ℕ → List ℕ → List PlacedRow → List PlacedRow
with_text_at column text rows = filter (λ r. bytes_eq (text_at column r) text) rows

abbrev pub by_number : ℕ → List PlacedRow → List PlacedRow
by_number column rows = in_order (λ a b. nat_cmp (number_at column a) (number_at column b)) rows

abbrev pub by_text : ℕ → List PlacedRow → List PlacedRow
by_text column rows = in_order (λ a b. slice_cmp nat_cmp (text_at column a) (text_at column b)) rows

abbrev pub Table : Type 0
Table = TableDef

abbrev pub Index : Type 0
Index = IndexDef

-- The tables and the indexes, each in ascending number.
pub record Catalog : Type 0 where
  pub tables : List Table
  pub indexes : List Index

abbrev pub type_of : ℕ → ℕ → ColumnType
type_of kind size = if kind == 1 then BigInt else (if kind == 2 then Varchar size else NumberOf size)

-- COLUMNS: table, position, type, size, required, key position, name
abbrev pub column_of : PlacedRow → ColumnText
column_of r = record { name = text_at 6 r; kind = type_of (number_at 2 r) (number_at 3 r); required = number_at 4 r == 1 }

-- The columns of the key, by their key positions.
abbrev pub key_of : List PlacedRow → List ℕ
key_of columns = map (λ r. number_at 1 r - 1) (by_number 5 (filter (λ r. not (number_at 5 r == 0)) columns))

-- TABLES: id, name
abbrev pub table_of : List PlacedRow → PlacedRow → Table
table_of columns r =
    let own = by_number 1 (with_number_at 0 (number_at 0 r) columns) in
    record { id = number_at 0 r; name = text_at 1 r; columns = map column_of own; key = key_of own }

-- Column positions as a text: decimal numbers, joined by commas.
abbrev pub read_positions : ℕ → List ℕ → List ℕ
read_positions n [] = (n - 1) ∷ []
read_positions n (b ∷ rest) = elim (b == 44) [ true ↦ (n - 1) ∷ read_positions 0 rest | false ↦ read_positions (n * 10 + (b - 48)) rest ]

-- INDEXES: id, table, unique, name, positions
abbrev pub index_of : PlacedRow → Index
index_of r = record { id = number_at 0 r; table = number_at 1 r; unique = number_at 2 r == 1; name = text_at 3 r; columns = read_positions 0 (text_at 4 r) }

-- The tables and indexes by their ids.
unfoldable pub catalog_of : ℕ → Cells → Catalog
catalog_of bound cells = record {
  tables = map (table_of (rows_of 2 bound cells)) (by_number 0 (rows_of 1 bound cells));
  indexes = map index_of (by_number 0 (rows_of 3 bound cells));
}

abbrev pub table_named : List ℕ → Catalog → Option Table
table_named name catalog = find (λ t. bytes_eq t.name name) catalog.tables

abbrev pub table_with : ℕ → Catalog → Option Table
table_with id catalog = find (λ t. t.id == id) catalog.tables

abbrev pub index_named : List ℕ → Catalog → Option Index
index_named name catalog = find (λ i. bytes_eq i.name name) catalog.indexes

abbrev pub indexes_of : Table → Catalog → List Index
indexes_of t catalog = filter (λ i. i.table == t.id) catalog.indexes

abbrev pub unique_of : Table → Catalog → List Index
unique_of t catalog = filter (λ i. i.unique) (indexes_of t catalog)

-- Which column of the table has the name.
abbrev pub column_named : Table → List ℕ → Option ℕ
column_named t name = position (λ c. bytes_eq c.name name) t.columns

-- What SUBSCRIPTIONS keeps of one: the table, and from which position on.
pub record Subscribed : Type 0 where
  pub table : ℕ
  pub since : Position

-- SUBSCRIPTIONS: bookmark, table, file, offset
abbrev pub subscriptions_of : List ℕ → ℕ → Cells → List Subscribed
subscriptions_of bookmark bound cells =
    map (λ r. record { table = number_at 1 r; since = position_at 2 r }) (with_text_at 0 bookmark (rows_of 5 bound cells))

-- BOOKMARKS: name, file, offset, skip, hold file, hold offset
abbrev pub bookmark_row : List ℕ → ℕ → Cells → Option PlacedRow
bookmark_row name bound cells = find (λ r. bytes_eq (text_at 0 r) name) (rows_of 4 bound cells)

-- SETS: set, file, offset
abbrev pub set_row : ℕ → ℕ → Cells → Option PlacedRow
set_row set bound cells = find (λ r. number_at 0 r == set) (rows_of 6 bound cells)

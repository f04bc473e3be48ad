-- What may be wrong with the rows of a database: the least place whose system row breaks a rule of the catalog, and the least place
-- whose user's row breaks a rule of its table. Each rule is a test of its own.
use Rattle.std.specs.Prelude.{ℕ, suc, pos, ◌==◌, Bool, true, false, not, ◌&&◌, ◌||◌, nat_eq, nat_lt, nat_le, List, [], ◌∷◌, map, filter, find, zip, count_by, length, bytes_eq, option_map, Option, Some, None, if◌then◌else◌}
use Rattle.std.specs.List.{list_any, list_all}
use Rattle.std.specs.Option.{option_or}
use Rattle.tt_value.specs.Ident.{is_name}
use Rattle.tt_value.specs.Same.{same_value}
use Rattle.tt_value.specs.declared.value.Value.{Value}
use Rattle.tt_value.specs.declared.value.Value.TheVariants.{Null, Int, Number, Text}
use Rattle.tt_value.specs.declared.value.Row.{Row}
use Rattle.tt_value.specs.declared.value.Cell.{Cell}
use Rattle.tt_value.specs.declared.value.Cell.TheVariants.{Empty, Full}
use Rattle.tt_value.specs.declared.value.ColumnType.{ColumnType}
use Rattle.tt_value.specs.declared.value.ColumnType.TheVariants.{BigInt, Varchar, Number as NumberOf}
use Rattle.tt_parse.specs.declared.command.ColumnText.{ColumnText}
use Rattle.tt_model.specs.declared.damage.Damage.{Damage}
use Rattle.tt_model.specs.declared.damage.Damage.TheVariants.{BadCatalog, BadRow}
use Rattle.tt_model.specs.Values.{is_null, same_values}
use Rattle.tt_model.specs.Committed.{Cells}
use Rattle.tt_model.specs.Live.{numbers_below, numbers_from}
use Rattle.tt_model.specs.Holders.{has_null, value_at, values_at}
use Rattle.tt_model.specs.Tables.{Catalog, Index, PlacedRow, Table, catalog_of, read_positions, rows_of, table_with, text_at, unique_of}
use Rattle.tt_model.specs.System.{positions_text}

-- The tables that the database itself keeps.
pub data SystemTable : Type 0 where
  Tables : SystemTable
  Columns : SystemTable
  Indexes : SystemTable
  Bookmarks : SystemTable
  Subscriptions : SystemTable
  Sets : SystemTable

-- Their ids are 1 to 6.
abbrev pub system_table : ℕ → Option SystemTable
system_table id =
    if id == 1 then Some Tables else (if id == 2 then Some Columns else (if id == 3 then Some Indexes else
    (if id == 4 then Some Bookmarks else (if id == 5 then Some Subscriptions else (if id == 6 then Some Sets else None)))))

-- ---- kinds and ranges of values

abbrev pub is_number_from : ℕ → ℕ → Value → Bool
is_number_from least most (Int (pos n)) = nat_le least n && nat_le n most
is_number_from least most _ = false

abbrev pub is_number : ℕ → Value → Bool
is_number n v = is_number_from n n v

abbrev pub is_flag : Value → Bool
is_flag = is_number_from 0 1

abbrev pub is_table_id : Value → Bool
is_table_id = is_number_from 16 271

abbrev pub is_log_file : Value → Bool
is_log_file = is_number_from 0 999999

abbrev pub is_log_offset : Value → Bool
is_log_offset = is_number_from 0 67108864

abbrev pub is_name_text : Value → Bool
is_name_text (Text bytes) = is_name bytes
is_name_text _ = false

-- Positions 1 to 16 in decimal, joined by commas.
abbrev pub is_positions_text : Value → Bool
is_positions_text (Text bytes) = list_all (λ c. nat_lt c 16) (read_positions 0 bytes) && bytes_eq (positions_text (read_positions 0 bytes)) bytes
is_positions_text _ = false

-- What each column of a system table takes.
abbrev pub column_tests : SystemTable → List (Value → Bool)
column_tests Tables = is_table_id ∷ is_name_text ∷ []
column_tests Columns = is_table_id ∷ is_number_from 1 16 ∷ is_number_from 1 3 ∷ is_number_from 0 200 ∷ is_flag ∷ is_number_from 0 16 ∷ is_name_text ∷ []
column_tests Indexes = is_number_from 1 2048 ∷ is_table_id ∷ is_flag ∷ is_name_text ∷ is_positions_text ∷ []
column_tests Bookmarks = is_name_text ∷ is_log_file ∷ is_log_offset ∷ is_number_from 0 4294967295 ∷ is_log_file ∷ is_log_offset ∷ []
column_tests Subscriptions = is_name_text ∷ is_table_id ∷ is_log_file ∷ is_log_offset ∷ []
column_tests Sets = is_number_from 1 999 ∷ is_log_file ∷ is_log_offset ∷ []

abbrev pub are_taken : List (Value → Bool) → List Value → Bool
are_taken [] [] = true
are_taken (test ∷ tests) (v ∷ vs) = test v && are_taken tests vs
are_taken _ _ = false

-- ---- the rules of one system row

-- Its values are of the kinds and ranges of its table, names among them.
abbrev pub has_wrong_values : SystemTable → Row → Bool
has_wrong_values table row = not (are_taken (column_tests table) row.values)

-- A column's size is that of its type: none, 1 to 200 bytes, or a scale of 0 to 18.
abbrev pub is_size_of : Value → Value → Bool
is_size_of kind size =
    if is_number 1 kind then is_number 0 size else (if is_number 2 kind then is_number_from 1 200 size else is_number_from 0 18 size)

abbrev pub has_wrong_size : SystemTable → Row → Bool
has_wrong_size Columns row = not (is_size_of (value_at row 2) (value_at row 3))
has_wrong_size _ row = false

-- A column of the key is required.
abbrev pub is_free_key : SystemTable → Row → Bool
is_free_key Columns row = not (is_number 0 (value_at row 5)) && not (is_number 1 (value_at row 4))
is_free_key _ row = false

-- ---- the rules of a system row among others

-- The rows of this table that have its values in some columns.
abbrev pub with_values_of : List ℕ → Row → List PlacedRow → List PlacedRow
with_values_of columns row rows = filter (λ (r : PlacedRow). same_values (values_at columns (r.1)) (values_at columns row)) rows

abbrev pub is_before : ℕ → PlacedRow → Bool
is_before place r = nat_lt (r.0) place

-- A row at a lesser place has these values.
abbrev pub is_there_before : List ℕ → PlacedRow → List PlacedRow → Bool
is_there_before columns r rows = list_any (is_before (r.0)) (with_values_of columns (r.1) rows)

-- The key of a system table; and for tables and indexes the name.
abbrev pub key_columns : SystemTable → List ℕ
key_columns Columns = 0 ∷ 1 ∷ []
key_columns Subscriptions = 0 ∷ 1 ∷ []
key_columns _ = 0 ∷ []

abbrev pub has_key_before : SystemTable → PlacedRow → List PlacedRow → Bool
has_key_before table r rows = is_there_before (key_columns table) r rows

abbrev pub has_name_before : SystemTable → PlacedRow → List PlacedRow → Bool
has_name_before Tables r rows = is_there_before (1 ∷ []) r rows
has_name_before Indexes r rows = is_there_before (3 ∷ []) r rows
has_name_before _ r rows = false

-- These are the numbers from 1 on, each once.
abbrev pub are_counted : List Value → Bool
are_counted vs = list_all (λ n. list_any (is_number n) vs) (numbers_from (length vs) 1)

-- The rows of COLUMNS of the table that a value names.
abbrev pub columns_with : Value → List PlacedRow → List PlacedRow
columns_with id rows = filter (λ (r : PlacedRow). same_value (value_at (r.1) 0) id) rows

abbrev pub values_in : ℕ → List PlacedRow → List Value
values_in column rows = map (λ (r : PlacedRow). value_at (r.1) column) rows

abbrev pub is_twice : List Value → Bool
is_twice [] = false
is_twice (v ∷ vs) = list_any (same_value v) vs || is_twice vs

-- The key positions of the columns that have one.
abbrev pub key_positions : List PlacedRow → List Value
key_positions rows = filter (λ v. not (is_number 0 v)) (values_in 5 rows)

-- The columns of a table have the positions from 1 on, 16 at most, and names that differ; its key has columns, with the key
-- positions from 1 on.
abbrev pub has_wrong_columns : SystemTable → Row → List PlacedRow → Bool
has_wrong_columns Tables row columns =
    let own = columns_with (value_at row 0) columns in
    nat_lt 16 (length own) || not (are_counted (values_in 1 own)) || is_twice (values_in 6 own)
    || not (are_counted (key_positions own)) || nat_eq (length (key_positions own)) 0
has_wrong_columns _ row columns = false

-- Which column of a system table names a table; which names a bookmark.
abbrev pub table_column : SystemTable → Option ℕ
table_column Columns = Some 0
table_column Indexes = Some 1
table_column Subscriptions = Some 1
table_column _ = None

abbrev pub has_value_in : ℕ → Value → List PlacedRow → Bool
has_value_in column v rows = list_any (λ (r : PlacedRow). same_value (value_at (r.1) column) v) rows

abbrev pub lacks_table : SystemTable → Row → List PlacedRow → Bool
lacks_table table row tables = elim (table_column table) [ None ↦ false | Some column ↦ not (has_value_in 0 (value_at row column) tables) ]

abbrev pub lacks_bookmark : SystemTable → Row → List PlacedRow → Bool
lacks_bookmark Subscriptions row bookmarks = not (has_value_in 0 (value_at row 0) bookmarks)
lacks_bookmark _ row bookmarks = false

-- The positions of an index name columns of its table, and differ.
abbrev pub is_position_in : List PlacedRow → ℕ → Bool
is_position_in columns c = list_any (λ (r : PlacedRow). is_number (suc c) (value_at (r.1) 1)) columns

abbrev pub has_twice_in : List ℕ → Bool
has_twice_in [] = false
has_twice_in (n ∷ ns) = list_any (nat_eq n) ns || has_twice_in ns

abbrev pub has_wrong_positions : SystemTable → PlacedRow → List PlacedRow → Bool
has_wrong_positions Indexes r columns =
    let positions = read_positions 0 (text_at 4 r) in
    not (list_all (is_position_in (columns_with (value_at (r.1) 1) columns)) positions) || has_twice_in positions
has_wrong_positions _ r columns = false

-- How many rows are counted together with this one, and the limit: 256 tables, 8 indexes of a table, 64 bookmarks, 64 sets.
abbrev pub counted_with : SystemTable → Row → List PlacedRow → List PlacedRow
counted_with Indexes row rows = with_values_of (1 ∷ []) row rows
counted_with _ row rows = rows

abbrev pub limit_of : SystemTable → Option ℕ
limit_of Tables = Some 256
limit_of Indexes = Some 8
limit_of Bookmarks = Some 64
limit_of Sets = Some 64
limit_of _ = None

abbrev pub is_past_limit : SystemTable → PlacedRow → List PlacedRow → Bool
is_past_limit table r rows =
    elim (limit_of table) [ None ↦ false | Some most ↦ nat_le most (count_by (is_before (r.0)) (counted_with table (r.1) rows)) ]

-- ---- all rules of the catalog

-- A system table's row, among the rows of all system tables.
abbrev pub breaks_catalog : (SystemTable → List PlacedRow) → SystemTable → PlacedRow → Bool
breaks_catalog rows table r =
    has_wrong_values table (r.1)
    || has_wrong_size table (r.1)
    || is_free_key table (r.1)
    || has_key_before table r (rows table)
    || has_name_before table r (rows table)
    || has_wrong_columns table (r.1) (rows Columns)
    || lacks_table table (r.1) (rows Tables)
    || lacks_bookmark table (r.1) (rows Bookmarks)
    || has_wrong_positions table r (rows Columns)
    || is_past_limit table r (rows table)

abbrev pub id_of : SystemTable → ℕ
id_of Tables = 1
id_of Columns = 2
id_of Indexes = 3
id_of Bookmarks = 4
id_of Subscriptions = 5
id_of Sets = 6

-- Another id below 16 isn't used.
abbrev pub is_bad_system : ℕ → Cells → PlacedRow → Option SystemTable → Bool
is_bad_system bound cells r None = true
is_bad_system bound cells r (Some table) = breaks_catalog (λ t. rows_of (id_of t) bound cells) table r

abbrev pub is_bad_catalog_row : ℕ → Cells → ℕ → Cell → Bool
is_bad_catalog_row bound cells place Empty = false
is_bad_catalog_row bound cells place (Full id row) = nat_lt id 16 && is_bad_system bound cells (place, row) (system_table id)

abbrev pub is_bad_catalog_at : ℕ → Cells → ℕ → Bool
is_bad_catalog_at bound cells place = is_bad_catalog_row bound cells place (cells place)

-- ---- the rules of a user's row

abbrev pub is_kept : ColumnType → Value → Bool
is_kept kind Null = true
is_kept BigInt (Int n) = true
is_kept (Varchar most) (Text bytes) = nat_le (length bytes) most
is_kept (NumberOf scale) (Number other units) = nat_eq scale other
is_kept kind v = false

-- A value doesn't fit its column, by kind, scale or length, or is a Null where one is refused.
abbrev pub is_misfit : ColumnText → Value → Bool
is_misfit c v = not (is_kept c.kind v) || c.required && is_null v

abbrev pub has_misfit : Table → Row → Bool
has_misfit t row = not (length row.values == length t.columns) || list_any (λ (p : ColumnText × Value). is_misfit (p.0) (p.1)) (zip t.columns row.values)

-- A row at a lesser place has the key.
abbrev pub has_row_key_before : Table → PlacedRow → List PlacedRow → Bool
has_row_key_before t r rows = is_there_before t.key r rows

-- A row at a lesser place has a value without Null of a unique index.
abbrev pub has_unique_before : PlacedRow → List PlacedRow → Index → Bool
has_unique_before r rows i = not (has_null (values_at i.columns (r.1))) && is_there_before i.columns r rows

abbrev pub breaks_table : Catalog → List PlacedRow → PlacedRow → Option Table → Bool
breaks_table catalog rows r None = true
breaks_table catalog rows r (Some t) =
    has_misfit t (r.1) || has_row_key_before t r rows || list_any (has_unique_before r rows) (unique_of t catalog)

abbrev pub is_bad_user_row : ℕ → Cells → ℕ → Cell → Bool
is_bad_user_row bound cells place Empty = false
is_bad_user_row bound cells place (Full table row) =
    nat_le 16 table && breaks_table (catalog_of bound cells) (rows_of table bound cells) (place, row) (table_with table (catalog_of bound cells))

abbrev pub is_bad_row_at : ℕ → Cells → ℕ → Bool
is_bad_row_at bound cells place = is_bad_user_row bound cells place (cells place)

-- ---- the damage of the rows below a bound

-- The least place of a bad system row; where there is none, the least place of a user's bad row.
unfoldable pub first_bad_catalog : ℕ → Cells → Option ℕ
first_bad_catalog bound cells = find (is_bad_catalog_at bound cells) (numbers_below bound)

unfoldable pub first_bad_row : ℕ → Cells → Option ℕ
first_bad_row bound cells = find (is_bad_row_at bound cells) (numbers_below bound)

abbrev pub first_bad : ℕ → Cells → Option Damage
first_bad bound cells = option_or (option_map BadCatalog (first_bad_catalog bound cells)) (option_map BadRow (first_bad_row bound cells))

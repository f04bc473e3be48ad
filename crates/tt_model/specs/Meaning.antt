-- What a statement means in a state: its first refusal, or the changes that it makes; of a select, the rows that it gives.
use Rattle.std.specs.Prelude.{ℕ, ℤ, pos, ◌+ℤ◌, ◌-ℤ◌, ◌*ℤ◌, int_le, int_lt, ◌+◌, ◌-◌, ◌*◌, ◌^◌, Bool, true, false, not, ◌&&◌, nat_eq, nat_lt, nat_le, List, [], ◌∷◌, ◌++◌, map, filter, filter_map, zip, length, slice_set, unsigned_abs, bytes_eq, option_map, unwrap_or, Option, Some, None, Result, Ok, Err, if◌then◌else◌, ◌==◌}
use Rattle.std.specs.List.{list_any, list_all}
use Rattle.std.specs.Option.{option_or}
use Rattle.std.specs.declared.cmp.Ordering.{Ordering}
use Rattle.std.specs.Ordering.{ordering_then, ordering_reverse}
use Rattle.tt_value.specs.declared.value.Value.{Value}
use Rattle.tt_value.specs.declared.value.Value.TheVariants.{Null, Int, Number, Text}
use Rattle.tt_value.specs.declared.value.Row.{Row}
use Rattle.tt_value.specs.declared.value.Cell.{Cell}
use Rattle.tt_value.specs.declared.value.Cell.TheVariants.{Empty, Full}
use Rattle.tt_value.specs.declared.value.ColumnType.{ColumnType}
use Rattle.tt_value.specs.declared.value.ColumnType.TheVariants.{BigInt, Varchar, Number as NumberOf}
use Rattle.tt_value.specs.declared.refusal.Refusal.{Refusal}
use Rattle.tt_value.specs.declared.refusal.Refusal.TheVariants.{NoTable, NoColumn, WrongType, TooWide, DuplicateKey, NullRefused, KeyUpdate, NameThere, LockConflict, PermFull, OutOfRange}
use Rattle.tt_value.specs.Limits.{row_most, units_end}
use Rattle.tt_parse.specs.declared.command.ColumnText.{ColumnText}
use Rattle.tt_parse.specs.declared.command.SetItem.{SetItem}
use Rattle.tt_parse.specs.declared.command.SetSource.{SetSource}
use Rattle.tt_parse.specs.declared.command.SetSource.TheVariants.{Literal, Column, Plus, Minus}
use Rattle.tt_parse.specs.declared.command.Items.{Items}
use Rattle.tt_parse.specs.declared.command.Items.TheVariants.{All, Columns, Sums}
use Rattle.tt_parse.specs.declared.command.Aggregate.{Aggregate}
use Rattle.tt_parse.specs.declared.command.Aggregate.TheVariants.{Count, Sum}
use Rattle.tt_parse.specs.declared.command.OrderItem.{OrderItem}
use Rattle.tt_parse.specs.declared.cond.Cond.{Cond}
use Rattle.tt_value.specs.Order.{value_cmp, row_cmp}
use Rattle.tt_value.specs.Stored.{row_bytes}
use Rattle.tt_model.specs.Values.{is_null, same_values}
use Rattle.tt_model.specs.Trail.{Trail}
use Rattle.tt_model.specs.Holders.{Held, other_holder, values_at, value_at, has_null}
use Rattle.tt_model.specs.Tables.{Table, Index, PlacedRow, rows_of, in_order, table_named, unique_of, column_named}
use Rattle.tt_model.specs.Conditions.{takes, has_columns, has_kinds, is_column, is_text_column, is_text_type, column_at}
use Rattle.tt_model.specs.State.{State, trail, view, bound, used_count, catalog}
use Rattle.tt_model.specs.declared.definition.CellEdit.{CellEdit}

-- What a line that writes rows means. A select writes none: it means its rows or its first refusal.
pub data Meant : Type 0 where
  Refuses : Refusal → Meant
  Makes : List CellEdit → Meant

-- A refusal where a test fails, and the first of several.
abbrev pub refused_if : Bool → Refusal → Option Refusal
refused_if true r = Some r
refused_if false r = None

abbrev pub first_of : List (Option Refusal) → Option Refusal
first_of [] = None
first_of (Some r ∷ rest) = Some r
first_of (None ∷ rest) = first_of rest

abbrev pub unless : Option Refusal → Meant → Meant
unless (Some r) m = Refuses r
unless None m = m

-- A line about what it names: the first of the tests that come before, then that it isn't there, then the first of its own tests.
abbrev pub if_there : {X : Type 0} → Refusal → List (Option Refusal) → (X → List (Option Refusal)) → (X → List CellEdit) → Option X → Meant
if_there missing earlier tests edits None = unless (first_of earlier) (Refuses missing)
if_there missing earlier tests edits (Some x) = unless (first_of (earlier ++ tests x)) (Makes (edits x))

abbrev pub rows_unless : Option Refusal → Result (List Row) Refusal → Result (List Row) Refusal
rows_unless (Some r) rows = Err r
rows_unless None rows = rows

-- Assignment: which literals a column takes, and the value that it then has.
abbrev pub takes_literal : ColumnType → Value → Bool
takes_literal kind Null = true
takes_literal BigInt (Int n) = true
takes_literal (Varchar n) (Text bytes) = true
takes_literal (NumberOf s) (Int n) = true
takes_literal (NumberOf s) (Number t n) = nat_le t s
takes_literal _ _ = false

-- The units of a number in a column of this type, where it is taken.
abbrev pub units_in : ColumnType → Value → ℤ
units_in (NumberOf s) (Int n) = n *ℤ pos (10 ^ s)
units_in (NumberOf s) (Number t n) = n *ℤ pos (10 ^ (s - t))
units_in _ (Int n) = n
units_in _ (Number t n) = n
units_in _ _ = pos 0

abbrev pub number_value : ColumnType → ℤ → Value
number_value (NumberOf s) n = Number s n
number_value _ n = Int n

abbrev pub stored_value : ColumnType → Value → Value
stored_value kind Null = Null
stored_value kind (Text bytes) = Text bytes
stored_value kind v = number_value kind (units_in kind v)

-- A number result leaves i64, or a NUMBER value reaches 10^18 in size.
abbrev pub is_out_of_range : ColumnType → ℤ → Bool
is_out_of_range (NumberOf s) n = nat_le units_end (unsigned_abs n)
is_out_of_range _ n = not (int_le (pos 0 -ℤ pos (2 ^ 63)) n && int_lt n (pos (2 ^ 63)))

abbrev pub is_value_out : ColumnType → Value → Bool
is_value_out kind (Int n) = is_out_of_range kind n
is_value_out kind (Number t n) = is_out_of_range kind n
is_value_out kind _ = false

abbrev pub width_of : Value → ℕ
width_of (Text bytes) = length bytes
width_of _ = 0

abbrev pub is_too_wide : ColumnType → Value → Bool
is_too_wide (Varchar n) v = nat_lt n (width_of v)
is_too_wide _ v = false

abbrev pub null_refusal : ColumnText → Value → Option Refusal
null_refusal c v = refused_if (c.required && is_null v) NullRefused

abbrev pub wide_refusal : ColumnText → Value → Option Refusal
wide_refusal c v = refused_if (is_too_wide c.kind v) (TooWide (width_of v))

abbrev pub range_refusal : ColumnText → Value → Option Refusal
range_refusal c v = refused_if (is_value_out c.kind v) OutOfRange

abbrev pub stored_length : Row → ℕ
stored_length row = length (row_bytes row)

abbrev pub row_refusal : Row → Option Refusal
row_refusal row = refused_if (nat_lt row_most (stored_length row)) (TooWide (stored_length row))

-- Keys and unique values.
abbrev pub key_name : Table → Row → Held
key_name t row = record { table = t.id; columns = t.key; values = values_at t.key row }

abbrev pub value_name : Index → Row → Held
value_name i row = record { table = i.table; columns = i.columns; values = values_at i.columns row }

-- Another live transaction holds it.
abbrev pub conflict : Option ℕ → Trail → Held → Option Refusal
conflict own entries name = option_map LockConflict (other_holder own name entries)

abbrev pub value_conflict : Option ℕ → Trail → Held → Option Refusal
value_conflict own entries name = if has_null name.values then None else conflict own entries name

-- Another row than the one at a place has these values in these columns.
abbrev pub is_there : List ℕ → List Value → Option ℕ → List PlacedRow → Bool
is_there columns values None rows = list_any (λ (r : PlacedRow). same_values (values_at columns (r.1)) values) rows
is_there columns values (Some place) rows = list_any (λ (r : PlacedRow). not (nat_eq (r.0) place) && same_values (values_at columns (r.1)) values) rows

abbrev pub key_there : Table → Row → Option ℕ → List PlacedRow → Option Refusal
key_there t row place rows = refused_if (is_there t.key (values_at t.key row) place rows) DuplicateKey

abbrev pub value_there : Row → Option ℕ → List PlacedRow → Index → Option Refusal
value_there row place rows i = refused_if (not (has_null (values_at i.columns row)) && is_there i.columns (values_at i.columns row) place rows) DuplicateKey

-- The places in use and those wanted pass 32 for each of PermPages.
abbrev pub no_room : ℕ → State → Option Refusal
no_room wanted s = refused_if (nat_lt (32 * s.settings.perm_pages) (used_count s + wanted)) (PermFull (32 * s.settings.perm_pages))

-- The rows of a table that a session sees; those that a condition takes, in key order.
abbrev pub rows_seen : ℕ → State → Table → List PlacedRow
rows_seen session s t = rows_of t.id (bound s) (view session s)

-- The key of a row, as a row.
abbrev pub key_row : Table → Row → Row
key_row t row = record { values = values_at t.key row }

abbrev pub key_order : Table → PlacedRow → PlacedRow → Ordering
key_order t a b = row_cmp (key_row t (a.1)) (key_row t (b.1))

abbrev pub rows_taken : Option Cond → Table → List PlacedRow → List PlacedRow
rows_taken cond t rows = in_order (key_order t) (filter (λ (r : PlacedRow). takes cond t (r.1)) rows)

abbrev pub full : Table → Row → Cell
full t row = Full t.id row

-- insert

abbrev pub with_column : (ColumnText → Value → Option Refusal) → (ColumnText × Value) → Option Refusal
with_column f p = f (p.0) (p.1)

abbrev pub insert_refusal : ℕ → State → Table → List Value → Row → Option Refusal
insert_refusal session s t values row =
    let columns = zip t.columns values in
    let stored = zip t.columns row.values in
    let rows = rows_seen session s t in
    first_of (
    refused_if (not (length values == length t.columns)) WrongType
    ∷ refused_if (not (list_all (λ (p : ColumnText × Value). takes_literal ((p.0).kind) (p.1)) columns)) WrongType
    ∷ first_of (map (with_column (λ c v. first_of (null_refusal c v ∷ wide_refusal c v ∷ range_refusal c v ∷ []))) stored)
    ∷ row_refusal row
    ∷ conflict (s.own session) (trail s) (key_name t row)
    ∷ key_there t row None rows
    ∷ first_of (map (λ i. first_of (value_conflict (s.own session) (trail s) (value_name i row) ∷ value_there row None rows i ∷ [])) (unique_of t (catalog s)))
    ∷ no_room 1 s
    ∷ [])

abbrev pub inserted_row : Table → List Value → Row
inserted_row t values = record { values = map (λ (p : ColumnText × Value). stored_value ((p.0).kind) (p.1)) (zip t.columns values) }

abbrev pub insert_into : ℕ → State → List Value → Option Table → Meant
insert_into session s values None = Refuses NoTable
insert_into session s values (Some t) =
    let row = inserted_row t values in
    unless (insert_refusal session s t values row) (Makes (record { place = None; before = Empty; after = full t row } ∷ []))

-- delete

abbrev pub cond_refusal : Option Cond → Table → Option Refusal
cond_refusal None t = None
cond_refusal (Some cond) t = first_of (refused_if (not (has_columns cond t)) NoColumn ∷ refused_if (not (has_kinds cond t)) WrongType ∷ [])

abbrev pub delete_row_refusal : ℕ → State → Table → PlacedRow → Option Refusal
delete_row_refusal session s t r =
    first_of (conflict (s.own session) (trail s) (key_name t (r.1))
    ∷ first_of (map (λ i. value_conflict (s.own session) (trail s) (value_name i (r.1))) (unique_of t (catalog s)))
    ∷ [])

abbrev pub delete_from : ℕ → State → Option Cond → Option Table → Meant
delete_from session s cond None = Refuses NoTable
delete_from session s cond (Some t) =
    let rows = rows_taken cond t (rows_seen session s t) in
    unless (first_of (cond_refusal cond t ∷ map (delete_row_refusal session s t) rows))
    (Makes (map (λ (r : PlacedRow). record { place = Some (r.0); before = full t (r.1); after = Empty }) rows))

-- update

abbrev pub source_column : SetSource → Option (List ℕ)
source_column (Literal v) = None
source_column (Column name) = Some name
source_column (Plus name by) = Some name
source_column (Minus name by) = Some name

abbrev pub is_type_of : ColumnType → ColumnType → Bool
is_type_of BigInt BigInt = true
is_type_of (Varchar n) (Varchar m) = true
is_type_of (NumberOf s) (NumberOf t) = nat_eq s t
is_type_of _ _ = false

abbrev pub kind_named : Table → List ℕ → ColumnType
kind_named t name = (column_at t (unwrap_or (column_named t name) 0)).kind

abbrev pub takes_source : Table → ColumnType → SetSource → Bool
takes_source t kind (Literal v) = takes_literal kind v
takes_source t kind (Column name) = is_type_of kind (kind_named t name)
takes_source t kind (Plus name by) = not (is_text_type kind) && (is_type_of kind (kind_named t name) && takes_literal kind by)
takes_source t kind (Minus name by) = not (is_text_type kind) && (is_type_of kind (kind_named t name) && takes_literal kind by)

abbrev pub names_no_column : Table → Option (List ℕ) → Bool
names_no_column t None = false
names_no_column t (Some name) = not (is_column t name)

-- A set is tested against those before it.
abbrev pub set_refusal : Table → List SetItem → SetItem → Option Refusal
set_refusal t earlier set = first_of (
    refused_if (not (is_column t set.column)) NoColumn
    ∷ refused_if (list_any (λ k. nat_eq k (unwrap_or (column_named t set.column) 0)) t.key) KeyUpdate
    ∷ refused_if (list_any (λ e. bytes_eq e.column set.column) earlier) NameThere
    ∷ refused_if (names_no_column t (source_column set.source)) NoColumn
    ∷ refused_if (not (takes_source t (kind_named t set.column) set.source)) WrongType
    ∷ [])

abbrev pub sets_refusal : Table → List SetItem → List SetItem → Option Refusal
sets_refusal t earlier [] = None
sets_refusal t earlier (set ∷ sets) = option_or (set_refusal t earlier set) (sets_refusal t (set ∷ earlier) sets)

-- The units of a sum of a value and a number; Null stays Null.
abbrev pub plus_value : ColumnType → (ℤ → ℤ → ℤ) → Value → Value → Value
plus_value kind f Null by = Null
plus_value kind f v Null = Null
plus_value kind f v by = number_value kind (f (units_in kind v) (units_in kind by))

abbrev pub source_value : Table → ColumnType → Row → SetSource → Value
source_value t kind row (Literal v) = stored_value kind v
source_value t kind row (Column name) = value_at row (unwrap_or (column_named t name) 0)
source_value t kind row (Plus name by) = plus_value kind (λ a b. a +ℤ b) (value_at row (unwrap_or (column_named t name) 0)) by
source_value t kind row (Minus name by) = plus_value kind (λ a b. a -ℤ b) (value_at row (unwrap_or (column_named t name) 0)) by

-- The values that the sets give, each with its column's number.
abbrev pub set_values : Table → Row → List SetItem → List (ℕ × Value)
set_values t row sets = map (λ set. (unwrap_or (column_named t set.column) 0, source_value t (kind_named t set.column) row set.source)) sets

abbrev pub with_values : List (ℕ × Value) → List Value → List Value
with_values [] values = values
with_values (p ∷ ps) values = with_values ps (slice_set values (p.0) (p.1))

abbrev pub each_set : Table → (ColumnText → Value → Option Refusal) → List (ℕ × Value) → Option Refusal
each_set t f new = first_of (map (λ (p : ℕ × Value). f (column_at t (p.0)) (p.1)) new)

-- A row that an update changes: the row before with its place, the row after, the values that the sets give, each with its column's
-- number, and the rows of the table that the session sees.
pub record RowUpdate : Type 0 where
  pub before : PlacedRow
  pub after : Row
  pub values : List (ℕ × Value)
  pub seen : List PlacedRow

-- Another live transaction holds the key.
abbrev pub key_is_held : ℕ → State → Table → RowUpdate → Option Refusal
key_is_held session s t u = conflict (s.own session) (trail s) (key_name t ((u.before).1))

-- Another live transaction holds a value of a unique index, of the row before or of the row after.
abbrev pub values_are_held : ℕ → State → RowUpdate → Index → Option Refusal
values_are_held session s u i =
    first_of (value_conflict (s.own session) (trail s) (value_name i ((u.before).1))
    ∷ value_conflict (s.own session) (trail s) (value_name i u.after)
    ∷ [])

-- The tests of one row, in their order.
abbrev pub update_row_tests : ℕ → State → Table → RowUpdate → List (Option Refusal)
update_row_tests session s t u =
    each_set t range_refusal u.values
    ∷ each_set t null_refusal u.values
    ∷ each_set t wide_refusal u.values
    ∷ row_refusal u.after
    ∷ key_is_held session s t u
    ∷ first_of (map (values_are_held session s u) (unique_of t (catalog s)))
    ∷ first_of (map (value_there u.after (Some ((u.before).0)) u.seen) (unique_of t (catalog s)))
    ∷ []

abbrev pub update_row_refusal : ℕ → State → Table → RowUpdate → Option Refusal
update_row_refusal session s t u = first_of (update_row_tests session s t u)

abbrev pub with_row : PlacedRow → List PlacedRow → List PlacedRow
with_row r rows = map (λ (q : PlacedRow). if nat_eq (q.0) (r.0) then r else q) rows

abbrev pub and_edit : CellEdit → Result (List CellEdit) Refusal → Result (List CellEdit) Refusal
and_edit edit (Ok edits) = Ok (edit ∷ edits)
and_edit edit (Err r) = Err r

abbrev pub unless_row : Option Refusal → CellEdit → Result (List CellEdit) Refusal → Result (List CellEdit) Refusal
unless_row (Some r) edit rest = Err r
unless_row None edit rest = and_edit edit rest

-- Each row is tested against the table with the changes of the rows before it.
abbrev pub update_rows : ℕ → State → Table → List SetItem → List PlacedRow → List PlacedRow → Result (List CellEdit) Refusal
update_rows session s t sets rows [] = Ok []
update_rows session s t sets rows (r ∷ rest) =
    let new = set_values t (r.1) sets in
    let row : Row = record { values = with_values new ((r.1).values) } in
    unless_row (update_row_refusal session s t (record { before = r; after = row; values = new; seen = rows }))
    (record { place = Some (r.0); before = full t (r.1); after = full t row })
    (update_rows session s t sets (with_row (r.0, row) rows) rest)

abbrev pub makes : Result (List CellEdit) Refusal → Meant
makes (Ok edits) = Makes edits
makes (Err r) = Refuses r

abbrev pub update_in : ℕ → State → List SetItem → Option Cond → Option Table → Meant
update_in session s sets cond None = Refuses NoTable
update_in session s sets cond (Some t) =
    let rows = rows_seen session s t in
    unless (option_or (sets_refusal t [] sets) (cond_refusal cond t))
    (makes (update_rows session s t sets rows (rows_taken cond t rows)))

-- select

abbrev pub aggregate_column : Aggregate → Option (List ℕ)
aggregate_column Count = None
aggregate_column (Sum name) = Some name

abbrev pub items_columns : Items → List (List ℕ)
items_columns All = []
items_columns (Columns names) = names
items_columns (Sums aggregates) = filter_map aggregate_column aggregates

abbrev pub sums_text : Table → Items → Bool
sums_text t (Sums aggregates) = list_any (is_text_column t) (filter_map aggregate_column aggregates)
sums_text t _ = false

abbrev pub select_refusal : Table → Items → Option Cond → List OrderItem → Option Refusal
select_refusal t items cond order = first_of (
    refused_if (not (list_all (is_column t) (items_columns items))) NoColumn
    ∷ refused_if (sums_text t items) WrongType
    ∷ cond_refusal cond t
    ∷ refused_if (not (list_all (λ o. is_column t o.column) order)) NoColumn
    ∷ [])

-- Rows by the ORDER BY columns, ties in key order.
abbrev pub direction : Bool → Ordering → Ordering
direction true o = ordering_reverse o
direction false o = o

abbrev pub order_cmp : Table → List OrderItem → PlacedRow → PlacedRow → Ordering
order_cmp t [] a b = key_order t a b
order_cmp t (o ∷ os) a b =
    let c = unwrap_or (column_named t o.column) 0 in
    ordering_then (direction o.down (value_cmp (value_at (a.1) c) (value_at (b.1) c))) (order_cmp t os a b)

abbrev pub picked : Table → List (List ℕ) → PlacedRow → Row
picked t names r = record { values = map (λ name. value_at (r.1) (unwrap_or (column_named t name) 0)) names }

abbrev pub total_units : ColumnType → List Value → ℤ
total_units kind [] = pos 0
total_units kind (v ∷ vs) = units_in kind v +ℤ total_units kind vs

abbrev pub sum_of : ColumnType → List Value → Value
sum_of kind [] = Null
sum_of kind values = number_value kind (total_units kind values)

abbrev pub values_summed : Table → List PlacedRow → List ℕ → List Value
values_summed t rows name = filter (λ v. not (is_null v)) (map (λ (r : PlacedRow). value_at (r.1) (unwrap_or (column_named t name) 0)) rows)

abbrev pub aggregate_value : Table → List PlacedRow → Aggregate → Value
aggregate_value t rows Count = Int (pos (length rows))
aggregate_value t rows (Sum name) = sum_of (kind_named t name) (values_summed t rows name)

abbrev pub aggregate_refusal : Table → List PlacedRow → Aggregate → Option Refusal
aggregate_refusal t rows Count = None
aggregate_refusal t rows (Sum name) = refused_if (is_value_out (kind_named t name) (sum_of (kind_named t name) (values_summed t rows name))) OutOfRange

abbrev pub shown : Table → Items → List PlacedRow → Result (List Row) Refusal
shown t All rows = Ok (map (λ (r : PlacedRow). r.1) rows)
shown t (Columns names) rows = Ok (map (picked t names) rows)
shown t (Sums aggregates) rows =
    rows_unless (first_of (map (aggregate_refusal t rows) aggregates)) (Ok (record { values = map (aggregate_value t rows) aggregates } ∷ []))

abbrev pub select_in : ℕ → State → Items → Option Cond → List OrderItem → Option Table → Result (List Row) Refusal
select_in session s items cond order None = Err NoTable
select_in session s items cond order (Some t) =
    rows_unless (select_refusal t items cond order)
    (shown t items (in_order (order_cmp t order) (filter (λ (r : PlacedRow). takes cond t (r.1)) (rows_seen session s t))))

unfoldable pub meant_by_insert : ℕ → State → List ℕ → List Value → Meant
meant_by_insert session s name values = insert_into session s values (table_named name (catalog s))

unfoldable pub meant_by_update : ℕ → State → List ℕ → List SetItem → Option Cond → Meant
meant_by_update session s name sets cond = update_in session s sets cond (table_named name (catalog s))

unfoldable pub meant_by_delete : ℕ → State → List ℕ → Option Cond → Meant
meant_by_delete session s name cond = delete_from session s cond (table_named name (catalog s))

unfoldable pub meant_by_select : ℕ → State → List ℕ → Items → Option Cond → List OrderItem → Result (List Row) Refusal
meant_by_select session s name items cond order = select_in session s items cond order (table_named name (catalog s))

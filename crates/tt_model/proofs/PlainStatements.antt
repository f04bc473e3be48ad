-- Inserts, updates and deletes make plain entries.
use Rattle.std.proofs.Common.{◌≡◌, ◌≤◌, ◌<◌, ℕ, zero, suc, Bool, true, false, not, nat_eq, List, [], ◌∷◌, map, length, get_or, Option, Some, None, unwrap_or, refl, sym, ap, ◌∙◌, subst, arith, true≢false}
use Rattle.std.proofs.lemmas.Bool.{eq-eqb, eqb-true}
use Rattle.std.proofs.lemmas.Option.{unwrap_or-slice_get}
use Rattle.std.specs.Prelude.{ℤ, ◌==◌, ◌+ℤ◌, ◌-ℤ◌, bytes_eq, slice_get, slice_set, zip, Ok}
use Rattle.std.specs.Option.{option_or}
use Rattle.std.specs.List.{All, list_all, list_any}
use Rattle.tt_value.specs.Stored.{IsCell, IsStorable, IsStorableValue}
use Rattle.tt_value.specs.declared.refusal.Refusal.{Refusal}
use Rattle.tt_value.specs.declared.refusal.Refusal.TheVariants.{KeyUpdate, NameThere, NoColumn, OutOfRange, TooWide, WrongType}
use Rattle.tt_value.specs.declared.value.Row.{Row}
use Rattle.tt_value.specs.declared.value.Cell.TheVariants.{Empty, Full}
use Rattle.tt_value.specs.declared.value.Value.{Value}
use Rattle.tt_value.specs.declared.value.Value.TheVariants.{Null, Int, Number, Text}
use Rattle.tt_value.specs.declared.value.ColumnType.{ColumnType}
use Rattle.tt_value.specs.declared.value.ColumnType.TheVariants.{BigInt}
use Rattle.tt_parse.specs.declared.command.ColumnText.{ColumnText}
use Rattle.tt_parse.specs.declared.command.SetItem.{SetItem}
use Rattle.tt_parse.specs.declared.command.SetSource.{SetSource}
use Rattle.tt_parse.specs.declared.command.SetSource.TheVariants.{Literal, Column, Plus, Minus}
use Rattle.tt_parse.specs.declared.cond.Cond.{Cond}
use Rattle.tt_record.specs.Entry.{IsTransaction}
use Rattle.tt_model.specs.Committed.{Cells, is_full}
use Rattle.tt_model.specs.Holders.{value_at}
use Rattle.tt_model.specs.Tables.{PlacedRow, Table, column_named, table_named, unique_of}
use Rattle.tt_model.specs.Conditions.{column_at, is_column}
use Rattle.tt_model.specs.Meaning.{Makes, cond_refusal, conflict, delete_from, delete_row_refusal, first_of, full, insert_into, insert_refusal, inserted_row, is_too_wide, is_value_out, key_name, key_there, kind_named, makes, meant_by_delete, meant_by_insert, meant_by_update, names_no_column, no_room, plus_value, range_refusal, refused_if, row_refusal, rows_seen, rows_taken, set_refusal, set_values, sets_refusal, source_column, source_value, takes_literal, takes_source, units_in, update_in, update_row_refusal, update_row_tests, update_rows, value_conflict, value_name, value_there, wide_refusal, width_of, with_column, with_row, with_values}
use Rattle.tt_model.specs.Ranges.{IsLiteral, IsSource, IsType}
use Rattle.tt_model.specs.State.{State, catalog, free_place, trail, view}
use Rattle.tt_model.specs.declared.definition.CellEdit.{CellEdit}
use Rattle.tt_model.specs.Sound.{IsSound}
use Rattle.tt_model.specs.WholeRuns.{Each}
use Rattle.tt_model.specs.Entries.{HasStorableTables, IsPlain, IsStorableTable}
use Rattle.tt_model.specs.Works.{changes}
use Rattle.tt_model.proofs.FreePlaces.{free-below, not_refused}
use Rattle.tt_model.proofs.OneHolderStatements.{each-found}
use Rattle.tt_model.proofs.RowLemmas.{LieIn}
use Rattle.tt_model.proofs.StatementLemmas.{AllNone, HasFirst, each_none, makes-ok, makes_same, ok_same, taken_rows, unless-makes, unless_row-first}
use Rattle.tt_model.proofs.StorableCells.{AreCells, IsPlacedEdit, IsStored, changes-plain, plain-change, seen-low, view-stored}
use Rattle.tt_model.proofs.StorableValues.{all-each, each-all, inserted-length, inserted-storable, set-length, set-storable, storable-literal, storable-number, storable-row, value_tests}

each_get : {X : Type 0} (P : X → Type 0) (xs : List X) (i : ℕ) (d : X) → Each P xs → P d → P (get_or xs i d)
each_get P [] i d h pd = pd
each_get P (x ∷ xs) zero d h pd = h.0
each_get P (x ∷ xs) (suc i) d h pd = each_get P xs i d (h.1) pd

pub each_at : {X : Type 0} (P : X → Type 0) (xs : List X) (i : ℕ) (d : X) → Each P xs → P d → P (unwrap_or (slice_get xs i) d)
each_at P xs i d h pd = subst P (sym (unwrap_or-slice_get xs i d)) (each_get P xs i d h pd)

-- ---- insert

not_so : (c : Bool) → not c ≡ false → c ≡ true
not_so true h = refl
not_so false h = absurd (true≢false h)

same_length : (m n : ℕ) → not (m == n) ≡ false → m ≡ n
same_length m n h = eqb-true m n (not_so (m == n) h)

abbrev insert_tests : ℕ → State → Table → List Value → Row → List (Option Refusal)
insert_tests session s t values row =
    let rows = rows_seen session s t in
    refused_if (not (length values == length t.columns)) WrongType
    ∷ refused_if (not (list_all (λ (p : ColumnText × Value). takes_literal ((p.0).kind) (p.1)) (zip t.columns values))) WrongType
    ∷ first_of (map (with_column value_tests) (zip t.columns row.values))
    ∷ row_refusal row
    ∷ conflict (s.own session) (trail s) (key_name t row)
    ∷ key_there t row None rows
    ∷ first_of (map (λ i. first_of (value_conflict (s.own session) (trail s) (value_name i row) ∷ value_there row None rows i ∷ [])) (unique_of t (catalog s)))
    ∷ no_room 1 s
    ∷ []

insert_in : (session : ℕ) (s : State) (values : List Value) (t : Table) (n : ℕ) → IsStorableTable t → Each IsLiteral values → IsTransaction n → IsStored s →
    AllNone (insert_tests session s t values (inserted_row t values)) → Each IsPlain (changes n (record { place = None; before = Empty; after = full t (inserted_row t values) } ∷ []) s)
insert_in session s values t n table literals number h none =
    let row : Row = inserted_row t values in
    let edit : CellEdit = record { place = None; before = Empty; after = full t row } in
    let same : length values ≡ length t.columns = same_length (length values) (length t.columns) (not_refused (not (length values == length t.columns)) WrongType (none.0)) in
    let takes : list_all (λ (p : ColumnText × Value). takes_literal ((p.0).kind) (p.1)) (zip t.columns values) ≡ true
    = not_so (list_all (λ (p : ColumnText × Value). takes_literal ((p.0).kind) (p.1)) (zip t.columns values))
    (not_refused (not (list_all (λ (p : ColumnText × Value). takes_literal ((p.0).kind) (p.1)) (zip t.columns values))) WrongType ((none.1).0)) in
    let range : Each IsStorableValue row.values = inserted-storable t.columns values table.types literals takes (each_none (map (with_column value_tests) (zip t.columns row.values)) (((none.1).1).0)) in
    let count : length row.values ≡ length t.columns = inserted-length t.columns values same in
    let some : 1 ≤ length t.columns = table.some in
    let few : length t.columns ≤ 16 = table.few in
    let storable : IsStorable row = storable-row row.values (omega (arith, count, some)) (omega (arith, count, few)) (all-each IsStorableValue row.values range) ((((none.1).1).1).0) in
    let low = free-below s ((((((((none.1).1).1).1).1).1).1).0) in
    let perm : s.settings.perm_pages ≤ 65536 = h.perm_pages in
    (plain-change n (free_place s) edit number (record { before = tt; after = (table.some_id, table.id, storable); table = refl }) (omega (arith, low, perm)), tt)

insert_plain : (session : ℕ) (s : State) (values : List Value) (o : Option Table) (edits : List CellEdit) (n : ℕ) → ((t : Table) → o ≡ Some t → IsStorableTable t) →
    Each IsLiteral values → IsTransaction n → IsStored s → insert_into session s values o ≡ Makes edits → Each IsPlain (changes n edits s)
insert_plain session s values None edits n tables literals number h m = let no : ⊥ = cc in absurd no
insert_plain session s values (Some t) edits n tables literals number h m =
    let row : Row = inserted_row t values in
    let parts : (insert_refusal session s t values row ≡ None) × (Makes (record { place = None; before = Empty; after = full t row } ∷ []) ≡ Makes edits)
    = unless-makes (insert_refusal session s t values row) (Makes (record { place = None; before = Empty; after = full t row } ∷ [])) edits m in
    subst (λ (es : List CellEdit). Each IsPlain (changes n es s)) (makes_same (record { place = None; before = Empty; after = full t row } ∷ []) edits (parts.1))
    (insert_in session s values t n (tables t refl) literals number h (each_none (insert_tests session s t values row) (parts.0)))

-- The table that a line names can be stored into.
table_stored : (s : State) (name : List ℕ) → HasStorableTables s → (t : Table) → table_named name (catalog s) ≡ Some t → IsStorableTable t
table_stored s name tables t is = each-found IsStorableTable (λ t. bytes_eq t.name name) t (catalog s).tables tables is

pub insert-plain : (session : ℕ) (s : State) (name : List ℕ) (values : List Value) (edits : List CellEdit) (n : ℕ) → HasStorableTables s → Each IsLiteral values → IsTransaction n → IsStored s →
    meant_by_insert session s name values ≡ Makes edits → Each IsPlain (changes n edits s)
unfolding meant_by_insert
insert-plain session s name values edits n tables literals number h m = insert_plain session s values (table_named name (catalog s)) edits n (table_stored s name tables) literals number h m

-- ---- delete

-- Where a row lies, it can be stored.
lying : (table q : ℕ) (row : Row) (cells : Cells) → AreCells cells → cells q ≡ Full table row → IsCell (Full table row)
lying table q row cells h is = subst IsCell is (h q)

pub deletes-placed : (table : ℕ) (rows : List PlacedRow) (cells : Cells) → AreCells cells → ((q : ℕ) → is_full (cells q) ≡ true → q < 2097152) → LieIn table cells rows →
    Each IsPlacedEdit (map (λ (r : PlacedRow). record { place = Some (r.0); before = Full table (r.1); after = Empty }) rows)
deletes-placed table [] cells h low lie = tt
deletes-placed table (r ∷ rows) cells h low lie = (
  (record { before = lying table (r.0) (r.1) cells h (lie.0); after = tt; table = refl }, low (r.0) (ap is_full (lie.0))),
  deletes-placed table rows cells h low (lie.1),
)

delete_plain : (session : ℕ) (s : State) (cond : Option Cond) (o : Option Table) (edits : List CellEdit) → IsSound s → IsStored s → delete_from session s cond o ≡ Makes edits → Each IsPlacedEdit edits
delete_plain session s cond None edits sound h m = let no : ⊥ = cc in absurd no
delete_plain session s cond (Some t) edits sound h m =
    let rows : List PlacedRow = rows_taken cond t (rows_seen session s t) in
    subst (Each IsPlacedEdit) (makes_same _ edits ((unless-makes (first_of (cond_refusal cond t ∷ map (delete_row_refusal session s t) rows)) _ edits m).1))
    (deletes-placed t.id rows (view session s) (view-stored session s h) (λ q y. seen-low session s q sound h y) (taken_rows session s cond t).lie)

pub delete-plain : (session : ℕ) (s : State) (name : List ℕ) (cond : Option Cond) (edits : List CellEdit) (n : ℕ) → IsSound s → IsTransaction n → IsStored s →
    meant_by_delete session s name cond ≡ Makes edits → Each IsPlain (changes n edits s)
unfolding meant_by_delete
delete-plain session s name cond edits n sound number h m = changes-plain n edits s number (delete_plain session s cond (table_named name (catalog s)) edits sound h m)

-- ---- update

plus_storable : (kind : ColumnType) (f : ℤ → ℤ → ℤ) (v by : Value) → IsType kind → is_value_out kind (plus_value kind f v by) ≡ false → IsStorableValue (plus_value kind f v by)
plus_storable kind f Null by type out = tt
plus_storable kind f (Int n) Null type out = tt
plus_storable kind f (Int n) (Int m) type out = storable-number kind (f (units_in kind (Int n)) (units_in kind (Int m))) type out
plus_storable kind f (Int n) (Number s m) type out = storable-number kind (f (units_in kind (Int n)) (units_in kind (Number s m))) type out
plus_storable kind f (Int n) (Text b) type out = storable-number kind (f (units_in kind (Int n)) (units_in kind (Text b))) type out
plus_storable kind f (Number t n) Null type out = tt
plus_storable kind f (Number t n) (Int m) type out = storable-number kind (f (units_in kind (Number t n)) (units_in kind (Int m))) type out
plus_storable kind f (Number t n) (Number s m) type out = storable-number kind (f (units_in kind (Number t n)) (units_in kind (Number s m))) type out
plus_storable kind f (Number t n) (Text b) type out = storable-number kind (f (units_in kind (Number t n)) (units_in kind (Text b))) type out
plus_storable kind f (Text a) Null type out = tt
plus_storable kind f (Text a) (Int m) type out = storable-number kind (f (units_in kind (Text a)) (units_in kind (Int m))) type out
plus_storable kind f (Text a) (Number s m) type out = storable-number kind (f (units_in kind (Text a)) (units_in kind (Number s m))) type out
plus_storable kind f (Text a) (Text b) type out = storable-number kind (f (units_in kind (Text a)) (units_in kind (Text b))) type out

source_storable : (t : Table) (kind : ColumnType) (row : Row) (source : SetSource) → IsSource source → takes_source t kind source ≡ true → IsType kind →
    is_value_out kind (source_value t kind row source) ≡ false → is_too_wide kind (source_value t kind row source) ≡ false → Each IsStorableValue row.values → IsStorableValue (source_value t kind row source)
source_storable t kind row (Literal v) source takes type out wide values = storable-literal kind v type source takes wide out
source_storable t kind row (Column name) source takes type out wide values = each_at IsStorableValue row.values (unwrap_or (column_named t name) 0) Null values tt
source_storable t kind row (Plus name by) source takes type out wide values = plus_storable kind (λ a b. a +ℤ b) (value_at row (unwrap_or (column_named t name) 0)) by type out
source_storable t kind row (Minus name by) source takes type out wide values = plus_storable kind (λ a b. a -ℤ b) (value_at row (unwrap_or (column_named t name) 0)) by type out

-- Each set takes its source.
abbrev TakeSources : Table → List SetItem → Type 0
TakeSources t sets = Each (λ (set : SetItem). takes_source t (kind_named t set.column) set.source ≡ true) sets

none_second : (a b : Option Refusal) → option_or a b ≡ None → (a ≡ None) × (b ≡ None)
none_second None b is = (refl, is)
none_second (Some r) b is = let no : ⊥ = cc in absurd no

abbrev set_tests : Table → List SetItem → SetItem → List (Option Refusal)
set_tests t earlier set =
    refused_if (not (is_column t set.column)) NoColumn
    ∷ refused_if (list_any (λ k. nat_eq k (unwrap_or (column_named t set.column) 0)) t.key) KeyUpdate
    ∷ refused_if (list_any (λ e. bytes_eq e.column set.column) earlier) NameThere
    ∷ refused_if (names_no_column t (source_column set.source)) NoColumn
    ∷ refused_if (not (takes_source t (kind_named t set.column) set.source)) WrongType
    ∷ []

sets_taken : (t : Table) (earlier sets : List SetItem) → sets_refusal t earlier sets ≡ None → TakeSources t sets
sets_taken t earlier [] none = tt
sets_taken t earlier (set ∷ sets) none =
    let parts : (set_refusal t earlier set ≡ None) × (sets_refusal t (set ∷ earlier) sets ≡ None) = none_second (set_refusal t earlier set) (sets_refusal t (set ∷ earlier) sets) none in
    let tests : AllNone (set_tests t earlier set) = each_none (set_tests t earlier set) (parts.0) in
    (not_so (takes_source t (kind_named t set.column) set.source) (not_refused (not (takes_source t (kind_named t set.column) set.source)) WrongType (((((tests.1).1).1).1).0)), sets_taken t (set ∷ earlier) sets (parts.1))

column_type : (t : Table) (i : ℕ) → IsStorableTable t → IsType (column_at t i).kind
column_type t i table = each_at (λ (c : ColumnText). IsType c.kind) t.columns i (record { name = []; kind = BigInt; required = false }) table.types tt

-- The values that sets give, and the row with them.
values_storable : (t : Table) (row : Row) (sets : List SetItem) (values : List Value) → IsStorableTable t → Each (λ (set : SetItem). IsSource set.source) sets → TakeSources t sets →
    AllNone (map (λ (p : ℕ × Value). range_refusal (column_at t (p.0)) (p.1)) (set_values t row sets)) → AllNone (map (λ (p : ℕ × Value). wide_refusal (column_at t (p.0)) (p.1)) (set_values t row sets)) →
    Each IsStorableValue row.values → All IsStorableValue values → All IsStorableValue (with_values (set_values t row sets) values) × (length (with_values (set_values t row sets) values) ≡ length values)
values_storable t row [] values table sources takes out wide old all = (all, refl)
values_storable t row (set ∷ sets) values table sources takes out wide old all =
    let i : ℕ = unwrap_or (column_named t set.column) 0 in
    let kind : ColumnType = kind_named t set.column in
    let v : Value = source_value t kind row set.source in
    let storable : IsStorableValue v = source_storable t kind row set.source (sources.0) (takes.0) (column_type t i table)
    (not_refused (is_value_out kind v) OutOfRange (out.0)) (not_refused (is_too_wide kind v) (TooWide (width_of v)) (wide.0)) old in
    let rest : All IsStorableValue (with_values (set_values t row sets) (slice_set values i v)) × (length (with_values (set_values t row sets) (slice_set values i v)) ≡ length (slice_set values i v))
    = values_storable t row sets (slice_set values i v) table (sources.1) (takes.1) (out.1) (wide.1) old (set-storable values i v storable all) in
    (rest.0, rest.1 ∙ set-length values i v)

pub same_table : (n : ℕ) → (n == n) ≡ true
same_table n = eq-eqb n n refl

updates_placed : (session : ℕ) (s : State) (t : Table) (sets : List SetItem) (all rest : List PlacedRow) (edits : List CellEdit) (cells : Cells) → IsStorableTable t →
    Each (λ (set : SetItem). IsSource set.source) sets → TakeSources t sets → AreCells cells → ((q : ℕ) → is_full (cells q) ≡ true → q < 2097152) → LieIn t.id cells rest →
    update_rows session s t sets all rest ≡ Ok edits → Each IsPlacedEdit edits
updates_placed session s t sets all [] edits cells table sources takes h low lie m = subst (Each IsPlacedEdit) (ok_same [] edits m) tt
updates_placed session s t sets all (r ∷ rest) edits cells table sources takes h low lie m =
    let new : List (ℕ × Value) = set_values t (r.1) sets in
    let row : Row = record { values = with_values new ((r.1).values) } in
    let edit : CellEdit = record { place = Some (r.0); before = full t (r.1); after = full t row } in
    let first : (update_row_refusal session s t (record { before = r; after = row; values = new; seen = all }) ≡ None) × HasFirst edit (update_rows session s t sets (with_row (r.0, row) all) rest) edits
    = unless_row-first (update_row_refusal session s t (record { before = r; after = row; values = new; seen = all })) edit (update_rows session s t sets (with_row (r.0, row) all) rest) edits m in
    let tests : AllNone (update_row_tests session s t (record { before = r; after = row; values = new; seen = all })) = each_none (update_row_tests session s t (record { before = r; after = row; values = new; seen = all })) (first.0) in
    let old : IsCell (full t (r.1)) = lying t.id (r.0) (r.1) cells h (lie.0) in
    let stored : IsStorable (r.1) = old.2 in
    let values : All IsStorableValue row.values × (length row.values ≡ length (r.1).values) =
    values_storable t (r.1) sets ((r.1).values) table sources takes (each_none (map (λ (p : ℕ × Value). range_refusal (column_at t (p.0)) (p.1)) new) (tests.0))
    (each_none (map (λ (p : ℕ × Value). wide_refusal (column_at t (p.0)) (p.1)) new) (((tests.1).1).0)) (each-all IsStorableValue ((r.1).values) stored.in_range) stored.in_range in
    let count : length row.values ≡ length (r.1).values = values.1 in
    let some : 1 ≤ length (r.1).values = stored.some in
    let few : length (r.1).values ≤ 16 = stored.few in
    let storable : IsStorable row = storable-row row.values (omega (arith, count, some)) (omega (arith, count, few)) (values.0) ((((tests.1).1).1).0) in
    subst (Each IsPlacedEdit) ((first.1).whole) (
      (record { before = old; after = (old.0, old.1, storable); table = same_table t.id }, low (r.0) (ap is_full (lie.0))),
      updates_placed session s t sets (with_row (r.0, row) all) rest ((first.1).others) cells table sources takes h low (lie.1) ((first.1).made),
    )

update_plain : (session : ℕ) (s : State) (sets : List SetItem) (cond : Option Cond) (o : Option Table) (edits : List CellEdit) → ((t : Table) → o ≡ Some t → IsStorableTable t) →
    Each (λ (set : SetItem). IsSource set.source) sets → IsSound s → IsStored s → update_in session s sets cond o ≡ Makes edits → Each IsPlacedEdit edits
update_plain session s sets cond None edits tables sources sound h m = let no : ⊥ = cc in absurd no
update_plain session s sets cond (Some t) edits tables sources sound h m =
    let seen : List PlacedRow = rows_seen session s t in
    let parts : (option_or (sets_refusal t [] sets) (cond_refusal cond t) ≡ None) × (makes (update_rows session s t sets seen (rows_taken cond t seen)) ≡ Makes edits)
    = unless-makes (option_or (sets_refusal t [] sets) (cond_refusal cond t)) (makes (update_rows session s t sets seen (rows_taken cond t seen))) edits m in
    updates_placed session s t sets seen (rows_taken cond t seen) edits (view session s) (tables t refl) sources (sets_taken t [] sets ((none_second (sets_refusal t [] sets) (cond_refusal cond t) (parts.0)).0))
    (view-stored session s h) (λ q y. seen-low session s q sound h y) (taken_rows session s cond t).lie
    (makes-ok (update_rows session s t sets seen (rows_taken cond t seen)) edits (parts.1))

pub update-plain : (session : ℕ) (s : State) (name : List ℕ) (sets : List SetItem) (cond : Option Cond) (edits : List CellEdit) (n : ℕ) → HasStorableTables s →
    Each (λ (set : SetItem). IsSource set.source) sets → IsSound s → IsTransaction n → IsStored s → meant_by_update session s name sets cond ≡ Makes edits → Each IsPlain (changes n edits s)
unfolding meant_by_update
update-plain session s name sets cond edits n tables sources sound number h m =
    changes-plain n edits s number (update_plain session s sets cond (table_named name (catalog s)) edits (table_stored s name tables) sources sound h m)

-- A transaction of the system that leaves what is said of each table with rows leaves users' rows good.
use Rattle.std.proofs.Common.{◌≡◌, ◌⊎◌, ◌≤◌, ◌<◌, inl, inr, ℕ, Bool, true, false, List, [], ◌∷◌, map, Option, Some, None, if◌then◌else◌, refl, sym, ap, ◌∙◌, subst, arith}
use Rattle.std.specs.Prelude.{◌==◌}
use Rattle.std.specs.Ordering.{nat_cmp}
use Rattle.std.proofs.lemmas.Bool.{eqb-true, eq-eqb}
use Rattle.tt_value.specs.declared.value.Value.{Value}
use Rattle.tt_value.specs.declared.value.Row.{Row}
use Rattle.tt_value.specs.declared.value.Cell.{Cell}
use Rattle.tt_value.specs.declared.value.Cell.TheVariants.{Full}
use Rattle.tt_model.specs.Committed.{is_full}
use Rattle.tt_model.specs.Holders.{Held, HasOneHolder, has_null, value_at}
use Rattle.tt_model.specs.Tables.{Index, PlacedRow, Table, by_number, catalog_of, column_of, index_of, indexes_of, key_of, number_at, row_in, rows_of, table_of, table_with, text_at, unique_of, whole_number_of, with_number_at}
use Rattle.tt_model.specs.State.{State, bound, catalog, cells_of, next}
use Rattle.tt_model.specs.declared.definition.CellEdit.{CellEdit}
use Rattle.tt_model.specs.Sound.{IsSound, MayEdit}
use Rattle.tt_model.specs.Step.{system_done}
use Rattle.tt_model.specs.WholeRuns.{Each, HeldOnce}
use Rattle.tt_model.specs.GoodRows.{FitsIn}
use Rattle.tt_model.proofs.RowsCatalog.{HasOwnNumbers}
use Rattle.tt_model.proofs.RowLemmas.{LieIn, are_rows-rows_of, are_rows-in_order, in_cell}
use Rattle.tt_model.proofs.IsolationLemmas.{full-below}
use Rattle.tt_model.proofs.LineLemmas.{AreSome}
use Rattle.tt_model.proofs.OneHolderStatements.{IsAmong, among-filter, each-found, each-one, same_parts}
use Rattle.tt_model.proofs.HeldInRuns.{among_in_order, among_map, among_rows, index-among}
use Rattle.tt_model.proofs.TableLines.{numbered_row}
use Rattle.tt_model.proofs.TableRows.{AreAlike, AreElsewhere, alike-system_done, columns-alike, kept_row, row_with}
use Rattle.tt_model.proofs.RowsOnce.{StandsOnce}
use Rattle.tt_model.proofs.RowsGood.{IsUniqueIn}
use Rattle.tt_model.proofs.RowsStates.{AreOfSystem, StandIn, among-unfiltered, found-passes, held-unique, stand-system_done}
use Rattle.tt_model.proofs.RowsTables.{HasRowOf, has-changed, one-new, stand-new}

-- ---- rows of TABLES and INDEXES

-- The row of TABLES that a table was read from.
pub record IsTableOf (s : State) (t : Table) : Type 0 where
  pub place : ℕ
  pub row : Row
  pub lies : cells_of s place ≡ Full 1 row
  pub is : table_of (rows_of 2 (bound s) (cells_of s)) (place, row) ≡ t

each_table : (s : State) (rows : List PlacedRow) → LieIn 1 (cells_of s) rows → Each (IsTableOf s) (map (table_of (rows_of 2 (bound s) (cells_of s))) rows)
each_table s [] l = tt
each_table s (r ∷ rows) l = (record { place = r.0; row = r.1; lies = l.0; is = refl }, each_table s rows (l.1))

by_lies : (table column : ℕ) (s : State) → LieIn table (cells_of s) (by_number column (rows_of table (bound s) (cells_of s)))
by_lies table column s =
    (are_rows-in_order table (cells_of s) (λ a b. nat_cmp (number_at column a) (number_at column b)) (rows_of table (bound s) (cells_of s)) (are_rows-rows_of table (bound s) (cells_of s))).lie

pub table-from : (s : State) (m : ℕ) (t : Table) → table_with m (catalog s) ≡ Some t → IsTableOf s t
unfolding catalog_of
table-from s m t e =
    each-found (IsTableOf s) (λ (x : Table). x.id == m) t (map (table_of (rows_of 2 (bound s) (cells_of s))) (by_number 0 (rows_of 1 (bound s) (cells_of s))))
    (each_table s (by_number 0 (rows_of 1 (bound s) (cells_of s))) (by_lies 1 0 s)) e

-- A row of TABLES gives the table that its number finds.
table-to : (s : State) (q : ℕ) (row : Row) → IsSound s → HasOwnNumbers (catalog s) → cells_of s q ≡ Full 1 row →
    table_with (number_at 0 (q, row)) (catalog s) ≡ Some (table_of (rows_of 2 (bound s) (cells_of s)) (q, row))
unfolding catalog_of rows_of
table-to s q row h own e =
    let columns : List PlacedRow = rows_of 2 (bound s) (cells_of s) in
    let rows : List PlacedRow = rows_of 1 (bound s) (cells_of s) in
    let below : q < bound s = full-below s q h (ap is_full e) in
    let there : IsAmong (table_of columns (q, row)) (map (table_of columns) (by_number 0 rows))
    = among_map (table_of columns) (q, row) (by_number 0 rows)
    (among_in_order (q, row) (λ a b. nat_cmp (number_at 0 a) (number_at 0 b)) rows (among_rows 1 q row (cells_of s) (bound s) 0 e (omega arith) (omega (arith, below)))) in
    each-one (λ (t : Table). table_with t.id (catalog s) ≡ Some t) (table_of columns (q, row)) (map (table_of columns) (by_number 0 rows)) own there

pub record IsIndexOf (s : State) (i : Index) : Type 0 where
  pub place : ℕ
  pub row : Row
  pub lies : cells_of s place ≡ Full 3 row
  pub is : index_of (place, row) ≡ i

each_index : (s : State) (rows : List PlacedRow) → LieIn 3 (cells_of s) rows → Each (IsIndexOf s) (map index_of rows)
each_index s [] l = tt
each_index s (r ∷ rows) l = (record { place = r.0; row = r.1; lies = l.0; is = refl }, each_index s rows (l.1))

pub index-from : (s : State) (i : Index) → IsAmong i (catalog s).indexes → IsIndexOf s i
unfolding catalog_of
index-from s i a =
    each-one (IsIndexOf s) i (map index_of (by_number 0 (rows_of 3 (bound s) (cells_of s)))) (each_index s (by_number 0 (rows_of 3 (bound s) (cells_of s))) (by_lies 3 0 s)) a

-- ---- tables that are kept

kept_some : (column m : ℕ) (o : Option Row) (row : Row) → kept_row column m o ≡ Some row → o ≡ Some row
kept_some column m None row h = let no : ⊥ = cc in absurd no
kept_some column m (Some found) row h = by (whole_number_of (value_at found column) == m) h
  where
    by : (c : Bool) → (if c then Some found else None) ≡ Some row → Some found ≡ Some row
    by true k = k
    by false k = let no : ⊥ = cc in absurd no

row_with-full : (table column m : ℕ) (c : Cell) (row : Row) → row_with table column m c ≡ Some row → c ≡ Full table row
row_with-full table column m c row h = in_cell table c row (kept_some column m (row_in table c) row h)

full-row_with : (table column q : ℕ) (c : Cell) (row : Row) → c ≡ Full table row → row_with table column (whole_number_of (value_at row column)) c ≡ Some row
full-row_with table column q c row e =
    ap (row_with table column (whole_number_of (value_at row column))) e
    ∙ (ap (λ b. kept_row column (whole_number_of (value_at row column)) (if b then Some row else None)) (eq-eqb table table refl)
    ∙ ap (λ b. if b then Some row else None) (eq-eqb (whole_number_of (value_at row column)) (whole_number_of (value_at row column)) refl))

-- The table of a row of TABLES depends on the rows of COLUMNS of its number alone.
abbrev table_by : PlacedRow → List PlacedRow → Table
table_by r own = record { id = number_at 0 r; name = text_at 1 r; columns = map column_of (by_number 1 own); key = key_of (by_number 1 own) }

-- What two states say alike of a table.
pub record KeepsTable (m : ℕ) (s after : State) : Type 0 where
  pub tables : (q : ℕ) → row_with 1 0 m (cells_of after q) ≡ row_with 1 0 m (cells_of s q)
  pub columns : with_number_at 0 m (rows_of 2 (bound after) (cells_of after)) ≡ with_number_at 0 m (rows_of 2 (bound s) (cells_of s))

same_table : (s after : State) (q : ℕ) (row : Row) → IsSound after → HasOwnNumbers (catalog after) → KeepsTable (number_at 0 (q, row)) s after → cells_of s q ≡ Full 1 row →
    table_with (number_at 0 (q, row)) (catalog after) ≡ Some (table_of (rows_of 2 (bound s) (cells_of s)) (q, row))
same_table s after q row k own keeps e =
    let there : cells_of after q ≡ Full 1 row
    = row_with-full 1 0 (number_at 0 (q, row)) (cells_of after q) row (keeps.tables q ∙ full-row_with 1 0 q (cells_of s q) row e) in
    table-to after q row k own there ∙ ap (λ (own : List PlacedRow). Some (table_by (q, row) own)) keeps.columns

table-kept : (s after : State) (m : ℕ) (t : Table) → IsSound after → HasOwnNumbers (catalog after) → KeepsTable m s after → table_with m (catalog s) ≡ Some t → table_with m (catalog after) ≡ Some t
table-kept s after m t k own keeps e =
    let r : IsTableOf s t = table-from s m t e in
    let number : m ≡ number_at 0 (r.place, r.row)
    = sym (eqb-true t.id m (found-passes (λ (x : Table). x.id == m) t (catalog s).tables e)) ∙ ap (λ (x : Table). x.id) (sym r.is) in
    ap (λ (n : ℕ). table_with n (catalog after)) number
    ∙ (same_table s after r.place r.row k own (subst (λ (n : ℕ). KeepsTable n s after) number keeps) r.lies ∙ ap (λ (x : Table). Some x) r.is)

-- ---- the catalog that a transaction of the system leaves

-- A new unique index whose values stand once, and that nobody holds.
abbrev pub IsNewOnce : State → Index → Type 0
IsNewOnce s i =
    i.unique ≡ true → (values : List Value) → has_null values ≡ false →
    StandsOnce (record { table = i.table; columns = i.columns; values = values }) s.found.cells s.entries × HasOneHolder (record { table = i.table; columns = i.columns; values = values }) s.entries

-- A table with rows is one of the catalog.
pub user-table : (s : State) → StandIn (catalog s) s → (m : ℕ) → 16 ≤ m → HasRowOf s m → (t : Table) × (table_with m (catalog s) ≡ Some t)
user-table s stand m user (inl r) = let fit = (stand.fits).settled (r.0) m (r.1) (r.2) user in (fit.0, fit.1)
user-table s stand m user (inr r) =
    let c = has-changed (FitsIn (catalog s)) (r.0) m s.entries ((stand.fits).changes (r.0) (r.1)) (r.2) in let fit = c.has m c.row refl user in (fit.0, fit.1)

module _ (s after : State) (stand : StandIn (catalog s) s) (held : HeldOnce (catalog s) s.entries) (k : IsSound after) (own : HasOwnNumbers (catalog after))
    (keeps : (m : ℕ) → 16 ≤ m → HasRowOf s m → KeepsTable m s after)
    (indexes : (i : Index) → 16 ≤ i.table → HasRowOf s i.table → IsAmong i (catalog after).indexes → IsAmong i (catalog s).indexes ⊎ IsNewOnce s i) where
  tables_kept : (m : ℕ) → 16 ≤ m → HasRowOf s m → table_with m (catalog after) ≡ table_with m (catalog s)
  tables_kept m user has = let t = user-table s stand m user has in table-kept s after m (t.0) k own (keeps m user has) (t.1) ∙ sym (t.1)

  by_old : (name : Held) → IsUniqueIn (catalog s) name → StandsOnce name s.found.cells s.entries × HasOneHolder name s.entries
  by_old name u = (stand.once name u, held-unique (catalog s) s.entries name held u)

  names_kept : (name : Held) → HasRowOf s name.table → IsUniqueIn (catalog after) name → StandsOnce name s.found.cells s.entries × HasOneHolder name s.entries
  names_kept name has u =
      let found : table_with name.table (catalog s) ≡ Some u.table = sym (tables_kept name.table u.user has) ∙ u.found in
      elim u.rule [
        | inl key ↦ by_old name (record { table = u.table; user = u.user; found = found; rule = inl key })
        | inr index ↦
            let i : Index = index.0 in
            let id : (u.table).id ≡ name.table = eqb-true ((u.table).id) name.table (found-passes (λ (t : Table). t.id == name.table) u.table (catalog s).tables found) in
            let by_unique : IsAmong i (indexes_of u.table (catalog after)) × (i.unique ≡ true) = among-unfiltered (λ (x : Index). x.unique) i (indexes_of u.table (catalog after)) (index.1) in
            let by_table : IsAmong i (catalog after).indexes × ((i.table == (u.table).id) ≡ true) = among-unfiltered (λ (x : Index). x.table == (u.table).id) i (catalog after).indexes (by_unique.0) in
            let of_table : name.table ≡ i.table = sym id ∙ sym (eqb-true i.table ((u.table).id) (by_table.1)) in
            elim (indexes i (subst (λ (n : ℕ). 16 ≤ n) of_table u.user) (subst (HasRowOf s) of_table has) (by_table.0)) [
              | inl old ↦
                  let among : IsAmong i (unique_of u.table (catalog s))
                  = among-filter (λ (x : Index). x.unique) i (indexes_of u.table (catalog s)) (by_unique.1) (among-filter (λ (x : Index). x.table == (u.table).id) i (catalog s).indexes (by_table.1) old) in
                  by_old name (record { table = u.table; user = u.user; found = found; rule = inr (i, among, index.2, index.3) })
              | inr fresh ↦
                  subst (λ (n : Held). StandsOnce n s.found.cells s.entries × HasOneHolder n s.entries) (sym (same_parts name i.table i.columns name.values of_table (index.2) refl))
                  (fresh (by_unique.1) name.values (index.3))
            ]
      ]

  pub stand-after : StandIn (catalog after) s
  stand-after = stand-new s (catalog s) (catalog after) stand held tables_kept names_kept

  pub one-after : (name : Held) → IsUniqueIn (catalog after) name → HasOneHolder name s.entries
  one-after = one-new s (catalog s) (catalog after) stand held tables_kept names_kept

pub stand-system : (edits : List CellEdit) (s : State) → IsSound s → IsSound (system_done edits s) → StandIn (catalog s) s → HeldOnce (catalog s) s.entries →
    HasOwnNumbers (catalog (system_done edits s)) → AreSome edits → MayEdit (next s) edits s → AreOfSystem edits →
    ((m : ℕ) → 16 ≤ m → HasRowOf s m → KeepsTable m s (system_done edits s)) →
    ((i : Index) → 16 ≤ i.table → HasRowOf s i.table → IsAmong i (catalog (system_done edits s)).indexes → IsAmong i (catalog s).indexes ⊎ IsNewOnce s i) →
    StandIn (catalog (system_done edits s)) (system_done edits s)
stand-system edits s h k stand held own some may low keeps indexes =
    let after : State = system_done edits s in
    stand-system_done (catalog after) edits s h some may low (one-after s after stand held k own keeps indexes) (stand-after s after stand held k own keeps indexes)

-- Where the edits are of other rows than those of tables with rows.
pub stand-elsewhere : (edits : List CellEdit) (s : State) → IsSound s → IsSound (system_done edits s) → StandIn (catalog s) s → HeldOnce (catalog s) s.entries →
    HasOwnNumbers (catalog (system_done edits s)) → AreSome edits → MayEdit (next s) edits s → AreOfSystem edits →
    ((m : ℕ) → 16 ≤ m → HasRowOf s m → AreElsewhere m edits) → StandIn (catalog (system_done edits s)) (system_done edits s)
stand-elsewhere edits s h k stand held own some may low elsewhere =
    let after : State = system_done edits s in
    let alike : (m : ℕ) → 16 ≤ m → HasRowOf s m → AreAlike m (cells_of s) (cells_of after) = λ m user has. alike-system_done m edits s h may (elsewhere m user has) in
    stand-system edits s h k stand held own some may low
    (λ m user has. let a = alike m user has in record { tables = a.tables; columns = columns-alike m s after h k a })
    (λ i user has among.
    let r : IsIndexOf after i = index-from after i among in
    let number : i.table ≡ number_at 1 (r.place, r.row) = ap (λ (x : Index). x.table) (sym r.is) in
    let same : cells_of after r.place ≡ cells_of s r.place
    = (alike i.table user has).indexes r.place
    (numbered_row 3 1 i.table (cells_of after r.place) r.row r.lies (eq-eqb (number_at 1 (r.place, r.row)) i.table (sym number))) in
    inl (subst (λ (x : Index). IsAmong x (catalog s).indexes) r.is (index-among s r.place r.row h (sym same ∙ r.lies))))

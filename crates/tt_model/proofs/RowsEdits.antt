-- The lines on system tables edit no user's row, and leave the system rows of tables with rows.
use Rattle.std.proofs.Common.{◌≡◌, ◌≤◌, ◌<◌, inl, inr, ℕ, suc, Bool, true, not, map, List, [], ◌∷◌, ◌++◌, length, Option, Some, None, sym, ap, ◌∙◌, subst, arith, lit<}
use Rattle.std.specs.Prelude.{◌==◌}
use Rattle.std.proofs.lemmas.Bool.{eq-eqb, eqb-true, false_from_ne_true}
use Rattle.tt_value.specs.declared.value.Value.{Value}
use Rattle.tt_value.specs.declared.value.Row.{Row}
use Rattle.tt_value.specs.declared.value.Cell.TheVariants.{Empty, Full as FullCell}
use Rattle.tt_value.specs.declared.position.Position.{Position}
use Rattle.tt_value.specs.declared.refusal.Refusal.{Refusal}
use Rattle.tt_value.specs.declared.refusal.Refusal.TheVariants.{NotEmpty}
use Rattle.tt_parse.specs.declared.command.ColumnText.{ColumnText}
use Rattle.tt_model.specs.Committed.{is_full}
use Rattle.tt_model.specs.Tables.{Index, PlacedRow, Table, by_number, by_text, number_at, rows_of, with_number_at, with_text_at}
use Rattle.tt_model.specs.State.{Reader, State, bound, catalog, cells_of}
use Rattle.tt_model.specs.declared.definition.CellEdit.{CellEdit}
use Rattle.tt_model.specs.Meaning.{Makes, first_of, refused_if, unless}
use Rattle.tt_model.specs.System.{acknowledge, bookmark_values, rewrites, adds, bookmark, column_rows, create_index, delete_bookmark, deletes, drop_index, drop_table, in_transaction, meant_by_create_bookmark, meant_by_create_table, open_on, row, subscribe, subscription, system_rows, unsubscribe, reader_at, reader_row}
use Rattle.tt_model.specs.Backups.{set_edit}
use Rattle.tt_model.specs.Sound.{IsSound}
use Rattle.tt_model.proofs.IsolationLemmas.{full-below}
use Rattle.tt_model.proofs.StatementLemmas.{each_none, makes_same, unless-makes}
use Rattle.tt_model.proofs.SystemLines.{not_refused, refuses_none}
use Rattle.tt_model.proofs.HeldInRuns.{among_rows}
use Rattle.tt_model.proofs.OneHolderStatements.{IsAmong}
use Rattle.tt_model.proofs.TableLines.{drop_table-apart, drop_table-elsewhere, not_none, numbered_row}
use Rattle.tt_model.proofs.TableRows.{AreElsewhere, HasTable}
use Rattle.tt_model.proofs.RowsStates.{AreOfSystem, IsOfSystem, StandIn, found-passes}
use Rattle.tt_model.proofs.RowsSystem.{IsTableOf, table-from, user-table}
use Rattle.tt_model.proofs.RowsTables.{HasRowOf}

-- ---- edits of the system's rows

empty_system : IsOfSystem Empty
empty_system table found e = let no : ⊥ = cc in absurd no

full_system : (k : ℕ) (r : Row) → k < 16 → IsOfSystem (FullCell k r)
full_system k r low table found e = let same : k ≡ table = number e in omega (arith, low, same)
  where
    number : FullCell k r ≡ FullCell table found → k ≡ table
    number h = cc

pub adds-of_system : (k : ℕ) (values : List Value) → k < 16 → AreOfSystem (adds k values ∷ [])
adds-of_system k values low = ((empty_system, full_system k (row values) low), tt)

pub deletes-of_system : (k : ℕ) (rows : List PlacedRow) → k < 16 → AreOfSystem (map (deletes k) rows)
deletes-of_system k [] low = tt
deletes-of_system k (r ∷ rows) low = ((full_system k (r.1) low, empty_system), deletes-of_system k rows low)

system-append : (xs ys : List CellEdit) → AreOfSystem xs → AreOfSystem ys → AreOfSystem (xs ++ ys)
system-append [] ys a b = b
system-append (x ∷ xs) ys a b = (a.0, system-append xs ys (a.1) b)

system_or_refused : (o : Option Refusal) (es edits : List CellEdit) → AreOfSystem es → unless o (Makes es) ≡ Makes edits → AreOfSystem edits
system_or_refused o es edits k h = subst AreOfSystem (makes_same es edits ((unless-makes o (Makes es) edits h).1)) k

columns_system : (id : ℕ) (key : List (List ℕ)) (n : ℕ) (columns : List ColumnText) → AreOfSystem (column_rows id key n columns)
columns_system id key n [] = tt
columns_system id key n (c ∷ cs) = ((empty_system, full_system 2 _ (lit< tt)), columns_system id key (suc n) cs)

pub create_table-of_system : (session : ℕ) (s : State) (name : List ℕ) (columns : List ColumnText) (key : List (List ℕ)) (edits : List CellEdit) →
    meant_by_create_table session s name columns key ≡ Makes edits → AreOfSystem edits
unfolding meant_by_create_table
create_table-of_system session s name columns key edits e = system_or_refused _ _ edits ((empty_system, full_system 1 _ (lit< tt)), columns_system _ key 1 columns) e

pub create_index-of_system : (session : ℕ) (s : State) (name : List ℕ) (columns : List (List ℕ)) (unique : Bool) (o : Option Table) (edits : List CellEdit) →
    create_index session s name columns unique o ≡ Makes edits → AreOfSystem edits
create_index-of_system session s name columns unique None edits e = absurd (refuses_none _ _ edits e)
create_index-of_system session s name columns unique (Some t) edits e = system_or_refused _ _ edits ((empty_system, full_system 3 _ (lit< tt)), tt) e

pub create_bookmark-of_system : (session : ℕ) (s : State) (name : List ℕ) (edits : List CellEdit) → meant_by_create_bookmark session s name ≡ Makes edits → AreOfSystem edits
unfolding meant_by_create_bookmark
create_bookmark-of_system session s name edits e = system_or_refused _ _ edits ((empty_system, full_system 4 _ (lit< tt)), tt) e

pub subscribe-of_system : (session : ℕ) (s : State) (name : List ℕ) (o : Option Table) (edits : List CellEdit) → subscribe session s name o ≡ Makes edits → AreOfSystem edits
subscribe-of_system session s name None edits e = absurd (refuses_none _ _ edits e)
subscribe-of_system session s name (Some t) edits e = system_or_refused _ _ edits ((empty_system, full_system 5 _ (lit< tt)), tt) e

pub drop_table-of_system : (session : ℕ) (s : State) (o : Option Table) (edits : List CellEdit) → drop_table session s o ≡ Makes edits → AreOfSystem edits
drop_table-of_system session s None edits e = absurd (refuses_none _ _ edits e)
drop_table-of_system session s (Some t) edits e =
    let five : List PlacedRow = by_text 0 (with_number_at 1 t.id (system_rows 5 s)) in
    let three : List PlacedRow = by_number 0 (with_number_at 1 t.id (system_rows 3 s)) in
    let two : List PlacedRow = by_number 1 (with_number_at 0 t.id (system_rows 2 s)) in
    let one : List PlacedRow = with_number_at 0 t.id (system_rows 1 s) in
    system_or_refused _ (map (deletes 5) five ++ (map (deletes 3) three ++ (map (deletes 2) two ++ map (deletes 1) one))) edits
    (system-append (map (deletes 5) five) (map (deletes 3) three ++ (map (deletes 2) two ++ map (deletes 1) one)) (deletes-of_system 5 five (lit< tt))
    (system-append (map (deletes 3) three) (map (deletes 2) two ++ map (deletes 1) one) (deletes-of_system 3 three (lit< tt))
    (system-append (map (deletes 2) two) (map (deletes 1) one) (deletes-of_system 2 two (lit< tt)) (deletes-of_system 1 one (lit< tt))))) e

pub drop_index-of_system : (session : ℕ) (s : State) (o : Option Index) (edits : List CellEdit) → drop_index session s o ≡ Makes edits → AreOfSystem edits
drop_index-of_system session s None edits e = absurd (refuses_none _ _ edits e)
drop_index-of_system session s (Some i) edits e =
    system_or_refused _ (map (deletes 3) (with_number_at 0 i.id (system_rows 3 s))) edits (deletes-of_system 3 (with_number_at 0 i.id (system_rows 3 s)) (lit< tt)) e

pub delete_bookmark-of_system : (session : ℕ) (s : State) (name : List ℕ) (o : Option PlacedRow) (edits : List CellEdit) → delete_bookmark session s name o ≡ Makes edits → AreOfSystem edits
delete_bookmark-of_system session s name None edits e = absurd (refuses_none _ _ edits e)
delete_bookmark-of_system session s name (Some r) edits e =
    let rows : List PlacedRow = by_number 1 (with_text_at 0 name (system_rows 5 s)) in
    system_or_refused _ (map (deletes 5) rows ++ map (deletes 4) (r ∷ [])) edits
    (system-append (map (deletes 5) rows) (map (deletes 4) (r ∷ [])) (deletes-of_system 5 rows (lit< tt)) (deletes-of_system 4 (r ∷ []) (lit< tt))) e

pub unsubscribe-of_system : (session : ℕ) (s : State) (name : List ℕ) (o : Option Table) (edits : List CellEdit) → unsubscribe session s name o ≡ Makes edits → AreOfSystem edits
unsubscribe-of_system session s name None edits e = absurd (refuses_none _ _ edits e)
unsubscribe-of_system session s name (Some t) edits e =
    system_or_refused _ (map (deletes 5) (subscription name t.id s)) edits (deletes-of_system 5 (subscription name t.id s) (lit< tt)) e

acknowledged-of_system : (session : ℕ) (s : State) (r : Reader) (o : Option PlacedRow) (edits : List CellEdit) → acknowledge session s (reader_at r o) ≡ Makes edits → AreOfSystem edits
acknowledged-of_system session s r None edits e = absurd (refuses_none _ _ edits e)
acknowledged-of_system session s r (Some at) edits e =
    system_or_refused _ (rewrites 4 at (bookmark_values r.bookmark r.place) ∷ []) edits ((full_system 4 (at.1) (lit< tt), full_system 4 _ (lit< tt)), tt) e

pub acknowledge-of_system : (session : ℕ) (s : State) (o : Option Reader) (edits : List CellEdit) → acknowledge session s (reader_row s o) ≡ Makes edits → AreOfSystem edits
acknowledge-of_system session s None edits e = absurd (refuses_none _ _ edits e)
acknowledge-of_system session s (Some r) edits e = acknowledged-of_system session s r (bookmark r.bookmark s) edits e

pub set-of_system : (o : Option PlacedRow) (set : ℕ) (end : Position) → AreOfSystem (set_edit o set end ∷ [])
set-of_system None set end = ((empty_system, full_system 6 _ (lit< tt)), tt)
set-of_system (Some r) set end = ((full_system 6 (r.1) (lit< tt), full_system 6 _ (lit< tt)), tt)

-- ---- tables with rows

-- A table with rows is there.
pub row-has_table : (s : State) (m : ℕ) → StandIn (catalog s) s → 16 ≤ m → HasRowOf s m → HasTable m (cells_of s)
row-has_table s m stand user has =
    let t = user-table s stand m user has in
    let r : IsTableOf s (t.0) = table-from s m (t.0) (t.1) in
    let number : (t.0).id ≡ m = eqb-true ((t.0).id) m (found-passes (λ (x : Table). x.id == m) (t.0) (catalog s).tables (t.1)) in
    let same : number_at 0 (r.place, r.row) ≡ m = ap (λ (x : Table). x.id) r.is ∙ number in
    (r.place, numbered_row 1 0 m (cells_of s (r.place)) r.row r.lies (eq-eqb (number_at 0 (r.place, r.row)) m same))

no_length : (rows : List PlacedRow) (r : PlacedRow) → (length rows == 0) ≡ true → IsAmong r rows → ⊥
no_length [] r e a = absurd a
no_length (x ∷ xs) r e a = let none : suc (length xs) ≡ 0 = eqb-true (suc (length xs)) 0 e in omega (arith, none)

-- The table that is dropped has no rows.
pub drop_table-leaves : (m session : ℕ) (s : State) (o : Option Table) (edits : List CellEdit) → IsSound s → HasRowOf s m → drop_table session s o ≡ Makes edits → AreElsewhere m edits
unfolding rows_of
drop_table-leaves m session s o edits h (inr held) e = drop_table-elsewhere m (held.0) session s o edits h (held.1) (held.2) e
drop_table-leaves m session s None edits h (inl lies) e = absurd (refuses_none _ _ edits e)
drop_table-leaves m session s (Some t) edits h (inl lies) e =
    let tests : List (Option Refusal) = in_transaction session s ∷ open_on t.id s ∷ refused_if (not (length (system_rows t.id s) == 0)) NotEmpty ∷ [] in
    let passed : first_of tests ≡ None = (unless-makes (first_of tests) _ edits e).0 in
    let none : (length (system_rows t.id s) == 0) ≡ true = not_none (length (system_rows t.id s) == 0) (not_refused _ NotEmpty ((((each_none tests passed).1).1).0)) in
    let below : lies.0 < bound s = full-below s (lies.0) h (ap is_full (lies.2)) in
    drop_table-apart m session s t edits
    (false_from_ne_true (t.id == m) (λ y.
    no_length (system_rows t.id s) (lies.0, lies.1) none
    (among_rows t.id (lies.0) (lies.1) (cells_of s) (bound s) 0 (lies.2 ∙ ap (λ (n : ℕ). FullCell n (lies.1)) (sym (eqb-true t.id m y))) (omega arith) (omega (arith, below))))) e

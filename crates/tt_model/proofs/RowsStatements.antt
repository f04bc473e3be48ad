-- The edits of inserts, updates and deletes leave users' rows good in what their session sees.
use Rattle.std.proofs.Common.{◌≡◌, ◌⊎◌, ◌≤◌, ◌<◌, inl, inr, ℕ, Bool, true, false, not, cond, ◌&&◌, nat_eq, List, [], ◌∷◌, length, map, zip, Option, Some, None, unwrap_or, refl, sym, ap, ◌∙◌, subst, arith, true≢false}
use Rattle.std.specs.Prelude.{◌==◌, Ok}
use Rattle.std.specs.List.{list_all}
use Rattle.std.specs.Option.{option_or}
use Rattle.std.proofs.lemmas.Bool.{eqb-true, eq-eqb, or_parts, and_from, both_ways, false_from_ne_true}
use Rattle.tt_value.specs.declared.value.Value.{Value}
use Rattle.tt_value.specs.declared.value.Row.{Row}
use Rattle.tt_value.specs.declared.value.Cell.{Cell}
use Rattle.tt_value.specs.declared.value.Cell.TheVariants.{Empty, Full}
use Rattle.tt_value.specs.declared.refusal.Refusal.{Refusal}
use Rattle.tt_value.specs.declared.refusal.Refusal.TheVariants.{WrongType}
use Rattle.tt_parse.specs.declared.command.ColumnText.{ColumnText}
use Rattle.tt_parse.specs.declared.command.SetItem.{SetItem}
use Rattle.tt_parse.specs.declared.cond.Cond.{Cond}
use Rattle.tt_model.specs.Values.{same_values}
use Rattle.tt_model.specs.Committed.{Cells, changed_by, committed, is_full, put}
use Rattle.tt_model.specs.Live.{view_of}
use Rattle.tt_model.specs.Holders.{Held, has_held, has_null, values_at}
use Rattle.tt_model.specs.Tables.{Catalog, Index, PlacedRow, Table, rows_of, table_with, unique_of}
use Rattle.tt_model.specs.Meaning.{Makes, first_of, refused_if, makes, conflict, cond_refusal, delete_from, delete_row_refusal, full, insert_into, insert_refusal, inserted_row, is_there, key_name, key_there, no_room, null_refusal, range_refusal, row_refusal, rows_seen, rows_taken, set_values, sets_refusal, takes_literal, update_in, update_row_refusal, update_row_tests, update_rows, value_conflict, value_name, value_there, wide_refusal, with_column, with_row, with_values}
use Rattle.tt_model.specs.State.{State, bound, catalog, cells_of, free_place, place_for, trail, view, with_edit, with_entry}
use Rattle.tt_model.specs.declared.definition.CellEdit.{CellEdit}
use Rattle.tt_model.specs.Sound.{IsSound}
use Rattle.tt_model.specs.Step.{number_for}
use Rattle.tt_model.specs.Damage.{has_misfit}
use Rattle.tt_model.specs.GoodRows.{FitsIn}
use Rattle.tt_model.specs.WholeRuns.{Each}
use Rattle.tt_model.proofs.SteadyLemmas.{changed_by-untouched}
use Rattle.tt_model.proofs.AppendLemmas.{changed-own}
use Rattle.tt_model.proofs.NumberLemmas.{next-untouched}
use Rattle.tt_model.proofs.ConflictLemmas.{same_values-self}
use Rattle.tt_model.proofs.SoundLemmas.{untouched-trail}
use Rattle.tt_model.proofs.RowLemmas.{AreApartRows, LieIn, AreRows, flipped, has_place}
use Rattle.tt_model.proofs.StatementLemmas.{HasFirst, each_none, makes-ok, makes_same, ok_same, taken_rows, unless-makes, unless_row-first}
use Rattle.tt_model.proofs.IsolationLemmas.{seen-below}
use Rattle.tt_model.proofs.OneHolderStatements.{IsAmong, each-none, each-one, or_none}
use Rattle.tt_model.proofs.HeldInRuns.{among_map, among_rows}
use Rattle.tt_model.proofs.FitRows.{inserted-fits, updated-fits, updated-key}
use Rattle.tt_model.proofs.SystemLines.{not_refused}
use Rattle.tt_model.proofs.RowsOnce.{IsAlone, IsOnce}
use Rattle.tt_model.proofs.RowsGood.{HasRow, IsUniqueIn, held-row, none_any, row-held}
use Rattle.tt_model.proofs.RowsStates.{AreAllowed}

-- ---- what a session sees

-- Each row of a table in the cells stands in the list, with its place.
abbrev Lists : ℕ → Cells → List PlacedRow → Type 0
Lists id cells rows = (q : ℕ) (row : Row) → cells q ≡ Full id row → IsAmong (q, row) rows

lists-rows_of : (id bound : ℕ) (cells : Cells) → ((q : ℕ) → is_full (cells q) ≡ true → q < bound) → Lists id cells (rows_of id bound cells)
unfolding rows_of
lists-rows_of id bound cells low q row e = let below : q < bound = low q (ap is_full e) in among_rows id q row cells bound 0 e (omega arith) (omega (arith, below))

-- What the transaction of a session's next edits sees is what the session sees.
seen_as : (s : State) (o : Option ℕ) (q : ℕ) → changed_by (number_for o s) s.entries (cells_of s) q ≡ view_of o s.entries (cells_of s) q
seen_as s None q = changed_by-untouched _ q s.entries (cells_of s) (untouched-trail _ q s.entries s.found.entries (next-untouched s.found.next q (trail s)))
seen_as s (Some t) q = refl

abbrev own_seen : ℕ → State → Cells
own_seen session s = changed_by (number_for (s.own session) s) s.entries (cells_of s)

view-below : (session : ℕ) (s : State) (q : ℕ) → IsSound s → is_full (view session s q) ≡ true → q < bound s
view-below session s q h y = seen-below s q (s.own session) (λ t e. (h.owned).live session t e) h y

lists-seen : (session : ℕ) (s : State) (t : Table) → IsSound s → Lists t.id (own_seen session s) (rows_seen session s t)
lists-seen session s t h q row e = lists-rows_of t.id (bound s) (view session s) (λ p y. view-below session s p h y) q row (sym (seen_as s (s.own session) q) ∙ e)

-- ---- a row of a table

full_table : (t : Table) (row found : Row) (table : ℕ) → full t row ≡ Full table found → t.id ≡ table
full_table t row found table e = cc

full_row : (t : Table) (row found : Row) (table : ℕ) → full t row ≡ Full table found → row ≡ found
full_row t row found table e = cc

full-fits : (catalog : Catalog) (t : Table) (row : Row) → table_with t.id catalog ≡ Some t → has_misfit t row ≡ false → FitsIn catalog (full t row)
full-fits catalog t row found fits table r e user =
    (t, ap (λ (n : ℕ). table_with n catalog) (sym (full_table t row r table e)) ∙ found, ap (has_misfit t) (sym (full_row t row r table e)) ∙ fits)

some_same : (t u : Table) → Some t ≡ Some u → t ≡ u
some_same t u h = ap (λ (o : Option Table). unwrap_or o t) h

-- The values that a row of the table has, of a key or unique value that it has.
pub record IsNameOf (t : Table) (catalog : Catalog) (name : Held) (row : Row) : Type 0 where
  pub id : name.table ≡ t.id
  pub values : values_at name.columns row ≡ name.values
  pub rule : (name.columns ≡ t.key) ⊎ ((i : Index) × IsAmong i (unique_of t catalog) × (name.columns ≡ i.columns) × (has_null name.values ≡ false))

name-of : (catalog : Catalog) (t : Table) (name : Held) (row : Row) → table_with t.id catalog ≡ Some t → IsUniqueIn catalog name → has_held name (full t row) ≡ true →
    IsNameOf t catalog name row
name-of catalog t name row found u y =
    let has : HasRow name (full t row) = held-row name (full t row) y in
    let id : t.id ≡ name.table = full_table t row has.row name.table has.is in
    let same : u.table ≡ t = some_same u.table t (sym u.found ∙ (ap (λ (n : ℕ). table_with n catalog) (sym id) ∙ found)) in
    record {
      id = sym id;
      values = ap (values_at name.columns) (full_row t row has.row name.table has.is) ∙ has.values;
      rule = subst (λ (x : Table). (name.columns ≡ x.key) ⊎ ((i : Index) × IsAmong i (unique_of x catalog) × (name.columns ≡ i.columns) × (has_null name.values ≡ false))) same u.rule;
    }

-- Where no row of the list at another place has the values, none of the cells has.
none_listed : (id : ℕ) (cells : Cells) (rows : List PlacedRow) (name : Held) (columns : List ℕ) (values : List Value) (f : PlacedRow → Bool) (q : ℕ) → Lists id cells rows → name.table ≡ id →
    name.columns ≡ columns → name.values ≡ values → ((r : PlacedRow) → IsAmong r rows → (f r && same_values (values_at columns (r.1)) values) ≡ false) →
    ((row : Row) → f (q, row) ≡ true) → has_held name (cells q) ≡ false
none_listed id cells rows name columns values f q lists it cols vals none other = false_from_ne_true (has_held name (cells q)) (λ y.
    let has : HasRow name (cells q) = held-row name (cells q) y in
    let listed : IsAmong (q, has.row) rows = lists q has.row (has.is ∙ ap (λ (n : ℕ). Full n has.row) it) in
    let same : values_at columns has.row ≡ values = ap (λ (cs : List ℕ). values_at cs has.row) (sym cols) ∙ (has.values ∙ vals) in
    both_ways (f (q, has.row) && same_values (values_at columns has.row) values) (none (q, has.row) listed)
    (and_from (f (q, has.row)) (same_values (values_at columns has.row) values) (other has.row)
    (ap (λ (vs : List Value). same_values vs values) same ∙ same_values-self values)))

-- ---- insert

module _ (session : ℕ) (s : State) (h : IsSound s) (t : Table) (found : table_with t.id (catalog s) ≡ Some t) where
  abbrev stored_test : ColumnText → Value → Option Refusal
  stored_test c v = first_of (null_refusal c v ∷ wide_refusal c v ∷ range_refusal c v ∷ [])

  abbrev unique_tests : Row → Index → Option Refusal
  unique_tests row i = first_of (value_conflict (s.own session) (trail s) (value_name i row) ∷ value_there row None (rows_seen session s t) i ∷ [])

  abbrev insert_tests : List Value → Row → List (Option Refusal)
  insert_tests values row =
      refused_if (not (length values == length t.columns)) WrongType
      ∷ refused_if (not (list_all (λ (p : ColumnText × Value). takes_literal ((p.0).kind) (p.1)) (zip t.columns values))) WrongType
      ∷ first_of (map (with_column stored_test) (zip t.columns row.values))
      ∷ row_refusal row
      ∷ conflict (s.own session) (trail s) (key_name t row)
      ∷ key_there t row None (rows_seen session s t)
      ∷ first_of (map (unique_tests row) (unique_of t (catalog s)))
      ∷ no_room 1 s
      ∷ []

  -- No row that the session sees has the key of the new one, nor a unique value of it.
  new_alone : (values : List Value) (p : ℕ) (name : Held) → insert_refusal session s t values (inserted_row t values) ≡ None → IsUniqueIn (catalog s) name →
      IsAlone name p (full t (inserted_row t values)) (own_seen session s)
  new_alone values p name passed u y q other =
      let row : Row = inserted_row t values in
      let rows : List PlacedRow = rows_seen session s t in
      let n : IsNameOf t (catalog s) name row = name-of (catalog s) t name row found u y in
      let tests = each_none (insert_tests values row) passed in
      elim n.rule [
        | inl key ↦
            none_listed t.id (own_seen session s) rows name t.key (values_at t.key row) (λ r. true) q (lists-seen session s t h) n.id key
            (sym n.values ∙ ap (λ (cs : List ℕ). values_at cs row) key)
            (none_any (λ (r : PlacedRow). same_values (values_at t.key (r.1)) (values_at t.key row)) rows (not_refused _ _ ((((((tests.1).1).1).1).1).0))) (λ r. refl)
        | inr index ↦
            let i : Index = index.0 in
            let same : name.values ≡ values_at i.columns row = sym n.values ∙ ap (λ (cs : List ℕ). values_at cs row) (index.2) in
            let free : unique_tests row i ≡ None
            = each-one (λ (x : Index). unique_tests row x ≡ None) i (unique_of t (catalog s)) (each-none (unique_tests row) (unique_of t (catalog s)) (((((((tests.1).1).1).1).1).1).0)) (index.1) in
            let there : (not (has_null (values_at i.columns row)) && is_there i.columns (values_at i.columns row) None rows) ≡ false
            = not_refused _ _ (((each_none (value_conflict (s.own session) (trail s) (value_name i row) ∷ value_there row None rows i ∷ []) free).1).0) in
            let full_values : not (has_null (values_at i.columns row)) ≡ true = ap not (ap has_null (sym same) ∙ index.3) in
            none_listed t.id (own_seen session s) rows name i.columns (values_at i.columns row) (λ r. true) q (lists-seen session s t h) n.id (index.2) same
            (none_any (λ (r : PlacedRow). same_values (values_at i.columns (r.1)) (values_at i.columns row)) rows
            (ap (λ b. b && is_there i.columns (values_at i.columns row) None rows) (sym full_values) ∙ there)) (λ r. refl)
      ]

  insert_allowed : (values : List Value) (edits : List CellEdit) → insert_into session s values (Some t) ≡ Makes edits → AreAllowed (catalog s) (number_for (s.own session) s) edits s
  insert_allowed values edits m =
      let row : Row = inserted_row t values in
      let parts = unless-makes (insert_refusal session s t values row) (Makes (record { place = None; before = Empty; after = full t row } ∷ [])) edits m in
      let tests = each_none (insert_tests values row) (parts.0) in
      subst (λ (es : List CellEdit). AreAllowed (catalog s) (number_for (s.own session) s) es s) (makes_same (record { place = None; before = Empty; after = full t row } ∷ []) edits (parts.1)) (
        (
          full-fits (catalog s) t row found (inserted-fits t values (not_refused _ _ (tests.0)) (not_refused _ _ ((tests.1).0)) (((tests.1).1).0)),
          λ name u one. new_alone values (free_place s) name (parts.0) u,
        ),
        tt,
      )

-- ---- delete

deletes_allowed : (catalog : Catalog) (n : ℕ) (t : Table) (rows : List PlacedRow) (s : State) →
    AreAllowed catalog n (map (λ (r : PlacedRow). record { place = Some (r.0); before = full t (r.1); after = Empty }) rows) s
deletes_allowed catalog n t [] s = tt
deletes_allowed catalog n t (r ∷ rows) s = (
  ((λ table row e user. let no : ⊥ = cc in absurd no), (λ name u one y. absurd (true≢false (sym y)))),
  deletes_allowed catalog n t rows (with_edit n (record { place = Some (r.0); before = full t (r.1); after = Empty }) s),
)

pub delete_allowed : (session : ℕ) (s : State) (cond : Option Cond) (o : Option Table) (edits : List CellEdit) → delete_from session s cond o ≡ Makes edits →
    AreAllowed (catalog s) (number_for (s.own session) s) edits s
delete_allowed session s cond None edits m = let no : ⊥ = cc in absurd no
delete_allowed session s cond (Some t) edits m =
    let rows : List PlacedRow = rows_taken cond t (rows_seen session s t) in
    subst (λ (es : List CellEdit). AreAllowed (catalog s) (number_for (s.own session) s) es s)
    (makes_same _ edits ((unless-makes (first_of (cond_refusal cond t ∷ map (delete_row_refusal session s t) rows)) _ edits m).1))
    (deletes_allowed (catalog s) (number_for (s.own session) s) t rows s)

-- ---- update

abbrev seen_in : ℕ → State → Cells
seen_in n s = changed_by n s.entries (cells_of s)

pub seen-edit : (n : ℕ) (e : CellEdit) (s : State) → seen_in n (with_edit n e s) ≡ put (place_for e.place s) e.after (seen_in n s)
unfolding with_entry committed
seen-edit n e s = changed-own n (place_for e.place s) e.before e.after (seen_in n s)

lie-put : (table p : ℕ) (c : Cell) (cells : Cells) (rows : List PlacedRow) → has_place p rows ≡ false → LieIn table cells rows → LieIn table (put p c cells) rows
lie-put table p c cells [] n l = tt
lie-put table p c cells (r ∷ rows) n l =
    let parts : (nat_eq p (r.0) ≡ false) × (has_place p rows ≡ false) = or_parts (nat_eq p (r.0)) (has_place p rows) n in (
      ap (λ b. cond b c (cells (r.0))) (flipped p (r.0) (parts.0)) ∙ l.0,
      lie-put table p c cells rows (parts.1) (l.1),
    )

-- The list with the row replaced is that of the cells with the row replaced.
lists-put : (t : Table) (p : ℕ) (row old : Row) (cells : Cells) (all : List PlacedRow) → cells p ≡ full t old → Lists t.id cells all → Lists t.id (put p (full t row) cells) (with_row (p, row) all)
lists-put t p row old cells all there lists q found e = by (nat_eq q p) refl e
  where
    by : (c : Bool) → nat_eq q p ≡ c → cond c (full t row) (cells q) ≡ Full t.id found → IsAmong (q, found) (with_row (p, row) all)
    by true y k =
        let at : q ≡ p = eqb-true q p y in
        let listed : IsAmong (p, old) all = lists p old there in
        subst (λ (x : PlacedRow). IsAmong x (with_row (p, row) all)) (ap (λ b. cond b (p, row) (p, old)) (eq-eqb p p refl) ∙ (ap (λ (n : ℕ). (n, row)) (sym at) ∙ ap (λ (r : Row). (q, r)) (full_row t row found t.id k)))
        (among_map (λ (x : PlacedRow). cond (nat_eq (x.0) p) (p, row) x) (p, old) all listed)
    by false y k =
        subst (λ (x : PlacedRow). IsAmong x (with_row (p, row) all)) (ap (λ b. cond b (p, row) (q, found)) y) (among_map (λ (x : PlacedRow). cond (nat_eq (x.0) p) (p, row) x) (q, found) all (lists q found k))

module _ (session : ℕ) (s : State) (t : Table) (found : table_with t.id (catalog s) ≡ Some t) (sets : List SetItem) (tested : sets_refusal t [] sets ≡ None) (n : ℕ) where
  abbrev new_row : PlacedRow → Row
  new_row r = record { values = with_values (set_values t (r.1) sets) ((r.1).values) }

  -- The replaced row keeps its key, and no other row has its unique values.
  replaced_alone : (all : List PlacedRow) (r : PlacedRow) (view : Cells) (name : Held) → Lists t.id view all → view (r.0) ≡ full t (r.1) →
      first_of (map (value_there (new_row r) (Some (r.0)) all) (unique_of t (catalog s))) ≡ None → IsUniqueIn (catalog s) name → IsOnce name view →
      IsAlone name (r.0) (full t (new_row r)) view
  replaced_alone all r view name lists lies free u one y q other =
      let row : Row = new_row r in
      let k : IsNameOf t (catalog s) name row = name-of (catalog s) t name row found u y in
      elim k.rule [
        | inl key ↦
            let kept : values_at name.columns (r.1) ≡ name.values
            = ap (λ (cs : List ℕ). values_at cs (r.1)) key ∙ (sym (updated-key t (r.1) sets tested) ∙ (ap (λ (cs : List ℕ). values_at cs row) (sym key) ∙ k.values)) in
            let here : has_held name (view (r.0)) ≡ true = ap (has_held name) (lies ∙ ap (λ (m : ℕ). Full m (r.1)) (sym k.id)) ∙ row-held name (r.1) kept in
            false_from_ne_true (has_held name (view q)) (λ z. both_ways (nat_eq q (r.0)) other (eq-eqb q (r.0) (one q (r.0) z here)))
        | inr index ↦
            let i : Index = index.0 in
            let same : name.values ≡ values_at i.columns row = sym k.values ∙ ap (λ (cs : List ℕ). values_at cs row) (index.2) in
            let there : (not (has_null (values_at i.columns row)) && is_there i.columns (values_at i.columns row) (Some (r.0)) all) ≡ false
            = not_refused _ _ (each-one (λ (x : Index). value_there row (Some (r.0)) all x ≡ None) i (unique_of t (catalog s)) (each-none (value_there row (Some (r.0)) all) (unique_of t (catalog s)) free) (index.1)) in
            let full_values : not (has_null (values_at i.columns row)) ≡ true = ap not (ap has_null (sym same) ∙ index.3) in
            none_listed t.id view all name i.columns (values_at i.columns row) (λ (x : PlacedRow). not (nat_eq (x.0) (r.0))) q lists k.id (index.2) same
            (none_any (λ (x : PlacedRow). not (nat_eq (x.0) (r.0)) && same_values (values_at i.columns (x.1)) (values_at i.columns row)) all
            (ap (λ b. b && is_there i.columns (values_at i.columns row) (Some (r.0)) all) (sym full_values) ∙ there)) (λ x. ap not other)
      ]

  abbrev AreFit : List PlacedRow → Type 0
  AreFit rows = Each (λ (r : PlacedRow). has_misfit t (r.1) ≡ false) rows

  updates_allowed : (all rest : List PlacedRow) (edits : List CellEdit) (now : State) → update_rows session s t sets all rest ≡ Ok edits → Lists t.id (seen_in n now) all →
      LieIn t.id (seen_in n now) rest → AreApartRows rest → AreFit rest → AreAllowed (catalog s) n edits now
  updates_allowed all [] edits now m lists lie apart fit = subst (λ (es : List CellEdit). AreAllowed (catalog s) n es now) (ok_same [] edits m) tt
  updates_allowed all (r ∷ rest) edits now m lists lie apart fit =
      let new : List (ℕ × Value) = set_values t (r.1) sets in
      let row : Row = record { values = with_values new ((r.1).values) } in
      let edit : CellEdit = record { place = Some (r.0); before = full t (r.1); after = full t row } in
      let first : (update_row_refusal session s t (record { before = r; after = row; values = new; seen = all }) ≡ None) × HasFirst edit (update_rows session s t sets (with_row (r.0, row) all) rest) edits
      = unless_row-first (update_row_refusal session s t (record { before = r; after = row; values = new; seen = all })) edit (update_rows session s t sets (with_row (r.0, row) all) rest) edits m in
      let tests = each_none (update_row_tests session s t (record { before = r; after = row; values = new; seen = all })) (first.0) in
      let after : seen_in n (with_edit n edit now) ≡ put (r.0) (full t row) (seen_in n now) = seen-edit n edit now in
      let others : AreAllowed (catalog s) n ((first.1).others) (with_edit n edit now)
      = updates_allowed (with_row (r.0, row) all) rest ((first.1).others) (with_edit n edit now) ((first.1).made)
      (subst (λ (c : Cells). Lists t.id c (with_row (r.0, row) all)) (sym after) (lists-put t (r.0) row (r.1) (seen_in n now) all (lie.0) lists))
      (subst (λ (c : Cells). LieIn t.id c rest) (sym after) (lie-put t.id (r.0) (full t row) (seen_in n now) rest (apart.0) (lie.1))) (apart.1) (fit.1) in
      subst (λ (es : List CellEdit). AreAllowed (catalog s) n es now) ((first.1).whole) (
        (
          full-fits (catalog s) t row found (updated-fits t (r.1) sets (fit.0) tested ((tests.1).0) (((tests.1).1).0)),
          λ name u one. replaced_alone all r (seen_in n now) name lists (lie.0) (((((((tests.1).1).1).1).1).1).0) u one,
        ),
        others,
      )

-- ---- statements

pub insert-allowed : (session : ℕ) (s : State) (values : List Value) (o : Option Table) (edits : List CellEdit) → IsSound s → ((t : Table) → o ≡ Some t → table_with t.id (catalog s) ≡ Some t) →
    insert_into session s values o ≡ Makes edits → AreAllowed (catalog s) (number_for (s.own session) s) edits s
insert-allowed session s values None edits h ids m = let no : ⊥ = cc in absurd no
insert-allowed session s values (Some t) edits h ids m = insert_allowed session s h t (ids t refl) values edits m

each_fit : (catalog : Catalog) (t : Table) (cells : Cells) (rows : List PlacedRow) → 16 ≤ t.id → table_with t.id catalog ≡ Some t → ((q : ℕ) → FitsIn catalog (cells q)) → LieIn t.id cells rows →
    Each (λ (r : PlacedRow). has_misfit t (r.1) ≡ false) rows
each_fit catalog t cells [] user found fits lie = tt
each_fit catalog t cells (r ∷ rows) user found fits lie =
    let fit = fits (r.0) t.id (r.1) (lie.0) user in
    (ap (λ (x : Table). has_misfit x (r.1)) (some_same t (fit.0) (sym found ∙ fit.1)) ∙ fit.2, each_fit catalog t cells rows user found fits (lie.1))

lie-seen : (table : ℕ) (c d : Cells) (rows : List PlacedRow) → ((q : ℕ) → d q ≡ c q) → LieIn table c rows → LieIn table d rows
lie-seen table c d [] same l = tt
lie-seen table c d (r ∷ rows) same l = (same (r.0) ∙ l.0, lie-seen table c d rows same (l.1))

pub update-allowed : (session : ℕ) (s : State) (sets : List SetItem) (cond : Option Cond) (o : Option Table) (edits : List CellEdit) → IsSound s →
    ((t : Table) → o ≡ Some t → (table_with t.id (catalog s) ≡ Some t) × (16 ≤ t.id)) → ((q : ℕ) → FitsIn (catalog s) (seen_in (number_for (s.own session) s) s q)) →
    update_in session s sets cond o ≡ Makes edits → AreAllowed (catalog s) (number_for (s.own session) s) edits s
update-allowed session s sets cond None edits h ids fits m = let no : ⊥ = cc in absurd no
update-allowed session s sets cond (Some t) edits h ids fits m =
    let n : ℕ = number_for (s.own session) s in
    let seen : List PlacedRow = rows_seen session s t in
    let taken : List PlacedRow = rows_taken cond t seen in
    let found : (table_with t.id (catalog s) ≡ Some t) × (16 ≤ t.id) = ids t refl in
    let parts : (option_or (sets_refusal t [] sets) (cond_refusal cond t) ≡ None) × (makes (update_rows session s t sets seen taken) ≡ Makes edits)
    = unless-makes (option_or (sets_refusal t [] sets) (cond_refusal cond t)) (makes (update_rows session s t sets seen taken)) edits m in
    let tested : (sets_refusal t [] sets ≡ None) × (cond_refusal cond t ≡ None) = or_none (sets_refusal t [] sets) (cond_refusal cond t) (parts.0) in
    let rows : AreRows t.id (view session s) taken = taken_rows session s cond t in
    let lie : LieIn t.id (seen_in n s) taken = lie-seen t.id (view session s) (seen_in n s) taken (seen_as s (s.own session)) rows.lie in
    updates_allowed session s t (found.0) sets (tested.0) n seen taken edits s (makes-ok (update_rows session s t sets seen taken) edits (parts.1)) (lists-seen session s t h) lie rows.apart
    (each_fit (catalog s) t (seen_in n s) taken (found.1) (found.0) fits lie)

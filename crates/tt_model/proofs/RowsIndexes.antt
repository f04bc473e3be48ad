-- A line that creates an index leaves users' rows good: the values of a unique one stand once in its table.
use Rattle.std.proofs.Common.{◌≡◌, ◌⊎◌, ◌≤◌, ◌<◌, ◌+◌, ◌-◌, ◌*◌, inl, inr, ℕ, suc, Bool, true, false, not, cond, ◌&&◌, nat_eq, nat_lt, List, [], ◌∷◌, ◌++◌, length, map, position, Option, Some, None, unwrap_or, if◌then◌else◌, refl, sym, ap, ◌∙◌, subst, arith, lit<, true≢false}
use Rattle.std.specs.Prelude.{◌==◌, is_some, nat_le, bytes_eq}
use Rattle.std.specs.List.{list_any, list_all, position_or_len}
use Rattle.std.proofs.lemmas.Bool.{cases_Bool, eqb-true, eq-eqb, or_parts, and_parts, both_ways, false_from_ne_true, ltb-false, ltb-true}
use Rattle.tt_value.specs.declared.value.Value.{Value}
use Rattle.tt_value.specs.declared.value.Value.TheVariants.{Text}
use Rattle.tt_value.specs.declared.value.Row.{Row}
use Rattle.tt_value.specs.declared.value.Cell.{Cell}
use Rattle.tt_value.specs.declared.value.Cell.TheVariants.{Empty, Full}
use Rattle.tt_value.specs.declared.refusal.Refusal.{Refusal}
use Rattle.tt_value.specs.declared.refusal.Refusal.TheVariants.{DuplicateKey, NameThere, NoColumn, TooMany}
use Rattle.tt_record.specs.declared.entry.Entry.TheVariants.{Commit}
use Rattle.tt_model.specs.Values.{same_values}
use Rattle.tt_model.specs.Committed.{Cells, changed_by, is_full}
use Rattle.tt_model.specs.Live.{in_use, is_live, live, touched}
use Rattle.tt_model.specs.Holders.{Held, HasOneHolder, has_held, has_null, is_held_by, values_at}
use Rattle.tt_model.specs.Tables.{Index, PlacedRow, Table, column_named, index_named, index_of, indexes_of, read_positions, row_in, rows_of, whole_number_of, with_number_at}
use Rattle.tt_model.specs.State.{State, bound, catalog, cells_of, free_place, next, trail, with_edits, with_entry}
use Rattle.tt_model.specs.declared.definition.CellEdit.{CellEdit}
use Rattle.tt_model.specs.Meaning.{Makes, first_of, no_room, refused_if}
use Rattle.tt_model.specs.System.{adds, columns_in, create_index, create_index_edits, flag, has_twice, has_value_twice, in_transaction, least_unused, number, open_on, position_digits, positions_text, row, system_rows}
use Rattle.tt_model.specs.Sound.{IsSound, whole_table}
use Rattle.tt_model.specs.Step.{system_done}
use Rattle.tt_model.specs.WholeRuns.{Each}
use Rattle.tt_model.proofs.AppendLemmas.{cells-Commit}
use Rattle.tt_model.proofs.BookmarkLemmas.{cells_forced}
use Rattle.tt_model.proofs.BookmarkLines.{may_new}
use Rattle.tt_model.proofs.BoundLemmas.{LieBelow, rows-either}
use Rattle.tt_model.proofs.ConflictLemmas.{same_values-self}
use Rattle.tt_model.proofs.EditLemmas.{AreNew, free-not_used}
use Rattle.tt_model.proofs.HeldInRuns.{among_rows, index-among, whole-held}
use Rattle.tt_model.proofs.IsolationLemmas.{full-below}
use Rattle.tt_model.proofs.LineLemmas.{AreSome}
use Rattle.tt_model.proofs.CatalogLemmas.{LeaveUserTables}
use Rattle.tt_model.proofs.NumberLemmas.{next-untouched}
use Rattle.tt_model.proofs.OneHolderStatements.{IsAmong}
use Rattle.tt_model.proofs.SoundLemmas.{untouched-trail}
use Rattle.tt_model.proofs.SteadyLemmas.{changed_by-untouched}
use Rattle.tt_model.proofs.StatementLemmas.{each_none, makes_same, unless-makes}
use Rattle.tt_model.proofs.SystemLines.{not_refused, refuses_none}
use Rattle.tt_model.proofs.TableLines.{not_none, open-other}
use Rattle.tt_model.proofs.TableRows.{kept_row}
use Rattle.tt_model.proofs.RowsEdits.{adds-of_system}
use Rattle.tt_model.proofs.RowsOnce.{IsOnce, StandsOnce, left-held}
use Rattle.tt_model.proofs.RowsGood.{HasRow, held-row, none_any}
use Rattle.tt_model.proofs.RowsStatements.{seen-edit}
use Rattle.tt_model.proofs.RowsSystem.{IsIndexOf, IsNewOnce, KeepsTable, index-from, stand-system}
use Rattle.tt_model.proofs.RowsViews.{rows-alike}
use Rattle.tt_model.proofs.RowsWorks.{IsReady, Leaves, sound-done}

-- ---- positions as a text

read-step : (n b : ℕ) (rest : List ℕ) → (b == 44) ≡ false → read_positions n (b ∷ rest) ≡ read_positions (n * 10 + (b - 48)) rest
read-step n b rest e = rw (e, read_positions) refl

no_comma : (n c : ℕ) → 38 ≤ n → 10 ≤ n + c → 45 ≤ n + c → ((n + c) == 44) ≡ false
no_comma n c l m k = false_from_ne_true ((n + c) == 44) (λ y. let same : n + c ≡ 44 = eqb-true (n + c) 44 y in absurd (omega (arith, same, k)))

digits-read : (c : ℕ) (rest : List ℕ) → c < 16 → read_positions 0 (position_digits (suc c) ++ rest) ≡ read_positions (suc c) rest
digits-read c rest l = by (nat_lt (suc c) 10) refl
  where
    by : (b : Bool) → nat_lt (suc c) 10 ≡ b → read_positions 0 ((if b then (48 + suc c) ∷ [] else 49 ∷ (38 + suc c) ∷ []) ++ rest) ≡ read_positions (suc c) rest
    by true e =
        let sum : 0 * 10 + ((48 + suc c) - 48) ≡ suc c = omega arith in
        read-step 0 (48 + suc c) rest (no_comma 48 (suc c) (omega arith) (omega arith) (omega arith)) ∙ ap (λ (n : ℕ). read_positions n rest) sum
    by false e =
        let more : 10 ≤ suc c = ltb-false (suc c) 10 e in
        let sum : (0 * 10 + (49 - 48)) * 10 + ((38 + suc c) - 48) ≡ suc c = omega (arith, more) in
        read-step 0 49 ((38 + suc c) ∷ rest) refl
        ∙ (read-step (0 * 10 + (49 - 48)) (38 + suc c) rest (no_comma 38 (suc c) (omega arith) (omega arith) (omega (arith, more))) ∙ ap (λ (n : ℕ). read_positions n rest) sum)

append-none : (xs : List ℕ) → xs ++ [] ≡ xs
append-none [] = refl
append-none (x ∷ xs) = ap (λ (ys : List ℕ). x ∷ ys) (append-none xs)

-- Positions are read as they were written.
positions-read : (cs : List ℕ) → Each (λ c. c < 16) cs → 1 ≤ length cs → read_positions 0 (positions_text cs) ≡ cs
positions-read [] l n = absurd (omega (arith, n))
positions-read (c ∷ []) l n =
    ap (read_positions 0) (sym (append-none (position_digits (suc c)))) ∙ (digits-read c [] (l.0) ∙ (let less : suc c - 1 ≡ c = omega arith in ap (λ (x : ℕ). x ∷ []) less))
positions-read (c ∷ d ∷ cs) l n =
    let less : suc c - 1 ≡ c = omega arith in
    digits-read c (44 ∷ positions_text (d ∷ cs)) (l.0)
    ∙ (ap (λ (x : ℕ). x ∷ read_positions 0 (positions_text (d ∷ cs))) less ∙ ap (λ (ys : List ℕ). c ∷ ys) (positions-read (d ∷ cs) (l.1) (omega arith)))

-- ---- the columns of an index

below_length : {X : Type 0} (p : X → Bool) (xs : List X) (n : ℕ) → is_some (position p xs) ≡ true → length xs ≤ n → unwrap_or (position p xs) 0 < n
below_length p xs n y l = by (nat_lt (position_or_len p xs) (length xs)) refl y
  where
    by : (b : Bool) → nat_lt (position_or_len p xs) (length xs) ≡ b → is_some (cond b (Some (position_or_len p xs)) None) ≡ true →
        unwrap_or (cond b (Some (position_or_len p xs)) None) 0 < n
    by true e k = let less : position_or_len p xs < length xs = ltb-true (position_or_len p xs) (length xs) e in omega (arith, less, l)
    by false e k = absurd (true≢false (sym k))

columns_below : (t : Table) (columns : List (List ℕ)) → list_all (λ c. is_some (column_named t c)) columns ≡ true → length t.columns ≤ 16 → Each (λ c. c < 16) (columns_in t columns)
columns_below t [] y l = tt
columns_below t (c ∷ cs) y l =
    let parts : (is_some (column_named t c) ≡ true) × (list_all (λ x. is_some (column_named t x)) cs ≡ true) = and_parts (is_some (column_named t c)) (list_all (λ x. is_some (column_named t x)) cs) y in
    (below_length (λ x. bytes_eq x.name c) t.columns 16 (parts.0) l, columns_below t cs (parts.1) l)

-- ---- values that stand once

once_in : (columns : List ℕ) (rows : List PlacedRow) → has_value_twice columns rows ≡ false → (r q : PlacedRow) → IsAmong r rows → IsAmong q rows →
    has_null (values_at columns (r.1)) ≡ false → values_at columns (q.1) ≡ values_at columns (r.1) → r ≡ q
once_in columns [] h r q a b n e = absurd a
once_in columns (x ∷ xs) h r q a b n e = by (λ k s t. once_in columns xs k r q s t n e) a b
  where
    parts : ((not (has_null (values_at columns (x.1))) && list_any (λ (y : PlacedRow). same_values (values_at columns (y.1)) (values_at columns (x.1))) xs) ≡ false) × (has_value_twice columns xs ≡ false)
    parts = or_parts (not (has_null (values_at columns (x.1))) && list_any (λ (y : PlacedRow). same_values (values_at columns (y.1)) (values_at columns (x.1))) xs) (has_value_twice columns xs) h

    -- No later row has the values of the first.
    not_later : (y : PlacedRow) → IsAmong y xs → has_null (values_at columns (x.1)) ≡ false → values_at columns (y.1) ≡ values_at columns (x.1) → ⊥
    not_later y later null same =
        let none : list_any (λ (z : PlacedRow). same_values (values_at columns (z.1)) (values_at columns (x.1))) xs ≡ false
        = ap (λ b. not b && list_any (λ (z : PlacedRow). same_values (values_at columns (z.1)) (values_at columns (x.1))) xs) (sym null) ∙ parts.0 in
        both_ways (same_values (values_at columns (y.1)) (values_at columns (x.1))) (none_any (λ (z : PlacedRow). same_values (values_at columns (z.1)) (values_at columns (x.1))) xs none y later)
        (ap (λ (vs : List Value). same_values vs (values_at columns (x.1))) same ∙ same_values-self (values_at columns (x.1)))

    by : (has_value_twice columns xs ≡ false → IsAmong r xs → IsAmong q xs → r ≡ q) → (x ≡ r) ⊎ IsAmong r xs → (x ≡ q) ⊎ IsAmong q xs → r ≡ q
    by ih (inl s) (inl t) = sym s ∙ t
    by ih (inl s) (inr t) = absurd (not_later q t (ap (λ (z : PlacedRow). has_null (values_at columns (z.1))) s ∙ n) (e ∙ ap (λ (z : PlacedRow). values_at columns (z.1)) (sym s)))
    by ih (inr s) (inl t) =
        let same : values_at columns (x.1) ≡ values_at columns (r.1) = ap (λ (z : PlacedRow). values_at columns (z.1)) t ∙ e in
        absurd (not_later r s (ap has_null same ∙ n) (sym same))
    by ih (inr s) (inr t) = ih (parts.1) s t

-- ---- one row that is added

not_full : (c : Cell) → is_full c ≡ false → c ≡ Empty
not_full Empty h = refl
not_full (Full table found) h = absurd (true≢false h)

free-empty : (s : State) → IsSound s → cells_of s (free_place s) ≡ Empty
unfolding in_use
free-empty s h =
    not_full (cells_of s (free_place s))
    ((or_parts (is_full (cells_of s (free_place s))) (list_any (λ t. touched t (free_place s) (trail s)) (live (trail s))) (free-not_used s h.entries)).0)

cells-added : (table : ℕ) (values : List Value) (s : State) (q : ℕ) →
    cells_of (system_done (adds table values ∷ []) s) q ≡ cond (nat_eq q (free_place s)) (Full table (row values)) (cells_of s q)
cells-added table values s q =
    let n : ℕ = next s in
    let edit : CellEdit = adds table values in
    let made : State = with_edits n (edit ∷ []) s in
    ap (λ (c : Cells). c q) (cells_forced s.settings.durable_commits (with_entry (Commit n) made) ∙ (cells-Commit n made ∙ seen-edit n edit s))
    ∙ ap (λ (c : Cell). cond (nat_eq q (free_place s)) (Full table (row values)) c)
    (changed_by-untouched n q s.entries (cells_of s) (untouched-trail n q s.entries s.found.entries (next-untouched s.found.next q (trail s))))

-- The rows of other tables are the same.
others-same : (table k : ℕ) (values : List Value) (s : State) → IsSound s → nat_eq k table ≡ false → (q : ℕ) →
    row_in k (cells_of (system_done (adds table values ∷ []) s) q) ≡ row_in k (cells_of s q)
others-same table k values s h n q = ap (row_in k) (cells-added table values s q) ∙ by (nat_eq q (free_place s)) refl
  where
    by : (c : Bool) → nat_eq q (free_place s) ≡ c → row_in k (cond c (Full table (row values)) (cells_of s q)) ≡ row_in k (cells_of s q)
    by true e =
        ap (λ b. if b then Some (row values) else None) n
        ∙ sym (ap (row_in k) (ap (cells_of s) (eqb-true q (free_place s) e) ∙ free-empty s h))
    by false e = refl

-- ---- the index that is created

module _ (session : ℕ) (s : State) (r : IsReady s) (t : Table) (name : List ℕ) (columns : List (List ℕ)) (unique : Bool)
    (passed : open_on t.id s ≡ None) (there : list_all (λ c. is_some (column_named t c)) columns ≡ true)
    (once : (unique && has_value_twice (columns_in t columns) (system_rows t.id s)) ≡ false) (few : length t.columns ≤ 16) (least : 1 ≤ length columns) (id : ℕ) where
  abbrev new_values : List Value
  new_values = number id ∷ number t.id ∷ flag unique ∷ Text name ∷ Text (positions_text (columns_in t columns)) ∷ []

  abbrev new_edits : List CellEdit
  new_edits = adds 3 new_values ∷ []

  abbrev new_index : ℕ → Index
  new_index q = index_of (q, row new_values)

  nobody : (u : ℕ) → is_live u s.entries ≡ true → is_held_by (whole_table t.id) s.entries u ≡ true → ⊥
  nobody u l y = both_ways (t.id == t.id) (open-other t.id t.id u s r.sound passed l y) (eq-eqb t.id t.id refl)

  read_columns : (q : ℕ) → (new_index q).columns ≡ columns_in t columns
  read_columns q = positions-read (columns_in t columns) (columns_below t columns there few) (longer columns least)
    where
      longer : (cs : List (List ℕ)) → 1 ≤ length cs → 1 ≤ length (map (λ c. unwrap_or (column_named t c) 0) cs)
      longer [] l = absurd (omega (arith, l))
      longer (c ∷ cs) l = omega arith

  settled_once : (values : List Value) → unique ≡ true → has_null values ≡ false → IsOnce (record { table = t.id; columns = columns_in t columns; values = values }) (cells_of s)
  unfolding rows_of
  settled_once values is null p q hp hq =
      let held : Held = record { table = t.id; columns = columns_in t columns; values = values } in
      let a : HasRow held (cells_of s p) = held-row held (cells_of s p) hp in
      let b : HasRow held (cells_of s q) = held-row held (cells_of s q) hq in
      let below_p : p < bound s = full-below s p r.sound (ap is_full a.is) in
      let below_q : q < bound s = full-below s q r.sound (ap is_full b.is) in
      let same : (p, a.row) ≡ (q, b.row)
      = once_in (columns_in t columns) (system_rows t.id s)
      (ap (λ c. c && has_value_twice (columns_in t columns) (system_rows t.id s)) (sym is) ∙ once) (p, a.row) (q, b.row)
      (among_rows t.id p a.row (cells_of s) (bound s) 0 a.is (omega arith) (omega (arith, below_p)))
      (among_rows t.id q b.row (cells_of s) (bound s) 0 b.is (omega arith) (omega (arith, below_q)))
      (ap has_null a.values ∙ null) (b.values ∙ sym a.values) in
      ap (λ (x : PlacedRow). x.0) same

  -- What a live transaction sees has the committed rows of the table.
  seen_same : (held : Held) (u q : ℕ) → held.table ≡ t.id → is_live u s.entries ≡ true → has_held held (changed_by u s.entries (cells_of s) q) ≡ true → has_held held (cells_of s q) ≡ true
  seen_same held u q of_table l y = elim (cases_Bool (touched u q s.entries)) [
    | inl k ↦ absurd (nobody u l (ap (λ (n : ℕ). is_held_by (whole_table n) s.entries u) (sym of_table) ∙ whole-held held u s.entries (left-held held u q s.entries (cells_of s) k y)))
    | inr n ↦ ap (has_held held) (sym (changed_by-untouched u q s.entries (cells_of s) n)) ∙ y
  ]

  is_unique : (b : Bool) → (whole_number_of (flag b) == 1) ≡ true → b ≡ true
  is_unique true e = refl
  is_unique false e = absurd (true≢false (sym e))

  new_once : (q : ℕ) → IsNewOnce s (new_index q)
  new_once q is values null =
      let held : Held = record { table = t.id; columns = columns_in t columns; values = values } in
      let settled : IsOnce held (cells_of s) = settled_once values (is_unique unique is) null in
      let both : StandsOnce held s.found.cells s.entries × HasOneHolder held s.entries
      = (
        record { settled = settled; seen = λ u l p q hp hq. settled p q (seen_same held u p refl l hp) (seen_same held u q refl l hq) },
        λ u v lu lv hu hv. absurd (nobody u lu (whole-held held u s.entries hu)),
      ) in
      subst (λ (cs : List ℕ). StandsOnce (record { table = t.id; columns = cs; values = values }) s.found.cells s.entries × HasOneHolder (record { table = t.id; columns = cs; values = values }) s.entries)
      (sym (read_columns q)) both

  keeps : IsSound (system_done new_edits s) → (m : ℕ) → KeepsTable m s (system_done new_edits s)
  keeps k m =
      let after : State = system_done new_edits s in
      let n : ℕ = bound s + bound after in
      let below : LieBelow (bound s) (cells_of s) = λ q y. full-below s q r.sound y in
      let below_after : LieBelow (bound after) (cells_of after) = λ q y. full-below after q k y in
      record {
        tables = λ q. ap (kept_row 0 m) (others-same 3 1 new_values s r.sound refl q);
        columns = ap (with_number_at 0 m)
            (rows-either 2 (bound after) n (cells_of after) below_after (λ q y. let low : q < bound after = below_after q y in omega (arith, low))
            ∙ (rows-alike 2 n (cells_of s) (cells_of after) (others-same 3 2 new_values s r.sound refl)
            ∙ rows-either 2 n (bound s) (cells_of s) (λ q y. let low : q < bound s = below q y in omega (arith, low)) below));
      }

  index_there : (q : ℕ) (found : Row) → cells_of (system_done new_edits s) q ≡ Full 3 found → IsAmong (index_of (q, found)) (catalog s).indexes ⊎ IsNewOnce s (index_of (q, found))
  index_there q found e = by (nat_eq q (free_place s)) refl (sym (cells-added 3 new_values s q) ∙ e)
    where
      same_row : (a b : Row) → Full 3 a ≡ Full 3 b → a ≡ b
      same_row a b h = cc

      by : (c : Bool) → nat_eq q (free_place s) ≡ c → cond c (Full 3 (row new_values)) (cells_of s q) ≡ Full 3 found → IsAmong (index_of (q, found)) (catalog s).indexes ⊎ IsNewOnce s (index_of (q, found))
      by true y h = inr (subst (λ (x : Row). IsNewOnce s (index_of (q, x))) (same_row (row new_values) found h) (new_once q))
      by false y h = inl (index-among s q found r.sound h)

  pub new_index-leaves : IsSound (system_done new_edits s) → Leaves (system_done new_edits s)
  new_index-leaves k own =
      let after : State = system_done new_edits s in
      stand-system new_edits s r.sound k r.stand r.held own tt (may_new s new_edits r.sound (refl, refl, tt)) (adds-of_system 3 new_values (lit< tt)) (λ m user has. keeps k m)
      (λ i user has among.
      let x : IsIndexOf after i = index-from after i among in
      subst (λ (j : Index). IsAmong j (catalog s).indexes ⊎ IsNewOnce s j) x.is (index_there x.place x.row x.lies))

abbrev index_tests : ℕ → State → List ℕ → List (List ℕ) → Bool → Table → List (Option Refusal)
index_tests session s name columns unique t =
    in_transaction session s
    ∷ refused_if (is_some (index_named name (catalog s))) NameThere
    ∷ refused_if (not (list_all (λ c. is_some (column_named t c)) columns)) NoColumn
    ∷ refused_if (has_twice columns) NameThere
    ∷ refused_if (nat_le 8 (length (indexes_of t (catalog s)))) (TooMany 8)
    ∷ open_on t.id s
    ∷ refused_if (unique && has_value_twice (columns_in t columns) (system_rows t.id s)) DuplicateKey
    ∷ no_room 1 s
    ∷ []

-- A table that a name finds has few columns.
pub create_index-leaves : (session : ℕ) (s : State) (name : List ℕ) (columns : List (List ℕ)) (unique : Bool) (o : Option Table) (edits : List CellEdit) → IsReady s →
    ((t : Table) → o ≡ Some t → length t.columns ≤ 16) → 1 ≤ length columns → AreSome edits × AreNew edits × LeaveUserTables edits → create_index session s name columns unique o ≡ Makes edits →
    Leaves (system_done edits s)
create_index-leaves session s name columns unique None edits r few least n e = absurd (refuses_none _ _ edits e)
create_index-leaves session s name columns unique (Some t) edits r few least n e =
    let id : ℕ = least_unused 1 (map (λ (i : Index). i.id) (catalog s).indexes) in
    let parts : (first_of (index_tests session s name columns unique t) ≡ None) × (Makes (create_index_edits (catalog s) name columns unique t) ≡ Makes edits)
    = unless-makes (first_of (index_tests session s name columns unique t)) (Makes (create_index_edits (catalog s) name columns unique t)) edits e in
    let tests = each_none (index_tests session s name columns unique t) (parts.0) in
    let same : create_index_edits (catalog s) name columns unique t ≡ edits = makes_same (create_index_edits (catalog s) name columns unique t) edits (parts.1) in
    let k : IsSound (system_done edits s) = sound-done edits s r.sound (n.0) (n.2) (may_new s edits r.sound (n.1)) in
    subst (λ (es : List CellEdit). Leaves (system_done es s)) same
    (new_index-leaves session s r t name columns unique ((((((tests.1).1).1).1).1).0) (not_none _ (not_refused _ NoColumn (((tests.1).1).0)))
    (not_refused _ DuplicateKey (((((((tests.1).1).1).1).1).1).0)) (few t refl) least id
    (subst (λ (es : List CellEdit). IsSound (system_done es s)) (sym same) k))

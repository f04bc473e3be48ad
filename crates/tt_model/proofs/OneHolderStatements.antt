-- What a statement changes is held by no other transaction.
use Rattle.std.proofs.Common.{◌≡◌, ◌≢◌, ◌⊎◌, inl, inr, ℕ, Bool, true, false, not, cond, ◌||◌, nat_eq, find, filter, map, List, [], ◌∷◌, Option, Some, None, unwrap_or, refl, sym, ap, ◌∙◌, subst, true≢false}
use Rattle.std.proofs.lemmas.Bool.{eq-eqb, eqb-true, or_cases, or_parts, and_parts, both_ways}
use Rattle.std.proofs.lemmas.List.{get_or-set_other}
use Rattle.std.proofs.lemmas.Option.{unwrap_or-slice_get}
use Rattle.std.proofs.lemmas.Slice.Eq.{slice_eq-Decides}
use Rattle.std.specs.List.{list_any, list_all}
use Rattle.std.specs.Option.{option_or}
use Rattle.std.specs.Prelude.{◌==◌, slice_set, zip, length, bytes_eq, Ok}
use Rattle.tt_value.specs.SameLaws.{same_value-Decides}
use Rattle.tt_value.specs.declared.value.Row.{Row}
use Rattle.tt_value.specs.declared.value.Value.{Value}
use Rattle.tt_value.specs.declared.value.Value.TheVariants.{Null}
use Rattle.tt_value.specs.declared.value.Cell.TheVariants.{Empty}
use Rattle.tt_value.specs.declared.refusal.Refusal.{Refusal}
use Rattle.tt_value.specs.declared.refusal.Refusal.TheVariants.{KeyUpdate, WrongType, NoColumn, NameThere}
use Rattle.tt_parse.specs.declared.cond.Cond.{Cond}
use Rattle.tt_parse.specs.declared.command.ColumnText.{ColumnText}
use Rattle.tt_parse.specs.declared.command.SetItem.{SetItem}
use Rattle.tt_model.specs.Conditions.{is_column}
use Rattle.tt_model.specs.Values.{same_values}
use Rattle.tt_model.specs.Trail.{Trail}
use Rattle.tt_model.specs.Holders.{Held, value_at, values_at, has_null, has_held, other_holder}
use Rattle.tt_model.specs.Tables.{Table, Index, PlacedRow, rows_of, table_of, key_of, by_number, with_number_at, catalog_of, table_named, unique_of, column_named}
use Rattle.tt_model.specs.State.{State, trail, cells_of, bound, catalog}
use Rattle.tt_model.specs.declared.definition.CellEdit.{CellEdit}
use Rattle.tt_model.specs.Meaning.{Makes, first_of, refused_if, makes, conflict, value_conflict, key_name, value_name, full, rows_seen, rows_taken, delete_row_refusal, cond_refusal, insert_refusal, inserted_row, insert_into, delete_from, update_in, update_rows, update_row_refusal, update_row_tests, set_refusal, sets_refusal, takes_literal, with_column, null_refusal, wide_refusal, range_refusal, row_refusal, key_there, value_there, no_room, source_column, names_no_column, takes_source, kind_named, set_values, with_values, with_row}
use Rattle.tt_model.specs.Sound.{IsSound}
use Rattle.tt_model.specs.Step.{number_for}
use Rattle.tt_model.specs.WholeRuns.{Each}
use Rattle.tt_model.proofs.StatementLemmas.{unless-makes, makes_same, first_none, each_none, no_other, HasFirst, unless_row-first, makes-ok, ok_same}
use Rattle.tt_model.proofs.OneHolderLines.{AllFree, free-number}

-- ---- lists

abbrev pub IsAmong : {X : Type 0} → X → List X → Type 0
IsAmong x [] = ⊥
IsAmong x (y ∷ ys) = (y ≡ x) ⊎ IsAmong x ys

pub each-one : {X : Type 0} (P : X → Type 0) (x : X) (xs : List X) → Each P xs → IsAmong x xs → P x
each-one P x [] e a = absurd a
each-one P x (y ∷ ys) e (inl same) = subst P same (e.0)
each-one P x (y ∷ ys) e (inr a) = each-one P x ys (e.1) a

among_step : {X : Type 0} (p : X → Bool) (x y : X) (ys : List X) → p x ≡ true → (y ≡ x) ⊎ IsAmong x ys → (IsAmong x ys → IsAmong x (filter p ys)) →
    (c : Bool) → p y ≡ c → IsAmong x (cond c (y ∷ filter p ys) (filter p ys))
among_step p x y ys h (inl same) ih true e = inl same
among_step p x y ys h (inr a) ih true e = inr (ih a)
among_step p x y ys h (inl same) ih false e = absurd (both_ways (p y) e (ap p same ∙ h))
among_step p x y ys h (inr a) ih false e = ih a

pub among-filter : {X : Type 0} (p : X → Bool) (x : X) (xs : List X) → p x ≡ true → IsAmong x xs → IsAmong x (filter p xs)
among-filter p x [] h a = absurd a
among-filter p x (y ∷ ys) h a = among_step p x y ys h a (among-filter p x ys h) (p y) refl

found_step : {X : Type 0} (P : X → Type 0) (x y : X) (o : Option X) → P y → (o ≡ Some x → P x) → (c : Bool) → cond c (Some y) o ≡ Some x → P x
found_step P x y o p ih true h = subst P (ap (λ z. unwrap_or z y) h) p
found_step P x y o p ih false h = ih h

pub each-found : {X : Type 0} (P : X → Type 0) (p : X → Bool) (x : X) (xs : List X) → Each P xs → find p xs ≡ Some x → P x
each-found P p x [] e h = let no : ⊥ = cc in absurd no
each-found P p x (y ∷ ys) e h = found_step P x y (find p ys) (e.0) (λ k. each-found P p x ys (e.1) k) (p y) h

pub each-none : {X : Type 0} (f : X → Option Refusal) (xs : List X) → first_of (map f xs) ≡ None → Each (λ x. f x ≡ None) xs
each-none f [] h = tt
each-none f (x ∷ xs) h = let parts : (f x ≡ None) × (first_of (map f xs) ≡ None) = first_none (f x) (map f xs) h in (parts.0, each-none f xs (parts.1))

pub each-mapped : {X : Type 0} (P Q : X → Type 0) (xs : List X) → ((x : X) → IsAmong x xs → P x → Q x) → Each P xs → Each Q xs
each-mapped P Q [] f e = tt
each-mapped P Q (x ∷ xs) f e = (f x (inl refl) (e.0), each-mapped P Q xs (λ y a p. f y (inr a) p) (e.1))

-- ---- what a statement has tested of a row

-- No other transaction holds its key, nor its value in a unique index.
pub record Tested (session : ℕ) (s : State) (t : Table) (row : Row) : Type 0 where
  pub key : conflict (s.own session) (trail s) (key_name t row) ≡ None
  pub values : Each (λ (i : Index). value_conflict (s.own session) (trail s) (value_name i row) ≡ None) (unique_of t (catalog s))

-- So no other one holds a name that the row has.
abbrev pub IsSafe : Held → ℕ → State → Table → Type 0
IsSafe name session s t = (row : Row) → Tested session s t row → has_held name (full t row) ≡ true → other_holder (s.own session) name (trail s) ≡ None

module _ (name : Held) (session : ℕ) (s : State) (h : IsSound s) (t : Table) (safe : IsSafe name session s t) where
  free_row : (row : Row) → Tested session s t row → has_held name (full t row) ≡ true → other_holder (Some (number_for (s.own session) s)) name s.entries ≡ None
  free_row row k y = free-number name session s h (s.own session) refl (safe row k y)

  -- ---- insert

  abbrev unique_tests : Row → Index → Option Refusal
  unique_tests row i = first_of (value_conflict (s.own session) (trail s) (value_name i row) ∷ value_there row None (rows_seen session s t) i ∷ [])

  abbrev insert_tests : List Value → Row → List (Option Refusal)
  insert_tests values row =
      let columns = zip t.columns values in
      let stored = zip t.columns row.values in
      let rows = rows_seen session s t in
      refused_if (not (length values == length t.columns)) WrongType
      ∷ refused_if (not (list_all (λ (p : ColumnText × Value). takes_literal ((p.0).kind) (p.1)) columns)) WrongType
      ∷ first_of (map (with_column (λ c v. first_of (null_refusal c v ∷ wide_refusal c v ∷ range_refusal c v ∷ []))) stored)
      ∷ row_refusal row
      ∷ conflict (s.own session) (trail s) (key_name t row)
      ∷ key_there t row None rows
      ∷ first_of (map (unique_tests row) (unique_of t (catalog s)))
      ∷ no_room 1 s
      ∷ []

  insert_free : (values : List Value) (edits : List CellEdit) → insert_into session s values (Some t) ≡ Makes edits → AllFree (number_for (s.own session) s) name edits s.entries
  insert_free values edits m =
      let row : Row = inserted_row t values in
      let parts = unless-makes (insert_refusal session s t values row) (Makes (record { place = None; before = Empty; after = full t row } ∷ [])) edits m in
      let tests = each_none (insert_tests values row) (parts.0) in
      let tested : Tested session s t row = record {
        key = ((((tests.1).1).1).1).0;
        values = each-mapped (λ (i : Index). unique_tests row i ≡ None) (λ (i : Index). value_conflict (s.own session) (trail s) (value_name i row) ≡ None) (unique_of t (catalog s))
            (λ i a n. (first_none (value_conflict (s.own session) (trail s) (value_name i row)) (value_there row None (rows_seen session s t) i ∷ []) n).0)
            (each-none (unique_tests row) (unique_of t (catalog s)) (((((((tests.1).1).1).1).1).1).0));
      } in
      subst (λ es. AllFree (number_for (s.own session) s) name es s.entries) (makes_same _ edits (parts.1))
      ((λ y. free_row row tested y), tt)

  -- ---- delete

  deletes_free : (rows : List PlacedRow) → Each (λ (r : PlacedRow). delete_row_refusal session s t r ≡ None) rows →
      AllFree (number_for (s.own session) s) name (map (λ (r : PlacedRow). record { place = Some (r.0); before = full t (r.1); after = Empty }) rows) s.entries
  deletes_free [] e = tt
  deletes_free (r ∷ rows) e =
      let tests = each_none (conflict (s.own session) (trail s) (key_name t (r.1)) ∷ first_of (map (λ (i : Index). value_conflict (s.own session) (trail s) (value_name i (r.1))) (unique_of t (catalog s))) ∷ []) (e.0) in
      let tested : Tested session s t (r.1) = record {
        key = tests.0;
        values = each-none (λ (i : Index). value_conflict (s.own session) (trail s) (value_name i (r.1))) (unique_of t (catalog s)) ((tests.1).0);
      } in (
        (λ y. elim (or_cases (has_held name (full t (r.1))) false y) [ inl k ↦ free_row (r.1) tested k | inr k ↦ absurd (true≢false (sym k)) ]),
        deletes_free rows (e.1),
      )

  delete_free : (cond : Option Cond) (edits : List CellEdit) → delete_from session s cond (Some t) ≡ Makes edits → AllFree (number_for (s.own session) s) name edits s.entries
  delete_free cond edits m =
      let rows : List PlacedRow = rows_taken cond t (rows_seen session s t) in
      let parts = unless-makes (first_of (cond_refusal cond t ∷ map (delete_row_refusal session s t) rows)) _ edits m in
      let passed = first_none (cond_refusal cond t) (map (delete_row_refusal session s t) rows) (parts.0) in
      subst (λ es. AllFree (number_for (s.own session) s) name es s.entries) (makes_same _ edits (parts.1))
      (deletes_free rows (each-none (delete_row_refusal session s t) rows (passed.1)))

-- ---- update: the key stays

row_of : List Value → Row
row_of values = record { values = values }

not_same : (k i : ℕ) → nat_eq k i ≡ false → k ≢ i
not_same k i n e = both_ways (nat_eq k i) n (eq-eqb k i e)

value_kept : (k i : ℕ) (v : Value) (values : List Value) → nat_eq k i ≡ false → value_at (record { values = slice_set values i v }) k ≡ value_at (record { values = values }) k
value_kept k i v values n =
    unwrap_or-slice_get (slice_set values i v) k Null ∙ (get_or-set_other values i k v Null (not_same k i n) ∙ sym (unwrap_or-slice_get values k Null))

keys_kept : (keys : List ℕ) (i : ℕ) (v : Value) (values : List Value) → list_any (λ k. nat_eq k i) keys ≡ false →
    values_at keys (record { values = slice_set values i v }) ≡ values_at keys (record { values = values })
keys_kept [] i v values n = refl
keys_kept (k ∷ keys) i v values n =
    let parts : (nat_eq k i ≡ false) × (list_any (λ j. nat_eq j i) keys ≡ false) = or_parts (nat_eq k i) (list_any (λ j. nat_eq j i) keys) n in
    ap (λ (x : Value). x ∷ values_at keys (record { values = slice_set values i v })) (value_kept k i v values (parts.0))
    ∙ ap (λ (xs : List Value). value_at (record { values = values }) k ∷ xs) (keys_kept keys i v values (parts.1))

key_kept : (keys : List ℕ) (new : List (ℕ × Value)) (values : List Value) → Each (λ (p : ℕ × Value). list_any (λ k. nat_eq k (p.0)) keys ≡ false) new →
    values_at keys (record { values = with_values new values }) ≡ values_at keys (record { values = values })
key_kept keys [] values e = refl
key_kept keys (p ∷ ps) values e = key_kept keys ps (slice_set values (p.0) (p.1)) (e.1) ∙ keys_kept keys (p.0) (p.1) values (e.0)

pub or_none : (x y : Option Refusal) → option_or x y ≡ None → (x ≡ None) × (y ≡ None)
or_none None y h = (refl, h)
or_none (Some r) y h = let no : ⊥ = cc in absurd no

not_refused : (b : Bool) (r : Refusal) → refused_if b r ≡ None → b ≡ false
not_refused true r h = let no : ⊥ = cc in absurd no
not_refused false r h = refl

abbrev set_tests : Table → List SetItem → SetItem → List (Option Refusal)
set_tests t earlier set =
    refused_if (not (is_column t set.column)) NoColumn
    ∷ refused_if (list_any (λ k. nat_eq k (unwrap_or (column_named t set.column) 0)) t.key) KeyUpdate
    ∷ refused_if (list_any (λ e. bytes_eq e.column set.column) earlier) NameThere
    ∷ refused_if (names_no_column t (source_column set.source)) NoColumn
    ∷ refused_if (not (takes_source t (kind_named t set.column) set.source)) WrongType
    ∷ []

sets_apart : (t : Table) (earlier sets : List SetItem) → sets_refusal t earlier sets ≡ None → Each (λ (set : SetItem). list_any (λ k. nat_eq k (unwrap_or (column_named t set.column) 0)) t.key ≡ false) sets
sets_apart t earlier [] h = tt
sets_apart t earlier (set ∷ sets) h =
    let parts : (set_refusal t earlier set ≡ None) × (sets_refusal t (set ∷ earlier) sets ≡ None) = or_none (set_refusal t earlier set) (sets_refusal t (set ∷ earlier) sets) h in (
      not_refused (list_any (λ k. nat_eq k (unwrap_or (column_named t set.column) 0)) t.key) KeyUpdate (((each_none (set_tests t earlier set) (parts.0)).1).0),
      sets_apart t (set ∷ earlier) sets (parts.1),
    )

values_apart : (t : Table) (row : Row) (sets : List SetItem) → Each (λ (set : SetItem). list_any (λ k. nat_eq k (unwrap_or (column_named t set.column) 0)) t.key ≡ false) sets →
    Each (λ (p : ℕ × Value). list_any (λ k. nat_eq k (p.0)) t.key ≡ false) (set_values t row sets)
values_apart t row [] e = tt
values_apart t row (set ∷ sets) e = (e.0, values_apart t row sets (e.1))

module _ (name : Held) (session : ℕ) (s : State) (h : IsSound s) (t : Table) (safe : IsSafe name session s t) (sets : List SetItem)
    (apart : Each (λ (set : SetItem). list_any (λ k. nat_eq k (unwrap_or (column_named t set.column) 0)) t.key ≡ false) sets) where
  row_free : (r : PlacedRow) (rows : List PlacedRow) → let new = set_values t (r.1) sets in let row : Row = record { values = with_values new ((r.1).values) } in
      update_row_refusal session s t (record { before = r; after = row; values = new; seen = rows }) ≡ None → (has_held name (full t (r.1)) || has_held name (full t row)) ≡ true → other_holder (Some (number_for (s.own session) s)) name s.entries ≡ None
  row_free r rows m y =
      let new : List (ℕ × Value) = set_values t (r.1) sets in
      let row : Row = record { values = with_values new ((r.1).values) } in
      let tests = each_none (update_row_tests session s t (record { before = r; after = row; values = new; seen = rows })) m in
      let both = each-none (λ (i : Index). first_of (value_conflict (s.own session) (trail s) (value_name i (r.1)) ∷ value_conflict (s.own session) (trail s) (value_name i row) ∷ [])) (unique_of t (catalog s))
      ((((((tests.1).1).1).1).1).0) in
      let key : conflict (s.own session) (trail s) (key_name t (r.1)) ≡ None = ((((tests.1).1).1).1).0 in
      let same_key : key_name t row ≡ key_name t (r.1)
      = ap (λ (vs : List Value). record { table = t.id; columns = t.key; values = vs }) (key_kept t.key new ((r.1).values) (values_apart t (r.1) sets apart)) in
      let old_tested : Tested session s t (r.1) = record {
        key = key;
        values = each-mapped _ (λ (i : Index). value_conflict (s.own session) (trail s) (value_name i (r.1)) ≡ None) (unique_of t (catalog s))
            (λ i a n. (first_none (value_conflict (s.own session) (trail s) (value_name i (r.1))) _ n).0) both;
      } in
      let new_tested : Tested session s t row = record {
        key = ap (conflict (s.own session) (trail s)) same_key ∙ key;
        values = each-mapped _ (λ (i : Index). value_conflict (s.own session) (trail s) (value_name i row) ≡ None) (unique_of t (catalog s))
            (λ i a n. ((each_none (value_conflict (s.own session) (trail s) (value_name i (r.1)) ∷ value_conflict (s.own session) (trail s) (value_name i row) ∷ []) n).1).0) both;
      } in
      elim (or_cases (has_held name (full t (r.1))) (has_held name (full t row)) y) [
        | inl k ↦ free-number name session s h (s.own session) refl (safe (r.1) old_tested k)
        | inr k ↦ free-number name session s h (s.own session) refl (safe row new_tested k)
      ]

  updates_free : (all rest : List PlacedRow) (edits : List CellEdit) → update_rows session s t sets all rest ≡ Ok edits → AllFree (number_for (s.own session) s) name edits s.entries
  updates_free all [] edits m = subst (λ es. AllFree (number_for (s.own session) s) name es s.entries) (ok_same [] edits m) tt
  updates_free all (r ∷ rest) edits m =
      let new : List (ℕ × Value) = set_values t (r.1) sets in
      let row : Row = record { values = with_values new ((r.1).values) } in
      let edit : CellEdit = record { place = Some (r.0); before = full t (r.1); after = full t row } in
      let first : (update_row_refusal session s t (record { before = r; after = row; values = new; seen = all }) ≡ None) × HasFirst edit (update_rows session s t sets (with_row (r.0, row) all) rest) edits
      = unless_row-first (update_row_refusal session s t (record { before = r; after = row; values = new; seen = all })) edit (update_rows session s t sets (with_row (r.0, row) all) rest) edits m in
      subst (λ es. AllFree (number_for (s.own session) s) name es s.entries) ((first.1).whole)
      ((λ y. row_free r all (first.0) y), updates_free (with_row (r.0, row) all) rest ((first.1).others) ((first.1).made))

update_free : (name : Held) (session : ℕ) (s : State) (h : IsSound s) (t : Table) → IsSafe name session s t → (sets : List SetItem) (cond : Option Cond) (edits : List CellEdit) →
    update_in session s sets cond (Some t) ≡ Makes edits → AllFree (number_for (s.own session) s) name edits s.entries
update_free name session s h t safe sets cond edits m =
    let seen : List PlacedRow = rows_seen session s t in
    let parts = unless-makes (option_or (sets_refusal t [] sets) (cond_refusal cond t)) (makes (update_rows session s t sets seen (rows_taken cond t seen))) edits m in
    updates_free name session s h t safe sets (sets_apart t [] sets ((or_none (sets_refusal t [] sets) (cond_refusal cond t) (parts.0)).0)) seen (rows_taken cond t seen) edits
    (makes-ok (update_rows session s t sets seen (rows_taken cond t seen)) edits (parts.1))

-- ---- each statement, on the table of its name

abbrev pub AllSafe : Held → ℕ → State → Type 0
AllSafe name session s = (table : List ℕ) (t : Table) → table_named table (catalog s) ≡ Some t → IsSafe name session s t

pub insert-free : (name : Held) (session : ℕ) (s : State) (table : List ℕ) (values : List Value) (o : Option Table) (edits : List CellEdit) → IsSound s → AllSafe name session s → table_named table (catalog s) ≡ o →
    insert_into session s values o ≡ Makes edits → AllFree (number_for (s.own session) s) name edits s.entries
insert-free name session s table values None edits h f e m = let no : ⊥ = cc in absurd no
insert-free name session s table values (Some t) edits h f e m = insert_free name session s h t (f table t e) values edits m

pub delete-free : (name : Held) (session : ℕ) (s : State) (table : List ℕ) (cond : Option Cond) (o : Option Table) (edits : List CellEdit) → IsSound s → AllSafe name session s → table_named table (catalog s) ≡ o →
    delete_from session s cond o ≡ Makes edits → AllFree (number_for (s.own session) s) name edits s.entries
delete-free name session s table cond None edits h f e m = let no : ⊥ = cc in absurd no
delete-free name session s table cond (Some t) edits h f e m = delete_free name session s h t (f table t e) cond edits m

pub update-free : (name : Held) (session : ℕ) (s : State) (table : List ℕ) (sets : List SetItem) (cond : Option Cond) (o : Option Table) (edits : List CellEdit) → IsSound s → AllSafe name session s →
    table_named table (catalog s) ≡ o → update_in session s sets cond o ≡ Makes edits → AllFree (number_for (s.own session) s) name edits s.entries
update-free name session s table sets cond None edits h f e m = let no : ⊥ = cc in absurd no
update-free name session s table sets cond (Some t) edits h f e m = update_free name session s h t (f table t e) sets cond edits m

-- ---- keys and unique values are safe

pub same_parts : (name : Held) (table : ℕ) (columns : List ℕ) (values : List Value) → name.table ≡ table → name.columns ≡ columns → name.values ≡ values →
    name ≡ record { table = table; columns = columns; values = values }
same_parts name table columns values e f g =
    ap (λ (x : ℕ). one x name.columns name.values) e ∙ (ap (λ (x : List ℕ). one table x name.values) f ∙ ap (one table columns) g)
  where
    one : ℕ → List ℕ → List Value → Held
    one table columns values = record { table = table; columns = columns; values = values }

pub equal_values : (xs ys : List Value) → same_values xs ys ≡ true → xs ≡ ys
equal_values xs ys h = (slice_eq-Decides same_value-Decides xs ys (same_values xs ys) refl).0 h

-- The key columns of a table are those of its number.
abbrev pub key_columns : ℕ → State → List ℕ
key_columns id s = key_of (by_number 1 (with_number_at 0 id (rows_of 2 (bound s) (cells_of s))))

each_key : (columns rows : List PlacedRow) → Each (λ (t : Table). t.key ≡ key_of (by_number 1 (with_number_at 0 t.id columns))) (map (table_of columns) rows)
each_key columns [] = tt
each_key columns (r ∷ rows) = (refl, each_key columns rows)

pub keys-by_number : (s : State) → Each (λ (t : Table). t.key ≡ key_columns t.id s) (catalog s).tables
unfolding catalog_of
keys-by_number s = each_key (rows_of 2 (bound s) (cells_of s)) (by_number 0 (rows_of 1 (bound s) (cells_of s)))

-- So is what has the key of a number, whether a table has the number or not.
pub number-safe : (session : ℕ) (s : State) (id : ℕ) (values : List Value) → AllSafe (record { table = id; columns = key_columns id s; values = values }) session s
number-safe session s id values table t found row tested y =
    let parts : (nat_eq id t.id ≡ true) × (same_values (values_at (key_columns id s) row) values ≡ true) = and_parts (nat_eq id t.id) (same_values (values_at (key_columns id s) row) values) y in
    let number : id ≡ t.id = eqb-true id t.id (parts.0) in
    let of_t : t.key ≡ key_columns t.id s = each-found (λ (x : Table). x.key ≡ key_columns x.id s) _ t (catalog s).tables (keys-by_number s) found in
    let columns : key_columns id s ≡ t.key = ap (λ (n : ℕ). key_columns n s) number ∙ sym of_t in
    let same : values ≡ values_at t.key row = sym (equal_values (values_at (key_columns id s) row) values (parts.1)) ∙ ap (λ (cs : List ℕ). values_at cs row) columns in
    ap (λ (n : Held). other_holder (s.own session) n (trail s)) (same_parts (record { table = id; columns = key_columns id s; values = values }) t.id t.key (values_at t.key row) number columns same)
    ∙ no_other (other_holder (s.own session) (key_name t row) (trail s)) tested.key

pub key-safe : (session : ℕ) (s : State) (u : Table) (values : List Value) → IsAmong u (catalog s).tables → AllSafe (record { table = u.id; columns = u.key; values = values }) session s
key-safe session s u values a =
    let of_u : u.key ≡ key_columns u.id s = each-one (λ (x : Table). x.key ≡ key_columns x.id s) u (catalog s).tables (keys-by_number s) a in
    subst (λ (cs : List ℕ). AllSafe (record { table = u.id; columns = cs; values = values }) session s) (sym of_u) (number-safe session s u.id values)

no_conflict : (own : Option ℕ) (es : Trail) (name : Held) → has_null name.values ≡ false → value_conflict own es name ≡ None → other_holder own name es ≡ None
no_conflict own es name n c = no_other (other_holder own name es) (sym (ap (λ b. cond b None (conflict own es name)) n) ∙ c)

pub value-safe : (session : ℕ) (s : State) (i : Index) (values : List Value) → IsAmong i (catalog s).indexes → i.unique ≡ true → has_null values ≡ false →
    AllSafe (record { table = i.table; columns = i.columns; values = values }) session s
value-safe session s i values a unique null table t found row tested y =
    let parts : (nat_eq i.table t.id ≡ true) × (same_values (values_at i.columns row) values ≡ true) = and_parts (nat_eq i.table t.id) (same_values (values_at i.columns row) values) y in
    let own : IsAmong i (unique_of t (catalog s)) = among-filter (λ (x : Index). x.unique) i _ unique (among-filter (λ (x : Index). x.table == t.id) i (catalog s).indexes (parts.0) a) in
    let free : value_conflict (s.own session) (trail s) (value_name i row) ≡ None
    = each-one (λ (x : Index). value_conflict (s.own session) (trail s) (value_name x row) ≡ None) i (unique_of t (catalog s)) tested.values own in
    let same : values_at i.columns row ≡ values = equal_values (values_at i.columns row) values (parts.1) in
    ap (λ (vs : List Value). other_holder (s.own session) (record { table = i.table; columns = i.columns; values = vs }) (trail s)) (sym same)
    ∙ no_conflict (s.own session) (trail s) (value_name i row) (ap has_null same ∙ null) free

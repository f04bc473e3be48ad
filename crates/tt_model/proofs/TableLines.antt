-- The table that a statement changes is there, and the lines on tables and indexes leave the system rows of a table in which a live
-- transaction changed a row.
use Rattle.std.proofs.Common.{◌≡◌, ◌≤◌, ◌<◌, ◌+◌, inl, inr, ℕ, zero, suc, Bool, true, false, not, cond, ◌||◌, ◌&&◌, nat_eq, find, filter, map, List, [], ◌∷◌, ◌++◌, length, Option, Some, None, unwrap_or, if◌then◌else◌, refl, sym, ap, ◌∙◌, subst, arith, true≢false, Ordering}
use Rattle.std.specs.Prelude.{◌==◌, filter_map, option_map, is_some, bytes_eq, Ok, nat_le, ◌≢◌}
use Rattle.std.specs.List.{list_any, list_all, cons_option}
use Rattle.std.specs.Option.{option_or}
use Rattle.std.specs.Ordering.{is_gt, nat_cmp}
use Rattle.std.proofs.lemmas.Bool.{cases_Bool, eq-eqb, eqb-true, eqb-false, or_left, or_right, or_cases, and_parts, both_ways, false_from_ne_true}
use Rattle.std.proofs.lemmas.List.Folds.{list_any-append}
use Rattle.tt_value.specs.declared.value.Value.{Value}
use Rattle.tt_value.specs.declared.value.Row.{Row}
use Rattle.tt_value.specs.declared.value.Cell.{Cell}
use Rattle.tt_value.specs.declared.value.Cell.TheVariants.{Empty, Full as FullCell}
use Rattle.tt_value.specs.declared.position.Position.{Position}
use Rattle.tt_value.specs.declared.refusal.Refusal.{Refusal}
use Rattle.tt_value.specs.declared.refusal.Refusal.TheVariants.{TransactionOpen, NotEmpty, NameThere, NoColumn, TooMany, DuplicateKey}
use Rattle.tt_parse.specs.declared.cond.Cond.{Cond}
use Rattle.tt_parse.specs.declared.command.ColumnText.{ColumnText}
use Rattle.tt_parse.specs.declared.command.SetItem.{SetItem}
use Rattle.tt_record.specs.declared.entry.Entry.{Entry}
use Rattle.tt_record.specs.declared.entry.Entry.TheVariants.{Change, Commit, Abort, Mark, Switch}
use Rattle.tt_model.specs.Trail.{Trail}
use Rattle.tt_model.specs.Committed.{Cells, is_full}
use Rattle.tt_model.specs.Live.{is_live, numbers_from, without_number}
use Rattle.tt_model.specs.Holders.{value_at, has_held, holds_by, is_held_by}
use Rattle.tt_model.specs.Tables.{Table, Index, PlacedRow, row_in, row_at, rows_of, number_at, with_number_at, with_text_at, by_number, by_text, in_order, inserted, table_of, catalog_of, table_named, index_named, indexes_of, column_named, whole_number_of}
use Rattle.tt_model.specs.State.{State, Reader, trail, live_in, cells_of, bound, catalog}
use Rattle.tt_model.specs.declared.definition.CellEdit.{CellEdit}
use Rattle.tt_model.specs.Meaning.{Makes, unless, first_of, refused_if, full, rows_seen, rows_taken, cond_refusal, delete_row_refusal, insert_refusal, inserted_row, insert_into, delete_from, update_in, update_rows, update_row_refusal, sets_refusal, set_values, with_values, with_row, makes, no_room}
use Rattle.tt_model.specs.System.{system_rows, in_transaction, deletes, adds, number, least_unused, column_rows, open_on, changes_table, cell_is_of, drop_table, drop_index, create_index, unsubscribe, subscription, delete_bookmark, bookmark, acknowledge, bookmark_values, rewrites, subscribe, has_twice, has_value_twice, meant_by_create_table, meant_by_create_bookmark, reader_at, reader_row}
use Rattle.tt_model.specs.Backups.{set_edit}
use Rattle.tt_model.specs.Sound.{whole_table, IsSound}
use Rattle.tt_model.specs.WholeRuns.{Each}
use Rattle.tt_model.proofs.SteadyLemmas.{is_in-without_other}
use Rattle.tt_model.proofs.ConflictLemmas.{none_passes}
use Rattle.tt_model.proofs.RowLemmas.{LieIn, are_rows-rows_of, are_rows-in_order}
use Rattle.tt_model.proofs.SoundLemmas.{is_live-marked}
use Rattle.tt_model.proofs.IsolationLemmas.{full-below}
use Rattle.tt_model.proofs.StatementLemmas.{unless-makes, makes_same, each_none, ok_same, makes-ok, HasFirst, unless_row-first}
use Rattle.tt_model.proofs.SystemLines.{refuses_none, any-in_order}
use Rattle.tt_model.proofs.BookmarkLines.{among}
use Rattle.tt_model.proofs.OneHolderStatements.{each-found}
use Rattle.tt_model.proofs.TableRows.{kept_row, row_with, HasTable, IsApart, IsElsewhere, AreElsewhere}

-- ---- the table of a statement

pub numbered_row : (table column m : ℕ) (c : Cell) (row : Row) → c ≡ FullCell table row → (whole_number_of (value_at row column) == m) ≡ true → is_some (row_with table column m c) ≡ true
numbered_row table column m c row e h =
    ap (λ (x : Cell). is_some (row_with table column m x)) e
    ∙ (ap (λ b. is_some (kept_row column m (if b then Some row else None))) (eq-eqb table table refl)
    ∙ ap (λ b. is_some (if b then Some row else None)) h)

tables_there : (columns rows : List PlacedRow) (cells : Cells) → LieIn 1 cells rows → Each (λ (t : Table). HasTable t.id cells) (map (table_of columns) rows)
tables_there columns [] cells l = tt
tables_there columns (r ∷ rows) cells l = ((r.0, numbered_row 1 0 (number_at 0 r) (cells (r.0)) (r.1) (l.0) (eq-eqb (number_at 0 r) (number_at 0 r) refl)), tables_there columns rows cells (l.1))

pub table-there : (s : State) (name : List ℕ) (t : Table) → table_named name (catalog s) ≡ Some t → HasTable t.id (cells_of s)
unfolding catalog_of
table-there s name t e =
    let rows : List PlacedRow = rows_of 1 (bound s) (cells_of s) in
    let lie : LieIn 1 (cells_of s) (by_number 0 rows)
    = (are_rows-in_order 1 (cells_of s) (λ a b. nat_cmp (number_at 0 a) (number_at 0 b)) rows (are_rows-rows_of 1 (bound s) (cells_of s))).lie in
    each-found (λ (x : Table). HasTable x.id (cells_of s)) (λ x. bytes_eq x.name name) t (map (table_of (rows_of 2 (bound s) (cells_of s))) (by_number 0 rows))
    (tables_there (rows_of 2 (bound s) (cells_of s)) (by_number 0 rows) (cells_of s) lie) e

-- Each row that is changed is of a table of which T holds.
abbrev pub AllOf : (ℕ → Type 0) → List CellEdit → Type 0
AllOf T [] = Unit {0}
AllOf T (e ∷ es) = ((m : ℕ) → (has_held (whole_table m) e.before || has_held (whole_table m) e.after) ≡ true → T m) × AllOf T es

of_table : (T : ℕ → Type 0) (t : Table) (m : ℕ) (row : Row) → T t.id → has_held (whole_table m) (full t row) ≡ true → T m
of_table T t m row h y = subst T (sym (eqb-true m t.id ((and_parts (nat_eq m t.id) true y).0))) h

deletes_of : (T : ℕ → Type 0) (t : Table) (rows : List PlacedRow) → T t.id → AllOf T (map (λ (r : PlacedRow). record { place = Some (r.0); before = full t (r.1); after = Empty }) rows)
deletes_of T t [] h = tt
deletes_of T t (r ∷ rows) h = (
  (λ m y. elim (or_cases (has_held (whole_table m) (full t (r.1))) false y) [ inl k ↦ of_table T t m (r.1) h k | inr k ↦ absurd (true≢false (sym k)) ]),
  deletes_of T t rows h,
)

pub delete-of : (T : ℕ → Type 0) (session : ℕ) (s : State) (cond : Option Cond) (o : Option Table) (edits : List CellEdit) → ((t : Table) → o ≡ Some t → T t.id) →
    delete_from session s cond o ≡ Makes edits → AllOf T edits
delete-of T session s cond None edits h m = let no : ⊥ = cc in absurd no
delete-of T session s cond (Some t) edits h m =
    let rows : List PlacedRow = rows_taken cond t (rows_seen session s t) in
    subst (AllOf T) (makes_same _ edits ((unless-makes (first_of (cond_refusal cond t ∷ map (delete_row_refusal session s t) rows)) _ edits m).1)) (deletes_of T t rows (h t refl))

updates_of : (T : ℕ → Type 0) (session : ℕ) (s : State) (t : Table) (sets : List SetItem) (all rest : List PlacedRow) (edits : List CellEdit) → T t.id →
    update_rows session s t sets all rest ≡ Ok edits → AllOf T edits
updates_of T session s t sets all [] edits h m = subst (AllOf T) (ok_same [] edits m) tt
updates_of T session s t sets all (r ∷ rest) edits h m =
    let new : List (ℕ × Value) = set_values t (r.1) sets in
    let row : Row = record { values = with_values new ((r.1).values) } in
    let edit : CellEdit = record { place = Some (r.0); before = full t (r.1); after = full t row } in
    let first : (update_row_refusal session s t (record { before = r; after = row; values = new; seen = all }) ≡ None) × HasFirst edit (update_rows session s t sets (with_row (r.0, row) all) rest) edits
    = unless_row-first (update_row_refusal session s t (record { before = r; after = row; values = new; seen = all })) edit (update_rows session s t sets (with_row (r.0, row) all) rest) edits m in
    subst (AllOf T) ((first.1).whole) (
      (λ n y. elim (or_cases (has_held (whole_table n) (full t (r.1))) (has_held (whole_table n) (full t row)) y) [ inl k ↦ of_table T t n (r.1) h k | inr k ↦ of_table T t n row h k ]),
      updates_of T session s t sets (with_row (r.0, row) all) rest ((first.1).others) h ((first.1).made),
    )

pub update-of : (T : ℕ → Type 0) (session : ℕ) (s : State) (sets : List SetItem) (cond : Option Cond) (o : Option Table) (edits : List CellEdit) → ((t : Table) → o ≡ Some t → T t.id) →
    update_in session s sets cond o ≡ Makes edits → AllOf T edits
update-of T session s sets cond None edits h m = let no : ⊥ = cc in absurd no
update-of T session s sets cond (Some t) edits h m =
    let seen : List PlacedRow = rows_seen session s t in
    updates_of T session s t sets seen (rows_taken cond t seen) edits (h t refl)
    (makes-ok (update_rows session s t sets seen (rows_taken cond t seen)) edits
    ((unless-makes (option_or (sets_refusal t [] sets) (cond_refusal cond t)) (makes (update_rows session s t sets seen (rows_taken cond t seen))) edits m).1))

pub insert-of : (T : ℕ → Type 0) (session : ℕ) (s : State) (values : List Value) (o : Option Table) (edits : List CellEdit) → ((t : Table) → o ≡ Some t → T t.id) →
    insert_into session s values o ≡ Makes edits → AllOf T edits
insert-of T session s values None edits h m = let no : ⊥ = cc in absurd no
insert-of T session s values (Some t) edits h m =
    subst (AllOf T) (makes_same _ edits ((unless-makes (insert_refusal session s t values (inserted_row t values)) _ edits m).1))
    ((λ n y. of_table T t n (inserted_row t values) (h t refl) y), tt)

-- ---- edits of other tables' rows

empty_apart : (m : ℕ) → IsApart m Empty
empty_apart m = record { table = refl; column = refl }

other_none : (k column m table : ℕ) (row : Row) → nat_eq k table ≡ false → row_with k column m (FullCell table row) ≡ None
other_none k column m table row n = ap (λ b. kept_row column m (if b then Some row else None)) n

number_none : (k column m table : ℕ) (row : Row) → (whole_number_of (value_at row column) == m) ≡ false → row_with k column m (FullCell table row) ≡ None
number_none k column m table row n = by_test (nat_eq k table)
  where
    by_test : (c : Bool) → kept_row column m (if c then Some row else None) ≡ None
    by_test true = ap (λ b. if b then Some row else None) n
    by_test false = refl

pub deletes-elsewhere : (m table : ℕ) (rows : List PlacedRow) → nat_eq 1 table ≡ false → nat_eq 2 table ≡ false → AreElsewhere m (map (deletes table) rows)
deletes-elsewhere m table [] a b = tt
deletes-elsewhere m table (r ∷ rows) a b =
    (record { before = record { table = other_none 1 0 m table (r.1) a; column = other_none 2 0 m table (r.1) b }; after = empty_apart m; index = refl }, deletes-elsewhere m table rows a b)

-- Rows of another number.
deletes_numbered : (m n table : ℕ) (rows : List PlacedRow) → (n == m) ≡ false → Each (λ (r : PlacedRow). (number_at 0 r == n) ≡ true) rows → AreElsewhere m (map (deletes table) rows)
deletes_numbered m n table [] d e = tt
deletes_numbered m n table (r ∷ rows) d e =
    let other : (number_at 0 r == m) ≡ false = ap (λ x. x == m) (eqb-true (number_at 0 r) n (e.0)) ∙ d in (
      record { before = record { table = number_none 1 0 m table (r.1) other; column = number_none 2 0 m table (r.1) other }; after = empty_apart m; index = refl },
      deletes_numbered m n table rows d (e.1),
    )

filter_step : (P : PlacedRow → Type 0) (r : PlacedRow) (rows : List PlacedRow) (c : Bool) → (c ≡ true → P r) → Each P rows → Each P (cond c (r ∷ rows) rows)
filter_step P r rows true f e = (f refl, e)
filter_step P r rows false f e = e

each_filter : (p : PlacedRow → Bool) (rows : List PlacedRow) → Each (λ (r : PlacedRow). p r ≡ true) (filter p rows)
each_filter p [] = tt
each_filter p (r ∷ rows) = filter_step (λ (x : PlacedRow). p x ≡ true) r (filter p rows) (p r) (λ y. y) (each_filter p rows)

inserted_step : (P : PlacedRow → Type 0) (x y : PlacedRow) (ys zs : List PlacedRow) → P x → P y → Each P ys → Each P zs → (c : Bool) → Each P (cond c (y ∷ zs) (x ∷ y ∷ ys))
inserted_step P x y ys zs a b e f true = (b, f)
inserted_step P x y ys zs a b e f false = (a, (b, e))

each_inserted : (P : PlacedRow → Type 0) (cmp : PlacedRow → PlacedRow → Ordering) (x : PlacedRow) (ys : List PlacedRow) → P x → Each P ys → Each P (inserted cmp x ys)
each_inserted P cmp x [] a e = (a, tt)
each_inserted P cmp x (y ∷ ys) a e = inserted_step P x y ys (inserted cmp x ys) a (e.0) (e.1) (each_inserted P cmp x ys a (e.1)) (is_gt (cmp x y))

each_in_order : (P : PlacedRow → Type 0) (cmp : PlacedRow → PlacedRow → Ordering) (rows : List PlacedRow) → Each P rows → Each P (in_order cmp rows)
each_in_order P cmp [] e = tt
each_in_order P cmp (r ∷ rows) e = each_inserted P cmp r (in_order cmp rows) (e.0) (each_in_order P cmp rows (e.1))

pub elsewhere-append : (m : ℕ) (xs ys : List CellEdit) → AreElsewhere m xs → AreElsewhere m ys → AreElsewhere m (xs ++ ys)
elsewhere-append m [] ys a b = b
elsewhere-append m (x ∷ xs) ys a b = (a.0, elsewhere-append m xs ys (a.1) b)

elsewhere_or_refused : (m : ℕ) (o : Option Refusal) (es edits : List CellEdit) → AreElsewhere m es → unless o (Makes es) ≡ Makes edits → AreElsewhere m edits
elsewhere_or_refused m o es edits k h = subst (AreElsewhere m) (makes_same es edits ((unless-makes o (Makes es) edits h).1)) k

-- ---- a table on which no transaction is open

cell_of_table : (m : ℕ) (c : Cell) → has_held (whole_table m) c ≡ cell_is_of m c
cell_of_table m Empty = refl
cell_of_table m (FullCell table row) = and_true (nat_eq m table)
  where
    and_true : (x : Bool) → (x && true) ≡ x
    and_true true = refl
    and_true false = refl

change_of_table : (m u : ℕ) (x : Entry) → holds_by (whole_table m) u x ≡ changes_table m u x
change_of_table m u (Change v p b a) =
    ap (λ c. nat_eq u v && (c || has_held (whole_table m) a)) (cell_of_table m b) ∙ ap (λ c. nat_eq u v && (cell_is_of m b || c)) (cell_of_table m a)
change_of_table m u (Commit v) = refl
change_of_table m u (Abort v) = refl
change_of_table m u Mark = refl
change_of_table m u (Switch f) = refl

changes_of_table : (m u : ℕ) (es : Trail) → is_held_by (whole_table m) es u ≡ list_any (λ e. changes_table m u e.entry) es
changes_of_table m u [] = refl
changes_of_table m u (e ∷ es) =
    ap (λ c. c || is_held_by (whole_table m) es u) (change_of_table m u e.entry) ∙ ap (λ c. changes_table m u e.entry || c) (changes_of_table m u es)

not_open : (o : Option ℕ) → option_map TransactionOpen o ≡ None → o ≡ None
not_open None h = refl
not_open (Some t) h = let no : ⊥ = cc in absurd no

pub open-other : (table m u : ℕ) (s : State) → IsSound s → open_on table s ≡ None → is_live u s.entries ≡ true → is_held_by (whole_table m) s.entries u ≡ true → (table == m) ≡ false
open-other table m u s h o l k = false_from_ne_true (table == m) (λ y.
    let same : table ≡ m = eqb-true table m y in
    let none : list_any (λ e. changes_table table u e.entry) (trail s) ≡ false
    = none_passes (λ t. list_any (λ e. changes_table table t e.entry) (trail s)) (live_in s) (not_open _ o) u (is_live-marked u s.entries s.found.entries (h.entries).marked ∙ l) in
    let some : list_any (λ e. changes_table table u e.entry) s.entries ≡ true
    = sym (changes_of_table table u s.entries) ∙ (ap (λ (x : ℕ). is_held_by (whole_table x) s.entries u) same ∙ k) in
    both_ways (list_any (λ e. changes_table table u e.entry) (trail s)) none
    (list_any-append (λ e. changes_table table u e.entry) s.entries s.found.entries
    ∙ or_left (list_any (λ e. changes_table table u e.entry) s.entries) (list_any (λ e. changes_table table u e.entry) s.found.entries) some))

-- ---- a new table's number

shorter_step : (t u : ℕ) (us : List ℕ) → length (without_number t us) ≤ length us → (c : Bool) → length (cond c (u ∷ without_number t us) (without_number t us)) ≤ suc (length us)
shorter_step t u us l true = omega (arith, l)
shorter_step t u us l false = omega (arith, l)

shorter : (t : ℕ) (us : List ℕ) → length (without_number t us) ≤ length us
shorter t [] = omega arith
shorter t (u ∷ us) = shorter_step t u us (shorter t us) (not (nat_eq t u))

one_less : (t u : ℕ) (us : List ℕ) → length (without_number t us) ≤ length us → (list_any (nat_eq t) us ≡ true → suc (length (without_number t us)) ≤ length us) →
    (c : Bool) → (c || list_any (nat_eq t) us) ≡ true → suc (length (cond (not c) (u ∷ without_number t us) (without_number t us))) ≤ suc (length us)
one_less t u us l f true k = omega (arith, l)
one_less t u us l f false k = let more : suc (length (without_number t us)) ≤ length us = f k in omega (arith, more)

length_without : (t : ℕ) (us : List ℕ) → list_any (nat_eq t) us ≡ true → suc (length (without_number t us)) ≤ length us
length_without t [] h = absurd (true≢false (sym h))
length_without t (u ∷ us) h = one_less t u us (shorter t us) (length_without t us) (nat_eq t u) h

-- Numbers in a row that are all used are no more than the used ones.
all_used : (n from : ℕ) (used : List ℕ) → ((k : ℕ) → from ≤ k → k < from + n → list_any (nat_eq k) used ≡ true) → n ≤ length used
all_used zero from used h = omega arith
all_used (suc n) from used h =
    let less : suc (length (without_number from used)) ≤ length used = length_without from used (h from (omega arith) (omega arith)) in
    let rest : n ≤ length (without_number from used)
    = all_used n (suc from) (without_number from used) (λ k l m.
    is_in-without_other from k used (false_from_ne_true (nat_eq from k) (λ y. let same : from ≡ k = eqb-true from k y in absurd (omega (arith, same, l)))) (h k (omega (arith, l)) (omega (arith, m)))) in
    omega (arith, less, rest)

pub not_not : (b : Bool) → not b ≡ true → b ≡ false
not_not true h = absurd (true≢false (sym h))
not_not false h = refl

pub not_none : (b : Bool) → not b ≡ false → b ≡ true
not_none true h = refl
not_none false h = absurd (true≢false h)

found_unused : (p : ℕ → Bool) (x : ℕ) (us : List ℕ) → find p us ≡ Some x → p x ≡ true
found_unused p x [] h = let no : ⊥ = cc in absurd no
found_unused p x (u ∷ us) h = by_test p x u us h (found_unused p x us) (p u) refl h
  where
    by_test : (p : ℕ → Bool) (x u : ℕ) (us : List ℕ) → find p (u ∷ us) ≡ Some x → (find p us ≡ Some x → p x ≡ true) → (c : Bool) → p u ≡ c → cond c (Some u) (find p us) ≡ Some x → p x ≡ true
    by_test p x u us h ih true e k = ap p (sym (ap (λ o. unwrap_or o u) k)) ∙ e
    by_test p x u us h ih false e k = ih k

unused_by : (from : ℕ) (used : List ℕ) (o : Option ℕ) → find (λ n. not (list_any (nat_eq n) used)) (numbers_from (suc (length used)) from) ≡ o → list_any (nat_eq (unwrap_or o from)) used ≡ false
unused_by from used (Some x) e = not_not (list_any (nat_eq x) used) (found_unused (λ n. not (list_any (nat_eq n) used)) x (numbers_from (suc (length used)) from) e)
unused_by from used None e =
    let more : suc (length used) ≤ length used
    = all_used (suc (length used)) from used (λ k l m.
    not_none (list_any (nat_eq k) used)
    (none_passes (λ n. not (list_any (nat_eq n) used)) (numbers_from (suc (length used)) from) e k (among k (suc (length used)) from l m))) in
    absurd (omega (arith, more))

pub least_unused-new : (from : ℕ) (used : List ℕ) → list_any (nat_eq (least_unused from used)) used ≡ false
least_unused-new from used = unused_by from used (find (λ n. not (list_any (nat_eq n) used)) (numbers_from (suc (length used)) from)) refl

-- The number of a table that is there is among those of the catalog.
number_found : (m q : ℕ) (c : Cell) (rows : List PlacedRow) → is_some (row_with 1 0 m c) ≡ true →
    list_any (λ (r : PlacedRow). nat_eq m (number_at 0 r)) (cons_option (option_map (λ row. (q, row)) (row_in 1 c)) rows) ≡ true
number_found m q c rows h = by_row (row_in 1 c) h
  where
    same : (m n : ℕ) → (n == m) ≡ true → nat_eq m n ≡ true
    same m n y = eq-eqb m n (sym (eqb-true n m y))

    kept : (row : Row) (c : Bool) → is_some (if c then Some row else None) ≡ true → c ≡ true
    kept row true y = refl
    kept row false y = absurd (true≢false (sym y))

    by_row : (o : Option Row) → is_some (kept_row 0 m o) ≡ true → list_any (λ (r : PlacedRow). nat_eq m (number_at 0 r)) (cons_option (option_map (λ row. (q, row)) o) rows) ≡ true
    by_row None y = absurd (true≢false (sym y))
    by_row (Some row) y =
        or_left (nat_eq m (whole_number_of (value_at row 0))) (list_any (λ (r : PlacedRow). nat_eq m (number_at 0 r)) rows)
        (same m (whole_number_of (value_at row 0)) (kept row (whole_number_of (value_at row 0) == m) y))

later_found : (f : PlacedRow → Bool) (o : Option PlacedRow) (rows : List PlacedRow) → list_any f rows ≡ true → list_any f (cons_option o rows) ≡ true
later_found f None rows h = h
later_found f (Some r) rows h = or_right (f r) (list_any f rows) h

numbers_found : (m q : ℕ) (cells : Cells) (n from : ℕ) → is_some (row_with 1 0 m (cells q)) ≡ true → from ≤ q → q < from + n →
    list_any (λ (r : PlacedRow). nat_eq m (number_at 0 r)) (filter_map (row_at 1 cells) (numbers_from n from)) ≡ true
numbers_found m q cells zero from h l k = absurd (omega (arith, l, k))
numbers_found m q cells (suc n) from h l k = elim (cases_Bool (nat_eq q from)) [
  | inl y ↦ number_found m from (cells from) (filter_map (row_at 1 cells) (numbers_from n (suc from))) (ap (λ (x : ℕ). is_some (row_with 1 0 m (cells x))) (sym (eqb-true q from y)) ∙ h)
  | inr d ↦
      let other : q ≢ from = eqb-false q from d in
      later_found (λ (r : PlacedRow). nat_eq m (number_at 0 r)) (row_at 1 cells from) (filter_map (row_at 1 cells) (numbers_from n (suc from)))
      (numbers_found m q cells n (suc from) h (omega (arith, l, other)) (omega (arith, k)))
]

ids_of : (m : ℕ) (columns rows : List PlacedRow) → list_any (nat_eq m) (map (λ (t : Table). t.id) (map (table_of columns) rows)) ≡ list_any (λ (r : PlacedRow). nat_eq m (number_at 0 r)) rows
ids_of m columns [] = refl
ids_of m columns (r ∷ rows) = ap (λ b. nat_eq m (number_at 0 r) || b) (ids_of m columns rows)

full_row : (m : ℕ) (c : Cell) → is_some (row_with 1 0 m c) ≡ true → is_full c ≡ true
full_row m Empty h = absurd (true≢false (sym h))
full_row m (FullCell table row) h = refl

pub id-among : (m : ℕ) (s : State) → IsSound s → HasTable m (cells_of s) → list_any (nat_eq m) (map (λ (t : Table). t.id) (catalog s).tables) ≡ true
unfolding catalog_of rows_of
id-among m s h t =
    let rows : List PlacedRow = rows_of 1 (bound s) (cells_of s) in
    let below : t.0 < bound s = full-below s (t.0) h (full_row m (cells_of s (t.0)) (t.1)) in
    ids_of m (rows_of 2 (bound s) (cells_of s)) (by_number 0 rows)
    ∙ (any-in_order (λ (r : PlacedRow). nat_eq m (number_at 0 r)) (λ a b. nat_cmp (number_at 0 a) (number_at 0 b)) rows
    ∙ numbers_found m (t.0) (cells_of s) (bound s) 0 (t.1) (omega arith) (omega (arith, below)))

-- ---- the edits of each line

adds_elsewhere : (m table id : ℕ) (rest : List Value) → nat_eq 3 table ≡ false → (id == m) ≡ false → IsElsewhere m (adds table (number id ∷ rest))
adds_elsewhere m table id rest n d =
    let added : Row = record { values = number id ∷ rest } in
    record { before = empty_apart m; after = record { table = number_none 1 0 m table added d; column = number_none 2 0 m table added d }; index = other_none 3 1 m table added n }

adds_index : (m id table : ℕ) (rest : List Value) → (table == m) ≡ false → IsElsewhere m (adds 3 (number id ∷ number table ∷ rest))
adds_index m id table rest d =
    record { before = empty_apart m; after = record { table = refl; column = refl }; index = number_none 3 1 m 3 (record { values = number id ∷ number table ∷ rest }) d }

columns_elsewhere : (m id : ℕ) (key : List (List ℕ)) (n : ℕ) (columns : List ColumnText) → (id == m) ≡ false → AreElsewhere m (column_rows id key n columns)
columns_elsewhere m id key n [] d = tt
columns_elsewhere m id key n (c ∷ cs) d =
    (adds_elsewhere m 2 id _ refl d, columns_elsewhere m id key (suc n) cs d)

pub create_table-elsewhere : (m session : ℕ) (s : State) (name : List ℕ) (columns : List ColumnText) (key : List (List ℕ)) (edits : List CellEdit) → IsSound s → HasTable m (cells_of s) →
    meant_by_create_table session s name columns key ≡ Makes edits → AreElsewhere m edits
unfolding meant_by_create_table
create_table-elsewhere m session s name columns key edits h t e =
    let ids : List ℕ = map (λ (x : Table). x.id) (catalog s).tables in
    let id : ℕ = least_unused 16 ids in
    let other : (id == m) ≡ false = false_from_ne_true (id == m) (λ y.
    both_ways (list_any (nat_eq id) ids) (least_unused-new 16 ids) (ap (λ (x : ℕ). list_any (nat_eq x) ids) (eqb-true id m y) ∙ id-among m s h t)) in
    elsewhere_or_refused m _ _ edits
    (adds_elsewhere m 1 id _ refl other, columns_elsewhere m id key 1 columns other) e

-- The edits that drop another table.
pub drop_table-apart : (m session : ℕ) (s : State) (t : Table) (edits : List CellEdit) → (t.id == m) ≡ false → drop_table session s (Some t) ≡ Makes edits → AreElsewhere m edits
drop_table-apart m session s t edits other e =
    let five : List PlacedRow = by_text 0 (with_number_at 1 t.id (system_rows 5 s)) in
    let three : List PlacedRow = by_number 0 (with_number_at 1 t.id (system_rows 3 s)) in
    let two : List PlacedRow = by_number 1 (with_number_at 0 t.id (system_rows 2 s)) in
    let one : List PlacedRow = with_number_at 0 t.id (system_rows 1 s) in
    let last : List CellEdit = map (deletes 2) two ++ map (deletes 1) one in
    let tests : List (Option Refusal) = in_transaction session s ∷ open_on t.id s ∷ refused_if (not (length (system_rows t.id s) == 0)) NotEmpty ∷ [] in
    elsewhere_or_refused m (first_of tests) (map (deletes 5) five ++ (map (deletes 3) three ++ last)) edits
    (elsewhere-append m (map (deletes 5) five) (map (deletes 3) three ++ last) (deletes-elsewhere m 5 five refl refl)
    (elsewhere-append m (map (deletes 3) three) last (deletes-elsewhere m 3 three refl refl)
    (elsewhere-append m (map (deletes 2) two) (map (deletes 1) one)
    (deletes_numbered m t.id 2 two other
    (each_in_order (λ (r : PlacedRow). (number_at 0 r == t.id) ≡ true) (λ a b. nat_cmp (number_at 1 a) (number_at 1 b)) (with_number_at 0 t.id (system_rows 2 s)) (each_filter (λ (r : PlacedRow). number_at 0 r == t.id) (system_rows 2 s))))
    (deletes_numbered m t.id 1 one other (each_filter (λ (r : PlacedRow). number_at 0 r == t.id) (system_rows 1 s)))))) e

pub drop_table-elsewhere : (m u session : ℕ) (s : State) (o : Option Table) (edits : List CellEdit) → IsSound s → is_live u s.entries ≡ true → is_held_by (whole_table m) s.entries u ≡ true →
    drop_table session s o ≡ Makes edits → AreElsewhere m edits
drop_table-elsewhere m u session s None edits h l k e = absurd (refuses_none _ _ edits e)
drop_table-elsewhere m u session s (Some t) edits h l k e =
    let tests : List (Option Refusal) = in_transaction session s ∷ open_on t.id s ∷ refused_if (not (length (system_rows t.id s) == 0)) NotEmpty ∷ [] in
    let passed : first_of tests ≡ None = (unless-makes (first_of tests) _ edits e).0 in
    drop_table-apart m session s t edits (open-other t.id m u s h (((each_none tests passed).1).0) l k) e

pub drop_index-elsewhere : (m session : ℕ) (s : State) (o : Option Index) (edits : List CellEdit) → drop_index session s o ≡ Makes edits → AreElsewhere m edits
drop_index-elsewhere m session s None edits e = absurd (refuses_none _ _ edits e)
drop_index-elsewhere m session s (Some i) edits e =
    let rows : List PlacedRow = with_number_at 0 i.id (system_rows 3 s) in elsewhere_or_refused m _ (map (deletes 3) rows) edits (deletes-elsewhere m 3 rows refl refl) e

pub unsubscribe-elsewhere : (m session : ℕ) (s : State) (name : List ℕ) (o : Option Table) (edits : List CellEdit) → unsubscribe session s name o ≡ Makes edits → AreElsewhere m edits
unsubscribe-elsewhere m session s name None edits e = absurd (refuses_none _ _ edits e)
unsubscribe-elsewhere m session s name (Some t) edits e = elsewhere_or_refused m _ (map (deletes 5) (subscription name t.id s)) edits (deletes-elsewhere m 5 (subscription name t.id s) refl refl) e

pub delete_bookmark-elsewhere : (m session : ℕ) (s : State) (name : List ℕ) (o : Option PlacedRow) (edits : List CellEdit) → delete_bookmark session s name o ≡ Makes edits → AreElsewhere m edits
delete_bookmark-elsewhere m session s name None edits e = absurd (refuses_none _ _ edits e)
delete_bookmark-elsewhere m session s name (Some r) edits e =
    let rows : List PlacedRow = by_number 1 (with_text_at 0 name (system_rows 5 s)) in
    elsewhere_or_refused m _ (map (deletes 5) rows ++ map (deletes 4) (r ∷ [])) edits
    (elsewhere-append m (map (deletes 5) rows) (map (deletes 4) (r ∷ [])) (deletes-elsewhere m 5 rows refl refl) (deletes-elsewhere m 4 (r ∷ []) refl refl)) e

acknowledged-elsewhere : (m session : ℕ) (s : State) (r : Reader) (o : Option PlacedRow) (edits : List CellEdit) → acknowledge session s (reader_at r o) ≡ Makes edits → AreElsewhere m edits
acknowledged-elsewhere m session s r None edits e = absurd (refuses_none _ _ edits e)
acknowledged-elsewhere m session s r (Some at) edits e =
    elsewhere_or_refused m (first_of (in_transaction session s ∷ [])) (rewrites 4 at (bookmark_values r.bookmark r.place) ∷ []) edits
    (record { before = record { table = refl; column = refl }; after = record { table = refl; column = refl }; index = refl }, tt) e

pub acknowledge-elsewhere : (m session : ℕ) (s : State) (o : Option Reader) (edits : List CellEdit) → acknowledge session s (reader_row s o) ≡ Makes edits → AreElsewhere m edits
acknowledge-elsewhere m session s None edits e = absurd (refuses_none _ _ edits e)
acknowledge-elsewhere m session s (Some r) edits e = acknowledged-elsewhere m session s r (bookmark r.bookmark s) edits e

abbrev index_tests : ℕ → State → List ℕ → List (List ℕ) → Bool → Table → List (Option Refusal)
index_tests session s name columns unique t =
    let at = map (λ c. unwrap_or (column_named t c) 0) columns in
    in_transaction session s
    ∷ refused_if (is_some (index_named name (catalog s))) NameThere
    ∷ refused_if (not (list_all (λ c. is_some (column_named t c)) columns)) NoColumn
    ∷ refused_if (has_twice columns) NameThere
    ∷ refused_if (nat_le 8 (length (indexes_of t (catalog s)))) (TooMany 8)
    ∷ open_on t.id s
    ∷ refused_if (unique && has_value_twice at (system_rows t.id s)) DuplicateKey
    ∷ no_room 1 s
    ∷ []

pub create_index-elsewhere : (m u session : ℕ) (s : State) (name : List ℕ) (columns : List (List ℕ)) (unique : Bool) (o : Option Table) (edits : List CellEdit) → IsSound s →
    is_live u s.entries ≡ true → is_held_by (whole_table m) s.entries u ≡ true → create_index session s name columns unique o ≡ Makes edits → AreElsewhere m edits
create_index-elsewhere m u session s name columns unique None edits h l k e = absurd (refuses_none _ _ edits e)
create_index-elsewhere m u session s name columns unique (Some t) edits h l k e =
    let tests : List (Option Refusal) = index_tests session s name columns unique t in
    let passed : first_of tests ≡ None = (unless-makes (first_of tests) _ edits e).0 in
    let other : (t.id == m) ≡ false = open-other t.id m u s h (((((((each_none tests passed).1).1).1).1).1).0) l k in
    elsewhere_or_refused m (first_of tests) _ edits
    (adds_index m _ t.id _ other, tt) e

pub create_bookmark-elsewhere : (m session : ℕ) (s : State) (name : List ℕ) (edits : List CellEdit) → meant_by_create_bookmark session s name ≡ Makes edits → AreElsewhere m edits
unfolding meant_by_create_bookmark
create_bookmark-elsewhere m session s name edits e =
    elsewhere_or_refused m _ _ edits (record { before = empty_apart m; after = record { table = refl; column = refl }; index = refl }, tt) e

pub subscribe-elsewhere : (m session : ℕ) (s : State) (name : List ℕ) (o : Option Table) (edits : List CellEdit) → subscribe session s name o ≡ Makes edits → AreElsewhere m edits
subscribe-elsewhere m session s name None edits e = absurd (refuses_none _ _ edits e)
subscribe-elsewhere m session s name (Some t) edits e =
    elsewhere_or_refused m _ _ edits (record { before = empty_apart m; after = record { table = refl; column = refl }; index = refl }, tt) e

pub set-elsewhere : (m : ℕ) (o : Option PlacedRow) (set : ℕ) (end : Position) → AreElsewhere m (set_edit o set end ∷ [])
set-elsewhere m None set end = (record { before = empty_apart m; after = record { table = refl; column = refl }; index = refl }, tt)
set-elsewhere m (Some r) set end = (record { before = record { table = refl; column = refl }; after = record { table = refl; column = refl }; index = refl }, tt)

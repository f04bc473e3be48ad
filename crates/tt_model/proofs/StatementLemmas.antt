-- What a statement makes may be done.
use Rattle.std.proofs.Common.{◌≡◌, ◌≤◌, ◌<◌, arith, ℕ, Bool, true, false, cond, ◌&&◌, ◌||◌, nat_eq, List, [], ◌∷◌, filter, find, map, Option, Some, None, unwrap_or, refl, sym, ap, ◌∙◌, subst}
use Rattle.std.proofs.lemmas.Bool.{or_parts, eqb-true, false_from_ne_true}
use Rattle.std.specs.Str.{bytes_eq}
use Rattle.std.specs.Ordering.{nat_cmp}
use Rattle.std.specs.Prelude.{option_map, Result, Ok, Err}
use Rattle.std.specs.Option.{option_or}
use Rattle.tt_value.specs.declared.value.Row.{Row}
use Rattle.tt_value.specs.declared.value.Cell.{Cell}
use Rattle.tt_value.specs.declared.value.Cell.TheVariants.{Empty}
use Rattle.tt_value.specs.declared.value.Value.{Value}
use Rattle.tt_value.specs.declared.refusal.Refusal.{Refusal}
use Rattle.tt_value.specs.declared.refusal.Refusal.TheVariants.{LockConflict}
use Rattle.tt_parse.specs.declared.command.SetItem.{SetItem}
use Rattle.tt_parse.specs.declared.cond.Cond.{Cond}
use Rattle.tt_model.specs.Committed.{Cells}
use Rattle.tt_model.specs.Holders.{other_holder, has_held}
use Rattle.tt_model.specs.Tables.{Table, PlacedRow, table_named, table_of, rows_of, by_number, number_at, catalog_of}
use Rattle.tt_model.specs.Conditions.{takes}
use Rattle.tt_model.specs.Meaning.{Meant, Makes, unless, first_of, makes, unless_row, and_edit, conflict, key_name, full, rows_seen, rows_taken, key_order, delete_row_refusal, cond_refusal, update_row_refusal, update_row_tests, update_rows, set_values, with_values, with_row, sets_refusal, insert_refusal, inserted_row, insert_into, delete_from, update_in, meant_by_insert, meant_by_update, meant_by_delete}
use Rattle.tt_model.specs.State.{State, trail, view, cells_of, bound, catalog}
use Rattle.tt_model.specs.declared.definition.CellEdit.{CellEdit}
use Rattle.tt_model.specs.Steady.{MayChange}
use Rattle.tt_model.specs.Sound.{whole_table, IsUserTable, IsSound, MayEdit}
use Rattle.tt_model.specs.Step.{number_for}
use Rattle.tt_model.proofs.ConflictLemmas.{has_own_key}
use Rattle.tt_model.proofs.CatalogLemmas.{AreOfUsers}
use Rattle.tt_model.proofs.SoundLines.{writes}
use Rattle.tt_model.proofs.EditLemmas.{is_at, has_edit, AreSeen, AreApart, AreNew, seen-MayEdit, new-MayEdit, row-MayChange}
use Rattle.tt_model.proofs.RowLemmas.{has_place, AreApartRows, LieIn, AreRows, flipped, are_rows-rows_of, are_rows-filter, are_rows-in_order}

-- ---- refusals that don't come

pub unless-makes : (o : Option Refusal) (m : Meant) (edits : List CellEdit) → unless o m ≡ Makes edits → (o ≡ None) × (m ≡ Makes edits)
unless-makes None m edits h = (refl, h)
unless-makes (Some r) m edits h = let no : ⊥ = cc in absurd no

pub makes_same : (es edits : List CellEdit) → Makes es ≡ Makes edits → es ≡ edits
makes_same es edits h = cc

pub first_none : (o : Option Refusal) (os : List (Option Refusal)) → first_of (o ∷ os) ≡ None → (o ≡ None) × (first_of os ≡ None)
first_none None os h = (refl, h)
first_none (Some r) os h = let no : ⊥ = cc in absurd no

abbrev pub AllNone : List (Option Refusal) → Type 0
AllNone [] = Unit {0}
AllNone (o ∷ os) = (o ≡ None) × AllNone os

pub each_none : (os : List (Option Refusal)) → first_of os ≡ None → AllNone os
each_none [] h = tt
each_none (o ∷ os) h = let parts : (o ≡ None) × (first_of os ≡ None) = first_none o os h in (parts.0, each_none os (parts.1))

-- Of these rows the keys are held by no other transaction.
abbrev FreeKeys : ℕ → State → Table → List PlacedRow → Type 0
FreeKeys session s t [] = Unit {0}
FreeKeys session s t (r ∷ rows) = (conflict (s.own session) (trail s) (key_name t (r.1)) ≡ None) × FreeKeys session s t rows

-- The edits are of these rows, one each.
abbrev MadeOf : Table → List PlacedRow → List CellEdit → Type 0
MadeOf t [] [] = Unit {0}
MadeOf t (r ∷ rows) (e ∷ edits) = (e.place ≡ Some (r.0)) × (e.before ≡ full t (r.1)) × MadeOf t rows edits
MadeOf t [] (e ∷ edits) = ⊥
MadeOf t (r ∷ rows) [] = ⊥

apart_edit : (t : Table) (p : ℕ) (rows : List PlacedRow) (edits : List CellEdit) → has_place p rows ≡ false → MadeOf t rows edits → has_edit p edits ≡ false
apart_edit t p [] [] n m = refl
apart_edit t p (r ∷ rows) (e ∷ edits) n m =
    let parts : (nat_eq p (r.0) ≡ false) × (has_place p rows ≡ false) = or_parts (nat_eq p (r.0)) (has_place p rows) n in
    ap (λ b. b || has_edit p edits) (ap (is_at p) (m.0) ∙ flipped p (r.0) (parts.0)) ∙ apart_edit t p rows edits (parts.1) (m.2)
apart_edit t p [] (e ∷ edits) n m = absurd m
apart_edit t p (r ∷ rows) [] n m = absurd m

place_same : (p q : ℕ) → Some p ≡ Some q → q ≡ p
place_same p q h = cc

made-apart : (t : Table) (rows : List PlacedRow) (edits : List CellEdit) → AreApartRows rows → MadeOf t rows edits → AreApart edits
made-apart t [] [] d m = tt
made-apart t (r ∷ rows) (e ∷ edits) d m = (
  λ p h. ap (λ q. has_edit q edits) (place_same (r.0) p (sym (m.0) ∙ h)) ∙ apart_edit t (r.0) rows edits (d.0) (m.2),
  made-apart t rows edits (d.1) (m.2),
)
made-apart t [] (e ∷ edits) d m = absurd m
made-apart t (r ∷ rows) [] d m = absurd m

pub no_other : (o : Option ℕ) → option_map LockConflict o ≡ None → o ≡ None
no_other None h = refl
no_other (Some t) h = let no : ⊥ = cc in absurd no

made-seen : (session : ℕ) (s : State) (t : Table) (rows : List PlacedRow) (edits : List CellEdit) → IsSound s → LieIn t.id (view session s) rows →
    FreeKeys session s t rows → MadeOf t rows edits → AreSeen (number_for (s.own session) s) s edits
made-seen session s t [] [] h l k m = tt
made-seen session s t (r ∷ rows) (e ∷ edits) h l k m = (
  r.0,
  m.0,
  subst (λ (c : Cell). MayChange s.found.cells s.entries (number_for (s.own session) s) (r.0) c) (sym (m.1))
      (row-MayChange s (r.0) (full t (r.1)) (key_name t (r.1)) (s.own session) h.entries (λ u is. (h.owned).live session u is)
      (l.0) (has_own_key t.id t.key (r.1)) (no_other (other_holder (s.own session) (key_name t (r.1)) (trail s)) (k.0))),
  made-seen session s t rows edits h (l.1) (k.1) (m.2),
)
made-seen session s t [] (e ∷ edits) h l k m = absurd m
made-seen session s t (r ∷ rows) [] h l k m = absurd m

pub taken_rows : (session : ℕ) (s : State) (cond : Option Cond) (t : Table) → AreRows t.id (view session s) (rows_taken cond t (rows_seen session s t))
taken_rows session s cond t =
    are_rows-in_order t.id (view session s) (key_order t) (filter (λ (r : PlacedRow). takes cond t (r.1)) (rows_seen session s t))
    (are_rows-filter t.id (view session s) (λ (r : PlacedRow). takes cond t (r.1)) (rows_seen session s t) (are_rows-rows_of t.id (bound s) (view session s)))

-- Edits of rows that a session sees may be made.
may_change_rows : (session : ℕ) (s : State) (cond : Option Cond) (t : Table) (edits : List CellEdit) → IsSound s →
    FreeKeys session s t (rows_taken cond t (rows_seen session s t)) → MadeOf t (rows_taken cond t (rows_seen session s t)) edits →
    MayEdit (number_for (s.own session) s) edits s
may_change_rows session s cond t edits h k m =
    let rows : AreRows t.id (view session s) (rows_taken cond t (rows_seen session s t)) = taken_rows session s cond t in
    seen-MayEdit (number_for (s.own session) s) edits s
    (made-seen session s t (rows_taken cond t (rows_seen session s t)) edits h rows.lie k m)
    (made-apart t (rows_taken cond t (rows_seen session s t)) edits rows.apart m)

-- ---- delete

deletes-made : (t : Table) (rows : List PlacedRow) → MadeOf t rows (map (λ (r : PlacedRow). record { place = Some (r.0); before = full t (r.1); after = Empty }) rows)
deletes-made t [] = tt
deletes-made t (r ∷ rows) = (refl, refl, deletes-made t rows)

deletes-free : (session : ℕ) (s : State) (t : Table) (rows : List PlacedRow) → first_of (map (delete_row_refusal session s t) rows) ≡ None → FreeKeys session s t rows
deletes-free session s t [] h = tt
deletes-free session s t (r ∷ rows) h =
    let parts : (delete_row_refusal session s t r ≡ None) × (first_of (map (delete_row_refusal session s t) rows) ≡ None)
    = first_none (delete_row_refusal session s t r) (map (delete_row_refusal session s t) rows) h in
    ((first_none (conflict (s.own session) (trail s) (key_name t (r.1))) _ (parts.0)).0, deletes-free session s t rows (parts.1))

delete-may : (session : ℕ) (s : State) (cond : Option Cond) (o : Option Table) (edits : List CellEdit) → IsSound s → delete_from session s cond o ≡ Makes edits →
    MayEdit (number_for (s.own session) s) edits s
delete-may session s cond None edits h m = let no : ⊥ = cc in absurd no
delete-may session s cond (Some t) edits h m =
    let rows : List PlacedRow = rows_taken cond t (rows_seen session s t) in
    let parts : (first_of (cond_refusal cond t ∷ map (delete_row_refusal session s t) rows) ≡ None) × (Makes (map (λ (r : PlacedRow). record { place = Some (r.0); before = full t (r.1); after = Empty }) rows) ≡ Makes edits)
    = unless-makes (first_of (cond_refusal cond t ∷ map (delete_row_refusal session s t) rows)) _ edits m in
    may_change_rows session s cond t edits h
    (deletes-free session s t rows ((first_none (cond_refusal cond t) (map (delete_row_refusal session s t) rows) (parts.0)).1))
    (subst (MadeOf t rows) (makes_same _ edits (parts.1)) (deletes-made t rows))

pub delete-MayEdit : (session : ℕ) (s : State) (name : List ℕ) (cond : Option Cond) (edits : List CellEdit) → IsSound s →
    meant_by_delete session s name cond ≡ Makes edits → MayEdit (number_for (s.own session) s) edits s
unfolding meant_by_delete
delete-MayEdit session s name cond edits h m = delete-may session s cond (table_named name (catalog s)) edits h m

-- ---- update

result_of : Result (List CellEdit) Refusal → List CellEdit
result_of (Ok es) = es
result_of (Err r) = []

pub ok_same : (es edits : List CellEdit) → (let r : Result (List CellEdit) Refusal = Ok es in r) ≡ Ok edits → es ≡ edits
unfolding result_of
ok_same es edits h = ap result_of h

pub makes-ok : (r : Result (List CellEdit) Refusal) (edits : List CellEdit) → makes r ≡ Makes edits → r ≡ Ok edits
makes-ok (Ok es) edits h = ap Ok (makes_same es edits h)
makes-ok (Err r) edits h = let no : ⊥ = cc in absurd no

-- What is there behind a first edit.
pub record HasFirst (edit : CellEdit) (rest : Result (List CellEdit) Refusal) (edits : List CellEdit) : Type 0 where
  pub others : List CellEdit
  pub whole : edit ∷ others ≡ edits
  pub made : rest ≡ Ok others

and_edit-first : (edit : CellEdit) (rest : Result (List CellEdit) Refusal) (edits : List CellEdit) → and_edit edit rest ≡ Ok edits → HasFirst edit rest edits
and_edit-first edit (Ok es) edits h = record { others = es; whole = ok_same (edit ∷ es) edits h; made = refl }
and_edit-first edit (Err r) edits h = let no : ⊥ = cc in absurd no

pub unless_row-first : (o : Option Refusal) (edit : CellEdit) (rest : Result (List CellEdit) Refusal) (edits : List CellEdit) → unless_row o edit rest ≡ Ok edits →
    (o ≡ None) × HasFirst edit rest edits
unless_row-first None edit rest edits h = (refl, and_edit-first edit rest edits h)
unless_row-first (Some r) edit rest edits h = let no : ⊥ = cc in absurd no

update_key : (session : ℕ) (s : State) (t : Table) (new : List (ℕ × Value)) (r : PlacedRow) (row : Row) (rows : List PlacedRow) →
    update_row_refusal session s t (record { before = r; after = row; values = new; seen = rows }) ≡ None → conflict (s.own session) (trail s) (key_name t (r.1)) ≡ None
update_key session s t new r row rows h = (((((each_none (update_row_tests session s t (record { before = r; after = row; values = new; seen = rows })) h).1).1).1).1).0

updates_made : (session : ℕ) (s : State) (t : Table) (sets : List SetItem) (all rest : List PlacedRow) (edits : List CellEdit) →
    update_rows session s t sets all rest ≡ Ok edits → MadeOf t rest edits × FreeKeys session s t rest
updates_made session s t sets all [] edits h = (subst (MadeOf t []) (ok_same [] edits h) tt, tt)
updates_made session s t sets all (r ∷ rest) edits h =
    let new : List (ℕ × Value) = set_values t (r.1) sets in
    let row : Row = record { values = with_values new ((r.1).values) } in
    let edit : CellEdit = record { place = Some (r.0); before = full t (r.1); after = full t row } in
    let first : (update_row_refusal session s t (record { before = r; after = row; values = new; seen = all }) ≡ None) × HasFirst edit (update_rows session s t sets (with_row (r.0, row) all) rest) edits
    = unless_row-first (update_row_refusal session s t (record { before = r; after = row; values = new; seen = all })) edit (update_rows session s t sets (with_row (r.0, row) all) rest) edits h in
    let others : MadeOf t rest ((first.1).others) × FreeKeys session s t rest
    = updates_made session s t sets (with_row (r.0, row) all) rest ((first.1).others) ((first.1).made) in
    (subst (MadeOf t (r ∷ rest)) ((first.1).whole) (refl, refl, others.0), (update_key session s t new r row all (first.0), others.1))

update-may : (session : ℕ) (s : State) (sets : List SetItem) (cond : Option Cond) (o : Option Table) (edits : List CellEdit) → IsSound s →
    update_in session s sets cond o ≡ Makes edits → MayEdit (number_for (s.own session) s) edits s
update-may session s sets cond None edits h m = let no : ⊥ = cc in absurd no
update-may session s sets cond (Some t) edits h m =
    let seen : List PlacedRow = rows_seen session s t in
    let parts : (option_or (sets_refusal t [] sets) (cond_refusal cond t) ≡ None) × (makes (update_rows session s t sets seen (rows_taken cond t seen)) ≡ Makes edits)
    = unless-makes (option_or (sets_refusal t [] sets) (cond_refusal cond t)) (makes (update_rows session s t sets seen (rows_taken cond t seen))) edits m in
    let made : MadeOf t (rows_taken cond t seen) edits × FreeKeys session s t (rows_taken cond t seen)
    = updates_made session s t sets seen (rows_taken cond t seen) edits (makes-ok (update_rows session s t sets seen (rows_taken cond t seen)) edits (parts.1)) in
    may_change_rows session s cond t edits h (made.1) (made.0)

pub update-MayEdit : (session : ℕ) (s : State) (name : List ℕ) (sets : List SetItem) (cond : Option Cond) (edits : List CellEdit) → IsSound s →
    meant_by_update session s name sets cond ≡ Makes edits → MayEdit (number_for (s.own session) s) edits s
unfolding meant_by_update
update-MayEdit session s name sets cond edits h m = update-may session s sets cond (table_named name (catalog s)) edits h m

-- ---- insert

insert-new : (session : ℕ) (s : State) (values : List Value) (o : Option Table) (edits : List CellEdit) → insert_into session s values o ≡ Makes edits → AreNew edits
insert-new session s values None edits m = let no : ⊥ = cc in absurd no
insert-new session s values (Some t) edits m =
    subst AreNew (makes_same _ edits ((unless-makes (insert_refusal session s t values (inserted_row t values)) _ edits m).1)) (refl, refl, tt)

pub insert-MayEdit : (session : ℕ) (s : State) (name : List ℕ) (values : List Value) (edits : List CellEdit) → IsSound s →
    meant_by_insert session s name values ≡ Makes edits → MayEdit (number_for (s.own session) s) edits s
unfolding meant_by_insert
insert-MayEdit session s name values edits h m =
    new-MayEdit (number_for (s.own session) s) edits s h.entries (writes s session h) (insert-new session s values (table_named name (catalog s)) edits m)

-- ---- statements change users' tables

pub some_table : (u t : Table) → Some u ≡ Some t → u ≡ t
some_table u t h = ap (λ o. unwrap_or o u) h

both_false : (x y : Bool) → x ≡ false → y ≡ false → (x || y) ≡ false
both_false x y e f = ap (λ b. b || y) e ∙ f

UserTables : List Table → Type 0
UserTables [] = Unit {0}
UserTables (t ∷ ts) = (16 ≤ t.id) × UserTables ts

found_user : (p : Table → Bool) (t u : Table) (ts : List Table) → 16 ≤ u.id → (find p ts ≡ Some t → 16 ≤ t.id) → (c : Bool) → cond c (Some u) (find p ts) ≡ Some t → 16 ≤ t.id
found_user p t u ts low ih true h = let same : u ≡ t = some_table u t h in subst (λ (v : Table). 16 ≤ v.id) same low
found_user p t u ts low ih false h = ih h

find-user : (p : Table → Bool) (t : Table) (ts : List Table) → UserTables ts → find p ts ≡ Some t → 16 ≤ t.id
unfolding UserTables
find-user p t [] l h = let no : ⊥ = cc in absurd no
find-user p t (u ∷ ts) l h = found_user p t u ts (l.0) (λ k. find-user p t ts (l.1) k) (p u) h

tables-user : (columns rows : List PlacedRow) (cells : Cells) → ((q : ℕ) → IsUserTable (cells q)) → LieIn 1 cells rows → UserTables (map (table_of columns) rows)
unfolding UserTables
tables-user columns [] cells u l = tt
tables-user columns (r ∷ rows) cells u l = (u (r.0) (r.1) (l.0), tables-user columns rows cells u (l.1))

pub table-user : (s : State) (name : List ℕ) (t : Table) → IsSound s → table_named name (catalog s) ≡ Some t → 16 ≤ t.id
unfolding catalog_of
table-user s name t h e =
    let lie : LieIn 1 (cells_of s) (by_number 0 (rows_of 1 (bound s) (cells_of s)))
    = (are_rows-in_order 1 (cells_of s) (λ a b. nat_cmp (number_at 0 a) (number_at 0 b)) (rows_of 1 (bound s) (cells_of s)) (are_rows-rows_of 1 (bound s) (cells_of s))).lie in
    find-user (λ t. bytes_eq t.name name) t (map (table_of (rows_of 2 (bound s) (cells_of s))) (by_number 0 (rows_of 1 (bound s) (cells_of s))))
    (tables-user (rows_of 2 (bound s) (cells_of s)) (by_number 0 (rows_of 1 (bound s) (cells_of s))) (cells_of s) (h.catalog).tables lie) e

other_table : (table : ℕ) (t : Table) → table < 16 → 16 ≤ t.id → nat_eq table t.id ≡ false
other_table table t low user = false_from_ne_true (nat_eq table t.id) (λ y. let e : table ≡ t.id = eqb-true table t.id y in omega (arith, low, user, e))

full_of_user : (table : ℕ) (t : Table) (row : Row) → table < 16 → 16 ≤ t.id → has_held (whole_table table) (full t row) ≡ false
full_of_user table t row low user = ap (λ b. b && true) (other_table table t low user)

deletes_of_users : (t : Table) (rows : List PlacedRow) → 16 ≤ t.id → AreOfUsers (map (λ (r : PlacedRow). record { place = Some (r.0); before = full t (r.1); after = Empty }) rows)
deletes_of_users t [] user = tt
deletes_of_users t (r ∷ rows) user = (λ table low. ap (λ b. b || false) (full_of_user table t (r.1) low user), deletes_of_users t rows user)

delete_users : (session : ℕ) (s : State) (cond : Option Cond) (o : Option Table) (edits : List CellEdit) → ((t : Table) → o ≡ Some t → 16 ≤ t.id) →
    delete_from session s cond o ≡ Makes edits → AreOfUsers edits
delete_users session s cond None edits user m = let no : ⊥ = cc in absurd no
delete_users session s cond (Some t) edits user m =
    let rows : List PlacedRow = rows_taken cond t (rows_seen session s t) in
    subst AreOfUsers (makes_same _ edits ((unless-makes (first_of (cond_refusal cond t ∷ map (delete_row_refusal session s t) rows)) _ edits m).1)) (deletes_of_users t rows (user t refl))

pub delete-users : (session : ℕ) (s : State) (name : List ℕ) (cond : Option Cond) (edits : List CellEdit) → IsSound s →
    meant_by_delete session s name cond ≡ Makes edits → AreOfUsers edits
unfolding meant_by_delete
delete-users session s name cond edits h m = delete_users session s cond (table_named name (catalog s)) edits (λ t e. table-user s name t h e) m

updates_of_users : (session : ℕ) (s : State) (t : Table) (sets : List SetItem) (all rest : List PlacedRow) (edits : List CellEdit) → 16 ≤ t.id →
    update_rows session s t sets all rest ≡ Ok edits → AreOfUsers edits
updates_of_users session s t sets all [] edits user h = subst AreOfUsers (ok_same [] edits h) tt
updates_of_users session s t sets all (r ∷ rest) edits user h =
    let new : List (ℕ × Value) = set_values t (r.1) sets in
    let row : Row = record { values = with_values new ((r.1).values) } in
    let edit : CellEdit = record { place = Some (r.0); before = full t (r.1); after = full t row } in
    let first : (update_row_refusal session s t (record { before = r; after = row; values = new; seen = all }) ≡ None) × HasFirst edit (update_rows session s t sets (with_row (r.0, row) all) rest) edits
    = unless_row-first (update_row_refusal session s t (record { before = r; after = row; values = new; seen = all })) edit (update_rows session s t sets (with_row (r.0, row) all) rest) edits h in
    subst AreOfUsers ((first.1).whole) (
      λ table low. both_false (has_held (whole_table table) (full t (r.1))) (has_held (whole_table table) (full t row)) (full_of_user table t (r.1) low user) (full_of_user table t row low user),
      updates_of_users session s t sets (with_row (r.0, row) all) rest ((first.1).others) user ((first.1).made),
    )

update_users : (session : ℕ) (s : State) (sets : List SetItem) (cond : Option Cond) (o : Option Table) (edits : List CellEdit) → ((t : Table) → o ≡ Some t → 16 ≤ t.id) →
    update_in session s sets cond o ≡ Makes edits → AreOfUsers edits
update_users session s sets cond None edits user m = let no : ⊥ = cc in absurd no
update_users session s sets cond (Some t) edits user m =
    let seen : List PlacedRow = rows_seen session s t in
    updates_of_users session s t sets seen (rows_taken cond t seen) edits (user t refl)
    (makes-ok (update_rows session s t sets seen (rows_taken cond t seen)) edits
    ((unless-makes (option_or (sets_refusal t [] sets) (cond_refusal cond t)) (makes (update_rows session s t sets seen (rows_taken cond t seen))) edits m).1))

pub update-users : (session : ℕ) (s : State) (name : List ℕ) (sets : List SetItem) (cond : Option Cond) (edits : List CellEdit) → IsSound s →
    meant_by_update session s name sets cond ≡ Makes edits → AreOfUsers edits
unfolding meant_by_update
update-users session s name sets cond edits h m = update_users session s sets cond (table_named name (catalog s)) edits (λ t e. table-user s name t h e) m

insert_users : (session : ℕ) (s : State) (values : List Value) (o : Option Table) (edits : List CellEdit) → ((t : Table) → o ≡ Some t → 16 ≤ t.id) →
    insert_into session s values o ≡ Makes edits → AreOfUsers edits
insert_users session s values None edits user m = let no : ⊥ = cc in absurd no
insert_users session s values (Some t) edits user m =
    subst AreOfUsers (makes_same _ edits ((unless-makes (insert_refusal session s t values (inserted_row t values)) _ edits m).1))
    (λ table low. full_of_user table t (inserted_row t values) low (user t refl), tt)

pub insert-users : (session : ℕ) (s : State) (name : List ℕ) (values : List Value) (edits : List CellEdit) → IsSound s →
    meant_by_insert session s name values ≡ Makes edits → AreOfUsers edits
unfolding meant_by_insert
insert-users session s name values edits h m = insert_users session s values (table_named name (catalog s)) edits (λ t e. table-user s name t h e) m

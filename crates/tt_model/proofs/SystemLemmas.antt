-- Transactions of their own that change or delete rows of system tables.
use Rattle.std.proofs.Common.{◌≡◌, ◌<◌, inl, inr, ℕ, Bool, true, false, cond, ◌&&◌, ◌||◌, nat_eq, find, map, List, [], ◌∷◌, ◌++◌, Option, Some, None, unwrap_or, refl, sym, ap, ◌∙◌, subst, arith, true≢false}
use Rattle.std.proofs.lemmas.Bool.{eq-eqb, eqb-true, or_cases, or_parts, or_left, or_right, and_from, both_ways, false_from_ne_true}
use Rattle.std.proofs.lemmas.List.Folds.{list_any-append}
use Rattle.std.specs.List.{list_any}
use Rattle.tt_value.specs.declared.value.Row.{Row}
use Rattle.tt_value.specs.declared.value.Cell.{Cell}
use Rattle.tt_value.specs.declared.value.Cell.TheVariants.{Empty, Full}
use Rattle.tt_model.specs.Committed.{Cells, committed}
use Rattle.tt_model.specs.Live.{live, is_live, touched}
use Rattle.tt_model.specs.Holders.{is_held_by, has_held, other_holder}
use Rattle.tt_model.specs.Tables.{PlacedRow}
use Rattle.tt_model.specs.System.{deletes}
use Rattle.tt_model.specs.State.{State, next, cells_of}
use Rattle.tt_model.specs.declared.definition.CellEdit.{CellEdit}
use Rattle.tt_model.specs.Steady.{MayChange}
use Rattle.tt_model.specs.Sound.{whole_table, IsSound, MayEdit}
use Rattle.tt_model.proofs.ConflictLemmas.{seen_row-none}
use Rattle.tt_model.proofs.SteadySteps.{steady-grown}
use Rattle.tt_model.proofs.EditLemmas.{is_at, has_edit, AreSeen, AreApart, seen-MayEdit, fresh_entries}
use Rattle.tt_model.proofs.RowLemmas.{has_place, AreApartRows, LieIn, AreRows, flipped}
use Rattle.tt_model.proofs.CatalogLemmas.{LeaveUserTables, not_held_user}

-- ---- a row of a system table may be changed

pub none_found : (f : ℕ → Bool) (us : List ℕ) → ((u : ℕ) → list_any (nat_eq u) us ≡ true → f u ≡ false) → find f us ≡ None
none_found f [] h = refl
none_found f (u ∷ us) h =
    ap (λ c. cond c (Some u) (find f us)) (h u (or_left (nat_eq u u) (list_any (nat_eq u) us) (eq-eqb u u refl)))
    ∙ none_found f us (λ v l. h v (or_right (nat_eq v u) (list_any (nat_eq v) us) l))

nobody_holds : (table : ℕ) (s : State) → IsSound s → table < 16 → other_holder None (whole_table table) s.entries ≡ None
unfolding other_holder
nobody_holds table s h low =
    none_found (λ t. is_held_by (whole_table table) s.entries t && true) (live s.entries) (λ u l. ap (λ b. b && true) ((h.catalog).users u table l low))

pub system_row-MayChange : (s : State) (p table : ℕ) (row : Row) → IsSound s → table < 16 → cells_of s p ≡ Full table row →
    MayChange s.found.cells s.entries (next s) p (Full table row)
system_row-MayChange s p table row h low e =
    let has : has_held (whole_table table) (committed s.found.cells s.entries p) ≡ true
    = ap (has_held (whole_table table)) e ∙ and_from (nat_eq table table) true (eq-eqb table table refl) refl in
    let nobody : (u : ℕ) → is_live u s.entries ≡ true → touched u p s.entries ≡ false
    = seen_row-none s.found.cells s.entries p (whole_table table) ((h.entries).grown) has (nobody_holds table s h low) in
    record {
      before = sym e ∙ sym ((steady-grown s.found.cells s.entries ((h.entries).grown)).untouched p nobody);
      mine = λ u l k. absurd (both_ways (touched u p s.entries) (nobody u l) k);
      fresh = fresh_entries (next s) s h.entries (inr refl);
    }

-- ---- edits of such rows

-- An edit of a row that lies in a system table.
pub record IsOfRow (s : State) (edit : CellEdit) : Type 0 where
  pub at : ℕ
  pub table : ℕ
  pub row : Row
  pub place : edit.place ≡ Some at
  pub before : edit.before ≡ Full table row
  pub low : table < 16
  pub lies : cells_of s at ≡ Full table row

abbrev pub AreOfRows : State → List CellEdit → Type 0
AreOfRows s [] = Unit {0}
AreOfRows s (edit ∷ edits) = IsOfRow s edit × AreOfRows s edits

seen-of_rows : (s : State) (edits : List CellEdit) → IsSound s → AreOfRows s edits → AreSeen (next s) s edits
seen-of_rows s [] h o = tt
seen-of_rows s (edit ∷ edits) h o = (
  (o.0).at,
  (o.0).place,
  subst (λ (c : Cell). MayChange s.found.cells s.entries (next s) ((o.0).at) c) (sym ((o.0).before))
      (system_row-MayChange s ((o.0).at) ((o.0).table) ((o.0).row) h ((o.0).low) ((o.0).lies)),
  seen-of_rows s edits h (o.1),
)

pub of_rows-MayEdit : (s : State) (edits : List CellEdit) → IsSound s → AreOfRows s edits → AreApart edits → MayEdit (next s) edits s
of_rows-MayEdit s edits h o a = seen-MayEdit (next s) edits s (seen-of_rows s edits h o) a

-- ---- the deletes of rows of one table

pub deletes-of_rows : (s : State) (table : ℕ) (rows : List PlacedRow) → table < 16 → LieIn table (cells_of s) rows → AreOfRows s (map (deletes table) rows)
deletes-of_rows s table [] low l = tt
deletes-of_rows s table (r ∷ rows) low l = (
  record { at = r.0; table = table; row = r.1; place = refl; before = refl; low = low; lies = l.0 },
  deletes-of_rows s table rows low (l.1),
)

no_delete : (table p : ℕ) (rows : List PlacedRow) → has_place p rows ≡ false → has_edit p (map (deletes table) rows) ≡ false
no_delete table p [] n = refl
no_delete table p (r ∷ rows) n =
    let parts : (nat_eq p (r.0) ≡ false) × (has_place p rows ≡ false) = or_parts (nat_eq p (r.0)) (has_place p rows) n in
    ap (λ b. b || has_edit p (map (deletes table) rows)) (flipped p (r.0) (parts.0)) ∙ no_delete table p rows (parts.1)

place_same : (p q : ℕ) → Some p ≡ Some q → p ≡ q
place_same p q h = ap (λ o. unwrap_or o p) h

pub deletes-apart : (table : ℕ) (rows : List PlacedRow) → AreApartRows rows → AreApart (map (deletes table) rows)
deletes-apart table [] a = tt
deletes-apart table (r ∷ rows) a = (
  λ p e. ap (λ q. has_edit q (map (deletes table) rows)) (sym (place_same (r.0) p e)) ∙ no_delete table (r.0) rows (a.0),
  deletes-apart table rows (a.1),
)

pub deletes-leave : (table : ℕ) (rows : List PlacedRow) → LeaveUserTables (map (deletes table) rows)
deletes-leave table [] = tt
deletes-leave table (r ∷ rows) = (not_held_user Empty refl, deletes-leave table rows)

-- ---- edits of several tables

-- Each place that they name lies in a table of a lesser number.
abbrev pub AreBelow : ℕ → Cells → List CellEdit → Type 0
AreBelow table cells edits = (p : ℕ) → has_edit p edits ≡ true → (u : ℕ) × (u < table) × (row : Row) × (cells p ≡ Full u row)

pub deleted_in : (table p : ℕ) (cells : Cells) (rows : List PlacedRow) → LieIn table cells rows → has_edit p (map (deletes table) rows) ≡ true → (row : Row) × (cells p ≡ Full table row)
deleted_in table p cells [] l h = absurd (true≢false (sym h))
deleted_in table p cells (r ∷ rows) l h = elim (or_cases (nat_eq (r.0) p) (has_edit p (map (deletes table) rows)) h) [
  | inl y ↦ (r.1, ap cells (sym (eqb-true (r.0) p y)) ∙ l.0)
  | inr y ↦ deleted_in table p cells rows (l.1) y
]

pub below-deletes : (table u : ℕ) (cells : Cells) (rows : List PlacedRow) → u < table → LieIn u cells rows → AreBelow table cells (map (deletes u) rows)
below-deletes table u cells rows low l p h = let found : (row : Row) × (cells p ≡ Full u row) = deleted_in u p cells rows l h in (u, low, found.0, found.1)

pub below-append : (table : ℕ) (cells : Cells) (xs ys : List CellEdit) → AreBelow table cells xs → AreBelow table cells ys → AreBelow table cells (xs ++ ys)
below-append table cells xs ys b c p h = elim (or_cases (has_edit p xs) (has_edit p ys) (sym (list_any-append (λ (e : CellEdit). is_at p e.place) xs ys) ∙ h)) [
  | inl y ↦ b p y
  | inr y ↦ c p y
]

table_of_cell : ℕ → Cell → ℕ
table_of_cell other Empty = other
table_of_cell other (Full table row) = table

not_both : (table u : ℕ) (c : Cell) (row other : Row) → c ≡ Full table row → c ≡ Full u other → u < table → ⊥
unfolding table_of_cell
not_both table u c row other e f low = let same : table ≡ u = ap (table_of_cell 0) (sym e ∙ f) in omega (arith, same, low)

append_step : (xs ys : List CellEdit) (x : CellEdit) → ((p : ℕ) → x.place ≡ Some p → has_edit p xs ≡ false) →
    ((p : ℕ) → has_edit p (x ∷ xs) ≡ true → has_edit p ys ≡ true → ⊥) → (p : ℕ) → x.place ≡ Some p → has_edit p (xs ++ ys) ≡ false
append_step xs ys x a d p e =
    let here : is_at p x.place ≡ true = ap (is_at p) e ∙ eq-eqb p p refl in
    list_any-append (λ (e : CellEdit). is_at p e.place) xs ys
    ∙ (ap (λ b. b || has_edit p ys) (a p e)
    ∙ false_from_ne_true (has_edit p ys) (λ y. d p (or_left (is_at p x.place) (has_edit p xs) here) y))

apart-append : (xs ys : List CellEdit) → AreApart xs → AreApart ys → ((p : ℕ) → has_edit p xs ≡ true → has_edit p ys ≡ true → ⊥) → AreApart (xs ++ ys)
apart-append [] ys a b d = b
apart-append (x ∷ xs) ys a b d = (
  append_step xs ys x (a.0) d,
  apart-append xs ys (a.1) b (λ p h k. d p (or_right (is_at p x.place) (has_edit p xs) h) k),
)

-- The deletes of a table, and edits of tables of lesser numbers.
pub apart-deletes : (table : ℕ) (cells : Cells) (rows : List PlacedRow) (ys : List CellEdit) → AreRows table cells rows → AreApart ys → AreBelow table cells ys → AreApart (map (deletes table) rows ++ ys)
apart-deletes table cells rows ys r a b =
    apart-append (map (deletes table) rows) ys (deletes-apart table rows r.apart) a
    (λ p h k.
    let mine : (row : Row) × (cells p ≡ Full table row) = deleted_in table p cells rows r.lie h in
    let other : (u : ℕ) × (u < table) × (row : Row) × (cells p ≡ Full u row) = b p k in
    not_both table (other.0) (cells p) (mine.0) (other.2) (mine.1) (other.3) (other.1))

pub of_rows-append : (s : State) (xs ys : List CellEdit) → AreOfRows s xs → AreOfRows s ys → AreOfRows s (xs ++ ys)
of_rows-append s [] ys a b = b
of_rows-append s (x ∷ xs) ys a b = (a.0, of_rows-append s xs ys (a.1) b)

pub leave-append : (xs ys : List CellEdit) → LeaveUserTables xs → LeaveUserTables ys → LeaveUserTables (xs ++ ys)
leave-append [] ys a b = b
leave-append (x ∷ xs) ys a b = (a.0, leave-append xs ys (a.1) b)

-- ---- rows that are found

lies_step : (table : ℕ) (cells : Cells) (r x : PlacedRow) (o : Option PlacedRow) → cells (x.0) ≡ Full table (x.1) → (o ≡ Some r → cells (r.0) ≡ Full table (r.1)) →
    (c : Bool) → cond c (Some x) o ≡ Some r → cells (r.0) ≡ Full table (r.1)
lies_step table cells r x o l ih true h = let same : x ≡ r = ap (λ q. unwrap_or q x) h in subst (λ (y : PlacedRow). cells (y.0) ≡ Full table (y.1)) same l
lies_step table cells r x o l ih false h = ih h

pub found-lies : (table : ℕ) (cells : Cells) (p : PlacedRow → Bool) (rows : List PlacedRow) (r : PlacedRow) → LieIn table cells rows → find p rows ≡ Some r → cells (r.0) ≡ Full table (r.1)
found-lies table cells p [] r l h = let no : ⊥ = cc in absurd no
found-lies table cells p (x ∷ rows) r l h = lies_step table cells r x (find p rows) (l.0) (λ k. found-lies table cells p rows r (l.1) k) (p x) h

-- What a transaction of its own leaves: the cells with its edits put over them.
use Rattle.std.proofs.Common.{◌≡◌, ◌<◌, inl, inr, ℕ, Bool, true, false, cond, ◌&&◌, ◌||◌, nat_eq, filter, map, List, [], ◌∷◌, ◌++◌, Option, Some, refl, sym, ap, ◌∙◌}
use Rattle.std.proofs.lemmas.Bool.{cases_Bool, eqb-true, eq-eqb, and_from, and_parts, both_ways, cond-true, cond-false}
use Rattle.std.specs.List.{list_any}
use Rattle.std.specs.declared.cmp.Ordering.{Ordering}
use Rattle.tt_value.specs.declared.value.Row.{Row}
use Rattle.tt_value.specs.declared.value.Cell.{Cell}
use Rattle.tt_value.specs.declared.value.Cell.TheVariants.{Empty, Full}
use Rattle.tt_record.specs.declared.entry.Entry.TheVariants.{Commit}
use Rattle.tt_model.specs.Committed.{Cells, committed, put}
use Rattle.tt_model.specs.Tables.{PlacedRow, rows_of, in_order}
use Rattle.tt_model.specs.State.{State, trail, next, cells_of, place_for, with_entry, with_edit, with_edits}
use Rattle.tt_model.specs.declared.definition.CellEdit.{CellEdit}
use Rattle.tt_model.specs.System.{deletes}
use Rattle.tt_model.specs.Step.{system_done}
use Rattle.tt_model.proofs.AppendLemmas.{cells-Commit, changed-own}
use Rattle.tt_model.proofs.SteadyLemmas.{changed_by-untouched}
use Rattle.tt_model.proofs.SoundLemmas.{untouched-trail}
use Rattle.tt_model.proofs.NumberLemmas.{next-untouched}
use Rattle.tt_model.proofs.EditLemmas.{is_at, has_edit}
use Rattle.tt_model.proofs.BookmarkLemmas.{seen_by, cells_forced}
use Rattle.tt_model.proofs.SystemLines.{any-in_order}
use Rattle.tt_model.proofs.GoodPlaces.{IsThere, any-filter, any-there, there-any}

-- Each edit puts its row after into its place, as the state of the log has it then.
abbrev pub put_edits : ℕ → List CellEdit → State → Cells → Cells
put_edits t [] s cells = cells
put_edits t (e ∷ es) s cells = put_edits t es (with_edit t e s) (put (place_for e.place s) e.after cells)

pub seen_edit : (t : ℕ) (e : CellEdit) (s : State) → seen_by t (with_edit t e s) ≡ put (place_for e.place s) e.after (seen_by t s)
unfolding with_entry committed
seen_edit t e s = changed-own t (place_for e.place s) e.before e.after (seen_by t s)

pub seen_edits : (t : ℕ) (edits : List CellEdit) (s : State) → seen_by t (with_edits t edits s) ≡ put_edits t edits s (seen_by t s)
seen_edits t [] s = refl
seen_edits t (e ∷ es) s = seen_edits t es (with_edit t e s) ∙ ap (put_edits t es (with_edit t e s)) (seen_edit t e s)

pub seen_first : (s : State) → seen_by (next s) s ≡ cells_of s
seen_first s = λ i q. changed_by-untouched (next s) q s.entries (cells_of s) (untouched-trail (next s) q s.entries s.found.entries (next-untouched s.found.next q (trail s))) i

pub cells-system_done : (edits : List CellEdit) (s : State) → cells_of (system_done edits s) ≡ put_edits (next s) edits s (cells_of s)
cells-system_done edits s =
    let made : State = with_edits (next s) edits s in
    cells_forced s.settings.durable_commits (with_entry (Commit (next s)) made)
    ∙ (cells-Commit (next s) made
    ∙ (seen_edits (next s) edits s
    ∙ ap (put_edits (next s) edits s) (seen_first s)))

-- ---- edits that delete

abbrev pub AreDeletes : List CellEdit → Type 0
AreDeletes [] = Unit {0}
AreDeletes (e ∷ es) = ((p : ℕ) × (e.place ≡ Some p) × (e.after ≡ Empty)) × AreDeletes es

pub deletes-are : (table : ℕ) (rows : List PlacedRow) → AreDeletes (map (deletes table) rows)
deletes-are table [] = tt
deletes-are table (r ∷ rows) = ((r.0, refl, refl), deletes-are table rows)

pub deletes-append : (xs ys : List CellEdit) → AreDeletes xs → AreDeletes ys → AreDeletes (xs ++ ys)
deletes-append [] ys a b = b
deletes-append (x ∷ xs) ys a b = (a.0, deletes-append xs ys (a.1) b)

put_here : (p q : ℕ) (cells : Cells) (c : Bool) → nat_eq p q ≡ c → cond (nat_eq q p) Empty (cells q) ≡ cond c Empty (cells q)
put_here p q cells true e = cond-true (nat_eq q p) Empty (cells q) (eq-eqb q p (sym (eqb-true p q e)))
put_here p q cells false e = elim (cases_Bool (nat_eq q p)) [
  | inl y ↦ absurd (both_ways (nat_eq p q) e (eq-eqb p q (sym (eqb-true q p y))))
  | inr n ↦ cond-false (nat_eq q p) Empty (cells q) n
]

cond_same : (b : Bool) (x : Cell) → cond b x x ≡ x
cond_same true x = refl
cond_same false x = refl

delete_step : (a b : Bool) (x : Cell) → cond b Empty (cond a Empty x) ≡ cond (a || b) Empty x
delete_step true true x = refl
delete_step true false x = refl
delete_step false true x = refl
delete_step false false x = refl

-- The places that are named are empty, the others stay.
pub cells-deleted : (t : ℕ) (edits : List CellEdit) (s : State) (cells : Cells) (q : ℕ) → AreDeletes edits → put_edits t edits s cells q ≡ cond (has_edit q edits) Empty (cells q)
cells-deleted t [] s cells q d = refl
cells-deleted t (e ∷ es) s cells q d =
    let p : ℕ = (d.0).0 in
    let place : place_for e.place s ≡ p = ap (λ o. place_for o s) ((d.0).1) in
    cells-deleted t es (with_edit t e s) (put (place_for e.place s) e.after cells) q (d.1)
    ∙ (ap (λ (x : ℕ). cond (has_edit q es) Empty (put x e.after cells q)) place
    ∙ (ap (λ (x : Cell). cond (has_edit q es) Empty (put p x cells q)) ((d.0).2)
    ∙ (ap (cond (has_edit q es) Empty) (put_here p q cells (nat_eq p q) refl)
    ∙ (delete_step (nat_eq p q) (has_edit q es) (cells q)
    ∙ ap (λ (o : Option ℕ). cond (is_at q o || has_edit q es) Empty (cells q)) (sym ((d.0).1))))))

pub edit-rows : (table q : ℕ) (rows : List PlacedRow) → has_edit q (map (deletes table) rows) ≡ list_any (λ (r : PlacedRow). nat_eq (r.0) q) rows
edit-rows table q [] = refl
edit-rows table q (r ∷ rows) = ap (λ b. nat_eq (r.0) q || b) (edit-rows table q rows)

-- The rows of a table that pass a test are deleted.
module _ (f : PlacedRow → Bool) (table bound : ℕ) (cells : Cells) where
  test : ℕ → PlacedRow → Bool
  test q x = f x && nat_eq (x.0) q

  edit_test : (q : ℕ) → has_edit q (map (deletes table) (filter f (rows_of table bound cells))) ≡ list_any (test q) (rows_of table bound cells)
  unfolding test
  edit_test q = edit-rows table q (filter f (rows_of table bound cells)) ∙ any-filter (λ (r : PlacedRow). nat_eq (r.0) q) f (rows_of table bound cells)

  pub deleted-there : (q : ℕ) (row : Row) → cells q ≡ Full table row → f (q, row) ≡ true → q < bound → has_edit q (map (deletes table) (filter f (rows_of table bound cells))) ≡ true
  unfolding test
  deleted-there q row e h l = edit_test q ∙ there-any (test q) table bound cells q row e (and_from (f (q, row)) (nat_eq q q) h (eq-eqb q q refl)) l

  pub there-deleted : (q : ℕ) → has_edit q (map (deletes table) (filter f (rows_of table bound cells))) ≡ true → (row : Row) × (cells q ≡ Full table row) × (f (q, row) ≡ true)
  unfolding test
  there-deleted q h =
      let t : IsThere (test q) table bound cells = any-there (test q) table bound cells (sym (edit_test q) ∙ h) in
      let parts : (f (t.at, t.row) ≡ true) × (nat_eq t.at q ≡ true) = and_parts (f (t.at, t.row)) (nat_eq t.at q) t.passes in
      let at : t.at ≡ q = eqb-true t.at q (parts.1) in
      (t.row, ap cells (sym at) ∙ t.lies, ap (λ x. f (x, t.row)) (sym at) ∙ parts.0)

-- In whatever order.
pub edit-in_order : (table q : ℕ) (cmp : PlacedRow → PlacedRow → Ordering) (rows : List PlacedRow) → has_edit q (map (deletes table) (in_order cmp rows)) ≡ has_edit q (map (deletes table) rows)
edit-in_order table q cmp rows = edit-rows table q (in_order cmp rows) ∙ (any-in_order (λ (r : PlacedRow). nat_eq (r.0) q) cmp rows ∙ sym (edit-rows table q rows))

-- What opening found and plain entries leave can be stored, at each place; and edits of such rows make plain entries.
use Rattle.std.proofs.Common.{◌≡◌, ◌≤◌, ◌<◌, ◌*◌, inl, inr, ℕ, Bool, true, false, cond, nat_eq, List, [], ◌∷◌, ◌++◌, Option, Some, None, refl, sym, ◌∙◌, subst, arith, true≢false}
use Rattle.std.proofs.lemmas.Bool.{eqb-true, or_cases}
use Rattle.std.specs.List.{list_any}
use Rattle.std.specs.Prelude.{◌==◌}
use Rattle.tt_value.specs.Stored.{IsCell}
use Rattle.tt_value.specs.declared.value.Cell.{Cell}
use Rattle.tt_value.specs.declared.value.Cell.TheVariants.{Empty, Full}
use Rattle.tt_record.specs.Entry.{IsChange, IsTransaction, of_one_table}
use Rattle.tt_record.specs.declared.entry.Entry.{Entry}
use Rattle.tt_record.specs.declared.entry.Entry.TheVariants.{Change, Commit, Abort, Mark, Switch}
use Rattle.tt_model.specs.Trail.{Placed, Trail}
use Rattle.tt_model.specs.Committed.{Cells, changed, changed_by, committed, is_full, put, after_commit}
use Rattle.tt_model.specs.Live.{is_live, live, live_after, view_of}
use Rattle.tt_model.specs.State.{State, cells_of, place_for, reversals, reversed, view, with_edit}
use Rattle.tt_model.specs.declared.definition.CellEdit.{CellEdit}
use Rattle.tt_model.specs.Sound.{IsSound}
use Rattle.tt_model.specs.WholeRuns.{Each}
use Rattle.tt_model.specs.Entries.{HoldsStorable, IsPlain}
use Rattle.tt_model.specs.Works.{changes}
use Rattle.tt_model.proofs.IsolationLemmas.{full-below, seen-below}
use Rattle.tt_model.proofs.LogRanges.{IsRanged, IsInRange}
use Rattle.tt_model.proofs.SteadyLemmas.{is_in-without, list_any-with_number}

-- ---- cells

abbrev pub AreCells : Cells → Type 0
AreCells cells = (q : ℕ) → IsCell (cells q)

cell_at : (c : Bool) (a : Cell) (x : Cell) → IsCell a → IsCell x → IsCell (cond c a x)
cell_at true a x ia ix = ia
cell_at false a x ia ix = ix

cells-changed : (c : Bool) (p : ℕ) (a : Cell) (cells : Cells) → IsCell a → AreCells cells → AreCells (cond c (put p a cells) cells)
cells-changed true p a cells ia h = λ q. cell_at (nat_eq q p) a (cells q) ia (h q)
cells-changed false p a cells ia h = h

cells_one : (t : ℕ) (x : Entry) (cells : Cells) → IsPlain x → AreCells cells → AreCells (changed t x cells)
cells_one t (Change u p b a) cells plain h = cells-changed (nat_eq t u) p a cells (plain.entry).after h
cells_one t (Commit u) cells plain h = h
cells_one t (Abort u) cells plain h = h
cells_one t Mark cells plain h = h
cells_one t (Switch f) cells plain h = h

abbrev pub ArePlain : Trail → Type 0
ArePlain es = Each (λ (e : Placed). IsPlain e.entry) es

pub cells-changed_by : (t : ℕ) (es : Trail) (cells : Cells) → ArePlain es → AreCells cells → AreCells (changed_by t es cells)
cells-changed_by t [] cells plain h = h
cells-changed_by t (e ∷ es) cells plain h = cells_one t e.entry (changed_by t es cells) (plain.0) (cells-changed_by t es cells (plain.1) h)

cells_settled : (x : Entry) (es : Trail) (cells : Cells) → ArePlain es → AreCells cells → AreCells (after_commit x es cells)
cells_settled (Change u p b a) es cells plain h = h
cells_settled (Commit t) es cells plain h = cells-changed_by t es cells plain h
cells_settled (Abort u) es cells plain h = h
cells_settled Mark es cells plain h = h
cells_settled (Switch f) es cells plain h = h

pub cells-committed : (base : Cells) (es : Trail) → ArePlain es → AreCells base → AreCells (committed base es)
unfolding committed
cells-committed base [] plain h = h
cells-committed base (e ∷ es) plain h = cells_settled e.entry es (committed base es) (plain.1) (cells-committed base es (plain.1) h)

cells_view : (o : Option ℕ) (es : Trail) (cells : Cells) → ArePlain es → AreCells cells → AreCells (view_of o es cells)
cells_view None es cells plain h = h
cells_view (Some t) es cells plain h = cells-changed_by t es cells plain h

-- ---- what is known of a state

-- The new entries are plain, and so are the rows that opening found.
pub record IsStored (s : State) : Type 0 where
  pub plain : ArePlain s.entries
  pub found : AreCells s.found.cells
  pub perm_pages : s.settings.perm_pages ≤ 65536
  pub pages : s.pages ≤ 65536
  pub first : 1 ≤ s.found.next

front_plain : (es older : Trail) → Each IsInRange (es ++ older) → ArePlain es
front_plain [] older h = tt
front_plain (e ∷ es) older h = ((h.0).2, front_plain es older (h.1))

pub stored-of : (s : State) → IsRanged s → HoldsStorable s → IsStored s
stored-of s h k = record { plain = front_plain s.entries s.found.entries h.each; found = k.found; perm_pages = k.perm_pages; pages = k.pages; first = k.first }

pub committed-stored : (s : State) → IsStored s → AreCells (cells_of s)
committed-stored s h = cells-committed s.found.cells s.entries h.plain h.found

pub view-stored : (session : ℕ) (s : State) → IsStored s → AreCells (view session s)
view-stored session s h = cells_view (s.own session) s.entries (cells_of s) h.plain (committed-stored s h)

-- Every row that a session sees, and every committed one, lies in the pages.
pub seen-low : (session : ℕ) (s : State) (q : ℕ) → IsSound s → IsStored s → is_full (view session s q) ≡ true → q < 2097152
seen-low session s q sound h y =
    let low : q < 32 * s.pages = seen-below s q (s.own session) (λ t e. (sound.owned).live session t e) sound y in
    let most : s.pages ≤ 65536 = h.pages in
    omega (arith, low, most)

pub committed-low : (s : State) (q : ℕ) → IsSound s → IsStored s → is_full (cells_of s q) ≡ true → q < 2097152
committed-low s q sound h y =
    let low : q < 32 * s.pages = full-below s q sound y in
    let most : s.pages ≤ 65536 = h.pages in
    omega (arith, low, most)

-- ---- live transactions

live_plain : (t : ℕ) (x : Entry) (us : List ℕ) → IsPlain x → (list_any (nat_eq t) us ≡ true → IsTransaction t) → list_any (nat_eq t) (live_after x us) ≡ true → IsTransaction t
live_plain t (Change u p b a) us plain ih h = elim (or_cases (nat_eq t u) (list_any (nat_eq t) us) (sym (list_any-with_number (nat_eq t) u us) ∙ h)) [
  | inl y ↦ subst IsTransaction (sym (eqb-true t u y)) ((plain.entry).transaction)
  | inr y ↦ ih y
]
live_plain t (Commit u) us plain ih h = ih ((is_in-without u t us h).1)
live_plain t (Abort u) us plain ih h = ih ((is_in-without u t us h).1)
live_plain t Mark us plain ih h = absurd (true≢false (sym h))
live_plain t (Switch f) us plain ih h = ih h

-- Who is live has a number in its range.
pub live-transaction : (t : ℕ) (es : Trail) → ArePlain es → is_live t es ≡ true → IsTransaction t
unfolding live
live-transaction t [] plain h = absurd (true≢false (sym h))
live-transaction t (e ∷ es) plain h = live_plain t e.entry (live es) (plain.0) (live-transaction t es (plain.1)) h

-- ---- edits

-- The rows before and after can be stored, and are of one table.
pub record IsStorableEdit (e : CellEdit) : Type 0 where
  pub before : IsCell e.before
  pub after : IsCell e.after
  pub table : of_one_table e.before e.after ≡ true

abbrev pub IsAtLow : Option ℕ → Type 0
IsAtLow None = ⊥
IsAtLow (Some p) = p < 2097152

abbrev pub IsPlacedEdit : CellEdit → Type 0
IsPlacedEdit e = IsStorableEdit e × IsAtLow e.place

low_place : (o : Option ℕ) (s : State) → IsAtLow o → place_for o s < 2097152
low_place None s h = absurd h
low_place (Some p) s h = h

pub plain-change : (t p : ℕ) (e : CellEdit) → IsTransaction t → IsStorableEdit e → p < 2097152 → IsPlain (Change t p e.before e.after)
plain-change t p e n h low = record { entry = record { transaction = n; place = low; before = h.before; after = h.after; table = h.table }; plain = refl }

-- Edits of rows that lie in the pages.
pub changes-plain : (t : ℕ) (edits : List CellEdit) (s : State) → IsTransaction t → Each IsPlacedEdit edits → Each IsPlain (changes t edits s)
changes-plain t [] s n h = tt
changes-plain t (e ∷ es) s n h = (plain-change t (place_for e.place s) e n ((h.0).0) (low_place e.place s ((h.0).1)), changes-plain t es (with_edit t e s) n (h.1))

-- ---- changes reversed

other_way : (b a : Cell) → of_one_table b a ≡ true → of_one_table a b ≡ true
other_way Empty Empty h = h
other_way Empty (Full t r) h = refl
other_way (Full t r) Empty h = refl
other_way (Full t r) (Full u q) h = let e : t ≡ u = eqb-true t u h in subst (λ x. (x == t) ≡ true) e (subst (λ x. (t == x) ≡ true) (sym e) h)

reversed_one : (c : Bool) (p : ℕ) (b a : Cell) (rest : List CellEdit) → IsCell b → IsCell a → of_one_table b a ≡ true → p < 2097152 → Each IsPlacedEdit rest →
    Each IsPlacedEdit (cond c (record { place = Some p; before = a; after = b } ∷ rest) rest)
reversed_one true p b a rest ib ia one low h = ((record { before = ia; after = ib; table = other_way b a one }, low), h)
reversed_one false p b a rest ib ia one low h = h

reversed_plain : (t : ℕ) (x : Entry) (rest : List CellEdit) → IsPlain x → Each IsPlacedEdit rest → Each IsPlacedEdit (reversed t x rest)
reversed_plain t (Change u p b a) rest plain h =
    let c : IsChange u p b a = plain.entry in reversed_one (nat_eq t u) p b a rest c.before c.after c.table c.place h
reversed_plain t (Commit u) rest plain h = h
reversed_plain t (Abort u) rest plain h = h
reversed_plain t Mark rest plain h = h
reversed_plain t (Switch f) rest plain h = h

pub reversals-plain : (t : ℕ) (es : Trail) → ArePlain es → Each IsPlacedEdit (reversals t es)
unfolding reversals
reversals-plain t [] plain = tt
reversals-plain t (e ∷ es) plain = reversed_plain t e.entry (reversals t es) (plain.0) (reversals-plain t es (plain.1))

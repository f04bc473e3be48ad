-- The bookmark of an open reader stays.
use Rattle.std.proofs.Common.{◌≡◌, ◌≤◌, ◌<◌, ◌+◌, inl, inr, ℕ, zero, suc, Bool, true, false, cond, ◌&&◌, nat_eq, find, List, [], ◌∷◌, Option, Some, None, unwrap_or, refl, sym, ap, ◌∙◌, subst, arith, lit<, true≢false}
use Rattle.std.proofs.lemmas.Bool.{cases_Bool, eqb-true, and_from, and_parts, both_ways}
use Rattle.std.specs.Prelude.{bytes_eq, option_map, is_some}
use Rattle.std.specs.List.{filter_map, cons_option}
use Rattle.tt_value.specs.Order.{text_of}
use Rattle.tt_value.specs.declared.value.Row.{Row}
use Rattle.tt_value.specs.declared.value.Cell.{Cell}
use Rattle.tt_value.specs.declared.value.Cell.TheVariants.{Empty, Full}
use Rattle.tt_record.specs.declared.entry.Entry.TheVariants.{Commit}
use Rattle.tt_model.specs.Trail.{Trail}
use Rattle.tt_model.specs.Committed.{Cells, is_full, committed, changed_by}
use Rattle.tt_model.specs.Live.{is_live, touched, numbers_from}
use Rattle.tt_model.specs.Holders.{value_at, has_held, is_held_by}
use Rattle.tt_model.specs.Tables.{PlacedRow, row_in, row_at, rows_of, text_at}
use Rattle.tt_model.specs.State.{State, trail, next, cells_of, bound, place_for, with_entry, with_edit, with_edits, all_forced}
use Rattle.tt_model.specs.declared.definition.CellEdit.{CellEdit}
use Rattle.tt_model.specs.Steady.{IsSteady, MayChange}
use Rattle.tt_model.specs.Sound.{whole_table, IsSound, MayWrite, MayEdit}
use Rattle.tt_model.specs.System.{system_rows, bookmark}
use Rattle.tt_model.specs.Step.{forced_where, system_done}
use Rattle.tt_model.proofs.AppendLemmas.{cells-Change, cells-Commit, changed-own}
use Rattle.tt_model.proofs.SteadyLemmas.{changed_by-untouched}
use Rattle.tt_model.proofs.SteadySteps.{steady-grown}
use Rattle.tt_model.proofs.FirstBeforeLemmas.{first_before-committed}
use Rattle.tt_model.proofs.ConflictLemmas.{held_first}
use Rattle.tt_model.proofs.SoundLemmas.{LogOf, log-Change, untouched-trail}
use Rattle.tt_model.proofs.SoundLines.{own_live-with_edit}
use Rattle.tt_model.proofs.NumberLemmas.{next-untouched}
use Rattle.tt_model.proofs.IsolationLemmas.{full-below}
use Rattle.tt_model.proofs.SystemLines.{bookmark-lies}

-- ---- a bookmark's row among the cells

abbrev pub is_bookmark : List ℕ → Cell → Bool
is_bookmark name Empty = false
is_bookmark name (Full table row) = nat_eq 4 table && bytes_eq (text_of (value_at row 0)) name

abbrev pub HasIn : List ℕ → Cells → Type 0
HasIn name cells = (q : ℕ) × (is_bookmark name (cells q) ≡ true)

abbrev pub is_named : List ℕ → PlacedRow → Bool
is_named name r = bytes_eq (text_at 0 r) name

passes_step : (p : PlacedRow → Bool) (r x : PlacedRow) (o : Option PlacedRow) → (o ≡ Some r → p r ≡ true) → (c : Bool) → p x ≡ c → cond c (Some x) o ≡ Some r → p r ≡ true
passes_step p r x o ih true e h = ap p (sym (ap (λ y. unwrap_or y x) h)) ∙ e
passes_step p r x o ih false e h = ih h

pub find-passes : (p : PlacedRow → Bool) (rows : List PlacedRow) (r : PlacedRow) → find p rows ≡ Some r → p r ≡ true
find-passes p [] r h = let no : ⊥ = cc in absurd no
find-passes p (x ∷ rows) r h = passes_step p r x (find p rows) (λ k. find-passes p rows r k) (p x) refl h

pub there-in : (name : List ℕ) (s : State) (r : PlacedRow) → bookmark name s ≡ Some r → HasIn name (cells_of s)
there-in name s r e = (r.0, ap (is_bookmark name) (bookmark-lies name s r e) ∙ find-passes (is_named name) (system_rows 4 s) r e)

some-in : (name : List ℕ) (s : State) (o : Option PlacedRow) → bookmark name s ≡ o → is_some o ≡ true → HasIn name (cells_of s)
some-in name s (Some r) e h = there-in name s r e
some-in name s None e h = absurd (true≢false (sym h))

pub bookmark-in : (name : List ℕ) (s : State) → is_some (bookmark name s) ≡ true → HasIn name (cells_of s)
bookmark-in name s h = some-in name s (bookmark name s) refl h

-- one that is there is found
found_here : (p : PlacedRow → Bool) (r : PlacedRow) (rows : List PlacedRow) → p r ≡ true → is_some (find p (r ∷ rows)) ≡ true
found_here p r rows h = ap (λ c. is_some (cond c (Some r) (find p rows))) h

found_later : (p : PlacedRow → Bool) (o : Option PlacedRow) (rows : List PlacedRow) → is_some (find p rows) ≡ true → is_some (find p (cons_option o rows)) ≡ true
found_later p None rows h = h
found_later p (Some r) rows h = either (p r)
  where
    either : (c : Bool) → is_some (cond c (Some r) (find p rows)) ≡ true
    either true = refl
    either false = h

in_table : (name : List ℕ) (q : ℕ) (c : Cell) → is_bookmark name c ≡ true → (row : Row) × (option_map {U = PlacedRow} (λ r. (q, r)) (row_in 4 c) ≡ Some (q, row)) × (is_named name (q, row) ≡ true)
in_table name q Empty h = absurd (true≢false (sym h))
in_table name q (Full table row) h =
    let parts : (nat_eq 4 table ≡ true) × (bytes_eq (text_of (value_at row 0)) name ≡ true) = and_parts (nat_eq 4 table) (bytes_eq (text_of (value_at row 0)) name) h in
    (row, ap (λ b. option_map {U = PlacedRow} (λ r. (q, r)) (cond b (Some row) None)) (parts.0), parts.1)

found_from : (name : List ℕ) (cells : Cells) (q n from : ℕ) → is_bookmark name (cells q) ≡ true → from ≤ q → q < from + n →
    is_some (find (is_named name) (filter_map (row_at 4 cells) (numbers_from n from))) ≡ true
found_from name cells q zero from h l m = let no : ⊥ = omega (arith, l, m) in absurd no
found_from name cells q (suc n) from h l m = elim (cases_Bool (nat_eq q from)) [
  | inl y ↦
      let at : is_bookmark name (cells from) ≡ true = ap (λ (x : ℕ). is_bookmark name (cells x)) (sym (eqb-true q from y)) ∙ h in
      let row : (row : Row) × (option_map {U = PlacedRow} (λ r. (from, r)) (row_in 4 (cells from)) ≡ Some (from, row)) × (is_named name (from, row) ≡ true) = in_table name from (cells from) at in
      ap (λ (o : Option PlacedRow). is_some (find (is_named name) (cons_option o (filter_map (row_at 4 cells) (numbers_from n (suc from)))))) (row.1)
      ∙ found_here (is_named name) (from, row.0) (filter_map (row_at 4 cells) (numbers_from n (suc from))) (row.2)
  | inr apart ↦
      let other : from < q = above from q l apart in
      found_later (is_named name) (row_at 4 cells from) (filter_map (row_at 4 cells) (numbers_from n (suc from))) (found_from name cells q n (suc from) h other (omega (arith, m)))
]
  where
    above : (from q : ℕ) → from ≤ q → nat_eq q from ≡ false → from < q
    above from q l n = grind (arith, l, n)

full_bookmark : (name : List ℕ) (c : Cell) → is_bookmark name c ≡ true → is_full c ≡ true
full_bookmark name Empty h = absurd (true≢false (sym h))
full_bookmark name (Full table row) h = refl

pub in-bookmark : (name : List ℕ) (s : State) → IsSound s → HasIn name (cells_of s) → is_some (bookmark name s) ≡ true
unfolding rows_of
in-bookmark name s h i = found_from name (cells_of s) (i.0) (bound s) 0 (i.1) (omega arith) (let low : i.0 < bound s = full-below s (i.0) h (full_bookmark name (cells_of s (i.0)) (i.1)) in omega (arith, low))

-- ---- commits of users' transactions

held_bookmark : (name : List ℕ) (c : Cell) → is_bookmark name c ≡ true → has_held (whole_table 4) c ≡ true
held_bookmark name Empty h = absurd (true≢false (sym h))
held_bookmark name (Full table row) h =
    and_from (nat_eq 4 table) true ((and_parts (nat_eq 4 table) (bytes_eq (text_of (value_at row 0)) name) h).0) refl

-- A live transaction hasn't touched the place of a bookmark's row.
apart-bookmark : (name : List ℕ) (s : State) (t q : ℕ) → IsSound s → is_live t s.entries ≡ true → is_bookmark name (cells_of s q) ≡ true → touched t q s.entries ≡ false
apart-bookmark name s t q h l k = elim (cases_Bool (touched t q s.entries)) [
  | inl y ↦ absurd (both_ways (is_held_by (whole_table 4) s.entries t) ((h.catalog).users t 4 l (lit< tt))
      (held_first (whole_table 4) t q s.entries (cells_of s q) (first_before-committed s.found.cells t q s.entries ((h.entries).grown) l y) (held_bookmark name (cells_of s q) k)))
  | inr n ↦ n
]

pub keeps-Commit : (name : List ℕ) (s : State) (t : ℕ) → IsSound s → is_live t s.entries ≡ true → HasIn name (cells_of s) → HasIn name (cells_of (with_entry (Commit t) s))
keeps-Commit name s t h l i = (
  i.0,
  ap (λ (cells : Cells). is_bookmark name (cells (i.0))) (cells-Commit t s)
      ∙ (ap (is_bookmark name) (changed_by-untouched t (i.0) s.entries (cells_of s) (apart-bookmark name s t (i.0) h l (i.1))) ∙ i.1),
)

-- ---- edits of one transaction

pub cells-with_edits : (t : ℕ) (edits : List CellEdit) (s : State) → cells_of (with_edits t edits s) ≡ cells_of s
cells-with_edits t [] s = refl
cells-with_edits t (edit ∷ edits) s =
    cells-with_edits t edits (with_edit t edit s) ∙ cells-Change t (place_for edit.place s) edit.before edit.after s

-- Each edit of a row of the bookmark leaves a row of it.
abbrev pub AllKeep : List ℕ → List CellEdit → Type 0
AllKeep name [] = Unit {0}
AllKeep name (e ∷ es) = (is_bookmark name e.before ≡ true → is_bookmark name e.after ≡ true) × AllKeep name es

-- The row before of a Change is what its transaction sees there.
pub before_is_seen : (base : Cells) (es : Trail) (t p : ℕ) (b : Cell) → IsSteady base es → MayChange base es t p b → b ≡ changed_by t es (committed base es) p
before_is_seen base es t p b st m = elim (cases_Bool (touched t p es)) [
  | inl y ↦ elim (cases_Bool (is_live t es)) [
    | inl l ↦ m.before ∙ st.own t p l y
    | inr n ↦ absurd (both_ways (touched t p es) (m.fresh n p) y)
  ]
  | inr n ↦ m.before ∙ (st.untouched p (λ u l. elim (cases_Bool (touched u p es)) [
    | inl k ↦ absurd (both_ways (touched t p es) n (ap (λ x. touched x p es) (sym (m.mine u l k)) ∙ k))
    | inr d ↦ d
  ]) ∙ sym (changed_by-untouched t p es (committed base es) n))
]

abbrev pub seen_by : ℕ → State → Cells
seen_by t s = changed_by t s.entries (cells_of s)

put_keeps : (name : List ℕ) (p q : ℕ) (b a : Cell) (cells : Cells) → b ≡ cells p → (is_bookmark name b ≡ true → is_bookmark name a ≡ true) → is_bookmark name (cells q) ≡ true →
    (c : Bool) → nat_eq q p ≡ c → is_bookmark name (cond c a (cells q)) ≡ true
put_keeps name p q b a cells e k h true s = k (ap (is_bookmark name) (e ∙ ap cells (sym (eqb-true q p s))) ∙ h)
put_keeps name p q b a cells e k h false s = h

edit-keeps : (name : List ℕ) (t : ℕ) (edit : CellEdit) (s : State) → LogOf s → MayChange s.found.cells s.entries t (place_for edit.place s) edit.before →
    (is_bookmark name edit.before ≡ true → is_bookmark name edit.after ≡ true) → HasIn name (seen_by t s) → HasIn name (seen_by t (with_edit t edit s))
unfolding with_entry committed
edit-keeps name t edit s h m k i = (
  i.0,
  ap (λ (cells : Cells). is_bookmark name (cells (i.0))) (changed-own t (place_for edit.place s) edit.before edit.after (seen_by t s))
      ∙ put_keeps name (place_for edit.place s) (i.0) edit.before edit.after (seen_by t s)
      (before_is_seen s.found.cells s.entries t (place_for edit.place s) edit.before (steady-grown s.found.cells s.entries h.grown) m) k (i.1) (nat_eq (i.0) (place_for edit.place s)) refl,
)

edits-keep : (name : List ℕ) (t : ℕ) (edits : List CellEdit) (s : State) → LogOf s → MayWrite t s → MayEdit t edits s → AllKeep name edits → HasIn name (seen_by t s) →
    HasIn name (seen_by t (with_edits t edits s))
edits-keep name t [] s h w m k i = i
edits-keep name t (edit ∷ edits) s h w m k i =
    edits-keep name t edits (with_edit t edit s) (log-Change t (place_for edit.place s) edit.before edit.after s h w (m.0)) (inl (own_live-with_edit t edit s)) (m.1) (k.1)
    (edit-keeps name t edit s h (m.0) (k.0) i)

pub cells_forced : (c : Bool) (s : State) → cells_of (forced_where c s) ≡ cells_of s
unfolding all_forced
cells_forced true s = refl
cells_forced false s = refl

-- A transaction of its own keeps the bookmarks whose rows its edits keep.
pub keeps-system_done : (name : List ℕ) (edits : List CellEdit) (s : State) → IsSound s → MayEdit (next s) edits s → AllKeep name edits → HasIn name (cells_of s) → HasIn name (cells_of (system_done edits s))
keeps-system_done name edits s h m k i =
    let t : ℕ = next s in
    let made : State = with_edits t edits s in
    let fresh : touched t (i.0) s.entries ≡ false = untouched-trail t (i.0) s.entries s.found.entries (next-untouched s.found.next (i.0) (trail s)) in
    let seen : HasIn name (seen_by t s) = (i.0, ap (is_bookmark name) (changed_by-untouched t (i.0) s.entries (cells_of s) fresh) ∙ i.1) in
    let done : HasIn name (seen_by t made) = edits-keep name t edits s h.entries (inr refl) m k seen in
    subst (HasIn name) (sym (cells_forced s.settings.durable_commits (with_entry (Commit t) made) ∙ cells-Commit t made)) done

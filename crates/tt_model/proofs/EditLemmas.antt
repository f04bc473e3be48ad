-- The edits of a statement may be made, one after another.
use Rattle.std.proofs.Common.{◌≡◌, ◌⊎◌, ◌<◌, ◌+◌, ◌*◌, inl, inr, ℕ, zero, suc, Bool, true, false, not, cond, ◌&&◌, ◌||◌, nat_eq, find, List, [], ◌∷◌, ◌++◌, Option, Some, None, refl, sym, ap, ◌∙◌, subst, arith}
use Rattle.std.proofs.lemmas.Bool.{cond-false, eq-eqb, eqb-true, or_cases, or_parts, or_left, or_right, and_from, and_parts, both_ways, false_from_ne_true}
use Rattle.std.proofs.lemmas.List.Folds.{list_any-append}
use Rattle.std.specs.List.{list_any}
use Rattle.tt_value.specs.declared.value.Cell.{Cell}
use Rattle.tt_value.specs.declared.value.Cell.TheVariants.{Empty}
use Rattle.tt_value.specs.declared.position.Position.{Position}
use Rattle.tt_record.specs.declared.entry.Entry.TheVariants.{Change}
use Rattle.tt_model.specs.Trail.{Trail}
use Rattle.tt_model.specs.Committed.{Cells, current, committed, is_full}
use Rattle.tt_model.specs.Live.{live, is_live, touched, in_use, least_from, view_of}
use Rattle.tt_model.specs.Holders.{Held, holds_by, is_held_by, has_held, other_holder, is_own}
use Rattle.tt_model.specs.Steady.{MayChange}
use Rattle.tt_model.specs.State.{State, trail, next, bound, is_used, free_place, place_for, with_entry, with_edit}
use Rattle.tt_model.specs.declared.definition.CellEdit.{CellEdit}
use Rattle.tt_model.specs.Sound.{has_mark, MayWrite, MayEdit}
use Rattle.tt_model.specs.Step.{number_for}
use Rattle.tt_model.proofs.SteadyLemmas.{at_place, list_any-with_number}
use Rattle.tt_model.proofs.SteadySteps.{steady-grown}
use Rattle.tt_model.proofs.FirstBeforeLemmas.{new_row-MayChange, seen_row-MayChange}
use Rattle.tt_model.proofs.ConflictLemmas.{seen_row-mine, seen_row-none}
use Rattle.tt_model.proofs.SoundLemmas.{LogOf, live-marked, is_live-marked, touched-trail, untouched-trail, writes_fresh, touchers, log-Change}
use Rattle.tt_model.proofs.SoundLines.{own_live-with_edit}

-- ---- the least free place

least_step : (taken : ℕ → Bool) (more place : ℕ) → (taken (least_from taken more (suc place)) ≡ false) ⊎ (least_from taken more (suc place) ≡ more + suc place) →
    (c : Bool) → taken place ≡ c → (taken (cond c (least_from taken more (suc place)) place) ≡ false) ⊎ (cond c (least_from taken more (suc place)) place ≡ suc more + place)
least_step taken more place (inl y) true e = inl y
least_step taken more place (inr y) true e = inr (omega (arith, y))
least_step taken more place ih false e = inl e

least_from-free : (taken : ℕ → Bool) (more place : ℕ) → (taken (least_from taken more place) ≡ false) ⊎ (least_from taken more place ≡ more + place)
least_from-free taken zero place = inr (omega arith)
least_from-free taken (suc more) place = least_step taken more place (least_from-free taken more (suc place)) (taken place) refl

pub free-not_used : (s : State) → LogOf s → is_used s (free_place s) ≡ false
free-not_used s h = elim (least_from-free (is_used s) (bound s) 0) [
  | inl y ↦ y
  | inr y ↦ false_from_ne_true (is_used s (free_place s)) (λ u.
      let low : free_place s < 32 * s.pages = h.below (free_place s) u in
      let high : free_place s ≡ 32 * s.pages + 0 = y in
      omega (arith, low, high))
]

any_more : (f g : ℕ → Bool) → ((u : ℕ) → f u ≡ true → g u ≡ true) → (us : List ℕ) → list_any f us ≡ true → list_any g us ≡ true
any_more f g m [] h = h
any_more f g m (u ∷ us) h = elim (or_cases (f u) (list_any f us) h) [
  | inl y ↦ or_left (g u) (list_any g us) (m u y)
  | inr y ↦ or_right (g u) (list_any g us) (any_more f g m us y)
]

-- Behind a Mark a place that isn't in use by the trail isn't by the new entries.
used-entries : (cells : Cells) (es older : Trail) (q : ℕ) → has_mark es ≡ true → in_use cells (es ++ older) q ≡ false → in_use cells es q ≡ false
unfolding in_use
used-entries cells es older q m h =
    let parts : (is_full (cells q) ≡ false) × (list_any (touchers q (es ++ older)) (live (es ++ older)) ≡ false)
    = or_parts (is_full (cells q)) (list_any (touchers q (es ++ older)) (live (es ++ older))) h in
    false_from_ne_true (is_full (cells q) || list_any (touchers q es) (live es)) (λ y. elim (or_cases (is_full (cells q)) (list_any (touchers q es) (live es)) y) [
      | inl k ↦ both_ways (is_full (cells q)) (parts.0) k
      | inr k ↦ both_ways (list_any (touchers q (es ++ older)) (live (es ++ older))) (parts.1)
          (ap (list_any (touchers q (es ++ older))) (live-marked es older m)
          ∙ any_more (touchers q es) (touchers q (es ++ older)) (λ u t. touched-trail u q es older t) (live es) k)
    ])

pub fresh_entries : (t : ℕ) (s : State) → LogOf s → MayWrite t s → is_live t s.entries ≡ false → (q : ℕ) → touched t q s.entries ≡ false
fresh_entries t s h w n q =
    untouched-trail t q s.entries s.found.entries (writes_fresh t q s h.marked w (is_live-marked t s.entries s.found.entries h.marked ∙ n))

-- ---- new rows

-- Edits that put new rows into free places.
abbrev pub AreNew : List CellEdit → Type 0
AreNew [] = Unit {0}
AreNew (edit ∷ edits) = (edit.place ≡ None) × (edit.before ≡ Empty) × AreNew edits

new-MayChange : (t : ℕ) (s : State) → LogOf s → MayWrite t s → MayChange s.found.cells s.entries t (free_place s) Empty
new-MayChange t s h w =
    new_row-MayChange s.found.cells s.entries t (free_place s) h.grown (fresh_entries t s h w)
    (used-entries (committed s.found.cells s.entries) s.entries s.found.entries (free_place s) h.marked (free-not_used s h))

pub new-MayEdit : (t : ℕ) (edits : List CellEdit) (s : State) → LogOf s → MayWrite t s → AreNew edits → MayEdit t edits s
new-MayEdit t [] s h w n = tt
new-MayEdit t (edit ∷ edits) s h w n =
    let may : MayChange s.found.cells s.entries t (place_for edit.place s) edit.before
    = subst (λ (p : Option ℕ). MayChange s.found.cells s.entries t (place_for p s) edit.before) (sym (n.0))
    (subst (λ (c : Cell). MayChange s.found.cells s.entries t (free_place s) c) (sym (n.1)) (new-MayChange t s h w)) in
    (may, new-MayEdit t edits (with_edit t edit s) (log-Change t (place_for edit.place s) edit.before edit.after s h w may) (inl (own_live-with_edit t edit s)) (n.2))

-- ---- rows that are there

-- A change of another place leaves that a place may be changed.
keeps : (base : Cells) (es : Trail) (at : Position) (t p q : ℕ) (b a c : Cell) → MayChange base es t q c → nat_eq q p ≡ false →
    MayChange base (at_place at (Change t p b a) ∷ es) t q c
unfolding current live
keeps base es at t p q b a c m n = record {
  before = m.before ∙ sym (cond-false (nat_eq q p) a (current base es q) n);
  mine = λ u l k. elim (or_cases (nat_eq u t) (is_live u es) (sym (list_any-with_number (nat_eq u) t (live es)) ∙ l)) [
    | inl e ↦ eqb-true u t e
    | inr y ↦ elim (or_cases (nat_eq u t && nat_eq q p) (touched u q es) k) [
      | inl e ↦ eqb-true u t ((and_parts (nat_eq u t) (nat_eq q p) e).0)
      | inr z ↦ m.mine u y z
    ]
  ];
  fresh = λ d r. absurd (both_ways (list_any (nat_eq t) (live (at_place at (Change t p b a) ∷ es))) d
      (list_any-with_number (nat_eq t) t (live es) ∙ or_left (nat_eq t t) (is_live t es) (eq-eqb t t refl)));
}

abbrev pub is_at : ℕ → Option ℕ → Bool
is_at p None = false
is_at p (Some q) = nat_eq q p

abbrev pub has_edit : ℕ → List CellEdit → Bool
has_edit p edits = list_any (λ (e : CellEdit). is_at p e.place) edits

-- Each edit's place may be changed from what the edit finds.
abbrev pub AreSeen : ℕ → State → List CellEdit → Type 0
AreSeen t s [] = Unit {0}
AreSeen t s (edit ∷ edits) = (p : ℕ) × (edit.place ≡ Some p) × MayChange s.found.cells s.entries t p edit.before × AreSeen t s edits

-- No two edits are of one place.
abbrev pub AreApart : List CellEdit → Type 0
AreApart [] = Unit {0}
AreApart (edit ∷ edits) = ((p : ℕ) → edit.place ≡ Some p → has_edit p edits ≡ false) × AreApart edits

still_seen : (t p : ℕ) (b a : Cell) (s : State) (edits : List CellEdit) → has_edit p edits ≡ false → AreSeen t s edits → AreSeen t (with_entry (Change t p b a) s) edits
unfolding with_entry
still_seen t p b a s [] n h = tt
still_seen t p b a s (edit ∷ edits) n h =
    let parts : (is_at p edit.place ≡ false) × (has_edit p edits ≡ false) = or_parts (is_at p edit.place) (has_edit p edits) n in
    let other : nat_eq (h.0) p ≡ false = ap (is_at p) (sym (h.1)) ∙ parts.0 in
    (h.0, h.1, keeps s.found.cells s.entries _ t p (h.0) b a edit.before (h.2) other, still_seen t p b a s edits (parts.1) (h.3))

pub seen-MayEdit : (t : ℕ) (edits : List CellEdit) (s : State) → AreSeen t s edits → AreApart edits → MayEdit t edits s
seen-MayEdit t [] s h d = tt
seen-MayEdit t (edit ∷ edits) s h d =
    let at : place_for edit.place s ≡ h.0 = ap (λ o. place_for o s) (h.1) in (
      subst (λ p. MayChange s.found.cells s.entries t p edit.before) (sym at) (h.2),
      seen-MayEdit t edits (with_edit t edit s)
          (still_seen t (place_for edit.place s) edit.before edit.after s edits (ap (λ p. has_edit p edits) at ∙ (d.0) (h.0) (h.1)) (h.3))
          (d.1),
    )

-- ---- a row that a session sees, and whose key no other one holds

find_fewer_step : (f g : ℕ → Bool) (u : ℕ) (us : List ℕ) → (f u ≡ true → g u ≡ true) → (find g us ≡ None → find f us ≡ None) →
    (c d : Bool) → f u ≡ c → g u ≡ d → cond d (Some u) (find g us) ≡ None → cond c (Some u) (find f us) ≡ None
find_fewer_step f g u us m ih true true e k h = h
find_fewer_step f g u us m ih true false e k h = absurd (both_ways (g u) k (m e))
find_fewer_step f g u us m ih false true e k h = let no : ⊥ = cc in absurd no
find_fewer_step f g u us m ih false false e k h = ih h

find_fewer : (f g : ℕ → Bool) → ((u : ℕ) → f u ≡ true → g u ≡ true) → (us : List ℕ) → find g us ≡ None → find f us ≡ None
find_fewer f g m [] h = refl
find_fewer f g m (u ∷ us) h = find_fewer_step f g u us (m u) (find_fewer f g m us) (f u) (g u) refl refl h

-- Who holds something by the new entries holds it by the trail.
pub other_holder-entries : (own : Option ℕ) (name : Held) (es older : Trail) → has_mark es ≡ true → other_holder own name (es ++ older) ≡ None → other_holder own name es ≡ None
unfolding other_holder
other_holder-entries own name es older m h =
    find_fewer (λ u. is_held_by name es u && not (is_own own u)) (λ u. is_held_by name (es ++ older) u && not (is_own own u))
    (λ u k. let parts : (is_held_by name es u ≡ true) × (not (is_own own u) ≡ true) = and_parts (is_held_by name es u) (not (is_own own u)) k in
    and_from (is_held_by name (es ++ older) u) (not (is_own own u))
    (list_any-append (λ e. holds_by name u e.entry) es older ∙ or_left (is_held_by name es u) (is_held_by name older u) (parts.0)) (parts.1))
    (live es)
    (ap (find (λ u. is_held_by name (es ++ older) u && not (is_own own u))) (sym (live-marked es older m)) ∙ h)

-- Its place may be changed.
pub row-MayChange : (s : State) (p : ℕ) (c : Cell) (name : Held) (o : Option ℕ) → LogOf s →
    ((t : ℕ) → o ≡ Some t → is_live t s.entries ≡ true) →
    view_of o s.entries (committed s.found.cells s.entries) p ≡ c → has_held name c ≡ true → other_holder o name (trail s) ≡ None →
    MayChange s.found.cells s.entries (number_for o s) p c
row-MayChange s p c name (Some t) h lives seen held none =
    let l : is_live t s.entries ≡ true = lives t refl in
    subst (λ (d : Cell). MayChange s.found.cells s.entries t p d) seen
    (seen_row-MayChange s.found.cells s.entries t p h.grown l
    (seen_row-mine s.found.cells s.entries t p name h.grown l (ap (has_held name) seen ∙ held)
    (other_holder-entries (Some t) name s.entries s.found.entries h.marked none)))
row-MayChange s p c name None h lives seen held none =
    let nobody : (u : ℕ) → is_live u s.entries ≡ true → touched u p s.entries ≡ false
    = seen_row-none s.found.cells s.entries p name h.grown (ap (has_held name) seen ∙ held)
    (other_holder-entries None name s.entries s.found.entries h.marked none) in
    record {
      before = sym seen ∙ sym ((steady-grown s.found.cells s.entries h.grown).untouched p nobody);
      mine = λ u l k. absurd (both_ways (touched u p s.entries) (nobody u l) k);
      fresh = fresh_entries (next s) s h (inr refl);
    }

-- Lines keep at most one holder of each key and unique value.
use Rattle.std.proofs.Common.{◌≡◌, inl, inr, ℕ, true, false, not, ◌&&◌, ◌||◌, nat_eq, List, [], ◌∷◌, Option, Some, None, refl, sym, ap, ◌∙◌}
use Rattle.std.proofs.lemmas.Bool.{eq-eqb, eqb-true, or_cases, and_from, and_parts, both_ways, false_from_ne_true}
use Rattle.tt_value.specs.declared.value.Cell.{Cell}
use Rattle.tt_value.specs.declared.position.Position.{Position}
use Rattle.tt_record.specs.declared.entry.Entry.TheVariants.{Change, Commit}
use Rattle.tt_model.specs.Trail.{Trail}
use Rattle.tt_model.specs.Live.{live, is_live}
use Rattle.tt_model.specs.Holders.{Held, has_held, is_held_by, is_own, other_holder, HasOneHolder}
use Rattle.tt_model.specs.State.{State, placed, trail, next, place_for, with_entry, with_edit, with_edits, reversals}
use Rattle.tt_model.specs.declared.definition.CellEdit.{CellEdit}
use Rattle.tt_model.specs.Sound.{IsSound, MayWrite}
use Rattle.tt_model.specs.Step.{number_for, rolled_back}
use Rattle.tt_model.proofs.SteadyLemmas.{at_place, is_in-without}
use Rattle.tt_model.proofs.HolderLemmas.{other_holder-own_Change}
use Rattle.tt_model.proofs.OneHolderLemmas.{one_holder-Change}
use Rattle.tt_model.proofs.ConflictLemmas.{none_passes}
use Rattle.tt_model.proofs.CatalogLemmas.{next-holds_nothing}
use Rattle.tt_model.proofs.EndLemmas.{left_edits}
use Rattle.tt_model.proofs.EditLemmas.{other_holder-entries}
use Rattle.tt_model.proofs.SoundLines.{own_live-with_edit}
use Rattle.tt_model.proofs.SystemLemmas.{none_found}

-- ---- edits whose names no other transaction holds

-- Of each edit that has the name no other transaction holds it.
abbrev pub AllFree : ℕ → Held → List CellEdit → Trail → Type 0
AllFree t name [] es = Unit {0}
AllFree t name (e ∷ edits) es = ((has_held name e.before || has_held name e.after) ≡ true → other_holder (Some t) name es ≡ None) × AllFree t name edits es

still_free : (t p : ℕ) (b a : Cell) (at : Position) (name : Held) (edits : List CellEdit) (es : Trail) → AllFree t name edits es → AllFree t name edits (at_place at (Change t p b a) ∷ es)
still_free t p b a at name [] es f = tt
still_free t p b a at name (e ∷ edits) es f = ((λ y. other_holder-own_Change t p b a at name es ∙ (f.0) y), still_free t p b a at name edits es (f.1))

one-with_edit : (name : Held) (t : ℕ) (e : CellEdit) (s : State) → HasOneHolder name s.entries → (is_live t s.entries ≡ false → is_held_by name s.entries t ≡ false) →
    ((has_held name e.before || has_held name e.after) ≡ true → other_holder (Some t) name s.entries ≡ None) → HasOneHolder name ((with_edit t e s).entries)
unfolding with_entry
one-with_edit name t e s one fresh free =
    one_holder-Change t (place_for e.place s) e.before e.after ((placed (Change t (place_for e.place s) e.before e.after) s).at) name s.entries one fresh free

free_entries : (name : Held) (t : ℕ) (e : CellEdit) (edits : List CellEdit) (s : State) → AllFree t name edits s.entries → AllFree t name edits ((with_edit t e s).entries)
unfolding with_entry
free_entries name t e edits s f = still_free t (place_for e.place s) e.before e.after ((placed (Change t (place_for e.place s) e.before e.after) s).at) name edits s.entries f

pub one-with_edits : (name : Held) (t : ℕ) (edits : List CellEdit) (s : State) → HasOneHolder name s.entries → (is_live t s.entries ≡ false → is_held_by name s.entries t ≡ false) →
    AllFree t name edits s.entries → HasOneHolder name ((with_edits t edits s).entries)
one-with_edits name t [] s one fresh f = one
one-with_edits name t (e ∷ edits) s one fresh f =
    one-with_edits name t edits (with_edit t e s) (one-with_edit name t e s one fresh (f.0))
    (λ n. absurd (both_ways (is_live t ((with_edit t e s).entries)) n (own_live-with_edit t e s)))
    (free_entries name t e edits s (f.1))

pub fresh-holder : (name : Held) (t : ℕ) (s : State) → MayWrite t s → is_live t s.entries ≡ false → is_held_by name s.entries t ≡ false
fresh-holder name t s (inl l) n = absurd (both_ways (is_live t s.entries) n l)
fresh-holder name t s (inr e) n = ap (is_held_by name s.entries) e ∙ next-holds_nothing name s

-- ---- transactions of their own

held_edit : (name : Held) (u t : ℕ) (e : CellEdit) (s : State) → nat_eq t u ≡ false → is_held_by name ((with_edit t e s).entries) u ≡ true → is_held_by name s.entries u ≡ true
unfolding with_entry
held_edit name u t e s n h = elim (or_cases (nat_eq u t && (has_held name e.before || has_held name e.after)) (is_held_by name s.entries u) h) [
  | inl y ↦ absurd (both_ways (nat_eq t u) n (eq-eqb t u (sym (eqb-true u t ((and_parts (nat_eq u t) (has_held name e.before || has_held name e.after) y).0)))))
  | inr y ↦ y
]

pub held_edits : (name : Held) (u t : ℕ) (edits : List CellEdit) (s : State) → nat_eq t u ≡ false → is_held_by name ((with_edits t edits s).entries) u ≡ true → is_held_by name s.entries u ≡ true
held_edits name u t [] s n h = h
held_edits name u t (e ∷ edits) s n h = held_edit name u t e s n (held_edits name u t edits (with_edit t e s) n h)

-- A transaction that makes edits and is committed at once leaves the others as they were.
pub one-system : (name : Held) (t : ℕ) (edits : List CellEdit) (s : State) → HasOneHolder name s.entries → HasOneHolder name ((with_entry (Commit t) (with_edits t edits s)).entries)
unfolding with_entry live
one-system name t edits s one u v lu lv hu hv =
    let a : (nat_eq t u ≡ false) × (is_live u ((with_edits t edits s).entries) ≡ true) = is_in-without t u (live ((with_edits t edits s).entries)) lu in
    let b : (nat_eq t v ≡ false) × (is_live v ((with_edits t edits s).entries) ≡ true) = is_in-without t v (live ((with_edits t edits s).entries)) lv in
    one u v (left_edits u t edits s (a.0) (a.1)) (left_edits v t edits s (b.0) (b.1)) (held_edits name u t edits s (a.0) hu) (held_edits name v t edits s (b.0) hv)

-- So does one that is rolled back.
pub one-rolled_back : (name : Held) (t : ℕ) (s : State) → HasOneHolder name s.entries → HasOneHolder name ((rolled_back t s).entries)
unfolding with_entry live
one-rolled_back name t s one u v lu lv hu hv =
    let edits : List CellEdit = reversals t s.entries in
    let a : (nat_eq t u ≡ false) × (is_live u ((with_edits t edits s).entries) ≡ true) = is_in-without t u (live ((with_edits t edits s).entries)) lu in
    let b : (nat_eq t v ≡ false) × (is_live v ((with_edits t edits s).entries) ≡ true) = is_in-without t v (live ((with_edits t edits s).entries)) lv in
    one u v (left_edits u t edits s (a.0) (a.1)) (left_edits v t edits s (b.0) (b.1)) (held_edits name u t edits s (a.0) hu) (held_edits name v t edits s (b.0) hv)

-- ---- nobody else, by the statement's test

-- Whom the test of a session doesn't find, the session's transaction doesn't find either.
pub free-number : (name : Held) (session : ℕ) (s : State) → IsSound s → (o : Option ℕ) → s.own session ≡ o → other_holder o name (trail s) ≡ None → other_holder (Some (number_for o s)) name s.entries ≡ None
unfolding other_holder
free-number name session s h (Some t) e none = other_holder-entries (Some t) name s.entries s.found.entries ((h.entries).marked) none
free-number name session s h None e none =
    let nobody : other_holder None name s.entries ≡ None = other_holder-entries None name s.entries s.found.entries ((h.entries).marked) none in
    none_found (λ u. is_held_by name s.entries u && not (is_own (Some (next s)) u)) (live s.entries)
    (λ u l. false_from_ne_true (is_held_by name s.entries u && not (is_own (Some (next s)) u)) (λ y.
    both_ways (is_held_by name s.entries u && true)
    (none_passes (λ v. is_held_by name s.entries v && not (is_own None v)) (live s.entries) nobody u l)
    (and_from (is_held_by name s.entries u) true ((and_parts (is_held_by name s.entries u) (not (is_own (Some (next s)) u)) y).0) refl)))

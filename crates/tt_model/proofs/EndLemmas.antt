-- The end of a run.
use Rattle.std.proofs.Common.{◌≡◌, ◌<◌, inl, inr, ℕ, Bool, true, false, not, cond, ◌||◌, nat_eq, nat_lt, filter, List, [], ◌∷◌, Option, Some, None, refl, sym, ap, ◌∙◌, subst, arith, true≢false}
use Rattle.std.proofs.lemmas.Bool.{eq-eqb, eqb-true, ltb-true, or_cases, or_left, or_right, both_ways, false_from_ne_true}
use Rattle.std.specs.List.{list_any}
use Rattle.tt_record.specs.declared.entry.Entry.{Entry}
use Rattle.tt_record.specs.declared.entry.Entry.TheVariants.{Change, Commit, Abort, Mark, Switch}
use Rattle.tt_model.specs.Trail.{Trail}
use Rattle.tt_model.specs.Live.{live, live_after, is_live, with_number}
use Rattle.tt_model.specs.Opened.{Opened}
use Rattle.tt_model.specs.State.{State, live_in, with_entry, with_edit, with_edits, all_forced, reversals}
use Rattle.tt_model.specs.declared.definition.CellEdit.{CellEdit}
use Rattle.tt_model.specs.Sound.{KeepsCatalog, IsSound}
use Rattle.tt_model.specs.Step.{rolled_back}
use Rattle.tt_model.specs.Run.{has_position, ended_one, roll_all, ended}
use Rattle.tt_model.proofs.SteadyLemmas.{list_any-with_number, is_in-without}
use Rattle.tt_model.proofs.CatalogLemmas.{catalog-rolled_back}
use Rattle.tt_model.proofs.SoundLemmas.{fewer, live-marked}
use Rattle.tt_model.proofs.SoundLines.{sound-all_forced, log-rolled_back, live-rolled_back, found-rolled_back}

-- ---- live transactions are in ascending number

abbrev pub AreAscending : List ℕ → Type 0
AreAscending [] = Unit {0}
AreAscending (t ∷ ts) = ((u : ℕ) → list_any (nat_eq u) ts ≡ true → t < u) × AreAscending ts

above_all : (t u : ℕ) (us : List ℕ) → t < u → AreAscending (u ∷ us) → (v : ℕ) → list_any (nat_eq v) (u ∷ us) ≡ true → t < v
above_all t u us low a v h = elim (or_cases (nat_eq v u) (list_any (nat_eq v) us) h) [
  | inl y ↦ let same : v ≡ u = eqb-true v u y in omega (arith, low, same)
  | inr y ↦ let above : u < v = (a.0) v y in omega (arith, low, above)
]

not_less : (t u : ℕ) → nat_lt t u ≡ false → nat_eq t u ≡ false → u < t
not_less t u n d = grind (arith, n, d)

above_number : (t u : ℕ) (us : List ℕ) → u < t → AreAscending (u ∷ us) → (v : ℕ) → list_any (nat_eq v) (with_number t us) ≡ true → u < v
above_number t u us low a v h = elim (or_cases (nat_eq v t) (list_any (nat_eq v) us) (sym (list_any-with_number (nat_eq v) t us) ∙ h)) [
  | inl y ↦ let same : v ≡ t = eqb-true v t y in omega (arith, low, same)
  | inr y ↦ (a.0) v y
]

ascending_eq : (t u : ℕ) (us : List ℕ) → AreAscending (u ∷ us) → AreAscending (with_number t us) → nat_lt t u ≡ false → (c : Bool) → nat_eq t u ≡ c →
    AreAscending (cond c (u ∷ us) (u ∷ with_number t us))
ascending_eq t u us a ih n true e = a
ascending_eq t u us a ih n false e = (above_number t u us (not_less t u n e) a, ih)

ascending_lt : (t u : ℕ) (us : List ℕ) → AreAscending (u ∷ us) → AreAscending (with_number t us) → (c : Bool) → nat_lt t u ≡ c →
    AreAscending (cond c (t ∷ u ∷ us) (cond (nat_eq t u) (u ∷ us) (u ∷ with_number t us)))
ascending_lt t u us a ih true e = (above_all t u us (ltb-true t u e) a, a)
ascending_lt t u us a ih false e = ascending_eq t u us a ih e (nat_eq t u) refl

ascending-with : (t : ℕ) (us : List ℕ) → AreAscending us → AreAscending (with_number t us)
ascending-with t [] a = ((λ u h. absurd (true≢false (sym h))), tt)
ascending-with t (u ∷ us) a = ascending_lt t u us a (ascending-with t us (a.1)) (nat_lt t u) refl

ascending_step : (f : ℕ → Bool) (u : ℕ) (us : List ℕ) → AreAscending (u ∷ us) → AreAscending (filter f us) → (c : Bool) → AreAscending (cond c (u ∷ filter f us) (filter f us))
ascending_step f u us a ih true = ((λ v h. (a.0) v (fewer (nat_eq v) f us h)), ih)
ascending_step f u us a ih false = ih

ascending-filter : (f : ℕ → Bool) (us : List ℕ) → AreAscending us → AreAscending (filter f us)
ascending-filter f [] a = a
ascending-filter f (u ∷ us) a = ascending_step f u us a (ascending-filter f us (a.1)) (f u)

ascending_after : (x : Entry) (us : List ℕ) → AreAscending us → AreAscending (live_after x us)
ascending_after (Change t p b a) us h = ascending-with t us h
ascending_after (Commit t) us h = ascending-filter (λ u. not (nat_eq t u)) us h
ascending_after (Abort t) us h = ascending-filter (λ u. not (nat_eq t u)) us h
ascending_after Mark us h = tt
ascending_after (Switch n) us h = h

pub ascending-live : (es : Trail) → AreAscending (live es)
unfolding live
ascending-live [] = tt
ascending-live (e ∷ es) = ascending_after e.entry (live es) (ascending-live es)

-- ---- one rollback

kept_own : (t u : ℕ) (o : Option ℕ) → elim o [ None ↦ None | Some v ↦ cond (nat_eq t v) None (Some v) ] ≡ Some u → (o ≡ Some u) × (nat_eq t u ≡ false)
kept_own t u None h = let no : ⊥ = cc in absurd no
kept_own t u (Some v) h = kept t u v (nat_eq t v) refl h
  where
    kept : (t u v : ℕ) (c : Bool) → nat_eq t v ≡ c → cond c None (Some v) ≡ Some u → (Some v ≡ Some u) × (nat_eq t u ≡ false)
    kept t u v true e h = let no : ⊥ = cc in absurd no
    kept t u v false e h = let same : v ≡ u = cc in (h, ap (nat_eq t) (sym same) ∙ e)

pub sound-ended_one : (t : ℕ) (s : State) → IsSound s → is_live t s.entries ≡ true → IsSound (ended_one t s)
sound-ended_one t s h l = record {
  entries = log-rolled_back t s h.entries l;
  owned = record {
    live = λ session u k. let kept : (s.own session ≡ Some u) × (nat_eq t u ≡ false) = kept_own t u (s.own session) k in
        live-rolled_back u t s (kept.1) ((h.owned).live session u (kept.0));
    once = λ a b u k m. (h.owned).once a b u ((kept_own t u (s.own a) k).0) ((kept_own t u (s.own b) m).0);
  };
  catalog = subst (λ (f : Opened). KeepsCatalog f.cells ((rolled_back t s).entries)) (sym (found-rolled_back t s)) (catalog-rolled_back t (reversals t s.entries) s h.catalog);
}

-- ---- all of them

abbrev pub AreLive : List ℕ → State → Type 0
AreLive ts s = (u : ℕ) → list_any (nat_eq u) ts ≡ true → is_live u s.entries ≡ true

pub others_live : (t : ℕ) (ts : List ℕ) (s : State) → AreAscending (t ∷ ts) → AreLive (t ∷ ts) s → AreLive ts (ended_one t s)
others_live t ts s a l u h =
    live-rolled_back u t s (false_from_ne_true (nat_eq t u) (λ y. let same : t ≡ u = eqb-true t u y in let above : t < u = (a.0) u h in omega (arith, same, above)))
    (l u (or_right (nat_eq u t) (list_any (nat_eq u) ts) h))

roll_step : (s : State) (next : Bool × State) → IsSound s → IsSound (next.1) → (c : Bool) → IsSound ((elim c as (λ x. Bool × State) [ true ↦ next | false ↦ (false, s) ]).1)
roll_step s next h k true = k
roll_step s next h k false = h

sound-roll_all : (ts : List ℕ) (s : State) → IsSound s → AreAscending ts → AreLive ts s → IsSound ((roll_all ts s).1)
sound-roll_all [] s h a l = sound-all_forced s h
sound-roll_all (t ∷ ts) s h a l =
    roll_step s (roll_all ts (ended_one t s)) h
    (sound-roll_all ts (ended_one t s) (sound-ended_one t s h (l t (or_left (nat_eq t t) (list_any (nat_eq t) ts) (eq-eqb t t refl)))) (a.1) (others_live t ts s a l))
    (has_position t s)

pub live_in_entries : (s : State) → IsSound s → live_in s ≡ live s.entries
live_in_entries s h = live-marked s.entries s.found.entries (h.entries).marked

-- The end of a run leaves a sound state.
pub sound-ended : (s : State) → IsSound s → IsSound ((ended s).1)
unfolding ended
sound-ended s h =
    sound-roll_all (live_in s) (record s { underway = None }) (record { entries = h.entries; owned = h.owned; catalog = h.catalog })
    (subst AreAscending (sym (live_in_entries s h)) (ascending-live s.entries))
    (λ u k. ap (list_any (nat_eq u)) (sym (live_in_entries s h)) ∙ k)

-- ---- nobody is left

left_edit : (u t : ℕ) (edit : CellEdit) (s : State) → nat_eq t u ≡ false → is_live u ((with_edit t edit s).entries) ≡ true → is_live u s.entries ≡ true
unfolding with_entry live
left_edit u t edit s n h = elim (or_cases (nat_eq u t) (is_live u s.entries) (sym (list_any-with_number (nat_eq u) t (live s.entries)) ∙ h)) [
  | inl y ↦ absurd (both_ways (nat_eq t u) n (eq-eqb t u (sym (eqb-true u t y))))
  | inr y ↦ y
]

pub left_edits : (u t : ℕ) (edits : List CellEdit) (s : State) → nat_eq t u ≡ false → is_live u ((with_edits t edits s).entries) ≡ true → is_live u s.entries ≡ true
left_edits u t [] s n h = h
left_edits u t (edit ∷ edits) s n h = left_edit u t edit s n (left_edits u t edits (with_edit t edit s) n h)

left_rolled : (u t : ℕ) (s : State) → is_live u ((rolled_back t s).entries) ≡ true → (nat_eq t u ≡ false) × (is_live u s.entries ≡ true)
unfolding with_entry live
left_rolled u t s h =
    let left : (nat_eq t u ≡ false) × (is_live u ((with_edits t (reversals t s.entries) s).entries) ≡ true) = is_in-without t u (live ((with_edits t (reversals t s.entries) s).entries)) h in
    (left.0, left_edits u t (reversals t s.entries) s (left.0) (left.1))

flip : (t u : ℕ) → nat_eq t u ≡ false → nat_eq u t ≡ false
flip t u n = false_from_ne_true (nat_eq u t) (λ y. both_ways (nat_eq t u) n (eq-eqb t u (sym (eqb-true u t y))))

left_step : (u t : ℕ) (ts : List ℕ) (s : State) (next : Bool × State) →
    (next.0 ≡ true → is_live u ((next.1).entries) ≡ true → (is_live u ((rolled_back t s).entries) ≡ true) × (list_any (nat_eq u) ts ≡ false)) →
    (c : Bool) → (elim c as (λ x. Bool × State) [ true ↦ next | false ↦ (false, s) ]).0 ≡ true → is_live u (((elim c as (λ x. Bool × State) [ true ↦ next | false ↦ (false, s) ]).1).entries) ≡ true →
    (is_live u s.entries ≡ true) × ((nat_eq u t || list_any (nat_eq u) ts) ≡ false)
left_step u t ts s next ih true done l =
    let then : (is_live u ((rolled_back t s).entries) ≡ true) × (list_any (nat_eq u) ts ≡ false) = ih done l in
    let left : (nat_eq t u ≡ false) × (is_live u s.entries ≡ true) = left_rolled u t s (then.0) in
    (left.1, ap (λ b. b || list_any (nat_eq u) ts) (flip t u (left.0)) ∙ then.1)
left_step u t ts s next ih false done l = absurd (true≢false (sym done))

left-roll_all : (u : ℕ) (ts : List ℕ) (s : State) → (roll_all ts s).0 ≡ true → is_live u (((roll_all ts s).1).entries) ≡ true →
    (is_live u s.entries ≡ true) × (list_any (nat_eq u) ts ≡ false)
unfolding all_forced
left-roll_all u [] s done l = (l, refl)
left-roll_all u (t ∷ ts) s done l = left_step u t ts s (roll_all ts (ended_one t s)) (λ d k. left-roll_all u ts (ended_one t s) d k) (has_position t s) done l

-- Where it was done to its end, no transaction is live.
pub none-ended : (s : State) (u : ℕ) → IsSound s → (ended s).0 ≡ true → is_live u (((ended s).1).entries) ≡ false
unfolding ended
none-ended s u h done = false_from_ne_true (is_live u (((ended s).1).entries)) (λ l.
    let left : (is_live u s.entries ≡ true) × (list_any (nat_eq u) (live_in s) ≡ false) = left-roll_all u (live_in s) (record s { underway = None }) done l in
    both_ways (list_any (nat_eq u) (live_in s)) (left.1) (ap (list_any (nat_eq u)) (live_in_entries s h) ∙ left.0))

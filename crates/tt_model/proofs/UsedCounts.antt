-- A new row in a free place brings one more place into use. So several new rows get places in the pages, where there is room for them.
use Rattle.std.proofs.Common.{◌≡◌, ◌≤◌, ◌<◌, ◌+◌, inl, ℕ, zero, suc, Bool, true, false, cond, ◌||◌, nat_eq, List, [], ◌∷◌, length, Option, None, refl, ap, ◌∙◌, arith, le_refl}
use Rattle.std.proofs.lemmas.Bool.{eqb-true, false_from_ne_true}
use Rattle.tt_value.specs.declared.value.Cell.TheVariants.{Empty}
use Rattle.tt_record.specs.Entry.{IsTransaction}
use Rattle.tt_record.specs.declared.entry.Entry.TheVariants.{Change}
use Rattle.tt_model.specs.Committed.{committed}
use Rattle.tt_model.specs.Live.{numbers_from}
use Rattle.tt_model.specs.State.{State, bound, free_place, is_used, place_for, placed, trail, used_count, with_edit, with_entry}
use Rattle.tt_model.specs.declared.definition.CellEdit.{CellEdit}
use Rattle.tt_model.specs.Sound.{MayEdit, MayWrite}
use Rattle.tt_model.specs.WholeRuns.{Each}
use Rattle.tt_model.specs.Entries.{IsPlain}
use Rattle.tt_model.specs.Works.{changes}
use Rattle.tt_model.proofs.EditLemmas.{AreNew, new-MayEdit}
use Rattle.tt_model.proofs.FreePlaces.{counted, counted-is, free-among_used}
use Rattle.tt_model.proofs.HolderLemmas.{in_use-Change}
use Rattle.tt_model.proofs.SoundLemmas.{LogOf, log-Change, writes_fresh}
use Rattle.tt_model.proofs.SoundLines.{own_live-with_edit}
use Rattle.tt_model.proofs.StorableCells.{IsStorableEdit, plain-change}

-- ---- counts

counted_none : (f : ℕ → Bool) (n from : ℕ) → ((q : ℕ) → from ≤ q → f q ≡ false) → counted f (numbers_from n from) ≡ 0
counted_none f zero from h = refl
counted_none f (suc n) from h = ap (λ c. cond c (1 + counted f (numbers_from n (suc from))) (counted f (numbers_from n (suc from)))) (h from (le_refl from)) ∙ counted_none f n (suc from) (λ q l. h q (omega (arith, l)))

counted_first : (f : ℕ → Bool) (a n from : ℕ) → a ≤ n → ((q : ℕ) → a + from ≤ q → f q ≡ false) → counted f (numbers_from n from) ≡ counted f (numbers_from a from)
counted_first f zero n from l h = counted_none f n from (λ q k. h q (omega (arith, k)))
counted_first f (suc a) zero from l h = absurd (omega (arith, l))
counted_first f (suc a) (suc n) from l h = ap (λ m. cond (f from) (1 + m) m) (counted_first f a n (suc from) (omega (arith, l)) (λ q k. h q (omega (arith, k))))

both_counted : (c d : Bool) (m n k : ℕ) → k ≤ m + n → cond (c || d) (1 + k) k ≤ cond c (1 + m) m + cond d (1 + n) n
both_counted true true m n k h = omega (arith, h)
both_counted true false m n k h = omega (arith, h)
both_counted false true m n k h = omega (arith, h)
both_counted false false m n k h = h

counted_or : (f g : ℕ → Bool) (xs : List ℕ) → counted (λ q. f q || g q) xs ≤ counted f xs + counted g xs
counted_or f g [] = omega arith
counted_or f g (x ∷ xs) = both_counted (f x) (g x) (counted f xs) (counted g xs) (counted (λ q. f q || g q) xs) (counted_or f g xs)

one_step : (p n from : ℕ) (c : Bool) → nat_eq from p ≡ c → counted (λ q. nat_eq q p) (numbers_from n (suc from)) ≤ 1 →
    cond c (1 + counted (λ q. nat_eq q p) (numbers_from n (suc from))) (counted (λ q. nat_eq q p) (numbers_from n (suc from))) ≤ 1
one_step p n from true e ih =
    let same : from ≡ p = eqb-true from p e in
    let none : counted (λ q. nat_eq q p) (numbers_from n (suc from)) ≡ 0
    = counted_none (λ q. nat_eq q p) n (suc from) (λ q l. false_from_ne_true (nat_eq q p) (λ y. let is : q ≡ p = eqb-true q p y in omega (arith, same, is, l))) in
    omega (arith, none)
one_step p n from false e ih = ih

one_place : (p n from : ℕ) → counted (λ q. nat_eq q p) (numbers_from n from) ≤ 1
one_place p zero from = omega arith
one_place p (suc n) from = one_step p n from (nat_eq from p) refl (one_place p n (suc from))

-- ---- one more place

used_more : (t : ℕ) (edit : CellEdit) (s : State) → LogOf s → MayWrite t s → (q : ℕ) → is_used (with_edit t edit s) q ≡ (nat_eq q (place_for edit.place s) || is_used s q)
unfolding with_entry committed
used_more t edit s h w q =
    let p : ℕ = place_for edit.place s in
    in_use-Change t p q edit.before edit.after ((placed (Change t p edit.before edit.after) s).at) (committed s.found.cells s.entries) (trail s) (writes_fresh t q s h.marked w)

bound_more : (t : ℕ) (edit : CellEdit) (s : State) → bound s ≤ bound (with_edit t edit s)
unfolding with_entry
bound_more t edit s = omega arith

count-with_edit : (t : ℕ) (edit : CellEdit) (s : State) → LogOf s → MayWrite t s → used_count (with_edit t edit s) ≤ suc (used_count s)
count-with_edit t edit s h w =
    let p : ℕ = place_for edit.place s in
    let next : State = with_edit t edit s in
    let xs : List ℕ = numbers_from (bound next) 0 in
    let both : counted (λ q. nat_eq q p || is_used s q) xs ≤ counted (λ q. nat_eq q p) xs + counted (is_used s) xs = counted_or (λ q. nat_eq q p) (is_used s) xs in
    let one : counted (λ q. nat_eq q p) xs ≤ 1 = one_place p (bound next) 0 in
    let same : counted (is_used next) xs ≡ counted (λ q. nat_eq q p || is_used s q) xs = ap (λ (f : ℕ → Bool). counted f xs) (λ i q. used_more t edit s h w q i) in
    let first : counted (is_used s) xs ≡ counted (is_used s) (numbers_from (bound s) 0)
    = counted_first (is_used s) (bound s) (bound next) 0 (bound_more t edit s) (λ q l. false_from_ne_true (is_used s q) (λ y. let low : q < bound s = h.below q y in omega (arith, low, l))) in
    let now : counted (is_used next) xs ≡ used_count next = counted-is (is_used next) xs in
    let before : counted (is_used s) (numbers_from (bound s) 0) ≡ used_count s = counted-is (is_used s) (numbers_from (bound s) 0) in
    omega (arith, both, one, same, first, now, before)

-- ---- several new rows

abbrev pub IsNewEdit : CellEdit → Type 0
IsNewEdit e = IsStorableEdit e × (e.place ≡ None) × (e.before ≡ Empty)

new_edits : (edits : List CellEdit) → Each IsNewEdit edits → AreNew edits
new_edits [] h = tt
new_edits (e ∷ es) h = ((h.0).1, (h.0).2, new_edits es (h.1))

pub news-plain : (t : ℕ) (edits : List CellEdit) (s : State) → LogOf s → MayWrite t s → IsTransaction t → Each IsNewEdit edits → used_count s + length edits ≤ 2097152 → Each IsPlain (changes t edits s)
news-plain t [] s h w n new room = tt
news-plain t (e ∷ es) s h w n new room =
    let next : State = with_edit t e s in
    let may : MayEdit t (e ∷ es) s = new-MayEdit t (e ∷ es) s h w (new_edits (e ∷ es) new) in
    let place : place_for e.place s ≡ free_place s = ap (λ (o : Option ℕ). place_for o s) ((new.0).1) in
    let among : free_place s ≤ used_count s = free-among_used s in
    let more : used_count next ≤ suc (used_count s) = count-with_edit t e s h w in (
      plain-change t (place_for e.place s) e n ((new.0).0) (omega (arith, place, among, room)),
      news-plain t es next (log-Change t (place_for e.place s) e.before e.after s h w (may.0)) (inl (own_live-with_edit t e s)) n (new.1) (omega (arith, more, room)),
    )

-- The next transaction's number is above each in the trail.
use Rattle.std.proofs.Common.{◌≡◌, ◌<◌, ◌≤◌, inl, inr, ◌∙◌, ℕ, suc, Bool, true, false, nat_eq, [], ◌∷◌, ◌++◌, max, sym, arith, true≢false}
use Rattle.std.proofs.lemmas.Bool.{eqb-true, or_cases, and_parts, false_from_ne_true}
use Rattle.tt_record.specs.declared.entry.Entry.{Entry}
use Rattle.tt_record.specs.declared.entry.Entry.TheVariants.{Change, Commit, Abort, Mark, Switch}
use Rattle.tt_model.specs.Trail.{Trail, Placed}
use Rattle.tt_model.specs.Live.{live, live_after, is_live, names, touched, after_number, next_number}
use Rattle.std.specs.List.{list_any}
use Rattle.std.specs.Prelude.{List}
use Rattle.tt_model.proofs.SteadyLemmas.{list_any-with_number, is_in-without}

names_below : (t q : ℕ) (x : Entry) → names t q x ≡ true → suc t ≤ after_number x
names_below t q (Change u p b a) h =
    let e : t ≡ u = eqb-true t u ((and_parts (nat_eq t u) (nat_eq q p) h).0) in omega (arith, e)
names_below t q (Commit u) h = absurd (true≢false (sym h))
names_below t q (Abort u) h = absurd (true≢false (sym h))
names_below t q Mark h = absurd (true≢false (sym h))
names_below t q (Switch n) h = absurd (true≢false (sym h))

-- Who changed a place has a lesser number.
pub touched-below : (opened t q : ℕ) (es : Trail) → touched t q es ≡ true → t < next_number opened es
unfolding next_number
touched-below opened t q [] h = absurd (true≢false (sym h))
touched-below opened t q (e ∷ es) h = elim (or_cases (names t q e.entry) (touched t q es) h) [
  | inl y ↦ let now : suc t ≤ after_number e.entry = names_below t q e.entry y in omega (arith, now)
  | inr y ↦ let before : t < next_number opened es = touched-below opened t q es y in omega (arith, before)
]

live_below : (t n : ℕ) (x : Entry) (us : List ℕ) → (list_any (nat_eq t) us ≡ true → t < n) → list_any (nat_eq t) (live_after x us) ≡ true → t < max (after_number x) n
live_below t n (Change u p b a) us ih h = elim (or_cases (nat_eq t u) (list_any (nat_eq t) us) (sym (list_any-with_number (nat_eq t) u us) ∙ h)) [
  | inl y ↦ let e : t ≡ u = eqb-true t u y in omega (arith, e)
  | inr y ↦ let below : t < n = ih y in omega (arith, below)
]
live_below t n (Commit u) us ih h = let below : t < n = ih ((is_in-without u t us h).1) in omega (arith, below)
live_below t n (Abort u) us ih h = let below : t < n = ih ((is_in-without u t us h).1) in omega (arith, below)
live_below t n Mark us ih h = absurd (true≢false (sym h))
live_below t n (Switch f) us ih h = let below : t < n = ih h in omega (arith, below)

-- Who is live has a lesser number.
pub live-below : (opened t : ℕ) (es : Trail) → is_live t es ≡ true → t < next_number opened es
unfolding next_number live
live-below opened t [] h = absurd (true≢false (sym h))
live-below opened t (e ∷ es) h = live_below t (next_number opened es) e.entry (live es) (live-below opened t es) h

not_below : (n : ℕ) (x : Bool) → (x ≡ true → n < n) → x ≡ false
not_below n x f = false_from_ne_true x (λ h. let below : n < n = f h in omega (arith, below))

-- The next number is of no transaction that is live or changed a place.
pub next-not_live : (opened : ℕ) (es : Trail) → is_live (next_number opened es) es ≡ false
next-not_live opened es = not_below (next_number opened es) (is_live (next_number opened es) es) (live-below opened (next_number opened es) es)

pub next-untouched : (opened q : ℕ) (es : Trail) → touched (next_number opened es) q es ≡ false
next-untouched opened q es = not_below (next_number opened es) (touched (next_number opened es) q es) (touched-below opened (next_number opened es) q es)

-- It is above the number of each entry, and at least the one that opening found.
pub next-above : (first : ℕ) (newer older : Trail) (e : Placed) → after_number e.entry ≤ next_number first (newer ++ e ∷ older)
unfolding next_number
next-above first [] older e = omega (arith)
next-above first (x ∷ newer) older e = let below : after_number e.entry ≤ next_number first (newer ++ e ∷ older) = next-above first newer older e in omega (arith, below)

pub next-least : (first : ℕ) (es : Trail) → first ≤ next_number first es
unfolding next_number
next-least first [] = omega (arith)
next-least first (e ∷ es) = let below : first ≤ next_number first es = next-least first es in omega (arith, below)

-- Opening a log twice is opening it once: over what it found before, opening finds what the entries behind that committed.
use Rattle.std.proofs.Common.{◌≡◌, ◌≤◌, ◌<◌, ℕ, zero, suc, ◌-◌, max, Bool, true, false, not, cond, ◌&&◌, ◌||◌, nat_eq, [], ◌∷◌, ◌++◌, length, drop, Option, Some, None, unwrap_or, refl, sym, ap, ◌∙◌, subst, arith, true≢false, append-nil}
use Rattle.std.proofs.lemmas.Bool.{eq-eqb, eqb-true, or_left, false_from_ne_true}
use Rattle.std.specs.Option.{option_or}
use Rattle.tt_value.specs.declared.value.Cell.{Cell}
use Rattle.tt_record.specs.declared.entry.Entry.{Entry}
use Rattle.tt_record.specs.declared.entry.Entry.TheVariants.{Change, Commit, Abort, Mark, Switch}
use Rattle.tt_model.specs.Trail.{Trail, oldest}
use Rattle.tt_model.specs.Committed.{Cells, no_cells, put, changed, changed_by, after_commit, committed, current}
use Rattle.tt_model.specs.Live.{live, is_live, touched, after_number, next_number}
use Rattle.tt_model.specs.Steady.{IsGrown}
use Rattle.tt_model.specs.Standing.{is_end_of, is_ended, after_ended, before_unended, last_after, first_before, standing_at, standing}
use Rattle.tt_model.specs.Sound.{has_mark}
use Rattle.tt_model.specs.StepLaws.{IsNumberedFrom, AreNumberedFrom}
use Rattle.tt_model.proofs.Theorems.{checkpoints_open, opening_finds_committed}

-- ---- numbers

differs : (t u : ℕ) → t < u → nat_eq t u ≡ false
differs t u below = false_from_ne_true (nat_eq t u) (λ y. let same : t ≡ u = eqb-true t u y in omega (arith, same, below))

differs_above : (t u : ℕ) → u < t → nat_eq t u ≡ false
differs_above t u below = false_from_ne_true (nat_eq t u) (λ y. let same : t ≡ u = eqb-true t u y in omega (arith, same, below))

no_end_above : (t n : ℕ) (x : Entry) → max (after_number x) n ≤ t → is_end_of t x ≡ false
no_end_above t n (Change u p b a) h = refl
no_end_above t n (Commit u) h = differs_above t u (omega (arith, h))
no_end_above t n (Abort u) h = differs_above t u (omega (arith, h))
no_end_above t n Mark h = refl
no_end_above t n (Switch f) h = refl

-- no entry ends a transaction that is not below the next number
unended_above : (opened t : ℕ) (es : Trail) → next_number opened es ≤ t → is_ended t es ≡ false
unfolding next_number
unended_above opened t [] h = refl
unended_above opened t (e ∷ es) h =
    ap (λ b. b || is_ended t es) (no_end_above t (next_number opened es) e.entry h)
    ∙ unended_above opened t es (omega (arith, h))

no_end_below : (first t : ℕ) (x : Entry) → IsNumberedFrom first x → t < first → is_end_of t x ≡ false
no_end_below first t (Change u p b a) n h = refl
no_end_below first t (Commit u) n h = differs t u (omega (arith, n, h))
no_end_below first t (Abort u) n h = differs t u (omega (arith, n, h))
no_end_below first t Mark n h = refl
no_end_below first t (Switch f) n h = refl

-- entries end no transaction below their numbers
unended_below : (first t : ℕ) (es : Trail) → AreNumberedFrom first es → t < first → is_ended t es ≡ false
unended_below first t [] n h = refl
unended_below first t (e ∷ es) n h =
    ap (λ b. b || is_ended t es) (no_end_below first t e.entry (n.0) h) ∙ unended_below first t es (n.1) h

or_assoc : (a b c d : Bool) → b ≡ (c || d) → (a || b) ≡ ((a || c) || d)
or_assoc true b c d e = refl
or_assoc false b c d e = e

ended_in_both : (t : ℕ) (es found : Trail) → is_ended t (es ++ found) ≡ (is_ended t es || is_ended t found)
ended_in_both t [] found = refl
ended_in_both t (e ∷ es) found = or_assoc (is_end_of t e.entry) (is_ended t (es ++ found)) (is_ended t es) (is_ended t found) (ended_in_both t es found)

or_false : (a b : Bool) → b ≡ false → (a || b) ≡ a
or_false true b e = refl
or_false false b e = e

-- who is ended in the whole trail, by number
ended_late : (opened t : ℕ) (es found : Trail) → next_number opened found ≤ t → is_ended t (es ++ found) ≡ is_ended t es
ended_late opened t es found h = ended_in_both t es found ∙ or_false (is_ended t es) (is_ended t found) (unended_above opened t found h)

ended_early : (first t : ℕ) (es found : Trail) → AreNumberedFrom first es → t < first → is_ended t (es ++ found) ≡ is_ended t found
ended_early first t es found n h = ended_in_both t es found ∙ ap (λ b. b || is_ended t found) (unended_below first t es n h)

-- ---- what is picked at a place by two functions that agree

same_after : (f g : ℕ → Bool) (first q : ℕ) (x : Entry) → IsNumberedFrom first x → ((t : ℕ) → first ≤ t → f t ≡ g t) → after_ended f q x ≡ after_ended g q x
same_after f g first q (Change t p b a) n same = ap (λ y. cond (nat_eq q p && y) (Some a) None) (same t n)
same_after f g first q (Commit t) n same = refl
same_after f g first q (Abort t) n same = refl
same_after f g first q Mark n same = refl
same_after f g first q (Switch k) n same = refl

same_before : (f g : ℕ → Bool) (first q : ℕ) (x : Entry) → IsNumberedFrom first x → ((t : ℕ) → first ≤ t → f t ≡ g t) → before_unended f q x ≡ before_unended g q x
same_before f g first q (Change t p b a) n same = ap (λ y. cond (nat_eq q p && not y) (Some b) None) (same t n)
same_before f g first q (Commit t) n same = refl
same_before f g first q (Abort t) n same = refl
same_before f g first q Mark n same = refl
same_before f g first q (Switch k) n same = refl

late_last : (f g : ℕ → Bool) (first q : ℕ) (es : Trail) → AreNumberedFrom first es → ((t : ℕ) → first ≤ t → f t ≡ g t) → last_after f q es ≡ last_after g q es
late_last f g first q [] n same = refl
late_last f g first q (e ∷ es) n same =
    ap (λ o. option_or o (last_after f q es)) (same_after f g first q e.entry (n.0) same)
    ∙ ap (option_or (after_ended g q e.entry)) (late_last f g first q es (n.1) same)

late_first : (f g : ℕ → Bool) (first q : ℕ) (es : Trail) → AreNumberedFrom first es → ((t : ℕ) → first ≤ t → f t ≡ g t) → first_before f q es ≡ first_before g q es
late_first f g first q [] n same = refl
late_first f g first q (e ∷ es) n same =
    ap (option_or (first_before f q es)) (same_before f g first q e.entry (n.0) same)
    ∙ ap (λ o. option_or o (before_unended g q e.entry)) (late_first f g first q es (n.1) same)

early_after : (f g : ℕ → Bool) (n q : ℕ) (x : Entry) → after_number x ≤ n → ((t : ℕ) → t < n → f t ≡ g t) → after_ended f q x ≡ after_ended g q x
early_after f g n q (Change t p b a) h same = ap (λ y. cond (nat_eq q p && y) (Some a) None) (same t (omega (arith, h)))
early_after f g n q (Commit t) h same = refl
early_after f g n q (Abort t) h same = refl
early_after f g n q Mark h same = refl
early_after f g n q (Switch k) h same = refl

early_before : (f g : ℕ → Bool) (n q : ℕ) (x : Entry) → after_number x ≤ n → ((t : ℕ) → t < n → f t ≡ g t) → before_unended f q x ≡ before_unended g q x
early_before f g n q (Change t p b a) h same = ap (λ y. cond (nat_eq q p && not y) (Some b) None) (same t (omega (arith, h)))
early_before f g n q (Commit t) h same = refl
early_before f g n q (Abort t) h same = refl
early_before f g n q Mark h same = refl
early_before f g n q (Switch k) h same = refl

early_last : (f g : ℕ → Bool) (opened n q : ℕ) (es : Trail) → next_number opened es ≤ n → ((t : ℕ) → t < n → f t ≡ g t) → last_after f q es ≡ last_after g q es
unfolding next_number
early_last f g opened n q [] h same = refl
early_last f g opened n q (e ∷ es) h same =
    ap (λ o. option_or o (last_after f q es)) (early_after f g n q e.entry (omega (arith, h)) same)
    ∙ ap (option_or (after_ended g q e.entry)) (early_last f g opened n q es (omega (arith, h)) same)

early_first : (f g : ℕ → Bool) (opened n q : ℕ) (es : Trail) → next_number opened es ≤ n → ((t : ℕ) → t < n → f t ≡ g t) → first_before f q es ≡ first_before g q es
unfolding next_number
early_first f g opened n q [] h same = refl
early_first f g opened n q (e ∷ es) h same =
    ap (option_or (first_before f q es)) (early_before f g n q e.entry (omega (arith, h)) same)
    ∙ ap (λ o. option_or o (before_unended g q e.entry)) (early_first f g opened n q es (omega (arith, h)) same)

-- ---- two parts of a trail

or_joined : (x y z : Option Cell) → option_or x (option_or y z) ≡ option_or (option_or x y) z
or_joined None y z = refl
or_joined (Some c) y z = refl

last_joined : (f : ℕ → Bool) (q : ℕ) (es found : Trail) → last_after f q (es ++ found) ≡ option_or (last_after f q es) (last_after f q found)
last_joined f q [] found = refl
last_joined f q (e ∷ es) found =
    ap (option_or (after_ended f q e.entry)) (last_joined f q es found)
    ∙ or_joined (after_ended f q e.entry) (last_after f q es) (last_after f q found)

or_none : (x : Option Cell) → x ≡ option_or x None
or_none None = refl
or_none (Some c) = refl

first_joined : (f : ℕ → Bool) (q : ℕ) (es found : Trail) → first_before f q (es ++ found) ≡ option_or (first_before f q found) (first_before f q es)
first_joined f q [] found = or_none (first_before f q found)
first_joined f q (e ∷ es) found =
    ap (λ o. option_or o (before_unended f q e.entry)) (first_joined f q es found)
    ∙ sym (or_joined (first_before f q found) (first_before f q es) (before_unended f q e.entry))

-- ---- a place where no Change of an ended transaction is holds what it held

ended_in : (f : ℕ → Bool) (t q : ℕ) (x : Entry) (cells : Cells) (v : Cell) → f t ≡ true → after_ended f q x ≡ None → cells q ≡ v → changed t x cells q ≡ v
ended_in f t q (Change u p b a) cells v ends none is = by (nat_eq t u) (nat_eq q p) refl refl
  where
    by : (c d : Bool) → nat_eq t u ≡ c → nat_eq q p ≡ d → cond c (put p a cells) cells q ≡ v
    by false d e k = is
    by true false e k = ap (λ x. cond x a (cells q)) k ∙ is
    by true true e k =
        let this : f u ≡ true = ap f (sym (eqb-true t u e)) ∙ ends in
        let some : after_ended f q (Change u p b a) ≡ Some a = ap (λ x. cond (x && f u) (Some a) None) k ∙ ap (λ x. cond x (Some a) None) this in
        let no : ⊥ = cc in absurd no
ended_in f t q (Commit u) cells v ends none is = is
ended_in f t q (Abort u) cells v ends none is = is
ended_in f t q Mark cells v ends none is = is
ended_in f t q (Switch k) cells v ends none is = is

or_is_none : (x y : Option Cell) → option_or x y ≡ None → (x ≡ None) × (y ≡ None)
or_is_none None y h = (refl, h)
or_is_none (Some c) y h = let no : ⊥ = cc in absurd no

none_changed : (f : ℕ → Bool) (t q : ℕ) (es : Trail) (cells : Cells) (v : Cell) → f t ≡ true → last_after f q es ≡ None → cells q ≡ v → changed_by t es cells q ≡ v
none_changed f t q [] cells v ends none is = is
none_changed f t q (e ∷ es) cells v ends none is =
    let parts = or_is_none (after_ended f q e.entry) (last_after f q es) none in
    ended_in f t q e.entry (changed_by t es cells) v ends (parts.0) (none_changed f t q es cells v ends (parts.1) is)

none_settled : (f : ℕ → Bool) (q : ℕ) (x : Entry) (es : Trail) (cells : Cells) (v : Cell) → ((t : ℕ) → is_end_of t x ≡ true → f t ≡ true) → last_after f q es ≡ None → cells q ≡ v → after_commit x es cells q ≡ v
none_settled f q (Change t p b a) es cells v ends none is = is
none_settled f q (Commit t) es cells v ends none is = none_changed f t q es cells v (ends t (eq-eqb t t refl)) none is
none_settled f q (Abort t) es cells v ends none is = is
none_settled f q Mark es cells v ends none is = is
none_settled f q (Switch k) es cells v ends none is = is

or_right : (a b : Bool) → b ≡ true → (a || b) ≡ true
or_right true b h = refl
or_right false b h = h

none_committed : (f : ℕ → Bool) (base : Cells) (q : ℕ) (es : Trail) → ((t : ℕ) → is_ended t es ≡ true → f t ≡ true) → last_after f q es ≡ None → committed base es q ≡ base q
unfolding committed
none_committed f base q [] ends none = refl
none_committed f base q (e ∷ es) ends none =
    let parts = or_is_none (after_ended f q e.entry) (last_after f q es) none in
    none_settled f q e.entry es (committed base es) (base q) (λ t h. ends t (or_left (is_end_of t e.entry) (is_ended t es) h)) (parts.1)
    (none_committed f base q es (λ t h. ends t (or_right (is_end_of t e.entry) (is_ended t es) h)) (parts.1))

-- ---- opening again

-- the value over both parts is the one over the newer part, where that holds what is committed
same_value : (le lf fe ff : Option Cell) (c v : Cell) → unwrap_or le (unwrap_or fe (unwrap_or lf (unwrap_or ff c))) ≡ v
    → (le ≡ None → v ≡ unwrap_or lf (unwrap_or ff c)) → unwrap_or (option_or le lf) (unwrap_or (option_or ff fe) c) ≡ v
same_value (Some x) lf fe ff c v is bare = is
same_value None (Some y) fe ff c v is bare = sym (bare refl)
same_value None None fe (Some z) c v is bare = sym (bare refl)
same_value None None fe None c v is bare = is

standing_as : (f : ℕ → Bool) (cell : Cell) (es : Trail) (q : ℕ) (l r : Option Cell) → last_after f q es ≡ l → first_before f q es ≡ r → standing_at f cell es q ≡ unwrap_or l (unwrap_or r cell)
standing_as f cell es q l r is_l is_r = ap (λ o. unwrap_or o (unwrap_or (first_before f q es) cell)) is_l ∙ ap (λ o. unwrap_or l (unwrap_or o cell)) is_r

alone : (base : Cells) (q : ℕ) (es : Trail) → IsGrown base es → standing base es q ≡ committed base es q
unfolding live current
alone base q es grown =
    let none : es ++ [] ≡ es = append-nil es in
    opening_finds_committed base base q [] es (subst (λ (t : Trail). IsGrown base t) (sym none) grown) (λ t h k. absurd (true≢false (sym h))) (λ h. refl)
    ∙ ap (λ (t : Trail). committed base t q) none

-- What an image and a log stand for, whatever stands in them, is the base of what is committed by entries that came behind it:
-- opening finds what they committed over what it found before. `opened` is the image's own next number.
pub image_opens_again : (image : Cells) (opened : ℕ) (found entries : Trail) (q : ℕ) → IsGrown (standing image found) entries
    → AreNumberedFrom (next_number opened found) entries → standing image (entries ++ found) q ≡ committed (standing image found) entries q
unfolding standing
image_opens_again image opened found es q grown numbered =
    let all = λ (t : ℕ). is_ended t (es ++ found) in
    let new = λ (t : ℕ). is_ended t es in
    let old = λ (t : ℕ). is_ended t found in
    let n = next_number opened found in
    let last : last_after all q (es ++ found) ≡ option_or (last_after new q es) (last_after old q found) =
    last_joined all q es found
    ∙ ap (λ o. option_or o (last_after all q found)) (late_last all new n q es numbered (λ t h. ended_late opened t es found h))
    ∙ ap (option_or (last_after new q es)) (early_last all old opened n q found (omega arith) (λ t h. ended_early n t es found numbered h)) in
    let first : first_before all q (es ++ found) ≡ option_or (first_before old q found) (first_before new q es) =
    first_joined all q es found
    ∙ ap (λ o. option_or o (first_before all q es)) (early_first all old opened n q found (omega arith) (λ t h. ended_early n t es found numbered h))
    ∙ ap (option_or (first_before old q found)) (late_first all new n q es numbered (λ t h. ended_late opened t es found h)) in
    standing_as all (image q) (es ++ found) q (option_or (last_after new q es) (last_after old q found)) (option_or (first_before old q found) (first_before new q es)) last first
    ∙ same_value (last_after new q es) (last_after old q found) (first_before new q es) (first_before old q found) (image q) (committed (standing image found) es q)
    (alone (standing image found) q es grown)
    (λ h. none_committed new (standing image found) q es (λ t k. k) h)

pub opens_again : (found entries : Trail) (q : ℕ) → IsGrown (standing no_cells found) entries
    → AreNumberedFrom (next_number 1 found) entries → standing no_cells (entries ++ found) q ≡ committed (standing no_cells found) entries q
opens_again found es q grown numbered = image_opens_again no_cells 1 found es q grown numbered

-- An image of which a place was copied at a moment behind its scan position: `older` are the entries before that position, `middle` those
-- up to the copy, `newer` those behind it, as many as a crash leaves. It opens with what all of them committed. So two images that
-- were completed open alike with each prefix that has the entries up to both.
pub copied_image_opens : (base image : Cells) (q : ℕ) (newer middle older : Trail) → IsGrown base ((newer ++ middle) ++ older)
    → has_mark middle ≡ false → ((t : ℕ) → is_live t older ≡ true → touched t q older ≡ true → is_ended t (newer ++ middle) ≡ true) → image q ≡ current base (middle ++ older) q
    → standing image (newer ++ middle) q ≡ committed base ((newer ++ middle) ++ older) q
copied_image_opens base image q newer middle older grown unmarked ended copied =
    opening_finds_committed base image q older (newer ++ middle) grown ended (λ h. copied ∙ checkpoints_open.copied base q newer middle older unmarked h)

pub either_image_opens : (base : Cells) (image : ℕ → Cells) (q : ℕ) (newer middle older : ℕ → Trail)
    → (newer 0 ++ middle 0) ++ older 0 ≡ (newer 1 ++ middle 1) ++ older 1
    → ((f : ℕ) → IsGrown base ((newer f ++ middle f) ++ older f)) → ((f : ℕ) → has_mark (middle f) ≡ false)
    → ((f t : ℕ) → is_live t (older f) ≡ true → touched t q (older f) ≡ true → is_ended t (newer f ++ middle f) ≡ true)
    → ((f : ℕ) → image f q ≡ current base (middle f ++ older f) q)
    → standing (image 0) (newer 0 ++ middle 0) q ≡ standing (image 1) (newer 1 ++ middle 1) q
either_image_opens base image q newer middle older one_trail grown unmarked ended copied =
    copied_image_opens base (image 0) q (newer 0) (middle 0) (older 0) (grown 0) (unmarked 0) (ended 0) (copied 0)
    ∙ ap (λ (t : Trail). committed base t q) one_trail
    ∙ sym (copied_image_opens base (image 1) q (newer 1) (middle 1) (older 1) (grown 1) (unmarked 1) (ended 1) (copied 1))

-- ---- the first entries of them

grown_drop : (base : Cells) (k : ℕ) (es : Trail) → IsGrown base es → IsGrown base (drop k es)
grown_drop base zero es h = h
grown_drop base (suc k) [] h = h
grown_drop base (suc k) (e ∷ es) h = grown_drop base k es (h.1)

pub grown_oldest : (base : Cells) (n : ℕ) (entries : Trail) → IsGrown base entries → IsGrown base (oldest n entries)
grown_oldest base n es h = grown_drop base (length es - n) es h

numbered_drop : (first k : ℕ) (es : Trail) → AreNumberedFrom first es → AreNumberedFrom first (drop k es)
numbered_drop first zero es h = h
numbered_drop first (suc k) [] h = h
numbered_drop first (suc k) (e ∷ es) h = numbered_drop first k es (h.1)

pub numbered_oldest : (first n : ℕ) (entries : Trail) → AreNumberedFrom first entries → AreNumberedFrom first (oldest n entries)
numbered_oldest first n es h = numbered_drop first (length es - n) es h

-- The same of the first n entries that came behind it, as a crash may leave them.
pub oldest_opens_again : (found entries : Trail) (n q : ℕ) → IsGrown (standing no_cells found) entries
    → AreNumberedFrom (next_number 1 found) entries → standing no_cells (oldest n entries ++ found) q ≡ committed (standing no_cells found) (oldest n entries) q
oldest_opens_again found es n q grown numbered =
    opens_again found (oldest n es) q (grown_oldest (standing no_cells found) n es grown) (numbered_oldest (next_number 1 found) n es numbered)

-- ---- the next transaction's number

pub next_again : (opened : ℕ) (found entries : Trail) → next_number opened (entries ++ found) ≡ next_number (next_number opened found) entries
unfolding next_number
next_again opened found [] = refl
next_again opened found (e ∷ es) = ap (max (after_number e.entry)) (next_again opened found es)

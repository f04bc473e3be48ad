-- What is committed at a place that a live transaction changed is the row before of its first Change there.
use Rattle.std.proofs.Common.{◌≡◌, ℕ, true, false, cond, nat_eq, ◌&&◌, [], ◌∷◌, ◌++◌, Some, None, unwrap_or, refl, sym, ap, ◌∙◌}
use Rattle.std.proofs.lemmas.Bool.{eq-eqb, or_left, or_right}
use Rattle.std.specs.Option.{option_or}
use Rattle.tt_value.specs.declared.value.Cell.{Cell}
use Rattle.tt_value.specs.declared.position.Position.{Position}
use Rattle.tt_record.specs.declared.entry.Entry.{Entry}
use Rattle.tt_record.specs.declared.entry.Entry.TheVariants.{Change, Commit, Abort, Mark, Switch}
use Rattle.tt_model.specs.Trail.{Placed, Trail}
use Rattle.tt_model.specs.Committed.{Cells, committed}
use Rattle.tt_model.specs.Live.{is_live, names, touched}
use Rattle.tt_model.specs.Steady.{IsGrown}
use Rattle.tt_model.specs.StepLaws.{FirstChangesFoundCommitted, before_of, first_before_of}
use Rattle.tt_model.proofs.FirstBeforeLemmas.{before_by, first_before_by, first_before-committed, none_before}
use Rattle.tt_model.proofs.SteadyLemmas.{at_place}

before_is : (t q : ℕ) (x : Entry) → before_of t q x ≡ before_by t q x
before_is t q (Change u p b a) = refl
before_is t q (Commit u) = refl
before_is t q (Abort u) = refl
before_is t q Mark = refl
before_is t q (Switch f) = refl

first_is : (t q : ℕ) (es : Trail) → first_before_of t q es ≡ first_before_by t q es
first_is t q [] = refl
first_is t q (e ∷ es) = ap (λ f. option_or f (before_of t q e.entry)) (first_is t q es) ∙ ap (option_or (first_before_by t q es)) (before_is t q e.entry)

first_found : (base : Cells) (es : Trail) (t q : ℕ) → IsGrown base es → is_live t es ≡ true → touched t q es ≡ true → first_before_of t q es ≡ Some (committed base es q)
first_found base es t q grown lives there = first_is t q es ∙ first_before-committed base t q es grown lives there

-- ---- the Change itself

own_named : (t q : ℕ) → (nat_eq t t && nat_eq q q) ≡ true
own_named t q = ap (λ c. c && nat_eq q q) (eq-eqb t t refl) ∙ eq-eqb q q refl

touched_there : (t q : ℕ) (newer older : Trail) (e : Placed) → names t q e.entry ≡ true → touched t q (newer ++ e ∷ older) ≡ true
touched_there t q [] older e is = or_left (names t q e.entry) (touched t q older) is
touched_there t q (x ∷ newer) older e is = or_right (names t q x.entry) (touched t q (newer ++ e ∷ older)) (touched_there t q newer older e is)

-- Newer entries leave which one was the first.
first_stays : (t q : ℕ) (newer older : Trail) (b : Cell) → first_before_of t q older ≡ Some b → first_before_of t q (newer ++ older) ≡ Some b
first_stays t q [] older b is = is
first_stays t q (x ∷ newer) older b is = ap (λ f. option_or f (before_of t q x.entry)) (first_stays t q newer older b is)

first_one : (t q : ℕ) (b a : Cell) (at : Position) (older : Trail) → touched t q older ≡ false → first_before_of t q (at_place at (Change t q b a) ∷ older) ≡ Some b
first_one t q b a at older none =
    ap (λ f. option_or f (cond (nat_eq t t && nat_eq q q) (Some b) None)) (first_is t q older ∙ none_before t q older none)
    ∙ ap (λ c. cond c (Some b) None) (own_named t q)

each_found : (base : Cells) (newer older : Trail) (at : Position) (t q : ℕ) (b a : Cell) → IsGrown base (newer ++ at_place at (Change t q b a) ∷ older) →
    is_live t (newer ++ at_place at (Change t q b a) ∷ older) ≡ true → touched t q older ≡ false → committed base (newer ++ at_place at (Change t q b a) ∷ older) q ≡ b
each_found base newer older at t q b a grown lives none =
    let es : Trail = newer ++ at_place at (Change t q b a) ∷ older in
    let found : first_before_of t q es ≡ Some (committed base es q) = first_found base es t q grown lives (touched_there t q newer older (at_place at (Change t q b a)) (own_named t q)) in
    let first : first_before_of t q es ≡ Some b = first_stays t q newer (at_place at (Change t q b a) ∷ older) b (first_one t q b a at older none) in
    ap (λ o. unwrap_or o b) (sym found ∙ first)

pub first_changes : FirstChangesFoundCommitted
first_changes = record { first = first_found; each = each_found }

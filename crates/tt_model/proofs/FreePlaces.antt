-- The least free place is at most the count of places in use.
use Rattle.std.proofs.Common.{◌≡◌, ◌≤◌, ◌<◌, ◌+◌, ◌*◌, ℕ, zero, suc, Bool, true, false, cond, nat_lt, List, [], ◌∷◌, None, refl, arith}
use Rattle.std.specs.Prelude.{count_by}
use Rattle.std.proofs.lemmas.Bool.{ltb-false}
use Rattle.std.proofs.lemmas.List.Recursion.{is_count_by}
use Rattle.tt_value.specs.declared.refusal.Refusal.{Refusal}
use Rattle.tt_value.specs.declared.refusal.Refusal.TheVariants.{PermFull}
use Rattle.tt_model.specs.Live.{least_from, numbers_from}
use Rattle.tt_model.specs.Meaning.{no_room, refused_if}
use Rattle.tt_model.specs.State.{State, bound, free_place, is_used, used_count}
use Rattle.tt_model.specs.StepLaws.{FreePlaceIsAmongUsed}

-- how many of some numbers pass, one by one
abbrev pub counted : (ℕ → Bool) → List ℕ → ℕ
counted f [] = 0
counted f (x ∷ xs) = cond (f x) (1 + counted f xs) (counted f xs)

pub counted-is : (f : ℕ → Bool) (xs : List ℕ) → counted f xs ≡ count_by f xs
counted-is f xs = is_count_by (counted f) f refl (λ x ys. refl) xs

least_step : (c : Bool) (least from count : ℕ) → least ≤ suc from + count → cond c least from ≤ from + cond c (1 + count) count
least_step true least from count h = omega (arith, h)
least_step false least from count h = omega arith

least-count : (taken : ℕ → Bool) (n from : ℕ) → least_from taken n from ≤ from + counted taken (numbers_from n from)
least-count taken zero from = omega arith
least-count taken (suc n) from = least_step (taken from) (least_from taken n (suc from)) from (counted taken (numbers_from n (suc from))) (least-count taken n (suc from))

pub free-among_used : FreePlaceIsAmongUsed
free-among_used s =
    let least : free_place s ≤ 0 + counted (is_used s) (numbers_from (bound s) 0) = least-count (is_used s) (bound s) 0 in
    let is : counted (is_used s) (numbers_from (bound s) 0) ≡ used_count s = counted-is (is_used s) (numbers_from (bound s) 0) in
    omega (arith, least, is)

pub not_refused : (c : Bool) (r : Refusal) → refused_if c r ≡ None → c ≡ false
not_refused true r h = let no : ⊥ = cc in absurd no
not_refused false r h = refl

-- Where a place is wanted and there is room, the free one lies in the pages that may be used.
pub free-below : (s : State) → no_room 1 s ≡ None → free_place s < 32 * s.settings.perm_pages
free-below s h =
    let room : used_count s + 1 ≤ 32 * s.settings.perm_pages = ltb-false (32 * s.settings.perm_pages) (used_count s + 1) (not_refused (nat_lt (32 * s.settings.perm_pages) (used_count s + 1)) (PermFull (32 * s.settings.perm_pages)) h) in
    let among : free_place s ≤ used_count s = free-among_used s in
    omega (arith, room, among)

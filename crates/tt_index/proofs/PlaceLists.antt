-- Lists of places with one more, or without one.
use Rattle.std.proofs.Common.{◌≡◌, ◌<◌, ℕ, Bool, true, false, cond, not, nat_eq, List, [], ◌∷◌, refl, sym, ap, ◌∙◌, subst}
use Rattle.std.specs.List.{list_any}
use Rattle.std.specs.Set.{remove_key}
use Rattle.std.specs.BTreeMap.{is_at}
use Rattle.std.specs.Ordering.{nat_cmp, is_eq, match_ordering, MatchOrdering}
use Rattle.std.specs.declared.cmp.Ordering.{Ordering}
use Rattle.std.specs.declared.cmp.Ordering.TheVariants.{Less, Equal, Greater}
use Rattle.std.proofs.lemmas.Bool.{ne_eqb, eq-eqb, or_parts}
use Rattle.std.proofs.lemmas.Cmp.{ranked, tied_itself, nat_cmp_total}
use Rattle.tt_index.specs.Indexes.{with_place, without_place}

-- a place that was added is there
pub with_place_some : (place : ℕ) (places : List ℕ) → with_place place places ≡ [] → ⊥
with_place_some place [] e = cc
with_place_some place (x ∷ xs) e = by (nat_cmp place x) e
  where
    by : (o : Ordering) → match_ordering o (place ∷ x ∷ xs) (x ∷ xs) (x ∷ with_place place xs) ≡ [] → ⊥
    by Less h = cc
    by Equal h = cc
    by Greater h = cc

pub same_place : (a b : ℕ) → nat_cmp a b ≡ Equal → a ≡ b
same_place a b e = let P : Ordering → Type 0 = λ o. MatchOrdering o (a < b) (a ≡ b) (b < a) in subst P e (ranked a b (nat_cmp a b) refl)

-- the order tells places apart as equality does
pub at_place : (a b : ℕ) → is_at (nat_cmp a) b ≡ nat_eq a b
at_place a b = by (nat_cmp a b) refl
  where
    apart : (o : Ordering) → nat_cmp a b ≡ o → (o ≡ Equal → ⊥) → a ≡ b → ⊥
    apart o e other h = other (sym e ∙ ap (λ k. nat_cmp k b) h ∙ tied_itself nat_cmp_total b)

    by : (o : Ordering) → nat_cmp a b ≡ o → is_eq o ≡ nat_eq a b
    by Less e = sym (ne_eqb a b (apart Less e (λ h. cc)))
    by Equal e = sym (eq-eqb a b (same_place a b e))
    by Greater e = sym (ne_eqb a b (apart Greater e (λ h. cc)))

-- a place that isn't there can't be taken out
pub without_absent : (place : ℕ) (places : List ℕ) → list_any (is_at (nat_cmp place)) places ≡ false → without_place place places ≡ places
without_absent place [] e = refl
without_absent place (x ∷ xs) e =
    let h = or_parts (is_at (nat_cmp place) x) (list_any (is_at (nat_cmp place)) xs) e in
    ap (λ b. cond (not b) (x ∷ without_place place xs) (without_place place xs)) (sym (at_place place x) ∙ h.0) ∙ ap (λ (ys : List ℕ). x ∷ ys) (without_absent place xs h.1)

-- a place that is there once at most is gone once it was removed
pub removed_place : (place : ℕ) (places : List ℕ) → list_any (is_at (nat_cmp place)) (remove_key (is_at (nat_cmp place)) places) ≡ false →
    remove_key (is_at (nat_cmp place)) places ≡ without_place place places
removed_place place [] e = refl
removed_place place (x ∷ xs) e = ap (λ b. cond b xs (x ∷ remove_key (is_at (nat_cmp place)) xs)) (at_place place x) ∙ by (nat_eq place x) (at_place place x) e (removed_place place xs)
  where
    by : (b : Bool) → is_at (nat_cmp place) x ≡ b → list_any (is_at (nat_cmp place)) (cond (is_at (nat_cmp place) x) xs (x ∷ remove_key (is_at (nat_cmp place)) xs)) ≡ false →
        (list_any (is_at (nat_cmp place)) (remove_key (is_at (nat_cmp place)) xs) ≡ false → remove_key (is_at (nat_cmp place)) xs ≡ without_place place xs) →
        cond b xs (x ∷ remove_key (is_at (nat_cmp place)) xs) ≡ cond (not b) (x ∷ without_place place xs) (without_place place xs)
    by true at h go = sym (without_absent place xs (sym (ap (λ b. list_any (is_at (nat_cmp place)) (cond b xs (x ∷ remove_key (is_at (nat_cmp place)) xs))) at) ∙ h))
    by false at h go =
        let rest : list_any (is_at (nat_cmp place)) (x ∷ remove_key (is_at (nat_cmp place)) xs) ≡ false = sym (ap (λ b. list_any (is_at (nat_cmp place)) (cond b xs (x ∷ remove_key (is_at (nat_cmp place)) xs))) at) ∙ h in
        ap (λ (ys : List ℕ). x ∷ ys) (go (or_parts (is_at (nat_cmp place) x) (list_any (is_at (nat_cmp place)) (remove_key (is_at (nat_cmp place)) xs)) rest).1)

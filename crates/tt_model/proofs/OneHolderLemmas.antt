-- At most one live transaction holds a key or a unique value.
use Rattle.std.proofs.Common.{◌≡◌, ◌⊎◌, inl, inr, ℕ, true, false, not, ◌&&◌, ◌||◌, nat_eq, [], ◌∷◌, Some, None, sym, ap, ◌∙◌, true≢false}
use Rattle.std.proofs.lemmas.Bool.{eqb-true, cases_Bool, or_cases, and_parts, and_from, both_ways}
use Rattle.tt_value.specs.declared.value.Cell.{Cell}
use Rattle.tt_value.specs.declared.position.Position.{Position}
use Rattle.tt_record.specs.declared.entry.Entry.TheVariants.{Change, Commit, Abort, Mark}
use Rattle.tt_model.specs.Trail.{Trail}
use Rattle.tt_model.specs.Live.{live, is_live}
use Rattle.tt_model.specs.Holders.{Held, has_held, is_held_by, other_holder, HasOneHolder}
use Rattle.tt_model.proofs.SteadyLemmas.{at_place, list_any-with_number, is_in-without}
use Rattle.tt_model.proofs.ConflictLemmas.{none_passes}

-- Where no other one than t holds it, each live holder is t.
pub only-other_holder : (t : ℕ) (name : Held) (es : Trail) → other_holder (Some t) name es ≡ None →
    (u : ℕ) → is_live u es ≡ true → is_held_by name es u ≡ true → u ≡ t
unfolding other_holder
only-other_holder t name es none u l h = elim (cases_Bool (nat_eq t u)) [
  | inl e ↦ sym (eqb-true t u e)
  | inr n ↦ absurd (both_ways (is_held_by name es u && not (nat_eq t u))
      (none_passes (λ v. is_held_by name es v && not (nat_eq t v)) (live es) none u l)
      (and_from (is_held_by name es u) (not (nat_eq t u)) h (ap not n)))
]

module _ (t p : ℕ) (b a : Cell) (at : Position) (name : Held) (es : Trail) (one : HasOneHolder name es)
    (fresh : is_live t es ≡ false → is_held_by name es t ≡ false)
    (free : (has_held name b || has_held name a) ≡ true → other_holder (Some t) name es ≡ None) where
  -- A live holder now is t, or was a live holder before, who is t where the Change has it.
  Was : ℕ → Type 0
  Was u = (u ≡ t) ⊎ ((is_live u es ≡ true) × (is_held_by name es u ≡ true))

  was : (u : ℕ) → is_live u (at_place at (Change t p b a) ∷ es) ≡ true → is_held_by name (at_place at (Change t p b a) ∷ es) u ≡ true → Was u
  unfolding live Was
  was u l h = elim (or_cases (nat_eq u t) (is_live u es) (sym (list_any-with_number (nat_eq u) t (live es)) ∙ l)) [
    | inl e ↦ inl (eqb-true u t e)
    | inr k ↦ elim (or_cases (nat_eq u t && (has_held name b || has_held name a)) (is_held_by name es u) h) [
      | inl m ↦ inl (eqb-true u t ((and_parts (nat_eq u t) (has_held name b || has_held name a) m).0))
      | inr m ↦ inr (k, m)
    ]
  ]

  -- t holds it by the Change, or held it before.
  by_change : (u : ℕ) → u ≡ t → is_held_by name (at_place at (Change t p b a) ∷ es) u ≡ true →
      ((has_held name b || has_held name a) ≡ true) ⊎ (is_held_by name es t ≡ true)
  by_change u e h = elim (or_cases (nat_eq u t && (has_held name b || has_held name a)) (is_held_by name es u) h) [
    | inl m ↦ inl ((and_parts (nat_eq u t) (has_held name b || has_held name a) m).1)
    | inr m ↦ inr (ap (is_held_by name es) (sym e) ∙ m)
  ]

  lived : is_held_by name es t ≡ true → is_live t es ≡ true
  lived h = elim (cases_Bool (is_live t es)) [ inl y ↦ y | inr n ↦ absurd (both_ways (is_held_by name es t) (fresh n) h) ]

  other_is : (u v : ℕ) → u ≡ t → is_held_by name (at_place at (Change t p b a) ∷ es) u ≡ true → is_live v es ≡ true → is_held_by name es v ≡ true → v ≡ t
  other_is u v e h l k = elim (by_change u e h) [
    | inl m ↦ only-other_holder t name es (free m) v l k
    | inr m ↦ one v t l (lived m) k m
  ]

  pub one_holder-Change : HasOneHolder name (at_place at (Change t p b a) ∷ es)
  unfolding Was
  one_holder-Change u v lu lv hu hv = elim (was u lu hu) [
    | inl eu ↦ elim (was v lv hv) [ inl ev ↦ eu ∙ sym ev | inr wv ↦ eu ∙ sym (other_is u v eu hu (wv.0) (wv.1)) ]
    | inr wu ↦ elim (was v lv hv) [ inl ev ↦ other_is v u ev hv (wu.0) (wu.1) ∙ sym ev | inr wv ↦ one u v (wu.0) (wv.0) (wu.1) (wv.1) ]
  ]

-- An entry that ends a transaction leaves fewer.
pub one_holder-Commit : (t : ℕ) (at : Position) (name : Held) (es : Trail) → HasOneHolder name es → HasOneHolder name (at_place at (Commit t) ∷ es)
unfolding live
one_holder-Commit t at name es one u v lu lv hu hv = one u v ((is_in-without t u (live es) lu).1) ((is_in-without t v (live es) lv).1) hu hv

pub one_holder-Abort : (t : ℕ) (at : Position) (name : Held) (es : Trail) → HasOneHolder name es → HasOneHolder name (at_place at (Abort t) ∷ es)
unfolding live
one_holder-Abort t at name es one u v lu lv hu hv = one u v ((is_in-without t u (live es) lu).1) ((is_in-without t v (live es) lv).1) hu hv

pub one_holder-Mark : (at : Position) (name : Held) (es : Trail) → HasOneHolder name (at_place at Mark ∷ es)
unfolding live
one_holder-Mark at name es u v lu lv hu hv = absurd (true≢false (sym lu))

pub one_holder-start : (name : Held) → HasOneHolder name []
unfolding live
one_holder-start name u v lu lv hu hv = absurd (true≢false (sym lu))

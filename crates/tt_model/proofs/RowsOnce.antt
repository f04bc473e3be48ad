-- Where at most one row has a key or a unique value, in what is committed and in what each live transaction sees, one more entry keeps it
-- so.
use Rattle.std.proofs.Common.{◌≡◌, inl, inr, ℕ, Bool, true, false, cond, ◌&&◌, ◌||◌, nat_eq, [], ◌∷◌, refl, sym, ap, ◌∙◌, subst, true≢false}
use Rattle.std.proofs.lemmas.Bool.{cases_Bool, eqb-true, eq-eqb, or_cases, or_left, or_right, and_parts, and_from, both_ways}
use Rattle.tt_value.specs.declared.value.Cell.{Cell}
use Rattle.tt_value.specs.declared.position.Position.{Position}
use Rattle.tt_record.specs.declared.entry.Entry.{Entry}
use Rattle.tt_record.specs.declared.entry.Entry.TheVariants.{Change, Commit, Abort, Mark, Switch}
use Rattle.tt_model.specs.Trail.{Trail}
use Rattle.tt_model.specs.Committed.{Cells, put, changed, changed_by, committed}
use Rattle.tt_model.specs.Live.{live, is_live, touched, names}
use Rattle.tt_model.specs.Holders.{Held, has_held, holds_by, is_held_by, HasOneHolder}
use Rattle.tt_model.proofs.SteadyLemmas.{at_place, list_any-with_number, is_in-without, changed-at, changed_by-touched, changed_by-untouched}

-- At most one row of the cells has it.
abbrev pub IsOnce : Held → Cells → Type 0
IsOnce name cells = (p q : ℕ) → has_held name (cells p) ≡ true → has_held name (cells q) ≡ true → p ≡ q

-- So it is in what is committed and in what each live transaction sees.
pub record StandsOnce (name : Held) (base : Cells) (es : Trail) : Type 0 where
  pub settled : IsOnce name (committed base es)
  pub seen : (t : ℕ) → is_live t es ≡ true → IsOnce name (changed_by t es (committed base es))

-- No row at another place has what a cell has.
abbrev pub IsAlone : Held → ℕ → Cell → Cells → Type 0
IsAlone name p a cells = has_held name a ≡ true → (q : ℕ) → nat_eq q p ≡ false → has_held name (cells q) ≡ false

pub once-pointwise : (name : Held) (c d : Cells) → ((q : ℕ) → has_held name (d q) ≡ has_held name (c q)) → IsOnce name c → IsOnce name d
once-pointwise name c d same one p q hp hq = one p q (sym (same p) ∙ hp) (sym (same q) ∙ hq)

pub once-put : (name : Held) (p : ℕ) (a : Cell) (cells : Cells) → IsOnce name cells → IsAlone name p a cells → IsOnce name (put p a cells)
once-put name p a cells one alone x y hx hy = by (nat_eq x p) refl (nat_eq y p) refl hx hy
  where
    by : (c : Bool) → nat_eq x p ≡ c → (d : Bool) → nat_eq y p ≡ d → has_held name (cond c a (cells x)) ≡ true → has_held name (cond d a (cells y)) ≡ true → x ≡ y
    by true e true f hx hy = eqb-true x p e ∙ sym (eqb-true y p f)
    by true e false f hx hy = absurd (both_ways (has_held name (cells y)) (alone hx y f) hy)
    by false e true f hx hy = absurd (both_ways (has_held name (cells x)) (alone hy x e) hx)
    by false e false f hx hy = one x y hx hy

-- ---- a Change

module _ (name : Held) (base : Cells) (es : Trail) (at : Position) (t p : ℕ) (b a : Cell) (stands : StandsOnce name base es)
    (fresh : is_live t es ≡ false → (q : ℕ) → touched t q es ≡ false) (alone : IsOnce name (changed_by t es (committed base es)) → IsAlone name p a (changed_by t es (committed base es))) where
  -- What the transaction sees before it.
  own_view : IsOnce name (changed_by t es (committed base es))
  own_view = elim (cases_Bool (is_live t es)) [
    | inl l ↦ stands.seen t l
    | inr n ↦ once-pointwise name (committed base es) (changed_by t es (committed base es))
        (λ q. ap (has_held name) (changed_by-untouched t q es (committed base es) (fresh n q))) stands.settled
  ]

  by_number : (u : ℕ) → is_live u (at_place at (Change t p b a) ∷ es) ≡ true → (c : Bool) → nat_eq u t ≡ c →
      IsOnce name (cond c (put p a (changed_by u es (committed base es))) (changed_by u es (committed base es)))
  unfolding live
  by_number u l true e =
      subst (λ (v : ℕ). IsOnce name (put p a (changed_by v es (committed base es)))) (sym (eqb-true u t e))
      (once-put name p a (changed_by t es (committed base es)) own_view (alone own_view))
  by_number u l false e = elim (or_cases (nat_eq u t) (is_live u es) (sym (list_any-with_number (nat_eq u) t (live es)) ∙ l)) [
    | inl y ↦ absurd (both_ways (nat_eq u t) e y)
    | inr y ↦ stands.seen u y
  ]

  pub once-Change : StandsOnce name base (at_place at (Change t p b a) ∷ es)
  unfolding committed
  once-Change = record { settled = stands.settled; seen = λ u l. by_number u l (nat_eq u t) refl }

-- ---- a Commit

-- A transaction that left it at a place holds it.
left_step : (name : Held) (u q : ℕ) (x : Entry) (view : Cells) (touch held : Bool) → (touch ≡ true → has_held name (view q) ≡ true → held ≡ true) →
    (names u q x || touch) ≡ true → has_held name (changed u x view q) ≡ true → (holds_by name u x || held) ≡ true
left_step name u q (Change v p b a) view touch held ih y h =
    by (nat_eq u v && nat_eq q p) refl y (ap (has_held name) (sym (changed-at u v p q b a view)) ∙ h)
  where
    by : (c : Bool) → (nat_eq u v && nat_eq q p) ≡ c → (c || touch) ≡ true → has_held name (cond c a (view q)) ≡ true → (holds_by name u (Change v p b a) || held) ≡ true
    by true e y h =
        or_left (nat_eq u v && (has_held name b || has_held name a)) held
        (and_from (nat_eq u v) (has_held name b || has_held name a) ((and_parts (nat_eq u v) (nat_eq q p) e).0) (or_right (has_held name b) (has_held name a) h))
    by false e y h = or_right (holds_by name u (Change v p b a)) held (ih y h)
left_step name u q (Commit v) view touch held ih y h = ih y h
left_step name u q (Abort v) view touch held ih y h = ih y h
left_step name u q Mark view touch held ih y h = ih y h
left_step name u q (Switch f) view touch held ih y h = ih y h

pub left-held : (name : Held) (u q : ℕ) (es : Trail) (cells : Cells) → touched u q es ≡ true → has_held name (changed_by u es cells q) ≡ true → is_held_by name es u ≡ true
left-held name u q [] cells y h = absurd (true≢false (sym y))
left-held name u q (e ∷ es) cells y h =
    left_step name u q e.entry (changed_by u es cells) (touched u q es) (is_held_by name es u) (left-held name u q es cells) y h

module _ (name : Held) (es : Trail) (t u : ℕ) (cells : Cells) (one : HasOneHolder name es) (lt : is_live t es ≡ true) (lu : is_live u es ≡ true) (other : nat_eq t u ≡ false)
    (by_t : IsOnce name (changed_by t es cells)) (by_u : IsOnce name (changed_by u es cells)) where
  pub over : Cells
  over = changed_by u es (changed_by t es cells)

  -- One row is u's, the other one is not.
  mixed : (p q : ℕ) → touched u p es ≡ true → touched u q es ≡ false → has_held name (over p) ≡ true → has_held name (over q) ≡ true → p ≡ q
  unfolding over
  mixed p q yp nq hp hq =
      let at_p : has_held name (changed_by u es cells p) ≡ true = ap (has_held name) (changed_by-touched u p es cells (changed_by t es cells) yp) ∙ hp in
      let at_q : has_held name (changed_by t es cells q) ≡ true = ap (has_held name) (sym (changed_by-untouched u q es (changed_by t es cells) nq)) ∙ hq in
      elim (cases_Bool (touched t q es)) [
        | inl y ↦
            let same : t ≡ u = one t u lt lu (left-held name t q es cells y at_q) (left-held name u p es cells yp at_p) in
            absurd (both_ways (nat_eq t u) other (eq-eqb t u same))
        | inr n ↦ by_u p q at_p
            (ap (has_held name) (changed_by-untouched u q es cells nq ∙ sym (changed_by-untouched t q es cells n)) ∙ at_q)
      ]

  pub once-over : IsOnce name over
  unfolding over
  once-over p q hp hq = elim (cases_Bool (touched u p es)) [
    | inl yp ↦ elim (cases_Bool (touched u q es)) [
      | inl yq ↦ by_u p q (ap (has_held name) (changed_by-touched u p es cells (changed_by t es cells) yp) ∙ hp)
          (ap (has_held name) (changed_by-touched u q es cells (changed_by t es cells) yq) ∙ hq)
      | inr nq ↦ mixed p q yp nq hp hq
    ]
    | inr np ↦ elim (cases_Bool (touched u q es)) [
      | inl yq ↦ sym (mixed q p yq np hq hp)
      | inr nq ↦ by_t p q (ap (has_held name) (sym (changed_by-untouched u p es (changed_by t es cells) np)) ∙ hp)
          (ap (has_held name) (sym (changed_by-untouched u q es (changed_by t es cells) nq)) ∙ hq)
    ]
  ]

pub once-Commit : (name : Held) (base : Cells) (es : Trail) (at : Position) (t : ℕ) → StandsOnce name base es → HasOneHolder name es → is_live t es ≡ true →
    StandsOnce name base (at_place at (Commit t) ∷ es)
unfolding committed live over
once-Commit name base es at t stands one l = record {
  settled = stands.seen t l;
  seen = λ u k.
      let left : (nat_eq t u ≡ false) × (is_live u es ≡ true) = is_in-without t u (live es) k in
      once-over name es t u (committed base es) one l (left.1) (left.0) (stands.seen t l) (stands.seen u (left.1));
}

-- ---- other entries

pub once-Mark : (name : Held) (base : Cells) (es : Trail) (at : Position) → IsOnce name (committed base es) → StandsOnce name base (at_place at Mark ∷ es)
unfolding committed live
once-Mark name base es at one = record { settled = one; seen = λ u l. absurd (true≢false (sym l)) }

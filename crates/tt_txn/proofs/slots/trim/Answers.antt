use Rattle.std.proofs.Common.{◌≡◌, ◌-◌, ◌∙◌, ℕ, List, Option, Some, None, length, get_or, take, ap, sym, arith, rules, inl, inr, vec_len}
use Rattle.std.specs.Prelude.{slice_get}
use Rattle.std.specs.Option.{option_copied}
use Rattle.std.proofs.lemmas.Bool.{cases_lt, cases_eq}
use Rattle.std.proofs.lemmas.List.{get_or-take, get_or_past, length-take-le}
use Rattle.std.proofs.lemmas.Option.{get_or_from_slice_get}
use Rattle.tt_txn.specs.Slots.{slot_in}
use Rattle.tt_txn.proofs.slots.trim.Goals as goal

-- without an empty slot at the end
trimmed : (n : ℕ) (xs : List (Option ℕ)) (q : ℕ) → slice_get xs n ≡ Some None → n ≡ length xs - 1 → slot_in q (take n xs) ≡ slot_in q xs
trimmed n xs q last e = elim (cases_lt q n) [
  | inl below ↦ get_or-take n xs q None below
  | inr beyond ↦
      let long : length (take n xs) ≡ n = length-take-le n xs (omega (arith, e)) in
      get_or_past (take n xs) q None (omega (arith, long, beyond)) ∙ sym (elim (cases_eq q n) [
        | inl same ↦ ap (λ k. get_or xs k None) same ∙ get_or_from_slice_get xs n None None last
        | inr apart ↦ get_or_past xs q None (omega (arith, apart, beyond, e))
      ])
]

pub loop-slots-preserved : goal.loop-slots-preserved
loop-slots-preserved c =
    let xs = c.loop-slots.slots.items in
    let n = vec_len c.loop-slots.slots - 1 in
    let e : n ≡ length xs - 1 = search rules in
    let at : slice_get xs (length xs - 1) ≡ Some None =
    ap (λ (ys : List (Option ℕ)). slice_get ys (length ys - 1)) (sym c.deref.ensures.value) ∙ sym c.last.ensures.value ∙ ap option_copied c.in-Some-None.is ∙ ap Some c.in-Some-None.field-0-is in
    λ q. ap (slot_in q) c.pop.ensures.rest ∙ trimmed n xs q (ap (slice_get xs) e ∙ at) e ∙ c.loop-slots.invariant q

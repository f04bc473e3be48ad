use Rattle.std.proofs.Common.{◌≡◌, ◌∙◌, ℕ, [], List, length, rules, ap, sym, subst, inl, inr, arith}
use Rattle.std.proofs.lemmas.Bool.{cases_lt}
use Rattle.std.proofs.lemmas.List.{get_or_past}
use Rattle.tt_txn.specs.Locks.{names_in, IsTied}
use Rattle.tt_txn.specs.Slots.{slots_of}
use Rattle.tt_txn.proofs.Ties.{Entry}
use Rattle.tt_txn.proofs.Holdings.{names_of_map, tied_empty}
use Rattle.tt_txn.proofs.locks.Locks.new.Goals as goal

pub invariant_of-result : goal.invariant_of-result
invariant_of-result c =
    let lists = c.from_fn.result in
    let long : length lists ≡ 65 = c.from_fn.ensures.items.long in
    let empty : (s : ℕ) → slots_of s lists ≡ [] = λ s. elim (cases_lt s 65) [
      | inl within ↦ let (p, q, called) = c.from_fn.ensures.items.at s [] within in search rules
      | inr beyond ↦ get_or_past lists s [] (omega (arith, long, beyond))
    ] in
    let P : List Entry → Type 0 = λ es. IsTied lists es in
    (subst P (sym c.new.ensures.empty) (tied_empty lists empty), c.new.ensures.unique)

pub returns : goal.returns
returns c =
    let lists = c.from_fn.result in
    let long : length lists ≡ 65 = c.from_fn.ensures.items.long in
    let empty : (s : ℕ) → slots_of s lists ≡ [] = λ s. elim (cases_lt s 65) [
      | inl within ↦ let (p, q, called) = c.from_fn.ensures.items.at s [] within in search rules
      | inr beyond ↦ get_or_past lists s [] (omega (arith, long, beyond))
    ] in
    λ s. names_of_map c.new.result.entries lists s ∙ ap (names_in c.new.result.entries) (empty s)

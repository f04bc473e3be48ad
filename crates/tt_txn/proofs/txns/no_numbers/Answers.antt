use Rattle.std.proofs.Common.{◌≡◌, None, length, rules, inl, inr, arith}
use Rattle.std.proofs.lemmas.Bool.{cases_lt}
use Rattle.std.proofs.lemmas.List.{get_or_past}
use Rattle.tt_txn.proofs.txns.no_numbers.Goals as goal

pub returns : goal.returns
returns c =
    let long : length c.from_fn.result ≡ 65 = c.from_fn.ensures.items.long in
    λ s. elim (cases_lt s 65) [
      | inl within ↦ let (p, q, called) = c.from_fn.ensures.items.at s None within in search rules
      | inr beyond ↦ get_or_past c.from_fn.result s None (omega (arith, long, beyond))
    ]

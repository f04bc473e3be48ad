-- What an answer of a reading says of the bytes.
use Rattle.std.proofs.Common.{◌≡◌, ◌≤◌, ℕ, List, length, drop, Result, Ok, Err, Option, Some, None, sym, ap, ◌∙◌, arith, length-append, IfOk, IfSome}
use Rattle.tt_value.specs.BigEndianLaws.{AreBytes}
use Rattle.tt_record.specs.declared.entry.Entry.{Entry}
use Rattle.tt_record.specs.Entry.{entry_bytes, length_of, BeginsWith}
use Rattle.tt_record.specs.EntryLaws.{takes, first_is_read, some_bytes}
use Rattle.tt_record.specs.Read.{entry_at}

pub entry_stands : {E : Type 0} (bytes : List ℕ) (answer : Result (Option (Entry × ℕ)) E) → AreBytes bytes → IfOk answer (λ o. o ≡ entry_at bytes)
    → IfOk answer (λ o. IfSome o (λ p. BeginsWith bytes p.0 × (p.1 ≡ length_of p.0)))
entry_stands bytes (Ok None) b is = tt
entry_stands bytes (Ok (Some p)) b is = let t = takes bytes p b (sym is) in (t.first, t.count)
entry_stands bytes (Err e) b is = tt

pub entry_is_read : {E : Type 0} (bytes : List ℕ) (answer : Result (Option (Entry × ℕ)) E) → IfOk answer (λ o. o ≡ entry_at bytes)
    → IfOk answer (λ o. (e : Entry) → BeginsWith bytes e → o ≡ Some (e, length_of e))
entry_is_read bytes (Ok o) is = λ e first. is ∙ first_is_read bytes e first
entry_is_read bytes (Err e) is = tt

pub entry_within : {E : Type 0} (bytes : List ℕ) (answer : Result (Option (Entry × ℕ)) E) → AreBytes bytes → IfOk answer (λ o. o ≡ entry_at bytes)
    → IfOk answer (λ o. IfSome o (λ p. (1 ≤ p.1) × (p.1 ≤ length bytes)))
entry_within bytes (Ok None) b is = tt
entry_within bytes (Ok (Some p)) b is =
    let t = takes bytes p b (sym is) in
    (omega (arith, t.count, some_bytes p.0), omega (arith, t.count, ap length t.first.front, length-append (entry_bytes p.0) (drop (length_of p.0) bytes)))
entry_within bytes (Err e) b is = tt

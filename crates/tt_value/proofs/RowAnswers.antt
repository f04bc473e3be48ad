-- What an answer of a reading says of the bytes.
use Rattle.std.proofs.Common.{◌≡◌, ℕ, List, Result, Ok, Err, Option, Some, None, sym, ◌∙◌, IfOk, IfSome}
use Rattle.tt_value.specs.BigEndianLaws.{AreBytes}
use Rattle.tt_value.specs.Stored.{IsStored}
use Rattle.tt_value.specs.StoredLaws.{read_is_stored, stored_is_read}
use Rattle.tt_value.specs.ReadingRows.{row_in}
use Rattle.tt_value.specs.declared.value.Row.{Row}

pub answer_is_stored : {E : Type 0} (bytes : List ℕ) (answer : Result (Option Row) E) → AreBytes bytes → IfOk answer (λ o. o ≡ row_in bytes) → IfOk answer (λ o. IfSome o (λ r. IsStored bytes r))
answer_is_stored bytes (Ok None) b is = tt
answer_is_stored bytes (Ok (Some r)) b is = read_is_stored bytes r b (sym is)
answer_is_stored bytes (Err e) b is = tt

pub stored_is_answered : {E : Type 0} (bytes : List ℕ) (answer : Result (Option Row) E) → IfOk answer (λ o. o ≡ row_in bytes) → IfOk answer (λ o. (r : Row) → IsStored bytes r → o ≡ Some r)
stored_is_answered bytes (Ok o) is = λ r s. is ∙ stored_is_read bytes r s
stored_is_answered bytes (Err e) is = tt

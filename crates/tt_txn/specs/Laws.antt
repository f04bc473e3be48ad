-- What the calls leave, for those who make several.
use Rattle.std.specs.Prelude.{◌≡◌, ◌≢◌, ℕ, false, [], drop, None, Some}
use Rattle.tt_value.specs.declared.position.Position.{Position}
use Rattle.tt_txn.specs.declared.lock_name.LockName.{LockName}
use Rattle.tt_txn.specs.declared.noted.Noted.{Noted}
use Rattle.tt_txn.specs.Live.{IsSession, begun, taking, giving_back, noting, undoing}
use Rattle.tt_txn.specs.Table.{Transactions, with_begun, with_changed, without, is_live, number_of, noted_by}
use Rattle.tt_txn.specs.Txns.{holder, other_holder, first_before, IsFreeFor, IsWhole}

-- Whatever is called where it may be, the live ones stay whole.
pub record CallsKeepWhole : Type 0 where
  pub none : IsWhole []
  pub begun_one : (session number : ℕ) (first : Position) (ls : Transactions) → IsSession session → number_of session ls ≡ None → is_live number ls ≡ false → IsWhole ls → IsWhole (with_begun (begun session number first) ls)
  pub taken : (number : ℕ) (name : LockName) (ls : Transactions) → other_holder number name ls ≡ None → IsWhole ls → IsWhole (with_changed number (taking name) ls)
  pub given_back : (number : ℕ) (name : LockName) (ls : Transactions) → IsWhole ls → IsWhole (with_changed number (giving_back name) ls)
  pub noted : (number : ℕ) (c : Noted) (ls : Transactions) → IsFreeFor number (first_before c.place ls) → IsWhole ls → IsWhole (with_changed number (noting c) ls)
  pub undone : (number : ℕ) (ls : Transactions) → IsWhole ls → IsWhole (with_changed number undoing ls)
  pub ended : (number : ℕ) (ls : Transactions) → IsWhole ls → IsWhole (without number ls)

-- Which places are changed first by whom stays, but where a change is noted, undone or gone with its transaction.
pub record FirstsStay : Type 0 where
  pub begun_one : (session number : ℕ) (first : Position) (place : ℕ) (ls : Transactions) → first_before place (with_begun (begun session number first) ls) ≡ first_before place ls
  pub taken : (number : ℕ) (name : LockName) (place : ℕ) (ls : Transactions) → first_before place (with_changed number (taking name) ls) ≡ first_before place ls
  pub given_back : (number : ℕ) (name : LockName) (place : ℕ) (ls : Transactions) → first_before place (with_changed number (giving_back name) ls) ≡ first_before place ls
  pub noted_elsewhere : (number : ℕ) (c : Noted) (place : ℕ) (ls : Transactions) → place ≢ c.place → first_before place (with_changed number (noting c) ls) ≡ first_before place ls
  pub ended : (number place : ℕ) (ls : Transactions) → noted_by number ls ≡ [] → first_before place (without number ls) ≡ first_before place ls

-- What a transaction's own calls make of its changes, and that it stays live.
pub record OwnCallsAreSeen : Type 0 where
  pub taken : (number : ℕ) (name : LockName) (ls : Transactions) → is_live number (with_changed number (taking name) ls) ≡ is_live number ls
  pub given_back : (number : ℕ) (name : LockName) (ls : Transactions) → is_live number (with_changed number (giving_back name) ls) ≡ is_live number ls
  pub noted : (number : ℕ) (c : Noted) (ls : Transactions) → is_live number (with_changed number (noting c) ls) ≡ is_live number ls
  pub undone : (number : ℕ) (ls : Transactions) → is_live number (with_changed number undoing ls) ≡ is_live number ls
  pub left : (number : ℕ) (ls : Transactions) → noted_by number (with_changed number undoing ls) ≡ drop 1 (noted_by number ls)
  pub nothing_left : (number : ℕ) (ls : Transactions) → noted_by number ls ≡ [] → with_changed number undoing ls ≡ ls

-- A name's holder, by who asks: no other where none or the own one holds it, and that one where another does.
pub record HoldersAreOthers : Type 0 where
  pub none : (number : ℕ) (name : LockName) (ls : Transactions) → holder name ls ≡ None → other_holder number name ls ≡ None
  pub own : (number : ℕ) (name : LockName) (ls : Transactions) → IsWhole ls → holder name ls ≡ Some number → other_holder number name ls ≡ None
  pub other : (number found : ℕ) (name : LockName) (ls : Transactions) → holder name ls ≡ Some found → found ≢ number → other_holder number name ls ≡ Some found

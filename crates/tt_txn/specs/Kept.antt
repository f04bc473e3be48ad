-- What the parts of the live transactions stand for together.
use Rattle.std.specs.Prelude.{◌≡◌, ℕ, List, [], map, get_or, Option, None}
use Rattle.std.specs.HashMap.{HashMap}
use Rattle.tt_txn.specs.declared.spots.Spot.{Spot}
use Rattle.tt_txn.specs.Locks.{Holdings, names_of}
use Rattle.tt_txn.specs.Spots.{HasSpots}
use Rattle.tt_txn.specs.Live.{LiveTransaction}
use Rattle.tt_txn.specs.Table.{Transactions, number_of}
use Rattle.tt_txn.specs.Txns.{IsWhole}

-- a transaction with the names that its session holds
abbrev pub with_names : Holdings → LiveTransaction → LiveTransaction
with_names hs l = record l { names = names_of l.session hs }

abbrev pub seen : Transactions → Holdings → Transactions
seen ls hs = map (with_names hs) ls

-- the table has the number of each session's transaction
abbrev pub HasNumbers : List (Option ℕ) → Transactions → Type 0
HasNumbers numbers ls = (session : ℕ) → get_or numbers session None ≡ number_of session ls

-- What is seen is whole, the tables tell of it, and a session without a transaction holds nothing.
pub record IsKept {S : Type 0} (hs : Holdings) (firsts : HashMap ℕ Spot S) (own : List (Option ℕ)) (ls : Transactions) : Type 0 where
  pub whole : IsWhole ls
  pub spots : HasSpots firsts ls
  pub numbers : HasNumbers own ls
  pub vacant : (session : ℕ) → number_of session ls ≡ None → names_of session hs ≡ []

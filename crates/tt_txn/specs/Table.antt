-- The live transactions in ascending number.
use Rattle.std.specs.Prelude.{◌≡◌, ◌<◌, ◌≤◌, ℕ, Bool, true, false, not, ◌&&◌, ◌||◌, nat_eq, nat_lt, List, [], ◌∷◌, ◌++◌, length, map, drop, find, if◌then◌else◌, position, unwrap_or, Option, Some, None}
use Rattle.std.specs.List.{list_any}
use Rattle.std.specs.Option.{option_map, is_some}
use Rattle.std.specs.Ordering.{is_lt}
use Rattle.std.specs.Set.{remove_key}
use Rattle.tt_value.specs.Position.{position_cmp}
use Rattle.tt_value.specs.declared.position.Position.{Position}
use Rattle.tt_value.specs.declared.value.Cell.{Cell}
use Rattle.tt_value.specs.declared.value.Cell.TheVariants.{Empty, Full}
use Rattle.tt_txn.specs.declared.lock_name.LockName.{LockName}
use Rattle.tt_txn.specs.declared.lock_name.LockRefusal.{LockRefusal}
use Rattle.tt_txn.specs.declared.lock_name.LockRefusal.TheVariants.{Conflict, NoMemory}
use Rattle.tt_txn.specs.declared.noted.Noted.{Noted}
use Rattle.tt_txn.specs.declared.session.TheConstants.{SESSIONS}
use Rattle.tt_txn.specs.Same.{same_name}
use Rattle.tt_txn.specs.Live.{IsSession, LiveTransaction, has_changed, has_number, is_of, noted_in}

-- All live transactions, in ascending number.
abbrev pub Transactions : Type 0
Transactions = List LiveTransaction

-- the one of this number
abbrev pub transaction : ℕ → Transactions → Option LiveTransaction
transaction number ls = find (has_number number) ls

abbrev pub is_live : ℕ → Transactions → Bool
is_live number ls = is_some (transaction number ls)

abbrev pub numbers : Transactions → List ℕ
numbers ls = map (λ (l : LiveTransaction). l.number) ls

-- the number of a session's transaction
abbrev pub number_of : ℕ → Transactions → Option ℕ
number_of session ls = option_map (λ (l : LiveTransaction). l.number) (find (is_of session) ls)

-- with one more, at its place in ascending number
abbrev pub with_begun : LiveTransaction → Transactions → Transactions
with_begun l [] = l ∷ []
with_begun l (m ∷ ms) = if nat_lt l.number m.number then l ∷ m ∷ ms else m ∷ with_begun l ms

-- with the one of this number changed
abbrev pub with_changed : ℕ → (LiveTransaction → LiveTransaction) → Transactions → Transactions
with_changed number f [] = []
with_changed number f (l ∷ ls) = if has_number number l then f l ∷ ls else l ∷ with_changed number f ls

-- without the one of this number
abbrev pub without : ℕ → Transactions → Transactions
without number [] = []
without number (l ∷ ls) = if has_number number l then ls else l ∷ without number ls

-- what the one of this number has noted, the newest first
abbrev pub noted_by : ℕ → Transactions → List Noted
noted_by number ls = noted_in (transaction number ls)

-- the least number of one that changed a table
abbrev pub first_that_changed : ℕ → Transactions → Option ℕ
first_that_changed table ls = option_map (λ (l : LiveTransaction). l.number) (find (has_changed table) ls)

-- ---- the least

abbrev pub least_live : Transactions → Option ℕ
least_live [] = None
least_live (l ∷ ls) = Some l.number

abbrev pub least_position : Position → Position → Position
least_position p q = if is_lt (position_cmp p q) then p else q

abbrev pub least_of : Position → List Position → Position
least_of p [] = p
least_of p (q ∷ qs) = least_position q (least_of p qs)

abbrev pub firsts : Transactions → List Position
firsts ls = map (λ (l : LiveTransaction). l.first) ls

-- ---- what is true of all live transactions together

abbrev pub AllAbove : ℕ → Transactions → Type 0
AllAbove number [] = Unit {0}
AllAbove number (l ∷ ls) = (number < l.number) × AllAbove number ls

abbrev pub IsAscending : Transactions → Type 0
IsAscending [] = Unit {0}
IsAscending (l ∷ ls) = AllAbove l.number ls × IsAscending ls

abbrev pub AllOfSessions : Transactions → Type 0
AllOfSessions [] = Unit {0}
AllOfSessions (l ∷ ls) = IsSession l.session × AllOfSessions ls

-- where a new transaction of a number belongs: before the first one with a greater number, else at the end
abbrev pub belongs_at : ℕ → Transactions → ℕ
belongs_at number ls = unwrap_or (position (λ l. nat_lt number l.number) ls) (length ls)

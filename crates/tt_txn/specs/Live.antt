-- One live transaction.
use Rattle.std.specs.Prelude.{◌≡◌, ◌<◌, ◌≤◌, ℕ, Bool, true, false, not, ◌&&◌, ◌||◌, nat_eq, nat_lt, List, [], ◌∷◌, ◌++◌, length, map, drop, find, if◌then◌else◌, Option, Some, None}
use Rattle.std.specs.List.{list_any}
use Rattle.std.specs.Option.{option_map, is_some}
use Rattle.std.specs.Ordering.{is_lt}
use Rattle.std.specs.Set.{remove_key}
use Rattle.tt_value.specs.Position.{position_cmp}
use Rattle.tt_value.specs.declared.position.Position.{Position}
use Rattle.tt_value.specs.declared.value.Cell.{Cell}
use Rattle.tt_value.specs.declared.value.Cell.TheVariants.{Empty, Full}
use Rattle.tt_txn.specs.declared.lock_name.LockName.{LockName}
use Rattle.tt_txn.specs.declared.lock_name.LockRefusal.{LockRefusal}
use Rattle.tt_txn.specs.declared.lock_name.LockRefusal.TheVariants.{Conflict, NoMemory}
use Rattle.tt_txn.specs.declared.noted.Noted.{Noted}
use Rattle.tt_txn.specs.declared.session.TheConstants.{SESSIONS}
use Rattle.tt_txn.specs.Same.{same_name}
use Rattle.tt_txn.specs.Noted.{first_of, is_on_table}

-- sessions have the numbers 1 to 64
abbrev pub IsSession : ℕ → Type 0
IsSession session = (1 ≤ session) × (session ≤ SESSIONS)

-- A live transaction: its session, its number, where its first entry stands, the changes that it noted, the newest first, and
-- the names that it holds, in the order taken.
pub record LiveTransaction : Type 0 where
  pub session : ℕ
  pub number : ℕ
  pub first : Position
  pub noted : List Noted
  pub names : List LockName

-- the session of a live transaction
abbrev pub live_session : LiveTransaction → ℕ
live_session l = l.session

-- its number
abbrev pub live_number : LiveTransaction → ℕ
live_number l = l.number

-- where its first entry stands
abbrev pub first_position : LiveTransaction → Position
first_position l = l.first

-- the changes that it noted, the newest first
abbrev pub changes_of : LiveTransaction → List Noted
changes_of l = l.noted

abbrev pub has_number : ℕ → LiveTransaction → Bool
has_number number l = nat_eq l.number number

abbrev pub is_of : ℕ → LiveTransaction → Bool
is_of session l = nat_eq l.session session

-- ---- beginning, changing and ending

-- a transaction that has noted nothing and holds nothing
abbrev pub begun : ℕ → ℕ → Position → LiveTransaction
begun session number first = record { session = session; number = number; first = first; noted = []; names = [] }

-- ---- names

abbrev pub has_name : LockName → LiveTransaction → Bool
has_name name l = list_any (same_name name) l.names

abbrev pub is_other_with : ℕ → LockName → LiveTransaction → Bool
is_other_with number name l = not (has_number number l) && has_name name l

abbrev pub holds : LockName → Option LiveTransaction → Bool
holds name None = false
holds name (Some l) = has_name name l

-- with a name, behind the others where it isn't among them
abbrev pub taking : LockName → LiveTransaction → LiveTransaction
taking name l = record l { names = if has_name name l then l.names else l.names ++ name ∷ [] }

abbrev pub giving_back : LockName → LiveTransaction → LiveTransaction
giving_back name l = record l { names = remove_key (same_name name) l.names }

-- ---- changes

abbrev pub noting : Noted → LiveTransaction → LiveTransaction
noting change l = record l { noted = change ∷ l.noted }

abbrev pub undoing : LiveTransaction → LiveTransaction
undoing l = record l { noted = drop 1 l.noted }

abbrev pub noted_in : Option LiveTransaction → List Noted
noted_in None = []
noted_in (Some l) = l.noted

abbrev pub has_noted : ℕ → LiveTransaction → Bool
has_noted place l = is_some (first_of place l.noted)

abbrev pub has_changed : ℕ → LiveTransaction → Bool
has_changed table l = list_any (is_on_table table) l.noted

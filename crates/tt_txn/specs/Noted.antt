-- One change of a place.
use Rattle.std.specs.Prelude.{◌≡◌, ◌<◌, ◌≤◌, ℕ, Bool, true, false, not, ◌&&◌, ◌||◌, nat_eq, nat_lt, List, [], ◌∷◌, ◌++◌, length, map, drop, find, if◌then◌else◌, Option, Some, None}
use Rattle.std.specs.List.{list_any}
use Rattle.std.specs.Option.{option_map, is_some}
use Rattle.std.specs.Ordering.{is_lt}
use Rattle.std.specs.Set.{remove_key}
use Rattle.tt_value.specs.Position.{position_cmp}
use Rattle.tt_value.specs.declared.position.Position.{Position}
use Rattle.tt_value.specs.declared.value.Cell.{Cell}
use Rattle.tt_value.specs.declared.value.Cell.TheVariants.{Empty, Full}
use Rattle.tt_txn.specs.declared.lock_name.LockName.{LockName}
use Rattle.tt_txn.specs.declared.lock_name.LockRefusal.{LockRefusal}
use Rattle.tt_txn.specs.declared.lock_name.LockRefusal.TheVariants.{Conflict, NoMemory}
use Rattle.tt_txn.specs.declared.noted.Noted.{Noted}
use Rattle.tt_txn.specs.declared.session.TheConstants.{SESSIONS}
use Rattle.tt_txn.specs.Same.{same_name}

-- what was found, else this where the test holds
abbrev pub found_or : {A : Type 0} → Option A → Bool → A → Option A
found_or (Some x) is y = Some x
found_or None true y = Some y
found_or None false y = None

-- the first change of a place, and how many were noted before it
abbrev pub first_of : ℕ → List Noted → Option (Noted × ℕ)
first_of place [] = None
first_of place (c ∷ older) = found_or (first_of place older) (nat_eq place c.place) (c, length older)

-- ---- the tables of changes

abbrev pub is_of_table : ℕ → Cell → Bool
is_of_table table Empty = false
is_of_table table (Full t row) = nat_eq t table

-- whether a change made, changed or took away a row of a table
abbrev pub is_on_table : ℕ → Noted → Bool
is_on_table table c = is_of_table table c.before || is_of_table table c.after

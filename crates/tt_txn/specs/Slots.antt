-- The slots of sessions: which entries of the table of locks are their names.
use Rattle.std.specs.Prelude.{◌≡◌, ◌≢◌, ◌<◌, ◌≤◌, ◌-◌, ℕ, Bool, false, List, [], length, get_or, slice_get, nat_eq, if◌then◌else◌, Option, Some, None}
use Rattle.std.specs.List.{filter_map}
use Rattle.std.specs.Option.{option_map, option_and_then}
use Rattle.tt_txn.specs.declared.held.Held.{Held}
use Rattle.tt_txn.specs.declared.lock_name.LockName.{LockName}

-- the entry that a slot has
abbrev pub slot_in : ℕ → List (Option ℕ) → Option ℕ
slot_in at slots = get_or slots at None

abbrev pub slots_of : ℕ → List (List (Option ℕ)) → List (Option ℕ)
slots_of session lists = get_or lists session []

abbrev pub slot_at : ℕ → ℕ → List (List (Option ℕ)) → Option ℕ
slot_at session at lists = slot_in at (slots_of session lists)

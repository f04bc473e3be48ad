-- The table of locks: who holds which name.
use Rattle.std.specs.Prelude.{◌≡◌, ◌≢◌, ◌<◌, ◌≤◌, ◌-◌, ℕ, Bool, false, List, [], ◌∷◌, ◌++◌, length, get_or, slice_get, nat_eq, if◌then◌else◌, Option, Some, None}
use Rattle.std.specs.List.{filter_map}
use Rattle.std.specs.Option.{option_map, option_and_then}
use Rattle.tt_txn.specs.declared.held.Held.{Held}
use Rattle.tt_txn.specs.declared.lock_name.LockName.{LockName}
use Rattle.std.specs.Set.{remove_key}
use Rattle.tt_txn.specs.Same.{same_name}
use Rattle.tt_txn.specs.Slots.{slot_at, slots_of}

-- ---- what each session holds

-- the names of each session, in the order taken
abbrev pub Holdings : Type 0
Holdings = List (List LockName)

abbrev pub names_of : ℕ → Holdings → List LockName
names_of session hs = get_or hs session []

-- whether what was found is this session
abbrev pub is_session : ℕ → Option ℕ → Bool
is_session session None = false
is_session session (Some found) = nat_eq found session

-- this session holds these names, and each other what it held
abbrev pub Holds : ℕ → List LockName → Holdings → Holdings → Type 0
Holds session names old new = (s : ℕ) → names_of s new ≡ (if nat_eq session s then names else names_of s old)

-- ---- where the names stand

abbrev pub held : ℕ → ℕ → Held
held session at = record { session = session; at = at }

-- the name and the holder of an entry
abbrev pub name_at : List (LockName × Held) → ℕ → Option LockName
name_at es i = option_map (λ (e : LockName × Held). e.0) (slice_get es i)

abbrev pub held_at : ℕ → List (LockName × Held) → Option Held
held_at i es = option_map (λ (e : LockName × Held). e.1) (slice_get es i)

-- the names that the slots have
abbrev pub named : List (LockName × Held) → Option ℕ → Option LockName
named es slot = option_and_then (name_at es) slot

abbrev pub names_in : List (LockName × Held) → List (Option ℕ) → List LockName
names_in es slots = filter_map (named es) slots

-- Each slot has an entry that tells of it, and each entry tells of a slot that has it.
pub record IsTied (lists : List (List (Option ℕ))) (es : List (LockName × Held)) : Type 0 where
  pub slots : (session at i : ℕ) → slot_at session at lists ≡ Some i → held_at i es ≡ Some (held session at)
  pub entries : (session at i : ℕ) → held_at i es ≡ Some (held session at) → slot_at session at lists ≡ Some i

-- The same, but for one entry, which no slot has.
pub record IsTiedBut (free : ℕ) (lists : List (List (Option ℕ))) (es : List (LockName × Held)) : Type 0 where
  pub within : free < length es
  pub unslotted : (session at : ℕ) → slot_at session at lists ≢ Some free
  pub slots : (session at i : ℕ) → slot_at session at lists ≡ Some i → held_at i es ≡ Some (held session at)
  pub entries : (session at i : ℕ) → i ≢ free → held_at i es ≡ Some (held session at) → slot_at session at lists ≡ Some i

-- One entry has left, and the last one has its index.
pub record Moves (free : ℕ) (old new : List (LockName × Held)) : Type 0 where
  pub kept : (i : ℕ) → i < length old - 1 → i ≢ free → slice_get new i ≡ slice_get old i
  pub moved : free < length old - 1 → slice_get new free ≡ slice_get old (length old - 1)
  pub past : (i : ℕ) → length old - 1 ≤ i → slice_get new i ≡ None

-- the names of a session, by the entries of the table and the slots of the sessions
abbrev pub session_names : ℕ → List (LockName × Held) → List (List (Option ℕ)) → List LockName
session_names session es lists = names_in es (slots_of session lists)

-- each session has these names
abbrev pub HaveNames : List (LockName × Held) → List (List (Option ℕ)) → (ℕ → List LockName) → Type 0
HaveNames es lists names = (s : ℕ) → session_names s es lists ≡ names s

-- the names as they are
abbrev pub same_names : List (LockName × Held) → List (List (Option ℕ)) → ℕ → List LockName
same_names es lists s = session_names s es lists

-- the names with one more of a session, behind its others
abbrev pub with_name_of : ℕ → LockName → List (LockName × Held) → List (List (Option ℕ)) → ℕ → List LockName
with_name_of session name es lists s = if nat_eq session s then session_names session es lists ++ name ∷ [] else session_names s es lists

-- a session has one name more, behind its others, and each other session the names that it had
abbrev pub AddsName : ℕ → LockName → List (LockName × Held) → List (List (Option ℕ)) → List (LockName × Held) → List (List (Option ℕ)) → Type 0
AddsName session name es lists new_es new_lists = HaveNames new_es new_lists (with_name_of session name es lists)

-- each session but one has the names that it had
abbrev pub KeepsOthers : ℕ → List (LockName × Held) → List (List (Option ℕ)) → List (LockName × Held) → List (List (Option ℕ)) → Type 0
KeepsOthers session es lists new_es new_lists = (s : ℕ) → s ≢ session → session_names s new_es new_lists ≡ session_names s es lists

-- the names without one
abbrev pub without_name : LockName → List (LockName × Held) → List (List (Option ℕ)) → ℕ → List LockName
without_name name es lists s = remove_key (same_name name) (session_names s es lists)

-- the names without those of a session
abbrev pub without_session : ℕ → List (LockName × Held) → List (List (Option ℕ)) → ℕ → List LockName
without_session session es lists s = if nat_eq session s then [] else session_names s es lists

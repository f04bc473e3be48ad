-- How the parts in memory stand for the tables and the session of a state. They know of no volume.
use Rattle.std.specs.Prelude.{◌≡◌, ◌<◌, ◌≤◌, ◌*◌, ◌^◌, ℕ, ℤ, true, false, nat_eq, List, [], ◌∷◌, Option, Some, None, Result, OnOk, OnErr, IfOk, unwrap_or, if◌then◌else◌, ◌||◌}
use Rattle.std.specs.BTreeSet.{contains}
use Rattle.std.specs.Ordering.{int_cmp, nat_cmp}
use Rattle.tt_value.specs.declared.reply.Reply.{Reply}
use Rattle.tt_value.specs.declared.value.Cell.TheVariants.{Empty, Full}
use Rattle.tt_record.specs.declared.entry.Entry.{Entry}
use Rattle.tt_record.specs.declared.entry.Entry.TheVariants.{Change}
use Rattle.tt_model.specs.Committed.{changed_by, is_full}
use Rattle.tt_model.specs.Live.{live, touched}
use Rattle.tt_model.specs.Steady.{IsGrown}
use Rattle.tt_model.specs.State.{State, cells_of, is_used, next, scan_held, trail}
use Rattle.tt_model.specs.StepLaws.{AreNumberedFrom}
use Rattle.tt_engine.specs.declared.engine.Engine.{Engine}
use Rattle.tt_engine.specs.declared.memory.Decided.{Decided}
use Rattle.tt_engine.specs.declared.memory.Memory.{Memory}
use Rattle.tt_model.specs.Entries.{IsPlain}
use Rattle.tt_model.specs.Works.{SameLog, performed}
use Rattle.tt_journal.specs.Journal.{Breaks, Writes, listed}
use Rattle.tt_log.specs.Log.{IsOpen, CrashLeavesForced}
use Rattle.tt_engine.specs.declared.rows.Rows.{Rows}
use Rattle.tt_disk.specs.declared.volume.Failed.{Failed}
use Rattle.tt_disk.specs.Volume.{Files}
use Rattle.tt_recover.specs.Opening.{opened_from}
use Rattle.tt_record.specs.Place.{position}
use Rattle.tt_journal.specs.LogTrail.{HasTrail, IsQuiet, HasEnds}
use Rattle.tt_engine.specs.Prefixes.{LeavesOpening}
use Rattle.tt_engine.specs.declared.request.Request.{Request}
use Rattle.tt_engine.specs.Request.{Answers, answer, kv, row_of, script_ended, sees_key}
use Rattle.tt_value.specs.declared.reply.Reply.TheVariants.{Done}
use Rattle.tt_log.specs.declared.log.Log.{Log}
use Rattle.tt_record.specs.Limits.{transactions_end, places_end}

-- These rows have the keys that the session sees, and the places that are in use.
pub record HoldRows (rows : Rows) (s : State) : Type 0 where
  pub keys : (key : ℤ) → contains int_cmp rows.keys key ≡ sees_key key s
  pub below : (q : ℕ) → q < rows.free → is_used s q ≡ true
  pub free : rows.free < places_end → is_used s rows.free ≡ false
  pub above : (q : ℕ) → rows.free < q → contains nat_cmp rows.used q ≡ is_used s q

abbrev pub numbers_of : Option ℕ → List ℕ
numbers_of None = []
numbers_of (Some t) = t ∷ []

-- The transactions that are live, and those of the sessions: none but the own one of session 1.
pub record IsAlone (own : Option ℕ) (s : State) : Type 0 where
  pub new_live : live s.entries ≡ numbers_of own
  pub all_live : live (trail s) ≡ numbers_of own
  pub sessions : (session : ℕ) → s.own session ≡ (if nat_eq session 1 then own else None)

-- The own transaction began in this run: where it changed a place, a row lies there behind its Changes.
pub record FillsPlaces (own : Option ℕ) (s : State) : Type 0 where
  pub rows : (t q : ℕ) → own ≡ Some t → touched t q s.entries ≡ true → is_full (changed_by t s.entries (cells_of s) q) ≡ true
  pub new : (t q : ℕ) → own ≡ Some t → touched t q s.found.entries ≡ false
  pub least : (t : ℕ) → own ≡ Some t → s.found.next ≤ t

-- The first checkpoint file is read from the log's beginning on.
abbrev pub IsReadFromOrigin : State → Type 0
IsReadFromOrigin s = scan_held s 0 ≡ Some (position 0 0)

-- The parts in memory stand for the tables and the sessions of a state. They know of no volume.
pub record InMemory (m : Memory) (s : State) : Type 0 where
  pub opened : s.found ≡ opened_from s.found.entries s.found.end
  pub grown : IsGrown s.found.cells s.entries
  pub below : (q : ℕ) → is_used s q ≡ true → q < 32 * s.pages
  pub numbered : AreNumberedFrom s.found.next s.entries
  pub alone : IsAlone m.transaction s
  pub filled : FillsPlaces m.transaction s
  pub next : m.next_transaction ≡ next s
  pub wish : m.next_commit_durable ≡ s.wish 1
  pub durable : m.durable_commits ≡ s.settings.durable_commits
  pub origin : IsReadFromOrigin s
  pub rows : HoldRows m.rows s

-- The line is decided: the reply is one that it may have, the memory stands for the state behind it, and the work leaves its log.
pub record IsDecided (request : Request) (s : State) (d : Decided) (m : Memory) : Type 0 where
  pub after : State
  pub answers : Answers request s d.reply after
  pub memory : InMemory m after
  pub same : SameLog after (performed (record { entries = listed d.entry; force = d.force }) s)

-- The entry is the Change of an insert that no row with the key is in the way of.
pub record IsInsert (s : State) (m : Memory) (transaction : ℕ) (key value : ℤ) (entry : Entry) : Type 0 where
  pub is : entry ≡ Change transaction m.rows.free Empty (Full kv (row_of key value))
  pub fresh : sees_key key s ≡ false

-- The entry may be appended, the number is that of the session's transaction or the next one, and a place is free.
pub record IsOwnChange (m : Memory) (transaction : ℕ) (entry : Entry) : Type 0 where
  pub least : 1 ≤ transaction
  pub most : transaction < transactions_end
  pub own : transaction ≡ unwrap_or m.transaction m.next_transaction
  pub plain : IsPlain entry
  pub free : m.rows.free < places_end

-- The line is decided for each state that memory stands for, and at whose end the log stands.
abbrev pub Decides : Log → Memory → Request → Decided → Memory → Type 0
Decides log m request d m' = (s : State) → HasEnds log s → InMemory m s → IsDecided request s d m'

-- The transaction is over: the line is done, by this entry, and the log is forced where the commit is durable.
abbrev pub IsEnding : Memory → Option Entry → Decided → Type 0
IsEnding m entry d = (d.reply ≡ Done) × (d.entry ≡ entry) × (d.force ≡ (m.durable_commits || m.next_commit_durable))

-- The rest of memory is as it was.
abbrev pub KeepsRest : Memory → Memory → Type 0
KeepsRest m m' = (m'.next_transaction ≡ m.next_transaction) × (m'.durable_commits ≡ m.durable_commits) × (m'.rows ≡ m.rows)

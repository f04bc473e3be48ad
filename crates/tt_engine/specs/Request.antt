-- What the lines that are built do to a state, in session 1. There is one table, kv, from the beginning on.
use Rattle.std.specs.Prelude.{◌≡◌, ◌⊎◌, ◌^◌, ℕ, ℤ, nat_lt, Bool, true, false, [], ◌∷◌, Option, Some, None, if◌then◌else◌}
use Rattle.std.specs.List.{list_any}
use Rattle.tt_value.specs.declared.value.Value.TheVariants.{Int}
use Rattle.tt_value.specs.declared.value.Row.{Row}
use Rattle.tt_value.specs.declared.value.Cell.TheVariants.{Empty, Full}
use Rattle.tt_value.specs.declared.refusal.Refusal.TheVariants.{DuplicateKey, NoMemory}
use Rattle.tt_value.specs.declared.reply.Reply.{Reply}
use Rattle.tt_value.specs.declared.reply.Reply.TheVariants.{Done, Changed, Positions, Refused as RefusedSo}
use Rattle.tt_model.specs.Holders.{values_at}
use Rattle.tt_model.specs.Values.{same_values}
use Rattle.tt_model.specs.Tables.{PlacedRow, rows_of}
use Rattle.tt_model.specs.State.{State, all_forced, at_one, bound, force_position, least_hold, view, write_position}
use Rattle.tt_model.specs.declared.definition.CellEdit.{CellEdit}
use Rattle.tt_model.specs.Step.{Answered, commit_of, made, refused}
use Rattle.tt_engine.specs.declared.request.Request.{Request}
use Rattle.tt_engine.specs.declared.request.Request.TheVariants.{Insert, Commit, Flush, DurableCommit, Bookmark, Refused}
use Rattle.tt_record.specs.Limits.{transactions_end}

-- the number of the table kv
abbrev pub kv : ℕ
kv = 16

abbrev pub row_of : ℤ → ℤ → Row
row_of key value = record { values = Int key ∷ Int value ∷ [] }

-- a row has this key, which is its first value
abbrev pub has_key : ℤ → Row → Bool
has_key key row = same_values (values_at (0 ∷ []) row) (Int key ∷ [])

-- a row of kv that the session sees has this key
abbrev pub sees_key : ℤ → State → Bool
sees_key key s = list_any (λ (r : PlacedRow). has_key key (r.1)) (rows_of kv (bound s) (view 1 s))

abbrev pub insert_edit : ℤ → ℤ → CellEdit
insert_edit key value = record { place = None; before = Empty; after = Full kv (row_of key value) }

-- What each line does and is answered.
abbrev pub answer : Request → State → Answered
answer (Insert key value) s = if sees_key key s then refused DuplicateKey s else made 1 (insert_edit key value ∷ []) s
answer Commit s = commit_of 1 (s.own 1) s
answer Flush s = (Done, all_forced s)
answer DurableCommit s = (Done, record s { wish = at_one 1 true s.wish })
answer Bookmark s = (Positions (write_position s) (force_position s) (least_hold s), s)
answer (Refused refusal) s = refused refusal s

-- What the end of a script does to a state: all is forced.
abbrev pub script_ended : State → State
script_ended s = all_forced s

-- a reply that some line gives
abbrev pub IsReplyInUse : Reply → Type 0
IsReplyInUse Done = Unit {0}
IsReplyInUse (Changed n) = Unit {0}
IsReplyInUse (Positions write force hold) = Unit {0}
IsReplyInUse (RefusedSo refusal) = Unit {0}
IsReplyInUse _ = ⊥

-- the lines for which memory may be wanting
abbrev pub takes_memory : Request → Bool
takes_memory (Insert key value) = true
takes_memory _ = false

-- What a line may be answered, and the state behind it: as it does, or that memory is wanting, which leaves the state.
abbrev pub Answers : Request → State → Reply → State → Type 0
Answers request s reply after =
    ((reply ≡ (answer request s).0) × (after ≡ (answer request s).1))
    ⊎ ((takes_memory request ≡ true) × (reply ≡ RefusedSo NoMemory) × (after ≡ s))

-- the number that a session's next change has: that of its transaction, or the next one, if one is left
abbrev pub own_number : Option ℕ → ℕ → Option ℕ
own_number None next = if nat_lt next transactions_end then Some next else None
own_number (Some t) next = Some t

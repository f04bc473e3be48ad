-- What stands between two lines where an engine stands for a state: what opening finds, and what a crash leaves.
use Rattle.std.proofs.Common.{◌≡◌, ◌≤◌, ◌∙◌, inl, inr, ℕ, Bool, true, false, [], ◌∷◌, length, Option, Some, None, refl, sym, ap, subst, arith}
use Rattle.std.specs.Prelude.{IsSome}
use Rattle.tt_value.specs.declared.position.Position.{Position}
use Rattle.tt_value.specs.declared.refusal.Refusal.{Refusal}
use Rattle.tt_value.specs.declared.refusal.Refusal.TheVariants.{NoMemory}
use Rattle.tt_value.specs.declared.reply.Reply.TheVariants.{Refused as RefusedSo}
use Rattle.tt_record.specs.declared.entry.Entry.{Entry}
use Rattle.tt_record.specs.Entry.{IsEntry, length_of}
use Rattle.tt_record.specs.Place.{position_of}
use Rattle.tt_log.specs.Walk.{log_of}
use Rattle.tt_model.specs.Entries.{is_switch}
use Rattle.tt_log.specs.Log.{IsOpen, CrashLeavesForced, CrashLeavesLog, first_file_of}
use Rattle.tt_model.specs.Opened.{Opened}
use Rattle.tt_model.specs.State.{State}
use Rattle.tt_model.specs.Works.{SameLog, performed}
use Rattle.tt_recover.specs.Opening.{opened_from, opened_of, newest_first, opening}
use Rattle.tt_journal.specs.LogTrail.{IsQuiet, LeavesPrefix}
use Rattle.tt_journal.specs.LineLaws.{breaks_same, writes_same}
use Rattle.tt_journal.specs.Journal.{Breaks, CanFollow, Writes, listed}
use Rattle.tt_journal.proofs.TrailLemmas.{forced_read, left_forced}
use Rattle.tt_engine.specs.declared.engine.Engine.{Engine}
use Rattle.tt_engine.specs.declared.memory.Decided.{Decided}
use Rattle.tt_engine.specs.declared.memory.Memory.{Memory}
use Rattle.tt_engine.specs.declared.request.Request.{Request}
use Rattle.tt_engine.specs.Engine.{Advances, Represents, Stops}
use Rattle.tt_engine.specs.Memory.{InMemory, IsDecided}
use Rattle.tt_engine.specs.OpeningLaws.{reads_settled}
use Rattle.tt_engine.specs.PrefixLaws.{prefix_opens, stands_for}
use Rattle.tt_engine.specs.Prefixes.{IsBehindFound, LeavesOpening, LogsAreSettled, OpensForced}
use Rattle.tt_engine.specs.Request.{Answers, answer, takes_memory}
use Rattle.tt_disk.specs.Volume.{Files, Outcomes}

-- The engine is behind what was found.
pub behind_found : (m : Memory) (s : State) → InMemory m s → IsBehindFound s
behind_found m s h = record { found = h.opened; grown = h.grown; numbered = h.numbered }

-- A crash that leaves a prefix with all that is forced leaves one that opening finds.
pub state_opens : (e : Engine) (now : Files) (s : State) (may : Outcomes) → Represents e now s → LeavesPrefix s.forced s may → LeavesOpening s.forced s may
state_opens e now s may h leaves = prefix_opens s.forced s may (behind_found e.memory s h.memory) h.log.bounds.0 leaves

-- A crash leaves what is forced, where one before the call could leave no more.
pub forced_found : (e : Engine) (now : Files) (may : Outcomes) (s : State) → Represents e now s → IsOpen e.log now may → CrashLeavesForced e.log now may → LeavesOpening s.forced s may
forced_found e now may s h o leaves = state_opens e now s may h (λ files left. (s.forced, omega arith, left_forced e.log now may may s o h.log leaves files left))

-- Opening finds what is forced.
pub forced_now : (e : Engine) (now : Files) (may : Outcomes) (s : State) → Represents e now s → IsOpen e.log now may → OpensForced s now
unfolding opening
forced_now e now may s h o =
    let f = forced_read e.log now may s o h.log in
    record { found = opened_from (newest_first f.found.entries) f.found.end; is = ap opened_of f.is; stands = stands_for s.forced s now (behind_found e.memory s h.memory) h.log.bounds.0 f }

-- A crash leaves files in which opening finds what is forced.
pub forced_settled : (e : Engine) (now : Files) (may : Outcomes) (s : State) → Represents e now s → IsOpen e.log now may → CrashLeavesForced e.log now may → LogsAreSettled now may
forced_settled e now may s h o leaves =
    reads_settled now may (forced_now e now may s h o).found (forced_now e now may s h o).is (subst (λ (n : ℕ). CrashLeavesLog n (log_of n now) may) h.log.first leaves)

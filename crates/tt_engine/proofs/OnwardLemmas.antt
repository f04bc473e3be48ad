-- What a line makes of a state is a later one.
use Rattle.std.proofs.Common.{◌≤◌, ◌+◌, ℕ, nat_le, Bool, true, false, length, None, if◌then◌else◌, refl, arith}
use Rattle.tt_value.specs.declared.position.Position.{Position}
use Rattle.tt_record.specs.declared.entry.Entry.{Entry}
use Rattle.tt_record.specs.declared.entry.Entry.TheVariants.{Mark}
use Rattle.tt_record.specs.Entry.{length_of}
use Rattle.tt_record.specs.Place.{next_position, position}
use Rattle.tt_set.specs.declared.settings.Settings.{Settings}
use Rattle.tt_model.specs.Opened.{Opened}
use Rattle.tt_model.specs.Run.{begun, opened}
use Rattle.tt_model.specs.State.{State, trail, with_entry, write_position}
use Rattle.tt_journal.specs.LogTrail.{IsQuiet}
use Rattle.tt_engine.specs.Prefixes.{IsSinceOpening, IsStill}
use Rattle.tt_journal.specs.Onward.{IsOnward}
use Rattle.tt_engine.specs.Starts.{are_there, begun_over}
use Rattle.tt_model.proofs.Theorems.{forced_never_falls}
use Rattle.tt_disk.specs.Volume.{Files}

place_onward : (end : Position) (n size : ℕ) → end.file ≤ (next_position end n size).file
place_onward end n size = by (nat_le (end.offset + n) size)
  where
    by : (b : Bool) → end.file ≤ (if b then end else position (end.file + 1) 0).file
    by true = omega arith
    by false = omega arith

entry_onward : (e : Entry) (s : State) → s.forced ≤ length (trail s) → IsOnward s (with_entry e s)
unfolding with_entry
entry_onward e s most = record {
  found = refl;
  forced = forced_never_falls.least s.settings.log_file_size s.settings.log_buf_size (length_of e) (write_position s) (trail s) s.forced most;
  file = place_onward (write_position s) (length_of e) s.settings.log_file_size;
}

entry_most : (e : Entry) (s : State) → s.forced ≤ length (trail s) → (with_entry e s).forced ≤ length (trail (with_entry e s))
unfolding with_entry
entry_most e s most =
    let below = forced_never_falls.most s.settings.log_file_size s.settings.log_buf_size (length_of e) (write_position s) (trail s) s.forced most in
    omega (arith, below)

-- the state with which a run begins

pub begun_since : (settings : Settings) (old : Files) (found : Opened) → IsSinceOpening (begun_over settings old found)
unfolding begun with_entry
begun_since settings old found =
    let onward = entry_onward Mark (opened settings found (are_there old) (λ set. None)) (omega arith) in
    record { forced = onward.forced; file = onward.file }

pub begun_quiet : (settings : Settings) (old : Files) (found : Opened) → IsStill (begun_over settings old found) → IsQuiet (opened settings found (are_there old) (λ set. None)) (with_entry Mark (opened settings found (are_there old) (λ set. None)))
unfolding begun with_entry
begun_quiet settings old found still = record { forced = still.forced; file = still.file }

-- Every line of the whole product, by the writes of its works.
use Rattle.std.proofs.Common.{◌≡◌, ◌∙◌, ℕ, false, map, ap}
use Rattle.tt_value.specs.declared.position.Position.{Position}
use Rattle.tt_parse.specs.declared.command.Command.{Command}
use Rattle.tt_record.specs.Entry.{length_of}
use Rattle.tt_log.specs.declared.log.Log.{Log}
use Rattle.tt_log.specs.Log.{write_position_of, file_size_of}
use Rattle.tt_model.specs.Run.{ended}
use Rattle.tt_model.specs.Entries.{IsPlain}
use Rattle.tt_model.specs.State.{State, lengths_fit}
use Rattle.tt_model.specs.Step.{line}
use Rattle.tt_model.specs.WholeRuns.{Each}
use Rattle.tt_model.specs.Works.{Fits, SameLog, Work, all_performed, is_blocking_line, performed, work_of_end, works_of}
use Rattle.tt_journal.specs.LogTrail.{HasEnds}
use Rattle.tt_journal.specs.SameLaws.{same_is_onward, same_is_quiet, same_prefix, same_stands}
use Rattle.tt_journal.specs.Journal.{Breaks, CanFollow, Writes}
use Rattle.tt_model.proofs.Theorems.{lines_are_works}
use Rattle.tt_disk.specs.declared.volume.Volume.{Ghosts}
use Rattle.tt_disk.specs.Volume.{Files}

-- Writes to a state are writes to each that has the same log; and a failed call on the way to it is one on the way to that.
pub writes_same : {V : Type 0} (g : Ghosts V) (log : Log) (old : V) (s : State) (log' : Log) (new : V) (b a : State) → SameLog b a → Writes g log old s log' new a → Writes g log old s log' new b
writes_same g log old s log' new b a x w = record {
  stands = same_stands log' (g.now new) b a x w.stands;
  kept = w.kept;
  onward = same_is_onward s b a x w.onward;
  quiet = λ q. w.quiet (same_is_quiet s b a x q);
  others = w.others;
}

pub breaks_same : {V : Type 0} (g : Ghosts V) (log : Log) (old : V) (s : State) (new : V) (b a : State) → SameLog b a → Breaks g log old s new a → Breaks g log old s new b
breaks_same g log old s new b a x w = record {
  crash = λ k. same_prefix s.forced (g.may new) b a x (w.crash k);
  onward = same_is_onward s b a x w.onward;
  moves = λ q. w.moves (same_is_quiet s b a x q);
  others = w.others;
}

-- A line's works done, the log stands for the line's state; a call failed in them, it failed in the line.
pub line_writes : {V : Type 0} (g : Ghosts V) (log : Log) (old : V) (s : State) (log' : Log) (new : V) (session : ℕ) (command : Command) → is_blocking_line command ≡ false
    → Writes g log old s log' new (all_performed (works_of session command s) s) → Writes g log old s log' new ((line session command s).1)
line_writes g log old s log' new session command n w =
    writes_same g log old s log' new ((line session command s).1) (all_performed (works_of session command s) s) (lines_are_works.each session command s n) w

pub line_breaks : {V : Type 0} (g : Ghosts V) (log : Log) (old : V) (s : State) (new : V) (session : ℕ) (command : Command) → is_blocking_line command ≡ false
    → Breaks g log old s new (all_performed (works_of session command s) s) → Breaks g log old s new ((line session command s).1)
line_breaks g log old s new session command n w =
    breaks_same g log old s new ((line session command s).1) (all_performed (works_of session command s) s) (lines_are_works.each session command s n) w

-- The same of the end of a run.
pub end_writes : {V : Type 0} (g : Ghosts V) (log : Log) (old : V) (s : State) (log' : Log) (new : V)
    → Writes g log old s log' new (performed (work_of_end s) s) → Writes g log old s log' new ((ended s).1)
end_writes g log old s log' new w = writes_same g log old s log' new ((ended s).1) (performed (work_of_end s) s) (lines_are_works.end s) w

pub end_breaks : {V : Type 0} (g : Ghosts V) (log : Log) (old : V) (s : State) (new : V)
    → Breaks g log old s new (performed (work_of_end s) s) → Breaks g log old s new ((ended s).1)
end_breaks g log old s new w = breaks_same g log old s new ((ended s).1) (performed (work_of_end s) s) (lines_are_works.end s) w

-- What fits behind a state's end may follow the log that stands for it.
pub work_follows : (log : Log) (s : State) (w : Work) → HasEnds log s → Each IsPlain w.entries → Fits w s → CanFollow (file_size_of log) (write_position_of log) w.entries
work_follows log s w ends plain fits = record {
  entries = plain;
  places = ap (λ k. lengths_fit k (write_position_of log) (map length_of w.entries)) ends.size ∙ ap (λ (p : Position). lengths_fit s.settings.log_file_size p (map length_of w.entries)) ends.write ∙ fits;
}

-- What opening finds after a crash: the tables, entries and positions behind a prefix of a state's trail.
use Rattle.std.specs.Prelude.{◌≡◌, ◌≤◌, ℕ, List, Option, Some, None, Result, Ok, Err, length}
use Rattle.tt_disk.specs.declared.volume.Name.{Name}
use Rattle.tt_disk.specs.Volume.{Files}
use Rattle.tt_log.specs.declared.refusal.LogRefusal.{LogRefusal}
use Rattle.tt_log.specs.Log.{MayLeaveLogs}
use Rattle.tt_model.specs.Opened.{Opened}
use Rattle.tt_model.specs.Prefix.{IsSettled, StandsForFirst, StandsForPrefix}
use Rattle.tt_model.specs.State.{State, write_position}
use Rattle.tt_model.specs.Steady.{IsGrown}
use Rattle.tt_model.specs.StepLaws.{AreNumberedFrom}
use Rattle.tt_recover.specs.Opening.{opened_from, opening}

-- What was found is what a log stood for, and the new entries might come one after another over it, by transactions of their own.
pub record IsBehindFound (s : State) : Type 0 where
  pub found : s.found ≡ opened_from s.found.entries s.found.end
  pub grown : IsGrown s.found.cells s.entries
  pub numbered : AreNumberedFrom s.found.next s.entries

-- opening these files finds what a prefix of a state's trail stands for, which has at least so many entries
abbrev pub OpensPrefix : ℕ → State → Files → Type 0
OpensPrefix least s files = (found : Opened) × (opening files ≡ Ok found) × StandsForPrefix least s found

-- the same of every map of files that a crash may leave
abbrev pub LeavesOpening : ℕ → State → (Name → Option (List ℕ) → Type 0) → Type 0
LeavesOpening least s may = (files : Files) → MayLeaveLogs may files → OpensPrefix least s files

-- what opening these files finds stands for just the entries of a state that are forced
pub record OpensForced (s : State) (files : Files) : Type 0 where
  pub found : Opened
  pub is : opening files ≡ Ok found
  pub stands : StandsForFirst s.forced s found

abbrev pub or_none : Result Opened LogRefusal → Option Opened
or_none (Ok found) = Some found
or_none (Err e) = None

-- what opening these files finds, where the log has no damage
abbrev pub opens : Files → Option Opened
opens files = or_none (opening files)

-- opening finds the same in every map of files that a crash may leave as in the present one
abbrev pub LogsAreSettled : Files → (Name → Option (List ℕ) → Type 0) → Type 0
LogsAreSettled now may = IsSettled (λ files. or_none (opening files)) (MayLeaveLogs may) now

-- a state behind the one that opening found
pub record IsSinceOpening (s : State) : Type 0 where
  pub forced : length s.found.entries ≤ s.forced
  pub file : s.found.end.file ≤ (write_position s).file

-- Since opening nothing was forced, and no file began.
pub record IsStill (s : State) : Type 0 where
  pub forced : s.forced ≡ length s.found.entries
  pub file : (write_position s).file ≡ s.found.end.file

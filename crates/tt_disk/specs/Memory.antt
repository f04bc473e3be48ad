-- A volume in memory: its calls, and what they let a crash leave.
use Rattle.std.specs.Prelude.{◌≡◌, ◌⊎◌, List}
use Rattle.tt_disk.specs.declared.volume.Name.{Name}
use Rattle.tt_disk.specs.declared.memory.failing.FailingCalls.{FailingCalls}
use Rattle.tt_disk.specs.declared.memory.MemVolume.{MemVolume}
use Rattle.tt_disk.specs.declared.memory.file.MemFile.{MemFile}
use Rattle.tt_disk.specs.Failing.{calls_unnoted, counted}
use Rattle.tt_disk.specs.Files.{files_now, files_may}
use Rattle.tt_disk.specs.Volume.{File, Files, Outcomes}

-- the files as a read gives them
abbrev pub files_of : MemVolume → Files
files_of volume = files_now volume.files.items

-- what a crash at this moment may leave of each file
abbrev pub outcomes_of : MemVolume → Outcomes
outcomes_of volume = files_may volume.files.items

-- the calls of the volume: how many were made and failed, and which are to fail
abbrev pub calls_of : MemVolume → FailingCalls
calls_of volume = volume.calls

-- whatever a crash could leave before it may leave now
abbrev pub KeepsAll : Outcomes → Outcomes → Type 0
KeepsAll may_old may_new = (n : Name) (c : File) → may_old n c → may_new n c

-- whatever a crash could leave before of another file than this one it may leave now
abbrev pub KeepsOthers : Name → Outcomes → Outcomes → Type 0
KeepsOthers name may_old may_new = (n : Name) → ¬ (n ≡ name) → (c : File) → may_old n c → may_new n c

-- Whatever a crash could leave of this file before is, after any such step, what one may leave now. Whatever it could leave of
-- another one it may leave now.
pub record ReachesAll (step : File → File → Type 0) (name : Name) (may_old may_new : Outcomes) : Type 0 where
  pub crash : (d c : File) → may_old name d → step d c → ∥ may_new name c ∥₁
  pub others : KeepsOthers name may_old may_new

-- a call on the list of files, which did this step to one of them, lets a crash leave all that the step allows
abbrev pub ReachesIn : (File → File → Type 0) → Name → List MemFile → List MemFile → Type 0
ReachesIn step name old new = ReachesAll step name (files_may old) (files_may new)

-- A crash may leave all that the step of the call allows, also where the call failed, unless it is counted as one that left
-- nothing.
pub record IsPending (step : File → File → Type 0) (name : Name) (old new : MemVolume) : Type 0 where
  pub noted : (calls_unnoted (calls_of new) ≡ counted (calls_unnoted (calls_of old))) ⊎ ReachesAll step name (outcomes_of old) (outcomes_of new)

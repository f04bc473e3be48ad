-- One file of a volume in memory: what a crash may leave of it.
use Rattle.std.specs.Prelude.{◌≡◌, ◌⊎◌}
use Rattle.tt_disk.specs.declared.memory.file.MemFile.{MemFile}
use Rattle.tt_disk.specs.Steps.{contents, Leads}
use Rattle.tt_disk.specs.Volume.{File}

-- A crash may leave the file like this: as it reads, or as the steps since its last sync may have made it of what that sync left.
abbrev pub file_may : MemFile → File → Type 0
file_may file c = (c ≡ contents file.bytes) ⊎ Leads file.steps.items (contents file.settled) c

-- A call on the file did this step to it. Each outcome of a crash afterwards is one from before after such a step.
pub record FileSteps (step : File → File → Type 0) (old new : MemFile) : Type 0 where
  pub name : new.name ≡ old.name
  pub reads : step (contents old.bytes) (contents new.bytes)
  pub crash : (c : File) → file_may new c → (d : File) × file_may old d × step d c

-- Whatever a crash could leave of the file before is, after any such step, what one may leave now.
pub record Reaches (step : File → File → Type 0) (old new : MemFile) : Type 0 where
  pub crash : (d c : File) → file_may old d → step d c → ∥ file_may new c ∥₁

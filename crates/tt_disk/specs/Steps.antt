-- The steps that calls take on a file in memory since its last sync, and what they may make of it.
use Rattle.std.specs.Prelude.{◌≡◌, List, [], ◌∷◌, Option, Some, None, Vec, ℕ}
use Rattle.std.specs.declared.alloc.Global.{Global}
use Rattle.tt_disk.specs.declared.memory.file.Step.{Step}
use Rattle.tt_disk.specs.declared.memory.file.Step.TheVariants.{Create, Make, Write, Remove}
use Rattle.tt_disk.specs.Volume.{File, Torn, Created, Made, Removed}

abbrev pub contents : Option (Vec ℕ Global) → File
contents (Some v) = Some v.items
contents None = None

-- the step may have done this, in whole, in part or not at all
abbrev pub Does : Step → File → File → Type 0
Does Create old new = Created old new
Does Make old new = Made old new
Does (Write at len) old new = Torn at len old new
Does Remove old new = Removed old new

-- the steps in turn may lead from the one to the other
abbrev pub Leads : List Step → File → File → Type 0
Leads [] old new = new ≡ old
Leads (s ∷ steps) old new = (d : File) × Does s old d × Leads steps d new

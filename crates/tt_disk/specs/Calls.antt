-- The words of `Volume` at a bound `V: Volume`: what a call does to the files that the volume tells. Of a volume that tells
-- nothing they say nothing.
use Rattle.std.specs.Prelude.{◌≤◌, ℕ, IsSome, Result, OnOk}
use Rattle.tt_disk.specs.declared.volume.Name.{Name}
use Rattle.tt_disk.specs.declared.volume.Volume.{Ghosts}
use Rattle.tt_disk.specs.Volume.{IsSettled, Keeps, OnlyAt, size_of}

-- no file changed, and a crash leaves nothing that one before could not
abbrev pub KeepsFiles : {V : Type 0} → Ghosts V → V → V → Type 0
KeepsFiles g old new = g.told → Keeps (g.now old) (g.now new) (g.may old) (g.may new)

-- no other file changed, and of the others a crash leaves nothing that one before could not
abbrev pub ChangesOnly : {V : Type 0} → Ghosts V → Name → V → V → Type 0
ChangesOnly g name old new = g.told → OnlyAt name (g.now old) (g.now new) (g.may old) (g.may new)

-- the file is there
abbrev pub HasFile : {V : Type 0} → Ghosts V → Name → V → Type 0
HasFile g name volume = g.told → IsSome (g.now volume name)

-- the offset lies in the file or at its end
abbrev pub HasOffset : {V : Type 0} → Ghosts V → Name → ℕ → V → Type 0
HasOffset g name at volume = g.told → at ≤ size_of (g.now volume name)

-- a crash leaves the file as it reads, where the call was answered
abbrev pub SettlesFile : {V T E : Type 0} → Ghosts V → Name → V → Result T E → Type 0
SettlesFile g name new result = g.told → OnOk result (IsSettled name (g.now new) (g.may new))

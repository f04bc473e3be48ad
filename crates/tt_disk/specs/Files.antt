-- The files of a volume in memory: what a read gives of each, and what a crash may leave of it.
use Rattle.std.specs.Prelude.{nat_lt, ◌≤◌, ◌^◌, IsSome, ◌≡◌, ◌==◌, ◌+◌, ◌<◌, ℕ, Bool, true, false, if◌then◌else◌, List, [], ◌∷◌, ◌++◌, length, take, drop, Option, Some, None, refl}
use mathlib.Core.Logic.{inl}
use Rattle.tt_disk.specs.declared.volume.Name.{Name}
use Rattle.tt_disk.specs.declared.volume.Name.TheVariants.{Ds, Log, SetImage, SetLog}
use Rattle.tt_disk.specs.declared.memory.file.MemFile.{MemFile}
use Rattle.tt_disk.specs.Steps.{contents}
use Rattle.tt_disk.specs.File.{file_may}
use Rattle.tt_disk.specs.Volume.{File, Files, Keeps, Steps}

abbrev pub same_name : Name → Name → Bool
same_name (Ds a) (Ds b) = a == b
same_name (Log a) (Log b) = a == b
same_name (SetImage a) (SetImage b) = a == b
same_name (SetLog a) (SetLog b) = a == b
same_name _ _ = false

-- the first entry of this name
abbrev pub found : List MemFile → Name → Option MemFile
found [] name = None
found (file ∷ files) name = if same_name file.name name then Some file else found files name

abbrev pub now_of : Option MemFile → File
now_of None = None
now_of (Some file) = contents file.bytes

abbrev pub may_of : Option MemFile → File → Type 0
may_of None c = c ≡ None
may_of (Some file) c = file_may file c

pub now_may : (o : Option MemFile) → may_of o (now_of o)
now_may None = refl
now_may (Some file) = inl refl

abbrev pub files_now : List MemFile → Name → File
files_now files name = now_of (found files name)

abbrev pub files_may : List MemFile → Name → File → Type 0
files_may files name c = may_of (found files name) c

-- the first entry of this name lies at this index
pub record IsAt (files : List MemFile) (name : Name) (i : ℕ) : Type 0 where
  pub file : MemFile
  pub split : files ≡ take i files ++ file ∷ drop (i + 1) files
  pub before : found (take i files) name ≡ None
  pub here : same_name file.name name ≡ true
  pub inside : i < length files

-- the number comes before the least so far, if there is one
abbrev pub is_below : ℕ → Option ℕ → Bool
is_below n (Some m) = nat_lt n m
is_below n None = true

-- this is the number, not below `from`, of a log that is there
abbrev pub IsLogFrom : Files → ℕ → ℕ → Type 0
IsLogFrom now from n = (from ≤ n) × (n < 2 ^ 32) × IsSome (now (Log n))

-- a call on the list changed no file, and a crash leaves nothing that one before could not
abbrev pub KeepsIn : List MemFile → List MemFile → Type 0
KeepsIn old new = Keeps (files_now old) (files_now new) (files_may old) (files_may new)

-- a call on the list did this step to one file
abbrev pub StepsIn : (File → File → Type 0) → Name → List MemFile → List MemFile → Type 0
StepsIn step name old new = Steps step name (files_now old) (files_now new) (files_may old) (files_may new)

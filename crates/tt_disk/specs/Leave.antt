-- What a crash leaves of the files of a volume in memory, and the least that it may leave.
use Rattle.std.specs.Prelude.{◌≡◌, Bool, true, false, ◌||◌, if◌then◌else◌, List, [], ◌∷◌, Option, Some, None, map, option_map}
use Rattle.tt_disk.specs.declared.memory.file.MemFile.{MemFile}
use Rattle.tt_disk.specs.declared.memory.MemVolume.{MemVolume}
use Rattle.tt_disk.specs.declared.memory.file.Step.{Step}
use Rattle.tt_disk.specs.declared.memory.file.Step.TheVariants.{Create, Make, Write, Remove}
use Rattle.tt_disk.specs.Steps.{contents}
use Rattle.tt_disk.specs.File.{file_may}
use Rattle.tt_disk.specs.Files.{found}
use Rattle.tt_disk.specs.Volume.{File, Files}

-- one of these steps emptied the file, which was there before them or wasn't
abbrev pub was_emptied : Bool → List Step → Bool
was_emptied there [] = false
was_emptied there (Create ∷ steps) = there || was_emptied true steps
was_emptied there (Make ∷ steps) = was_emptied true steps
was_emptied there (Write at len ∷ steps) = was_emptied true steps
was_emptied there (Remove ∷ steps) = was_emptied false steps

-- no bytes, where the file is there and this holds
abbrev pub emptied_if : Bool → File → File
emptied_if emptied file = if emptied then option_map (λ bytes. []) file else file

-- the file as its last sync left it, cut to the least length since
abbrev pub least_of : MemFile → File
least_of file = emptied_if (was_emptied true file.steps.items) (contents file.settled)

-- the least that a crash may leave of a name that may have no file
abbrev pub least_of_any : Option MemFile → File
least_of_any None = None
least_of_any (Some file) = least_of file

-- each file of a volume as its last sync left it, cut to the least length since
abbrev pub least_left : MemVolume → Files
least_left volume name = least_of_any (found volume.files.items name)

-- Each entry of the second list is a file that a crash may leave of the one in the first, and is settled.
abbrev pub AreLeft : List MemFile → List MemFile → Type 0
AreLeft [] [] = Unit {0}
AreLeft (old ∷ olds) (new ∷ news) = (new.name ≡ old.name) × file_may old (contents new.bytes) × ((c : File) → file_may new c → c ≡ contents new.bytes) × AreLeft olds news
AreLeft _ _ = ⊥

-- the bytes of each entry, one after another
abbrev pub each_contents : List MemFile → List File
each_contents = map (λ file. contents file.bytes)

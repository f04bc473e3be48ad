-- Which folder a volume stands for.
use Rattle.std.specs.Prelude.{ℕ, List, [], ◌∷◌, string_bytes, codes}
use Rattle.tt_disk.specs.declared.folder.DirVolume.{DirVolume}

-- the path of a folder, where an empty one is that of the current folder
abbrev pub or_current : List ℕ → List ℕ
or_current [] = codes "."
or_current (byte ∷ bytes) = byte ∷ bytes

-- the path of the volume's folder
abbrev pub folder_of : DirVolume → List ℕ
folder_of volume = string_bytes volume.folder.path

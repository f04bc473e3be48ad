-- The words of a checkpoint file at a bound `V: Volume`: how the file stands, what a call makes of it, and what a crash leaves. Each
-- ends in `On`. Of a volume that tells nothing they say nothing.
use Rattle.std.specs.Prelude.{◌≡◌, ◌≤◌, ℕ, List, take, drop, length, Option, Some, Result, OnOk, IfOk}
use Rattle.tt_disk.specs.declared.volume.Name.{Name}
use Rattle.tt_disk.specs.declared.volume.Volume.{Ghosts}
use Rattle.tt_disk.specs.Volume.{IsSettled, Steps, Torn, bytes_of, size_of}
use Rattle.tt_image.specs.Crash.{IsShut, LeavesFormerOrNotWhole, LeavesShut, LeavesShutOr}
use Rattle.tt_image.specs.Head.{page_start}
use Rattle.tt_image.specs.Pages.{padded, with_pages}
use Rattle.tt_cells.specs.declared.PageCopy.{PageCopy}

-- the file reads so
abbrev pub ReadsOn : {V : Type 0} → Ghosts V → Name → V → Option (List ℕ) → Type 0
ReadsOn g name volume file = g.told → g.now volume name ≡ file

-- the file reads so, where the call was answered
abbrev pub MakesOn : {V T E : Type 0} → Ghosts V → Name → V → Result T E → Option (List ℕ) → Type 0
MakesOn g name new result file = g.told → OnOk result (g.now new name ≡ file)

-- the bytes from an offset on lie over those of the file, in whole, in part or not at all
abbrev pub TearsOn : {V : Type 0} → Ghosts V → Name → ℕ → List ℕ → V → V → Type 0
TearsOn g name at bytes old new =
    g.told → Steps (Torn at (length bytes)) name (g.now old) (g.now new) (g.may old) (g.may new)

-- the page begins in the file or at its end
abbrev pub HasPageStart : {V : Type 0} → Ghosts V → Name → ℕ → V → Type 0
HasPageStart g name page volume = g.told → page_start page ≤ size_of (g.now volume name)

-- the file as it reads is closed
abbrev pub IsShutOn : {V : Type 0} → Ghosts V → Name → V → Type 0
IsShutOn g name volume = g.told → IsShut (g.now volume name)

-- a crash leaves the file closed or absent
abbrev pub CrashLeavesShutOn : {V : Type 0} → Ghosts V → Name → V → Type 0
CrashLeavesShutOn g name volume = g.told → LeavesShut (g.may volume name)

-- a crash leaves the file closed or absent, where the call was answered
abbrev pub ShutsOn : {V T E : Type 0} → Ghosts V → Name → V → Result T E → Type 0
ShutsOn g name new result = g.told → OnOk result (LeavesShut (g.may new name))

-- a crash leaves the file closed or absent, or these bytes
abbrev pub CrashLeavesShutOrOn : {V : Type 0} → Ghosts V → Name → V → List ℕ → Type 0
CrashLeavesShutOrOn g name volume file = g.told → LeavesShutOr file (g.may volume name)

-- a crash leaves what one before could leave, or a file that isn't whole
abbrev pub CrashLeavesFormerOrNotWholeOn : {V : Type 0} → Ghosts V → Name → V → V → Type 0
CrashLeavesFormerOrNotWholeOn g name old new = g.told → LeavesFormerOrNotWhole (g.may old name) (g.may new name)

-- the file is there with the bytes that it had, none where it wasn't there, and this is its length
abbrev pub StaysOn : {V E : Type 0} → Ghosts V → Name → V → V → Result ℕ E → Type 0
StaysOn g name old new result =
    g.told → IfOk result (λ size. (g.now new name ≡ Some (bytes_of (g.now old name))) × (size ≡ length (bytes_of (g.now old name))))

-- a crash leaves the file as it reads, where the call was answered
abbrev pub SettledOn : {V T E : Type 0} → Ghosts V → Name → V → Result T E → Type 0
SettledOn g name new result = g.told → IfOk result (λ value. IsSettled name (g.now new) (g.may new))

-- the file has these pages over what it had, where the call was answered
abbrev pub MakesPagesOn : {V T E : Type 0} → Ghosts V → Name → V → V → List PageCopy → Result T E → Type 0
MakesPagesOn g name old new copies result = g.told → OnOk result (g.now new name ≡ with_pages copies (g.now old name))

-- a buffer has the bytes of the file from an offset on, and zeros behind them, where the call was answered
abbrev pub ReadsPaddedOn : {V T E : Type 0} → Ghosts V → Name → ℕ → V → List ℕ → List ℕ → Result T E → Type 0
ReadsPaddedOn g name at volume before after result =
    g.told → OnOk result (after ≡ padded (length before) (drop at (bytes_of (g.now volume name))))

-- How a file stands between two calls of its GateFile.
use Rattle.std.specs.Prelude.{◌≡◌, ◌⊎◌, ◌<◌, ◌+◌, ℕ, List, [], ◌∷◌, ◌++◌, length, take, drop, ◌≤◌, IsSome, IsOk, Option, Some, None, Result, Ok, Err, true}
use Rattle.tt_disk.specs.Volume.{size_of, bytes_of}
use Rattle.tt_gate.specs.declared.gate.GateRefusal.{GateRefusal}
use Rattle.tt_gate.specs.declared.gate.GateRefusal.TheVariants.{Absent, BadHeader, BadBatch, Failed}
use Rattle.tt_disk.specs.declared.volume.Name.{Name}
use Rattle.tt_gate.specs.declared.gate.GateFile.{GateFile}
use Rattle.tt_gate.specs.Gate.{end_of, gated}
use Rattle.tt_gate.specs.Limits.{header_length}

-- what a GateFile shows: the file that it stands for
abbrev pub name_of : GateFile → Name
name_of file = file.name

-- the offset of the closed gate behind the file's last batch
abbrev pub gate_offset_of : GateFile → ℕ
gate_offset_of file = file.gate

-- how many bytes are staged for the next batch
abbrev pub staged_bytes_of : GateFile → ℕ
staged_bytes_of file = file.staged

-- a value for this file with nothing staged
abbrev pub IsFresh : Name → GateFile → Type 0
IsFresh name file = (name_of file ≡ name) × (staged_bytes_of file ≡ 0)

-- these bytes lie at an offset of the file
pub record LieAt (at : ℕ) (bytes : List ℕ) (file : Option (List ℕ)) : Type 0 where
  pub front : List ℕ
  pub tail : List ℕ
  pub is : file ≡ Some (front ++ (bytes ++ tail))
  pub long : length front ≡ at

-- the header and the bodies of a file that is whole
abbrev pub header_of : Result (List ℕ × List (List ℕ)) GateRefusal → List ℕ
header_of (Ok found) = found.0
header_of (Err refusal) = []

abbrev pub bodies_of : Result (List ℕ × List (List ℕ)) GateRefusal → List (List ℕ)
bodies_of (Ok found) = found.1
bodies_of (Err refusal) = []

-- what is found of a file, with one batch more
abbrev pub with_batch : List ℕ → Result (List ℕ × List (List ℕ)) GateRefusal → Result (List ℕ × List (List ℕ)) GateRefusal
with_batch body (Ok found) = Ok (found.0, found.1 ++ body ∷ [])
with_batch body (Err refusal) = Err refusal

-- what is staged for the next batch
abbrev pub staged_in : GateFile → Option (List ℕ) → List ℕ
staged_in file bytes = take file.staged (drop (9 + file.gate) (bytes_of bytes))

-- the one value stands for the same file, gate and staged bytes as the other
pub record StandsStill (old new : GateFile) : Type 0 where
  pub name : new.name ≡ old.name
  pub gate : new.gate ≡ old.gate
  pub staged : new.staged ≡ old.staged

-- as many bytes are staged as before, or these bytes more
abbrev pub MayStage : GateFile → List ℕ → GateFile → Type 0
MayStage old bytes new =
    (staged_bytes_of new ≡ staged_bytes_of old) ⊎ (staged_bytes_of new ≡ staged_bytes_of old + length bytes)

-- the file is whole and stands as the last call with it left it
pub record IsLaid (file : GateFile) (now : Name → Option (List ℕ)) : Type 0 where
  pub whole : IsOk (gated (now file.name))
  pub gate : file.gate ≡ end_of (bodies_of (gated (now file.name)))
  pub room : 0 < file.staged → 9 + file.gate + file.staged ≤ size_of (now file.name)

-- a crash leaves these batches
abbrev pub CrashLeavesBatches : Result (List ℕ × List (List ℕ)) GateRefusal → (Option (List ℕ) → Type 0) → Type 0
CrashLeavesBatches found may = (c : Option (List ℕ)) → may c → gated c ≡ found

-- a crash leaves a file of at most so many bytes, or none
abbrev pub CrashLeavesAtMost : ℕ → (Option (List ℕ) → Type 0) → Type 0
CrashLeavesAtMost n may = (c : Option (List ℕ)) → may c → size_of c ≤ n

-- the file was synced since it was found, and isn't synced again before its next write
abbrev pub IsSynced : GateFile → Type 0
IsSynced file = file.synced ≡ true

-- The file stands as its value says, and where it was synced since it was found a crash leaves just its batches.
pub record IsReady (file : GateFile) (now : Name → Option (List ℕ)) (may : Name → Option (List ℕ) → Type 0) : Type 0 where
  pub laid : IsLaid file now
  pub kept : IsSynced file → CrashLeavesBatches (gated (now file.name)) (may file.name)
  pub begun : 0 < file.staged → IsSynced file

-- a crash leaves what one before could leave, or these batches
abbrev pub CrashLeavesFormer : (Option (List ℕ) → Type 0) → Result (List ℕ × List (List ℕ)) GateRefusal → (Option (List ℕ) → Type 0) → Type 0
CrashLeavesFormer old found may = (c : Option (List ℕ)) → may c → old c ⊎ (gated c ≡ found)

-- a crash leaves what one before could leave, these batches, or these and one more
abbrev pub CrashLeavesFormerOrMore : (Option (List ℕ) → Type 0) → Result (List ℕ × List (List ℕ)) GateRefusal → List ℕ → (Option (List ℕ) → Type 0) → Type 0
CrashLeavesFormerOrMore old found body may = (c : Option (List ℕ)) → may c → old c ⊎ ((gated c ≡ found) ⊎ (gated c ≡ with_batch body found))

-- a crash leaves these batches, or these and one more
abbrev pub CrashLeavesOneMore : Result (List ℕ × List (List ℕ)) GateRefusal → List ℕ → (Option (List ℕ) → Type 0) → Type 0
CrashLeavesOneMore found body may = (c : Option (List ℕ)) → may c → (gated c ≡ found) ⊎ (gated c ≡ with_batch body found)

-- the offset is that of the closed gate behind the last batch
abbrev pub IsEnd : Option (List ℕ) → ℕ → Type 0
IsEnd file end = (header : List ℕ) × (bodies : List (List ℕ)) × (gated file ≡ Ok (header, bodies)) × (end ≡ end_of bodies)

-- the file begins with this header, and has a byte behind it
abbrev pub HasHeader : List ℕ → Option (List ℕ) → Type 0
HasHeader header file = (header_length < size_of file) × (take header_length (bytes_of file) ≡ header)

-- what the refusal says is so
abbrev pub RefusalHolds : List ℕ → Option (List ℕ) → GateRefusal → Type 0
RefusalHolds header file Absent = file ≡ None
RefusalHolds header file BadHeader = IsSome file × (HasHeader header file → ⊥)
RefusalHolds header file (BadBatch at) = HasHeader header file × (gated file ≡ Err (BadBatch at))
RefusalHolds header file Failed = Unit {0}

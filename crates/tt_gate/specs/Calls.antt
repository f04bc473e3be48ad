-- The words of `GateFile` at a bound `V: Volume`: how its file stands on the volume, and what a crash leaves of it there. Each
-- ends in `On`. Of a volume that tells nothing they say nothing.
use Rattle.std.specs.Prelude.{◌≡◌, ◌⊎◌, ◌+◌, ◌<◌, ◌++◌, ℕ, List, Some, Ok, Err, Result}
use Rattle.tt_disk.specs.Volume.{size_of}
use Rattle.tt_disk.specs.Faults.{HasCause, RoseWhere}
use Rattle.tt_disk.specs.declared.volume.Name.{Name}
use Rattle.tt_disk.specs.declared.volume.Volume.{Ghosts}
use Rattle.tt_gate.specs.declared.gate.GateFile.{GateFile}
use Rattle.tt_gate.specs.declared.gate.Gate.{Gate}
use Rattle.tt_gate.specs.declared.gate.GateRefusal.{GateRefusal}
use Rattle.tt_gate.specs.declared.gate.GateRefusal.TheVariants.{Failed}
use Rattle.tt_gate.specs.Gate.{gate_in, gated}
use Rattle.tt_gate.specs.Limits.{header_length}
use Rattle.tt_gate.specs.GateFile.{IsLaid, IsReady, IsEnd, HasHeader, IsSynced, RefusalHolds, CrashLeavesAtMost, CrashLeavesBatches, CrashLeavesFormer, CrashLeavesOneMore, CrashLeavesFormerOrMore, LieAt, name_of, gate_offset_of, staged_in, with_batch}

-- the count of faults rose where the call failed, and an exact one stays where it was answered
abbrev pub HasCauseOn : {V T E : Type 0} → Ghosts V → V → V → Result T E → Type 0
HasCauseOn g old new result = HasCause g.exact (g.faults old) (g.faults new) result

-- the count of faults rose where this holds, and an exact one stays where it doesn't
abbrev pub RoseWhereOn : {V : Type 0} → Ghosts V → V → V → Type 0 → Type 0
RoseWhereOn g old new failed = RoseWhere g.exact failed (g.faults old) (g.faults new)

-- the file stands as the value says, and of a file that was synced since it was found a crash leaves just these batches
abbrev pub IsReadyOn : {V : Type 0} → Ghosts V → GateFile → V → Type 0
IsReadyOn g file volume = g.told → IsReady file (g.now volume) (g.may volume)

-- the file stands as the value says
abbrev pub IsLaidOn : {V : Type 0} → Ghosts V → GateFile → V → Type 0
IsLaidOn g file volume = g.told → IsLaid file (g.now volume)

-- the file has just these bytes
abbrev pub HasBytesOn : {V : Type 0} → Ghosts V → Name → List ℕ → V → Type 0
HasBytesOn g name bytes volume = g.told → g.now volume name ≡ Some bytes

-- the file is whole, with this header and these batches
abbrev pub ReadsOn : {V : Type 0} → Ghosts V → Name → List ℕ → List (List ℕ) → V → Type 0
ReadsOn g name header bodies volume = g.told → gated (g.now volume name) ≡ Ok (header, bodies)

-- the file is whole, with this header
abbrev pub IsWholeOn : {V : Type 0} → Ghosts V → Name → List ℕ → V → Type 0
IsWholeOn g name header volume = g.told → (bodies : List (List ℕ)) × (gated (g.now volume name) ≡ Ok (header, bodies))

-- the file begins with this header, and has a byte behind it
abbrev pub HasHeaderOn : {V : Type 0} → Ghosts V → Name → List ℕ → V → Type 0
HasHeaderOn g name header volume = g.told → HasHeader header (g.now volume name)

-- what the refusal says of a file that was to have this header holds
abbrev pub RefusalHoldsOn : {V : Type 0} → Ghosts V → Name → List ℕ → V → GateRefusal → Type 0
RefusalHoldsOn g name header volume refusal = g.told → RefusalHolds header (g.now volume name) refusal

-- a call of the volume failed, or this is what the gate at an offset of the file says
abbrev pub GateSaysOn : {V : Type 0} → Ghosts V → Name → ℕ → V → Result Gate GateRefusal → Type 0
GateSaysOn g name at volume answer = g.told → (answer ≡ Err Failed) ⊎ (answer ≡ gate_in at (g.now volume name))

-- the file has a byte behind its header
abbrev pub IsLongOn : {V : Type 0} → Ghosts V → Name → V → Type 0
IsLongOn g name volume = g.told → header_length < size_of (g.now volume name)

-- a call of the volume failed, or the file is refused so
abbrev pub WalkRefusedOn : {V : Type 0} → Ghosts V → Name → V → GateRefusal → Type 0
WalkRefusedOn g name volume refusal = g.told → (refusal ≡ Failed) ⊎ (gated (g.now volume name) ≡ Err refusal)

-- the offset is that of the closed gate behind the file's last batch
abbrev pub IsEndOn : {V : Type 0} → Ghosts V → Name → V → ℕ → Type 0
IsEndOn g name volume end = g.told → IsEnd (g.now volume name) end

-- the file has the same batches, or the same damage
abbrev pub KeepsBatchesOn : {V : Type 0} → Ghosts V → Name → V → V → Type 0
KeepsBatchesOn g name old new = g.told → gated (g.now new name) ≡ gated (g.now old name)

-- these bytes are staged behind those that were
abbrev pub StagesOn : {V : Type 0} → Ghosts V → GateFile → V → List ℕ → GateFile → V → Type 0
StagesOn g file old bytes after new =
    g.told → staged_in after (g.now new (name_of file)) ≡ staged_in file (g.now old (name_of file)) ++ bytes

-- what was staged still is, and nothing else
abbrev pub KeepsStagedOn : {V : Type 0} → Ghosts V → GateFile → V → GateFile → V → Type 0
KeepsStagedOn g file old after new =
    g.told → staged_in after (g.now new (name_of file)) ≡ staged_in file (g.now old (name_of file))

-- what was staged lies behind the closed gate and the place of its length
abbrev pub StagedLiesOn : {V : Type 0} → Ghosts V → GateFile → V → V → Type 0
StagedLiesOn g file old new = g.told → LieAt (9 + gate_offset_of file) (staged_in file (g.now old (name_of file))) (g.now new (name_of file))

-- the file has one batch more, of what was staged and these bytes
abbrev pub AddsBatchOn : {V : Type 0} → Ghosts V → GateFile → List ℕ → V → V → Type 0
AddsBatchOn g file bytes old new =
    g.told → gated (g.now new (name_of file)) ≡ with_batch (staged_in file (g.now old (name_of file)) ++ bytes) (gated (g.now old (name_of file)))

-- the file has one batch more, of what was staged
abbrev pub AddsStagedOn : {V : Type 0} → Ghosts V → GateFile → V → V → Type 0
AddsStagedOn g file old new =
    g.told → gated (g.now new (name_of file)) ≡ with_batch (staged_in file (g.now old (name_of file))) (gated (g.now old (name_of file)))

-- a crash leaves no more than so many bytes of the file, where one before left no more
abbrev pub StaysAtMostOn : {V : Type 0} → Ghosts V → ℕ → Name → V → V → Type 0
StaysAtMostOn g most name old new = g.told → CrashLeavesAtMost most (g.may old name) → CrashLeavesAtMost most (g.may new name)

-- a crash leaves the batches that the file had, where one before left just these
abbrev pub CrashKeepsBatchesOn : {V : Type 0} → Ghosts V → Name → V → V → Type 0
CrashKeepsBatchesOn g name old new =
    g.told → CrashLeavesBatches (gated (g.now old name)) (g.may old name) → CrashLeavesBatches (gated (g.now old name)) (g.may new name)

-- a crash leaves what one before could leave, or the batches that the file had
abbrev pub CrashLeavesFormerOn : {V : Type 0} → Ghosts V → Name → V → V → Type 0
CrashLeavesFormerOn g name old new = g.told → CrashLeavesFormer (g.may old name) (gated (g.now old name)) (g.may new name)

-- a crash leaves the batches that the file had, or these and one of what was staged
abbrev pub CrashLeavesOneMoreOn : {V : Type 0} → Ghosts V → GateFile → V → V → Type 0
CrashLeavesOneMoreOn g file old new =
    g.told → CrashLeavesOneMore (gated (g.now old (name_of file))) (staged_in file (g.now old (name_of file))) (g.may new (name_of file))

-- a crash leaves the batches that the file had, or these and one of what was staged and these bytes
abbrev pub CrashLeavesBatchOn : {V : Type 0} → Ghosts V → GateFile → List ℕ → V → V → Type 0
CrashLeavesBatchOn g file bytes old new =
    g.told → CrashLeavesOneMore (gated (g.now old (name_of file))) (staged_in file (g.now old (name_of file)) ++ bytes) (g.may new (name_of file))

-- where the value says after the call that its file was synced, a crash leaves the batches that the file had, or these and one
-- of what was staged and these bytes
abbrev pub SyncedLeavesBatchOn : {V : Type 0} → Ghosts V → GateFile → V → List ℕ → GateFile → V → Type 0
SyncedLeavesBatchOn g file old bytes after new = IsSynced after → CrashLeavesBatchOn g file bytes old new

-- a crash leaves what one before could leave, the batches that the file had, or these and one of what was staged and these bytes
abbrev pub CrashLeavesFormerOrMoreOn : {V : Type 0} → Ghosts V → GateFile → List ℕ → V → V → Type 0
CrashLeavesFormerOrMoreOn g file bytes old new =
    g.told → CrashLeavesFormerOrMore (g.may old (name_of file)) (gated (g.now old (name_of file))) (staged_in file (g.now old (name_of file)) ++ bytes) (g.may new (name_of file))

-- a crash leaves the batches that the file had, or these and one of what was staged, where one before left just the former
abbrev pub CrashAddsStagedOn : {V : Type 0} → Ghosts V → GateFile → V → V → Type 0
CrashAddsStagedOn g file old new =
    g.told → CrashLeavesBatches (gated (g.now old (name_of file))) (g.may old (name_of file))
    → CrashLeavesOneMore (gated (g.now old (name_of file))) (staged_in file (g.now old (name_of file))) (g.may new (name_of file))

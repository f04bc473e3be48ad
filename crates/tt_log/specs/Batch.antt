-- What is read of a file from one of its gates on.
use Rattle.std.specs.Prelude.{◌≡◌, ◌⊎◌, ◌<◌, ◌≤◌, ◌+◌, ℕ, List, [], length, take, drop, true, false, Option, Some, None, Result, Ok, Err}
use Rattle.tt_disk.specs.Volume.{bytes_of, File}
use Rattle.tt_gate.specs.GateFile.{HasHeader}
use Rattle.tt_gate.specs.Gate.{gate_in, walked_at}
use Rattle.tt_gate.specs.declared.gate.Gate.{Gate}
use Rattle.tt_gate.specs.declared.gate.Gate.TheVariants.{Closed as Shut, Full}
use Rattle.tt_gate.specs.declared.gate.GateRefusal.{GateRefusal}
use Rattle.tt_gate.specs.declared.gate.GateRefusal.TheVariants.{Absent, BadHeader, BadBatch as GateBad, Failed as GateFailed}
use Rattle.tt_record.specs.declared.entry.Entry.{Entry}
use Rattle.tt_record.specs.Read.{entries_of}
use Rattle.tt_log.specs.declared.batch.Batch.{Batch}
use Rattle.tt_log.specs.declared.batch.Batch.TheVariants.{Closed, Switched, Entries}
use Rattle.tt_log.specs.declared.refusal.LogRefusal.{LogRefusal}
use Rattle.tt_log.specs.declared.refusal.LogRefusal.TheVariants.{Gap, BadBatch, Failed, NoMemory}
use Rattle.tt_log.specs.Lengths.{total}
use Rattle.tt_log.specs.Walk.{Part, before, file_read, bodies_read, log_header}
use Rattle.tt_log.specs.Limits.{file_most, last_log_file}
use Rattle.tt_gate.specs.Limits.{longest_file}

-- the end of a file's batches, or its damaged gate
abbrev pub end_with : ℕ → Option ℕ → Part
end_with n None = Ok ([], false)
end_with n (Some at) = Err (BadBatch n at)

-- what file n says from the gate at this byte on, behind so many bytes of entries
unfoldable pub rest_read : ℕ → ℕ → ℕ → File → Part
rest_read n gate offset file = bodies_read n gate offset (walked_at gate (bytes_of file)).0 (end_with n (walked_at gate (bytes_of file)).1)

-- the file begins as log file n does
abbrev pub IsHeaded : ℕ → File → Type 0
IsHeaded n file = HasHeader (log_header n) file

-- what a refusal of a file's gates is for the log
abbrev pub refusal_of : ℕ → GateRefusal → LogRefusal
refusal_of n Absent = Gap n
refusal_of n BadHeader = Gap n
refusal_of n (GateBad at) = BadBatch n at
refusal_of n GateFailed = Failed

abbrev pub gate_for : ℕ → Result Gate GateRefusal → Result Gate LogRefusal
gate_for n (Ok gate) = Ok gate
gate_for n (Err e) = Err (refusal_of n e)

-- what is answered behind a Switch
abbrev pub after_switch_by : ℕ → ℕ → Result Gate GateRefusal → Result Batch LogRefusal
after_switch_by n next (Ok Shut) = Ok Switched
after_switch_by n next (Ok (Full length)) = Err (BadBatch n next)
after_switch_by n next (Err e) = Err (refusal_of n e)

-- the header can't be read, or isn't the one of log file n
abbrev pub IsNotHeaded : ℕ → File → LogRefusal → Type 0
IsNotHeaded n file e = (e ≡ Failed) ⊎ ((e ≡ Gap n) × (file_read n file ≡ Err e))

-- a call of the volume failed, or this is the gate
abbrev pub IsGateAt : ℕ → ℕ → File → Result Gate LogRefusal → Type 0
IsGateAt n at file result = (result ≡ Err Failed) ⊎ (result ≡ gate_for n (gate_in at file))

-- a call of the volume failed, or this is what stands behind a Switch
abbrev pub IsAfterSwitch : ℕ → ℕ → File → Result Batch LogRefusal → Type 0
IsAfterSwitch n next file result = (result ≡ Err Failed) ⊎ (result ≡ after_switch_by n next (gate_in next file))

-- these are so many bytes of the file, from an offset on
abbrev pub IsPiece : ℕ → ℕ → File → List ℕ → Type 0
IsPiece at count file bytes = bytes ≡ take count (drop at (bytes_of file))

-- a batch with this body stands whole behind the gate
pub record IsFull (gate : ℕ) (body : List ℕ) (file : File) : Type 0 where
  pub some : 0 < gate
  pub says : gate_in gate file ≡ Ok (Full (length body))
  pub bytes : body ≡ take (length body) (drop (gate + 9) (bytes_of file))

-- a call of the volume failed, memory was wanting, or this is what is read
abbrev pub IsRefused : LogRefusal → Part → Type 0
IsRefused e part = (e ≡ Failed) ⊎ ((e ≡ NoMemory) ⊎ (part ≡ Err e))

-- a batch with this body stands behind the gate, and these are its entries
pub record IsPlain (n gate offset : ℕ) (file : File) (body : List ℕ) : Type 0 where
  pub es : List Entry
  pub is : entries_of body ≡ Some es
  pub long : total es ≡ length body
  pub goes : rest_read n gate offset file ≡ before es (rest_read n (gate + 9 + length body) (offset + length body) file)

-- what is answered about the batch behind a gate is so
abbrev pub IsBatch : ℕ → ℕ → ℕ → File → Result Batch LogRefusal → Type 0
IsBatch n gate offset file (Ok Closed) = rest_read n gate offset file ≡ Ok ([], false)
IsBatch n gate offset file (Ok Switched) = rest_read n gate offset file ≡ Ok ([], true)
IsBatch n gate offset file (Ok (Entries body)) = IsPlain n gate offset file body.items
IsBatch n gate offset file (Err e) = IsRefused e (rest_read n gate offset file)

-- what the gate before a batch says, unless it is that of a Switch
abbrev pub GateSays : ℕ → File → Batch → Type 0
GateSays gate file Closed = gate_in gate file ≡ Ok Shut
GateSays gate file Switched = Unit {0}
GateSays gate file (Entries body) = gate_in gate file ≡ Ok (Full (length body.items))

-- the ranges of a batch
abbrev pub IsWithin : ℕ → ℕ → ℕ → Batch → Type 0
IsWithin n gate offset Closed = Unit {0}
IsWithin n gate offset Switched = n < last_log_file
IsWithin n gate offset (Entries body) = (0 < length body.items) × (gate + 9 + length body.items < longest_file) × (offset + length body.items ≤ file_most)

-- What the walk through the files of a log has found.
use Rattle.std.specs.Prelude.{◌+◌, ◌||◌, length, Some, IfOk, OnOk, ◌≡◌, ◌⊎◌, ◌<◌, ◌≤◌, ℕ, List, true, false, Result, Ok, Err}
use Rattle.tt_disk.specs.declared.volume.Name.TheVariants.{Log as LogFile}
use Rattle.tt_disk.specs.Volume.{Files, File}
use Rattle.tt_record.specs.Limits.{log_files_end}
use Rattle.tt_gate.specs.GateFile.{IsEnd as IsGateEnd}
use Rattle.tt_gate.specs.Walk.{IsGate}
use Rattle.tt_value.specs.declared.position.Position.{Position}
use Rattle.tt_record.specs.declared.entry.Entry.{Entry}
use Rattle.tt_record.specs.Read.{entries_of}
use Rattle.tt_log.specs.Lengths.{total}
use Rattle.tt_log.specs.declared.file.FileEnd.{FileEnd}
use Rattle.tt_log.specs.declared.file.FileCursor.{FileCursor}
use Rattle.tt_log.specs.declared.file.BatchStep.{BatchStep}
use Rattle.tt_log.specs.declared.file.BatchStep.TheVariants.{On, Ends}
use Rattle.tt_log.specs.declared.opening.LogEnd.{LogEnd}
use Rattle.tt_log.specs.declared.refusal.LogRefusal.{LogRefusal}
use Rattle.tt_log.specs.declared.refusal.LogRefusal.TheVariants.{Failed, NoMemory}
use Rattle.tt_log.specs.Walk.{LogContents, Part, before}
use Rattle.tt_log.specs.Limits.{file_most, last_log_file}
use Rattle.tt_log.specs.Batch.{rest_read, IsRefused}
use Rattle.tt_log.specs.Opening.{IsStart, started, starts_at, is_place}
use Rattle.tt_gate.specs.Limits.{first_gate_at, longest_file}

-- a file's entries were all read
pub record IsEnd (part : Part) (end : FileEnd) : Type 0 where
  pub es : List Entry
  pub is : part ≡ Ok (es, end.switched)
  pub long : total es ≡ end.total

pub record HasEnd (wanted : ℕ) (part : Part) (end : FileEnd) : Type 0 where
  pub end_is : IsEnd part end
  pub place : end.is_place ≡ is_place wanted end_is.es

abbrev pub IsFileEnd : ℕ → Part → Result FileEnd LogRefusal → Type 0
IsFileEnd wanted part (Ok end) = HasEnd wanted part end
IsFileEnd wanted part (Err e) = IsRefused e part

-- a file's entries were read up to a gate
pub record IsReached (wanted n : ℕ) (file : File) (at : FileCursor) : Type 0 where
  pub es : List Entry
  pub gate : IsGate file at.gate
  pub is : rest_read n first_gate_at 0 file ≡ before es (rest_read n at.gate at.offset file)
  pub long : total es ≡ at.offset
  pub starts : at.starts ≡ starts_at wanted 0 es

-- a cursor behind a batch of this body: one that follows another
pub record IsBehind (wanted : ℕ) (at : FileCursor) (body : List ℕ) (next : FileCursor) : Type 0 where
  pub gate : next.gate ≡ at.gate + 9 + length body
  pub offset : next.offset ≡ at.offset + length body
  pub starts : (es : List Entry) → entries_of body ≡ Some es → total es ≡ length body → next.starts ≡ (at.starts || starts_at wanted at.offset es)

abbrev pub HasRead : ℕ → ℕ → File → Result BatchStep LogRefusal → Type 0
HasRead wanted n file (Ok (On at)) = IsReached wanted n file at
HasRead wanted n file (Ok (Ends end)) = HasEnd wanted (rest_read n first_gate_at 0 file) end
HasRead wanted n file (Err e) = IsRefused e (rest_read n first_gate_at 0 file)

-- where no Switch ends a file's entries, the closed gate behind them lies where the end says
abbrev pub Closes : File → FileEnd → Type 0
Closes file end = end.switched ≡ false → IsGateEnd file end.gate

-- where a walk ends its file without a Switch, the closed gate lies where the end says
abbrev pub ClosesIfEnded : File → BatchStep → Type 0
ClosesIfEnded file (On at) = Unit {0}
ClosesIfEnded file (Ends end) = Closes file end

-- the ranges of what was reached
abbrev pub HasRoom : ℕ → FileCursor → Type 0
HasRoom gate at = (gate < at.gate) × (at.gate < longest_file) × (at.offset ≤ file_most)

abbrev pub IsInRange : ℕ → FileEnd → Type 0
IsInRange n end = (end.total ≤ file_most) × (end.switched ≡ true → n < last_log_file) × (end.gate < longest_file)

abbrev pub StepsWithin : ℕ → ℕ → BatchStep → Type 0
StepsWithin n gate (On at) = HasRoom gate at
StepsWithin n gate (Ends end) = IsInRange n end

-- the walk ends here, or is refused so
pub record FoundEnd (r : Result LogContents LogRefusal) (at : Position) : Type 0 where
  pub found : LogContents
  pub is : r ≡ Ok found
  pub end : found.end ≡ at

abbrev pub IsFollowed : Result LogContents LogRefusal → Result LogEnd LogRefusal → Type 0
IsFollowed r (Ok end) = FoundEnd r end.at
IsFollowed r (Err e) = (e ≡ Failed) ⊎ ((e ≡ NoMemory) ⊎ (r ≡ Err e))

-- the ranges of a log's end, in a file from n on
abbrev pub IsLogEndInRange : ℕ → LogEnd → Type 0
IsLogEndInRange n end = (n ≤ end.at.file) × (end.at.file < log_files_end) × (end.at.offset ≤ file_most) × (end.gate < longest_file)

-- the closed gate behind a log's end lies where it says
abbrev pub IsClosedIn : Files → LogEnd → Type 0
IsClosedIn files end = IsGateEnd (files (LogFile end.at.file)) end.gate

-- What a walk from a position on has found: the end of what the log is from there, or why it is refused.
pub record Finds (from : Position) (files : Files) (result : Result LogEnd LogRefusal) : Type 0 where
  pub exact : IsFollowed (started from files) result
  -- where it was answered, the position is one that the log can be opened from
  pub start : OnOk result (IsStart from files)
  pub closed : IfOk result (IsClosedIn files)

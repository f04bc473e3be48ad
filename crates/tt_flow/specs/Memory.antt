-- What streams in memory have left and were given, and their calls.
use Rattle.std.specs.Prelude.{◌≡◌, ◌⊎◌, ◌++◌, ◌/◌, ℕ, List, Some, drop, length, take}
use Rattle.std.specs.Io.KnownBytes.{Appends}
use Rattle.tt_disk.specs.Failing.{calls_failed}
use Rattle.tt_disk.specs.declared.memory.failing.FailingCalls.{FailingCalls}
use Rattle.tt_flow.specs.declared.memory.MemSource.{MemSource}
use Rattle.tt_flow.specs.declared.memory.MemSink.{MemSink}

-- the bytes after those that were taken
abbrev pub source_left : MemSource → List ℕ
source_left source = drop source.at source.bytes.items

-- the calls of the source: how many were made and failed, and which are to fail
abbrev pub source_calls : MemSource → FailingCalls
source_calls source = source.calls

-- how many calls of the source failed
abbrev pub source_faults : MemSource → ℕ
source_faults source = calls_failed (source_calls source)

-- the bytes that were appended
abbrev pub sink_given : MemSink → List ℕ
sink_given sink = sink.bytes.items

-- the calls of the sink: how many were made and failed, and which are to fail
abbrev pub sink_calls : MemSink → FailingCalls
sink_calls sink = sink.calls

-- how many calls of the sink failed
abbrev pub sink_faults : MemSink → ℕ
sink_faults sink = calls_failed (sink_calls sink)

-- just this piece was appended
abbrev pub AppendsPiece : List ℕ → MemSink → MemSink → Type 0
AppendsPiece piece old new = Appends (Some (sink_given old)) (Some (sink_given new)) piece

-- a prefix of the piece was appended
abbrev pub AppendsPrefix : List ℕ → MemSink → MemSink → Type 0
AppendsPrefix piece old new = (n : ℕ) × AppendsPiece (take n piece) old new

-- so many bytes of the piece were appended, or none
abbrev pub IsGivenUpTo : ℕ → List ℕ → MemSink → MemSink → Type 0
IsGivenUpTo count piece old new = (sink_given new ≡ sink_given old ++ take count piece) ⊎ (sink_given new ≡ sink_given old)

-- the first half of the piece was appended, or nothing
abbrev pub IsHalfGiven : List ℕ → MemSink → MemSink → Type 0
IsHalfGiven piece old new = IsGivenUpTo (length piece / 2) piece old new

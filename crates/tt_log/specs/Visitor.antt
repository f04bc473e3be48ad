-- Entries that are handed to what takes them.
use Rattle.std.specs.Prelude.{◌≡◌, ◌+◌, ℕ, List, [], ◌∷◌, ◌++◌, drop, Bool, false, Option, Some, None, Result, Ok, Err}
use Rattle.tt_disk.specs.declared.volume.Name.TheVariants.{Log}
use Rattle.tt_disk.specs.Volume.{Files, File}
use Rattle.tt_value.specs.declared.position.Position.{Position}
use Rattle.tt_record.specs.declared.entry.Entry.{Entry}
use Rattle.tt_record.specs.Read.{entries_of, entry_at}
use Rattle.tt_log.specs.Lengths.{total}
use Rattle.tt_log.specs.declared.file.FileCursor.{FileCursor}
use Rattle.tt_log.specs.declared.file.BatchStep.{BatchStep}
use Rattle.tt_log.specs.declared.file.BatchStep.TheVariants.{On, Ends}
use Rattle.tt_log.specs.declared.refusal.LogRefusal.{LogRefusal}
use Rattle.tt_log.specs.Walk.{Part, before, file_read, placed, log_of}
use Rattle.tt_log.specs.Batch.{rest_read}
use Rattle.tt_log.specs.Opening.{HasEntry}
use Rattle.tt_log.specs.Log.{entries_in}
use Rattle.tt_gate.specs.Limits.{first_gate_at}

-- what had taken some entries has taken now these behind them
abbrev pub Visits : (List (Position × Entry) → Type 0) → (List (Position × Entry) → Type 0) → List (Position × Entry) → Type 0
Visits old new es = (ps : List (Position × Entry)) → old ps → new (ps ++ es)

-- the one entry at an offset of a body, which stands at this position
pub record VisitsOne (old new : List (Position × Entry) → Type 0) (bytes : List ℕ) (at n : ℕ) (place : Position) : Type 0 where
  pub has : HasEntry bytes at n
  pub takes : Visits old new ((place, has.entry) ∷ [])

-- the entry at an offset of a body is handed over, or none is there
abbrev pub VisitsNext : {T : Type 0} → (T → List (Position × Entry) → Type 0) → T → T → List ℕ → ℕ → Position → Option ℕ → Type 0
VisitsNext visited old new bytes at place None = entry_at (drop at bytes) ≡ None
VisitsNext visited old new bytes at place (Some n) = VisitsOne (visited old) (visited new) bytes at n place

-- the entries of a body, of which the first stands at an offset of file n
abbrev pub VisitsBody : {T : Type 0} → (T → List (Position × Entry) → Type 0) → T → T → ℕ → ℕ → List ℕ → Type 0
VisitsBody visited old new n offset bytes = (es : List Entry) → entries_of bytes ≡ Some es → Visits (visited old) (visited new) (placed n offset es)

-- the entries of file n, where they can be read
abbrev pub VisitsPart : ℕ → (List (Position × Entry) → Type 0) → (List (Position × Entry) → Type 0) → Part → Type 0
VisitsPart n old new part = (es : List Entry) (switched : Bool) → part ≡ Ok (es, switched) → Visits old new (placed n 0 es)

-- the entries of file n between two gates
pub record VisitsUpTo (n : ℕ) (old new : List (Position × Entry) → Type 0) (at next : FileCursor) (file : File) : Type 0 where
  pub es : List Entry
  pub goes : rest_read n at.gate at.offset file ≡ before es (rest_read n next.gate next.offset file)
  pub long : next.offset ≡ at.offset + total es
  pub takes : Visits old new (placed n at.offset es)

-- those of the batch behind a gate of file n, or none, where the file's entries end there
abbrev pub VisitsBatch : {T : Type 0} → ℕ → (T → List (Position × Entry) → Type 0) → T → T → FileCursor → Result BatchStep LogRefusal → File → Type 0
VisitsBatch n visited old new at (Ok (On next)) file = VisitsUpTo n (visited old) (visited new) at next file
VisitsBatch n visited old new at (Ok (Ends end)) file = (rest_read n at.gate at.offset file ≡ Ok ([], end.switched)) × Visits (visited old) (visited new) []
VisitsBatch n visited old new at (Err e) file = Unit {0}

-- the first gate of a file
abbrev pub at_first : FileCursor
at_first = record { gate = first_gate_at; offset = 0; starts = false }

-- what had taken the entries of the first file has taken now those of all files
abbrev pub VisitsLog : ℕ → (List (Position × Entry) → Type 0) → (List (Position × Entry) → Type 0) → Files → Type 0
VisitsLog n old new files =
    (es : List Entry) (switched : Bool) → file_read n (files (Log n)) ≡ Ok (es, switched) → (ps : List (Position × Entry)) → old (ps ++ placed n 0 es) → new (ps ++ entries_in (log_of n files))

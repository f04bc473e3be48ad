-- The entries that a scan still has to give.
use Rattle.std.specs.Prelude.{◌≡◌, ◌<◌, ◌≤◌, ◌+◌, ◌-◌, ◌*◌, ℕ, List, [], ◌∷◌, length, drop, filter, nat_le, true, false, if◌then◌else◌, Option, Some, None, Result, Ok, Err, IsOk, IfOk, IfErr}
use Rattle.tt_disk.specs.Calls.{KeepsFiles}
use Rattle.tt_disk.specs.Volume.{Files}
use Rattle.tt_record.specs.Limits.{log_files_end}
use Rattle.tt_disk.specs.declared.volume.Volume.{Ghosts}
use Rattle.tt_disk.specs.declared.volume.Name.TheVariants.{Log as LogFile}
use Rattle.tt_value.specs.declared.position.Position.{Position}
use Rattle.tt_record.specs.declared.entry.Entry.{Entry}
use Rattle.tt_record.specs.Read.{entries_of}
use Rattle.tt_record.specs.Place.{position}
use Rattle.tt_log.specs.Lengths.{total}
use Rattle.tt_log.specs.declared.log.Log.{Log}
use Rattle.tt_log.specs.declared.scan.Scan.{Scan}
use Rattle.tt_log.specs.declared.scan.Loaded.{Loaded}
use Rattle.tt_log.specs.declared.scan.Loaded.TheVariants.{Body, Switched, Nothing}
use Rattle.tt_log.specs.declared.refusal.LogRefusal.{LogRefusal}
use Rattle.tt_log.specs.declared.refusal.LogRefusal.TheVariants.{NoMemory}
use Rattle.tt_log.specs.Walk.{LogContents, Part, file_read, placed, in_front, log_of, is_from}
use Rattle.tt_log.specs.Batch.{rest_read, IsHeaded}
use Rattle.tt_log.specs.Log.{current_file_of, entries_in, first_file_of, forced_of, or_none, walk_end}
use Rattle.tt_gate.specs.Limits.{first_gate_at, longest_file}

-- the entries of a body that was read
abbrev pub waiting : Scan → List Entry
waiting scan = or_none (entries_of (drop scan.at scan.body.items))

-- how many bytes of entries stand before the gate
abbrev pub gate_offset : Scan → ℕ
gate_offset scan = scan.offset + (length scan.body.items - scan.at)

-- what the file says behind that body
abbrev pub part_left : Scan → Files → Part
part_left scan files = if scan.begun then rest_read scan.file scan.gate (gate_offset scan) (files (LogFile scan.file)) else file_read scan.file (files (LogFile scan.file))

-- the rest of a file's entries, behind so many bytes of others, and those of the files behind it
abbrev pub joined_from : ℕ → ℕ → Part → Result LogContents LogRefusal → Result LogContents LogRefusal
joined_from n offset (Ok part) more = if part.1 then in_front (placed n offset part.0) more else Ok (record { entries = placed n offset part.0; end = position n (offset + total part.0) })
joined_from n offset (Err e) more = Err e

-- all entries that stand ahead
unfoldable pub ahead : Scan → Files → Result LogContents LogRefusal
ahead scan files = in_front (placed scan.file scan.offset (waiting scan)) (joined_from scan.file (gate_offset scan) (part_left scan files) (log_of (scan.file + 1) files))

-- The scan's file stands as its last call found it, and the log can be read from there on.
pub record IsGoing (scan : Scan) (files : Files) : Type 0 where
  pub headed : scan.begun ≡ true → IsHeaded scan.file (files (LogFile scan.file))
  pub unread : scan.begun ≡ false → (scan.gate ≡ first_gate_at) × (gate_offset scan ≡ 0)
  pub body : entries_of (drop scan.at scan.body.items) ≡ Some (waiting scan)
  pub long : total (waiting scan) ≡ length scan.body.items - scan.at
  pub whole : IsOk (ahead scan files)

-- where it gives the first entry
abbrev pub first_position_of : Scan → Position
first_position_of scan = scan.from

-- the scan stands in the same file behind the same gate, with the same body
pub record StaysInBatch (old new : Scan) : Type 0 where
  pub file : new.file ≡ old.file
  pub gate : new.gate ≡ old.gate
  pub body : new.body ≡ old.body

-- a step of a scan, which goes on with the same entries ahead, and changes no file
pub record StepsOn {V : Type 0} (g : Ghosts V) (old new : Scan) (before after : V) : Type 0 where
  pub going : g.told → IsGoing new (g.now after)
  pub same : g.told → ahead new (g.now after) ≡ ahead old (g.now before)
  pub from : new.from ≡ old.from
  pub file : new.file < log_files_end
  pub keeps : KeepsFiles g before after

-- no entry stands ahead
abbrev pub EndsOn : {V : Type 0} → Ghosts V → Scan → V → Type 0
EndsOn g scan volume = g.told → entries_in (ahead scan (g.now volume)) ≡ []

-- the body that was read has another entry
abbrev pub HasMore : Scan → Type 0
HasMore scan = scan.at < length scan.body.items

-- all entries of the body that was read are given
abbrev pub IsUsedUp : Scan → Type 0
IsUsedUp scan = scan.at ≡ length scan.body.items

-- A scan that isn't past the log's current file goes on, and that file is the last one ahead.
abbrev pub IsScanning : Scan → Log → Files → Type 0
IsScanning scan log files = scan.file ≤ log.current_file → IsGoing scan files × ((walk_end (ahead scan files)).file ≡ log.current_file)

-- those ahead that don't stand before the scan's first position
abbrev pub from_here : Scan → Files → List (Position × Entry)
from_here scan files = filter (is_from scan.from) (entries_in (ahead scan files))

-- the entries that a scan of this log still has to give
abbrev pub left : Scan → Log → Files → List (Position × Entry)
left scan log files = if nat_le scan.file log.current_file then from_here scan files else []

-- what was given, and what is left
abbrev pub given : Option (Position × Entry) → List (Position × Entry) → List (Position × Entry)
given None rest = []
given (Some p) rest = p ∷ rest

-- what a step over one entry gives, in front of the rest
abbrev pub with_given : Option (Position × Entry) → List (Position × Entry) → List (Position × Entry)
with_given None rest = rest
with_given (Some p) rest = p ∷ rest

-- a bound on how much can still be read
abbrev pub most_left : Scan → ℕ
most_left scan = (log_files_end - scan.file) * longest_file + (longest_file - scan.gate) + (length scan.body.items - scan.at)

-- What was read of a volume behind a gate.
pub record LoadsOn {V : Type 0} (g : Ghosts V) (old new : Scan) (volume : V) (loaded : Loaded) : Type 0 where
  pub body : loaded ≡ Body → HasMore new
  pub switched : loaded ≡ Switched → IsUsedUp new × (old.file < new.file)
  pub nothing : loaded ≡ Nothing → EndsOn g old volume
  pub fewer : ¬ (loaded ≡ Nothing) → most_left new < most_left old

-- An entry was taken from those ahead, or memory was wanting.
pub record TakesAhead (old new : Scan) (files : Files) (result : Result (Position × Entry) LogRefusal) : Type 0 where
  pub going : IsGoing new files
  pub gives : IfOk result (λ p. ahead old files ≡ in_front (p ∷ []) (ahead new files))
  pub refused : IfErr result (λ e. e ≡ NoMemory)

-- An entry was taken, which counts unless it stands before the scan's first position, or memory was wanting.
pub record TakesHere (old new : Scan) (files : Files) (result : Result (Option (Position × Entry)) LogRefusal) : Type 0 where
  pub going : IsGoing new files
  pub end : (walk_end (ahead new files)).file ≡ (walk_end (ahead old files)).file
  pub gives : IfOk result (λ o. from_here old files ≡ with_given o (from_here new files))
  pub refused : IfErr result (λ e. e ≡ NoMemory)

-- What was answered was the first of what was to give; after a refusal all of it is still to give.
pub record Gives (before after : List (Position × Entry)) (result : Result (Option (Position × Entry)) LogRefusal) : Type 0 where
  pub next : IfOk result (λ o. before ≡ given o after)
  pub still : IfErr result (λ e. after ≡ before)

-- the next of the entries that a scan of the log still had to give
abbrev pub GivesOn : {V : Type 0} → Ghosts V → Log → Scan → V → Scan → V → Result (Option (Position × Entry)) LogRefusal → Type 0
GivesOn g log old before new after result = g.told → Gives (left old log (g.now before)) (left new log (g.now after)) result

-- the next of the entries ahead that don't stand before the scan's first position
abbrev pub GivesHereOn : {V : Type 0} → Ghosts V → Scan → V → Scan → V → Result (Option (Position × Entry)) LogRefusal → Type 0
GivesHereOn g old before new after result = g.told → Gives (from_here old (g.now before)) (from_here new (g.now after)) result

-- The scan goes on, and the last file ahead is the one that was.
pub record GoesOnOn {V : Type 0} (g : Ghosts V) (old : Scan) (before : V) (new : Scan) (after : V) : Type 0 where
  pub going : g.told → IsGoing new (g.now after)
  pub end : g.told → (walk_end (ahead new (g.now after))).file ≡ (walk_end (ahead old (g.now before))).file

-- A scan of a log from a position on whose file isn't before the log's first one: below that one files may be gone.
pub record Scans (log : Log) (from : Position) (now : Files) (scan : Scan) : Type 0 where
  pub scanning : first_file_of log ≤ from.file → IsScanning scan log now
  pub entries : first_file_of log ≤ from.file → from.file ≤ current_file_of log → left scan log now ≡ filter (is_from from) (forced_of log now)

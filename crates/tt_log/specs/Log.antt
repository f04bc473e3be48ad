-- What a crash leaves of a log, and what a Log stands for.
use Rattle.std.specs.Prelude.{◌≡◌, ◌++◌, ◌⊎◌, ◌<◌, ◌≤◌, ◌+◌, ◌&&◌, false, ℕ, List, [], take, length, nat_eq, nat_le, nat_lt, not, is_some, ◌||◌, Bool, true, if◌then◌else◌, Option, Some, None, Result, Ok, Err, IsOk, IfOk, OnOk, OnErr, max}
use Rattle.tt_disk.specs.declared.volume.Name.{Name}
use Rattle.tt_disk.specs.Volume.{Files, Outcomes, File}
use Rattle.tt_disk.specs.declared.volume.Name.TheVariants.{Ds, Log as LogFile, SetImage, SetLog}
use Rattle.tt_gate.specs.GateFile.{IsReady}
use Rattle.tt_record.specs.declared.entry.Entry.{Entry}
use Rattle.tt_value.specs.declared.position.Position.{Position}
use Rattle.tt_record.specs.Read.{entries_of}
use Rattle.tt_record.specs.Entry.{entry_bytes, length_of, IsEntry, IsBody}
use Rattle.tt_log.specs.Lengths.{total}
use Rattle.tt_log.specs.declared.log.Log.{Log}
use Rattle.tt_log.specs.declared.refusal.LogRefusal.{LogRefusal}
use Rattle.tt_log.specs.Walk.{LogContents, log_of, with_more, switched, no_switch}
use Rattle.tt_record.specs.Place.{end_of, position_of, position}

-- what a Log shows: the number of the file that it begins with
abbrev pub first_file_of : Log → ℕ
first_file_of log = log.first_file

-- the number of the file that it adds to
abbrev pub current_file_of : Log → ℕ
current_file_of log = log.current_file

-- where the last forced entry ends
abbrev pub force_position_of : Log → Position
force_position_of log = log.force

-- how many bytes the entries of a file may have
abbrev pub file_size_of : Log → ℕ
file_size_of log = log.file_size

-- how many bytes of entries the buffer has room for
abbrev pub buffer_size_of : Log → ℕ
buffer_size_of log = length log.buffer.items

-- These log files may be what a crash leaves. Of files of other names nothing is asked, so that it says the same of the log files alone
-- and of all files of a database.
abbrev pub MayLeaveLogs : Outcomes → Files → Type 0
MayLeaveLogs may files = (n : ℕ) → may (LogFile n) (files (LogFile n))

-- in every map of files that a crash may leave, the walk from this file finds just this
abbrev pub CrashLeavesLog : ℕ → Result LogContents LogRefusal → Outcomes → Type 0
CrashLeavesLog first found may = (files : Files) → MayLeaveLogs may files → log_of first files ≡ found

abbrev pub walk_end : Result LogContents LogRefusal → Position
walk_end (Ok found) = found.end
walk_end (Err e) = position 0 0

abbrev pub or_none : Option (List Entry) → List Entry
or_none (Some es) = es
or_none None = []

-- the entries that aren't forced yet
abbrev pub unforced : Log → List Entry
unforced log = or_none (entries_of (take log.buffered log.buffer.items))

-- whether some aren't
abbrev pub has_unforced : Log → Bool
has_unforced log = nat_lt 0 log.buffered

-- how many bytes they have
abbrev pub waiting_bytes : Log → ℕ
waiting_bytes log = log.buffered

abbrev pub write_position_of : Log → Position
write_position_of log = position log.current_file (log.forced_bytes + log.buffered)

-- the log begins with the same file and has the same sizes
abbrev pub KeepsSizes : Log → Log → Type 0
KeepsSizes old new =
    (first_file_of new ≡ first_file_of old) × (file_size_of new ≡ file_size_of old) × (buffer_size_of new ≡ buffer_size_of old)

-- the value says the same of its entries, positions, files and sizes
pub record StandsStill (old new : Log) : Type 0 where
  pub sizes : KeepsSizes old new
  pub current : current_file_of new ≡ current_file_of old
  pub write : write_position_of new ≡ write_position_of old
  pub force : force_position_of new ≡ force_position_of old
  pub waiting : unforced new ≡ unforced old
  pub count : waiting_bytes new ≡ waiting_bytes old

-- the value says that all its entries are forced, and the same of its other positions, files and sizes
pub record IsForced (old new : Log) : Type 0 where
  pub sizes : KeepsSizes old new
  pub current : current_file_of new ≡ current_file_of old
  pub write : write_position_of new ≡ write_position_of old
  pub force : force_position_of new ≡ write_position_of old
  pub waiting : unforced new ≡ []
  pub count : waiting_bytes new ≡ 0

-- an entry begins a new file
abbrev pub begins_file : Log → Entry → Bool
begins_file log e = not (nat_le (log.forced_bytes + log.buffered + length_of e) log.file_size)

-- an entry forces those before it: it begins a file, or finds no room in the buffer
abbrev pub forces_earlier : Log → Entry → Bool
forces_earlier log e = begins_file log e || nat_lt (length log.buffer.items) (log.buffered + length_of e)

-- where an entry gets its position, if there is any
abbrev pub place_for : Log → Entry → Option Position
place_for log e = position_of (write_position_of log) (length_of e) (file_size_of log)

-- the force position once an entry is added
abbrev pub force_position_with : Log → Entry → Position
force_position_with log e = if forces_earlier log e then write_position_of log else force_position_of log

-- the entries that still aren't forced, where room is made for an entry
abbrev pub unforced_with : Log → Entry → List Entry
unforced_with log e = if forces_earlier log e then [] else unforced log

-- the buffer and the file have room for an entry
abbrev pub HasRoomFor : Entry → Log → Type 0
HasRoomFor e log =
    (log.buffered + length_of e ≤ length log.buffer.items) × (log.forced_bytes + log.buffered + length_of e ≤ log.file_size)

-- A log that was just opened: where it begins, its sizes in bytes, and that all its entries are forced.
pub record IsFresh (file file_size buffer_size : ℕ) (log : Log) : Type 0 where
  pub first : first_file_of log ≡ file
  pub sizes : (file_size_of log ≡ file_size) × (buffer_size_of log ≡ buffer_size)
  pub force : force_position_of log ≡ write_position_of log
  pub count : waiting_bytes log ≡ 0

-- What an append makes of a log's positions and sizes, and of the entries that wait.
pub record Appends {E : Type 0} (entry : Entry) (old new : Log) (result : Result Position E) : Type 0 where
  -- the position that is answered is where the entry is placed
  pub place : IfOk result (λ at. place_for old entry ≡ Some at)
  -- the log ends behind the entry
  pub write : IfOk result (λ at. write_position_of new ≡ end_of at (length_of entry))
  -- all before the entry is forced, where it begins a file or finds no room in the buffer
  pub force : OnOk result (force_position_of new ≡ force_position_with old entry)
  -- answered or failed, the log begins with the same file and has the same sizes
  pub sizes : KeepsSizes old new
  -- where it failed, what waited to be forced still waits, or all is forced
  pub failed : OnErr result (StandsStill old new ⊎ IsForced old new)

-- What a force makes of a log's positions and sizes, and of the entries that wait.
pub record Forces {T E : Type 0} (old new : Log) (result : Result T E) : Type 0 where
  -- where it was answered, all entries are forced
  pub forced : OnOk result (IsForced old new)
  -- where it failed, what wasn't forced still isn't
  pub unchanged : OnErr result (StandsStill old new)

-- What making room for an entry makes of a log as a value.
pub record MakesRoom {T E : Type 0} (entry : Entry) (old new : Log) (result : Result T E) : Type 0 where
  pub room : OnOk result (HasRoomFor entry new)
  -- the entry is placed where the log ends
  pub write : OnOk result (place_for old entry ≡ Some (write_position_of new))
  pub force : OnOk result (force_position_of new ≡ force_position_with old entry)
  pub sizes : KeepsSizes old new
  pub failed : OnErr result (StandsStill old new ⊎ IsForced old new)

-- What going on in the next file makes of a log as a value.
pub record SwitchesFile {T E : Type 0} (old new : Log) (result : Result T E) : Type 0 where
  pub number : OnOk result (current_file_of new ≡ current_file_of old + 1)
  pub start : OnOk result (new.forced_bytes ≡ 0)
  pub force : OnOk result (force_position_of new ≡ write_position_of old)
  pub count : OnOk result (waiting_bytes new ≡ 0)
  pub sizes : KeepsSizes old new
  pub failed : OnErr result (StandsStill old new ⊎ IsForced old new)

-- The log begins with this file, where it began before it, and says else the same.
pub record BeginsFrom (file : ℕ) (old new : Log) : Type 0 where
  pub first : first_file_of new ≡ max (first_file_of old) file
  pub current : current_file_of new ≡ current_file_of old
  pub write : write_position_of new ≡ write_position_of old
  pub force : force_position_of new ≡ force_position_of old
  pub waiting : unforced new ≡ unforced old
  pub file_size : file_size_of new ≡ file_size_of old
  pub buffer_size : buffer_size_of new ≡ buffer_size_of old

-- an entry is put into the buffer
pub record Puts (e : Entry) (old new : Log) : Type 0 where
  pub entry : IsEntry e
  pub used : new.buffered ≡ old.buffered + length_of e
  pub bytes : take new.buffered new.buffer.items ≡ take old.buffered old.buffer.items ++ entry_bytes e
  pub first : new.first_file ≡ old.first_file
  pub number : new.current_file ≡ old.current_file
  pub file : new.file ≡ old.file
  pub base : new.forced_bytes ≡ old.forced_bytes
  pub force : new.force ≡ old.force
  pub file_size : new.file_size ≡ old.file_size
  pub room : length new.buffer.items ≡ length old.buffer.items

-- what is found, once there is room for an entry
abbrev pub room_made : Log → Entry → Result LogContents LogRefusal → Result LogContents LogRefusal
room_made log e r =
    if begins_file log e then switched (with_more (unforced log) r)
    else (if nat_lt (length log.buffer.items) (log.buffered + length_of e) then with_more (unforced log) r else r)

-- The log's files stand as its last call left them: what is found from its first file on ends in the current one.
pub record IsOpen (log : Log) (now : Files) (may : Outcomes) : Type 0 where
  pub gate : IsReady log.file now may
  pub fresh : log.file.staged ≡ 0
  pub body : IsBody (take log.buffered log.buffer.items) (unforced log)
  pub plain : no_switch (unforced log) ≡ true
  pub long : total (unforced log) ≡ log.buffered
  pub whole : IsOk (log_of log.first_file now)
  pub end : walk_end (log_of log.first_file now) ≡ position log.current_file log.forced_bytes

-- the log's files read without damage, up to the end of the current one
abbrev pub IsWhole : Log → Files → Type 0
IsWhole log now = IsOk (log_of log.first_file now) × (walk_end (log_of log.first_file now) ≡ position log.current_file log.forced_bytes)

-- all but two files are as they were
pub record OnlyTwo (one two : Name) (old new : Files) (may_old may_new : Outcomes) : Type 0 where
  pub reads : (n : Name) → ¬ (n ≡ one) → ¬ (n ≡ two) → new n ≡ old n
  pub crash : (n : Name) → ¬ (n ≡ one) → ¬ (n ≡ two) → (c : File) → may_new n c → may_old n c

-- the entries that are found, with their positions
abbrev pub entries_in : Result LogContents LogRefusal → List (Position × Entry)
entries_in (Ok found) = found.entries
entries_in (Err e) = []

-- the entries that are forced, from the log's first file on
abbrev pub forced_of : Log → Files → List (Position × Entry)
forced_of log now = entries_in (log_of log.first_file now)

-- all entries, from the log's first file on
abbrev pub trail_of : Log → Files → List (Position × Entry)
trail_of log now = entries_in (with_more (unforced log) (log_of log.first_file now))

-- in every map of files that a crash may leave, the walk from the log's first file gives just what is forced
abbrev pub CrashLeavesForced : Log → Files → Outcomes → Type 0
CrashLeavesForced log now may = CrashLeavesLog log.first_file (log_of log.first_file now) may

-- the walk gave these entries, without damage, to this end or to the start of the next file
pub record Gave (r : Result LogContents LogRefusal) (es : List (Position × Entry)) (at : Position) : Type 0 where
  pub whole : IsOk r
  pub entries : entries_in r ≡ es
  pub end : (walk_end r ≡ at) ⊎ (walk_end r ≡ position (at.file + 1) 0)

-- in every map of files that a crash may leave, the walk from the log's first file gives what is forced, or all entries
abbrev pub CrashLeavesForcedOrAll : Log → Files → Outcomes → Type 0
CrashLeavesForcedOrAll log now may = (files : Files) → MayLeaveLogs may files → (log_of log.first_file files ≡ log_of log.first_file now) ⊎ Gave (log_of log.first_file files) (trail_of log now) (write_position_of log)

-- a file is as it was, and a crash leaves of it only what it could leave before
pub record IsUntouched (name : Name) (old new : Files) (may_old may_new : Outcomes) : Type 0 where
  pub reads : new name ≡ old name
  pub crash : (c : File) → may_new name c → may_old name c

-- in every map of files that a crash may leave, the walk gives all entries
abbrev pub CrashLeavesAll : Log → Files → Outcomes → Type 0
CrashLeavesAll log now may = (files : Files) → MayLeaveLogs may files → Gave (log_of log.first_file files) (trail_of log now) (write_position_of log)

-- the file behind the current one is untouched; or all entries are forced, where a crash before could leave just the forced ones
abbrev pub ForcedBeforeNextFile : Log → Files → Files → Outcomes → Outcomes → Type 0
ForcedBeforeNextFile log old new may_old may_new = IsUntouched (LogFile (log.current_file + 1)) old new may_old may_new ⊎ (CrashLeavesForced log old may_old → CrashLeavesAll log old may_new)

-- the log files that are there: those that were, and one with this number
abbrev pub AddsFile : ℕ → Files → Files → Type 0
AddsFile n old new = (k : ℕ) → is_some (new (LogFile k)) ≡ (if nat_eq k n then true else is_some (old (LogFile k)))

-- the same log files are there
abbrev pub AddsNone : Files → Files → Type 0
AddsNone old new = (k : ℕ) → is_some (new (LogFile k)) ≡ is_some (old (LogFile k))

-- the name of a log file with a number in this range
abbrev pub is_between : ℕ → ℕ → Name → Bool
is_between from end (LogFile k) = nat_le from k && nat_lt k end
is_between from end (Ds k) = false
is_between from end (SetImage k) = false
is_between from end (SetLog k) = false

-- all files but those of a range are as they were
pub record OnlyBetween (from end : ℕ) (old new : Files) (may_old may_new : Outcomes) : Type 0 where
  pub reads : (n : Name) → is_between from end n ≡ false → new n ≡ old n
  pub crash : (n : Name) → is_between from end n ≡ false → (c : File) → may_new n c → may_old n c

-- Of the log files of a range those below some number are gone, and those above it are as they were.
pub record GoneInOrder (from end : ℕ) (old new : Files) : Type 0 where
  pub at : ℕ
  pub gone : (k : ℕ) → from ≤ k → k < at → k < end → new (LogFile k) ≡ None
  pub above : (k : ℕ) → at < k → k < end → new (LogFile k) ≡ old (LogFile k)

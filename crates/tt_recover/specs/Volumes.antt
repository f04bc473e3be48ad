-- What opening finds in the log files and the checkpoint files, or what it answers in its place: of the damages the first that
-- holds, in this order.
use Rattle.std.specs.Prelude.{◌+◌, ◌-◌, ◌*◌, ◌/◌, ◌%◌, ◌==◌, ◌&&◌, ◌||◌, ℕ, zero, suc, Bool, false, nat_eq, nat_le, nat_lt, is_none, List, [], ◌∷◌, ◌++◌, length, take, drop, Option, Some, None, Result, Ok, Err, if◌then◌else◌}
use Rattle.std.specs.Option.{option_or}
use Rattle.tt_disk.specs.declared.volume.Name.TheVariants.{Ds, Log}
use Rattle.tt_disk.specs.Volume.{Files}
use Rattle.tt_gate.specs.Gate.{whole_bodies}
use Rattle.tt_value.specs.declared.position.Position.{Position}
use Rattle.tt_value.specs.declared.value.Cell.{Cell}
use Rattle.tt_value.specs.declared.value.Cell.TheVariants.{Empty}
use Rattle.tt_value.specs.declared.reply.Stop.TheVariants.{Logs}
use Rattle.tt_record.specs.declared.entry.Entry.{Entry}
use Rattle.tt_record.specs.Entry.{length_of}
use Rattle.tt_record.specs.Read.{entries_of}
use Rattle.tt_log.specs.Lengths.{total}
use Rattle.tt_log.specs.declared.refusal.LogRefusal.{LogRefusal}
use Rattle.tt_log.specs.declared.refusal.LogRefusal.TheVariants.{Gap, BadBatch as BatchRefused, Failed, NoMemory as NoRoom}
use Rattle.tt_log.specs.Opening.{started}
use Rattle.tt_log.specs.Walk.{Part, LogContents as Read, file_read, no_switch, placed}
use Rattle.tt_log.specs.Limits.{file_most}
use Rattle.tt_cells.specs.Limits.{cell_size}
use Rattle.tt_cells.specs.ReadingCells.{cell_in, or_empty}
use Rattle.tt_image.specs.declared.head.ImageHead.{ImageHead}
use Rattle.tt_image.specs.declared.head.HeadRead.{HeadRead}
use Rattle.tt_image.specs.declared.head.HeadRead.TheVariants.{Absent, Closed, Bad, Whole}
use Rattle.tt_image.specs.Head.{head_read}
use Rattle.tt_image.specs.Pages.{page_of}
use Rattle.tt_model.specs.Committed.{Cells}
use Rattle.tt_model.specs.Live.{after_number, pages_named}
use Rattle.tt_model.specs.Opened.{Head, Opened, newest_of}
use Rattle.tt_model.specs.Damage.{first_bad}
use Rattle.tt_model.specs.Opening.{found_behind, held_by}
use Rattle.tt_model.specs.declared.damage.Damage.{Damage}
use Rattle.tt_model.specs.declared.damage.Damage.TheVariants.{NoImage, BadHeader, LogGap, BadBatch, BadCell}
use Rattle.tt_recover.specs.declared.refusal.OpenRefusal.{OpenRefusal}
use Rattle.tt_recover.specs.declared.refusal.OpenRefusal.TheVariants.{NoDatabase, Damaged, Fault, NoMemory}
use Rattle.tt_recover.specs.Opening.{newest_first}

-- what comes next, where something was found
abbrev pub and_then : {A B : Type 0} → Result A OpenRefusal → (A → Result B OpenRefusal) → Result B OpenRefusal
and_then (Ok a) next = next a
and_then (Err e) next = Err e

-- nothing, or this damage
abbrev pub unless : {A : Type 0} → Option Damage → A → Result A OpenRefusal
unless None a = Ok a
unless (Some damage) a = Err (Damaged damage)

-- ---- the headers

abbrev pub head_of : ImageHead → Head
head_of h = record { number = h.number; scan = h.scan; pages = h.pages; next = h.next_transaction; database = h.database }

abbrev pub one_head : ℕ → ImageHead → ℕ → Option Head
one_head file h n = if nat_eq n file then Some (head_of h) else None

abbrev pub two_heads : ImageHead → ImageHead → ℕ → Option Head
two_heads h k n = if nat_eq n 0 then Some (head_of h) else one_head 1 k n

abbrev pub Heads : Type 0
Heads = Result (ℕ → Option Head) OpenRefusal

-- file 1 beside a file 0 that isn't whole, and what is answered where none is there
abbrev pub beside_none : OpenRefusal → HeadRead → Heads
beside_none none Absent = Err none
beside_none none Closed = Err (Damaged NoImage)
beside_none none Bad = Err (Damaged (BadHeader 1))
beside_none none (Whole k) = Ok (one_head 1 k)

-- file 1 beside a file 0 with this header
abbrev pub beside_whole : ImageHead → HeadRead → Heads
beside_whole h Absent = Ok (one_head 0 h)
beside_whole h Closed = Ok (one_head 0 h)
beside_whole h Bad = Err (Damaged (BadHeader 1))
beside_whole h (Whole k) = if h.number == k.number then Err (Damaged (BadHeader 1)) else Ok (two_heads h k)

abbrev pub heads_in : HeadRead → HeadRead → Heads
heads_in Absent second = beside_none NoDatabase second
heads_in Closed second = beside_none (Damaged NoImage) second
heads_in Bad second = Err (Damaged (BadHeader 0))
heads_in (Whole h) second = beside_whole h second

-- ---- the walk from the newest image's scan position on

abbrev pub refused : LogRefusal → OpenRefusal
refused (Gap file) = Damaged (LogGap file)
refused (BatchRefused file at) = Damaged (BadBatch file at)
refused Failed = Fault Logs
refused NoRoom = NoMemory

abbrev pub or_refused : {A : Type 0} → Result A LogRefusal → Result A OpenRefusal
or_refused (Ok a) = Ok a
or_refused (Err e) = Err (refused e)

-- ---- the cells of an image

-- the cell that the image has at a place; none where its bytes are no cell
abbrev pub cell_read : Option (List ℕ) → ℕ → Option Cell
cell_read file place = cell_in (take cell_size (drop (cell_size * (place % 32)) (page_of (place / 32) file)))

abbrev pub image_of : ℕ → Option (List ℕ) → Cells
image_of pages file place = if nat_lt place (32 * pages) then or_empty (cell_read file place) else Empty

-- the least number below a bound for which a test holds
abbrev pub least : (ℕ → Bool) → ℕ → Option ℕ
least test zero = None
least test (suc n) = option_or (least test n) (if test n then Some n else None)

abbrev pub bad_cell : ℕ → Option Damage
bad_cell place = Some (BadCell (place / 32) (place % 32))

abbrev pub first_bad_cell : ℕ → Option (List ℕ) → Option Damage
first_bad_cell pages file = elim (least (λ place. is_none (cell_read file place)) (32 * pages)) [ None ↦ None | Some place ↦ bad_cell place ]

-- ---- the walk from the file of the least hold on, up to the file of the scan position

-- one of these entries, of which the first stands at an offset, passes a test
abbrev pub any_passes : (ℕ → Entry → Bool) → ℕ → List Entry → Bool
any_passes test offset [] = false
any_passes test offset (e ∷ es) = test offset e || any_passes test (offset + length_of e) es

-- the gate of the first batch with an entry that passes a test, where no batch before it is damaged
abbrev pub gate_where : (ℕ → Entry → Bool) → ℕ → ℕ → List (List ℕ) → Option ℕ
gate_where test at offset [] = None
gate_where test at offset (body ∷ bodies) =
    elim (entries_of body) [
      | None ↦ None
      | Some es ↦ if no_switch es && nat_le (offset + total es) file_most
          then (if any_passes test offset es then Some at else gate_where test (at + 9 + length body) (offset + total es) bodies) else None
    ]

-- an entry's number isn't below the image's next one
abbrev pub is_ahead : ℕ → Entry → Bool
is_ahead next e = nat_lt next (after_number e)

abbrev pub unless_gate : ℕ → Option ℕ → Part → Part
unless_gate n None part = part
unless_gate n (Some at) part = Err (BatchRefused n at)

-- what an older log file says, in which no number may be ahead, or its first damage
abbrev pub older_read : ℕ → ℕ → Option (List ℕ) → Part → Part
older_read next n file (Err (Gap k)) = Err (Gap k)
older_read next n file part = unless_gate n (gate_where (λ offset. is_ahead next) 16 0 (whole_bodies file)) part

abbrev pub Placed : Type 0
Placed = List (Position × Entry)

abbrev pub in_front : Placed → Result Placed LogRefusal → Result Placed LogRefusal
in_front ps (Ok qs) = Ok (ps ++ qs)
in_front ps (Err e) = Err e

abbrev pub on_older : ℕ → Part → Result Placed LogRefusal → Result Placed LogRefusal
on_older n (Ok part) more = if part.1 then in_front (placed n 0 part.0) more else Err (Gap (n + 1))
on_older n (Err e) more = Err e

-- the entries of so many files, each of which goes on in the next one
abbrev pub older : ℕ → ℕ → ℕ → Files → Result Placed LogRefusal
older next n zero logs = Ok []
older next n (suc count) logs = on_older n (older_read next n (logs (Log n)) (file_read n (logs (Log n)))) (older next (n + 1) count logs)

-- the first batch of the scan position's own file with a number ahead before that position
abbrev pub ahead_before : Head → Files → Option Damage
ahead_before head logs =
    elim (gate_where (λ offset e. nat_lt offset head.scan.offset && is_ahead head.next e) 16 0 (whole_bodies (logs (Log head.scan.file)))) [
      | None ↦ None
      | Some at ↦ Some (BadBatch head.scan.file at)
    ]

abbrev pub with_older : Head → Files → Read → Opened → Result Opened OpenRefusal
with_older head logs read f =
    let hold = held_by head f in
    and_then (or_refused (older head.next hold.file (head.scan.file - hold.file) logs)) (λ ps. unless (ahead_before head logs) (record f { entries = newest_first (ps ++ read.entries) }))

-- ---- all of it

abbrev pub behind_image : Files → (ℕ → Option Head) → Head → Option (List ℕ) → Result Opened OpenRefusal
behind_image logs heads head file =
    and_then (or_refused (started head.scan logs)) (λ read.
    and_then (unless (first_bad_cell head.pages file) (found_behind heads head (image_of head.pages file) (newest_first read.entries, read.end))) (λ f.
    and_then (unless (first_bad (32 * pages_named head.pages f.entries) f.cells) f) (λ f'. with_older head logs read f')))

abbrev pub from_newest : Files → Files → (ℕ → Option Head) → Option Head → Result Opened OpenRefusal
from_newest logs images heads None = Err (Damaged NoImage)
from_newest logs images heads (Some head) = behind_image logs heads head (images (Ds (newest_of heads)))

-- What opening finds.
unfoldable pub opening_of : Files → Files → Result Opened OpenRefusal
opening_of logs images = and_then (heads_in (head_read (images (Ds 0))) (head_read (images (Ds 1)))) (λ heads. from_newest logs images heads (heads (newest_of heads)))

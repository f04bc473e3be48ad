-- Checkpoints: begin, the copies of a round, completion.
use Rattle.std.specs.Prelude.{ℕ, ◌+◌, ◌-◌, Bool, not, ◌&&◌, nat_eq, nat_le, List, filter, length, take, drop, Option, Some, None, if◌then◌else◌, ◌==◌}
use Rattle.std.specs.List.{list_any}
use Rattle.tt_model.specs.Live.{numbers_below}
use Rattle.tt_model.specs.Opened.{Head}
use Rattle.tt_model.specs.State.{State, Underway, newest_number, at_one, all_forced, next, low_now, least_hold, write_position}

-- The file that doesn't hold the newest whole image.
abbrev pub other_file : State → ℕ
other_file s = 1 - s.newest

-- The pages stale in a file, in ascending order.
abbrev pub stale_pages : ℕ → State → List ℕ
stale_pages file s = filter (s.stale file) (numbers_below s.pages)

abbrev pub begun_in : State → Underway
begun_in s = record {
  file = other_file s;
  number = newest_number s + 1;
  scan = low_now s;
  pages = s.pages;
  next = next s;
  left = stale_pages (other_file s) s;
}

-- From the begin on that file isn't whole.
unfoldable pub begin_checkpoint : State → State
begin_checkpoint s = record s { heads = at_one (other_file s) None s.heads; underway = Some (begun_in s) }

abbrev pub is_among : List ℕ → ℕ → Bool
is_among pages page = list_any (nat_eq page) pages

abbrev pub without_pages : List ℕ → (ℕ → Bool) → ℕ → Bool
without_pages pages stale page = stale page && not (is_among pages page)

abbrev pub copied : ℕ → Option Underway → State → State
copied n None s = s
copied n (Some b) s = record s {
  stale = at_one b.file (without_pages (take n b.left) (s.stale b.file)) s.stale;
  underway = Some (record b { left = drop n b.left });
}

-- A round takes the next pages, as many as CkptPages.
unfoldable pub with_copies : State → State
with_copies s = copied s.settings.ckpt_pages s.underway s

-- All pages left are taken, as ttCkptBlocking does.
unfoldable pub with_all_copies : State → State
with_all_copies s = copied s.pages s.underway s

-- The header that completion writes has the numbers of the begin.
abbrev pub whole_head : ℕ → Underway → Head
whole_head database b = record { number = b.number; scan = b.scan; pages = b.pages; next = b.next; database = database }

-- The log files from that of the least hold to the current one.
abbrev pub files_kept : State → ℕ → Bool
files_kept s n = nat_le (least_hold s).file n && nat_le n (write_position s).file

abbrev pub whole : Underway → State → State
whole b s = record s { heads = at_one b.file (Some (whole_head s.database b)) s.heads; newest = b.file; underway = None }

abbrev pub purged : State → State
purged s = record s { files = files_kept s }

unfoldable pub completed : Underway → State → State
completed b s = purged (whole b (all_forced s))

abbrev pub complete_where_due : Option Underway → State → State
complete_where_due None s = s
complete_where_due (Some b) s = if length b.left == 0 then completed b s else s

-- The completion, where no page is left.
unfoldable pub with_completion : State → State
with_completion s = complete_where_due s.underway s

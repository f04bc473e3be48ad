-- What opening finds in the files: the newest image, with the log behind it.
use Rattle.std.specs.Prelude.{◌≡◌, ℕ, ◌*◌, Bool, false, not, ◌&&◌, ◌||◌, nat_eq, nat_lt, List, [], is_some, Option, Some, None, if◌then◌else◌}
use Rattle.std.specs.List.{list_any}
use Rattle.tt_value.specs.declared.position.Position.{Position}
use Rattle.tt_record.specs.declared.entry.Entry.{Entry}
use Rattle.tt_model.specs.Trail.{Trail, Placed, position_eq, position_lt, since}
use Rattle.tt_model.specs.Committed.{Cells, no_cells}
use Rattle.tt_model.specs.Live.{after_number, next_number, pages_named}
use Rattle.tt_model.specs.Opened.{Head, Opened, newest_of, number_of, only_first, first_head}
use Rattle.tt_model.specs.Standing.{laid, log_of, standing}
use Rattle.tt_model.specs.Prefix.{found_hold}

-- The files as they are read: of each checkpoint file that is whole its header, and the cells of its image; of each log file the
-- entries of its batches, the oldest first, or none where it is absent or damaged.
pub record FilesRead : Type 0 where
  pub heads : ℕ → Option Head
  pub images : ℕ → Cells
  pub entries_in : ℕ → Option (List Entry)

-- Both checkpoint files are whole and have one number.
abbrev pub have_one_number : (ℕ → Option Head) → Bool
have_one_number heads = is_some (heads 0) && is_some (heads 1) && nat_eq (number_of (heads 0)) (number_of (heads 1))

-- A position is the start of an entry of its file, or the end of that file's entries.
abbrev pub is_in_file : Position → Option (List Entry) → Bool
is_in_file p None = false
is_in_file p (Some es) = list_any (λ (e : Placed). position_eq e.at p) ((laid p.file es ([], 0)).0) || nat_eq p.offset ((laid p.file es ([], 0)).1)

-- What an image stands for with the entries from its scan position on, which alone are in it so far.
abbrev pub found_behind : (ℕ → Option Head) → Head → Cells → Trail × Position → Opened
found_behind heads head image read =
    let entries = since head.scan (read.0) in
    record { cells = standing image entries; entries = entries; end = read.1; next = next_number head.next entries; heads = heads }

-- The least position that its headers, sets and bookmarks hold.
abbrev pub held_by : Head → Opened → Position
held_by head f = found_hold (32 * pages_named head.pages f.entries) f

-- Before the scan position an entry has a number that isn't below the image's next one.
abbrev pub is_ahead : Head → Placed → Bool
is_ahead head e = position_lt e.at head.scan && nat_lt head.next (after_number e.entry)

-- The log is read again, from the file of the least hold on. No entry is ahead, and the log reaches the file of the scan position.
abbrev pub with_entries : Head → Opened → Option (Trail × Position) → Option Opened
with_entries head f None = None
with_entries head f (Some read) =
    if list_any (is_ahead head) (read.0) || nat_lt (read.1).file head.scan.file then None else Some (record f { entries = read.0; end = read.1 })

abbrev pub found_from : FilesRead → Head → Option (Trail × Position) → Option Opened
found_from files head None = None
found_from files head (Some read) =
    let f = found_behind files.heads head (files.images (newest_of files.heads)) read in
    with_entries head f (log_of files.entries_in (held_by head f).file)

abbrev pub opened_by : FilesRead → Option Head → Option Opened
opened_by files None = None
opened_by files (Some head) =
    if have_one_number files.heads || not (is_in_file head.scan (files.entries_in head.scan.file)) then None
    else found_from files head (log_of files.entries_in head.scan.file)

-- What opening finds, or none: where no image is whole, or both have one number; where the log from the scan position on is damaged, or that is
-- no place in its file; where the log from the file of the least hold on is damaged, or has an entry ahead, or doesn't reach the scan
-- position's file.
unfoldable pub opening : FilesRead → Option Opened
opening files = opened_by files (files.heads (newest_of files.heads))

-- A database that was just created has an empty image, from which on its whole log is read.
abbrev pub first_files : ℕ → (ℕ → Option (List Entry)) → FilesRead
first_files database entries_in = record { heads = only_first (first_head 0 database); images = λ file. no_cells; entries_in = entries_in }

-- Behind that image opening finds what the log alone stands for.
abbrev pub FirstImagesOpen : Type 0
FirstImagesOpen =
    (database : ℕ) (entries_in : ℕ → Option (List Entry)) (entries : Trail) (end : Position) → log_of entries_in 0 ≡ Some (entries, end)
    → opening (first_files database entries_in) ≡ Some (record {
      cells = standing no_cells entries;
      entries = entries;
      end = end;
      next = next_number 1 entries;
      heads = only_first (first_head 0 database);
    })

-- What opening finds in the files of a log.
use Rattle.std.specs.Prelude.{List, [], ◌∷◌, Result, Ok, Err}
use Rattle.tt_value.specs.declared.position.Position.{Position}
use Rattle.tt_record.specs.declared.entry.Entry.{Entry}
use Rattle.tt_log.specs.declared.refusal.LogRefusal.{LogRefusal}
use Rattle.tt_log.specs.Walk.{LogContents as Read, log_of}
use Rattle.tt_model.specs.Trail.{Trail}
use Rattle.tt_model.specs.Committed.{no_cells}
use Rattle.tt_model.specs.Live.{next_number}
use Rattle.tt_model.specs.Standing.{standing}
use Rattle.tt_model.specs.Opened.{Opened, only_first, first_head}
use Rattle.tt_disk.specs.Volume.{Files}

-- entries behind a trail, one after another
abbrev pub laid_on : Trail → List (Position × Entry) → Trail
laid_on older [] = older
laid_on older (p ∷ ps) = laid_on (record { at = p.0; entry = p.1 } ∷ older) ps

-- entries in the order of their positions as a trail, which has the newest in front
abbrev pub newest_first : List (Position × Entry) → Trail
newest_first ps = laid_on [] ps

-- What a log stands for behind an empty image that is read from the log's beginning on.
abbrev pub opened_from : Trail → Position → Opened
opened_from entries end = record {
  cells = standing no_cells entries;
  entries = entries;
  end = end;
  next = next_number 1 entries;
  heads = only_first (first_head 0 1);
}

abbrev pub opened_of : Result Read LogRefusal → Result Opened LogRefusal
opened_of (Ok read) = Ok (opened_from (newest_first read.entries) read.end)
opened_of (Err e) = Err e

-- what opening finds in these files, or the first damage of the log
unfoldable pub opening : Files → Result Opened LogRefusal
opening files = opened_of (log_of 0 files)

-- The laws of the model, each by its name, for the proofs of the crates above. What each says stands in specs/.
use Rattle.tt_model.specs.Laws.{AtMostOneHolds, CheckpointsOpen, CommitsAlone, EntryIsAppended, ForcedNeverFalls, GrownIsSteady, LinesHaveAnswers, MarkEndsAll, NextIsAboveAll, NextIsFresh, OpeningFindsCommitted, OwnChangesAreSeen, PlacesAndFirstEntries, ReversedMayAbort, SeenRowsMayChange, StatesStaySound}
use Rattle.tt_model.specs.GoodRows.{RowsStayGood, UsersRowsStayGood}
use Rattle.tt_model.specs.GoodCatalog.{CatalogStaysGood}
use Rattle.tt_model.specs.Opening.{FirstImagesOpen}
use Rattle.tt_model.specs.StepLaws.{CatalogIsBelowItsBound, CopiesAndLinesAreApart, EntriesLieEndToEnd, FirstChangesFoundCommitted, FreePlaceIsAmongUsed, GoodRowsAreStorable, RefusedLinesLeaveAll, StepsAreDetermined, StepsGoOn, WorksAreNumbered, WorksArePlain}
use Rattle.tt_model.specs.Works.{LinesAreWorks}
use Rattle.tt_model.specs.WholeRuns.{BookmarksStay, ForcedEntriesAreFound, HeldOnceInRuns, HeldOnceStays, LogFilesAreKept, ReadersGoInOrder, SelectsAreIsolated, TrailsGoOn}
use Rattle.tt_model.proofs.AppendLemmas.{cells-Abort, cells-Change, cells-Commit, cells-Commit_view, cells-Mark, forced_for-cases, forced_for-least, forced_for-most, live-Abort, live-Change, live-Commit, live-Mark, live-behind_mark, next-Abort, next-Change, next-Commit, next-Mark, trail-with_entry, view-Abort, view-Change, view-Change_other, view-Change_without, view-Commit, view-Mark, write_position-with_entry}
use Rattle.tt_model.proofs.ConflictLemmas.{seen_row-mine, seen_row-none}
use Rattle.tt_model.proofs.DeadLemmas.{standing-grown}
use Rattle.tt_model.proofs.EndLemmas.{none-ended, sound-ended}
use Rattle.tt_model.proofs.FileLemmas.{log_files_kept}
use Rattle.tt_model.proofs.FirstBeforeLemmas.{new_row-MayChange, seen_row-MayChange}
use Rattle.tt_model.proofs.HolderLemmas.{first_entry-kept, first_entry-new, holder-Change, in_use-Change, low-end, other_holder-own_Change}
use Rattle.tt_model.proofs.LowLemmas.{before-end, current-unchanged, low-ends, split}
use Rattle.tt_model.proofs.NumberLemmas.{live-below, next-above, next-least, next-not_live, next-untouched, touched-below}
use Rattle.tt_model.proofs.OneHolderLemmas.{one_holder-Abort, one_holder-Change, one_holder-Commit, one_holder-Mark, one_holder-start}
use Rattle.tt_model.proofs.PositionLemmas.{ordered-with_entry}
use Rattle.tt_model.proofs.RollbackLemmas.{rolled_back-MayAbort}
use Rattle.tt_model.proofs.SteadySteps.{steady-grown}
use Rattle.tt_model.proofs.StepLemmas.{sound-begun, sound-step, step-without_memory, stepped-Step}
use Rattle.tt_model.proofs.WorkLemmas.{lines_leave}
use Rattle.tt_model.proofs.BookmarkLines
use Rattle.tt_model.proofs.BoundLemmas
use Rattle.tt_model.proofs.CopiesApart
use Rattle.tt_model.proofs.EndToEndLemmas
use Rattle.tt_model.proofs.FirstChanges
use Rattle.tt_model.proofs.FreePlaces
use Rattle.tt_model.proofs.GoodLaw
use Rattle.tt_model.proofs.HeldInRuns
use Rattle.tt_model.proofs.IsolationLemmas
use Rattle.tt_model.proofs.NumberedWorks
use Rattle.tt_model.proofs.OneHolderRounds
use Rattle.tt_model.proofs.OpeningLemmas
use Rattle.tt_model.proofs.PlainWorks
use Rattle.tt_model.proofs.ReaderRuns
use Rattle.tt_model.proofs.RefusedLines
use Rattle.tt_model.proofs.RowsStay
use Rattle.tt_model.proofs.RowsStayGood
use Rattle.tt_model.proofs.RunLemmas
use Rattle.tt_model.proofs.StorableRows

-- An entry stands at or behind the end of the last one, and the log then ends where it does.
pub entry_is_appended : EntryIsAppended
entry_is_appended = record {
  appended = trail-with_entry;
  end = write_position-with_entry;
  ordered = ordered-with_entry;
}

-- The tables change at a commit alone.
pub commits_alone : CommitsAlone
commits_alone = record {
  commit = cells-Commit;
  change = cells-Change;
  abort = cells-Abort;
  mark = cells-Mark;
}

-- A session sees its own changes at once, and those of others at their commit; aborts and marks leave its view.
pub own_changes_are_seen : OwnChangesAreSeen
own_changes_are_seen = record {
  own = view-Change;
  without = view-Change_without;
  others = view-Change_other;
  commit = cells-Commit_view;
  committed = view-Commit;
  abort = view-Abort;
  mark = view-Mark;
}

-- Which transactions are live after an entry.
pub mark_ends_all : MarkEndsAll
mark_ends_all = record {
  change = live-Change;
  commit = live-Commit;
  abort = live-Abort;
  mark = live-Mark;
  behind = live-behind_mark;
}

-- The next transaction's number is of no transaction that is live or changed a place.
pub next_is_fresh : NextIsFresh
next_is_fresh = record {
  change = next-Change;
  above_touched = touched-below;
  above_live = live-below;
  not_live = next-not_live;
  untouched = next-untouched;
}

-- The next transaction's number is above that of each entry.
pub next_is_above_all : NextIsAboveAll
next_is_above_all = record {
  commit = next-Commit;
  abort = next-Abort;
  mark = next-Mark;
  above_each = next-above;
  above_found = next-least;
}

-- The forced part of the log only grows.
pub forced_never_falls : ForcedNeverFalls
forced_never_falls = record {
  cases = forced_for-cases;
  most = forced_for-most;
  least = forced_for-least;
}

-- At most one transaction holds a key or a unique value.
pub at_most_one_holds : AtMostOneHolds
at_most_one_holds = record {
  takes = holder-Change;
  others = other_holder-own_Change;
  change = one_holder-Change;
  commit = one_holder-Commit;
  abort = one_holder-Abort;
  mark = one_holder-Mark;
  start = one_holder-start;
}

-- Which places are in use, and where transactions began.
pub places_and_first_entries : PlacesAndFirstEntries
places_and_first_entries = record {
  used = in_use-Change;
  kept = first_entry-kept;
  first = first_entry-new;
  low = low-end;
}

-- The cells that an engine holds are what is committed and the live changes.
pub grown_is_steady : GrownIsSteady
grown_is_steady = steady-grown

-- Which places a transaction may change.
pub seen_rows_may_change : SeenRowsMayChange
seen_rows_may_change = record {
  new_row = new_row-MayChange;
  seen_row = seen_row-MayChange;
  held = seen_row-mine;
  free = seen_row-none;
}

-- A transaction whose changes were reversed may be aborted.
pub reversed_may_abort : ReversedMayAbort
reversed_may_abort = rolled_back-MayAbort

-- Lines lead from sound states to sound ones.
pub states_stay_sound : StatesStaySound
states_stay_sound = record {
  begun = sound-begun;
  step = sound-step;
  end = sound-ended;
  none_left = none-ended;
}

-- Lines have the answers of the table, and some have no other.
pub lines_have_answers : LinesHaveAnswers
lines_have_answers = record {
  table = stepped-Step;
  alone = step-without_memory;
}

-- At every place, opening an image with the log behind it finds what is committed.
pub opening_finds_committed : OpeningFindsCommitted
opening_finds_committed = standing-grown

-- What a checkpoint copies, and where its log begins, are such that opening it finds what is committed.
pub checkpoints_open : CheckpointsOpen
checkpoints_open = record {
  parts = split;
  whole = before-end;
  ended_since = low-ends;
  copied = current-unchanged;
}

-- Which log files are there after a completion, and after every other round.
pub log_files_are_kept : LogFilesAreKept
log_files_are_kept = log_files_kept

-- A select sees what is committed and its session's own changes, and nothing else.
pub selects_are_isolated : SelectsAreIsolated
selects_are_isolated = IsolationLemmas.selects_are_isolated

-- What the reads of a session give, joined, is what is due from where it began: each change once, and in order.
pub readers_go_in_order : ReadersGoInOrder
readers_go_in_order = ReaderRuns.readers_go_in_order

-- The bookmark of an open reader stays, so the lines of sessions lead to sound states alone.
pub bookmarks_stay : BookmarksStay
bookmarks_stay = BookmarkLines.bookmarks_stay

-- Over every line, each key and unique value that tables and indexes had before it stays with at most one transaction.
pub held_once_stays : HeldOnceStays
held_once_stays = OneHolderRounds.held_once_stays

-- Over whole runs, each key and unique value of the tables and indexes that are there then stays with at most one transaction.
pub held_once_in_runs : HeldOnceInRuns
held_once_in_runs = HeldInRuns.held_once_in_runs

-- Over every line, over every run and at its end the trail goes on, and no less of it is forced.
pub trails_go_on : TrailsGoOn
trails_go_on = RunLemmas.trails_go_on

-- Behind the empty image of a database that was just created, opening finds what its log alone stands for.
pub first_images_open : FirstImagesOpen
first_images_open = OpeningLemmas.first_images_open

-- What is found after a run, whichever way it ended, has all entries that were forced behind its answered lines.
pub forced_entries_are_found : ForcedEntriesAreFound
forced_entries_are_found = RunLemmas.forced_entries_are_found

-- Each line leaves the log as the entries and forces of its works do, and so does the end of a run.
pub lines_are_works : LinesAreWorks
lines_are_works = lines_leave

-- The entries of a run lie end to end, from the end that opening found.
pub entries_lie_end_to_end : EntriesLieEndToEnd
entries_lie_end_to_end = EndToEndLemmas.entries_lie

-- Over every line, over every run and at its end the trail goes on, and the log ends no earlier.
pub steps_go_on : StepsGoOn
steps_go_on = EndToEndLemmas.steps_go_on

-- The entries of a run have numbers from the one on that opening found to be the next.
pub works_are_numbered : WorksAreNumbered
works_are_numbered = NumberedWorks.works_are_numbered

-- A refused line leaves the state as it was.
pub refused_lines_leave_all : RefusedLinesLeaveAll
refused_lines_leave_all = RefusedLines.refused_lines_leave

-- Two rounds of one line from one state differ in nothing, unless memory is wanting in one.
pub steps_are_determined : StepsAreDetermined
steps_are_determined = RefusedLines.determined

-- A line does the same before and behind the copies of its round.
pub copies_and_lines_are_apart : CopiesAndLinesAreApart
copies_and_lines_are_apart = CopiesApart.copies_and_lines

-- The first change of a live transaction at a place found what is committed there.
pub first_change_found_what_is_committed : FirstChangesFoundCommitted
first_change_found_what_is_committed = FirstChanges.first_changes

-- What is read of the rows doesn't depend on a bound below which they lie.
pub catalog_is_below_its_bound : CatalogIsBelowItsBound
catalog_is_below_its_bound = BoundLemmas.catalog_below

-- Users' rows stay good over every line: each fits its table, and each key and unique value stands once, in what is
-- committed and in what each live transaction sees.
pub users_rows_stay_good : UsersRowsStayGood
users_rows_stay_good = RowsStay.users_rows_stay_good

-- No row is damaged by any line: of system rows and users' rows, in what is committed, in what live transactions see and in each
-- first part of the trail.
pub rows_stay_good : RowsStayGood
rows_stay_good = RowsStayGood.rows_stay_good

-- The least free place is at most the count of places in use.
pub free_place_is_among_used : FreePlaceIsAmongUsed
free_place_is_among_used = FreePlaces.free-among_used

-- Lines append entries that have the grammar of entries, and leave the log in its ranges.
pub works_are_plain : WorksArePlain
works_are_plain = PlainWorks.works_are_plain

-- Lines may store rows in a sound state with good rows.
pub good_rows_are_storable : GoodRowsAreStorable
good_rows_are_storable = StorableRows.rows_are_storable

-- Lines keep the catalog good.
pub catalog_stays_good : CatalogStaysGood
catalog_stays_good = GoodLaw.catalog_stays_good

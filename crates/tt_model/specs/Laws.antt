-- Laws of the definitions, in their own words.
use Rattle.std.specs.Prelude.{◌≡◌, ◌⊎◌, ◌≤◌, ◌<◌, ◌*◌, ◌++◌, ◌∷◌, ℕ, suc, Bool, true, false, ◌&&◌, ◌||◌, nat_eq, is_none, [], length, max, Option, Some, None, Result, Ok}
use Rattle.tt_value.specs.declared.value.Cell.{Cell}
use Rattle.tt_value.specs.declared.value.Cell.TheVariants.{Empty}
use Rattle.tt_value.specs.declared.position.Position.{Position}
use Rattle.tt_value.specs.declared.refusal.Refusal.{Refusal}
use Rattle.tt_value.specs.declared.reply.Reply.{Reply}
use Rattle.tt_parse.specs.declared.command.Command.{Command}
use Rattle.tt_record.specs.Entry.{length_of}
use Rattle.tt_record.specs.Place.{end_of}
use Rattle.tt_record.specs.declared.entry.Entry.{Entry}
use Rattle.tt_record.specs.declared.entry.Entry.TheVariants.{Change, Commit, Abort, Mark}
use Rattle.tt_set.specs.declared.settings.Settings.{Settings}
use Rattle.tt_model.specs.Trail.{Trail, Placed, IsOrdered, placed_end, placed_length, trail_end, before, since}
use Rattle.tt_model.specs.Committed.{Cells, put, changed_by, committed, current, is_full}
use Rattle.tt_model.specs.Live.{live, with_number, without_number, is_live, touched, in_use, view_of, after_number, next_number}
use Rattle.tt_model.specs.Holders.{Held, has_held, is_held_by, other_holder, holder, HasOneHolder}
use Rattle.tt_model.specs.Forced.{forced_for}
use Rattle.tt_model.specs.Holds.{first_entry, first_entries, least_of, low}
use Rattle.tt_model.specs.Steady.{IsGrown, IsSteady, MayAbort, MayChange}
use Rattle.tt_model.specs.Standing.{standing, is_ended, last_after, first_before}
use Rattle.tt_model.specs.Opened.{Opened}
use Rattle.tt_model.specs.Sets.{SetStanding}
use Rattle.tt_model.specs.State.{State, trail, placed, write_position, cells_of, view, live_in, next, with_entry, with_edits, reversals}
use Rattle.tt_model.specs.Sound.{IsUserTable, IsSound, has_mark}
use Rattle.tt_model.specs.Step.{Step, stepped, takes_memory}
use Rattle.tt_model.specs.Run.{opened, begun, ended}

-- ---- one more entry

-- The trail has one entry more in front, at or behind the end of the last one, and ends where that entry does.
pub record EntryIsAppended : Type 0 where
  pub appended : (e : Entry) (s : State) → trail (with_entry e s) ≡ placed e s ∷ trail s
  pub end : (e : Entry) (s : State) → write_position (with_entry e s) ≡ end_of ((placed e s).at) (length_of e)
  pub ordered : (e : Entry) (s : State) → IsOrdered s.found.end s.entries → IsOrdered s.found.end ((with_entry e s).entries)

-- A Commit puts its transaction's Changes over the tables; every other entry leaves them.
pub record CommitsAlone : Type 0 where
  pub commit : (t : ℕ) (s : State) → cells_of (with_entry (Commit t) s) ≡ changed_by t s.entries (cells_of s)
  pub change : (t p : ℕ) (b a : Cell) (s : State) → cells_of (with_entry (Change t p b a) s) ≡ cells_of s
  pub abort : (t : ℕ) (s : State) → cells_of (with_entry (Abort t) s) ≡ cells_of s
  pub mark : (s : State) → cells_of (with_entry Mark s) ≡ cells_of s

-- A session sees its own Changes at once, and those of others at their Commit, under its own. At its own Commit the tables become its
-- view. An Abort and a Mark leave each view.
pub record OwnChangesAreSeen : Type 0 where
  pub own : (session t p : ℕ) (b a : Cell) (s : State) → s.own session ≡ Some t → view session (with_entry (Change t p b a) s) ≡ put p a (view session s)
  pub without : (session t p : ℕ) (b a : Cell) (s : State) → s.own session ≡ None → view session (with_entry (Change t p b a) s) ≡ view session s
  pub others : (session t u p : ℕ) (b a : Cell) (s : State) → s.own session ≡ Some u → nat_eq u t ≡ false → view session (with_entry (Change t p b a) s) ≡ view session s
  pub commit : (session t : ℕ) (s : State) → s.own session ≡ Some t → cells_of (with_entry (Commit t) s) ≡ view session s
  pub committed : (session t : ℕ) (s : State) → view session (with_entry (Commit t) s) ≡ view_of (s.own session) s.entries (cells_of (with_entry (Commit t) s))
  pub abort : (session t : ℕ) (s : State) → view session (with_entry (Abort t) s) ≡ view session s
  pub mark : (session : ℕ) (s : State) → view session (with_entry Mark s) ≡ view session s

-- A Change makes its transaction live, its Commit and its Abort end it, a Mark ends all; what stands before a Mark counts for nothing.
pub record MarkEndsAll : Type 0 where
  pub change : (t p : ℕ) (b a : Cell) (s : State) → live_in (with_entry (Change t p b a) s) ≡ with_number t (live_in s)
  pub commit : (t : ℕ) (s : State) → live_in (with_entry (Commit t) s) ≡ without_number t (live_in s)
  pub abort : (t : ℕ) (s : State) → live_in (with_entry (Abort t) s) ≡ without_number t (live_in s)
  pub mark : (s : State) → live_in (with_entry Mark s) ≡ []
  pub behind : (newer older : Trail) (at : Position) →
      live (newer ++ record { at = at; entry = Mark } ∷ older) ≡ live (newer ++ record { at = at; entry = Mark } ∷ [])

-- The next transaction's number is above each that is live or changed a place, so it is of none of these.
pub record NextIsFresh : Type 0 where
  pub change : (t p : ℕ) (b a : Cell) (s : State) → next (with_entry (Change t p b a) s) ≡ max (suc t) (next s)
  pub above_touched : (first t q : ℕ) (es : Trail) → touched t q es ≡ true → t < next_number first es
  pub above_live : (first t : ℕ) (es : Trail) → is_live t es ≡ true → t < next_number first es
  pub not_live : (first : ℕ) (es : Trail) → is_live (next_number first es) es ≡ false
  pub untouched : (first q : ℕ) (es : Trail) → touched (next_number first es) q es ≡ false

-- It is above the number of each entry in the trail, whatever its kind, and at least the one that opening found. A Commit and an Abort
-- take it above their own numbers, a Mark leaves it.
pub record NextIsAboveAll : Type 0 where
  pub commit : (t : ℕ) (s : State) → next (with_entry (Commit t) s) ≡ max (suc t) (next s)
  pub abort : (t : ℕ) (s : State) → next (with_entry (Abort t) s) ≡ max (suc t) (next s)
  pub mark : (s : State) → next (with_entry Mark s) ≡ next s
  pub above_each : (first : ℕ) (newer older : Trail) (e : Placed) → after_number e.entry ≤ next_number first (newer ++ e ∷ older)
  pub above_found : (first : ℕ) (es : Trail) → first ≤ next_number first es

-- An entry moves the forced part up to the earlier entries or not at all; it never falls, and never passes the trail.
pub record ForcedNeverFalls : Type 0 where
  pub cases : (size buffer n : ℕ) (end : Position) (es : Trail) (forced : ℕ) →
      (forced_for size buffer end n es forced ≡ length es) ⊎ (forced_for size buffer end n es forced ≡ forced)
  pub most : (size buffer n : ℕ) (end : Position) (es : Trail) (forced : ℕ) → forced ≤ length es → forced_for size buffer end n es forced ≤ length es
  pub least : (size buffer n : ℕ) (end : Position) (es : Trail) (forced : ℕ) → forced ≤ length es → forced ≤ forced_for size buffer end n es forced

-- Who changes a row holds its key and its unique values, where no other live one does; so at most one holds each.
pub record AtMostOneHolds : Type 0 where
  pub takes : (t p : ℕ) (b a : Cell) (at : Position) (name : Held) (es : Trail) → (has_held name b || has_held name a) ≡ true →
      ((u : ℕ) → is_live u es ≡ true → is_held_by name es u ≡ true → u ≡ t) → holder name (record { at = at; entry = Change t p b a } ∷ es) ≡ Some t
  pub others : (t p : ℕ) (b a : Cell) (at : Position) (name : Held) (es : Trail) →
      other_holder (Some t) name (record { at = at; entry = Change t p b a } ∷ es) ≡ other_holder (Some t) name es
  pub change : (t p : ℕ) (b a : Cell) (at : Position) (name : Held) (es : Trail) → HasOneHolder name es →
      (is_live t es ≡ false → is_held_by name es t ≡ false) → ((has_held name b || has_held name a) ≡ true → other_holder (Some t) name es ≡ None) →
      HasOneHolder name (record { at = at; entry = Change t p b a } ∷ es)
  pub commit : (t : ℕ) (at : Position) (name : Held) (es : Trail) → HasOneHolder name es → HasOneHolder name (record { at = at; entry = Commit t } ∷ es)
  pub abort : (t : ℕ) (at : Position) (name : Held) (es : Trail) → HasOneHolder name es → HasOneHolder name (record { at = at; entry = Abort t } ∷ es)
  pub mark : (at : Position) (name : Held) (es : Trail) → HasOneHolder name (record { at = at; entry = Mark } ∷ es)
  pub start : (name : Held) → HasOneHolder name []

-- A Change brings its place into use and no other. The least first entry of a live transaction is the Low of the end.
pub record PlacesAndFirstEntries : Type 0 where
  pub used : (t p q : ℕ) (b a : Cell) (at : Position) (cells : Cells) (es : Trail) → (is_live t es ≡ false → touched t q es ≡ false) →
      in_use cells (record { at = at; entry = Change t p b a } ∷ es) q ≡ (nat_eq q p || in_use cells es q)
  pub kept : (t : ℕ) (p : Position) (x : Placed) (es : Trail) → first_entry t es ≡ Some p → first_entry t (x ∷ es) ≡ Some p
  pub first : (t p : ℕ) (b a : Cell) (at : Position) (es : Trail) → first_entry t es ≡ None → first_entry t (record { at = at; entry = Change t p b a } ∷ es) ≡ Some at
  pub low : (found : Position) (x : Placed) (es : Trail) → 1 ≤ placed_length x →
      low (trail_end found (x ∷ es)) (x ∷ es) ≡ least_of (placed_end x) (first_entries (x ∷ es))

-- ---- the cells that an engine holds

-- The cells that an engine holds are what is committed, with each live transaction's own Changes over it where it made some.
abbrev pub GrownIsSteady : Type 0
GrownIsSteady = (base : Cells) (es : Trail) → IsGrown base es → IsSteady base es

-- What may be changed: a place that isn't in use, from Empty; and a place that no other live transaction changed, from what the own
-- session sees there. Of a row whose key no other one holds, none changed the place.
pub record SeenRowsMayChange : Type 0 where
  pub new_row : (base : Cells) (es : Trail) (t p : ℕ) → IsGrown base es → (is_live t es ≡ false → (q : ℕ) → touched t q es ≡ false) →
      in_use (committed base es) es p ≡ false → MayChange base es t p Empty
  pub seen_row : (base : Cells) (es : Trail) (t p : ℕ) → IsGrown base es → is_live t es ≡ true →
      ((u : ℕ) → is_live u es ≡ true → touched u p es ≡ true → u ≡ t) → MayChange base es t p (changed_by t es (committed base es) p)
  pub held : (base : Cells) (es : Trail) (t p : ℕ) (name : Held) → IsGrown base es → is_live t es ≡ true →
      has_held name (changed_by t es (committed base es) p) ≡ true → other_holder (Some t) name es ≡ None →
      (u : ℕ) → is_live u es ≡ true → touched u p es ≡ true → u ≡ t
  pub free : (base : Cells) (es : Trail) (p : ℕ) (name : Held) → IsGrown base es → has_held name (committed base es p) ≡ true →
      other_holder None name es ≡ None → (u : ℕ) → is_live u es ≡ true → touched u p es ≡ false

-- Once its Changes were reversed, a transaction may be aborted.
abbrev pub ReversedMayAbort : Type 0
ReversedMayAbort = (base : Cells) (t : ℕ) (s : State) → IsGrown base s.entries → is_live t s.entries ≡ true →
    IsGrown base ((with_edits t (reversals t s.entries) s).entries) × MayAbort base ((with_edits t (reversals t s.entries) s).entries) t

-- ---- sound states

-- A run begins sound, where every row lies in the pages and every table has a number from 16 on. Every round leads from a sound
-- state to a sound one, whatever the line, and in any memory. So does the end of a run,
-- which leaves no transaction live where it was done to its end.
pub record StatesStaySound : Type 0 where
  pub begun : (settings : Settings) (found : Opened) (files : ℕ → Bool) (sets : ℕ → Option SetStanding) →
      ((q : ℕ) → is_full (found.cells q) ≡ true → q < 32 * (opened settings found files sets).pages) → ((q : ℕ) → IsUserTable (found.cells q)) →
      IsSound (begun settings found files sets)
  pub step : (s : State) (session : ℕ) (what : Result Command Refusal) (reply : Reply) (after : State) →
      IsSound s → Step s session what reply after → IsSound after
  pub end : (s : State) → IsSound s → IsSound ((ended s).1)
  pub none_left : (s : State) (t : ℕ) → IsSound s → (ended s).0 ≡ true → is_live t (((ended s).1).entries) ≡ false

-- Each line may be answered as the table says; the five lines that take no memory can't be answered otherwise.
pub record LinesHaveAnswers : Type 0 where
  pub table : (s : State) (session : ℕ) (command : Command) → Step s session (Ok command) ((stepped session command s).0) ((stepped session command s).1)
  pub alone : (s : State) (session : ℕ) (command : Command) (reply : Reply) (after : State) → takes_memory command ≡ false →
      Step s session (Ok command) reply after → (reply ≡ (stepped session command s).0) × (after ≡ (stepped session command s).1)

-- ---- opening

-- No entry changed a place.
abbrev pub is_unchanged : ℕ → Trail → Bool
is_unchanged q es = is_none (last_after (λ t. is_ended t es) q es) && is_none (first_before (λ t. is_ended t es) q es)

-- At every place an image with the entries from its scan position on stands for what is committed, where who had the place in
-- hand at the scan position has ended since, and a place unchanged since then lies in the image as it was there.
abbrev pub OpeningFindsCommitted : Type 0
OpeningFindsCommitted =
    (base image : Cells) (q : ℕ) (since es : Trail) → IsGrown base (es ++ since)
    → ((t : ℕ) → is_live t since ≡ true → touched t q since ≡ true → is_ended t es ≡ true)
    → (is_unchanged q es ≡ true → image q ≡ current base since q)
    → standing image es q ≡ committed base (es ++ since) q

-- What a checkpoint gives that. It reads the log from the Low of its begin's end on: who changed a place before that and was live
-- there has ended since, where no Mark stands behind it. A page is copied at any time since: a place unchanged since then is held
-- in the copy as it was held there.
pub record CheckpointsOpen : Type 0 where
  pub parts : (p : Position) (es : Trail) → since p es ++ before p es ≡ es
  pub whole : (found : Position) (es : Trail) → before (trail_end found es) es ≡ es
  pub ended_since : (found end : Position) (es : Trail) (t q : ℕ) → IsOrdered found es → before end es ≡ es → has_mark (since (low end es) es) ≡ false →
      is_live t (before (low end es) es) ≡ true → touched t q (before (low end es) es) ≡ true → is_ended t (since (low end es) es) ≡ true
  pub copied : (base : Cells) (q : ℕ) (newer middle older : Trail) → has_mark middle ≡ false → is_unchanged q (newer ++ middle) ≡ true →
      current base (middle ++ older) q ≡ current base older q

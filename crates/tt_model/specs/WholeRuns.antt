-- Laws over lines, rounds and whole runs, in their own words.
use Rattle.std.specs.Prelude.{◌≡◌, ◌⊎◌, ◌≤◌, ◌<◌, ◌&&◌, ◌||◌, ℕ, Bool, true, false, not, nat_eq, List, [], ◌∷◌, ◌++◌, map, length, is_some, is_none, Option, Some, None, Result, Ok, if◌then◌else◌}
use Rattle.std.specs.List.{list_any}
use Rattle.tt_value.specs.declared.value.Cell.{Cell}
use Rattle.tt_value.specs.declared.reply.Update.{Update}
use Rattle.tt_value.specs.declared.refusal.Refusal.{Refusal}
use Rattle.tt_value.specs.declared.refusal.Refusal.TheVariants.{NoMemory}
use Rattle.tt_value.specs.declared.reply.Reply.{Reply}
use Rattle.tt_value.specs.declared.reply.Reply.TheVariants.{Refused, Updates}
use Rattle.tt_parse.specs.declared.cond.Cond.{Cond}
use Rattle.tt_parse.specs.declared.command.Items.{Items}
use Rattle.tt_parse.specs.declared.command.OrderItem.{OrderItem}
use Rattle.tt_parse.specs.declared.command.Command.{Command}
use Rattle.tt_parse.specs.declared.command.Command.TheVariants.{CkptBlocking, Select, XlaNext}
use Rattle.tt_record.specs.declared.entry.Entry.{Entry}
use Rattle.tt_record.specs.declared.entry.Entry.TheVariants.{Change}
use Rattle.tt_record.specs.Place.{position}
use Rattle.tt_model.specs.Trail.{Trail, IsOrdered, position_le, trail_end, oldest}
use Rattle.tt_model.specs.Opened.{Opened}
use Rattle.tt_value.specs.declared.value.Value.{Value}
use Rattle.tt_model.specs.Holders.{HasOneHolder, has_null}
use Rattle.tt_model.specs.Tables.{Table, Index, Subscribed, subscriptions_of, Catalog}
use Rattle.tt_model.specs.Due.{due, name_in}
use Rattle.tt_model.specs.Sound.{IsSound}
use Rattle.tt_model.specs.State.{State, Reader, ReadPlace, trail, cells_of, bound, catalog}
use Rattle.tt_model.specs.Checkpoint.{files_kept}
use Rattle.tt_model.specs.Step.{Step, is_refused}
use Rattle.tt_set.specs.declared.settings.Settings.{Settings}
use Rattle.tt_model.specs.Sets.{SetStanding}
use Rattle.tt_model.specs.System.{bookmark}
use Rattle.tt_model.specs.Prefix.{StandsForFirst}
use Rattle.tt_model.specs.Run.{Line, Run, FoundAfter, begun, ended}

-- ---- which log files are there

abbrev pub is_blocking : Result Command Refusal → Bool
is_blocking (Ok CkptBlocking) = true
is_blocking _ = false

-- A checkpoint completes in a round that finds one under way and leaves none, and in that of a blocking one that isn't refused.
abbrev pub completes : State → Result Command Refusal → Reply → State → Bool
completes s what reply after = (is_some s.underway && is_none after.underway) || (is_blocking what && not (is_refused reply))

-- After a completion the log files that are there are exactly those from the file of the least hold to the current one. In every
-- other round files are only added, and at the end of a run.
pub record LogFilesAreKept : Type 0 where
  pub completed : (s : State) (session : ℕ) (what : Result Command Refusal) (reply : Reply) (after : State) → Step s session what reply after →
      completes s what reply after ≡ true → (n : ℕ) → after.files n ≡ files_kept after n
  pub between : (s : State) (session : ℕ) (what : Result Command Refusal) (reply : Reply) (after : State) → Step s session what reply after →
      completes s what reply after ≡ false → (n : ℕ) → s.files n ≡ true → after.files n ≡ true
  pub end : (s : State) (n : ℕ) → s.files n ≡ true → ((ended s).1).files n ≡ true

-- ---- what a select depends on

-- A Change without its transaction's number.
pub record Made : Type 0 where
  pub place : ℕ
  pub before : Cell
  pub after : Cell

abbrev pub with_change : ℕ → Entry → List Made → List Made
with_change t (Change u p b a) changes = if nat_eq t u then record { place = p; before = b; after = a } ∷ changes else changes
with_change t _ changes = changes

-- The Changes of a transaction, the newest first.
abbrev pub changes_of : ℕ → Trail → List Made
changes_of t [] = []
changes_of t (e ∷ older) = with_change t e.entry (changes_of t older)

abbrev pub changes_by : Option ℕ → Trail → List Made
changes_by None trail = []
changes_by (Some t) trail = changes_of t trail

-- Two states look alike to a session: they agree in what is committed, place by place, in the settings, and in the session's own Changes.
pub record LookAlike (session : ℕ) (s other : State) : Type 0 where
  pub settings : s.settings ≡ other.settings
  pub cells : (q : ℕ) → cells_of s q ≡ cells_of other q
  pub own : changes_by (s.own session) s.entries ≡ changes_by (other.own session) other.entries

-- The same select of a session has the same answer in two sound states that look alike to it, unless one is answered that memory is wanting.
abbrev pub SelectsAreIsolated : Type 0
SelectsAreIsolated =
    (session : ℕ) (table : List ℕ) (items : Items) (cond : Option Cond) (order : List OrderItem) (s other : State) (reply other_reply : Reply) (after other_after : State)
    → IsSound s → IsSound other → LookAlike session s other
    → Step s session (Ok (Select table items cond order)) reply after → Step other session (Ok (Select table items cond order)) other_reply other_after
    → (reply ≡ Refused NoMemory) ⊎ ((other_reply ≡ Refused NoMemory) ⊎ (reply ≡ other_reply))

-- ---- the order in which a reader is given changes

-- What opening found stands in order, and before the end that it found.
pub record IsInOrder (found : Opened) : Type 0 where
  pub ordered : IsOrdered (position 0 0) found.entries
  pub before_end : position_le (trail_end (position 0 0) found.entries) found.end ≡ true

abbrev pub updates_in : Reply → List Update
updates_in (Updates us) = us
updates_in _ = []

abbrev pub is_read : Result Command Refusal → Bool
is_read (Ok (XlaNext n)) = true
is_read _ = false

-- What a line gave to a session's reader.
abbrev pub given_by : ℕ → Line → Reply → List Update
given_by session l reply = if nat_eq l.session session && is_read l.what then updates_in reply else []

-- What all reads of a session gave, joined.
abbrev pub all_given : ℕ → List Line → List Reply → List Update
all_given session (l ∷ ls) (r ∷ rs) = given_by session l r ++ all_given session ls rs
all_given session _ _ = []

-- A session has a reader open, on a bookmark with these subscriptions, and their tables have these names.
pub record IsReading (session : ℕ) (subscriptions : List Subscribed) (names : ℕ → List ℕ) (s : State) : Type 0 where
  pub reader : Reader
  pub is_open : s.reader session ≡ Some reader
  pub subscribed : subscriptions_of reader.bookmark (bound s) (cells_of s) ≡ subscriptions
  pub named : (table : ℕ) → list_any (λ x. nat_eq x.table table) subscriptions ≡ true → name_in (catalog s) table ≡ names table

-- A run in each state of which the session is reading.
abbrev pub RunReading : ℕ → List Subscribed → (ℕ → List ℕ) → State → List Line → List Reply → State → Type 0
RunReading session subscriptions names s [] [] after = (after ≡ s) × IsReading session subscriptions names s
RunReading session subscriptions names s (l ∷ ls) (r ∷ rs) after =
    IsReading session subscriptions names s × ((mid : State) × Step s l.session l.what r mid × RunReading session subscriptions names mid ls rs after)
RunReading session subscriptions names s [] (r ∷ rs) after = ⊥
RunReading session subscriptions names s (l ∷ ls) [] after = ⊥

-- What is due from a read place.
abbrev pub due_from : ReadPlace → List Subscribed → State → List Update
due_from place subscriptions s = map (λ d. d.given) (due place subscriptions (catalog s) (oldest s.forced (trail s)))

-- While a session reads, and its subscriptions stay as they are, what its reads gave, joined, is what is due from the place where
-- it began, up to some change: each once, and in order. A read that gives fewer than were wanted gave all that was due.
pub record ReadersGoInOrder : Type 0 where
  pub first : (session : ℕ) (subscriptions : List Subscribed) (names : ℕ → List ℕ) (s : State) (lines : List Line) (replies : List Reply) (after : State) (r : Reader) →
      IsSound s → IsInOrder s.found → s.reader session ≡ Some r → RunReading session subscriptions names s lines replies after →
      (more : List Update) × (due_from r.place subscriptions after ≡ all_given session lines replies ++ more)
  pub all : (session : ℕ) (subscriptions : List Subscribed) (names : ℕ → List ℕ) (s : State) (lines : List Line) (replies : List Reply) (mid : State) (r : Reader)
      (n : ℕ) (given : List Update) (after : State) → IsSound s → IsInOrder s.found → s.reader session ≡ Some r → RunReading session subscriptions names s lines replies mid →
      Step mid session (Ok (XlaNext n)) (Updates given) after → length given < n → due_from r.place subscriptions mid ≡ all_given session lines replies ++ given

-- ---- the bookmarks of readers

-- Sessions have the numbers 1 to 64.
abbrev pub IsSession : ℕ → Type 0
IsSession session = (1 ≤ session) × (session ≤ 64)

abbrev pub AreOfSessions : List Line → Type 0
AreOfSessions [] = Unit {0}
AreOfSessions (l ∷ ls) = IsSession l.session × AreOfSessions ls

-- Each open reader is a session's, and its bookmark is there.
abbrev pub ReadersHaveBookmarks : State → Type 0
ReadersHaveBookmarks s = (session : ℕ) (r : Reader) → s.reader session ≡ Some r → IsSession session × (is_some (bookmark r.bookmark s) ≡ true)

-- The bookmark of an open reader stays. So every state that lines of sessions lead to is sound.
pub record BookmarksStay : Type 0 where
  pub begun : (settings : Settings) (found : Opened) (files : ℕ → Bool) (sets : ℕ → Option SetStanding) → ReadersHaveBookmarks (begun settings found files sets)
  pub step : (s : State) (session : ℕ) (what : Result Command Refusal) (reply : Reply) (after : State) → IsSession session → IsSound s → ReadersHaveBookmarks s →
      Step s session what reply after → IsSound after × ReadersHaveBookmarks after
  pub run : (lines : List Line) (replies : List Reply) (s after : State) → AreOfSessions lines → IsSound s → ReadersHaveBookmarks s →
      Run s lines replies after → IsSound after × ReadersHaveBookmarks after

-- ---- who holds keys and unique values

abbrev pub Each : {X : Type 0} → (X → Type 0) → List X → Type 0
Each P [] = Unit {0}
Each P (x ∷ xs) = P x × Each P xs

-- Each key of a table has at most one live transaction that holds it, whatever its values.
abbrev pub HasKeysOnce : Trail → Table → Type 0
HasKeysOnce trail t = (values : List Value) → HasOneHolder (record { table = t.id; columns = t.key; values = values }) trail

-- So has each value of a unique index that has no Null.
abbrev pub HasValuesOnce : Trail → Index → Type 0
HasValuesOnce trail i =
    i.unique ≡ true → (values : List Value) → has_null values ≡ false → HasOneHolder (record { table = i.table; columns = i.columns; values = values }) trail

pub record HeldOnce (catalog : Catalog) (trail : Trail) : Type 0 where
  pub keys : Each (HasKeysOnce trail) catalog.tables
  pub values : Each (HasValuesOnce trail) catalog.indexes

-- A run begins with nobody who holds anything. Over each round, whatever its line, the keys and the unique values of all tables and
-- indexes that were there before it stay with at most one holder.
pub record HeldOnceStays : Type 0 where
  pub begun : (settings : Settings) (found : Opened) (files : ℕ → Bool) (sets : ℕ → Option SetStanding) (catalog : Catalog) → HeldOnce catalog ((begun settings found files sets).entries)
  pub step : (s : State) (session : ℕ) (what : Result Command Refusal) (reply : Reply) (after : State) → IsSound s → HeldOnce (catalog s) s.entries →
      Step s session what reply after → HeldOnce (catalog s) after.entries

-- So along a whole run, whatever its lines, each key and unique value of the tables and indexes which are there then has at most one
-- holder.
abbrev pub HeldOnceInRuns : Type 0
HeldOnceInRuns =
    (settings : Settings) (found : Opened) (files : ℕ → Bool) (sets : ℕ → Option SetStanding) (lines : List Line) (replies : List Reply) (after : State)
    → IsSound (begun settings found files sets) → AreOfSessions lines → Run (begun settings found files sets) lines replies after
    → HeldOnce (catalog after) after.entries

-- ---- the trail of a run

-- A state goes on from another: it has what was found there, and its new entries are those and newer ones; no less of the trail is forced.
pub record GoesOn (s after : State) : Type 0 where
  pub found : after.found ≡ s.found
  pub newer : Trail
  pub entries : after.entries ≡ newer ++ s.entries
  pub forced : s.forced ≤ length (trail s) → s.forced ≤ after.forced

-- So it is over each round, over each run, and at its end.
pub record TrailsGoOn : Type 0 where
  pub step : (s : State) (session : ℕ) (what : Result Command Refusal) (reply : Reply) (after : State) → Step s session what reply after → GoesOn s after
  pub run : (lines : List Line) (replies : List Reply) (s after : State) → Run s lines replies after → GoesOn s after
  pub end : (s : State) → GoesOn s ((ended s).1)

-- What is found after a run of sessions, whichever way it ended, stands for first entries of its trail: at least those that were forced behind
-- the stopped line where it was answered, and all that was forced behind the answered lines, as it stood there. Its end may be any that lets
-- the trail go on.
abbrev pub ForcedEntriesAreFound : Type 0
ForcedEntriesAreFound =
    (end : State → State) (begin : State) (lines : List Line) (replies : List Reply) (rest : List Line) (given : Option Reply) (f : Opened) (run : FoundAfter end begin lines replies rest given f)
    → ((s : State) → GoesOn s (end s)) → IsSound begin → ReadersHaveBookmarks begin → AreOfSessions lines
    → (n : ℕ) × StandsForFirst n run.last f × (run.state.forced ≤ run.least) × (run.least ≤ n) × (oldest run.state.forced (oldest n (trail run.last)) ≡ oldest run.state.forced (trail run.state))

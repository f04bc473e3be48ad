-- A whole run: how it begins, its lines, and its end.
use Rattle.std.specs.Prelude.{◌≡◌, ◌⊎◌, ℕ, ◌/◌, Bool, true, false, ◌&&◌, ◌||◌, nat_eq, nat_lt, nat_le, List, [], ◌∷◌, length, unwrap_or, Option, Some, None, Result, if◌then◌else◌}
use Rattle.std.specs.List.{list_any}
use Rattle.tt_value.specs.declared.refusal.Refusal.{Refusal}
use Rattle.tt_value.specs.declared.reply.Reply.{Reply}
use Rattle.tt_parse.specs.declared.command.Command.{Command}
use Rattle.tt_set.specs.declared.settings.Settings.{Settings}
use Rattle.tt_record.specs.declared.entry.Entry.{Entry}
use Rattle.tt_record.specs.declared.entry.Entry.TheVariants.{Change, Mark}
use Rattle.tt_model.specs.Trail.{Trail, since}
use Rattle.tt_model.specs.Live.{pages_named}
use Rattle.tt_model.specs.Opened.{Opened, Head, newest_of, first_head}
use Rattle.tt_model.specs.Sets.{SetStanding}
use Rattle.tt_model.specs.State.{State, with_entry, all_forced, live_in, lengths_fit, write_position}
use Rattle.tt_model.specs.Prefix.{StandsForPrefix}
use Rattle.tt_model.specs.Step.{Step, rolled_back, rollback_lengths}

-- The header of the newest whole file. Opening finds no database without one.
abbrev pub newest_head : (ℕ → Option Head) → Head
newest_head heads = unwrap_or (heads (newest_of heads)) (first_head 0 1)

abbrev pub names_page : ℕ → Entry → Bool
names_page page (Change t place b a) = nat_eq page (place / 32)
names_page page _ = false

-- At the start: of the newest file the pages that a Change from its scan position on touches and those past its count; of the
-- other all pages.
abbrev pub stale_at_start : ℕ → ℕ → ℕ → Trail → ℕ → ℕ → Bool
stale_at_start newest count pages entries file page =
    if nat_eq file newest
    then list_any (λ e. names_page page e.entry) entries || (nat_le count page && nat_lt page pages)
    else nat_lt page pages

-- The state of an engine that has just opened this, before its Mark.
abbrev pub opened : Settings → Opened → (ℕ → Bool) → (ℕ → Option SetStanding) → State
opened settings found files sets =
    let newest = newest_of found.heads in
    let head = newest_head found.heads in
    let entries = since head.scan found.entries in
    let pages = pages_named head.pages entries in
    record {
      settings = settings;
      found = found;
      entries = [];
      forced = length found.entries;
      own = λ session. None;
      wish = λ session. false;
      reader = λ session. None;
      heads = found.heads;
      newest = newest;
      stale = stale_at_start newest head.pages pages entries;
      pages = pages;
      underway = None;
      files = files;
      sets = sets;
      database = head.database;
    }

-- A run begins with one Mark.
unfoldable pub begun : Settings → Opened → (ℕ → Bool) → (ℕ → Option SetStanding) → State
begun settings found files sets = with_entry Mark (opened settings found files sets)

-- A line that isn't skipped.
pub record Line : Type 0 where
  pub session : ℕ
  pub what : Result Command Refusal

-- From a state, these lines may be answered so, and leave that state.
abbrev pub Run : State → List Line → List Reply → State → Type 0
Run s [] [] after = after ≡ s
Run s (l ∷ ls) (r ∷ rs) after = (mid : State) × Step s l.session l.what r mid × Run mid ls rs after
Run s [] (r ∷ rs) after = ⊥
Run s (l ∷ ls) [] after = ⊥

-- The end of a run rolls the live transactions back in ascending number. It stops where one has no place.
abbrev pub has_position : ℕ → State → Bool
has_position t s = lengths_fit s.settings.log_file_size (write_position s) (rollback_lengths t s)

-- No session has the transaction any longer.
abbrev pub without_own : ℕ → (ℕ → Option ℕ) → ℕ → Option ℕ
without_own t own session = elim (own session) [ None ↦ None | Some u ↦ if nat_eq t u then None else Some u ]

abbrev pub ended_one : ℕ → State → State
ended_one t s = record (rolled_back t s) { own = without_own t s.own }

abbrev pub roll_all : List ℕ → State → Bool × State
roll_all [] s = (true, all_forced s)
roll_all (t ∷ ts) s = elim (has_position t s) [ true ↦ roll_all ts (ended_one t s) | false ↦ (false, s) ]

-- A checkpoint under way is dropped.
unfoldable pub ended : State → Bool × State
ended s = roll_all (live_in s) (record s { underway = None })

-- ---- a run that ended, at whatever moment

-- The next line stopped: without its reply, or once its reply was given, in what the round does beside the line and behind it. In both
-- cases some first entries are found of what its round was to leave: at least those that were forced before the line; with the reply
-- at least those that were forced behind the line, before the completion.
abbrev pub StoppedIn : Option Reply → Line → State → State → ℕ → Type 0
StoppedIn None l s last least = ((reply : Reply) × Step s l.session l.what reply last) × (least ≡ s.forced)
StoppedIn (Some reply) l s last least = (round : Step s l.session l.what reply last) × (least ≡ (round.between).forced)

abbrev pub StoppedInNext : List Line → Option Reply → State → State → ℕ → Type 0
StoppedInNext [] given s last least = ⊥
StoppedInNext (l ∷ rest) given s last least = StoppedIn given l s last least

-- What a run was to leave when it ended, with the lines that were left: what its answered lines leave; or what the next line would leave,
-- which stopped; or, where no line was left, what its end would leave, which stopped or was done. What the end does is given, since a
-- crate may build it in parts.
abbrev pub WasToLeave : (State → State) → List Line → Option Reply → State → State → ℕ → Type 0
WasToLeave end rest given s last least =
    ((last ≡ s) × (given ≡ None) × (least ≡ s.forced))
    ⊎ (StoppedInNext rest given s last least ⊎ ((rest ≡ []) × (given ≡ None) × (last ≡ end s) × (least ≡ s.forced)))

-- What may be found after a run, whichever way it ended. From its begin the answered lines lead to a state; with the lines that were left it was
-- to leave a last state, and the stopped one may have been answered; what is found stands for the first entries of that state's trail, at least
-- as many as were forced.
pub record FoundAfter (end : State → State) (begin : State) (lines : List Line) (replies : List Reply) (rest : List Line) (given : Option Reply) (f : Opened) : Type 0 where
  pub state : State
  pub last : State
  pub least : ℕ
  pub run : Run begin lines replies state
  pub act : WasToLeave end rest given state last least
  pub found : StandsForPrefix least last f

-- What a reader is due, and where its read place goes.
use Rattle.std.specs.Prelude.{ℕ, suc, Bool, true, false, not, ◌&&◌, ◌||◌, nat_eq, nat_lt, List, [], ◌∷◌, ◌++◌, map, filter, length, option_map, unwrap_or, Option, Some, None, if◌then◌else◌}
use Rattle.std.specs.List.{list_any}
use Rattle.tt_value.specs.declared.value.Cell.{Cell}
use Rattle.tt_value.specs.declared.value.Cell.TheVariants.{Empty, Full}
use Rattle.tt_value.specs.declared.position.Position.{Position}
use Rattle.tt_value.specs.declared.reply.Edit.{Edit}
use Rattle.tt_value.specs.declared.reply.Edit.TheVariants.{Insert, Delete, Update as Updated}
use Rattle.tt_value.specs.declared.reply.Update.{Update}
use Rattle.tt_record.specs.declared.entry.Entry.{Entry}
use Rattle.tt_record.specs.declared.entry.Entry.TheVariants.{Change, Commit, Abort, Mark}
use Rattle.tt_model.specs.Trail.{Trail, Placed, position_lt, position_le, position_eq, placed_end, greatest_position, before}
use Rattle.tt_model.specs.Live.{ends}
use Rattle.tt_model.specs.Holds.{least_of}
use Rattle.tt_model.specs.Tables.{Subscribed, table_with, Catalog}
use Rattle.tt_model.specs.State.{ReadPlace}

-- A Change: its table's id and what it does.
pub record Done : Type 0 where
  pub table : ℕ
  pub edit : Edit

abbrev pub done : Cell → Cell → Option Done
done Empty (Full t new) = Some (record { table = t; edit = Insert new })
done (Full t old) Empty = Some (record { table = t; edit = Delete old })
done (Full t old) (Full u new) = Some (record { table = t; edit = Updated old new })
done Empty Empty = None

abbrev pub done_by : ℕ → Entry → Option Done
done_by t (Change u place b a) = if nat_eq t u then done b a else None
done_by t _ = None

abbrev pub with_done : Option Done → List Done → List Done
with_done None changes = changes
with_done (Some d) changes = changes ++ d ∷ []

-- The Changes of a transaction at or after a position with no end of it behind them, in order.
abbrev pub open_changes : Position → ℕ → Trail → List Done
open_changes hold t [] = []
open_changes hold t (e ∷ older) =
    if ends t e.entry then [] else with_done (if position_le hold e.at then done_by t e.entry else None) (open_changes hold t older)

-- A Change that is due: the count of Changes of its Commit up to it, the Commit's position and end, and what is given.
pub record DueChange : Type 0 where
  pub count : ℕ
  pub commit : Position
  pub end : Position
  pub given : Update

-- The changes with their counts, from n on.
abbrev pub counted : ℕ → List Done → List (ℕ × Done)
counted n [] = []
counted n (d ∷ ds) = (suc n, d) ∷ counted (suc n) ds

abbrev pub is_subscribed : List Subscribed → Position → (ℕ × Done) → Bool
is_subscribed subscriptions commit d = list_any (λ s. nat_eq s.table ((d.1).table) && position_le s.since commit) subscriptions

abbrev pub name_in : Catalog → ℕ → List ℕ
name_in catalog table = unwrap_or (option_map (λ t. t.name) (table_with table catalog)) []

-- The first and the last of the kept ones are marked.
abbrev pub is_last : List (ℕ × Done) → Bool
is_last [] = true
is_last (d ∷ ds) = false

abbrev pub marked : Catalog → ℕ → Placed → Bool → List (ℕ × Done) → List DueChange
marked catalog t e first [] = []
marked catalog t e first (d ∷ ds) =
    record {
      count = d.0;
      commit = e.at;
      end = placed_end e;
      given = record { first = first; last = is_last ds; transaction = t; table = name_in catalog ((d.1).table); edit = (d.1).edit };
    }
    ∷ marked catalog t e false ds

-- From the Commit at the read place itself the first of its Changes are left out.
abbrev pub after_skip : ReadPlace → DueChange → Bool
after_skip place d = not (position_eq d.commit place.at) || nat_lt place.skip d.count

-- What is due of one Commit: its transaction's Changes from the hold on are taken and numbered, those of subscribed tables are kept, the
-- first and the last of them are marked; and of the Commit at the read place those that were given are left out.
abbrev pub due_of : ReadPlace → List Subscribed → Catalog → Placed → Entry → Trail → List DueChange
due_of place subscriptions catalog e (Commit t) older =
    let taken = open_changes place.hold t older in
    let numbered = counted 0 taken in
    let kept = filter (is_subscribed subscriptions e.at) numbered in
    let given = marked catalog t e true kept in
    if position_le place.at e.at then filter (after_skip place) given else []
due_of place subscriptions catalog e _ older = []

-- All that is due in the forced part of a trail, in the order of the Commits.
unfoldable pub due : ReadPlace → List Subscribed → Catalog → Trail → List DueChange
due place subscriptions catalog [] = []
due place subscriptions catalog (e ∷ older) = due place subscriptions catalog older ++ due_of place subscriptions catalog e e.entry older

-- Where the open Changes at or after a hold stand: those with no end of their transaction behind them.
abbrev pub still_open : Entry → List (ℕ × Position) → List (ℕ × Position)
still_open (Commit t) rest = filter (λ (c : ℕ × Position). not (nat_eq (c.0) t)) rest
still_open (Abort t) rest = filter (λ (c : ℕ × Position). not (nat_eq (c.0) t)) rest
still_open Mark rest = []
still_open _ rest = rest

abbrev pub opened_by : Position → Placed → Entry → List (ℕ × Position)
opened_by hold e (Change t place b a) = if position_le hold e.at then (t, e.at) ∷ [] else []
opened_by hold e _ = []

unfoldable pub open_after : Position → Trail → List (ℕ × Position)
open_after hold [] = []
open_after hold (e ∷ older) = opened_by hold e e.entry ++ still_open e.entry (open_after hold older)

-- The hold once the position has moved.
abbrev pub next_hold : Position → Position → Trail → Position
next_hold hold at trail = greatest_position hold (least_of at (map (λ (c : ℕ × Position). c.1) (open_after hold (before at trail))))

abbrev pub read_at : ReadPlace → Position → ℕ → Trail → ReadPlace
read_at place at skip trail =
    if position_eq at place.at
    then record { at = at; skip = skip; hold = place.hold }
    else record { at = at; skip = skip; hold = next_hold place.hold at trail }

abbrev pub last_of : DueChange → List DueChange → DueChange
last_of d [] = d
last_of d (e ∷ es) = last_of e es

abbrev pub read_after : ReadPlace → Trail → DueChange → ReadPlace
read_after place trail d = if d.given.last then read_at place d.end 0 trail else read_at place d.commit d.count trail

-- The read place once n were wanted and these were given.
abbrev pub read_to : ReadPlace → ℕ → Position → Trail → List DueChange → ReadPlace
read_to place n force trail given =
    if nat_lt (length given) n
    then (if position_lt place.at force then read_at place force 0 trail else place)
    else elim given [ [] ↦ place | d ∷ ds ↦ read_after place trail (last_of d ds) ]

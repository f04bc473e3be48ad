-- Users' rows stay good from the beginning of a run on, over each round and at its end.
use Rattle.std.proofs.Common.{◌≡◌, ◌≤◌, ℕ, Bool, true, false, nat_eq, List, [], ◌∷◌, length, Option, Some, None, refl, sym, ap, ◌∙◌, subst, true≢false}
use Rattle.std.specs.Prelude.{Result, Ok, Err, bytes_eq}
use Rattle.std.specs.List.{list_any}
use Rattle.std.proofs.lemmas.Bool.{eq-eqb, or_left}
use Rattle.tt_value.specs.declared.refusal.Refusal.{Refusal}
use Rattle.tt_value.specs.declared.reply.Reply.{Reply}
use Rattle.tt_parse.specs.declared.command.Command.{Command}
use Rattle.tt_parse.specs.declared.command.Command.TheVariants.{CreateIndex}
use Rattle.tt_set.specs.declared.settings.Settings.{Settings}
use Rattle.tt_model.specs.Opened.{Opened}
use Rattle.tt_model.specs.Live.{is_live, live}
use Rattle.tt_model.specs.Sets.{SetStanding}
use Rattle.tt_model.specs.Tables.{Table, table_named}
use Rattle.tt_model.specs.Committed.{Cells, committed}
use Rattle.tt_model.specs.State.{State, all_forced, bound, catalog, cells_of, live_in, with_entry}
use Rattle.tt_model.specs.System.{meant_by_create_index}
use Rattle.tt_model.specs.Checkpoint.{with_copies}
use Rattle.tt_model.specs.Damage.{first_bad_catalog, first_bad_row}
use Rattle.tt_model.specs.Entries.{IsOfGrammar}
use Rattle.tt_model.specs.Sound.{IsSound}
use Rattle.tt_model.specs.Step.{Step}
use Rattle.tt_model.specs.Run.{begun, ended, ended_one, has_position, opened, roll_all}
use Rattle.tt_model.specs.WholeRuns.{HeldOnce, IsSession, ReadersHaveBookmarks}
use Rattle.tt_model.specs.GoodRows.{FirstPartsFit, HasFittingRows, UsersRowsStayGood}
use Rattle.tt_model.proofs.RowsCatalog.{HasGoodTables, good-tables}
use Rattle.tt_model.proofs.BookmarkLines.{bookmarks_stay}
use Rattle.tt_model.proofs.BoundLemmas.{LieBelow, first_bad_row-either}
use Rattle.tt_model.proofs.EndLemmas.{AreAscending, AreLive, ascending-live, live_in_entries, others_live, sound-ended, sound-ended_one}
use Rattle.tt_model.proofs.IsolationLemmas.{full-below}
use Rattle.tt_model.proofs.LineLemmas.{create_index_new}
use Rattle.tt_model.proofs.OneHolderRounds.{catalog-with_copies}
use Rattle.tt_model.proofs.OneHolderStatements.{each-found}
use Rattle.tt_model.proofs.SoundLines.{sound-with_copies}
use Rattle.tt_model.proofs.RowsFirstParts.{StateHas, adds-ended, adds-step, counts-from, counts-to}
use Rattle.tt_model.proofs.RowsIndexes.{create_index-leaves}
use Rattle.tt_model.proofs.RowsLines.{AnswerLeaves, leaves-step, ready-with_copies}
use Rattle.tt_model.proofs.RowsStates.{StandIn}
use Rattle.tt_model.proofs.RowsViews.{stand-from, stand-to}
use Rattle.tt_model.proofs.RowsWorks.{IsReady, leaves-rolled_back}

-- ---- the beginning

rows-begun : (settings : Settings) (found : Opened) (files : ℕ → Bool) (sets : ℕ → Option SetStanding) →
    first_bad_row (bound (opened settings found files sets)) found.cells ≡ None → HasFittingRows (begun settings found files sets)
unfolding begun with_entry committed live
rows-begun settings found files sets good = record {
  rows = good;
  seen = λ t l. absurd (true≢false (sym l));
  changes = λ t p b a newer older at l e. absurd (true≢false (sym l));
}

-- ---- each round

few_columns : (s : State) (name : List ℕ) (t : Table) → HasGoodTables (catalog s) → table_named name (catalog s) ≡ Some t → length t.columns ≤ 16
few_columns s name t g e = each-found (λ (x : Table). length x.columns ≤ 16) (λ (x : Table). bytes_eq x.name name) t (catalog s).tables g.columns e

index-leaves : (session : ℕ) (what : Result Command Refusal) (s : State) → IsOfGrammar what → IsReady s → HasGoodTables (catalog s) → AnswerLeaves session what s
unfolding meant_by_create_index
index-leaves session (Ok (CreateIndex name table columns unique)) s grammar r g = λ edits e.
    create_index-leaves session s name columns unique (table_named table (catalog s)) edits r (λ t f. few_columns s table t g f) (grammar.1)
    (create_index_new session s name table columns unique edits e) e
index-leaves session (Ok command) s grammar r g = tt
index-leaves session (Err x) s grammar r g = tt

rows-step : (s : State) (session : ℕ) (what : Result Command Refusal) (reply : Reply) (after : State) → IsSession session → IsOfGrammar what →
    IsSound s → ReadersHaveBookmarks s → HeldOnce (catalog s) s.entries → first_bad_catalog (bound s) (cells_of s) ≡ None → first_bad_catalog (bound after) (cells_of after) ≡ None → HasFittingRows s →
    Step s session what reply after → HasFittingRows after
rows-step s session what reply after is grammar h readers held good after_good f st =
    let g : HasGoodTables (catalog s) = good-tables (bound s) (cells_of s) good (λ q y. full-below s q h y) in
    let r : IsReady s = record { sound = h; held = held; own = g.numbers; stand = stand-from s h f } in
    let copied : IsSound (with_copies s) = sound-with_copies s h in
    let copied_good : HasGoodTables (catalog (with_copies s)) = subst HasGoodTables (sym (catalog-with_copies s)) g in
    let k : IsSound after = (bookmarks_stay.step s session what reply after is h readers st).0 in
    stand-to after k
    (leaves-step s session what reply after r copied (index-leaves session what (with_copies s) grammar (ready-with_copies s copied r) copied_good) st (good-tables (bound after) (cells_of after) after_good (λ q y. full-below after q k y)).numbers)

-- ---- the end

stand_step : (s : State) (next : Bool × State) → StandIn (catalog s) s → StandIn (catalog (next.1)) (next.1) → (c : Bool) →
    StandIn (catalog ((elim c as (λ x. Bool × State) [ true ↦ next | false ↦ (false, s) ]).1)) ((elim c as (λ x. Bool × State) [ true ↦ next | false ↦ (false, s) ]).1)
stand_step s next a b true = b
stand_step s next a b false = a

stand-roll_all : (ts : List ℕ) (s : State) → IsSound s → StandIn (catalog s) s → AreAscending ts → AreLive ts s → StandIn (catalog ((roll_all ts s).1)) ((roll_all ts s).1)
unfolding all_forced
stand-roll_all [] s h stand a l = stand
stand-roll_all (t ∷ ts) s h stand a l =
    let lives : is_live t s.entries ≡ true = l t (or_left (nat_eq t t) (list_any (nat_eq t) ts) (eq-eqb t t refl)) in
    stand_step s (roll_all ts (ended_one t s)) stand
    (stand-roll_all ts (ended_one t s) (sound-ended_one t s h lives) (leaves-rolled_back t s h stand lives) (a.1) (others_live t ts s a l)) (has_position t s)

rows-end : (s : State) → IsSound s → HasFittingRows s → HasFittingRows ((ended s).1)
unfolding ended
rows-end s h f =
    stand-to ((ended s).1) (sound-ended s h)
    (stand-roll_all (live_in s) (record s { underway = None }) (record { entries = h.entries; owned = h.owned; catalog = h.catalog }) (stand-from s h f)
    (subst AreAscending (sym (live_in_entries s h)) (ascending-live s.entries)) (λ u k. ap (list_any (nat_eq u)) (sym (live_in_entries s h)) ∙ k))

-- ---- first parts

-- No user's row is damaged, below any bound of the rows.
abbrev AreRight : Cells → Type 0
AreRight cells = (b : ℕ) → LieBelow b cells → first_bad_row b cells ≡ None

parts-from : (s : State) → FirstPartsFit s → StateHas AreRight s
parts-from s f = counts-to AreRight s (λ n l m b below. f n b l m below)

parts-to : (s : State) → StateHas AreRight s → FirstPartsFit s
parts-to s h n b l m below = counts-from AreRight s h n b below

right-from : (b : ℕ) (cells : Cells) → LieBelow b cells → first_bad_row b cells ≡ None → AreRight cells
right-from b cells below good c other = sym (first_bad_row-either b c cells below other) ∙ good

parts-begun : (settings : Settings) (found : Opened) (files : ℕ → Bool) (sets : ℕ → Option SetStanding) → IsSound (begun settings found files sets) →
    first_bad_row (bound (opened settings found files sets)) found.cells ≡ None → FirstPartsFit (begun settings found files sets)
unfolding begun with_entry committed
parts-begun settings found files sets h good =
    let s : State = begun settings found files sets in
    let right : AreRight found.cells = right-from (bound s) found.cells (λ q y. full-below s q h y) good in
    parts-to s (right, right)

settled-right : (s : State) → IsSound s → HasFittingRows s → AreRight (cells_of s)
settled-right s h f = right-from (bound s) (cells_of s) (λ q y. full-below s q h y) f.rows

pub users_rows_stay_good : UsersRowsStayGood
users_rows_stay_good = record {
  begun = λ settings found files sets h good. (rows-begun settings found files sets good, parts-begun settings found files sets h good);
  step = λ s session what reply after is grammar h readers held good after_good f parts st.
      let k : IsSound after = (bookmarks_stay.step s session what reply after is h readers st).0 in
      let rows : HasFittingRows after = rows-step s session what reply after is grammar h readers held good after_good f st in
      (rows, parts-to after (adds-step AreRight s session what reply after st (parts-from s parts) (settled-right after k rows)));
  end = λ s h f parts. (rows-end s h f, parts-to ((ended s).1) (adds-ended AreRight s (parts-from s parts)));
}

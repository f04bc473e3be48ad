-- No row is damaged by any line: system rows and users' rows, in each first part of the trail.
use Rattle.std.proofs.Common.{◌≡◌, ℕ, Bool, Option, Some, None, sym, ◌∙◌}
use Rattle.tt_set.specs.declared.settings.Settings.{Settings}
use Rattle.tt_model.specs.Committed.{Cells, committed}
use Rattle.tt_model.specs.Opened.{Opened}
use Rattle.tt_model.specs.Sets.{SetStanding}
use Rattle.tt_model.specs.State.{Underway, State, bound, cells_of, with_entry}
use Rattle.tt_model.specs.Checkpoint.{copied, with_copies}
use Rattle.tt_model.specs.Damage.{first_bad_catalog}
use Rattle.tt_model.specs.Entries.{HasKeptReaders, HasLogInRange}
use Rattle.tt_model.specs.GoodCatalog.{HasGoodCatalog}
use Rattle.tt_model.specs.GoodRows.{FirstPartsAreGood, FirstPartsFit, HasFittingRows, RowsStayGood}
use Rattle.tt_model.specs.Sound.{IsSound}
use Rattle.tt_model.specs.Run.{begun, ended, opened}
use Rattle.tt_model.proofs.BookmarkLines.{bookmarks_stay}
use Rattle.tt_model.proofs.BoundLemmas.{LieBelow, first_bad_catalog-either}
use Rattle.tt_model.proofs.GoodCells.{good-from}
use Rattle.tt_model.proofs.GoodDeletes.{HasGood, lies-below}
use Rattle.tt_model.proofs.GoodLaw.{catalog_stays_good}
use Rattle.tt_model.proofs.IsolationLemmas.{full-below}
use Rattle.tt_model.proofs.ReadersKept.{readers_kept-ended, readers_kept-step}
use Rattle.tt_model.proofs.RowsFirstParts.{StateHas, adds-ended, adds-step, counts-from, counts-to}
use Rattle.tt_model.proofs.RowsStay.{users_rows_stay_good}

-- ---- first parts

-- No system row is damaged, below any bound of the rows.
abbrev HasRightCatalog : Cells → Type 0
HasRightCatalog cells = (b : ℕ) → LieBelow b cells → first_bad_catalog b cells ≡ None

right_from : (b : ℕ) (cells : Cells) → LieBelow b cells → first_bad_catalog b cells ≡ None → HasRightCatalog cells
right_from b cells below good c other = sym (first_bad_catalog-either b c cells below other) ∙ good

state_right : (s : State) → IsSound s → HasGoodCatalog s → HasRightCatalog (cells_of s)
state_right s h g = right_from (bound s) (cells_of s) (λ q y. full-below s q h y) g

catalogs_of : (s : State) → FirstPartsAreGood s → StateHas HasRightCatalog s
catalogs_of s parts = counts-to HasRightCatalog s (λ n l m b below. (parts n b l m below).catalog)

rows_of_parts : (s : State) → FirstPartsAreGood s → FirstPartsFit s
rows_of_parts s parts n b l m below = (parts n b l m below).rows

parts_of : (s : State) → StateHas HasRightCatalog s → FirstPartsFit s → FirstPartsAreGood s
parts_of s catalogs rows n b l m below = record { catalog = counts-from HasRightCatalog s catalogs n b below; rows = rows n b l m below }

begun_catalogs : (settings : Settings) (found : Opened) (files : ℕ → Bool) (sets : ℕ → Option SetStanding) → HasRightCatalog found.cells → StateHas HasRightCatalog (begun settings found files sets)
unfolding begun with_entry committed
begun_catalogs settings found files sets right = (right, right)

begun_lies : (settings : Settings) (found : Opened) (files : ℕ → Bool) (sets : ℕ → Option SetStanding) → IsSound (begun settings found files sets) → LieBelow (bound (opened settings found files sets)) found.cells
unfolding begun with_entry committed
begun_lies settings found files sets h q y = full-below (begun settings found files sets) q h y

-- A run begins without a reader.
begun_readers : (settings : Settings) (found : Opened) (files : ℕ → Bool) (sets : ℕ → Option SetStanding) → HasKeptReaders (begun settings found files sets)
unfolding begun with_entry
begun_readers settings found files sets session r is = let no : ⊥ = cc in absurd no

-- ---- behind a round's copies

copied_range : (n : ℕ) (o : Option Underway) (s : State) → HasLogInRange s → HasLogInRange (copied n o s)
copied_range n None s h = h
copied_range n (Some b) s h = record { size = h.size; found = h.found; end = h.end; entries = h.entries }

copies_range : (s : State) → HasLogInRange s → HasLogInRange (with_copies s)
unfolding with_copies
copies_range s h = copied_range s.settings.ckpt_pages s.underway s h

copied_good : (n : ℕ) (o : Option Underway) (s : State) → HasGood s → HasGood (copied n o s)
copied_good n None s h = h
copied_good n (Some b) s h = h

copies_good : (s : State) → HasGood s → HasGood (with_copies s)
unfolding with_copies
copies_good s h = copied_good s.settings.ckpt_pages s.underway s h

-- ---- the law

pub rows_stay_good : RowsStayGood
rows_stay_good = record {
  begun = λ settings found files sets h good.
      let s : State = begun settings found files sets in
      let catalog_good : HasGoodCatalog s = catalog_stays_good.begun settings found files sets good.catalog in
      let rows : HasFittingRows s × FirstPartsFit s = users_rows_stay_good.begun settings found files sets h good.rows in
      let right = right_from (bound (opened settings found files sets)) found.cells (begun_lies settings found files sets h) good.catalog in
      record { catalog = catalog_good; rows = rows.0; parts = parts_of s (begun_catalogs settings found files sets right) (rows.1); readers = begun_readers settings found files sets };
  step = λ s session what reply after is grammar h log readers held good st.
      let catalog_after : HasGoodCatalog after = catalog_stays_good.step s session what reply after grammar h log good.readers good.catalog st in
      let rows : HasFittingRows after × FirstPartsFit after
      = users_rows_stay_good.step s session what reply after is grammar h readers held good.catalog catalog_after good.rows (rows_of_parts s good.parts) st in
      let sound : IsSound after = (bookmarks_stay.step s session what reply after is h readers st).0 in
      let has : HasGood s = good-from (bound s) (cells_of s) (lies-below s h) good.catalog in
      record {
        catalog = catalog_after;
        rows = rows.0;
        parts = parts_of after (adds-step HasRightCatalog s session what reply after st (catalogs_of s good.parts) (state_right after sound catalog_after)) (rows.1);
        readers = readers_kept-step s session what reply after (copies_range s log) (copies_good s has) good.readers st;
      };
  end = λ s h good.
      let rows : HasFittingRows ((ended s).1) × FirstPartsFit ((ended s).1) = users_rows_stay_good.end s h good.rows (rows_of_parts s good.parts) in
      record {
        catalog = catalog_stays_good.end s h good.catalog;
        rows = rows.0;
        parts = parts_of ((ended s).1) (adds-ended HasRightCatalog s (catalogs_of s good.parts)) (rows.1);
        readers = readers_kept-ended s good.readers;
      };
}

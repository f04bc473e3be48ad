-- Users' rows stand good by the catalog exactly where no row is damaged in what is committed and in what live transactions see.
use Rattle.std.proofs.Common.{◌≡◌, ◌<◌, inl, inr, ℕ, true, [], ◌∷◌, ◌++◌, map, Option, refl, sym, ap, ◌∙◌, subst, lit<}
use Rattle.std.specs.Prelude.{filter_map, option_map}
use Rattle.std.proofs.lemmas.Bool.{cases_Bool, eqb-true, eq-eqb}
use Rattle.tt_value.specs.declared.value.Cell.{Cell}
use Rattle.tt_value.specs.declared.position.Position.{Position}
use Rattle.tt_record.specs.declared.entry.Entry.{Entry}
use Rattle.tt_record.specs.declared.entry.Entry.TheVariants.{Change, Commit, Abort, Mark, Switch}
use Rattle.tt_model.specs.Trail.{Trail, Placed}
use Rattle.tt_model.specs.Committed.{Cells, changed_by, is_full}
use Rattle.tt_model.specs.Live.{is_live, numbers_below, touched}
use Rattle.tt_model.specs.Tables.{Catalog, PlacedRow, by_number, catalog_of, index_of, row_in, rows_of, table_of}
use Rattle.tt_model.specs.State.{State, bound, catalog, cells_of}
use Rattle.tt_model.specs.Sound.{IsSound, whole_table}
use Rattle.tt_model.specs.GoodRows.{FitsIn, HasFittingRows}
use Rattle.tt_model.proofs.SteadyLemmas.{at_place, changed_by-untouched}
use Rattle.tt_model.proofs.GrowLemmas.{assoc}
use Rattle.tt_model.proofs.IsolationLemmas.{full-below, touched-below_bound}
use Rattle.tt_model.proofs.TableRows.{left-none, place_none, row_none}
use Rattle.tt_model.proofs.RowsFit.{HasEntry, HaveChanges, view-has}
use Rattle.tt_model.proofs.RowsGood.{IsGoodIn, good-from, good-to}
use Rattle.tt_model.proofs.RowsStates.{StandIn}

-- ---- the catalog of alike cells

pub rows-alike : (table bound : ℕ) (c d : Cells) → ((q : ℕ) → row_in table (d q) ≡ row_in table (c q)) → rows_of table bound d ≡ rows_of table bound c
unfolding rows_of
rows-alike table bound c d h = ap (λ (g : ℕ → Option PlacedRow). filter_map g (numbers_below bound)) (λ i q. option_map (λ row. (q, row)) (h q i))

pub catalog-alike : (bound : ℕ) (c d : Cells) → ((table q : ℕ) → table < 16 → row_in table (d q) ≡ row_in table (c q)) → catalog_of bound d ≡ catalog_of bound c
unfolding catalog_of
catalog-alike bound c d h = λ i. record {
  tables = map (table_of (rows-alike 2 bound c d (λ q. h 2 q (lit< tt)) i)) (by_number 0 (rows-alike 1 bound c d (λ q. h 1 q (lit< tt)) i));
  indexes = map index_of (by_number 0 (rows-alike 3 bound c d (λ q. h 3 q (lit< tt)) i));
}

-- ---- what a live transaction sees

module _ (s : State) (t : ℕ) (h : IsSound s) (l : is_live t s.entries ≡ true) where
  abbrev view : Cells
  view = changed_by t s.entries (cells_of s)

  -- It has the system's rows that are committed.
  pub system-seen : (table q : ℕ) → table < 16 → row_in table (view q) ≡ row_in table (cells_of s q)
  system-seen table q low = elim (cases_Bool (touched t q s.entries)) [
    | inl y ↦
        row_none table (view q) (left-none (whole_table table) t q s.entries (cells_of s) ((h.catalog).users t table l low) (place_none s t q table h l low y))
        ∙ sym (row_none table (cells_of s q) (place_none s t q table h l low y))
    | inr n ↦ ap (row_in table) (changed_by-untouched t q s.entries (cells_of s) n)
  ]

  pub catalog-seen : catalog_of (bound s) (changed_by t s.entries (cells_of s)) ≡ catalog s
  catalog-seen = catalog-alike (bound s) (cells_of s) view system-seen

  pub live-below : (q : ℕ) → is_full (changed_by t s.entries (cells_of s) q) ≡ true → q < bound s
  live-below q y = elim (cases_Bool (touched t q s.entries)) [
    | inl k ↦ touched-below_bound s t q h l k
    | inr n ↦ full-below s q h (ap is_full (sym (changed_by-untouched t q s.entries (cells_of s) n)) ∙ y)
  ]

-- ---- rows of live Changes

entry_of : (P : Cell → Type 0) (t : ℕ) (all newer older : Trail) (e : Placed) → all ≡ newer ++ e ∷ older →
    ((p : ℕ) (b a : Cell) (newer older : Trail) (at : Position) → all ≡ newer ++ at_place at (Change t p b a) ∷ older → P b × P a) →
    (x : Entry) → e.entry ≡ x → HasEntry P t x
entry_of P t all newer older e same f (Change u p b a) is = λ y.
    f p b a newer older e.at
    (same ∙ ap (λ (z : Entry). newer ++ at_place e.at z ∷ older) (is ∙ ap (λ (v : ℕ). Change v p b a) (sym (eqb-true t u y))))
entry_of P t all newer older e same f (Commit u) is = tt
entry_of P t all newer older e same f (Abort u) is = tt
entry_of P t all newer older e same f Mark is = tt
entry_of P t all newer older e same f (Switch n) is = tt

changes-from : (P : Cell → Type 0) (t : ℕ) (all newer es : Trail) → all ≡ newer ++ es →
    ((p : ℕ) (b a : Cell) (newer older : Trail) (at : Position) → all ≡ newer ++ at_place at (Change t p b a) ∷ older → P b × P a) → HaveChanges P t es
changes-from P t all newer [] same f = tt
changes-from P t all newer (e ∷ es) same f = (
  entry_of P t all newer es e same f e.entry refl,
  changes-from P t all (newer ++ e ∷ []) es (same ∙ sym (assoc newer (e ∷ []) es)) f,
)

changes-to : (P : Cell → Type 0) (t p : ℕ) (b a : Cell) (newer older : Trail) (at : Position) → HaveChanges P t (newer ++ at_place at (Change t p b a) ∷ older) → P b × P a
changes-to P t p b a [] older at h = (h.0) (eq-eqb t t refl)
changes-to P t p b a (e ∷ es) older at h = changes-to P t p b a es older at (h.1)

-- ---- both forms

pub stand-from : (s : State) → IsSound s → HasFittingRows s → StandIn (catalog s) s
stand-from s h f =
    let settled : IsGoodIn (catalog s) (cells_of s) = good-from (bound s) (cells_of s) f.rows (λ q y. full-below s q h y) in
    record {
      fits = record {
        settled = settled.fits;
        changes = λ t l. changes-from (FitsIn (catalog s)) t s.entries [] s.entries refl (λ p b a newer older at e. f.changes t p b a newer older at l e);
      };
      once = λ name u. record {
        settled = settled.once name u;
        seen = λ t l.
            (subst (λ (c : Catalog). IsGoodIn c (changed_by t s.entries (cells_of s))) (catalog-seen s t h l)
            (good-from (bound s) (changed_by t s.entries (cells_of s)) (f.seen t l) (live-below s t h l))).once name u;
      };
    }

pub stand-to : (s : State) → IsSound s → StandIn (catalog s) s → HasFittingRows s
stand-to s h stand = record {
  rows = good-to (bound s) (cells_of s) (record { fits = (stand.fits).settled; once = λ name u. (stand.once name u).settled });
  seen = λ t l.
      good-to (bound s) (changed_by t s.entries (cells_of s))
      (subst (λ (c : Catalog). IsGoodIn c (changed_by t s.entries (cells_of s))) (sym (catalog-seen s t h l))
      (record {
        fits = λ q. view-has (FitsIn (catalog s)) t q s.entries (cells_of s) ((stand.fits).changes t l) ((stand.fits).settled q);
        once = λ name u. (stand.once name u).seen t l;
      }));
  changes = λ t p b a newer older at l e.
      changes-to (FitsIn (catalog s)) t p b a newer older at (subst (λ (es : Trail). HaveChanges (FitsIn (catalog s)) t es) e ((stand.fits).changes t l));
}

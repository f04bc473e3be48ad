-- Entries that keep the log sound.
use Rattle.std.proofs.Common.{◌≡◌, ◌≤◌, ◌<◌, ◌+◌, ◌*◌, ◌/◌, inl, inr, ℕ, suc, Bool, true, false, not, cond, ◌||◌, nat_eq, List, [], ◌∷◌, ◌++◌, length, filter, max, refl, sym, ap, ◌∙◌, arith, le_refl, lit<, true≢false}
use Rattle.std.proofs.lemmas.Bool.{eqb-true, cases_Bool, or_cases, or_parts, or_left, or_right, both_ways}
use Rattle.std.proofs.lemmas.List.Folds.{list_any-append}
use Rattle.std.proofs.Math.Nat.{lt-mul-div-succ}
use Rattle.tt_value.specs.declared.position.Position.{Position}
use Rattle.std.specs.List.{list_any}
use Rattle.tt_value.specs.declared.value.Cell.{Cell}
use Rattle.tt_record.specs.Entry.{length_of}
use Rattle.tt_record.specs.declared.entry.Entry.{Entry}
use Rattle.tt_record.specs.declared.entry.Entry.TheVariants.{Change, Commit, Abort, Mark, Switch}
use Rattle.tt_model.specs.Trail.{Trail}
use Rattle.tt_model.specs.Committed.{Cells, committed, changed_by, is_full}
use Rattle.tt_model.specs.Live.{live, live_after, is_live, touched, names, in_use, without_number}
use Rattle.tt_model.specs.Steady.{MayChange, MayAbort}
use Rattle.tt_model.specs.State.{State, trail, is_used, write_position, placed, with_entry, all_forced}
use Rattle.tt_model.specs.Sound.{is_mark, has_mark, IsSoundLog, MayWrite}
use Rattle.tt_model.proofs.SteadyLemmas.{at_place, changed_by-untouched}
use Rattle.tt_model.proofs.AppendLemmas.{forced_for-most, forced_for-least}
use Rattle.tt_model.proofs.HolderLemmas.{has_one, in_use-Change}
use Rattle.tt_model.proofs.NumberLemmas.{next-untouched}
use Rattle.tt_model.proofs.PositionLemmas.{next_place-onward}

-- ---- what stands before a Mark

marked_step : (x : Entry) (us vs : List ℕ) (more : Bool) → (is_mark x || more) ≡ true → (more ≡ true → us ≡ vs) → live_after x us ≡ live_after x vs
marked_step (Change t p b a) us vs more h ih = ap (live_after (Change t p b a)) (ih h)
marked_step (Commit t) us vs more h ih = ap (live_after (Commit t)) (ih h)
marked_step (Abort t) us vs more h ih = ap (live_after (Abort t)) (ih h)
marked_step Mark us vs more h ih = refl
marked_step (Switch n) us vs more h ih = ih h

-- Behind a Mark just the new entries say who is live.
pub live-marked : (es older : Trail) → has_mark es ≡ true → live (es ++ older) ≡ live es
unfolding live
live-marked [] older h = absurd (true≢false (sym h))
live-marked (e ∷ es) older h = marked_step e.entry (live (es ++ older)) (live es) (has_mark es) h (live-marked es older)

pub is_live-marked : (t : ℕ) (es older : Trail) → has_mark es ≡ true → is_live t (es ++ older) ≡ is_live t es
is_live-marked t es older h = ap (list_any (nat_eq t)) (live-marked es older h)

pub touched-trail : (t q : ℕ) (es older : Trail) → touched t q es ≡ true → touched t q (es ++ older) ≡ true
touched-trail t q es older h = list_any-append (λ e. names t q e.entry) es older ∙ or_left (touched t q es) (touched t q older) h

pub untouched-trail : (t q : ℕ) (es older : Trail) → touched t q (es ++ older) ≡ false → touched t q es ≡ false
untouched-trail t q es older h = (or_parts (touched t q es) (touched t q older) (sym (list_any-append (λ e. names t q e.entry) es older) ∙ h)).0

-- Who may write and isn't live has touched no place.
pub writes_fresh : (t q : ℕ) (s : State) → has_mark s.entries ≡ true → MayWrite t s → is_live t (trail s) ≡ false → touched t q (trail s) ≡ false
writes_fresh t q s m (inl l) n = absurd (both_ways (is_live t (trail s)) n (is_live-marked t s.entries s.found.entries m ∙ l))
writes_fresh t q s m (inr e) n = ap (λ x. touched x q (trail s)) e ∙ next-untouched s.found.next q (trail s)

-- ---- places in use

fewer_step : (f g : ℕ → Bool) (u : ℕ) (us : List ℕ) → (list_any f (filter g us) ≡ true → list_any f us ≡ true) →
    (b : Bool) → list_any f (cond b (u ∷ filter g us) (filter g us)) ≡ true → (f u || list_any f us) ≡ true
fewer_step f g u us ih true h = elim (or_cases (f u) (list_any f (filter g us)) h) [
  | inl y ↦ or_left (f u) (list_any f us) y
  | inr y ↦ or_right (f u) (list_any f us) (ih y)
]
fewer_step f g u us ih false h = or_right (f u) (list_any f us) (ih h)

pub fewer : (f g : ℕ → Bool) (us : List ℕ) → list_any f (filter g us) ≡ true → list_any f us ≡ true
fewer f g [] h = h
fewer f g (u ∷ us) h = fewer_step f g u us (fewer f g us) (g u) h

abbrev pub touchers : ℕ → Trail → ℕ → Bool
touchers q all t = touched t q all

-- A Commit brings no place into use.
used-Commit : (t q : ℕ) (es older : Trail) (cells : Cells) (at : Position) → is_live t (es ++ older) ≡ true →
    in_use (changed_by t es cells) (at_place at (Commit t) ∷ (es ++ older)) q ≡ true → in_use cells (es ++ older) q ≡ true
unfolding in_use live
used-Commit t q es older cells at l h = elim (or_cases (is_full (changed_by t es cells q)) (list_any (touchers q (es ++ older)) (without_number t (live (es ++ older)))) h) [
  | inl y ↦ elim (cases_Bool (touched t q es)) [
    | inl k ↦ or_right (is_full (cells q)) (list_any (touchers q (es ++ older)) (live (es ++ older)))
        (has_one (touchers q (es ++ older)) t (live (es ++ older)) l (touched-trail t q es older k))
    | inr n ↦ or_left (is_full (cells q)) (list_any (touchers q (es ++ older)) (live (es ++ older)))
        (ap is_full (sym (changed_by-untouched t q es cells n)) ∙ y)
  ]
  | inr y ↦ or_right (is_full (cells q)) (list_any (touchers q (es ++ older)) (live (es ++ older)))
      (fewer (touchers q (es ++ older)) (λ u. not (nat_eq t u)) (live (es ++ older)) y)
]

-- Neither does an Abort.
used-Abort : (t q : ℕ) (all : Trail) (cells : Cells) (at : Position) → in_use cells (at_place at (Abort t) ∷ all) q ≡ true → in_use cells all q ≡ true
unfolding in_use live
used-Abort t q all cells at h = elim (or_cases (is_full (cells q)) (list_any (touchers q all) (without_number t (live all))) h) [
  | inl y ↦ or_left (is_full (cells q)) (list_any (touchers q all) (live all)) y
  | inr y ↦ or_right (is_full (cells q)) (list_any (touchers q all) (live all)) (fewer (touchers q all) (λ u. not (nat_eq t u)) (live all) y)
]

pub in_page : (p pages : ℕ) → p < 32 * max (suc (p / 32)) pages
in_page p pages = let h : p < 32 * (p / 32 + 1) = lt-mul-div-succ p (lit< tt) in omega (arith, h)

used_now : (p q pages : ℕ) (c : Bool) → nat_eq q p ≡ c → (u : Bool) → (u ≡ true → q < 32 * pages) → (c || u) ≡ true → q < 32 * max (suc (p / 32)) pages
used_now p q pages true e u before h =
    let same : q ≡ p = eqb-true q p e in
    let there : p < 32 * max (suc (p / 32)) pages = in_page p pages in
    omega (arith, same, there)
used_now p q pages false e u before h = let there : q < 32 * pages = before h in omega (arith, there)

-- ---- one more entry

forced_least_still : (e : Entry) (s : State) → IsSoundLog s.found s.entries s.forced s.pages → length s.found.entries ≤ (with_entry e s).forced
unfolding with_entry
forced_least_still e s h =
    let onward : s.forced ≤ (with_entry e s).forced
    = forced_for-least s.settings.log_file_size s.settings.log_buf_size (length_of e) (write_position s) (trail s) s.forced h.forced_most in
    let least : length s.found.entries ≤ s.forced = h.forced_least in
    omega (arith, onward, least)

forced_most_still : (e : Entry) (s : State) → IsSoundLog s.found s.entries s.forced s.pages → (with_entry e s).forced ≤ suc (length (trail s))
unfolding with_entry
forced_most_still e s h =
    let most : (with_entry e s).forced ≤ length (trail s)
    = forced_for-most s.settings.log_file_size s.settings.log_buf_size (length_of e) (write_position s) (trail s) s.forced h.forced_most in
    omega (arith, most)

abbrev pub LogOf : State → Type 0
LogOf s = IsSoundLog s.found s.entries s.forced s.pages

pub log-Change : (t p : ℕ) (b a : Cell) (s : State) → LogOf s → MayWrite t s → MayChange s.found.cells s.entries t p b → LogOf (with_entry (Change t p b a) s)
unfolding with_entry committed
log-Change t p b a s h w m = record {
  grown = (m, h.grown);
  marked = h.marked;
  ordered = (next_place-onward (write_position s) (length_of (Change t p b a)) s.settings.log_file_size, h.ordered);
  forced_least = forced_least_still (Change t p b a) s h;
  forced_most = forced_most_still (Change t p b a) s h;
  below = λ q k. used_now p q s.pages (nat_eq q p) refl (is_used s q) (h.below q)
      (sym (in_use-Change t p q b a ((placed (Change t p b a) s).at) (committed s.found.cells s.entries) (trail s) (writes_fresh t q s h.marked w)) ∙ k);
}

pub log-Commit : (t : ℕ) (s : State) → LogOf s → is_live t s.entries ≡ true → LogOf (with_entry (Commit t) s)
unfolding with_entry committed
log-Commit t s h l = record {
  grown = (l, h.grown);
  marked = h.marked;
  ordered = (next_place-onward (write_position s) (length_of (Commit t)) s.settings.log_file_size, h.ordered);
  forced_least = forced_least_still (Commit t) s h;
  forced_most = forced_most_still (Commit t) s h;
  below = λ q k. h.below q
      (used-Commit t q s.entries s.found.entries (committed s.found.cells s.entries) ((placed (Commit t) s).at) (is_live-marked t s.entries s.found.entries h.marked ∙ l) k);
}

pub log-Abort : (t : ℕ) (s : State) → LogOf s → MayAbort s.found.cells s.entries t → LogOf (with_entry (Abort t) s)
unfolding with_entry committed
log-Abort t s h m = record {
  grown = (m, h.grown);
  marked = h.marked;
  ordered = (next_place-onward (write_position s) (length_of (Abort t)) s.settings.log_file_size, h.ordered);
  forced_least = forced_least_still (Abort t) s h;
  forced_most = forced_most_still (Abort t) s h;
  below = λ q k. h.below q (used-Abort t q (trail s) (committed s.found.cells s.entries) ((placed (Abort t) s).at) k);
}

pub log-all_forced : (s : State) → LogOf s → LogOf (all_forced s)
unfolding all_forced
log-all_forced s h = record {
  grown = h.grown;
  marked = h.marked;
  ordered = h.ordered;
  forced_least = let least : length s.found.entries ≤ s.forced = h.forced_least in let most : s.forced ≤ length (trail s) = h.forced_most in omega (arith, least, most);
  forced_most = le_refl (length (trail s));
  below = h.below;
}

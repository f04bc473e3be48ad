-- What a pass over a log has read, and what it recovers.
use Rattle.std.proofs.Common.{◌≡◌, ◌+◌, ℕ, zero, suc, Bool, true, List, [], ◌∷◌, ◌++◌, Result, Ok, Err, refl, sym, ap, ◌∙◌, subst}
use Rattle.std.specs.Prelude.{IsOk}
use Rattle.tt_disk.specs.declared.volume.Name.TheVariants.{Log as LogFile}
use Rattle.tt_disk.specs.Volume.{Files}
use Rattle.tt_value.specs.declared.position.Position.{Position}
use Rattle.tt_record.specs.declared.entry.Entry.{Entry}
use Rattle.tt_record.specs.Place.{position}
use Rattle.tt_log.specs.declared.refusal.LogRefusal.{LogRefusal}
use Rattle.tt_log.specs.Walk.{LogContents as Read, Part, file_read, on_part, walk, log_of}
use Rattle.tt_log.specs.Opening.{is_place, has_place, where_place, started}
use Rattle.tt_log.specs.Log.{entries_in, forced_of, walk_end, unforced, write_position_of, first_file_of}
use Rattle.tt_model.specs.Trail.{Trail}
use Rattle.tt_model.specs.Committed.{no_cells}
use Rattle.tt_model.specs.Live.{next_number}
use Rattle.tt_model.specs.Standing.{standing}
use Rattle.tt_recover.specs.declared.progress.Progress.{Progress}
use Rattle.tt_recover.specs.declared.recovery.Recovered.{Recovered}
use Rattle.tt_recover.specs.Opening.{laid_on, newest_first, opened_from, opened_of, opening}
use Rattle.tt_recover.specs.Progress.{HasRead}
use Rattle.tt_recover.specs.Recovery.{IsRecovered}
use Rattle.tt_recover.specs.Replay.{cell_shown}

-- ---- the log from its beginning on

first_place : (es : List Entry) → is_place 0 es ≡ true
first_place [] = refl
first_place (e ∷ es) = refl

where_true : (p : Position) (b : Bool) (r : Result Read LogRefusal) → b ≡ true → where_place p b r ≡ r
where_true p b (Ok read) is = ap (λ (c : Bool). where_place p c (Ok read)) is
where_true p b (Err e) is = refl

begun_on : (p : Position) (n : ℕ) (part : Part) (more : Result Read LogRefusal) → where_place p (has_place 0 part) (on_part n part more) ≡ on_part n part more
begun_on p n (Ok part) more = where_true p (is_place 0 part.0) (on_part n (Ok part) more) (first_place part.0)
begun_on p n (Err e) more = refl

begun_walk : (p : Position) (most n : ℕ) (files : Files) → where_place p (has_place 0 (file_read n (files (LogFile n)))) (walk most n files) ≡ walk most n files
begun_walk p zero n files = refl
begun_walk p (suc most) n files = begun_on p n (file_read n (files (LogFile n))) (walk most (n + 1) files)

-- the start of a log is always a place
pub begun_log : (files : Files) → started (position 0 0) files ≡ log_of 0 files
unfolding log_of
begun_log files = begun_walk (position 0 0) 1000000 0 files

-- ---- one more entry is read

laid_behind : (t : Trail) (ps : List (Position × Entry)) (p : Position × Entry) → laid_on t (ps ++ p ∷ []) ≡ record { at = p.0; entry = p.1 } ∷ laid_on t ps
laid_behind t [] p = refl
laid_behind t (q ∷ ps) p = laid_behind (record { at = q.0; entry = q.1 } ∷ t) ps p

pub read_one : (progress progress' : Progress) (ps : List (Position × Entry)) (at : Position) (entry : Entry) → HasRead progress (newest_first ps)
    → ((trail : Trail) → HasRead progress trail → HasRead progress' (record { at = at; entry = entry } ∷ trail)) → HasRead progress' (newest_first (ps ++ (at, entry) ∷ []))
read_one progress progress' ps at entry read takes = subst (HasRead progress') (sym (laid_behind [] ps (at, entry))) (takes (newest_first ps) read)

-- ---- what is recovered

recovers_by : (x : Result Read LogRefusal) (r : Recovered) (old now : Files) → IsOk x → log_of 0 old ≡ x → log_of (first_file_of r.log) now ≡ x
    → ((q : ℕ) → cell_shown r.rows.items q ≡ standing no_cells (newest_first (forced_of r.log now)) q) → r.next_transaction ≡ next_number 1 (newest_first (forced_of r.log now))
    → write_position_of r.log ≡ walk_end (log_of (first_file_of r.log) now) → unforced r.log ≡ [] → IsRecovered r old now
unfolding opening
recovers_by (Ok read) r old now whole is same cells next end none = record {
  found = opened_from (newest_first read.entries) read.end;
  is = ap opened_of is;
  cells = λ q. cells q ∙ ap (λ (s : Result Read LogRefusal). standing no_cells (newest_first (entries_in s)) q) same;
  next = next ∙ ap (λ (s : Result Read LogRefusal). next_number 1 (newest_first (entries_in s))) same;
  end = end ∙ ap walk_end same;
  entries = ap (λ (s : Result Read LogRefusal). newest_first (entries_in s)) same;
  none = none;
}
recovers_by (Err e) r old now whole is same cells next end none = absurd (let bad = whole in cc)

pub recovers : (r : Recovered) (old now : Files) → IsOk (log_of (first_file_of r.log) now) → log_of (first_file_of r.log) now ≡ log_of 0 old
    → ((q : ℕ) → cell_shown r.rows.items q ≡ standing no_cells (newest_first (forced_of r.log now)) q) → r.next_transaction ≡ next_number 1 (newest_first (forced_of r.log now))
    → write_position_of r.log ≡ walk_end (log_of (first_file_of r.log) now) → unforced r.log ≡ [] → IsRecovered r old now
recovers r old now whole same cells next end none = recovers_by (log_of 0 old) r old now (subst (λ (x : Result Read LogRefusal). IsOk x) same whole) refl same cells next end none

pub refused_opening : (files : Files) (e : LogRefusal) → started (position 0 0) files ≡ Err e → opening files ≡ Err e
unfolding opening
refused_opening files e is = ap opened_of (sym (begun_log files) ∙ is)

-- The engine with which a run begins.
use Rattle.std.proofs.Common.{◌≡◌, ◌⊎◌, inl, inr, ap₂, Some, ◌-◌, ◌*◌, ◌||◌, ◌∙◌, ℕ, ℤ, suc, nat_eq, Bool, true, false, List, [], ◌∷◌, length, drop, Option, None, Result, Ok, Err, if◌then◌else◌, refl, sym, ap, subst, append-nil, arith}
use Rattle.std.specs.List.{list_any}
use Rattle.std.proofs.Math.Seq.{drop-nil}
use Rattle.tt_value.specs.declared.position.Position.{Position}
use Rattle.tt_record.specs.declared.entry.Entry.TheVariants.{Mark}
use Rattle.tt_set.specs.declared.settings.Settings.{Settings}
use Rattle.tt_log.specs.declared.log.Log.{Log}
use Rattle.tt_log.specs.declared.refusal.LogRefusal.{LogRefusal}
use Rattle.tt_log.specs.Walk.{LogContents as Read, log_of, with_more}
use Rattle.tt_disk.specs.Volume.{Keeps, Files, Outcomes}
use Rattle.tt_log.specs.Log.{IsOpen, CrashLeavesForced, CrashLeavesLog, entries_in, forced_of, unforced, write_position_of, first_file_of, force_position_of, file_size_of, buffer_size_of}
use Rattle.tt_model.specs.Trail.{Trail, Placed, oldest, trail_end}
use Rattle.tt_model.specs.Committed.{Cells, committed, is_full, no_cells}
use Rattle.tt_model.specs.Live.{in_use, live, next_number, numbers_below, pages_named}
use Rattle.tt_model.specs.Opened.{Opened}
use Rattle.tt_model.specs.Run.{begun, opened}
use Rattle.tt_model.specs.Sets.{SetStanding}
use Rattle.tt_model.specs.Standing.{standing}
use Rattle.tt_model.specs.Tables.{rows_of}
use Rattle.tt_model.specs.State.{State, bound, is_used, next, placed, view, with_entry, scan_held}
use Rattle.tt_recover.specs.declared.recovery.Recovered.{Recovered}
use Rattle.tt_recover.specs.declared.replay.RecoveredRow.{RecoveredRow}
use Rattle.tt_recover.specs.Opening.{opened_from, newest_first, opening}
use Rattle.tt_recover.specs.Recovery.{IsRecovered}
use Rattle.tt_recover.specs.Replay.{AreInOrder, cell_shown}
use Rattle.tt_engine.specs.declared.engine.Engine.{Engine}
use Rattle.tt_engine.specs.declared.memory.Memory.{Memory}
use Rattle.tt_engine.specs.declared.rows.Rows.{Rows}
use Rattle.tt_model.specs.StepLaws.{AreNumberedFrom}
use Rattle.tt_model.specs.Steady.{IsGrown}
use Rattle.tt_engine.specs.Engine.{Represents}
use Rattle.tt_engine.specs.Memory.{FillsPlaces, HoldRows, IsAlone}
use Rattle.tt_engine.specs.Rows.{HaveFound, has_found_key, has_place}
use Rattle.tt_journal.specs.LogTrail.{HasTrail, LeavesPrefix}
use Rattle.tt_engine.specs.Overs.{IsOver}
use Rattle.tt_engine.specs.PrefixLaws.{number_again, prefix_opens, since_origin}
use Rattle.tt_engine.specs.Prefixes.{IsBehindFound, LeavesOpening}
use Rattle.tt_engine.specs.Request.{sees_key}
use Rattle.tt_engine.specs.Refusal.{refusal_of}
use Rattle.tt_engine.specs.Starts.{IsRefusedSo, UnlessFailed, are_there, begun_over, database, opened_in}
use Rattle.tt_engine.specs.declared.refusal.OpenRefusal.{OpenRefusal}
use Rattle.tt_engine.specs.declared.refusal.OpenRefusal.TheVariants.{NoDatabase, Damaged, LogOut, Failed, NoMemory}
use Rattle.tt_log.specs.declared.refusal.LogRefusal.TheVariants as log
use Rattle.tt_disk.specs.declared.volume.Name.{Name}
use Rattle.tt_disk.specs.declared.volume.Name.TheVariants.{Log as LogFile}
use Rattle.tt_record.specs.Entry.{length_of}
use Rattle.tt_record.specs.Place.{position_of, position}
use Rattle.std.specs.Prelude.{IfErr, IsSome, is_some, IsTrue, OnOk, option_map, ◌↔◌}
use Rattle.tt_engine.specs.OpeningLaws.{found_is, read_is, same_ok}
use Rattle.tt_engine.proofs.PlaceLemmas.{any_here, any_found, any_row, in_cell, same_test}
use Rattle.tt_engine.proofs.CommitLemmas.{none_filled}
use Rattle.tt_engine.proofs.FoundLemmas.{found_key, full_below, shown_full, shown_key}
use Rattle.tt_journal.proofs.TrailLemmas.{left_forced, oldest_all, oldest_more}

-- ---- the state before the Mark, and behind it

abbrev no_sets : ℕ → Option SetStanding
no_sets set = None

abbrev before_mark : Settings → Files → Trail → Position → State
before_mark settings files es end = opened settings (opened_from es end) (are_there files) no_sets

start_pages : (settings : Settings) (files : Files) (es : Trail) (end : Position) → (before_mark settings files es end).pages ≡ pages_named 0 es
start_pages settings files es end = ap (pages_named 0) (since_origin es)

more_none : (r : Result Read LogRefusal) → entries_in (with_more [] r) ≡ entries_in r
more_none (Ok read) = append-nil read.entries
more_none (Err e) = refl

-- the log that was opened stands for the trail before the Mark
pub opened_trail : (r : Recovered) (settings : Settings) (old now : Files) (es : Trail) (end : Position) → newest_first (forced_of r.log now) ≡ es → write_position_of r.log ≡ end → unforced r.log ≡ []
    → first_file_of r.log ≡ 0 → force_position_of r.log ≡ write_position_of r.log → file_size_of r.log ≡ settings.log_file_size → buffer_size_of r.log ≡ settings.log_buf_size → ((n : Name) → now n ≡ old n) → HasTrail r.log now (before_mark settings old es end)
opened_trail r settings old now es end entries write none first force file_size buffer reads = record {
  first = first;
  entries = ap (λ w. newest_first (entries_in (with_more w (log_of (first_file_of r.log) now)))) none ∙ ap newest_first (more_none (log_of (first_file_of r.log) now)) ∙ entries;
  forced = entries ∙ sym (oldest_all es);
  bounds = (omega arith, omega arith);
  write = write;
  force = force ∙ write ∙ sym (none_new end);
  files = λ k. ap is_some (reads (LogFile k));
  sizes = (file_size, buffer);
}
  where
    none_new : (end : Position) → trail_end end (oldest (length es - length es) []) ≡ end
    none_new end = ap (λ l. trail_end end l) (drop-nil (length {A = Placed} [] - (length es - length es)))

begun_used : (settings : Settings) (files : Files) (es : Trail) (end : Position) (q : ℕ) → is_used (begun settings (opened_from es end) (are_there files) no_sets) q ≡ is_full (standing no_cells es q)
unfolding begun with_entry in_use committed live
begun_used settings files es end q = or_none (is_full (standing no_cells es q))
  where
    or_none : (b : Bool) → (b || false) ≡ b
    or_none true = refl
    or_none false = refl

begun_pages : (settings : Settings) (files : Files) (es : Trail) (end : Position) → (begun settings (opened_from es end) (are_there files) no_sets).pages ≡ pages_named 0 es
unfolding begun with_entry
begun_pages settings files es end = start_pages settings files es end

begun_alone : (settings : Settings) (files : Files) (es : Trail) (end : Position) → IsAlone None (begun settings (opened_from es end) (are_there files) no_sets)
unfolding begun with_entry live
begun_alone settings files es end = record { new_live = refl; all_live = refl; sessions = λ session. by None (nat_eq session 1) }
  where
    by : (o : Option ℕ) (c : Bool) → o ≡ (if c then o else o)
    by o true = refl
    by o false = refl

begun_next : (settings : Settings) (files : Files) (es : Trail) (end : Position) → next (begun settings (opened_from es end) (are_there files) no_sets) ≡ next_number 1 es
unfolding begun with_entry next_number
begun_next settings files es end = let again = number_again es in omega (arith, again)

begun_grown : (settings : Settings) (files : Files) (es : Trail) (end : Position) →
    IsGrown ((begun settings (opened_from es end) (are_there files) no_sets).found.cells) ((begun settings (opened_from es end) (are_there files) no_sets).entries)
    × AreNumberedFrom ((begun settings (opened_from es end) (are_there files) no_sets).found.next) ((begun settings (opened_from es end) (are_there files) no_sets).entries)
unfolding begun with_entry
begun_grown settings files es end = ((tt, tt), (tt, tt))

begun_view : (settings : Settings) (files : Files) (es : Trail) (end : Position) → view 1 (begun settings (opened_from es end) (are_there files) no_sets) ≡ standing no_cells es
unfolding begun with_entry committed
begun_view settings files es end = refl

begun_sees : (settings : Settings) (files : Files) (es : Trail) (end : Position) (k : ℤ) → sees_key k (begun settings (opened_from es end) (are_there files) no_sets)
    ≡ list_any (λ q. in_cell k (standing no_cells es q)) (numbers_below (32 * pages_named 0 es))
unfolding rows_of
begun_sees settings files es end k =
    any_row k (view 1 (begun settings (opened_from es end) (are_there files) no_sets)) (numbers_below (bound (begun settings (opened_from es end) (are_there files) no_sets)))
    ∙ ap (λ (cells : Cells). list_any (λ q. in_cell k (cells q)) (numbers_below (bound (begun settings (opened_from es end) (are_there files) no_sets)))) (begun_view settings files es end)
    ∙ ap (λ n. list_any (λ q. in_cell k (standing no_cells es q)) (numbers_below (32 * n))) (begun_pages settings files es end)

-- the rows that were found are those of the state
begun_rows : (settings : Settings) (files : Files) (es : Trail) (end : Position) (rows : Rows) (found : List RecoveredRow) → HaveFound rows found → AreInOrder found
    → ((q : ℕ) → cell_shown found q ≡ standing no_cells es q) → HoldRows rows (begun settings (opened_from es end) (are_there files) no_sets)
begun_rows settings files es end rows found have order cells =
    let s = begun settings (opened_from es end) (are_there files) no_sets in
    let used : (q : ℕ) → is_used s q ≡ has_place found q = λ q. begun_used settings files es end q ∙ ap is_full (sym (cells q)) ∙ shown_full found q in
    record {
      keys = λ k. have.keys k ∙ same_test (has_found_key found k) (list_any (λ q. in_cell k (standing no_cells es q)) (numbers_below (32 * pages_named 0 es))) (to k) (from k) ∙ sym (begun_sees settings files es end k);
      below = λ q low. used q ∙ have.below q low;
      free = λ inside. used rows.free ∙ have.free inside;
      above = λ q high. have.places q ∙ sym (used q);
    }
  where
    to : (k : ℤ) → has_found_key found k ≡ true → list_any (λ q. in_cell k (standing no_cells es q)) (numbers_below (32 * pages_named 0 es)) ≡ true
    to k is =
        let at = found_key k found order is in
        let full : is_full (standing no_cells es at.place) ≡ true = ap is_full (sym (cells at.place)) ∙ shown_full found at.place ∙ at.there in
        let low = full_below es at.place full in
        any_here (λ q. in_cell k (standing no_cells es q)) (32 * pages_named 0 es) 0 at.place (omega arith) (omega (arith, low)) (ap (in_cell k) (sym (cells at.place)) ∙ at.is)

    from : (k : ℤ) → list_any (λ q. in_cell k (standing no_cells es q)) (numbers_below (32 * pages_named 0 es)) ≡ true → has_found_key found k ≡ true
    from k is =
        let at = any_found (λ q. in_cell k (standing no_cells es q)) (32 * pages_named 0 es) 0 is in
        shown_key k found at.place (ap (in_cell k) (cells at.place) ∙ at.is)

begun_wish : (settings : Settings) (files : Files) (es : Trail) (end : Position) → (begun settings (opened_from es end) (are_there files) no_sets).wish 1 ≡ false
unfolding begun with_entry
begun_wish settings files es end = refl

begun_settings : (settings : Settings) (files : Files) (es : Trail) (end : Position) → (begun settings (opened_from es end) (are_there files) no_sets).settings.durable_commits ≡ settings.durable_commits
unfolding begun with_entry
begun_settings settings files es end = refl

begun_opened : (settings : Settings) (files : Files) (es : Trail) (end : Position) →
    (begun settings (opened_from es end) (are_there files) no_sets).found
    ≡ opened_from ((begun settings (opened_from es end) (are_there files) no_sets).found.entries) ((begun settings (opened_from es end) (are_there files) no_sets).found.end)
unfolding begun with_entry
begun_opened settings files es end = refl

begun_origin : (settings : Settings) (files : Files) (es : Trail) (end : Position) → scan_held (begun settings (opened_from es end) (are_there files) no_sets) 0 ≡ Some (position 0 0)
unfolding begun with_entry
begun_origin settings files es end = refl

pub stands_begun : (e : Engine) (settings : Settings) (old now : Files) (es : Trail) (end : Position) (found : List RecoveredRow) → HasTrail e.log now (with_entry Mark (before_mark settings old es end))
    → e.memory.durable_commits ≡ settings.durable_commits → e.memory.next_transaction ≡ next_number 1 es → e.memory.transaction ≡ None → e.memory.next_commit_durable ≡ false → HaveFound e.memory.rows found → AreInOrder found
    → ((q : ℕ) → cell_shown found q ≡ standing no_cells es q) → Represents e now (begun_over settings old (opened_from es end))
unfolding begun
stands_begun e settings old now es end found log durable number own wish have order cells =
    let s = begun settings (opened_from es end) (are_there old) no_sets in
    let grown = begun_grown settings old es end in
    record {
      log = log;
      memory = record {
        grown = grown.0;
        numbered = grown.1;
        opened = begun_opened settings old es end;
        origin = begun_origin settings old es end;
        below = λ q is. let low = full_below es q (sym (begun_used settings old es end q) ∙ is) in let pages = begun_pages settings old es end in omega (arith, low, pages);
        alone = subst (λ o. IsAlone o s) (sym own) (begun_alone settings old es end);
        filled = subst (λ o. FillsPlaces o s) (sym own) (none_filled s);
        next = number ∙ sym (begun_next settings old es end);
        wish = wish ∙ sym (begun_wish settings old es end);
        durable = durable ∙ sym (begun_settings settings old es end);
        rows = begun_rows settings old es end e.memory.rows found have order cells;
      };
    }

-- ---- what a crash leaves before and in the Mark

pub begun_prefix : (settings : Settings) (old : Files) (found : Opened) (may : Outcomes) → opening old ≡ Ok found → CrashLeavesLog 0 (log_of 0 old) may → LeavesPrefix (length found.entries) (begun_over settings old found) may
unfolding begun with_entry
begun_prefix settings old found may is leaves files left =
    let read = read_is old found is in
    let x = placed Mark (opened settings found (are_there old) no_sets) in (
      length found.entries,
      omega arith,
      record {
        most = let more : length (x ∷ found.entries) ≡ suc (length found.entries) = refl in omega (arith, more);
        found = read.read;
        is = leaves files left ∙ read.is;
        entries = read.entries ∙ sym (oldest_more (length found.entries) x found.entries (omega arith) ∙ oldest_all found.entries);
        end = inl (read.end ∙ sym (none_new x found.end (length found.entries)));
      },
    )
  where
    none_new : (x : Placed) (end : Position) (n : ℕ) → trail_end end (oldest (n - n) (x ∷ [])) ≡ end
    none_new x end n = let zero_more : length (x ∷ []) - (n - n) ≡ 1 = omega arith in ap (λ k. trail_end end (drop k (x ∷ []))) zero_more

begun_behind : (settings : Settings) (old : Files) (found : Opened) → found ≡ opened_from found.entries found.end → IsBehindFound (begun_over settings old found)
unfolding begun with_entry
begun_behind settings old found is = record { found = is; grown = (tt, tt); numbered = (tt, tt) }

begun_found : (settings : Settings) (old : Files) (found : Opened) → (begun_over settings old found).found ≡ found
unfolding begun with_entry
begun_found settings old found = refl

-- so opening finds what it found, perhaps with the Mark
pub begun_opens : (settings : Settings) (old : Files) (found : Opened) (may : Outcomes) → opening old ≡ Ok found → LeavesPrefix (length found.entries) (begun_over settings old found) may
    → LeavesOpening (length found.entries) (begun_over settings old found) may
begun_opens settings old found may is leaves =
    prefix_opens (length found.entries) (begun_over settings old found) may (begun_behind settings old found (found_is old found is))
    (let same = ap (λ (f : Opened). length f.entries) (begun_found settings old found) in omega (arith, same)) leaves

-- in the Mark
pub mark_prefix : (settings : Settings) (old : Files) (found : Opened) (may : Outcomes) → LeavesPrefix (length found.entries) (with_entry Mark (opened settings found (are_there old) no_sets)) may → LeavesPrefix (length found.entries) (begun_over settings old found) may
unfolding begun
mark_prefix settings old found may leaves = leaves

-- ---- over what was recovered

same_found : (r : Result Opened LogRefusal) (a b : Opened) → r ≡ Ok a → r ≡ Ok b → a ≡ b
same_found r a b is_a is_b = same_ok a b r r is_a is_b refl

-- what recovering gave, and the engine over it
pub record IsReady (settings : Settings) (old mid : Files) (r : Recovered) (e : Engine) : Type 0 where
  pub recovered : IsRecovered r old mid
  pub over : IsOver settings r e
  pub first : first_file_of r.log ≡ 0
  pub force : force_position_of r.log ≡ write_position_of r.log
  pub sizes : (file_size_of r.log ≡ settings.log_file_size) × (buffer_size_of r.log ≡ settings.log_buf_size)
  pub reads : (n : Name) → mid n ≡ old n

abbrev entries_of_log : Recovered → Files → Trail
entries_of_log r now = newest_first (forced_of r.log now)

made_of : (settings : Settings) (old mid : Files) (r : Recovered) (e : Engine) → IsReady settings old mid r e → (found : Opened) → opening old ≡ Ok found → opened_from (entries_of_log r mid) (write_position_of r.log) ≡ found
made_of settings old mid r e ready found is =
    let got = ready.recovered in
    ap (λ es. opened_from es (write_position_of r.log)) got.entries ∙ ap (λ at. opened_from got.found.entries at) got.end ∙ sym (found_is old got.found got.is) ∙ same_found (opening old) got.found found got.is is

pub mark_ready : (settings : Settings) (old mid : Files) (r : Recovered) (e : Engine) → IsReady settings old mid r e → (found : Opened) → opening old ≡ Ok found → HasTrail e.log mid (opened settings found (are_there old) no_sets)
mark_ready settings old mid r e ready found is =
    subst (λ (l : Log). HasTrail l mid (opened settings found (are_there old) no_sets)) (sym ready.over.log)
    (subst (λ (f : Opened). HasTrail r.log mid (opened settings f (are_there old) no_sets)) (made_of settings old mid r e ready found is)
    (opened_trail r settings old mid (entries_of_log r mid) (write_position_of r.log) refl refl ready.recovered.none ready.first ready.force ready.sizes.0 ready.sizes.1 ready.reads))

pub mark_stands : (settings : Settings) (old mid now : Files) (r : Recovered) (e e' : Engine) → IsReady settings old mid r e → AreInOrder r.rows.items → (found : Opened) → opening old ≡ Ok found
    → HasTrail e'.log now (with_entry Mark (opened settings found (are_there old) no_sets)) → e'.memory ≡ e.memory
    → Represents e' now (begun_over settings old found)
mark_stands settings old mid now r e e' ready order found is log same =
    let got = ready.recovered in
    let es = entries_of_log r mid in
    let made = made_of settings old mid r e ready found is in
    let got_is = same_found (opening old) got.found found got.is is in
    let o = ready.over in
    subst (λ (f : Opened). Represents e' now (begun_over settings old f)) made
    (stands_begun e' settings old now es (write_position_of r.log) r.rows.items
    (subst (λ (f : Opened). HasTrail e'.log now (with_entry Mark (opened settings f (are_there old) no_sets))) (sym made) log)
    (ap (λ (m : Memory). m.durable_commits) same ∙ o.durable) (ap (λ (m : Memory). m.next_transaction) same ∙ o.next ∙ got.next ∙ ap (λ (f : Opened). f.next) got_is ∙ sym (ap (λ (f : Opened). f.next) made)) (ap (λ (m : Memory). m.transaction) same ∙ o.own) (ap (λ (m : Memory). m.next_commit_durable) same ∙ o.wish)
    (subst (λ (w : Rows). HaveFound w r.rows.items) (sym (ap (λ (m : Memory). m.rows) same)) o.rows) order
    (λ q. got.cells q ∙ ap (λ (f : Opened). f.cells q) got_is ∙ sym (ap (λ (f : Opened). f.cells q) made)))

-- ---- what a crash leaves

pub still_leaves : (old new : Files) (may may' : Outcomes) → Keeps old new may may' → (r : Result Read LogRefusal) → CrashLeavesLog 0 r may → CrashLeavesLog 0 r may'
still_leaves old new may may' keeps r leaves files left = leaves files (λ n. keeps.crash (LogFile n) (files (LogFile n)) (left n))

pub marked_prefix : (log : Log) (now : Files) (may may' : Outcomes) (settings : Settings) (old : Files) (found : Opened) → IsOpen log now may → HasTrail log now (with_entry Mark (opened settings found (are_there old) no_sets))
    → CrashLeavesForced log now may' → LeavesPrefix (length found.entries) (begun_over settings old found) may'
unfolding begun with_entry
marked_prefix log now may may' settings old found o h leaves files left =
    ((with_entry Mark (opened settings found (are_there old) no_sets)).forced, h.bounds.0, left_forced log now may may' (with_entry Mark (opened settings found (are_there old) no_sets)) o h leaves files left)

-- ---- where the Mark stands, and what stays

pub mark_placed : (settings : Settings) (old mid : Files) (r : Recovered) (e : Engine) → IsReady settings old mid r e → (found : Opened) → opening old ≡ Ok found → (b : Bool)
    → (IsTrue b ↔ IsSome (position_of (write_position_of e.log) (length_of Mark) (file_size_of e.log))) → b ≡ true → IsSome (position_of found.end (length_of Mark) settings.log_file_size)
mark_placed settings old mid r e ready found is b iff there =
    let h = mark_ready settings old mid r e ready found is in
    subst (λ (k : ℕ). IsSome (position_of found.end (length_of Mark) k)) h.sizes.0 (subst (λ (p : Position). IsSome (position_of p (length_of Mark) (file_size_of e.log))) h.write (iff.0 there))

-- a database whose first log file is there is refused as its log is
pub refused_there : (settings : Settings) (old : Files) (e : LogRefusal) → IsSome (old (LogFile 0)) → (e ≡ log.Failed) ⊎ ((e ≡ log.NoMemory) ⊎ (opening old ≡ Err e)) → IsRefusedSo settings old (refusal_of e)
refused_there settings old e there why = by (old (LogFile 0)) refl there e why
  where
    by : (o : Option (List ℕ)) → old (LogFile 0) ≡ o → IsSome o → (e : LogRefusal) → (e ≡ log.Failed) ⊎ ((e ≡ log.NoMemory) ⊎ (opening old ≡ Err e)) → IsRefusedSo settings old (refusal_of e)
    by (Some f) file some (log.Gap n) (inr (inr is)) = ap₂ opened_in file is
    by (Some f) file some (log.BadBatch n at) (inr (inr is)) = ap₂ opened_in file is
    by (Some f) file some (log.Gap n) (inr (inl is)) = cc
    by (Some f) file some (log.BadBatch n at) (inr (inl is)) = cc
    by (Some f) file some (log.Gap n) (inl is) = cc
    by (Some f) file some (log.BadBatch n at) (inl is) = cc
    by (Some f) file some log.Failed why = tt
    by (Some f) file some log.NoMemory why = tt
    by None file some e why = cc

pub no_database : (old : Files) → old (LogFile 0) ≡ None → database old ≡ Err NoDatabase
no_database old none = ap (λ (o : Option (List ℕ)). opened_in o (opening old)) none

pub found_not_damaged : (old : Files) (found : Opened) (e : LogRefusal) → opening old ≡ Ok found → opening old ≡ Err e → ⊥
found_not_damaged old found e is other = let bad : ⊥ = cc in bad

-- a file that was sized and isn't there
pub no_file : (o : Option (List ℕ)) → None ≡ option_map length o → o ≡ None
no_file None is = refl
no_file (Some f) is = cc

pub on_ok : {T E : Type 0} (r : Result T E) (P Q : Type 0) → (P → Q) → OnOk r P → OnOk r Q
on_ok (Ok x) P Q f p = f p
on_ok (Err e) P Q f p = tt

pub on_refusal : {T : Type 0} (r : Result T OpenRefusal) (P Q : Type 0) → (P → Q) → IfErr r (λ e. UnlessFailed e P) → IfErr r (λ e. UnlessFailed e Q)
on_refusal (Ok x) P Q f p = tt
on_refusal (Err NoDatabase) P Q f p = f p
on_refusal (Err (Damaged d)) P Q f p = f p
on_refusal (Err LogOut) P Q f p = f p
on_refusal (Err Failed) P Q f p = tt
on_refusal (Err NoMemory) P Q f p = f p

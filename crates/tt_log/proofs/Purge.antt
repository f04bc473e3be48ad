-- Log files that are removed.
use Rattle.std.proofs.Common.{◌≡◌, ◌≤◌, ◌<◌, ◌+◌, ◌-◌, ◌&&◌, ℕ, zero, suc, List, take, filter, refl, sym, ap, ◌∙◌, subst, Bool, true, false, arith, Result, Ok, Err, nat_le, nat_lt, if◌then◌else◌}
use Rattle.std.proofs.lemmas.Bool.Decides.{nat_tests}
use Rattle.tt_disk.specs.declared.volume.Name.{Name}
use Rattle.tt_log.proofs.Sums.{not_le}
use Rattle.tt_disk.specs.declared.volume.Name.TheVariants.{Log as LogFile}
use Rattle.tt_log.specs.declared.refusal.LogRefusal.{LogRefusal}
use Rattle.tt_log.specs.Walk.{LogContents, file_read, on_part, walk, log_of, since, is_since, no_switch}
use Rattle.tt_record.specs.Place.{position}
use Rattle.tt_log.specs.Log.{MayLeaveLogs, CrashLeavesLog, IsOpen, is_between, OnlyBetween, walk_end, entries_in, or_none, unforced}
use Rattle.tt_log.proofs.Crash.{same_in}
use Rattle.std.specs.Prelude.{IsOk}
use Rattle.tt_disk.specs.Volume.{Files, Outcomes}
use Rattle.tt_gate.specs.Gate.{gated}
use Rattle.tt_gate.specs.GateFile.{IsReady}
use Rattle.tt_record.specs.declared.entry.Entry.{Entry}
use Rattle.tt_record.specs.Read.{entries_of}
use Rattle.tt_record.specs.Entry.{IsBody}
use Rattle.tt_log.specs.Lengths.{total}
use Rattle.tt_log.specs.declared.log.Log.{Log}
use Rattle.tt_log.proofs.Forcing.{IsFound}
use Rattle.tt_log.proofs.Later.{log_from_later}

-- the files of a range as they were, the others as given
abbrev put_range : ℕ → ℕ → Files → Files → Files
put_range from end old files n = if is_between from end n then old n else files n

range_left : (from end : ℕ) (old files : Files) (may : Outcomes) → ((n : Name) → may n (old n)) → ((k : ℕ) → is_between from end (LogFile k) ≡ false → may (LogFile k) (files (LogFile k))) → MayLeaveLogs may (put_range from end old files)
range_left from end old files may reads others k = by_test (is_between from end (LogFile k)) refl
  where
    by_test : (b : Bool) → is_between from end (LogFile k) ≡ b → may (LogFile k) (if b then old (LogFile k) else files (LogFile k))
    by_test true test = reads (LogFile k)
    by_test false test = others k test

range_apart : (from end : ℕ) (old files : Files) (n : Name) → is_between from end n ≡ false → put_range from end old files n ≡ files n
range_apart from end old files n out = ap (λ (b : Bool). if b then old n else files n) out

pub out_low : (from end k : ℕ) → k < from → is_between from end (LogFile k) ≡ false
out_low from end k low = ap (λ (b : Bool). b && nat_lt k end) (not_le from k low)

and_false : (b : Bool) → (b && false) ≡ false
and_false true = refl
and_false false = refl

pub out_high : (from end k : ℕ) → end ≤ k → is_between from end (LogFile k) ≡ false
out_high from end k high = ap (λ (b : Bool). nat_le from k && b) (not_lt k end high) ∙ and_false (nat_le from k)
  where
    not_lt : (a b : ℕ) → b ≤ a → nat_lt a b ≡ false
    not_lt a b below = grind (arith, nat_tests)

walk_above : (most k : ℕ) (files others : Files) → ((j : ℕ) → k ≤ j → others (LogFile j) ≡ files (LogFile j)) → walk most k others ≡ walk most k files
walk_above zero k files others same = refl
walk_above (suc most) k files others same =
    ap (λ o. on_part k (file_read k o) (walk most (k + 1) others)) (same k (omega arith)) ∙ ap (on_part k (file_read k (files (LogFile k)))) (walk_above most (k + 1) files others (λ j le. same j (omega (arith, le))))

pub log_above : (k : ℕ) (files others : Files) → ((j : ℕ) → k ≤ j → others (LogFile j) ≡ files (LogFile j)) → log_of k others ≡ log_of k files
unfolding log_of
log_above k files others same = walk_above (1000000 - k) k files others same

pub log_later : (first k m : ℕ) (files : Files) (found : LogContents) → first ≤ k → k ≤ m → log_of first files ≡ Ok found → found.end.file ≡ m → log_of k files ≡ since k (Ok found)
log_later first k m files found low high is at = log_from_later first k files found low (omega (arith, high, at)) is

-- what is left of a log from a later file on
pub record Shrunk (first k : ℕ) (old new : Files) (may may' : Outcomes) : Type 0 where
  pub now : log_of k new ≡ since k (log_of first old)
  pub crash : CrashLeavesLog first (log_of first old) may → CrashLeavesLog k (since k (log_of first old)) may'

pub below_gone : (first k m base file : ℕ) (old new : Files) (may may' : Outcomes) → IsFound (log_of first old) m base → first ≤ k → file ≤ k → k ≤ m → m < 1000000 → ((n : Name) → may n (old n)) → OnlyBetween 0 file old new may may' → Shrunk first k old new may may'
below_gone first k m base file old new may may' f low above high top reads only = record {
  now = log_above k old new (λ j le. only.reads (LogFile j) (out_high 0 file j (omega (arith, le, above)))) ∙ log_later first k m old f.found low high f.is f.at ∙ ap (since k) (sym f.is);
  crash = λ kept files left.
      let files' = put_range 0 file old files in
      let former : log_of first files' ≡ Ok f.found = kept files' (range_left 0 file old files may reads (λ j out. only.crash (LogFile j) out (files (LogFile j)) (left j))) ∙ f.is in
      log_above k files' files (λ j le. sym (range_apart 0 file old files (LogFile j) (out_high 0 file j (omega (arith, le, above)))))
      ∙ log_later first k m files' f.found low high former f.at ∙ ap (since k) (sym f.is);
}

since_found : (k m base : ℕ) (r : Result LogContents LogRefusal) → IsFound r m base → IsFound (since k r) m base
since_found k m base r f = record { found = record { entries = filter (is_since k) f.found.entries; end = f.found.end }; is = ap (since k) f.is; at = f.at; offset = f.offset }

pub above_gone : (first k m base end : ℕ) (old mid new : Files) (may may1 may2 : Outcomes) → IsFound (log_of first old) m base → ((n : Name) → may1 n (mid n)) → Shrunk first k old mid may may1 → OnlyBetween (m + 1) end mid new may1 may2 → Shrunk first k old new may may2
above_gone first k m base end old mid new may may1 may2 f reads s only =
    let g = since_found k m base (log_of first old) f in
    record {
      now = same_in k m mid new g.found (s.now ∙ g.is) g.at (λ j below. only.reads (LogFile j) (out_low (m + 1) end j (omega (arith, below)))) (ap gated (only.reads (LogFile m) (out_low (m + 1) end m (omega arith)))) ∙ sym g.is;
      crash = λ kept files left.
          let files' = put_range (m + 1) end mid files in
          let former : log_of k files' ≡ Ok g.found = s.crash kept files' (range_left (m + 1) end mid files may1 reads (λ j out. only.crash (LogFile j) out (files (LogFile j)) (left j))) ∙ g.is in
          same_in k m files' files g.found former g.at (λ j below. sym (range_apart (m + 1) end mid files (LogFile j) (out_low (m + 1) end j (omega (arith, below)))))
          (ap gated (sym (range_apart (m + 1) end mid files (LogFile m) (out_low (m + 1) end m (omega arith))))) ∙ sym g.is;
    }

-- the log from a later file on, once others are gone
pub record Removed (log : Log) (k : ℕ) (old new : Files) (may may' : Outcomes) : Type 0 where
  pub shrunk : Shrunk log.first_file k old new may may'
  pub ready : IsReady log.file new may'

pub since_end : (k : ℕ) (r : Result LogContents LogRefusal) → IsOk r → IsOk (since k r) × (walk_end (since k r) ≡ walk_end r)
since_end k (Ok found) is = (refl, refl)
since_end k (Err e) is = cc

pub removed_open : (log log' : Log) (now now' : Files) (may may' : Outcomes) → IsOpen log now may → Removed log log'.first_file now now' may may' → log'.file ≡ log.file → log'.current_file ≡ log.current_file → log'.forced_bytes ≡ log.forced_bytes → log'.buffered ≡ log.buffered → log'.buffer ≡ log.buffer → IsOpen log' now' may'
removed_open log log' now now' may may' o r file number base used buffer =
    let ends = since_end log'.first_file (log_of log.first_file now) o.whole in
    let same : unforced log' ≡ unforced log = ap (λ (k : ℕ). or_none (entries_of (take k log'.buffer.items))) used ∙ ap (λ b. or_none (entries_of (take log.buffered b.items))) buffer in
    record {
      gate = subst (λ f. IsReady f now' may') (sym file) r.ready;
      fresh = ap (λ f. f.staged) file ∙ o.fresh;
      body = subst (λ (l : List Entry). IsBody (take log'.buffered log'.buffer.items) l) (sym same)
          (subst (λ (l : List ℕ). IsBody l (unforced log)) (sym (ap (λ (k : ℕ). take k log'.buffer.items) used ∙ ap (λ b. take log.buffered b.items) buffer)) o.body);
      plain = ap no_switch same ∙ o.plain;
      long = ap total same ∙ o.long ∙ sym used;
      whole = subst (λ r. IsOk r) (sym r.shrunk.now) ends.0;
      end = ap walk_end r.shrunk.now ∙ ends.1 ∙ o.end ∙ ap (λ (k : ℕ). position k log.forced_bytes) (sym number) ∙ ap (λ (k : ℕ). position log'.current_file k) (sym base);
    }

pub since_forced : (k : ℕ) (r : Result LogContents LogRefusal) → entries_in (since k r) ≡ filter (is_since k) (entries_in r)
since_forced k (Ok found) = refl
since_forced k (Err e) = refl

pub removed_forced : (log : Log) (k : ℕ) (now now' : Files) (may may' : Outcomes) → Removed log k now now' may may' → entries_in (log_of k now') ≡ filter (is_since k) (entries_in (log_of log.first_file now))
removed_forced log k now now' may may' r = ap entries_in r.shrunk.now ∙ since_forced k (log_of log.first_file now)

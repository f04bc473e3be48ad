-- The change to the next file.
use Rattle.std.proofs.Common.{◌≡◌, ◌≤◌, ◌<◌, ◌+◌, ◌-◌, ◌&&◌, ◌⊎◌, ⊎_elim, inl, inr, ℕ, zero, suc, List, [], ◌∷◌, refl, sym, ap, ◌∙◌, subst, Bool, true, false, arith, Some, Result, Ok, nat_lt}
use Rattle.std.specs.Prelude.{IsOk}
use Rattle.std.proofs.lemmas.Bool.{eq-eqb, lt-ltb}
use Rattle.tt_disk.specs.declared.volume.Name.{Name}
use Rattle.tt_log.proofs.Walks.{Standing}
use Rattle.tt_disk.specs.declared.volume.Name.TheVariants.{Log as LogFile}
use Rattle.tt_disk.specs.Volume.{IsSettled, size_of, OnlyAt, Files, Outcomes, File}
use Rattle.tt_gate.specs.declared.gate.GateFile.{GateFile}
use Rattle.tt_gate.specs.declared.gate.GateRefusal.{GateRefusal}
use Rattle.tt_gate.specs.Gate.{gated, end_of as gate_end}
use Rattle.tt_gate.specs.GateFile.{with_batch, bodies_of, IsReady}
use Rattle.tt_record.specs.declared.entry.Entry.TheVariants.{Switch}
use Rattle.tt_record.specs.Read.{entries_of}
use Rattle.tt_log.specs.declared.log.Log.{Log}
use Rattle.tt_log.specs.Walk.{walk, on_part, file_read, nothing, log_of, with_more, switched, switches, log_header}
use Rattle.tt_record.specs.Place.{position}
use Rattle.tt_log.specs.Log.{MayLeaveLogs, CrashLeavesLog, CrashLeavesForced, OnlyTwo, IsUntouched, unforced, walk_end}
use Rattle.tt_log.proofs.Crash.{Around, put_log, put_apart, put_left, same_in, switched_in, left_switched}
use Rattle.tt_log.proofs.FileParts.{file_made}
use Rattle.tt_log.proofs.Forcing.{IsFound, Written, one_or_more}

-- a gate file of which nothing changed
pub ready_same : (file : GateFile) (now now' : Files) (may may' : Outcomes) → now' file.name ≡ now file.name → ((c : File) → may' file.name c → may file.name c) → IsReady file now may → IsReady file now' may'
ready_same file now now' may may' reads crash r =
    record {
      laid = record {
        whole = subst (λ o. IsOk (gated o)) (sym reads) r.laid.whole;
        gate = subst (λ o. file.gate ≡ gate_end (bodies_of (gated o))) (sym reads) r.laid.gate;
        room = subst (λ o. 0 < file.staged → 9 + file.gate + file.staged ≤ size_of o) (sym reads) r.laid.room;
      };
      kept = λ s c left. r.kept s c (crash c left) ∙ sym (ap gated reads);
      begun = r.begun;
    }

pub apart_next : (name : Name) (m n : ℕ) → name ≡ LogFile m → ¬ (m ≡ n) → ¬ (name ≡ LogFile n)
apart_next name m n is apart same = let eq : m ≡ n = cc in apart eq

-- the next file is made
pub made_now : (first m base : ℕ) (now1 now2 : Files) (may1 may2 : Outcomes) → IsFound (log_of first now1) m base → OnlyAt (LogFile (m + 1)) now1 now2 may1 may2 → log_of first now2 ≡ log_of first now1
made_now first m base now1 now2 may1 may2 f only =
    same_in first m now1 now2 f.found f.is f.at (λ j below. only.reads (LogFile j) (apart_next (LogFile j) j (m + 1) refl (λ eq. omega (arith, below, eq))))
    (ap gated (only.reads (LogFile m) (apart_next (LogFile m) m (m + 1) refl (λ eq. omega (arith, eq))))) ∙ sym f.is

pub made_left : (first m base : ℕ) (now1 now2 : Files) (may1 may2 : Outcomes) → Around first m base now1 may1 → OnlyAt (LogFile (m + 1)) now1 now2 may1 may2 → CrashLeavesLog first (log_of first now1) may2
made_left first m base now1 now2 may1 may2 a only files left =
    let c = now1 (LogFile (m + 1)) in
    let files' = put_log (m + 1) c files in
    let former : log_of first files' ≡ Ok a.found = a.kept files' (put_left (m + 1) c files may1 (a.reads (LogFile (m + 1))) (λ j apart. only.crash (LogFile j) apart (files (LogFile j)) (left j))) ∙ a.is in
    same_in first m files' files a.found former a.at (λ j below. sym (put_apart (m + 1) j c files (λ eq. omega (arith, below, eq))))
    (ap gated (sym (put_apart (m + 1) m c files (λ eq. omega (arith, eq))))) ∙ sym a.is

pub around_made : (first m base : ℕ) (now1 now2 : Files) (may1 may2 : Outcomes) → IsFound (log_of first now1) m base → Around first m base now1 may1 → OnlyAt (LogFile (m + 1)) now1 now2 may1 may2 → ((n : Name) → may2 n (now2 n)) → Around first m base now2 may2
around_made first m base now1 now2 may1 may2 f a only reads =
    let same = made_now first m base now1 now2 may1 may2 f only in
    record {
      found = a.found;
      is = same ∙ a.is;
      at = a.at;
      offset = a.offset;
      reads = reads;
      kept = λ files left. made_left first m base now1 now2 may1 may2 a only files left ∙ sym same;
    }

-- the entries of a log are forced, and the next file is made
pub record Moved (log moved : Log) (old next : Files) (may may' : Outcomes) : Type 1 where
  pub found : IsFound (log_of moved.first_file next) moved.current_file moved.forced_bytes
  pub same : log_of moved.first_file next ≡ with_more (unforced log) (log_of log.first_file old)
  pub around : CrashLeavesForced log old may → Around moved.first_file moved.current_file moved.forced_bytes next may'

switches_next : (m : ℕ) → m < 999999 → switches m (Switch (m + 1) ∷ []) ≡ true
switches_next m below = ap (λ (b : Bool). b && nat_lt m 999999) (eq-eqb (m + 1) (m + 1) refl) ∙ lt-ltb m 999999 below

pub header_made : (n : ℕ) (r : Result (List ℕ × List (List ℕ)) GateRefusal) (header : List ℕ) → r ≡ Ok (header, []) → header ≡ log_header n → r ≡ Ok (log_header n, [])
header_made n r header made head = made ∙ ap (λ (l : List ℕ). Ok (l, [])) head

-- an empty file stands behind file m
pub record NextMade (first m : ℕ) (now : Files) (may : Outcomes) : Type 0 where
  pub settled : IsSettled (LogFile (m + 1)) now may
  pub reads : may (LogFile (m + 1)) (now (LogFile (m + 1)))
  pub empty : gated (now (LogFile (m + 1))) ≡ Ok (log_header (m + 1), [])
  pub below : m < 999999
  pub low : first ≤ m

next_apart : (m : ℕ) → ¬ (LogFile (m + 1) ≡ LogFile m)
next_apart m = apart_next (LogFile (m + 1)) (m + 1) m refl (λ eq. omega (arith, eq))

more_switched : (first m base : ℕ) (body : List ℕ) (old new files : Files) (may may' : Outcomes) → Around first m base old may → NextMade first m old may → Written m body old new may may' → entries_of body ≡ Some (Switch (m + 1) ∷ []) → MayLeaveLogs may' files
    → gated (files (LogFile m)) ≡ with_batch body (gated (old (LogFile m))) → log_of first files ≡ switched (log_of first old)
more_switched first m base body old new files may may' a t w is left more =
    left_switched first m base body (Switch (m + 1) ∷ []) old files may a (λ j apart. w.only.crash (LogFile j) apart (files (LogFile j)) (left j)) more is refl (switches_next m t.below) (omega (arith, t.below, t.low)) (omega (arith, t.below))
    (ap gated (t.settled (files (LogFile (m + 1))) (w.only.crash (LogFile (m + 1)) (next_apart m) (files (LogFile (m + 1))) (left (m + 1)))) ∙ t.empty)

pub switched_left : (first m base : ℕ) (body : List ℕ) (old new : Files) (may may' : Outcomes) → Around first m base old may → NextMade first m old may → Written m body old new may may' → entries_of body ≡ Some (Switch (m + 1) ∷ [])
    → (files : Files) → MayLeaveLogs may' files → (log_of first files ≡ log_of first old) ⊎ (log_of first files ≡ switched (log_of first old))
switched_left first m base body old new may may' a t w is files left =
    ⊎_elim (λ same. inl same) (λ more. inr (more_switched first m base body old new files may may' a t w is left more)) (one_or_more first m base body old new may may' a w files left)

pub switched_now : (first m base : ℕ) (body : List ℕ) (old new : Files) (may may' : Outcomes) → IsFound (log_of first old) m base → NextMade first m old may → Written m body old new may may' → entries_of body ≡ Some (Switch (m + 1) ∷ [])
    → gated (new (LogFile m)) ≡ with_batch body (gated (old (LogFile m))) → log_of first new ≡ switched (log_of first old)
switched_now first m base body old new may may' f t w is more =
    switched_in first m body (Switch (m + 1) ∷ []) old new f.found f.is f.at (omega (arith, t.below, t.low)) (omega (arith, t.below))
    (λ j below. w.only.reads (LogFile j) (apart_next (LogFile j) j m refl (λ eq. omega (arith, below, eq)))) more is refl (switches_next m t.below) (ap gated (w.only.reads (LogFile (m + 1)) (next_apart m)) ∙ t.empty)
    ∙ ap switched (sym f.is)

pub switched_kept : (first m base : ℕ) (body : List ℕ) (old new : Files) (may may' : Outcomes) → Around first m base old may → NextMade first m old may → Written m body old new may may' → entries_of body ≡ Some (Switch (m + 1) ∷ [])
    → gated (new (LogFile m)) ≡ with_batch body (gated (old (LogFile m))) → IsSettled (LogFile m) new may' → log_of first new ≡ switched (log_of first old) → CrashLeavesLog first (log_of first new) may'
switched_kept first m base body old new may may' a t w is more settled now files left =
    more_switched first m base body old new files may may' a t w is left (ap gated (settled (files (LogFile m)) (left m)) ∙ more) ∙ sym now

pub switched_end : (r : Standing) (m base : ℕ) → IsFound r m base → IsOk (switched r) × (walk_end (switched r) ≡ position (m + 1) 0)
switched_end r m base f = (subst (λ (q : Standing). IsOk (switched q)) (sym f.is) refl, ap (λ (q : Standing). walk_end (switched q)) f.is ∙ ap (λ (k : ℕ). position (k + 1) 0) f.at)

-- a call that changes the current file alone leaves the next one
pub next_untouched : (m : ℕ) (old new : Files) (may may' : Outcomes) → OnlyAt (LogFile m) old new may may' → IsUntouched (LogFile (m + 1)) old new may may'
next_untouched m old new may may' only =
    let apart = apart_next (LogFile (m + 1)) (m + 1) m refl (λ eq. omega (arith, eq)) in
    record { reads = only.reads (LogFile (m + 1)) apart; crash = only.crash (LogFile (m + 1)) apart }

walk_empty : (most n : ℕ) (files : Files) → 0 < most → file_read n (files (LogFile n)) ≡ Ok ([], false) → walk most n files ≡ Ok (record { entries = []; end = position n 0 })
walk_empty zero n files some read = absurd (omega arith)
walk_empty (suc most) n files some read = ap (λ p. on_part n p (walk most (n + 1) files)) read

-- a log of one empty file
pub empty_log : (files : Files) → gated (files (LogFile 0)) ≡ Ok (log_header 0, []) → log_of 0 files ≡ Ok nothing
unfolding log_of
empty_log files is = walk_empty (1000000 - 0) 0 files (omega arith) (file_made 0 (files (LogFile 0)) is)

-- what three calls did, on a file, on the next one, and on the first again
pub only_two : (one two last : Name) (a b c d : Files) (may_a may_b may_c may_d : Outcomes) → OnlyAt one a b may_a may_b → OnlyAt two b c may_b may_c
    → last ≡ one → OnlyAt last c d may_c may_d → OnlyTwo one two a d may_a may_d
only_two one two last a b c d may_a may_b may_c may_d before between same behind = record {
  reads = λ n not_one not_two. behind.reads n (λ is. not_one (is ∙ same)) ∙ between.reads n not_two ∙ before.reads n not_one;
  crash = λ n not_one not_two file left. before.crash n not_one file (between.crash n not_two file (behind.crash n (λ is. not_one (is ∙ same)) file left));
}

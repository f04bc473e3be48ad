-- A batch of entries behind the last file of a log.
use Rattle.std.proofs.Common.{◌≡◌, ◌≤◌, ◌+◌, ◌⊎◌, inl, inr, ⊎_elim, ℕ, List, [], ◌++◌, take, drop, refl, sym, ap, ◌∙◌, subst, true, arith, Some, Ok, Err}
use Rattle.std.specs.Prelude.{IsOk}
use Rattle.std.proofs.lemmas.List.{append-nil}
use Rattle.tt_disk.specs.declared.volume.Name.{Name}
use Rattle.tt_log.proofs.Walks.{Standing}
use Rattle.tt_disk.specs.declared.volume.Name.TheVariants.{Log as LogFile}
use Rattle.tt_disk.specs.Volume.{IsSettled, bytes_of, OnlyAt, Files, Outcomes, File}
use Rattle.tt_gate.specs.declared.gate.GateFile.{GateFile}
use Rattle.tt_gate.specs.Gate.{gated}
use Rattle.tt_gate.specs.GateFile.{with_batch, staged_in, CrashLeavesFormerOrMore}
use Rattle.tt_record.specs.declared.entry.Entry.{Entry}
use Rattle.tt_value.specs.declared.position.Position.{Position}
use Rattle.tt_record.specs.Read.{entries_of}
use Rattle.tt_log.specs.Lengths.{total}
use Rattle.tt_log.specs.Walk.{LogContents, log_of, with_more, no_switch}
use Rattle.tt_log.specs.Limits.{file_most}
use Rattle.tt_record.specs.Place.{position}
use Rattle.tt_log.specs.Log.{IsOpen, CrashLeavesLog, MayLeaveLogs, unforced, walk_end}
use Rattle.tt_log.specs.declared.log.Log.{Log}
use Rattle.tt_record.specs.BodyLaws.{body_is_read}
use Rattle.tt_log.proofs.Crash.{Around, more_in, left_same, left_more, all_left}

pub record IsFound (r : Standing) (m base : ℕ) : Type 0 where
  pub found : LogContents
  pub is : r ≡ Ok found
  pub at : found.end.file ≡ m
  pub offset : found.end.offset ≡ base

pub is_found : (r : Standing) (m base : ℕ) → IsOk r → walk_end r ≡ position m base → IsFound r m base
is_found (Ok found) m base is end = record { found = found; is = refl; at = ap (λ (p : Position). p.file) end; offset = ap (λ (p : Position). p.offset) end }
is_found (Err e) m base is end = cc

pub around : (first m base : ℕ) (old : Files) (may : Outcomes) → IsFound (log_of first old) m base → ((n : Name) → may n (old n)) → CrashLeavesLog first (log_of first old) may → Around first m base old may
around first m base old may f reads kept = record { found = f.found; is = f.is; at = f.at; offset = f.offset; reads = reads; kept = kept }

abbrev found_at : List (Position × Entry) → ℕ → ℕ → Standing
found_at ps m k = Ok (record { entries = ps; end = position m k })

pub more_none : (r : Standing) → with_more [] r ≡ r
more_none (Ok found) =
    ap (λ (ps : List (Position × Entry)). found_at ps found.end.file (found.end.offset + 0)) (append-nil found.entries) ∙ ap (λ (k : ℕ). found_at found.entries found.end.file k) (omega arith)
more_none (Err e) = refl

pub more_end : (r : Standing) (m base k : ℕ) (es : List Entry) → IsOk r → walk_end r ≡ position m base → total es ≡ k → IsOk (with_more es r) × (walk_end (with_more es r) ≡ position m (base + k))
more_end (Ok found) m base k es is end long =
    (refl, ap (λ (p : Position). position p.file (p.offset + total es)) end ∙ ap (λ (j : ℕ). position m (base + j)) long)
more_end (Err e) m base k es is end long = cc

pub no_entries : entries_of [] ≡ Some []
unfolding entries_of
no_entries = refl

-- nothing is staged, so the batch is the body alone
pub body_alone : (file : GateFile) (bytes : File) (body : List ℕ) → file.staged ≡ 0 → staged_in file bytes ++ body ≡ body
body_alone file bytes body none = ap (λ (k : ℕ). take k (drop (9 + file.gate) (bytes_of bytes)) ++ body) none

-- one call that appends a batch to log file m
pub record Written (m : ℕ) (body : List ℕ) (old new : Files) (may may' : Outcomes) : Type 0 where
  pub only : OnlyAt (LogFile m) old new may may'
  pub crash : CrashLeavesFormerOrMore (may (LogFile m)) (gated (old (LogFile m))) body (may' (LogFile m))

-- the batch that an open log appends to its current file
pub written : (log : Log) (old new : Files) (may may' : Outcomes) (body : List ℕ) → log.file.staged ≡ 0 → OnlyAt log.file.name old new may may'
    → CrashLeavesFormerOrMore (may log.file.name) (gated (old log.file.name)) (staged_in log.file (old log.file.name) ++ body) (may' log.file.name) → Written log.current_file body old new may may'
written log old new may may' body fresh only crash = record {
  only = subst (λ n. OnlyAt n old new may may') log.named only;
  crash = subst (λ n. CrashLeavesFormerOrMore (may n) (gated (old n)) body (may' n)) log.named
      (subst (λ l. CrashLeavesFormerOrMore (may log.file.name) (gated (old log.file.name)) l (may' log.file.name)) (body_alone log.file (old log.file.name) body fresh) crash);
}

pub done : (log : Log) (old new : Files) (body : List ℕ) → log.file.staged ≡ 0 → gated (new log.file.name) ≡ with_batch (staged_in log.file (old log.file.name) ++ body) (gated (old log.file.name))
    → gated (new (LogFile log.current_file)) ≡ with_batch body (gated (old (LogFile log.current_file)))
done log old new body fresh is =
    subst (λ n. gated (new n) ≡ with_batch body (gated (old n))) log.named (is ∙ ap (λ (l : List ℕ). with_batch l (gated (old log.file.name))) (body_alone log.file (old log.file.name) body fresh))

-- a crash leaves the log as it was, or the batch
pub one_or_more : (first m base : ℕ) (body : List ℕ) (old new : Files) (may may' : Outcomes) → Around first m base old may → Written m body old new may may' → (files : Files) → MayLeaveLogs may' files
    → (log_of first files ≡ log_of first old) ⊎ (gated (files (LogFile m)) ≡ with_batch body (gated (old (LogFile m))))
one_or_more first m base body old new may may' a w files left = by_case (w.crash (files (LogFile m)) (left m))
  where
    others : (j : ℕ) → ¬ (LogFile j ≡ LogFile m) → may (LogFile j) (files (LogFile j))
    others j apart = w.only.crash (LogFile j) apart (files (LogFile j)) (left j)

    by_case : may (LogFile m) (files (LogFile m)) ⊎ ((gated (files (LogFile m)) ≡ gated (old (LogFile m))) ⊎ (gated (files (LogFile m)) ≡ with_batch body (gated (old (LogFile m)))))
        → (log_of first files ≡ log_of first old) ⊎ (gated (files (LogFile m)) ≡ with_batch body (gated (old (LogFile m))))
    by_case (inl former) = inl (a.kept files (all_left m files may former others))
    by_case (inr (inl same)) = inl (left_same first m base old files may a others same)
    by_case (inr (inr more)) = inr more

-- the entries of a batch, behind so many bytes of others in their file
pub record Batch (base : ℕ) (body : List ℕ) (fs : List Entry) : Type 0 where
  pub entries : entries_of body ≡ Some fs
  pub plain : no_switch fs ≡ true
  pub room : base + total fs ≤ file_most

-- the batch that an open log forces
pub forcing : (log : Log) (now : Files) (may : Outcomes) (body : List ℕ) → IsOpen log now may → body ≡ take log.buffered log.buffer.items → Batch log.forced_bytes body (unforced log)
forcing log now may body o is = record { entries = ap entries_of is ∙ body_is_read _ _ o.body; plain = o.plain; room = omega (arith, o.long, log.offsets) }

-- what is found of an open log ends in its current file
pub found_open : (log : Log) (now : Files) (may : Outcomes) → IsOpen log now may → IsFound (log_of log.first_file now) log.current_file log.forced_bytes
found_open log now may o = is_found (log_of log.first_file now) log.current_file log.forced_bytes o.whole o.end

pub forced_now : (first m base : ℕ) (body : List ℕ) (fs : List Entry) (old new : Files) (may may' : Outcomes) → IsFound (log_of first old) m base → Written m body old new may may' → Batch base body fs
    → gated (new (LogFile m)) ≡ with_batch body (gated (old (LogFile m))) → log_of first new ≡ with_more fs (log_of first old)
forced_now first m base body fs old new may may' f w b is =
    more_in first m body fs old new f.found f.is f.at (λ j apart. w.only.reads (LogFile j) (λ same. let eq : j ≡ m = cc in apart eq)) is b.entries b.plain (omega (arith, b.room, f.offset)) ∙ ap (with_more fs) (sym f.is)

pub forced_left : (first m base : ℕ) (body : List ℕ) (fs : List Entry) (old new : Files) (may may' : Outcomes) → Around first m base old may → Written m body old new may may' → Batch base body fs → (files : Files) → MayLeaveLogs may' files
    → (log_of first files ≡ log_of first old) ⊎ (log_of first files ≡ with_more fs (log_of first old))
forced_left first m base body fs old new may may' a w b files left =
    ⊎_elim (λ same. inl same) (λ more. inr (left_more first m base body fs old files may a (λ j apart. w.only.crash (LogFile j) apart (files (LogFile j)) (left j)) more b.entries b.plain b.room)) (one_or_more first m base body old new may may' a w files left)

pub forced_kept : (first m base : ℕ) (body : List ℕ) (fs : List Entry) (old new : Files) (may may' : Outcomes) → Around first m base old may → Written m body old new may may' → Batch base body fs
    → gated (new (LogFile m)) ≡ with_batch body (gated (old (LogFile m))) → IsSettled (LogFile m) new may' → log_of first new ≡ with_more fs (log_of first old) → CrashLeavesLog first (log_of first new) may'
forced_kept first m base body fs old new may may' a w b is settled now files left =
    left_more first m base body fs old files may a (λ j apart. w.only.crash (LogFile j) apart (files (LogFile j)) (left j)) (ap gated (settled (files (LogFile m)) (left m)) ∙ is) b.entries b.plain b.room ∙ sym now

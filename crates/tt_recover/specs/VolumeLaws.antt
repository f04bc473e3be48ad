-- The log is read in two parts, each file once.
use Rattle.std.proofs.Common.{◌≡◌, ◌<◌, ◌+◌, ◌-◌, ℕ, zero, suc, Bool, true, false, List, [], ◌++◌, Option, Some, None, Result, Ok, Err, refl, sym, ◌∙◌, ap, arith, append_assoc}
use Rattle.tt_disk.specs.declared.volume.Name.TheVariants.{Log}
use Rattle.tt_disk.specs.Volume.{Files}
use Rattle.tt_record.specs.declared.entry.Entry.{Entry}
use Rattle.tt_log.specs.declared.refusal.LogRefusal.{LogRefusal}
use Rattle.tt_log.specs.declared.refusal.LogRefusal.TheVariants.{Gap, BadBatch as BatchRefused, Failed, NoMemory as NoRoom}
use Rattle.tt_log.specs.Walk.{Part, LogContents as Read, file_read, in_front as found_in_front, log_of, on_part, placed, walk}
use Rattle.tt_recover.specs.Volumes.{Placed, older, older_read, on_older, unless_gate}

pub unless_same : (n : ℕ) (gate : Option ℕ) (part : Part) (p : List Entry × Bool) → unless_gate n gate part ≡ Ok p → part ≡ Ok p
unless_same n None part p is = is
unless_same n (Some at) part p is = cc

-- what is read of an older file is what the file says
pub older_same : (next n : ℕ) (file : Option (List ℕ)) (part : Part) (p : List Entry × Bool) → older_read next n file part ≡ Ok p → part ≡ Ok p
older_same next n file (Ok q) p is = unless_same n _ (Ok q) p is
older_same next n file (Err (Gap k)) p is = cc
older_same next n file (Err (BatchRefused k at)) p is = unless_same n _ (Err (BatchRefused k at)) p is
older_same next n file (Err Failed) p is = unless_same n _ (Err Failed) p is
older_same next n file (Err NoRoom) p is = unless_same n _ (Err NoRoom) p is

pub record Older (n : ℕ) (part : Part) (more : Result Placed LogRefusal) (ps : Placed) : Type 0 where
  pub es : List Entry
  pub qs : Placed
  pub part_is : part ≡ Ok (es, true)
  pub more_is : more ≡ Ok qs
  pub all : ps ≡ placed n 0 es ++ qs

pub older_parts : (n : ℕ) (part : Part) (more : Result Placed LogRefusal) (ps : Placed) → on_older n part more ≡ Ok ps → Older n part more ps
older_parts n (Ok (es, true)) (Ok qs) ps is = record { es = es; qs = qs; part_is = refl; more_is = refl; all = sym (let same : placed n 0 es ++ qs ≡ ps = cc in same) }
older_parts n (Ok (es, true)) (Err e) ps is = cc
older_parts n (Ok (es, false)) more ps is = cc
older_parts n (Err e) more ps is = cc

-- The entries of the older files before those of the walk from the scan position's file on are what the whole walk finds.
pub whole_walk : (next n count : ℕ) (logs : Files) (ps : Placed) (read : Read) → n + count < 1000000 → older next n count logs ≡ Ok ps → log_of (n + count) logs ≡ Ok read
    → log_of n logs ≡ Ok (record { entries = ps ++ read.entries; end = read.end })
unfolding log_of
whole_walk next n zero logs ps read below is walk_is =
    let none : ps ≡ [] = sym (let same : ◌≡◌ {A = Placed} [] ps = cc in same) in
    ap (λ (k : ℕ). walk (1000000 - k) k logs) (let e : n ≡ n + 0 = omega arith in e) ∙ walk_is ∙ ap (λ (qs : Placed). Ok (record { entries = qs ++ read.entries; end = read.end })) (sym none)
whole_walk next n (suc count) logs ps read below is walk_is =
    let p = older_parts n (older_read next n (logs (Log n)) (file_read n (logs (Log n)))) (older next (n + 1) count logs) ps is in
    let part : file_read n (logs (Log n)) ≡ Ok (p.es, true) = older_same next n (logs (Log n)) (file_read n (logs (Log n))) (p.es, true) p.part_is in
    let again : log_of ((n + 1) + count) logs ≡ Ok read = ap (λ (k : ℕ). walk (1000000 - k) k logs) (let e : (n + 1) + count ≡ n + suc count = omega arith in e) ∙ walk_is in
    let rest = whole_walk next (n + 1) count logs p.qs read (omega (arith, below)) p.more_is again in
    let room : 1000000 - n ≡ suc (1000000 - (n + 1)) = omega (arith, below) in
    ap (λ (m : ℕ). walk m n logs) room
    ∙ ap (λ (q : Part). on_part n q (walk (1000000 - (n + 1)) (n + 1) logs)) part
    ∙ ap (found_in_front (placed n 0 p.es)) rest
    ∙ ap (λ (qs : Placed). Ok (record { entries = qs; end = read.end })) (sym (append_assoc (placed n 0 p.es) p.qs read.entries) ∙ ap (λ (qs : Placed). qs ++ read.entries) (sym p.all))

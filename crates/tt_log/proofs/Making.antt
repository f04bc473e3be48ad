-- A first file that is no longer than a new one is the empty log.
use Rattle.std.proofs.Common.{◌≡◌, ◌⊎◌, inl, inr, ◌≤◌, ◌<◌, ◌-◌, ◌+◌, ◌∙◌, ℕ, zero, suc, Bool, true, false, List, [], ◌∷◌, length, take, Option, Some, None, Result, Ok, Err, if◌then◌else◌, refl, sym, ap, subst, arith}
use Rattle.tt_disk.specs.Volume.{bytes_of, size_of, Files, Outcomes, File}
use Rattle.tt_gate.specs.GateFile.{CrashLeavesAtMost}
use Rattle.tt_disk.specs.declared.volume.Name.TheVariants.{Log}
use Rattle.tt_gate.specs.Gate.{gated, whole_bodies}
use Rattle.tt_gate.specs.Walk.{none_in_short}
use Rattle.tt_gate.specs.declared.gate.GateRefusal.{GateRefusal}
use Rattle.tt_gate.specs.declared.gate.GateRefusal.TheVariants.{Absent, BadHeader, BadBatch as GateBad, Failed as GateFailed}
use Rattle.tt_record.specs.declared.entry.Entry.{Entry}
use Rattle.tt_record.specs.Read.{entries_of}
use Rattle.tt_log.specs.declared.refusal.LogRefusal.{LogRefusal}
use Rattle.tt_log.specs.declared.refusal.LogRefusal.TheVariants.{Gap, BadBatch}
use Rattle.tt_record.specs.Place.{position}
use Rattle.tt_log.specs.Lengths.{total}
use Rattle.tt_log.specs.Walk.{LogContents, Part, after_switch, batch_read, before, bodies_read, chosen, file_read, in_front, is_last, log_header, log_of, no_switch, nothing, offset_behind, on_part, part_of, placed, same_bytes, switches, walk}

abbrev IsBad : Part → Type 0
IsBad more = (p : List Entry × Bool) → ¬ (more ≡ Ok p)

before_bad : (es : List Entry) (more : Part) → IsBad more → IsBad (before es more)
before_bad es (Ok q) bad p is = bad q refl
before_bad es (Err e) bad p is = cc

after_bad : (more : Part) → IsBad more → IsBad (after_switch more)
after_bad (Ok q) bad p is = bad q refl
after_bad (Err e) bad p is = cc

if_bad : (c : Bool) (x : Part) (e : LogRefusal) → IsBad x → IsBad (if c then x else Err e)
if_bad true x e bad = bad
if_bad false x e bad = λ p is. cc

chosen_bad : (plain switch last : Bool) (es : List Entry) (n at next offset : ℕ) (more : Part) → IsBad more → IsBad (chosen plain switch last es n at next offset more)
chosen_bad true switch last es n at next offset more bad = if_bad _ (before es more) _ (before_bad es more bad)
chosen_bad false true true es n at next offset more bad = after_bad more bad
chosen_bad false true false es n at next offset more bad = λ p is. cc
chosen_bad false false last es n at next offset more bad = λ p is. cc

batch_bad : (n at next offset : ℕ) (o : Option (List Entry)) (last : Bool) (more : Part) → IsBad more → IsBad (batch_read n at next offset o last more)
batch_bad n at next offset None last more bad = λ p is. cc
batch_bad n at next offset (Some es) last more bad = chosen_bad (no_switch es) (switches n es) last es n at next offset more bad

-- nothing is read before a damage
bodies_bad : (n at offset : ℕ) (bodies : List (List ℕ)) (e : LogRefusal) → IsBad (bodies_read n at offset bodies (Err e))
bodies_bad n at offset [] e = λ p is. cc
bodies_bad n at offset (body ∷ bodies) e =
    batch_bad n at (at + 9 + length body) offset (entries_of body) (is_last bodies) (bodies_read n (at + 9 + length body) (offset_behind offset (entries_of body)) bodies (Err e))
    (bodies_bad n (at + 9 + length body) (offset_behind offset (entries_of body)) bodies e)

abbrev ok_part : List Entry × Bool → Part
ok_part p = Ok p

same_part : (x y : List Entry × Bool) → ok_part x ≡ ok_part y → x ≡ y
same_part x y is = cc

none_part : (c : Bool) (e : LogRefusal) (p : List Entry × Bool) → (if c then Ok ([], false) else Err e) ≡ Ok p → (p.0 ≡ []) × (p.1 ≡ false)
none_part true e p is = let same : ([], false) ≡ p = same_part ([], false) p is in (sym (ap (λ (q : List Entry × Bool). q.0) same), sym (ap (λ (q : List Entry × Bool). q.1) same))
none_part false e p is = cc

short_part : (o : File) (r : Result (List ℕ × List (List ℕ)) GateRefusal) → gated o ≡ r → size_of o ≤ 17 → (p : List Entry × Bool) → part_of (bodies_read 0 16 0) 0 o r ≡ Ok p → (p.0 ≡ []) × (p.1 ≡ false)
short_part o (Ok found) is short p read =
    let none : found.1 ≡ [] = none_in_short o found.0 found.1 short is in
    none_part (same_bytes found.0 (log_header 0)) (Gap 0) p
    (sym (ap (λ bodies. if same_bytes found.0 (log_header 0) then bodies_read 0 16 0 bodies (Ok ([], false)) else Err (Gap 0)) none) ∙ read)
short_part o (Err (GateBad at)) is short p read =
    absurd (if_bad (same_bytes (take 16 (bytes_of o)) (log_header 0)) (bodies_read 0 16 0 (whole_bodies o) (Err (BadBatch 0 at))) (Gap 0) (bodies_bad 0 16 0 (whole_bodies o) (BadBatch 0 at)) p read)
short_part o (Err Absent) is short p read = cc
short_part o (Err BadHeader) is short p read = cc
short_part o (Err GateFailed) is short p read = cc

short_file : (o : File) → size_of o ≤ 17 → (p : List Entry × Bool) → file_read 0 o ≡ Ok p → (p.0 ≡ []) × (p.1 ≡ false)
unfolding file_read
short_file o short p read = short_part o (gated o) refl short p read

abbrev ok_found : LogContents → Result LogContents LogRefusal
ok_found found = Ok found

same_found : (a b : LogContents) → ok_found a ≡ ok_found b → a ≡ b
same_found a b is = cc

short_on : (part : Part) (more : Result LogContents LogRefusal) (found : LogContents) → ((p : List Entry × Bool) → part ≡ Ok p → (p.0 ≡ []) × (p.1 ≡ false)) → on_part 0 part more ≡ Ok found → found ≡ nothing
short_on (Ok p) more found none is =
    let parts = none p refl in
    same_found found nothing (
    sym is
    ∙ ap (λ b. if b then in_front (placed 0 0 p.0) more else ok_found (record { entries = placed 0 0 p.0; end = position 0 (total p.0) })) parts.1
    ∙ ap (λ es. ok_found (record { entries = placed 0 0 es; end = position 0 (total es) })) parts.0)
short_on (Err e) more found none is = cc

short_walk : (m : ℕ) (files : Files) (found : LogContents) → 0 < m → size_of (files (Log 0)) ≤ 17 → walk m 0 files ≡ Ok found → found ≡ nothing
short_walk zero files found some short is = absurd (omega (arith, some))
short_walk (suc m) files found some short is = short_on (file_read 0 (files (Log 0))) (walk m (0 + 1) files) found (short_file (files (Log 0)) short) is

pub short_log : (files : Files) (found : LogContents) → size_of (files (Log 0)) ≤ 17 → log_of 0 files ≡ Ok found → found ≡ nothing
unfolding log_of
short_log files found short is = short_walk (1000000 - 0) files found (omega arith) short is

-- where a crash leaves of each log file what it could leave before, or none, the first one is no longer than it was
pub few_left : (may may' : Outcomes) → ((k : ℕ) (c : File) → may' (Log k) c → may (Log k) c ⊎ (c ≡ None)) → CrashLeavesAtMost 17 (may (Log 0)) → CrashLeavesAtMost 17 (may' (Log 0))
few_left may may' from few c left = by (from 0 c left)
  where
    by : may (Log 0) c ⊎ (c ≡ None) → size_of c ≤ 17
    by (inl before) = few c before
    by (inr none) = subst (λ (o : File). size_of o ≤ 17) (sym none) (omega arith)

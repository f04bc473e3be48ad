-- What stays of a file of batches between the calls of its GateFile, and what the walk says of a whole file.
use Rattle.std.proofs.Common.{◌≡◌, ℕ, ◌+◌, ◌<◌, ◌≤◌, Bool, true, false, List, length, take, if◌then◌else◌, Option, Some, None, Result, Ok, Err, refl, sym, ◌∙◌, ap, subst, arith}
use Rattle.std.specs.Prelude.{IsOk}
use Rattle.std.proofs.Math.Dec.{ltb}
use Rattle.std.proofs.lemmas.Bool.{lt-ltb}
use Rattle.tt_disk.specs.declared.volume.Name.{Name}
use Rattle.tt_disk.specs.Volume.{size_of, Keeps, OnlyAt}
use Rattle.tt_gate.specs.declared.gate.GateFile.{GateFile}
use Rattle.tt_gate.specs.declared.gate.GateRefusal.{GateRefusal}
use Rattle.tt_gate.specs.declared.gate.GateRefusal.TheVariants.{Absent, BadHeader, BadBatch}
use Rattle.tt_gate.specs.Gate.{Walked, end_of, walked_at, with_header, gated, whole_bodies}
use Rattle.tt_gate.specs.GateFile.{bodies_of, IsLaid, IsReady, IsSynced}

-- Between the calls of a GateFile its file stays ready, as long as it reads the same and a crash leaves nothing new of it.
pub ready_same : (file : GateFile) (a b : Name → Option (List ℕ)) (may_a may_b : Name → Option (List ℕ) → Type 0)
    → b file.name ≡ a file.name → ((c : Option (List ℕ)) → may_b file.name c → may_a file.name c) → IsReady file a may_a → IsReady file b may_b
ready_same file a b may_a may_b same crash ready = record {
  laid = record {
    whole = subst (λ (o : Option (List ℕ)). IsOk (gated o)) (sym same) ready.laid.whole;
    gate = ready.laid.gate ∙ ap (λ (o : Option (List ℕ)). end_of (bodies_of (gated o))) (sym same);
    room = λ some. subst (λ (o : Option (List ℕ)). 9 + file.gate + file.staged ≤ size_of o) (sym same) (ready.laid.room some);
  };
  kept = λ is c left. ready.kept is c (crash c left) ∙ ap gated (sym same);
  begun = ready.begun;
}

-- so over a call that changes no file, and over one that changes another file
pub ready_kept : (file : GateFile) (a b : Name → Option (List ℕ)) (may_a may_b : Name → Option (List ℕ) → Type 0) → Keeps a b may_a may_b → IsReady file a may_a → IsReady file b may_b
ready_kept file a b may_a may_b keeps = ready_same file a b may_a may_b (keeps.reads file.name) (keeps.crash file.name)

pub ready_elsewhere : (file : GateFile) (other : Name) (a b : Name → Option (List ℕ)) (may_a may_b : Name → Option (List ℕ) → Type 0)
    → OnlyAt other a b may_a may_b → ¬ (file.name ≡ other) → IsReady file a may_a → IsReady file b may_b
ready_elsewhere file other a b may_a may_b only differs = ready_same file a b may_a may_b (only.reads file.name differs) (only.crash file.name differs)

-- A file that wasn't synced since it was found is ready, whatever a crash leaves.
pub ready_unsynced : (file : GateFile) (now : Name → Option (List ℕ)) (may : Name → Option (List ℕ) → Type 0) → IsLaid file now → file.staged ≡ 0 → ¬ IsSynced file → IsReady file now may
ready_unsynced file now may laid none unsynced = record {
  laid = laid;
  kept = λ synced. absurd (unsynced synced);
  begun = λ some. absurd (omega (arith, none, some));
}

-- What is found of a whole file, by the walk from its first gate on.

pub gated_long : (file : List ℕ) → 16 < length file → gated (Some file) ≡ with_header (take 16 file) (walked_at 16 file).0 (walked_at 16 file).1
unfolding walked_at
gated_long file long = let test : ltb 16 (length file) ≡ true = lt-ltb 16 (length file) long in rw test refl

pub gated_from_walk : (file : List ℕ) (bodies : List (List ℕ)) → 16 < length file → walked_at 16 file ≡ (bodies, None) → gated (Some file) ≡ Ok (take 16 file, bodies)
gated_from_walk file bodies long walk = gated_long file long ∙ ap (λ (w : Walked). with_header (take 16 file) w.0 w.1) walk

pub damaged_from_walk : (file : List ℕ) (bodies : List (List ℕ)) (at : ℕ) → 16 < length file → walked_at 16 file ≡ (bodies, Some at) → gated (Some file) ≡ Err (BadBatch at)
damaged_from_walk file bodies at long walk = gated_long file long ∙ ap (λ (w : Walked). with_header (take 16 file) w.0 w.1) walk

abbrev parted : Option (List ℕ) → Result (List ℕ × List (List ℕ)) GateRefusal
parted (Some file) = with_header (take 16 file) (walked_at 16 file).0 (walked_at 16 file).1
parted None = Err Absent

bodies_by_end : (header first : List ℕ) (bodies found : List (List ℕ)) (damage : Option ℕ) → with_header header found damage ≡ Ok (first, bodies) → found ≡ bodies
bodies_by_end header first bodies found None is = let pairs : ◌≡◌ {A = List ℕ × List (List ℕ)} (header, found) (first, bodies) = cc in ap (λ p. p.1) pairs
bodies_by_end header first bodies found (Some at) is = cc

bodies_by_length : (file header : List ℕ) (bodies : List (List ℕ)) (b : Bool) → (if b then parted (Some file) else Err BadHeader) ≡ Ok (header, bodies) → (walked_at 16 file).0 ≡ bodies
bodies_by_length file header bodies true is = bodies_by_end (take 16 file) header bodies (walked_at 16 file).0 (walked_at 16 file).1 is
bodies_by_length file header bodies false is = cc

-- a whole file's bodies are those before the first damage
pub gated_bodies : (o : Option (List ℕ)) (header : List ℕ) (bodies : List (List ℕ)) → gated o ≡ Ok (header, bodies) → whole_bodies o ≡ bodies
unfolding whole_bodies walked_at
gated_bodies None header bodies is = cc
gated_bodies (Some file) header bodies is = bodies_by_length file header bodies (ltb 16 (length file)) is

-- The header of a log file.
use Rattle.std.proofs.Common.{◌≡◌, ◌⊎◌, inl, inr, ◌&&◌, ◌==◌, ℕ, ◌<◌, Bool, true, false, List, [], ◌∷◌, length, take, Option, Some, None, Ok, Err, refl, sym, ◌∙◌, ap, ap₂, arith, if◌then◌else◌}
use Rattle.std.proofs.lemmas.Bool.{eqb-true, ltb-true}
use Rattle.std.proofs.Math.Dec.{ltb}
use Rattle.tt_disk.specs.Volume.{size_of, File}
use Rattle.tt_gate.specs.declared.gate.GateRefusal.TheVariants.{Absent, BadHeader, BadBatch as GateBad, Failed as GateFailed}
use Rattle.tt_gate.specs.declared.gate.GateRefusal.{GateRefusal}
use Rattle.tt_gate.specs.GateFile.{RefusalHolds}
use Rattle.tt_gate.specs.Gate.{gated, walked_at, with_header, whole_bodies}
use Rattle.tt_gate.specs.Laws.{gated_long}
use Rattle.tt_log.specs.declared.refusal.LogRefusal.{LogRefusal}
use Rattle.tt_log.specs.declared.refusal.LogRefusal.TheVariants.{Gap, BadBatch, Failed}
use Rattle.tt_log.specs.Walk.{Part, same_bytes, log_header, part_of, file_read, bodies_read}
use Rattle.tt_log.specs.Batch.{IsHeaded, rest_read, refusal_of, end_with}
use Rattle.tt_log.proofs.FileParts.{same_self}

same_head : (a b : ℕ) (as' bs : List ℕ) (t u : Bool) → (a == b) ≡ t → same_bytes as' bs ≡ u → (t && u) ≡ true → (same_bytes as' bs ≡ true → as' ≡ bs) → (a ∷ as') ≡ (b ∷ bs)
same_head a b as' bs true true one two is again = ap₂ (λ (x : ℕ) (l : List ℕ). x ∷ l) (eqb-true a b one) (again two)
same_head a b as' bs true false one two is again = cc
same_head a b as' bs false u one two is again = cc

same_is : (as' bs : List ℕ) → same_bytes as' bs ≡ true → as' ≡ bs
same_is [] [] is = refl
same_is [] (b ∷ bs) is = cc
same_is (a ∷ as') [] is = cc
same_is (a ∷ as') (b ∷ bs) is = same_head a b as' bs (a == b) (same_bytes as' bs) refl refl is (same_is as' bs)

other_bytes : (as' bs : List ℕ) (t : Bool) → same_bytes as' bs ≡ t → ¬ (as' ≡ bs) → same_bytes as' bs ≡ false
other_bytes as' bs true is apart = absurd (apart (same_is as' bs is))
other_bytes as' bs false is apart = is

abbrev gap : ℕ → Part
gap n = Err (Gap n)

other_header : (n : ℕ) (f : List ℕ) (bodies : List (List ℕ)) (damage : Option ℕ) → same_bytes (take 16 f) (log_header n) ≡ false → part_of (bodies_read n 16 0) n (Some f) (with_header (take 16 f) bodies damage) ≡ Err (Gap n)
other_header n f bodies None other = ap (λ (b : Bool). if b then bodies_read n 16 0 bodies (Ok ([], false)) else gap n) other
other_header n f bodies (Some at) other = ap (λ (b : Bool). if b then bodies_read n 16 0 (whole_bodies (Some f)) (Err (BadBatch n at)) else gap n) other

-- a file that doesn't begin as it should
gap_by_length : (n : ℕ) (f : List ℕ) (b : Bool) → ltb 16 (length f) ≡ b → ¬ (IsHeaded n (Some f)) → part_of (bodies_read n 16 0) n (Some f) (gated (Some f)) ≡ Err (Gap n)
unfolding walked_at
gap_by_length n f false is other = ap (λ (b : Bool). part_of (bodies_read n 16 0) n (Some f) (if b then with_header (take 16 f) (walked_at 16 f).0 (walked_at 16 f).1 else Err BadHeader)) is
gap_by_length n f true is other =
    let long : 16 < length f = ltb-true 16 (length f) is in
    ap (part_of (bodies_read n 16 0) n (Some f)) (gated_long f long) ∙ other_header n f (walked_at 16 f).0 (walked_at 16 f).1 (other_bytes (take 16 f) (log_header n) (same_bytes (take 16 f) (log_header n)) refl (λ same. other (long, same)))

pub file_gap : (n : ℕ) (o : File) → ¬ (IsHeaded n o) → file_read n o ≡ Err (Gap n)
unfolding file_read
file_gap n None other = refl
file_gap n (Some f) other = gap_by_length n f (ltb 16 (length f)) refl other

-- a refusal of the header is that of the file
pub header_refused : (n : ℕ) (o : File) (e : GateRefusal) (r : LogRefusal) → r ≡ refusal_of n e → RefusalHolds (log_header n) o e → ((at : ℕ) → ¬ (e ≡ GateBad at))
    → (r ≡ Failed) ⊎ ((r ≡ Gap n) × (file_read n o ≡ Err r))
header_refused n o Absent r is holds read = inr (is, file_gap n o (λ h. absurd (omega (arith, h.0, ap size_of holds))) ∙ ap (λ (k : LogRefusal). Err k) (sym is))
header_refused n o BadHeader r is holds read = inr (is, file_gap n o holds.1 ∙ ap (λ (k : LogRefusal). Err k) (sym is))
header_refused n o (GateBad at) r is holds read = absurd (read at refl)
header_refused n o GateFailed r is holds read = inl is

right_header : (n : ℕ) (f : List ℕ) (bodies : List (List ℕ)) (damage : Option ℕ) → same_bytes (take 16 f) (log_header n) ≡ true → bodies ≡ whole_bodies (Some f)
    → part_of (bodies_read n 16 0) n (Some f) (with_header (take 16 f) bodies damage) ≡ bodies_read n 16 0 bodies (end_with n damage)
right_header n f bodies None same is = ap (λ (b : Bool). if b then bodies_read n 16 0 bodies (Ok ([], false)) else gap n) same
right_header n f bodies (Some at) same is =
    ap (λ (b : Bool). if b then bodies_read n 16 0 (whole_bodies (Some f)) (Err (BadBatch n at)) else gap n) same
    ∙ ap (λ (l : List (List ℕ)). bodies_read n 16 0 l (Err (BadBatch n at))) (sym is)

-- a file that begins as it should is read from its first gate on
pub file_headed : (n : ℕ) (o : File) → IsHeaded n o → file_read n o ≡ rest_read n 16 0 o
unfolding file_read rest_read whole_bodies walked_at
file_headed n None h = absurd (omega (arith, h.0))
file_headed n (Some f) h =
    ap (part_of (bodies_read n 16 0) n (Some f)) (gated_long f h.0)
    ∙ right_header n f (walked_at 16 f).0 (walked_at 16 f).1 (ap (λ (l : List ℕ). same_bytes l (log_header n)) h.1 ∙ same_self (log_header n)) refl

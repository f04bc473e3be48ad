-- Laws of the walk from one gate of a file to the next.
use Rattle.std.proofs.Common.{◌≡◌, ◌≤◌, ◌<◌, ◌+◌, ◌&&◌, ◌==◌, ℕ, zero, suc, List, [], ◌∷◌, ◌++◌, length, take, drop, Bool, true, false, if◌then◌else◌, Option, Some, None, Result, Ok, Err, refl, sym, ◌∙◌, ap, arith, append_assoc, length-drop}
use Rattle.std.proofs.Math.Dec.{ltb}
use Rattle.std.proofs.lemmas.Bool.{ltb-true}
use Rattle.std.proofs.lemmas.List.{append-nil, drop-drop, length-take}
use Rattle.tt_disk.specs.Volume.{size_of, bytes_of}
use Rattle.tt_gate.specs.declared.gate.Gate.{Gate}
use Rattle.tt_gate.specs.declared.gate.Gate.TheVariants.{Closed, Full}
use Rattle.tt_gate.specs.declared.gate.GateRefusal.{GateRefusal}
use Rattle.tt_gate.specs.declared.gate.GateRefusal.TheVariants.{BadBatch}
use Rattle.tt_gate.specs.Gate.{Walked, length_at, gate_of, gate_in, end_of, behind_body, on_gate, walked, walked_at, gated, whole_bodies}
use Rattle.tt_gate.specs.Laws.{gated_from_walk, damaged_from_walk, gated_bodies}
use Rattle.tt_gate.specs.GateFile.{IsEnd}

-- a walk that may go further finds the same
enough : (m k at : ℕ) (bytes : List ℕ) → length bytes ≤ m → length bytes ≤ k → walked m at bytes ≡ walked k at bytes
enough zero zero at bytes le le' = refl
enough zero (suc k) at [] le le' = refl
enough zero (suc k) at (gate ∷ rest) le le' = absurd (omega arith)
enough (suc m) zero at [] le le' = refl
enough (suc m) zero at (gate ∷ rest) le le' = absurd (omega arith)
enough (suc m) (suc k) at bytes le le' =
    λ i. on_gate at bytes (gate_of at bytes) (λ n. enough m k (at + 9 + n) (drop (9 + n) bytes) (omega (arith, le, length-drop (9 + n) bytes)) (omega (arith, le', length-drop (9 + n) bytes)) i)

step : (m at : ℕ) (bytes : List ℕ) (says : Result Gate GateRefusal) → length bytes ≤ m → gate_of at bytes ≡ says
    → walked m at bytes ≡ on_gate at bytes says (λ n. walked m (at + 9 + n) (drop (9 + n) bytes))
step zero at [] says le is = ap (λ g. on_gate at [] g (λ n. walked zero (at + 9 + n) (drop (9 + n) []))) is
step zero at (gate ∷ rest) says le is = absurd (omega arith)
step (suc m) at bytes says le is =
    ap (λ g. on_gate at bytes g (λ n. walked m (at + 9 + n) (drop (9 + n) bytes))) is
    ∙ (λ i. on_gate at bytes says (λ n. enough m (suc m) (at + 9 + n) (drop (9 + n) bytes) (omega (arith, le, length-drop (9 + n) bytes)) (omega (arith, le, length-drop (9 + n) bytes)) i))

-- what is found from a gate on, by what the gate says
pub at_gate : (at : ℕ) (file : List ℕ) (says : Result Gate GateRefusal) → gate_in at (Some file) ≡ says → walked_at at file ≡ on_gate at (drop at file) says (λ n. walked_at (at + 9 + n) file)
unfolding walked_at
at_gate at file says is =
    let same : (n : ℕ) → drop (9 + n) (drop at file) ≡ drop (at + 9 + n) file = λ n. drop-drop (9 + n) at file ∙ ap (λ (k : ℕ). drop k file) (omega arith) in
    step (length file) at (drop at file) says (omega (arith, length-drop at file)) is
    ∙ (λ i. on_gate at (drop at file) says (λ n. walked (length file) (at + 9 + n) (same n i)))

pub full_gate : (at n : ℕ) (file : List ℕ) → gate_in at (Some file) ≡ Ok (Full n) → walked_at at file ≡ behind_body (take n (drop (at + 9) file)) (walked_at (at + 9 + n) file)
full_gate at n file says = at_gate at file (Ok (Full n)) says ∙ ap (λ (l : List ℕ). behind_body (take n l) (walked_at (at + 9 + n) file)) (drop-drop 9 at file)

pub closed_gate : (at : ℕ) (file : List ℕ) → gate_in at (Some file) ≡ Ok Closed → walked_at at file ≡ ([], None)
closed_gate at file says = at_gate at file (Ok Closed) says

pub bad_gate : (at : ℕ) (file : List ℕ) (refusal : GateRefusal) → gate_in at (Some file) ≡ Err refusal → walked_at at file ≡ ([], Some at)
bad_gate at file refusal says = at_gate at file (Err refusal) says

abbrev full : ℕ → Result Gate GateRefusal
full n = Ok (Full n)

bad_by : (at n : ℕ) (refusal : GateRefusal) (opened whole : Bool) → (if opened then (if whole then full n else Err (BadBatch at)) else Ok Closed) ≡ Err refusal → refusal ≡ BadBatch at
bad_by at n refusal true true is = cc
bad_by at n refusal true false is = cc
bad_by at n refusal false whole is = cc

bad_from : (at : ℕ) (refusal : GateRefusal) (bytes : List ℕ) → gate_of at bytes ≡ Err refusal → refusal ≡ BadBatch at
bad_from at refusal [] is = cc
bad_from at refusal (gate ∷ rest) is = bad_by at (length_at rest) refusal (gate == 1) (ltb 0 (length_at rest) && ltb (8 + length_at rest) (length rest)) is

-- a gate of a file that is there is refused as damaged, and in no other way
pub bad_there : (at : ℕ) (refusal : GateRefusal) (file : List ℕ) → gate_in at (Some file) ≡ Err refusal → refusal ≡ BadBatch at
bad_there at refusal file is = bad_from at refusal (drop at file) is

second_true : (a b : Bool) → (a && b) ≡ true → b ≡ true
second_true true b is = is
second_true false b is = cc

inside_by : (at n length_is : ℕ) (rest : List ℕ) (opened whole : Bool) → (whole ≡ true → 8 + length_is < length rest)
    → (if opened then (if whole then full length_is else Err (BadBatch at)) else Ok Closed) ≡ full n → 9 + n < suc (length rest)
inside_by at n length_is rest true true inside is = let same : length_is ≡ n = cc in omega (arith, same, inside refl)
inside_by at n length_is rest true false inside is = cc
inside_by at n length_is rest false whole inside is = cc

inside_rest : (at n : ℕ) (bytes : List ℕ) → gate_of at bytes ≡ Ok (Full n) → 9 + n < length bytes
inside_rest at n [] is = cc
inside_rest at n (gate ∷ rest) is =
    inside_by at n (length_at rest) rest (gate == 1) (ltb 0 (length_at rest) && ltb (8 + length_at rest) (length rest))
    (λ whole. ltb-true (8 + length_at rest) (length rest) (second_true (ltb 0 (length_at rest)) (ltb (8 + length_at rest) (length rest)) whole)) is

-- a batch that a gate tells lies within its file, with the next gate behind it
pub full_gate_inside : (at n : ℕ) (file : List ℕ) → gate_in at (Some file) ≡ Ok (Full n) → at + 9 + n < length file
full_gate_inside at n file is = let long : 9 + n < length (drop at file) = inside_rest at n (drop at file) is in omega (arith, length-drop at file)

-- these bodies before what is found behind them
abbrev pub behind_all : List (List ℕ) → Walked → Walked
behind_all bodies found = (bodies ++ found.0, found.1)

-- a walk from the first gate on has passed these batches, and the gate at this offset is the next
pub record IsGate (file : Option (List ℕ)) (gate : ℕ) : Type 0 where
  pub passed : List (List ℕ)
  pub is : walked_at 16 (bytes_of file) ≡ behind_all passed (walked_at gate (bytes_of file))
  pub here : gate ≡ end_of passed
  pub long : 16 < size_of file

pub end_of_more : (bodies : List (List ℕ)) (body : List ℕ) → end_of (bodies ++ body ∷ []) ≡ end_of bodies + 9 + length body
end_of_more [] body = omega arith
end_of_more (b ∷ bodies) body = omega (arith, end_of_more bodies body)

pub first_gate : (file : Option (List ℕ)) → 16 < size_of file → IsGate file 16
first_gate file long = record { passed = []; is = refl; here = refl; long = long }

-- a batch that is whole leads to the gate behind it
pub next_gate : (file : Option (List ℕ)) (gate n : ℕ) → IsGate file gate → gate_in gate file ≡ Ok (Full n) → IsGate file (gate + 9 + n)
next_gate None gate n g says = absurd (omega (arith, g.long))
next_gate (Some f) gate n g says =
    let body = take n (drop (gate + 9) f) in
    let found = walked_at (gate + 9 + n) f in
    record {
      passed = g.passed ++ body ∷ [];
      is = g.is ∙ ap (behind_all g.passed) (full_gate gate n f says) ∙ ap (λ (l : List (List ℕ)). (l, found.1)) (sym (append_assoc g.passed (body ∷ []) found.0));
      here = omega (arith, g.here, end_of_more g.passed body, length-take n (drop (gate + 9) f), length-drop (gate + 9) f, full_gate_inside gate n f says);
      long = g.long;
    }

-- a closed gate is the end of the batches
pub last_gate : (file : Option (List ℕ)) (gate : ℕ) → IsGate file gate → gate_in gate file ≡ Ok Closed → IsEnd file gate
last_gate None gate g says = absurd (omega (arith, g.long))
last_gate (Some f) gate g says =
    let walk = g.is ∙ ap (behind_all g.passed) (closed_gate gate f says) ∙ ap (λ (l : List (List ℕ)). (l, None)) (append-nil g.passed) in
    (take 16 f, g.passed, gated_from_walk f g.passed g.long walk, g.here)

-- a damaged gate is the first damage of the file
pub damaged_gate : (file : Option (List ℕ)) (gate : ℕ) (e : GateRefusal) → IsGate file gate → gate_in gate file ≡ Err e → gated file ≡ Err e
damaged_gate None gate e g says = absurd (omega (arith, g.long))
damaged_gate (Some f) gate e g says =
    damaged_from_walk f (g.passed ++ []) gate g.long (g.is ∙ ap (behind_all g.passed) (bad_gate gate f e says)) ∙ ap (λ (k : GateRefusal). Err k) (sym (bad_there gate e f says))

none_at : (file : List ℕ) (says : Result Gate GateRefusal) → gate_in 16 (Some file) ≡ says → length file ≤ 17 → (walked_at 16 file).0 ≡ []
none_at file (Ok Closed) is short = ap (λ (w : Walked). w.0) (closed_gate 16 file is)
none_at file (Ok (Full n)) is short = absurd (omega (arith, short, full_gate_inside 16 n file is))
none_at file (Err refusal) is short = ap (λ (w : Walked). w.0) (bad_gate 16 file refusal is)

-- a file that is no longer than a new one has no batch
pub none_in_short : (o : Option (List ℕ)) (header : List ℕ) (bodies : List (List ℕ)) → size_of o ≤ 17 → gated o ≡ Ok (header, bodies) → bodies ≡ []
unfolding whole_bodies walked_at
none_in_short None header bodies short is = cc
none_in_short (Some file) header bodies short is = sym (gated_bodies (Some file) header bodies is) ∙ none_at file (gate_in 16 (Some file)) refl short

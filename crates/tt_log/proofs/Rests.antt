-- What is read of a file behind one of its gates.
use Rattle.std.proofs.Common.{◌≡◌, ◌⊎◌, inl, inr, ℕ, ◌+◌, ◌<◌, ◌≤◌, Bool, true, false, nat_le, List, [], ◌∷◌, length, Option, Some, None, Result, Ok, Err, refl, sym, ◌∙◌, ap, subst, arith, if◌then◌else◌, le-leb, length-append}
use Rattle.tt_disk.specs.Volume.{size_of, bytes_of, File}
use Rattle.tt_log.proofs.Sums.{not_le}
use Rattle.tt_gate.specs.declared.gate.Gate.{Gate}
use Rattle.tt_gate.specs.declared.gate.Gate.TheVariants.{Closed as Shut, Full}
use Rattle.tt_gate.specs.declared.gate.GateRefusal.{GateRefusal}
use Rattle.tt_gate.specs.declared.gate.GateRefusal.TheVariants.{Absent, BadHeader, BadBatch as GateBad, Failed as GateFailed}
use Rattle.tt_gate.specs.Gate.{gate_in, Walked, behind_body, walked_at}
use Rattle.tt_gate.specs.Walk.{full_gate, full_gate_inside, bad_gate, bad_there, closed_gate}
use Rattle.tt_value.specs.BigEndianLaws.{AreBytes}
use Rattle.tt_record.specs.declared.entry.Entry.{Entry}
use Rattle.tt_record.specs.Entry.{entry_bytes, body_bytes}
use Rattle.tt_record.specs.Read.{entries_of}
use Rattle.tt_record.specs.BodyLaws.{read_is_body}
use Rattle.tt_log.specs.declared.body.Body.TheVariants.{Entries, NextFile, Bad}
use Rattle.tt_log.specs.declared.batch.Batch.{Batch}
use Rattle.tt_log.specs.declared.refusal.LogRefusal.{LogRefusal}
use Rattle.tt_log.specs.declared.refusal.LogRefusal.TheVariants.{BadBatch, Failed}
use Rattle.tt_log.specs.Lengths.{total}
use Rattle.tt_log.specs.Walk.{Part, before, after_switch, chosen, batch_read, bodies_read, is_last, offset_behind, no_switch, switches}
use Rattle.tt_log.specs.Limits.{file_most}
use Rattle.tt_log.specs.Body.{body_in}
use Rattle.tt_log.specs.Batch.{rest_read, end_with, IsHeaded, IsFull, IsPlain, IsBatch, IsRefused, gate_for, refusal_of, after_switch_by}

-- what a walk from a gate on reads of a file
abbrev read_walk : ℕ → ℕ → ℕ → Walked → Part
read_walk n gate offset w = bodies_read n gate offset w.0 (end_with n w.1)

-- a closed gate, and one that is damaged
pub rest_closed : (n gate offset : ℕ) (o : File) → IsHeaded n o → gate_in gate o ≡ Ok Shut → rest_read n gate offset o ≡ Ok ([], false)
unfolding rest_read
rest_closed n gate offset None h says = absurd (omega (arith, h.0))
rest_closed n gate offset (Some f) h says = ap (read_walk n gate offset) (closed_gate gate f says)

pub rest_bad : (n gate offset b : ℕ) (o : File) → IsHeaded n o → gate_in gate o ≡ Err (GateBad b) → rest_read n gate offset o ≡ Err (BadBatch n b)
unfolding rest_read
rest_bad n gate offset b None h says = absurd (omega (arith, h.0))
rest_bad n gate offset b (Some f) h says =
    let same : b ≡ gate = let is = bad_there gate (GateBad b) f says in cc in
    ap (read_walk n gate offset) (bad_gate gate f (GateBad b) says) ∙ ap (λ (k : ℕ). Err (BadBatch n k)) (sym same)

abbrev batch_then : ℕ → ℕ → ℕ → List ℕ → File → Part
batch_then n gate offset body o =
    batch_read n gate (gate + 9 + length body) offset (entries_of body) (is_last (walked_at (gate + 9 + length body) (bytes_of o)).0)
    (rest_read n (gate + 9 + length body) (offset_behind offset (entries_of body)) o)

-- a batch, and what is read behind it
rest_full : (n gate offset : ℕ) (body : List ℕ) (o : File) → IsHeaded n o → IsFull gate body o → rest_read n gate offset o ≡ batch_then n gate offset body o
unfolding rest_read
rest_full n gate offset body None h full = absurd (omega (arith, h.0))
rest_full n gate offset body (Some f) h full =
    let next = gate + 9 + length body in
    ap (read_walk n gate offset) (full_gate gate (length body) f full.says) ∙ ap (λ (b : List ℕ). read_walk n gate offset (behind_body b (walked_at next f))) (sym full.bytes)

-- what a body is that isn't one of entries
record WasEntries (o : Option (List Entry)) (count : ℕ) : Type 0 where
  pub es : List Entry
  pub is : o ≡ Some es
  pub plain : no_switch es ≡ true
  pub long : count ≡ total es

record WasTurn (n : ℕ) (o : Option (List Entry)) : Type 0 where
  pub es : List Entry
  pub is : o ≡ Some es
  pub plain : no_switch es ≡ false
  pub switch : switches n es ≡ true

were_by : (n count : ℕ) (es : List Entry) (plain switch : Bool) → no_switch es ≡ plain → (if plain then Entries (total es) else (if switch then NextFile else Bad)) ≡ Entries count → WasEntries (Some es) count
were_by n count es true switch plain is = record { es = es; is = refl; plain = plain; long = cc }
were_by n count es false true plain is = cc
were_by n count es false false plain is = cc

were_entries : (n count : ℕ) (o : Option (List Entry)) → body_in n o ≡ Entries count → WasEntries o count
were_entries n count None is = cc
were_entries n count (Some es) is = were_by n count es (no_switch es) (switches n es) refl is

switch_by : (n : ℕ) (es : List Entry) (plain switch : Bool) → no_switch es ≡ plain → switches n es ≡ switch → (if plain then Entries (total es) else (if switch then NextFile else Bad)) ≡ NextFile → WasTurn n (Some es)
switch_by n es true switch plain switches_is is = cc
switch_by n es false true plain switches_is is = record { es = es; is = refl; plain = plain; switch = switches_is }
switch_by n es false false plain switches_is is = cc

was_switch : (n : ℕ) (o : Option (List Entry)) → body_in n o ≡ NextFile → WasTurn n o
was_switch n None is = cc
was_switch n (Some es) is = switch_by n es (no_switch es) (switches n es) refl refl is

bad_by : (n at next offset : ℕ) (es : List Entry) (last : Bool) (more : Part) (plain switch : Bool) → (if plain then Entries (total es) else (if switch then NextFile else Bad)) ≡ Bad
    → chosen plain switch last es n at next offset more ≡ Err (BadBatch n at)
bad_by n at next offset es last more true switch is = cc
bad_by n at next offset es last more false true is = cc
bad_by n at next offset es last more false false is = refl

bad_read : (n at next offset : ℕ) (o : Option (List Entry)) (last : Bool) (more : Part) → body_in n o ≡ Bad → batch_read n at next offset o last more ≡ Err (BadBatch n at)
bad_read n at next offset None last more is = refl
bad_read n at next offset (Some es) last more is = bad_by n at next offset es last more (no_switch es) (switches n es) is

pub batch_bad : (n gate offset : ℕ) (body : List ℕ) (o : File) → IsHeaded n o → IsFull gate body o → body_in n (entries_of body) ≡ Bad → rest_read n gate offset o ≡ Err (BadBatch n gate)
batch_bad n gate offset body o h full is = rest_full n gate offset body o h full ∙ bad_read n gate (gate + 9 + length body) offset (entries_of body) _ _ is

switch_then : (n at next offset : ℕ) (o : Option (List Entry)) (last : Bool) (more : Part) → WasTurn n o → batch_read n at next offset o last more ≡ (if last then after_switch more else Err (BadBatch n next))
switch_then n at next offset o last more w =
    ap (λ p. batch_read n at next offset p last more) w.is ∙ ap (λ (b : Bool). chosen b (switches n w.es) last w.es n at next offset more) w.plain
    ∙ ap (λ (b : Bool). chosen false b last w.es n at next offset more) w.switch

-- a gate of a file that is there isn't refused so
no_absent : {C : Type 0} (at : ℕ) (file : List ℕ) → gate_in at (Some file) ≡ Err Absent → C
no_absent at file is = let bad = bad_there at Absent file is in cc

no_header : {C : Type 0} (at : ℕ) (file : List ℕ) → gate_in at (Some file) ≡ Err BadHeader → C
no_header at file is = let bad = bad_there at BadHeader file is in cc

pub batch_switch : (n gate offset : ℕ) (body : List ℕ) (o : File) (r : Result Batch LogRefusal) → IsHeaded n o → IsFull gate body o → body_in n (entries_of body) ≡ NextFile
    → (r ≡ Err Failed) ⊎ (r ≡ after_switch_by n (gate + 9 + length body) (gate_in (gate + 9 + length body) o)) → IsBatch n gate offset o r
batch_switch n gate offset body None r h full is answer = absurd (omega (arith, h.0))
batch_switch n gate offset body (Some f) r h full is answer = by_answer answer
  where
    switched : rest_read n gate offset (Some f) ≡ (if is_last ((walked_at (gate + 9 + length body) f).0) then after_switch (rest_read n (gate + 9 + length body) (offset_behind offset (entries_of body)) (Some f)) else Err (BadBatch n (gate + 9 + length body)))
    switched = rest_full n gate offset body (Some f) h full ∙ switch_then n gate (gate + 9 + length body) offset (entries_of body) (is_last ((walked_at (gate + 9 + length body) f).0)) (rest_read n (gate + 9 + length body) (offset_behind offset (entries_of body)) (Some f)) (was_switch n (entries_of body) is)

    by_gate : (g : Result Gate GateRefusal) → gate_in (gate + 9 + length body) (Some f) ≡ g → IsBatch n gate offset (Some f) (after_switch_by n (gate + 9 + length body) g)
    by_gate (Ok Shut) says =
        switched ∙ ap (λ (l : List (List ℕ)). if is_last l then after_switch (rest_read n (gate + 9 + length body) (offset_behind offset (entries_of body)) (Some f)) else Err (BadBatch n (gate + 9 + length body))) (ap (λ (w : Walked). w.0) (closed_gate (gate + 9 + length body) f says))
        ∙ ap after_switch (rest_closed n (gate + 9 + length body) (offset_behind offset (entries_of body)) (Some f) h says)
    by_gate (Ok (Full k)) says =
        inr (inr (switched ∙ ap (λ (l : List (List ℕ)). if is_last l then after_switch (rest_read n (gate + 9 + length body) (offset_behind offset (entries_of body)) (Some f)) else Err (BadBatch n (gate + 9 + length body))) (ap (λ (w : Walked). w.0) (full_gate (gate + 9 + length body) k f says))))
    by_gate (Err (GateBad b)) says =
        inr (inr (switched ∙ ap (λ (l : List (List ℕ)). if is_last l then after_switch (rest_read n (gate + 9 + length body) (offset_behind offset (entries_of body)) (Some f)) else Err (BadBatch n (gate + 9 + length body))) (ap (λ (w : Walked). w.0) (bad_gate (gate + 9 + length body) f (GateBad b) says))
        ∙ ap after_switch (rest_bad n (gate + 9 + length body) (offset_behind offset (entries_of body)) b (Some f) h says)))
    by_gate (Err Absent) says = no_absent (gate + 9 + length body) f says
    by_gate (Err BadHeader) says = no_header (gate + 9 + length body) f says
    by_gate (Err GateFailed) says = inl refl

    by_answer : (r ≡ Err Failed) ⊎ (r ≡ after_switch_by n (gate + 9 + length body) (gate_in (gate + 9 + length body) (Some f))) → IsBatch n gate offset (Some f) r
    by_answer (inl failed) = let P : Result Batch LogRefusal → Type 0 = λ q. IsBatch n gate offset (Some f) q in subst P (sym failed) (inl refl)
    by_answer (inr same) = let P : Result Batch LogRefusal → Type 0 = λ q. IsBatch n gate offset (Some f) q in subst P (sym same) (by_gate (gate_in (gate + 9 + length body) (Some f)) refl)

-- entries
long_body : (es : List Entry) → total es ≡ length (body_bytes es)
long_body [] = refl
long_body (e ∷ es) = omega (arith, long_body es, length-append (entry_bytes e) (body_bytes es))

pub long_read : (body : List ℕ) (es : List Entry) → AreBytes body → entries_of body ≡ Some es → total es ≡ length body
long_read body es bytes is = let b = read_is_body body es bytes is in long_body es ∙ ap length (sym b.whole)

plain_then : (n at next offset count : ℕ) (o : Option (List Entry)) (last : Bool) (more : Part) (w : WasEntries o count) → batch_read n at next offset o last more ≡ (if nat_le (offset + total w.es) file_most then before w.es more else Err (BadBatch n at))
plain_then n at next offset count o last more w =
    ap (λ p. batch_read n at next offset p last more) w.is ∙ ap (λ (b : Bool). chosen b (switches n w.es) last w.es n at next offset more) w.plain

pub batch_over : (n gate offset count : ℕ) (body : List ℕ) (o : File) → IsHeaded n o → IsFull gate body o → AreBytes body → body_in n (entries_of body) ≡ Entries count → file_most < offset + length body
    → rest_read n gate offset o ≡ Err (BadBatch n gate)
batch_over n gate offset count body o h full bytes is over =
    let w = were_entries n count (entries_of body) is in
    let long = long_read body w.es bytes w.is in
    rest_full n gate offset body o h full ∙ plain_then n gate (gate + 9 + length body) offset count (entries_of body) _ _ w
    ∙ ap (λ (b : Bool). if b then before w.es (rest_read n (gate + 9 + length body) (offset_behind offset (entries_of body)) o) else Err (BadBatch n gate)) (not_le (offset + total w.es) file_most (omega (arith, long, over)))

pub batch_plain : (n gate offset count : ℕ) (body : List ℕ) (o : File) → IsHeaded n o → IsFull gate body o → AreBytes body → body_in n (entries_of body) ≡ Entries count → offset + length body ≤ file_most
    → IsPlain n gate offset o body
batch_plain n gate offset count body o h full bytes is fits =
    let w = were_entries n count (entries_of body) is in
    let long = long_read body w.es bytes w.is in
    record {
      es = w.es;
      is = w.is;
      long = long;
      goes = rest_full n gate offset body o h full ∙ plain_then n gate (gate + 9 + length body) offset count (entries_of body) _ _ w
          ∙ ap (λ (b : Bool). if b then before w.es (rest_read n (gate + 9 + length body) (offset_behind offset (entries_of body)) o) else Err (BadBatch n gate)) (le-leb (offset + total w.es) file_most (omega (arith, long, fits)))
          ∙ ap (λ (k : ℕ). before w.es (rest_read n (gate + 9 + length body) k o)) (ap (offset_behind offset) w.is ∙ ap (λ (k : ℕ). offset + k) long);
    }

-- what the gate says that the first call answered
pub gate_refused : (n gate offset : ℕ) (o : File) (e : LogRefusal) → IsHeaded n o → 0 < gate → (◌≡◌ {A = Result Gate LogRefusal} (Err e) (Err Failed)) ⊎ (Err e ≡ gate_for n (gate_in gate o)) → IsRefused e (rest_read n gate offset o)
gate_refused n gate offset None e h some answer = absurd (omega (arith, h.0))
gate_refused n gate offset (Some f) e h some (inl failed) = inl (let same : e ≡ Failed = cc in same)
gate_refused n gate offset (Some f) e h some (inr same) = by_gate (gate_in gate (Some f)) refl same
  where
    by_gate : (g : Result Gate GateRefusal) → gate_in gate (Some f) ≡ g → (◌≡◌ {A = Result Gate LogRefusal} (Err e) (gate_for n g)) → IsRefused e (rest_read n gate offset (Some f))
    by_gate (Ok g) says is = cc
    by_gate (Err (GateBad b)) says is = let same : e ≡ BadBatch n b = cc in inr (inr (rest_bad n gate offset b (Some f) h says ∙ ap (λ (x : LogRefusal). Err x) (sym same)))
    by_gate (Err Absent) says is = no_absent gate f says
    by_gate (Err BadHeader) says is = no_header gate f says
    by_gate (Err GateFailed) says is = inl (let same : e ≡ Failed = cc in same)

abbrev gate_ok : Gate → Result Gate LogRefusal
gate_ok g = Ok g

abbrev gate_err : LogRefusal → Result Gate LogRefusal
gate_err e = Err e

-- a gate that was answered is what the file says
pub gate_told : (n : ℕ) (r : Result Gate LogRefusal) (g : Gate) (x : Result Gate GateRefusal) → (r ≡ Err Failed) ⊎ (r ≡ gate_for n x) → r ≡ Ok g → x ≡ Ok g
gate_told n r g x (inl failed) is = absurd (let bad : gate_err Failed ≡ gate_ok g = sym failed ∙ is in cc)
gate_told n r g (Ok h) (inr same) is = let one : gate_ok h ≡ gate_ok g = sym same ∙ is in let two : h ≡ g = cc in ap (λ (k : Gate). Ok k) two
gate_told n r g (Err e) (inr same) is = absurd (let bad : gate_err (refusal_of n e) ≡ gate_ok g = sym same ∙ is in cc)

pub gate_inside : (gate k : ℕ) (o : File) → gate_in gate o ≡ Ok (Full k) → gate + 9 + k ≤ size_of o
gate_inside gate k None says = cc
gate_inside gate k (Some f) says = omega (arith, full_gate_inside gate k f says)

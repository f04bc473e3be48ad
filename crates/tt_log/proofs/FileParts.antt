-- One more batch in a file.
use Rattle.std.proofs.Common.{◌≡◌, ◌≤◌, ◌+◌, arith, nat_le, ◌&&◌, ℕ, List, [], ◌∷◌, ◌++◌, length, take, if◌then◌else◌, refl, sym, ap, ◌∙◌, Bool, true, false, append_assoc, Option, Some, None, Result, Ok, Err}
use Rattle.std.proofs.lemmas.Bool.{eq-eqb, le-leb}
use Rattle.std.proofs.lemmas.List.{append-nil}
use Rattle.tt_gate.specs.declared.gate.GateRefusal.{GateRefusal}
use Rattle.tt_gate.specs.declared.gate.GateRefusal.TheVariants.{Absent, BadHeader, BadBatch as GateBad, Failed as GateFailed}
use Rattle.tt_disk.specs.Volume.{bytes_of, File}
use Rattle.tt_gate.specs.Gate.{gated, whole_bodies}
use Rattle.tt_gate.specs.GateFile.{with_batch}
use Rattle.tt_record.specs.declared.entry.Entry.{Entry}
use Rattle.tt_record.specs.Read.{entries_of}
use Rattle.tt_log.specs.Lengths.{total}
use Rattle.tt_log.proofs.Sums.{total_more}
use Rattle.tt_log.specs.declared.refusal.LogRefusal.{LogRefusal}
use Rattle.tt_log.specs.declared.refusal.LogRefusal.TheVariants.{Gap, BadBatch}
use Rattle.tt_log.specs.Walk.{Part, before, chosen, batch_read, is_last, offset_behind, bodies_read, same_bytes, log_header, part_of, file_read, no_switch, switches}
use Rattle.tt_log.specs.Limits.{file_most}

abbrev ok : List Entry × Bool → Part
ok part = Ok part

same_Ok : (x y : List Entry × Bool) → ok x ≡ ok y → x ≡ y
same_Ok x y is = cc

-- what a batch that isn't the last read was
record Passed (offset : ℕ) (o : Option (List Entry)) (more : Part) (es : List Entry) : Type 0 where
  pub here : List Entry
  pub rest : List Entry
  pub is : o ≡ Some here
  pub plain : no_switch here ≡ true
  pub fits : nat_le (offset + total here) file_most ≡ true
  pub goes : more ≡ Ok (rest, false)
  pub all : es ≡ here ++ rest

passed_before : (offset : ℕ) (gs : List Entry) (more : Part) (es : List Entry) → no_switch gs ≡ true → nat_le (offset + total gs) file_most ≡ true → before gs more ≡ Ok (es, false) → Passed offset (Some gs) more es
passed_before offset gs (Err e) es plain fits is = cc
passed_before offset gs (Ok part) es plain fits is =
    let same : (gs ++ part.0, part.1) ≡ (es, false) = same_Ok _ _ is in
    record { here = gs; rest = part.0; is = refl; plain = plain; fits = fits; goes = ap (λ (b : Bool). Ok (part.0, b)) (ap (λ (p : List Entry × Bool). p.1) same); all = sym (ap (λ (p : List Entry × Bool). p.0) same) }

passed_fits : (fits : Bool) (n at offset : ℕ) (gs : List Entry) (more : Part) (es : List Entry) → no_switch gs ≡ true → nat_le (offset + total gs) file_most ≡ fits → (if fits then before gs more else Err (BadBatch n at)) ≡ Ok (es, false) → Passed offset (Some gs) more es
passed_fits true n at offset gs more es plain fits is = passed_before offset gs more es plain fits is
passed_fits false n at offset gs more es plain fits is = cc

passed_chosen : (plain switch last : Bool) (gs : List Entry) (n at next offset : ℕ) (more : Part) (es : List Entry) → no_switch gs ≡ plain → chosen plain switch last gs n at next offset more ≡ Ok (es, false) → Passed offset (Some gs) more es
passed_chosen true switch last gs n at next offset more es plain is = passed_fits (nat_le (offset + total gs) file_most) n at offset gs more es plain refl is
passed_chosen false true true gs n at next offset (Ok part) es plain is = absurd (let bad : true ≡ false = ap (λ (p : List Entry × Bool). p.1) (same_Ok _ _ is) in cc)
passed_chosen false true true gs n at next offset (Err e) es plain is = cc
passed_chosen false true false gs n at next offset more es plain is = cc
passed_chosen false false last gs n at next offset more es plain is = cc

passed : (n at next offset : ℕ) (o : Option (List Entry)) (last : Bool) (more : Part) (es : List Entry) → batch_read n at next offset o last more ≡ Ok (es, false) → Passed offset o more es
passed n at next offset None last more es is = cc
passed n at next offset (Some gs) last more es is = passed_chosen (no_switch gs) (switches n gs) last gs n at next offset more es refl is

plain_read : (n at next offset : ℕ) (o : Option (List Entry)) (last : Bool) (more : Part) (gs : List Entry) → o ≡ Some gs → no_switch gs ≡ true → nat_le (offset + total gs) file_most ≡ true → batch_read n at next offset o last more ≡ before gs more
plain_read n at next offset o last more gs is plain fits =
    ap (λ p. batch_read n at next offset p last more) is ∙ ap (λ (b : Bool). chosen b (switches n gs) last gs n at next offset more) plain
    ∙ ap (λ (b : Bool). if b then before gs more else Err (BadBatch n at)) fits

pub bodies_push : (n at offset : ℕ) (bodies : List (List ℕ)) (body : List ℕ) (es fs : List Entry) → bodies_read n at offset bodies (Ok ([], false)) ≡ Ok (es, false) → entries_of body ≡ Some fs → no_switch fs ≡ true → offset + total es + total fs ≤ file_most
    → bodies_read n at offset (bodies ++ body ∷ []) (Ok ([], false)) ≡ Ok (es ++ fs, false)
bodies_push n at offset [] body es fs first second plain room =
    let none : [] ≡ es = ap (λ (p : List Entry × Bool). p.0) (same_Ok _ _ first) in
    plain_read n at (at + 9 + length body) offset (entries_of body) true (Ok ([], false)) fs second plain (le-leb (offset + total fs) file_most (omega (arith, room, ap total none)))
    ∙ ap (λ (l : List Entry). Ok (l, false)) (append-nil fs ∙ ap (λ (l : List Entry). l ++ fs) none)
bodies_push n at offset (b ∷ bodies) body es fs first second plain room =
    let next = at + 9 + length b in
    let p = passed n at next offset (entries_of b) (is_last bodies) (bodies_read n next (offset_behind offset (entries_of b)) bodies (Ok ([], false))) es first in
    let sum : offset_behind offset (entries_of b) ≡ offset + total p.here = ap (offset_behind offset) p.is in
    let all : total es ≡ total p.here + total p.rest = ap total p.all ∙ total_more p.here p.rest in
    let again = bodies_push n next (offset_behind offset (entries_of b)) bodies body p.rest fs p.goes second plain (omega (arith, sum, all, room)) in
    plain_read n at next offset (entries_of b) (is_last (bodies ++ body ∷ [])) (bodies_read n next (offset_behind offset (entries_of b)) (bodies ++ body ∷ []) (Ok ([], false))) p.here p.is p.plain p.fits
    ∙ ap (before p.here) again
    ∙ ap (λ (l : List Entry). Ok (l, false)) (sym (append_assoc p.here p.rest fs) ∙ ap (λ (l : List Entry). l ++ fs) (sym p.all))

switch_read : (n at next offset : ℕ) (o : Option (List Entry)) (part : List Entry × Bool) (gs : List Entry) → o ≡ Some gs → no_switch gs ≡ false → switches n gs ≡ true → batch_read n at next offset o true (Ok part) ≡ Ok ([], true)
switch_read n at next offset o part gs is plain switch =
    ap (λ p. batch_read n at next offset p true (Ok part)) is ∙ ap (λ (b : Bool). chosen b (switches n gs) true gs n at next offset (Ok part)) plain ∙ ap (λ (b : Bool). chosen false b true gs n at next offset (Ok part)) switch

pub bodies_switch : (n at offset : ℕ) (bodies : List (List ℕ)) (body : List ℕ) (es fs : List Entry) → bodies_read n at offset bodies (Ok ([], false)) ≡ Ok (es, false) → entries_of body ≡ Some fs → no_switch fs ≡ false → switches n fs ≡ true
    → bodies_read n at offset (bodies ++ body ∷ []) (Ok ([], false)) ≡ Ok (es, true)
bodies_switch n at offset [] body es fs first second plain switch =
    let none : [] ≡ es = ap (λ (p : List Entry × Bool). p.0) (same_Ok _ _ first) in
    switch_read n at (at + 9 + length body) offset (entries_of body) ([], false) fs second plain switch ∙ ap (λ (l : List Entry). Ok (l, true)) none
bodies_switch n at offset (b ∷ bodies) body es fs first second plain switch =
    let next = at + 9 + length b in
    let p = passed n at next offset (entries_of b) (is_last bodies) (bodies_read n next (offset_behind offset (entries_of b)) bodies (Ok ([], false))) es first in
    let again = bodies_switch n next (offset_behind offset (entries_of b)) bodies body p.rest fs p.goes second plain switch in
    plain_read n at next offset (entries_of b) (is_last (bodies ++ body ∷ [])) (bodies_read n next (offset_behind offset (entries_of b)) (bodies ++ body ∷ []) (Ok ([], false))) p.here p.is p.plain p.fits
    ∙ ap (before p.here) again
    ∙ ap (λ (l : List Entry). Ok (l, true)) (sym p.all)

-- the same of a file: what is so of its batches, where it has the right header
abbrev read_16 : ℕ → List (List ℕ) → Part
read_16 n bodies = bodies_read n 16 0 bodies (Ok ([], false))

by_header : (n : ℕ) (header : List ℕ) (bodies bodies' : List (List ℕ)) (file file' : File) (test : Bool) (es : List Entry) (part : List Entry × Bool) → same_bytes header (log_header n) ≡ test
    → part_of (bodies_read n 16 0) n file (Ok (header, bodies)) ≡ Ok (es, false) → (read_16 n bodies ≡ Ok (es, false) → read_16 n bodies' ≡ Ok part) → part_of (bodies_read n 16 0) n file' (Ok (header, bodies')) ≡ Ok part
by_header n header bodies bodies' file file' false es part is first next = absurd (let bad = rw is at first in cc)
by_header n header bodies bodies' file file' true es part is first next = let there = rw is at first in rw is (next there)

never : (n at offset : ℕ) (bodies : List (List ℕ)) (e : LogRefusal) (es : List Entry) → ¬ (bodies_read n at offset bodies (Err e) ≡ Ok (es, false))
never n at offset [] e es is = cc
never n at offset (b ∷ bodies) e es is =
    let p = passed n at (at + 9 + length b) offset (entries_of b) (is_last bodies) (bodies_read n (at + 9 + length b) (offset_behind offset (entries_of b)) bodies (Err e)) es is in
    never n (at + 9 + length b) (offset_behind offset (entries_of b)) bodies e p.rest p.goes

never_bad : (n at : ℕ) (header : List ℕ) (bodies : List (List ℕ)) (test : Bool) (es : List Entry) → ¬ ((if test then bodies_read n 16 0 bodies (Err (BadBatch n at)) else Err (Gap n)) ≡ Ok (es, false))
never_bad n at header bodies true es is = never n 16 0 bodies (BadBatch n at) es is
never_bad n at header bodies false es is = cc

by_gated : (n : ℕ) (found : Result (List ℕ × List (List ℕ)) GateRefusal) (body : List ℕ) (file file' : File) (es : List Entry) (part : List Entry × Bool) → part_of (bodies_read n 16 0) n file found ≡ Ok (es, false)
    → ((bodies : List (List ℕ)) → read_16 n bodies ≡ Ok (es, false) → read_16 n (bodies ++ body ∷ []) ≡ Ok part) → part_of (bodies_read n 16 0) n file' (with_batch body found) ≡ Ok part
by_gated n (Ok found) body file file' es part first next = by_header n found.0 found.1 (found.1 ++ body ∷ []) file file' (same_bytes found.0 (log_header n)) es part refl first (next found.1)
by_gated n (Err (GateBad at)) body file file' es part first next = absurd (never_bad n at [] (whole_bodies file) (same_bytes (take 16 (bytes_of file)) (log_header n)) es first)
by_gated n (Err Absent) body file file' es part first next = cc
by_gated n (Err BadHeader) body file file' es part first next = cc
by_gated n (Err GateFailed) body file file' es part first next = cc

pub file_push : (n : ℕ) (old new : File) (body : List ℕ) (es fs : List Entry) → file_read n old ≡ Ok (es, false) → gated new ≡ with_batch body (gated old) → entries_of body ≡ Some fs → no_switch fs ≡ true → total es + total fs ≤ file_most
    → file_read n new ≡ Ok (es ++ fs, false)
unfolding file_read
file_push n old new body es fs first is second plain room =
    ap (part_of (bodies_read n 16 0) n new) is ∙ by_gated n (gated old) body old new es (es ++ fs, false) first (λ bodies r. bodies_push n 16 0 bodies body es fs r second plain (omega (arith, room)))

pub file_switch : (n : ℕ) (old new : File) (body : List ℕ) (es fs : List Entry) → file_read n old ≡ Ok (es, false) → gated new ≡ with_batch body (gated old) → entries_of body ≡ Some fs → no_switch fs ≡ false → switches n fs ≡ true
    → file_read n new ≡ Ok (es, true)
unfolding file_read
file_switch n old new body es fs first is second plain switch =
    ap (part_of (bodies_read n 16 0) n new) is ∙ by_gated n (gated old) body old new es (es, true) first (λ bodies r. bodies_switch n 16 0 bodies body es fs r second plain switch)

same_part : (n : ℕ) (found : Result (List ℕ × List (List ℕ)) GateRefusal) (old new : File) (part : List Entry × Bool) → part_of (bodies_read n 16 0) n old found ≡ Ok (part.0, false) → part_of (bodies_read n 16 0) n new found ≡ Ok (part.0, false)
same_part n (Ok found) old new part first = first
same_part n (Err (GateBad at)) old new part first = absurd (never_bad n at [] (whole_bodies old) (same_bytes (take 16 (bytes_of old)) (log_header n)) part.0 first)
same_part n (Err Absent) old new part first = cc
same_part n (Err BadHeader) old new part first = cc
same_part n (Err GateFailed) old new part first = cc

-- what is read without damage, and not up to a Switch, is read of the header and the batches alone
pub file_same : (n : ℕ) (old new : File) (es : List Entry) → gated new ≡ gated old → file_read n old ≡ Ok (es, false) → file_read n new ≡ Ok (es, false)
unfolding file_read
file_same n old new es is first = ap (part_of (bodies_read n 16 0) n new) is ∙ same_part n (gated old) old new (es, false) first

pub same_self : (bytes : List ℕ) → same_bytes bytes bytes ≡ true
same_self [] = refl
same_self (b ∷ bytes) = ap (λ (t : Bool). t && same_bytes bytes bytes) (eq-eqb b b refl) ∙ same_self bytes

pub file_made : (n : ℕ) (file : File) → gated file ≡ Ok (log_header n, []) → file_read n file ≡ Ok ([], false)
unfolding file_read
file_made n file is = ap (part_of (bodies_read n 16 0) n file) is ∙ (let same = same_self (log_header n) in rw same refl)

-- How far the entries of a file were read.
use Rattle.std.proofs.Common.{◌≡◌, ◌+◌, ◌==◌, ◌||◌, ℕ, List, [], ◌++◌, length, Bool, false, Result, Ok, Err, refl, sym, ap, ◌∙◌, subst, arith, append_assoc}
use Rattle.std.proofs.lemmas.List.{append-nil}
use Rattle.std.specs.Prelude.{Vec}
use Rattle.std.specs.declared.alloc.Global.{Global}
use Rattle.tt_gate.specs.declared.gate.Gate.TheVariants.{Full}
use Rattle.tt_gate.specs.Gate.{gate_in}
use Rattle.tt_gate.specs.GateFile.{IsEnd as IsGateEnd}
use Rattle.tt_gate.specs.Walk.{IsGate, first_gate, next_gate, last_gate}
use Rattle.tt_record.specs.declared.entry.Entry.{Entry}
use Rattle.tt_log.specs.Lengths.{total}
use Rattle.tt_log.specs.declared.batch.Batch.{Batch}
use Rattle.tt_log.specs.declared.batch.Batch.TheVariants.{Closed, Entries}
use Rattle.tt_log.specs.declared.file.FileEnd.{FileEnd}
use Rattle.tt_log.specs.declared.file.FileCursor.{FileCursor}
use Rattle.tt_log.specs.declared.file.BatchStep.{BatchStep}
use Rattle.tt_log.specs.declared.file.BatchStep.TheVariants.{Ends}
use Rattle.tt_log.specs.declared.refusal.LogRefusal.{LogRefusal}
use Rattle.tt_log.specs.Walk.{Part, before}
use Rattle.tt_log.specs.Batch.{rest_read, IsHeaded, IsRefused, IsBatch, IsPlain, GateSays}
use Rattle.tt_log.specs.Opening.{starts_at}
use Rattle.tt_log.specs.File.{HasEnd, HasRead, IsBehind, IsReached, Closes, ClosesIfEnded}
use Rattle.tt_log.proofs.Sums.{total_more}
use Rattle.tt_log.proofs.Skips.{starts_both}
use Rattle.tt_disk.specs.Volume.{File}

abbrev Bytes : Type 0
Bytes = Vec ℕ Global

abbrev Answer : Type 0
Answer = Result Batch LogRefusal

pub batch_is : (n gate offset : ℕ) (file : File) (r : Answer) (b : Batch) {want : Batch} → IsBatch n gate offset file r → r ≡ Ok b → b ≡ want → IsBatch n gate offset file (Ok want)
batch_is n gate offset file r b says is one =
    let P : Answer → Type 0 = λ q. IsBatch n gate offset file q in
    subst P (is ∙ ap (λ (k : Batch). Ok k) one) says

pub is_refused : (n gate offset : ℕ) (file : File) (r : Answer) (e : LogRefusal) → IsBatch n gate offset file r → r ≡ Err e → IsRefused e (rest_read n gate offset file)
is_refused n gate offset file r e says is =
    let P : Answer → Type 0 = λ q. IsBatch n gate offset file q in
    subst P is says

pub ended : (wanted n : ℕ) (file : File) (at : FileCursor) (end : FileEnd) (switched : Bool) → IsReached wanted n file at → rest_read n at.gate at.offset file ≡ Ok ([], switched)
    → end.total ≡ at.offset → end.switched ≡ switched → end.is_place ≡ (at.starts || (at.offset == wanted)) → HasEnd wanted (rest_read n 16 0 file) end
ended wanted n file at end switched r rest total_is switched_is place = record {
  end_is = record {
    es = r.es;
    is = r.is ∙ ap (before r.es) rest ∙ ap (λ (l : List Entry). Ok (l, switched)) (append-nil r.es) ∙ ap (λ (b : Bool). Ok (r.es, b)) (sym switched_is);
    long = r.long ∙ sym total_is;
  };
  place = place ∙ ap (λ (b : Bool). b || (at.offset == wanted)) r.starts ∙ ap (λ (k : ℕ). starts_at wanted 0 r.es || (k == wanted)) (sym r.long);
}

pub before_twice : (es fs : List Entry) (part : Part) → before es (before fs part) ≡ before (es ++ fs) part
before_twice es fs (Ok part) = ap (λ (l : List Entry). Ok (l, part.1)) (sym (append_assoc es fs part.0))
before_twice es fs (Err e) = refl

pub reached_more : (wanted n : ℕ) (file : File) (at next : FileCursor) (body : List ℕ) → IsReached wanted n file at → IsPlain n at.gate at.offset file body → gate_in at.gate file ≡ Ok (Full (length body)) → IsBehind wanted at body next → IsReached wanted n file next
reached_more wanted n file at next body r p says b = record {
  es = r.es ++ p.es;
  gate = subst (λ (k : ℕ). IsGate file k) (sym b.gate) (next_gate file at.gate (length body) r.gate says);
  is = r.is ∙ ap (before r.es) p.goes ∙ before_twice r.es p.es (rest_read n (at.gate + 9 + length body) (at.offset + length body) file)
      ∙ ap (λ (k : ℕ). before (r.es ++ p.es) (rest_read n k (at.offset + length body) file)) (sym b.gate) ∙ ap (λ (k : ℕ). before (r.es ++ p.es) (rest_read n next.gate k file)) (sym b.offset);
  long = total_more r.es p.es ∙ omega (arith, r.long, p.long, b.offset);
  starts = b.starts p.es p.is p.long ∙ ap (λ (c : Bool). c || starts_at wanted at.offset p.es) r.starts
      ∙ ap (λ (k : ℕ). starts_at wanted 0 r.es || starts_at wanted k p.es) (let e : at.offset ≡ 0 + total r.es = omega (arith, r.long) in e) ∙ sym (starts_both wanted 0 r.es p.es);
}

pub none_before : (part : Part) → part ≡ before [] part
none_before (Ok part) = refl
none_before (Err e) = refl

pub at_start : (wanted n : ℕ) (file : File) (at : FileCursor) → IsHeaded n file → at.gate ≡ 16 → at.offset ≡ 0 → at.starts ≡ false → IsReached wanted n file at
at_start wanted n file at headed gate offset starts = record {
  es = [];
  gate = subst (λ (k : ℕ). IsGate file k) (sym gate) (first_gate file headed.0);
  is = none_before (rest_read n 16 0 file) ∙ ap (λ (k : ℕ). before [] (rest_read n k 0 file)) (sym gate) ∙ ap (λ (k : ℕ). before [] (rest_read n at.gate k file)) (sym offset);
  long = sym offset;
  starts = starts;
}

-- the closed gate that ends a file
pub closes_at : (wanted n : ℕ) (file : File) (at : FileCursor) (end : FileEnd) (b : Batch) → IsReached wanted n file at → GateSays at.gate file b → b ≡ Closed → end.gate ≡ at.gate → Closes file end
closes_at wanted n file at end b r says one here switched = subst (λ (k : ℕ). IsGateEnd file k) (sym here) (last_gate file at.gate r.gate (subst (λ (k : Batch). GateSays at.gate file k) one says))

pub says_full : (gate : ℕ) (file : File) (b : Batch) (body : Bytes) → GateSays gate file b → b ≡ Entries body → gate_in gate file ≡ Ok (Full (length body.items))
says_full gate file b body says one = subst (λ (k : Batch). GateSays gate file k) one says

pub closes_same : (file other : File) (end : FileEnd) → Closes file end → file ≡ other → Closes other end
closes_same file other end closes same = subst (λ o. Closes o end) same closes

pub end_closes : (file other : File) (w : BatchStep) (end : FileEnd) → ClosesIfEnded file w → w ≡ Ends end → file ≡ other → Closes other end
end_closes file other w end closes one same = closes_same file other end (subst (λ (k : BatchStep). ClosesIfEnded file k) one closes) same

pub read_is : (wanted n : ℕ) (file other : File) (r : Result BatchStep LogRefusal) (w : BatchStep) {want : BatchStep} → HasRead wanted n file r → r ≡ Ok w → w ≡ want → file ≡ other → HasRead wanted n other (Ok want)
read_is wanted n file other r w {want} says is one same =
    let P : Result BatchStep LogRefusal → Type 0 = λ q. HasRead wanted n file q in
    subst (λ o. HasRead wanted n o (Ok want)) same (subst P (is ∙ ap (λ (k : BatchStep). Ok k) one) says)

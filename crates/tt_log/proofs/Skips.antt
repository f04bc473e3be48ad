-- Entries that are passed over until one starts where it is wanted.
use Rattle.std.proofs.Common.{◌≡◌, ◌⊎◌, inl, inr, ◌<◌, ◌≤◌, ◌+◌, ◌==◌, ◌||◌, ℕ, List, [], ◌∷◌, ◌++◌, length, drop, Bool, true, false, Option, Some, None, refl, sym, ap, ◌∙◌, arith, length-drop, append_assoc}
use Rattle.std.proofs.lemmas.Bool.{eq-eqb, cases_eq}
use Rattle.std.proofs.lemmas.Bool.Decides.{nat_tests}
use Rattle.std.proofs.lemmas.List.{drop-drop}
use Rattle.tt_record.specs.declared.entry.Entry.{Entry}
use Rattle.tt_record.specs.Entry.{length_of}
use Rattle.tt_record.specs.EntryLaws.{some_bytes}
use Rattle.tt_record.specs.Read.{entry_at, entries_of, behind}
use Rattle.tt_record.specs.BodyLaws.{entries_step, entries_bad, entries_some}
use Rattle.tt_log.specs.Lengths.{total}
use Rattle.tt_log.specs.Body.{joined}
use Rattle.tt_log.specs.Opening.{starts_at, HasEntry}

-- the entries before an offset, none of which starts where it is wanted
pub record Skipped (bytes : List ℕ) (wanted at : ℕ) : Type 0 where
  pub es : List Entry
  pub is : entries_of bytes ≡ joined es (entries_of (drop at bytes))
  pub low : (gs : List Entry) → starts_at wanted 0 (es ++ gs) ≡ starts_at wanted at gs

pub joined_none : (o : Option (List Entry)) → o ≡ joined [] o
joined_none None = refl
joined_none (Some fs) = refl

pub joined_behind : (es : List Entry) (e : Entry) (o : Option (List Entry)) → joined es (behind e o) ≡ joined (es ++ e ∷ []) o
joined_behind es e None = refl
joined_behind es e (Some fs) = ap (λ (l : List Entry). Some l) (sym (append_assoc es (e ∷ []) fs))

pub not_eq : (a b : ℕ) → ¬ (a ≡ b) → (a == b) ≡ false
not_eq a b apart = grind (arith, nat_tests)

pub one_skipped : (bytes : List ℕ) (wanted at n : ℕ) → Skipped bytes wanted at → at < wanted → HasEntry bytes at n → Skipped bytes wanted (at + n)
one_skipped bytes wanted at n s below h = record {
  es = s.es ++ h.entry ∷ [];
  is = s.is ∙ ap (joined s.es) (entries_step (drop at bytes) h.entry n h.is) ∙ joined_behind s.es h.entry (entries_of (drop n (drop at bytes))) ∙ ap (λ (l : List ℕ). joined (s.es ++ h.entry ∷ []) (entries_of l)) (drop-drop n at bytes);
  low = λ gs.
      ap (starts_at wanted 0) (append_assoc s.es (h.entry ∷ []) gs) ∙ s.low (h.entry ∷ gs)
      ∙ ap (λ (b : Bool). b || starts_at wanted (at + length_of h.entry) gs) (not_eq at wanted (λ same. omega (arith, same, below)))
      ∙ ap (λ (k : ℕ). starts_at wanted (at + k) gs) (sym h.long);
}

pub starts_low : (k at : ℕ) (es : List Entry) → k < at → starts_at k at es ≡ false
starts_low k at [] below = refl
starts_low k at (e ∷ es) below =
    ap (λ (b : Bool). b || starts_at k (at + length_of e) es) (not_eq at k (λ same. omega (arith, same, below))) ∙ starts_low k (at + length_of e) es (omega (arith, below))

pub starts_high : (k at : ℕ) (es : List Entry) → at + total es ≤ k → starts_at k at es ≡ false
starts_high k at [] above = refl
starts_high k at (e ∷ es) above =
    ap (λ (b : Bool). b || starts_at k (at + length_of e) es) (not_eq at k (λ same. omega (arith, same, above, some_bytes e))) ∙ starts_high k (at + length_of e) es (omega (arith, above))

pub starts_moved : (k at base : ℕ) (es : List Entry) → starts_at (base + k) (base + at) es ≡ starts_at k at es
starts_moved k at base [] = refl
starts_moved k at base (e ∷ es) =
    ap (λ (b : Bool). b || starts_at (base + k) (base + at + length_of e) es) (same_test (base + at) (base + k) at k (omega arith))
    ∙ ap (λ (b : Bool). (at == k) || b) (ap (λ (j : ℕ). starts_at (base + k) j es) (omega arith) ∙ starts_moved k (at + length_of e) base es)
  where
    same_test : (a b c d : ℕ) → c + b ≡ a + d → (a == b) ≡ (c == d)
    same_test a b c d is = by_case (cases_eq a b)
      where
        by_case : (a ≡ b) ⊎ ¬ (a ≡ b) → (a == b) ≡ (c == d)
        by_case (inl same) = eq-eqb a b same ∙ sym (eq-eqb c d (omega (arith, is, same)))
        by_case (inr apart) = not_eq a b apart ∙ sym (not_eq c d (λ same. apart (omega (arith, is, same))))

-- the rest of a body of entries
pub record Rest (es : List Entry) (o : Option (List Entry)) (all : List Entry) : Type 0 where
  pub gs : List Entry
  pub is : o ≡ Some gs
  pub whole : all ≡ es ++ gs

pub rest_of : (es all : List Entry) (o : Option (List Entry)) → joined es o ≡ Some all → Rest es o all
rest_of es all None is = cc
rest_of es all (Some gs) is = record { gs = gs; is = refl; whole = let same : es ++ gs ≡ all = cc in sym same }

pub no_rest : (bytes : List ℕ) (wanted at : ℕ) (es : List Entry) → Skipped bytes wanted at → at < length bytes → entry_at (drop at bytes) ≡ None → entries_of bytes ≡ Some es → ⊥
no_rest bytes wanted at es s below none is =
    let r = rest_of s.es es (entries_of (drop at bytes)) (sym s.is ∙ is) in
    let bad = entries_bad (drop at bytes) (omega (arith, length-drop at bytes)) none in
    let clash : ◌≡◌ {A = Option (List Entry)} None (Some r.gs) = sym bad ∙ r.is in cc

here : (wanted at : ℕ) (gs : List Entry) → wanted ≤ at → (at ≡ wanted → 0 < length gs) → (at == wanted) ≡ starts_at wanted at gs
here wanted at gs above some = by_case (cases_eq at wanted)
  where
    first : (gs : List Entry) → at ≡ wanted → 0 < length gs → true ≡ starts_at wanted at gs
    first [] same long = absurd (omega arith)
    first (g ∷ gs) same long = sym (ap (λ (b : Bool). b || starts_at wanted (at + length_of g) gs) (eq-eqb at wanted same))

    by_case : (at ≡ wanted) ⊎ ¬ (at ≡ wanted) → (at == wanted) ≡ starts_at wanted at gs
    by_case (inl same) = eq-eqb at wanted same ∙ first gs same (some same)
    by_case (inr apart) = not_eq at wanted apart ∙ sym (starts_low wanted at gs (let below : wanted < at = omega (arith, above, apart) in below))

pub all_skipped : (bytes : List ℕ) (wanted at : ℕ) (es : List Entry) → Skipped bytes wanted at → wanted ≤ at → wanted < length bytes → entries_of bytes ≡ Some es → (at == wanted) ≡ starts_at wanted 0 es
all_skipped bytes wanted at es s above inside is =
    let r = rest_of s.es es (entries_of (drop at bytes)) (sym s.is ∙ is) in
    here wanted at r.gs above (λ same. entries_some (drop at bytes) r.gs (omega (arith, length-drop at bytes, same, inside)) r.is)
    ∙ sym (s.low r.gs) ∙ ap (starts_at wanted 0) (sym r.whole)

-- in two lists, one behind the other
pub starts_both : (k at : ℕ) (es fs : List Entry) → starts_at k at (es ++ fs) ≡ (starts_at k at es || starts_at k (at + total es) fs)
starts_both k at [] fs = ap (λ (j : ℕ). starts_at k j fs) (omega arith)
starts_both k at (e ∷ es) fs =
    ap (λ (b : Bool). (at == k) || b) (starts_both k (at + length_of e) es fs ∙ ap (λ (j : ℕ). starts_at k (at + length_of e) es || starts_at k j fs) (omega arith))
    ∙ or_three (at == k) (starts_at k (at + length_of e) es) (starts_at k (at + (length_of e + total es)) fs)
  where
    or_three : (a b c : Bool) → (a || (b || c)) ≡ ((a || b) || c)
    or_three true b c = refl
    or_three false b c = refl

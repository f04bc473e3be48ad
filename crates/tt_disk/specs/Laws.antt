-- What a write that was done in part leaves of a file in pieces, how steps follow each other, and what stays of a count.
use Rattle.std.proofs.Common.{◌≡◌, inl, inr, ℕ, ◌+◌, ◌≤◌, List, ◌++◌, length, take, drop, Some, None, Ok, IsErrOf, refl, sym, ◌∙◌, ap, subst, arith, append_assoc, length-append, length-drop, take-append-drop}
use Rattle.std.proofs.lemmas.List.{take_at, drop_at, take-take, drop-drop, length-take}
use Rattle.tt_disk.specs.Faults.{RoseWhere, Stays}
use Rattle.tt_disk.specs.declared.volume.Name.{Name}
use Rattle.tt_disk.specs.Volume.{File, Files, Outcomes, overwritten, TornBytes, Torn, Steps, Keeps, OnlyAt, IsSettled}

-- what stands before the range stays
pub front_stays : (p rest c : List ℕ) (at n : ℕ) → length p ≤ at → TornBytes at n (p ++ rest) c → c ≡ p ++ drop (length p) c
front_stays p rest c at n le torn =
    let k = length p in
    let front : take k c ≡ p =
    sym (take-take k at c le) ∙ ap (λ (l : List ℕ). take k l) torn.before ∙ take-take k at (p ++ rest) le ∙ take_at p rest k refl in
    sym (take-append-drop k c) ∙ ap (λ (l : List ℕ). l ++ drop k c) front

-- within the file, the range has other bytes and all else stays
pub middle_changes : (p m q c : List ℕ) (at n : ℕ) → length p ≡ at → length m ≡ n → TornBytes at n (p ++ (m ++ q)) c
    → (m' : List ℕ) × (length m' ≡ n) × (c ≡ p ++ (m' ++ q))
middle_changes p m q c at n is_at is_n torn =
    let total : length (p ++ (m ++ q)) ≡ at + n + length q = omega (arith, length-append p (m ++ q), length-append m q) in
    let long : length c ≡ at + n + length q = omega (arith, torn.no_shorter, torn.no_longer, total) in
    let front : take at c ≡ p = torn.before ∙ take_at p (m ++ q) at is_at in
    let back : drop n (drop at c) ≡ q =
    drop-drop n at c ∙ torn.after ∙ sym (drop-drop n at (p ++ (m ++ q))) ∙ ap (λ (l : List ℕ). drop n l) (drop_at p (m ++ q) at is_at) ∙ drop_at m q n is_n in
    let m' : List ℕ = take n (drop at c) in (
      m',
      omega (arith, length-take n (drop at c), length-drop at c, long),
      sym (take-append-drop at c) ∙ ap (λ (l : List ℕ). l ++ drop at c) front
          ∙ ap (λ (l : List ℕ). p ++ l) (sym (take-append-drop n (drop at c)) ∙ ap (λ (l : List ℕ). take n (drop at c) ++ l) back),
    )

-- a write over a part of the same length, and over the rest
pub middle_written : (p m q bytes : List ℕ) (at : ℕ) → length p ≡ at → length m ≡ length bytes → overwritten at bytes (p ++ (m ++ q)) ≡ p ++ (bytes ++ q)
middle_written p m q bytes at is_at same =
    let front : take at (p ++ (m ++ q)) ≡ p = take_at p (m ++ q) at is_at in
    let back : drop (at + length bytes) (p ++ (m ++ q)) ≡ q =
    sym (drop-drop (length bytes) at (p ++ (m ++ q))) ∙ ap (λ (l : List ℕ). drop (length bytes) l) (drop_at p (m ++ q) at is_at) ∙ drop_at m q (length bytes) same in
    ap (λ (l : List ℕ). l ++ bytes ++ drop (at + length bytes) (p ++ (m ++ q))) front ∙ ap (λ (l : List ℕ). p ++ bytes ++ l) back ∙ append_assoc p bytes q

pub end_written : (p q bytes : List ℕ) (at : ℕ) → length p ≡ at → overwritten at bytes (p ++ q) ≡ p ++ (bytes ++ drop (length bytes) q)
end_written p q bytes at is_at =
    let front : take at (p ++ q) ≡ p = take_at p q at is_at in
    let back : drop (at + length bytes) (p ++ q) ≡ drop (length bytes) q =
    sym (drop-drop (length bytes) at (p ++ q)) ∙ ap (λ (l : List ℕ). drop (length bytes) l) (drop_at p q at is_at) in
    ap (λ (l : List ℕ). l ++ bytes ++ drop (at + length bytes) (p ++ q)) front ∙ ap (λ (l : List ℕ). p ++ bytes ++ l) back ∙ append_assoc p bytes (drop (length bytes) q)

-- a torn step of a file that is there leads to a file that is there
pub torn_there : {P : Type 0} (at n : ℕ) (old : List ℕ) (c : File) → Torn at n (Some old) c → ((f : List ℕ) → c ≡ Some f → TornBytes at n old f → P) → P
torn_there at n old (Some f) torn then = then f refl torn
torn_there at n old None torn then = absurd torn

-- How what one call did and what the next one did make what both did.

pub keeps_then_keeps : (a b c : Files) (may_a may_b may_c : Outcomes) → Keeps a b may_a may_b → Keeps b c may_b may_c → Keeps a c may_a may_c
keeps_then_keeps a b c may_a may_b may_c one two = record {
  reads = λ n. two.reads n ∙ one.reads n;
  crash = λ n file left. one.crash n file (two.crash n file left);
}

pub only_at_then_only_at : (name : Name) (a b c : Files) (may_a may_b may_c : Outcomes)
    → OnlyAt name a b may_a may_b → OnlyAt name b c may_b may_c → OnlyAt name a c may_a may_c
only_at_then_only_at name a b c may_a may_b may_c one two = record {
  reads = λ n other. two.reads n other ∙ one.reads n other;
  crash = λ n other file left. one.crash n other file (two.crash n other file left);
}

-- a call that changes no file changes no file but one
pub keeps_only_at : (name : Name) (a b : Files) (may_a may_b : Outcomes) → Keeps a b may_a may_b → OnlyAt name a b may_a may_b
keeps_only_at name a b may_a may_b keeps = record {
  reads = λ n other. keeps.reads n;
  crash = λ n other file left. keeps.crash n file left;
}

-- a step of one file changes no file but that one
pub steps_only_at : (step : File → File → Type 0) (name : Name) (a b : Files) (may_a may_b : Outcomes)
    → Steps step name a b may_a may_b → OnlyAt name a b may_a may_b
steps_only_at step name a b may_a may_b steps = record {
  reads = steps.others;
  crash = steps.others_crash;
}

-- a step before or behind a call that changes no file
pub keeps_then_steps : (step : File → File → Type 0) (name : Name) (a b c : Files) (may_a may_b may_c : Outcomes)
    → Keeps a b may_a may_b → Steps step name b c may_b may_c → Steps step name a c may_a may_c
keeps_then_steps step name a b c may_a may_b may_c keeps steps = record {
  reads = subst (λ (o : File). step o (c name)) (keeps.reads name) steps.reads;
  crash = λ file left.
      let from = steps.crash file left in
      (from.0, keeps.crash name from.0 from.1, from.2);
  others = λ n other. steps.others n other ∙ keeps.reads n;
  others_crash = λ n other file left. keeps.crash n file (steps.others_crash n other file left);
}

pub steps_then_keeps : (step : File → File → Type 0) (name : Name) (a b c : Files) (may_a may_b may_c : Outcomes)
    → Steps step name a b may_a may_b → Keeps b c may_b may_c → Steps step name a c may_a may_c
steps_then_keeps step name a b c may_a may_b may_c steps keeps = record {
  reads = subst (λ (o : File). step (a name) o) (sym (keeps.reads name)) steps.reads;
  crash = λ file left. steps.crash file (keeps.crash name file left);
  others = λ n other. keeps.reads n ∙ steps.others n other;
  others_crash = λ n other file left. steps.others_crash n other file (keeps.crash n file left);
}

-- a file that is settled stays so over a call that changes no file, and over one that changes another file
pub settled_kept : (name : Name) (a b : Files) (may_a may_b : Outcomes) → Keeps a b may_a may_b → IsSettled name a may_a → IsSettled name b may_b
settled_kept name a b may_a may_b keeps settled file left = settled file (keeps.crash name file left) ∙ sym (keeps.reads name)

pub settled_elsewhere : (name other : Name) (a b : Files) (may_a may_b : Outcomes)
    → OnlyAt other a b may_a may_b → ¬ (name ≡ other) → IsSettled name a may_a → IsSettled name b may_b
settled_elsewhere name other a b may_a may_b only differs settled file left =
    settled file (only.crash name differs file left) ∙ sym (only.reads name differs)

-- a call that was answered leaves an exact count as it was
pub count_stays : {T E : Type 0} (exact : Type 0) (value : T) (failure : E) (before now : ℕ) → RoseWhere exact (IsErrOf (Ok value) failure) before now → Stays exact before now
count_stays exact value failure before now rose = elim rose.stays [ inl failed ↦ let none : ⊥ = cc in absurd none | inr same ↦ same ]

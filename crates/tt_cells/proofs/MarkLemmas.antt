-- Which words of a set are full, as a second set marks them.
use Rattle.std.proofs.Common.{◌≡◌, ◌≤◌, ◌<◌, ◌+◌, ◌*◌, ◌/◌, ◌%◌, ℕ, Bool, true, false, if◌then◌else◌, refl, sym, ap, ◌∙◌, subst, arith, inl, inr, ◌⊎◌, ◌↔◌}
use Rattle.std.specs.FinSet as finite
use Rattle.std.specs.Ordering.{nat_cmp}
use Rattle.std.proofs.lemmas.Bool.{cases_eq, true≢false}
use Rattle.tt_cells.specs.NumberSet.{Numbers, HasAllBelow, IsLeastAbsent}
use Rattle.tt_cells.specs.PlaceSet.{IsFullWord, MarksFull}
use Rattle.tt_cells.specs.NumberLaws.{Set, In, inserted, insert_here, insert_keeps, removed, remove_keeps}

either : {A B C : Type 0} → A ⊎ B → (A → C) → (B → C) → C
either (inl a) f g = f a
either (inr b) f g = g b

-- the numbers of a word
number_of : (s : Set) (q : ℕ) → IsFullWord s (q / 64) → In s q
number_of s q is = let e : 64 * (q / 64) + q % 64 ≡ q = omega arith in subst (λ n. In s n) e (is (q % 64) (omega arith))

in_none : (q : ℕ) → In finite.empty q → ⊥
in_none q h = true≢false (sym h ∙ finite.contains-empty nat_cmp q)

-- ---- the words before the least one that isn't marked

pub all_below : (numbers full : Numbers) (word : ℕ) → MarksFull numbers full → IsLeastAbsent full.members word → HasAllBelow numbers.members (64 * word)
all_below numbers full word marks least q l = number_of numbers.members q (marks.marked (q / 64) (least.below (q / 64) (omega arith)))

pub not_full : (numbers full : Numbers) (word : ℕ) → MarksFull numbers full → IsLeastAbsent full.members word → IsFullWord numbers.members word → ⊥
not_full numbers full word marks least is = true≢false (sym (marks.all word is) ∙ least.absent)

-- ---- what each change keeps

pub none_marked : (numbers full : Numbers) → numbers.members ≡ finite.empty → full.members ≡ finite.empty → numbers.room ≤ 64 * full.room → MarksFull numbers full
none_marked numbers full no_numbers no_marks room = record {
  marked = λ at h. absurd (in_none at (sym (ap (λ (s : Set). finite.contains s at) no_marks) ∙ h));
  all = λ at is. absurd (in_none (64 * at + 0) (sym (ap (λ (s : Set). finite.contains s (64 * at + 0)) no_numbers) ∙ is 0 (omega arith)));
  room = room;
}

-- a word with one number more is full only where it is this number's, or where it was full before
full_before : (s : Set) (place at : ℕ) → IsFullWord (finite.insert s place) at → (at ≡ place / 64 → ⊥) → IsFullWord s at
full_before s place at is other i l = either (inserted s place (64 * at + i) (is i l)) (λ (e : 64 * at + i ≡ place). absurd (other (let k : at ≡ place / 64 = omega arith in k))) (λ m. m)

full_still : (s : Set) (place at : ℕ) → IsFullWord s at → IsFullWord (finite.insert s place) at
full_still s place at is i l = insert_keeps s place (64 * at + i) (is i l)

-- with a mark where the word of a number is full
mark_inserted : (numbers full : Numbers) (place : ℕ) (is_full : Bool) → MarksFull numbers full → ((is_full ≡ true) ↔ IsFullWord (finite.insert numbers.members place) (place / 64))
    → MarksFull (record { members = finite.insert numbers.members place; room = numbers.room })
    (record { members = if is_full then finite.insert full.members (place / 64) else full.members; room = full.room })
mark_inserted numbers full place true marks says = record {
  marked = λ at h. either (inserted full.members (place / 64) at h)
      (λ (e : at ≡ place / 64). subst (λ n. IsFullWord (finite.insert numbers.members place) n) (sym e) (says.0 refl))
      (λ m. full_still numbers.members place at (marks.marked at m));
  all = λ at is. either (cases_eq at (place / 64)) (λ (e : at ≡ place / 64). insert_here full.members (place / 64) at e)
      (λ (e : at ≡ place / 64 → ⊥). insert_keeps full.members (place / 64) at (marks.all at (full_before numbers.members place at is e)));
  room = marks.room;
}
mark_inserted numbers full place false marks says = record {
  marked = λ at h. full_still numbers.members place at (marks.marked at h);
  all = λ at is. either (cases_eq at (place / 64))
      (λ (e : at ≡ place / 64). absurd (true≢false (sym (says.1 (subst (λ n. IsFullWord (finite.insert numbers.members place) n) e is)))))
      (λ (e : at ≡ place / 64 → ⊥). marks.all at (full_before numbers.members place at is e));
  room = marks.room;
}

-- what is known of the two sets after a call
same_numbers : (numbers : Numbers) (members : Set) (room : ℕ) → numbers.members ≡ members → numbers.room ≡ room → record { members = members; room = room } ≡ numbers
same_numbers numbers members room m r = λ i. record { members = sym m i; room = sym r i }

pub insert_marked : (numbers full more marked : Numbers) (place : ℕ) (is_full : Bool) → MarksFull numbers full → more.members ≡ finite.insert numbers.members place → more.room ≡ numbers.room
    → ((is_full ≡ true) ↔ IsFullWord more.members (place / 64)) → marked.members ≡ (if is_full then finite.insert full.members (place / 64) else full.members) → marked.room ≡ full.room
    → MarksFull more marked
insert_marked numbers full more marked place is_full marks m r says n s =
    let says' = subst (λ (l : Set). (is_full ≡ true) ↔ IsFullWord l (place / 64)) m says in
    let first : (P : Numbers → Type 0) → P (record { members = finite.insert numbers.members place; room = numbers.room }) → P more = λ P p. subst P (same_numbers more (finite.insert numbers.members place) numbers.room m r) p in
    let marks' = mark_inserted numbers full place is_full marks says' in
    subst (λ (f : Numbers). MarksFull more f) (same_numbers marked (if is_full then finite.insert full.members (place / 64) else full.members) full.room n s) (first (λ (f : Numbers). MarksFull f (record { members = if is_full then finite.insert full.members (place / 64) else full.members; room = full.room })) marks')

pub remove_marked : (numbers full less marked : Numbers) (place : ℕ) → MarksFull numbers full → less.members ≡ finite.remove numbers.members place → less.room ≡ numbers.room
    → marked.members ≡ finite.remove full.members (place / 64) → marked.room ≡ full.room → MarksFull less marked
remove_marked numbers full less marked place marks m r n s = record {
  marked = λ at h.
      let (other, member) = removed full.members (place / 64) at (subst (λ (l : Set). In l at) n h) in
      λ i l. subst (λ (k : Set). In k (64 * at + i)) (sym m) (remove_keeps numbers.members place (64 * at + i) (λ (e : 64 * at + i ≡ place). other (let k : at ≡ place / 64 = omega arith in k)) (marks.marked at member i l));
  all = λ at is.
      let each : (i : ℕ) → i < 64 → (64 * at + i ≡ place → ⊥) × In numbers.members (64 * at + i) = λ i l. removed numbers.members place (64 * at + i) (subst (λ (k : Set). In k (64 * at + i)) m (is i l)) in
      subst (λ (l : Set). In l at) (sym n) (remove_keeps full.members (place / 64) at
      (λ (e : at ≡ place / 64). (each (place % 64) (omega arith)).0 (omega (arith, e)))
      (marks.all at (λ i l. (each i l).1)));
  room = omega (arith, r, s, marks.room);
}

pub widen_marked : (numbers full more marked : Numbers) → MarksFull numbers full → more.members ≡ numbers.members → marked.members ≡ full.members → more.room ≤ 64 * marked.room → MarksFull more marked
widen_marked numbers full more marked marks m n room = record {
  marked = λ at h. subst (λ (l : Set). IsFullWord l at) (sym m) (marks.marked at (subst (λ (l : Set). In l at) n h));
  all = λ at is. subst (λ (l : Set). In l at) (sym n) (marks.all at (subst (λ (l : Set). IsFullWord l at) m is));
  room = room;
}

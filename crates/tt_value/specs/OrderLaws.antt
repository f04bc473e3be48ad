-- The order of values and rows is a total order, in which just equal ones are equal.
use Rattle.std.proofs.Common.{◌≡◌, ◌<◌, ◌*◌, ◌^◌, ℕ, ℤ, zero, suc, pos, negsuc, neg_ℤ, ◌*ℤ◌, ◌<ℤ◌, true, false, cond, List, [], ◌∷◌, refl, sym, ap, ap₂, ◌∙◌, subst, arith}
use Rattle.std.specs.Prelude.{int_lt, nat_lt}
use Rattle.std.specs.declared.cmp.Ordering.{Ordering}
use Rattle.std.specs.declared.cmp.Ordering.TheVariants.{Less, Equal, Greater}
use Rattle.std.specs.Ordering.{nat_cmp, int_cmp, ordering_then, eq_by_cmp, is_eq, MatchOrdering}
use Rattle.std.specs.Cmp.{IsTotalOrder}
use Rattle.std.specs.Cmp.Lexicographic.{slice_cmp, lists_ties}
use Rattle.std.proofs.lemmas.Cmp.{nat_cmp_total, int_cmp_total, on_total, then_total, lists_total, nat_list_cmp_total, tied_itself, int_ranked, ranked}
use Rattle.std.proofs.lemmas.Bool.{ltb-true, lt-ltb, le-ltb, ltb_from_iff}
use Rattle.std.proofs.Math.IntN.{pos-*ℤ-pos, negsuc-*ℤ-pos}
use Rattle.std.proofs.Math.Nat.{mul_assoc, mul_comm, mul-pos, lt_of_mul-lt-mul_right, mul-lt-mul_of_pos_right, one-le-pow}
use Rattle.tt_value.specs.declared.value.Value.{Value}
use Rattle.tt_value.specs.declared.value.Value.TheVariants.{Null, Int, Number, Text}
use Rattle.tt_value.specs.declared.value.Row.{Row}
use Rattle.tt_value.specs.Order.{units_of, scale_of, amount_cmp, kind_of, form_of, text_of, number_cmp, value_cmp, row_cmp}
use Rattle.tt_value.specs.Same.{same_value, same_row}
use Rattle.tt_value.specs.SameLaws.{same_value-Decides}
use Rattle.std.specs.Bool.{Decides}
use Rattle.std.proofs.lemmas.Bool.Decides.{same_from_decides}

-- ---- integers times natural numbers

negative_times : (a b : ℕ) → neg_ℤ (pos a) *ℤ pos b ≡ neg_ℤ (pos (a * b))
negative_times zero b = pos-*ℤ-pos 0 b ∙ ap pos (omega arith) ∙ ap (λ n. neg_ℤ (pos n)) (let z : 0 ≡ 0 * b = omega arith in z)
negative_times (suc a) b = negsuc-*ℤ-pos a b

pub times_twice : (x : ℤ) (a b : ℕ) → (x *ℤ pos a) *ℤ pos b ≡ x *ℤ pos (a * b)
times_twice (pos m) a b =
    ap (λ y. y *ℤ pos b) (pos-*ℤ-pos m a) ∙ pos-*ℤ-pos (m * a) b ∙ ap pos (mul_assoc m a b) ∙ sym (pos-*ℤ-pos m (a * b))
times_twice (negsuc m) a b =
    ap (λ y. y *ℤ pos b) (negsuc-*ℤ-pos m a) ∙ negative_times (suc m * a) b ∙ ap (λ n. neg_ℤ (pos n)) (mul_assoc (suc m) a b) ∙ sym (negsuc-*ℤ-pos m (a * b))

negatives_lt : (p q : ℕ) → int_lt (neg_ℤ (pos p)) (neg_ℤ (pos q)) ≡ nat_lt q p
negatives_lt zero zero = sym (le-ltb 0 0 (omega arith))
negatives_lt zero (suc q) = sym (le-ltb (suc q) 0 (omega arith))
negatives_lt (suc p) zero = sym (lt-ltb 0 (suc p) (omega arith))
negatives_lt (suc p) (suc q) = ltb_from_iff (λ e. let h = ltb-true q p e in omega (arith, h), λ h. lt-ltb q p (omega (arith, h)))

negative_lt : (p q : ℕ) → 0 < p → int_lt (neg_ℤ (pos p)) (pos q) ≡ true
negative_lt zero q h = absurd (omega arith)
negative_lt (suc p) q h = refl

positive_lt : (p q : ℕ) → int_lt (pos p) (neg_ℤ (pos q)) ≡ false
positive_lt p zero = le-ltb p 0 (omega arith)
positive_lt p (suc q) = refl

times_lt : (k a b : ℕ) → 0 < k → nat_lt (a * k) (b * k) ≡ nat_lt a b
times_lt k a b h = ltb_from_iff (λ e. lt_of_mul-lt-mul_right k (ltb-true (a * k) (b * k) e), λ l. lt-ltb (a * k) (b * k) (mul-lt-mul_of_pos_right l h))

lt_times : (k : ℕ) (x y : ℤ) → 0 < k → int_lt (x *ℤ pos k) (y *ℤ pos k) ≡ int_lt x y
lt_times k (pos a) (pos b) h = ap₂ int_lt (pos-*ℤ-pos a k) (pos-*ℤ-pos b k) ∙ times_lt k a b h
lt_times k (pos a) (negsuc b) h = ap₂ int_lt (pos-*ℤ-pos a k) (negsuc-*ℤ-pos b k) ∙ positive_lt (a * k) (suc b * k)
lt_times k (negsuc a) (pos b) h = ap₂ int_lt (negsuc-*ℤ-pos a k) (pos-*ℤ-pos b k) ∙ negative_lt (suc a * k) (b * k) (mul-pos (omega arith) h)
lt_times k (negsuc a) (negsuc b) h = ap₂ int_lt (negsuc-*ℤ-pos a k) (negsuc-*ℤ-pos b k) ∙ negatives_lt (suc a * k) (suc b * k) ∙ times_lt k (suc b) (suc a) h ∙ sym (negatives_lt (suc a) (suc b))

-- the order stays under a factor
pub cmp_times : (k : ℕ) (x y : ℤ) → 0 < k → int_cmp (x *ℤ pos k) (y *ℤ pos k) ≡ int_cmp x y
cmp_times k x y h = ap₂ (λ a b. cond a Less (cond b Greater Equal)) (lt_times k x y h) (lt_times k y x h)

pub ten_to : (n : ℕ) → 0 < 10 ^ n
ten_to n = let h = one-le-pow n 10 (omega arith) in omega arith

-- ---- amounts

-- three amounts over one denominator
abbrev wide : Value → ℕ → ℕ → ℤ
wide a s t = units_of a *ℤ pos (s * t)

over : (a b : Value) (k : ℕ) → 0 < k → amount_cmp a b ≡ int_cmp (units_of a *ℤ pos (10 ^ scale_of b * k)) (units_of b *ℤ pos (10 ^ scale_of a * k))
over a b k h =
    sym (cmp_times k (units_of a *ℤ pos (10 ^ scale_of b)) (units_of b *ℤ pos (10 ^ scale_of a)) h)
    ∙ ap₂ int_cmp (times_twice (units_of a) (10 ^ scale_of b) k) (times_twice (units_of b) (10 ^ scale_of a) k)

same_product : (u : ℤ) (s t : ℕ) → u *ℤ pos (s * t) ≡ u *ℤ pos (t * s)
same_product u s t = ap (λ n. u *ℤ pos n) (mul_comm s t)

module _ (a b c : Value) where
  abbrev one : ℤ
  one = units_of a *ℤ pos (10 ^ scale_of b * 10 ^ scale_of c)

  abbrev two : ℤ
  two = units_of b *ℤ pos (10 ^ scale_of a * 10 ^ scale_of c)

  abbrev three : ℤ
  three = units_of c *ℤ pos (10 ^ scale_of a * 10 ^ scale_of b)

  first_two : amount_cmp a b ≡ int_cmp one two
  first_two = over a b (10 ^ scale_of c) (ten_to (scale_of c))

  last_two : amount_cmp b c ≡ int_cmp two three
  last_two =
      over b c (10 ^ scale_of a) (ten_to (scale_of a))
      ∙ ap₂ int_cmp (same_product (units_of b) (10 ^ scale_of c) (10 ^ scale_of a)) (same_product (units_of c) (10 ^ scale_of b) (10 ^ scale_of a))

  outer_two : amount_cmp a c ≡ int_cmp one three
  outer_two =
      over a c (10 ^ scale_of b) (ten_to (scale_of b))
      ∙ ap (λ x. int_cmp x three) (same_product (units_of a) (10 ^ scale_of c) (10 ^ scale_of b))

  amount_chain : amount_cmp a b ≡ Less → amount_cmp b c ≡ Less → amount_cmp a c ≡ Less
  amount_chain h g = outer_two ∙ int_cmp_total.trans one two three (sym first_two ∙ h) (sym last_two ∙ g)

  amount_alike : amount_cmp a b ≡ Equal → amount_cmp a c ≡ amount_cmp b c
  amount_alike h = outer_two ∙ int_cmp_total.congr one two three (sym first_two ∙ h) ∙ sym last_two

pub amount_total : IsTotalOrder amount_cmp
amount_total = record {
  antisymm = λ a b. int_cmp_total.antisymm (units_of a *ℤ pos (10 ^ scale_of b)) (units_of b *ℤ pos (10 ^ scale_of a));
  trans = λ a b c. amount_chain a b c;
  congr = λ a b c. amount_alike a b c;
}

-- ---- values

number_total : IsTotalOrder number_cmp
number_total = then_total amount_total (then_total (on_total scale_of nat_cmp_total) (on_total form_of nat_cmp_total))

pub value_total : IsTotalOrder value_cmp
value_total = then_total (on_total kind_of nat_cmp_total) (then_total number_total (on_total text_of nat_list_cmp_total))

-- what is equal in a chain is equal in both its orders
ties_of : (r s : Ordering) → ordering_then r s ≡ Equal → (r ≡ Equal) × (s ≡ Equal)
ties_of Less s e = cc
ties_of Equal s e = (refl, e)
ties_of Greater s e = cc

same_nats : (a b : ℕ) → nat_cmp a b ≡ Equal → a ≡ b
same_nats a b e = let P : Ordering → Type 0 = λ o. MatchOrdering o (a < b) (a ≡ b) (b < a) in subst P e (ranked a b (nat_cmp a b) refl)

same_ints : (a b : ℤ) → int_cmp a b ≡ Equal → a ≡ b
same_ints a b e = let P : Ordering → Type 0 = λ o. MatchOrdering o (a <ℤ b) (a ≡ b) (b <ℤ a) in subst P e (int_ranked a b (int_cmp a b) refl)

-- under one scale just equal units are equal
same_units : (u v : ℤ) (s t : ℕ) → s ≡ t → int_cmp (u *ℤ pos (10 ^ t)) (v *ℤ pos (10 ^ s)) ≡ Equal → u ≡ v
same_units u v s t e same =
    same_ints u v (sym (cmp_times (10 ^ t) u v (ten_to t)) ∙ ap (λ n. int_cmp (u *ℤ pos (10 ^ t)) (v *ℤ pos (10 ^ n))) (sym e) ∙ same)

pub record Tied (a b : Value) : Type 0 where
  pub kind : kind_of a ≡ kind_of b
  pub amount : amount_cmp a b ≡ Equal
  pub scale : scale_of a ≡ scale_of b
  pub form : form_of a ≡ form_of b
  pub text : slice_cmp nat_cmp (text_of a) (text_of b) ≡ Equal

tied_parts : (a b : Value) → value_cmp a b ≡ Equal → Tied a b
tied_parts a b e =
    let (kind, rest) = ties_of (nat_cmp (kind_of a) (kind_of b)) (ordering_then (number_cmp a b) (slice_cmp nat_cmp (text_of a) (text_of b))) e in
    let (number, text) = ties_of (number_cmp a b) (slice_cmp nat_cmp (text_of a) (text_of b)) rest in
    let (amount, forms) = ties_of (amount_cmp a b) (ordering_then (nat_cmp (scale_of a) (scale_of b)) (nat_cmp (form_of a) (form_of b))) number in
    let (scale, form) = ties_of (nat_cmp (scale_of a) (scale_of b)) (nat_cmp (form_of a) (form_of b)) forms in
    record {
      kind = same_nats (kind_of a) (kind_of b) kind;
      amount = amount;
      scale = same_nats (scale_of a) (scale_of b) scale;
      form = same_nats (form_of a) (form_of b) form;
      text = text;
    }

same_texts : (xs ys : List ℕ) → slice_cmp nat_cmp xs ys ≡ Equal → xs ≡ ys
same_texts [] [] e = refl
same_texts [] (y ∷ ys) e = cc
same_texts (x ∷ xs) [] e = cc
same_texts (x ∷ xs) (y ∷ ys) e =
    let (head, tail) = ties_of (nat_cmp x y) (slice_cmp nat_cmp xs ys) e in
    ap₂ (λ (a : ℕ) (l : List ℕ). a ∷ l) (same_nats x y head) (same_texts xs ys tail)

by_parts : (a b : Value) → Tied a b → a ≡ b
by_parts Null Null t = refl
by_parts (Int n) (Int m) t = ap Int (same_units n m 0 0 refl t.amount)
by_parts (Number s u) (Number r v) t = ap₂ Number t.scale (same_units u v s r t.scale t.amount)
by_parts (Text x) (Text y) t = ap Text (same_texts x y t.text)
by_parts (Int n) (Number s u) t = absurd (let e = t.form in omega (arith, e))
by_parts (Number s u) (Int n) t = absurd (let e = t.form in omega (arith, e))
by_parts Null (Int n) t = absurd (let e = t.kind in omega (arith, e))
by_parts Null (Number s u) t = absurd (let e = t.kind in omega (arith, e))
by_parts Null (Text x) t = absurd (let e = t.kind in omega (arith, e))
by_parts (Int n) Null t = absurd (let e = t.kind in omega (arith, e))
by_parts (Number s u) Null t = absurd (let e = t.kind in omega (arith, e))
by_parts (Text x) Null t = absurd (let e = t.kind in omega (arith, e))
by_parts (Int n) (Text x) t = absurd (let e = t.kind in omega (arith, e))
by_parts (Number s u) (Text x) t = absurd (let e = t.kind in omega (arith, e))
by_parts (Text x) (Int n) t = absurd (let e = t.kind in omega (arith, e))
by_parts (Text x) (Number s u) t = absurd (let e = t.kind in omega (arith, e))

-- just equal values are equal in the order
pub equal_values : (a b : Value) → value_cmp a b ≡ Equal → a ≡ b
equal_values a b e = by_parts a b (tied_parts a b e)

is_tied : (o : Ordering) → is_eq o ≡ true → o ≡ Equal
is_tied Less e = cc
is_tied Equal e = refl
is_tied Greater e = cc

ties_decide : (a b : Value) → Decides (eq_by_cmp value_cmp a b) (a ≡ b)
ties_decide a b = (
  λ e. equal_values a b (is_tied (value_cmp a b) e),
  λ e. ap (λ (x : Value). eq_by_cmp value_cmp a x) (sym e) ∙ ap is_eq (tied_itself value_total a),
)

pub value_ties : (a b : Value) → same_value a b ≡ eq_by_cmp value_cmp a b
value_ties a b = same_from_decides (same_value a b) (eq_by_cmp value_cmp a b) (same_value-Decides a b) (ties_decide a b)

pub row_ties : (a b : Row) → same_row a b ≡ eq_by_cmp row_cmp a b
row_ties a b = lists_ties value_cmp value_ties a.values b.values

equal_lists : (xs ys : List Value) → slice_cmp value_cmp xs ys ≡ Equal → xs ≡ ys
equal_lists [] [] e = refl
equal_lists [] (y ∷ ys) e = cc
equal_lists (x ∷ xs) [] e = cc
equal_lists (x ∷ xs) (y ∷ ys) e =
    let (head, tail) = ties_of (value_cmp x y) (slice_cmp value_cmp xs ys) e in
    ap₂ (λ (a : Value) (l : List Value). a ∷ l) (equal_values x y head) (equal_lists xs ys tail)

-- just equal rows are equal in the order
pub equal_rows : (a b : Row) → row_cmp a b ≡ Equal → a ≡ b
equal_rows a b e = ap (λ (vs : List Value). record { values = vs }) (equal_lists a.values b.values e)

pub row_total : IsTotalOrder row_cmp
row_total = on_total (λ (r : Row). r.values) (lists_total value_total)

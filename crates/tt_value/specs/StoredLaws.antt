-- What is read at the front of bytes is what stands there.
use Rattle.std.proofs.Common.{◌≡◌, ◌≤◌, ◌<◌, ◌+◌, ◌^◌, ◌==◌, ℕ, ℤ, zero, suc, Bool, true, false, ◌&&◌, List, [], ◌∷◌, ◌++◌, length, take, drop, nat_le, nat_lt, if◌then◌else◌, refl, sym, ap, ap₂, ◌∙◌, subst, arith, append_assoc, length-append, le-leb, inl, inr, ◌⊎◌, Option, Some, None, option_map}
use Rattle.std.specs.Int.{w64, cast_signed, cast_unsigned}
use Rattle.std.specs.Int.RustNames.{FitsSigned, unsigned_abs}
use Rattle.std.specs.Str.{is_utf8, IsUtf8}
use Rattle.std.proofs.lemmas.Int.{to_z-of_z, of_z-to_z, ints, fits_signed_from_abs}
use Rattle.std.proofs.Math.Facts.{sfits_to_z}
use Rattle.std.proofs.lemmas.List.{take-append-drop, drop-drop, length-drop, length-take-le}
use Rattle.std.proofs.Math.Seq.{take-append_seam, drop-append_seam}
use Rattle.std.proofs.lemmas.Option.{cond_some}
use Rattle.std.proofs.lemmas.Bool.{leb-true, ltb-true, lt-ltb, eqb-true}
use Rattle.std.proofs.lemmas.Str.{IsUtf8-from_is_utf8, is_utf8-from_IsUtf8}
use Rattle.std.proofs.lemmas.List.Elements.{All-from_recursion, recursion_from_All}
use Rattle.std.specs.List.{AllByRecursion}
use Rattle.byteorder.specs.Numbers.{big_from-lt}
use Rattle.tt_value.specs.BigEndian.{big_endian, number}
use Rattle.tt_value.specs.BigEndianLaws.{AreBytes, length-big_endian, number-big_endian, drop-big_endian, big_endian-number_2, big_endian-number_8, drop_bytes}
use Rattle.tt_value.specs.Stored.{value_bytes, values_bytes, IsStorableValue, IsStored}
use Rattle.tt_value.specs.ReadingRows.{int_at, number_at, text_at, value_at, values_in, row_in, behind, with_rest, row_of}
use Rattle.tt_value.specs.Limits.{row_most, values_most, text_most, scale_most, units_end}
use Rattle.tt_value.specs.declared.value.Value.{Value}
use Rattle.tt_value.specs.declared.value.Value.TheVariants.{Null, Int, Number, Text}
use Rattle.tt_value.specs.declared.value.Row.{Row}

-- a number of n bytes is below 256 to the power of n
pub number-below : (n : ℕ) (z : List ℕ) → AreBytes z → number n z < 256 ^ n
unfolding number
number-below n z h = big_from-lt 0 n z h

unsigned_below : (n : ℤ) → FitsSigned w64 n → cast_unsigned w64 n < 256 ^ 8
unsigned_below n fits = omega (arith, ints, fits)

units_fit : (n : ℤ) → unsigned_abs n < units_end → FitsSigned w64 n
units_fit n small = fits_signed_from_abs w64 n (omega (arith, small))

-- ---- what is read stands there

-- the value's bytes stand at the front, and take so many
pub record Takes (z : List ℕ) (v : Value) (k : ℕ) : Type 0 where
  pub bytes : z ≡ value_bytes v ++ drop k z
  pub count : k ≡ length (value_bytes v)
  pub range : IsStorableValue v

-- a signed number is read from the bytes that stand for it
signed_bytes : (z : List ℕ) → 8 ≤ length z → AreBytes z → big_endian 8 (cast_unsigned w64 (cast_signed w64 (number 8 z))) ++ drop 8 z ≡ z
signed_bytes z h b =
    ap (λ n. big_endian 8 n ++ drop 8 z) (of_z-to_z w64 (number 8 z) (number-below 8 z b))
    ∙ ap (λ l. l ++ drop 8 z) (big_endian-number_8 z h b)
    ∙ take-append-drop 8 z

-- the one case of a test in which something is found
found : (b : Bool) (x y : Value × ℕ) → (if b then Some x else None) ≡ Some y → (b ≡ true) × (x ≡ y)
found b x y e = cond_some b x y e

both : (a b : Bool) → (a && b) ≡ true → (a ≡ true) × (b ≡ true)
both true true e = (refl, refl)
both true false e = cc
both false b e = cc

abbrev pair_of : Value → ℕ → Value × ℕ
pair_of v k = (v, k)

same_Some : (x y : Value × ℕ) → Some x ≡ Some y → x ≡ y
same_Some x y e = cc

takes_again : (z : List ℕ) (x y : Value × ℕ) → x ≡ y → Takes z x.0 x.1 → Takes z y.0 y.1
takes_again z x y e t = let P : Value × ℕ → Type 0 = λ p. Takes z p.0 p.1 in subst P e t

takes_int : (z : List ℕ) (y : Value × ℕ) → AreBytes z → int_at z ≡ Some y → Takes (1 ∷ z) y.0 y.1
unfolding int_at
takes_int z y b e =
    let (long, same) = found (nat_le 8 (length z)) (Int (cast_signed w64 (number 8 z)), 9) y e in
    let enough : 8 ≤ length z = leb-true 8 (length z) long in
    takes_again (1 ∷ z) (Int (cast_signed w64 (number 8 z)), 9) y same (record {
      bytes = ap (λ l. 1 ∷ l) (sym (signed_bytes z enough b));
      count = omega (arith, length-big_endian 8 (cast_unsigned w64 (cast_signed w64 (number 8 z))));
      range = sfits_to_z {w = w64} (record { fits = number-below 8 z b });
    })

takes_number : (z : List ℕ) (y : Value × ℕ) → AreBytes z → number_at z ≡ Some y → Takes (2 ∷ z) y.0 y.1
unfolding number_at
takes_number [] y b e = cc
takes_number (scale ∷ z) y b e =
    let rest : AreBytes z = λ i. b (suc i) in
    let units = cast_signed w64 (number 8 z) in
    let (test, same) = found (nat_le 8 (length z) && (nat_le scale scale_most && nat_lt (unsigned_abs units) units_end)) (Number scale units, 10) y e in
    let (long, limits) = both (nat_le 8 (length z)) (nat_le scale scale_most && nat_lt (unsigned_abs units) units_end) test in
    let (low, small) = both (nat_le scale scale_most) (nat_lt (unsigned_abs units) units_end) limits in
    let enough : 8 ≤ length z = leb-true 8 (length z) long in
    takes_again (2 ∷ scale ∷ z) (Number scale units, 10) y same (record {
      bytes = ap (λ l. 2 ∷ scale ∷ l) (sym (signed_bytes z enough rest));
      count = omega (arith, length-big_endian 8 (cast_unsigned w64 units));
      range = (leb-true scale scale_most low, ltb-true (unsigned_abs units) units_end small);
    })

-- a length, a text and the rest are the whole
text_bytes : (z text : List ℕ) (size : ℕ) → size ≡ number 2 z → text ≡ take size (drop 2 z) → size + 2 ≤ length z → AreBytes z → (big_endian 2 (length text) ++ text) ++ drop (size + 2) z ≡ z
text_bytes z text size is cut long b =
    let l : length text ≡ size = ap length cut ∙ length-take-le size (drop 2 z) (omega (arith, length-drop 2 z)) in
    let head : big_endian 2 (length text) ≡ take 2 z = ap (big_endian 2) (l ∙ is) ∙ big_endian-number_2 z (omega arith) b in
    let back : drop (size + 2) z ≡ drop size (drop 2 z) = ap (λ k. drop k z) (let e : size + 2 ≡ 2 + size = omega arith in e) ∙ sym (drop-drop size 2 z) in
    append_assoc (big_endian 2 (length text)) text (drop (size + 2) z)
    ∙ ap₂ (λ x y. x ++ (text ++ y)) head back
    ∙ ap (λ x. take 2 z ++ (x ++ drop size (drop 2 z))) cut
    ∙ ap (λ x. take 2 z ++ x) (take-append-drop size (drop 2 z))
    ∙ take-append-drop 2 z

takes_text : (z : List ℕ) (y : Value × ℕ) → AreBytes z → text_at z ≡ Some y → Takes (3 ∷ z) y.0 y.1
unfolding text_at
takes_text z y b e =
    let size = number 2 z in
    let text = take size (drop 2 z) in
    let (test, same) = found (nat_le 2 (length z) && (nat_le size text_most && (nat_le (size + 2) (length z) && is_utf8 text))) (Text text, size + 3) y e in
    let (two, more) = both (nat_le 2 (length z)) (nat_le size text_most && (nat_le (size + 2) (length z) && is_utf8 text)) test in
    let (few, last) = both (nat_le size text_most) (nat_le (size + 2) (length z) && is_utf8 text) more in
    let (long, utf8) = both (nat_le (size + 2) (length z)) (is_utf8 text) last in
    let enough : size + 2 ≤ length z = leb-true (size + 2) (length z) long in
    let l : length text ≡ size = length-take-le size (drop 2 z) (omega (arith, length-drop 2 z)) in
    let past : drop (size + 3) (3 ∷ z) ≡ drop (size + 2) z = ap (λ k. drop k (3 ∷ z)) (let k : size + 3 ≡ suc (size + 2) = omega arith in k) in
    takes_again (3 ∷ z) (Text text, size + 3) y same (record {
      bytes = sym (ap (λ r. 3 ∷ ((big_endian 2 (length text) ++ text) ++ r)) past ∙ ap (λ r. 3 ∷ r) (text_bytes z text size refl refl enough b));
      count = omega (arith, l, length-append (big_endian 2 (length text)) text, length-big_endian 2 (length text));
      range = (omega (arith, l, leb-true size text_most few), IsUtf8-from_is_utf8 text utf8);
    })

chosen : (t : Bool) (x y z : Option (Value × ℕ)) → (if t then x else y) ≡ z → ((t ≡ true) × (x ≡ z)) ⊎ ((t ≡ false) × (y ≡ z))
chosen true x y z e = inl (refl, e)
chosen false x y z e = inr (refl, e)

either : {A B C : Type 0} → A ⊎ B → (A → C) → (B → C) → C
either (inl a) f g = f a
either (inr b) f g = g b

takes_null : (z : List ℕ) (y : Value × ℕ) → Some (pair_of Null 1) ≡ Some y → Takes (0 ∷ z) y.0 y.1
takes_null z y e = takes_again (0 ∷ z) (Null, 1) y (same_Some (pair_of Null 1) y e) (record { bytes = refl; count = refl; range = tt })

at_tag : (k tag : ℕ) (z : List ℕ) (y : Value × ℕ) → (tag == k) ≡ true → Takes (k ∷ z) y.0 y.1 → Takes (tag ∷ z) y.0 y.1
at_tag k tag z y is t = let P : ℕ → Type 0 = λ j. Takes (j ∷ z) y.0 y.1 in subst P (sym (eqb-true tag k is)) t

pub takes : (z : List ℕ) (y : Value × ℕ) → AreBytes z → value_at z ≡ Some y → Takes z y.0 y.1
unfolding value_at
takes [] y b e = cc
takes (tag ∷ z) y b e =
    let rest : AreBytes z = λ i. b (suc i) in
    either (chosen (tag == 0) _ _ _ e) (λ h. at_tag 0 tag z y h.0 (takes_null z y h.1)) (λ h.
    either (chosen (tag == 1) _ _ _ h.1) (λ g. at_tag 1 tag z y g.0 (takes_int z y rest g.1)) (λ g.
    either (chosen (tag == 2) _ _ _ g.1) (λ f. at_tag 2 tag z y f.0 (takes_number z y rest f.1)) (λ f.
    either (chosen (tag == 3) _ _ _ f.1) (λ k. at_tag 3 tag z y k.0 (takes_text z y rest k.1)) (λ k. cc))))

-- ---- what stands at the front is read

int_again : (n : ℤ) (rest : List ℕ) → FitsSigned w64 n → int_at (big_endian 8 (cast_unsigned w64 n) ++ rest) ≡ Some (pair_of (Int n) 9)
unfolding int_at
int_again n rest fits =
    let u = cast_unsigned w64 n in
    let long : nat_le 8 (length (big_endian 8 u ++ rest)) ≡ true = le-leb 8 (length (big_endian 8 u ++ rest)) (omega (arith, length-append (big_endian 8 u) rest, length-big_endian 8 u)) in
    let back : cast_signed w64 (number 8 (big_endian 8 u ++ rest)) ≡ n = ap (cast_signed w64) (number-big_endian 8 u rest (unsigned_below n fits)) ∙ to_z-of_z w64 n fits in
    rw (long, back) refl

number_again : (scale : ℕ) (units : ℤ) (rest : List ℕ) → FitsSigned w64 units → scale ≤ scale_most → unsigned_abs units < units_end →
    number_at (scale ∷ (big_endian 8 (cast_unsigned w64 units) ++ rest)) ≡ Some (pair_of (Number scale units) 10)
unfolding number_at
number_again scale units rest fits low small =
    let u = cast_unsigned w64 units in
    let long : nat_le 8 (length (big_endian 8 u ++ rest)) ≡ true = le-leb 8 (length (big_endian 8 u ++ rest)) (omega (arith, length-append (big_endian 8 u) rest, length-big_endian 8 u)) in
    let back : cast_signed w64 (number 8 (big_endian 8 u ++ rest)) ≡ units = ap (cast_signed w64) (number-big_endian 8 u rest (unsigned_below units fits)) ∙ to_z-of_z w64 units fits in
    rw (long, back, le-leb scale scale_most low, lt-ltb (unsigned_abs units) units_end small) refl

text_again : (text rest : List ℕ) → length text ≤ text_most → IsUtf8 text →
    text_at ((big_endian 2 (length text) ++ text) ++ rest) ≡ Some (pair_of (Text text) (length text + 3))
unfolding text_at
text_again text rest few utf8 =
    let z = (big_endian 2 (length text) ++ text) ++ rest in
    let flat : z ≡ big_endian 2 (length text) ++ (text ++ rest) = append_assoc (big_endian 2 (length text)) text rest in
    let size : number 2 z ≡ length text = ap (number 2) flat ∙ number-big_endian 2 (length text) (text ++ rest) (omega (arith, few)) in
    let back : drop 2 z ≡ text ++ rest = ap (drop 2) flat ∙ drop-big_endian 2 (length text) (text ++ rest) in
    let cut : take (length text) (drop 2 z) ≡ text = ap (take (length text)) back ∙ take-append_seam text rest in
    let total : length z ≡ 2 + (length text + length rest) = ap length flat ∙ (omega (arith, length-append (big_endian 2 (length text)) (text ++ rest), length-big_endian 2 (length text), length-append text rest)) in
    let two : nat_le 2 (length z) ≡ true = le-leb 2 (length z) (omega arith) in
    let long : nat_le (length text + 2) (length z) ≡ true = le-leb (length text + 2) (length z) (omega arith) in
    rw (size, cut, two, long, le-leb (length text) text_most few, is_utf8-from_IsUtf8 text utf8) refl

-- in the ranges of the types and of what is stored
pub again : (v : Value) (rest : List ℕ) → IsStorableValue v → value_at (value_bytes v ++ rest) ≡ Some (pair_of v (length (value_bytes v)))
unfolding value_at
again Null rest range = refl
again (Int n) rest range = int_again n rest range ∙ ap (λ k. Some (pair_of (Int n) k)) (let k : 9 ≡ 1 + length (big_endian 8 (cast_unsigned w64 n)) = omega (arith, length-big_endian 8 (cast_unsigned w64 n)) in k ∙ omega arith)
again (Number scale units) rest range =
    number_again scale units rest (units_fit units range.1) range.0 range.1
    ∙ ap (λ k. Some (pair_of (Number scale units) k)) (let k : 10 ≡ 2 + length (big_endian 8 (cast_unsigned w64 units)) = omega (arith, length-big_endian 8 (cast_unsigned w64 units)) in k ∙ omega arith)
again (Text text) rest range =
    text_again text rest range.0 range.1
    ∙ ap (λ k. Some (pair_of (Text text) k)) (let k : length text + 3 ≡ 1 + length (big_endian 2 (length text) ++ text) = omega (arith, length-append (big_endian 2 (length text)) text, length-big_endian 2 (length text)) in k ∙ omega arith)

-- ---- so many values

pub record TakesAll (n : ℕ) (z : List ℕ) (vs : List Value) : Type 0 where
  pub bytes : z ≡ values_bytes vs
  pub count : length vs ≡ n
  pub range : AllByRecursion IsStorableValue vs

same_list : (vs ws : List Value) → Some vs ≡ Some ws → vs ≡ ws
same_list vs ws e = cc

takes_more : (n k : ℕ) (z : List ℕ) (v : Value) (o : Option (List Value)) (vs : List Value) → Takes z v k → ((ws : List Value) → o ≡ Some ws → TakesAll n (drop k z) ws) → behind v o ≡ Some vs → TakesAll (suc n) z vs
takes_more n k z v None vs t more e = cc
takes_more n k z v (Some ws) vs t more e =
    let rest = more ws refl in
    let P : List Value → Type 0 = λ l. TakesAll (suc n) z l in
    subst P (same_list (v ∷ ws) vs e) (record {
      bytes = t.bytes ∙ ap (λ r. value_bytes v ++ r) rest.bytes;
      count = ap suc rest.count;
      range = (t.range, rest.range);
    })

takes_front : (n : ℕ) (z : List ℕ) (o : Option (Value × ℕ)) (vs : List Value) → AreBytes z → value_at z ≡ o → ((k : ℕ) (ws : List Value) → values_in n (drop k z) ≡ Some ws → TakesAll n (drop k z) ws) → with_rest o (λ k. values_in n (drop k z)) ≡ Some vs → TakesAll (suc n) z vs
takes_front n z None vs b is more e = cc
takes_front n z (Some p) vs b is more e = takes_more n p.1 z p.0 (values_in n (drop p.1 z)) vs (takes z p b is) (more p.1) e

pub takes_values : (n : ℕ) (z : List ℕ) (vs : List Value) → AreBytes z → values_in n z ≡ Some vs → TakesAll n z vs
unfolding values_in
takes_values zero [] vs b e = let P : List Value → Type 0 = λ l. TakesAll 0 [] l in subst P (same_list [] vs e) (record { bytes = refl; count = refl; range = tt })
takes_values zero (c ∷ z) vs b e = cc
takes_values (suc n) z vs b e = takes_front n z (value_at z) vs b refl (λ k ws. takes_values n (drop k z) ws (drop_bytes k z b)) e

pub values_again : (vs : List Value) → AllByRecursion IsStorableValue vs → values_in (length vs) (values_bytes vs) ≡ Some vs
unfolding values_in
values_again [] range = refl
values_again (v ∷ vs) range =
    ap (λ o. with_rest o (λ k. values_in (length vs) (drop k (value_bytes v ++ values_bytes vs)))) (again v (values_bytes vs) range.0)
    ∙ ap (λ z. behind v (values_in (length vs) z)) (drop-append_seam (value_bytes v) (values_bytes vs))
    ∙ ap (behind v) (values_again vs range.1)

-- ---- rows

same_row_of : (r s : Row) → Some r ≡ Some s → r ≡ s
same_row_of r s e = cc

row_from : (count : ℕ) (z : List ℕ) (o : Option (List Value)) (r : Row) → 1 + length z ≤ row_most → 1 ≤ count → count ≤ values_most → ((vs : List Value) → o ≡ Some vs → TakesAll count z vs) → option_map row_of o ≡ Some r → IsStored (count ∷ z) r
row_from count z None r short some few takes e = cc
row_from count z (Some vs) r short some few takes e =
    let t = takes vs refl in
    let bytes : count ∷ z ≡ length vs ∷ values_bytes vs = ap₂ (λ (n : ℕ) (l : List ℕ). n ∷ l) (sym t.count) t.bytes in
    let P : Row → Type 0 = λ x. IsStored (count ∷ z) x in
    subst P (same_row_of (row_of vs) r e) (
      record {
        some = omega (arith, t.count);
        few = omega (arith, t.count);
        in_range = All-from_recursion IsStorableValue vs t.range;
        short = omega (arith, ap length bytes);
      },
      bytes,
    )

found_row : (t : Bool) (o : Option Row) (r : Row) → (if t then o else None) ≡ Some r → (t ≡ true) × (o ≡ Some r)
found_row true o r e = (refl, e)
found_row false o r e = cc

-- what is read is stored so
pub read_is_stored : (bytes : List ℕ) (r : Row) → AreBytes bytes → row_in bytes ≡ Some r → IsStored bytes r
unfolding row_in
read_is_stored [] r b e = cc
read_is_stored (count ∷ z) r b e =
    let (test, o) = found_row (nat_le (1 + length z) row_most && (nat_le 1 count && nat_le count values_most)) (option_map row_of (values_in count z)) r e in
    let (short, counts) = both (nat_le (1 + length z) row_most) (nat_le 1 count && nat_le count values_most) test in
    let (some, few) = both (nat_le 1 count) (nat_le count values_most) counts in
    row_from count z (values_in count z) r (leb-true (1 + length z) row_most short) (leb-true 1 count some) (leb-true count values_most few) (λ vs. takes_values count z vs (λ i. b (suc i))) o

-- what is stored so is read
pub stored_is_read : (bytes : List ℕ) (r : Row) → IsStored bytes r → row_in bytes ≡ Some r
unfolding row_in
stored_is_read bytes r s =
    let vs = r.values in
    let short : nat_le (1 + length (values_bytes vs)) row_most ≡ true = le-leb (1 + length (values_bytes vs)) row_most (omega (arith, s.0.short)) in
    let back : values_in (length vs) (values_bytes vs) ≡ Some vs = values_again vs (recursion_from_All IsStorableValue vs s.0.in_range) in
    ap row_in s.1
    ∙ rw (short, le-leb 1 (length vs) s.0.some, le-leb (length vs) values_most s.0.few, back) refl

-- the bytes are those of one row alone
pub stored_once : (bytes : List ℕ) (r s : Row) → IsStored bytes r → IsStored bytes s → r ≡ s
stored_once bytes r s a b = same_row_of r s (sym (stored_is_read bytes r a) ∙ stored_is_read bytes s b)

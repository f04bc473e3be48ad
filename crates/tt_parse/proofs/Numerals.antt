-- Digits and texts are read back.
use Rattle.std.proofs.Common.{◌≡◌, ℕ, zero, suc, ◌+◌, ◌*◌, ◌/◌, ◌%◌, ◌^◌, ◌<◌, ◌≤◌, Bool, true, List, [], ◌∷◌, ◌++◌, length, refl, ap, ◌∙◌, append_assoc, arith}
use Rattle.std.specs.List.{fold, list_all, prefix_len}
use Rattle.std.specs.Fmt.{decimal}
use Rattle.std.proofs.lemmas.Fmt.{decimal_by_steps}
use Rattle.std.proofs.lemmas.List.Sums.{fold-append}
use Rattle.std.proofs.lemmas.List.{length-append}
use Rattle.std.proofs.lemmas.Bool.{and_parts}
use Rattle.tt_parse.specs.declared.tokens.Class.{Class}
use Rattle.tt_parse.specs.declared.tokens.Class.TheVariants as class
use Rattle.tt_parse.specs.Tokens.{is_in, past}
use Rattle.tt_parse.specs.Symbols.{one_digit_more, units}
use Rattle.tt_parse.specs.Spelling.{dotted}

-- ---- digits

abbrev pub are_digits : List ℕ → Bool
are_digits ds = list_all (is_in class.Digit) ds

digit_byte : (d : ℕ) → d < 10 → is_in class.Digit (48 + d) ≡ true
digit_byte d h = grind arith

one_more : (n d : ℕ) → d < 10 → one_digit_more n (48 + d) ≡ 10 * n + d
one_more n d h = rw (digit_byte d h) (omega arith)

units_push : (ds : List ℕ) (d : ℕ) → d < 10 → units (ds ++ (48 + d) ∷ []) ≡ 10 * units ds + d
unfolding units
units_push ds d h = fold-append one_digit_more 0 ds ((48 + d) ∷ []) ∙ one_more (fold one_digit_more 0 ds) d h

digits_push : (ds : List ℕ) (d : ℕ) → d < 10 → are_digits ds ≡ true → are_digits (ds ++ (48 + d) ∷ []) ≡ true
digits_push [] d h e = rw (digit_byte d h) refl
digits_push (b ∷ ds) d h e =
    let p = and_parts (is_in class.Digit b) (are_digits ds) e in
    rw p.0 (digits_push ds d h p.1)

pub record Numeral (n : ℕ) (ds : List ℕ) : Type 0 where
  pub digits : are_digits ds ≡ true
  pub value : units ds ≡ n
  pub some : 1 ≤ length ds

one_numeral : (n : ℕ) → n < 10 → Numeral n ((48 + n) ∷ [])
unfolding units
one_numeral n h = record {
  digits = rw (digit_byte n h) refl;
  value = one_more 0 n h ∙ omega arith;
  some = omega arith;
}

more_numeral : (n : ℕ) (ds : List ℕ) → 10 ≤ n → Numeral (n / 10) ds → Numeral n (ds ++ (48 + n % 10) ∷ [])
more_numeral n ds h x = record {
  digits = digits_push ds (n % 10) (omega arith) x.digits;
  value = units_push ds (n % 10) (omega arith) ∙ (let v = x.value in omega arith);
  some = omega (arith, length-append ds ((48 + n % 10) ∷ []));
}

pub decimal_numeral : (n : ℕ) → n < 2 ^ 64 → Numeral n (decimal n)
decimal_numeral n h = decimal_by_steps Numeral one_numeral more_numeral n h

-- ---- digits with a dot

pub record Dotted (scale n : ℕ) (bytes : List ℕ) : Type 0 where
  pub front : List ℕ
  pub back : List ℕ
  pub whole : bytes ≡ front ++ 46 ∷ back
  pub front_digits : are_digits front ≡ true
  pub back_digits : are_digits back ≡ true
  pub some : 1 ≤ length front
  pub count : length back ≡ scale
  pub value : units bytes ≡ n

dot_only : (n : ℕ) (ds : List ℕ) → Numeral n ds → Dotted 0 n (ds ++ 46 ∷ [])
unfolding units
dot_only n ds x = record {
  front = ds;
  back = [];
  whole = refl;
  front_digits = x.digits;
  back_digits = refl;
  some = x.some;
  count = refl;
  value = fold-append one_digit_more 0 ds (46 ∷ []) ∙ x.value;
}

dot_more : (scale n : ℕ) (bytes : List ℕ) → Dotted scale (n / 10) bytes → Dotted (suc scale) n (bytes ++ (48 + n % 10) ∷ [])
dot_more scale n bytes x = record {
  front = x.front;
  back = x.back ++ (48 + n % 10) ∷ [];
  whole = ap (λ (y : List ℕ). y ++ (48 + n % 10) ∷ []) x.whole ∙ append_assoc x.front (46 ∷ x.back) ((48 + n % 10) ∷ []);
  front_digits = x.front_digits;
  back_digits = digits_push x.back (n % 10) (omega arith) x.back_digits;
  some = x.some;
  count = omega (arith, length-append x.back ((48 + n % 10) ∷ []), x.count);
  value = units_push bytes (n % 10) (omega arith) ∙ (let v = x.value in omega arith);
}

pub dotted_read : (scale n : ℕ) → n < 2 ^ 64 → Dotted scale n (dotted scale n)
unfolding dotted
dotted_read zero n h = dot_only n (decimal n) (decimal_numeral n h)
dotted_read (suc scale) n h = dot_more scale n (dotted scale (n / 10)) (dotted_read scale (n / 10) (omega arith))

-- ---- how far digits go

pub prefix_all : (p : ℕ → Bool) (x z : List ℕ) → list_all p x ≡ true → prefix_len p z ≡ 0 → prefix_len p (x ++ z) ≡ length x
prefix_all p [] z h e = e
prefix_all p (b ∷ x) z h e =
    let q = and_parts (p b) (list_all p x) h in
    let more = prefix_all p x z q.1 e in
    rw q.0 (omega (arith, more))

pub past_all : (c : Class) (x z : List ℕ) → list_all (is_in c) x ≡ true → prefix_len (is_in c) z ≡ 0 → past c (x ++ z) 0 ≡ length x
past_all c x z h e = let p = prefix_all (is_in c) x z h e in omega (arith, p)

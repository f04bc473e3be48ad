-- In a line that is UTF-8 each text is: what stands between its quotes, with one quote for each two.
use Rattle.std.proofs.Common.{◌≡◌, ℕ, zero, suc, ◌+◌, ◌-◌, ◌<◌, ◌≤◌, Bool, true, false, not, ◌&&◌, List, [], ◌∷◌, ◌++◌, length, get_or, take, drop, refl, sym, ap, subst, ◌∙◌, append_assoc, arith, ◌⊎◌, inl, inr}
use Rattle.std.specs.Prelude.{◌==◌, slice_index, IsUtf8}
use Rattle.std.proofs.lemmas.Bool.{and_parts, cases_lt}
use Rattle.std.proofs.lemmas.Bool.Decides.{Decides-eqb}
use Rattle.std.proofs.lemmas.Str.{IsUtf8-append, IsUtf8-drop, IsUtf8-between, IsCharBoundary-start, IsCharBoundary-before_ascii, IsCharBoundary-after_ascii}
use Rattle.std.proofs.lemmas.List.{length-append, take_all, take-take}
use Rattle.std.proofs.Math.Seq.{drop-cons, take-append_seam, drop-append-add, get_or-append_seam}
use Rattle.tt_parse.specs.Tokens.{text_rest}
use Rattle.tt_parse.specs.Symbols.{undoubled, inside}

-- ---- a text that stands anew

-- a quote that closes the text: the next byte is none
abbrev closes : ℕ → List ℕ → Bool
closes b z = b == 39 && not (slice_index z 0 == 39)

rest_of : (b : ℕ) (z : List ℕ) → closes b z ≡ false → text_rest false (b ∷ z) ≡ 1 + text_rest (b == 39) z
rest_of b z h = rw h refl

pub rest_some : (second : Bool) (z : List ℕ) → 1 ≤ text_rest second z
rest_some true [] = omega arith
rest_some false [] = omega arith
rest_some true (b ∷ z) = omega arith
rest_some false (b ∷ z) = go (closes b z) refl where
  go : (c : Bool) → closes b z ≡ c → 1 ≤ text_rest false (b ∷ z)
  go true e = rw e (omega arith)
  go false e = rw e (omega arith)

shift_take : (b : ℕ) (z : List ℕ) (n : ℕ) → 1 ≤ n → take ((1 + n) - 1) (b ∷ z) ≡ b ∷ take (n - 1) z
shift_take b z zero h = absurd (omega arith)
shift_take b z (suc n) h =
    let e : (1 + suc n) - 1 ≡ suc n = omega arith in
    let f : suc n - 1 ≡ n = omega arith in
    rw (e, f) refl

shift_get : (b : ℕ) (z : List ℕ) (n : ℕ) → 1 ≤ n → get_or (b ∷ z) ((1 + n) - 1) 0 ≡ get_or z (n - 1) 0
shift_get b z zero h = absurd (omega arith)
shift_get b z (suc n) h =
    let e : (1 + suc n) - 1 ≡ suc n = omega arith in
    let f : suc n - 1 ≡ n = omega arith in
    rw (e, f) refl

-- where a text ends before the line's end, its last byte is a quote
rest_closes : (second : Bool) (z : List ℕ) → text_rest second z ≤ length z → get_or z (text_rest second z - 1) 0 ≡ 39
rest_closes true [] h = absurd (omega arith)
rest_closes false [] h = absurd (omega arith)
rest_closes true (b ∷ z) h = shift_get b z (text_rest false z) (rest_some false z) ∙ rest_closes false z (omega arith)
rest_closes false (b ∷ z) h = go (closes b z) refl (λ le. rest_closes (b == 39) z le) where
  go : (c : Bool) → closes b z ≡ c → (text_rest (b == 39) z ≤ length z → get_or z (text_rest (b == 39) z - 1) 0 ≡ 39) →
      get_or (b ∷ z) (text_rest false (b ∷ z) - 1) 0 ≡ 39
  go true e inner = rw e ((Decides-eqb b 39).0 (and_parts (b == 39) (not (slice_index z 0 == 39)) e).0)
  go false e inner =
      let n = rest_of b z e in
      let le : text_rest (b == 39) z ≤ length z = omega (arith, n) in
      ap (λ (m : ℕ). get_or (b ∷ z) (m - 1) 0) n ∙ shift_get b z (text_rest (b == 39) z) (rest_some (b == 39) z) ∙ inner le

-- the text that ends there stands again in what it takes

take_head : (n : ℕ) (z : List ℕ) → 1 ≤ n → slice_index (take n z) 0 ≡ slice_index z 0
take_head zero z h = absurd (omega arith)
take_head (suc n) [] h = refl
take_head (suc n) (b ∷ z) h = refl

one_take : (b : ℕ) (z : List ℕ) (n : ℕ) → take (1 + n) (b ∷ z) ≡ b ∷ take n z
one_take b z n = let e : 1 + n ≡ suc n = omega arith in rw e refl

rest_again : (second : Bool) (z : List ℕ) → text_rest second (take (text_rest second z) z) ≡ text_rest second z
rest_again true [] = refl
rest_again false [] = refl
rest_again true (b ∷ z) =
    ap (λ (y : List ℕ). text_rest true y) (one_take b z (text_rest false z)) ∙ ap (λ (n : ℕ). 1 + n) (rest_again false z)
rest_again false (b ∷ z) = go (closes b z) refl (rest_again (b == 39) z) where
  go : (c : Bool) → closes b z ≡ c → text_rest (b == 39) (take (text_rest (b == 39) z) z) ≡ text_rest (b == 39) z →
      text_rest false (take (text_rest false (b ∷ z)) (b ∷ z)) ≡ text_rest false (b ∷ z)
  go true e inner =
      let quote : (b == 39) ≡ true = (and_parts (b == 39) (not (slice_index z 0 == 39)) e).0 in
      let one : text_rest false (b ∷ z) ≡ 1 = rw e refl in
      let here : text_rest false (b ∷ []) ≡ 1 = rw quote refl in
      ap (λ (n : ℕ). text_rest false (take n (b ∷ z))) one ∙ here ∙ sym one
  go false e inner =
      let n = rest_of b z e in
      let head : slice_index (take (text_rest (b == 39) z) z) 0 ≡ slice_index z 0 = take_head (text_rest (b == 39) z) z (rest_some (b == 39) z) in
      let unclosed : closes b (take (text_rest (b == 39) z) z) ≡ false = ap (λ (c : ℕ). b == 39 && not (c == 39)) head ∙ e in
      ap (λ (m : ℕ). text_rest false (take m (b ∷ z))) n ∙ ap (λ (y : List ℕ). text_rest false y) (one_take b z (text_rest (b == 39) z))
      ∙ rest_of b (take (text_rest (b == 39) z) z) unclosed ∙ ap (λ (m : ℕ). 1 + m) inner ∙ sym n

-- ---- each quote within is the first of two

abbrev Paired : Bool → List ℕ → Type 0
Paired true [] = Unit {0}
Paired false [] = Unit {0}
Paired true (b ∷ z) = (b ≡ 39) × Paired false z
Paired false (b ∷ z) = Paired (b == 39) z

-- what stands between the quotes
abbrev content : Bool → List ℕ → List ℕ
content second z = take (text_rest second z - 1) z

paired : (second : Bool) (z : List ℕ) → (second ≡ true → 0 < length z → slice_index z 0 ≡ 39) → Paired second (content second z)
paired true [] h = tt
paired false [] h = tt
paired true (b ∷ z) h =
    subst (λ (y : List ℕ). Paired true y) (sym (shift_take b z (text_rest false z) (rest_some false z)))
    (h refl (omega arith), paired false z (λ e. absurd (let p : false ≡ true = e in cc)))
paired false (b ∷ z) h = go (closes b z) refl (λ f. paired (b == 39) z f) where
  go : (c : Bool) → closes b z ≡ c → (((b == 39) ≡ true → 0 < length z → slice_index z 0 ≡ 39) → Paired (b == 39) (content (b == 39) z)) → Paired false (content false (b ∷ z))
  go true e inner =
      let none : content false (b ∷ z) ≡ [] = rw e refl in
      subst (λ (y : List ℕ). Paired false y) (sym none) tt
  go false e inner =
      let same : content false (b ∷ z) ≡ b ∷ content (b == 39) z = ap (λ (n : ℕ). take (n - 1) (b ∷ z)) (rest_of b z e) ∙ shift_take b z (text_rest (b == 39) z) (rest_some (b == 39) z) in
      subst (λ (y : List ℕ). Paired false y) (sym same) (inner (λ quote some. second (slice_index z 0 == 39) refl quote))
    where
      second : (d : Bool) → (slice_index z 0 == 39) ≡ d → (b == 39) ≡ true → slice_index z 0 ≡ 39
      second true f quote = (Decides-eqb (slice_index z 0) 39).0 f
      second false f quote = absurd (let p : true ≡ false = rw (quote, f) at e in cc)

-- ---- a byte of ASCII less

without : (x : List ℕ) (b : ℕ) (y : List ℕ) → b < 128 → IsUtf8 (x ++ b ∷ y) → IsUtf8 (x ++ y)
without x b y small h =
    let whole = x ++ b ∷ y in
    let long : length whole ≡ length x + suc (length y) = length-append x (b ∷ y) in
    let here : get_or whole (length x) 0 ≡ b = get_or-append_seam x b y 0 in
    let inside : length x < length whole = omega arith in
    let below : get_or whole (length x) 0 < 128 = omega arith in
    let front : IsUtf8 (take (length x - 0) (drop 0 whole)) = IsUtf8-between whole 0 (length x) h (omega arith) (IsCharBoundary-start whole h) (IsCharBoundary-before_ascii whole (length x) inside below) in
    let back : IsUtf8 (drop (length x + 1) whole) = IsUtf8-drop whole (length x + 1) h (IsCharBoundary-after_ascii whole (length x) h inside below) in
    let n : length x - 0 ≡ length x = omega arith in
    let left : take (length x - 0) (drop 0 whole) ≡ x = rw n (take-append_seam x (b ∷ y)) in
    let right : drop (length x + 1) whole ≡ y = drop-append-add x (b ∷ y) 1 in
    IsUtf8-append x y (subst IsUtf8 left front) (subst IsUtf8 right back)

plain_utf8 : (second : Bool) (x z : List ℕ) → Paired second z → IsUtf8 (x ++ z) → IsUtf8 (x ++ undoubled second z)
unfolding undoubled
plain_utf8 true x [] p h = h
plain_utf8 false x [] p h = h
plain_utf8 true x (b ∷ z) p h = plain_utf8 false x z p.1 (without x b z (omega (arith, p.0)) h)
plain_utf8 false x (b ∷ z) p h =
    subst IsUtf8 (append_assoc x (b ∷ []) (undoubled (b == 39) z))
    (plain_utf8 (b == 39) (x ++ b ∷ []) z p (subst IsUtf8 (sym (append_assoc x (b ∷ []) z)) h))

-- ---- a text of a line

content_utf8 : (z : List ℕ) → IsUtf8 z → IsUtf8 (content false z)
content_utf8 z h = go (cases_lt (length z) (text_rest false z)) where
  go : (length z < text_rest false z) ⊎ (text_rest false z ≤ length z) → IsUtf8 (content false z)
  go (inl longer) = subst IsUtf8 (sym (take_all (text_rest false z - 1) z (omega arith))) h
  go (inr closed) =
      let some = rest_some false z in
      let inside : text_rest false z - 1 < length z = omega arith in
      let quote : get_or z (text_rest false z - 1) 0 < 128 = omega (arith, rest_closes false z closed) in
      let n : text_rest false z - 1 - 0 ≡ text_rest false z - 1 = omega arith in
      let front : IsUtf8 (take (text_rest false z - 1 - 0) (drop 0 z)) = IsUtf8-between z 0 (text_rest false z - 1) h (omega arith) (IsCharBoundary-start z h) (IsCharBoundary-before_ascii z (text_rest false z - 1) inside quote) in
      rw n at front

inside_again : (z : List ℕ) → inside (39 ∷ take (text_rest false z) z) ≡ content false z
unfolding inside
inside_again z =
    ap (λ (n : ℕ). take (n - 1) (take (text_rest false z) z)) (rest_again false z)
    ∙ take-take (text_rest false z - 1) (text_rest false z) z (omega arith)

-- the text that begins at a quote of the line
pub text_utf8 : (line : List ℕ) (at end : ℕ) → IsUtf8 line → at < length line → slice_index line at ≡ 39 →
    end ≡ at + 1 + text_rest false (drop (at + 1) line) → IsUtf8 (undoubled false (inside (take (end - at) (drop at line))))
text_utf8 line at end h within quote e =
    let z = drop (at + 1) line in
    let rest : IsUtf8 z = IsUtf8-drop line (at + 1) h (IsCharBoundary-after_ascii line at h within (omega arith)) in
    let here : drop at line ≡ slice_index line at ∷ drop (suc at) line = drop-cons line at 0 within in
    let n : suc at ≡ at + 1 = omega arith in
    let long : end - at ≡ 1 + text_rest false z = omega arith in
    let bytes : take (end - at) (drop at line) ≡ 39 ∷ take (text_rest false z) z =
    ap (λ (m : ℕ). take m (drop at line)) long ∙ ap (λ (y : List ℕ). take (1 + text_rest false z) y) (here ∙ ap (λ (b : ℕ). b ∷ drop (suc at) line) quote ∙ ap (λ (m : ℕ). 39 ∷ drop m line) n)
    ∙ one_take 39 z (text_rest false z) in
    subst (λ (y : List ℕ). IsUtf8 (undoubled false y)) (sym (ap inside bytes ∙ inside_again z))
    (plain_utf8 false [] (content false z) (paired false z (λ f. absurd (let p : false ≡ true = f in cc))) (content_utf8 z rest))

-- Words, numbers, texts and marks are cut again where they end.
use Rattle.std.proofs.Common.{◌≡◌, ℕ, suc, ◌+◌, ◌<◌, ◌≤◌, lit<, Bool, true, false, not, ◌&&◌, ◌||◌, List, [], ◌∷◌, ◌++◌, length, take, drop, refl, sym, ap, subst, ◌∙◌, append_assoc, ◌⊎◌, inl, inr, arith}
use Rattle.std.specs.Prelude.{◌==◌, nat_le, slice_index, IsUtf8, codes, if◌then◌else◌}
use Rattle.std.specs.List.{list_all, prefix_len}
use Rattle.std.specs.Str.{IsAscii}
use Rattle.std.proofs.lemmas.Str.{IsUtf8-append, IsUtf8-from_ascii, IsUtf8-take, IsUtf8-drop, IsCharBoundary-before_ascii, IsCharBoundary-after_ascii}
use Rattle.std.proofs.Math.Seq.{take-append_seam, drop-append-add, get_or-append_seam}
use Rattle.tt_parse.proofs.Exact.{if_true, if_false}
use Rattle.std.proofs.lemmas.Str.Ascii.{IsAscii-cons, IsAscii-nil}
use Rattle.std.proofs.lemmas.Bool.{and_parts, leb-true}
use Rattle.std.proofs.lemmas.Bool.Decides.{Decides-eqb}
use Rattle.std.proofs.lemmas.List.{length-append, get_or-append-add}
use Rattle.tt_parse.specs.declared.kind.Kind.{Kind}
use Rattle.tt_parse.specs.declared.kind.Kind.TheVariants as k
use Rattle.tt_parse.specs.declared.tokens.Class.TheVariants as class
use Rattle.tt_parse.specs.Tokens.{is_in, past, first, number_len, text_rest, single}
use Rattle.tt_parse.specs.Spelling as spell
use Rattle.tt_parse.specs.Spelling.{Piece}
use Rattle.tt_parse.proofs.Pieces.{May, Cut}
use Rattle.tt_parse.proofs.Numerals.{are_digits, past_all, prefix_all}

-- ---- the byte behind

-- a byte that stands behind a piece that doesn't join with it
pub which_behind : (b : ℕ) → (b == 32 || b == 41 || b == 44) ≡ true → (b ≡ 32) ⊎ ((b ≡ 41) ⊎ (b ≡ 44))
which_behind b h = go (b == 32) (b == 41) (b == 44) refl refl refl h where
  go : (x y z : Bool) → (b == 32) ≡ x → (b == 41) ≡ y → (b == 44) ≡ z → (x || y || z) ≡ true → (b ≡ 32) ⊎ ((b ≡ 41) ⊎ (b ≡ 44))
  go true y z e f g t = inl ((Decides-eqb b 32).0 e)
  go false true z e f g t = inr (inl ((Decides-eqb b 41).0 f))
  go false false true e f g t = inr (inr ((Decides-eqb b 44).0 g))
  go false false false e f g t = absurd cc

-- what such a byte is not
pub behind_none : (p : ℕ → Bool) → p 32 ≡ false → p 41 ≡ false → p 44 ≡ false → (z : List ℕ) → May false z → prefix_len p z ≡ 0
behind_none p x y w [] m = refl
behind_none p x y w (b ∷ z) m = go (which_behind b m) where
  go : (b ≡ 32) ⊎ ((b ≡ 41) ⊎ (b ≡ 44)) → prefix_len p (b ∷ z) ≡ 0
  go (inl e) = rw (e, x) refl
  go (inr (inl e)) = rw (e, y) refl
  go (inr (inr e)) = rw (e, w) refl

pub index_behind : (z : List ℕ) → May false z → (p : ℕ → Bool) → p 0 ≡ false → p 32 ≡ false → p 41 ≡ false → p 44 ≡ false → p (slice_index z 0) ≡ false
index_behind [] m p n x y w = n
index_behind (b ∷ z) m p n x y w = go (which_behind b m) where
  go : (b ≡ 32) ⊎ ((b ≡ 41) ⊎ (b ≡ 44)) → p b ≡ false
  go (inl e) = rw (e, x) refl
  go (inr (inl e)) = rw (e, y) refl
  go (inr (inr e)) = rw (e, w) refl

-- a byte of ASCII is none that goes on with a character
continues : (joins : Bool) (z : List ℕ) → May joins z → prefix_len (is_in class.Continuation) z ≡ 0
continues true [] m = refl
continues false z m = behind_none (is_in class.Continuation) refl refl refl z m
continues true (b ∷ z) m = let e : is_in class.Continuation b ≡ false = grind arith in rw e refl

ascii_one : (b : ℕ) → b < 128 → IsUtf8 (b ∷ [])
ascii_one b h = IsUtf8-from_ascii (b ∷ []) (IsAscii-cons b [] h IsAscii-nil)

-- ---- marks of one byte

abbrev pub is_single : ℕ → Bool
is_single b = not (is_in class.Digit b) && not (is_in class.Word b) && not (b == 39) && not (b == 60) && not (b == 62) && not (is_in class.Blank b) && nat_le b 127

-- the case that is left
last_of : {A : Type 0} (d w q l g : Bool) (x y t u v r : A) → d ≡ false → w ≡ false → q ≡ false → l ≡ false → g ≡ false →
    (if d then x else (if w then y else (if q then t else (if l then u else (if g then v else r))))) ≡ r
last_of d w q l g x y t u v r a b c e f = rw (a, b, c, e, f) refl

second_of : {A : Type 0} (d w : Bool) (x y r : A) → d ≡ false → w ≡ true → (if d then x else (if w then y else r)) ≡ y
second_of d w x y r a b = rw (a, b) refl

third_of : {A : Type 0} (d w q : Bool) (x y t r : A) → d ≡ false → w ≡ false → q ≡ true → (if d then x else (if w then y else (if q then t else r))) ≡ t
third_of d w q x y t r a b c = rw (a, b, c) refl

first_single : (b : ℕ) (z : List ℕ) → is_in class.Digit b ≡ false → is_in class.Word b ≡ false → (b == 39) ≡ false → (b == 60) ≡ false → (b == 62) ≡ false →
    first (b ∷ z) ≡ (single b, past class.Continuation (b ∷ z) 1)
unfolding first
first_single b z d w q l g = last_of _ _ _ _ _ _ _ _ _ _ _ d w q l g

single_token : (joins : Bool) (b : ℕ) (z : List ℕ) → is_in class.Digit b ≡ false → is_in class.Word b ≡ false → (b == 39) ≡ false → (b == 60) ≡ false → (b == 62) ≡ false →
    May joins z → first (b ∷ z) ≡ (single b, 1)
single_token joins b z d w q l g m =
    let e = continues joins z m in
    first_single b z d w q l g ∙ ap (λ (n : ℕ). (single b, n)) (let n : past class.Continuation (b ∷ z) 1 ≡ 1 = omega (arith, e) in n)

pub cut_open : Cut spell.open_mark
cut_open = record {
  head = 40;
  tail = [];
  whole = refl;
  no_blank = refl;
  small = lit< tt;
  unspaced = λ e. absurd cc;
  utf8 = ascii_one 40 (lit< tt);
  token = λ z m. single_token true 40 z refl refl refl refl refl m;
}

pub cut_sign : Cut spell.sign
cut_sign = record {
  head = 45;
  tail = [];
  whole = refl;
  no_blank = refl;
  small = lit< tt;
  unspaced = λ e. absurd cc;
  utf8 = ascii_one 45 (lit< tt);
  token = λ z m. single_token true 45 z refl refl refl refl refl m;
}

pub cut_single : (kind : Kind) (b : ℕ) → single b ≡ kind → is_in class.Digit b ≡ false → is_in class.Word b ≡ false → (b == 39) ≡ false → (b == 60) ≡ false → (b == 62) ≡ false →
    is_in class.Blank b ≡ false → b < 128 → (spell.is_unspaced kind ≡ true → (b == 32 || b == 41 || b == 44) ≡ true) → Cut (spell.mark kind (b ∷ []))
cut_single kind b s d w q l g n small unspaced = record {
  head = b;
  tail = [];
  whole = refl;
  no_blank = n;
  small = small;
  unspaced = unspaced;
  utf8 = ascii_one b small;
  token = λ z m. single_token false b z d w q l g m ∙ ap (λ (a : Kind). (a, 1)) s;
}

pub cut_close : Cut spell.close_mark
cut_close = cut_single k.Close 41 refl refl refl refl refl refl refl (lit< tt) (λ e. refl)

pub cut_comma : Cut spell.comma
cut_comma = cut_single k.Comma 44 refl refl refl refl refl refl refl (lit< tt) (λ e. refl)

pub cut_star : Cut spell.star
cut_star = cut_single k.Star 42 refl refl refl refl refl refl refl (lit< tt) (λ e. absurd cc)

pub cut_equal : Cut (spell.mark k.Equal (codes "="))
cut_equal = cut_single k.Equal 61 refl refl refl refl refl refl refl (lit< tt) (λ e. absurd cc)

pub cut_plus : Cut (spell.mark k.Plus (codes "+"))
cut_plus = cut_single k.Plus 43 refl refl refl refl refl refl refl (lit< tt) (λ e. absurd cc)

pub cut_minus : Cut (spell.mark k.Minus (codes "-"))
cut_minus = cut_single k.Minus 45 refl refl refl refl refl refl refl (lit< tt) (λ e. absurd cc)

-- ---- comparisons

ascii_two : (a b : ℕ) → a < 128 → b < 128 → IsUtf8 (a ∷ b ∷ [])
ascii_two a b h i = IsUtf8-from_ascii (a ∷ b ∷ []) (IsAscii-cons a (b ∷ []) h (IsAscii-cons b [] i IsAscii-nil))

pub cut_less : Cut (spell.mark k.Less (codes "<"))
unfolding first
cut_less = record {
  head = 60;
  tail = [];
  whole = refl;
  no_blank = refl;
  small = lit< tt;
  unspaced = λ e. absurd cc;
  utf8 = ascii_one 60 (lit< tt);
  token = λ z m. rw (index_behind z m (λ b. b == 61) refl refl refl refl, index_behind z m (λ b. b == 62) refl refl refl refl) refl;
}

pub cut_greater : Cut (spell.mark k.Greater (codes ">"))
unfolding first
cut_greater = record {
  head = 62;
  tail = [];
  whole = refl;
  no_blank = refl;
  small = lit< tt;
  unspaced = λ e. absurd cc;
  utf8 = ascii_one 62 (lit< tt);
  token = λ z m. rw (index_behind z m (λ b. b == 61) refl refl refl refl) refl;
}

pub cut_not_equal : Cut (spell.mark k.NotEqual (codes "<>"))
unfolding first
cut_not_equal = record {
  head = 60;
  tail = 62 ∷ [];
  whole = refl;
  no_blank = refl;
  small = lit< tt;
  unspaced = λ e. absurd cc;
  utf8 = ascii_two 60 62 (lit< tt) (lit< tt);
  token = λ z m. refl;
}

pub cut_less_equal : Cut (spell.mark k.LessEqual (codes "<="))
unfolding first
cut_less_equal = record {
  head = 60;
  tail = 61 ∷ [];
  whole = refl;
  no_blank = refl;
  small = lit< tt;
  unspaced = λ e. absurd cc;
  utf8 = ascii_two 60 61 (lit< tt) (lit< tt);
  token = λ z m. refl;
}

pub cut_greater_equal : Cut (spell.mark k.GreaterEqual (codes ">="))
unfolding first
cut_greater_equal = record {
  head = 62;
  tail = 61 ∷ [];
  whole = refl;
  no_blank = refl;
  small = lit< tt;
  unspaced = λ e. absurd cc;
  utf8 = ascii_two 62 61 (lit< tt) (lit< tt);
  token = λ z m. refl;
}

-- ---- words

-- the bytes of a word, all of ASCII and none a blank, and no digit first
abbrev pub is_ascii_word : ℕ → Bool
is_ascii_word b = is_in class.Word b && (nat_le b 127 && not (is_in class.Blank b))

abbrev pub is_like_word : List ℕ → Bool
is_like_word [] = false
is_like_word (b ∷ w) = not (is_in class.Digit b) && list_all is_ascii_word (b ∷ w)

no_true : (b : Bool) → not b ≡ true → b ≡ false
no_true true h = absurd cc
no_true false h = refl

all_words : (w : List ℕ) → list_all is_ascii_word w ≡ true → list_all (is_in class.Word) w ≡ true
all_words [] h = refl
all_words (b ∷ w) h =
    let p = and_parts (is_ascii_word b) (list_all is_ascii_word w) h in
    rw (and_parts (is_in class.Word b) (nat_le b 127 && not (is_in class.Blank b)) p.0).0 (all_words w p.1)

all_ascii : (w : List ℕ) → list_all is_ascii_word w ≡ true → IsAscii w
all_ascii [] h = IsAscii-nil
all_ascii (b ∷ w) h =
    let p = and_parts (is_ascii_word b) (list_all is_ascii_word w) h in
    let q = and_parts (nat_le b 127) (not (is_in class.Blank b)) (and_parts (is_in class.Word b) (nat_le b 127 && not (is_in class.Blank b)) p.0).1 in
    IsAscii-cons b w (omega (arith, leb-true b 127 q.0)) (all_ascii w p.1)

word_token : (b : ℕ) (w z : List ℕ) → is_in class.Digit b ≡ false → is_in class.Word b ≡ true → list_all (is_in class.Word) (b ∷ w) ≡ true → May false z →
    first ((b ∷ w) ++ z) ≡ (k.Word, length (b ∷ w))
unfolding first
word_token b w z d i all m =
    second_of _ _ _ _ _ d i ∙ ap (λ (n : ℕ). (k.Word, n)) (past_all class.Word (b ∷ w) z all (behind_none (is_in class.Word) refl refl refl z m))

pub cut_word : (w : List ℕ) → is_like_word w ≡ true → Cut (spell.word w)
cut_word [] h = absurd cc
cut_word (b ∷ w) h =
    let p = and_parts (not (is_in class.Digit b)) (list_all is_ascii_word (b ∷ w)) h in
    let q = and_parts (is_ascii_word b) (list_all is_ascii_word w) p.1 in
    let s = and_parts (is_in class.Word b) (nat_le b 127 && not (is_in class.Blank b)) q.0 in
    let t = and_parts (nat_le b 127) (not (is_in class.Blank b)) s.1 in
    record {
      head = b;
      tail = w;
      whole = refl;
      no_blank = no_true (is_in class.Blank b) t.1;
      small = omega (arith, leb-true b 127 t.0);
      unspaced = λ e. absurd cc;
      utf8 = IsUtf8-from_ascii (b ∷ w) (all_ascii (b ∷ w) p.1);
      token = λ z m. word_token b w z (no_true (is_in class.Digit b) p.0) s.0 (all_words (b ∷ w) p.1) m;
    }

-- ---- numbers

number_token : (b : ℕ) (x z : List ℕ) (n : ℕ) → is_in class.Digit b ≡ true → number_len ((b ∷ x) ++ z) ≡ n → first ((b ∷ x) ++ z) ≡ (k.Number, n)
unfolding first
number_token b x z n d e = if_true _ _ _ d ∙ ap (λ (m : ℕ). (k.Number, m)) e

index_seam : (x z : List ℕ) → slice_index (x ++ z) (length x) ≡ slice_index z 0
index_seam x z = ap (λ (n : ℕ). slice_index (x ++ z) n) (let n : length x ≡ length x + 0 = omega arith in n) ∙ get_or-append-add x z 0 0

index_dot : (x : List ℕ) (c : ℕ) (z : List ℕ) → slice_index (x ++ 46 ∷ c ∷ z) (length x + 1) ≡ c
index_dot x c z = get_or-append-add x (46 ∷ c ∷ z) 1 0

-- where no dot stands behind the digits
plain_len : (x z : List ℕ) → are_digits x ≡ true → May false z → number_len (x ++ z) ≡ length x
plain_len x z d m =
    let e : past class.Digit (x ++ z) 0 ≡ length x = past_all class.Digit x z d (behind_none (is_in class.Digit) refl refl refl z m) in
    ap (λ (n : ℕ). (if slice_index (x ++ z) n == 46 && is_in class.Digit (slice_index (x ++ z) (n + 1)) then past class.Digit (x ++ z) (n + 1) else n)) e
    ∙ if_false _ _ _ (ap (λ (b : ℕ). b == 46 && is_in class.Digit (slice_index (x ++ z) (length x + 1))) (index_seam x z) ∙ ap (λ (t : Bool). t && is_in class.Digit (slice_index (x ++ z) (length x + 1))) (index_behind z m (λ b. b == 46) refl refl refl refl))

ascii_digits : (ds : List ℕ) → are_digits ds ≡ true → IsAscii ds
ascii_digits [] h = IsAscii-nil
ascii_digits (b ∷ ds) h =
    let p = and_parts (is_in class.Digit b) (are_digits ds) h in
    let q = and_parts (nat_le 48 b) (nat_le b 57) p.0 in
    IsAscii-cons b ds (omega (arith, leb-true b 57 q.1)) (ascii_digits ds p.1)

digit_no_blank : (b : ℕ) → is_in class.Digit b ≡ true → is_in class.Blank b ≡ false
digit_no_blank b h = grind arith

pub cut_digits : (ds : List ℕ) → are_digits ds ≡ true → 1 ≤ length ds → Cut (spell.number ds)
cut_digits [] h some = absurd (omega arith)
cut_digits (b ∷ ds) h some =
    let p = and_parts (is_in class.Digit b) (are_digits ds) h in
    let q = and_parts (nat_le 48 b) (nat_le b 57) p.0 in
    record {
      head = b;
      tail = ds;
      whole = refl;
      no_blank = digit_no_blank b p.0;
      small = omega (arith, leb-true b 57 q.1);
      unspaced = λ e. absurd cc;
      utf8 = IsUtf8-from_ascii (b ∷ ds) (ascii_digits (b ∷ ds) h);
      token = λ z m. number_token b ds z (length (b ∷ ds)) p.0 (plain_len (b ∷ ds) z h m);
    }

-- where more digits stand behind a dot
dotted_len : (x : List ℕ) (c : ℕ) (y z : List ℕ) → are_digits x ≡ true → are_digits (c ∷ y) ≡ true → May false z →
    number_len (x ++ 46 ∷ ((c ∷ y) ++ z)) ≡ length x + 1 + length (c ∷ y)
dotted_len x c y z d e m =
    let whole = x ++ 46 ∷ ((c ∷ y) ++ z) in
    let n : past class.Digit whole 0 ≡ length x = past_all class.Digit x (46 ∷ ((c ∷ y) ++ z)) d refl in
    let dot : slice_index whole (length x) ≡ 46 = index_seam x (46 ∷ ((c ∷ y) ++ z)) in
    let behind : drop (length x + 1) whole ≡ (c ∷ y) ++ z = drop-append-add x (46 ∷ ((c ∷ y) ++ z)) 1 in
    let here : slice_index whole (length x + 1) ≡ c = index_dot x c (y ++ z) in
    let digit = (and_parts (is_in class.Digit c) (are_digits y) e).0 in
    let more : prefix_len (is_in class.Digit) (drop (length x + 1) whole) ≡ length (c ∷ y) =
    ap (prefix_len (is_in class.Digit)) behind ∙ prefix_all (is_in class.Digit) (c ∷ y) z e (behind_none (is_in class.Digit) refl refl refl z m) in
    ap (λ (w : ℕ). (if slice_index whole w == 46 && is_in class.Digit (slice_index whole (w + 1)) then past class.Digit whole (w + 1) else w)) n
    ∙ if_true _ _ _ (ap (λ (b : ℕ). b == 46 && is_in class.Digit (slice_index whole (length x + 1))) dot ∙ ap (λ (b : ℕ). is_in class.Digit b) here ∙ digit)
    ∙ omega (arith, more)

dotted_all : (x : List ℕ) (y z : List ℕ) → are_digits x ≡ true → are_digits y ≡ true → 1 ≤ length y → May false z →
    number_len ((x ++ 46 ∷ y) ++ z) ≡ length (x ++ 46 ∷ y)
dotted_all x [] z d e some m = absurd (omega arith)
dotted_all x (c ∷ y) z d e some m =
    ap number_len (append_assoc x (46 ∷ c ∷ y) z) ∙ dotted_len x c y z d e m ∙ omega (arith, length-append x (46 ∷ c ∷ y))

dotted_utf8 : (x y : List ℕ) → are_digits x ≡ true → are_digits y ≡ true → IsUtf8 (x ++ 46 ∷ y)
dotted_utf8 x y d e = IsUtf8-append x (46 ∷ y) (IsUtf8-from_ascii x (ascii_digits x d)) (IsUtf8-from_ascii (46 ∷ y) (IsAscii-cons 46 y (lit< tt) (ascii_digits y e)))

pub cut_dotted : (x y : List ℕ) → are_digits x ≡ true → are_digits y ≡ true → 1 ≤ length x → 1 ≤ length y → Cut (spell.number (x ++ 46 ∷ y))
cut_dotted [] y d e some more = absurd (omega arith)
cut_dotted (b ∷ x) y d e some more =
    let p = and_parts (is_in class.Digit b) (are_digits x) d in
    let q = and_parts (nat_le 48 b) (nat_le b 57) p.0 in
    record {
      head = b;
      tail = x ++ 46 ∷ y;
      whole = refl;
      no_blank = digit_no_blank b p.0;
      small = omega (arith, leb-true b 57 q.1);
      unspaced = λ e. absurd cc;
      utf8 = dotted_utf8 (b ∷ x) y d e;
      token = λ z m. number_token b (x ++ 46 ∷ y) z (length ((b ∷ x) ++ 46 ∷ y)) p.0 (dotted_all (b ∷ x) y z d e more m);
    }

-- ---- texts

rest_plain : (b : ℕ) (z : List ℕ) → (b == 39) ≡ false → text_rest false (b ∷ z) ≡ 1 + text_rest false z
rest_plain b z h = rw h refl

closing : (z : List ℕ) → May false z → text_rest false (39 ∷ z) ≡ 1
closing z m = rw (index_behind z m (λ b. b == 39) refl refl refl refl) refl

-- a text goes on up to the quote that closes it
pub rest_doubled : (t z : List ℕ) → May false z → text_rest false (spell.doubled t ++ 39 ∷ z) ≡ length (spell.doubled t) + 1
unfolding spell.doubled
rest_doubled [] z m = closing z m
rest_doubled (b ∷ t) z m = go (b == 39) refl (rest_doubled t z m) where
  go : (q : Bool) → (b == 39) ≡ q → text_rest false (spell.doubled t ++ 39 ∷ z) ≡ length (spell.doubled t) + 1 →
      text_rest false (spell.doubled (b ∷ t) ++ 39 ∷ z) ≡ length (spell.doubled (b ∷ t)) + 1
  go true e more = rw (e, more) (omega arith)
  go false e more =
      let same : spell.doubled (b ∷ t) ≡ b ∷ spell.doubled t = rw e refl in
      subst (λ (y : List ℕ). text_rest false (y ++ 39 ∷ z) ≡ length y + 1) (sym same) (rest_plain b (spell.doubled t ++ 39 ∷ z) e ∙ omega (arith, more))

quote_token : (x z : List ℕ) (n : ℕ) → text_rest false (x ++ z) ≡ n → first ((39 ∷ x) ++ z) ≡ (k.Text, 1 + n)
unfolding first
quote_token x z n e = ap (λ (m : ℕ). (k.Text, 1 + m)) e

-- what stands before a byte of ASCII, and what behind it
ascii_apart : (x : List ℕ) (b : ℕ) (y : List ℕ) → b < 128 → IsUtf8 (x ++ b ∷ y) → IsUtf8 x × IsUtf8 y
ascii_apart x b y small h =
    let whole = x ++ b ∷ y in
    let long : length whole ≡ length x + suc (length y) = length-append x (b ∷ y) in
    let here : slice_index whole (length x) ≡ b = get_or-append_seam x b y 0 in
    let inside : length x < length whole = omega arith in
    let below : slice_index whole (length x) < 128 = omega arith in
    let front : IsUtf8 (take (length x) whole) = IsUtf8-take whole (length x) h (IsCharBoundary-before_ascii whole (length x) inside below) in
    let back : IsUtf8 (drop (length x + 1) whole) = IsUtf8-drop whole (length x + 1) h (IsCharBoundary-after_ascii whole (length x) h inside below) in
    (subst IsUtf8 (take-append_seam x (b ∷ y)) front, subst IsUtf8 (drop-append-add x (b ∷ y) 1) back)

-- a quote more before a quote
doubled_utf8 : (x t : List ℕ) → IsUtf8 (x ++ t) → IsUtf8 (x ++ spell.doubled t)
unfolding spell.doubled
doubled_utf8 x [] h = h
doubled_utf8 x (b ∷ t) h = go (b == 39) refl (λ y i. doubled_utf8 y t i) where
  go : (q : Bool) → (b == 39) ≡ q → ((y : List ℕ) → IsUtf8 (y ++ t) → IsUtf8 (y ++ spell.doubled t)) → IsUtf8 (x ++ spell.doubled (b ∷ t))
  go true e more =
      let is : b ≡ 39 = (Decides-eqb b 39).0 e in
      let parts = ascii_apart x b t (omega arith) h in
      let behind : IsUtf8 ((39 ∷ 39 ∷ []) ++ spell.doubled t) = IsUtf8-append (39 ∷ 39 ∷ []) (spell.doubled t) (ascii_two 39 39 (lit< tt) (lit< tt)) (more [] parts.1) in
      rw e (IsUtf8-append x (39 ∷ 39 ∷ spell.doubled t) parts.0 behind)
  go false e more =
      let front : IsUtf8 ((x ++ b ∷ []) ++ t) = subst IsUtf8 (sym (append_assoc x (b ∷ []) t)) h in
      rw e (subst IsUtf8 (append_assoc x (b ∷ []) (spell.doubled t)) (more (x ++ b ∷ []) front))

pub cut_text : (t : List ℕ) → IsUtf8 t → Cut (spell.text t)
cut_text t h = record {
  head = 39;
  tail = spell.doubled t ++ 39 ∷ [];
  whole = refl;
  no_blank = refl;
  small = lit< tt;
  unspaced = λ e. absurd cc;
  utf8 = IsUtf8-append (39 ∷ []) (spell.doubled t ++ 39 ∷ []) (ascii_one 39 (lit< tt)) (IsUtf8-append (spell.doubled t) (39 ∷ []) (doubled_utf8 [] t h) (ascii_one 39 (lit< tt)));
  token = λ z m.
      quote_token (spell.doubled t ++ 39 ∷ []) z (length (spell.doubled t) + 1) (ap (text_rest false) (append_assoc (spell.doubled t) (39 ∷ []) z) ∙ rest_doubled t z m)
      ∙ ap (λ (n : ℕ). (k.Text, n)) (omega (arith, length-append (spell.doubled t) (39 ∷ [])));
}

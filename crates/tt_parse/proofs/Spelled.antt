-- What a line gives is given by the tokens of its spelling: words, names, literals and lists.
use Rattle.std.proofs.Common.{◌≡◌, ℕ, zero, suc, ◌+◌, ◌-◌, ◌^◌, ◌<◌, ◌≤◌, Bool, true, false, not, ◌&&◌, List, [], ◌∷◌, ◌++◌, length, map, Some, refl, sym, ap, ap₂, subst, ◌∙◌, arith, lit<, eq-eqb, take, inl, inr}
use Rattle.std.specs.Prelude.{◌==◌, nat_le, codes, pos, negsuc, ℤ, IsUtf8, if◌then◌else◌}
use Rattle.std.specs.List.{list_all}
use Rattle.std.specs.Char.{to_ascii_lowercase}
use Rattle.std.specs.Str.{bytes_eq}
use Rattle.std.specs.Fmt.{decimal}
use Rattle.std.proofs.lemmas.Bool.{and_parts, leb-true, le-leb}
use Rattle.std.proofs.lemmas.Bool.Decides.{Decides-eqb}
use Rattle.tt_value.specs.Ident.{is_name, is_letter, is_digit, is_reserved}
use Rattle.tt_value.specs.declared.value.Value.{Value}
use Rattle.tt_value.specs.declared.value.Value.TheVariants as v
use Rattle.tt_parse.specs.declared.kind.Kind.TheVariants as k
use Rattle.tt_parse.specs.Tokens.{Token, same_kind, past}
use Rattle.tt_parse.specs.Grammar.{nothing, one, ◌>>◌}
use Rattle.tt_parse.specs.Script as g
use Rattle.tt_parse.specs.Script.{G}
use Rattle.tt_parse.specs.Symbols as symbol
use Rattle.tt_parse.specs.Symbols.{folded, is_word, is_mark, is_a_name, the_word, the_mark, the_name, the_digits, the_number, the_text, undoubled, inside}
use Rattle.tt_parse.specs.Spelling as spell
use Rattle.tt_parse.specs.Spelling.{Piece}
use Rattle.tt_parse.proofs.Pieces.{Fine, FineToken, spells_then, spells_left, spells_right, fine_back, Cut, Spells, Respells, After, spells_one, respells, after_nothing, after_then, respells_many, rows}
use Rattle.tt_parse.proofs.Cuts.{cut_word, is_like_word, is_ascii_word, cut_digits, cut_dotted, cut_text, cut_comma, cut_sign, rest_doubled}
use Rattle.tt_parse.proofs.Numerals.{decimal_numeral, dotted_read, are_digits, past_all}
use Rattle.tt_parse.specs.declared.tokens.Class.TheVariants as class
use Rattle.std.proofs.lemmas.List.{length-append}
use Rattle.std.proofs.Math.Seq.{take-append_seam}
use Rattle.tt_parse.proofs.Exact.{append-[]}
use Rattle.tt_parse.proofs.TokenTests.{when_some, kind_is}
use Rattle.tt_parse.proofs.Cursors.{kind_same}

pub when_value : {A : Type 0} (b : Bool) (x y : A) → symbol.when b x ≡ Some y → x ≡ y
when_value true x y h = cc
when_value false x y h = absurd cc

-- ---- words and marks

-- a word, in any case of its letters
pub spells_word : (w bytes : List ℕ) → is_like_word bytes ≡ true → bytes_eq (map to_ascii_lowercase bytes) w ≡ true → Spells (g.word w) (spell.word bytes ∷ []) tt
unfolding g.word is_word
spells_word w bytes like same =
    spells_one (the_word w) (spell.word bytes) tt (cut_word bytes like) (λ t s. rw (s.0, s.1, kind_is k.Word k.Word refl, same) refl)

pub respell_word : (w bytes : List ℕ) → is_like_word bytes ≡ true → bytes_eq (map to_ascii_lowercase bytes) w ≡ true → Respells (g.word w) (λ _. spell.word bytes ∷ [])
respell_word w bytes like same ts a fine h = spells_word w bytes like same

pub spells_mark : (p : Piece) → Cut p → Spells (g.mark p.kind) (p ∷ []) tt
unfolding g.mark is_mark
spells_mark p c = spells_one (the_mark p.kind) p tt c (λ t s. rw (s.0, kind_is p.kind p.kind refl) refl)

pub respell_mark : (p : Piece) → Cut p → Respells (g.mark p.kind) (λ _. p ∷ [])
respell_mark p c ts a fine h = spells_mark p c

-- ---- names

letter_word : (b : ℕ) → is_letter b ≡ true → is_ascii_word b ≡ true
letter_word b h = grind arith

letter_small : (b : ℕ) → is_letter b ≡ true → to_ascii_lowercase b ≡ b
letter_small b h = grind arith

letters_word : (w : List ℕ) → list_all is_letter w ≡ true → list_all is_ascii_word w ≡ true
letters_word [] h = refl
letters_word (b ∷ w) h =
    let p = and_parts (is_letter b) (list_all is_letter w) h in
    rw (letter_word b p.0) (letters_word w p.1)

letters_small : (w : List ℕ) → list_all is_letter w ≡ true → map to_ascii_lowercase w ≡ w
letters_small [] h = refl
letters_small (b ∷ w) h =
    let p = and_parts (is_letter b) (list_all is_letter w) h in
    ap₂ (λ (x : ℕ) (y : List ℕ). x ∷ y) (letter_small b p.0) (letters_small w p.1)

name_letters : (w : List ℕ) → is_name w ≡ true → list_all is_letter w ≡ true
unfolding is_name
name_letters w h =
    (and_parts (list_all is_letter w) (not (is_reserved w)) (and_parts _ (list_all is_letter w && not (is_reserved w)) h).1).0

name_like : (w : List ℕ) → is_name w ≡ true → is_like_word w ≡ true
unfolding is_name
name_like [] h = absurd cc
name_like (b ∷ w) h =
    let p = and_parts _ (list_all is_letter (b ∷ w) && not (is_reserved (b ∷ w))) h in
    rw ((and_parts _ (not (is_digit b)) p.0).1) (letters_word (b ∷ w) (name_letters (b ∷ w) h))

pub respell_name : Respells g.name spell.name
unfolding g.name is_a_name
respell_name ts a fine h =
    let w = h.2 in
    let named = when_some (is_a_name h.0) (folded h.0) a w in
    let is : folded h.0 ≡ a = when_value (is_a_name h.0) (folded h.0) a w in
    let n : is_name a ≡ true = subst (λ (x : List ℕ). is_name x ≡ true) is (and_parts (same_kind h.0.kind k.Word) (is_name (folded h.0)) named).1 in
    spells_one the_name (spell.word a) a (cut_word a (name_like a n)) (λ t s. rw (s.0, s.1, letters_small a (name_letters a n), kind_is k.Word k.Word refl, n) refl)

-- ---- lists

pub rows_more : {A : Type 0} (f : A → List Piece) (xs : List A) → rows (λ x. spell.comma ∷ f x) xs ≡ spell.more_items f xs
unfolding spell.more_items
rows_more f [] = refl
rows_more f (x ∷ xs) = ap (λ (ps : List Piece). spell.comma ∷ (f x ++ ps)) (rows_more f xs)

pub respell_comma_item : {A : Type 0} (item : G A) (f : A → List Piece) → Respells item f → Respells (g.mark k.Comma >> item) (λ x. spell.comma ∷ f x)
respell_comma_item {A} item f x =
    respells (λ a. spell.comma ∷ f a) (after_then [] (λ _. spell.comma ∷ []) (λ a. spell.comma ∷ f a) (respell_mark spell.comma cut_comma)
    (λ _. λ ts a fine h. (f a, x ts a fine h, refl)))

pub respell_list : {A : Type 0} (item : G A) (f : A → List Piece) → Respells item f → Respells (g.comma_list item) (spell.list f)
unfolding g.comma_list spell.list
respell_list {A} item f x =
    respells (spell.list f) (after_then [] f (spell.list f) x (λ first.
    after_then (f first) (rows (λ a. spell.comma ∷ f a)) (spell.list f) (respells_many (λ a. spell.comma ∷ f a) (respell_comma_item item f x)) (λ more.
    after_nothing (spell.list f) (f first ++ rows (λ a. spell.comma ∷ f a) more) (first ∷ more) (ap (λ (ps : List Piece). f first ++ ps) (rows_more f more)))))

-- ---- numbers

no_dot_all : (ds : List ℕ) → are_digits ds ≡ true → symbol.has_dot ds ≡ false
no_dot_all ds h =
    let e : symbol.whole_len ds ≡ length ds = ap (λ (x : List ℕ). past class.Digit x 0) (sym (append-[] ds)) ∙ past_all class.Digit ds [] h refl in
    rw e (ap not (eq-eqb (length ds) (length ds) refl))

plain_decimals : (ds : List ℕ) → are_digits ds ≡ true → symbol.decimals ds ≡ 0
plain_decimals ds h =
    let e : symbol.whole_len ds ≡ length ds = ap (λ (x : List ℕ). past class.Digit x 0) (sym (append-[] ds)) ∙ past_all class.Digit ds [] h refl in
    omega (arith, e)

dotted_whole : (x y : List ℕ) → are_digits x ≡ true → symbol.whole_len (x ++ 46 ∷ y) ≡ length x
dotted_whole x y h = past_all class.Digit x (46 ∷ y) h refl

dot_there : (x y : List ℕ) → are_digits x ≡ true → symbol.has_dot (x ++ 46 ∷ y) ≡ true
dot_there x y h =
    let e = dotted_whole x y h in
    let l : length (x ++ 46 ∷ y) ≡ length x + suc (length y) = length-append x (46 ∷ y) in
    let ne : (length x == length (x ++ 46 ∷ y)) ≡ false = not_same (length x) (length (x ++ 46 ∷ y)) (omega arith) in
    rw (e, ne) refl
  where
    not_same : (a b : ℕ) → a < b → (a == b) ≡ false
    not_same a b h = grind arith

dotted_decimals : (x y : List ℕ) → are_digits x ≡ true → symbol.decimals (x ++ 46 ∷ y) ≡ length y
dotted_decimals x y h = let e = dotted_whole x y h in omega (arith, e, length-append x (46 ∷ y))

-- a number in a range
pub respell_digits : (low high : ℕ) → high ≤ 1000 → Respells (g.digits low high) (λ n. spell.number (decimal n) ∷ [])
unfolding g.digits the_digits symbol.is_between
respell_digits low high small ts a fine h =
    let s = h.0 in
    let test = when_some (same_kind s.kind k.Number && symbol.is_between low high s.bytes) (symbol.units s.bytes) a h.2 in
    let is : symbol.units s.bytes ≡ a = when_value (same_kind s.kind k.Number && symbol.is_between low high s.bytes) (symbol.units s.bytes) a h.2 in
    let between = (and_parts (same_kind s.kind k.Number) (symbol.is_between low high s.bytes) test).1 in
    let p = and_parts (not (symbol.has_dot s.bytes) && nat_le low (symbol.units s.bytes)) (nat_le (symbol.units s.bytes) high) between in
    let lower : nat_le low a ≡ true = subst (λ (n : ℕ). nat_le low n ≡ true) is (and_parts (not (symbol.has_dot s.bytes)) (nat_le low (symbol.units s.bytes)) p.0).1 in
    let upper : nat_le a high ≡ true = subst (λ (n : ℕ). nat_le n high ≡ true) is p.1 in
    let le : a ≤ high = leb-true a high upper in
    let below : a < 1001 = omega arith in
    let wide : 1001 < 2 ^ 64 = lit< tt in
    let n = decimal_numeral a (omega (arith, below, wide)) in
    spells_one (the_digits low high) (spell.number (decimal a)) a (cut_digits (decimal a) n.digits n.some)
    (λ t e. rw (e.0, e.1, n.value, no_dot_all (decimal a) n.digits, lower, upper, kind_is k.Number k.Number refl) refl)

spells_number : (minus : Bool) (bytes : List ℕ) (a : Value) → Cut (spell.number bytes) → symbol.fits minus bytes ≡ true → symbol.number_value minus bytes ≡ a →
    Spells (one (the_number minus)) (spell.number bytes ∷ []) a
unfolding the_number
spells_number minus bytes a cut fits value =
    spells_one (the_number minus) (spell.number bytes) a cut (λ t e. rw (e.0, e.1, fits, value, kind_is k.Number k.Number refl) refl)

spells_whole : (minus : Bool) (n : ℕ) → n ≤ symbol.most minus → n < 2 ^ 64 → Spells (one (the_number minus)) (spell.number (decimal n) ∷ []) (v.Int (symbol.signed minus n))
unfolding symbol.fits symbol.number_value
spells_whole minus n le small =
    let x = decimal_numeral n small in
    let dot = no_dot_all (decimal n) x.digits in
    spells_number minus (decimal n) (v.Int (symbol.signed minus n)) (cut_digits (decimal n) x.digits x.some)
    (rw (x.value, plain_decimals (decimal n) x.digits, le-leb n (symbol.most minus) le) refl)
    (rw (dot, x.value) refl)

spells_dotted : (minus : Bool) (scale n : ℕ) → 1 ≤ scale → scale ≤ 18 → n ≤ symbol.most minus → n < 2 ^ 64 →
    Spells (one (the_number minus)) (spell.number (spell.dotted scale n) ∷ []) (v.Number scale (symbol.signed minus n))
unfolding symbol.fits symbol.number_value
spells_dotted minus scale n some few le small =
    let x = dotted_read scale n small in
    let at = spell.dotted scale n in
    let dot : symbol.has_dot at ≡ true = ap symbol.has_dot x.whole ∙ dot_there x.front x.back x.front_digits in
    let count : symbol.decimals at ≡ scale = ap symbol.decimals x.whole ∙ dotted_decimals x.front x.back x.front_digits ∙ x.count in
    let more : 1 ≤ length x.back = omega (arith, x.count) in
    let cut : Cut (spell.number at) = subst (λ (y : List ℕ). Cut (spell.number y)) (sym x.whole) (cut_dotted x.front x.back x.front_digits x.back_digits x.some more) in
    spells_number minus at (v.Number scale (symbol.signed minus n)) cut
    (rw (x.value, count, le-leb n (symbol.most minus) le, le-leb scale 18 few) refl)
    (rw (dot, x.value, count) refl)

most_small : (minus : Bool) (n : ℕ) → n ≤ symbol.most minus → n < 2 ^ 64
most_small true n h = let w : 2 ^ 63 < 2 ^ 64 = lit< tt in omega arith
most_small false n h = let w : 2 ^ 63 - 1 < 2 ^ 64 = lit< tt in omega arith

-- ---- literals

-- what a number that the grammar gives is
pub record Given (minus : Bool) (a : Value) : Type 0 where
  pub units : ℕ
  pub scale : ℕ
  pub dot : Bool
  pub fits : units ≤ symbol.most minus
  pub some : dot ≡ true → 1 ≤ scale
  pub few : scale ≤ 18
  pub is : (if dot then v.Number scale (symbol.signed minus units) else v.Int (symbol.signed minus units)) ≡ a

given_number : (minus : Bool) (s : Token) (a : Value) → FineToken s → the_number minus s ≡ Some a → Given minus a
unfolding the_number symbol.fits symbol.number_value
given_number minus s a fine h =
    let test = and_parts (same_kind s.kind k.Number) (symbol.fits minus s.bytes) (when_some (same_kind s.kind k.Number && symbol.fits minus s.bytes) (symbol.number_value minus s.bytes) a h) in
    let p = and_parts (nat_le (symbol.units s.bytes) (symbol.most minus)) (nat_le (symbol.decimals s.bytes) 18) test.1 in
    record {
      units = symbol.units s.bytes;
      scale = symbol.decimals s.bytes;
      dot = symbol.has_dot s.bytes;
      fits = leb-true (symbol.units s.bytes) (symbol.most minus) p.0;
      some = λ d. fine.number (kind_same s.kind k.Number test.0) d;
      few = leb-true (symbol.decimals s.bytes) 18 p.1;
      is = when_value (same_kind s.kind k.Number && symbol.fits minus s.bytes) (symbol.number_value minus s.bytes) a h;
    }

abbrev value_of : Bool → ℕ → ℤ → Value
value_of dot scale n = if dot then v.Number scale n else v.Int n

spells_plain : (dot : Bool) (scale units : ℕ) → units ≤ symbol.most false → (dot ≡ true → 1 ≤ scale) → scale ≤ 18 →
    Spells (one (the_number false)) (spell.literal (value_of dot scale (pos units))) (value_of dot scale (pos units))
unfolding symbol.signed
spells_plain true scale units le some few = spells_dotted false scale units (some refl) few le (most_small false units le)
spells_plain false scale units le some few = spells_whole false units le (most_small false units le)

-- a number with no sign
pub respell_unsigned : Respells (one (the_number false)) spell.literal
unfolding symbol.signed
respell_unsigned ts a fine h =
    let one_fine : Fine (h.0 ∷ []) = subst Fine h.1 fine in
    let x = given_number false h.0 a one_fine.0 h.2 in
    subst (λ (y : Value). Spells (one (the_number false)) (spell.literal y) y) x.is (spells_plain x.dot x.scale x.units x.fits x.some x.few)

unsigned_literal : (ps : List Piece) (a : Value) → Spells (one (the_number false)) ps a → Spells g.literal ps a
unfolding g.literal
unsigned_literal ps a x = spells_right (spells_right (spells_right x))

spells_sign : Spells (g.mark k.Minus) (spell.sign ∷ []) tt
unfolding g.mark is_mark
spells_sign = spells_one (the_mark k.Minus) spell.sign tt cut_sign (λ t s. rw (s.0, kind_is k.Minus k.Minus refl) refl)

negative_literal : (p : Piece) (a : Value) → Spells (one (the_number true)) (p ∷ []) a → Spells g.literal (spell.sign ∷ p ∷ []) a
unfolding g.literal
negative_literal p a x = spells_right (spells_left (spells_then (spell.sign ∷ []) (p ∷ []) tt a spells_sign x))

most_less : 0 ≤ symbol.most false
most_less = omega arith

spells_negative : (dot : Bool) (scale units : ℕ) → units ≤ symbol.most true → (dot ≡ true → 1 ≤ scale) → scale ≤ 18 →
    Spells g.literal (spell.literal (value_of dot scale (symbol.signed true units))) (value_of dot scale (symbol.signed true units))
unfolding symbol.signed
spells_negative dot scale zero le some few = unsigned_literal (spell.literal (value_of dot scale (pos 0))) (value_of dot scale (pos 0)) (spells_plain dot scale 0 most_less some few)
spells_negative true scale (suc n) le some few =
    negative_literal (spell.number (spell.dotted scale (suc n))) (v.Number scale (negsuc n)) (spells_dotted true scale (suc n) (some refl) few le (most_small true (suc n) le))
spells_negative false scale (suc n) le some few =
    negative_literal (spell.number (decimal (suc n))) (v.Int (negsuc n)) (spells_whole true (suc n) le (most_small true (suc n) le))

undoubled_again : (t : List ℕ) → undoubled false (spell.doubled t) ≡ t
unfolding undoubled spell.doubled
undoubled_again [] = refl
undoubled_again (b ∷ t) = go (b == 39) refl (undoubled_again t) where
  go : (q : Bool) → (b == 39) ≡ q → undoubled false (spell.doubled t) ≡ t → undoubled false (spell.doubled (b ∷ t)) ≡ b ∷ t
  go true e more =
      let is : b ≡ 39 = (Decides-eqb b 39).0 e in
      rw (e, more) (ap (λ (x : ℕ). x ∷ t) (sym is))
  go false e more =
      let same : spell.doubled (b ∷ t) ≡ b ∷ spell.doubled t = rw e refl in
      ap (undoubled false) same ∙ rw (e, more) refl

inside_doubled : (t : List ℕ) → inside (39 ∷ (spell.doubled t ++ 39 ∷ [])) ≡ spell.doubled t
unfolding inside
inside_doubled t =
    ap (λ (n : ℕ). take (n - 1) (spell.doubled t ++ 39 ∷ [])) (rest_doubled t [] tt)
    ∙ ap (λ (n : ℕ). take n (spell.doubled t ++ 39 ∷ [])) (let n : length (spell.doubled t) + 1 - 1 ≡ length (spell.doubled t) = omega arith in n)
    ∙ take-append_seam (spell.doubled t) (39 ∷ [])

spells_text : (t : List ℕ) → IsUtf8 t → Spells (one the_text) (spell.text t ∷ []) (v.Text t)
unfolding the_text
spells_text t h =
    spells_one the_text (spell.text t) (v.Text t) (cut_text t h) (λ s e. rw (e.0, e.1, inside_doubled t, undoubled_again t, kind_is k.Text k.Text refl) refl)

respell_text : Respells (one the_text) spell.literal
unfolding the_text
respell_text ts a fine h =
    let s = h.0 in
    let one_fine : Fine (s ∷ []) = subst Fine h.1 fine in
    let kind = kind_same s.kind k.Text (when_some (same_kind s.kind k.Text) (v.Text (undoubled false (inside s.bytes))) a h.2) in
    let is : v.Text (undoubled false (inside s.bytes)) ≡ a = when_value (same_kind s.kind k.Text) (v.Text (undoubled false (inside s.bytes))) a h.2 in
    subst (λ (y : Value). Spells (one the_text) (spell.literal y) y) is (spells_text (undoubled false (inside s.bytes)) (one_fine.0.text kind))

literal_null : After [] (do g.word (codes "null"); nothing v.Null) spell.literal
literal_null =
    after_then [] (λ _. spell.word (codes "null") ∷ []) spell.literal (respell_word (codes "null") (codes "null") refl refl) (λ _.
    after_nothing spell.literal (spell.word (codes "null") ∷ []) v.Null refl)

literal_negative : (ts : List Token) (a : Value) → Fine ts → (g.mark k.Minus >> one (the_number true)) ts a → Spells g.literal (spell.literal a) a
literal_negative ts a fine h =
    let both : Fine (h.0 ++ h.1) = subst Fine h.3 fine in
    let one_fine : Fine (h.5.0 ∷ []) = subst Fine h.5.1 (fine_back h.0 h.1 both) in
    let x = given_number true h.5.0 a one_fine.0 h.5.2 in
    subst (λ (y : Value). Spells g.literal (spell.literal y) y) x.is (spells_negative x.dot x.scale x.units x.fits x.some x.few)

pub respell_literal : Respells g.literal spell.literal
unfolding g.literal
respell_literal ts a fine (inl h) = spells_left (respells spell.literal literal_null ts a fine h)
respell_literal ts a fine (inr (inl h)) = literal_negative ts a fine h
respell_literal ts a fine (inr (inr (inl h))) = spells_right (spells_right (spells_left (respell_text ts a fine h)))
respell_literal ts a fine (inr (inr (inr h))) = unsigned_literal (spell.literal a) a (respell_unsigned ts a fine h)

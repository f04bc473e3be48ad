-- Tests of the next token by its kind or its word, and what they tell of each other.
use Rattle.std.proofs.Common.{◌≡◌, ℕ, Bool, true, false, not, ◌||◌, List, [], ◌∷◌, Some, refl, ap, ◌∙◌}
use Rattle.std.specs.List.{list_all}
use Rattle.std.specs.Str.{bytes_eq}
use Rattle.std.proofs.lemmas.Bool.{and_parts}
use Rattle.std.proofs.lemmas.Slice.Eq.{bytes_eq-Decides}
use denote.Enum.Bare.{true_same}
use Rattle.tt_parse.specs.contracts.kind.Kind.{the_type}
use Rattle.tt_value.specs.Ident.{is_name}
use Rattle.tt_parse.specs.declared.kind.Kind.{Kind}
use Rattle.tt_parse.specs.declared.kind.Kind.TheVariants as k
use Rattle.tt_parse.specs.Grammar.{one, ◌>>=◌}
use Rattle.tt_parse.specs.Script as g
use Rattle.tt_parse.specs.Script.{G}
use Rattle.tt_parse.specs.Tokens.{Token, same_kind}
use Rattle.tt_parse.specs.Symbols.{when, folded, is_word, is_mark, is_a_name, the_word, the_mark, the_name}
use Rattle.tt_parse.proofs.Exact.{Begins, Follows, Within, never}
use Rattle.tt_parse.proofs.ExactLaws.{Finds, begins_one, begins_then, follows_one_then}
use Rattle.tt_parse.proofs.Cursors.{kind_same}

-- ---- what tokens tell apart

pub when_some : {A : Type 0} (b : Bool) (x y : A) → when b x ≡ Some y → b ≡ true
when_some true x y h = refl
when_some false x y h = absurd cc

pub or_false : (a b : Bool) → (a || b) ≡ false → (a ≡ false) × (b ≡ false)
or_false true b h = absurd cc
or_false false b h = (refl, h)

pub kind_is : (a b : Kind) → a ≡ b → same_kind a b ≡ true
unfolding same_kind
kind_is a b h = true_same the_type a b h

-- a word is a word
pub word_kind : (w : List ℕ) (s : Token) → is_word w s ≡ true → s.kind ≡ k.Word
unfolding is_word
word_kind w s h = kind_same s.kind k.Word (and_parts (same_kind s.kind k.Word) (bytes_eq (folded s) w) h).0

pub word_text : (w : List ℕ) (s : Token) → is_word w s ≡ true → folded s ≡ w
unfolding is_word
word_text w s h = (bytes_eq-Decides (folded s) w).0 (and_parts (same_kind s.kind k.Word) (bytes_eq (folded s) w) h).1

pub mark_kind : (a : Kind) (s : Token) → is_mark a s ≡ true → s.kind ≡ a
unfolding is_mark
mark_kind a s h = kind_same s.kind a h

-- another mark
pub mark_other : (a b : Kind) → same_kind a b ≡ false → (s : Token) → s.kind ≡ a → is_mark b s ≡ false
unfolding is_mark
mark_other a b d s h = rw h d

-- a mark is no word
pub word_other_kind : (a : Kind) → same_kind a k.Word ≡ false → (w : List ℕ) (s : Token) → s.kind ≡ a → is_word w s ≡ false
unfolding is_word
word_other_kind a d w s h = rw (h, d) refl

-- another word
pub word_other : (a b : List ℕ) → bytes_eq a b ≡ false → (s : Token) → is_word a s ≡ true → is_word b s ≡ false
unfolding is_word same_kind
word_other a b d s h = rw (word_kind a s h, word_text a s h, d) refl

pub name_kind : (s : Token) → is_a_name s ≡ true → s.kind ≡ k.Word
unfolding is_a_name
name_kind s h = kind_same s.kind k.Word (and_parts (same_kind s.kind k.Word) (is_name (folded s)) h).0

name_no : (w : List ℕ) → is_name w ≡ false → (s : Token) → is_a_name s ≡ true → (b : Bool) → is_word w s ≡ b → is_word w s ≡ false
unfolding is_a_name
name_no w d s h true e =
    let named : is_name (folded s) ≡ true = (and_parts (same_kind s.kind k.Word) (is_name (folded s)) h).1 in
    let t = word_text w s e in
    let other : is_name (folded s) ≡ false = rw t d in
    absurd cc
name_no w d s h false e = e

-- a name is no reserved word
pub name_no_word : (w : List ℕ) → is_name w ≡ false → (s : Token) → is_a_name s ≡ true → is_word w s ≡ false
name_no_word w d s h = name_no w d s h (is_word w s) refl

-- ---- what one token that is found tells of a test

pub none_within : {X : Type 0} (last : X → Bool) → Within never last
none_within last s h = refl

pub finds_word : (w : List ℕ) → Finds (the_word w) (is_word w) true
finds_word w s a h = when_some (is_word w s) tt a h

pub finds_mark : (a : Kind) → Finds (the_mark a) (is_mark a) true
finds_mark a s v h = when_some (is_mark a s) tt v h

pub begins_word : {A : Type 0} (w : List ℕ) (then : Unit {0} → G A) → Begins (g.word w >>= then) (is_word w)
unfolding g.word
begins_word w then = begins_then (one (the_word w)) then (is_word w) (begins_one (the_word w) (is_word w) (finds_word w))

pub begins_mark : {A : Type 0} (a : Kind) (then : Unit {0} → G A) → Begins (g.mark a >>= then) (is_mark a)
unfolding g.mark
begins_mark a then = begins_then (one (the_mark a)) then (is_mark a) (begins_one (the_mark a) (is_mark a) (finds_mark a))

pub follows_word : {A : Type 0} (w : List ℕ) (then : Unit {0} → G A) (test last : Token → Bool) → Finds (the_word w) test false → Follows test (g.word w >>= then) last
unfolding g.word
follows_word w then test last h = follows_one_then (the_word w) then test last h

pub follows_mark : {A : Type 0} (a : Kind) (then : Unit {0} → G A) (test last : Token → Bool) → Finds (the_mark a) test false → Follows test (g.mark a >>= then) last
unfolding g.mark
follows_mark a then test last h = follows_one_then (the_mark a) then test last h

pub follows_name : {A : Type 0} (then : List ℕ → G A) (test last : Token → Bool) → Finds the_name test false → Follows test (g.name >>= then) last
unfolding g.name
follows_name then test last h = follows_one_then the_name then test last h

-- ---- one of some kinds or of some words

abbrev pub any_mark : List Kind → Token → Bool
any_mark [] s = false
any_mark (a ∷ marks) s = is_mark a s || any_mark marks s

abbrev pub any_word : List (List ℕ) → Token → Bool
any_word [] s = false
any_word (w ∷ words) s = is_word w s || any_word words s

unfoldable pub one_of : List Kind → List (List ℕ) → Token → Bool
one_of marks words s = any_mark marks s || any_word words s

abbrev pub has_kind : Kind → List Kind → Bool
has_kind a [] = false
has_kind a (b ∷ marks) = same_kind a b || has_kind a marks

abbrev pub has_word : List ℕ → List (List ℕ) → Bool
has_word w [] = false
has_word w (v ∷ words) = bytes_eq w v || has_word w words

-- a token of another kind, and no word
pub mark_no_marks : (a : Kind) (marks : List Kind) → has_kind a marks ≡ false → (s : Token) → s.kind ≡ a → any_mark marks s ≡ false
mark_no_marks a [] d s e = refl
mark_no_marks a (b ∷ marks) d s e =
    let p = or_false (same_kind a b) (has_kind a marks) d in
    rw (mark_other a b p.0 s e) (mark_no_marks a marks p.1 s e)

mark_no_words : (a : Kind) → same_kind a k.Word ≡ false → (words : List (List ℕ)) (s : Token) → s.kind ≡ a → any_word words s ≡ false
mark_no_words a n [] s e = refl
mark_no_words a n (w ∷ words) s e = rw (word_other_kind a n w s e) (mark_no_words a n words s e)

pub kind_not : (a : Kind) (marks : List Kind) (words : List (List ℕ)) → same_kind a k.Word ≡ false → has_kind a marks ≡ false →
    (s : Token) → s.kind ≡ a → one_of marks words s ≡ false
unfolding one_of
kind_not a marks words n d s e = rw (mark_no_marks a marks d s e) (mark_no_words a n words s e)

pub mark_apart : (a : Kind) (marks : List Kind) (words : List (List ℕ)) → same_kind a k.Word ≡ false → has_kind a marks ≡ false →
    (s : Token) → is_mark a s ≡ true → one_of marks words s ≡ false
mark_apart a marks words n d s h = kind_not a marks words n d s (mark_kind a s h)

pub mark_not : (a : Kind) (marks : List Kind) (words : List (List ℕ)) → same_kind a k.Word ≡ false → has_kind a marks ≡ false →
    Finds (the_mark a) (one_of marks words) false
mark_not a marks words n d s v h = mark_apart a marks words n d s (when_some (is_mark a s) tt v h)

-- another word
pub word_no_words : (w : List ℕ) (words : List (List ℕ)) → has_word w words ≡ false → (s : Token) → is_word w s ≡ true → any_word words s ≡ false
word_no_words w [] d s h = refl
word_no_words w (v ∷ words) d s h =
    let p = or_false (bytes_eq w v) (has_word w words) d in
    rw (word_other w v p.0 s h) (word_no_words w words p.1 s h)

pub word_apart : (w : List ℕ) (marks : List Kind) (words : List (List ℕ)) → has_kind k.Word marks ≡ false → has_word w words ≡ false →
    (s : Token) → is_word w s ≡ true → one_of marks words s ≡ false
unfolding one_of
word_apart w marks words n d s h = rw (mark_no_marks k.Word marks n s (word_kind w s h)) (word_no_words w words d s h)

pub word_not : (w : List ℕ) (marks : List Kind) (words : List (List ℕ)) → has_kind k.Word marks ≡ false → has_word w words ≡ false →
    Finds (the_word w) (one_of marks words) false
word_not w marks words n d s v h = word_apart w marks words n d s (when_some (is_word w s) tt v h)

-- a name, where all these words are reserved
names_no_words : (words : List (List ℕ)) → list_all (λ w. not (is_name w)) words ≡ true → (s : Token) → is_a_name s ≡ true → any_word words s ≡ false
names_no_words [] d s h = refl
names_no_words (w ∷ words) d s h =
    let p = and_parts (not (is_name w)) (list_all (λ v. not (is_name v)) words) d in
    rw (name_no_word w (not_true (is_name w) p.0) s h) (names_no_words words p.1 s h)
  where
    not_true : (b : Bool) → not b ≡ true → b ≡ false
    not_true true e = absurd cc
    not_true false e = refl

pub name_not : (marks : List Kind) (words : List (List ℕ)) → has_kind k.Word marks ≡ false → list_all (λ w. not (is_name w)) words ≡ true →
    Finds the_name (one_of marks words) false
unfolding one_of
name_not marks words n d s v h =
    let e = when_some (is_a_name s) (folded s) v h in
    rw (mark_no_marks k.Word marks n s (name_kind s e)) (names_no_words words d s e)

-- what is not one of many is not the one, and not one of fewer
mark_among : (a : Kind) (marks : List Kind) → has_kind a marks ≡ true → (s : Token) → any_mark marks s ≡ false → is_mark a s ≡ false
mark_among a [] d s h = absurd cc
mark_among a (b ∷ marks) d s h = go (same_kind a b) refl (λ among. mark_among a marks among s (or_false (is_mark b s) (any_mark marks s) h).1) where
  go : (same : Bool) → same_kind a b ≡ same → (has_kind a marks ≡ true → is_mark a s ≡ false) → is_mark a s ≡ false
  go true e others = ap (λ (c : Kind). is_mark c s) (kind_same a b e) ∙ (or_false (is_mark b s) (any_mark marks s) h).0
  go false e others = others (rw e at d)

word_among : (w : List ℕ) (words : List (List ℕ)) → has_word w words ≡ true → (s : Token) → any_word words s ≡ false → is_word w s ≡ false
word_among w [] d s h = absurd cc
word_among w (v ∷ words) d s h = go (bytes_eq w v) refl (λ among. word_among w words among s (or_false (is_word v s) (any_word words s) h).1) where
  go : (same : Bool) → bytes_eq w v ≡ same → (has_word w words ≡ true → is_word w s ≡ false) → is_word w s ≡ false
  go true e others = ap (λ (u : List ℕ). is_word u s) ((bytes_eq-Decides w v).0 e) ∙ (or_false (is_word v s) (any_word words s) h).0
  go false e others = others (rw e at d)

pub mark_within : (a : Kind) (marks : List Kind) (words : List (List ℕ)) → has_kind a marks ≡ true → Within (is_mark a) (one_of marks words)
unfolding one_of
mark_within a marks words d s h = mark_among a marks d s (or_false (any_mark marks s) (any_word words s) h).0

pub word_within : (w : List ℕ) (marks : List Kind) (words : List (List ℕ)) → has_word w words ≡ true → Within (is_word w) (one_of marks words)
unfolding one_of
word_within w marks words d s h = word_among w words d s (or_false (any_mark marks s) (any_word words s) h).1

marks_among : (few marks : List Kind) → list_all (λ a. has_kind a marks) few ≡ true → (s : Token) → any_mark marks s ≡ false → any_mark few s ≡ false
marks_among [] marks d s h = refl
marks_among (a ∷ few) marks d s h =
    let p = and_parts (has_kind a marks) (list_all (λ b. has_kind b marks) few) d in
    rw (mark_among a marks p.0 s h) (marks_among few marks p.1 s h)

words_among : (few words : List (List ℕ)) → list_all (λ w. has_word w words) few ≡ true → (s : Token) → any_word words s ≡ false → any_word few s ≡ false
words_among [] words d s h = refl
words_among (w ∷ few) words d s h =
    let p = and_parts (has_word w words) (list_all (λ v. has_word v words) few) d in
    rw (word_among w words p.0 s h) (words_among few words p.1 s h)

pub fewer_within : (few_marks marks : List Kind) (few_words words : List (List ℕ)) →
    list_all (λ a. has_kind a marks) few_marks ≡ true → list_all (λ w. has_word w words) few_words ≡ true →
    Within (one_of few_marks few_words) (one_of marks words)
unfolding one_of
fewer_within few_marks marks few_words words d e s h =
    let p = or_false (any_mark marks s) (any_word words s) h in
    rw (marks_among few_marks marks d s p.0) (words_among few_words words e s p.1)

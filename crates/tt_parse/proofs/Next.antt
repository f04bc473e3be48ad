-- Reading the next token.
use Rattle.std.proofs.Common.{◌≡◌, ℕ, Bool, true, false, List, [], ◌∷◌, map, Ok, Err, refl, sym, ap, ◌∙◌, rules}
use Rattle.std.specs.Prelude.{◌↔◌, IsTrue}
use Rattle.std.specs.Char.{to_ascii_lowercase}
use Rattle.std.specs.Str.{bytes_eq}
use Rattle.std.proofs.lemmas.Slice.Eq.{bytes_eq-Decides}
use denote.Enum.Bare.{false_same}
use Rattle.tt_parse.specs.contracts.kind.Kind.{the_type}
use Rattle.tt_parse.specs.Reader.{found, read_one, next_is}
use Rattle.tt_parse.specs.declared.kind.Kind.{Kind}
use Rattle.tt_parse.specs.declared.kind.Kind.TheVariants as k
use Rattle.tt_parse.specs.Tokens.{Token, same_kind}
use Rattle.tt_parse.specs.Cursor.{next_kind, next_bytes, past_next}
use Rattle.tt_parse.specs.Symbols.{when, is_mark, is_word, folded}
use Rattle.tt_parse.specs.Reading as read

-- what a token test finds in the bytes
pub one_no : {A : Type 0} (test : Token → Bool) (f : List ℕ → A) (ts : List Token) → next_is test ts ≡ false → read_one (λ s. when (test s) (f s.bytes)) ts ≡ Err ts
one_no test f [] h = refl
one_no {A} test f (s ∷ ts) h = ap (λ (b : Bool). found (when b (f s.bytes)) s ts) h

pub one_yes : {A : Type 0} (test : Token → Bool) (f : List ℕ → A) (ts : List Token) → next_is test ts ≡ true → read_one (λ s. when (test s) (f s.bytes)) ts ≡ Ok (f (next_bytes ts), past_next ts)
one_yes test f [] h = absurd cc
one_yes {A} test f (s ∷ ts) h = ap (λ (b : Bool). found (when b (f s.bytes)) s ts) h

pub kind_other : (a b : Kind) → (b ≡ a → ⊥) → same_kind a b ≡ false
unfolding same_kind
kind_other a b h = false_same the_type (search rules) a b (λ e. h (sym e))

pub sees_is : (kind : Kind) (ts : List Token) → (kind ≡ k.End → ⊥) → same_kind (next_kind ts) kind ≡ next_is (is_mark kind) ts
unfolding is_mark
sees_is kind [] h = kind_other k.End kind h
sees_is kind (s ∷ ts) h = refl

pub sees_other_is : (w : List ℕ) (ts : List Token) → same_kind (next_kind ts) k.Word ≡ false → next_is (is_word w) ts ≡ false
unfolding is_word
sees_other_is w [] h = refl
sees_other_is w (s ∷ ts) h = rw h refl

both_ways : (a b : Bool) → (a ≡ true → b ≡ true) → (b ≡ true → a ≡ true) → a ≡ b
both_ways true true f g = refl
both_ways true false f g = sym (f refl)
both_ways false true f g = g refl
both_ways false false f g = refl

pub sees_word_is : (w : List ℕ) (ts : List Token) (b : Bool) → map to_ascii_lowercase w ≡ w → same_kind (next_kind ts) k.Word ≡ true →
    (IsTrue b ↔ (map to_ascii_lowercase (next_bytes ts) ≡ map to_ascii_lowercase w)) → b ≡ next_is (is_word w) ts
unfolding is_word same_kind
sees_word_is w [] b l h t = absurd (let e : false ≡ true = h in cc)
sees_word_is w (s ∷ ts) b l h t = rw h (both_ways b (bytes_eq (folded s) w) (λ e. (bytes_eq-Decides (folded s) w).1 (t.0 e ∙ l)) (λ e. t.1 ((bytes_eq-Decides (folded s) w).0 e ∙ sym l)))

pub mark_no : (kind : Kind) (ts : List Token) → next_is (is_mark kind) ts ≡ false → read.mark kind ts ≡ Err ts
unfolding read.mark
mark_no kind ts h = one_no (is_mark kind) (λ _. tt) ts h

pub mark_yes : (kind : Kind) (ts : List Token) → next_is (is_mark kind) ts ≡ true → read.mark kind ts ≡ Ok (tt, past_next ts)
unfolding read.mark
mark_yes kind ts h = one_yes (is_mark kind) (λ _. tt) ts h

pub word_no : (w : List ℕ) (ts : List Token) → next_is (is_word w) ts ≡ false → read.word w ts ≡ Err ts
unfolding read.word
word_no w ts h = one_no (is_word w) (λ _. tt) ts h

pub word_yes : (w : List ℕ) (ts : List Token) → next_is (is_word w) ts ≡ true → read.word w ts ≡ Ok (tt, past_next ts)
unfolding read.word
word_yes w ts h = one_yes (is_word w) (λ _. tt) ts h

pub optional_no : (w : List ℕ) (ts : List Token) → next_is (is_word w) ts ≡ false → read.optional_word w ts ≡ Ok (false, ts)
unfolding read.optional_word
optional_no w ts h = rw h refl

pub optional_yes : (w : List ℕ) (ts : List Token) → next_is (is_word w) ts ≡ true → read.optional_word w ts ≡ Ok (true, past_next ts)
unfolding read.optional_word
optional_yes w ts h = rw (h, word_yes w ts h) refl

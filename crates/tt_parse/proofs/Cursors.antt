-- The tokens of a line, one at a time.
use Rattle.std.proofs.Common.{◌≡◌, ℕ, zero, suc, ◌+◌, ◌-◌, ◌<◌, ◌≤◌, min, Bool, true, false, List, [], ◌∷◌, length, get_or, take, drop, refl, sym, ap, subst, ◌∙◌, add-zero, one-add, rules, arith, inl, inr}
use Rattle.std.specs.List.{prefix_len}
use Rattle.std.proofs.lemmas.List.{take_all, drop-drop, length-drop, get_or-drop}
use Rattle.std.proofs.lemmas.List.Sums.{prefix_len_stops}
use Rattle.std.proofs.lemmas.Bool.{cases_lt}
use Rattle.std.proofs.Math.ListN.{drop_of_length-le}
use Rattle.tt_parse.specs.declared.kind.Kind.{Kind}
use Rattle.tt_parse.specs.declared.cursor.Lexeme.{Lexeme}
use denote.Enum.Bare.{same_true, false_same}
use Rattle.tt_parse.specs.contracts.kind.Kind.{the_type}
use Rattle.tt_parse.specs.declared.kind.Kind.TheVariants.{Unclosed, End}
use Rattle.tt_parse.specs.declared.tokens.Class.TheVariants.{Blank}
use Rattle.tt_parse.specs.Tokens.{same_kind, Token, tokens_from, first, is_in, past}
use Rattle.tt_parse.specs.Cursor.{behind, shown, token_of, next_kind, past_next, next_bytes, IsOffset}

tokens_of-drop : (n at : ℕ) (z : List ℕ) → n ≤ length z → tokens_from n at z ≡ tokens_from 0 (at + n) (drop n z)
unfolding tokens_from
tokens_of-drop zero at z h = ap (λ a. tokens_from 0 a z) (sym (add-zero at))
tokens_of-drop (suc n) at [] h = absurd (omega arith)
tokens_of-drop (suc n) at (b ∷ z) h =
    let e : (at + 1) + n ≡ at + suc n = omega arith in
    tokens_of-drop n (at + 1) z (omega arith) ∙ ap (λ a. tokens_from 0 a (drop n z)) e

unfoldable pub unclosed : ℕ → List Token
unclosed at = record { at = at; kind = Unclosed; bytes = [] } ∷ []

tokens_of-short : (n at : ℕ) (z : List ℕ) → length z < n → tokens_from n at z ≡ unclosed (at + length z)
unfolding tokens_from unclosed
tokens_of-short zero at z h = absurd (omega arith)
tokens_of-short (suc n) at [] h = ap (λ a. unclosed a) (sym (add-zero at))
tokens_of-short (suc n) at (b ∷ z) h =
    let e : (at + 1) + length z ≡ at + suc (length z) = omega arith in
    tokens_of-short n (at + 1) z (omega arith) ∙ ap (λ a. unclosed a) e

tokens_of-token : (at : ℕ) (z : List ℕ) → 0 < length z → is_in Blank (get_or z 0 0) ≡ false → tokens_from 0 at z ≡ record { at = at; kind = (first z).0; bytes = take (first z).1 z } ∷ tokens_from ((first z).1 - 1) (at + 1) (drop 1 z)
unfolding tokens_from
tokens_of-token at [] h e = absurd (omega arith)
tokens_of-token at (b ∷ z) h e = rw e refl

blanks_step : (at b : ℕ) (z : List ℕ) → tokens_from 0 (at + 1) z ≡ tokens_from 0 ((at + 1) + prefix_len (is_in Blank) z) (drop (prefix_len (is_in Blank) z) z) →
    (t : Bool) → is_in Blank b ≡ t → tokens_from 0 at (b ∷ z) ≡ tokens_from 0 (at + prefix_len (is_in Blank) (b ∷ z)) (drop (prefix_len (is_in Blank) (b ∷ z)) (b ∷ z))
unfolding tokens_from
blanks_step at b z ih true e =
    let p = prefix_len (is_in Blank) z in
    let a : (at + 1) + p ≡ at + (1 + p) = omega arith in
    let d : drop p z ≡ drop (1 + p) (b ∷ z) = rw one-add refl in
    rw e (ih ∙ ap (λ x. tokens_from 0 x (drop p z)) a ∙ ap (λ y. tokens_from 0 (at + (1 + p)) y) d)
blanks_step at b z ih false e = rw e (rw e (rw (add-zero at) refl))

tokens_of-blanks : (at : ℕ) (z : List ℕ) → tokens_from 0 at z ≡ tokens_from 0 (at + prefix_len (is_in Blank) z) (drop (prefix_len (is_in Blank) z) z)
unfolding tokens_from
tokens_of-blanks at [] = refl
tokens_of-blanks at (b ∷ z) = blanks_step at b z (tokens_of-blanks (at + 1) z) (is_in Blank b) refl

pub behind-at : (line : List ℕ) (from : ℕ) → from ≤ length line → behind line from ≡ tokens_from 0 from (drop from line)
unfolding behind
behind-at line from h =
    let a : from - length line ≡ 0 = omega arith in
    let b : min from (length line) ≡ from = omega arith in
    rw (a, b) refl

pub behind-short : (line : List ℕ) (from : ℕ) → length line < from → behind line from ≡ unclosed (length line)
unfolding behind
behind-short line from h =
    let b : min from (length line) ≡ length line = omega arith in
    let d : drop from line ≡ [] = drop_of_length-le line (omega arith) in
    rw (b, d) (tokens_of-short (from - length line) (length line) [] (omega arith) ∙ ap (λ a. unclosed a) (add-zero (length line)))

pub behind-rest : (line : List ℕ) (at n : ℕ) → at < length line → 1 ≤ n → n ≤ length line - at + 1 → tokens_from (n - 1) (at + 1) (drop 1 (drop at line)) ≡ behind line (at + n)
behind-rest line at n h some fits =
    elim (cases_lt (length line) (at + n)) [
      | inl long ↦
          (let l : length (drop 1 (drop at line)) ≡ length line - at - 1 = omega (arith, length-drop 1 (drop at line), length-drop at line) in
          let e : (at + 1) + length (drop 1 (drop at line)) ≡ length line = omega arith in
          tokens_of-short (n - 1) (at + 1) (drop 1 (drop at line)) (omega arith) ∙ ap (λ a. unclosed a) e ∙ sym (behind-short line (at + n) long))
      | inr inside ↦
          (let l : length (drop 1 (drop at line)) ≡ length line - at - 1 = omega (arith, length-drop 1 (drop at line), length-drop at line) in
          let e : (at + 1) + (n - 1) ≡ at + n = omega arith in
          let d : drop (n - 1) (drop 1 (drop at line)) ≡ drop (at + n) line =
          drop-drop (n - 1) 1 (drop at line) ∙ drop-drop (1 + (n - 1)) at line ∙ ap (λ m. drop m line) (let f : at + (1 + (n - 1)) ≡ at + n = omega arith in f) in
          tokens_of-drop (n - 1) (at + 1) (drop 1 (drop at line)) (omega arith) ∙ ap (λ a. tokens_from 0 a (drop (n - 1) (drop 1 (drop at line)))) e
          ∙ ap (λ z. tokens_from 0 (at + n) z) d ∙ sym (behind-at line (at + n) inside))
    ]

-- from an offset within the line: past the blanks
pub behind-blanks : (line : List ℕ) (from at : ℕ) → from ≤ length line → at ≡ past Blank line from → behind line from ≡ tokens_from 0 at (drop at line)
behind-blanks line from at h e =
    behind-at line from h ∙ tokens_of-blanks from (drop from line)
    ∙ ap (λ z. tokens_from 0 (from + prefix_len (is_in Blank) (drop from line)) z) (drop-drop (prefix_len (is_in Blank) (drop from line)) from line)
    ∙ ap (λ a. tokens_from 0 a (drop a line)) (sym e)

pub behind-end : (line : List ℕ) (from at : ℕ) → from ≤ length line → at ≡ past Blank line from → at ≡ length line → behind line from ≡ []
unfolding tokens_from
behind-end line from at h e end = behind-blanks line from at h e ∙ rw (drop_of_length-le line {i = at} (omega arith)) refl

pub behind-token : (line : List ℕ) (from at : ℕ) → from ≤ length line → at ≡ past Blank line from → at < length line → 1 ≤ (first (drop at line)).1 → (first (drop at line)).1 ≤ length (drop at line) + 1 →
    behind line from ≡ record { at = at; kind = (first (drop at line)).0; bytes = take (first (drop at line)).1 (drop at line) } ∷ behind line (at + (first (drop at line)).1)
behind-token line from at h e inside some fits =
    let p = prefix_len (is_in Blank) (drop from line) in
    let stop : is_in Blank (get_or (drop from line) p 0) ≡ false = prefix_len_stops (is_in Blank) (drop from line) 0 (omega (arith, length-drop from line)) in
    let here : get_or (drop at line) 0 0 ≡ get_or (drop from line) p 0 = rw (get_or-drop at line 0 0, get_or-drop from line p 0) (ap (λ a. get_or line a 0) (let f : at + 0 ≡ from + p = omega arith in f)) in
    let blank : is_in Blank (get_or (drop at line) 0 0) ≡ false = ap (λ b. is_in Blank b) here ∙ stop in
    behind-blanks line from at h e
    ∙ tokens_of-token at (drop at line) (omega (arith, length-drop at line)) blank
    ∙ ap (λ ts. record { at = at; kind = (first (drop at line)).0; bytes = take (first (drop at line)).1 (drop at line) } ∷ ts)
    (behind-rest line at (first (drop at line)).1 inside some (omega (arith, length-drop at line)))

-- ---- what a cursor shows

pub kind_same : (a b : Kind) → same_kind a b ≡ true → a ≡ b
unfolding same_kind
kind_same a b h = same_true the_type (search rules) a b h

pub shown-end : (line : List ℕ) (c : Lexeme) → c.kind ≡ End → shown line c ≡ []
unfolding shown same_kind
shown-end line c e = rw e refl

pub shown-token : (line : List ℕ) (c : Lexeme) → same_kind c.kind End ≡ false → shown line c ≡ token_of line c ∷ behind line c.end
unfolding shown
shown-token line c h = rw h refl

not_end : same_kind Unclosed End ≡ false
unfolding same_kind
not_end = refl

pub shown-unclosed : (line : List ℕ) → shown line (record { at = length line; kind = Unclosed; end = length line }) ≡ unclosed (length line)
unfolding unclosed
shown-unclosed line =
    let b : length line - length line ≡ 0 = omega arith in
    let e : behind line (length line) ≡ [] = behind-end line (length line) (length line) (omega arith) (rw (drop_of_length-le line {i = length line} (omega arith)) (sym (add-zero (length line)))) refl in
    shown-token line (record { at = length line; kind = Unclosed; end = length line }) not_end ∙ rw (b, e) refl

pub next_kind-shown : (line : List ℕ) (c : Lexeme) → next_kind (shown line c) ≡ c.kind
next_kind-shown line c = go (same_kind c.kind End) refl where
  go : (b : Bool) → same_kind c.kind End ≡ b → next_kind (shown line c) ≡ c.kind
  go true h = let e = kind_same c.kind End h in rw (shown-end line c e) (sym e)
  go false h = rw (shown-token line c h) refl

pub past_next-shown : (line : List ℕ) (c : Lexeme) → (c.kind ≡ End → c.end ≡ length line) → past_next (shown line c) ≡ behind line c.end
past_next-shown line c ends = go (same_kind c.kind End) refl where
  go : (b : Bool) → same_kind c.kind End ≡ b → past_next (shown line c) ≡ behind line c.end
  go true h =
      let e = kind_same c.kind End h in
      rw (shown-end line c e) (sym (behind-end line c.end c.end (omega (arith, ends e)) (rw (drop_of_length-le line {i = c.end} (omega (arith, ends e))) (sym (add-zero c.end))) (ends e)))
  go false h = rw (shown-token line c h) refl

pub next_bytes-shown : (line : List ℕ) (c : Lexeme) → (c.kind ≡ End → c.end ≡ length line) → (c.kind ≡ End → c.at ≡ length line) → next_bytes (shown line c) ≡ take (c.end - c.at) (drop c.at line)
next_bytes-shown line c ends at = go (same_kind c.kind End) refl where
  go : (b : Bool) → same_kind c.kind End ≡ b → next_bytes (shown line c) ≡ take (c.end - c.at) (drop c.at line)
  go true h =
      let e = kind_same c.kind End h in
      let z : c.end - c.at ≡ 0 = omega (arith, ends e, at e) in
      rw (shown-end line c e, z) refl
  go false h = rw (shown-token line c h) refl

pub not_same : (a : Kind) → (a ≡ End → ⊥) → same_kind a End ≡ false
unfolding same_kind
not_same a h = false_same the_type (search rules) a End h

pub take-min : (line : List ℕ) (at e : ℕ) → take (min e (length line) - at) (drop at line) ≡ take (e - at) (drop at line)
take-min line at e = elim (cases_lt e (length line)) [
  | inl below ↦ (let m : min e (length line) ≡ e = omega arith in rw m refl)
  | inr above ↦
      (let m : min e (length line) ≡ length line = omega arith in
      rw (m, take_all (length line - at) (drop at line) (omega (arith, length-drop at line)), take_all (e - at) (drop at line) (omega (arith, length-drop at line))) refl)
]

pub shown-behind : (line : List ℕ) (from at : ℕ) (t : Kind × ℕ) → from ≤ length line → at ≡ past Blank line from → at < length line → t ≡ first (drop at line) →
    1 ≤ t.1 → t.1 ≤ length (drop at line) + 1 → (t.0 ≡ End → ⊥) → shown line (record { at = at; kind = t.0; end = at + t.1 }) ≡ behind line from
shown-behind line from at t h e inside is some fits kind =
    let n : at + t.1 - at ≡ t.1 = omega arith in
    let len : t.1 ≡ (first (drop at line)).1 = ap (λ (x : Kind × ℕ). x.1) is in
    shown-token line (record { at = at; kind = t.0; end = at + t.1 }) (not_same t.0 kind)
    ∙ ap (λ m. record { at = at; kind = t.0; bytes = take m (drop at line) } ∷ behind line (at + t.1)) n
    ∙ ap (λ (x : Kind × ℕ). record { at = at; kind = x.0; bytes = take x.1 (drop at line) } ∷ behind line (at + x.1)) is
    ∙ sym (behind-token line from at h e inside (omega arith) (omega arith))

pub offset-shown : (line : List ℕ) (c : Lexeme) → IsOffset (shown line c) c.at
offset-shown line c = go (same_kind c.kind End) refl where
  go : (b : Bool) → same_kind c.kind End ≡ b → IsOffset (shown line c) c.at
  go true h = subst (λ (ts : List Token). IsOffset ts c.at) (sym (shown-end line c (kind_same c.kind End h))) tt
  go false h = subst (λ (ts : List Token). IsOffset ts c.at) (sym (shown-token line c h)) refl

pub next_kind-end : (line : List ℕ) (c : Lexeme) → same_kind c.kind End ≡ true → shown line c ≡ []
next_kind-end line c h = shown-end line c (kind_same c.kind End h)

pub shown-nil : (line : List ℕ) (c : Lexeme) → shown line c ≡ [] → same_kind c.kind End ≡ true
shown-nil line c h = go (same_kind c.kind End) refl where
  go : (b : Bool) → same_kind c.kind End ≡ b → same_kind c.kind End ≡ true
  go true e = e
  go false e = let p : token_of line c ∷ behind line c.end ≡ [] = sym (shown-token line c e) ∙ h in absurd cc

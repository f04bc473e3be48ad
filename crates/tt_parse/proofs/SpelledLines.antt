-- The spelling of a command that a line gives is a line that gives it.
use Rattle.std.proofs.Common.{◌≡◌, ℕ, zero, suc, ◌+◌, ◌-◌, ◌<◌, ◌≤◌, Bool, true, false, not, ◌&&◌, List, [], ◌∷◌, ◌++◌, length, take, drop, get_or, refl, sym, ap, subst, ◌∙◌, arith, inr, eq-eqb, length-drop, drop-cons}
use Rattle.std.specs.Prelude.{◌==◌, slice_index, IsUtf8, if◌then◌else◌}
use Rattle.std.specs.List.{prefix_len}
use Rattle.std.proofs.lemmas.Bool.{and_parts}
use Rattle.std.proofs.lemmas.Bool.Decides.{Decides-eqb}
use Rattle.std.proofs.lemmas.List.Sums.{prefix_len-le-length}
use Rattle.std.proofs.lemmas.List.{length-take-le}
use Rattle.tt_parse.specs.declared.command.Command.{Command}
use Rattle.tt_parse.specs.declared.kind.Kind.{Kind}
use Rattle.tt_parse.specs.declared.kind.Kind.TheVariants as k
use Rattle.tt_parse.specs.declared.tokens.Class.TheVariants as class
use Rattle.tt_parse.specs.Tokens.{same_kind, Token, is_in, past, number_len, text_rest, first, less, greater, single, tokens_from, tokens_of}
use Rattle.tt_parse.specs.Script as g
use Rattle.tt_parse.specs.Symbols.{undoubled, inside, has_dot, decimals, whole_len}
use Rattle.tt_parse.specs.Parse.{IsGiven}
use Rattle.tt_parse.specs.Spelling.{pieces, spelling, joined}
use Rattle.tt_parse.proofs.Exact.{append-[]}
use Rattle.tt_parse.proofs.TokenTests.{kind_is}
use Rattle.tt_parse.proofs.Texts.{text_utf8}
use Rattle.tt_parse.proofs.Pieces.{Fine, FineToken, Spells, fine_front, fine_back}
use Rattle.tt_parse.proofs.Cutting.{shows_joined, utf8_joined}
use Rattle.tt_parse.proofs.SpelledCommands.{respell_command}

-- ---- the kinds of tokens

pick : {A : Type 0} (P : A → Type 0) (b : Bool) (x y : A) → (b ≡ true → P x) → (b ≡ false → P y) → P (if b then x else y)
pick P true x y f h = f refl
pick P false x y f h = h refl

abbrev IsPlain : Kind × ℕ → Type 0
IsPlain p = (p.0 ≡ k.Text → ⊥) × (p.0 ≡ k.Number → ⊥)

abbrev IsPlainKind : Kind → Type 0
IsPlainKind a = (a ≡ k.Text → ⊥) × (a ≡ k.Number → ⊥)

plain_mark : (a : Kind) → same_kind a k.Text ≡ false → same_kind a k.Number ≡ false → IsPlainKind a
plain_mark a t n = (
  λ e. absurd (let f : true ≡ false = sym (kind_is a k.Text e) ∙ t in cc),
  λ e. absurd (let f : true ≡ false = sym (kind_is a k.Number e) ∙ n in cc),
)

less_plain : (n : ℕ) → IsPlain (less n)
unfolding same_kind
less_plain n =
    pick IsPlain (n == 61) (k.LessEqual, 2) (if n == 62 then (k.NotEqual, 2) else (k.Less, 1)) (λ d. plain_mark k.LessEqual refl refl)
    (λ d. pick IsPlain (n == 62) (k.NotEqual, 2) (k.Less, 1) (λ f. plain_mark k.NotEqual refl refl) (λ f. plain_mark k.Less refl refl))

greater_plain : (n : ℕ) → IsPlain (greater n)
unfolding same_kind
greater_plain n = pick IsPlain (n == 61) (k.GreaterEqual, 2) (k.Greater, 1) (λ d. plain_mark k.GreaterEqual refl refl) (λ d. plain_mark k.Greater refl refl)

single_plain : (b : ℕ) → IsPlainKind (single b)
unfolding same_kind
single_plain b =
    pick IsPlainKind (b == 64) k.At (if b == 40 then k.Open else (if b == 41 then k.Close else (if b == 44 then k.Comma else (if b == 59 then k.Semicolon else (if b == 42 then k.Star else (if b == 61 then k.Equal else (if b == 43 then k.Plus else (if b == 45 then k.Minus else (k.Other))))))))) (λ d. plain_mark k.At refl refl) (λ d. pick IsPlainKind (b == 40) k.Open (if b == 41 then k.Close else (if b == 44 then k.Comma else (if b == 59 then k.Semicolon else (if b == 42 then k.Star else (if b == 61 then k.Equal else (if b == 43 then k.Plus else (if b == 45 then k.Minus else (k.Other)))))))) (λ d. plain_mark k.Open refl refl) (λ d. pick IsPlainKind (b == 41) k.Close (if b == 44 then k.Comma else (if b == 59 then k.Semicolon else (if b == 42 then k.Star else (if b == 61 then k.Equal else (if b == 43 then k.Plus else (if b == 45 then k.Minus else (k.Other))))))) (λ d. plain_mark k.Close refl refl) (λ d. pick IsPlainKind (b == 44) k.Comma (if b == 59 then k.Semicolon else (if b == 42 then k.Star else (if b == 61 then k.Equal else (if b == 43 then k.Plus else (if b == 45 then k.Minus else (k.Other)))))) (λ d. plain_mark k.Comma refl refl) (λ d. pick IsPlainKind (b == 59) k.Semicolon (if b == 42 then k.Star else (if b == 61 then k.Equal else (if b == 43 then k.Plus else (if b == 45 then k.Minus else (k.Other))))) (λ d. plain_mark k.Semicolon refl refl) (λ d. pick IsPlainKind (b == 42) k.Star (if b == 61 then k.Equal else (if b == 43 then k.Plus else (if b == 45 then k.Minus else (k.Other)))) (λ d. plain_mark k.Star refl refl) (λ d. pick IsPlainKind (b == 61) k.Equal (if b == 43 then k.Plus else (if b == 45 then k.Minus else (k.Other))) (λ d. plain_mark k.Equal refl refl) (λ d. pick IsPlainKind (b == 43) k.Plus (if b == 45 then k.Minus else (k.Other)) (λ d. plain_mark k.Plus refl refl) (λ d. pick IsPlainKind (b == 45) k.Minus (k.Other) (λ d. plain_mark k.Minus refl refl) (λ d. plain_mark k.Other refl refl)))))))))

-- what a text and a number at the front are
abbrev Told : ℕ → List ℕ → Kind × ℕ → Type 0
Told b z p = (p.0 ≡ k.Text → (b ≡ 39) × (p.1 ≡ 1 + text_rest false z)) × (p.0 ≡ k.Number → p.1 ≡ number_len (b ∷ z))

told_plain : (b : ℕ) (z : List ℕ) (p : Kind × ℕ) → IsPlain p → Told b z p
told_plain b z p h = (λ e. absurd (h.0 e), λ e. absurd (h.1 e))

number_no_text : k.Number ≡ k.Text → ⊥
number_no_text e = cc

text_no_number : k.Text ≡ k.Number → ⊥
text_no_number e = cc

told : (b : ℕ) (z : List ℕ) → Told b z (first (b ∷ z))
unfolding first same_kind
told b z =
    let y : List ℕ = b ∷ z in
    let other : Kind × ℕ = (single b, past class.Continuation y 1) in
    let from_greater : Kind × ℕ = if b == 62 then greater (slice_index y 1) else other in
    let from_less : Kind × ℕ = if b == 60 then less (slice_index y 1) else from_greater in
    let from_text : Kind × ℕ = if b == 39 then (k.Text, 1 + text_rest false z) else from_less in
    let from_word : Kind × ℕ = if is_in class.Word b then (k.Word, past class.Word y 0) else from_text in
    pick (Told b z) (is_in class.Digit b) (k.Number, number_len y) from_word (λ d. (λ e. absurd (number_no_text e), λ e. refl)) (λ d.
    pick (Told b z) (is_in class.Word b) (k.Word, past class.Word y 0) from_text (λ w. told_plain b z (k.Word, past class.Word y 0) (plain_mark k.Word refl refl)) (λ w.
    pick (Told b z) (b == 39) (k.Text, 1 + text_rest false z) from_less (λ q. (λ e. ((Decides-eqb b 39).0 q, refl), λ e. absurd (text_no_number e))) (λ q.
    pick (Told b z) (b == 60) (less (slice_index y 1)) from_greater (λ l. told_plain b z (less (slice_index y 1)) (less_plain (slice_index y 1))) (λ l.
    pick (Told b z) (b == 62) (greater (slice_index y 1)) other (λ f. told_plain b z (greater (slice_index y 1)) (greater_plain (slice_index y 1))) (λ f.
    told_plain b z other (single_plain b))))))

-- ---- numbers of a line

prefix_within : (p : ℕ → Bool) (n : ℕ) (y : List ℕ) → prefix_len p (take n y) ≤ prefix_len p y
prefix_within p zero y = omega arith
prefix_within p (suc n) [] = omega arith
prefix_within p (suc n) (b ∷ y) = go (p b) refl (prefix_within p n y) where
  go : (q : Bool) → p b ≡ q → prefix_len p (take n y) ≤ prefix_len p y → prefix_len p (take (suc n) (b ∷ y)) ≤ prefix_len p (b ∷ y)
  go true e h = rw e (omega arith)
  go false e h = rw e (omega arith)

prefix_whole : (p : ℕ → Bool) (y : List ℕ) → prefix_len p (take (prefix_len p y) y) ≡ length (take (prefix_len p y) y)
prefix_whole p [] = refl
prefix_whole p (b ∷ y) = go (p b) refl (prefix_whole p y) where
  go : (q : Bool) → p b ≡ q → prefix_len p (take (prefix_len p y) y) ≡ length (take (prefix_len p y) y) →
      prefix_len p (take (prefix_len p (b ∷ y)) (b ∷ y)) ≡ length (take (prefix_len p (b ∷ y)) (b ∷ y))
  go true e h =
      let n : prefix_len p (b ∷ y) ≡ suc (prefix_len p y) = rw e (omega arith) in
      rw n (rw e (omega (arith, h)))
  go false e h = let n : prefix_len p (b ∷ y) ≡ 0 = rw e refl in rw n refl

prefix_some : (p : ℕ → Bool) (y : List ℕ) → p 0 ≡ false → p (slice_index y 0) ≡ true → 1 ≤ prefix_len p y
prefix_some p [] n h = absurd (let e : true ≡ false = sym h ∙ n in cc)
prefix_some p (b ∷ y) n h = rw h (omega arith)

no_dot : (y : List ℕ) → has_dot (take (past class.Digit y 0) y) ≡ false
no_dot y =
    let n : past class.Digit y 0 ≡ prefix_len (is_in class.Digit) y = omega arith in
    let e = prefix_whole (is_in class.Digit) y in
    let f : whole_len (take (prefix_len (is_in class.Digit) y) y) ≡ length (take (prefix_len (is_in class.Digit) y) y) = omega (arith, e) in
    rw n (rw f (ap not (eq-eqb (length (take (prefix_len (is_in class.Digit) y) y)) (length (take (prefix_len (is_in class.Digit) y) y)) refl)))

digit_within : (y : List ℕ) (i : ℕ) → is_in class.Digit (slice_index y i) ≡ true → i < length y
digit_within [] i h = absurd (let e : false ≡ true = h in cc)
digit_within (b ∷ y) zero h = omega arith
digit_within (b ∷ y) (suc i) h = omega (arith, digit_within y i h)

some_decimals : (y : List ℕ) (w : ℕ) → w ≡ past class.Digit y 0 → is_in class.Digit (slice_index y (w + 1)) ≡ true → 1 ≤ decimals (take (past class.Digit y (w + 1)) y)
some_decimals y w e h =
    let n = past class.Digit y (w + 1) in
    let inside : w + 1 < length y = digit_within y (w + 1) h in
    let here : slice_index (drop (w + 1) y) 0 ≡ slice_index y (w + 1) = ap (λ (x : List ℕ). slice_index x 0) (drop-cons y (w + 1) 0 inside) in
    let some : 1 ≤ prefix_len (is_in class.Digit) (drop (w + 1) y) = prefix_some (is_in class.Digit) (drop (w + 1) y) refl (ap (is_in class.Digit) here ∙ h) in
    let fits = prefix_len-le-length (is_in class.Digit) (drop (w + 1) y) in
    let front = prefix_within (is_in class.Digit) n y in
    let long : length (take n y) ≡ n = length-take-le n y (omega (arith, length-drop (w + 1) y)) in
    omega arith

number_fine : (y : List ℕ) → has_dot (take (number_len y) y) ≡ true → 1 ≤ decimals (take (number_len y) y)
number_fine y =
    pick (λ (n : ℕ). has_dot (take n y) ≡ true → 1 ≤ decimals (take n y)) (slice_index y (past class.Digit y 0) == 46 && is_in class.Digit (slice_index y (past class.Digit y 0 + 1)))
    (past class.Digit y (past class.Digit y 0 + 1)) (past class.Digit y 0)
    (λ d h. some_decimals y (past class.Digit y 0) refl (and_parts (slice_index y (past class.Digit y 0) == 46) (is_in class.Digit (slice_index y (past class.Digit y 0 + 1))) d).1)
    (λ d h. absurd (let e : true ≡ false = sym h ∙ no_dot y in cc))

-- ---- tokens of a line

module _ (line : List ℕ) (utf8 : IsUtf8 line) where
  fine_token : (at b : ℕ) (z : List ℕ) → b ∷ z ≡ drop at line → FineToken (record { at = at; kind = (first (b ∷ z)).0; bytes = take (first (b ∷ z)).1 (b ∷ z) })
  fine_token at b z e =
      let t = told b z in
      record {
        text = λ h. fine_text (t.0 h).0 (t.0 h).1;
        number = λ h. subst (λ (n : ℕ). has_dot (take n (b ∷ z)) ≡ true → 1 ≤ decimals (take n (b ∷ z))) (sym (t.1 h)) (number_fine (b ∷ z));
      }
    where
      inside_line : at < length line
      inside_line = omega (arith, ap length e, length-drop at line)

      behind : drop (at + 1) line ≡ z
      behind = let p : b ∷ z ≡ get_or line at 0 ∷ drop (suc at) line = e ∙ drop-cons line at 0 inside_line in
          let n : at + 1 ≡ suc at = omega arith in
          let q : z ≡ drop (suc at) line = cc in
          rw n (sym q)

      here : slice_index line at ≡ b
      here = let p : b ∷ z ≡ get_or line at 0 ∷ drop (suc at) line = e ∙ drop-cons line at 0 inside_line in cc

      fine_text : b ≡ 39 → (first (b ∷ z)).1 ≡ 1 + text_rest false z → IsUtf8 (undoubled false (inside (take (first (b ∷ z)).1 (b ∷ z))))
      fine_text quote n =
          let end = at + (1 + text_rest false z) in
          let long : end - at ≡ (first (b ∷ z)).1 = omega arith in
          let at_end : end ≡ at + 1 + text_rest false (drop (at + 1) line) = omega (arith, ap (text_rest false) behind) in
          let u : IsUtf8 (undoubled false (inside (take (end - at) (drop at line)))) = text_utf8 line at end utf8 inside_line (here ∙ quote) at_end in
          let v : IsUtf8 (undoubled false (inside (take (end - at) (b ∷ z)))) = subst (λ (x : List ℕ). IsUtf8 (undoubled false (inside (take (end - at) x)))) (sym e) u in
          subst (λ (m : ℕ). IsUtf8 (undoubled false (inside (take m (b ∷ z))))) long v

  behind_one : (at b : ℕ) (z : List ℕ) → b ∷ z ≡ drop at line → z ≡ drop (at + 1) line
  behind_one at b z e =
      let within : at < length line = omega (arith, ap length e, length-drop at line) in
      let p : b ∷ z ≡ get_or line at 0 ∷ drop (suc at) line = e ∙ drop-cons line at 0 within in
      let n : at + 1 ≡ suc at = omega arith in
      let q : z ≡ drop (suc at) line = cc in
      rw n q

  fine_tokens : (left at : ℕ) (z : List ℕ) → z ≡ drop at line → Fine (tokens_from left at z)
  unfolding tokens_from
  fine_tokens zero at [] e = tt
  fine_tokens (suc left) at [] e = (record { text = λ h. absurd cc; number = λ h. absurd cc }, tt)
  fine_tokens (suc left) at (b ∷ z) e = fine_tokens left (at + 1) z (behind_one at b z e)
  fine_tokens zero at (b ∷ z) e =
      let more = behind_one at b z e in
      pick Fine (is_in class.Blank b) (tokens_from zero (at + 1) z)
      (record { at = at; kind = (first (b ∷ z)).0; bytes = take (first (b ∷ z)).1 (b ∷ z) } ∷ tokens_from ((first (b ∷ z)).1 - 1) (at + 1) z) (λ h. fine_tokens zero (at + 1) z more) (λ h. (fine_token at b z e, fine_tokens ((first (b ∷ z)).1 - 1) (at + 1) z more))

-- ---- the whole line

command_given : (line : List ℕ) (session : ℕ) (command : Command) → IsUtf8 line → g.line (tokens_of line) (session, command) → Spells g.command (pieces command) command
unfolding g.line g.body
command_given line session command utf8 h =
    let fine : Fine (h.0 ++ h.1) = subst Fine h.3 (fine_tokens line utf8 0 0 line refl) in
    let rest = h.5 in
    let fine_rest : Fine (rest.0 ++ rest.1) = subst Fine rest.3 (fine_back h.0 h.1 fine) in
    let body = rest.4 in
    let fine_body : Fine (body.0 ++ body.1) = subst Fine body.3 (fine_front rest.0 rest.1 fine_rest) in
    let x = respell_command body.0 body.2 (fine_front body.0 body.1 fine_body) body.4 in
    let same : command ≡ body.2 = ap (λ (p : ℕ × Command). p.1) rest.5.1 ∙ body.5.5.1 in
    subst (λ (y : Command). Spells g.command (pieces y) y) (sym same) x

line_of : (ts : List Token) (command : Command) → g.command ts command → g.line ts (1, command)
unfolding g.line g.body g.session g.semicolon
line_of ts command h =
    ([], ts, 1, refl, inr (refl, refl), (ts, [], command, sym (append-[] ts), (ts, [], command, sym (append-[] ts), h, ([], [], tt, refl, inr (refl, refl), (refl, refl))), (refl, refl)))

pub spelling_back : (command : Command) → IsGiven command → g.line (tokens_of (spelling command)) (1, command)
unfolding spelling
spelling_back command h =
    let x = command_given h.0 h.1 command h.2 h.3 in
    line_of (tokens_of (joined true (pieces command))) command (x.fits (tokens_of (joined true (pieces command))) (shows_joined (pieces command) x.cut true 0))

pub spelling_utf8 : (command : Command) → IsGiven command → IsUtf8 (spelling command)
unfolding spelling
spelling_utf8 command h =
    let x = command_given h.0 h.1 command h.2 h.3 in
    utf8_joined (pieces command) x.cut true

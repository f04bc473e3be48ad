-- Lines that are skipped.
use Rattle.std.proofs.Common.{◌≡◌, ℕ, suc, ◌+◌, ◌<◌, ◌≤◌, Bool, true, false, not, ◌&&◌, cond, List, [], ◌∷◌, length, get_or, drop, refl, sym, ap, ◌∙◌, one-add, arith}
use Rattle.std.specs.Prelude.{◌==◌}
use Rattle.std.specs.List.{filter, prefix_len}
use Rattle.std.proofs.lemmas.List.{drop-drop, length-drop, get_or-drop}
use Rattle.std.proofs.lemmas.List.Sums.{prefix_len_stops}
use Rattle.std.proofs.Math.Seq.{drop-cons}
use Rattle.std.proofs.Math.ListN.{drop_of_length-le}
use Rattle.tt_parse.specs.declared.tokens.Class.TheVariants.{Blank}
use Rattle.tt_parse.specs.Tokens.{is_in, past}
use Rattle.tt_parse.specs.Parse.{is_comment, is_skipped}

abbrev pub others : List ℕ → List ℕ
others z = filter (λ b. not (is_in Blank b)) z

others_step : (b : ℕ) (z : List ℕ) → others z ≡ others (drop (prefix_len (is_in Blank) z) z) → (t : Bool) → is_in Blank b ≡ t → others (b ∷ z) ≡ others (drop (prefix_len (is_in Blank) (b ∷ z)) (b ∷ z))
others_step b z ih true e =
    let d : drop (prefix_len (is_in Blank) z) z ≡ drop (1 + prefix_len (is_in Blank) z) (b ∷ z) = rw one-add refl in
    rw e (ih ∙ ap others d)
others_step b z ih false e = ap others (let d : b ∷ z ≡ drop (prefix_len (is_in Blank) (b ∷ z)) (b ∷ z) = rw e refl in d)

others_blanks : (z : List ℕ) → others z ≡ others (drop (prefix_len (is_in Blank) z) z)
others_blanks [] = refl
others_blanks (b ∷ z) = others_step b z (others_blanks z) (is_in Blank b) refl

pub others_past : (z : List ℕ) (at : ℕ) → others (drop at z) ≡ others (drop (past Blank z at) z)
others_past z at = others_blanks (drop at z) ∙ ap others (drop-drop (prefix_len (is_in Blank) (drop at z)) at z)

pub others_here : (z : List ℕ) (at : ℕ) → at < length z → is_in Blank (get_or z at 0) ≡ false → others (drop at z) ≡ get_or z at 0 ∷ others (drop (at + 1) z)
others_here z at h e =
    let d : drop at z ≡ get_or z at 0 ∷ drop (suc at) z = drop-cons z at 0 h in
    let n : suc at ≡ at + 1 = omega arith in
    ap others d ∙ front (get_or z at 0) (drop (suc at) z) e ∙ ap (λ (m : ℕ). get_or z at 0 ∷ others (drop m z)) n
  where
    front : (b : ℕ) (y : List ℕ) → is_in Blank b ≡ false → others (b ∷ y) ≡ b ∷ others y
    front b y e = ap (λ (t : Bool). cond (not t) (b ∷ others y) (others y)) e

pub others_end : (z : List ℕ) (at : ℕ) → length z ≤ at → others (drop at z) ≡ []
others_end z at h = ap others (drop_of_length-le z {i = at} h)

past_stops : (z : List ℕ) (from at : ℕ) → from ≤ length z → at ≡ past Blank z from → at < length z → is_in Blank (get_or z at 0) ≡ false
past_stops z from at h e inside =
    let p = prefix_len (is_in Blank) (drop from z) in
    let stop : is_in Blank (get_or (drop from z) p 0) ≡ false = prefix_len_stops (is_in Blank) (drop from z) 0 (omega (arith, length-drop from z)) in
    let here : get_or z at 0 ≡ get_or (drop from z) p 0 = rw (get_or-drop from z p 0) (ap (λ a. get_or z a 0) e) in
    ap (λ b. is_in Blank b) here ∙ stop

-- by the first two bytes that are no blanks
pub skipped_blank : (z : List ℕ) (a : ℕ) → a ≡ past Blank z 0 → length z ≤ a → is_skipped z ≡ true
unfolding is_skipped
skipped_blank z a e h = ap is_comment (others_past z 0 ∙ ap (λ (m : ℕ). others (drop m z)) (sym e) ∙ others_end z a h)

skipped_two : (z : List ℕ) (a b : ℕ) → a ≡ past Blank z 0 → a < length z → b ≡ past Blank z (a + 1) → others z ≡ get_or z a 0 ∷ others (drop b z)
skipped_two z a b e h f =
    others_past z 0 ∙ ap (λ (m : ℕ). others (drop m z)) (sym e) ∙ others_here z a h (past_stops z 0 a (omega arith) e h)
    ∙ ap (λ (y : List ℕ). get_or z a 0 ∷ y) (others_past z (a + 1) ∙ ap (λ (m : ℕ). others (drop m z)) (sym f))

pub skipped_one : (z : List ℕ) (a b : ℕ) → a ≡ past Blank z 0 → a < length z → b ≡ past Blank z (a + 1) → length z ≤ b → is_skipped z ≡ false
unfolding is_skipped
skipped_one z a b e h f l = ap is_comment (skipped_two z a b e h f ∙ ap (λ (y : List ℕ). get_or z a 0 ∷ y) (others_end z b l))

pub skipped_both : (z : List ℕ) (a b : ℕ) → a ≡ past Blank z 0 → a < length z → b ≡ past Blank z (a + 1) → b < length z → is_skipped z ≡ (get_or z a 0 == 45 && get_or z b 0 == 45)
unfolding is_skipped
skipped_both z a b e h f l = ap is_comment (skipped_two z a b e h f ∙ ap (λ (y : List ℕ). get_or z a 0 ∷ y) (others_here z b l (past_stops z (a + 1) b (omega arith) f l)))

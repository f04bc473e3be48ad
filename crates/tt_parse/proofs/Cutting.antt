-- The tokens of pieces in a row are those of the pieces.
use Rattle.std.proofs.Common.{◌≡◌, ℕ, zero, suc, ◌+◌, ◌-◌, ◌<◌, Bool, true, false, ◌||◌, List, [], ◌∷◌, ◌++◌, length, take, refl, sym, ap, ap₂, subst, ◌∙◌, lit<, arith}
use Rattle.std.specs.Prelude.{◌==◌, IsUtf8, if◌then◌else◌}
use Rattle.std.proofs.lemmas.Str.{IsUtf8-append, IsUtf8-from_ascii, IsUtf8-nil}
use Rattle.std.proofs.lemmas.Str.Ascii.{IsAscii-cons, IsAscii-nil}
use Rattle.std.proofs.Math.Seq.{take-append_seam}
use Rattle.tt_parse.specs.declared.kind.Kind.{Kind}
use Rattle.tt_parse.specs.declared.tokens.Class.TheVariants as class
use Rattle.tt_parse.specs.Tokens.{Token, is_in, first, tokens_from}
use Rattle.tt_parse.specs.Spelling.{Piece, is_unspaced, spaced, joined}
use Rattle.tt_parse.proofs.Pieces.{May, Cut, CutAll, ShowsAll}

-- the rest of a token that began before
tokens_behind : (n at : ℕ) (x z : List ℕ) → length x ≡ n → (there : ℕ) × (tokens_from n at (x ++ z) ≡ tokens_from 0 there z)
unfolding tokens_from
tokens_behind zero at [] z e = (at, refl)
tokens_behind zero at (b ∷ x) z e = absurd (omega arith)
tokens_behind (suc n) at [] z e = absurd (omega arith)
tokens_behind (suc n) at (b ∷ x) z e = tokens_behind n (at + 1) x z (omega arith)

abbrev cut_at : ℕ → Kind × ℕ → List ℕ → Token
cut_at at f z = record { at = at; kind = f.0; bytes = take f.1 z }

-- the token at the front
token_front : (at b : ℕ) (z : List ℕ) → is_in class.Blank b ≡ false →
    tokens_from 0 at (b ∷ z) ≡ cut_at at (first (b ∷ z)) (b ∷ z) ∷ tokens_from ((first (b ∷ z)).1 - 1) (at + 1) z
unfolding tokens_from
token_front at b z h = rw h refl

-- a token as long as these bytes
token_cut : (at b n : ℕ) (x z : List ℕ) (kind : Kind) → is_in class.Blank b ≡ false → first (b ∷ (x ++ z)) ≡ (kind, n) → n ≡ suc (length x) →
    (there : ℕ) × (tokens_from 0 at (b ∷ (x ++ z)) ≡ record { at = at; kind = kind; bytes = b ∷ x } ∷ tokens_from 0 there z)
token_cut at b n x z kind h f e =
    let less : n - 1 ≡ length x = omega arith in
    let behind = tokens_behind (n - 1) (at + 1) x z (sym less) in
    let cut : take n (b ∷ (x ++ z)) ≡ b ∷ x = ap (λ (m : ℕ). take m (b ∷ (x ++ z))) e ∙ ap (λ (y : List ℕ). b ∷ y) (take-append_seam x z) in (
      behind.0,
      token_front at b (x ++ z) h
          ∙ ap (λ (p : Kind × ℕ). cut_at at p (b ∷ (x ++ z)) ∷ tokens_from (p.1 - 1) (at + 1) (x ++ z)) f
          ∙ ap₂ (λ (y : List ℕ) (ts : List Token). (let t : Token = record { at = at; kind = kind; bytes = y } in t ∷ ts)) cut behind.1,
    )

token_of_piece : (p : Piece) → Cut p → (at : ℕ) (z : List ℕ) → May p.joins z →
    (there : ℕ) × (tokens_from 0 at (p.bytes ++ z) ≡ record { at = at; kind = p.kind; bytes = p.bytes } ∷ tokens_from 0 there z)
token_of_piece p c at z may =
    let f : first (c.head ∷ (c.tail ++ z)) ≡ (p.kind, length p.bytes) = ap (λ (y : List ℕ). first (y ++ z)) (sym c.whole) ∙ c.token z may in
    let r = token_cut at c.head (length p.bytes) c.tail z p.kind c.no_blank f (ap length c.whole) in (
      r.0,
      ap (λ (y : List ℕ). tokens_from 0 at (y ++ z)) c.whole ∙ r.1
          ∙ ap (λ (y : List ℕ). (let t : Token = record { at = at; kind = p.kind; bytes = y } in t ∷ tokens_from 0 r.0 z)) (sym c.whole),
    )

behind_blank : (at : ℕ) (z : List ℕ) → tokens_from 0 at (32 ∷ z) ≡ tokens_from 0 (at + 1) z
unfolding tokens_from
behind_blank at z = refl

-- ---- what stands right behind a piece

may_head : (joins : Bool) (b : ℕ) (x z : List ℕ) → b < 128 → (joins ≡ false → (b == 32 || b == 41 || b == 44) ≡ true) → May joins ((b ∷ x) ++ z)
may_head true b x z small close = small
may_head false b x z small close = close refl

may_next : (joins : Bool) (q : Piece) (c : Cut q) (z : List ℕ) (none : Bool) → (joins || is_unspaced q.kind) ≡ none → May joins ((if none then q.bytes else 32 ∷ q.bytes) ++ z)
may_next true q c z true e = subst (λ (y : List ℕ). May true (y ++ z)) (sym c.whole) c.small
may_next true q c z false e = absurd cc
may_next false q c z true e = subst (λ (y : List ℕ). May false (y ++ z)) (sym c.whole) (c.unspaced e)
may_next false q c z false e = refl

pub may_behind : (joins : Bool) (ps : List Piece) → CutAll ps → May joins (joined joins ps)
unfolding joined
may_behind true [] c = tt
may_behind false [] c = tt
may_behind joins (q ∷ ps) c = may_next joins q c.0 (joined q.joins ps) (joins || is_unspaced q.kind) refl

-- ---- all pieces

shows_spaced : (none : Bool) (p : Piece) → Cut p → (at : ℕ) (z : List ℕ) → May p.joins z → (ps : List Piece) →
    ((there : ℕ) → ShowsAll ps (tokens_from 0 there z)) → ShowsAll (p ∷ ps) (tokens_from 0 at ((if none then p.bytes else 32 ∷ p.bytes) ++ z))
shows_spaced true p c at z may ps more =
    let r = token_of_piece p c at z may in
    subst (λ (ts : List Token). ShowsAll (p ∷ ps) ts) (sym r.1) ((refl, refl), more r.0)
shows_spaced false p c at z may ps more =
    let r = token_of_piece p c (at + 1) z may in
    subst (λ (ts : List Token). ShowsAll (p ∷ ps) ts) (sym (behind_blank at (p.bytes ++ z) ∙ r.1)) ((refl, refl), more r.0)

pub shows_joined : (ps : List Piece) → CutAll ps → (joins : Bool) (at : ℕ) → ShowsAll ps (tokens_from 0 at (joined joins ps))
unfolding joined tokens_from
shows_joined [] c joins at = tt
shows_joined (p ∷ ps) c joins at =
    shows_spaced (joins || is_unspaced p.kind) p c.0 at (joined p.joins ps) (may_behind p.joins ps c.1) ps (λ there. shows_joined ps c.1 p.joins there)

spaced_utf8 : (none : Bool) (x : List ℕ) → IsUtf8 x → IsUtf8 (if none then x else 32 ∷ x)
spaced_utf8 true x h = h
spaced_utf8 false x h = IsUtf8-append (32 ∷ []) x (IsUtf8-from_ascii (32 ∷ []) (IsAscii-cons 32 [] (lit< tt) IsAscii-nil)) h

pub utf8_joined : (ps : List Piece) → CutAll ps → (joins : Bool) → IsUtf8 (joined joins ps)
unfolding joined
utf8_joined [] c joins = IsUtf8-nil
utf8_joined (p ∷ ps) c joins = IsUtf8-append (spaced joins p) (joined p.joins ps) (spaced_utf8 (joins || is_unspaced p.kind) p.bytes c.0.utf8) (utf8_joined ps c.1 p.joins)

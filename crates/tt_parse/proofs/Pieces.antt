-- A value that the grammar gives is given by the tokens of its spelling.
use Rattle.std.proofs.Common.{◌≡◌, ℕ, ◌<◌, ◌≤◌, Bool, true, false, ◌||◌, List, [], ◌∷◌, ◌++◌, length, Option, Some, refl, sym, ap, subst, ◌∙◌, append_assoc, inl, inr}
use Rattle.std.specs.Prelude.{◌==◌, IsUtf8}
use Rattle.tt_parse.specs.declared.kind.Kind.TheVariants as k
use Rattle.tt_parse.specs.declared.tokens.Class.TheVariants as class
use Rattle.tt_parse.specs.Tokens.{Token, is_in, first}
use Rattle.tt_parse.specs.Grammar.{nothing, one, ◌>>=◌, ◌or_else◌, many}
use Rattle.tt_parse.specs.Script.{G}
use Rattle.tt_parse.specs.Symbols.{undoubled, inside, has_dot, decimals}
use Rattle.tt_parse.specs.Spelling.{Piece, is_unspaced}
use Rattle.tt_parse.proofs.Exact.{append-[]}

-- ---- pieces that are cut again where they end

-- what may stand right behind a piece
abbrev pub May : Bool → List ℕ → Type 0
May joins [] = Unit {0}
May true (b ∷ z) = b < 128
May false (b ∷ z) = (b == 32 || b == 41 || b == 44) ≡ true

pub record Cut (p : Piece) : Type 0 where
  pub head : ℕ
  pub tail : List ℕ
  pub whole : p.bytes ≡ head ∷ tail
  pub no_blank : is_in class.Blank head ≡ false
  pub small : head < 128
  pub unspaced : is_unspaced p.kind ≡ true → (head == 32 || head == 41 || head == 44) ≡ true
  pub utf8 : IsUtf8 p.bytes
  pub token : (z : List ℕ) → May p.joins z → first (p.bytes ++ z) ≡ (p.kind, length p.bytes)

abbrev pub CutAll : List Piece → Type 0
CutAll [] = Unit {0}
CutAll (p ∷ ps) = Cut p × CutAll ps

pub cut_append : (ps qs : List Piece) → CutAll ps → CutAll qs → CutAll (ps ++ qs)
cut_append [] qs c d = d
cut_append (p ∷ ps) qs c d = (c.0, cut_append ps qs c.1 d)

-- ---- tokens that are those of pieces, wherever they stand

abbrev pub Shows : Piece → Token → Type 0
Shows p t = (t.kind ≡ p.kind) × (t.bytes ≡ p.bytes)

abbrev pub ShowsAll : List Piece → List Token → Type 0
ShowsAll [] [] = Unit {0}
ShowsAll (p ∷ ps) (t ∷ ts) = Shows p t × ShowsAll ps ts
ShowsAll [] (t ∷ ts) = ⊥
ShowsAll (p ∷ ps) [] = ⊥

abbrev pub Halves : List Piece → List Piece → List Token → Type 0
Halves ps qs ts = (front : List Token) × (back : List Token) × (ts ≡ front ++ back) × ShowsAll ps front × ShowsAll qs back

pub halves : (ps qs : List Piece) (ts : List Token) → ShowsAll (ps ++ qs) ts → Halves ps qs ts
halves [] qs ts s = ([], ts, refl, tt, s)
halves (p ∷ ps) qs [] s = absurd s
halves (p ∷ ps) qs (t ∷ ts) s = let r = halves ps qs ts s.1 in (t ∷ r.0, r.1, ap (λ (x : List Token). t ∷ x) r.2, (s.0, r.3), r.4)

no_tokens : (ts : List Token) → ShowsAll [] ts → ts ≡ []
no_tokens [] s = refl
no_tokens (t ∷ ts) s = absurd s

-- the pieces are cut again, and their tokens are a spelling of the value
pub record Spells {A : Type 0} (g : G A) (ps : List Piece) (a : A) : Type 0 where
  pub cut : CutAll ps
  pub fits : (ts : List Token) → ShowsAll ps ts → g ts a

one_token : (p : Piece) (ts : List Token) → ShowsAll (p ∷ []) ts → (t : Token) × (ts ≡ t ∷ []) × Shows p t
one_token p [] s = absurd s
one_token p (t ∷ ts) s = (t, ap (λ (x : List Token). t ∷ x) (no_tokens ts s.1), s.0)

pub spells_one : {A : Type 0} (test : Token → Option A) (p : Piece) (a : A) → Cut p → ((t : Token) → Shows p t → test t ≡ Some a) → Spells (one test) (p ∷ []) a
spells_one test p a c h = record {
  cut = (c, tt);
  fits = λ ts s. (let o = one_token p ts s in (o.0, o.1, h o.0 o.2));
}

pub spells_nothing : {A : Type 0} (a : A) → Spells (nothing a) [] a
spells_nothing a = record { cut = tt; fits = λ ts s. (no_tokens ts s, refl) }

pub spells_then : {A B : Type 0} {g : G A} {k : A → G B} (ps qs : List Piece) (a : A) (b : B) → Spells g ps a → Spells (k a) qs b → Spells (g >>= k) (ps ++ qs) b
spells_then {A} {B} {g} {k} ps qs a b x y = record {
  cut = cut_append ps qs x.cut y.cut;
  fits = λ ts s. (let r = halves ps qs ts s in (r.0, r.1, a, r.2, x.fits r.0 r.3, y.fits r.1 r.4));
}

pub spells_left : {A : Type 0} {g h : G A} {ps : List Piece} {a : A} → Spells g ps a → Spells (g or_else h) ps a
spells_left x = record { cut = x.cut; fits = λ ts s. inl (x.fits ts s) }

pub spells_right : {A : Type 0} {g h : G A} {ps : List Piece} {a : A} → Spells h ps a → Spells (g or_else h) ps a
spells_right x = record { cut = x.cut; fits = λ ts s. inr (x.fits ts s) }

-- ---- a value that tokens give is spelled by its pieces

-- A text is UTF-8, and a digit stands behind the dot of a number.
pub record FineToken (t : Token) : Type 0 where
  pub text : t.kind ≡ k.Text → IsUtf8 (undoubled false (inside t.bytes))
  pub number : t.kind ≡ k.Number → has_dot t.bytes ≡ true → 1 ≤ decimals t.bytes

abbrev pub Fine : List Token → Type 0
Fine [] = Unit {0}
Fine (t ∷ ts) = FineToken t × Fine ts

pub fine_front : (xs ys : List Token) → Fine (xs ++ ys) → Fine xs
fine_front [] ys f = tt
fine_front (x ∷ xs) ys f = (f.0, fine_front xs ys f.1)

pub fine_back : (xs ys : List Token) → Fine (xs ++ ys) → Fine ys
fine_back [] ys f = f
fine_back (x ∷ xs) ys f = fine_back xs ys f.1

abbrev pub Respells : {A : Type 0} → G A → (A → List Piece) → Type 0
Respells {A} g f = (ts : List Token) (a : A) → Fine ts → g ts a → Spells g (f a) a

-- what stands behind the pieces at the front
abbrev pub After : {A : Type 0} → List Piece → G A → (A → List Piece) → Type 0
After {A} front g f = (ts : List Token) (a : A) → Fine ts → g ts a → (ps : List Piece) × Spells g ps a × (front ++ ps ≡ f a)

pub respells : {A : Type 0} {g : G A} (f : A → List Piece) → After [] g f → Respells g f
respells {A} {g} f h ts a fine w = let r = h ts a fine w in subst (λ (ps : List Piece). Spells g ps a) r.2 r.1

pub after_nothing : {A : Type 0} (f : A → List Piece) (front : List Piece) (v : A) → front ≡ f v → After front (nothing v) f
after_nothing {A} f front v h ts a fine w = (
  [],
  record { cut = tt; fits = λ u s. (no_tokens u s, w.1) },
  append-[] front ∙ h ∙ ap f (sym w.1),
)

pub after_then : {A B : Type 0} {g : G A} {k : A → G B} (front : List Piece) (f : A → List Piece) (all : B → List Piece) →
    Respells g f → ((a : A) → After (front ++ f a) (k a) all) → After front (g >>= k) all
after_then {A} {B} {g} {k} front f all x y ts b fine w =
    let both : Fine (w.0 ++ w.1) = subst Fine w.3 fine in
    let first = x w.0 w.2 (fine_front w.0 w.1 both) w.4 in
    let second = y w.2 w.1 b (fine_back w.0 w.1 both) w.5 in
    (f w.2 ++ second.0, spells_then (f w.2) second.0 w.2 b first second.1, sym (append_assoc front (f w.2) second.0) ∙ second.2)

pub after_or : {A : Type 0} {g h : G A} (front : List Piece) (all : A → List Piece) → After front g all → After front h all → After front (g or_else h) all
after_or front all x y ts a fine (inl w) = let r = x ts a fine w in (r.0, spells_left r.1, r.2)
after_or front all x y ts a fine (inr w) = let r = y ts a fine w in (r.0, spells_right r.1, r.2)

-- ---- any number of times

abbrev pub rows : {A : Type 0} → (A → List Piece) → List A → List Piece
rows f [] = []
rows f (x ∷ xs) = f x ++ rows f xs

pub respells_many : {A : Type 0} {g : G A} (f : A → List Piece) → Respells g f → Respells (many g) (rows f)
respells_many f x ts [] fine w = record { cut = tt; fits = λ u s. no_tokens u s }
respells_many {A} {g} f x ts (v ∷ vs) fine w =
    let both : Fine (w.0 ++ w.1) = subst Fine w.2 fine in
    let one = x w.0 v (fine_front w.0 w.1 both) w.3 in
    let more = respells_many f x w.1 vs (fine_back w.0 w.1 both) w.4 in
    record {
      cut = cut_append (f v) (rows f vs) one.cut more.cut;
      fits = λ u s. (let r = halves (f v) (rows f vs) u s in (r.0, r.1, r.2, one.fits r.0 r.3, more.fits r.1 r.4));
    }

-- ---- the same with what they are about left out

pub record Behind {A : Type 0} (front : List Piece) (g : G A) (f : A → List Piece) : Type 0 where
  pub given : After front g f

pub respelled : {A : Type 0} {g : G A} {f : A → List Piece} → Behind [] g f → Respells g f
respelled {A} {g} {f} x = respells f x.given

pub done : {A : Type 0} {f : A → List Piece} {front : List Piece} (v : A) → front ≡ f v → Behind front (nothing v) f
done {A} {f} {front} v h = record { given = after_nothing f front v h }

pub next : {A B : Type 0} {front : List Piece} {g : G A} {k : A → G B} {all : B → List Piece} (f : A → List Piece) →
    Respells g f → ((a : A) → Behind (front ++ f a) (k a) all) → Behind front (g >>= k) all
next {A} {B} {front} {g} {k} {all} f x y = record { given = after_then front f all x (λ a. (y a).given) }

pub either : {A : Type 0} {front : List Piece} {g h : G A} {all : A → List Piece} → Behind front g all → Behind front h all → Behind front (g or_else h) all
either {A} {front} {g} {h} {all} x y = record { given = after_or front all x.given y.given }

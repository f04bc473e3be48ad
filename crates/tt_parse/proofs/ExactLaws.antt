-- Exact readers put together, and what they tell of a whole list.
use Rattle.std.proofs.Common.{◌≡◌, Bool, true, false, List, [], ◌∷◌, ◌++◌, Option, Some, Ok, Err, refl, sym, ap, subst, ◌∙◌, append_assoc, ◌⊎◌, inl, inr}
use Rattle.tt_parse.specs.Grammar.{Grammar, nothing, one, ◌>>=◌, ◌or_else◌, many, CanGoOn, IsEnd, IsOff}
use Rattle.tt_parse.specs.Reader.{Read, Reader, after, next_is, read_if, read_many}
use Rattle.tt_parse.proofs.Exact.{Begins, Ends-within, Exact, Follows, Within, append-[], exact-or, exact-then, follows_never, never, never_ends, next-append, ok_rest}
use Rattle.tt_parse.proofs.ExactMany.{exact-many}

-- ---- other ways to say the same

pub exact-within : {X A : Type 0} {g : Grammar X A} {r : Reader X A} (more last : X → Bool) → Within more last → Exact g r more → Exact g r last
exact-within more last w x = record {
  got = x.got;
  stuck = x.stuck;
  reads = λ ts rest a f h. x.reads ts rest a f (Ends-within more last w rest h);
  word = x.word;
  value = x.value;
  some = x.some;
}

-- ---- the whole list

module _ {X A : Type 0} (g : Grammar X A) (r : Reader X A) (more : X → Bool) (exact : Exact g r more) where
  pub all_read : (ts : List X) (a : A) → r ts ≡ Ok (a, []) → g ts a
  all_read ts a e =
      let f = exact.got ts a [] e in
      subst (λ (t : List X). g t a) (sym (f.whole ∙ append-[] f.front)) f.fits

  pub read_all : (ts : List X) (a : A) → g ts a → r ts ≡ Ok (a, [])
  read_all ts a f = ap r (sym (append-[] ts)) ∙ exact.reads ts [] a f refl

  all_behind : (front : List X) (s : X) (tail : List X) (a : A) → g ((front ++ s ∷ []) ++ tail) a → r (front ++ s ∷ tail) ≡ Ok (a, [])
  all_behind front s tail a f = ap r (sym (append_assoc front (s ∷ []) tail)) ∙ read_all ((front ++ s ∷ []) ++ tail) a f

  -- a symbol that no spelling has there
  pub stuck_off : (ts behind : List X) → r ts ≡ Err behind → IsOff g ts behind
  stuck_off ts [] e =
      let f = exact.stuck ts [] e in (
        f.front,
        f.whole,
        (f.tail, f.value, f.goes_on),
        λ h. (let p : ◌≡◌ {A = Read X A} (Err []) (Ok (h.0, [])) = sym e ∙ read_all ts h.0 (subst (λ (t : List X). g t h.0) (sym (f.whole ∙ append-[] f.front)) h.1) in absurd cc),
      )
  stuck_off ts (s ∷ behind) e =
      let f = exact.stuck ts (s ∷ behind) e in (
        f.front,
        f.whole,
        (f.tail, f.value, f.goes_on),
        λ h. (let p : ◌≡◌ {A = Read X A} (Err (s ∷ h.0)) (Ok (h.1, [])) = sym (f.again (s ∷ h.0) refl) ∙ all_behind f.front s h.0 h.1 h.2 in absurd cc),
      )

  -- a symbol behind a whole spelling
  pub behind_off : (ts : List X) (a : A) (s : X) (behind : List X) → r ts ≡ Ok (a, s ∷ behind) → IsOff g ts (s ∷ behind)
  behind_off ts a s behind e =
      let f = exact.got ts a (s ∷ behind) e in (
        f.front,
        f.whole,
        ([], a, subst (λ (t : List X). g t a) (sym (append-[] f.front)) f.fits),
        λ h. (let p : ◌≡◌ {A = Read X A} (Ok (a, s ∷ h.0)) (Ok (h.1, [])) = sym (f.again (s ∷ h.0) refl) ∙ all_behind f.front s h.0 h.1 h.2 in
            let q : s ∷ h.0 ≡ [] = ok_rest a h.1 (s ∷ h.0) [] p in absurd cc),
      )

-- ---- the same with what they are about left out

pub seq : {X A B : Type 0} {g : Grammar X A} {r : Reader X A} {more : X → Bool} {k : A → Grammar X B} {q : A → Reader X B} {last : X → Bool} →
    Exact g r more → ((a : A) → Exact (k a) (q a) last) → ((a : A) → Follows more (k a) last) → Exact (g >>= k) (λ x. after (r x) q) last
seq {X} {A} {B} {g} {r} {more} {k} {q} {last} first second follows = exact-then g r more k q last first second follows

-- where nothing can go on with the first
pub step : {X A B : Type 0} {g : Grammar X A} {r : Reader X A} {k : A → Grammar X B} {q : A → Reader X B} {last : X → Bool} →
    Exact g r never → ((a : A) → Exact (k a) (q a) last) → Exact (g >>= k) (λ x. after (r x) q) last
step {X} {A} {B} {g} {r} {k} {q} {last} first second = exact-then g r never k q last first second (λ a. follows_never (k a) last)

pub alt : {X A : Type 0} {g h : Grammar X A} {r q : Reader X A} {more other_more last : X → Bool} (test : X → Bool) →
    Exact g r more → Exact h q other_more → Begins g test → Follows test h last → Within more last → Within other_more last → Exact (g or_else h) (read_if test r q) last
alt {X} {A} {g} {h} {r} {q} {more} {other_more} {last} test first second begins avoids within other_within =
    exact-or test g h r q more other_more last first second begins avoids within other_within

pub star : {X A : Type 0} {g : Grammar X A} {r : Reader X A} {more : X → Bool} (test last : X → Bool) →
    Exact g r more → Begins g test → ((s : X) → test s ≡ true → more s ≡ false) → Within more last → Within test last → Exact (many g) (read_many test r) last
star {X} {A} {g} {r} {more} test last each begins apart within stops = exact-many test g r more last each begins apart within stops

-- ---- how spellings begin

-- each symbol that the one finds something in passes the test, or none does
abbrev pub Finds : {X A : Type 0} → (X → Option A) → (X → Bool) → Bool → Type 0
Finds {X} {A} f test b = (s : X) (a : A) → f s ≡ Some a → test s ≡ b

pub begins_one : {X A : Type 0} (f : X → Option A) (test : X → Bool) → Finds f test true → Begins (one f) test
begins_one f test h u a w = rw w.1 (h w.0 a w.2)

pub begins_then : {X A B : Type 0} (g : Grammar X A) (k : A → Grammar X B) (test : X → Bool) → Begins g test → Begins (g >>= k) test
begins_then g k test h u b w = rw w.3 (next-append test w.0 w.1 (h w.0 w.2 w.4))

pub begins_or : {X A : Type 0} (g h : Grammar X A) (test : X → Bool) → Begins g test → Begins h test → Begins (g or_else h) test
begins_or g h test p q u a (inl w) = p u a w
begins_or g h test p q u a (inr w) = q u a w

pub follows_one : {X A : Type 0} (f : X → Option A) (test last : X → Bool) → Finds f test false → Follows test (one f) last
follows_one f test last h u y a w e = rw w.1 (h w.0 a w.2)

pub follows_one_then : {X A B : Type 0} (f : X → Option A) (k : A → Grammar X B) (test last : X → Bool) → Finds f test false → Follows test (one f >>= k) last
follows_one_then f k test last h u y b w e = rw (w.3, w.4.1) (h w.4.0 w.2 w.4.2)

pub follows_nothing : {X A : Type 0} (v : A) (test last : X → Bool) → Within test last → Follows test (nothing v) last
follows_nothing v test last h u y b w e = rw w.0 (Ends-within test last h y e)

pub follows_or : {X A : Type 0} (g h : Grammar X A) (test last : X → Bool) → Follows test g last → Follows test h last → Follows test (g or_else h) last
follows_or g h test last p q u y a (inl w) e = p u y a w e
follows_or g h test last p q u y a (inr w) e = q u y a w e

-- where the first may be empty
pub follows_then : {X A B : Type 0} (g : Grammar X A) (k : A → Grammar X B) (test last : X → Bool) → Follows test g test → ((a : A) → Follows test (k a) last) → Follows test (g >>= k) last
follows_then g k test last p q u y b w e = rw (w.3, append_assoc w.0 w.1 y) (p w.0 (w.1 ++ y) w.2 w.4 (q w.2 w.1 y b w.5 e))

pub follows_many : {X A : Type 0} (g : Grammar X A) (test more last : X → Bool) → Begins g test → ((s : X) → test s ≡ true → more s ≡ false) → Within more last → Follows more (many g) last
follows_many g test more last begins apart within u y [] w e = rw w (Ends-within more last within y e)
follows_many {X} {A} g test more last begins apart within u y (v ∷ vs) w e =
    rw (w.2, append_assoc w.0 w.1 y) (next_apart (w.0 ++ (w.1 ++ y)) (next-append test w.0 (w.1 ++ y) (begins w.0 v w.3)))
  where
    next_apart : (x : List X) → next_is test x ≡ true → next_is more x ≡ false
    next_apart [] h = refl
    next_apart (s ∷ x) h = apart s h

-- where the first is never empty
pub follows_first : {X A B : Type 0} (g : Grammar X A) (k : A → Grammar X B) (test last : X → Bool) → Follows test g never → Follows test (g >>= k) last
follows_first g k test last p u y b w e = rw (w.3, append_assoc w.0 w.1 y) (p w.0 (w.1 ++ y) w.2 w.4 (never_ends (w.1 ++ y)))

-- ---- there is one such cut

-- two ways to cut a list: at one index, or the one before the other
abbrev pub Cuts : {X : Type 0} → List X → List X → List X → List X → Type 0
Cuts {X} f a h b = (s : X) × (m : List X) × (h ≡ f ++ s ∷ m) × (a ≡ s ∷ (m ++ b))

cut_two : {X : Type 0} (f h a b : List X) → f ++ a ≡ h ++ b → (a ≡ b) ⊎ (Cuts f a h b ⊎ Cuts h b f a)
cut_two [] [] a b e = inl e
cut_two [] (t ∷ h) a b e = inr (inl (t, h, refl, e))
cut_two (s ∷ f) [] a b e = inr (inr (s, f, refl, sym e))
cut_two {X} (s ∷ f) (t ∷ h) a b e =
    let first : s ≡ t = cc in
    let rest : f ++ a ≡ h ++ b = cc in
    elim (cut_two f h a b rest) [
      | inl same ↦ inl same
      | inr (inl c) ↦ inr (inl (c.0, c.1, ap (λ (y : List X). t ∷ y) c.2 ∙ ap (λ (x : X). x ∷ (f ++ c.0 ∷ c.1)) (sym first), c.3))
      | inr (inr c) ↦ inr (inr (c.0, c.1, ap (λ (y : List X). s ∷ y) c.2 ∙ ap (λ (x : X). x ∷ (h ++ c.0 ∷ c.1)) first, c.3))
    ]

module _ {X A : Type 0} (g : Grammar X A) where
  goes_on_less : (f h m : List X) (s : X) → h ≡ f ++ s ∷ m → CanGoOn g h → CanGoOn g (f ++ s ∷ [])
  goes_on_less f h m s e c =
      let same : h ++ c.0 ≡ (f ++ s ∷ []) ++ (m ++ c.0) =
      ap (λ (y : List X). y ++ c.0) e ∙ append_assoc f (s ∷ m) c.0 ∙ sym (append_assoc f (s ∷ []) (m ++ c.0)) in
      (m ++ c.0, c.1, subst (λ (y : List X). g y c.1) same c.2)

  cut_off : (f h a b : List X) → Cuts f a h b → CanGoOn g h → IsEnd g f a → ⊥
  cut_off f h a b c on end =
      (subst (λ (y : List X). IsEnd g f y) c.3 end) (goes_on_less f h c.1 c.0 c.2 on)

  -- a list is off a grammar at one cut alone
  pub off_once : (ts a b : List X) → IsOff g ts a → IsOff g ts b → a ≡ b
  off_once ts a b p q = elim (cut_two p.0 q.0 a b (sym p.1 ∙ q.1)) [
    | inl same ↦ same
    | inr (inl c) ↦ absurd (cut_off p.0 q.0 a b c q.2 p.3)
    | inr (inr c) ↦ absurd (cut_off q.0 p.0 b a c p.2 q.3)
  ]

  -- and in it at none
  pub in_not_off : (ts behind : List X) (v : A) → g ts v → IsOff g ts behind → ⊥
  in_not_off ts [] v f p = p.3 (v, subst (λ (y : List X). g y v) (p.1 ∙ append-[] p.0) f)
  in_not_off ts (s ∷ behind) v f p =
      p.3 (behind, v, subst (λ (y : List X). g y v) (p.1 ∙ sym (append_assoc p.0 (s ∷ []) behind)) f)

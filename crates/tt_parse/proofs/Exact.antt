-- A reader is exact for a grammar: what it reads is spelled so, what is spelled so it reads, and where it stops
-- the symbols so far can go on to a spelling, and with the next symbol they can't.
use Rattle.std.proofs.Common.{◌≡◌, Bool, true, false, cond, List, [], ◌∷◌, ◌++◌, Option, Some, None, Ok, Err, refl, sym, ap, subst, ◌∙◌, append_assoc, ◌⊎◌, inl, inr}
use Rattle.tt_parse.specs.Grammar.{Grammar, nothing, one, ◌>>=◌, ◌or_else◌}
use Rattle.tt_parse.specs.Reader.{Read, Reader, after, read_nothing, found, read_one, next_is, read_if}

-- what stands behind ends a reading: nothing, or a symbol that can't go on with it
abbrev pub Ends : {X : Type 0} → (X → Bool) → List X → Type 0
Ends more ts = next_is more ts ≡ false

abbrev pub SameHead : {X : Type 0} → List X → List X → Type 0
SameHead (s ∷ _) (t ∷ _) = s ≡ t
SameHead (s ∷ _) [] = ⊥
SameHead [] _ = ⊥

pub record Got {X A : Type 0} (g : Grammar X A) (r : Reader X A) (ts : List X) (a : A) (rest : List X) : Type 0 where
  pub front : List X
  pub whole : ts ≡ front ++ rest
  pub fits : g front a
  pub again : (other : List X) → SameHead rest other → r (front ++ other) ≡ Ok (a, other)

pub record Stuck {X A : Type 0} (g : Grammar X A) (r : Reader X A) (ts : List X) (rest : List X) : Type 0 where
  pub front : List X
  pub whole : ts ≡ front ++ rest
  pub tail : List X
  pub value : A
  pub goes_on : g (front ++ tail) value
  pub again : (other : List X) → SameHead rest other → r (front ++ other) ≡ Err other

pub record Exact {X A : Type 0} (g : Grammar X A) (r : Reader X A) (more : X → Bool) : Type 0 where
  pub got : (ts : List X) (a : A) (rest : List X) → r ts ≡ Ok (a, rest) → Got g r ts a rest
  pub stuck : (ts rest : List X) → r ts ≡ Err rest → Stuck g r ts rest
  pub reads : (ts rest : List X) (a : A) → g ts a → Ends more rest → r (ts ++ rest) ≡ Ok (a, rest)
  pub word : List X
  pub value : A
  pub some : g word value

abbrev pub never : {X : Type 0} → X → Bool
never _ = false

pub never_ends : {X : Type 0} (ts : List X) → Ends never ts
never_ends [] = refl
never_ends (s ∷ ts) = refl

pub SameHead-front : {X : Type 0} (u x y : List X) → SameHead x y → SameHead (u ++ x) (u ++ y)
SameHead-front [] x y h = h
SameHead-front (s ∷ u) x y h = refl

pub next-same : {X : Type 0} (test : X → Bool) (x y : List X) → SameHead x y → next_is test x ≡ next_is test y
next-same test (s ∷ x) (t ∷ y) h = ap test h
next-same test (s ∷ x) [] h = absurd h
next-same test [] y h = absurd h

pub next-append : {X : Type 0} (test : X → Bool) (x y : List X) → next_is test x ≡ true → next_is test (x ++ y) ≡ true
next-append test [] y h = absurd cc
next-append test (s ∷ x) y h = h

pub if_true : {A : Type 0} (b : Bool) (x y : A) → b ≡ true → cond b x y ≡ x
if_true b x y h = rw h refl

pub if_false : {A : Type 0} (b : Bool) (x y : A) → b ≡ false → cond b x y ≡ y
if_false b x y h = rw h refl

pub which : (b : Bool) → (b ≡ true) ⊎ (b ≡ false)
which true = inl refl
which false = inr refl

pub append-[] : {X : Type 0} (x : List X) → x ++ [] ≡ x
append-[] [] = refl
append-[] {X = X} (s ∷ x) = ap (λ (y : List X). s ∷ y) (append-[] x)

-- ---- nothing, and one symbol

pub ok_value : {X A : Type 0} (a b : A) (x y : List X) → ◌≡◌ {A = Read X A} (Ok (a, x)) (Ok (b, y)) → a ≡ b
ok_value {X} {A} a b x y e = let p : ◌≡◌ {A = A × List X} (a, x) (b, y) = cc in ap (λ (q : A × List X). q.0) p

pub ok_rest : {X A : Type 0} (a b : A) (x y : List X) → ◌≡◌ {A = Read X A} (Ok (a, x)) (Ok (b, y)) → x ≡ y
ok_rest {X} {A} a b x y e = let p : ◌≡◌ {A = A × List X} (a, x) (b, y) = cc in ap (λ (q : A × List X). q.1) p

pub exact-nothing : {X A : Type 0} (v : A) → Exact {X = X} (nothing v) (read_nothing v) never
exact-nothing {X} v = record {
  got = λ ts a rest e. record {
    front = [];
    whole = ok_rest v a ts rest e;
    fits = (refl, sym (ok_value v a ts rest e));
    again = λ other h. ap (λ b. Ok (b, other)) (ok_value v a ts rest e);
  };
  stuck = λ ts rest e. absurd cc;
  reads = λ ts rest a f h. rw (f.0, f.1) refl;
  word = [];
  value = v;
  some = (refl, refl);
}

found_ok : {X A : Type 0} (o : Option A) (s : X) (ts : List X) (a : A) (rest : List X) → found o s ts ≡ Ok (a, rest) → (o ≡ Some a) × (ts ≡ rest)
found_ok (Some b) s ts a rest e = (ap Some (ok_value b a ts rest e), ok_rest b a ts rest e)
found_ok None s ts a rest e = absurd cc

found_err : {X A : Type 0} (o : Option A) (s : X) (ts rest : List X) → found o s ts ≡ Err rest → (o ≡ None) × (s ∷ ts ≡ rest)
found_err (Some b) s ts rest e = absurd cc
found_err None s ts rest e = (refl, cc)

one_got : {X A : Type 0} (test : X → Option A) (ts : List X) (a : A) (rest : List X) → read_one test ts ≡ Ok (a, rest) → Got (one test) (read_one test) ts a rest
one_got test [] a rest e = absurd cc
one_got {X} {A} test (s ∷ ts) a rest e =
    let f = found_ok (test s) s ts a rest e in
    record {
      front = s ∷ [];
      whole = ap (λ (y : List X). s ∷ y) f.1;
      fits = (s, refl, f.0);
      again = λ other h. ap (λ (o : Option A). found o s other) f.0;
    }

one_again : {X A : Type 0} (test : X → Option A) (s : X) (ts rest : List X) → test s ≡ None → s ∷ ts ≡ rest → (other : List X) → SameHead rest other → read_one test other ≡ Err other
one_again {X} {A} test s ts (t ∷ rest) n e (v ∷ other) h =
    let p : s ≡ t = cc in
    let q : test v ≡ None = ap test (sym h ∙ sym p) ∙ n in
    ap (λ (o : Option A). found o v other) q
one_again test s ts (t ∷ rest) n e [] h = absurd h
one_again test s ts [] n e other h = absurd h

one_stuck : {X A : Type 0} (test : X → Option A) (w : X) (v : A) → test w ≡ Some v → (ts rest : List X) → read_one test ts ≡ Err rest → Stuck (one test) (read_one test) ts rest
one_stuck test w v p [] [] e = record {
  front = [];
  whole = refl;
  tail = w ∷ [];
  value = v;
  goes_on = (w, refl, p);
  again = λ other h. absurd h;
}
one_stuck test w v p [] (t ∷ rest) e = absurd cc
one_stuck test w v p (s ∷ ts) rest e =
    let f = found_err (test s) s ts rest e in
    record {
      front = [];
      whole = f.1;
      tail = w ∷ [];
      value = v;
      goes_on = (w, refl, p);
      again = one_again test s ts rest f.0 f.1;
    }

pub exact-one : {X A : Type 0} (test : X → Option A) (w : X) (v : A) → test w ≡ Some v → Exact (one test) (read_one test) never
exact-one {X} {A} test w v p = record {
  got = one_got test;
  stuck = one_stuck test w v p;
  reads = λ ts rest a f h. rw f.1 (ap (λ (o : Option A). found o f.0 rest) f.2);
  word = w ∷ [];
  value = v;
  some = (w, refl, p);
}

-- ---- one after another

pub record Went {X A B : Type 0} (x : Read X A) (k : A → Reader X B) (y : Read X B) : Type 0 where
  pub value : A
  pub rest : List X
  pub first : x ≡ Ok (value, rest)
  pub second : k value rest ≡ y

pub after_ok : {X A B : Type 0} (x : Read X A) (k : A → Reader X B) (b : B) (rest : List X) → after x k ≡ Ok (b, rest) → Went x k (Ok (b, rest))
after_ok (Ok x) k b rest e = record { value = x.0; rest = x.1; first = refl; second = e }
after_ok (Err d) k b rest e = absurd cc

pub after_err : {X A B : Type 0} (x : Read X A) (k : A → Reader X B) (rest : List X) → after x k ≡ Err rest → (x ≡ Err rest) ⊎ Went x k (Err rest)
after_err (Ok x) k rest e = inr (record { value = x.0; rest = x.1; first = refl; second = e })
after_err (Err d) k rest e = inl cc

pub after-at : {X A B : Type 0} (x : Read X A) (k : A → Reader X B) (a : A) (mid : List X) → x ≡ Ok (a, mid) → after x k ≡ k a mid
after-at x k a mid e = rw e refl

pub after-stuck : {X A B : Type 0} (x : Read X A) (k : A → Reader X B) (rest : List X) → x ≡ Err rest → after x k ≡ Err rest
after-stuck x k rest e = rw e refl

-- what may stand behind the first is no going on of it
abbrev pub Follows : {X B : Type 0} → (X → Bool) → Grammar X B → (X → Bool) → Type 0
Follows {X} {B} more h last = (u y : List X) (b : B) → h u b → Ends last y → Ends more (u ++ y)

module _ {X A B : Type 0} (g : Grammar X A) (r : Reader X A) (more : X → Bool) (k : A → Grammar X B) (q : A → Reader X B) (last : X → Bool)
    (first : Exact g r more) (second : (a : A) → Exact (k a) (q a) last) (follows : (a : A) → Follows more (k a) last) where
  then_again : (u x y : List X) (a : A) (other : List X) → ((o : List X) → SameHead x o → r (u ++ o) ≡ Ok (a, o)) → SameHead x (y ++ other) → after (r ((u ++ y) ++ other)) q ≡ q a (y ++ other)
  then_again u x y a other ag h =
      let e : r ((u ++ y) ++ other) ≡ Ok (a, y ++ other) = rw (append_assoc u y other) (ag (y ++ other) h) in
      after-at (r ((u ++ y) ++ other)) q a (y ++ other) e

  then_got : (ts : List X) (b : B) (rest : List X) → after (r ts) q ≡ Ok (b, rest) → Got (g >>= k) (λ x. after (r x) q) ts b rest
  then_got ts b rest e =
      let w = after_ok (r ts) q b rest e in
      let f = first.got ts w.value w.rest w.first in
      let s = (second w.value).got w.rest b rest w.second in
      record {
        front = f.front ++ s.front;
        whole = f.whole ∙ ap (λ (t : List X). f.front ++ t) s.whole ∙ sym (append_assoc f.front s.front rest);
        fits = (f.front, s.front, w.value, refl, f.fits, s.fits);
        again = λ other h.
            then_again f.front w.rest s.front w.value other f.again
            (subst (λ (t : List X). SameHead t (s.front ++ other)) (sym s.whole) (SameHead-front s.front rest other h))
            ∙ s.again other h;
      }

  then_stuck : (ts rest : List X) → after (r ts) q ≡ Err rest → Stuck (g >>= k) (λ x. after (r x) q) ts rest
  then_stuck ts rest e = elim (after_err (r ts) q rest e) [
    | inl e1 ↦
        (let f = first.stuck ts rest e1 in
        let s = second f.value in
        record {
          front = f.front;
          whole = f.whole;
          tail = f.tail ++ s.word;
          value = s.value;
          goes_on = (f.front ++ f.tail, s.word, f.value, sym (append_assoc f.front f.tail s.word), f.goes_on, s.some);
          again = λ other h. after-stuck (r (f.front ++ other)) q other (f.again other h);
        })
    | inr w ↦
        (let f = first.got ts w.value w.rest w.first in
        let s = (second w.value).stuck w.rest rest w.second in
        record {
          front = f.front ++ s.front;
          whole = f.whole ∙ ap (λ (t : List X). f.front ++ t) s.whole ∙ sym (append_assoc f.front s.front rest);
          tail = s.tail;
          value = s.value;
          goes_on = (f.front, s.front ++ s.tail, w.value, append_assoc f.front s.front s.tail, f.fits, s.goes_on);
          again = λ other h.
              then_again f.front w.rest s.front w.value other f.again
              (subst (λ (t : List X). SameHead t (s.front ++ other)) (sym s.whole) (SameHead-front s.front rest other h))
              ∙ s.again other h;
        })
  ]

  then_reads : (ts rest : List X) (b : B) → (g >>= k) ts b → Ends last rest → after (r (ts ++ rest)) q ≡ Ok (b, rest)
  then_reads ts rest b f h =
      let e : ts ++ rest ≡ f.0 ++ (f.1 ++ rest) = ap (λ (t : List X). t ++ rest) f.3 ∙ append_assoc f.0 f.1 rest in
      let e1 : r (ts ++ rest) ≡ Ok (f.2, f.1 ++ rest) =
      ap r e ∙ first.reads f.0 (f.1 ++ rest) f.2 f.4 (follows f.2 f.1 rest b f.5 h) in
      after-at (r (ts ++ rest)) q f.2 (f.1 ++ rest) e1 ∙ (second f.2).reads f.1 rest b f.5 h

  pub exact-then : Exact (g >>= k) (λ x. after (r x) q) last
  exact-then = record {
    got = then_got;
    stuck = then_stuck;
    reads = then_reads;
    word = first.word ++ (second first.value).word;
    value = (second first.value).value;
    some = (first.word, (second first.value).word, first.value, refl, first.some, (second first.value).some);
  }

pub follows_never : {X B : Type 0} (h : Grammar X B) (last : X → Bool) → Follows never h last
follows_never h last u y b f e = never_ends (u ++ y)

-- ---- the one or the other

-- each spelling begins with a symbol that passes the test
abbrev pub Begins : {X A : Type 0} → Grammar X A → (X → Bool) → Type 0
Begins {X} {A} g test = (u : List X) (a : A) → g u a → next_is test u ≡ true

abbrev pub Within : {X : Type 0} → (X → Bool) → (X → Bool) → Type 0
Within {X} more last = (s : X) → last s ≡ false → more s ≡ false

pub Ends-within : {X : Type 0} (more last : X → Bool) → Within more last → (y : List X) → Ends last y → Ends more y
Ends-within more last w [] h = refl
Ends-within more last w (s ∷ y) h = w s h

module _ {X A : Type 0} (test : X → Bool) (g h : Grammar X A) (r q : Reader X A) (more other_more last : X → Bool)
    (first : Exact g r more) (second : Exact h q other_more) (begins : Begins g test) (avoids : Follows test h last)
    (within : Within more last) (other_within : Within other_more last) where
  or_front : (b : Bool) (ts front rest other : List X) → next_is test ts ≡ b → ts ≡ front ++ rest → SameHead rest other → next_is test (front ++ other) ≡ b
  or_front b ts front rest other n e s = sym (next-same test (front ++ rest) (front ++ other) (SameHead-front front rest other s)) ∙ ap (next_is test) (sym e) ∙ n

  or_got : (ts : List X) (a : A) (rest : List X) → read_if test r q ts ≡ Ok (a, rest) → Got (g or_else h) (read_if test r q) ts a rest
  or_got ts a rest e = elim (which (next_is test ts)) [
    | inl n ↦
        (let f = first.got ts a rest (sym (if_true (next_is test ts) (r ts) (q ts) n) ∙ e) in
        record {
          front = f.front;
          whole = f.whole;
          fits = inl f.fits;
          again = λ other s.
              if_true (next_is test (f.front ++ other)) (r (f.front ++ other)) (q (f.front ++ other)) (or_front true ts f.front rest other n f.whole s) ∙ f.again other s;
        })
    | inr n ↦
        (let f = second.got ts a rest (sym (if_false (next_is test ts) (r ts) (q ts) n) ∙ e) in
        record {
          front = f.front;
          whole = f.whole;
          fits = inr f.fits;
          again = λ other s.
              if_false (next_is test (f.front ++ other)) (r (f.front ++ other)) (q (f.front ++ other)) (or_front false ts f.front rest other n f.whole s) ∙ f.again other s;
        })
  ]

  or_stuck : (ts rest : List X) → read_if test r q ts ≡ Err rest → Stuck (g or_else h) (read_if test r q) ts rest
  or_stuck ts rest e = elim (which (next_is test ts)) [
    | inl n ↦
        (let f = first.stuck ts rest (sym (if_true (next_is test ts) (r ts) (q ts) n) ∙ e) in
        record {
          front = f.front;
          whole = f.whole;
          tail = f.tail;
          value = f.value;
          goes_on = inl f.goes_on;
          again = λ other s.
              if_true (next_is test (f.front ++ other)) (r (f.front ++ other)) (q (f.front ++ other)) (or_front true ts f.front rest other n f.whole s) ∙ f.again other s;
        })
    | inr n ↦
        (let f = second.stuck ts rest (sym (if_false (next_is test ts) (r ts) (q ts) n) ∙ e) in
        record {
          front = f.front;
          whole = f.whole;
          tail = f.tail;
          value = f.value;
          goes_on = inr f.goes_on;
          again = λ other s.
              if_false (next_is test (f.front ++ other)) (r (f.front ++ other)) (q (f.front ++ other)) (or_front false ts f.front rest other n f.whole s) ∙ f.again other s;
        })
  ]

  or_reads : (ts rest : List X) (a : A) → (g or_else h) ts a → Ends last rest → read_if test r q (ts ++ rest) ≡ Ok (a, rest)
  or_reads ts rest a (inl f) e =
      if_true (next_is test (ts ++ rest)) (r (ts ++ rest)) (q (ts ++ rest)) (next-append test ts rest (begins ts a f))
      ∙ first.reads ts rest a f (Ends-within more last within rest e)
  or_reads ts rest a (inr f) e =
      if_false (next_is test (ts ++ rest)) (r (ts ++ rest)) (q (ts ++ rest)) (avoids ts rest a f e)
      ∙ second.reads ts rest a f (Ends-within other_more last other_within rest e)

  pub exact-or : Exact (g or_else h) (read_if test r q) last
  exact-or = record {
    got = or_got;
    stuck = or_stuck;
    reads = or_reads;
    word = first.word;
    value = first.value;
    some = inl first.some;
  }

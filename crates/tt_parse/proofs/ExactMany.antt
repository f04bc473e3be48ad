-- A reader of any number of spellings, one after another, is exact.
use Rattle.std.proofs.Common.{◌≡◌, ℕ, zero, suc, ◌+◌, ◌≤◌, Bool, true, false, List, [], ◌∷◌, ◌++◌, length, Ok, Err, refl, sym, ap, subst, ◌∙◌, append_assoc, arith, inl, inr}
use Rattle.std.proofs.lemmas.List.{length-append}
use Rattle.tt_parse.specs.Grammar.{Grammar, many}
use Rattle.tt_parse.specs.Reader.{Read, Reader, after, next_is, with_front, read_many_in, read_many}
use Rattle.tt_parse.proofs.Exact.{Begins, Ends, Ends-within, Exact, Got, SameHead, SameHead-front, Stuck, Within, after-at, after-stuck, after_err, after_ok, append-[], if_false, if_true, next-append, next-same, ok_rest, ok_value, which}

-- ---- any number of times

with_front_ok : {X A : Type 0} (a : A) (x : Read X (List A)) (vs : List A) (rest : List X) → with_front a x ≡ Ok (vs, rest) → (others : List A) × (x ≡ Ok (others, rest)) × (a ∷ others ≡ vs)
with_front_ok {X} {A} a (Ok x) vs rest e =
    (x.0, ap (λ (t : List X). Ok (x.0, t)) (ok_rest (a ∷ x.0) vs x.1 rest e), ok_value (a ∷ x.0) vs x.1 rest e)
with_front_ok a (Err d) vs rest e = absurd cc

with_front_err : {X A : Type 0} (a : A) (x : Read X (List A)) (rest : List X) → with_front a x ≡ Err rest → x ≡ Err rest
with_front_err a (Ok x) rest e = absurd cc
with_front_err a (Err d) rest e = cc

pub next-shown : {X : Type 0} (test : X → Bool) (x : List X) → next_is test x ≡ true → 1 ≤ length x
next-shown test [] h = absurd cc
next-shown test (s ∷ x) h = omega arith

pub record ManyGot {X A : Type 0} (test : X → Bool) (g : Grammar X A) (r : Reader X A) (ts : List X) (vs : List A) (rest : List X) : Type 0 where
  pub front : List X
  pub whole : ts ≡ front ++ rest
  pub fits : many g front vs
  pub again : (other : List X) → SameHead rest other → (m : ℕ) → length (front ++ other) ≤ m → read_many_in m test r (front ++ other) ≡ Ok (vs, other)

pub record ManyStuck {X A : Type 0} (test : X → Bool) (g : Grammar X A) (r : Reader X A) (ts : List X) (rest : List X) : Type 0 where
  pub front : List X
  pub whole : ts ≡ front ++ rest
  pub tail : List X
  pub values : List A
  pub goes_on : many g (front ++ tail) values
  pub again : (other : List X) → SameHead rest other → (m : ℕ) → length (front ++ other) ≤ m → read_many_in m test r (front ++ other) ≡ Err other

module _ {X A : Type 0} (test : X → Bool) (g : Grammar X A) (r : Reader X A) (more last : X → Bool)
    (each : Exact g r more) (begins : Begins g test) (apart : (s : X) → test s ≡ true → more s ≡ false)
    (within : Within more last) (stops : Within test last) where
  read_step : ℕ → Reader X (List A)
  read_step n ts = after (r ts) (λ a rest. with_front a (read_many_in n test r rest))

  read_yes : (n : ℕ) (ts : List X) → next_is test ts ≡ true → read_many_in (suc n) test r ts ≡ read_step n ts
  unfolding read_many_in read_step
  read_yes n ts h = if_true (next_is test ts) (read_step n ts) (Ok ([], ts)) h

  read_no : (n : ℕ) (ts : List X) → next_is test ts ≡ false → read_many_in n test r ts ≡ Ok ([], ts)
  unfolding read_many_in read_step
  read_no zero ts h = refl
  read_no (suc n) ts h = if_false (next_is test ts) (read_step n ts) (Ok ([], ts)) h

  -- a spelling of one takes a symbol at least
  front_long : (u : List X) (a : A) → g u a → 1 ≤ length u
  front_long u a f = next-shown test u (begins u a f)

  many_again : (m : ℕ) (front back : List X) (a : A) (other : List X) → next_is test (front ++ (back ++ other)) ≡ true →
      r (front ++ (back ++ other)) ≡ Ok (a, back ++ other) → 1 ≤ length front → length ((front ++ back) ++ other) ≤ m →
      (k : ℕ) × (read_many_in m test r ((front ++ back) ++ other) ≡ with_front a (read_many_in k test r (back ++ other))) × (length (back ++ other) ≤ k)
  unfolding read_step
  many_again zero front back a other t e l h =
      absurd (omega (arith, length-append (front ++ back) other, length-append front back))
  many_again (suc m) front back a other t e l h = (
    m,
    rw (append_assoc front back other) (read_yes m (front ++ (back ++ other)) t ∙ after-at (r (front ++ (back ++ other))) (λ a rest. with_front a (read_many_in m test r rest)) a (back ++ other) e),
    omega (arith, length-append (front ++ back) other, length-append front back, length-append back other),
  )

  none_next : (ts : List X) → length ts ≤ 0 → next_is test ts ≡ false
  none_next [] h = refl
  none_next (s ∷ ts) h = absurd (omega arith)

  none_got : (n : ℕ) (ts : List X) (vs : List A) (rest : List X) → next_is test ts ≡ false → read_many_in n test r ts ≡ Ok (vs, rest) → ManyGot test g r ts vs rest
  none_got n ts vs rest t e =
      let f : ◌≡◌ {A = Read X (List A)} (Ok ([], ts)) (Ok (vs, rest)) = sym (read_no n ts t) ∙ e in
      let at : ts ≡ rest = ok_rest [] vs ts rest f in
      let is : [] ≡ vs = ok_value [] vs ts rest f in
      record {
        front = [];
        whole = at;
        fits = subst (λ (w : List A). many g [] w) is refl;
        again = λ other h m l.
            read_no m other (sym (next-same test rest other h) ∙ ap (next_is test) (sym at) ∙ t) ∙ ap (λ (w : List A). Ok (w, other)) is;
      }

  many_got : (n : ℕ) (ts : List X) (vs : List A) (rest : List X) → length ts ≤ n → read_many_in n test r ts ≡ Ok (vs, rest) → ManyGot test g r ts vs rest
  unfolding read_step
  many_got zero ts vs rest l e = none_got zero ts vs rest (none_next ts l) e
  many_got (suc n) ts vs rest l e = elim (which (next_is test ts)) [
    | inr fails ↦ none_got (suc n) ts vs rest fails e
    | inl passes ↦
        (let w = after_ok (r ts) (λ a mid. with_front a (read_many_in n test r mid)) vs rest (sym (read_yes n ts passes) ∙ e) in
        let f = each.got ts w.value w.rest w.first in
        let others = with_front_ok w.value (read_many_in n test r w.rest) vs rest w.second in
        let shorter : length w.rest ≤ n = omega (arith, ap length f.whole, length-append f.front w.rest, front_long f.front w.value f.fits) in
        let ih = many_got n w.rest others.0 rest shorter others.1 in
        record {
          front = f.front ++ ih.front;
          whole = f.whole ∙ ap (λ (t : List X). f.front ++ t) ih.whole ∙ sym (append_assoc f.front ih.front rest);
          fits = subst (λ (v : List A). many g (f.front ++ ih.front) v) others.2 (f.front, ih.front, refl, f.fits, ih.fits);
          again = λ other h m k.
              (let st = many_again m f.front ih.front w.value other
              (next-append test f.front (ih.front ++ other) (begins f.front w.value f.fits))
              (f.again (ih.front ++ other) (subst (λ (t : List X). SameHead t (ih.front ++ other)) (sym ih.whole) (SameHead-front ih.front rest other h)))
              (front_long f.front w.value f.fits) k in
              st.1 ∙ ap (with_front w.value) (ih.again other h st.0 st.2) ∙ ap (λ (v : List A). Ok (v, other)) others.2);
        })
  ]

  stuck_again : (m : ℕ) (ts other : List X) → next_is test ts ≡ true → r ts ≡ Err other → length ts ≤ m → read_many_in m test r ts ≡ Err other
  unfolding read_step
  stuck_again zero ts other t e l = absurd (omega (arith, next-shown test ts t))
  stuck_again (suc m) ts other t e l = read_yes m ts t ∙ after-stuck (r ts) (λ a mid. with_front a (read_many_in m test r mid)) other e

  many_stuck : (n : ℕ) (ts rest : List X) → length ts ≤ n → read_many_in n test r ts ≡ Err rest → ManyStuck test g r ts rest
  unfolding read_step
  many_stuck zero ts rest l e =
      let p : ◌≡◌ {A = Read X (List A)} (Ok ([], ts)) (Err rest) = sym (read_no zero ts (none_next ts l)) ∙ e in absurd cc
  many_stuck (suc n) ts rest l e = elim (which (next_is test ts)) [
    | inr fails ↦ (let p : ◌≡◌ {A = Read X (List A)} (Ok ([], ts)) (Err rest) = sym (read_no (suc n) ts fails) ∙ e in absurd cc)
    | inl passes ↦
        (elim (after_err (r ts) (λ a mid. with_front a (read_many_in n test r mid)) rest (sym (read_yes n ts passes) ∙ e)) [
          | inl e1 ↦
              (let f = each.stuck ts rest e1 in
              record {
                front = f.front;
                whole = f.whole;
                tail = f.tail;
                values = f.value ∷ [];
                goes_on = (f.front ++ f.tail, [], sym (append-[] (f.front ++ f.tail)), f.goes_on, refl);
                again = λ other h m k.
                    stuck_again m (f.front ++ other) other
                    (sym (next-same test (f.front ++ rest) (f.front ++ other) (SameHead-front f.front rest other h)) ∙ ap (next_is test) (sym f.whole) ∙ passes)
                    (f.again other h) k;
              })
          | inr w ↦
              (let f = each.got ts w.value w.rest w.first in
              let shorter : length w.rest ≤ n = omega (arith, ap length f.whole, length-append f.front w.rest, front_long f.front w.value f.fits) in
              let ih = many_stuck n w.rest rest shorter (with_front_err w.value (read_many_in n test r w.rest) rest w.second) in
              record {
                front = f.front ++ ih.front;
                whole = f.whole ∙ ap (λ (t : List X). f.front ++ t) ih.whole ∙ sym (append_assoc f.front ih.front rest);
                tail = ih.tail;
                values = w.value ∷ ih.values;
                goes_on = (f.front, ih.front ++ ih.tail, append_assoc f.front ih.front ih.tail, f.fits, ih.goes_on);
                again = λ other h m k.
                    (let st = many_again m f.front ih.front w.value other
                    (next-append test f.front (ih.front ++ other) (begins f.front w.value f.fits))
                    (f.again (ih.front ++ other) (subst (λ (t : List X). SameHead t (ih.front ++ other)) (sym ih.whole) (SameHead-front ih.front rest other h)))
                    (front_long f.front w.value f.fits) k in
                    st.1 ∙ ap (with_front w.value) (ih.again other h st.0 st.2));
              })
        ])
  ]

  ends_next : (y : List X) → next_is test y ≡ true → Ends more y
  ends_next [] h = refl
  ends_next (s ∷ y) h = apart s h

  many_next : (vs : List A) (back rest : List X) → many g back vs → Ends last rest → Ends more (back ++ rest)
  many_next [] back rest f h = rw f (Ends-within more last within rest h)
  many_next (v ∷ vs) back rest f h =
      ends_next (back ++ rest) (rw f.2 (rw (append_assoc f.0 f.1 rest) (next-append test f.0 (f.1 ++ rest) (begins f.0 v f.3))))

  stops_next : (y : List X) → Ends last y → next_is test y ≡ false
  stops_next [] h = refl
  stops_next (s ∷ y) h = stops s h

  many_reads : (n : ℕ) (vs : List A) (ts rest : List X) → many g ts vs → Ends last rest → length (ts ++ rest) ≤ n → read_many_in n test r (ts ++ rest) ≡ Ok (vs, rest)
  many_reads n [] ts rest f h l = rw f (read_no n rest (stops_next rest h))
  many_reads n (v ∷ vs) ts rest f h l =
      let l' : length ((f.0 ++ f.1) ++ rest) ≤ n = rw (← f.2) l in
      let st = many_again n f.0 f.1 v rest
      (next-append test f.0 (f.1 ++ rest) (begins f.0 v f.3))
      (each.reads f.0 (f.1 ++ rest) v f.3 (many_next vs f.1 rest f.4 h))
      (front_long f.0 v f.3) l' in
      ap (λ (t : List X). read_many_in n test r (t ++ rest)) f.2 ∙ st.1 ∙ ap (with_front v) (many_reads st.0 vs f.1 rest f.4 h st.2)

  as_got : (ts : List X) (vs : List A) (rest : List X) → ManyGot test g r ts vs rest → Got (many g) (read_many test r) ts vs rest
  as_got ts vs rest f = record {
    front = f.front;
    whole = f.whole;
    fits = f.fits;
    again = λ other h. f.again other h (length (f.front ++ other)) (omega arith);
  }

  as_stuck : (ts rest : List X) → ManyStuck test g r ts rest → Stuck (many g) (read_many test r) ts rest
  as_stuck ts rest f = record {
    front = f.front;
    whole = f.whole;
    tail = f.tail;
    value = f.values;
    goes_on = f.goes_on;
    again = λ other h. f.again other h (length (f.front ++ other)) (omega arith);
  }

  pub exact-many : Exact (many g) (read_many test r) last
  exact-many = record {
    got = λ ts vs rest e. as_got ts vs rest (many_got (length ts) ts vs rest (omega arith) e);
    stuck = λ ts rest e. as_stuck ts rest (many_stuck (length ts) ts rest (omega arith) e);
    reads = λ ts rest vs f h. many_reads (length (ts ++ rest)) vs ts rest f h (omega arith);
    word = [];
    value = [];
    some = refl;
  }

  -- the loop's steps
  pub many-stops : (ts : List X) → next_is test ts ≡ false → read_many test r ts ≡ Ok ([], ts)
  many-stops ts h = read_no (length ts) ts h

  fuel_step : (n m : ℕ) (ts : List X) → length ts ≤ suc n → length ts ≤ suc m → next_is test ts ≡ true → (x : Read X A) → r ts ≡ x →
      ((mid : List X) → length mid ≤ n → length mid ≤ m → read_many_in n test r mid ≡ read_many_in m test r mid) → read_step n ts ≡ read_step m ts
  unfolding read_step
  fuel_step n m ts l k passes (Ok x) e ih =
      let f = each.got ts x.0 x.1 e in
      let long = front_long f.front x.0 f.fits in
      let whole : length ts ≡ length f.front + length x.1 = ap length f.whole ∙ length-append f.front x.1 in
      rw e (ap (with_front x.0) (ih x.1 (omega arith) (omega arith)))
  fuel_step n m ts l k passes (Err d) e ih = rw e refl

  fuel : (n m : ℕ) (ts : List X) → length ts ≤ n → length ts ≤ m → read_many_in n test r ts ≡ read_many_in m test r ts
  fuel zero m ts l k = read_no zero ts (none_next ts l) ∙ sym (read_no m ts (none_next ts l))
  fuel (suc n) zero ts l k = read_no (suc n) ts (none_next ts k) ∙ sym (read_no zero ts (none_next ts k))
  fuel (suc n) (suc m) ts l k = elim (which (next_is test ts)) [
    | inr fails ↦ read_no (suc n) ts fails ∙ sym (read_no (suc m) ts fails)
    | inl passes ↦ read_yes n ts passes ∙ fuel_step n m ts l k passes (r ts) refl (λ mid a b. fuel n m mid a b) ∙ sym (read_yes m ts passes)
  ]

  many_on : (n : ℕ) (ts : List X) → length ts ≤ n → next_is test ts ≡ true → read_many_in n test r ts ≡ after (r ts) (λ a mid. with_front a (read_many test r mid))
  unfolding read_step
  many_on zero ts l h = absurd (omega (arith, next-shown test ts h))
  many_on (suc n) ts l h = read_yes n ts h ∙ on_step n ts l h (r ts) refl where
    on_step : (n : ℕ) (ts : List X) → length ts ≤ suc n → next_is test ts ≡ true → (x : Read X A) → r ts ≡ x →
        after (r ts) (λ a mid. with_front a (read_many_in n test r mid)) ≡ after (r ts) (λ a mid. with_front a (read_many test r mid))
    on_step n ts l h (Ok x) e =
        let f = each.got ts x.0 x.1 e in
        let long = front_long f.front x.0 f.fits in
        let whole : length ts ≡ length f.front + length x.1 = ap length f.whole ∙ length-append f.front x.1 in
        rw e (ap (with_front x.0) (fuel n (length x.1) x.1 (omega arith) (omega arith)))
    on_step n ts l h (Err d) e = rw e refl

  pub many-goes_on : (ts : List X) → next_is test ts ≡ true → read_many test r ts ≡ after (r ts) (λ a mid. with_front a (read_many test r mid))
  many-goes_on ts h = many_on (length ts) ts (omega arith) h

-- Reading from the left: a value and what stands behind it, or what stands from the first symbol on that fits nothing.
use Rattle.std.specs.Prelude.{ℕ, zero, suc, Bool, false, List, [], ◌∷◌, length, Option, Some, None, Result, Ok, Err, if◌then◌else◌}

abbrev pub Read : Type 0 → Type 0 → Type 0
Read X A = Result (A × List X) (List X)

abbrev pub Reader : Type 0 → Type 0 → Type 0
Reader X A = List X → Read X A

abbrev pub after : {X A B : Type 0} → Read X A → (A → Reader X B) → Read X B
after (Ok x) k = k x.0 x.1
after (Err rest) k = Err rest

abbrev pub read_nothing : {X A : Type 0} → A → Reader X A
read_nothing value ts = Ok (value, ts)

abbrev pub found : {X A : Type 0} → Option A → X → List X → Read X A
found (Some a) s ts = Ok (a, ts)
found None s ts = Err (s ∷ ts)

abbrev pub read_one : {X A : Type 0} → (X → Option A) → Reader X A
read_one test [] = Err []
read_one test (s ∷ ts) = found (test s) s ts

infixl 10 ◌>>=◌
abbrev pub ◌>>=◌ : {X A B : Type 0} → Reader X A → (A → Reader X B) → Reader X B
(r >>= k) ts = after (r ts) k

infixl 10 ◌>>◌
abbrev pub ◌>>◌ : {X A B : Type 0} → Reader X A → Reader X B → Reader X B
r >> q = r >>= (λ _. q)

-- does the next symbol pass the test?
abbrev pub next_is : {X : Type 0} → (X → Bool) → List X → Bool
next_is test [] = false
next_is test (s ∷ ts) = test s

abbrev pub read_if : {X A : Type 0} → (X → Bool) → Reader X A → Reader X A → Reader X A
read_if test r q ts = if next_is test ts then r ts else q ts

abbrev pub with_front : {X A : Type 0} → A → Read X (List A) → Read X (List A)
with_front a (Ok x) = Ok (a ∷ x.0, x.1)
with_front a (Err rest) = Err rest

unfoldable pub read_many_in : {X A : Type 0} → ℕ → (X → Bool) → Reader X A → Reader X (List A)
read_many_in zero test r ts = Ok ([], ts)
read_many_in (suc n) test r ts =
    if next_is test ts then after (r ts) (λ a rest. with_front a (read_many_in n test r rest)) else Ok ([], ts)

-- as long as the next symbol passes the test; each time takes a symbol at least
abbrev pub read_many : {X A : Type 0} → (X → Bool) → Reader X A → Reader X (List A)
read_many test r ts = read_many_in (length ts) test r ts

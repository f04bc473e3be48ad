-- Names that differ: there are no more of them than of those among which they are, and each has its own position.
use Rattle.std.proofs.Common.{◌≡◌, ◌<◌, ◌≤◌, ◌⊎◌, inl, inr, ℕ, zero, suc, Bool, true, false, cond, ◌||◌, List, [], ◌∷◌, Option, Some, None, unwrap_or, length, refl, sym, ap, ◌∙◌, arith, true≢false}
use Rattle.std.proofs.lemmas.Bool.{lt-ltb, and_from, and_parts, or_parts, or_cases, or_left, or_right, both_ways, false_from_ne_true}
use Rattle.std.proofs.lemmas.Slice.Eq.{bytes_eq-Decides}
use Rattle.std.proofs.lemmas.List.Quantifiers.{position-Some}
use Rattle.std.proofs.lemmas.List.Sums.{position_or_len_is}
use Rattle.std.specs.Prelude.{get_or, nat_lt, bytes_eq, position, option_map}
use Rattle.std.specs.List.{list_any, list_all, position_or_len}
use Rattle.tt_model.specs.System.{has_twice, key_position}

abbrev pub Names : Type 0
Names = List (List ℕ)

pub same-bytes : (a b : List ℕ) → bytes_eq a b ≡ true → a ≡ b
same-bytes a b h = (bytes_eq-Decides a b).0 h

bytes_same : (a : List ℕ) → bytes_eq a a ≡ true
bytes_same a = (bytes_eq-Decides a a).1 refl

bytes_flip : (a b : List ℕ) → bytes_eq a b ≡ true → bytes_eq b a ≡ true
bytes_flip a b h = (bytes_eq-Decides b a).1 (sym (same-bytes a b h))

-- ---- no more names than those among which they are

without_first : List ℕ → Names → Names
without_first x [] = []
without_first x (y ∷ ys) = cond (bytes_eq x y) ys (y ∷ without_first x ys)

length_step : (x y : List ℕ) (ys : Names) → (list_any (bytes_eq x) ys ≡ true → suc (length (without_first x ys)) ≡ length ys) → (b : Bool) → (b || list_any (bytes_eq x) ys) ≡ true →
    suc (length (cond b ys (y ∷ without_first x ys))) ≡ suc (length ys)
length_step x y ys ih true h = refl
length_step x y ys ih false h = ap (λ k. suc k) (ih h)

length_without : (x : List ℕ) (ys : Names) → list_any (bytes_eq x) ys ≡ true → suc (length (without_first x ys)) ≡ length ys
unfolding without_first
length_without x [] h = absurd (true≢false (sym h))
length_without x (y ∷ ys) h = length_step x y ys (length_without x ys) (bytes_eq x y) h

still_step : (x z y : List ℕ) (ys : Names) → bytes_eq x z ≡ false → (list_any (bytes_eq z) ys ≡ true → list_any (bytes_eq z) (without_first x ys) ≡ true) → (b : Bool) → bytes_eq x y ≡ b →
    (bytes_eq z y || list_any (bytes_eq z) ys) ≡ true → list_any (bytes_eq z) (cond b ys (y ∷ without_first x ys)) ≡ true
still_step x z y ys n ih true e h = elim (or_cases (bytes_eq z y) (list_any (bytes_eq z) ys) h) [
  | inl k ↦ absurd (both_ways (bytes_eq x z) n ((bytes_eq-Decides x z).1 (same-bytes x y e ∙ sym (same-bytes z y k))))
  | inr k ↦ k
]
still_step x z y ys n ih false e h = elim (or_cases (bytes_eq z y) (list_any (bytes_eq z) ys) h) [
  | inl k ↦ or_left (bytes_eq z y) (list_any (bytes_eq z) (without_first x ys)) k
  | inr k ↦ or_right (bytes_eq z y) (list_any (bytes_eq z) (without_first x ys)) (ih k)
]

still_there : (x z : List ℕ) (ys : Names) → bytes_eq x z ≡ false → list_any (bytes_eq z) ys ≡ true → list_any (bytes_eq z) (without_first x ys) ≡ true
unfolding without_first
still_there x z [] n h = absurd (true≢false (sym h))
still_there x z (y ∷ ys) n h = still_step x z y ys n (still_there x z ys n) (bytes_eq x y) refl h

all_still : (x : List ℕ) (xs ys : Names) → list_any (bytes_eq x) xs ≡ false → list_all (λ z. list_any (bytes_eq z) ys) xs ≡ true → list_all (λ z. list_any (bytes_eq z) (without_first x ys)) xs ≡ true
all_still x [] ys n h = refl
all_still x (z ∷ zs) ys n h =
    let none : (bytes_eq x z ≡ false) × (list_any (bytes_eq x) zs ≡ false) = or_parts (bytes_eq x z) (list_any (bytes_eq x) zs) n in
    let parts : (list_any (bytes_eq z) ys ≡ true) × (list_all (λ z. list_any (bytes_eq z) ys) zs ≡ true) = and_parts (list_any (bytes_eq z) ys) (list_all (λ z. list_any (bytes_eq z) ys) zs) h in
    and_from (list_any (bytes_eq z) (without_first x ys)) (list_all (λ z. list_any (bytes_eq z) (without_first x ys)) zs) (still_there x z ys (none.0) (parts.0)) (all_still x zs ys (none.1) (parts.1))

pub no-more : (xs ys : Names) → has_twice xs ≡ false → list_all (λ x. list_any (bytes_eq x) ys) xs ≡ true → length xs ≤ length ys
no-more [] ys n h = omega arith
no-more (x ∷ xs) ys n h =
    let none : (list_any (bytes_eq x) xs ≡ false) × (has_twice xs ≡ false) = or_parts (list_any (bytes_eq x) xs) (has_twice xs) n in
    let parts : (list_any (bytes_eq x) ys ≡ true) × (list_all (λ z. list_any (bytes_eq z) ys) xs ≡ true) = and_parts (list_any (bytes_eq x) ys) (list_all (λ z. list_any (bytes_eq z) ys) xs) h in
    let rest : length xs ≤ length (without_first x ys) = no-more xs (without_first x ys) (none.1) (all_still x xs ys (none.0) (parts.1)) in
    let one : suc (length (without_first x ys)) ≡ length ys = length_without x ys (parts.0) in
    omega (arith, rest, one)

-- ---- positions in a key

at_there : (ys : Names) (i : ℕ) → i < length ys → list_any (bytes_eq (get_or ys i [])) ys ≡ true
at_there [] i l = absurd (omega (arith, l))
at_there (y ∷ ys) zero l = or_left (bytes_eq y y) (list_any (bytes_eq y) ys) (bytes_same y)
at_there (y ∷ ys) (suc i) l = or_right (bytes_eq (get_or ys i []) y) (list_any (bytes_eq (get_or ys i [])) ys) (at_there ys i (omega (arith, l)))

any_flip : (x y : List ℕ) (ys : Names) → x ≡ y → list_any (bytes_eq x) ys ≡ true → list_any (bytes_eq y) ys ≡ true
any_flip x y ys e h = ap (λ z. list_any (bytes_eq z) ys) (sym e) ∙ h

-- In names that differ each has one place.
place-once : (ys : Names) (i j : ℕ) → has_twice ys ≡ false → i < length ys → j < length ys → get_or ys i [] ≡ get_or ys j [] → i ≡ j
place-once [] i j n l m e = absurd (omega (arith, l))
place-once (y ∷ ys) zero zero n l m e = refl
place-once (y ∷ ys) zero (suc j) n l m e =
    absurd (both_ways (list_any (bytes_eq y) ys) ((or_parts (list_any (bytes_eq y) ys) (has_twice ys) n).0) (any_flip (get_or ys j []) y ys (sym e) (at_there ys j (omega (arith, m)))))
place-once (y ∷ ys) (suc i) zero n l m e =
    absurd (both_ways (list_any (bytes_eq y) ys) ((or_parts (list_any (bytes_eq y) ys) (has_twice ys) n).0) (any_flip (get_or ys i []) y ys e (at_there ys i (omega (arith, l)))))
place-once (y ∷ ys) (suc i) (suc j) n l m e =
    ap (λ k. suc k) (place-once ys i j ((or_parts (list_any (bytes_eq y) ys) (has_twice ys) n).1) (omega (arith, l)) (omega (arith, m)) e)

first_at : (ys : Names) (i : ℕ) → has_twice ys ≡ false → i < length ys → position_or_len (bytes_eq (get_or ys i [])) ys ≡ i
first_at ys i n l = position_or_len_is (bytes_eq (get_or ys i [])) ys i [] (omega (arith, l))
    (λ k m. false_from_ne_true (bytes_eq (get_or ys i []) (get_or ys k [])) (λ y.
    let same : i ≡ k = place-once ys i k n l (omega (arith, l, m)) (same-bytes (get_or ys i []) (get_or ys k []) y) in omega (arith, same, m)))
    (λ m. bytes_same (get_or ys i []))

-- The name at a place of a key has the position above it.
pub key_position-at : (key : Names) (i : ℕ) → has_twice key ≡ false → i < length key → key_position key (get_or key i []) ≡ suc i
key_position-at key i n l =
    ap (λ k. unwrap_or (option_map suc (cond (nat_lt k (length key)) (Some k) None)) 0) (first_at key i n l)
    ∙ ap (λ b. unwrap_or (option_map suc (cond b (Some i) None)) 0) (lt-ltb i (length key) l)

key_by : (key : Names) (x : List ℕ) (o : Option ℕ) → position (bytes_eq x) key ≡ o → (unwrap_or (option_map suc o) 0 ≤ length key) × ((unwrap_or (option_map suc o) 0 ≡ 0) ⊎ (list_any (bytes_eq x) key ≡ true))
key_by key x None e = (omega arith, inl refl)
key_by key x (Some i) e =
    let p = position-Some (bytes_eq x) key i [] e in
    let low : i < length key = p.0 in
    (omega (arith, low), inr (any_flip (get_or key i []) x key (sym (same-bytes x (get_or key i []) (p.1))) (at_there key i (p.0))))

pub key_position-most : (key : Names) (x : List ℕ) → key_position key x ≤ length key
key_position-most key x = (key_by key x (position (bytes_eq x) key) refl).0

pub key_position-there : (key : Names) (x : List ℕ) → (key_position key x ≡ 0) ⊎ (list_any (bytes_eq x) key ≡ true)
key_position-there key x = (key_by key x (position (bytes_eq x) key) refl).1

-- A name at a place is among the names of which all are.
pub all-at : (f : List ℕ → Bool) (ys : Names) (i : ℕ) → list_all f ys ≡ true → i < length ys → f (get_or ys i []) ≡ true
all-at f [] i h l = absurd (omega (arith, l))
all-at f (y ∷ ys) zero h l = (and_parts (f y) (list_all f ys) h).0
all-at f (y ∷ ys) (suc i) h l = all-at f ys i ((and_parts (f y) (list_all f ys) h).1) (omega (arith, l))

-- Names that differ, each among some others, are no more than these; and texts of column positions are short.
use Rattle.std.proofs.Common.{◌≡◌, ◌≤◌, ◌<◌, ◌+◌, inl, inr, ℕ, zero, suc, Bool, true, false, not, cond, ◌||◌, nat_eq, List, [], ◌∷◌, filter, find, map, length, get_or, Option, Some, None, unwrap_or, refl, sym, ap, ◌∙◌, arith, le_refl, true≢false}
use Rattle.std.proofs.lemmas.Bool.{and_parts, both_ways, or_cases, or_left, or_parts, or_right}
use Rattle.std.proofs.lemmas.List.Quantifiers.{position-Some}
use Rattle.std.proofs.lemmas.Slice.Eq.{bytes_eq-Decides}
use Rattle.std.specs.Prelude.{bytes_eq, is_some, position}
use Rattle.std.specs.List.{list_all, list_any}
use Rattle.tt_parse.specs.declared.command.ColumnText.{ColumnText}
use Rattle.tt_value.specs.declared.value.ColumnType.TheVariants.{BigInt}
use Rattle.tt_model.specs.Live.{numbers_from}
use Rattle.tt_model.specs.System.{has_twice, least_unused}
use Rattle.tt_model.specs.WholeRuns.{Each}

pub mapped-length : {X Y : Type 0} (f : X → Y) (xs : List X) → length (map f xs) ≡ length xs
mapped-length f [] = refl
mapped-length f (x ∷ xs) = ap suc (mapped-length f xs)

abbrev others : List ℕ → List (List ℕ) → List (List ℕ)
others x names = filter (λ k. not (bytes_eq x k)) names

same_bytes : (a b : List ℕ) → bytes_eq a b ≡ true → a ≡ b
same_bytes a b h = (bytes_eq-Decides a b).0 h

bytes_same : (a b : List ℕ) → a ≡ b → bytes_eq a b ≡ true
bytes_same a b h = (bytes_eq-Decides a b).1 h

kept_step : (x y k : List ℕ) (rest kept : List (List ℕ)) → bytes_eq x y ≡ false → (list_any (bytes_eq y) rest ≡ true → list_any (bytes_eq y) kept ≡ true) → (bytes_eq y k || list_any (bytes_eq y) rest) ≡ true →
    (c : Bool) → bytes_eq x k ≡ c → list_any (bytes_eq y) (cond (not c) (k ∷ kept) kept) ≡ true
kept_step x y k rest kept apart ih h false e = elim (or_cases (bytes_eq y k) (list_any (bytes_eq y) rest) h) [
  | inl here ↦ or_left (bytes_eq y k) (list_any (bytes_eq y) kept) here
  | inr there ↦ or_right (bytes_eq y k) (list_any (bytes_eq y) kept) (ih there)
]
kept_step x y k rest kept apart ih h true e = elim (or_cases (bytes_eq y k) (list_any (bytes_eq y) rest) h) [
  | inl here ↦ absurd (both_ways (bytes_eq x y) apart (bytes_same x y (same_bytes x k e ∙ sym (same_bytes y k here))))
  | inr there ↦ ih there
]

kept : (x y : List ℕ) (names : List (List ℕ)) → bytes_eq x y ≡ false → list_any (bytes_eq y) names ≡ true → list_any (bytes_eq y) (others x names) ≡ true
kept x y [] apart h = h
kept x y (k ∷ names) apart h = kept_step x y k names (others x names) apart (kept x y names apart) h (bytes_eq x k) refl

fewer_all : (x : List ℕ) (names : List (List ℕ)) → length (others x names) ≤ length names
fewer_all x [] = le_refl 0
fewer_all x (k ∷ names) = by (not (bytes_eq x k)) (fewer_all x names)
  where
    by : (c : Bool) → length (others x names) ≤ length names → length (cond c (k ∷ others x names) (others x names)) ≤ suc (length names)
    by true h = omega (arith, h)
    by false h = omega (arith, h)

less_step : (x k : List ℕ) (names : List (List ℕ)) → (list_any (bytes_eq x) names ≡ true → suc (length (others x names)) ≤ length names) → (c : Bool) → bytes_eq x k ≡ c →
    (c || list_any (bytes_eq x) names) ≡ true → suc (length (cond (not c) (k ∷ others x names) (others x names))) ≤ suc (length names)
less_step x k names ih true e h = let all : length (others x names) ≤ length names = fewer_all x names in omega (arith, all)
less_step x k names ih false e h = let less : suc (length (others x names)) ≤ length names = ih h in omega (arith, less)

less : (x : List ℕ) (names : List (List ℕ)) → list_any (bytes_eq x) names ≡ true → suc (length (others x names)) ≤ length names
less x [] h = absurd (true≢false (sym h))
less x (k ∷ names) h = less_step x k names (less x names) (bytes_eq x k) refl h

abbrev pub AllIn : List (List ℕ) → List (List ℕ) → Type 0
AllIn names xs = Each (λ (x : List ℕ). list_any (bytes_eq x) names ≡ true) xs

rest_in : (x : List ℕ) (names xs : List (List ℕ)) → list_any (bytes_eq x) xs ≡ false → AllIn names xs → AllIn (others x names) xs
rest_in x names [] n h = tt
rest_in x names (y ∷ ys) n h =
    let parts : (bytes_eq x y ≡ false) × (list_any (bytes_eq x) ys ≡ false) = or_parts (bytes_eq x y) (list_any (bytes_eq x) ys) n in
    (kept x y names (parts.0) (h.0), rest_in x names ys (parts.1) (h.1))

pub no_more : (xs names : List (List ℕ)) → has_twice xs ≡ false → AllIn names xs → length xs ≤ length names
no_more [] names n h = omega arith
no_more (x ∷ xs) names n h =
    let parts : (list_any (bytes_eq x) xs ≡ false) × (has_twice xs ≡ false) = or_parts (list_any (bytes_eq x) xs) (has_twice xs) n in
    let ih : length xs ≤ length (others x names) = no_more xs (others x names) (parts.1) (rest_in x names xs (parts.0) (h.1)) in
    let fewer : suc (length (others x names)) ≤ length names = less x names (h.0) in
    omega (arith, ih, fewer)

-- ---- positions of named columns

no_column : ColumnText
no_column = record { name = []; kind = BigInt; required = false }

named_at : (name : List ℕ) (cs : List ColumnText) (i : ℕ) → i < length cs → bytes_eq (get_or cs i no_column).name name ≡ true → list_any (bytes_eq name) (map (λ (c : ColumnText). c.name) cs) ≡ true
named_at name [] i low h = let no : ⊥ = omega (arith, low) in absurd no
named_at name (c ∷ cs) zero low h = or_left (bytes_eq name c.name) (list_any (bytes_eq name) (map (λ (c : ColumnText). c.name) cs)) (bytes_same name c.name (sym (same_bytes c.name name h)))
named_at name (c ∷ cs) (suc i) low h = or_right (bytes_eq name c.name) (list_any (bytes_eq name) (map (λ (c : ColumnText). c.name) cs)) (named_at name cs i (omega (arith, low)) h)

named_in : (name : List ℕ) (cs : List ColumnText) (o : Option ℕ) → position (λ (c : ColumnText). bytes_eq c.name name) cs ≡ o → is_some o ≡ true →
    (list_any (bytes_eq name) (map (λ (c : ColumnText). c.name) cs) ≡ true) × (unwrap_or o 0 < length cs)
named_in name cs None e h = absurd (true≢false (sym h))
named_in name cs (Some i) e h =
    let found = position-Some (λ (c : ColumnText). bytes_eq c.name name) cs i no_column e in (named_at name cs i (found.0) (found.1), found.0)

pub named-columns : (cs : List ColumnText) (names : List (List ℕ)) → list_all (λ name. is_some (position (λ (c : ColumnText). bytes_eq c.name name) cs)) names ≡ true →
    AllIn (map (λ (c : ColumnText). c.name) cs) names × Each (λ name. unwrap_or (position (λ (c : ColumnText). bytes_eq c.name name) cs) 0 < length cs) names
named-columns cs [] h = (tt, tt)
named-columns cs (name ∷ names) h =
    let o : Option ℕ = position (λ (c : ColumnText). bytes_eq c.name name) cs in
    let parts : (is_some o ≡ true) × (list_all (λ name. is_some (position (λ (c : ColumnText). bytes_eq c.name name) cs)) names ≡ true)
    = and_parts (is_some o) (list_all (λ name. is_some (position (λ (c : ColumnText). bytes_eq c.name name) cs)) names) h in
    let one = named_in name cs o refl (parts.0) in
    let rest = named-columns cs names (parts.1) in
    ((one.0, rest.0), (one.1, rest.1))

-- ---- unused numbers

found_low : (p : ℕ → Bool) (n from other most : ℕ) → other ≤ most → from + n ≤ suc most → unwrap_or (find p (numbers_from n from)) other ≤ most
found_low p zero from other most low all = low
found_low p (suc n) from other most low all = by (p from) (found_low p n (suc from) other most low (omega (arith, all)))
  where
    by : (c : Bool) → unwrap_or (find p (numbers_from n (suc from))) other ≤ most → unwrap_or (cond c (Some from) (find p (numbers_from n (suc from)))) other ≤ most
    by true h = omega (arith, all)
    by false h = h

pub unused-low : (from : ℕ) (used : List ℕ) → least_unused from used ≤ from + length used
unused-low from used = found_low (λ n. not (list_any (nat_eq n) used)) (suc (length used)) from from (from + length used) (omega arith) (omega arith)

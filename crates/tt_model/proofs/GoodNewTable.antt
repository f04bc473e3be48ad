-- The columns of a new table follow the rules of columns.
use Rattle.std.proofs.Common.{◌≡◌, ◌<◌, ◌≤◌, ◌+◌, ◌-◌, inl, inr, ℕ, zero, suc, Bool, true, false, cond, ◌&&◌, ◌||◌, nat_eq, filter, map, List, [], ◌∷◌, length, refl, sym, ap, ◌∙◌, subst, arith, true≢false}
use Rattle.std.proofs.lemmas.Bool.{cases_Bool, eqb-true, le-ltb, and_from, or_parts, or_from, or_cases, or_left, or_right, both_ways, false_from_ne_true, not_from_true, not_from_false}
use Rattle.std.proofs.lemmas.List.Sums.{sum_by-cons, length-filter}
use Rattle.std.specs.Prelude.{get_or, not, bytes_eq, count_by}
use Rattle.std.specs.List.{list_any, list_all}
use Rattle.tt_value.specs.Same.{same_value}
use Rattle.tt_value.specs.declared.value.Value.{Value}
use Rattle.tt_value.specs.declared.value.Value.TheVariants.{Text}
use Rattle.tt_value.specs.declared.value.Row.{Row}
use Rattle.tt_parse.specs.declared.command.ColumnText.{ColumnText}
use Rattle.tt_model.specs.Live.{numbers_from}
use Rattle.tt_model.specs.Holders.{value_at}
use Rattle.tt_model.specs.Tables.{PlacedRow}
use Rattle.tt_model.specs.System.{number, row, has_twice, key_position}
use Rattle.tt_model.specs.Damage.{is_number, are_counted, values_in, is_twice, key_positions}
use Rattle.tt_model.proofs.ConflictLemmas.{same_value-self}
use Rattle.tt_model.proofs.GoodPlaces.{any-filter}
use Rattle.tt_model.proofs.GoodRemovals.{wrong_own}
use Rattle.tt_model.proofs.GoodValues.{same-value}
use Rattle.tt_model.proofs.GoodTaken.{number-in, count-all}
use Rattle.tt_model.proofs.GoodNumbers.{count-map}
use Rattle.tt_model.proofs.GoodColumns.{number-range}
use Rattle.tt_model.proofs.GoodKeys.{Names, no-more, same-bytes, key_position-at, key_position-there, all-at}
use Rattle.tt_model.proofs.GoodNewColumns.{column_values, new_rows}

-- ---- counts and tests

one_more : {X : Type 0} (f : X → Bool) (x : X) (xs : List X) → count_by f (x ∷ xs) ≡ cond (f x) 1 0 + count_by f xs
one_more f x xs = sum_by-cons (λ y. cond (f y) 1 0) x xs

count_any_step : (b m : Bool) (k : ℕ) → (1 ≤ k → m ≡ true) → 1 ≤ cond b 1 0 + k → (b || m) ≡ true
count_any_step true m k f l = refl
count_any_step false m k f l = f (omega (arith, l))

count-any : {X : Type 0} (f : X → Bool) (xs : List X) → 1 ≤ count_by f xs → list_any f xs ≡ true
count-any f [] l = let no_count : 1 ≤ 0 = l in absurd (omega (arith, no_count))
count-any f (x ∷ xs) l = count_any_step (f x) (list_any f xs) (count_by f xs) (count-any f xs) (subst (λ (k : ℕ). 1 ≤ k) (one_more f x xs) l)

any_count_step : (b m : Bool) (k : ℕ) → (m ≡ true → 1 ≤ k) → (b || m) ≡ true → 1 ≤ cond b 1 0 + k
any_count_step true m k f h = omega arith
any_count_step false m k f h = let l : 1 ≤ k = f h in omega (arith, l)

any-count : {X : Type 0} (f : X → Bool) (xs : List X) → list_any f xs ≡ true → 1 ≤ count_by f xs
any-count f [] h = absurd (true≢false (sym h))
any-count f (x ∷ xs) h = subst (λ (k : ℕ). 1 ≤ k) (sym (one_more f x xs)) (any_count_step (f x) (list_any f xs) (count_by f xs) (any-count f xs) h)

not-twice : (vs : List Value) → ((v : Value) → count_by (same_value v) vs ≤ 1) → is_twice vs ≡ false
not-twice [] h = refl
not-twice (v ∷ vs) h =
    let own : count_by (same_value v) (v ∷ vs) ≤ 1 = h v in
    let e : count_by (same_value v) (v ∷ vs) ≡ 1 + count_by (same_value v) vs = one_more (same_value v) v vs ∙ ap (λ b. cond b 1 0 + count_by (same_value v) vs) (same_value-self v) in
    or_from (list_any (same_value v) vs) (is_twice vs)
    (false_from_ne_true (list_any (same_value v) vs) (λ y. let some : 1 ≤ count_by (same_value v) vs = any-count (same_value v) vs y in omega (arith, own, e, some)))
    (not-twice vs (λ w. let all : count_by (same_value w) (v ∷ vs) ≤ 1 = h w in let f : count_by (same_value w) (v ∷ vs) ≡ cond (same_value w v) 1 0 + count_by (same_value w) vs = one_more (same_value w) v vs in omega (arith, all, f)))

all-from : (f : ℕ → Bool) (n from : ℕ) → ((k : ℕ) → from ≤ k → k < from + n → f k ≡ true) → list_all f (numbers_from n from) ≡ true
all-from f zero from h = refl
all-from f (suc n) from h = and_from (f from) (list_all f (numbers_from n (suc from))) (h from (omega arith) (omega arith)) (all-from f n (suc from) (λ k l m. h k (omega (arith, l)) (omega (arith, m))))

-- ---- the new rows

abbrev pub names_of : List ColumnText → Names
names_of cs = map (λ c. c.name) cs

module _ (id : ℕ) (key : Names) where
  length-rows : (n : ℕ) (cs : List ColumnText) → length (new_rows id key n cs) ≡ length cs
  length-rows n [] = refl
  length-rows n (c ∷ cs) = ap (λ k. suc k) (length-rows (suc n) cs)

  -- Each position from the first on is there.
  position-there : (n : ℕ) (cs : List ColumnText) (k : ℕ) → n ≤ k → k < n + length cs → 1 ≤ count_by (λ r. is_number k (value_at r 1)) (new_rows id key n cs)
  position-there n [] k l m = absurd (omega (arith, l, m))
  position-there n (c ∷ cs) k l m =
      let e : count_by (λ r. is_number k (value_at r 1)) (new_rows id key n (c ∷ cs)) ≡ cond (is_number k (number n)) 1 0 + count_by (λ r. is_number k (value_at r 1)) (new_rows id key (suc n) cs)
      = one_more (λ (r : Row). is_number k (value_at r 1)) (row (column_values id key n c)) (new_rows id key (suc n) cs) in
      subst (λ (x : ℕ). 1 ≤ x) (sym e) (elim (cases_Bool (nat_eq k n)) [
        | inl y ↦
            let same : k ≡ n = eqb-true k n y in
            let here : is_number k (number n) ≡ true = number-in k k n (omega (arith, same)) (omega (arith, same)) in
            subst (λ (b : Bool). 1 ≤ cond b 1 0 + count_by (λ r. is_number k (value_at r 1)) (new_rows id key (suc n) cs)) (sym here) (omega arith)
        | inr d ↦
            let rest : 1 ≤ count_by (λ r. is_number k (value_at r 1)) (new_rows id key (suc n) cs) = position-there (suc n) cs k (above n k l d) (omega (arith, m)) in omega (arith, rest)
      ])
    where
      above : (from q : ℕ) → from ≤ q → nat_eq q from ≡ false → suc from ≤ q
      above from q l n = grind (arith, l, n)

  -- A column with a name that is there.
  column-there : (g : Value → Bool) (x : List ℕ) (n : ℕ) (cs : List ColumnText) → g (number (key_position key x)) ≡ true → list_any (bytes_eq x) (names_of cs) ≡ true → 1 ≤ count_by (λ r. g (value_at r 5)) (new_rows id key n cs)
  column-there g x n [] y h = absurd (true≢false (sym h))
  column-there g x n (c ∷ cs) y h =
      subst (λ (k : ℕ). 1 ≤ k) (sym (one_more (λ (r : Row). g (value_at r 5)) (row (column_values id key n c)) (new_rows id key (suc n) cs))) (elim (or_cases (bytes_eq x c.name) (list_any (bytes_eq x) (names_of cs)) h) [
        | inl here ↦
            subst (λ (b : Bool). 1 ≤ cond b 1 0 + count_by (λ r. g (value_at r 5)) (new_rows id key (suc n) cs)) (sym (ap (λ m. g (number (key_position key m))) (sym (same-bytes x c.name here)) ∙ y)) (omega arith)
        | inr later ↦ let rest : 1 ≤ count_by (λ r. g (value_at r 5)) (new_rows id key (suc n) cs) = column-there g x (suc n) cs y later in omega (arith, rest)
      ])

  -- Names that differ are there once.
  none-named : (x : List ℕ) (n : ℕ) (cs : List ColumnText) → list_any (bytes_eq x) (names_of cs) ≡ false → count_by (λ r. same_value (Text x) (value_at r 6)) (new_rows id key n cs) ≡ 0
  none-named x n [] h = refl
  none-named x n (c ∷ cs) h =
      let parts : (bytes_eq x c.name ≡ false) × (list_any (bytes_eq x) (names_of cs) ≡ false) = or_parts (bytes_eq x c.name) (list_any (bytes_eq x) (names_of cs)) h in
      one_more (λ (r : Row). same_value (Text x) (value_at r 6)) (row (column_values id key n c)) (new_rows id key (suc n) cs)
      ∙ (ap (λ b. cond b 1 0 + count_by (λ r. same_value (Text x) (value_at r 6)) (new_rows id key (suc n) cs)) (parts.0)
      ∙ (let rest : count_by (λ r. same_value (Text x) (value_at r 6)) (new_rows id key (suc n) cs) ≡ 0 = none-named x (suc n) cs (parts.1) in omega (arith, rest)))

  named_step : (v : Value) (n : ℕ) (c : ColumnText) (cs : List ColumnText) → list_any (bytes_eq c.name) (names_of cs) ≡ false → count_by (λ r. same_value v (value_at r 6)) (new_rows id key (suc n) cs) ≤ 1 →
      (b : Bool) → same_value v (Text c.name) ≡ b → cond b 1 0 + count_by (λ r. same_value v (value_at r 6)) (new_rows id key (suc n) cs) ≤ 1
  named_step v n c cs h ih false e = omega (arith, ih)
  named_step v n c cs h ih true e =
      let rest : count_by (λ r. same_value v (value_at r 6)) (new_rows id key (suc n) cs) ≡ 0
      = ap (λ (w : Value). count_by (λ r. same_value w (value_at r 6)) (new_rows id key (suc n) cs)) (same-value v (Text c.name) e) ∙ none-named c.name (suc n) cs h in omega (arith, rest)

  named-once : (v : Value) (n : ℕ) (cs : List ColumnText) → has_twice (names_of cs) ≡ false → count_by (λ r. same_value v (value_at r 6)) (new_rows id key n cs) ≤ 1
  named-once v n [] h = omega arith
  named-once v n (c ∷ cs) h =
      let parts : (list_any (bytes_eq c.name) (names_of cs) ≡ false) × (has_twice (names_of cs) ≡ false) = or_parts (list_any (bytes_eq c.name) (names_of cs)) (has_twice (names_of cs)) h in
      subst (λ (k : ℕ). k ≤ 1) (sym (one_more (λ (r : Row). same_value v (value_at r 6)) (row (column_values id key n c)) (new_rows id key (suc n) cs)))
      (named_step v n c cs (parts.0) (named-once v (suc n) cs (parts.1)) (same_value v (Text c.name)) refl)

  -- ---- the columns of the key

  abbrev in_key : List ℕ → Bool
  in_key x = not (is_number 0 (number (key_position key x)))

  key_step : (c : ColumnText) (names : Names) (k : ℕ) → k ≡ length (filter in_key names) → (b : Bool) → cond b 1 0 + k ≡ length (cond b (c.name ∷ filter in_key names) (filter in_key names))
  key_step c names k e true = omega (arith, e)
  key_step c names k e false = omega (arith, e)

  count-key : (n : ℕ) (cs : List ColumnText) → count_by (λ r. not (is_number 0 (value_at r 5))) (new_rows id key n cs) ≡ length (filter in_key (names_of cs))
  count-key n [] = refl
  count-key n (c ∷ cs) =
      one_more (λ (r : Row). not (is_number 0 (value_at r 5))) (row (column_values id key n c)) (new_rows id key (suc n) cs)
      ∙ key_step c (names_of cs) (count_by (λ r. not (is_number 0 (value_at r 5))) (new_rows id key (suc n) cs)) (count-key (suc n) cs) (in_key c.name)

  fewer_any : (x : List ℕ) (names : Names) → list_any (bytes_eq x) names ≡ false → list_any (bytes_eq x) (filter in_key names) ≡ false
  fewer_any x names h = false_from_ne_true (list_any (bytes_eq x) (filter in_key names)) (λ y. both_ways (list_any (bytes_eq x) names) h (had x names y))
    where
      had_step : (x m : List ℕ) (ms : Names) → (list_any (bytes_eq x) (filter in_key ms) ≡ true → list_any (bytes_eq x) ms ≡ true) → (b : Bool) → list_any (bytes_eq x) (cond b (m ∷ filter in_key ms) (filter in_key ms)) ≡ true → (bytes_eq x m || list_any (bytes_eq x) ms) ≡ true
      had_step x m ms ih true y = elim (or_cases (bytes_eq x m) (list_any (bytes_eq x) (filter in_key ms)) y) [
        | inl k ↦ or_left (bytes_eq x m) (list_any (bytes_eq x) ms) k
        | inr k ↦ or_right (bytes_eq x m) (list_any (bytes_eq x) ms) (ih k)
      ]
      had_step x m ms ih false y = or_right (bytes_eq x m) (list_any (bytes_eq x) ms) (ih y)

      had : (x : List ℕ) (ms : Names) → list_any (bytes_eq x) (filter in_key ms) ≡ true → list_any (bytes_eq x) ms ≡ true
      had x [] y = y
      had x (m ∷ ms) y = had_step x m ms (had x ms) (in_key m) y

  once_step : (m : List ℕ) (ms : Names) → list_any (bytes_eq m) ms ≡ false → has_twice (filter in_key ms) ≡ false → (b : Bool) → has_twice (cond b (m ∷ filter in_key ms) (filter in_key ms)) ≡ false
  once_step m ms h ih true = or_from (list_any (bytes_eq m) (filter in_key ms)) (has_twice (filter in_key ms)) (fewer_any m ms h) ih
  once_step m ms h ih false = ih

  once-key : (ms : Names) → has_twice ms ≡ false → has_twice (filter in_key ms) ≡ false
  once-key [] h = refl
  once-key (m ∷ ms) h = let parts = or_parts (list_any (bytes_eq m) ms) (has_twice ms) h in once_step m ms (parts.0) (once-key ms (parts.1)) (in_key m)

  in_there : (m : List ℕ) → in_key m ≡ true → list_any (bytes_eq m) key ≡ true
  in_there m y = elim (key_position-there key m) [
    | inr there ↦ there
    | inl none ↦ absurd (both_ways (in_key m) (not_from_true (is_number 0 (number (key_position key m))) (ap (λ k. is_number 0 (number k)) none)) y)
  ]

  there_step : (m : List ℕ) (ms : Names) → list_all (λ x. list_any (bytes_eq x) key) (filter in_key ms) ≡ true → (b : Bool) → in_key m ≡ b → list_all (λ x. list_any (bytes_eq x) key) (cond b (m ∷ filter in_key ms) (filter in_key ms)) ≡ true
  there_step m ms ih true e = and_from (list_any (bytes_eq m) key) (list_all (λ x. list_any (bytes_eq x) key) (filter in_key ms)) (in_there m e) ih
  there_step m ms ih false e = ih

  there-key : (ms : Names) → list_all (λ x. list_any (bytes_eq x) key) (filter in_key ms) ≡ true
  there-key [] = refl
  there-key (m ∷ ms) = there_step m ms (there-key ms) (in_key m) refl

  -- ---- all rules

  module _ (cs : List ColumnText) (own : List PlacedRow) (same : (h : Row → Bool) → count_by (λ (x : PlacedRow). h (x.1)) own ≡ count_by h (new_rows id key 1 cs))
      (few : length cs ≤ 16) (names : has_twice (names_of cs) ≡ false) (key_names : list_all (λ k. list_any (bytes_eq k) (names_of cs)) key ≡ true) (keys : has_twice key ≡ false) (some : 1 ≤ length key) where
    own_length : length own ≡ length cs
    own_length = sym (count-all own) ∙ (same (λ r. true) ∙ (count-all (new_rows id key 1 cs) ∙ length-rows 1 cs))

    own_any : (column : ℕ) (f : Value → Bool) → 1 ≤ count_by (λ r. f (value_at r column)) (new_rows id key 1 cs) → list_any f (values_in column own) ≡ true
    own_any column f l = count-any f (values_in column own) (subst (λ (k : ℕ). 1 ≤ k) (sym (count-map f (λ (r : PlacedRow). value_at (r.1) column) own ∙ same (λ r. f (value_at r column)))) l)

    length_values : (column : ℕ) → length (values_in column own) ≡ length own
    length_values column = sym (count-all (values_in column own)) ∙ (count-map (λ x. true) (λ (r : PlacedRow). value_at (r.1) column) own ∙ count-all own)

    positions : are_counted (values_in 1 own) ≡ true
    positions = all-from (λ n. list_any (is_number n) (values_in 1 own)) (length (values_in 1 own)) 1 (λ k l m.
        own_any 1 (is_number k) (position-there 1 cs k l (let e : length (values_in 1 own) ≡ length own = length_values 1 in let f : length own ≡ length cs = own_length in omega (arith, m, e, f))))

    differ : is_twice (values_in 6 own) ≡ false
    differ = not-twice (values_in 6 own) (λ v.
        subst (λ (k : ℕ). k ≤ 1) (sym (count-map (same_value v) (λ (r : PlacedRow). value_at (r.1) 6) own ∙ same (λ r. same_value v (value_at r 6)))) (named-once v 1 cs names))

    key_count : length (key_positions own) ≡ length (filter in_key (names_of cs))
    key_count =
        length-filter (λ v. not (is_number 0 v)) (values_in 5 own)
        ∙ (count-map (λ v. not (is_number 0 v)) (λ (r : PlacedRow). value_at (r.1) 5) own ∙ (same (λ r. not (is_number 0 (value_at r 5))) ∙ count-key 1 cs))

    key_most : length (key_positions own) ≤ length key
    key_most = subst (λ (k : ℕ). k ≤ length key) (sym key_count) (no-more (filter in_key (names_of cs)) key (once-key (names_of cs) names) (there-key (names_of cs)))

    abbrev is_key : ℕ → Value → Bool
    is_key k v = not (is_number 0 v) && is_number k v

    -- Each position of the key is there.
    key_at : (k : ℕ) → 1 ≤ k → k ≤ length key → list_any (is_number k) (key_positions own) ≡ true
    key_at k l m =
        let i : ℕ = k - 1 in
        let low : i < length key = omega (arith, l, m) in
        let at : key_position key (get_or key i []) ≡ k = key_position-at key i keys low ∙ omega (arith, l) in
        let zero_not : is_number 0 (number k) ≡ false = false_from_ne_true (is_number 0 (number k)) (λ y. let none : k ≤ 0 = (number-range 0 0 (number k) y).1 in omega (arith, none, l)) in
        any-filter (is_number k) (λ v. not (is_number 0 v)) (values_in 5 own)
        ∙ own_any 5 (is_key k) (column-there (is_key k) (get_or key i []) 1 cs
        (ap (λ x. is_key k (number x)) at ∙ and_from (not (is_number 0 (number k))) (is_number k (number k)) (not_from_false (is_number 0 (number k)) zero_not) (number-in k k k (omega arith) (omega arith)))
        (all-at (λ x. list_any (bytes_eq x) (names_of cs)) key i key_names low))

    key_counted : are_counted (key_positions own) ≡ true
    key_counted = all-from (λ n. list_any (is_number n) (key_positions own)) (length (key_positions own)) 1 (λ k l m.
        key_at k l (let most : length (key_positions own) ≤ length key = key_most in omega (arith, m, most)))

    key_some : nat_eq (length (key_positions own)) 0 ≡ false
    key_some = false_from_ne_true (nat_eq (length (key_positions own)) 0) (λ y. none_there (key_positions own) (eqb-true (length (key_positions own)) 0 y) (key_at 1 (omega arith) some))
      where
        none_there : (vs : List Value) → length vs ≡ 0 → list_any (is_number 1) vs ≡ true → ⊥
        none_there [] e h = true≢false (sym h)
        none_there (v ∷ vs) e h = let more : suc (length vs) ≡ 0 = e in omega (arith, more)

    pub own-right : wrong_own own ≡ false
    own-right =
        or_from _ _ (or_from _ _ (or_from _ _ (or_from _ _ (le-ltb 16 (length own) (let e : length own ≡ length cs = own_length in omega (arith, e, few))) (not_from_true (are_counted (values_in 1 own)) positions))
        differ) (not_from_true (are_counted (key_positions own)) key_counted)) key_some

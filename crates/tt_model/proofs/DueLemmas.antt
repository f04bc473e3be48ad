-- What a reader is due once its place has moved behind what it was given.
use Rattle.std.proofs.Common.{◌≡◌, ◌⊎◌, ◌≤◌, ◌<◌, ◌+◌, inl, inr, ℕ, zero, suc, Bool, true, false, not, cond, ◌||◌, nat_lt, List, [], ◌∷◌, ◌++◌, filter, length, take, drop, Option, Some, None, refl, sym, ap, ◌∙◌, subst, arith, true≢false}
use Rattle.std.proofs.lemmas.Bool.{ltb-true, lt-ltb, or_left, or_right, or_cases, false_from_ne_true}
use Rattle.tt_value.specs.declared.position.Position.{Position}
use Rattle.tt_model.specs.Trail.{Trail, Placed, position_eq, placed_end}
use Rattle.tt_model.specs.Tables.{Subscribed, Catalog}
use Rattle.tt_model.specs.State.{ReadPlace}
use Rattle.tt_model.specs.Due.{Done, DueChange, open_changes, counted, is_subscribed, is_last, marked, after_skip, last_of}
use Rattle.tt_model.proofs.OrderLemmas.{eq_self}

-- ---- lists

pub assoc : {X : Type 0} (xs ys zs : List X) → (xs ++ ys) ++ zs ≡ xs ++ (ys ++ zs)
assoc [] ys zs = refl
assoc (x ∷ xs) ys zs = ap (x ∷◌) (assoc xs ys zs)

pub with_none : {X : Type 0} (xs : List X) → xs ++ [] ≡ xs
with_none [] = refl
with_none (x ∷ xs) = ap (x ∷◌) (with_none xs)

abbrev pub nth : ℕ → List DueChange → Option DueChange
nth m [] = None
nth zero (x ∷ xs) = Some x
nth (suc m) (x ∷ xs) = nth m xs

same_some : (x d : DueChange) → Some x ≡ Some d → x ≡ d
same_some x d h = cc

-- In a list of two parts it is one of the first, or one of the second.
pub record InSecond (m : ℕ) (d : DueChange) (xs ys : List DueChange) : Type 0 where
  pub at : ℕ
  pub place : m ≡ length xs + at
  pub is : nth at ys ≡ Some d

pub nth-append : (m : ℕ) (d : DueChange) (xs ys : List DueChange) → nth m (xs ++ ys) ≡ Some d → (nth m xs ≡ Some d) ⊎ InSecond m d xs ys
nth-append m d [] ys h = inr (record { at = m; place = omega arith; is = h })
nth-append zero d (x ∷ xs) ys h = inl h
nth-append (suc m) d (x ∷ xs) ys h = elim (nth-append m d xs ys h) [
  | inl y ↦ inl y
  | inr s ↦ let e : m ≡ length xs + s.at = s.place in inr (record { at = s.at; place = omega (arith, e); is = s.is })
]

pub nth-less : (m : ℕ) (d : DueChange) (xs : List DueChange) → nth m xs ≡ Some d → suc m ≤ length xs
nth-less m d [] h = let no : ⊥ = cc in absurd no
nth-less zero d (x ∷ xs) h = omega arith
nth-less (suc m) d (x ∷ xs) h = let less : suc m ≤ length xs = nth-less m d xs h in omega (arith, less)

tail_is : (x d : DueChange) (xs ds : List DueChange) → x ∷ xs ≡ d ∷ ds → (x ≡ d) × (xs ≡ ds)
tail_is x d xs ds h = (cc, cc)

-- The last of the first n.
pub last-taken : (n : ℕ) (xs : List DueChange) (d : DueChange) (ds : List DueChange) → take n xs ≡ d ∷ ds → nth (length ds) xs ≡ Some (last_of d ds)
last-taken zero xs d ds h = let no : ⊥ = cc in absurd no
last-taken (suc n) [] d ds h = let no : ⊥ = cc in absurd no
last-taken (suc n) (x ∷ xs) d [] h = ap Some ((tail_is x d (take n xs) [] h).0)
last-taken (suc n) (x ∷ xs) d (e ∷ ds) h = last-taken n xs e ds ((tail_is x d (take n xs) (e ∷ ds) h).1)

pub fewer-all : {X : Type 0} (n : ℕ) (xs : List X) → length (take n xs) < n → take n xs ≡ xs
fewer-all zero xs h = let no : ⊥ = omega (arith, h) in absurd no
fewer-all (suc n) [] h = refl
fewer-all (suc n) (x ∷ xs) h = ap (x ∷◌) (fewer-all n xs (omega (arith, h)))

-- ---- the changes of one Commit

abbrev is_nil : List DueChange → Bool
is_nil [] = true
is_nil (x ∷ xs) = false

-- All of one Commit, with ascending counts above k, and the last marked.
abbrev pub IsBlock : Placed → ℕ → List DueChange → Type 0
IsBlock e k [] = Unit {0}
IsBlock e k (x ∷ xs) = (x.commit ≡ e.at) × (x.end ≡ placed_end e) × (k < x.count) × (x.given.last ≡ is_nil xs) × IsBlock e x.count xs

abbrev Ascends : ℕ → List (ℕ × Done) → Type 0
Ascends k [] = Unit {0}
Ascends k (d ∷ ds) = (k < d.0) × Ascends (d.0) ds

ascends-counted : (n : ℕ) (ds : List Done) → Ascends n (counted n ds)
ascends-counted n [] = tt
ascends-counted n (d ∷ ds) = (omega arith, ascends-counted (suc n) ds)

ascends-lower : (k m : ℕ) (ds : List (ℕ × Done)) → k ≤ m → Ascends m ds → Ascends k ds
ascends-lower k m [] l a = tt
ascends-lower k m (d ∷ ds) l a = let above : m < d.0 = a.0 in (omega (arith, l, above), a.1)

ascends_step : (f : (ℕ × Done) → Bool) (k : ℕ) (d : ℕ × Done) (ds : List (ℕ × Done)) → k < d.0 → Ascends (d.0) (filter f ds) → (c : Bool) → Ascends k (cond c (d ∷ filter f ds) (filter f ds))
ascends_step f k d ds l a true = (l, a)
ascends_step f k d ds l a false = ascends-lower k (d.0) (filter f ds) (omega (arith, l)) a

ascends-filter : (f : (ℕ × Done) → Bool) (k : ℕ) (ds : List (ℕ × Done)) → Ascends k ds → Ascends k (filter f ds)
ascends-filter f k [] a = tt
ascends-filter f k (d ∷ ds) a = ascends_step f k d ds (a.0) (ascends-filter f (d.0) ds (a.1)) (f d)

last_marked : (catalog : Catalog) (t : ℕ) (e : Placed) (ds : List (ℕ × Done)) → is_last ds ≡ is_nil (marked catalog t e false ds)
last_marked catalog t e [] = refl
last_marked catalog t e (d ∷ ds) = refl

marked-block : (catalog : Catalog) (t : ℕ) (e : Placed) (first : Bool) (k : ℕ) (ds : List (ℕ × Done)) → Ascends k ds → IsBlock e k (marked catalog t e first ds)
marked-block catalog t e first k [] a = tt
marked-block catalog t e first k (d ∷ ds) a = (refl, refl, a.0, last_marked catalog t e ds, marked-block catalog t e false (d.0) ds (a.1))

abbrev pub of_commit : Position → List Subscribed → Catalog → Placed → ℕ → Trail → List DueChange
of_commit hold subscriptions catalog e t older = marked catalog t e true (filter (is_subscribed subscriptions e.at) (counted 0 (open_changes hold t older)))

pub of_commit-block : (hold : Position) (subscriptions : List Subscribed) (catalog : Catalog) (e : Placed) (t : ℕ) (older : Trail) → IsBlock e 0 (of_commit hold subscriptions catalog e t older)
of_commit-block hold subscriptions catalog e t older =
    marked-block catalog t e true 0 _ (ascends-filter (is_subscribed subscriptions e.at) 0 (counted 0 (open_changes hold t older)) (ascends-counted 0 (open_changes hold t older)))

-- ---- which of them a place leaves out

-- Whether a place leaves the change of this count of a Commit at a position.
abbrev pub passes : ReadPlace → Position → ℕ → Bool
passes place at count = not (position_eq at place.at) || nat_lt place.skip count

skip-is : (place : ReadPlace) (e : Placed) (x : DueChange) → x.commit ≡ e.at → after_skip place x ≡ passes place e.at x.count
skip-is place e x h = ap (λ (p : Position). not (position_eq p place.at) || nat_lt place.skip x.count) h

pub passes-more : (place : ReadPlace) (at : Position) (m n : ℕ) → m ≤ n → passes place at m ≡ true → passes place at n ≡ true
passes-more place at m n l h = elim (or_cases (not (position_eq at place.at)) (nat_lt place.skip m) h) [
  | inl y ↦ or_left (not (position_eq at place.at)) (nat_lt place.skip n) y
  | inr y ↦ let low : place.skip < m = ltb-true place.skip m y in or_right (not (position_eq at place.at)) (nat_lt place.skip n) (lt-ltb place.skip n (omega (arith, low, l)))
]

pub all_pass : (place : ReadPlace) (e : Placed) (k : ℕ) (xs : List DueChange) → IsBlock e k xs → passes place e.at (suc k) ≡ true → filter (after_skip place) xs ≡ xs
all_pass place e k [] b h = refl
all_pass place e k (x ∷ xs) b h =
    let here : passes place e.at x.count ≡ true = passes-more place e.at (suc k) x.count (b.2) h in
    ap (λ c. cond c (x ∷ filter (after_skip place) xs) (filter (after_skip place) xs)) (skip-is place e x (b.0) ∙ here)
    ∙ ap (x ∷◌) (all_pass place e x.count xs (b.4) (passes-more place e.at x.count (suc x.count) (omega arith) here))

-- What is known of one that is left.
pub record IsOf (e : Placed) (k : ℕ) (d : DueChange) : Type 0 where
  pub commit : d.commit ≡ e.at
  pub end : d.end ≡ placed_end e
  pub count : k < d.count

is_of-lower : (e : Placed) (k m : ℕ) (d : DueChange) → k ≤ m → IsOf e m d → IsOf e k d
is_of-lower e k m d l i = let above : m < d.count = i.count in record { commit = i.commit; end = i.end; count = omega (arith, l, above) }

nth_step : (p : DueChange → Bool) (e : Placed) (k m : ℕ) (d x : DueChange) (xs : List DueChange) → IsOf e k x → ((n : ℕ) → nth n (filter p xs) ≡ Some d → IsOf e x.count d) →
    (c : Bool) → nth m (cond c (x ∷ filter p xs) (filter p xs)) ≡ Some d → IsOf e k d
nth_step p e k zero d x xs i ih true h = subst (IsOf e k) (same_some x d h) i
nth_step p e k (suc m) d x xs i ih true h = let above : k < x.count = i.count in is_of-lower e k x.count d (omega (arith, above)) (ih m h)
nth_step p e k m d x xs i ih false h = let above : k < x.count = i.count in is_of-lower e k x.count d (omega (arith, above)) (ih m h)

pub nth-of : (p : DueChange → Bool) (e : Placed) (k m : ℕ) (d : DueChange) (xs : List DueChange) → IsBlock e k xs → nth m (filter p xs) ≡ Some d → IsOf e k d
nth-of p e k m d [] b h = let no : ⊥ = cc in absurd no
nth-of p e k m d (x ∷ xs) b h = nth_step p e k m d x xs (record { commit = b.0; end = b.1; count = b.2 }) (λ n g. nth-of p e x.count n d xs (b.4) g) (p x) h

-- A place at the Commit, behind the change of a count.
abbrev pub IsBehind : ReadPlace → Placed → ℕ → Type 0
IsBehind np e count = (np.at ≡ e.at) × (np.skip ≡ count)

behind-passes : (np : ReadPlace) (e : Placed) (count n : ℕ) → IsBehind np e count → passes np e.at n ≡ nat_lt count n
behind-passes np e count n b =
    ap (λ (p : Position). not (position_eq e.at p) || nat_lt np.skip n) (b.0) ∙ (ap (λ c. not c || nat_lt np.skip n) (eq_self e.at) ∙ ap (λ k. nat_lt k n) (b.1))

not_behind : (np : ReadPlace) (e : Placed) (d x : DueChange) → IsBehind np e d.count → x.commit ≡ e.at → x.count ≤ d.count → after_skip np x ≡ false
not_behind np e d x b h l =
    skip-is np e x h ∙ (behind-passes np e d.count x.count b ∙ false_from_ne_true (nat_lt d.count x.count) (λ y. let over : d.count < x.count = ltb-true d.count x.count y in omega (arith, over, l)))

rest_step : (place np : ReadPlace) (e : Placed) (k m : ℕ) (d x : DueChange) (xs : List DueChange) → IsBlock e k (x ∷ xs) → IsBehind np e d.count →
    ((n : ℕ) → nth n (filter (after_skip place) xs) ≡ Some d → filter (after_skip np) xs ≡ drop (suc n) (filter (after_skip place) xs)) →
    (c : Bool) → after_skip place x ≡ c → nth m (cond c (x ∷ filter (after_skip place) xs) (filter (after_skip place) xs)) ≡ Some d →
    filter (after_skip np) (x ∷ xs) ≡ drop (suc m) (cond c (x ∷ filter (after_skip place) xs) (filter (after_skip place) xs))
rest_step place np e k zero d x xs b n ih true p h =
    let same : x ≡ d = same_some x d h in
    let less : x.count ≤ d.count = let s : x.count ≡ d.count = ap (λ (y : DueChange). y.count) same in omega (arith, s) in
    let from : passes place e.at x.count ≡ true = sym (skip-is place e x (b.0)) ∙ p in
    let above : passes np e.at (suc x.count) ≡ true
    = behind-passes np e d.count (suc x.count) n ∙ lt-ltb d.count (suc x.count) (let s : x.count ≡ d.count = ap (λ (y : DueChange). y.count) same in omega (arith, s)) in
    ap (λ c. cond c (x ∷ filter (after_skip np) xs) (filter (after_skip np) xs)) (not_behind np e d x n (b.0) less)
    ∙ (all_pass np e x.count xs (b.4) above ∙ sym (all_pass place e x.count xs (b.4) (passes-more place e.at x.count (suc x.count) (omega arith) from)))
rest_step place np e k (suc m) d x xs b n ih true p h =
    let i : IsOf e x.count d = nth-of (after_skip place) e x.count m d xs (b.4) h in
    let over : x.count < d.count = i.count in
    ap (λ c. cond c (x ∷ filter (after_skip np) xs) (filter (after_skip np) xs)) (not_behind np e d x n (b.0) (omega (arith, over))) ∙ ih m h
rest_step place np e k m d x xs b n ih false p h =
    let i : IsOf e x.count d = nth-of (after_skip place) e x.count m d xs (b.4) h in
    let over : x.count < d.count = i.count in
    ap (λ c. cond c (x ∷ filter (after_skip np) xs) (filter (after_skip np) xs)) (not_behind np e d x n (b.0) (omega (arith, over))) ∙ ih m h

-- Behind one of them are those after it.
pub rest-of : (place np : ReadPlace) (e : Placed) (k m : ℕ) (d : DueChange) (xs : List DueChange) → IsBlock e k xs → IsBehind np e d.count →
    nth m (filter (after_skip place) xs) ≡ Some d → filter (after_skip np) xs ≡ drop (suc m) (filter (after_skip place) xs)
rest-of place np e k m d [] b n h = let no : ⊥ = cc in absurd no
rest-of place np e k m d (x ∷ xs) b n h = rest_step place np e k m d x xs b n (λ i g. rest-of place np e x.count i d xs (b.4) n g) (after_skip place x) refl h

nil_filter : (p : DueChange → Bool) (xs : List DueChange) → is_nil xs ≡ true → filter p xs ≡ []
nil_filter p [] h = refl
nil_filter p (x ∷ xs) h = absurd (true≢false (sym h))

last_step : (p : DueChange → Bool) (m : ℕ) (d x : DueChange) (xs : List DueChange) → x.given.last ≡ is_nil xs → d.given.last ≡ true →
    ((n : ℕ) → nth n (filter p xs) ≡ Some d → drop (suc n) (filter p xs) ≡ []) → (c : Bool) → nth m (cond c (x ∷ filter p xs) (filter p xs)) ≡ Some d →
    drop (suc m) (cond c (x ∷ filter p xs) (filter p xs)) ≡ []
last_step p zero d x xs l g ih true h = nil_filter p xs (sym l ∙ (ap (λ (y : DueChange). y.given.last) (same_some x d h) ∙ g))
last_step p (suc m) d x xs l g ih true h = ih m h
last_step p m d x xs l g ih false h = ih m h

-- Behind the last one is none.
pub last-of : (p : DueChange → Bool) (e : Placed) (k m : ℕ) (d : DueChange) (xs : List DueChange) → IsBlock e k xs → d.given.last ≡ true → nth m (filter p xs) ≡ Some d → drop (suc m) (filter p xs) ≡ []
last-of p e k m d [] b g h = let no : ⊥ = cc in absurd no
last-of p e k m d (x ∷ xs) b g h = last_step p m d x xs (b.3) g (λ n j. last-of p e x.count n d xs (b.4) g j) (p x) h

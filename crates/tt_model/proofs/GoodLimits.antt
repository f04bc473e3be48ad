-- The limits of system tables hold behind a row that is put.
use Rattle.std.proofs.Common.{◌≡◌, ◌<◌, ◌≤◌, ◌+◌, inl, inr, ℕ, Bool, true, false, ◌&&◌, nat_eq, List, [], ◌∷◌, Option, Some, None, refl, sym, ap, ◌∙◌, arith}
use Rattle.std.proofs.lemmas.Bool.{cases_Bool, eqb-true, eq-eqb, ltb-true, lt-leb, and_from, and_parts, both_ways, false_from_ne_true}
use Rattle.std.specs.Prelude.{count_by, nat_le, nat_lt}
use Rattle.tt_value.specs.declared.value.Row.{Row}
use Rattle.tt_value.specs.declared.value.Cell.TheVariants.{Full}
use Rattle.tt_model.specs.Committed.{Cells}
use Rattle.tt_model.specs.Live.{numbers_below}
use Rattle.tt_model.specs.Holders.{values_at}
use Rattle.tt_model.specs.Values.{same_values}
use Rattle.tt_model.specs.Tables.{PlacedRow}
use Rattle.tt_model.specs.Damage.{SystemTable, Tables, Columns, Indexes, Bookmarks, Subscriptions, Sets, id_of, is_past_limit, is_before, counted_with, limit_of}
use Rattle.tt_model.proofs.ConflictLemmas.{same_values-self}
use Rattle.tt_model.proofs.GoodPlaces.{has_at, tally, count-rows, tally-two, tally-apart, tally-one, tally-there, has-row, row-has}
use Rattle.tt_model.proofs.GoodValues.{same-values}
use Rattle.tt_model.proofs.GoodCells.{IsGoodBut, rows_in}
use Rattle.tt_model.proofs.GoodFrames.{group, grouped, count-grouped, limit-fewer}
use Rattle.tt_model.proofs.GoodPuts.{full-row}

-- ---- groups

group-own : (t : SystemTable) (q : ℕ) (row : Row) → group t row (q, row) ≡ true
group-own Indexes q row = same_values-self (values_at (1 ∷ []) row)
group-own Tables q row = refl
group-own Columns q row = refl
group-own Bookmarks q row = refl
group-own Subscriptions q row = refl
group-own Sets q row = refl

group-flip : (t : SystemTable) (p q : ℕ) (row other : Row) → group t row (p, other) ≡ true → group t other (q, row) ≡ true
group-flip Indexes p q row other h =
    let same : values_at (1 ∷ []) other ≡ values_at (1 ∷ []) row = same-values (values_at (1 ∷ []) other) (values_at (1 ∷ []) row) h in
    ap (λ vs. same_values (values_at (1 ∷ []) row) vs) same ∙ same_values-self (values_at (1 ∷ []) row)
group-flip Tables p q row other h = refl
group-flip Columns p q row other h = refl
group-flip Bookmarks p q row other h = refl
group-flip Subscriptions p q row other h = refl
group-flip Sets p q row other h = refl

group-then : (t : SystemTable) (q : ℕ) (row new : Row) (x : PlacedRow) → group t new (q, row) ≡ true → group t row x ≡ true → group t new x ≡ true
group-then Indexes q row new x g h = ap (λ vs. same_values (values_at (1 ∷ []) (x.1)) vs) (sym (same-values (values_at (1 ∷ []) row) (values_at (1 ∷ []) new) g)) ∙ h
group-then Tables q row new x g h = refl
group-then Columns q row new x g h = refl
group-then Bookmarks q row new x g h = refl
group-then Subscriptions q row new x g h = refl
group-then Sets q row new x g h = refl

-- How many rows are counted together with a row.
abbrev pub group_size : ℕ → SystemTable → Row → Cells → ℕ
group_size bound own new cells = count_by (λ (x : PlacedRow). group own new x) (rows_in bound cells own)

-- ---- a row in a free place

module _ (bound : ℕ) (c d : Cells) (own : SystemTable) (p : ℕ) (new : Row) (here : d p ≡ Full (id_of own) new) (others : (q : ℕ) → nat_eq q p ≡ false → d q ≡ c q) where
  has_was : (f : PlacedRow → Bool) (q : ℕ) → nat_eq q p ≡ false → has_at f (id_of own) d q ≡ true → has_at f (id_of own) c q ≡ true
  has_was f q n h =
      let row : (row : Row) × (d q ≡ Full (id_of own) row) × (f (q, row) ≡ true) = has-row f (id_of own) d q h in
      row-has f (id_of own) c q (row.0) (sym (others q n) ∙ row.1) (row.2)

  one_more : group_size bound own new d ≤ group_size bound own new c + 1
  one_more =
      let f : PlacedRow → Bool = λ (x : PlacedRow). group own new x in
      let both : tally (has_at f (id_of own) d) (numbers_below bound) ≤ tally (has_at f (id_of own) c) (numbers_below bound) + tally (nat_eq p) (numbers_below bound)
      = tally-two (has_at f (id_of own) d) (has_at f (id_of own) c) (nat_eq p) (numbers_below bound) (λ q h. elim (cases_Bool (nat_eq q p)) [
        | inl y ↦ inr (eq-eqb p q (sym (eqb-true q p y)))
        | inr n ↦ inl (has_was f q n h)
      ]) in
      let one : tally (nat_eq p) (numbers_below bound) ≤ 1 = tally-one p bound 0 in
      let m : count_by f (rows_in bound c own) ≡ tally (has_at f (id_of own) c) (numbers_below bound) = count-rows f (id_of own) bound c in
      let n : count_by f (rows_in bound d own) ≡ tally (has_at f (id_of own) d) (numbers_below bound) = count-rows f (id_of own) bound d in
      omega (arith, both, one, m, n)

  -- Before a row of the group there are fewer than the group has.
  fewer_before : (q : ℕ) (row : Row) → q < bound → d q ≡ Full (id_of own) row → group own new (q, row) ≡ true → count_by (is_before q) (counted_with own row (rows_in bound d own)) < group_size bound own new d
  fewer_before q row l e g =
      let f : PlacedRow → Bool = λ (x : PlacedRow). group own new x in
      let h : PlacedRow → Bool = λ (x : PlacedRow). group own row x && is_before q x in
      let apart : tally (has_at h (id_of own) d) (numbers_below bound) + tally (nat_eq q) (numbers_below bound) ≤ tally (has_at f (id_of own) d) (numbers_below bound)
      = tally-apart (has_at h (id_of own) d) (nat_eq q) (has_at f (id_of own) d) (numbers_below bound)
      (λ r k.
      let x : (x : Row) × (d r ≡ Full (id_of own) x) × (h (r, x) ≡ true) = has-row h (id_of own) d r k in
      row-has f (id_of own) d r (x.0) (x.1) (group-then own q row new (r, x.0) g ((and_parts (group own row (r, x.0)) (nat_lt r q) (x.2)).0)))
      (λ r k. ap (has_at f (id_of own) d) (sym (eqb-true q r k)) ∙ row-has f (id_of own) d q row e g)
      (λ r k y.
      let x : (x : Row) × (d r ≡ Full (id_of own) x) × (h (r, x) ≡ true) = has-row h (id_of own) d r k in
      let less : r < q = ltb-true r q ((and_parts (group own row (r, x.0)) (nat_lt r q) (x.2)).1) in
      let same : q ≡ r = eqb-true q r y in omega (arith, less, same)) in
      let there : 1 ≤ tally (nat_eq q) (numbers_below bound) = tally-there q bound 0 (omega arith) (omega (arith, l)) in
      let m : count_by (is_before q) (counted_with own row (rows_in bound d own)) ≡ grouped (is_before q) own row bound d = count-grouped (is_before q) own row bound d in
      let n : count_by f (rows_in bound d own) ≡ tally (has_at f (id_of own) d) (numbers_below bound) = count-rows f (id_of own) bound d in
      let all : grouped (is_before q) own row bound d + tally (nat_eq q) (numbers_below bound) ≤ tally (has_at f (id_of own) d) (numbers_below bound) = apart in
      omega (arith, all, there, m, n)

  limit_in : (o : Option ℕ) (m n : ℕ) → m < n → ((most : ℕ) → o ≡ Some most → n ≤ most) → elim o [ None ↦ false | Some most ↦ nat_le most m ] ≡ false
  limit_in None m n l f = refl
  limit_in (Some most) m n l f = let high : n ≤ most = f most refl in lt-leb most m (omega (arith, l, high))

  pub limit-added : (but : Row → Bool) → IsGoodBut but bound c → ((most : ℕ) → limit_of own ≡ Some most → group_size bound own new c < most) → (q : ℕ) (row : Row) → q < bound → d q ≡ Full (id_of own) row →
      is_past_limit own (q, row) (rows_in bound d own) ≡ false
  limit-added but good room q row l e = elim (cases_Bool (group own new (q, row))) [
    | inl y ↦ limit_in (limit_of own) (count_by (is_before q) (counted_with own row (rows_in bound d own))) (group_size bound own new d) (fewer_before q row l e y)
        (λ most h. let less : group_size bound own new c < most = room most h in let more : group_size bound own new d ≤ group_size bound own new c + 1 = one_more in omega (arith, less, more))
    | inr n ↦
        let apart : nat_eq q p ≡ false = false_from_ne_true (nat_eq q p) (λ y.
        let same : row ≡ new = full-row (id_of own) (id_of own) row new (sym e ∙ (ap d (eqb-true q p y) ∙ here)) in
        both_ways (group own new (q, row)) n (ap (λ x. group own new (q, x)) same ∙ group-own own q new)) in
        let there : c q ≡ Full (id_of own) row = sym (others q apart) ∙ e in
        limit-fewer own q row bound c d (λ r h. elim (cases_Bool (nat_eq r p)) [
          | inr m ↦ has_was (λ (x : PlacedRow). group own row x && is_before q x) r m h
          | inl y ↦
              let x : (x : Row) × (d r ≡ Full (id_of own) x) × ((group own row (r, x) && is_before q (r, x)) ≡ true) = has-row (λ (x : PlacedRow). group own row x && is_before q x) (id_of own) d r h in
              let same : x.0 ≡ new = full-row (id_of own) (id_of own) (x.0) new (sym (x.1) ∙ (ap d (eqb-true r p y) ∙ here)) in
              let in_group : group own row (r, x.0) ≡ true = (and_parts (group own row (r, x.0)) (nat_lt r q) (x.2)).0 in
              absurd (both_ways (group own new (q, row)) n (group-flip own r q row new (ap (λ z. group own row (r, z)) (sym same) ∙ in_group)))
        ]) ((good.follow own q row there).limit)
  ]

  -- ---- a row in place of one that counts like it

  -- A row of a table whose rows are all counted together, in place of another.
  pub limit-rewritten : (but : Row → Bool) → IsGoodBut but bound c → ((row : Row) (x : PlacedRow) → group own row x ≡ true) →
      ((q : ℕ) (row other : Row) (rows : List PlacedRow) → is_past_limit own (q, row) rows ≡ is_past_limit own (q, other) rows) → (old : Row) → c p ≡ Full (id_of own) old →
      (q : ℕ) (row : Row) → d q ≡ Full (id_of own) row → is_past_limit own (q, row) (rows_in bound d own) ≡ false
  limit-rewritten but good plain alike old was q row e =
      let before : (before : Row) × (c q ≡ Full (id_of own) before) = by_place (nat_eq q p) refl in
      alike q row (before.0) (rows_in bound d own)
      ∙ limit-fewer own q (before.0) bound c d (λ r h. by_row r (before.0) (nat_eq r p) refl h) ((good.follow own q (before.0) (before.1)).limit)
    where
      by_place : (b : Bool) → nat_eq q p ≡ b → (before : Row) × (c q ≡ Full (id_of own) before)
      by_place true y = (old, ap c (eqb-true q p y) ∙ was)
      by_place false n = (row, sym (others q n) ∙ e)

      by_row : (r : ℕ) (at : Row) (b : Bool) → nat_eq r p ≡ b → has_at (λ (x : PlacedRow). group own at x && is_before q x) (id_of own) d r ≡ true →
          has_at (λ (x : PlacedRow). group own at x && is_before q x) (id_of own) c r ≡ true
      by_row r at false n h = has_was (λ (x : PlacedRow). group own at x && is_before q x) r n h
      by_row r at true y h =
          let x : (x : Row) × (d r ≡ Full (id_of own) x) × ((group own at (r, x) && nat_lt r q) ≡ true) = has-row (λ (x : PlacedRow). group own at x && is_before q x) (id_of own) d r h in
          row-has (λ (x : PlacedRow). group own at x && is_before q x) (id_of own) c r old (ap c (eqb-true r p y) ∙ was)
          (and_from (group own at (r, old)) (nat_lt r q) (plain at (r, old)) ((and_parts (group own at (r, x.0)) (nat_lt r q) (x.2)).1))

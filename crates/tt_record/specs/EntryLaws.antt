-- What is read at the front of bytes is what stands there.
use Rattle.std.proofs.Common.{◌≡◌, ◌≤◌, ◌<◌, ◌+◌, ◌*◌, ◌^◌, ◌==◌, ℕ, suc, Bool, true, false, ◌&&◌, List, [], ◌∷◌, ◌++◌, length, take, drop, nat_le, nat_lt, if◌then◌else◌, refl, sym, ap, ap₂, ◌∙◌, subst, arith, append_assoc, length-append, le-leb, inl, inr, ◌⊎◌, Option, Some, None}
use Rattle.std.specs.Prelude.{option_and_then}
use Rattle.std.proofs.lemmas.Bool.{leb-true, ltb-true, lt-ltb, eqb-true}
use Rattle.std.proofs.lemmas.List.{take-append-drop, drop-drop, length-drop, length-take-le}
use Rattle.std.proofs.Math.Seq.{take-append_seam, drop-append_seam}
use Rattle.byteorder.specs.Numbers.{big_from-lt}
use Rattle.tt_value.specs.BigEndian.{big_endian, number}
use Rattle.tt_value.specs.BigEndianLaws.{AreBytes, length-big_endian, number-big_endian, drop-big_endian, big_endian-number_2, big_endian-number_4, big_endian-number_8, take_bytes, drop_bytes}
use Rattle.tt_value.specs.Stored.{row_bytes, IsStorable, IsStored, IsCell}
use Rattle.tt_value.specs.StoredLaws.{read_is_stored, stored_is_read}
use Rattle.tt_value.specs.ReadingRows.{row_in}
use Rattle.tt_value.specs.Limits.{row_most}
use Rattle.tt_value.specs.declared.value.Row.{Row}
use Rattle.tt_value.specs.declared.value.Cell.{Cell}
use Rattle.tt_value.specs.declared.value.Cell.TheVariants.{Empty, Full}
use Rattle.tt_record.specs.declared.entry.Entry.{Entry}
use Rattle.tt_record.specs.declared.entry.Entry.TheVariants.{Change, Commit, Abort, Mark, Switch}
use Rattle.tt_record.specs.Entry.{cell_bytes, entry_bytes, length_of, of_one_table, IsTransaction, IsChange, IsEntry, BeginsWith}
use Rattle.tt_record.specs.Read.{transaction_at, full_of, full_at, cell_at, with_second, cells_of, cells_at, change_of, changed_at, change_at, switch_at, committed, aborted, entry_at}

-- ---- tests

both : (a b : Bool) → (a && b) ≡ true → (a ≡ true) × (b ≡ true)
both true true e = (refl, refl)
both true false e = cc
both false b e = cc

-- the one case of a test in which something is found
found : {X : Type 0} (t : Bool) (o : Option X) (x : X) → (if t then o else None) ≡ Some x → (t ≡ true) × (o ≡ Some x)
found true o x e = (refl, e)
found false o x e = cc

chosen : {X : Type 0} (t : Bool) (x y z : X) → (if t then x else y) ≡ z → ((t ≡ true) × (x ≡ z)) ⊎ ((t ≡ false) × (y ≡ z))
chosen true x y z e = inl (refl, e)
chosen false x y z e = inr (refl, e)

either : {A B C : Type 0} → A ⊎ B → (A → C) → (B → C) → C
either (inl a) f g = f a
either (inr b) f g = g b

same_Some : {X : Type 0} (x y : X) → Some x ≡ Some y → x ≡ y
same_Some x y e = cc

number-below : (n : ℕ) (z : List ℕ) → AreBytes z → number n z < 256 ^ n
unfolding number
number-below n z h = big_from-lt 0 n z h

-- ---- cells, as they are read

-- the cell's bytes stand at the front, and are so many
pub record TakesCell (z : List ℕ) (c : Cell) (k : ℕ) : Type 0 where
  pub bytes : z ≡ cell_bytes c ++ drop k z
  pub count : k ≡ length (cell_bytes c)
  pub range : IsCell c

-- a table's id, a row's length, the row and the rest are the whole
full_parts : (z row : List ℕ) (size : ℕ) → size ≡ number 2 (drop 4 z) → row ≡ take size (drop 6 z) → size + 6 ≤ length z → AreBytes z →
    (big_endian 4 (number 4 z) ++ (big_endian 2 (length row) ++ row)) ++ drop (size + 6) z ≡ z
full_parts z row size is cut long b =
    let l : length row ≡ size = ap length cut ∙ length-take-le size (drop 6 z) (omega (arith, length-drop 6 z)) in
    let four : big_endian 4 (number 4 z) ≡ take 4 z = big_endian-number_4 z (omega arith) b in
    let two : big_endian 2 (length row) ≡ take 2 (drop 4 z) = ap (big_endian 2) (l ∙ is) ∙ big_endian-number_2 (drop 4 z) (omega (arith, length-drop 4 z)) (drop_bytes 4 z b) in
    let rest : drop (size + 6) z ≡ drop size (drop 6 z) = ap (λ k. drop k z) (let e : size + 6 ≡ 6 + size = omega arith in e) ∙ sym (drop-drop size 6 z) in
    let behind_four : take 2 (drop 4 z) ++ (row ++ drop (size + 6) z) ≡ drop 4 z =
    ap₂ (λ x y. take 2 (drop 4 z) ++ (x ++ y)) cut rest
    ∙ ap (λ l. take 2 (drop 4 z) ++ l) (take-append-drop size (drop 6 z) ∙ sym (drop-drop 2 4 z))
    ∙ take-append-drop 2 (drop 4 z) in
    append_assoc (big_endian 4 (number 4 z)) (big_endian 2 (length row) ++ row) (drop (size + 6) z)
    ∙ ap (λ l. big_endian 4 (number 4 z) ++ l) (append_assoc (big_endian 2 (length row)) row (drop (size + 6) z))
    ∙ ap₂ (λ x y. x ++ (y ++ (row ++ drop (size + 6) z))) four two
    ∙ ap (λ l. take 4 z ++ l) behind_four
    ∙ take-append-drop 4 z

full_from : (z : List ℕ) (r : Row) → 1 ≤ number 4 z → number 2 (drop 4 z) + 6 ≤ length z → IsStored (take (number 2 (drop 4 z)) (drop 6 z)) r → AreBytes z
    → TakesCell (1 ∷ z) (Full (number 4 z) r) (number 2 (drop 4 z) + 7)
full_from z r some long stored b =
    let size = number 2 (drop 4 z) in
    let row = row_bytes r in
    let l : length row ≡ size = ap length (sym stored.1) ∙ length-take-le size (drop 6 z) (omega (arith, length-drop 6 z)) in
    let past : drop (size + 7) (1 ∷ z) ≡ drop (size + 6) z = ap (λ k. drop k (1 ∷ z)) (let k : size + 7 ≡ suc (size + 6) = omega arith in k) in
    record {
      bytes = sym (ap (λ l. 1 ∷ ((big_endian 4 (number 4 z) ++ (big_endian 2 (length row) ++ row)) ++ l)) past ∙ ap (λ l. 1 ∷ l) (full_parts z row size refl (sym stored.1) long b));
      count = omega (arith, l, length-append (big_endian 4 (number 4 z)) (big_endian 2 (length row) ++ row), length-big_endian 4 (number 4 z), length-append (big_endian 2 (length row)) row, length-big_endian 2 (length row));
      range = (some, number_below_4 z b, stored.0);
    }
  where
    number_below_4 : (z : List ℕ) → AreBytes z → number 4 z < 2 ^ 32
    number_below_4 z b = number-below 4 z b

pair_same : (z : List ℕ) (x y : Cell × ℕ) → Some x ≡ Some y → TakesCell z x.0 x.1 → TakesCell z y.0 y.1
pair_same z x y e t = let P : Cell × ℕ → Type 0 = λ p. TakesCell z p.0 p.1 in subst P (same_Some x y e) t

full_row : (z : List ℕ) (o : Option Row) (y : Cell × ℕ) → row_in (take (number 2 (drop 4 z)) (drop 6 z)) ≡ o → full_of (number 4 z) (number 2 (drop 4 z)) o ≡ Some y → 1 ≤ number 4 z → number 2 (drop 4 z) + 6 ≤ length z → AreBytes z → TakesCell (1 ∷ z) y.0 y.1
full_row z None y is e some long b = cc
full_row z (Some r) y is e some long b =
    let size = number 2 (drop 4 z) in
    pair_same (1 ∷ z) (Full (number 4 z) r, size + 7) y e (full_from z r some long (read_is_stored (take size (drop 6 z)) r (take_bytes size (drop 6 z) (drop_bytes 6 z b)) is) b)

takes_full : (z : List ℕ) (y : Cell × ℕ) → AreBytes z → full_at z ≡ Some y → TakesCell (1 ∷ z) y.0 y.1
unfolding full_at
takes_full z y b e =
    let size = number 2 (drop 4 z) in
    let row = row_in (take size (drop 6 z)) in
    let (test, is) = found (nat_le 6 (length z) && (nat_le 1 (number 4 z) && nat_le (size + 6) (length z))) (full_of (number 4 z) size row) y e in
    let (six, more) = both (nat_le 6 (length z)) (nat_le 1 (number 4 z) && nat_le (size + 6) (length z)) test in
    let (some, long) = both (nat_le 1 (number 4 z)) (nat_le (size + 6) (length z)) more in
    full_row z row y refl is (leb-true 1 (number 4 z) some) (leb-true (size + 6) (length z) long) b

abbrev cell_with : Cell → ℕ → Cell × ℕ
cell_with c k = (c, k)

takes_empty : (z : List ℕ) (y : Cell × ℕ) → Some (cell_with Empty 1) ≡ Some y → TakesCell (0 ∷ z) y.0 y.1
takes_empty z y e = pair_same (0 ∷ z) (Empty, 1) y e (record { bytes = refl; count = refl; range = tt })

at_tag : (k tag : ℕ) (z : List ℕ) (y : Cell × ℕ) → (tag == k) ≡ true → TakesCell (k ∷ z) y.0 y.1 → TakesCell (tag ∷ z) y.0 y.1
at_tag k tag z y is t = let P : ℕ → Type 0 = λ j. TakesCell (j ∷ z) y.0 y.1 in subst P (sym (eqb-true tag k is)) t

pub takes_cell : (z : List ℕ) (y : Cell × ℕ) → AreBytes z → cell_at z ≡ Some y → TakesCell z y.0 y.1
unfolding cell_at
takes_cell [] y b e = cc
takes_cell (tag ∷ z) y b e =
    either (chosen (tag == 0) _ _ _ e) (λ h. at_tag 0 tag z y h.0 (takes_empty z y h.1)) (λ h.
    either (chosen (tag == 1) _ _ _ h.1) (λ g. at_tag 1 tag z y g.0 (takes_full z y (λ i. b (suc i)) g.1)) (λ g. cc))

-- both cells of a change
pub record TakesCells (z : List ℕ) (old new : Cell) (k : ℕ) : Type 0 where
  pub bytes : z ≡ (cell_bytes old ++ cell_bytes new) ++ drop k z
  pub count : k ≡ length (cell_bytes old ++ cell_bytes new)
  pub before : IsCell old
  pub after : IsCell new
  pub table : of_one_table old new ≡ true

two_cells : (z : List ℕ) (a b : Cell) (i j : ℕ) → TakesCell z a i → TakesCell (drop i z) b j → of_one_table a b ≡ true → TakesCells z a b (i + j)
two_cells z a b i j first second table = record {
  bytes =
      first.bytes
      ∙ ap (λ l. cell_bytes a ++ l) (second.bytes ∙ ap (λ l. cell_bytes b ++ l) (drop-drop j i z))
      ∙ sym (append_assoc (cell_bytes a) (cell_bytes b) (drop (i + j) z));
  count = omega (arith, first.count, second.count, length-append (cell_bytes a) (cell_bytes b));
  before = first.range;
  after = second.range;
  table = table;
}

triple_same : (z : List ℕ) (x y : Cell × Cell × ℕ) → Some x ≡ Some y → TakesCells z x.0 x.1 x.2 → TakesCells z y.0 y.1 y.2
triple_same z x y e t = let P : Cell × Cell × ℕ → Type 0 = λ p. TakesCells z p.0 p.1 p.2 in subst P (same_Some x y e) t

takes_second : (z : List ℕ) (a : Cell × ℕ) (o : Option (Cell × ℕ)) (y : Cell × Cell × ℕ) → AreBytes z → TakesCell z a.0 a.1 → cell_at (drop a.1 z) ≡ o → with_second a o ≡ Some y → TakesCells z y.0 y.1 y.2
takes_second z a None y b first is e = cc
takes_second z a (Some c) y b first is e =
    let (table, same) = found (of_one_table a.0 c.0) (Some (a.0, c.0, a.1 + c.1)) y e in
    triple_same z (a.0, c.0, a.1 + c.1) y same (two_cells z a.0 c.0 a.1 c.1 first (takes_cell (drop a.1 z) c (drop_bytes a.1 z b) is) table)

takes_first : (z : List ℕ) (o : Option (Cell × ℕ)) (y : Cell × Cell × ℕ) → AreBytes z → cell_at z ≡ o → cells_of o (λ n. cell_at (drop n z)) ≡ Some y → TakesCells z y.0 y.1 y.2
takes_first z None y b is e = cc
takes_first z (Some a) y b is e = takes_second z a (cell_at (drop a.1 z)) y b (takes_cell z a b is) refl e

takes_cells : (z : List ℕ) (y : Cell × Cell × ℕ) → AreBytes z → cells_at z ≡ Some y → TakesCells z y.0 y.1 y.2
unfolding cells_at
takes_cells z y b e = takes_first z (cell_at z) y b refl e

-- ---- entries, as they are read

-- the entry's bytes stand at the front, and are so many
pub record Takes (z : List ℕ) (e : Entry) (k : ℕ) : Type 0 where
  pub first : BeginsWith z e
  pub count : k ≡ length_of e

taken : (z : List ℕ) (e : Entry) (k : ℕ) → IsEntry e → z ≡ entry_bytes e ++ drop k z → k ≡ length_of e → Takes z e k
taken z e k range bytes count = record {
  first = record { entry = range; front = bytes ∙ ap (λ n. entry_bytes e ++ drop n z) count };
  count = count;
}

entry_same : (z : List ℕ) (x y : Entry × ℕ) → Some x ≡ Some y → Takes z x.0 x.1 → Takes z y.0 y.1
entry_same z x y e t = let P : Entry × ℕ → Type 0 = λ p. Takes z p.0 p.1 in subst P (same_Some x y e) t

-- a transaction's number stands at the front
pub record TakesTransaction (z : List ℕ) (t : ℕ) : Type 0 where
  pub long : 8 ≤ length z
  pub bytes : z ≡ big_endian 8 t ++ drop 8 z
  pub range : IsTransaction t

takes_transaction : (z : List ℕ) (t : ℕ) → AreBytes z → transaction_at z ≡ Some t → TakesTransaction z t
unfolding transaction_at
takes_transaction z t b e =
    let (test, same) = found (nat_le 8 (length z) && (nat_le 1 (number 8 z) && nat_lt (number 8 z) (2 ^ 48))) (Some (number 8 z)) t e in
    let (eight, range) = both (nat_le 8 (length z)) (nat_le 1 (number 8 z) && nat_lt (number 8 z) (2 ^ 48)) test in
    let (some, below) = both (nat_le 1 (number 8 z)) (nat_lt (number 8 z) (2 ^ 48)) range in
    let long : 8 ≤ length z = leb-true 8 (length z) eight in
    let P : ℕ → Type 0 = λ n. TakesTransaction z n in
    subst P (same_Some (number 8 z) t same) (record {
      long = long;
      bytes = sym (ap (λ l. l ++ drop 8 z) (big_endian-number_8 z long b) ∙ take-append-drop 8 z);
      range = (leb-true 1 (number 8 z) some, ltb-true (number 8 z) (2 ^ 48) below);
    })

takes_commit : (z : List ℕ) (o : Option ℕ) (y : Entry × ℕ) → AreBytes z → transaction_at z ≡ o → committed o ≡ Some y → Takes (2 ∷ z) y.0 y.1
takes_commit z None y b is e = cc
takes_commit z (Some t) y b is e =
    let h = takes_transaction z t b is in
    entry_same (2 ∷ z) (Commit t, 9) y e (taken (2 ∷ z) (Commit t) 9 h.range (ap (λ l. 2 ∷ l) h.bytes) (omega (arith, length-big_endian 8 t)))

takes_abort : (z : List ℕ) (o : Option ℕ) (y : Entry × ℕ) → AreBytes z → transaction_at z ≡ o → aborted o ≡ Some y → Takes (3 ∷ z) y.0 y.1
takes_abort z None y b is e = cc
takes_abort z (Some t) y b is e =
    let h = takes_transaction z t b is in
    entry_same (3 ∷ z) (Abort t, 9) y e (taken (3 ∷ z) (Abort t) 9 h.range (ap (λ l. 3 ∷ l) h.bytes) (omega (arith, length-big_endian 8 t)))

abbrev entry_with : Entry → ℕ → Entry × ℕ
entry_with e k = (e, k)

takes_mark : (z : List ℕ) (y : Entry × ℕ) → Some (entry_with Mark 1) ≡ Some y → Takes (4 ∷ z) y.0 y.1
takes_mark z y e = entry_same (4 ∷ z) (Mark, 1) y e (taken (4 ∷ z) Mark 1 tt refl refl)

takes_switch : (z : List ℕ) (y : Entry × ℕ) → AreBytes z → switch_at z ≡ Some y → Takes (5 ∷ z) y.0 y.1
unfolding switch_at
takes_switch z y b e =
    let (four, same) = found (nat_le 4 (length z)) (Some (Switch (number 4 z), 5)) y e in
    let long : 4 ≤ length z = leb-true 4 (length z) four in
    entry_same (5 ∷ z) (Switch (number 4 z), 5) y same (taken (5 ∷ z) (Switch (number 4 z)) 5 (number-below 4 z b)
    (ap (λ l. 5 ∷ l) (sym (ap (λ l. l ++ drop 4 z) (big_endian-number_4 z long b) ∙ take-append-drop 4 z))) (omega (arith, length-big_endian 4 (number 4 z))))

-- a place and two cells behind a transaction's number
change_parts : (t : ℕ) (z cells : List ℕ) (k : ℕ) → 4 ≤ length (drop 8 z) → AreBytes z → z ≡ big_endian 8 t ++ drop 8 z → drop 4 (drop 8 z) ≡ cells ++ drop k (drop 4 (drop 8 z))
    → 1 ∷ z ≡ (1 ∷ (big_endian 8 t ++ (big_endian 4 (number 4 (drop 8 z)) ++ cells))) ++ drop (13 + k) (1 ∷ z)
change_parts t z cells k four b eight rest =
    let p = big_endian 4 (number 4 (drop 8 z)) in
    let place : drop 8 z ≡ p ++ drop 4 (drop 8 z) = sym (ap (λ l. l ++ drop 4 (drop 8 z)) (big_endian-number_4 (drop 8 z) four (drop_bytes 8 z b)) ∙ take-append-drop 4 (drop 8 z)) in
    let past : drop k (drop 4 (drop 8 z)) ≡ drop (12 + k) z = ap (drop k) (drop-drop 4 8 z) ∙ drop-drop k 12 z in
    let last : drop (12 + k) z ≡ drop (13 + k) (1 ∷ z) = ap (λ n. drop n (1 ∷ z)) (let n : suc (12 + k) ≡ 13 + k = omega arith in n) in
    ap (λ l. 1 ∷ l) (
    eight
    ∙ ap (λ l. big_endian 8 t ++ l) (place ∙ ap (λ l. p ++ l) (rest ∙ ap (λ l. cells ++ l) (past ∙ last)) ∙ sym (append_assoc p cells (drop (13 + k) (1 ∷ z))))
    ∙ sym (append_assoc (big_endian 8 t) (p ++ cells) (drop (13 + k) (1 ∷ z))))

takes_changed : (t : ℕ) (z : List ℕ) (o : Option (Cell × Cell × ℕ)) (y : Entry × ℕ) → AreBytes z → TakesTransaction z t → 4 ≤ length (drop 8 z) → number 4 (drop 8 z) < 2097152 → cells_at (drop 4 (drop 8 z)) ≡ o
    → change_of t (number 4 (drop 8 z)) o ≡ Some y → Takes (1 ∷ z) y.0 y.1
takes_changed t z None y b h four low is e = cc
takes_changed t z (Some (before, after, k)) y b h four low is e =
    let p = number 4 (drop 8 z) in
    let cells = takes_cells (drop 4 (drop 8 z)) (before, after, k) (drop_bytes 4 (drop 8 z) (drop_bytes 8 z b)) is in
    let both_bytes = cell_bytes before ++ cell_bytes after in
    entry_same (1 ∷ z) (Change t p before after, 13 + k) y e (taken (1 ∷ z) (Change t p before after) (13 + k)
    (record { transaction = h.range; place = low; before = cells.before; after = cells.after; table = cells.table })
    (change_parts t z both_bytes k four b h.bytes cells.bytes)
    (omega (arith, cells.count, length-append (big_endian 8 t) (big_endian 4 p ++ both_bytes), length-big_endian 8 t, length-append (big_endian 4 p) both_bytes, length-big_endian 4 p)))

takes_placed : (t : ℕ) (z : List ℕ) (y : Entry × ℕ) → AreBytes z → TakesTransaction z t → changed_at t (drop 8 z) ≡ Some y → Takes (1 ∷ z) y.0 y.1
takes_placed t z y b h e =
    let p = number 4 (drop 8 z) in
    let cells = cells_at (drop 4 (drop 8 z)) in
    let (test, same) = found (nat_le 4 (length (drop 8 z)) && nat_lt p 2097152) (change_of t p cells) y e in
    let (four, low) = both (nat_le 4 (length (drop 8 z))) (nat_lt p 2097152) test in
    takes_changed t z cells y b h (leb-true 4 (length (drop 8 z)) four) (ltb-true p 2097152 low) refl same

takes_change : (z : List ℕ) (o : Option ℕ) (y : Entry × ℕ) → AreBytes z → transaction_at z ≡ o → option_and_then (λ t. changed_at t (drop 8 z)) o ≡ Some y → Takes (1 ∷ z) y.0 y.1
takes_change z None y b is e = cc
takes_change z (Some t) y b is e = takes_placed t z y b (takes_transaction z t b is) e

at_kind : (k kind : ℕ) (z : List ℕ) (y : Entry × ℕ) → (kind == k) ≡ true → Takes (k ∷ z) y.0 y.1 → Takes (kind ∷ z) y.0 y.1
at_kind k kind z y is t = let P : ℕ → Type 0 = λ j. Takes (j ∷ z) y.0 y.1 in subst P (sym (eqb-true kind k is)) t

-- what is read stands at the front
pub takes : (z : List ℕ) (y : Entry × ℕ) → AreBytes z → entry_at z ≡ Some y → Takes z y.0 y.1
unfolding entry_at change_at cells_at
takes [] y b e = cc
takes (kind ∷ z) y b e =
    let rest : AreBytes z = λ i. b (suc i) in
    either (chosen (kind == 1) _ _ _ e) (λ h. at_kind 1 kind z y h.0 (takes_change z (transaction_at z) y rest refl h.1)) (λ h.
    either (chosen (kind == 2) _ _ _ h.1) (λ g. at_kind 2 kind z y g.0 (takes_commit z (transaction_at z) y rest refl g.1)) (λ g.
    either (chosen (kind == 3) _ _ _ g.1) (λ f. at_kind 3 kind z y f.0 (takes_abort z (transaction_at z) y rest refl f.1)) (λ f.
    either (chosen (kind == 4) _ _ _ f.1) (λ k. at_kind 4 kind z y k.0 (takes_mark z y k.1)) (λ k.
    either (chosen (kind == 5) _ _ _ k.1) (λ l. at_kind 5 kind z y l.0 (takes_switch z y rest l.1)) (λ l. cc)))))

-- ---- what is written is read again, whatever follows it

transaction_again : (t : ℕ) (more : List ℕ) → IsTransaction t → transaction_at (big_endian 8 t ++ more) ≡ Some t
unfolding transaction_at
transaction_again t more range =
    let same : number 8 (big_endian 8 t ++ more) ≡ t = number-big_endian 8 t more (omega (arith, range.1)) in
    let long : nat_le 8 (length (big_endian 8 t ++ more)) ≡ true = le-leb 8 (length (big_endian 8 t ++ more)) (omega (arith, length-append (big_endian 8 t) more, length-big_endian 8 t)) in
    rw (same, long, le-leb 1 t range.0, lt-ltb t (2 ^ 48) range.1) refl

-- the bytes of a full cell behind its tag, and what they give
full_again : (table : ℕ) (row : Row) (more : List ℕ) → 1 ≤ table → table < 2 ^ 32 → IsStorable row → full_at ((big_endian 4 table ++ (big_endian 2 (length (row_bytes row)) ++ row_bytes row)) ++ more) ≡ Some (cell_with (Full table row) (length (row_bytes row) + 7))
unfolding full_at
full_again table row more some below storable =
    let n = length (row_bytes row) in
    let z = (big_endian 4 table ++ (big_endian 2 n ++ row_bytes row)) ++ more in
    let flat : z ≡ big_endian 4 table ++ (big_endian 2 n ++ (row_bytes row ++ more)) = append_assoc (big_endian 4 table) (big_endian 2 n ++ row_bytes row) more ∙ ap (λ l. big_endian 4 table ++ l) (append_assoc (big_endian 2 n) (row_bytes row) more) in
    let first : number 4 z ≡ table = ap (number 4) flat ∙ number-big_endian 4 table (big_endian 2 n ++ (row_bytes row ++ more)) below in
    let behind_table : drop 4 z ≡ big_endian 2 n ++ (row_bytes row ++ more) = ap (drop 4) flat ∙ drop-big_endian 4 table (big_endian 2 n ++ (row_bytes row ++ more)) in
    let size : number 2 (drop 4 z) ≡ n = ap (number 2) behind_table ∙ number-big_endian 2 n (row_bytes row ++ more) (omega (arith, storable.short)) in
    let behind_size : drop 6 z ≡ row_bytes row ++ more = sym (drop-drop 2 4 z) ∙ ap (drop 2) behind_table ∙ drop-big_endian 2 n (row_bytes row ++ more) in
    let cut : take n (drop 6 z) ≡ row_bytes row = ap (take n) behind_size ∙ take-append_seam (row_bytes row) more in
    let total : length z ≡ 4 + (2 + (n + length more)) = ap length flat ∙ omega (arith, length-append (big_endian 4 table) (big_endian 2 n ++ (row_bytes row ++ more)), length-big_endian 4 table, length-append (big_endian 2 n) (row_bytes row ++ more), length-big_endian 2 n, length-append (row_bytes row) more) in
    let six : nat_le 6 (length z) ≡ true = le-leb 6 (length z) (omega arith) in
    let long : nat_le (n + 6) (length z) ≡ true = le-leb (n + 6) (length z) (omega arith) in
    rw (size, first, six, le-leb 1 table some, long, cut, stored_is_read (row_bytes row) row (storable, refl)) refl

pub cell_again : (c : Cell) (more : List ℕ) → IsCell c → cell_at (cell_bytes c ++ more) ≡ Some (cell_with c (length (cell_bytes c)))
unfolding cell_at
cell_again Empty more range = refl
cell_again (Full table row) more range =
    full_again table row more range.0 range.1 range.2
    ∙ ap (λ k. Some (cell_with (Full table row) k)) (omega (arith, length-append (big_endian 4 table) (big_endian 2 (length (row_bytes row)) ++ row_bytes row), length-big_endian 4 table, length-append (big_endian 2 (length (row_bytes row))) (row_bytes row), length-big_endian 2 (length (row_bytes row))))

abbrev cells_with : Cell → Cell → ℕ → Cell × Cell × ℕ
cells_with before after k = (before, after, k)

cells_again : (a b : Cell) (more : List ℕ) → IsCell a → IsCell b → of_one_table a b ≡ true → cells_at ((cell_bytes a ++ cell_bytes b) ++ more) ≡ Some (cells_with a b (length (cell_bytes a ++ cell_bytes b)))
unfolding cells_at
cells_again a b more is_a is_b table =
    let z = (cell_bytes a ++ cell_bytes b) ++ more in
    let flat : z ≡ cell_bytes a ++ (cell_bytes b ++ more) = append_assoc (cell_bytes a) (cell_bytes b) more in
    let first : cell_at z ≡ Some (cell_with a (length (cell_bytes a))) = ap cell_at flat ∙ cell_again a (cell_bytes b ++ more) is_a in
    let rest : drop (length (cell_bytes a)) z ≡ cell_bytes b ++ more = ap (drop (length (cell_bytes a))) flat ∙ drop-append_seam (cell_bytes a) (cell_bytes b ++ more) in
    ap (λ o. cells_of o (λ n. cell_at (drop n z))) first
    ∙ ap (λ l. with_second (cell_with a (length (cell_bytes a))) (cell_at l)) rest
    ∙ ap (with_second (cell_with a (length (cell_bytes a)))) (cell_again b more is_b)
    ∙ ap (λ t. if t then Some (cells_with a b (length (cell_bytes a) + length (cell_bytes b))) else None) table
    ∙ ap (λ k. Some (cells_with a b k)) (sym (length-append (cell_bytes a) (cell_bytes b)))

change_again : (t p : ℕ) (a b : Cell) (more : List ℕ) → IsChange t p a b → change_at ((big_endian 8 t ++ (big_endian 4 p ++ (cell_bytes a ++ cell_bytes b))) ++ more) ≡ Some (entry_with (Change t p a b) (13 + length (cell_bytes a ++ cell_bytes b)))
unfolding change_at cells_at
change_again t p a b more range =
    let cells = cell_bytes a ++ cell_bytes b in
    let z = (big_endian 8 t ++ (big_endian 4 p ++ cells)) ++ more in
    let flat : z ≡ big_endian 8 t ++ (big_endian 4 p ++ (cells ++ more)) = append_assoc (big_endian 8 t) (big_endian 4 p ++ cells) more ∙ ap (λ l. big_endian 8 t ++ l) (append_assoc (big_endian 4 p) cells more) in
    let numbered : transaction_at z ≡ Some t = ap transaction_at flat ∙ transaction_again t (big_endian 4 p ++ (cells ++ more)) range.transaction in
    let behind_number : drop 8 z ≡ big_endian 4 p ++ (cells ++ more) = ap (drop 8) flat ∙ drop-big_endian 8 t (big_endian 4 p ++ (cells ++ more)) in
    let place : number 4 (drop 8 z) ≡ p = ap (number 4) behind_number ∙ number-big_endian 4 p (cells ++ more) (omega (arith, range.place)) in
    let behind_place : drop 4 (drop 8 z) ≡ cells ++ more = ap (drop 4) behind_number ∙ drop-big_endian 4 p (cells ++ more) in
    let four : nat_le 4 (length (drop 8 z)) ≡ true = le-leb 4 (length (drop 8 z)) (omega (arith, ap length behind_number, length-append (big_endian 4 p) (cells ++ more), length-big_endian 4 p)) in
    let both_read : cells_at (drop 4 (drop 8 z)) ≡ Some (cells_with a b (length cells)) = ap cells_at behind_place ∙ cells_again a b more range.before range.after range.table in
    ap (λ o. option_and_then (λ t. changed_at t (drop 8 z)) o) numbered
    ∙ rw (both_read, place, four, lt-ltb p 2097152 range.place) refl

pub again : (e : Entry) (more : List ℕ) → IsEntry e → entry_at (entry_bytes e ++ more) ≡ Some (entry_with e (length_of e))
unfolding entry_at switch_at
again (Change t p a b) more range =
    change_again t p a b more range
    ∙ ap (λ k. Some (entry_with (Change t p a b) k)) (omega (arith, length-append (big_endian 8 t) (big_endian 4 p ++ (cell_bytes a ++ cell_bytes b)), length-big_endian 8 t, length-append (big_endian 4 p) (cell_bytes a ++ cell_bytes b), length-big_endian 4 p))
again (Commit t) more range = ap committed (transaction_again t more range) ∙ ap (λ k. Some (entry_with (Commit t) k)) (omega (arith, length-big_endian 8 t))
again (Abort t) more range = ap aborted (transaction_again t more range) ∙ ap (λ k. Some (entry_with (Abort t) k)) (omega (arith, length-big_endian 8 t))
again Mark more range = refl
again (Switch file) more range =
    let long : nat_le 4 (length (big_endian 4 file ++ more)) ≡ true = le-leb 4 (length (big_endian 4 file ++ more)) (omega (arith, length-append (big_endian 4 file) more, length-big_endian 4 file)) in
    rw (number-big_endian 4 file more range, long) (ap (λ k. Some (entry_with (Switch file) k)) (omega (arith, length-big_endian 4 file)))

-- the entry that the bytes begin with is read
pub first_is_read : (z : List ℕ) (e : Entry) → BeginsWith z e → entry_at z ≡ Some (entry_with e (length_of e))
first_is_read z e is = ap entry_at is.front ∙ again e (drop (length_of e) z) is.entry

-- bytes begin with one entry alone
pub one_first : (z : List ℕ) (e f : Entry) → BeginsWith z e → BeginsWith z f → e ≡ f
one_first z e f is other = ap (λ (p : Entry × ℕ). p.0) (same_Some (entry_with e (length_of e)) (entry_with f (length_of f)) (sym (first_is_read z e is) ∙ first_is_read z f other))

-- the bytes of an entry, and whatever follows them, begin with it
pub begins : (e : Entry) (more : List ℕ) → IsEntry e → BeginsWith (entry_bytes e ++ more) e
begins e more range = record { entry = range; front = ap (λ l. entry_bytes e ++ l) (sym (drop-append_seam (entry_bytes e) more)) }

pub some_bytes : (e : Entry) → 1 ≤ length_of e
some_bytes (Change t p a b) = omega arith
some_bytes (Commit t) = omega arith
some_bytes (Abort t) = omega arith
some_bytes Mark = omega arith
some_bytes (Switch file) = omega arith

-- a row that can be stored has at most row_most bytes
few_cell_bytes : (c : Cell) → IsCell c → length (cell_bytes c) ≤ row_most + 7
few_cell_bytes Empty range = omega arith
few_cell_bytes (Full table row) range =
    let n = length (row_bytes row) in
    omega (arith, range.2.short, length-append (big_endian 4 table) (big_endian 2 n ++ row_bytes row), length-big_endian 4 table, length-append (big_endian 2 n) (row_bytes row), length-big_endian 2 n)

pub few_bytes : (e : Entry) → IsEntry e → length_of e ≤ 2 * row_most + 27
few_bytes (Change t p a b) range =
    omega (arith, few_cell_bytes a range.before, few_cell_bytes b range.after, length-append (big_endian 8 t) (big_endian 4 p ++ (cell_bytes a ++ cell_bytes b)), length-big_endian 8 t, length-append (big_endian 4 p) (cell_bytes a ++ cell_bytes b), length-big_endian 4 p, length-append (cell_bytes a) (cell_bytes b))
few_bytes (Commit t) range = omega (arith, length-big_endian 8 t)
few_bytes (Abort t) range = omega (arith, length-big_endian 8 t)
few_bytes Mark range = omega arith
few_bytes (Switch file) range = omega (arith, length-big_endian 4 file)

-- ---- what is read takes some bytes

counted : (x y : Entry × ℕ) → Some x ≡ Some y → 1 ≤ x.1 → 1 ≤ y.1
counted x y e some = let P : Entry × ℕ → Type 0 = λ p. 1 ≤ p.1 in subst P (same_Some x y e) some

changed_some : (t p : ℕ) (o : Option (Cell × Cell × ℕ)) (y : Entry × ℕ) → change_of t p o ≡ Some y → 1 ≤ y.1
changed_some t p None y e = cc
changed_some t p (Some c) y e = counted (Change t p c.0 c.1, 13 + c.2) y e (omega arith)

change_some : (o : Option ℕ) (z : List ℕ) (y : Entry × ℕ) → option_and_then (λ t. changed_at t (drop 8 z)) o ≡ Some y → 1 ≤ y.1
change_some None z y e = cc
change_some (Some t) z y e =
    let p = number 4 (drop 8 z) in
    let cells = cells_at (drop 4 (drop 8 z)) in
    changed_some t p cells y (found (nat_le 4 (length (drop 8 z)) && nat_lt p 2097152) (change_of t p cells) y e).1

commit_some : (o : Option ℕ) (y : Entry × ℕ) → committed o ≡ Some y → 1 ≤ y.1
commit_some None y e = cc
commit_some (Some t) y e = counted (Commit t, 9) y e (omega arith)

abort_some : (o : Option ℕ) (y : Entry × ℕ) → aborted o ≡ Some y → 1 ≤ y.1
abort_some None y e = cc
abort_some (Some t) y e = counted (Abort t, 9) y e (omega arith)

mark_some : (y : Entry × ℕ) → Some (entry_with Mark 1) ≡ Some y → 1 ≤ y.1
mark_some y e = counted (Mark, 1) y e (omega arith)

switch_some : (z : List ℕ) (y : Entry × ℕ) → switch_at z ≡ Some y → 1 ≤ y.1
unfolding switch_at
switch_some z y e = counted (Switch (number 4 z), 5) y (found (nat_le 4 (length z)) (Some (Switch (number 4 z), 5)) y e).1 (omega arith)

-- also of bytes that aren't below 256
pub takes_some : (z : List ℕ) (y : Entry × ℕ) → entry_at z ≡ Some y → 1 ≤ y.1
unfolding entry_at change_at cells_at
takes_some [] y e = cc
takes_some (kind ∷ z) y e =
    either (chosen (kind == 1) _ _ _ e) (λ h. change_some (transaction_at z) z y h.1) (λ h.
    either (chosen (kind == 2) _ _ _ h.1) (λ g. commit_some (transaction_at z) y g.1) (λ g.
    either (chosen (kind == 3) _ _ _ g.1) (λ f. abort_some (transaction_at z) y f.1) (λ f.
    either (chosen (kind == 4) _ _ _ f.1) (λ k. mark_some y k.1) (λ k.
    either (chosen (kind == 5) _ _ _ k.1) (λ l. switch_some z y l.1) (λ l. cc)))))

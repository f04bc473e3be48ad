-- Where entries stand: never back, and within a file.
use Rattle.std.proofs.Common.{◌≡◌, ◌≢◌, ◌≤◌, ◌<◌, ◌+◌, ℕ, Bool, true, false, nat_le, nat_lt, if◌then◌else◌, Option, Some, None, refl, sym, ap, ap₂, ◌∙◌, subst, arith, le-leb, Ordering, Less, Equal, Greater, nat_cmp}
use Rattle.std.proofs.lemmas.Bool.{leb-true, ltb-true, lt-ltb, lt-leb}
use Rattle.std.specs.Cmp.{nat_cmp_is}
use Rattle.std.specs.Ordering.{ordering_then}
use Rattle.tt_value.specs.Position.{position_cmp}
use Rattle.tt_value.specs.declared.position.Position.{Position}
use Rattle.tt_record.specs.Place.{position, end_of, position_of}

same_Some : (a b : Position) → Some a ≡ Some b → a ≡ b
same_Some a b e = cc

abbrev chosen : Bool → Position → Position
chosen fits end = if fits then end else position (end.file + 1) 0

abbrev numbered : Position → Option Position
numbered at = if nat_lt at.file 1000000 then Some at else None

-- an entry that fits stays in its file
pub place_stays : (end : Position) (n size : ℕ) → end.file < 1000000 → end.offset + n ≤ size → position_of end n size ≡ Some end
place_stays end n size file fits =
    ap (λ b. numbered (chosen b end)) (le-leb (end.offset + n) size fits)
    ∙ ap (λ b. if b then Some end else None) (lt-ltb end.file 1000000 file)

-- one that doesn't begins the next file
pub place_turns : (end : Position) (n size : ℕ) → end.file + 1 < 1000000 → size < end.offset + n → position_of end n size ≡ Some (position (end.file + 1) 0)
place_turns end n size file over =
    ap (λ b. numbered (chosen b end)) (lt-leb (end.offset + n) size over)
    ∙ ap (λ b. if b then Some (position (end.file + 1) 0) else None) (lt-ltb (end.file + 1) 1000000 file)

below : (x y : ℕ) → x < y → nat_cmp x y ≡ Less
below x y h = sym (nat_cmp_is x y Less h)

itself : (x : ℕ) → nat_cmp x x ≡ Equal
itself x = sym (nat_cmp_is x x Equal refl)

-- the place of an entry, where it has one, is the end or the head of the next file
pub record Placed (end at : Position) (n size : ℕ) : Type 0 where
  pub file : at.file < 1000000
  pub onward : position_cmp end at ≢ Greater
  pub within : n ≤ size → at.offset + n ≤ size

found : (b : Bool) (p at : Position) → (if b then Some p else None) ≡ Some at → (b ≡ true) × (p ≡ at)
found true p at e = (refl, same_Some p at e)
found false p at e = cc

not_greater : (o other : Ordering) → o ≡ other → other ≢ Greater → o ≢ Greater
not_greater o other same other_is is = other_is (sym same ∙ is)

placed_at : (fits : Bool) (end at : Position) (n size : ℕ) → nat_le (end.offset + n) size ≡ fits → numbered (chosen fits end) ≡ Some at → Placed end at n size
placed_at true end at n size is e =
    let (file, same) = found (nat_lt end.file 1000000) end at e in
    let P : Position → Type 0 = λ p. Placed end p n size in
    subst P same (record {
      file = ltb-true end.file 1000000 file;
      onward = not_greater (position_cmp end end) Equal (ap₂ ordering_then (itself end.file) (itself end.offset)) (λ g. cc);
      within = λ h. leb-true (end.offset + n) size is;
    })
placed_at false end at n size is e =
    let next = position (end.file + 1) 0 in
    let (file, same) = found (nat_lt (end.file + 1) 1000000) next at e in
    let P : Position → Type 0 = λ p. Placed end p n size in
    subst P same (record {
      file = ltb-true (end.file + 1) 1000000 file;
      onward = not_greater (position_cmp end next) Less (ap (λ o. ordering_then o (nat_cmp end.offset 0)) (below end.file (end.file + 1) (omega arith))) (λ g. cc);
      within = λ h. omega (arith, h);
    })

pub placed : (end at : Position) (n size : ℕ) → position_of end n size ≡ Some at → Placed end at n size
placed end at n size e = placed_at (nat_le (end.offset + n) size) end at n size refl e

-- an entry's end lies behind its place
pub end_behind : (at : Position) (n : ℕ) → 1 ≤ n → position_cmp at (end_of at n) ≡ Less
end_behind at n some = ap₂ ordering_then (itself at.file) (below at.offset (at.offset + n) (omega arith))

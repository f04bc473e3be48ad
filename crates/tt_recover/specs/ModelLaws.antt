-- What opening finds in the bytes of files is what the model's opening finds in what was read of them.
use Rattle.std.proofs.Common.{◌≡◌, ◌⊎◌, inl, inr, ◌<◌, ◌≤◌, ◌+◌, ◌-◌, ◌*◌, ◌==◌, ℕ, zero, suc, Bool, true, false, not, ◌&&◌, ◌||◌, nat_eq, nat_le, nat_lt, List, [], ◌∷◌, ◌++◌, length, map, take, Option, Some, None, Result, Ok, Err, if◌then◌else◌, refl, sym, ◌∙◌, ap, ap₂, subst, arith, Less, Equal, Greater, nat_cmp}
use Rattle.std.proofs.lemmas.Bool.{eqb-true, leb-true}
use Rattle.std.proofs.lemmas.Bool.Decides.{nat_tests, leb_tells}
use Rattle.std.specs.Cmp.{nat_cmp_is}
use Rattle.std.specs.List.{list_any}
use Rattle.std.specs.Ordering.{is_eq, is_lt, ordering_then}
use Rattle.tt_disk.specs.Volume.{bytes_of, Files}
use Rattle.tt_disk.specs.declared.volume.Name.TheVariants.{Ds, Log}
use Rattle.tt_gate.specs.declared.gate.GateRefusal.{GateRefusal}
use Rattle.tt_gate.specs.declared.gate.GateRefusal.TheVariants.{Absent as GateAbsent, BadHeader as GateHeader, BadBatch as GateBad, Failed as GateFailed}
use Rattle.tt_gate.specs.Gate.{gated, whole_bodies}
use Rattle.tt_gate.specs.Laws.{gated_bodies}
use Rattle.tt_value.specs.declared.position.Position.{Position}
use Rattle.tt_value.specs.declared.reply.Hold.{Hold}
use Rattle.tt_record.specs.declared.entry.Entry.{Entry}
use Rattle.tt_record.specs.Entry.{length_of}
use Rattle.tt_record.specs.Place.{position}
use Rattle.tt_record.specs.Read.{entries_of}
use Rattle.tt_log.specs.Lengths.{total}
use Rattle.tt_log.specs.declared.refusal.LogRefusal.{LogRefusal}
use Rattle.tt_log.specs.declared.refusal.LogRefusal.TheVariants.{Gap, BadBatch as BatchRefused, Failed, NoMemory as NoRoom}
use Rattle.tt_log.specs.Walk.{Part, LogContents as Read, after_switch, batch_read, before as put_before, bodies_read, chosen, file_read, in_front as found_in_front, is_last, log_header, log_of, no_switch, offset_behind, on_part, part_of, placed, same_bytes, switches, walk}
use Rattle.tt_log.specs.Limits.{file_most}
use Rattle.tt_log.specs.Opening.{has_place, is_place, started, starts_at, where_place}
use Rattle.tt_model.specs.Trail.{Trail, Placed as PlacedEntry, position_eq, position_lt}
use Rattle.tt_model.specs.Live.{pages_named}
use Rattle.tt_model.specs.Opened.{Head, Opened, newest_of, number_of, scan_of}
use Rattle.tt_model.specs.Holds.{checkpoint_hold, holds_of, least_of}
use Rattle.tt_model.specs.Prefix.{found_hold}
use Rattle.tt_model.specs.Damage.{first_bad}
use Rattle.tt_model.specs.Opening.{FilesRead, found_behind, found_from, have_one_number, held_by, is_in_file, opened_by, opening, with_entries, is_ahead as ahead_of}
use Rattle.tt_model.specs.Standing.{log_of as trail_of}
use Rattle.tt_model.specs.declared.damage.Damage.{Damage}
use Rattle.tt_model.specs.declared.damage.Damage.TheVariants.{NoImage, BadHeader}
use Rattle.tt_recover.specs.declared.refusal.OpenRefusal.{OpenRefusal}
use Rattle.tt_recover.specs.declared.refusal.OpenRefusal.TheVariants.{NoDatabase, Damaged}
use Rattle.tt_image.specs.declared.head.ImageHead.{ImageHead}
use Rattle.tt_image.specs.declared.head.HeadRead.{HeadRead}
use Rattle.tt_image.specs.declared.head.HeadRead.TheVariants.{Absent, Closed, Bad, Whole}
use Rattle.tt_image.specs.Head.{has_form, head_of as header_of, head_read, is_good, is_head, is_whole}
use Rattle.tt_recover.specs.Opening.{laid_on, newest_first}
use Rattle.tt_recover.specs.Volumes.{Placed, ahead_before, and_then, any_passes, beside_none, beside_whole, head_of, heads_in, one_head, opening_of, two_heads, first_bad_cell, from_newest, gate_where, image_of, is_ahead, older, older_read, or_refused, unless, unless_gate, with_older}
use Rattle.tt_recover.specs.VolumeLaws.{older_parts, older_same, whole_walk}
use Rattle.tt_recover.specs.WalkLaws.{IsPlain, entries_in, entries_read, file_is_plain, laid_plain, laid_switch, walks_tie}

abbrev pub pages_of : Option Head → ℕ
pages_of None = 0
pages_of (Some head) = head.pages

-- what was read: the headers, the images' cells, and the entries of each log file
abbrev pub files_read : (ℕ → Option Head) → Files → Files → FilesRead
files_read heads logs images = record { heads = heads; images = λ file. image_of (pages_of (heads file)) (images (Ds file)); entries_in = entries_in logs }

-- ---- steps that went well

and_parts : {A B : Type 0} (r : Result A OpenRefusal) (next : A → Result B OpenRefusal) (b : B) → and_then r next ≡ Ok b → (a : A) × (r ≡ Ok a) × (next a ≡ Ok b)
and_parts (Ok a) next b is = (a, refl, is)
and_parts (Err e) next b is = cc

unless_parts : {A : Type 0} (o : Option Damage) (a b : A) → unless o a ≡ Ok b → (o ≡ None) × (a ≡ b)
unless_parts None a b is = (refl, let same : a ≡ b = cc in same)
unless_parts (Some d) a b is = cc

or_parts : {A : Type 0} (r : Result A LogRefusal) (a : A) → or_refused r ≡ Ok a → r ≡ Ok a
or_parts (Ok x) a is = let same : x ≡ a = cc in ap (λ y. Ok y) same
or_parts (Err e) a is = cc

start_by : (has : Bool) (from : Position) (r : Result Read LogRefusal) (read : Read) → where_place from has r ≡ Ok read → (has ≡ true) × (r ≡ Ok read)
start_by true from (Ok x) read is = (refl, is)
start_by false from (Ok x) read is = cc
start_by has from (Err e) read is = cc

-- ---- numbers and positions

same_number : (n : ℕ) → nat_cmp n n ≡ Equal
same_number n = sym (nat_cmp_is n n Equal refl)

greater_number : (m n : ℕ) → n < m → nat_cmp m n ≡ Greater
greater_number m n h = sym (nat_cmp_is m n Greater h)

less_number : (m n : ℕ) → m < n → nat_cmp m n ≡ Less
less_number m n h = sym (nat_cmp_is m n Less h)

lt_by : (a b : Bool) → is_lt (if a then Less else (if b then Equal else Greater)) ≡ a
lt_by true b = refl
lt_by false true = refl
lt_by false false = refl

lt_same : (n o k : ℕ) → position_lt (position n o) (position n k) ≡ nat_lt o k
lt_same n o k = ap (λ c. is_lt (ordering_then c (nat_cmp o k))) (same_number n) ∙ lt_by (nat_lt o k) (o == k)

lt_later : (m n o k : ℕ) → n < m → position_lt (position m o) (position n k) ≡ false
lt_later m n o k less = ap (λ c. is_lt (ordering_then c (nat_cmp o k))) (greater_number m n less)

eq_self : (n o : ℕ) → position_eq (position n o) (position n o) ≡ true
eq_self n o = ap₂ (λ c d. is_eq (ordering_then c d)) (same_number n) (same_number o)

no_more : (b : Bool) → (b && false) ≡ false
no_more true = refl
no_more false = refl

true_or : (a b : Bool) → (a || b) ≡ true → (a ≡ true) ⊎ (b ≡ true)
true_or true b is = inl refl
true_or false b is = inr is

left_true : (a b : Bool) → a ≡ true → (a || b) ≡ true
left_true true b is = refl
left_true false b is = cc

right_true : (a b : Bool) → b ≡ true → (a || b) ≡ true
right_true true b is = refl
right_true false b is = is

both_false : (a b : Bool) → (a || b) ≡ false → (a ≡ false) × (b ≡ false)
both_false true b is = cc
both_false false b is = (refl, is)

-- ---- the scan position is a place in its file

abbrev stands_at : ℕ → ℕ → PlacedEntry → Bool
stands_at n k e = position_eq e.at (position n k)

kept_any : (n k : ℕ) (before : Trail) (ps : Placed) → list_any (stands_at n k) before ≡ true → list_any (stands_at n k) (laid_on before ps) ≡ true
kept_any n k before [] is = is
kept_any n k before (p ∷ ps) is = kept_any n k (record { at = p.0; entry = p.1 } ∷ before) ps (right_true (position_eq p.0 (position n k)) (list_any (stands_at n k) before) is)

starts_any : (n k o : ℕ) (es : List Entry) (before : Trail) → starts_at k o es ≡ true → list_any (stands_at n k) (laid_on before (placed n o es)) ≡ true
starts_any n k o [] before is = cc
starts_any n k o (e ∷ es) before is =
    let next = record { at = position n o; entry = e } ∷ before in
    elim (true_or (o == k) (starts_at k (o + length_of e) es) is) [
      | inl here ↦
          let same : o ≡ k = eqb-true o k here in
          kept_any n k next (placed n (o + length_of e) es)
          (left_true (position_eq (position n o) (position n k)) (list_any (stands_at n k) before) (ap (λ (j : ℕ). position_eq (position n o) (position n j)) (sym same) ∙ eq_self n o))
      | inr later ↦ starts_any n k (o + length_of e) es next later
    ]

abbrev in_laid : ℕ → ℕ → Trail × ℕ → Bool
in_laid n k at = list_any (stands_at n k) at.0 || nat_eq k at.1

place_by : (n k : ℕ) (es : List Entry) → is_place k es ≡ true → in_laid n k (laid_on [] (placed n 0 es), 0 + total es) ≡ true
place_by n k es is = by (true_or (starts_at k 0 es) (total es == k) is)
  where
    by : (starts_at k 0 es ≡ true) ⊎ ((total es == k) ≡ true) → in_laid n k (laid_on [] (placed n 0 es), 0 + total es) ≡ true
    by (inl starts) = left_true (list_any (stands_at n k) (laid_on [] (placed n 0 es))) (nat_eq k (0 + total es)) (starts_any n k 0 es [] starts)
    by (inr ends) =
        let same : total es ≡ k = eqb-true (total es) k ends in
        right_true (list_any (stands_at n k) (laid_on [] (placed n 0 es))) (nat_eq k (0 + total es)) (grind (arith, nat_tests))

place_in : (n k : ℕ) (part : Part) → IsPlain part → has_place k part ≡ true → is_in_file (position n k) (entries_read n part) ≡ true
place_in n k (Err e) plain is = cc
place_in n k (Ok (es, false)) plain is = ap (in_laid n k) (laid_plain n 0 es [] plain) ∙ place_by n k es is
place_in n k (Ok (es, true)) plain is = ap (in_laid n k) (laid_switch n (n + 1) 0 es [] plain ∙ laid_plain n 0 es [] plain) ∙ place_by n k es is

-- ---- the least hold is at or before the scan position's file

least_left : (p q : Position) (b : Bool) → position_lt p q ≡ b → (if b then p else q).file ≤ p.file
least_left p q true is = omega arith
least_left p q false is = elim (leb_tells q.file p.file) [
  | inl le ↦ le.1
  | inr less ↦
      let bad : ◌≡◌ {A = Bool} true false = ap (λ c. is_lt (ordering_then c (nat_cmp p.offset q.offset))) (sym (less_number p.file q.file less.1)) ∙ is in
      absurd (let none : ⊥ = cc in none)
]

least_right : (p q : Position) (b : Bool) → position_lt p q ≡ b → (if b then p else q).file ≤ q.file
least_right p q true is = elim (leb_tells p.file q.file) [
  | inl le ↦ le.1
  | inr less ↦
      let bad : ◌≡◌ {A = Bool} false true = ap (λ c. is_lt (ordering_then c (nat_cmp p.offset q.offset))) (sym (greater_number p.file q.file less.1)) ∙ is in
      absurd (let none : ⊥ = cc in none)
]
least_right p q false is = omega arith

least_among : (end scan : Position) (xs ys : List Position) → (least_of end (xs ++ scan ∷ ys)).file ≤ scan.file
least_among end scan [] ys = least_left scan (least_of end ys) (position_lt scan (least_of end ys)) refl
least_among end scan (x ∷ xs) ys =
    let rest = least_among end scan xs ys in
    let first = least_right x (least_of end (xs ++ scan ∷ ys)) (position_lt x (least_of end (xs ++ scan ∷ ys))) refl in
    omega (arith, rest, first)

-- ---- no number is ahead

abbrev NoneAhead : Head → Placed → Type 0
NoneAhead head [] = Unit {0}
NoneAhead head (p ∷ ps) = (ahead_of head (record { at = p.0; entry = p.1 }) ≡ false) × NoneAhead head ps

none_append : (head : Head) (ps qs : Placed) → NoneAhead head ps → NoneAhead head qs → NoneAhead head (ps ++ qs)
none_append head [] qs a b = b
none_append head (p ∷ ps) qs a b = (a.0, none_append head ps qs a.1 b)

false_or : (a b : Bool) → a ≡ false → b ≡ false → (a || b) ≡ false
false_or true b x y = cc
false_or false b x y = y

none_laid : (head : Head) (before : Trail) (ps : Placed) → list_any (ahead_of head) before ≡ false → NoneAhead head ps → list_any (ahead_of head) (laid_on before ps) ≡ false
none_laid head before [] is none = is
none_laid head before (p ∷ ps) is none =
    none_laid head (record { at = p.0; entry = p.1 } ∷ before) ps (false_or (ahead_of head (record { at = p.0; entry = p.1 })) (list_any (ahead_of head) before) none.0 is) none.1

none_numbered : (head : Head) (n o : ℕ) (es : List Entry) → any_passes (λ offset. is_ahead head.next) o es ≡ false → NoneAhead head (placed n o es)
none_numbered head n o [] is = tt
none_numbered head n o (e ∷ es) is =
    let parts = both_false (is_ahead head.next e) (any_passes (λ offset. is_ahead head.next) (o + length_of e) es) is in
    (ap (λ (b : Bool). position_lt (position n o) head.scan && b) parts.0 ∙ no_more (position_lt (position n o) head.scan), none_numbered head n (o + length_of e) es parts.1)

abbrev test_before : Head → ℕ → Entry → Bool
test_before head offset e = nat_lt offset head.scan.offset && is_ahead head.next e

none_before : (head : Head) (o : ℕ) (es : List Entry) → any_passes (test_before head) o es ≡ false → NoneAhead head (placed head.scan.file o es)
none_before head o [] is = tt
none_before head o (e ∷ es) is =
    let parts = both_false (test_before head o e) (any_passes (test_before head) (o + length_of e) es) is in
    (ap (λ (b : Bool). b && is_ahead head.next e) (lt_same head.scan.file o head.scan.offset) ∙ parts.0, none_before head (o + length_of e) es parts.1)

none_later : (head : Head) (m o : ℕ) (es : List Entry) → head.scan.file < m → NoneAhead head (placed m o es)
none_later head m o [] less = tt
none_later head m o (e ∷ es) less = (ap (λ (b : Bool). b && is_ahead head.next e) (lt_later m head.scan.file o head.scan.offset less), none_later head m (o + length_of e) es less)

record Front (ps : Placed) (r : Result Read LogRefusal) (read : Read) : Type 0 where
  pub found : Read
  pub is : r ≡ Ok found
  pub all : read ≡ record { entries = ps ++ found.entries; end = found.end }

front_of : (ps : Placed) (r : Result Read LogRefusal) (read : Read) → found_in_front ps r ≡ Ok read → Front ps r read
front_of ps (Ok found) read is = record { found = found; is = refl; all = sym (let same : record { entries = ps ++ found.entries; end = found.end } ≡ read = cc in same) }
front_of ps (Err e) read is = cc

-- of the walk from a file behind the scan position's on, and where it ends
part_later : (m n : ℕ) (head : Head) (logs : Files) (read : Read) (part : Part) → head.scan.file < n
    → ((r : Read) → walk m (n + 1) logs ≡ Ok r → NoneAhead head r.entries × (n + 1 ≤ r.end.file)) → on_part n part (walk m (n + 1) logs) ≡ Ok read → NoneAhead head read.entries × (n ≤ read.end.file)
part_later m n head logs read (Err e) less more is = cc
part_later m n head logs read (Ok (es, false)) less more is =
    let same : record { entries = placed n 0 es; end = position n (total es) } ≡ read = cc in
    subst (λ (r : Read). NoneAhead head r.entries × (n ≤ r.end.file)) same (none_later head n 0 es less, omega arith)
part_later m n head logs read (Ok (es, true)) less more is =
    let f = front_of (placed n 0 es) (walk m (n + 1) logs) read is in
    let rest = more f.found f.is in
    subst (λ (r : Read). NoneAhead head r.entries × (n ≤ r.end.file)) (sym f.all) (none_append head (placed n 0 es) f.found.entries (none_later head n 0 es less) rest.0, omega (arith, rest.1))

walk_later : (m n : ℕ) (head : Head) (logs : Files) (read : Read) → head.scan.file < n → walk m n logs ≡ Ok read → NoneAhead head read.entries × (n ≤ read.end.file)
walk_later zero n head logs read less is = cc
walk_later (suc m) n head logs read less is =
    part_later m n head logs read (file_read n (logs (Log n))) less (λ r went. walk_later m (n + 1) head logs r (omega (arith, less)) went) is

-- ---- the first gate with such an entry

any_append : (test : ℕ → Entry → Bool) (o : ℕ) (es fs : List Entry) → any_passes test o es ≡ false → any_passes test (o + total es) fs ≡ false → any_passes test o (es ++ fs) ≡ false
any_append test o [] fs a b = ap (λ (k : ℕ). any_passes test k fs) (let e : o ≡ o + 0 = omega arith in e) ∙ b
any_append test o (e ∷ es) fs a b =
    let parts = both_false (test o e) (any_passes test (o + length_of e) es) a in
    let sum : o + length_of e + total es ≡ o + (length_of e + total es) = omega arith in
    false_or (test o e) (any_passes test (o + length_of e) (es ++ fs)) parts.0
    (any_append test (o + length_of e) es fs parts.1 (ap (λ (k : ℕ). any_passes test k fs) sum ∙ b))

abbrev EndsEmpty : Part → Type 0
EndsEmpty (Ok part) = part.0 ≡ []
EndsEmpty (Err e) = Unit {0}

record Before (es : List Entry) (part : Part) (all : List Entry) (turned : Bool) : Type 0 where
  pub more : List Entry
  pub is : part ≡ Ok (more, turned)
  pub sum : all ≡ es ++ more

before_parts : (es : List Entry) (part : Part) (all : List Entry) (turned : Bool) → put_before es part ≡ Ok (all, turned) → Before es part all turned
before_parts es (Ok (more, t)) all turned is =
    let both : ◌≡◌ {A = List Entry × Bool} (es ++ more, t) (all, turned) = cc in
    record { more = more; is = ap (λ (q : List Entry × Bool). Ok (more, q.1)) both; sum = sym (ap (λ (q : List Entry × Bool). q.0) both) }
before_parts es (Err e) all turned is = cc

turn_empty : (part : Part) (all : List Entry) (turned : Bool) → after_switch part ≡ Ok (all, turned) → all ≡ []
turn_empty (Ok p) all turned is =
    let pair : ◌≡◌ {A = List Entry × Bool} ([], true) (all, turned) = cc in
    sym (ap (λ (q : List Entry × Bool). q.0) pair)
turn_empty (Err e) all turned is = cc

-- a batch that is whole
abbrev gate_step : (ℕ → Entry → Bool) → ℕ → ℕ → Bool → List Entry → Option ℕ → Option ℕ
gate_step test at offset whole es rest = if whole then (if any_passes test offset es then Some at else rest) else None

any_none : (b : Bool) (at : ℕ) (rest : Option ℕ) → (if b then Some at else rest) ≡ None → (b ≡ false) × (rest ≡ None)
any_none true at rest is = cc
any_none false at rest is = (refl, is)

fits_by : (fits : Bool) (test : ℕ → Entry → Bool) (es : List Entry) (n at offset : ℕ) (more : Part) (rest : Option ℕ) (all : List Entry) (turned : Bool)
    → ((ms : List Entry) (t : Bool) → more ≡ Ok (ms, t) → rest ≡ None → any_passes test (offset + total es) ms ≡ false)
    → (if fits then put_before es more else Err (BatchRefused n at)) ≡ Ok (all, turned) → gate_step test at offset (true && fits) es rest ≡ None → any_passes test offset all ≡ false
fits_by true test es n at offset more rest all turned ih is gate =
    let parts = any_none (any_passes test offset es) at rest gate in
    let b = before_parts es more all turned is in
    ap (any_passes test offset) b.sum ∙ any_append test offset es b.more parts.0 (ih b.more turned b.is parts.1)
fits_by false test es n at offset more rest all turned ih is gate = cc

empty_passes : (test : ℕ → Entry → Bool) (offset : ℕ) (all : List Entry) → all ≡ [] → any_passes test offset all ≡ false
empty_passes test offset all is = ap (any_passes test offset) is

last_by : (turn last : Bool) (test : ℕ → Entry → Bool) (n at next offset : ℕ) (more : Part) (all : List Entry) (turned : Bool)
    → (if turn then (if last then after_switch more else Err (BatchRefused n next)) else Err (BatchRefused n at)) ≡ Ok (all, turned) → any_passes test offset all ≡ false
last_by true true test n at next offset more all turned is = empty_passes test offset all (turn_empty more all turned is)
last_by true false test n at next offset more all turned is = cc
last_by false last test n at next offset more all turned is = cc

chosen_by : (plain turn last : Bool) (test : ℕ → Entry → Bool) (es : List Entry) (n at next offset : ℕ) (more : Part) (rest : Option ℕ) (all : List Entry) (turned : Bool)
    → ((ms : List Entry) (t : Bool) → more ≡ Ok (ms, t) → rest ≡ None → any_passes test (offset + total es) ms ≡ false)
    → chosen plain turn last es n at next offset more ≡ Ok (all, turned) → gate_step test at offset (plain && nat_le (offset + total es) file_most) es rest ≡ None → any_passes test offset all ≡ false
chosen_by true turn last test es n at next offset more rest all turned ih is gate = fits_by (nat_le (offset + total es) file_most) test es n at offset more rest all turned ih is gate
chosen_by false turn last test es n at next offset more rest all turned ih is gate = last_by turn last test n at next offset more all turned is

gates_by : (o : Option (List Entry)) (test : ℕ → Entry → Bool) (n at next offset : ℕ) (rest_of : ℕ → Part) (gates_of : ℕ → Option ℕ) (last : Bool) (all : List Entry) (turned : Bool)
    → ((k : ℕ) (ms : List Entry) (t : Bool) → rest_of k ≡ Ok (ms, t) → gates_of k ≡ None → any_passes test k ms ≡ false)
    → batch_read n at next offset o last (rest_of (offset_behind offset o)) ≡ Ok (all, turned)
    → ◌≡◌ {A = Option ℕ} (elim o [ None ↦ None | Some es ↦ if no_switch es && nat_le (offset + total es) file_most then (if any_passes test offset es then Some at else gates_of (offset + total es)) else None ]) None
    → any_passes test offset all ≡ false
gates_by None test n at next offset rest_of gates_of last all turned ih is gate = cc
gates_by (Some es) test n at next offset rest_of gates_of last all turned ih is gate =
    chosen_by (no_switch es) (switches n es) last test es n at next offset (rest_of (offset + total es)) (gates_of (offset + total es)) all turned (λ ms t went none. ih (offset + total es) ms t went none) is gate

gates_none : (test : ℕ → Entry → Bool) (n at offset : ℕ) (bodies : List (List ℕ)) (end : Part) (all : List Entry) (turned : Bool) → EndsEmpty end
    → bodies_read n at offset bodies end ≡ Ok (all, turned) → gate_where test at offset bodies ≡ None → any_passes test offset all ≡ false
gates_none test n at offset [] (Ok part) all turned empty is gate =
    let both : ◌≡◌ {A = List Entry × Bool} part (all, turned) = cc in
    empty_passes test offset all (sym (ap (λ (q : List Entry × Bool). q.0) both) ∙ empty)
gates_none test n at offset [] (Err e) all turned empty is gate = cc
gates_none test n at offset (body ∷ bodies) end all turned empty is gate =
    gates_by (entries_of body) test n at (at + 9 + length body) offset (λ k. bodies_read n (at + 9 + length body) k bodies end) (λ k. gate_where test (at + 9 + length body) k bodies) (is_last bodies) all turned
    (λ k ms t went none. gates_none test n (at + 9 + length body) k bodies end ms t empty went none) is gate

headed : (b : Bool) (part : Part) (k : ℕ) (p : List Entry × Bool) → (if b then part else Err (Gap k)) ≡ Ok p → part ≡ Ok p
headed true part k p is = is
headed false part k p is = cc

part_gates : (test : ℕ → Entry → Bool) (n : ℕ) (file : Option (List ℕ)) (g : Result (List ℕ × List (List ℕ)) GateRefusal) (es : List Entry) (turned : Bool) → gated file ≡ g
    → part_of (bodies_read n 16 0) n file g ≡ Ok (es, turned) → gate_where test 16 0 (whole_bodies file) ≡ None → any_passes test 0 es ≡ false
part_gates test n file (Ok found) es turned same is gate =
    gates_none test n 16 0 found.1 (Ok ([], false)) es turned refl (headed (same_bytes found.0 (log_header n)) (bodies_read n 16 0 found.1 (Ok ([], false))) n (es, turned) is)
    (ap (gate_where test 16 0) (sym (gated_bodies file found.0 found.1 same)) ∙ gate)
part_gates test n file (Err (GateBad at)) es turned same is gate =
    gates_none test n 16 0 (whole_bodies file) (Err (BatchRefused n at)) es turned tt
    (headed (same_bytes (take 16 (bytes_of file)) (log_header n)) (bodies_read n 16 0 (whole_bodies file) (Err (BatchRefused n at))) n (es, turned) is) gate
part_gates test n file (Err GateAbsent) es turned same is gate = cc
part_gates test n file (Err GateHeader) es turned same is gate = cc
part_gates test n file (Err GateFailed) es turned same is gate = cc

-- in a file without such a gate no entry passes the test
pub file_gates : (test : ℕ → Entry → Bool) (n : ℕ) (file : Option (List ℕ)) (es : List Entry) (turned : Bool) → file_read n file ≡ Ok (es, turned)
    → gate_where test 16 0 (whole_bodies file) ≡ None → any_passes test 0 es ≡ false
unfolding file_read
file_gates test n file es turned is gate = part_gates test n file (gated file) es turned refl is gate

-- ---- the older files, and the scan position's own

unless_none : (n : ℕ) (gate : Option ℕ) (part : Part) (p : List Entry × Bool) → unless_gate n gate part ≡ Ok p → gate ≡ None
unless_none n None part p is = refl
unless_none n (Some at) part p is = cc

older_gate : (next n : ℕ) (file : Option (List ℕ)) (part : Part) (p : List Entry × Bool) → older_read next n file part ≡ Ok p → gate_where (λ offset. is_ahead next) 16 0 (whole_bodies file) ≡ None
older_gate next n file (Ok q) p is = unless_none n _ (Ok q) p is
older_gate next n file (Err (Gap k)) p is = cc
older_gate next n file (Err (BatchRefused k at)) p is = unless_none n _ (Err (BatchRefused k at)) p is
older_gate next n file (Err Failed) p is = unless_none n _ (Err Failed) p is
older_gate next n file (Err NoRoom) p is = unless_none n _ (Err NoRoom) p is

older_none : (head : Head) (n count : ℕ) (logs : Files) (ps : Placed) → older head.next n count logs ≡ Ok ps → NoneAhead head ps
older_none head n zero logs ps is = subst (λ (qs : Placed). NoneAhead head qs) (let same : ◌≡◌ {A = Placed} [] ps = cc in same) tt
older_none head n (suc count) logs ps is =
    let file = logs (Log n) in
    let p = older_parts n (older_read head.next n file (file_read n file)) (older head.next (n + 1) count logs) ps is in
    let read : file_read n file ≡ Ok (p.es, true) = older_same head.next n file (file_read n file) (p.es, true) p.part_is in
    let passes = file_gates (λ offset. is_ahead head.next) n file p.es true read (older_gate head.next n file (file_read n file) (p.es, true) p.part_is) in
    subst (λ (qs : Placed). NoneAhead head qs) (sym p.all) (none_append head (placed n 0 p.es) p.qs (none_numbered head n 0 p.es passes) (older_none head (n + 1) count logs p.qs p.more_is))

gate_left : (file : ℕ) (gate : Option ℕ) (damage : ℕ → Damage) → ◌≡◌ {A = Option Damage} (elim gate [ None ↦ None | Some at ↦ Some (damage at) ]) None → gate ≡ None
gate_left file None damage is = refl
gate_left file (Some at) damage is = cc

own_part : (m : ℕ) (head : Head) (logs : Files) (read : Read) (part : Part) → file_read head.scan.file (logs (Log head.scan.file)) ≡ part
    → gate_where (test_before head) 16 0 (whole_bodies (logs (Log head.scan.file))) ≡ None → on_part head.scan.file part (walk m (head.scan.file + 1) logs) ≡ Ok read
    → NoneAhead head read.entries × (head.scan.file ≤ read.end.file)
own_part m head logs read (Err e) said gate is = cc
own_part m head logs read (Ok (es, false)) said gate is =
    let n = head.scan.file in
    let same : record { entries = placed n 0 es; end = position n (total es) } ≡ read = cc in
    let passes = file_gates (test_before head) n (logs (Log n)) es false said gate in
    subst (λ (r : Read). NoneAhead head r.entries × (n ≤ r.end.file)) same (none_before head 0 es passes, omega arith)
own_part m head logs read (Ok (es, true)) said gate is =
    let n = head.scan.file in
    let f = front_of (placed n 0 es) (walk m (n + 1) logs) read is in
    let passes = file_gates (test_before head) n (logs (Log n)) es true said gate in
    let rest = walk_later m (n + 1) head logs f.found (omega arith) f.is in
    subst (λ (r : Read). NoneAhead head r.entries × (n ≤ r.end.file)) (sym f.all) (none_append head (placed n 0 es) f.found.entries (none_before head 0 es passes) rest.0, omega (arith, rest.1))

own_walk : (head : Head) (logs : Files) (read : Read) → head.scan.file < 1000000 → gate_where (test_before head) 16 0 (whole_bodies (logs (Log head.scan.file))) ≡ None
    → log_of head.scan.file logs ≡ Ok read → NoneAhead head read.entries × (head.scan.file ≤ read.end.file)
unfolding log_of
own_walk head logs read below gate is =
    let n = head.scan.file in
    let room : 1000000 - n ≡ suc (1000000 - (n + 1)) = omega (arith, below) in
    own_part (1000000 - (n + 1)) head logs read (file_read n (logs (Log n))) refl gate (ap (λ (m : ℕ). walk m n logs) (sym room) ∙ is)

-- ---- the least hold

abbrev hold_list : Option Position → Option Position → List Hold → List Position
hold_list o p rest = map (λ (h : Hold). h.at) (checkpoint_hold 0 o ++ (checkpoint_hold 1 p ++ rest))

hold_by : (end scan : Position) (o p : Option Position) (rest : List Hold) → (o ≡ Some scan) ⊎ (p ≡ Some scan) → (least_of end (hold_list o p rest)).file ≤ scan.file
hold_by end scan (Some s) p rest (inl is) =
    let same : s ≡ scan = cc in
    subst (λ (q : Position). (least_of end (hold_list (Some s) p rest)).file ≤ q.file) same (least_among end s [] (map (λ (h : Hold). h.at) (checkpoint_hold 1 p ++ rest)))
hold_by end scan None p rest (inl is) = cc
hold_by end scan None (Some s) rest (inr is) =
    let same : s ≡ scan = cc in
    subst (λ (q : Position). (least_of end (hold_list None (Some s) rest)).file ≤ q.file) same (least_among end s [] (map (λ (h : Hold). h.at) rest))
hold_by end scan (Some x) (Some s) rest (inr is) =
    let same : s ≡ scan = cc in
    subst (λ (q : Position). (least_of end (hold_list (Some x) (Some s) rest)).file ≤ q.file) same (least_among end s (x ∷ []) (map (λ (h : Hold). h.at) rest))
hold_by end scan o None rest (inr is) = cc

newest_is : (b : Bool) (heads : ℕ → Option Head) (head : Head) → heads (if b then 1 else 0) ≡ Some head → (heads 0 ≡ Some head) ⊎ (heads 1 ≡ Some head)
newest_is true heads head is = inr is
newest_is false heads head is = inl is

pub hold_not_behind : (bound : ℕ) (head : Head) (f : Opened) → f.heads (newest_of f.heads) ≡ Some head → (found_hold bound f).file ≤ head.scan.file
unfolding holds_of
hold_not_behind bound head f is =
    elim (newest_is (nat_lt (number_of (f.heads 0)) (number_of (f.heads 1))) f.heads head is) [
      | inl first ↦ hold_by f.end head.scan (scan_of (f.heads 0)) (scan_of (f.heads 1)) _ (inl (ap scan_of first))
      | inr second ↦ hold_by f.end head.scan (scan_of (f.heads 0)) (scan_of (f.heads 1)) _ (inr (ap scan_of second))
    ]

-- ---- the model's opening

and_unless : {A B : Type 0} (o : Option Damage) (a : A) (next : A → Result B OpenRefusal) (b : B) → and_then (unless o a) next ≡ Ok b → next a ≡ Ok b
and_unless None a next b is = is
and_unless (Some d) a next b is = cc

abbrev model_step : Files → (ℕ → Option Head) → Head → Option (List ℕ) → Trail × Position → ℕ → Option Opened
model_step logs heads head file read pages = with_entries head (found_behind heads head (image_of pages file) read) (trail_of (entries_in logs) (held_by head (found_behind heads head (image_of pages file) read)).file)

entries_by : (head : Head) (f : Opened) (read : Trail × Position) → list_any (ahead_of head) read.0 ≡ false → nat_lt read.1.file head.scan.file ≡ false
    → with_entries head f (Some read) ≡ Some (record f { entries = read.0; end = read.1 })
entries_by head f read none reaches = λ i. if none i || reaches i then None else Some (record f { entries = read.0; end = read.1 })

not_less : (a b : ℕ) → b ≤ a → nat_lt a b ≡ false
not_less a b le = elim (leb_tells (suc a) b) [ inl less ↦ absurd (omega (arith, less.1, le)) | inr more ↦ more.0 ]

pub opens_behind : (logs images : Files) (heads : ℕ → Option Head) (head : Head) (f : Opened) → have_one_number heads ≡ false → heads (newest_of heads) ≡ Some head
    → head.scan.file < 1000000 → from_newest logs images heads (Some head) ≡ Ok f → opened_by (files_read heads logs images) (Some head) ≡ Some f
opens_behind logs images heads head f one newest below is =
    let n = head.scan.file in
    let file = images (Ds (newest_of heads)) in
    let a = and_parts (or_refused (started head.scan logs)) _ f is in
    let read : Read = a.0 in
    let st = start_by (has_place head.scan.offset (file_read n (logs (Log n)))) head.scan (log_of n logs) read (or_parts (started head.scan logs) read a.1) in
    let f1 : Opened = found_behind heads head (image_of head.pages file) (newest_first read.entries, read.end) in
    let two = and_unless (first_bad_cell head.pages file) f1 (λ (g : Opened). and_then (unless (first_bad (32 * pages_named head.pages g.entries) g.cells) g) (λ (h : Opened). with_older head logs read h)) f a.2 in
    let three = and_unless (first_bad (32 * pages_named head.pages f1.entries) f1.cells) f1 (λ (h : Opened). with_older head logs read h) f two in
    let hold = held_by head f1 in
    let count = n - hold.file in
    let o = and_parts (or_refused (older head.next hold.file count logs)) _ f three in
    let ps : Placed = o.0 in
    let u = unless_parts (ahead_before head logs) (record f1 { entries = newest_first (ps ++ read.entries) }) f o.2 in
    let gate = gate_left n (gate_where (test_before head) 16 0 (whole_bodies (logs (Log n)))) _ u.0 in
    let le : hold.file ≤ n = hold_not_behind (32 * pages_named head.pages f1.entries) head f1 newest in
    let sum : n ≡ hold.file + count = omega (arith, le) in
    let got = or_parts (older head.next hold.file count logs) ps o.1 in
    let whole = whole_walk head.next hold.file count logs ps read (omega (arith, sum, below)) got (ap (λ (k : ℕ). log_of k logs) (sym sum) ∙ st.1) in
    let back = walks_tie hold.file logs (record { entries = ps ++ read.entries; end = read.end }) whole in
    let own = own_walk head logs read below gate st.1 in
    let none = none_laid head [] (ps ++ read.entries) refl (none_append head ps read.entries (older_none head hold.file count logs ps got) own.0) in
    let place : is_in_file head.scan (entries_in logs n) ≡ true = place_in n head.scan.offset (file_read n (logs (Log n))) (file_is_plain n (logs (Log n))) st.0 in
    (λ i. if one i || not (place i) then None else found_from (files_read heads logs images) head (walks_tie n logs read st.1 i))
    ∙ ap (model_step logs heads head file (newest_first read.entries, read.end)) (ap pages_of newest)
    ∙ ap (with_entries head f1) back
    ∙ entries_by head f1 (newest_first (ps ++ read.entries), read.end) none (not_less read.end.file n own.1)
    ∙ ap (λ (g : Opened). Some g) u.1

-- ---- the headers

abbrev NotOne : (ℕ → Option Head) → Type 0
NotOne heads = have_one_number heads ≡ false

-- each header that is found is that of a whole file
abbrev FromFiles : HeadRead → HeadRead → (ℕ → Option Head) → Type 0
FromFiles first second heads = (n : ℕ) (head : Head) → heads n ≡ Some head → (h : ImageHead) × (head ≡ head_of h) × ((first ≡ Whole h) ⊎ (second ≡ Whole h))

one_by : (b : Bool) (h : ImageHead) (head : Head) → ◌≡◌ {A = Option Head} (if b then Some (head_of h) else None) (Some head) → head ≡ head_of h
one_by true h head is = sym (let same : head_of h ≡ head = cc in same)
one_by false h head is = cc

two_by : (b c : Bool) (h k : ImageHead) (head : Head) → ◌≡◌ {A = Option Head} (if b then Some (head_of h) else (if c then Some (head_of k) else None)) (Some head) → (head ≡ head_of h) ⊎ (head ≡ head_of k)
two_by true c h k head is = inl (sym (let same : head_of h ≡ head = cc in same))
two_by false c h k head is = inr (one_by c k head is)

none_parts : (none : OpenRefusal) (first second : HeadRead) (heads : ℕ → Option Head) → beside_none none second ≡ Ok heads → NotOne heads × FromFiles first second heads
none_parts none first Absent heads is = cc
none_parts none first Closed heads is = cc
none_parts none first Bad heads is = cc
none_parts none first (Whole k) heads is =
    let same : one_head 1 k ≡ heads = cc in
    subst (λ (hs : ℕ → Option Head). NotOne hs × FromFiles first (Whole k) hs) same (refl, λ n head at. (k, one_by (nat_eq n 1) k head at, inr refl))

alone_parts : (h : ImageHead) (second : HeadRead) (heads : ℕ → Option Head) → ◌≡◌ {A = Result (ℕ → Option Head) OpenRefusal} (Ok (one_head 0 h)) (Ok heads) → NotOne heads × FromFiles (Whole h) second heads
alone_parts h second heads is =
    let same : one_head 0 h ≡ heads = cc in
    subst (λ (hs : ℕ → Option Head). NotOne hs × FromFiles (Whole h) second hs) same (refl, λ n head at. (h, one_by (nat_eq n 0) h head at, inl refl))

both_parts : (b : Bool) (h k : ImageHead) (heads : ℕ → Option Head) → nat_eq h.number k.number ≡ b
    → ◌≡◌ {A = Result (ℕ → Option Head) OpenRefusal} (if b then Err (Damaged (BadHeader 1)) else Ok (two_heads h k)) (Ok heads) → NotOne heads × FromFiles (Whole h) (Whole k) heads
both_parts true h k heads differs is = cc
both_parts false h k heads differs is =
    let same : two_heads h k ≡ heads = cc in
    subst (λ (hs : ℕ → Option Head). NotOne hs × FromFiles (Whole h) (Whole k) hs) same (
      differs,
      λ n head at. elim (two_by (nat_eq n 0) (nat_eq n 1) h k head at) [ inl first ↦ (h, first, inl refl) | inr second ↦ (k, second, inr refl) ],
    )

whole_parts : (h : ImageHead) (second : HeadRead) (heads : ℕ → Option Head) → beside_whole h second ≡ Ok heads → NotOne heads × FromFiles (Whole h) second heads
whole_parts h Absent heads is = alone_parts h Absent heads is
whole_parts h Closed heads is = alone_parts h Closed heads is
whole_parts h Bad heads is = cc
whole_parts h (Whole k) heads is = both_parts (h.number == k.number) h k heads refl is

pub heads_parts : (first second : HeadRead) (heads : ℕ → Option Head) → heads_in first second ≡ Ok heads → NotOne heads × FromFiles first second heads
heads_parts Absent second heads is = none_parts NoDatabase Absent second heads is
heads_parts Closed second heads is = none_parts (Damaged NoImage) Closed second heads is
heads_parts Bad second heads is = cc
heads_parts (Whole h) second heads is = whole_parts h second heads is

-- a header that is read is in its ranges
tests_of : (whole good : Bool) (found h : ImageHead) → (if whole then (if good then Whole found else Bad) else Closed) ≡ Whole h → (good ≡ true) × (found ≡ h)
tests_of true true found h is = (refl, let same : found ≡ h = cc in same)
tests_of true false found h is = cc
tests_of false good found h is = cc

all_true : (a b : Bool) → (a && b) ≡ true → (a ≡ true) × (b ≡ true)
all_true true true is = (refl, refl)
all_true true false is = cc
all_true false b is = cc

scan_by : (h : ImageHead) → is_head h ≡ true → h.scan.file ≤ 999999
scan_by h is =
    let a = all_true _ _ is in
    let b = all_true _ _ a.0 in
    let c = all_true _ _ b.0 in
    let d = all_true _ _ c.0 in
    let e = all_true _ _ d.0 in
    leb-true h.scan.file 999999 e.1

whole_scan : (file : Option (List ℕ)) (h : ImageHead) → head_read file ≡ Whole h → h.scan.file ≤ 999999
unfolding head_read
whole_scan None h is = cc
whole_scan (Some file) h is =
    let found = tests_of (is_whole (Some file)) (is_good file (length file)) (header_of file) h is in
    let good = all_true (has_form file && is_head (header_of file)) _ found.0 in
    subst (λ (k : ImageHead). k.scan.file ≤ 999999) found.1 (scan_by (header_of file) (all_true (has_form file) (is_head (header_of file)) good.0).1)

from_none : (logs images : Files) (heads : ℕ → Option Head) (o : Option Head) (f : Opened) → heads (newest_of heads) ≡ o → NotOne heads
    → ((head : Head) → heads (newest_of heads) ≡ Some head → head.scan.file < 1000000) → from_newest logs images heads o ≡ Ok f → opened_by (files_read heads logs images) o ≡ Some f
from_none logs images heads None f newest one range is = cc
from_none logs images heads (Some head) f newest one range is = opens_behind logs images heads head f one newest (range head newest) is

-- What opening finds over both volumes is what the model's opening finds in the headers, cells and entries that they have.
pub opens_as_model : (logs images : Files) (f : Opened) → opening_of logs images ≡ Ok f
    → (heads : ℕ → Option Head) × (heads_in (head_read (images (Ds 0))) (head_read (images (Ds 1))) ≡ Ok heads) × (opening (files_read heads logs images) ≡ Some f)
unfolding opening_of opening
opens_as_model logs images f is =
    let first = head_read (images (Ds 0)) in
    let second = head_read (images (Ds 1)) in
    let a = and_parts (heads_in first second) (λ (hs : ℕ → Option Head). from_newest logs images hs (hs (newest_of hs))) f is in
    let heads : ℕ → Option Head = a.0 in
    let parts = heads_parts first second heads a.1 in
    let range : (head : Head) → heads (newest_of heads) ≡ Some head → head.scan.file < 1000000 = λ head at.
    let from = parts.1 (newest_of heads) head at in
    let low : from.0.scan.file ≤ 999999 = elim from.2 [ inl is_first ↦ whole_scan (images (Ds 0)) from.0 is_first | inr is_second ↦ whole_scan (images (Ds 1)) from.0 is_second ] in
    omega (arith, low, ap (λ (k : Head). k.scan.file) from.1) in
    (heads, a.1, from_none logs images heads (heads (newest_of heads)) f refl parts.0 range a.2)

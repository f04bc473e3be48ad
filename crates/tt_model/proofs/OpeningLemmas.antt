-- Behind the empty image of a database just created, opening finds what the log alone stands for.
use Rattle.std.proofs.Common.{◌≡◌, ◌<◌, ℕ, zero, suc, ◌+◌, ◌*◌, drop, map, Bool, true, false, not, ◌||◌, nat_eq, nat_lt, if◌then◌else◌, List, [], ◌∷◌, Option, Some, None, refl, sym, ap, ◌∙◌, arith, Greater, nat_cmp}
use Rattle.std.specs.Cmp.{nat_cmp_is}
use Rattle.std.specs.Ordering.{is_lt, is_le, ordering_then}
use Rattle.tt_model.proofs.PositionLemmas.{less_number}
use Rattle.std.proofs.lemmas.Bool.{cond-true, or_left, or_right, ltb-true, false_from_ne_true}
use Rattle.std.specs.List.{list_any}
use Rattle.tt_value.specs.declared.position.Position.{Position}
use Rattle.tt_record.specs.Entry.{length_of}
use Rattle.tt_record.specs.Place.{position}
use Rattle.tt_record.specs.declared.entry.Entry.{Entry}
use Rattle.tt_record.specs.declared.entry.Entry.TheVariants.{Switch}
use Rattle.tt_model.specs.Trail.{Trail, Placed, position_eq, position_lt, position_le, least_position, since}
use Rattle.tt_model.specs.Committed.{no_cells}
use Rattle.tt_value.specs.declared.reply.Hold.{Hold}
use Rattle.tt_model.specs.Live.{next_number, pages_named}
use Rattle.tt_model.specs.Opened.{Head, Opened, first_head, only_first, scan_of}
use Rattle.tt_model.specs.Standing.{laid, named_next, log_of, walked, standing}
use Rattle.tt_model.specs.Holds.{holds_of, least_of}
use Rattle.tt_model.specs.Opening.{FilesRead, FirstImagesOpen, first_files, is_in_file, is_ahead, found_behind, found_from, held_by, with_entries, opening}

-- ---- the first position

greater_number : (n : ℕ) → nat_cmp (suc n) 0 ≡ Greater
greater_number n = sym (nat_cmp_is (suc n) 0 Greater (omega arith))

none_before : (f o : ℕ) → position_lt (position f o) (position 0 0) ≡ false
none_before zero zero = refl
none_before zero (suc o) = ap is_lt (greater_number o)
none_before (suc f) o = ap (λ c. is_lt (ordering_then c (nat_cmp o 0))) (greater_number f)

all_behind : (f o : ℕ) → position_le (position 0 0) (position f o) ≡ true
all_behind zero zero = refl
all_behind zero (suc o) = ap is_le (less_number 0 (suc o) (omega arith))
all_behind (suc f) o = ap (λ c. is_le (ordering_then c (nat_cmp 0 o))) (less_number 0 (suc f) (omega arith))

least_first : (f o : ℕ) → (least_position (position 0 0) (position f o)).file ≡ 0
least_first zero zero = refl
least_first zero (suc o) = ap (λ c. (if is_lt c then position 0 0 else position 0 (suc o)).file) (less_number 0 (suc o) (omega arith))
least_first (suc f) o = ap (λ c. (if is_lt (ordering_then c (nat_cmp 0 o)) then position 0 0 else position (suc f) o).file) (less_number 0 (suc f) (omega arith))

none_below : (n : ℕ) → nat_lt n 0 ≡ false
none_below n = false_from_ne_true (nat_lt n 0) (λ h. let below : n < 0 = ltb-true n 0 h in omega (arith, below))

since_first : (es : Trail) → since (position 0 0) es ≡ es
since_first [] = refl
since_first (e ∷ es) = cond-true (position_le (position 0 0) e.at) (e ∷ since (position 0 0) es) [] (all_behind e.at.file e.at.offset) ∙ ap (e ∷◌) (since_first es)

none_ahead : (head : Head) (es : Trail) → head.scan ≡ position 0 0 → list_any (is_ahead head) es ≡ false
none_ahead head [] at = refl
none_ahead head (e ∷ es) at = rw at (rw (none_before e.at.file e.at.offset) (none_ahead head es at))

-- ---- the first file

abbrev is_first : Placed → Bool
is_first e = position_eq e.at (position 0 0)

laid_keeps : (es : List Entry) (before : Trail) (offset : ℕ) → list_any is_first before ≡ true → list_any is_first ((laid 0 es (before, offset)).0) ≡ true
laid_keeps [] before offset h = h
laid_keeps (Switch n ∷ es) before offset h = laid_keeps es before offset h
laid_keeps (e ∷ es) before offset h =
    laid_keeps es (record { at = position 0 offset; entry = e } ∷ before) (offset + length_of e) (or_right (is_first (record { at = position 0 offset; entry = e })) (list_any is_first before) h)

first_in_file : (es : List Entry) → is_in_file (position 0 0) (Some es) ≡ true
first_in_file [] = refl
first_in_file (Switch n ∷ es) = first_in_file es
first_in_file (e ∷ es) =
    or_left (list_any is_first ((laid 0 es (record { at = position 0 0; entry = e } ∷ [], 0 + length_of e)).0)) (nat_eq 0 ((laid 0 es (record { at = position 0 0; entry = e } ∷ [], 0 + length_of e)).1))
    (laid_keeps es (record { at = position 0 0; entry = e } ∷ []) (0 + length_of e) refl)

none_walks : (o : Option (List Entry)) (f : List Entry → Option (Trail × Position)) → o ≡ None → (elim o as (λ x. Option (Trail × Position)) [ None ↦ None | Some es ↦ f es ]) ≡ None
none_walks o f is = rw is refl

walked_in_file : (o : Option (List Entry)) (entries_in : ℕ → Option (List Entry)) (read : Trail × Position) → entries_in 0 ≡ o → log_of entries_in 0 ≡ Some read →
    is_in_file (position 0 0) (entries_in 0) ≡ true
unfolding log_of
walked_in_file None entries_in read is walk =
    let none : log_of entries_in 0 ≡ None = none_walks (entries_in 0) (λ es. elim (named_next es) [ None ↦ Some ((laid 0 es ([], 0)).0, position 0 ((laid 0 es ([], 0)).1)) | Some next ↦ walked 999999 entries_in next ((laid 0 es ([], 0)).0) ]) is in
    let no : ⊥ = cc in absurd no
walked_in_file (Some es) entries_in read is walk = rw is (first_in_file es)

-- ---- the least hold

hold_first : (end : Position) (holds : List Position) → (least_of end (position 0 0 ∷ holds)).file ≡ 0
hold_first end holds = least_first (least_of end holds).file (least_of end holds).offset

held_first : (database : ℕ) (f : Opened) → f.heads ≡ only_first (first_head 0 database) → (held_by (first_head 0 database) f).file ≡ 0
unfolding holds_of
held_first database f is =
    rw is (hold_first f.end (drop 1 (map (λ (h : Hold). h.at) (holds_of (λ file. scan_of (only_first (first_head 0 database) file)) (32 * pages_named 0 f.entries) f.cells []))))

-- ---- opening

pub first_images_open : FirstImagesOpen
unfolding opening
first_images_open database entries_in entries end read =
    let files : FilesRead = first_files database entries_in in
    let head : Head = first_head 0 database in
    let f : Opened = found_behind files.heads head no_cells (entries, end) in
    ap (λ (b : Bool). if not b then None else found_from files head (log_of entries_in 0)) (walked_in_file (entries_in 0) entries_in (entries, end) refl read)
    ∙ (ap (found_from files head) read
    ∙ (ap (λ (n : ℕ). with_entries head f (log_of entries_in n)) (held_first database f refl)
    ∙ (ap (with_entries head f) read
    ∙ (ap (λ (b : Bool). if b || nat_lt end.file 0 then None else Some (record f { entries = entries; end = end })) (none_ahead head entries refl)
    ∙ (ap (λ (b : Bool). if b then None else Some (record f { entries = entries; end = end })) (none_below end.file)
    ∙ ap (λ (es : Trail). Some (record f { cells = standing no_cells es; entries = entries; end = end; next = next_number 1 es })) (since_first entries))))))

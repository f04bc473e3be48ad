-- The lines of bytes that are joined, and their part up to the last line feed.
use Rattle.std.proofs.Common.{◌≡◌, ◌<◌, ◌≤◌, ◌+◌, ◌-◌, ℕ, Bool, true, false, cond, ◌||◌, ◌==◌, List, [], ◌∷◌, ◌++◌, length, map, take, refl, sym, ap, ◌∙◌, append_assoc, append-nil, length-append, length-take, get_or, nat_le, arith, Some, None}
use Rattle.std.specs.List.{list_any, slice_split, onto_first}
use Rattle.std.proofs.lemmas.List.{map-append}
use Rattle.std.proofs.lemmas.Bool.Decides.{nat_tests}
use Rattle.std.proofs.lemmas.List.Splits.{length-slice_split}
use Rattle.std.specs.Str.Lines.{lines, lines_of_parts, strip_carriage_return}
use Rattle.tt_flow.specs.Script.{measured, script_lines, ended_part}
use Rattle.tt_flow.specs.PutsLine.{told_line}
use Rattle.tt_flow.specs.Lines.{HasNoFeed}

abbrev feed : ℕ → Bool
feed b = b == 10

split_long : (bytes : List ℕ) → 0 < length (slice_split feed bytes)
split_long bytes = omega (arith, length-slice_split feed bytes)

onto_first-append : (x : ℕ) (ps qs : List (List ℕ)) → 0 < length ps → onto_first x (ps ++ qs) ≡ onto_first x ps ++ qs
onto_first-append x [] qs h = absurd (omega arith)
onto_first-append x (p ∷ ps) qs h = refl

split_at_feed : (body rest : List ℕ) → slice_split feed (body ++ 10 ∷ rest) ≡ slice_split feed body ++ slice_split feed rest
split_at_feed [] rest = refl
split_at_feed (x ∷ xs) rest =
    elim (feed x) as (λ v. cond v ([] ∷ slice_split feed (xs ++ 10 ∷ rest)) (onto_first x (slice_split feed (xs ++ 10 ∷ rest)))
    ≡ cond v ([] ∷ slice_split feed xs) (onto_first x (slice_split feed xs)) ++ slice_split feed rest) [
      | true ↦ ap (λ ps. [] ∷ ps) (split_at_feed xs rest)
      | false ↦ ap (onto_first x) (split_at_feed xs rest) ∙ onto_first-append x _ _ (split_long xs)
    ]

lines_of_more : (ps qs : List (List ℕ)) → 0 < length qs → lines_of_parts (ps ++ qs) ≡ map strip_carriage_return ps ++ lines_of_parts qs
lines_of_more [] qs h = refl
lines_of_more (p ∷ []) [] h = absurd (omega arith)
lines_of_more (p ∷ []) (q ∷ qs) h = refl
lines_of_more (p ∷ r ∷ ps) qs h = ap (λ ls. strip_carriage_return p ∷ ls) (lines_of_more (r ∷ ps) qs h)

pub lines_at_feed : (body rest : List ℕ) → lines (body ++ 10 ∷ rest) ≡ map strip_carriage_return (slice_split feed body) ++ lines rest
lines_at_feed body rest = ap lines_of_parts (split_at_feed body rest) ∙ lines_of_more (slice_split feed body) (slice_split feed rest) (split_long rest)

pub split_none : (body : List ℕ) → HasNoFeed body → slice_split feed body ≡ body ∷ []
split_none [] h = refl
split_none (x ∷ xs) h =
    elim (feed x) as (λ v. (v || list_any feed xs) ≡ false → cond v ([] ∷ slice_split feed xs) (onto_first x (slice_split feed xs)) ≡ (x ∷ xs) ∷ []) [
      | true ↦ λ e. cc
      | false ↦ λ e. ap (onto_first x) (split_none xs e)
    ] h

-- the line up to a line feed
pub script_lines_feed : (body rest : List ℕ) → HasNoFeed body → script_lines (body ++ 10 ∷ rest) ≡ measured (strip_carriage_return body) ∷ script_lines rest
script_lines_feed body rest h =
    ap (map measured) (lines_at_feed body rest ∙ ap (λ ps. map strip_carriage_return ps ++ lines rest) (split_none body h))

not_zero : (n : ℕ) → 0 < n → (n == 0) ≡ false
not_zero n h = grind (arith, nat_tests)

-- the last line, with no line feed
pub script_lines_last : (body : List ℕ) → HasNoFeed body → 0 < length body → script_lines body ≡ measured body ∷ []
script_lines_last body h l =
    ap (λ ps. map measured (lines_of_parts ps)) (split_none body h) ∙ ap (λ v. map measured (cond v [] (body ∷ []))) (not_zero (length body) l)

-- bytes that end with a line feed, and more
pub script_lines_cut : (body rest : List ℕ) → script_lines ((body ++ 10 ∷ []) ++ rest) ≡ script_lines (body ++ 10 ∷ []) ++ script_lines rest
script_lines_cut body rest =
    let parts = map strip_carriage_return (slice_split feed body) in
    let whole : lines ((body ++ 10 ∷ []) ++ rest) ≡ parts ++ lines rest = ap lines (append_assoc body (10 ∷ []) rest) ∙ lines_at_feed body rest in
    let front : lines (body ++ 10 ∷ []) ≡ parts = lines_at_feed body [] ∙ append-nil parts in
    ap (map measured) (whole ∙ ap (λ ls. ls ++ lines rest) (sym front)) ∙ map-append measured (lines (body ++ 10 ∷ [])) (lines rest)

-- ---- the part up to the last line feed

any_feed : (body tail : List ℕ) → list_any feed (body ++ 10 ∷ tail) ≡ true
any_feed [] tail = refl
any_feed (x ∷ xs) tail = elim (feed x) as (λ v. (v || list_any feed (xs ++ 10 ∷ tail)) ≡ true) [ true ↦ refl | false ↦ any_feed xs tail ]

pub ended_part_none : (tail : List ℕ) → HasNoFeed tail → ended_part tail ≡ []
ended_part_none [] h = refl
ended_part_none (x ∷ xs) h = ap (λ v. cond v (x ∷ ended_part xs) []) h

pub ended_part_feed : (body tail : List ℕ) → HasNoFeed tail → ended_part (body ++ 10 ∷ tail) ≡ body ++ 10 ∷ []
ended_part_feed [] tail h = ap (λ l. 10 ∷ l) (ended_part_none tail h)
ended_part_feed (x ∷ xs) tail h =
    ap (λ v. cond v (x ∷ ended_part (xs ++ 10 ∷ tail)) []) (any_feed (x ∷ xs) tail) ∙ ap (λ l. x ∷ l) (ended_part_feed xs tail h)

-- no line feed is in bytes that are joined
pub no_feed_append : (xs ys : List ℕ) → HasNoFeed xs → HasNoFeed ys → HasNoFeed (xs ++ ys)
no_feed_append [] ys h k = k
no_feed_append (x ∷ xs) ys h k =
    elim (feed x) as (λ v. (v || list_any feed xs) ≡ false → (v || list_any feed (xs ++ ys)) ≡ false) [
      | true ↦ λ e. e
      | false ↦ λ e. no_feed_append xs ys e k
    ] h

-- ---- lines that are too long

not_most : (n : ℕ) → 4096 < n → nat_le n 4096 ≡ false
not_most n h = grind (arith, nat_tests)

measured_long : (line : List ℕ) → 4096 < length line → measured line ≡ None
measured_long line h = ap (λ v. cond v (Some line) None) (not_most (length line) h)

length-strip_carriage_return : (line : List ℕ) → length line ≤ length (strip_carriage_return line) + 1
length-strip_carriage_return line =
    elim (get_or line (length line - 1) 0 == 13) as (λ v. length line ≤ length (cond v (take (length line - 1) line) line) + 1) [
      | true ↦ simp length-take (omega arith)
      | false ↦ omega arith
    ]

-- a line of which so many bytes were dropped where the reader skips it, else none
pub told_line-strip : (skipping : Bool) (dropped body : List ℕ) → (skipping ≡ true → 4098 ≤ length dropped) → (skipping ≡ false → dropped ≡ [])
    → measured (strip_carriage_return (dropped ++ body)) ≡ told_line skipping (strip_carriage_return body)
told_line-strip true dropped body long none =
    let few : 4098 ≤ length dropped = long refl in
    measured_long (strip_carriage_return (dropped ++ body)) (omega (arith, length-strip_carriage_return (dropped ++ body), length-append dropped body))
told_line-strip false dropped body long none = ap (λ d. measured (strip_carriage_return (d ++ body))) (none refl)

pub told_line-last : (skipping : Bool) (dropped body : List ℕ) → (skipping ≡ true → 4098 ≤ length dropped) → (skipping ≡ false → dropped ≡ [])
    → measured (dropped ++ body) ≡ told_line skipping body
told_line-last true dropped body long none =
    let few : 4098 ≤ length dropped = long refl in
    measured_long (dropped ++ body) (omega (arith, length-append dropped body))
told_line-last false dropped body long none = ap (λ d. measured (d ++ body)) (none refl)

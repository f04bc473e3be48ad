-- What a scan gives.
use Rattle.std.proofs.Common.{◌≡◌, ◌<◌, ◌≤◌, ◌+◌, ◌-◌, ◌==◌, ◌&&◌, ◌||◌, ℕ, List, [], ◌∷◌, filter, nat_le, nat_lt, not, Bool, true, false, Option, Result, Ok, Err, refl, sym, ap, ◌∙◌, subst, arith, if◌then◌else◌}
use Rattle.std.specs.Prelude.{IsOk, length}
use Rattle.std.proofs.lemmas.Bool.{le-leb, eqb-true, ltb-true}
use Rattle.tt_value.specs.declared.position.Position.{Position}
use Rattle.tt_record.specs.declared.entry.Entry.{Entry}
use Rattle.tt_log.specs.declared.log.Log.{Log}
use Rattle.tt_log.specs.declared.scan.Scan.{Scan}
use Rattle.tt_log.specs.declared.refusal.LogRefusal.{LogRefusal}
use Rattle.tt_log.specs.Walk.{LogContents, Part, placed, in_front, log_of, is_from, is_since, since}
use Rattle.tt_log.specs.Log.{IsWhole, entries_in, walk_end, forced_of}
use Rattle.tt_log.specs.Scan.{waiting, gate_offset, part_left, joined_from, ahead, IsScanning, from_here, left, Gives}
use Rattle.tt_log.proofs.Forcing.{is_found}
use Rattle.tt_log.proofs.Purge.{log_later, since_end, since_forced}
use Rattle.tt_log.proofs.Walks.{last_of, Standing}
use Rattle.tt_log.proofs.Scanning.{start_ahead, switched_going}
use Rattle.tt_disk.specs.Volume.{Files}

front_entries : (p : Position × Entry) (r s : Standing) → IsOk r → r ≡ in_front (p ∷ []) s → entries_in r ≡ p ∷ entries_in s
front_entries p r (Ok found) whole is = ap entries_in is
front_entries p r (Err e) whole is = absurd (let bad = subst (λ (q : Standing). IsOk q) is whole in cc)

pub front_end : (p : Position × Entry) (r s : Standing) → IsOk r → r ≡ in_front (p ∷ []) s → (walk_end s).file ≡ (walk_end r).file
front_end p r (Ok found) whole is = sym (ap (λ (q : Standing). (walk_end q).file) is)
front_end p r (Err e) whole is = absurd (let bad = subst (λ (q : Standing). IsOk q) is whole in cc)

not_true : (b : Bool) → not b ≡ true → b ≡ false
not_true true is = cc
not_true false is = refl

not_false : (b : Bool) → not b ≡ false → b ≡ true
not_false true is = refl
not_false false is = cc

-- an entry that is passed over, and one that is given
pub passed_over : (s t : Scan) (files : Files) (p : Position × Entry) → IsOk (ahead s files) → ahead s files ≡ in_front (p ∷ []) (ahead t files) → t.from ≡ s.from → not (is_from s.from p) ≡ true → from_here s files ≡ from_here t files
passed_over s t files p whole is same before =
    ap (filter (is_from s.from)) (front_entries p (ahead s files) (ahead t files) whole is)
    ∙ ap (λ (b : Bool). if b then p ∷ filter (is_from s.from) (entries_in (ahead t files)) else filter (is_from s.from) (entries_in (ahead t files))) (not_true (is_from s.from p) before)
    ∙ ap (λ (q : Position). filter (is_from q) (entries_in (ahead t files))) (sym same)

pub given_one : (s t : Scan) (files : Files) (p : Position × Entry) → IsOk (ahead s files) → ahead s files ≡ in_front (p ∷ []) (ahead t files) → t.from ≡ s.from → not (is_from s.from p) ≡ false → from_here s files ≡ p ∷ from_here t files
given_one s t files p whole is same behind =
    ap (filter (is_from s.from)) (front_entries p (ahead s files) (ahead t files) whole is)
    ∙ ap (λ (b : Bool). if b then p ∷ filter (is_from s.from) (entries_in (ahead t files)) else filter (is_from s.from) (entries_in (ahead t files))) (not_false (is_from s.from p) behind)
    ∙ ap (λ (q : Position). p ∷ filter (is_from q) (entries_in (ahead t files))) (sym same)

-- the scan's file isn't past the last one ahead
walk_behind : (n : ℕ) (files : Files) (found : LogContents) → log_of n files ≡ Ok found → n ≤ found.end.file
unfolding log_of
walk_behind n files found is = let l = last_of (1000000 - n) n files found is in omega (arith, l.above, ap (λ (f : LogContents). f.end.file) l.is)

front_end_of : (ps : List (Position × Entry)) (r : Standing) → IsOk (in_front ps r) → (IsOk r) × (walk_end (in_front ps r) ≡ walk_end r)
front_end_of ps (Ok found) whole = (refl, refl)
front_end_of ps (Err e) whole = absurd (let bad = whole in cc)

walk_end_behind : (n : ℕ) (files : Files) (r : Standing) → log_of n files ≡ r → IsOk r → n ≤ (walk_end r).file
walk_end_behind n files (Ok found) is whole = walk_behind n files found is
walk_end_behind n files (Err e) is whole = absurd (let bad = whole in cc)

joined_end : (n offset : ℕ) (files : Files) (part : Part) → IsOk (joined_from n offset part (log_of (n + 1) files)) → n ≤ (walk_end (joined_from n offset part (log_of (n + 1) files))).file
joined_end n offset files (Ok (es, true)) whole =
    let both = front_end_of (placed n offset es) (log_of (n + 1) files) whole in
    let high = walk_end_behind (n + 1) files (log_of (n + 1) files) refl both.0 in
    omega (arith, high, ap (λ (q : Position). q.file) both.1)
joined_end n offset files (Ok (es, false)) whole = omega arith
joined_end n offset files (Err e) whole = absurd (let bad = whole in cc)

pub file_behind : (s : Scan) (files : Files) → IsOk (ahead s files) → s.file ≤ (walk_end (ahead s files)).file
unfolding ahead
file_behind s files whole =
    let both = front_end_of (placed s.file s.offset (waiting s)) (joined_from s.file (gate_offset s) (part_left s files) (log_of (s.file + 1) files)) whole in
    omega (arith, joined_end s.file (gate_offset s) files (part_left s files) both.0, ap (λ (q : Position). q.file) both.1)

pub left_here : (s : Scan) (log : Log) (files : Files) → s.file ≤ log.current_file → left s log files ≡ from_here s files
left_here s log files le = ap (λ (b : Bool). if b then from_here s files else []) (le-leb s.file log.current_file le)

-- what is left after a step that ends where it began
pub left_after : (s t : Scan) (log : Log) (files other : Files) → IsOk (ahead t other) → (walk_end (ahead t other)).file ≡ (walk_end (ahead s files)).file → (walk_end (ahead s files)).file ≡ log.current_file → left t log other ≡ from_here t other
left_after s t log files other whole same end = left_here t log other (omega (arith, file_behind t other whole, same, end))

-- ---- a new scan

or_tests : (a b c d : Bool) → (a ≡ true → d ≡ true) → (b ≡ true → d ≡ true) → (a || (b && c)) ≡ true → d ≡ true
or_tests true b c d one two is = one refl
or_tests false true c d one two is = two refl
or_tests false false c d one two is = cc

from_since : (from : Position) (p : Position × Entry) → is_from from p ≡ true → is_since from.file p ≡ true
from_since from p is =
    or_tests (nat_lt from.file p.0.file) (p.0.file == from.file) (nat_le from.offset p.0.offset) (is_since from.file p)
    (λ lower. le-leb from.file p.0.file (let less : from.file < p.0.file = ltb-true from.file p.0.file lower in omega (arith, less)))
    (λ same. le-leb from.file p.0.file (omega (arith, eqb-true p.0.file from.file same))) is

twice_by : (a b : Bool) (x : Position × Entry) (f : Position × Entry → Bool) (xs ys : List (Position × Entry)) → f x ≡ a → (a ≡ true → b ≡ true) → filter f xs ≡ ys → filter f (if b then x ∷ xs else xs) ≡ (if a then x ∷ ys else ys)
twice_by true true x f xs ys is implies again = ap (λ (t : Bool). if t then x ∷ filter f xs else filter f xs) is ∙ ap (λ (l : List (Position × Entry)). x ∷ l) again
twice_by true false x f xs ys is implies again = absurd (let bad : false ≡ true = implies refl in cc)
twice_by false true x f xs ys is implies again = ap (λ (t : Bool). if t then x ∷ filter f xs else filter f xs) is ∙ again
twice_by false false x f xs ys is implies again = again

twice : (f g : Position × Entry → Bool) (xs : List (Position × Entry)) → ((x : Position × Entry) → f x ≡ true → g x ≡ true) → filter f (filter g xs) ≡ filter f xs
twice f g [] implies = refl
twice f g (x ∷ xs) implies = twice_by (f x) (g x) x f (filter g xs) (filter f xs) refl (implies x) (twice f g xs implies)

-- what a scan that hasn't begun has ahead
new_ahead : (s : Scan) (log : Log) (now : Files) → IsWhole log now → s.begun ≡ false → s.at ≡ length s.body.items → s.offset ≡ 0 → log.first_file ≤ s.file → s.file ≤ log.current_file → log.current_file < 1000000
    → ahead s now ≡ since s.file (log_of log.first_file now)
new_ahead s log now w begun all offset low high top =
    let f = is_found (log_of log.first_file now) log.current_file log.forced_bytes w.0 w.1 in
    start_ahead s now begun all offset (omega (arith, high, top))
    ∙ log_later log.first_file s.file log.current_file now f.found low high f.is f.at ∙ ap (since s.file) (sym f.is)

pub new_scanning : (s : Scan) (log : Log) (now : Files) → IsWhole log now → s.begun ≡ false → s.at ≡ length s.body.items → s.offset ≡ 0 → s.gate ≡ 16 → log.first_file ≤ s.file → log.current_file < 1000000 → IsScanning s log now
new_scanning s log now w begun all offset gate low top high =
    let same = new_ahead s log now w begun all offset low high top in
    let ends = since_end s.file (log_of log.first_file now) w.0 in (
      switched_going s now begun all offset gate (subst (λ (r : Standing). IsOk r) (sym same) ends.0),
      ap (λ (r : Standing). (walk_end r).file) same ∙ ap (λ (q : Position). q.file) (ends.1 ∙ w.1),
    )

pub new_left : (s : Scan) (log : Log) (now : Files) → IsWhole log now → s.begun ≡ false → s.at ≡ length s.body.items → s.offset ≡ 0 → s.file ≡ s.from.file → log.first_file ≤ s.file → s.file ≤ log.current_file → log.current_file < 1000000
    → left s log now ≡ filter (is_from s.from) (forced_of log now)
new_left s log now w begun all offset file low high top =
    left_here s log now high
    ∙ ap (λ (r : Standing). filter (is_from s.from) (entries_in r)) (new_ahead s log now w begun all offset low high top)
    ∙ ap (filter (is_from s.from)) (since_forced s.file (log_of log.first_file now))
    ∙ ap (λ (k : ℕ). filter (is_from s.from) (filter (is_since k) (forced_of log now))) file
    ∙ twice (is_from s.from) (is_since s.from.file) (forced_of log now) (from_since s.from)

-- what is given, of lists that are equal
pub given_of : (r : Result (Option (Position × Entry)) LogRefusal) (a b other more : List (Position × Entry)) → other ≡ a → more ≡ b → Gives a b r → Gives other more r
given_of r a b other more one two is = subst (λ (l : List (Position × Entry)). Gives other l r) (sym two) (subst (λ (l : List (Position × Entry)). Gives l b r) (sym one) is)

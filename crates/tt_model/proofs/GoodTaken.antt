-- Which values rows of a good catalog have: names, numbers and positions in their ranges.
use Rattle.std.proofs.Common.{◌≡◌, ◌≤◌, ℕ, suc, Bool, true, false, cond, List, [], ◌∷◌, ◌++◌, Option, Some, None, refl, sym, ap, ◌∙◌, arith, true≢false, length}
use Rattle.std.proofs.lemmas.Bool.{eqb-true, le-leb, and_from, and_parts, not-false}
use Rattle.std.proofs.lemmas.Slice.Eq.{bytes_eq-Decides}
use Rattle.std.proofs.lemmas.List.Sums.{sum_by-cons}
use Rattle.std.specs.Prelude.{◌==◌, pos, negsuc, nat_le, count_by, is_some}
use Rattle.std.specs.List.{list_any, filter_map, cons_option}
use Rattle.tt_value.specs.Ident.{is_name}
use Rattle.tt_value.specs.Order.{text_of}
use Rattle.tt_value.specs.declared.position.Position.{Position}
use Rattle.tt_value.specs.declared.value.Value.{Value}
use Rattle.tt_value.specs.declared.value.Value.TheVariants.{Null, Int, Number, Text}
use Rattle.tt_value.specs.declared.value.Row.{Row}
use Rattle.tt_value.specs.declared.value.Cell.TheVariants.{Full}
use Rattle.tt_model.specs.Trail.{Trail, least_position, position_lt, before}
use Rattle.tt_model.specs.Live.{live}
use Rattle.tt_model.specs.Holds.{first_entry, older_or, least_of, low, is_change_of}
use Rattle.tt_model.specs.Holders.{value_at}
use Rattle.tt_model.specs.Tables.{Table, PlacedRow, row_in, text_at, number_at, table_named, whole_number_of}
use Rattle.tt_model.specs.State.{State, trail, cells_of, catalog, write_position, low_now}
use Rattle.tt_model.specs.System.{number, bookmark, system_rows}
use Rattle.tt_model.specs.Backups.{row_of_set}
use Rattle.tt_model.specs.Entries.{HasLogInRange, IsKept}
use Rattle.tt_model.specs.Damage.{SystemTable, Tables, Bookmarks, Sets, id_of, are_taken, column_tests, is_number_from, is_name_text, is_table_id, is_log_file, is_log_offset}
use Rattle.tt_model.proofs.RowLemmas.{in_cell}
use Rattle.tt_model.proofs.TableRows.{HasTable, kept_row}
use Rattle.tt_model.proofs.TableLines.{table-there}
use Rattle.tt_model.proofs.SystemLines.{bookmark-lies, set-lies}
use Rattle.tt_model.proofs.BookmarkLemmas.{find-passes, is_named}
use Rattle.tt_model.proofs.GoodDeletes.{HasGood}

-- ---- kinds of values

pub number-in : (least most n : ℕ) → least ≤ n → n ≤ most → is_number_from least most (number n) ≡ true
number-in least most n l m = and_from (nat_le least n) (nat_le n most) (le-leb least n l) (le-leb n most m)

pub number-is : (least most : ℕ) (v : Value) → is_number_from least most v ≡ true → v ≡ number (whole_number_of v)
number-is least most (Int (pos n)) h = refl
number-is least most (Int (negsuc n)) h = absurd (true≢false (sym h))
number-is least most Null h = absurd (true≢false (sym h))
number-is least most (Number s n) h = absurd (true≢false (sym h))
number-is least most (Text bytes) h = absurd (true≢false (sym h))

pub text-is : (v : Value) → is_name_text v ≡ true → (v ≡ Text (text_of v)) × (is_name (text_of v) ≡ true)
text-is (Text bytes) h = (refl, h)
text-is (Int n) h = absurd (true≢false (sym h))
text-is Null h = absurd (true≢false (sym h))
text-is (Number s n) h = absurd (true≢false (sym h))

pub taken-first : (test : Value → Bool) (tests : List (Value → Bool)) (r : Row) → are_taken (test ∷ tests) r.values ≡ true → test (value_at r 0) ≡ true
taken-first test tests r h = by_values r.values refl h
  where
    by_values : (vs : List Value) → r.values ≡ vs → are_taken (test ∷ tests) vs ≡ true → test (value_at r 0) ≡ true
    by_values [] e h = absurd (true≢false (sym h))
    by_values (v ∷ vs) e h = ap (λ (ws : List Value). test (value_at (record { values = ws }) 0)) e ∙ (and_parts (test v) (are_taken tests vs) h).0

pub taken-second : (first test : Value → Bool) (tests : List (Value → Bool)) (r : Row) → are_taken (first ∷ test ∷ tests) r.values ≡ true → test (value_at r 1) ≡ true
taken-second first test tests r h = by_values r.values refl h
  where
    by_values : (vs : List Value) → r.values ≡ vs → are_taken (first ∷ test ∷ tests) vs ≡ true → test (value_at r 1) ≡ true
    by_values [] e h = absurd (true≢false (sym h))
    by_values (v ∷ []) e h = absurd (true≢false (sym ((and_parts (first v) (are_taken (test ∷ tests) []) h).1)))
    by_values (v ∷ w ∷ vs) e h = ap (λ (ws : List Value). test (value_at (record { values = ws }) 1)) e ∙ (and_parts (test w) (are_taken tests vs) ((and_parts (first v) (are_taken (test ∷ tests) (w ∷ vs)) h).1)).0

pub good-taken : (s : State) (t : SystemTable) (q : ℕ) (r : Row) → HasGood s → cells_of s q ≡ Full (id_of t) r → are_taken (column_tests t) r.values ≡ true
good-taken s t q r g e = not-false (are_taken (column_tests t) r.values) ((g.follow t q r e).values)

-- ---- rows that are found

-- The row of a bookmark has its name, which is a name.
pub named-value : (s : State) (name : List ℕ) (at : PlacedRow) → HasGood s → bookmark name s ≡ Some at → (value_at (at.1) 0 ≡ Text name) × (is_name name ≡ true)
named-value s name at g e =
    let text : (value_at (at.1) 0 ≡ Text (text_of (value_at (at.1) 0))) × (is_name (text_of (value_at (at.1) 0)) ≡ true)
    = text-is (value_at (at.1) 0) (taken-first is_name_text (is_log_file ∷ is_log_offset ∷ is_number_from 0 4294967295 ∷ is_log_file ∷ is_log_offset ∷ []) (at.1) (good-taken s Bookmarks (at.0) (at.1) g (bookmark-lies name s at e))) in
    let same : text_of (value_at (at.1) 0) ≡ name = (bytes_eq-Decides (text_at 0 at) name).0 (find-passes (is_named name) (system_rows 4 s) at e) in
    (text.0 ∙ ap Text same, ap is_name (sym same) ∙ text.1)

-- The row of a set has its number.
pub set-value : (s : State) (set : ℕ) (r : PlacedRow) → HasGood s → row_of_set set s ≡ Some r → value_at (r.1) 0 ≡ number set
set-value s set r g e =
    number-is 1 999 (value_at (r.1) 0) (taken-first (is_number_from 1 999) (is_log_file ∷ is_log_offset ∷ []) (r.1) (good-taken s Sets (r.0) (r.1) g (set-lies set s r e)))
    ∙ ap number (eqb-true (number_at 0 r) set (find-passes (λ r. number_at 0 r == set) (system_rows 6 s) r e))

-- A row of TABLES with the number of a table.
pub record IsTableRow (s : State) (id : ℕ) : Type 0 where
  pub at : ℕ
  pub row : Row
  pub lies : cells_of s at ≡ Full 1 row
  pub value : value_at row 0 ≡ number id
  pub is_id : is_table_id (number id) ≡ true

table_row_by : (s : State) (id q : ℕ) (o : Option Row) → HasGood s → row_in 1 (cells_of s q) ≡ o → is_some (kept_row 0 id o) ≡ true → IsTableRow s id
table_row_by s id q None g e h = absurd (true≢false (sym h))
table_row_by s id q (Some r) g e h =
    let lies : cells_of s q ≡ Full 1 r = in_cell 1 (cells_of s q) r e in
    let same : whole_number_of (value_at r 0) ≡ id = by_test (whole_number_of (value_at r 0) == id) refl h in
    let is_id : is_table_id (value_at r 0) ≡ true = taken-first is_table_id (is_name_text ∷ []) r (good-taken s Tables q r g lies) in
    let value : value_at r 0 ≡ number id = number-is 16 271 (value_at r 0) is_id ∙ ap number same in
    record { at = q; row = r; lies = lies; value = value; is_id = ap is_table_id (sym value) ∙ is_id }
  where
    by_test : (b : Bool) → (whole_number_of (value_at r 0) == id) ≡ b → is_some (cond b (Some r) None) ≡ true → whole_number_of (value_at r 0) ≡ id
    by_test true e k = eqb-true (whole_number_of (value_at r 0)) id e
    by_test false e k = absurd (true≢false (sym k))

pub table-row : (s : State) (name : List ℕ) (t : Table) → HasGood s → table_named name (catalog s) ≡ Some t → IsTableRow s t.id
table-row s name t g e = let there : HasTable t.id (cells_of s) = table-there s name t e in table_row_by s t.id (there.0) (row_in 1 (cells_of s (there.0))) g refl (there.1)

-- ---- counts and lists

pub count-all : {X : Type 0} (xs : List X) → count_by (λ x. true) xs ≡ length xs
count-all [] = refl
count-all (x ∷ xs) = sum_by-cons (λ y. 1) x xs ∙ (let rest : count_by (λ x. true) xs ≡ length xs = count-all xs in omega (arith, rest))

pub none-any : {X : Type 0} (f : X → Bool) (xs : List X) → (length xs == 0) ≡ true → list_any f xs ≡ false
none-any f [] h = refl
none-any f (x ∷ xs) h = let no_rows : suc (length xs) ≡ 0 = eqb-true (suc (length xs)) 0 h in absurd (omega (arith, no_rows))

-- ---- the Low of the log

abbrev AllKept : Trail → Type 0
AllKept [] = Unit {0}
AllKept (e ∷ older) = IsKept e.at × AllKept older

all_kept : (s : State) (es newer : Trail) → HasLogInRange s → trail s ≡ newer ++ es → AllKept es
all_kept s [] newer h e = tt
all_kept s (x ∷ older) newer h e = ((h.entries newer older x e).0, all_kept s older (newer ++ x ∷ []) h (e ∙ sym (assoc newer (x ∷ []) older)))
  where
    assoc : (xs ys zs : Trail) → (xs ++ ys) ++ zs ≡ xs ++ (ys ++ zs)
    assoc [] ys zs = refl
    assoc (w ∷ xs) ys zs = ap (λ (r : Trail). w ∷ r) (assoc xs ys zs)

kept_either : (xs ys : Trail) (b : Bool) → AllKept xs → AllKept ys → AllKept (cond b xs ys)
kept_either xs ys true k l = k
kept_either xs ys false k l = l

before_kept : (p : Position) (es : Trail) → AllKept es → AllKept (before p es)
unfolding before
before_kept p [] k = tt
before_kept p (e ∷ older) k = kept_either (e ∷ older) (before p older) (position_lt e.at p) k (before_kept p older (k.1))

abbrev OptionKept : Option Position → Type 0
OptionKept None = Unit {0}
OptionKept (Some p) = IsKept p

older_kept : (o : Option Position) (b : Bool) (p : Position) → OptionKept o → IsKept p → OptionKept (older_or o b p)
older_kept (Some q) b p k l = k
older_kept None true p k l = l
older_kept None false p k l = tt

first_kept : (t : ℕ) (es : Trail) → AllKept es → OptionKept (first_entry t es)
unfolding first_entry
first_kept t [] k = tt
first_kept t (e ∷ older) k = older_kept (first_entry t older) (is_change_of t e.entry) e.at (first_kept t older (k.1)) (k.0)

least_kept : (p q : Position) → IsKept p → IsKept q → IsKept (least_position p q)
least_kept p q a b = by_test (position_lt p q)
  where
    by_test : (c : Bool) → IsKept (cond c p q)
    by_test true = a
    by_test false = b

kept_option : (p : Position) (o : Option Position) (ps : List Position) → OptionKept o → IsKept (least_of p ps) → IsKept (least_of p (cons_option o ps))
kept_option p None ps k l = l
kept_option p (Some q) ps k l = least_kept q (least_of p ps) k l

least_entries : (p : Position) (es : Trail) (us : List ℕ) → IsKept p → AllKept es → IsKept (least_of p (filter_map (λ t. first_entry t es) us))
least_entries p es [] a k = a
least_entries p es (u ∷ us) a k = kept_option p (first_entry u es) (filter_map (λ t. first_entry t es) us) (first_kept u es k) (least_entries p es us a k)

-- Where the log has its ranges, rows can keep its Low.
pub low-kept : (s : State) → HasLogInRange s → IsKept (low_now s)
unfolding low
low-kept s h = least_entries (write_position s) (before (write_position s) (trail s)) (live (before (write_position s) (trail s))) h.end (before_kept (write_position s) (trail s) (all_kept s (trail s) [] h refl))

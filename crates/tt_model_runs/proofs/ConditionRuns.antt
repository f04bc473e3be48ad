-- Runs whose lines have conditions. The fold of conditions doesn't unfold outside its crate; so a run is computed from what its
-- conditions mean, one after another, and each condition's meaning is given by a law of its own.
use Rattle.std.proofs.Common.{◌≡◌, ℕ, Bool, List, [], ◌∷◌, filter, map, Option, Some, None, refl, ap, ◌∙◌}
use Rattle.std.specs.Option.{option_or}
use Rattle.tt_value.specs.Truth.{negated, both_of, either_of}
use Rattle.tt_value.specs.declared.truth.Truth.{Truth}
use Rattle.tt_value.specs.declared.value.Row.{Row}
use Rattle.tt_value.specs.declared.value.Cell.TheVariants.{Empty}
use Rattle.tt_value.specs.declared.refusal.Refusal.{Refusal}
use Rattle.tt_value.specs.declared.refusal.Refusal.TheVariants.{NoTable, NoColumn, WrongType}
use Rattle.tt_value.specs.declared.reply.Reply.{Reply}
use Rattle.std.specs.Prelude.{not, ◌&&◌, Result, Err}
use Rattle.std.specs.List.{list_all}
use Rattle.tt_parse.specs.declared.cond.Op.{Op}
use Rattle.tt_parse.specs.declared.cond.Operand.{Operand}
use Rattle.tt_parse.specs.declared.cond.Cond.{Cond, roll-Cond, fold-roll-Cond}
use Rattle.tt_parse.specs.declared.cond.Cond.TheOpen.{Compare, IsNull, Not, And, Or}
use Rattle.tt_parse.specs.declared.command.SetItem.{SetItem}
use Rattle.tt_parse.specs.declared.command.Items.{Items}
use Rattle.tt_parse.specs.declared.command.OrderItem.{OrderItem}
use Rattle.tt_parse.specs.declared.command.Command.{Command}
use Rattle.tt_parse.specs.declared.command.Command.TheVariants.{Update, Delete, Select}
use Rattle.tt_model.specs.Values.{is_yes}
use Rattle.tt_model.specs.Tables.{Table, PlacedRow, in_order, table_named}
use Rattle.tt_model.specs.Conditions.{truth, truth_at, has_columns, columns_at, has_kinds, kinds_at, is_column}
use Rattle.tt_model.specs.State.{State, catalog, write_position}
use Rattle.tt_value.specs.declared.position.Position.{Position}
use Rattle.tt_model.specs.Meaning.{rows_unless, Meant, Refuses, Makes, refused_if, first_of, unless, full, rows_seen, key_order, order_cmp, delete_row_refusal, sets_refusal, update_rows, makes, items_columns, sums_text, shown, delete_from, update_in, select_in, meant_by_delete, meant_by_update, meant_by_select}
use Rattle.tt_model.specs.Checkpoint.{with_copies}
use Rattle.tt_model.specs.Step.{Answered, line, stepped, statement, completion_after, selected}

-- ---- how runs are written

-- A session and its command.
abbrev pub Line : Type 0
Line = ℕ × Command

-- The replies to these lines, from a state on.
abbrev pub replies : List Line → State → List Reply
replies [] s = []
replies (l ∷ ls) s = let a = stepped (l.0) (l.1) s in (a.0) ∷ replies ls (a.1)

-- The state that lines leave.
abbrev pub after : List Line → State → State
after [] s = s
after (l ∷ ls) s = after ls ((stepped (l.0) (l.1) s).1)

-- The positions at which lines leave the end of the log, one after another.
abbrev pub ends_after : List Line → State → List Position
ends_after [] s = []
ends_after (l ∷ ls) s = let next = (stepped (l.0) (l.1) s).1 in write_position next ∷ ends_after ls next

-- ---- what a condition means

-- Of each table its truth of a row, and whether its columns are there and of kinds that go together.
pub record Meaning : Type 0 where
  pub row_truth : Table → Row → Truth
  pub columns : Table → Bool
  pub kinds : Table → Bool

abbrev pub meaning_of : (Table → Row → Truth) → (Table → Bool) → (Table → Bool) → Meaning
meaning_of row_truth columns kinds = record { row_truth = row_truth; columns = columns; kinds = kinds }

abbrev pub meaning : Cond → Meaning
meaning cond = meaning_of (truth cond) (has_columns cond) (has_kinds cond)

-- A comparison.
abbrev pub comparison : List ℕ → Op → Operand → Meaning
comparison column op right = meaning_of (truth_at (Compare column op right)) (columns_at (Compare column op right)) (kinds_at (Compare column op right))

pub means-comparison : (column : List ℕ) (op : Op) (right : Operand) → meaning (roll-Cond (Compare column op right)) ≡ comparison column op right
unfolding truth has_columns has_kinds
means-comparison column op right =
    let cond : Cond = roll-Cond (Compare column op right) in
    ap (λ (f : Table → Row → Truth). meaning_of f (has_columns cond) (has_kinds cond)) (fold-roll-Cond (Table → Row → Truth) truth_at (Compare column op right))
    ∙ (ap (λ (g : Table → Bool). meaning_of (truth_at (Compare column op right)) g (has_kinds cond)) (fold-roll-Cond (Table → Bool) columns_at (Compare column op right))
    ∙ ap (meaning_of (truth_at (Compare column op right)) (columns_at (Compare column op right))) (fold-roll-Cond (Table → Bool) kinds_at (Compare column op right)))

-- What isn't so.
abbrev pub negation : Meaning → Meaning
negation m = meaning_of (λ t row. negated (m.row_truth t row)) m.columns m.kinds

pub means-negation : (cond : Cond) → meaning (roll-Cond (Not cond)) ≡ negation (meaning cond)
unfolding truth has_columns has_kinds
means-negation cond =
    ap (λ (f : Table → Row → Truth). meaning_of f (has_columns (roll-Cond (Not cond))) (has_kinds (roll-Cond (Not cond)))) (fold-roll-Cond (Table → Row → Truth) truth_at (Not cond))
    ∙ (ap (λ (g : Table → Bool). meaning_of (λ t row. negated (truth cond t row)) g (has_kinds (roll-Cond (Not cond)))) (fold-roll-Cond (Table → Bool) columns_at (Not cond))
    ∙ ap (meaning_of (λ t row. negated (truth cond t row)) (has_columns cond)) (fold-roll-Cond (Table → Bool) kinds_at (Not cond)))

-- A test for Null.
abbrev pub null_test : List ℕ → Bool → Meaning
null_test column isnt = meaning_of (truth_at (IsNull column isnt)) (columns_at (IsNull column isnt)) (kinds_at (IsNull column isnt))

pub means-null_test : (column : List ℕ) (isnt : Bool) → meaning (roll-Cond (IsNull column isnt)) ≡ null_test column isnt
unfolding truth has_columns has_kinds
means-null_test column isnt =
    let cond : Cond = roll-Cond (IsNull column isnt) in
    ap (λ (f : Table → Row → Truth). meaning_of f (has_columns cond) (has_kinds cond)) (fold-roll-Cond (Table → Row → Truth) truth_at (IsNull column isnt))
    ∙ (ap (λ (g : Table → Bool). meaning_of (truth_at (IsNull column isnt)) g (has_kinds cond)) (fold-roll-Cond (Table → Bool) columns_at (IsNull column isnt))
    ∙ ap (meaning_of (truth_at (IsNull column isnt)) (columns_at (IsNull column isnt))) (fold-roll-Cond (Table → Bool) kinds_at (IsNull column isnt)))

-- Two conditions that both hold, and of which one does.
abbrev pub conjunction : Meaning → Meaning → Meaning
conjunction m n = meaning_of (λ t row. both_of (m.row_truth t row) (n.row_truth t row)) (λ t. m.columns t && n.columns t) (λ t. m.kinds t && n.kinds t)

pub means-conjunction : (a b : Cond) → meaning (roll-Cond (And a b)) ≡ conjunction (meaning a) (meaning b)
unfolding truth has_columns has_kinds
means-conjunction a b =
    ap (λ (f : Table → Row → Truth). meaning_of f (has_columns (roll-Cond (And a b))) (has_kinds (roll-Cond (And a b)))) (fold-roll-Cond (Table → Row → Truth) truth_at (And a b))
    ∙ (ap (λ (g : Table → Bool). meaning_of (λ t row. both_of (truth a t row) (truth b t row)) g (has_kinds (roll-Cond (And a b)))) (fold-roll-Cond (Table → Bool) columns_at (And a b))
    ∙ ap (meaning_of (λ t row. both_of (truth a t row) (truth b t row)) (λ t. has_columns a t && has_columns b t)) (fold-roll-Cond (Table → Bool) kinds_at (And a b)))

abbrev pub disjunction : Meaning → Meaning → Meaning
disjunction m n = meaning_of (λ t row. either_of (m.row_truth t row) (n.row_truth t row)) (λ t. m.columns t && n.columns t) (λ t. m.kinds t && n.kinds t)

pub means-disjunction : (a b : Cond) → meaning (roll-Cond (Or a b)) ≡ disjunction (meaning a) (meaning b)
unfolding truth has_columns has_kinds
means-disjunction a b =
    ap (λ (f : Table → Row → Truth). meaning_of f (has_columns (roll-Cond (Or a b))) (has_kinds (roll-Cond (Or a b)))) (fold-roll-Cond (Table → Row → Truth) truth_at (Or a b))
    ∙ (ap (λ (g : Table → Bool). meaning_of (λ t row. either_of (truth a t row) (truth b t row)) g (has_kinds (roll-Cond (Or a b)))) (fold-roll-Cond (Table → Bool) columns_at (Or a b))
    ∙ ap (meaning_of (λ t row. either_of (truth a t row) (truth b t row)) (λ t. has_columns a t && has_columns b t)) (fold-roll-Cond (Table → Bool) kinds_at (Or a b)))

-- ---- lines with what their conditions mean

pub data Told : Type 0 where
  Plain : Command → Told
  UpdateWhere : List ℕ → List SetItem → Meaning → Told
  DeleteWhere : List ℕ → Meaning → Told
  SelectWhere : List ℕ → Items → Meaning → List OrderItem → Told

-- The condition of a line, where it has one, and those of several lines, in their order.
abbrev pub cond_of : Command → Option Cond
cond_of (Update table sets cond) = cond
cond_of (Delete table cond) = cond
cond_of (Select table items cond order) = cond
cond_of _ = None

abbrev pub with_cond : Option Cond → List Cond → List Cond
with_cond None conds = conds
with_cond (Some cond) conds = cond ∷ conds

abbrev pub conds_in : List Line → List Cond
conds_in [] = []
conds_in (l ∷ ls) = with_cond (cond_of (l.1)) (conds_in ls)

-- A line whose condition means this.
abbrev pub told_with : Command → Meaning → Told
told_with (Update table sets cond) m = UpdateWhere table sets m
told_with (Delete table cond) m = DeleteWhere table m
told_with (Select table items cond order) m = SelectWhere table items m order
told_with command m = Plain command

abbrev pub told_where : Command → Option Cond → Told
told_where command None = Plain command
told_where command (Some cond) = told_with command (meaning cond)

abbrev pub told : Command → Told
told command = told_where command (cond_of command)

abbrev pub told_lines : List Line → List (ℕ × Told)
told_lines [] = []
told_lines (l ∷ ls) = (l.0, told (l.1)) ∷ told_lines ls

-- The same with a list of meanings: each condition takes the next one.
abbrev pub next_by : ℕ → Command → Option Cond → List Meaning → (List Meaning → List (ℕ × Told)) → List (ℕ × Told)
next_by session command None ms rest = (session, Plain command) ∷ rest ms
next_by session command (Some cond) [] rest = (session, Plain command) ∷ rest []
next_by session command (Some cond) (m ∷ ms) rest = (session, told_with command m) ∷ rest ms

abbrev pub lines_by : List Meaning → List Line → List (ℕ × Told)
lines_by ms [] = []
lines_by ms (l ∷ ls) = next_by (l.0) (l.1) (cond_of (l.1)) ms (λ left. lines_by left ls)

-- Each of these conditions means the one of the list that stands at its place.
abbrev pub AreMeant : List Cond → List Meaning → Type 0
AreMeant [] ms = Unit {0}
AreMeant (cond ∷ conds) [] = ⊥
AreMeant (cond ∷ conds) (m ∷ ms) = (meaning cond ≡ m) × AreMeant conds ms

abbrev pub refusal_by : Meaning → Table → Option Refusal
refusal_by m t = first_of (refused_if (not (m.columns t)) NoColumn ∷ refused_if (not (m.kinds t)) WrongType ∷ [])

abbrev pub rows_by : Meaning → Table → List PlacedRow → List PlacedRow
rows_by m t rows = filter (λ (r : PlacedRow). is_yes (m.row_truth t (r.1))) rows

abbrev pub delete_by : ℕ → State → Meaning → Option Table → Meant
delete_by session s m None = Refuses NoTable
delete_by session s m (Some t) =
    let rows = in_order (key_order t) (rows_by m t (rows_seen session s t)) in
    unless (first_of (refusal_by m t ∷ map (delete_row_refusal session s t) rows))
    (Makes (map (λ (r : PlacedRow). record { place = Some (r.0); before = full t (r.1); after = Empty }) rows))

abbrev pub update_by : ℕ → State → List SetItem → Meaning → Option Table → Meant
update_by session s sets m None = Refuses NoTable
update_by session s sets m (Some t) =
    let rows = rows_seen session s t in
    unless (option_or (sets_refusal t [] sets) (refusal_by m t))
    (makes (update_rows session s t sets rows (in_order (key_order t) (rows_by m t rows))))

abbrev pub select_by : ℕ → State → Items → Meaning → List OrderItem → Option Table → Result (List Row) Refusal
select_by session s items m order None = Err NoTable
select_by session s items m order (Some t) =
    rows_unless (first_of (
    refused_if (not (list_all (is_column t) (items_columns items))) NoColumn
    ∷ refused_if (sums_text t items) WrongType
    ∷ refusal_by m t
    ∷ refused_if (not (list_all (λ o. is_column t o.column) order)) NoColumn
    ∷ []))
    (shown t items (in_order (order_cmp t order) (rows_by m t (rows_seen session s t))))

abbrev pub line_told : ℕ → Told → State → Answered
line_told session (Plain command) s = line session command s
line_told session (UpdateWhere table sets m) s = statement session (update_by session s sets m (table_named table (catalog s))) s
line_told session (DeleteWhere table m) s = statement session (delete_by session s m (table_named table (catalog s))) s
line_told session (SelectWhere table items m order) s = selected (select_by session s items m order (table_named table (catalog s))) s

abbrev pub stepped_told : ℕ → Told → State → Answered
stepped_told session l s = let a = line_told session l (with_copies s) in (a.0, completion_after s.underway (a.1))

abbrev pub replies_told : List (ℕ × Told) → State → List Reply
replies_told [] s = []
replies_told (l ∷ ls) s = let a = stepped_told (l.0) (l.1) s in (a.0) ∷ replies_told ls (a.1)

abbrev pub after_told : List (ℕ × Told) → State → State
after_told [] s = s
after_told (l ∷ ls) s = after_told ls ((stepped_told (l.0) (l.1) s).1)

abbrev pub ends_told : List (ℕ × Told) → State → List Position
ends_told [] s = []
ends_told (l ∷ ls) s = let next = (stepped_told (l.0) (l.1) s).1 in write_position next ∷ ends_told ls next

-- ---- the same replies

delete-told : (session : ℕ) (s : State) (cond : Cond) (o : Option Table) → delete_from session s (Some cond) o ≡ delete_by session s (meaning cond) o
delete-told session s cond None = refl
delete-told session s cond (Some t) = refl

update-told : (session : ℕ) (s : State) (sets : List SetItem) (cond : Cond) (o : Option Table) → update_in session s sets (Some cond) o ≡ update_by session s sets (meaning cond) o
update-told session s sets cond None = refl
update-told session s sets cond (Some t) = refl

select-told : (session : ℕ) (s : State) (items : Items) (cond : Cond) (order : List OrderItem) (o : Option Table) →
    select_in session s items (Some cond) order o ≡ select_by session s items (meaning cond) order o
select-told session s items cond order None = refl
select-told session s items cond order (Some t) = refl

line-told : (session : ℕ) (command : Command) (s : State) → line session command s ≡ line_told session (told command) s
unfolding line meant_by_delete meant_by_update meant_by_select
line-told session (Update table sets (Some cond)) s = ap (λ (m : Meant). statement session m s) (update-told session s sets cond (table_named table (catalog s)))
line-told session (Delete table (Some cond)) s = ap (λ (m : Meant). statement session m s) (delete-told session s cond (table_named table (catalog s)))
line-told session (Select table items (Some cond) order) s = ap (λ (rows : Result (List Row) Refusal). selected rows s) (select-told session s items cond order (table_named table (catalog s)))
line-told session command s = refl

stepped-told : (session : ℕ) (command : Command) (s : State) → stepped session command s ≡ stepped_told session (told command) s
stepped-told session command s = ap (λ (a : Answered). (a.0, completion_after s.underway (a.1))) (line-told session command (with_copies s))

pub replies-told : (lines : List Line) (s : State) → replies lines s ≡ replies_told (told_lines lines) s
replies-told [] s = refl
replies-told (l ∷ ls) s =
    ap (λ (a : Answered). a.0 ∷ replies ls (a.1)) (stepped-told (l.0) (l.1) s)
    ∙ ap (λ (rs : List Reply). (stepped_told (l.0) (told (l.1)) s).0 ∷ rs) (replies-told ls ((stepped_told (l.0) (told (l.1)) s).1))

pub after-told : (lines : List Line) (s : State) → after lines s ≡ after_told (told_lines lines) s
after-told [] s = refl
after-told (l ∷ ls) s = ap (λ (a : Answered). after ls (a.1)) (stepped-told (l.0) (l.1) s) ∙ after-told ls ((stepped_told (l.0) (told (l.1)) s).1)

ends-told : (lines : List Line) (s : State) → ends_after lines s ≡ ends_told (told_lines lines) s
ends-told [] s = refl
ends-told (l ∷ ls) s =
    ap (λ (a : Answered). write_position (a.1) ∷ ends_after ls (a.1)) (stepped-told (l.0) (l.1) s)
    ∙ ap (λ (ps : List Position). write_position ((stepped_told (l.0) (told (l.1)) s).1) ∷ ps) (ends-told ls ((stepped_told (l.0) (told (l.1)) s).1))

lines_told : (session : ℕ) (command : Command) (o : Option Cond) (conds : List Cond) (ms : List Meaning) (lines : List (ℕ × Told)) (rest : List Meaning → List (ℕ × Told)) →
    ((left : List Meaning) → AreMeant conds left → lines ≡ rest left) → AreMeant (with_cond o conds) ms → (session, told_where command o) ∷ lines ≡ next_by session command o ms rest
lines_told session command None conds ms lines rest ih are = ap (λ (ls : List (ℕ × Told)). (session, Plain command) ∷ ls) (ih ms are)
lines_told session command (Some cond) conds [] lines rest ih are = absurd are
lines_told session command (Some cond) conds (m ∷ ms) lines rest ih are =
    ap (λ (y : Meaning). (session, told_with command y) ∷ lines) (are.0)
    ∙ ap (λ (ls : List (ℕ × Told)). (session, told_with command m) ∷ ls) (ih ms (are.1))

lines-by : (lines : List Line) (ms : List Meaning) → AreMeant (conds_in lines) ms → told_lines lines ≡ lines_by ms lines
lines-by [] ms are = refl
lines-by (l ∷ ls) ms are = lines_told (l.0) (l.1) (cond_of (l.1)) (conds_in ls) ms (told_lines ls) (λ left. lines_by left ls) (lines-by ls) are

-- Where the conditions mean these, a run has the replies, the state and the ends that are computed from them.
pub replies-by : (ms : List Meaning) (lines : List Line) (s : State) → AreMeant (conds_in lines) ms → replies lines s ≡ replies_told (lines_by ms lines) s
replies-by ms lines s are = replies-told lines s ∙ ap (λ (ls : List (ℕ × Told)). replies_told ls s) (lines-by lines ms are)

pub after-by : (ms : List Meaning) (lines : List Line) (s : State) → AreMeant (conds_in lines) ms → after lines s ≡ after_told (lines_by ms lines) s
after-by ms lines s are = after-told lines s ∙ ap (λ (ls : List (ℕ × Told)). after_told ls s) (lines-by lines ms are)

pub ends-by : (ms : List Meaning) (lines : List Line) (s : State) → AreMeant (conds_in lines) ms → ends_after lines s ≡ ends_told (lines_by ms lines) s
ends-by ms lines s are = ends-told lines s ∙ ap (λ (ls : List (ℕ × Told)). ends_told ls s) (lines-by lines ms are)

-- Lines lead from sound states to sound ones.
use Rattle.std.proofs.Common.{◌≡◌, inr, ℕ, suc, Bool, true, false, not, if◌then◌else◌, List, [], ◌∷◌, map, Option, Some, None, refl, subst, ◌≤◌, zero, cond, nat_eq, find, unwrap_or, le_refl, arith, pos, length, ap}
use Rattle.std.specs.Prelude.{option_map, Result, Ok, Err}
use Rattle.std.specs.Option.{option_or}
use Rattle.tt_value.specs.declared.refusal.Refusal.{Refusal}
use Rattle.tt_value.specs.declared.refusal.Refusal.TheVariants.{BookmarkBusy}
use Rattle.tt_value.specs.declared.value.Row.{Row}
use Rattle.tt_parse.specs.declared.command.ColumnText.{ColumnText}
use Rattle.tt_model.specs.Tables.{Table, PlacedRow, table_named, whole_number_of}
use Rattle.tt_model.specs.Meaning.{Meant, Makes, Refuses, unless}
use Rattle.tt_model.specs.System.{least_unused, column_rows, create_index, subscribe, reader_on, bookmark, meant_by_create_table, meant_by_create_index, meant_by_create_bookmark, meant_by_subscribe}
use Rattle.tt_model.specs.State.{State, Reader, next, catalog}
use Rattle.tt_model.specs.declared.definition.CellEdit.{CellEdit}
use Rattle.tt_model.specs.Sound.{IsUserTable, IsSound, MayEdit}
use Rattle.tt_model.specs.Step.{number_for, statement, made, unless_refused, system, no_system_position, no_number_for, no_position, edit_length, commit_of, rollback_of, rollback_lengths, is_durable, end_length, given, closed, refused, open_at, no_skip, given_to, next_read_of, selected}
use Rattle.tt_model.proofs.SoundLines.{sound-made_in, sound-Commit, sound-settled_none, sound-rolled_back, sound-system_done}
use Rattle.tt_model.proofs.EditLemmas.{AreNew, new-MayEdit}
use Rattle.tt_model.proofs.StatementLemmas.{unless-makes, makes_same}
use Rattle.std.specs.List.{list_any}
use Rattle.tt_value.specs.declared.value.Cell.{Cell}
use Rattle.tt_value.specs.declared.value.Cell.TheVariants.{Empty, Full as FullCell}
use Rattle.tt_value.specs.declared.value.Value.TheVariants.{Int, Text}
use Rattle.tt_model.specs.Live.{numbers_from}
use Rattle.tt_model.specs.Holders.{value_at}
use Rattle.tt_model.proofs.CatalogLemmas.{AreOfUsers, LeaveUserTables, not_held_user}

-- A refused line has no effect.
pub sound-unless : (o : Option Refusal) (reply : _) (after s : State) → IsSound s → IsSound after → IsSound ((unless_refused o (reply, after) s).1)
sound-unless None reply after s h k = k
sound-unless (Some r) reply after s h k = h

-- ---- statements

sound-made : (session : ℕ) (edits : List CellEdit) (s : State) → IsSound s → AreOfUsers edits → MayEdit (number_for (s.own session) s) edits s → IsSound ((made session edits s).1)
sound-made session [] s h o m = h
sound-made session (e ∷ es) s h o m =
    sound-unless (option_or (no_number_for (s.own session) s) (no_position (map edit_length (e ∷ es)) s)) _ _ s h (sound-made_in s session e es h o m)

pub sound-statement : (session : ℕ) (m : Meant) (s : State) → IsSound s →
    ((edits : List CellEdit) → m ≡ Makes edits → AreOfUsers edits × MayEdit (number_for (s.own session) s) edits s) → IsSound ((statement session m s).1)
sound-statement session (Refuses r) s h f = h
sound-statement session (Makes edits) s h f = sound-made session edits s h ((f edits refl).0) ((f edits refl).1)

-- A select leaves the state.
pub selected-has : (P : State → Type 0) (rows : Result (List Row) Refusal) (s : State) → P s → P ((selected rows s).1)
selected-has P (Ok rows) s p = p
selected-has P (Err r) s p = p

-- ---- transactions of their own that put new rows into free places

abbrev pub AreSome : List CellEdit → Type 0
AreSome [] = ⊥
AreSome (e ∷ es) = Unit {0}

sound-new : (edits : List CellEdit) (s : State) → IsSound s → AreSome edits → AreNew edits → LeaveUserTables edits → IsSound ((system (Makes edits) s).1)
sound-new [] s h some n u = absurd some
sound-new (e ∷ es) s h some n u =
    sound-unless (no_system_position (e ∷ es) s) _ _ s h (sound-system_done e es s h u (new-MayEdit (next s) (e ∷ es) s h.entries (inr refl) n))

pub sound-system_new : (m : Meant) (s : State) → IsSound s → ((edits : List CellEdit) → m ≡ Makes edits → AreSome edits × AreNew edits × LeaveUserTables edits) → IsSound ((system m s).1)
sound-system_new (Refuses r) s h f = h
sound-system_new (Makes edits) s h f = sound-new edits s h ((f edits refl).0) ((f edits refl).1) ((f edits refl).2)

new_or_refused : (o : Option Refusal) (es edits : List CellEdit) → AreSome es → AreNew es → LeaveUserTables es → unless o (Makes es) ≡ Makes edits → AreSome edits × AreNew edits × LeaveUserTables edits
new_or_refused o es edits some n u h =
    let same : es ≡ edits = makes_same es edits ((unless-makes o (Makes es) edits h).1) in
    (subst AreSome same some, subst AreNew same n, subst LeaveUserTables same u)

columns_new : (id : ℕ) (key : List (List ℕ)) (n : ℕ) (columns : List ColumnText) → AreNew (column_rows id key n columns)
columns_new id key n [] = tt
columns_new id key n (c ∷ cs) = (refl, refl, columns_new id key (suc n) cs)

columns_user : (id : ℕ) (key : List (List ℕ)) (n : ℕ) (columns : List ColumnText) → LeaveUserTables (column_rows id key n columns)
columns_user id key n [] = tt
columns_user id key n (c ∷ cs) = (not_held_user _ refl, columns_user id key (suc n) cs)

row_in_cell : Row → Cell → Row
row_in_cell other Empty = other
row_in_cell other (FullCell table row) = row

-- A row of TABLES with a number from 16 on.
first_user : (name : List ℕ) (id : ℕ) → 16 ≤ id → IsUserTable (FullCell 1 (record { values = Int (pos id) ∷ Text name ∷ [] }))
unfolding row_in_cell
first_user name id low found e = subst (λ (r : Row). 16 ≤ whole_number_of (value_at r 0)) (ap (row_in_cell found) e) low

least_found : (p : ℕ → Bool) (low from : ℕ) (rest : Option ℕ) → low ≤ from → low ≤ unwrap_or rest low → (c : Bool) → low ≤ unwrap_or (cond c (Some from) rest) low
least_found p low from rest l ih true = l
least_found p low from rest l ih false = ih

find-from : (p : ℕ → Bool) (low n from : ℕ) → low ≤ from → low ≤ unwrap_or (find p (numbers_from n from)) low
find-from p low zero from l = le_refl low
find-from p low (suc n) from l = least_found p low from (find p (numbers_from n (suc from))) l (find-from p low n (suc from) (omega (arith, l))) (p from)

-- An unused number is no less than the first one.
least_unused-from : (from : ℕ) (used : List ℕ) → from ≤ least_unused from used
least_unused-from from used = find-from (λ n. not (list_any (nat_eq n) used)) from (suc (length used)) from (le_refl from)

pub create_table-new : (session : ℕ) (s : State) (name : List ℕ) (columns : List ColumnText) (key : List (List ℕ)) (edits : List CellEdit) →
    meant_by_create_table session s name columns key ≡ Makes edits → AreSome edits × AreNew edits × LeaveUserTables edits
unfolding meant_by_create_table
create_table-new session s name columns key edits h = new_or_refused _ _ edits tt (refl, refl, columns_new _ key 1 columns) (first_user name _ (least_unused-from 16 (map (λ (t : Table). t.id) (catalog s).tables)), columns_user _ key 1 columns) h

create_index-new : (session : ℕ) (s : State) (name : List ℕ) (columns : List (List ℕ)) (unique : Bool) (o : Option Table) (edits : List CellEdit) →
    create_index session s name columns unique o ≡ Makes edits → AreSome edits × AreNew edits × LeaveUserTables edits
create_index-new session s name columns unique None edits h =
    let nothing : Refuses _ ≡ Makes edits = (unless-makes _ (Refuses _) edits h).1 in let no : ⊥ = cc in absurd no
create_index-new session s name columns unique (Some t) edits h = new_or_refused _ _ edits tt (refl, refl, tt) (not_held_user _ refl, tt) h

pub create_bookmark-new : (session : ℕ) (s : State) (name : List ℕ) (edits : List CellEdit) → meant_by_create_bookmark session s name ≡ Makes edits → AreSome edits × AreNew edits × LeaveUserTables edits
unfolding meant_by_create_bookmark
create_bookmark-new session s name edits h = new_or_refused _ _ edits tt (refl, refl, tt) (not_held_user _ refl, tt) h

subscribe-new : (session : ℕ) (s : State) (name : List ℕ) (o : Option Table) (edits : List CellEdit) → subscribe session s name o ≡ Makes edits → AreSome edits × AreNew edits × LeaveUserTables edits
subscribe-new session s name None edits h =
    let nothing : Refuses _ ≡ Makes edits = (unless-makes _ (Refuses _) edits h).1 in let no : ⊥ = cc in absurd no
subscribe-new session s name (Some t) edits h = new_or_refused _ _ edits tt (refl, refl, tt) (not_held_user _ refl, tt) h

pub create_index_new : (session : ℕ) (s : State) (name table : List ℕ) (columns : List (List ℕ)) (unique : Bool) (edits : List CellEdit) →
    meant_by_create_index session s name table columns unique ≡ Makes edits → AreSome edits × AreNew edits × LeaveUserTables edits
unfolding meant_by_create_index
create_index_new session s name table columns unique edits h = create_index-new session s name columns unique (table_named table (catalog s)) edits h

pub subscribe_new : (session : ℕ) (s : State) (table name : List ℕ) (edits : List CellEdit) → meant_by_subscribe session s table name ≡ Makes edits → AreSome edits × AreNew edits × LeaveUserTables edits
unfolding meant_by_subscribe
subscribe_new session s table name edits h = subscribe-new session s name (table_named table (catalog s)) edits h

-- ---- commit and rollback

pub sound-commit_of : (session : ℕ) (o : Option ℕ) (s : State) → IsSound s → s.own session ≡ o → IsSound ((commit_of session o s).1)
sound-commit_of session None s h is = sound-settled_none s session (is_durable session s) h
sound-commit_of session (Some t) s h is =
    sound-unless (no_position (end_length ∷ []) s) _ _ s h (sound-Commit s session t (is_durable session s) h is)

pub sound-rollback_of : (session : ℕ) (o : Option ℕ) (s : State) → IsSound s → s.own session ≡ o → IsSound ((rollback_of session o s).1)
sound-rollback_of session None s h is = sound-settled_none s session false h
sound-rollback_of session (Some t) s h is = sound-unless (no_position (rollback_lengths t s) s) _ _ s h (sound-rolled_back s session t h is)

-- ---- readers

sound-opened : (session : ℕ) (name : List ℕ) (o : Option PlacedRow) (s : State) → IsSound s → IsSound ((open_at session name o s).1)
sound-opened session name None s h = h
sound-opened session name (Some r) s h =
    sound-unless (option_map BookmarkBusy (reader_on name s)) _ _ s h (record { entries = h.entries; owned = h.owned; catalog = h.catalog })

pub sound_opened_if : (session : ℕ) (name : List ℕ) (s : State) (c : Bool) → IsSound s → IsSound ((if c then refused (BookmarkBusy session) s else open_at session name (bookmark name s) s).1)
sound_opened_if session name s true h = h
sound_opened_if session name s false h = sound-opened session name (bookmark name s) s h

pub sound-given : (session : ℕ) (o : Option Reader) (n : ℕ) (s : State) → IsSound s → IsSound ((given session o n s).1)
sound-given session None n s h = h
sound-given session (Some r) n s h =
    sound-unless (no_skip (next_read_of r n s)) _ ((given_to session r n s).1) s h (record { entries = h.entries; owned = h.owned; catalog = h.catalog })

pub sound-closed : (session : ℕ) (o : Option Reader) (s : State) → IsSound s → IsSound ((closed session o s).1)
sound-closed session None s h = h
sound-closed session (Some r) s h = record { entries = h.entries; owned = h.owned; catalog = h.catalog }

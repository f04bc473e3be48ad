-- Rows of bookmarks can keep the places of all readers: so it is over each round, and at the end of a run.
use Rattle.std.proofs.Common.{◌≡◌, ◌≤◌, ◌-◌, ◌&&◌, ℕ, zero, suc, pos, negsuc, Bool, true, false, cond, not, nat_le, nat_lt, nat_eq, List, [], ◌∷◌, ◌++◌, map, filter, length, take, drop, Option, Some, None, Result, Ok, Err, refl, sym, ap, ◌∙◌, subst, inl, inr, true≢false, unwrap_or}
use Rattle.std.proofs.lemmas.Bool.{leb-true, ltb-false, and_parts}
use Rattle.std.specs.Prelude.{is_some, option_map}
use Rattle.tt_value.specs.declared.position.Position.{Position}
use Rattle.tt_value.specs.declared.refusal.Refusal.{Refusal}
use Rattle.tt_value.specs.declared.refusal.Refusal.TheVariants.{BookmarkBusy, NoMemory}
use Rattle.tt_value.specs.declared.reply.Reply.{Reply}
use Rattle.tt_value.specs.declared.reply.Reply.TheVariants.{Done as DoneReply}
use Rattle.tt_parse.specs.declared.command.Command.{Command}
use Rattle.tt_parse.specs.declared.command.Command.TheVariants.{XlaClose, XlaNext, XlaOpen}
use Rattle.tt_record.specs.declared.entry.Entry.{Entry}
use Rattle.tt_record.specs.declared.entry.Entry.TheVariants.{Abort, Change, Commit, Mark, Switch}
use Rattle.tt_model.specs.Trail.{Placed, Trail, before, oldest, placed_end, position_eq, position_le, position_lt, trail_end}
use Rattle.tt_model.specs.Tables.{Catalog, PlacedRow, Subscribed, whole_number_of}
use Rattle.tt_model.specs.Due.{Done, DueChange, after_skip, counted, due, due_of, is_subscribed, last_of, marked, next_hold, open_after, open_changes, opened_by, read_at, read_after, read_to, still_open}
use Rattle.tt_model.specs.System.{bookmark, reader_on}
use Rattle.tt_model.specs.State.{ReadPlace, Reader, State, at_one, force_position, live_in, new_among, reversals, trail, with_edit, with_edits, with_entry, all_forced}
use Rattle.tt_model.specs.declared.definition.CellEdit.{CellEdit}
use Rattle.tt_model.specs.Checkpoint.{with_copies}
use Rattle.tt_value.specs.declared.value.Value.{Value}
use Rattle.tt_value.specs.declared.value.Value.TheVariants.{Int, Null, Number, Text}
use Rattle.tt_value.specs.declared.value.Row.{Row}
use Rattle.tt_model.specs.Holders.{value_at}
use Rattle.tt_model.specs.Meaning.{refused_if}
use Rattle.tt_model.specs.Damage.{Bookmarks, are_taken, column_tests, is_log_file, is_log_offset, is_name_text, is_number_from}
use Rattle.tt_model.proofs.GoodDeletes.{HasGood}
use Rattle.tt_model.proofs.GoodTaken.{good-taken}
use Rattle.tt_model.proofs.SystemLines.{bookmark-lies}
use Rattle.tt_model.specs.Step.{Answers, Step, all_due, closed, given, given_to, kept_read, line, next_read_of, no_skip, open_at, reader_opened, refused, unless_refused, with_reader}
use Rattle.tt_model.specs.Run.{ended, ended_one, has_position, roll_all}
use Rattle.tt_model.specs.WholeRuns.{Each}
use Rattle.tt_model.specs.Entries.{HasKeptReaders, HasLogInRange, IsKept}
use Rattle.tt_model.proofs.GrowLemmas.{readers-command, readers-completion_after, readers-memory, readers-with_copies}
use Rattle.tt_model.proofs.LineRelation.{is_readers}
use Rattle.tt_model.proofs.PlainSystem.{AreKept, before_kept, chosen, least_kept}

-- ---- lists

each_append : {X : Type 0} (P : X → Type 0) (xs ys : List X) → Each P xs → Each P ys → Each P (xs ++ ys)
each_append P [] ys h k = k
each_append P (x ∷ xs) ys h k = (h.0, each_append P xs ys (h.1) k)

each_chosen : {X : Type 0} (P : X → Type 0) (c : Bool) (x : X) (xs : List X) → P x → Each P xs → Each P (cond c (x ∷ xs) xs)
each_chosen P true x xs h k = (h, k)
each_chosen P false x xs h k = k

each_filter : {X : Type 0} (P : X → Type 0) (f : X → Bool) (xs : List X) → Each P xs → Each P (filter f xs)
each_filter P f [] h = tt
each_filter P f (x ∷ xs) h = each_chosen P (f x) x (filter f xs) (h.0) (each_filter P f xs (h.1))

each_take : {X : Type 0} (P : X → Type 0) (n : ℕ) (xs : List X) → Each P xs → Each P (take n xs)
each_take P zero xs h = tt
each_take P (suc n) [] h = tt
each_take P (suc n) (x ∷ xs) h = (h.0, each_take P n xs (h.1))

-- ---- positions

-- Each entry and its end are in their ranges.
abbrev IsWithin : Placed → Type 0
IsWithin e = IsKept e.at × IsKept (placed_end e)

within : (s : State) (es newer : Trail) → HasLogInRange s → trail s ≡ newer ++ es → Each IsWithin es
within s [] newer h e = tt
within s (x ∷ older) newer h e = (
  ((h.entries newer older x e).0, (h.entries newer older x e).1),
  within s older (newer ++ x ∷ []) h (e ∙ sym (assoc newer (x ∷ []) older)),
)
  where
    assoc : (xs ys zs : Trail) → (xs ++ ys) ++ zs ≡ xs ++ (ys ++ zs)
    assoc [] ys zs = refl
    assoc (w ∷ xs) ys zs = ap (λ (r : Trail). w ∷ r) (assoc xs ys zs)

ats_within : (es : Trail) → Each IsWithin es → AreKept es
ats_within [] h = tt
ats_within (e ∷ es) h = ((h.0).0, ats_within es (h.1))

within_drop : (n : ℕ) (es : Trail) → Each IsWithin es → Each IsWithin (drop n es)
within_drop zero es h = h
within_drop (suc n) [] h = tt
within_drop (suc n) (e ∷ es) h = within_drop n es (h.1)

within_front : (es older : Trail) → Each IsWithin (es ++ older) → Each IsWithin es
within_front [] older h = tt
within_front (e ∷ es) older h = (h.0, within_front es older (h.1))

end_kept : (reader_opened : Position) (es : Trail) → IsKept reader_opened → Each IsWithin es → IsKept (trail_end reader_opened es)
end_kept reader_opened [] k h = k
end_kept reader_opened (e ∷ es) k h = (h.0).1

force_kept : (s : State) → HasLogInRange s → IsKept (force_position s)
force_kept s h =
    end_kept s.found.end (new_among s.forced s) h.found
    (within_drop (length s.entries - (s.forced - length s.found.entries)) s.entries (within_front s.entries s.found.entries (within s (trail s) [] h refl)))

-- ---- the hold of a read place

abbrev AreOpenKept : List (ℕ × Position) → Type 0
AreOpenKept cs = Each (λ (c : ℕ × Position). IsKept (c.1)) cs

still_kept : (x : Entry) (cs : List (ℕ × Position)) → AreOpenKept cs → AreOpenKept (still_open x cs)
still_kept (Commit t) cs h = each_filter (λ (c : ℕ × Position). IsKept (c.1)) (λ (c : ℕ × Position). not (nat_eq (c.0) t)) cs h
still_kept (Abort t) cs h = each_filter (λ (c : ℕ × Position). IsKept (c.1)) (λ (c : ℕ × Position). not (nat_eq (c.0) t)) cs h
still_kept Mark cs h = tt
still_kept (Change t p b a) cs h = h
still_kept (Switch file) cs h = h

opened_kept : (hold : Position) (e : Placed) (x : Entry) → IsKept e.at → AreOpenKept (opened_by hold e x)
opened_kept hold e (Change t p b a) k = by (position_le hold e.at)
  where
    by : (c : Bool) → AreOpenKept (cond c ((t, e.at) ∷ []) [])
    by true = (k, tt)
    by false = tt
opened_kept hold e (Commit t) k = tt
opened_kept hold e (Abort t) k = tt
opened_kept hold e Mark k = tt
opened_kept hold e (Switch file) k = tt

open_kept : (hold : Position) (es : Trail) → AreKept es → AreOpenKept (open_after hold es)
unfolding open_after
open_kept hold [] h = tt
open_kept hold (e ∷ older) h =
    each_append (λ (c : ℕ × Position). IsKept (c.1)) (opened_by hold e e.entry) (still_open e.entry (open_after hold older)) (opened_kept hold e e.entry (h.0))
    (still_kept e.entry (open_after hold older) (open_kept hold older (h.1)))

seconds_kept : (cs : List (ℕ × Position)) → AreOpenKept cs → Each IsKept (map (λ (c : ℕ × Position). c.1) cs)
seconds_kept [] h = tt
seconds_kept (c ∷ cs) h = (h.0, seconds_kept cs (h.1))

hold_kept : (hold at : Position) (es : Trail) → IsKept hold → IsKept at → AreKept es → IsKept (next_hold hold at es)
hold_kept hold at es h k a =
    let opens : List (ℕ × Position) = open_after hold (before at es) in
    let least : IsKept _ = least_kept at (map (λ (c : ℕ × Position). c.1) opens) k (seconds_kept opens (open_kept hold (before at es) (before_kept at es a))) in
    chosen (position_lt hold _) _ hold least h

-- ---- read places

abbrev IsPlaceKept : ReadPlace → Type 0
IsPlaceKept place = IsKept place.at × IsKept place.hold

place_kept : (place : ReadPlace) (at : Position) (skip : ℕ) (es : Trail) → IsPlaceKept place → IsKept at → AreKept es → IsPlaceKept (read_at place at skip es)
place_kept place at skip es p k a = by (position_eq at place.at)
  where
    by : (c : Bool) → IsPlaceKept (cond c (record { at = at; skip = skip; hold = place.hold }) (record { at = at; skip = skip; hold = next_hold place.hold at es }))
    by true = (k, p.1)
    by false = (k, hold_kept place.hold at es (p.1) k a)

abbrev IsDueKept : DueChange → Type 0
IsDueKept d = IsKept d.commit × IsKept d.end

marked_kept : (catalog : Catalog) (t : ℕ) (e : Placed) (first : Bool) (ds : List (ℕ × Done)) → IsWithin e → Each IsDueKept (marked catalog t e first ds)
marked_kept catalog t e first [] h = tt
marked_kept catalog t e first (d ∷ ds) h = (h, marked_kept catalog t e false ds h)

due_of_kept : (place : ReadPlace) (subscriptions : List Subscribed) (catalog : Catalog) (e : Placed) (x : Entry) (older : Trail) → IsWithin e → Each IsDueKept (due_of place subscriptions catalog e x older)
due_of_kept place subscriptions catalog e (Commit t) older h = by (position_le place.at e.at)
  where
    kept : List DueChange
    kept = filter (after_skip place) (marked catalog t e true (filter (is_subscribed subscriptions e.at) (counted 0 (open_changes place.hold t older))))

    by : (c : Bool) → Each IsDueKept (cond c kept [])
    by true =
        each_filter IsDueKept (after_skip place) (marked catalog t e true (filter (is_subscribed subscriptions e.at) (counted 0 (open_changes place.hold t older))))
        (marked_kept catalog t e true (filter (is_subscribed subscriptions e.at) (counted 0 (open_changes place.hold t older))) h)
    by false = tt
due_of_kept place subscriptions catalog e (Change t p b a) older h = tt
due_of_kept place subscriptions catalog e (Abort t) older h = tt
due_of_kept place subscriptions catalog e Mark older h = tt
due_of_kept place subscriptions catalog e (Switch file) older h = tt

due_kept : (place : ReadPlace) (subscriptions : List Subscribed) (catalog : Catalog) (es : Trail) → Each IsWithin es → Each IsDueKept (due place subscriptions catalog es)
unfolding due
due_kept place subscriptions catalog [] h = tt
due_kept place subscriptions catalog (e ∷ older) h =
    each_append IsDueKept (due place subscriptions catalog older) (due_of place subscriptions catalog e e.entry older) (due_kept place subscriptions catalog older (h.1)) (due_of_kept place subscriptions catalog e e.entry older (h.0))

last_kept : (d : DueChange) (ds : List DueChange) → IsDueKept d → Each IsDueKept ds → IsDueKept (last_of d ds)
last_kept d [] k h = k
last_kept d (e ∷ es) k h = last_kept e es (h.0) (h.1)

behind_kept : (place : ReadPlace) (es : Trail) (d : DueChange) → IsPlaceKept place → AreKept es → IsDueKept d → IsPlaceKept (read_after place es d)
behind_kept place es d p a k = by d.given.last
  where
    by : (c : Bool) → IsPlaceKept (cond c (read_at place d.end 0 es) (read_at place d.commit d.count es))
    by true = place_kept place d.end 0 es p (k.1) a
    by false = place_kept place d.commit d.count es p (k.0) a

read_kept : (place : ReadPlace) (n : ℕ) (force : Position) (es : Trail) (ds : List DueChange) → IsPlaceKept place → IsKept force → AreKept es → Each IsDueKept ds → IsPlaceKept (read_to place n force es ds)
read_kept place n force es ds p f a k = by (nat_lt (length ds) n)
  where
    onward : (c : Bool) → IsPlaceKept (cond c (read_at place force 0 es) place)
    onward true = place_kept place force 0 es p f a
    onward false = p

    behind : (ds : List DueChange) → Each IsDueKept ds → IsPlaceKept (elim ds as (λ x. ReadPlace) [ [] ↦ place | d ∷ rest ↦ read_after place es (last_of d rest) ])
    behind [] k = p
    behind (d ∷ rest) k = behind_kept place es (last_of d rest) p a (last_kept d rest (k.0) (k.1))

    by : (c : Bool) → IsPlaceKept (cond c (cond (position_lt place.at force) (read_at place force 0 es) place) (elim ds as (λ x. ReadPlace) [ [] ↦ place | d ∷ rest ↦ read_after place es (last_of d rest) ]))
    by true = onward (position_lt place.at force)
    by false = behind ds k

next_kept : (s : State) (r : Reader) (n : ℕ) → HasLogInRange s → IsPlaceKept r.place → IsPlaceKept (next_read_of r n s)
next_kept s r n h p =
    let all : Each IsWithin (trail s) = within s (trail s) [] h refl in
    read_kept r.place n (force_position s) (trail s) (take n (all_due r s)) p (force_kept s h) (ats_within (trail s) all)
    (each_take IsDueKept n (all_due r s) (due_kept r.place _ _ (oldest s.forced (trail s)) (within_drop (length (trail s) - s.forced) (trail s) all)))

-- ---- the place that a bookmark's row keeps

number_most : (least most : ℕ) (v : Value) → is_number_from least most v ≡ true → whole_number_of v ≤ most
number_most least most (Int (pos n)) h = leb-true n most ((and_parts (nat_le least n) (nat_le n most) h).1)
number_most least most (Int (negsuc n)) h = absurd (true≢false (sym h))
number_most least most Null h = absurd (true≢false (sym h))
number_most least most (Number s n) h = absurd (true≢false (sym h))
number_most least most (Text bytes) h = absurd (true≢false (sym h))

never : (c : Bool) → (c && false) ≡ true → ⊥
never true h = cc
never false h = cc

record IsRowKept (row : Row) : Type 0 where
  pub file : whole_number_of (value_at row 1) ≤ 999999
  pub offset : whole_number_of (value_at row 2) ≤ 67108864
  pub skip : whole_number_of (value_at row 3) ≤ 4294967295
  pub hold_file : whole_number_of (value_at row 4) ≤ 999999
  pub hold_offset : whole_number_of (value_at row 5) ≤ 67108864

row_kept : (row : Row) → are_taken (column_tests Bookmarks) row.values ≡ true → IsRowKept row
row_kept row h = by row.values refl h
  where
    by : (vs : List Value) → row.values ≡ vs → are_taken (column_tests Bookmarks) vs ≡ true → IsRowKept row
    by (a ∷ b ∷ c ∷ d ∷ e ∷ f ∷ []) is h =
        let from_b = (and_parts (is_name_text a) _ h).1 in
        let from_c = (and_parts (is_log_file b) _ from_b).1 in
        let from_d = (and_parts (is_log_offset c) _ from_c).1 in
        let from_e = (and_parts (is_number_from 0 4294967295 d) _ from_d).1 in
        let from_f = (and_parts (is_log_file e) _ from_e).1 in
        subst (λ (vs : List Value). IsRowKept (record { values = vs })) (sym is) (record {
          file = number_most 0 999999 b ((and_parts (is_log_file b) _ from_b).0);
          offset = number_most 0 67108864 c ((and_parts (is_log_offset c) _ from_c).0);
          skip = number_most 0 4294967295 d ((and_parts (is_number_from 0 4294967295 d) _ from_d).0);
          hold_file = number_most 0 999999 e ((and_parts (is_log_file e) _ from_e).0);
          hold_offset = number_most 0 67108864 f ((and_parts (is_log_offset f) _ from_f).0);
        })
    by [] is h = absurd (true≢false (sym h))
    by (a ∷ []) is h = absurd (never (is_name_text a) h)
    by (a ∷ b ∷ []) is h = absurd (never (is_log_file b) ((and_parts (is_name_text a) _ h).1))
    by (a ∷ b ∷ c ∷ []) is h = absurd (never (is_log_offset c) ((and_parts (is_log_file b) _ ((and_parts (is_name_text a) _ h).1)).1))
    by (a ∷ b ∷ c ∷ d ∷ []) is h = absurd (never (is_number_from 0 4294967295 d) ((and_parts (is_log_offset c) _ ((and_parts (is_log_file b) _ ((and_parts (is_name_text a) _ h).1)).1)).1))
    by (a ∷ b ∷ c ∷ d ∷ e ∷ []) is h =
        absurd (never (is_log_file e) ((and_parts (is_number_from 0 4294967295 d) _ ((and_parts (is_log_offset c) _ ((and_parts (is_log_file b) _ ((and_parts (is_name_text a) _ h).1)).1)).1)).1))
    by (a ∷ b ∷ c ∷ d ∷ e ∷ f ∷ g ∷ more) is h =
        absurd (never (is_log_offset f) ((and_parts (is_log_file e) _ ((and_parts (is_number_from 0 4294967295 d) _ ((and_parts (is_log_offset c) _ ((and_parts (is_log_file b) _ ((and_parts (is_name_text a) _ h).1)).1)).1)).1)).1))

-- ---- lines

abbrev IsReaderKept : Reader → Type 0
IsReaderKept r = IsKept r.place.at × IsKept r.place.hold × (r.place.skip ≤ 4294967295)

abbrev AreReadersKept : (ℕ → Option Reader) → Type 0
AreReadersKept readers = (session : ℕ) (r : Reader) → readers session ≡ Some r → IsReaderKept r

one_kept : (who : ℕ) (o : Option Reader) (readers : ℕ → Option Reader) → ((r : Reader) → o ≡ Some r → IsReaderKept r) → AreReadersKept readers → AreReadersKept (at_one who o readers)
one_kept who o readers new h session r is = by (nat_eq session who) is
  where
    by : (c : Bool) → cond c o (readers session) ≡ Some r → IsReaderKept r
    by true is = new r is
    by false is = h session r is

unless_kept : (o : Option Refusal) (reply : Reply) (after s : State) → AreReadersKept s.reader → (o ≡ None → AreReadersKept after.reader) → AreReadersKept (((unless_refused o (reply, after) s).1).reader)
unless_kept None reply after s h k = k refl
unless_kept (Some r) reply after s h k = h

some_is : (r x : Reader) → Some x ≡ Some r → x ≡ r
some_is r x is = ap (λ o. unwrap_or o x) is

open_at_kept : (session : ℕ) (name : List ℕ) (s : State) (o : Option PlacedRow) → HasGood s → bookmark name s ≡ o → AreReadersKept s.reader → AreReadersKept (((open_at session name o s).1).reader)
open_at_kept session name s None g is h = h
open_at_kept session name s (Some found) g is h =
    let x : Reader = record { bookmark = name; place = kept_read found } in
    let row : IsRowKept (found.1) = row_kept (found.1) (good-taken s Bookmarks (found.0) (found.1) g (bookmark-lies name s found is)) in
    let kept : IsReaderKept x = (record { file = row.file; offset = row.offset }, record { file = row.hold_file; offset = row.hold_offset }, row.skip) in
    unless_kept (option_map BookmarkBusy (reader_on name s)) DoneReply (with_reader session (Some x) s) s h
    (λ none. one_kept session (Some x) s.reader (λ r same. subst IsReaderKept (some_is r x same) kept) h)

opened_if_kept : (session : ℕ) (name : List ℕ) (s : State) (c : Bool) → HasGood s → AreReadersKept s.reader →
    AreReadersKept (((cond c (refused (BookmarkBusy session) s) (open_at session name (bookmark name s) s)).1).reader)
opened_if_kept session name s true g h = h
opened_if_kept session name s false g h = open_at_kept session name s (bookmark name s) g refl h

skip_most : (place : ReadPlace) → no_skip place ≡ None → place.skip ≤ 4294967295
skip_most place none = by (nat_lt 4294967295 place.skip) refl none
  where
    by : (c : Bool) → nat_lt 4294967295 place.skip ≡ c → refused_if c NoMemory ≡ None → place.skip ≤ 4294967295
    by true is none = cc
    by false is none = ltb-false 4294967295 place.skip is

given_kept : (session : ℕ) (o : Option Reader) (n : ℕ) (s : State) → s.reader session ≡ o → HasLogInRange s → AreReadersKept s.reader → AreReadersKept (((given session o n s).1).reader)
given_kept session None n s is log h = h
given_kept session (Some r) n s is log h =
    let place : ReadPlace = next_read_of r n s in
    let moved : Reader = record r { place = place } in
    let kept : IsPlaceKept place = next_kept s r n log ((h session r is).0, (h session r is).1) in
    unless_kept (no_skip place) ((given_to session r n s).0) ((given_to session r n s).1) s h
    (λ none. one_kept session (Some moved) s.reader (λ x same. subst IsReaderKept (some_is x moved same) (kept.0, kept.1, skip_most place none)) h)

closed_kept : (session : ℕ) (o : Option Reader) (s : State) → AreReadersKept s.reader → AreReadersKept (((closed session o s).1).reader)
closed_kept session None s h = h
closed_kept session (Some r) s h = one_kept session None s.reader (λ x same. let no : ⊥ = cc in absurd no) h

plain_kept : (session : ℕ) (command : Command) (s : State) → is_readers command ≡ false → AreReadersKept s.reader → AreReadersKept (((line session command s).1).reader)
plain_kept session command s plain h = subst AreReadersKept (sym (readers-command session command s plain)) h

line_kept : (session : ℕ) (command : Command) (s : State) → HasLogInRange s → HasGood s → AreReadersKept s.reader → AreReadersKept (((line session command s).1).reader)
unfolding line
line_kept session (XlaOpen name) s log g h = opened_if_kept session name s (is_some (s.reader session)) g h
line_kept session (XlaNext n) s log g h = given_kept session (s.reader session) n s refl log h
line_kept session XlaClose s log g h = closed_kept session (s.reader session) s h
line_kept session command s log g h = plain_kept session command s refl h

answers_kept : (session : ℕ) (what : Result Command Refusal) (s : State) (reply : Reply) (after : State) → HasLogInRange s → HasGood s → AreReadersKept s.reader →
    Answers session what s reply after → AreReadersKept after.reader
answers_kept session (Ok command) s reply after log g h (inl t) = subst (λ (x : State). AreReadersKept x.reader) (sym (t.1)) (line_kept session command s log g h)
answers_kept session (Err r) s reply after log g h (inl t) = subst (λ (x : State). AreReadersKept x.reader) (sym (t.1)) h
answers_kept session what s reply after log g h (inr w) = subst AreReadersKept (sym (readers-memory session what s reply after w)) h

pub readers_kept-step : (s : State) (session : ℕ) (what : Result Command Refusal) (reply : Reply) (after : State) → HasLogInRange (with_copies s) → HasGood (with_copies s) → HasKeptReaders s →
    Step s session what reply after → HasKeptReaders after
readers_kept-step s session what reply after log g h st =
    let copies : AreReadersKept (with_copies s).reader = subst AreReadersKept (sym (readers-with_copies s)) h in
    let between : AreReadersKept (st.between).reader = answers_kept session what (with_copies s) reply st.between log g copies st.line in
    subst (λ (x : State). AreReadersKept x.reader) (sym st.is) (subst AreReadersKept (sym (readers-completion_after s.underway st.between)) between)

-- ---- the end of a run

readers_edits : (t : ℕ) (edits : List CellEdit) (s : State) → (with_edits t edits s).reader ≡ s.reader
unfolding with_entry
readers_edits t [] s = refl
readers_edits t (e ∷ es) s = readers_edits t es (with_edit t e s)

readers_one : (t : ℕ) (s : State) → (ended_one t s).reader ≡ s.reader
unfolding with_entry
readers_one t s = readers_edits t (reversals t s.entries) s

readers_by : (s : State) (next : Bool × State) (c : Bool) → (next.1).reader ≡ s.reader → ((elim c as (λ x. Bool × State) [ true ↦ next | false ↦ (false, s) ]).1).reader ≡ s.reader
readers_by s next true h = h
readers_by s next false h = refl

readers_all : (ts : List ℕ) (s : State) → ((roll_all ts s).1).reader ≡ s.reader
unfolding all_forced
readers_all [] s = refl
readers_all (t ∷ ts) s = readers_by s (roll_all ts (ended_one t s)) (has_position t s) (readers_all ts (ended_one t s) ∙ readers_one t s)

pub readers_kept-ended : (s : State) → HasKeptReaders s → HasKeptReaders ((ended s).1)
unfolding ended
readers_kept-ended s h = subst AreReadersKept (sym (readers_all (live_in s) (record s { underway = None }))) h

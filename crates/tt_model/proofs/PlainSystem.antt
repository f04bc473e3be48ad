-- Lines that write rows of bookmarks, subscriptions and backup sets make plain entries.
use Rattle.std.proofs.Common.{◌≡◌, ◌≤◌, ◌<◌, ◌*◌, ℕ, Bool, true, false, cond, nat_le, List, [], ◌∷◌, length, Option, Some, None, refl, sym, ap, subst, arith, lit<, true≢false}
use Rattle.std.specs.Prelude.{is_some, is_none}
use Rattle.std.specs.List.{filter_map, cons_option}
use Rattle.tt_value.specs.Stored.{IsCell, IsStorable, IsStorableValue}
use Rattle.tt_value.specs.declared.position.Position.{Position}
use Rattle.tt_value.specs.declared.refusal.Refusal.TheVariants.{NoSet, NotIncremental, SetThere, TooMany}
use Rattle.tt_record.specs.Entry.{IsTransaction}
use Rattle.tt_model.specs.Trail.{Placed, Trail, before, position_lt}
use Rattle.tt_model.specs.Committed.{is_full}
use Rattle.tt_model.specs.Live.{live}
use Rattle.tt_model.specs.Holds.{first_entries, first_entry, is_change_of, least_of, low, older_or}
use Rattle.tt_model.specs.Tables.{PlacedRow}
use Rattle.tt_model.specs.Sets.{SetStanding, Readable, Unreadable}
use Rattle.tt_model.specs.Meaning.{first_of, no_room, refused_if}
use Rattle.tt_model.specs.System.{deletes, in_transaction, number, row, system_rows}
use Rattle.tt_model.specs.Backups.{backup_refusal, first_row_refusal, is_not_incremental, row_of_set, set_edit, SetWork, MakesSet, ContinuesSet, EndsSet}
use Rattle.tt_model.specs.State.{State, all_forced, free_place, low_now, trail, write_position}
use Rattle.tt_model.specs.Sound.{IsSound}
use Rattle.tt_model.specs.WholeRuns.{Each}
use Rattle.tt_model.specs.Entries.{IsKept, IsPlain}
use Rattle.tt_model.specs.Works.{changes}
use Rattle.tt_model.proofs.FreePlaces.{free-below, not_refused}
use Rattle.tt_model.proofs.LogRanges.{IsRanged, IsInRange}
use Rattle.tt_model.proofs.PlainRows.{added-plain, rewritten-plain, storable-pos, system-row}
use Rattle.tt_model.proofs.StatementLemmas.{AllNone, each_none}
use Rattle.tt_model.proofs.StorableCells.{IsStored, changes-plain, committed-low, committed-stored}
use Rattle.tt_model.proofs.SystemLines.{set-lies}
use Rattle.tt_model.proofs.WorkEntries.{writes_row}

-- ---- positions

abbrev KeptOption : Option Position → Type 0
KeptOption None = Unit {0}
KeptOption (Some p) = IsKept p

abbrev pub AreKept : Trail → Type 0
AreKept es = Each (λ (e : Placed). IsKept e.at) es

pub chosen : (c : Bool) (p q : Position) → IsKept p → IsKept q → IsKept (cond c p q)
chosen true p q a b = a
chosen false p q a b = b

pub least_kept : (p : Position) (ps : List Position) → IsKept p → Each IsKept ps → IsKept (least_of p ps)
least_kept p [] h ks = h
least_kept p (q ∷ qs) h ks = chosen (position_lt q (least_of p qs)) q (least_of p qs) (ks.0) (least_kept p qs h (ks.1))

older_kept : (o : Option Position) (c : Bool) (at : Position) → KeptOption o → IsKept at → KeptOption (older_or o c at)
older_kept (Some p) c at a b = a
older_kept None true at a b = b
older_kept None false at a b = tt

first_kept : (t : ℕ) (es : Trail) → AreKept es → KeptOption (first_entry t es)
unfolding first_entry
first_kept t [] h = tt
first_kept t (e ∷ es) h = older_kept (first_entry t es) (is_change_of t e.entry) e.at (first_kept t es (h.1)) (h.0)

cons_kept : (o : Option Position) (ps : List Position) → KeptOption o → Each IsKept ps → Each IsKept (cons_option o ps)
cons_kept None ps a b = b
cons_kept (Some p) ps a b = (a, b)

firsts_kept : (f : ℕ → Option Position) (us : List ℕ) → ((u : ℕ) → KeptOption (f u)) → Each IsKept (filter_map f us)
firsts_kept f [] h = tt
firsts_kept f (u ∷ us) h = cons_kept (f u) (filter_map f us) (h u) (firsts_kept f us h)

before_one : (c : Bool) (xs ys : Trail) → AreKept xs → AreKept ys → AreKept (cond c xs ys)
before_one true xs ys a b = a
before_one false xs ys a b = b

pub before_kept : (p : Position) (es : Trail) → AreKept es → AreKept (before p es)
unfolding before
before_kept p [] h = tt
before_kept p (e ∷ es) h = before_one (position_lt e.at p) (e ∷ es) (before p es) h (before_kept p es (h.1))

pub ats_kept : (es : Trail) → Each IsInRange es → AreKept es
ats_kept [] h = tt
ats_kept (e ∷ es) h = ((h.0).0, ats_kept es (h.1))

pub low_kept : (s : State) → IsRanged s → IsKept (low_now s)
unfolding low
low_kept s h =
    let early : AreKept (before (write_position s) (trail s)) = before_kept (write_position s) (trail s) (ats_kept (trail s) h.each) in
    least_kept (write_position s) (first_entries (before (write_position s) (trail s))) h.end
    (firsts_kept (λ t. first_entry t (before (write_position s) (trail s))) (live (before (write_position s) (trail s))) (λ t. first_kept t (before (write_position s) (trail s)) early))

pub file_storable : (p : Position) → IsKept p → IsStorableValue (number p.file)
file_storable p h = let most : p.file ≤ 999999 = h.file in storable-pos p.file (omega (arith, most))

pub offset_storable : (p : Position) → IsKept p → IsStorableValue (number p.offset)
offset_storable p h = let most : p.offset ≤ 67108864 = h.offset in storable-pos p.offset (omega (arith, most))

pub free_low : (s : State) → IsStored s → no_room 1 s ≡ None → free_place s < 2097152
free_low s h room =
    let low : free_place s < 32 * s.settings.perm_pages = free-below s room in
    let perm : s.settings.perm_pages ≤ 65536 = h.perm_pages in
    omega (arith, low, perm)

-- ---- backup sets

set_row-storable : (set : ℕ) (end : Position) → set ≤ 999 → IsKept end → IsStorable (row (number set ∷ number end.file ∷ number end.offset ∷ []))
set_row-storable set end low h =
    system-row (number set ∷ number end.file ∷ number end.offset ∷ []) (lit< tt) (lit< tt) (storable-pos set (omega (arith, low)), (file_storable end h, (offset_storable end h, tt))) (lit< tt)

free_forced : (s : State) → free_place (all_forced s) ≡ free_place s
unfolding all_forced
free_forced s = refl

set_plain : (set n : ℕ) (s : State) (o : Option PlacedRow) → row_of_set set s ≡ o → (o ≡ None → no_room 1 s ≡ None) → set ≤ 999 → IsSound s → IsStored s → IsRanged s → IsTransaction n →
    Each IsPlain (changes n (set_edit o set (write_position s) ∷ []) (all_forced s))
set_plain set n s None is room low sound h ranged number =
    added-plain 6 n _ (all_forced s) (lit< tt) (lit< tt) number (set_row-storable set (write_position s) low ranged.end) (subst (λ k. k < 2097152) (sym (free_forced s)) (free_low s h (room refl)))
set_plain set n s (Some r) is room low sound h ranged number =
    rewritten-plain 6 n r _ s (all_forced s) (lit< tt) sound h number (set-lies set s r is) (set_row-storable set (write_position s) low ranged.end)

first_row_room : (set : ℕ) (s : State) (o : Option PlacedRow) → cond (is_some o) None (first_of (refused_if (nat_le 64 (length (system_rows 6 s))) (TooMany 64) ∷ no_room 1 s ∷ [])) ≡ None → o ≡ None → no_room 1 s ≡ None
first_row_room set s None none is = (((each_none (refused_if (nat_le 64 (length (system_rows 6 s))) (TooMany 64) ∷ no_room 1 s ∷ []) none).1).0)
first_row_room set s (Some r) none is = let no : ⊥ = cc in absurd no

row_is_there : (o : Option PlacedRow) (standing : Option SetStanding) (s : State) → is_none standing ≡ false → is_not_incremental o standing s ≡ false → o ≡ None → ⊥
row_is_there o None s some isnt is = true≢false some
row_is_there o (Some x) s some isnt is = no_row x (subst (λ (p : Option PlacedRow). is_not_incremental p (Some x) s ≡ false) is isnt)
  where
    no_row : (x : SetStanding) → is_not_incremental None (Some x) s ≡ false → ⊥
    no_row (Readable b) k = true≢false k
    no_row Unreadable k = true≢false k

room_for : (session set : ℕ) (s : State) (done : SetWork) → writes_row done ≡ true → backup_refusal session s set done ≡ None → row_of_set set s ≡ None → no_room 1 s ≡ None
unfolding backup_refusal
room_for session set s (MakesSet false) writes none is = absurd (true≢false (sym writes))
room_for session set s (MakesSet true) writes none is =
    first_row_room set s (row_of_set set s) ((((each_none (in_transaction session s ∷ refused_if (is_some (s.sets set)) SetThere ∷ first_row_refusal set s ∷ []) none).1).1).0) is
room_for session set s ContinuesSet writes none is =
    let tests : AllNone (in_transaction session s ∷ refused_if (is_none (s.sets set)) NoSet ∷ refused_if (is_not_incremental (row_of_set set s) (s.sets set) s) NotIncremental ∷ [])
    = each_none (in_transaction session s ∷ refused_if (is_none (s.sets set)) NoSet ∷ refused_if (is_not_incremental (row_of_set set s) (s.sets set) s) NotIncremental ∷ []) none in
    absurd (row_is_there (row_of_set set s) (s.sets set) s (not_refused (is_none (s.sets set)) NoSet ((tests.1).0)) (not_refused (is_not_incremental (row_of_set set s) (s.sets set) s) NotIncremental (((tests.1).1).0)) is)
room_for session set s EndsSet writes none is = absurd (true≢false (sym writes))

pub set_row-plain : (session set n : ℕ) (s : State) (done : SetWork) → writes_row done ≡ true → backup_refusal session s set done ≡ None → set ≤ 999 → IsSound s → IsStored s → IsRanged s → IsTransaction n →
    Each IsPlain (changes n (set_edit (row_of_set set s) set (write_position s) ∷ []) (all_forced s))
set_row-plain session set n s done writes none low sound h ranged number =
    set_plain set n s (row_of_set set s) refl (room_for session set s done writes none) low sound h ranged number

pub stop-plain : (set n : ℕ) (r : PlacedRow) (s : State) → row_of_set set s ≡ Some r → IsSound s → IsStored s → IsTransaction n → Each IsPlain (changes n (deletes 6 r ∷ []) s)
stop-plain set n r s is sound h number =
    changes-plain n (deletes 6 r ∷ []) s number
    ((record { before = subst IsCell (set-lies set s r is) (committed-stored s h (r.0)); after = tt; table = refl }, committed-low s (r.0) sound h (ap is_full (set-lies set s r is))), tt)

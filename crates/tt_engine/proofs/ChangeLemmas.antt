-- The engine behind the Change of an insert.
use Rattle.std.proofs.Common.{◌≡◌, ◌≤◌, ◌<◌, ◌+◌, ◌*◌, ◌/◌, ◌||◌, ◌&&◌, ◌∙◌, ◌^◌, ℕ, ℤ, suc, nat_eq, nat_le, nat_lt, max, not, cond, Bool, true, false, [], ◌∷◌, Option, Some, None, if◌then◌else◌, refl, sym, ap, subst, arith, w64, FitsSigned, to_z, of_z, All}
use Rattle.std.specs.Prelude.{unwrap_or, IsSome, IsTrue, ◌↔◌}
use Rattle.std.specs.Option.{option_or}
use Rattle.std.specs.BTreeSet.{BTreeSet, contains}
use Rattle.std.specs.Ordering.{int_eq, nat_cmp}
use Rattle.std.proofs.lemmas.Bool.{eqb-true}
use Rattle.std.proofs.lemmas.Int.{to_z-of_z}
use Rattle.std.proofs.lemmas.List.Elements.{All-cons}
use Rattle.std.proofs.lemmas.Option.{same_Some}
use Rattle.tt_value.specs.declared.value.Cell.{Cell}
use Rattle.tt_value.specs.declared.value.Cell.TheVariants.{Empty, Full}
use Rattle.tt_value.specs.declared.reply.Reply.TheVariants.{Changed, Refused}
use Rattle.tt_value.specs.declared.refusal.Refusal.TheVariants.{DuplicateKey, LogOut}
use Rattle.tt_value.specs.declared.position.Position.{Position}
use Rattle.tt_record.specs.declared.entry.Entry.{Entry}
use Rattle.tt_record.specs.declared.entry.Entry.TheVariants.{Change}
use Rattle.tt_value.specs.BigEndian.{big_endian}
use Rattle.tt_value.specs.Stored.{IsStorableValue}
use Rattle.tt_value.specs.declared.value.Value.TheVariants.{Int}
use Rattle.tt_record.specs.Entry.{IsEntry, length_of}
use Rattle.tt_record.specs.Place.{position_of}
use Rattle.tt_log.specs.declared.log.Log.{Log}
use Rattle.tt_model.specs.Entries.{is_switch}
use Rattle.tt_log.specs.Log.{write_position_of, file_size_of}
use Rattle.tt_model.specs.Live.{touched, with_number}
use Rattle.tt_model.specs.Steady.{IsGrown}
use Rattle.tt_model.specs.State.{State, at_one, cells_of, free_place, is_used, next, placed, trail, with_entry, write_position, scan_held}
use Rattle.tt_model.specs.Step.{Answered, made, made_in, no_number_for, no_position, number_for, edit_length, refused, unless_refused}
use Rattle.tt_model.specs.Meaning.{refused_if}
use Rattle.tt_model.specs.Opened.{Opened}
use Rattle.tt_model.specs.Committed.{Cells, changed_by, committed, is_full, put}
use Rattle.tt_set.specs.declared.settings.Settings.{Settings}
use Rattle.tt_value.specs.declared.refusal.Refusal.{Refusal}
use Rattle.tt_model.specs.StepLaws.{AreNumberedFrom}
use Rattle.tt_engine.specs.declared.memory.Memory.{Memory}
use Rattle.tt_engine.specs.declared.rows.Rows.{Rows}
use Rattle.tt_engine.specs.declared.request.Request.TheVariants.{Insert}
use Rattle.tt_engine.specs.Request.{answer, insert_edit, kv, own_number, row_of, sees_key}
use Rattle.tt_engine.specs.Rows.{Takes}
use Rattle.tt_engine.specs.Memory.{FillsPlaces, HoldRows, IsAlone, IsInsert, InMemory}
use Rattle.tt_record.specs.Limits.{places_end}
use Rattle.tt_recover.specs.Opening.{opened_from}
use Rattle.tt_journal.specs.LogTrail.{HasEnds}
use Rattle.tt_model.specs.Works.{SameLog, performed}
use Rattle.tt_engine.proofs.InsertLemmas.{Fills, filled, filled_sees, filled_used, fresh_found, fresh_touched, next_least, live_behind, live_one, new_touched, new_unused, self_eq}
use Rattle.tt_engine.proofs.PlaceLemmas.{least_free_is}
use Rattle.tt_model.proofs.Theorems.{next_is_fresh, seen_rows_may_change}

key_added : (c b : Bool) → cond c true b ≡ (b || c)
key_added true true = refl
key_added true false = refl
key_added false true = refl
key_added false false = refl

apart : (q p : ℕ) → p < q → nat_eq q p ≡ false
apart q p above = grind (arith, above)

pub rows_taken : (own : Option ℕ) (t : ℕ) (key value : ℤ) (s : State) (old new : Rows) → Fills own t old.free s → HoldRows old s → Takes old new key → HoldRows new (filled t old.free key value s)
rows_taken own t key value s old new f h k = record {
  keys = λ q. k.keys.0 q ∙ ap (λ b. cond (int_eq key q) true b) (h.keys q) ∙ key_added (int_eq key q) (sees_key q s) ∙ sym (filled_sees own t old.free key value s f q);
  below = λ q low. used q ∙ below q (nat_eq q old.free) refl low;
  free = λ inside. used new.free ∙ ap (λ b. b || is_used s new.free) (apart new.free old.free k.place) ∙ sym (h.above new.free k.place) ∙ k.free inside;
  above = λ q high.
      let past : old.free < q = omega (arith, high, k.place) in
      ap (λ (set : BTreeSet ℕ). contains nat_cmp set q) k.used ∙ h.above q past ∙ sym (used q ∙ ap (λ b. b || is_used s q) (apart q old.free past));
}
  where
    used : (q : ℕ) → is_used (filled t old.free key value s) q ≡ (nat_eq q old.free || is_used s q)
    used q = filled_used own t old.free key value s f q

    below : (q : ℕ) (c : Bool) → nat_eq q old.free ≡ c → q < new.free → (c || is_used s q) ≡ true
    below q true same low = refl
    below q false other low = by (nat_le q old.free) refl
      where
        by : (d : Bool) → nat_le q old.free ≡ d → is_used s q ≡ true
        by true less = h.below q (grind (arith, less, other))
        by false more = let past : old.free < q = grind (arith, more) in sym (h.above q past) ∙ k.before q past low

-- the parts of a state behind the Change
filled_new : (t p : ℕ) (key value : ℤ) (s : State) → (filled t p key value s).entries ≡ placed (Change t p Empty (Full kv (row_of key value))) s ∷ s.entries
unfolding filled with_entry
filled_new t p key value s = refl

filled_alone : (own : Option ℕ) (t p : ℕ) (key value : ℤ) (s : State) → IsAlone own s → t ≡ unwrap_or own (next s) → IsAlone (Some t) (filled t p key value s)
unfolding filled with_entry
filled_alone own t p key value s alone is = record {
  new_live = live_behind (placed (Change t p Empty (Full kv (row_of key value))) s) t p Empty (Full kv (row_of key value)) s.entries refl ∙ ap (with_number t) alone.new_live ∙ live_one own t (next s) is;
  all_live = live_behind (placed (Change t p Empty (Full kv (row_of key value))) s) t p Empty (Full kv (row_of key value)) (trail s) refl ∙ ap (with_number t) alone.all_live ∙ live_one own t (next s) is;
  sessions = λ session. by (nat_eq session 1) (s.own session) (alone.sessions session);
}
  where
    by : (c : Bool) (o : Option ℕ) → o ≡ (if c then own else None) → (if c then Some t else o) ≡ (if c then Some t else None)
    by true o same = refl
    by false o same = same

filled_grown : (own : Option ℕ) (t p : ℕ) (key value : ℤ) (s : State) → Fills own t p s → IsGrown s.found.cells s.entries → IsGrown s.found.cells ((filled t p key value s).entries)
unfolding filled with_entry
filled_grown own t p key value s f grown =
    (seen_rows_may_change.new_row s.found.cells s.entries t p grown (λ dead. new_touched own t s f.alone f.number dead) (new_unused own s p f.alone f.free), grown)

wide : (t p : ℕ) (key value : ℤ) (s : State) → (filled t p key value s).pages ≡ max (suc (p / 32)) s.pages
unfolding filled with_entry
wide t p key value s = refl

filled_below : (own : Option ℕ) (t p : ℕ) (key value : ℤ) (s : State) → Fills own t p s → (q : ℕ) → is_used (filled t p key value s) q ≡ true → q < 32 * (filled t p key value s).pages
filled_below own t p key value s f q is = by (nat_eq q p) refl (sym (filled_used own t p key value s f q) ∙ is)
  where
    pages : (filled t p key value s).pages ≡ max (suc (p / 32)) s.pages
    pages = wide t p key value s

    by : (c : Bool) → nat_eq q p ≡ c → (c || is_used s q) ≡ true → q < 32 * (filled t p key value s).pages
    by true same here = let at = eqb-true q p same in let w = pages in omega (arith, at, w)
    by false other here = let low = f.below q here in let w = pages in omega (arith, low, w)

-- the own number is that of a transaction of this run
own_new : (own : Option ℕ) (t q : ℕ) (s : State) → t ≡ unwrap_or own (next s) → FillsPlaces own s → touched t q s.found.entries ≡ false
own_new (Some v) t q s is h = h.new t q (ap (λ o. Some o) (sym is))
own_new None t q s is h = fresh_found t q s is

own_least : (own : Option ℕ) (t : ℕ) (s : State) → t ≡ unwrap_or own (next s) → FillsPlaces own s → s.found.next ≤ t
own_least (Some v) t s is h = h.least t (ap (λ o. Some o) (sym is))
own_least None t s is h = let least = next_least s.found.next (trail s) in omega (arith, is, least)

own_rows : (own : Option ℕ) (t q : ℕ) (s : State) → t ≡ unwrap_or own (next s) → FillsPlaces own s → touched t q s.entries ≡ true → is_full (changed_by t s.entries (cells_of s) q) ≡ true
own_rows (Some v) t q s is h mark = h.rows t q (ap (λ o. Some o) (sym is)) mark
own_rows None t q s is h mark = absurd (let bad : true ≡ false = sym mark ∙ fresh_touched t q s is in cc)

filled_rows : (t p q : ℕ) (key value : ℤ) (s : State) → (touched t q s.entries ≡ true → is_full (changed_by t s.entries (cells_of s) q) ≡ true)
    → touched t q ((filled t p key value s).entries) ≡ true → is_full (changed_by t ((filled t p key value s).entries) (cells_of (filled t p key value s)) q) ≡ true
unfolding filled with_entry committed
filled_rows t p q key value s old mark = by (nat_eq t t) (nat_eq q p) refl (self_eq t) mark
  where
    by : (c d : Bool) → nat_eq q p ≡ d → c ≡ true → ((c && d) || touched t q s.entries) ≡ true
        → is_full ((if c then put p (Full kv (row_of key value)) (changed_by t s.entries (cells_of s)) else changed_by t s.entries (cells_of s)) q) ≡ true
    by true true at self mark = ap (λ b. is_full (if b then Full kv (row_of key value) else changed_by t s.entries (cells_of s) q)) at
    by true false at self mark = ap (λ b. is_full (if b then Full kv (row_of key value) else changed_by t s.entries (cells_of s) q)) at ∙ old mark
    by false d at self mark = cc

filled_numbered : (first t p : ℕ) (key value : ℤ) (s : State) → first ≤ t → AreNumberedFrom first s.entries → AreNumberedFrom first ((filled t p key value s).entries)
unfolding filled with_entry
filled_numbered first t p key value s low old = (low, old)

filled_found : (t p : ℕ) (key value : ℤ) (s : State) → (filled t p key value s).found ≡ s.found
unfolding filled with_entry
filled_found t p key value s = refl

filled_opened : (t p : ℕ) (key value : ℤ) (s : State) → s.found ≡ opened_from s.found.entries s.found.end → (filled t p key value s).found ≡ opened_from ((filled t p key value s).found.entries) ((filled t p key value s).found.end)
unfolding filled with_entry
filled_opened t p key value s is = is

filled_places : (own : Option ℕ) (t p : ℕ) (key value : ℤ) (s : State) → Fills own t p s → FillsPlaces own s → FillsPlaces (Some t) (filled t p key value s)
filled_places own t p key value s f h = record {
  rows = λ u q is mark. subst (λ v. touched v q ((filled t p key value s).entries) ≡ true → is_full (changed_by v ((filled t p key value s).entries) (cells_of (filled t p key value s)) q) ≡ true) (same_Some _ _ is)
      (filled_rows t p q key value s (own_rows own t q s f.number h)) mark;
  new = λ u q is. subst (λ v. touched v q ((filled t p key value s).found.entries) ≡ false) (same_Some _ _ is)
      (ap (λ (g : Opened). touched t q g.entries) (filled_found t p key value s) ∙ own_new own t q s f.number h);
  least = λ u is. subst (λ v. (filled t p key value s).found.next ≤ v) (same_Some _ _ is)
      (subst (λ (g : Opened). g.next ≤ t) (sym (filled_found t p key value s)) (own_least own t s f.number h));
}

filled_next : (t p : ℕ) (key value : ℤ) (s : State) → next (filled t p key value s) ≡ max (suc t) (next s)
unfolding filled
filled_next t p key value s = next_is_fresh.change t p Empty (Full kv (row_of key value)) s

filled_origin : (t p : ℕ) (key value : ℤ) (s : State) → scan_held (filled t p key value s) 0 ≡ scan_held s 0
unfolding filled with_entry
filled_origin t p key value s = refl

filled_kept : (t p : ℕ) (key value : ℤ) (s : State) → ((filled t p key value s).found ≡ s.found) × ((filled t p key value s).wish ≡ s.wish) × ((filled t p key value s).settings ≡ s.settings)
unfolding filled with_entry
filled_kept t p key value s = (refl, refl, refl)

-- ---- the engine

pub fills : (e : Memory) (s : State) (t : ℕ) → InMemory e s → t ≡ unwrap_or e.transaction e.next_transaction → e.rows.free < places_end → Fills e.transaction t e.rows.free s
fills e s t h is inside = record {
  alone = h.alone;
  number = is ∙ ap (unwrap_or e.transaction) h.next;
  below = h.below;
  free = h.rows.free inside;
}

-- how the engine changes
pub record Changes (e e' : Memory) (t : ℕ) : Type 0 where
  pub own : e'.transaction ≡ Some t
  pub next : e'.next_transaction ≡ max e.next_transaction (t + 1)
  pub wish : e'.next_commit_durable ≡ e.next_commit_durable
  pub durable : e'.durable_commits ≡ e.durable_commits

pub stands_filled : (e e' : Memory) (s : State) (t : ℕ) (key value : ℤ) → InMemory e s → t ≡ unwrap_or e.transaction e.next_transaction → e.rows.free < places_end
    → Takes e.rows e'.rows key → Changes e e' t → InMemory e' (filled t e.rows.free key value s)
stands_filled e e' s t key value h is inside takes c =
    let f = fills e s t h is inside in
    let kept = filled_kept t e.rows.free key value s in
    let next = filled_next t e.rows.free key value s in
    let old_next = h.next in
    let new_next = c.next in
    record {
      grown = subst (λ (cells : Cells). IsGrown cells ((filled t e.rows.free key value s).entries)) (ap (λ (f : Opened). f.cells) (sym kept.0)) (filled_grown e.transaction t e.rows.free key value s f h.grown);
      below = filled_below e.transaction t e.rows.free key value s f;
      opened = filled_opened t e.rows.free key value s h.opened;
      origin = filled_origin t e.rows.free key value s ∙ h.origin;
      numbered = subst (λ (f : Opened). AreNumberedFrom f.next ((filled t e.rows.free key value s).entries)) (sym kept.0)
          (filled_numbered s.found.next t e.rows.free key value s (own_least e.transaction t s f.number h.filled) h.numbered);
      filled = subst (λ o. FillsPlaces o (filled t e.rows.free key value s)) (sym c.own) (filled_places e.transaction t e.rows.free key value s f h.filled);
      alone = subst (λ o. IsAlone o (filled t e.rows.free key value s)) (sym c.own) (filled_alone e.transaction t e.rows.free key value s h.alone f.number);
      next = omega (arith, next, old_next, new_next);
      wish = c.wish ∙ h.wish ∙ ap (λ (w : ℕ → Bool). w 1) (sym kept.1);
      durable = c.durable ∙ h.durable ∙ ap (λ (settings : Settings). settings.durable_commits) (sym kept.2);
      rows = rows_taken e.transaction t key value s e.rows e'.rows f h.rows takes;
    }

-- ---- the answer

unless_none : (a b : Option Refusal) (s : State) (x : Answered) → a ≡ None → b ≡ None → unless_refused (option_or a b) x s ≡ x
unless_none a b s x none_a none_b = ap (λ o. unless_refused (option_or o b) x s) none_a ∙ ap (λ o. unless_refused o x s) none_b

pub made_filled : (s : State) (t p : ℕ) (key value : ℤ) → no_number_for (s.own 1) s ≡ None → no_position (edit_length (insert_edit key value) ∷ []) s ≡ None → number_for (s.own 1) s ≡ t → free_place s ≡ p
    → made 1 (insert_edit key value ∷ []) s ≡ (Changed 1, filled t p key value s)
unfolding filled
made_filled s t p key value number place is at =
    unless_none (no_number_for (s.own 1) s) (no_position (edit_length (insert_edit key value) ∷ []) s) s (Changed 1, made_in 1 (number_for (s.own 1) s) (insert_edit key value ∷ []) s) number place
    ∙ ap (λ u. (Changed 1, made_in 1 u (insert_edit key value ∷ []) s)) is
    ∙ ap (λ q. (Changed 1, record (with_entry (Change t q Empty (Full kv (row_of key value))) s) { own = at_one 1 (Some t) s.own })) at

-- the length of a Change is that of its cells
change_length : (t p : ℕ) (b a : Cell) → length_of (Change t p b a) ≡ length_of (Change 1 0 b a)
unfolding big_endian
change_length t p b a = refl

number_there : (e : Memory) (s : State) (t : ℕ) → InMemory e s → t ≡ unwrap_or e.transaction e.next_transaction → t < 2 ^ 48 → no_number_for (s.own 1) s ≡ None
number_there e s t h is small = ap (λ o. no_number_for o s) (h.alone.sessions 1) ∙ by e.transaction is
  where
    none : (n : ℕ) → n < 2 ^ 48 → nat_le (2 ^ 48) n ≡ false
    none n low = grind (arith, low)

    by : (own : Option ℕ) → t ≡ unwrap_or own e.next_transaction → no_number_for own s ≡ None
    by (Some u) is = refl
    by None is = let same = h.next in ap (λ b. refused_if b LogOut) (none (next s) (omega (arith, is, same, small)))

number_is : (e : Memory) (s : State) (t : ℕ) → InMemory e s → t ≡ unwrap_or e.transaction e.next_transaction → number_for (s.own 1) s ≡ t
number_is e s t h is = ap (λ o. number_for o s) (h.alone.sessions 1) ∙ by e.transaction is
  where
    by : (own : Option ℕ) → t ≡ unwrap_or own e.next_transaction → number_for own s ≡ t
    by (Some u) is = sym is
    by None is = sym h.next ∙ sym is

pub place_test : (s : State) (n : ℕ) (o : Option Position) → position_of (write_position s) n s.settings.log_file_size ≡ o → no_position (n ∷ []) s ≡ elim o [ None ↦ Some LogOut | Some at ↦ None ]
place_test s n None is = ap (λ o. refused_if (not (elim o [ None ↦ false | Some at ↦ true ])) LogOut) is
place_test s n (Some at) is = ap (λ o. refused_if (not (elim o [ None ↦ false | Some at ↦ true ])) LogOut) is

-- the same place, as the log and as the state have it
pub same_place : (log : Log) (s : State) (e : Entry) (n : ℕ) → HasEnds log s → length_of e ≡ n → position_of (write_position_of log) (length_of e) (file_size_of log) ≡ position_of (write_position s) n s.settings.log_file_size
same_place log s e n h long =
    ap (λ p. position_of p (length_of e) (file_size_of log)) h.write ∙ ap (λ k. position_of (write_position s) k (file_size_of log)) long ∙ ap (λ k. position_of (write_position s) n k) h.size

pub log_out : (log : Log) (e : Memory) (s : State) (t : ℕ) (key value : ℤ) (entry : Entry) → HasEnds log s → InMemory e s → t ≡ unwrap_or e.transaction e.next_transaction → t < 2 ^ 48 → IsInsert s e t key value entry
    → position_of (write_position_of log) (length_of entry) (file_size_of log) ≡ None → answer (Insert key value) s ≡ (Refused LogOut, s)
log_out log e s t key value entry ends h is small i none =
    let long : length_of entry ≡ edit_length (insert_edit key value) = ap length_of i.is ∙ change_length t e.rows.free Empty (Full kv (row_of key value)) in
    let place = place_test s (edit_length (insert_edit key value)) None (sym (same_place log s entry (edit_length (insert_edit key value)) ends long) ∙ none) in
    ap (λ b. if b then refused DuplicateKey s else made 1 (insert_edit key value ∷ []) s) i.fresh
    ∙ ap (λ o. unless_refused (option_or o (no_position (edit_length (insert_edit key value) ∷ []) s)) (Changed 1, made_in 1 (number_for (s.own 1) s) (insert_edit key value ∷ []) s) s) (number_there e s t h is small)
    ∙ ap (λ o. unless_refused o (Changed 1, made_in 1 (number_for (s.own 1) s) (insert_edit key value ∷ []) s) s) place

pub inserted : (log : Log) (e : Memory) (s : State) (t : ℕ) (key value : ℤ) (entry : Entry) → HasEnds log s → InMemory e s → t ≡ unwrap_or e.transaction e.next_transaction → t < 2 ^ 48 → e.rows.free < places_end → IsInsert s e t key value entry
    → IsSome (position_of (write_position_of log) (length_of entry) (file_size_of log)) → answer (Insert key value) s ≡ (Changed 1, filled t e.rows.free key value s)
inserted log e s t key value entry ends h is small inside i some =
    let long : length_of entry ≡ edit_length (insert_edit key value) = ap length_of i.is ∙ change_length t e.rows.free Empty (Full kv (row_of key value)) in
    let f = fills e s t h is inside in
    ap (λ b. if b then refused DuplicateKey s else made 1 (insert_edit key value ∷ []) s) i.fresh
    ∙ made_filled s t e.rows.free key value (number_there e s t h is small)
    (there (position_of (write_position_of log) (length_of entry) (file_size_of log)) some (sym (same_place log s entry (edit_length (insert_edit key value)) ends long)))
    (number_is e s t h is)
    (least_free_is (is_used s) (32 * s.pages) e.rows.free h.below h.rows.below (h.rows.free inside))
  where
    there : (o : Option Position) → IsSome o → position_of (write_position s) (edit_length (insert_edit key value)) s.settings.log_file_size ≡ o → no_position (edit_length (insert_edit key value) ∷ []) s ≡ None
    there (Some at) is same = place_test s (edit_length (insert_edit key value)) (Some at) same
    there None is same = cc

-- what the test of a place says
pub none_there : (b : Bool) (o : Option Position) → (IsTrue b ↔ IsSome o) → b ≡ false → o ≡ None
none_there b None iff is = refl
none_there b (Some at) iff is = absurd (let bad : true ≡ false = sym (iff.1 refl) ∙ is in cc)

pub some_there : (b : Bool) (o : Option Position) → (IsTrue b ↔ IsSome o) → b ≡ true → IsSome o
some_there b o iff is = iff.0 is

-- the number of a change
pub number_some : (own : Option ℕ) (next t : ℕ) → Some t ≡ own_number own next → t ≡ unwrap_or own next
number_some (Some u) next t is = same_Some _ _ is
number_some None next t is = by (nat_lt next (2 ^ 48)) is
  where
    by : (b : Bool) → Some t ≡ (if b then Some next else None) → t ≡ next
    by true is = same_Some _ _ is
    by false is = cc

number_none : (own : Option ℕ) (next : ℕ) → None ≡ own_number own next → (own ≡ None) × (nat_le (2 ^ 48) next ≡ true)
number_none (Some u) next is = cc
number_none None next is = (refl, by (nat_lt next (2 ^ 48)) refl is)
  where
    by : (b : Bool) → nat_lt next (2 ^ 48) ≡ b → None ≡ (if b then Some next else None) → nat_le (2 ^ 48) next ≡ true
    by true low is = cc
    by false high is = grind (arith, high)

-- an insert of a key that is there, and one where no number is left
pub duplicate : (key value : ℤ) (s : State) → sees_key key s ≡ true → answer (Insert key value) s ≡ (Refused DuplicateKey, s)
duplicate key value s is = ap (λ b. if b then refused DuplicateKey s else made 1 (insert_edit key value ∷ []) s) is

pub numbers_out : (e : Memory) (key value : ℤ) (s : State) → InMemory e s → sees_key key s ≡ false → None ≡ own_number e.transaction e.next_transaction → answer (Insert key value) s ≡ (Refused LogOut, s)
numbers_out e key value s h fresh is =
    let none = number_none e.transaction e.next_transaction is in
    let high : nat_le (2 ^ 48) (next s) ≡ true = ap (λ n. nat_le (2 ^ 48) n) (sym h.next) ∙ none.1 in
    let out : no_number_for (s.own 1) s ≡ Some LogOut = ap (λ o. no_number_for o s) (h.alone.sessions 1 ∙ none.0) ∙ ap (λ b. refused_if b LogOut) high in
    ap (λ b. if b then refused DuplicateKey s else made 1 (insert_edit key value ∷ []) s) fresh
    ∙ ap (λ o. unless_refused (option_or o (no_position (edit_length (insert_edit key value) ∷ []) s)) (Changed 1, made_in 1 (number_for (s.own 1) s) (insert_edit key value ∷ []) s) s) out

-- the Change of an insert is an entry
pub insert_entry : (t p : ℕ) (key value : ℤ) (e : Entry) → e ≡ Change t p Empty (Full kv (row_of key value)) → 1 ≤ t → t < 2 ^ 48 → p < places_end → FitsSigned w64 key → FitsSigned w64 value → IsEntry e
unfolding big_endian
insert_entry t p key value e is some small inside first second =
    subst (λ x. IsEntry x) (sym is)
    (record {
      transaction = (some, small);
      place = inside;
      before = tt;
      after = (omega arith, omega arith, record { some = omega arith; few = omega arith; in_range = both_storable; short = omega arith });
      table = refl;
    })
  where
    both_storable : All IsStorableValue (Int key ∷ Int value ∷ [])
    both_storable = All-cons IsStorableValue (Int key) (Int value ∷ []) first (All-cons IsStorableValue (Int value) [] second (λ k d low. absurd (omega (arith, low))))

-- the same, where the numbers were written and read back
pub read_back : (t p q : ℕ) (key value : ℤ) (e : Entry) → e ≡ Change t p Empty (Full kv (row_of (to_z w64 (of_z w64 key)) (to_z w64 (of_z w64 value)))) → p ≡ q → FitsSigned w64 key → FitsSigned w64 value
    → e ≡ Change t q Empty (Full kv (row_of key value))
read_back t p q key value e is same first second =
    is ∙ ap (λ k. Change t p Empty (Full kv (row_of k (to_z w64 (of_z w64 value))))) (to_z-of_z w64 key first)
    ∙ ap (λ v. Change t p Empty (Full kv (row_of key v))) (to_z-of_z w64 value second) ∙ ap (λ r. Change t r Empty (Full kv (row_of key value))) same

-- the log of the state behind an insert
pub filled_same : (t p : ℕ) (key value : ℤ) (s : State) → SameLog (filled t p key value s) (performed (record { entries = Change t p Empty (Full kv (row_of key value)) ∷ []; force = false }) s)
unfolding filled
filled_same t p key value s = record { settings = refl; found = refl; entries = refl; forced = refl; pages = refl; files = refl }

pub plain_change : (t p : ℕ) (key value : ℤ) (e : Entry) → e ≡ Change t p Empty (Full kv (row_of key value)) → is_switch e ≡ false
plain_change t p key value e is = ap is_switch is

-- the number of a change is that of the session's transaction, or the next one
pub own_is : (own : Option ℕ) (next t : ℕ) → own_number own next ≡ Some t → t ≡ unwrap_or own next
own_is (Some u) next t is = cc
own_is None next t is = by (nat_lt next (2 ^ 48)) is
  where
    by : (b : Bool) → (if b then Some next else None) ≡ Some t → t ≡ next
    by true is = cc
    by false is = cc

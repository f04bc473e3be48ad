-- The engine behind a Commit, a force, and the lines that leave the rows.
use Rattle.std.proofs.Common.{inl, ◌≡◌, ◌≤◌, ◌<◌, ◌*◌, ◌||◌, ◌∙◌, ℕ, ℤ, suc, nat_eq, max, not, Bool, true, false, [], ◌∷◌, Option, Some, None, if◌then◌else◌, refl, sym, ap, subst, arith}
use Rattle.std.specs.Prelude.{IsSome}
use Rattle.std.specs.Option.{ForSome}
use Rattle.std.specs.List.{list_any}
use Rattle.std.proofs.lemmas.Bool.{or_left}
use Rattle.tt_value.specs.declared.position.Position.{Position}
use Rattle.tt_value.specs.declared.refusal.Refusal.TheVariants.{LogOut}
use Rattle.tt_value.specs.declared.reply.Reply.TheVariants.{Done, Refused}
use Rattle.tt_record.specs.declared.entry.Entry.TheVariants.{Commit as CommitEntry}
use Rattle.tt_record.specs.Entry.{length_of}
use Rattle.tt_record.specs.Place.{position_of}
use Rattle.tt_value.specs.BigEndian.{big_endian}
use Rattle.tt_log.specs.declared.log.Log.{Log}
use Rattle.tt_log.specs.Log.{write_position_of, file_size_of}
use Rattle.tt_model.specs.Trail.{Trail, Placed}
use Rattle.tt_model.specs.Committed.{changed_by, committed, is_full}
use Rattle.tt_model.specs.Live.{in_use, is_live, live, next_number, touched, view_of, without_number}
use Rattle.tt_model.specs.Steady.{IsGrown}
use Rattle.tt_set.specs.declared.settings.Settings.{Settings}
use Rattle.tt_model.specs.Tables.{PlacedRow, rows_of}
use Rattle.tt_model.specs.State.{State, all_forced, at_one, bound, cells_of, is_used, next, placed, trail, with_entry, write_position, scan_held}
use Rattle.tt_model.specs.Step.{commit_of, end_length, forced_where, is_durable, no_position, session_ended, unless_refused}
use Rattle.tt_model.specs.StepLaws.{AreNumberedFrom}
use Rattle.tt_engine.specs.declared.memory.Memory.{Memory}
use Rattle.tt_engine.specs.declared.request.Request.TheVariants.{Commit, DurableCommit, Flush}
use Rattle.tt_engine.specs.declared.memory.Decided.{Decided}
use Rattle.tt_record.specs.declared.entry.Entry.{Entry}
use Rattle.tt_engine.proofs.DecidedLemmas.{work_same}
use Rattle.tt_engine.specs.Request.{answer, has_key, kv, sees_key}
use Rattle.tt_engine.specs.declared.rows.Rows.{Rows}
use Rattle.tt_engine.specs.Memory.{FillsPlaces, HoldRows, InMemory, IsAlone, IsDecided}
use Rattle.tt_recover.specs.Opening.{opened_from}
use Rattle.tt_journal.specs.LogTrail.{HasEnds}
use Rattle.tt_model.specs.Works.{SameLog, performed}
use Rattle.tt_engine.proofs.InsertLemmas.{changed_untouched, self_eq, touched_parts}
use Rattle.tt_engine.proofs.ChangeLemmas.{place_test, same_place}
use Rattle.tt_model.proofs.Theorems.{next_is_fresh}

-- the state behind the Commit of the own transaction, before any force
unfoldable pub closed : ℕ → State → State
closed t s = record (with_entry (CommitEntry t) s) { own = at_one 1 None s.own }

none_left : (t : ℕ) → without_number t (t ∷ []) ≡ []
none_left t = by (nat_eq t t) (self_eq t)
  where
    by : (c : Bool) → c ≡ true → (if not c then t ∷ [] else []) ≡ []
    by true is = refl
    by false is = cc

live_closed : (x : Placed) (t : ℕ) (es : Trail) → x.entry ≡ CommitEntry t → live (x ∷ es) ≡ without_number t (live es)
unfolding live
live_closed x t es is = ap (λ e. live (record { at = x.at; entry = e } ∷ es)) is

closed_alone : (t : ℕ) (s : State) → IsAlone (Some t) s → IsAlone None (closed t s)
unfolding closed with_entry
closed_alone t s alone = record {
  new_live = live_closed (placed (CommitEntry t) s) t s.entries refl ∙ ap (without_number t) alone.new_live ∙ none_left t;
  all_live = live_closed (placed (CommitEntry t) s) t (trail s) refl ∙ ap (without_number t) alone.all_live ∙ none_left t;
  sessions = λ session. by (nat_eq session 1) (s.own session) (alone.sessions session);
}
  where
    by : (c : Bool) (o : Option ℕ) → o ≡ (if c then Some t else None) → (if c then None else o) ≡ (if c then None else None)
    by true o same = refl
    by false o same = same

-- the places in use stay
closed_used : (e : Memory) (t q : ℕ) (s : State) → InMemory e s → e.transaction ≡ Some t → is_used (closed t s) q ≡ is_used s q
unfolding closed with_entry committed in_use
closed_used e t q s h own =
    let alone : IsAlone (Some t) s = subst (λ o. IsAlone o s) own h.alone in
    let after : live (placed (CommitEntry t) s ∷ trail s) ≡ [] = live_closed (placed (CommitEntry t) s) t (trail s) refl ∙ ap (without_number t) alone.all_live ∙ none_left t in
    ap (λ us. is_full (changed_by t s.entries (cells_of s) q) || list_any (λ u. touched u q (placed (CommitEntry t) s ∷ trail s)) us) after
    ∙ ap (λ b. is_full (changed_by t s.entries (cells_of s) q) || b) refl
    ∙ by (touched t q s.entries) refl
    ∙ ap (λ us. is_full (cells_of s q) || list_any (λ u. touched u q (trail s)) us) (sym alone.all_live)
  where
    here : touched t q (trail s) ≡ (touched t q s.entries || touched t q s.found.entries)
    here = touched_parts t q s.entries s.found.entries

    none : touched t q s.found.entries ≡ false
    none = h.filled.new t q own

    by : (m : Bool) → touched t q s.entries ≡ m → (is_full (changed_by t s.entries (cells_of s) q) || false) ≡ (is_full (cells_of s q) || (touched t q (trail s) || false))
    by true mark =
        ap (λ b. b || false) (h.filled.rows t q own mark)
        ∙ sym (ap (λ b. is_full (cells_of s q) || (b || false)) (here ∙ ap (λ b. b || touched t q s.found.entries) mark) ∙ last (is_full (cells_of s q)))
      where
        last : (b : Bool) → (b || (true || false)) ≡ true
        last true = refl
        last false = refl
    by false mark =
        ap (λ cell. is_full cell || false) (changed_untouched t q s.entries (cells_of s) mark)
        ∙ sym (ap (λ b. is_full (cells_of s q) || (b || false)) (here ∙ ap (λ b. b || touched t q s.found.entries) mark ∙ none))

closed_sees : (t : ℕ) (s : State) → IsAlone (Some t) s → (k : ℤ) → sees_key k (closed t s) ≡ sees_key k s
unfolding closed with_entry committed
closed_sees t s alone k =
    ap (λ o. list_any (λ (r : PlacedRow). has_key k (r.1)) (rows_of kv (bound s) (view_of o s.entries (cells_of s)))) (sym (alone.sessions 1))

closed_next : (t : ℕ) (s : State) → IsAlone (Some t) s → next (closed t s) ≡ next s
unfolding closed with_entry next_number
closed_next t s alone =
    let alive : is_live t (trail s) ≡ true = ap (λ us. list_any (nat_eq t) us) alone.all_live ∙ or_left (nat_eq t t) false (self_eq t) in
    let low : t < next s = next_is_fresh.above_live s.found.next t (trail s) alive in
    let most : max (suc t) (next s) ≡ next s = omega (arith, low) in
    most

closed_grown : (t : ℕ) (s : State) → IsAlone (Some t) s → IsGrown s.found.cells s.entries → IsGrown ((closed t s).found.cells) ((closed t s).entries)
unfolding closed with_entry
closed_grown t s alone grown = (ap (λ us. list_any (nat_eq t) us) alone.new_live ∙ or_left (nat_eq t t) false (self_eq t), grown)

closed_opened : (t : ℕ) (s : State) → s.found ≡ opened_from s.found.entries s.found.end → (closed t s).found ≡ opened_from ((closed t s).found.entries) ((closed t s).found.end)
unfolding closed with_entry
closed_opened t s is = is

closed_numbered : (t : ℕ) (s : State) → s.found.next ≤ t → AreNumberedFrom s.found.next s.entries → AreNumberedFrom ((closed t s).found.next) ((closed t s).entries)
unfolding closed with_entry
closed_numbered t s low old = (low, old)

closed_kept : (t : ℕ) (s : State) → ((closed t s).pages ≡ s.pages) × ((closed t s).wish ≡ s.wish) × ((closed t s).settings ≡ s.settings)
unfolding closed with_entry
closed_kept t s = (refl, refl, refl)

pub none_filled : (s : State) → FillsPlaces None s
none_filled s = record { rows = λ t q is. absurd (no_number t is); new = λ t q is. absurd (no_number t is); least = λ t is. absurd (no_number t is) }
  where
    no_number : (t : ℕ) → None ≡ Some t → ⊥
    no_number t is = cc

pub rows_same : (rows : Rows) (s after : State) → ((q : ℕ) → is_used after q ≡ is_used s q) → ((k : ℤ) → sees_key k after ≡ sees_key k s) → HoldRows rows s → HoldRows rows after
rows_same rows s after used sees h = record {
  keys = λ k. h.keys k ∙ sym (sees k);
  below = λ q low. used q ∙ h.below q low;
  free = λ inside. used rows.free ∙ h.free inside;
  above = λ q high. h.above q high ∙ sym (used q);
}

-- how the engine changes at a Commit
pub record Closes (e e' : Memory) : Type 0 where
  pub own : e'.transaction ≡ None
  pub next : e'.next_transaction ≡ e.next_transaction
  pub wish : e'.next_commit_durable ≡ e.next_commit_durable
  pub durable : e'.durable_commits ≡ e.durable_commits
  pub rows : e'.rows ≡ e.rows

closed_origin : (t : ℕ) (s : State) → scan_held (closed t s) 0 ≡ scan_held s 0
unfolding closed with_entry
closed_origin t s = refl

pub stands_closed : (e e' : Memory) (s : State) (t : ℕ) → InMemory e s → e.transaction ≡ Some t → Closes e e' → InMemory e' (closed t s)
stands_closed e e' s t h own c =
    let alone : IsAlone (Some t) s = subst (λ o. IsAlone o s) own h.alone in
    let kept = closed_kept t s in
    let used : (q : ℕ) → is_used (closed t s) q ≡ is_used s q = λ q. closed_used e t q s h own in
    record {
      grown = closed_grown t s alone h.grown;
      opened = closed_opened t s h.opened;
      origin = closed_origin t s ∙ h.origin;
      numbered = closed_numbered t s (h.filled.least t own) h.numbered;
      below = λ q is. subst (λ n. q < 32 * n) (sym kept.0) (h.below q (sym (used q) ∙ is));
      alone = subst (λ o. IsAlone o (closed t s)) (sym c.own) (closed_alone t s alone);
      filled = subst (λ o. FillsPlaces o (closed t s)) (sym c.own) (none_filled (closed t s));
      next = c.next ∙ h.next ∙ sym (closed_next t s alone);
      wish = c.wish ∙ h.wish ∙ ap (λ (w : ℕ → Bool). w 1) (sym kept.1);
      durable = c.durable ∙ h.durable ∙ ap (λ (settings : Settings). settings.durable_commits) (sym kept.2);
      rows = subst (λ (rows : Rows). HoldRows rows (closed t s)) (sym c.rows) (rows_same e.rows s (closed t s) used (closed_sees t s alone) h.rows);
    }

-- ---- a force, and the end of a transaction

-- the log was forced, and nothing else changed
pub stands_forced : (e e' : Memory) (s : State) → InMemory e s → e'.transaction ≡ e.transaction → e'.next_transaction ≡ e.next_transaction → e'.next_commit_durable ≡ e.next_commit_durable → e'.durable_commits ≡ e.durable_commits → e'.rows ≡ e.rows
    → InMemory e' (all_forced s)
unfolding all_forced
stands_forced e e' s h own next wish durable rows = record {
  grown = h.grown;
  opened = h.opened;
  origin = h.origin;
  numbered = h.numbered;
  below = h.below;
  alone = subst (λ o. IsAlone o (all_forced s)) (sym own) (record { new_live = h.alone.new_live; all_live = h.alone.all_live; sessions = h.alone.sessions });
  filled = subst (λ o. FillsPlaces o (all_forced s)) (sym own) (record { rows = h.filled.rows; new = h.filled.new; least = h.filled.least });
  next = next ∙ h.next;
  wish = wish ∙ h.wish;
  durable = durable ∙ h.durable;
  rows = subst (λ (r : Rows). HoldRows r (all_forced s)) (sym rows) (record { keys = h.rows.keys; below = h.rows.below; free = h.rows.free; above = h.rows.above });
}

settled_sees : (s : State) → s.own 1 ≡ None → (k : ℤ) → sees_key k (session_ended 1 s) ≡ sees_key k s
settled_sees s none k = ap (λ o. list_any (λ (r : PlacedRow). has_key k (r.1)) (rows_of kv (bound s) (view_of o s.entries (cells_of s)))) (sym none)

none_own : (c : Bool) (o : Option ℕ) → o ≡ (if c then None else None) → (if c then None else o) ≡ (if c then None else None)
none_own true o same = refl
none_own false o same = same

-- no transaction is left, and no wish; all is forced, or not
pub stands_ended : (d : Bool) (e e' : Memory) (s : State) → InMemory e s → e.transaction ≡ None → e'.transaction ≡ None → e'.next_transaction ≡ e.next_transaction → e'.next_commit_durable ≡ false → e'.durable_commits ≡ e.durable_commits → e'.rows ≡ e.rows
    → InMemory e' (session_ended 1 (forced_where d s))
unfolding all_forced
stands_ended true e e' s h none own next wish durable rows =
    let alone : IsAlone None s = subst (λ o. IsAlone o s) none h.alone in
    let after = session_ended 1 (forced_where true s) in
    record {
      opened = h.opened;
      origin = h.origin;
      grown = h.grown;
      numbered = h.numbered;
      below = h.below;
      alone = subst (λ o. IsAlone o after) (sym own) (record { new_live = alone.new_live; all_live = alone.all_live; sessions = λ session. none_own (nat_eq session 1) (s.own session) (alone.sessions session) });
      filled = subst (λ o. FillsPlaces o after) (sym own) (none_filled after);
      next = next ∙ h.next;
      wish = wish;
      durable = durable ∙ h.durable;
      rows = subst (λ (r : Rows). HoldRows r after) (sym rows) (rows_same e.rows s after (λ q. refl) (settled_sees s (alone.sessions 1)) h.rows);
    }
stands_ended false e e' s h none own next wish durable rows =
    let alone : IsAlone None s = subst (λ o. IsAlone o s) none h.alone in
    let after = session_ended 1 (forced_where false s) in
    record {
      opened = h.opened;
      origin = h.origin;
      grown = h.grown;
      numbered = h.numbered;
      below = h.below;
      alone = subst (λ o. IsAlone o after) (sym own) (record { new_live = alone.new_live; all_live = alone.all_live; sessions = λ session. none_own (nat_eq session 1) (s.own session) (alone.sessions session) });
      filled = subst (λ o. FillsPlaces o after) (sym own) (none_filled after);
      next = next ∙ h.next;
      wish = wish;
      durable = durable ∙ h.durable;
      rows = subst (λ (r : Rows). HoldRows r after) (sym rows) (rows_same e.rows s after (λ q. refl) (settled_sees s (alone.sessions 1)) h.rows);
    }

-- the session has no transaction any more, said twice
no_own_each : (f : ℕ → Option ℕ) (j : ℕ) → at_one 1 None (at_one 1 None f) j ≡ at_one 1 None f j
no_own_each f j = by (nat_eq j 1)
  where
    by : (c : Bool) → (if c then None else (if c then None else f j)) ≡ (if c then None else f j)
    by true = refl
    by false = refl

no_own_twice : (f : ℕ → Option ℕ) → at_one 1 None (at_one 1 None f) ≡ at_one 1 None f
no_own_twice f = λ i j. no_own_each f j i

pub settled_closed : (d : Bool) (t : ℕ) (s : State) → session_ended 1 (forced_where d (closed t s)) ≡ session_ended 1 (forced_where d (with_entry (CommitEntry t) s))
unfolding closed with_entry all_forced
settled_closed true t s = ap (λ (own : ℕ → Option ℕ). record (all_forced (with_entry (CommitEntry t) s)) { own = own; wish = at_one 1 false s.wish }) (no_own_twice s.own)
settled_closed false t s = ap (λ (own : ℕ → Option ℕ). record (with_entry (CommitEntry t) s) { own = own; wish = at_one 1 false s.wish }) (no_own_twice s.own)

-- whether a commit is durable, as the engine and the state have it
pub durable_is : (e : Memory) (s : State) → InMemory e s → (e.durable_commits || e.next_commit_durable) ≡ is_durable 1 s
durable_is e s h = ap (λ b. b || e.next_commit_durable) h.durable ∙ ap (λ b. s.settings.durable_commits || b) h.wish

pub closed_durable : (t : ℕ) (s : State) → is_durable 1 (closed t s) ≡ is_durable 1 s
unfolding closed with_entry
closed_durable t s = refl

-- ---- the answer to a commit

end_is : (t : ℕ) → length_of (CommitEntry t) ≡ end_length
unfolding big_endian
end_is t = refl

pub commit_out : (log : Log) (e : Memory) (s : State) (t : ℕ) → HasEnds log s → InMemory e s → e.transaction ≡ Some t → position_of (write_position_of log) (length_of (CommitEntry t)) (file_size_of log) ≡ None → answer Commit s ≡ (Refused LogOut, s)
commit_out log e s t ends h own none =
    let place = place_test s end_length None (sym (same_place log s (CommitEntry t) end_length ends (end_is t)) ∙ none) in
    ap (λ o. commit_of 1 o s) (h.alone.sessions 1 ∙ own)
    ∙ ap (λ o. unless_refused o (Done, session_ended 1 (forced_where (is_durable 1 s) (with_entry (CommitEntry t) s))) s) place

pub commit_done : (log : Log) (e : Memory) (s : State) (t : ℕ) → HasEnds log s → InMemory e s → e.transaction ≡ Some t → IsSome (position_of (write_position_of log) (length_of (CommitEntry t)) (file_size_of log))
    → answer Commit s ≡ (Done, session_ended 1 (forced_where (is_durable 1 s) (closed t s)))
commit_done log e s t ends h own some =
    ap (λ o. commit_of 1 o s) (h.alone.sessions 1 ∙ own)
    ∙ ap (λ o. unless_refused o (Done, session_ended 1 (forced_where (is_durable 1 s) (with_entry (CommitEntry t) s))) s)
    (there (position_of (write_position_of log) (length_of (CommitEntry t)) (file_size_of log)) some (sym (same_place log s (CommitEntry t) end_length ends (end_is t))))
    ∙ ap (λ after. (Done, after)) (sym (settled_closed (is_durable 1 s) t s))
  where
    there : (o : Option Position) → IsSome o → position_of (write_position s) end_length s.settings.log_file_size ≡ o → no_position (end_length ∷ []) s ≡ None
    there (Some at) is same = place_test s end_length (Some at) same
    there None is same = cc

pub commit_none : (e : Memory) (s : State) → InMemory e s → e.transaction ≡ None → answer Commit s ≡ (Done, session_ended 1 (forced_where (is_durable 1 s) s))
commit_none e s h own = ap (λ o. commit_of 1 o s) (h.alone.sessions 1 ∙ own)

-- the log of the state behind the end of a transaction
pub closed_same : (d : Bool) (t : ℕ) (s : State) → SameLog (session_ended 1 (forced_where d (closed t s))) (performed (record { entries = CommitEntry t ∷ []; force = d }) s)
unfolding closed all_forced
closed_same true t s = record { settings = refl; found = refl; entries = refl; forced = refl; pages = refl; files = refl }
closed_same false t s = record { settings = refl; found = refl; entries = refl; forced = refl; pages = refl; files = refl }

pub ended_same : (d : Bool) (s : State) → SameLog (session_ended 1 (forced_where d s)) (performed (record { entries = []; force = d }) s)
unfolding all_forced
ended_same true s = record { settings = refl; found = refl; entries = refl; forced = refl; pages = refl; files = refl }
ended_same false s = record { settings = refl; found = refl; entries = refl; forced = refl; pages = refl; files = refl }

-- the end of a transaction is decided so
abbrev Work : Decided → Option Entry → Memory → Type 0
Work d o m = (d.reply ≡ Done) × (d.entry ≡ o) × (d.force ≡ (m.durable_commits || m.next_commit_durable))

abbrev Still : Memory → Memory → Type 0
Still m m' = (m'.next_transaction ≡ m.next_transaction) × (m'.durable_commits ≡ m.durable_commits) × (m'.rows ≡ m.rows)

pub ends_so : (m m' : Memory) (s : State) (d : Decided) → InMemory m s → m.transaction ≡ None → Work d None m → (m'.transaction ≡ None) × (m'.next_commit_durable ≡ false) → Still m m' → IsDecided Commit s d m'
ends_so m m' s d h none work own still =
    let is = commit_none m s h none in
    let c = is_durable 1 s in
    record {
      after = session_ended 1 (forced_where c s);
      answers = inl (work.0 ∙ sym (ap (λ a. a.0) is), sym (ap (λ a. a.1) is));
      memory = stands_ended c m m' s h none own.0 still.0 own.1 still.1 still.2;
      same = work_same d s (session_ended 1 (forced_where c s)) None c work.1 (work.2 ∙ durable_is m s h) (ended_same c s);
    }

none_numbered : (P : ℕ → Type 0) → ForSome None P
none_numbered P = λ x is. absurd (no_some x is)
  where
    no_some : {X : Type 0} (x : X) → None ≡ Some x → ⊥
    no_some x is = cc

pub closes_so : (log : Log) (m m' : Memory) (s : State) (t : ℕ) (d : Decided) → HasEnds log s → InMemory m s → m.transaction ≡ Some t → IsSome (position_of (write_position_of log) (length_of (CommitEntry t)) (file_size_of log))
    → Work d (Some (CommitEntry t)) m → (m'.transaction ≡ None) × (m'.next_commit_durable ≡ false) → Still m m' → IsDecided Commit s d m'
closes_so log m m' s t d ends h mine some work own still =
    let is = commit_done log m s t ends h mine some in
    let c = is_durable 1 s in
    let mid : Memory = record m { transaction = None; numbered = none_numbered _ } in
    let closed_in : InMemory mid (closed t s) = stands_closed m mid s t h mine (record { own = refl; next = refl; wish = refl; durable = refl; rows = refl }) in
    record {
      after = session_ended 1 (forced_where c (closed t s));
      answers = inl (work.0 ∙ sym (ap (λ a. a.0) is), sym (ap (λ a. a.1) is));
      memory = stands_ended c mid m' (closed t s) closed_in refl own.0 still.0 own.1 still.1 still.2;
      same = work_same d s (session_ended 1 (forced_where c (closed t s))) (Some (CommitEntry t)) c work.1 (work.2 ∙ durable_is m s h) (closed_same c t s);
    }

-- a wish, and a flush
pub wished_so : (m m' : Memory) (s : State) (d : Decided) → InMemory m s → (m'.next_commit_durable ≡ true) → (m'.transaction ≡ m.transaction) → Still m m' → (d.reply ≡ Done) → d.entry ≡ None → d.force ≡ false → IsDecided DurableCommit s d m'
wished_so m m' s d h wish own still reply none quiet =
    let after : State = record s { wish = at_one 1 true s.wish } in
    record {
      after = after;
      answers = inl (reply, refl);
      memory = record {
        opened = h.opened;
        grown = h.grown;
        below = h.below;
        numbered = h.numbered;
        alone = subst (λ o. IsAlone o after) (sym own) (record { new_live = h.alone.new_live; all_live = h.alone.all_live; sessions = h.alone.sessions });
        filled = subst (λ o. FillsPlaces o after) (sym own) (record { rows = h.filled.rows; new = h.filled.new; least = h.filled.least });
        next = still.0 ∙ h.next;
        wish = wish;
        durable = still.1 ∙ h.durable;
        origin = h.origin;
        rows = subst (λ (r : Rows). HoldRows r after) (sym still.2) (record { keys = h.rows.keys; below = h.rows.below; free = h.rows.free; above = h.rows.above });
      };
      same = work_same d s after None false none quiet (record { settings = refl; found = refl; entries = refl; forced = refl; pages = refl; files = refl });
    }

pub flushed_so : (m : Memory) (s : State) (d : Decided) → InMemory m s → (d.reply ≡ Done) → d.entry ≡ None → d.force ≡ true → IsDecided Flush s d m
flushed_so m s d h reply none all = record {
  after = all_forced s;
  answers = inl (reply, refl);
  memory = stands_forced m m s h refl refl refl refl refl;
  same = work_same d s (all_forced s) None true none all (record { settings = refl; found = refl; entries = refl; forced = refl; pages = refl; files = refl });
}

-- The trail of a log: what is forced and what isn't, in order.
use Rattle.std.proofs.Common.{◌≡◌, ◌+◌, ◌||◌, ◌⊎◌, inl, inr, ⊎_elim, ℕ, List, [], ◌∷◌, ◌++◌, refl, sym, ap, ◌∙◌, subst, Bool, true, false, append_assoc, Some, None, Ok, Err, if◌then◌else◌, not}
use Rattle.std.specs.Prelude.{IsOk}
use Rattle.std.proofs.lemmas.Option.{same_Some}
use Rattle.tt_record.specs.declared.entry.Entry.{Entry}
use Rattle.tt_value.specs.declared.position.Position.{Position}
use Rattle.tt_record.specs.Entry.{length_of}
use Rattle.tt_log.specs.Lengths.{total}
use Rattle.tt_record.specs.Place.{position_of, next_position, position}
use Rattle.tt_log.specs.declared.log.Log.{Log}
use Rattle.tt_log.specs.Walk.{placed, log_of, with_more, switched}
use Rattle.tt_log.specs.Log.{MayLeaveLogs, CrashLeavesAll, IsOpen, Gave, unforced, write_position_of, walk_end, entries_in, forces_earlier, room_made, forced_of, trail_of}
use Rattle.tt_log.proofs.Walks.{placed_more, Standing}
use Rattle.tt_log.proofs.Forcing.{more_end, more_none}
use Rattle.tt_disk.specs.Volume.{Files, Outcomes}

-- what with_more adds, by where the walk ended
more_entries : (r : Standing) (at : Position) (es : List Entry) → IsOk r → walk_end r ≡ at → entries_in (with_more es r) ≡ entries_in r ++ placed at.file at.offset es
more_entries (Ok found) at es is end = ap (λ (p : Position). found.entries ++ placed p.file p.offset es) end
more_entries (Err e) at es is end = cc

switched_entries : (r : Standing) → entries_in (switched r) ≡ entries_in r
switched_entries (Ok found) = refl
switched_entries (Err e) = refl

switched_ok : (r : Standing) → IsOk r → IsOk (switched r)
switched_ok (Ok found) is = refl
switched_ok (Err e) is = cc

switched_at : (r : Standing) (at : Position) → IsOk r → walk_end r ≡ at → walk_end (switched r) ≡ position (at.file + 1) 0
switched_at (Ok found) at is end = ap (λ (p : Position). position (p.file + 1) 0) end
switched_at (Err e) at is end = cc

placed_one : (b : Bool) (p at : Position) → (if b then Some p else None) ≡ Some at → p ≡ at
placed_one true p at is = same_Some _ _ is
placed_one false p at is = cc

-- where an entry is placed, by the two tests
step : (r : Standing) (waiting : List Entry) (e : Entry) (m base used : ℕ) (fits full : Bool) (at next : Position) → IsOk r → walk_end r ≡ position m base → total waiting ≡ used
    → next ≡ (if fits then position m (base + used) else position (m + 1) 0) → next ≡ at
    → entries_in (with_more ((if (not fits || full) then [] else waiting) ++ e ∷ []) (if not fits then switched (with_more waiting r) else (if full then with_more waiting r else r)))
    ≡ entries_in (with_more waiting r) ++ (at, e) ∷ []
step r waiting e m base used true true at next is end long place same =
    let ends = more_end r m base used waiting is end long in
    more_entries (with_more waiting r) (position m (base + used)) (e ∷ []) ends.0 ends.1 ∙ ap (λ (p : Position). entries_in (with_more waiting r) ++ (p, e) ∷ []) (sym place ∙ same)
step r waiting e m base used true false at next is end long place same =
    more_entries r (position m base) (waiting ++ e ∷ []) is end
    ∙ ap (λ (l : List (Position × Entry)). entries_in r ++ l) (placed_more m base waiting (e ∷ []))
    ∙ sym (append_assoc (entries_in r) (placed m base waiting) ((position m (base + total waiting), e) ∷ []))
    ∙ ap (λ (l : List (Position × Entry)). l ++ (position m (base + total waiting), e) ∷ []) (sym (more_entries r (position m base) waiting is end))
    ∙ ap (λ (k : ℕ). entries_in (with_more waiting r) ++ (position m (base + k), e) ∷ []) long
    ∙ ap (λ (p : Position). entries_in (with_more waiting r) ++ (p, e) ∷ []) (sym place ∙ same)
step r waiting e m base used false full at next is end long place same =
    let ends = more_end r m base used waiting is end long in
    more_entries (switched (with_more waiting r)) (position (m + 1) 0) (e ∷ []) (switched_ok (with_more waiting r) ends.0) (switched_at (with_more waiting r) (position m (base + used)) ends.0 ends.1)
    ∙ ap (λ (l : List (Position × Entry)). l ++ (position (m + 1) 0, e) ∷ []) (switched_entries (with_more waiting r))
    ∙ ap (λ (p : Position). entries_in (with_more waiting r) ++ (p, e) ∷ []) (sym place ∙ same)

pub trail_step : (log log' : Log) (e : Entry) (now now' : Files) (may : Outcomes) (at : Position) → IsOpen log now may → log'.first_file ≡ log.first_file → log_of log.first_file now' ≡ room_made log e (log_of log.first_file now)
    → unforced log' ≡ (if forces_earlier log e then [] else unforced log) ++ e ∷ [] → position_of (write_position_of log) (length_of e) log.file_size ≡ Some at → trail_of log' now' ≡ trail_of log now ++ (at, e) ∷ []
trail_step log log' e now now' may at o first found waits place =
    ap (λ (k : ℕ). entries_in (with_more (unforced log') (log_of k now'))) first
    ∙ ap (λ r. entries_in (with_more (unforced log') r)) found
    ∙ ap (λ es. entries_in (with_more es (room_made log e (log_of log.first_file now)))) waits
    ∙ step (log_of log.first_file now) (unforced log) e log.current_file log.forced_bytes log.buffered _ _ at (next_position (write_position_of log) (length_of e) log.file_size) o.whole o.end o.long refl (placed_one _ _ at place)

forced_by : (r : Standing) (waiting : List Entry) (fits full : Bool) → entries_in (if not fits then switched (with_more waiting r) else (if full then with_more waiting r else r)) ≡ (if (not fits || full) then entries_in (with_more waiting r) else entries_in r)
forced_by r waiting true true = refl
forced_by r waiting true false = refl
forced_by r waiting false full = switched_entries (with_more waiting r)

pub forced_step : (log log' : Log) (e : Entry) (now now' : Files) → log'.first_file ≡ log.first_file → log_of log.first_file now' ≡ room_made log e (log_of log.first_file now) → forced_of log' now' ≡ (if forces_earlier log e then trail_of log now else forced_of log now)
forced_step log log' e now now' first found =
    ap (λ (k : ℕ). entries_in (log_of k now')) first ∙ ap entries_in found ∙ forced_by (log_of log.first_file now) (unforced log) _ _

-- all entries, perhaps up to the start of the next file, in the words of the trail
pub gave_all : (log : Log) (now : Files) (may : Outcomes) (r : Standing) → IsOpen log now may → (r ≡ with_more (unforced log) (log_of log.first_file now)) ⊎ (r ≡ switched (with_more (unforced log) (log_of log.first_file now))) → Gave r (trail_of log now) (write_position_of log)
gave_all log now may r o (inl is) =
    let ends = more_end (log_of log.first_file now) log.current_file log.forced_bytes log.buffered (unforced log) o.whole o.end o.long in
    record { whole = subst (λ q. IsOk q) (sym is) ends.0; entries = ap entries_in is; end = inl (ap walk_end is ∙ ends.1) }
gave_all log now may r o (inr is) =
    let ends = more_end (log_of log.first_file now) log.current_file log.forced_bytes log.buffered (unforced log) o.whole o.end o.long in
    record {
      whole = subst (λ q. IsOk q) (sym is) (switched_ok (with_more (unforced log) (log_of log.first_file now)) ends.0);
      entries = ap entries_in is ∙ switched_entries (with_more (unforced log) (log_of log.first_file now));
      end = inr (ap walk_end is ∙ switched_at (with_more (unforced log) (log_of log.first_file now)) (write_position_of log) ends.0 ends.1);
    }

-- once the entries are forced, a crash leaves all, whatever came of a change of file behind them
pub leaves_all : (log : Log) (now : Files) (may may' : Outcomes) (first : ℕ) (r : Standing) → first ≡ log.first_file → IsOpen log now may → r ≡ with_more (unforced log) (log_of log.first_file now)
    → ((files : Files) → MayLeaveLogs may' files → (log_of first files ≡ r) ⊎ (log_of first files ≡ switched r)) → CrashLeavesAll log now may'
leaves_all log now may may' first r same o is leaves files left =
    subst (λ k. Gave (log_of k files) (trail_of log now) (write_position_of log)) same
    (gave_all log now may (log_of first files) o (⊎_elim (λ e. inl (e ∙ is)) (λ e. inr (e ∙ ap switched is)) (leaves files left)))

-- after a force all is forced
pub all_forced : (log log' : Log) (now now' : Files) → log'.first_file ≡ log.first_file → log_of log.first_file now' ≡ with_more (unforced log) (log_of log.first_file now) → unforced log' ≡ [] → (forced_of log' now' ≡ trail_of log now) × (trail_of log' now' ≡ trail_of log now)
all_forced log log' now now' first found none =
    let forced : forced_of log' now' ≡ trail_of log now = ap (λ (k : ℕ). entries_in (log_of k now')) first ∙ ap entries_in found in (
      forced,
      ap (λ es. entries_in (with_more es (log_of log'.first_file now'))) none ∙ ap entries_in (more_none (log_of log'.first_file now')) ∙ forced,
    )

pub kept_at : (first first' : ℕ) (now : Files) (may : Outcomes) → first' ≡ first → ((files : Files) → MayLeaveLogs may files → log_of first files ≡ log_of first now) → (files : Files) → MayLeaveLogs may files → log_of first' files ≡ log_of first' now
kept_at first first' now may same kept = subst (λ k. (files : Files) → MayLeaveLogs may files → log_of k files ≡ log_of k now) (sym same) kept

-- Writes go on, one after another, up to a failed call.
use Rattle.std.proofs.Common.{◌≡◌, ◌⊎◌, ◌≤◌, ◌+◌, ◌-◌, ◌∙◌, ℕ, suc, Bool, true, false, List, [], ◌∷◌, ◌++◌, length, drop, if◌then◌else◌, refl, sym, ap, ap₂, subst, length-append, append_assoc, arith, map, Option, Some, None}
use Rattle.tt_value.specs.declared.position.Position.{Position}
use Rattle.tt_record.specs.declared.entry.Entry.{Entry}
use Rattle.tt_record.specs.Entry.{length_of}
use Rattle.tt_record.specs.Place.{end_of, position_of, position}
use Rattle.tt_log.specs.declared.log.Log.{Log}
use Rattle.tt_model.specs.Forced.{forced_for, forces_earlier, unforced_length}
use Rattle.tt_model.specs.Opened.{Opened}
use Rattle.tt_model.specs.Trail.{Trail, oldest, trail_end}
use Rattle.tt_model.specs.Entries.{IsPlain}
use Rattle.tt_model.specs.State.{State, all_forced, lengths_fit, placed, trail, with_entry, write_position}
use Rattle.tt_model.specs.Step.{forced_where}
use Rattle.tt_model.specs.WholeRuns.{GoesOn}
use Rattle.tt_model.specs.Works.{with_entries}
use Rattle.tt_journal.specs.FileLaws.{changes_none, changes_then}
use Rattle.tt_journal.specs.LogTrail.{FindsFirst, HasTrail, LeavesPrefix, end_of_first}
use Rattle.tt_journal.specs.Onward.{IsOnward, onward_then, quiet_parts, same_onward}
use Rattle.tt_journal.specs.Journal.{Breaks, CanFollow, Writes, WrittenSoFar}
use Rattle.tt_disk.specs.declared.volume.Volume.{Ghosts}
use Rattle.tt_disk.specs.Volume.{Files, Outcomes}

-- ---- one after another

pub writes_none : {V : Type 0} (g : Ghosts V) (l : Log) (v : V) (s : State) → HasTrail l (g.now v) s → Writes g l v s l v s
writes_none g l v s h = record {
  stands = h;
  kept = λ k. k;
  onward = same_onward s;
  quiet = λ q. refl;
  others = changes_none (write_position s).file (g.now v) (g.may v);
}

pub writes_then : {V : Type 0} (g : Ghosts V) (l : Log) (old : V) (s : State) (l1 : Log) (v : V) (mid : State) (l2 : Log) (new : V) (after : State)
    → Writes g l old s l1 v mid → Writes g l1 v mid l2 new after → Writes g l old s l2 new after
writes_then g l old s l1 v mid l2 new after a b = record {
  stands = b.stands;
  kept = λ k. b.kept (a.kept k);
  onward = onward_then s mid after a.onward b.onward;
  quiet = λ q. let parts = quiet_parts s mid after a.onward b.onward q in b.quiet parts.1 ∙ a.quiet parts.0;
  others = changes_then (write_position s).file (write_position mid).file (g.now old) (g.now v) (g.now new) (g.may old) (g.may v) (g.may new) a.onward.file a.others b.others;
}

least_less : (n m : ℕ) (s : State) (may : Outcomes) → n ≤ m → LeavesPrefix m s may → LeavesPrefix n s may
least_less n m s may more leaves files left = let found = leaves files left in (found.0, let low = found.1 in omega (arith, more, low), found.2)

pub writes_breaks : {V : Type 0} (g : Ghosts V) (l : Log) (old : V) (s : State) (l1 : Log) (v : V) (mid : State) (new : V) (last : State)
    → Writes g l old s l1 v mid → Breaks g l1 v mid new last → Breaks g l old s new last
writes_breaks g l old s l1 v mid new last a b = record {
  crash = λ k. least_less s.forced mid.forced last (g.may new) a.onward.forced (b.crash (a.kept k));
  onward = onward_then s mid last a.onward b.onward;
  moves = λ q. b.moves (quiet_parts s mid last a.onward b.onward q).1;
  others = changes_then (write_position s).file (write_position mid).file (g.now old) (g.now v) (g.now new) (g.may old) (g.may v) (g.may new) a.onward.file a.others b.others;
}

-- ---- a failed call on the way to a state that has more entries

oldest_same : (n : ℕ) (xs ys : Trail) → n ≤ length ys → oldest n (xs ++ ys) ≡ oldest n ys
oldest_same n [] ys below = refl
oldest_same n (x ∷ xs) ys below =
    let long = length-append xs ys in
    let e : suc (length (xs ++ ys)) - n ≡ suc (length (xs ++ ys) - n) = omega (arith, below, long) in
    ap (λ k. drop k (x ∷ (xs ++ ys))) e ∙ oldest_same n xs ys below

joined_behind : (xs ys zs fs gs : Trail) → zs ≡ xs ++ ys → gs ≡ fs → zs ++ gs ≡ xs ++ (ys ++ fs)
joined_behind xs ys zs fs gs is same = ap₂ (λ (a b : Trail). a ++ b) is same ∙ append_assoc xs ys fs

whole_trail : (s more : State) → (x : GoesOn s more) → trail more ≡ x.newer ++ trail s
whole_trail s more x = joined_behind x.newer s.entries more.entries s.found.entries more.found.entries x.entries (ap (λ (g : Opened). g.entries) x.found)

finds_more : (n : ℕ) (s more : State) (files : Files) → length s.found.entries ≤ n → GoesOn s more → FindsFirst n s files → FindsFirst n more files
finds_more n s more files low x f =
    let whole = whole_trail s more x in
    let long = length-append x.newer (trail s) in
    let l = ap (λ (t : Trail). length t) whole in
    let most = f.most in
    let parts = length-append s.entries s.found.entries in
    let new : n - length s.found.entries ≤ length s.entries = omega (arith, low, most, parts) in
    let end : end_of_first n more ≡ end_of_first n s =
    ap (λ (g : Opened). trail_end g.end (oldest (n - length g.entries) more.entries)) x.found
    ∙ ap (λ (t : Trail). trail_end s.found.end (oldest (n - length s.found.entries) t)) x.entries
    ∙ ap (λ (t : Trail). trail_end s.found.end t) (oldest_same (n - length s.found.entries) x.newer s.entries new) in
    record {
      most = omega (arith, most, long, l);
      found = f.found;
      is = f.is;
      entries = f.entries ∙ sym (ap (λ (t : Trail). oldest n t) whole ∙ oldest_same n x.newer (trail s) most);
      end = subst (λ p. (f.found.end ≡ p) ⊎ (f.found.end ≡ position (p.file + 1) 0)) (sym end) f.end;
    }

pub breaks_more : {V : Type 0} (g : Ghosts V) (log : Log) (old : V) (s : State) (new : V) (last more : State) → length last.found.entries ≤ s.forced
    → Breaks g log old s new last → GoesOn last more → IsOnward last more → Breaks g log old s new more
breaks_more g log old s new last more low breaks x onward = record {
  crash = λ k files left. let found = breaks.crash k files left in (found.0, found.1, finds_more found.0 last more files (let least = found.1 in omega (arith, low, least)) x found.2);
  onward = onward_then s last more breaks.onward onward;
  moves = λ q. breaks.moves (quiet_parts s last more breaks.onward onward q).0;
  others = breaks.others;
}

-- ---- entries go on

moved_least : (c : Bool) (t : Trail) (forced : ℕ) → forced ≤ length t → forced ≤ (if c then length t else forced)
moved_least true t forced most = most
moved_least false t forced most = omega arith

moved_most : (c : Bool) (t : Trail) (forced : ℕ) → forced ≤ length t → (if c then length t else forced) ≤ length t
moved_most true t forced most = omega arith
moved_most false t forced most = most

place_onward : (end : Position) (c : Bool) → end.file ≤ (if c then end else position (end.file + 1) 0).file
place_onward end true = omega arith
place_onward end false = omega arith

-- What entries keep and add.
pub record Follows (s after : State) : Type 0 where
  pub onward : IsOnward s after
  pub goes : GoesOn s after
  pub most : after.forced ≤ length (trail after)

pub entry_follows : (e : Entry) (s : State) → s.forced ≤ length (trail s) → Follows s (with_entry e s)
unfolding with_entry forced_for
entry_follows e s most =
    let c = forces_earlier s.settings.log_file_size s.settings.log_buf_size (write_position s) (unforced_length s.forced (trail s)) (length_of e) in
    let least = moved_least c (trail s) s.forced most in
    let below = moved_most c (trail s) s.forced most in
    record {
      onward = record { found = refl; forced = least; file = place_onward (write_position s) _ };
      goes = record { found = refl; newer = placed e s ∷ []; entries = refl; forced = λ h. least };
      most = omega (arith, below);
    }

pub all_follows : (s : State) → s.forced ≤ length (trail s) → Follows s (all_forced s)
unfolding all_forced
all_follows s most = record {
  onward = record { found = refl; forced = most; file = omega arith };
  goes = record { found = refl; newer = []; entries = refl; forced = λ h. most };
  most = omega arith;
}

pub same_follows : (s : State) → s.forced ≤ length (trail s) → Follows s s
same_follows s most = record { onward = same_onward s; goes = record { found = refl; newer = []; entries = refl; forced = λ h. omega arith }; most = most }

pub follows_then : (s mid after : State) → Follows s mid → Follows mid after → Follows s after
follows_then s mid after a b =
    let one = a.onward.forced in
    let two = b.onward.forced in
    record {
      onward = onward_then s mid after a.onward b.onward;
      goes = record {
        found = b.goes.found ∙ a.goes.found;
        newer = b.goes.newer ++ a.goes.newer;
        entries = b.goes.entries ∙ ap (λ (t : Trail). b.goes.newer ++ t) a.goes.entries ∙ sym (append_assoc b.goes.newer a.goes.newer s.entries);
        forced = λ h. omega (arith, one, two);
      };
      most = b.most;
    }

pub entries_follow : (es : List Entry) (s : State) → s.forced ≤ length (trail s) → Follows s (with_entries es s)
entries_follow [] s most = same_follows s most
entries_follow (e ∷ es) s most =
    let one = entry_follows e s most in
    follows_then s (with_entry e s) (with_entries es (with_entry e s)) one (entries_follow es (with_entry e s) one.most)

pub where_follows : (c : Bool) (s : State) → s.forced ≤ length (trail s) → Follows s (forced_where c s)
where_follows true s most = all_follows s most
where_follows false s most = same_follows s most

-- ---- entries written so far

pub so_far_none : {V : Type 0} (g : Ghosts V) (l : Log) (v : V) (s : State) (all : List Entry) → HasTrail l (g.now v) s → WrittenSoFar g l v s l v (all, all)
so_far_none g l v s all h = record { mid = s; writes = writes_none g l v s h; same = refl }

pub so_far_more : {V : Type 0} (g : Ghosts V) (l : Log) (old : V) (s : State) (l1 : Log) (v : V) (l2 : Log) (new : V) (all left : List Entry) (e : Entry) (rest : List Entry)
    → WrittenSoFar g l old s l1 v (all, left) → left ≡ e ∷ rest → ((mid : State) → HasTrail l1 (g.now v) mid → Writes g l1 v mid l2 new (with_entry e mid))
    → WrittenSoFar g l old s l2 new (all, rest)
so_far_more g l old s l1 v l2 new all left e rest so is one = record {
  mid = with_entry e so.mid;
  writes = writes_then g l old s l1 v so.mid l2 new (with_entry e so.mid) so.writes (one so.mid so.writes.stands);
  same = so.same ∙ ap (λ es. with_entries es so.mid) is;
}

pub so_far_all : {V : Type 0} (g : Ghosts V) (l : Log) (old : V) (s : State) (l1 : Log) (v : V) (all left : List Entry)
    → WrittenSoFar g l old s l1 v (all, left) → left ≡ [] → Writes g l old s l1 v (with_entries all s)
so_far_all g l old s l1 v all left so is =
    subst (λ (x : State). Writes g l old s l1 v x) (sym (so.same ∙ ap (λ es. with_entries es so.mid) is)) so.writes

pub so_far_breaks : {V : Type 0} (g : Ghosts V) (l : Log) (old : V) (s : State) (l1 : Log) (v : V) (new : V) (all left : List Entry) (e : Entry) (rest : List Entry)
    → HasTrail l (g.now old) s → WrittenSoFar g l old s l1 v (all, left) → left ≡ e ∷ rest → ((mid : State) → HasTrail l1 (g.now v) mid → Breaks g l1 v mid new (with_entry e mid))
    → Breaks g l old s new (with_entries all s)
so_far_breaks g l old s l1 v new all left e rest h so is one =
    let last : State = with_entry e so.mid in
    let first = entry_follows e so.mid so.writes.stands.bounds.1 in
    let more = entries_follow rest last first.most in
    let whole = writes_breaks g l old s l1 v so.mid new last so.writes (one so.mid so.writes.stands) in
    let low : length last.found.entries ≤ s.forced = subst (λ (f : Opened). length f.entries ≤ s.forced) (sym whole.onward.found) h.bounds.0 in
    subst (λ (x : State). Breaks g l old s new x) (sym (so.same ∙ ap (λ es. with_entries es so.mid) is))
    (breaks_more g l old s new last (with_entries rest last) low whole more.goes more.onward)

-- ---- then a force, or none

pub then_forced : {V : Type 0} (g : Ghosts V) (l : Log) (old : V) (s : State) (new : V) (last : State) (c : Bool)
    → HasTrail l (g.now old) s → last.forced ≤ length (trail last) → Breaks g l old s new last → Breaks g l old s new (forced_where c last)
then_forced g l old s new last c h most b =
    let more = where_follows c last most in
    let low : length last.found.entries ≤ s.forced = subst (λ (f : Opened). length f.entries ≤ s.forced) (sym b.onward.found) h.bounds.0 in
    breaks_more g l old s new last (forced_where c last) low b more.goes more.onward

-- ---- entries that may follow

fits_first : (size : ℕ) (o : Option Position) (n : ℕ) (ns : List ℕ) → (elim o [ None ↦ false | Some at ↦ lengths_fit size (end_of at n) ns ]) ≡ true → (elim o [ None ↦ false | Some at ↦ true ]) ≡ true
fits_first size None n ns is = is
fits_first size (Some at) n ns is = refl

pub first_follows : (size : ℕ) (end : Position) (left : List Entry) (e : Entry) (rest : List Entry) → CanFollow size end left → left ≡ e ∷ rest
    → IsPlain e × (lengths_fit size end (length_of e ∷ map length_of rest) ≡ true)
first_follows size end left e rest can is = let c : CanFollow size end (e ∷ rest) = subst (λ es. CanFollow size end es) is can in (c.entries.0, c.places)

pub first_fits : (size : ℕ) (end : Position) (n : ℕ) (ns : List ℕ) → lengths_fit size end (n ∷ ns) ≡ true → lengths_fit size end (n ∷ []) ≡ true
first_fits size end n ns is = fits_first size (position_of end n size) n ns is

pub rest_follows : (size size' : ℕ) (end end' : Position) (left : List Entry) (e : Entry) (rest : List Entry) → CanFollow size end left → left ≡ e ∷ rest
    → ((ns : List ℕ) → lengths_fit size end (length_of e ∷ ns) ≡ true → lengths_fit size' end' ns ≡ true) → CanFollow size' end' rest
rest_follows size size' end end' left e rest can is behind =
    let c : CanFollow size end (e ∷ rest) = subst (λ es. CanFollow size end es) is can in
    record { entries = c.entries.1; places = behind (map length_of rest) c.places }

pub fewer_left : (left : List Entry) (e : Entry) (rest : List Entry) → left ≡ e ∷ rest → suc (length rest) ≡ length left
fewer_left left e rest is = sym (ap length is)

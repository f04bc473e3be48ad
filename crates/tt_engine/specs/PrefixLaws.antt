-- A prefix of the trail that the walk through the files finds is what opening finds.
use Rattle.std.proofs.Common.{◌≡◌, ◌≤◌, ◌-◌, ◌∙◌, ℕ, Bool, true, false, List, [], ◌∷◌, ◌++◌, length, drop, map, Option, Some, None, if◌then◌else◌, refl, sym, ap, ap₂, subst, length-append, arith}
use Rattle.std.proofs.lemmas.List.{drop-append-le}
use Rattle.tt_disk.specs.declared.volume.Name.{Name}
use Rattle.tt_disk.specs.Volume.{Files}
use Rattle.tt_value.specs.declared.position.Position.{Position}
use Rattle.tt_value.specs.declared.reply.Hold.{Hold}
use Rattle.tt_record.specs.Place.{position}
use Rattle.tt_model.specs.Trail.{Trail, oldest, position_le, position_lt, since}
use Rattle.tt_model.specs.Committed.{Cells, committed, no_cells}
use Rattle.tt_model.specs.Live.{next_number}
use Rattle.tt_model.specs.Opened.{Opened, scan_of}
use Rattle.tt_model.specs.Holds.{checkpoint_hold, holds_of, least_hold_of, least_of}
use Rattle.tt_model.specs.Prefix.{StandsForFirst, found_hold, from_file}
use Rattle.tt_model.specs.Standing.{standing}
use Rattle.tt_model.specs.State.{State, bound, trail}
use Rattle.tt_model.specs.Steady.{IsGrown}
use Rattle.tt_recover.specs.Laws.{next_again, oldest_opens_again}
use Rattle.tt_model.specs.StepLaws.{AreNumberedFrom}
use Rattle.tt_recover.specs.Opening.{opened_from, opened_of, newest_first, opening}
use Rattle.tt_journal.specs.LogTrail.{FindsFirst, LeavesPrefix}
use Rattle.tt_engine.specs.Prefixes.{IsBehindFound, LeavesOpening}

-- the first entries are all that were found, and the first new ones
oldest_parts : (n : ℕ) (es found : Trail) → length found ≤ n → n ≤ length (es ++ found) → oldest n (es ++ found) ≡ oldest (n - length found) es ++ found
oldest_parts n es found low high =
    let long = length-append es found in
    let same : length (es ++ found) - n ≡ length es - (n - length found) = omega (arith, long, low, high) in
    ap (λ k. drop k (es ++ found)) same ∙ drop-append-le (length es - (n - length found)) es found (omega arith)

-- the next number of entries from their own next number on
number_kept : (k : ℕ) (es : Trail) → next_number 1 es ≤ k → next_number k es ≡ k
unfolding next_number
number_kept k [] low = refl
number_kept k (e ∷ es) low = let rest = number_kept k es (omega (arith, low)) in omega (arith, rest, low)

pub number_again : (es : Trail) → next_number (next_number 1 es) es ≡ next_number 1 es
number_again es = number_kept (next_number 1 es) es (omega arith)

-- ---- the least hold is the log's beginning

from_origin : (p : Position) → position_le (position 0 0) p ≡ true
from_origin p = grind arith

pub since_origin : (es : Trail) → since (position 0 0) es ≡ es
since_origin [] = refl
since_origin (e ∷ es) = ap (λ b. if b then e ∷ since (position 0 0) es else []) (from_origin e.at) ∙ ap (λ l. e ∷ l) (since_origin es)

-- Where the first checkpoint file is read from the log's beginning on, nothing is held before that.

origin_least : (q : Position) (b : Bool) → position_lt (position 0 0) q ≡ b → (if b then position 0 0 else q) ≡ position 0 0
origin_least q true is = refl
origin_least q false is = ap₂ position (let file : q.file ≡ 0 = grind (arith, is) in file) (let offset : q.offset ≡ 0 = grind (arith, is) in offset)

held_first : (o : Option Position) (more : List Hold) (end : Position) → o ≡ Some (position 0 0) → least_hold_of end (checkpoint_hold 0 o ++ more) ≡ position 0 0
held_first (Some p) more end is =
    ap (λ (o : Option Position). least_hold_of end (checkpoint_hold 0 o ++ more)) is ∙ origin_least (least_of end (map (λ (h : Hold). h.at) more)) _ refl
held_first None more end is = cc

pub origin_hold : (scans : ℕ → Option Position) (places : ℕ) (cells : Cells) (t : Trail) (end : Position) → scans 0 ≡ Some (position 0 0) → least_hold_of end (holds_of scans places cells t) ≡ position 0 0
unfolding holds_of
origin_hold scans places cells t end is = held_first (scans 0) _ end is

hold_file : (bound : ℕ) (es : Trail) (end : Position) → (found_hold bound (opened_from es end)).file ≡ 0
hold_file bound es end = ap (λ (p : Position). p.file) (origin_hold (λ file. scan_of ((opened_from es end).heads file)) bound (standing no_cells es) [] end refl)

held_all : (bound : ℕ) (es : Trail) (end : Position) (t : Trail) → from_file (found_hold bound (opened_from es end)) t ≡ t
held_all bound es end t = ap (λ f. since (position f 0) t) (hold_file bound es end) ∙ since_origin t

-- ---- the prefix

pub stands_for : (n : ℕ) (s : State) (files : Files) → IsBehindFound s → length s.found.entries ≤ n → (f : FindsFirst n s files) → StandsForFirst n s (opened_from (newest_first f.found.entries) f.found.end)
stands_for n s files b low f =
    let es = newest_first f.found.entries in
    let old = s.found.entries in
    let parts : es ≡ oldest (n - length old) s.entries ++ old = f.entries ∙ oldest_parts n s.entries old low f.most in
    let base : s.found.cells ≡ standing no_cells old = ap (λ (g : Opened). g.cells) b.found in
    let number : s.found.next ≡ next_number 1 old = ap (λ (g : Opened). g.next) b.found in
    record {
      least = low;
      most = f.most;
      cells = λ q.
          ap (λ (t : Trail). standing no_cells t q) parts
          ∙ oldest_opens_again old s.entries (n - length old) q (subst (λ (c : Cells). IsGrown c s.entries) base b.grown) (subst (λ k. AreNumberedFrom k s.entries) number b.numbered)
          ∙ ap (λ (c : Cells). committed c (oldest (n - length old) s.entries) q) (sym base);
      entries = f.entries ∙ sym (held_all (bound s) es f.found.end (oldest n (trail s)));
      end = f.end;
      next =
          ap (next_number 1) parts ∙ next_again 1 old (oldest (n - length old) s.entries)
          ∙ ap (λ k. next_number k (oldest (n - length old) s.entries)) (sym (number_again old))
          ∙ sym (next_again (next_number 1 old) old (oldest (n - length old) s.entries))
          ∙ ap (λ k. next_number k (oldest (n - length old) s.entries ++ old)) (sym number)
          ∙ ap (next_number s.found.next) (sym parts ∙ f.entries);
    }

-- Where the walk finds a prefix in every map that a crash may leave, opening does.
pub prefix_opens : (least : ℕ) (s : State) (may : Name → Option (List ℕ) → Type 0) → IsBehindFound s → length s.found.entries ≤ least → LeavesPrefix least s may → LeavesOpening least s may
unfolding opening
prefix_opens least s may b low leaves files left =
    let p = leaves files left in
    let f = p.2 in
    (opened_from (newest_first f.found.entries) f.found.end, ap opened_of f.is, (p.0, p.1, stands_for p.0 s files b (let more = p.1 in omega (arith, low, more)) f))

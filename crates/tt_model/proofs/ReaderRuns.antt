-- What the reads of a session give in a run.
use Rattle.std.proofs.Common.{◌≡◌, ◌⊎◌, ◌≤◌, ◌<◌, ◌+◌, ◌-◌, inl, inr, ℕ, zero, suc, Bool, true, false, cond, ◌&&◌, nat_eq, List, [], ◌∷◌, ◌++◌, map, filter, length, take, drop, Option, Some, None, unwrap_or, refl, sym, ap, ◌∙◌, subst, arith}
use Rattle.std.proofs.lemmas.Bool.{eq-eqb, eqb-true, or_left, or_right, or_cases, and_parts, both_ways, false_from_ne_true}
use Rattle.std.proofs.lemmas.List.{take-append-drop, drop-append-le, length-drop, map-append}
use Rattle.std.proofs.Math.Seq.{drop-append_seam}
use Rattle.std.specs.Prelude.{Result, Ok, Err, is_some, option_map}
use Rattle.std.specs.List.{list_any}
use Rattle.tt_value.specs.declared.position.Position.{Position}
use Rattle.tt_value.specs.declared.refusal.Refusal.{Refusal}
use Rattle.tt_value.specs.declared.reply.Reply.{Reply}
use Rattle.tt_value.specs.declared.refusal.Refusal.TheVariants.{BookmarkBusy, NoMemory}
use Rattle.tt_value.specs.declared.reply.Reply.TheVariants.{Done as DoneReply, Updates, Refused}
use Rattle.tt_value.specs.declared.reply.Update.{Update}
use Rattle.tt_record.specs.Place.{position}
use Rattle.tt_record.specs.declared.entry.Entry.{Entry}
use Rattle.tt_record.specs.declared.entry.Entry.TheVariants.{Change, Commit, Abort, Mark, Switch}
use Rattle.tt_parse.specs.declared.command.Command.{Command}
use Rattle.tt_parse.specs.declared.command.Command.TheVariants.{XlaOpen, XlaNext, XlaClose}
use Rattle.tt_model.specs.Trail.{Trail, Placed, IsOrdered, position_le, placed_end, trail_end, oldest}
use Rattle.tt_model.specs.Opened.{Opened}
use Rattle.tt_model.specs.Tables.{Subscribed, PlacedRow, subscriptions_of, Catalog}
use Rattle.tt_model.specs.Due.{Done, DueChange, is_subscribed, is_last, name_in, marked, counted, after_skip, open_changes, due_of, due, read_to}
use Rattle.tt_model.specs.State.{State, Reader, ReadPlace, Underway, at_one, trail, new_among, force_position, cells_of, bound, catalog}
use Rattle.tt_model.specs.Sound.{IsSound}
use Rattle.tt_model.specs.System.{bookmark, reader_on}
use Rattle.tt_model.specs.Checkpoint.{copied, with_copies}
use Rattle.tt_model.specs.Step.{Step, Answered, Answers, WantsMemory, answer, line, given, closed, reader_opened, open_at, refused, unless_refused, with_reader, kept_read, all_due, next_read_of, no_skip, given_to}
use Rattle.tt_model.specs.Run.{Line}
use Rattle.tt_model.specs.WholeRuns.{IsInOrder, updates_in, is_read, given_by, all_given, IsReading, RunReading, due_from, ReadersGoInOrder}
use Rattle.tt_model.proofs.OrderLemmas.{le_trans, lt-le, le_self}
use Rattle.tt_model.proofs.LowLemmas.{AllBefore}
use Rattle.tt_model.proofs.DueLemmas.{assoc, fewer-all}
use Rattle.tt_model.proofs.ReaderLemmas.{AllFrom, own_end, older_before, due-append, extra, read-onward}
use Rattle.tt_model.proofs.GrowLemmas.{Grows, grows-same, grows-then, grows-step, readers-with_copies, readers-completion_after, readers-command, readers-memory}

-- ---- parts of a trail

count-append : (xs ys : Trail) → length (xs ++ ys) ≡ length xs + length ys
count-append [] ys = omega arith
count-append (x ∷ xs) ys = let e : length (xs ++ ys) ≡ length xs + length ys = count-append xs ys in omega (arith, e)

-- The first n of a longer trail, where these are no fewer than the older ones.
oldest-append : (n : ℕ) (xs ys : Trail) → length ys ≤ n → oldest n (xs ++ ys) ≡ oldest (n - length ys) xs ++ ys
oldest-append n xs ys l =
    let count : length (xs ++ ys) ≡ length xs + length ys = count-append xs ys in
    let few : length (xs ++ ys) - n ≤ length xs = omega (arith, count, l) in
    let same : length (xs ++ ys) - n ≡ length xs - (n - length ys) = omega (arith, count, l) in
    drop-append-le (length (xs ++ ys) - n) xs ys few ∙ ap (λ k. drop k xs ++ ys) same

ordered-drop : (base : Position) (n : ℕ) (xs : Trail) → IsOrdered base xs → IsOrdered base (drop n xs)
ordered-drop base zero xs o = o
ordered-drop base (suc n) [] o = o
ordered-drop base (suc n) (x ∷ xs) o = ordered-drop base n xs (o.1)

-- Entries in order behind the end of others in order.
ordered-joined : (base end : Position) (xs ys : Trail) → IsOrdered end xs → IsOrdered base ys → position_le (trail_end base ys) end ≡ true → IsOrdered base (xs ++ ys)
ordered-joined base end [] ys o p l = p
ordered-joined base end (x ∷ []) ys o p l = (le_trans (trail_end base ys) end x.at l (o.0), p)
ordered-joined base end (x ∷ y ∷ xs) ys o p l = (o.0, ordered-joined base end (y ∷ xs) ys (o.1) p l)

-- Newer entries stand at or behind the end of the older ones.
newer_from_end : (base : Position) (xs ys : Trail) → IsOrdered base (xs ++ ys) → AllFrom (trail_end base ys) xs × (position_le (trail_end base ys) (trail_end base (xs ++ ys)) ≡ true)
newer_from_end base [] ys o = (tt, le_self (trail_end base ys))
newer_from_end base (x ∷ xs) ys o =
    let rest : AllFrom (trail_end base ys) xs × (position_le (trail_end base ys) (trail_end base (xs ++ ys)) ≡ true) = newer_from_end base xs ys (o.1) in
    let here : position_le (trail_end base ys) x.at ≡ true = le_trans (trail_end base ys) (trail_end base (xs ++ ys)) x.at (rest.1) (o.0) in
    ((here, rest.0), le_trans (trail_end base ys) x.at (placed_end x) here (lt-le x.at (placed_end x) (own_end x)))

end_of_parts : (base end : Position) (xs ys : Trail) → position_le (trail_end base ys) end ≡ true → position_le (trail_end base (xs ++ ys)) (trail_end end xs) ≡ true
end_of_parts base end [] ys l = l
end_of_parts base end (x ∷ xs) ys l = le_self (placed_end x)

-- ---- the log of a state

pub record LogInOrder (s : State) : Type 0 where
  pub found : IsInOrder s.found
  pub ordered : IsOrdered s.found.end s.entries
  pub least : length s.found.entries ≤ s.forced
  pub most : s.forced ≤ length (trail s)

in_order-sound : (s : State) → IsSound s → IsInOrder s.found → LogInOrder s
in_order-sound s h f = record { found = f; ordered = (h.entries).ordered; least = (h.entries).forced_least; most = (h.entries).forced_most }

in_order-grows : (s after : State) → LogInOrder s → Grows s after → LogInOrder after
in_order-grows s after i g =
    let up : s.forced ≤ after.forced = (g.forced i.most).0 in
    let low : length s.found.entries ≤ s.forced = i.least in
    record {
      found = subst IsInOrder (sym g.found) i.found;
      ordered = g.ordered i.ordered;
      least = subst (λ (x : Opened). length x.entries ≤ after.forced) (sym g.found) (omega (arith, up, low));
      most = (g.forced i.most).1;
    }

-- How the forced part of a state lies in that of a later one.
pub record Lies (s after : State) (older : Trail) : Type 0 where
  pub more : Trail
  pub newer : Trail
  pub older_is : oldest s.forced (trail s) ≡ older
  pub whole_is : oldest after.forced (trail after) ≡ more ++ older
  pub trail_is : trail s ≡ newer ++ older
  pub whole_in_order : IsOrdered (position 0 0) (more ++ older)
  pub trail_in_order : IsOrdered (position 0 0) (newer ++ older)
  pub later : AllFrom (force_position s) more
  pub newer_later : AllFrom (force_position s) newer
  pub forced : AllBefore (force_position s) older

module _ (s after : State) (i : LogInOrder s) (g : Grows s after) where
  abbrev found_part : Trail
  found_part = s.found.entries

  abbrev forced_new : Trail
  forced_new = new_among s.forced s

  abbrev count_new : ℕ
  count_new = s.forced - length found_part

  abbrev unforced : Trail
  unforced = take (length s.entries - count_new) s.entries

  entries_are : s.entries ≡ unforced ++ forced_new
  entries_are = sym (take-append-drop (length s.entries - count_new) s.entries)

  new_count : length forced_new ≤ count_new
  new_count =
      let e : length forced_new ≡ length s.entries - (length s.entries - count_new) = length-drop (length s.entries - count_new) s.entries in
      omega (arith, e)

  later_entries : after.entries ≡ (g.newer ++ unforced) ++ forced_new
  later_entries = g.entries ∙ (ap (g.newer ++◌) entries_are ∙ sym (assoc g.newer unforced forced_new))

  abbrev later_count : ℕ
  later_count = after.forced - length found_part

  abbrev more_forced : Trail
  more_forced = oldest (later_count - length forced_new) (g.newer ++ unforced)

  later_forced : oldest later_count after.entries ≡ more_forced ++ forced_new
  later_forced =
      let up : s.forced ≤ after.forced = (g.forced i.most).0 in
      let few : length forced_new ≤ count_new = new_count in
      ap (oldest later_count) later_entries ∙ oldest-append later_count (g.newer ++ unforced) forced_new (omega (arith, up, few))

  later_in_order : IsOrdered s.found.end (more_forced ++ forced_new)
  later_in_order =
      subst (IsOrdered s.found.end) later_forced
      (ordered-drop s.found.end (length after.entries - later_count) after.entries (subst (λ (x : Opened). IsOrdered x.end after.entries) g.found (g.ordered i.ordered)))

  now_in_order : IsOrdered s.found.end (unforced ++ forced_new)
  now_in_order = subst (IsOrdered s.found.end) entries_are i.ordered

  abbrev all_forced_now : Trail
  all_forced_now = forced_new ++ found_part

  whole_order : (xs : Trail) → IsOrdered s.found.end (xs ++ forced_new) → IsOrdered (position 0 0) (xs ++ all_forced_now)
  whole_order xs o =
      subst (IsOrdered (position 0 0)) (assoc xs forced_new found_part)
      (ordered-joined (position 0 0) s.found.end (xs ++ forced_new) found_part o i.found.ordered i.found.before_end)

  later_whole : oldest after.forced (trail after) ≡ more_forced ++ all_forced_now
  later_whole =
      let up : s.forced ≤ after.forced = (g.forced i.most).0 in
      let low : length found_part ≤ s.forced = i.least in
      ap (λ (x : Opened). oldest after.forced (after.entries ++ x.entries)) g.found
      ∙ (oldest-append after.forced after.entries found_part (omega (arith, up, low))
      ∙ (ap (λ (xs : Trail). xs ++ found_part) later_forced ∙ assoc more_forced forced_new found_part))

  pub lies : Lies s after all_forced_now
  lies = record {
    more = more_forced;
    newer = unforced;
    older_is = oldest-append s.forced s.entries found_part i.least;
    whole_is = later_whole;
    trail_is = ap (λ (xs : Trail). xs ++ found_part) entries_are ∙ assoc unforced forced_new found_part;
    whole_in_order = whole_order more_forced later_in_order;
    trail_in_order = whole_order unforced now_in_order;
    later = (newer_from_end s.found.end more_forced forced_new later_in_order).0;
    newer_later = (newer_from_end s.found.end unforced forced_new now_in_order).0;
    forced = older_before (position 0 0) (force_position s) all_forced_now
        (whole_order [] (subst (IsOrdered s.found.end) refl (ordered-drop s.found.end (length s.entries - count_new) s.entries i.ordered)))
        (end_of_parts (position 0 0) s.found.end forced_new found_part i.found.before_end);
  }

-- What is due of a later state begins with what was due; and behind a read it is what was due after what the read gave.
pub record Read (s after : State) (place : ReadPlace) (n : ℕ) (subscriptions : List Subscribed) (catalog : Catalog) : Type 0 where
  pub more : List DueChange
  pub longer : due place subscriptions catalog (oldest after.forced (trail after)) ≡ due place subscriptions catalog (oldest s.forced (trail s)) ++ more
  pub onward : due (read_to place n (force_position s) (trail s) (take n (due place subscriptions catalog (oldest s.forced (trail s))))) subscriptions catalog (oldest after.forced (trail after))
      ≡ drop (length (take n (due place subscriptions catalog (oldest s.forced (trail s))))) (due place subscriptions catalog (oldest after.forced (trail after)))

read-lies : (s after : State) (older : Trail) (place : ReadPlace) (n : ℕ) (subscriptions : List Subscribed) (catalog : Catalog) → Lies s after older → Read s after place n subscriptions catalog
read-lies s after older place n subscriptions catalog l = record {
  more = extra subscriptions catalog place l.more older;
  longer = ap (due place subscriptions catalog) l.whole_is
      ∙ (due-append subscriptions catalog place l.more older ∙ ap (λ (xs : Trail). due place subscriptions catalog xs ++ extra subscriptions catalog place l.more older) (sym l.older_is));
  onward =
      ap (λ (xs : Trail). due (read_to place n (force_position s) (trail s) (take n (due place subscriptions catalog xs))) subscriptions catalog (oldest after.forced (trail after))) l.older_is
      ∙ (ap (λ (xs : Trail). due (read_to place n (force_position s) xs (take n (due place subscriptions catalog older))) subscriptions catalog (oldest after.forced (trail after))) l.trail_is
      ∙ (ap (due (read_to place n (force_position s) (l.newer ++ older) (take n (due place subscriptions catalog older))) subscriptions catalog) l.whole_is
      ∙ (read-onward subscriptions catalog (position 0 0) (force_position s) place n older l.more l.newer l.whole_in_order l.trail_in_order l.later l.newer_later l.forced
      ∙ (ap (λ (xs : Trail). drop (length (take n (due place subscriptions catalog older))) (due place subscriptions catalog xs)) (sym l.whole_is)
      ∙ ap (λ (xs : Trail). drop (length (take n (due place subscriptions catalog xs))) (due place subscriptions catalog (oldest after.forced (trail after)))) (sym l.older_is)))));
}

pub read-later : (s after : State) (place : ReadPlace) (n : ℕ) (subscriptions : List Subscribed) (catalog : Catalog) → LogInOrder s → Grows s after → Read s after place n subscriptions catalog
read-later s after place n subscriptions catalog i g = read-lies s after _ place n subscriptions catalog (lies s after i g)

-- ---- names of tables

-- Two catalogs have the same names for the subscribed tables.
abbrev SameNames : List Subscribed → Catalog → Catalog → Type 0
SameNames subscriptions c d = (table : ℕ) → list_any (λ (x : Subscribed). nat_eq x.table table) subscriptions ≡ true → name_in c table ≡ name_in d table

subscribed-table : (table : ℕ) (p : Subscribed → Bool) (xs : List Subscribed) → list_any (λ (x : Subscribed). nat_eq x.table table && p x) xs ≡ true → list_any (λ (x : Subscribed). nat_eq x.table table) xs ≡ true
subscribed-table table p [] h = h
subscribed-table table p (x ∷ xs) h = elim (or_cases (nat_eq x.table table && p x) (list_any (λ (y : Subscribed). nat_eq y.table table && p y) xs) h) [
  | inl y ↦ or_left (nat_eq x.table table) (list_any (λ (y : Subscribed). nat_eq y.table table) xs) ((and_parts (nat_eq x.table table) (p x) y).0)
  | inr y ↦ or_right (nat_eq x.table table) (list_any (λ (y : Subscribed). nat_eq y.table table) xs) (subscribed-table table p xs y)
]

abbrev AllNamed : Catalog → Catalog → List (ℕ × Done) → Type 0
AllNamed c d [] = Unit {0}
AllNamed c d (x ∷ xs) = (name_in c ((x.1).table) ≡ name_in d ((x.1).table)) × AllNamed c d xs

named_step : (c d : Catalog) (f : (ℕ × Done) → Bool) (x : ℕ × Done) (xs : List (ℕ × Done)) → (f x ≡ true → name_in c ((x.1).table) ≡ name_in d ((x.1).table)) → AllNamed c d (filter f xs) →
    (b : Bool) → f x ≡ b → AllNamed c d (cond b (x ∷ filter f xs) (filter f xs))
named_step c d f x xs n ih true e = (n e, ih)
named_step c d f x xs n ih false e = ih

all_named : (subscriptions : List Subscribed) (commit : Position) (c d : Catalog) → SameNames subscriptions c d → (xs : List (ℕ × Done)) → AllNamed c d (filter (is_subscribed subscriptions commit) xs)
all_named subscriptions commit c d n [] = tt
all_named subscriptions commit c d n (x ∷ xs) =
    named_step c d (is_subscribed subscriptions commit) x xs (λ y. n ((x.1).table) (subscribed-table ((x.1).table) (λ (s : Subscribed). position_le s.since commit) subscriptions y))
    (all_named subscriptions commit c d n xs) (is_subscribed subscriptions commit x) refl

marked-same : (c d : Catalog) (t : ℕ) (e : Placed) (first : Bool) (xs : List (ℕ × Done)) → AllNamed c d xs → marked c t e first xs ≡ marked d t e first xs
marked-same c d t e first [] n = refl
marked-same c d t e first (x ∷ xs) n =
    ap (λ (name : List ℕ). one name ∷ marked c t e false xs) (n.0) ∙ ap (one (name_in d ((x.1).table)) ∷◌) (marked-same c d t e false xs (n.1))
  where
    one : List ℕ → DueChange
    one name = record {
      count = x.0;
      commit = e.at;
      end = placed_end e;
      given = record { first = first; last = is_last xs; transaction = t; table = name; edit = (x.1).edit };
    }

due_of-same : (place : ReadPlace) (subscriptions : List Subscribed) (c d : Catalog) → SameNames subscriptions c d → (e : Placed) (x : Entry) (es : Trail) →
    due_of place subscriptions c e x es ≡ due_of place subscriptions d e x es
due_of-same place subscriptions c d n e (Commit t) es =
    ap (λ (ds : List DueChange). cond (position_le place.at e.at) (filter (after_skip place) ds) [])
    (marked-same c d t e true (filter (is_subscribed subscriptions e.at) (counted 0 (open_changes place.hold t es))) (all_named subscriptions e.at c d n (counted 0 (open_changes place.hold t es))))
due_of-same place subscriptions c d n e (Change t p b a) es = refl
due_of-same place subscriptions c d n e (Abort t) es = refl
due_of-same place subscriptions c d n e Mark es = refl
due_of-same place subscriptions c d n e (Switch f) es = refl

-- What is due names just the subscribed tables.
due-same : (place : ReadPlace) (subscriptions : List Subscribed) (c d : Catalog) → SameNames subscriptions c d → (es : Trail) → due place subscriptions c es ≡ due place subscriptions d es
unfolding due
due-same place subscriptions c d n [] = refl
due-same place subscriptions c d n (e ∷ es) =
    ap (λ (ds : List DueChange). ds ++ due_of place subscriptions c e e.entry es) (due-same place subscriptions c d n es)
    ∙ ap (due place subscriptions d es ++◌) (due_of-same place subscriptions c d n e e.entry es)

-- ---- what a line does to a reader

-- The line is a read of the session, or it leaves its reader.
pub record OwnRead (session : ℕ) (l : Line) (reply : Reply) (s : State) (r now : Reader) : Type 0 where
  pub count : ℕ
  pub gave : given_by session l reply ≡ map (λ (d : DueChange). d.given) (take count (all_due r s))
  pub place : now.place ≡ next_read_of r count s

pub record NoRead (session : ℕ) (l : Line) (reply : Reply) (r now : Reader) : Type 0 where
  pub gave : given_by session l reply ≡ []
  pub same : now ≡ r

abbrev Does : ℕ → Line → Reply → State → Reader → Reader → Type 0
Does session l reply s r now = OwnRead session l reply s r now ⊎ NoRead session l reply r now

some_reader : (a b : Reader) → Some a ≡ Some b → a ≡ b
some_reader a b h = ap (λ o. unwrap_or o a) h

no_second : (c : Bool) (us : List Update) → cond (c && false) us [] ≡ []
no_second true us = refl
no_second false us = refl

left : (session : ℕ) (l : Line) (reply : Reply) (s : State) (r now : Reader) (before after : ℕ → Option Reader) → given_by session l reply ≡ [] → before session ≡ Some r → after session ≡ Some now →
    after session ≡ before session → Does session l reply s r now
left session l reply s r now before after g b a same = inr (record { gave = g; same = some_reader now r (sym a ∙ (same ∙ b)) })

flip : (a b : ℕ) → nat_eq a b ≡ false → nat_eq b a ≡ false
flip a b n = false_from_ne_true (nat_eq b a) (λ y. both_ways (nat_eq a b) n (eq-eqb a b (sym (eqb-true b a y))))

-- another session's reader changes
elsewhere : (session other : ℕ) (x : Option Reader) (readers : ℕ → Option Reader) → nat_eq session other ≡ false → at_one other x readers session ≡ readers session
elsewhere session other x readers n = ap (λ c. cond c x (readers session)) n

-- a refused read gives nothing
nothing : (c : Bool) → ◌≡◌ {A = List Update} (cond (c && true) [] []) []
nothing true = refl
nothing false = refl

-- a read: of the session, or of another one, or refused
given_does : (session who n : ℕ) (s : State) (r now x : Reader) → s.reader who ≡ Some x → s.reader session ≡ Some r → ((given_to who x n s).1).reader session ≡ Some now → (c : Bool) → nat_eq who session ≡ c →
    Does session (record { session = who; what = Ok (XlaNext n) }) ((given_to who x n s).0) s r now
given_does session who n s r now x e h k false d =
    left session _ _ s r now s.reader (((given_to who x n s).1).reader)
    (ap (λ b. cond (b && true) (map (λ (u : DueChange). u.given) (take n (all_due x s))) []) d) h k
    (elsewhere session who (Some (record x { place = next_read_of x n s })) s.reader (flip who session d))
given_does session who n s r now x e h k true d =
    let mine : x ≡ r = some_reader x r (sym e ∙ (ap s.reader (eqb-true who session d) ∙ h)) in
    let there : Some (record x { place = next_read_of x n s }) ≡ Some now
    = sym (ap (λ c. cond c (Some (record x { place = next_read_of x n s })) (s.reader session)) (eq-eqb session who (sym (eqb-true who session d)))) ∙ k in
    inl (record {
      count = n;
      gave = ap (λ b. cond (b && true) (map (λ (u : DueChange). u.given) (take n (all_due x s))) []) d ∙ ap (λ (y : Reader). map (λ (u : DueChange). u.given) (take n (all_due y s))) mine;
      place = ap (λ (y : Reader). y.place) (sym (some_reader (record x { place = next_read_of x n s }) now there)) ∙ ap (λ (y : Reader). next_read_of y n s) mine;
    })

unless_does : (session who n : ℕ) (s : State) (r now x : Reader) (o : Option Refusal) → s.reader who ≡ Some x → s.reader session ≡ Some r → ((unless_refused o (given_to who x n s) s).1).reader session ≡ Some now
    → Does session (record { session = who; what = Ok (XlaNext n) }) ((unless_refused o (given_to who x n s) s).0) s r now
unless_does session who n s r now x None e h k = given_does session who n s r now x e h k (nat_eq who session) refl
unless_does session who n s r now x (Some refusal) e h k = left session _ _ s r now s.reader s.reader (nothing (nat_eq who session)) h k refl

read_does : (session who n : ℕ) (s : State) (r now : Reader) (o : Option Reader) → s.reader who ≡ o → s.reader session ≡ Some r → ((given who o n s).1).reader session ≡ Some now →
    Does session (record { session = who; what = Ok (XlaNext n) }) ((given who o n s).0) s r now
read_does session who n s r now None e h k = left session _ _ s r now s.reader s.reader (nothing (nat_eq who session)) h k refl
read_does session who n s r now (Some x) e h k = unless_does session who n s r now x (no_skip (next_read_of x n s)) e h k

-- an open: of the session, which has a reader, it is refused
open_leaves : (session who : ℕ) (name : List ℕ) (s : State) (o : Option PlacedRow) → nat_eq session who ≡ false → ((open_at who name o s).1).reader session ≡ s.reader session
open_leaves session who name s None n = refl
open_leaves session who name s (Some r) n = unless_leaves (option_map BookmarkBusy (reader_on name s)) n
  where
    unless_leaves : (busy : Option Refusal) → nat_eq session who ≡ false →
        ((unless_refused busy (DoneReply, with_reader who (Some (record { bookmark = name; place = kept_read r })) s) s).1).reader session ≡ s.reader session
    unless_leaves None n = elsewhere session who (Some (record { bookmark = name; place = kept_read r })) s.reader n
    unless_leaves (Some b) n = refl

opened_leaves : (session who : ℕ) (name : List ℕ) (s : State) (r : Reader) → s.reader session ≡ Some r → (c : Bool) → nat_eq session who ≡ c → ((reader_opened who name s).1).reader session ≡ s.reader session
opened_leaves session who name s r h true e =
    ap (λ (x : Answered). (x.1).reader session)
    (ap (λ c. cond c (refused (BookmarkBusy who) s) (open_at who name (bookmark name s) s)) (ap is_some (ap s.reader (sym (eqb-true session who e)) ∙ h)))
opened_leaves session who name s r h false e = by_open (is_some (s.reader who))
  where
    by_open : (c : Bool) → ((cond c (refused (BookmarkBusy who) s) (open_at who name (bookmark name s) s)).1).reader session ≡ s.reader session
    by_open true = refl
    by_open false = open_leaves session who name s (bookmark name s) e

-- a close: of the session, it leaves no reader
closed_leaves : (session who : ℕ) (s : State) (now : Reader) (o : Option Reader) → ((closed who o s).1).reader session ≡ Some now → (c : Bool) → nat_eq session who ≡ c → ((closed who o s).1).reader session ≡ s.reader session
closed_leaves session who s now None k c e = refl
closed_leaves session who s now (Some x) k true e =
    let no : None ≡ Some now = sym (ap (λ c. cond c None (s.reader session)) e) ∙ k in let absurdity : ⊥ = cc in absurd absurdity
closed_leaves session who s now (Some x) k false e = elsewhere session who None s.reader e

command_does : (session who : ℕ) (command : Command) (s : State) (r now : Reader) → s.reader session ≡ Some r → ((line who command s).1).reader session ≡ Some now →
    Does session (record { session = who; what = Ok command }) ((line who command s).0) s r now
unfolding line
command_does session who (XlaNext n) s r now h k = read_does session who n s r now (s.reader who) refl h k
command_does session who (XlaOpen name) s r now h k =
    left session _ _ s r now s.reader (((reader_opened who name s).1).reader) (no_second (nat_eq who session) _) h k (opened_leaves session who name s r h (nat_eq session who) refl)
command_does session who XlaClose s r now h k =
    left session _ _ s r now s.reader (((closed who (s.reader who) s).1).reader) (no_second (nat_eq who session) _) h k (closed_leaves session who s now (s.reader who) k (nat_eq session who) refl)
command_does session who command s r now h k =
    left session _ _ s r now s.reader (((line who command s).1).reader) (no_second (nat_eq who session) _) h k (ap (λ (f : ℕ → Option Reader). f session) (readers-command who command s refl))

nothing_given : (c : Bool) → cond c (updates_in (Refused NoMemory)) [] ≡ []
nothing_given true = refl
nothing_given false = refl

answers_do : (session : ℕ) (l : Line) (s : State) (reply : Reply) (after : State) (r now : Reader) → s.reader session ≡ Some r → after.reader session ≡ Some now →
    Answers l.session l.what s reply after → Does session l reply s r now
answers_do session l s reply after r now h k (inr w) =
    left session l reply s r now s.reader after.reader (no_gift l.what w) h k (ap (λ (f : ℕ → Option Reader). f session) (readers-memory l.session l.what s reply after w))
  where
    no_gift : (what : Result Command Refusal) → WantsMemory l.session what s reply after → cond (nat_eq l.session session && is_read l.what) (updates_in reply) [] ≡ []
    no_gift (Err x) w = absurd w
    no_gift (Ok command) w = ap (λ (x : Reply). cond (nat_eq l.session session && is_read l.what) (updates_in x) []) (w.1) ∙ nothing_given (nat_eq l.session session && is_read l.what)
answers_do session l s reply after r now h k (inl t) = by_what l.what (t.0) (ap (λ (x : State). x.reader session) (sym (t.1)) ∙ k)
  where
    by_what : (what : Result Command Refusal) → reply ≡ (answer l.session what s).0 → ((answer l.session what s).1).reader session ≡ Some now →
        Does session (record { session = l.session; what = what }) reply s r now
    by_what (Ok command) e m =
        subst (λ (x : Reply). Does session (record { session = l.session; what = Ok command }) x s r now) (sym e) (command_does session l.session command s r now h m)
    by_what (Err x) e m = left session (record { session = l.session; what = Err x }) reply s r now s.reader s.reader (no_second (nat_eq l.session session) (updates_in reply)) h m refl

-- ---- a round

due_copied : (n : ℕ) (o : Option Underway) (s : State) (r : Reader) → all_due r (copied n o s) ≡ all_due r s
due_copied n None s r = refl
due_copied n (Some b) s r = refl

due-with_copies : (s : State) (r : Reader) → all_due r (with_copies s) ≡ all_due r s
unfolding with_copies
due-with_copies s r = due_copied s.settings.ckpt_pages s.underway s r

place_copied : (n : ℕ) (o : Option Underway) (s : State) (r : Reader) (count : ℕ) → next_read_of r count (copied n o s) ≡ next_read_of r count s
place_copied n None s r count = refl
place_copied n (Some b) s r count = refl

place-with_copies : (s : State) (r : Reader) (count : ℕ) → next_read_of r count (with_copies s) ≡ next_read_of r count s
unfolding with_copies
place-with_copies s r count = place_copied s.settings.ckpt_pages s.underway s r count

uncopied : (session : ℕ) (l : Line) (reply : Reply) (s : State) (r now : Reader) → Does session l reply (with_copies s) r now → Does session l reply s r now
uncopied session l reply s r now (inr none) = inr none
uncopied session l reply s r now (inl read) = inl (record {
  count = read.count;
  gave = read.gave ∙ ap (λ (ds : List DueChange). map (λ (d : DueChange). d.given) (take read.count ds)) (due-with_copies s r);
  place = read.place ∙ place-with_copies s r read.count;
})

round_does : (session : ℕ) (l : Line) (s : State) (reply : Reply) (mid : State) (r now : Reader) → s.reader session ≡ Some r → mid.reader session ≡ Some now →
    Step s l.session l.what reply mid → Does session l reply s r now
round_does session l s reply mid r now h k st =
    uncopied session l reply s r now
    (answers_do session l (with_copies s) reply st.between r now
    (ap (λ (f : ℕ → Option Reader). f session) (readers-with_copies s) ∙ h)
    (sym (ap (λ (f : ℕ → Option Reader). f session) (ap (λ (x : State). x.reader) st.is ∙ readers-completion_after s.underway st.between)) ∙ k)
    st.line)

-- ---- a run

abbrev gifts : List DueChange → List Update
gifts ds = map (λ (d : DueChange). d.given) ds

taken_first : (n : ℕ) (xs ys : List DueChange) → take n xs ++ drop (length (take n xs)) (xs ++ ys) ≡ xs ++ ys
taken_first n xs ys =
    let whole : take n xs ++ (drop n xs ++ ys) ≡ xs ++ ys = sym (assoc (take n xs) (drop n xs) ys) ∙ ap (λ (zs : List DueChange). zs ++ ys) (take-append-drop n xs) in
    ap (λ (zs : List DueChange). take n xs ++ drop (length (take n xs)) zs) (sym whole)
    ∙ (ap (take n xs ++◌) (drop-append_seam (take n xs) (drop n xs ++ ys)) ∙ whole)

same_names : (session : ℕ) (subscriptions : List Subscribed) (names : ℕ → List ℕ) (s after : State) → IsReading session subscriptions names s → IsReading session subscriptions names after →
    SameNames subscriptions (catalog s) (catalog after)
same_names session subscriptions names s after a b table h = a.named table h ∙ sym (b.named table h)

-- What the reader of a state is due, with the names of a later one.
own_due : (session : ℕ) (subscriptions : List Subscribed) (names : ℕ → List ℕ) (s after : State) (r : Reader) → s.reader session ≡ Some r →
    IsReading session subscriptions names s → IsReading session subscriptions names after → all_due r s ≡ due r.place subscriptions (catalog after) (oldest s.forced (trail s))
own_due session subscriptions names s after r h a b =
    let same : r ≡ a.reader = some_reader r a.reader (sym h ∙ a.is_open) in
    ap (λ (xs : List Subscribed). due r.place xs (catalog s) (oldest s.forced (trail s))) (ap (λ (x : Reader). subscriptions_of x.bookmark (bound s) (cells_of s)) same ∙ a.subscribed)
    ∙ due-same r.place subscriptions (catalog s) (catalog after) (same_names session subscriptions names s after a b) (oldest s.forced (trail s))

-- One line gives the first of what is due, and leaves the rest.
line_due : (session : ℕ) (subscriptions : List Subscribed) (names : ℕ → List ℕ) (l : Line) (reply : Reply) (s mid after : State) (r now : Reader) → LogInOrder s → Grows s after →
    s.reader session ≡ Some r → IsReading session subscriptions names s → IsReading session subscriptions names after → Does session l reply s r now →
    due_from r.place subscriptions after ≡ given_by session l reply ++ due_from now.place subscriptions after
line_due session subscriptions names l reply s mid after r now i g h a b (inr none) =
    ap (λ (x : Reader). due_from x.place subscriptions after) (sym none.same) ∙ ap (λ (us : List Update). us ++ due_from now.place subscriptions after) (sym none.gave)
line_due session subscriptions names l reply s mid after r now i g h a b (inl own) =
    let due_now : List DueChange = due r.place subscriptions (catalog after) (oldest s.forced (trail s)) in
    let later : List DueChange = due r.place subscriptions (catalog after) (oldest after.forced (trail after)) in
    let read : Read s after r.place own.count subscriptions (catalog after) = read-later s after r.place own.count subscriptions (catalog after) i g in
    let same : all_due r s ≡ due_now = own_due session subscriptions names s after r h a b in
    let first : List DueChange = take own.count due_now in
    let place : now.place ≡ read_to r.place own.count (force_position s) (trail s) first
    = own.place ∙ ap (λ (ds : List DueChange). read_to r.place own.count (force_position s) (trail s) (take own.count ds)) same in
    let rest : due now.place subscriptions (catalog after) (oldest after.forced (trail after)) ≡ drop (length first) later
    = ap (λ (p : ReadPlace). due p subscriptions (catalog after) (oldest after.forced (trail after))) place ∙ read.onward in
    let whole : later ≡ first ++ drop (length first) later
    = read.longer ∙ (sym (taken_first own.count due_now read.more) ∙ ap (λ (ds : List DueChange). first ++ drop (length first) ds) (sym read.longer)) in
    ap gifts whole
    ∙ (map-append (λ (d : DueChange). d.given) first (drop (length first) later)
    ∙ (ap (λ (ds : List DueChange). gifts first ++ gifts ds) (sym rest)
    ∙ ap (λ (us : List Update). us ++ due_from now.place subscriptions after) (sym (own.gave ∙ ap (λ (ds : List DueChange). gifts (take own.count ds)) same))))

first_reading : (session : ℕ) (subscriptions : List Subscribed) (names : ℕ → List ℕ) (lines : List Line) (replies : List Reply) (s after : State) →
    RunReading session subscriptions names s lines replies after → IsReading session subscriptions names s
first_reading session subscriptions names [] [] s after run = run.1
first_reading session subscriptions names (l ∷ ls) (r ∷ rs) s after run = run.0
first_reading session subscriptions names [] (r ∷ rs) s after run = absurd run
first_reading session subscriptions names (l ∷ ls) [] s after run = absurd run

last_reading : (session : ℕ) (subscriptions : List Subscribed) (names : ℕ → List ℕ) (lines : List Line) (replies : List Reply) (s after : State) →
    RunReading session subscriptions names s lines replies after → IsReading session subscriptions names after
last_reading session subscriptions names [] [] s after run = subst (IsReading session subscriptions names) (sym (run.0)) (run.1)
last_reading session subscriptions names (l ∷ ls) (r ∷ rs) s after run = last_reading session subscriptions names ls rs ((run.1).0) after ((run.1).2)
last_reading session subscriptions names [] (r ∷ rs) s after run = absurd run
last_reading session subscriptions names (l ∷ ls) [] s after run = absurd run

run_grows : (session : ℕ) (subscriptions : List Subscribed) (names : ℕ → List ℕ) (lines : List Line) (replies : List Reply) (s after : State) →
    RunReading session subscriptions names s lines replies after → Grows s after
run_grows session subscriptions names [] [] s after run = subst (Grows s) (sym (run.0)) (grows-same s)
run_grows session subscriptions names (l ∷ ls) (r ∷ rs) s after run =
    let mid : State = (run.1).0 in
    grows-then s mid after (grows-step s l.session l.what r mid ((run.1).1)) (run_grows session subscriptions names ls rs mid after ((run.1).2))
run_grows session subscriptions names [] (r ∷ rs) s after run = absurd run
run_grows session subscriptions names (l ∷ ls) [] s after run = absurd run

-- What was due at the start is what the reads gave and what is due then.
run_due : (session : ℕ) (subscriptions : List Subscribed) (names : ℕ → List ℕ) (lines : List Line) (replies : List Reply) (s after : State) (r last : Reader) → LogInOrder s →
    s.reader session ≡ Some r → after.reader session ≡ Some last → RunReading session subscriptions names s lines replies after →
    due_from r.place subscriptions after ≡ all_given session lines replies ++ due_from last.place subscriptions after
run_due session subscriptions names [] [] s after r last i h k run =
    ap (λ (x : Reader). due_from x.place subscriptions after) (some_reader r last (sym h ∙ (ap (λ (x : State). x.reader session) (sym (run.0)) ∙ k)))
run_due session subscriptions names (l ∷ ls) (reply ∷ rs) s after r last i h k run =
    let mid : State = (run.1).0 in
    let st : Step s l.session l.what reply mid = (run.1).1 in
    let rest : RunReading session subscriptions names mid ls rs after = (run.1).2 in
    let there : IsReading session subscriptions names mid = first_reading session subscriptions names ls rs mid after rest in
    let grown : Grows s mid = grows-step s l.session l.what reply mid st in
    let later : Grows s after = grows-then s mid after grown (run_grows session subscriptions names ls rs mid after rest) in
    line_due session subscriptions names l reply s mid after r there.reader i later h (run.0) (last_reading session subscriptions names ls rs mid after rest)
    (round_does session l s reply mid r there.reader h there.is_open st)
    ∙ (ap (given_by session l reply ++◌) (run_due session subscriptions names ls rs mid after there.reader last (in_order-grows s mid i grown) there.is_open k rest)
    ∙ sym (assoc (given_by session l reply) (all_given session ls rs) (due_from last.place subscriptions after)))
run_due session subscriptions names [] (reply ∷ rs) s after r last i h k run = absurd run
run_due session subscriptions names (l ∷ ls) [] s after r last i h k run = absurd run

-- A read that gives fewer gave all.
updates_same : (us vs : List Update) → Updates us ≡ Updates vs → us ≡ vs
updates_same us vs h = ap updates_in h

read_gave : (session n : ℕ) (us : List Update) (s : State) (r : Reader) (o : Option Reader) → o ≡ Some r → Updates us ≡ (given session o n s).0 → us ≡ gifts (take n (all_due r s))
read_gave session n us s r None e h = let no : ⊥ = cc in absurd no
read_gave session n us s r (Some x) e h = by (no_skip (next_read_of x n s)) h
  where
    by : (o : Option Refusal) → Updates us ≡ (unless_refused o (given_to session x n s) s).0 → us ≡ gifts (take n (all_due r s))
    by None h = updates_same us _ h ∙ ap (λ (y : Reader). gifts (take n (all_due y s))) (some_reader x r e)
    by (Some refusal) h = let no : ⊥ = cc in absurd no

count-gifts : (ds : List DueChange) → length (gifts ds) ≡ length ds
count-gifts [] = refl
count-gifts (d ∷ ds) = ap suc (count-gifts ds)

fewer_gifts : (n : ℕ) (ds : List DueChange) (us : List Update) → us ≡ gifts (take n ds) → length us < n → us ≡ gifts ds
fewer_gifts n ds us e l =
    let count : length us ≡ length (take n ds) = ap length e ∙ count-gifts (take n ds) in
    e ∙ ap gifts (fewer-all n ds (omega (arith, count, l)))

given_all : (session n : ℕ) (us : List Update) (s after : State) (r : Reader) → s.reader session ≡ Some r → Step s session (Ok (XlaNext n)) (Updates us) after → length us < n → us ≡ gifts (all_due r s)
unfolding line
given_all session n us s after r h st l = elim st.line [
  | inr w ↦ let refused : Updates us ≡ Refused NoMemory = w.1 in let no : ⊥ = cc in absurd no
  | inl t ↦
      let open_one : (with_copies s).reader session ≡ Some r = ap (λ (f : ℕ → Option Reader). f session) (readers-with_copies s) ∙ h in
      fewer_gifts n (all_due r (with_copies s)) us (read_gave session n us (with_copies s) r ((with_copies s).reader session) open_one (t.0)) l ∙ ap gifts (due-with_copies s r)
]

pub readers_go_in_order : ReadersGoInOrder
readers_go_in_order = record {
  first = λ session subscriptions names s lines replies after r h f is run.
      let last : IsReading session subscriptions names after = last_reading session subscriptions names lines replies s after run in
      (due_from last.reader.place subscriptions after, run_due session subscriptions names lines replies s after r last.reader (in_order-sound s h f) is last.is_open run);
  all = λ session subscriptions names s lines replies mid r n us after h f is run st l.
      let last : IsReading session subscriptions names mid = last_reading session subscriptions names lines replies s mid run in
      run_due session subscriptions names lines replies s mid r last.reader (in_order-sound s h f) is last.is_open run
      ∙ ap (all_given session lines replies ++◌)
      (sym (given_all session n us mid after last.reader last.is_open st l ∙ ap gifts (own_due session subscriptions names mid mid last.reader last.is_open last last)));
}

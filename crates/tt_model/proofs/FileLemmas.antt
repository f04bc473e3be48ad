-- Which log files are there: lines only add files, and a completion keeps those from the least hold on.
use Rattle.std.proofs.Common.{◌≡◌, ◌≤◌, inl, inr, ℕ, zero, suc, Bool, true, false, not, cond, ◌&&◌, ◌||◌, nat_eq, List, [], ◌∷◌, filter, length, drop, Option, Some, None, refl, sym, ap, ◌∙◌, subst, arith, true≢false, le_refl}
use Rattle.std.specs.Prelude.{◌==◌, option_map, is_some, is_none, Result, Ok, Err}
use Rattle.std.specs.Option.{option_or}
use Rattle.std.proofs.lemmas.List.{drop_all}
use Rattle.std.proofs.lemmas.Bool.{and_parts, both_ways}
use Rattle.tt_value.specs.declared.refusal.Refusal.{Refusal}
use Rattle.tt_value.specs.declared.reply.Reply.{Reply}
use Rattle.tt_parse.specs.declared.command.Command.{Command}
use Rattle.tt_parse.specs.declared.command.Command.TheVariants.{Ckpt, CkptBlocking}
use Rattle.tt_value.specs.declared.refusal.Refusal.TheVariants.{CkptOpen}
use Rattle.tt_record.specs.declared.entry.Entry.{Entry}
use Rattle.tt_model.specs.Live.{numbers_from}
use Rattle.tt_model.specs.State.{State, Underway, at_one, placed, next, live_in, with_entry, all_forced}
use Rattle.tt_model.specs.Checkpoint.{begin_checkpoint, begun_in, copied, with_copies, with_all_copies, complete_where_due, completed, with_completion, files_kept, stale_pages, other_file}
use Rattle.tt_model.specs.Step.{Step, Answered, Answers, WantsMemory, answer, line, unless_refused, is_refused, checkpoint_open, no_checkpoint_number, least_open, begun_reply, completion_after}
use Rattle.tt_model.specs.Run.{has_position, ended_one, roll_all, ended}
use Rattle.tt_model.proofs.LineRelation.{is_checkpoint, line-through, rolled-through}
use Rattle.tt_model.specs.WholeRuns.{is_blocking, completes, LogFilesAreKept}

-- Files are added, and the checkpoint under way stays as it is.
pub record Adds (s after : State) : Type 0 where
  pub files : (n : ℕ) → s.files n ≡ true → after.files n ≡ true
  pub underway : after.underway ≡ s.underway

adds-same : (s : State) → Adds s s
adds-same s = record { files = λ n h. h; underway = refl }

adds-then : (s mid after : State) → Adds s mid → Adds mid after → Adds s after
adds-then s mid after a b = record { files = λ n h. b.files n (a.files n h); underway = b.underway ∙ a.underway }

one_more : (n k : ℕ) (files : ℕ → Bool) → files n ≡ true → at_one k true files n ≡ true
one_more n k files h = chosen (nat_eq n k)
  where
    chosen : (c : Bool) → cond c true (files n) ≡ true
    chosen true = refl
    chosen false = h

pub adds-with_entry : (e : Entry) (s : State) → Adds s (with_entry e s)
unfolding with_entry
adds-with_entry e s = record { files = λ n h. one_more n ((placed e s).at.file) s.files h; underway = refl }

adds-all_forced : (s : State) → Adds s (all_forced s)
unfolding all_forced
adds-all_forced s = record { files = λ n h. h; underway = refl }

-- Every line that begins and ends no checkpoint adds files.
adds-line : (session : ℕ) (command : Command) (s : State) → is_checkpoint command ≡ false → Adds s ((line session command s).1)
adds-line session command s n =
    line-through Adds true adds-same adds-then adds-with_entry adds-all_forced (λ own wish sets s. record { files = λ n h. h; underway = refl })
    (λ y reader s. record { files = λ n h. h; underway = refl }) session command s n (λ y. refl)

-- ---- completions

-- The log files that are there are those from the file of the least hold to the current one.
abbrev pub AreKept : State → Type 0
AreKept s = (n : ℕ) → s.files n ≡ files_kept s n

kept-completed : (b : Underway) (s : State) → AreKept (completed b s)
unfolding completed all_forced
kept-completed b s n = refl

fewer_pages : (f : ℕ → Bool) (xs : List ℕ) → length (filter f xs) ≤ length xs
fewer_pages f [] = le_refl 0
fewer_pages f (x ∷ xs) = one (fewer_pages f xs) (f x)
  where
    one : length (filter f xs) ≤ length xs → (c : Bool) → length (cond c (x ∷ filter f xs) (filter f xs)) ≤ suc (length xs)
    one ih true = omega (arith, ih)
    one ih false = omega (arith, ih)

count_from : (n from : ℕ) → length (numbers_from n from) ≡ n
count_from zero from = refl
count_from (suc n) from = ap suc (count_from n (suc from))

pub none_left : (s : State) → drop s.pages (stale_pages (other_file s) s) ≡ []
none_left s =
    let few : length (stale_pages (other_file s) s) ≤ length (numbers_from s.pages 0) = fewer_pages (s.stale (other_file s)) (numbers_from s.pages 0) in
    let count : length (numbers_from s.pages 0) ≡ s.pages = count_from s.pages 0 in
    drop_all s.pages (stale_pages (other_file s) s) (omega (arith, few, count))

kept_where_none : (b : Underway) (s : State) (c : Bool) → c ≡ true → AreKept (cond c (completed b s) s)
kept_where_none b s true h = kept-completed b s
kept_where_none b s false h = absurd (true≢false (sym h))

-- A blocking checkpoint that isn't refused completes.
kept-blocking : (s : State) → AreKept (with_completion (with_all_copies (begin_checkpoint s)))
unfolding with_completion with_all_copies begin_checkpoint
kept-blocking s =
    kept_where_none (record (begun_in s) { left = drop s.pages (stale_pages (other_file s) s) }) (with_all_copies (begin_checkpoint s))
    (length (drop s.pages (stale_pages (other_file s) s)) == 0) (ap (λ (ps : List ℕ). length ps == 0) (none_left s))

-- ---- a round that finds no checkpoint under way

abbrev AddsFiles : State → State → Type 0
AddsFiles s after = (n : ℕ) → s.files n ≡ true → after.files n ≡ true

-- What a line leaves where it completes a checkpoint, and where it doesn't.
pub record Leaves (what : Result Command Refusal) (reply : Reply) (s after : State) : Type 0 where
  pub kept : (is_blocking what && not (is_refused reply)) ≡ true → AreKept after
  pub added : (is_blocking what && not (is_refused reply)) ≡ false → AddsFiles s after

leaves-blocking : (o : Option Refusal) (s : State) →
    let a : Answered = unless_refused o (begun_reply s, with_completion (with_all_copies (begin_checkpoint s))) s in Leaves (Ok CkptBlocking) (a.0) s (a.1)
leaves-blocking None s = record { kept = λ h. kept-blocking s; added = λ h. absurd (true≢false h) }
leaves-blocking (Some r) s = record { kept = λ h. absurd (true≢false (sym h)); added = λ h n k. k }

adds_files-begun : (o : Option Refusal) (s : State) → AddsFiles s ((unless_refused o (begun_reply s, begin_checkpoint s) s).1)
unfolding begin_checkpoint
adds_files-begun None s n h = h
adds_files-begun (Some r) s n h = h

leaves-adds : (what : Result Command Refusal) (reply : Reply) (s after : State) → is_blocking what ≡ false → AddsFiles s after → Leaves what reply s after
leaves-adds what reply s after n a = record {
  kept = λ h. absurd (both_ways (is_blocking what) n ((and_parts (is_blocking what) (not (is_refused reply)) h).0));
  added = λ h. a;
}

leaves-line : (session : ℕ) (command : Command) (s : State) → Leaves (Ok command) ((line session command s).0) s ((line session command s).1)
unfolding line
leaves-line session CkptBlocking s = leaves-blocking (option_or (checkpoint_open s) (option_or (least_open (live_in s)) (no_checkpoint_number s))) s
leaves-line session Ckpt s = leaves-adds (Ok Ckpt) _ s _ refl (adds_files-begun (option_or (checkpoint_open s) (no_checkpoint_number s)) s)
leaves-line session command s = leaves-adds (Ok command) _ s _ refl (adds-line session command s refl).files

leaves-answer : (session : ℕ) (what : Result Command Refusal) (s : State) → Leaves what ((answer session what s).0) s ((answer session what s).1)
leaves-answer session (Ok command) s = leaves-line session command s
leaves-answer session (Err r) s = leaves-adds (Err r) _ s s refl (λ n h. h)

leaves-memory : (session : ℕ) (what : Result Command Refusal) (s : State) (reply : Reply) (after : State) → WantsMemory session what s reply after →
    (is_refused reply ≡ true) × Adds s after
leaves-memory session (Err r) s reply after w = absurd w
leaves-memory session (Ok command) s reply after w = (
  ap is_refused (w.1),
  elim (w.2) [
    | inl same ↦ subst (Adds s) (sym same) (adds-same s)
    | inr forced ↦ subst (Adds s) (sym (forced.1)) (adds-all_forced s)
  ],
)

refused_leaves : (what : Result Command Refusal) (reply : Reply) (s after : State) → is_refused reply ≡ true → AddsFiles s after → Leaves what reply s after
refused_leaves what reply s after r a = record {
  kept = λ h. absurd (both_ways (is_refused reply) (not_true (is_refused reply) ((and_parts (is_blocking what) (not (is_refused reply)) h).1)) r);
  added = λ h. a;
}
  where
    not_true : (c : Bool) → not c ≡ true → c ≡ false
    not_true true h = sym h
    not_true false h = refl

leaves-answers : (session : ℕ) (what : Result Command Refusal) (s : State) (reply : Reply) (after : State) → Answers session what s reply after → Leaves what reply s after
leaves-answers session what s reply after (inl t) =
    subst (λ (r : Reply). Leaves what r s after) (sym (t.0)) (subst (Leaves what ((answer session what s).0) s) (sym (t.1)) (leaves-answer session what s))
leaves-answers session what s reply after (inr w) =
    let m : (is_refused reply ≡ true) × Adds s after = leaves-memory session what s reply after w in refused_leaves what reply s after (m.0) (m.1).files

-- ---- a round that finds one under way

-- A line leaves it under way: no other one begins.
pub record Goes (what : Result Command Refusal) (reply : Reply) (s after : State) : Type 0 where
  pub adds : Adds s after
  pub open_one : (is_blocking what && not (is_refused reply)) ≡ false

never : (c : Bool) → (c && false) ≡ false
never true = refl
never false = refl

goes-refused : (command : Command) (b : Underway) (o : Option Underway) (more : Option Refusal) (reply : Reply) (after s : State) → o ≡ Some b →
    let a : Answered = unless_refused (option_or (option_map (λ (x : Underway). CkptOpen x.number) o) more) (reply, after) s in Goes (Ok command) (a.0) s (a.1)
goes-refused command b None more reply after s e = let no : ⊥ = cc in absurd no
goes-refused command b (Some x) more reply after s e = record { adds = adds-same s; open_one = never (is_blocking (Ok command)) }

goes-line : (session : ℕ) (command : Command) (b : Underway) (s : State) → s.underway ≡ Some b → Goes (Ok command) ((line session command s).0) s ((line session command s).1)
unfolding line
goes-line session CkptBlocking b s u = goes-refused CkptBlocking b s.underway (option_or (least_open (live_in s)) (no_checkpoint_number s)) _ _ s u
goes-line session Ckpt b s u = goes-refused Ckpt b s.underway (no_checkpoint_number s) _ _ s u
goes-line session command b s u = record { adds = adds-line session command s refl; open_one = refl }

goes-answers : (session : ℕ) (what : Result Command Refusal) (b : Underway) (s : State) (reply : Reply) (after : State) → s.underway ≡ Some b → Answers session what s reply after → Goes what reply s after
goes-answers session (Ok command) b s reply after u (inl t) =
    subst (λ (r : Reply). Goes (Ok command) r s after) (sym (t.0)) (subst (Goes (Ok command) ((line session command s).0) s) (sym (t.1)) (goes-line session command b s u))
goes-answers session (Err r) b s reply after u (inl t) = record { adds = subst (Adds s) (sym (t.1)) (adds-same s); open_one = refl }
goes-answers session what b s reply after u (inr w) =
    let m : (is_refused reply ≡ true) × Adds s after = leaves-memory session what s reply after w in
    record { adds = m.1; open_one = ap (λ c. is_blocking what && not c) (m.0) ∙ never (is_blocking what) }

-- What a whole round leaves.
pub record RoundLeaves (c : Bool) (s after : State) : Type 0 where
  pub kept : c ≡ true → AreKept after
  pub added : c ≡ false → AddsFiles s after

abbrev completes_with : Option Underway → Option Underway → Result Command Refusal → Reply → Bool
completes_with before after what reply = (is_some before && is_none after) || (is_blocking what && not (is_refused reply))

due_step : (b : Underway) (what : Result Command Refusal) (reply : Reply) (s mid : State) → AddsFiles s mid → mid.underway ≡ Some b → (is_blocking what && not (is_refused reply)) ≡ false → (c : Bool) →
    RoundLeaves (completes_with (Some b) ((cond c (completed b mid) mid).underway) what reply) s (cond c (completed b mid) mid)
unfolding completed
due_step b what reply s mid a u o true = record { kept = λ h. kept-completed b mid; added = λ h. absurd (true≢false h) }
due_step b what reply s mid a u o false =
    let none : completes_with (Some b) mid.underway what reply ≡ false = ap (λ (x : Option Underway). (true && is_none x) || (is_blocking what && not (is_refused reply))) u ∙ o in
    record { kept = λ h. absurd (both_ways (completes_with (Some b) mid.underway what reply) none h); added = λ h. a }

copied_under : (n : ℕ) (b : Underway) (s mid : State) → Adds (copied n (Some b) s) mid → AddsFiles s mid
copied_under n b s mid a = a.files

-- A round that begins with this under way.
round-with : (s : State) (session : ℕ) (what : Result Command Refusal) (reply : Reply) (mid : State) (o : Option Underway) →
    Answers session what (copied s.settings.ckpt_pages o s) reply mid → RoundLeaves (completes_with o ((completion_after o mid).underway) what reply) s (completion_after o mid)
unfolding with_completion
round-with s session what reply mid None a =
    let leaves : Leaves what reply s mid = leaves-answers session what s reply mid a in record { kept = leaves.kept; added = leaves.added }
round-with s session what reply mid (Some b) a =
    let n : ℕ = s.settings.ckpt_pages in
    let left : Underway = record b { left = drop n b.left } in
    let goes : Goes what reply (copied n (Some b) s) mid = goes-answers session what left (copied n (Some b) s) reply mid refl a in
    let under : mid.underway ≡ Some left = goes.adds.underway in
    subst (λ (x : Option Underway). RoundLeaves (completes_with (Some b) ((complete_where_due x mid).underway) what reply) s (complete_where_due x mid)) (sym under)
    (due_step left what reply s mid (copied_under n b s mid goes.adds) under goes.open_one (length left.left == 0))

round-leaves : (s : State) (session : ℕ) (what : Result Command Refusal) (reply : Reply) (after : State) → Step s session what reply after → RoundLeaves (completes s what reply after) s after
unfolding with_copies
round-leaves s session what reply after st =
    subst (λ (x : State). RoundLeaves (completes_with s.underway x.underway what reply) s x) (sym st.is) (round-with s session what reply st.between s.underway st.line)

-- ---- the end of a run

ended_files : (t : ℕ) (s : State) → AddsFiles s (ended_one t s)
ended_files t s =
    (rolled-through Adds true adds-same adds-then adds-with_entry adds-all_forced (λ own wish sets s. record { files = λ n h. h; underway = refl })
    (λ y reader s. record { files = λ n h. h; underway = refl }) t s).files

roll_step : (s : State) (next : Bool × State) → AddsFiles s (next.1) → (c : Bool) → AddsFiles s ((elim c as (λ x. Bool × State) [ true ↦ next | false ↦ (false, s) ]).1)
roll_step s next a true = a
roll_step s next a false = λ n h. h

added-roll_all : (ts : List ℕ) (s : State) → AddsFiles s ((roll_all ts s).1)
added-roll_all [] s = (adds-all_forced s).files
added-roll_all (t ∷ ts) s = roll_step s (roll_all ts (ended_one t s)) (λ n h. added-roll_all ts (ended_one t s) n (ended_files t s n h)) (has_position t s)

added-ended : (s : State) → AddsFiles s ((ended s).1)
unfolding ended
added-ended s n h = added-roll_all (live_in s) (record s { underway = None }) n h

pub log_files_kept : LogFilesAreKept
log_files_kept = record {
  completed = λ s session what reply after st. (round-leaves s session what reply after st).kept;
  between = λ s session what reply after st. (round-leaves s session what reply after st).added;
  end = added-ended;
}

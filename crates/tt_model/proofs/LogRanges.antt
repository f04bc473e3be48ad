-- Plain entries that get their places leave the log in its ranges, and so do rounds and the end of a run.
use Rattle.std.proofs.Common.{◌≡◌, ◌≤◌, ◌<◌, ◌+◌, inl, inr, ℕ, Bool, true, false, cond, nat_le, nat_lt, List, [], ◌∷◌, ◌++◌, map, Some, None, refl, sym, ap, ◌∙◌, subst, arith, true≢false}
use Rattle.std.proofs.lemmas.Bool.{leb-true, ltb-true}
use Rattle.std.specs.Prelude.{Result, Ok, Err}
use Rattle.tt_value.specs.declared.position.Position.{Position}
use Rattle.tt_value.specs.declared.refusal.Refusal.{Refusal}
use Rattle.tt_value.specs.declared.reply.Reply.{Reply}
use Rattle.tt_parse.specs.declared.command.Command.{Command}
use Rattle.tt_parse.specs.declared.command.Command.TheVariants.{CkptBlocking}
use Rattle.tt_record.specs.declared.entry.Entry.{Entry}
use Rattle.tt_record.specs.declared.entry.Entry.TheVariants.{Change, Commit, Abort, Mark, Switch}
use Rattle.tt_record.specs.Entry.{length_of}
use Rattle.tt_record.specs.EntryLaws.{few_bytes}
use Rattle.tt_record.specs.Place.{end_of, next_position, position}
use Rattle.tt_set.specs.declared.settings.Settings.{Settings}
use Rattle.tt_model.specs.Trail.{Placed, Trail, trail_end, placed_end}
use Rattle.tt_model.specs.Live.{pages_after}
use Rattle.tt_model.specs.Opened.{Opened}
use Rattle.tt_model.specs.State.{State, all_forced, lengths_fit, placed, trail, with_entry, write_position}
use Rattle.tt_model.specs.Checkpoint.{with_copies}
use Rattle.tt_model.specs.Step.{Step, Answers, WantsMemory, answer, completion_after, forced_where, line}
use Rattle.tt_model.specs.Run.{ended}
use Rattle.tt_model.specs.WholeRuns.{Each}
use Rattle.tt_model.specs.Entries.{HasLogInRange, IsFileSize, IsKept, IsPlain}
use Rattle.tt_model.specs.StepLaws.{EachOfWorks}
use Rattle.tt_model.specs.Works.{AllFit, Fits, SameLog, Work, all_performed, performed, with_entries, work_of_end, works_of}
use Rattle.tt_model.proofs.FitLemmas.{end_fits, works_fit}
use Rattle.tt_model.proofs.RoundRelation.{SameTrail, completion-through, same-with_copies}
use Rattle.tt_model.proofs.WorkLemmas.{lines_leave}

-- ---- each entry of a trail

each_split : {X : Type 0} (P : X → Type 0) (xs : List X) → ((newer older : List X) (x : X) → xs ≡ newer ++ x ∷ older → P x) → Each P xs
each_split P [] h = tt
each_split P (x ∷ xs) h = (h [] xs x refl, each_split P xs (λ newer older y is. h (x ∷ newer) older y (ap (x ∷◌) is)))

one_split : {X : Type 0} (P : X → Type 0) (newer older : List X) (x : X) → Each P (newer ++ x ∷ older) → P x
one_split P [] older x h = h.0
one_split P (y ∷ newer) older x h = one_split P newer older x (h.1)

pub each-in : {X : Type 0} (P : X → Type 0) (xs newer older : List X) (x : X) → Each P xs → xs ≡ newer ++ x ∷ older → P x
each-in P xs newer older x h is = one_split P newer older x (subst (Each P) is h)

-- ---- the ranges

abbrev pub IsInRange : Placed → Type 0
IsInRange e = IsKept e.at × IsKept (placed_end e) × IsPlain e.entry

-- The log, of what opening found and the new entries, is in its ranges, and so are the pages.
pub record InRange (settings : Settings) (found : Opened) (entries : Trail) (pages : ℕ) : Type 0 where
  pub size : IsFileSize settings.log_file_size
  pub found_end : IsKept found.end
  pub end : IsKept (trail_end found.end entries)
  pub each : Each IsInRange (entries ++ found.entries)
  pub most : pages ≤ 65536

abbrev pub IsRanged : State → Type 0
IsRanged s = InRange s.settings s.found s.entries s.pages

pub ranged-log : (s : State) → IsRanged s → HasLogInRange s
ranged-log s h = record { size = h.size; found = h.found_end; end = h.end; entries = λ newer older e is. each-in IsInRange (trail s) newer older e h.each is }

pub log-ranged : (s : State) → HasLogInRange s → s.pages ≤ 65536 → IsRanged s
log-ranged s h few = record { size = h.size; found_end = h.found; end = h.end; each = each_split IsInRange (trail s) h.entries; most = few }

-- ---- one more entry

fits_so : (at : Position) (n size : ℕ) (ns : List ℕ) (c : Bool) → nat_lt at.file 1000000 ≡ c →
    elim (cond c (Some at) None) as (λ x. Bool) [ None ↦ false | Some p ↦ lengths_fit size (end_of p n) ns ] ≡ true → (at.file < 1000000) × (lengths_fit size (end_of at n) ns ≡ true)
fits_so at n size ns true is h = (ltb-true at.file 1000000 is, h)
fits_so at n size ns false is h = absurd (true≢false (sym h))

pub fits_next : (end : Position) (n size : ℕ) (ns : List ℕ) → lengths_fit size end (n ∷ ns) ≡ true →
    ((next_position end n size).file < 1000000) × (lengths_fit size (end_of (next_position end n size) n) ns ≡ true)
fits_next end n size ns h = fits_so (next_position end n size) n size ns (nat_lt (next_position end n size).file 1000000) refl h

kept_so : (end : Position) (n size : ℕ) (fits : Bool) → nat_le (end.offset + n) size ≡ fits → IsKept end → IsFileSize size → n ≤ size →
    (let at : Position = cond fits end (position (end.file + 1) 0) in at).file < 1000000 → IsKept (cond fits end (position (end.file + 1) 0)) × IsKept (end_of (cond fits end (position (end.file + 1) 0)) n)
kept_so end n size true is h range few low =
    let most : end.offset + n ≤ size = leb-true (end.offset + n) size is in
    let size_most : size ≤ 67108864 = range.1 in
    (h, record { file = h.file; offset = omega (arith, most, size_most) })
kept_so end n size false is h range few low =
    let size_most : size ≤ 67108864 = range.1 in
    (record { file = omega (arith, low); offset = omega arith }, record { file = omega (arith, low); offset = omega (arith, few, size_most) })

kept_next : (end : Position) (n size : ℕ) → IsKept end → IsFileSize size → n ≤ size → (next_position end n size).file < 1000000 → IsKept (next_position end n size) × IsKept (end_of (next_position end n size) n)
kept_next end n size h range few low = kept_so end n size (nat_le (end.offset + n) size) refl h range few low

pages_so : (e : Entry) (pages : ℕ) → IsPlain e → pages ≤ 65536 → pages_after e pages ≤ 65536
pages_so (Change t p b a) pages plain few = let low : p < 2097152 = (plain.entry).place in omega (arith, low, few)
pages_so (Commit t) pages plain few = few
pages_so (Abort t) pages plain few = few
pages_so Mark pages plain few = few
pages_so (Switch file) pages plain few = few

short_entry : (e : Entry) (size : ℕ) → IsPlain e → IsFileSize size → length_of e ≤ size
short_entry e size plain range =
    let short : length_of e ≤ 507 = few_bytes e plain.entry in
    let least : 8192 ≤ size = range.0 in
    omega (arith, short, least)

pub ranged-entry : (e : Entry) (s : State) → IsPlain e → (placed e s).at.file < 1000000 → IsRanged s → IsRanged (with_entry e s)
unfolding with_entry
ranged-entry e s plain low h =
    let both : IsKept ((placed e s).at) × IsKept (end_of ((placed e s).at) (length_of e)) =
    kept_next (write_position s) (length_of e) s.settings.log_file_size h.end h.size (short_entry e s.settings.log_file_size plain h.size) low in
    record { size = h.size; found_end = h.found_end; end = both.1; each = ((both.0, both.1, plain), h.each); most = pages_so e s.pages plain h.most }

next_fits : (e : Entry) (s : State) (ns : List ℕ) → lengths_fit s.settings.log_file_size (write_position s) (length_of e ∷ ns) ≡ true →
    lengths_fit (with_entry e s).settings.log_file_size (write_position (with_entry e s)) ns ≡ true
unfolding with_entry
next_fits e s ns h = (fits_next (write_position s) (length_of e) s.settings.log_file_size ns h).1

-- ---- works

ranged-entries : (es : List Entry) (s : State) → Each IsPlain es → lengths_fit s.settings.log_file_size (write_position s) (map length_of es) ≡ true → IsRanged s → IsRanged (with_entries es s)
ranged-entries [] s plain fits h = h
ranged-entries (e ∷ es) s plain fits h =
    ranged-entries es (with_entry e s) (plain.1) (next_fits e s (map length_of es) fits)
    (ranged-entry e s (plain.0) ((fits_next (write_position s) (length_of e) s.settings.log_file_size (map length_of es) fits).0) h)

ranged-forced : (c : Bool) (s : State) → IsRanged s → IsRanged (forced_where c s)
unfolding all_forced
ranged-forced true s h = h
ranged-forced false s h = h

ranged-performed : (w : Work) (s : State) → Each IsPlain w.entries → Fits w s → IsRanged s → IsRanged (performed w s)
ranged-performed w s plain fits h = ranged-forced w.force (with_entries w.entries s) (ranged-entries w.entries s plain fits h)

ranged-works : (ws : List Work) (s : State) → EachOfWorks IsPlain ws → AllFit ws s → IsRanged s → IsRanged (all_performed ws s)
ranged-works [] s plain fits h = h
ranged-works (w ∷ ws) s plain fits h = ranged-works ws (performed w s) (plain.1) (fits.1) (ranged-performed w s (plain.0) (fits.0) h)

-- ---- rounds

-- Two states agree in the log and the pages.
pub record SameParts (s after : State) : Type 0 where
  pub settings : after.settings ≡ s.settings
  pub found : after.found ≡ s.found
  pub entries : after.entries ≡ s.entries
  pub pages : after.pages ≡ s.pages

pub ranged-same : (s after : State) → SameParts s after → IsRanged s → IsRanged after
ranged-same s after x h =
    subst (λ (t : Settings). InRange t after.found after.entries after.pages) (sym x.settings)
    (subst (λ (f : Opened). InRange s.settings f after.entries after.pages) (sym x.found)
    (subst (λ (es : Trail). InRange s.settings s.found es after.pages) (sym x.entries) (subst (InRange s.settings s.found s.entries) (sym x.pages) h)))

log_parts : (s after : State) → SameLog after s → SameParts s after
log_parts s after x = record { settings = x.settings; found = x.found; entries = x.entries; pages = x.pages }

trail_parts : (s after : State) → SameTrail s after → SameParts s after
trail_parts s after x = record { settings = x.settings; found = x.found; entries = x.entries; pages = x.pages }

parts_then : (s mid after : State) → SameParts s mid → SameParts mid after → SameParts s after
parts_then s mid after a b = record { settings = b.settings ∙ a.settings; found = b.found ∙ a.found; entries = b.entries ∙ a.entries; pages = b.pages ∙ a.pages }

parts_forced : (s : State) → SameParts s (all_forced s)
unfolding all_forced
parts_forced s = record { settings = refl; found = refl; entries = refl; pages = refl }

ranged-line : (session : ℕ) (command : Command) (s : State) → EachOfWorks IsPlain (works_of session command s) → IsRanged s → IsRanged ((line session command s).1)
ranged-line session CkptBlocking s plain h =
    let end : State = all_performed (works_of session CkptBlocking s) s in
    let x : SameLog (record ((line session CkptBlocking s).1) { files = s.files }) end = lines_leave.blocking session s in
    ranged-same end ((line session CkptBlocking s).1) (record { settings = x.settings; found = x.found; entries = x.entries; pages = x.pages })
    (ranged-works (works_of session CkptBlocking s) s plain (works_fit session CkptBlocking s) h)
ranged-line session command s plain h =
    let end : State = all_performed (works_of session command s) s in
    ranged-same end ((line session command s).1) (log_parts end ((line session command s).1) (lines_leave.each session command s refl))
    (ranged-works (works_of session command s) s plain (works_fit session command s) h)

ranged-answer : (session : ℕ) (what : Result Command Refusal) (s : State) → ((command : Command) → what ≡ Ok command → EachOfWorks IsPlain (works_of session command s)) →
    IsRanged s → IsRanged ((answer session what s).1)
ranged-answer session (Ok command) s works h = ranged-line session command s (works command refl) h
ranged-answer session (Err r) s works h = h

ranged-memory : (session : ℕ) (what : Result Command Refusal) (s : State) (reply : Reply) (after : State) → IsRanged s → WantsMemory session what s reply after → IsRanged after
ranged-memory session (Err r) s reply after h w = absurd w
ranged-memory session (Ok command) s reply after h w = elim (w.2) [
  | inl same ↦ subst IsRanged (sym same) h
  | inr forced ↦ subst IsRanged (sym (forced.1)) (ranged-same s (all_forced s) (parts_forced s) h)
]

ranged-answers : (session : ℕ) (what : Result Command Refusal) (s : State) (reply : Reply) (after : State) →
    ((command : Command) → what ≡ Ok command → EachOfWorks IsPlain (works_of session command s)) → IsRanged s → Answers session what s reply after → IsRanged after
ranged-answers session what s reply after works h (inl t) = subst IsRanged (sym (t.1)) (ranged-answer session what s works h)
ranged-answers session what s reply after works h (inr w) = ranged-memory session what s reply after h w

pub ranged-step : (s : State) (session : ℕ) (what : Result Command Refusal) (reply : Reply) (after : State) →
    ((command : Command) → what ≡ Ok command → EachOfWorks IsPlain (works_of session command (with_copies s))) → IsRanged s → Step s session what reply after → IsRanged after
ranged-step s session what reply after works h st =
    let begin : IsRanged (with_copies s) = ranged-same s (with_copies s) (trail_parts s (with_copies s) (same-with_copies s)) h in
    let between : IsRanged st.between = ranged-answers session what (with_copies s) reply st.between works begin st.line in
    subst IsRanged (sym st.is)
    (ranged-same st.between (completion_after s.underway st.between) (completion-through SameParts parts_then parts_forced trail_parts s.underway st.between) between)

pub ranged-ended : (s : State) → Each IsPlain (work_of_end s).entries → IsRanged s → IsRanged ((ended s).1)
ranged-ended s plain h =
    ranged-same (performed (work_of_end s) s) ((ended s).1) (log_parts (performed (work_of_end s) s) ((ended s).1) (lines_leave.end s)) (ranged-performed (work_of_end s) s plain (end_fits s) h)

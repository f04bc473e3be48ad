-- Lines and the end of a run append plain entries, and leave the log in its ranges.
use Rattle.std.proofs.Common.{◌≡◌, ◌≤◌, ◌<◌, ◌^◌, ℕ, Bool, true, nat_le, List, [], ◌∷◌, Option, Some, None, refl, sym, ap, ◌∙◌, subst, arith}
use Rattle.std.proofs.lemmas.Bool.{leb-false}
use Rattle.std.specs.Prelude.{is_some, Result}
use Rattle.tt_value.specs.declared.refusal.Refusal.{Refusal}
use Rattle.tt_value.specs.declared.refusal.Refusal.TheVariants.{LogOut}
use Rattle.tt_value.specs.declared.reply.Reply.{Reply}
use Rattle.tt_parse.specs.declared.command.Command.{Command}
use Rattle.tt_parse.specs.declared.command.Command.TheVariants.{CreateTable, DropTable, CreateIndex, DropIndex, Insert, Update, Delete, Select, Commit as CommitLine, Rollback, DurableCommit, Flush, Ckpt, CkptBlocking, LogHolds, Bookmark, Backup as BackupLine, XlaCreate, XlaDelete, XlaSubscribe, XlaUnsubscribe, XlaOpen, XlaNext, XlaAcknowledge, XlaClose}
use Rattle.tt_record.specs.declared.entry.Entry.{Entry}
use Rattle.tt_record.specs.declared.entry.Entry.TheVariants.{Abort, Mark}
use Rattle.tt_record.specs.Entry.{IsTransaction, length_of}
use Rattle.tt_value.specs.Stored.{IsCell}
use Rattle.tt_set.specs.declared.settings.Settings.{Settings}
use Rattle.tt_model.specs.Opened.{Opened}
use Rattle.tt_model.specs.Sets.{SetStanding}
use Rattle.tt_model.specs.Tables.{Catalog}
use Rattle.tt_model.specs.Meaning.{Makes}
use Rattle.tt_model.specs.Meant.{meant}
use Rattle.tt_model.specs.System.{bookmark}
use Rattle.tt_model.specs.State.{Underway, Reader, State, all_forced, lengths_fit, live_in, next, reversals, trail, with_entry}
use Rattle.tt_model.specs.declared.definition.CellEdit.{CellEdit}
use Rattle.tt_model.specs.Checkpoint.{copied, with_copies}
use Rattle.tt_model.specs.Ranges.{HasRanges}
use Rattle.tt_model.specs.Sound.{IsSound, MayWrite}
use Rattle.tt_model.specs.Step.{Step, no_number}
use Rattle.tt_model.specs.Run.{begun, ended, ended_one, opened}
use Rattle.tt_model.specs.WholeRuns.{Each}
use Rattle.tt_model.specs.Entries.{HasLogInRange, HasStorableRows, HoldsStorable, IsOfGrammar, IsPlain, IsStorableTable}
use Rattle.tt_model.specs.StepLaws.{EachOfWorks, WorksArePlain}
use Rattle.tt_model.specs.Works.{changes, rolled_entries, work_of_end, works_of}
use Rattle.tt_model.proofs.FreePlaces.{not_refused}
use Rattle.tt_model.proofs.GrowLemmas.{readers-with_copies}
use Rattle.tt_model.proofs.LogRanges.{IsRanged, fits_next, log-ranged, ranged-ended, ranged-entry, ranged-log, ranged-same, ranged-step}
use Rattle.tt_model.proofs.NumberLemmas.{next-least}
use Rattle.tt_model.proofs.NumberedWorks.{live-each}
use Rattle.tt_model.proofs.OneHolderRounds.{catalog-with_copies}
use Rattle.tt_model.proofs.PlainBookmarks.{acknowledge-plain, create_bookmark-plain, subscribe-plain}
use Rattle.tt_model.proofs.PlainIndexes.{create_index-plain}
use Rattle.tt_model.proofs.PlainRows.{delete_bookmark-plain, drop_index-plain, drop_table-plain, unsubscribe-plain}
use Rattle.tt_model.proofs.PlainStatements.{delete-plain, insert-plain, update-plain}
use Rattle.tt_model.proofs.PlainTables.{create_table-plain}
use Rattle.tt_model.proofs.PlainSystem.{set_row-plain, stop-plain}
use Rattle.tt_model.proofs.RoundRelation.{SameTrail, end-through, same-with_copies, step-through}
use Rattle.tt_model.proofs.RunLemmas.{trails_go_on}
use Rattle.tt_model.proofs.SoundLines.{sound-with_copies}
use Rattle.tt_model.proofs.StatementLemmas.{makes_same}
use Rattle.tt_model.proofs.StorableCells.{ArePlain, IsStored, changes-plain, live-transaction, reversals-plain, stored-of}
use Rattle.tt_model.proofs.WorkEntries.{each-append, end-have, have-entries, works-have}
use Rattle.tt_model.proofs.WorkLemmas.{rolled_same}

-- ---- the works of a line

nothing_plain : (edits : List CellEdit) (n : ℕ) (s : State) → Makes [] ≡ Makes edits → Each IsPlain (changes n edits s)
nothing_plain edits n s m = subst (λ (es : List CellEdit). Each IsPlain (changes n es s)) (makes_same [] edits m) tt

edits-plain : (session : ℕ) (command : Command) (s : State) (edits : List CellEdit) (n : ℕ) → HasRanges command → IsSound s → IsStored s → IsRanged s → HasStorableRows s → MayWrite n s → IsTransaction n →
    meant session command s ≡ Makes edits → Each IsPlain (changes n edits s)
edits-plain session (Insert table values) s edits n range sound h ranged rows may number m = insert-plain session s table values edits n rows.tables range number h m
edits-plain session (Update table sets cond) s edits n range sound h ranged rows may number m = update-plain session s table sets cond edits n rows.tables range sound number h m
edits-plain session (Delete table cond) s edits n range sound h ranged rows may number m = delete-plain session s table cond edits n sound number h m
edits-plain session (Select table items cond order) s edits n range sound h ranged rows may number m = nothing_plain edits n s m
edits-plain session CommitLine s edits n range sound h ranged rows may number m = nothing_plain edits n s m
edits-plain session Rollback s edits n range sound h ranged rows may number m = nothing_plain edits n s m
edits-plain session DurableCommit s edits n range sound h ranged rows may number m = nothing_plain edits n s m
edits-plain session Flush s edits n range sound h ranged rows may number m = nothing_plain edits n s m
edits-plain session LogHolds s edits n range sound h ranged rows may number m = nothing_plain edits n s m
edits-plain session Bookmark s edits n range sound h ranged rows may number m = nothing_plain edits n s m
edits-plain session (CreateTable name columns key) s edits n range sound h ranged rows may number m = create_table-plain session s name columns key edits n (range.0) (range.2) sound may number h m
edits-plain session (DropTable name) s edits n range sound h ranged rows may number m = drop_table-plain session s name edits n sound number h m
edits-plain session (CreateIndex name table columns unique) s edits n range sound h ranged rows may number m = create_index-plain session s name table columns unique edits n (range.0) rows.tables number h m
edits-plain session (DropIndex name) s edits n range sound h ranged rows may number m = drop_index-plain session s name edits n sound number h m
edits-plain session (XlaCreate name) s edits n range sound h ranged rows may number m = create_bookmark-plain session s name edits n range number h ranged m
edits-plain session (XlaDelete name) s edits n range sound h ranged rows may number m = delete_bookmark-plain session s name edits n sound number h m
edits-plain session (XlaSubscribe table name) s edits n range sound h ranged rows may number m = subscribe-plain session s table name edits n rows.tables rows.bookmarks number h ranged m
edits-plain session (XlaUnsubscribe table name) s edits n range sound h ranged rows may number m = unsubscribe-plain session s table name edits n sound number h m
edits-plain session XlaAcknowledge s edits n range sound h ranged rows may number m = acknowledge-plain session s edits n rows.readers rows.bookmarks sound h number m
edits-plain session (XlaOpen name) s edits n range sound h ranged rows may number m = nothing_plain edits n s m
edits-plain session (XlaNext count) s edits n range sound h ranged rows may number m = nothing_plain edits n s m
edits-plain session XlaClose s edits n range sound h ranged rows may number m = nothing_plain edits n s m
edits-plain session (BackupLine set kind) s edits n range sound h ranged rows may number m = nothing_plain edits n s m
edits-plain session Ckpt s edits n range sound h ranged rows may number m = nothing_plain edits n s m
edits-plain session CkptBlocking s edits n range sound h ranged rows may number m = nothing_plain edits n s m

next_number_is : (s : State) → IsStored s → no_number s ≡ None → IsTransaction (next s)
next_number_is s h none =
    let below : next s < 2 ^ 48 = leb-false (2 ^ 48) (next s) (not_refused (nat_le (2 ^ 48) (next s)) LogOut none) in
    let least : s.found.next ≤ next s = next-least s.found.next (trail s) in
    let some : 1 ≤ s.found.next = h.first in
    (omega (arith, least, some), below)

works-plain : (session : ℕ) (command : Command) (s : State) → HasRanges command → IsSound s → IsStored s → IsRanged s → HasStorableRows s → EachOfWorks IsPlain (works_of session command s)
works-plain session command s range sound h ranged rows =
    works-have IsPlain IsTransaction session command s (record {
      commit = λ t n. record { entry = n; plain = refl };
      abort = λ t n. record { entry = n; plain = refl };
      own = λ t is. live-transaction t s.entries h.plain ((sound.owned).live session t is);
      next = λ none. next_number_is s h none;
      may = λ t is. (sound.owned).live session t is;
      edits = λ edits t m may n. edits-plain session command s edits t range sound h ranged rows may n m;
      reversed = λ t is. changes-plain t (reversals t s.entries) s (live-transaction t s.entries h.plain ((sound.owned).live session t is)) (reversals-plain t s.entries h.plain);
      row = λ set t kind is writes allowed n. set_row-plain session set t s _ writes allowed ((subst HasRanges is range).1) sound h ranged n;
      stopped = λ set t r is n. stop-plain set t r s is sound h n;
    })

-- ---- the end of a run

rolled_plain : (t : ℕ) (s : State) → ArePlain s.entries → IsTransaction t → ArePlain (ended_one t s).entries
rolled_plain t s plain n =
    subst ArePlain (sym (rolled_same t s).entries)
    (have-entries IsPlain (rolled_entries t s) s (each-append IsPlain (changes t (reversals t s.entries) s) (Abort t ∷ []) (changes-plain t (reversals t s.entries) s n (reversals-plain t s.entries plain)) (record { entry = n; plain = refl }, tt)) plain)

end-plain : (s : State) → IsSound s → IsStored s → Each IsPlain (work_of_end s).entries
end-plain s sound h =
    end-have IsPlain IsTransaction (λ (x : State). ArePlain x.entries) (λ t n. record { entry = n; plain = refl })
    (λ t x plain n. changes-plain t (reversals t x.entries) x n (reversals-plain t x.entries plain)) (λ t x plain n. rolled_plain t x plain n)
    (live_in s) (record s { underway = None }) h.plain (live-each IsTransaction s sound (λ t is. live-transaction t s.entries h.plain is))

-- ---- rounds

abbrev SameSettings : State → State → Type 0
SameSettings s after = after.settings ≡ s.settings

settings_entry : (e : Entry) (s : State) → SameSettings s (with_entry e s)
unfolding with_entry
settings_entry e s = refl

settings_forced : (s : State) → SameSettings s (all_forced s)
unfolding all_forced
settings_forced s = refl

-- What can be stored stays so, where settings and what opening found are the same.
storable_still : (s after : State) → after.settings ≡ s.settings → after.found ≡ s.found → after.pages ≤ 65536 → HoldsStorable s → HoldsStorable after
storable_still s after settings found few h = record {
  found = subst (λ (f : Opened). (q : ℕ) → IsCell (f.cells q)) (sym found) h.found;
  perm_pages = subst (λ (x : Settings). x.perm_pages ≤ 65536) (sym settings) h.perm_pages;
  pages = few;
  first = subst (λ (f : Opened). 1 ≤ f.next) (sym found) h.first;
  next = subst (λ (f : Opened). f.next ≤ 2 ^ 48) (sym found) h.next;
}

copied_bookmark : (name : List ℕ) (n : ℕ) (o : Option Underway) (s : State) → bookmark name (copied n o s) ≡ bookmark name s
copied_bookmark name n None s = refl
copied_bookmark name n (Some b) s = refl

copies_bookmark : (name : List ℕ) (s : State) → bookmark name (with_copies s) ≡ bookmark name s
unfolding with_copies
copies_bookmark name s = copied_bookmark name s.settings.ckpt_pages s.underway s

rows_copied : (s : State) → HasStorableRows s → HasStorableRows (with_copies s)
rows_copied s rows = record {
  tables = subst (λ (c : Catalog). Each IsStorableTable c.tables) (sym (catalog-with_copies s)) rows.tables;
  bookmarks = λ name there. rows.bookmarks name (sym (ap is_some (copies_bookmark name s)) ∙ there);
  readers = λ session r is. rows.readers session r (sym (ap (λ (f : ℕ → Option Reader). f session) (readers-with_copies s)) ∙ is);
}

step_plain : (s : State) (session : ℕ) (what : Result Command Refusal) (reply : Reply) (after : State) → IsOfGrammar what → IsSound s → HasLogInRange s → HoldsStorable s → HasStorableRows s →
    Step s session what reply after → HasLogInRange after × HoldsStorable after
step_plain s session what reply after grammar sound log h rows st =
    let ranged : IsRanged s = log-ranged s log h.pages in
    let copies : State = with_copies s in
    let same : SameTrail s copies = same-with_copies s in
    let begin : IsRanged copies = ranged-same s copies (record { settings = same.settings; found = same.found; entries = same.entries; pages = same.pages }) ranged in
    let stored : IsStored copies = stored-of copies begin (storable_still s copies same.settings same.found begin.most h) in
    let end : IsRanged after = ranged-step s session what reply after
    (λ command is. works-plain session command copies (subst IsOfGrammar is grammar) (sound-with_copies s sound) stored begin (rows_copied s rows)) ranged st in (
      ranged-log after end,
      storable_still s after (step-through SameSettings (λ a b c x y. y ∙ x) settings_entry settings_forced (λ a b x. x.settings) s session what reply after st)
          (trails_go_on.step s session what reply after st).found end.most h,
    )

end_plain : (s : State) → IsSound s → HasLogInRange s → HoldsStorable s → HasLogInRange ((ended s).1) × HoldsStorable ((ended s).1)
end_plain s sound log h =
    let ranged : IsRanged s = log-ranged s log h.pages in
    let end : IsRanged ((ended s).1) = ranged-ended s (end-plain s sound (stored-of s ranged h)) ranged in
    (ranged-log ((ended s).1) end, storable_still s ((ended s).1) (end-through SameSettings (λ a b c x y. y ∙ x) settings_entry settings_forced (λ a b x. x.settings) s) (trails_go_on.end s).found end.most h)

mark_plain : IsPlain Mark
mark_plain = record { entry = tt; plain = refl }

found_entry : (e : Entry) (s : State) → (with_entry e s).found ≡ s.found
unfolding with_entry
found_entry e s = refl

begun_plain : (settings : Settings) (found : Opened) (files : ℕ → Bool) (sets : ℕ → Option SetStanding) → HasLogInRange (opened settings found files sets) → HoldsStorable (opened settings found files sets) →
    lengths_fit settings.log_file_size found.end (length_of Mark ∷ []) ≡ true → HasLogInRange (begun settings found files sets) × HoldsStorable (begun settings found files sets)
unfolding begun
begun_plain settings found files sets log h fits =
    let s : State = opened settings found files sets in
    let end : IsRanged (with_entry Mark s) = ranged-entry Mark s mark_plain ((fits_next found.end (length_of Mark) settings.log_file_size [] fits).0) (log-ranged s log h.pages) in
    (ranged-log (with_entry Mark s) end, storable_still s (with_entry Mark s) (settings_entry Mark s) (found_entry Mark s) end.most h)

pub works_are_plain : WorksArePlain
works_are_plain = record {
  works = λ session command s range sound log h rows.
      let ranged : IsRanged s = log-ranged s log h.pages in works-plain session command s range sound (stored-of s ranged h) ranged rows;
  end_works = λ s sound log h. end-plain s sound (stored-of s (log-ranged s log h.pages) h);
  begun = begun_plain;
  step = step_plain;
  end = end_plain;
}

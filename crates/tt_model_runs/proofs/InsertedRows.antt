-- What inserts leave once they are committed, as far as checkpoints and holds read it.
use Rattle.std.proofs.Common.{◌≡◌, ◌≤◌, ◌<◌, ℕ, ◌+◌, ◌*◌, ◌^◌, Bool, true, false, not, ◌&&◌, ◌||◌, nat_eq, nat_lt, nat_le, List, [], ◌∷◌, ◌++◌, Option, Some, None, if◌then◌else◌, refl, sym, ap, ◌∙◌, append-nil, true≢false, replicate, subst, arith}
use Rattle.std.specs.Prelude.{filter_map, option_map, ◌≢◌}
use Rattle.std.specs.Option.{option_or}
use Rattle.std.proofs.lemmas.Bool.{and_parts, eqb-true, eqb-false, le-leb, leb-true, lt-leb}
use Rattle.tt_value.specs.BigEndian.{big_endian}
use Rattle.tt_value.specs.declared.value.Cell.{Cell}
use Rattle.tt_value.specs.declared.value.Cell.TheVariants.{Empty, Full}
use Rattle.tt_value.specs.declared.position.Position.{Position}
use Rattle.tt_value.specs.declared.refusal.Refusal.{Refusal}
use Rattle.tt_value.specs.declared.refusal.Refusal.TheVariants.{CkptOpen}
use Rattle.tt_value.specs.declared.reply.Reply.{Reply}
use Rattle.tt_value.specs.declared.reply.Reply.TheVariants.{Done, Changed}
use Rattle.tt_parse.specs.declared.command.Command.TheVariants.{Commit as CommitLine, CkptBlocking}
use Rattle.tt_set.specs.declared.settings.Settings.{Settings}
use Rattle.tt_record.specs.Entry.{length_of}
use Rattle.tt_record.specs.Place.{position, next_position, end_of}
use Rattle.tt_record.specs.declared.entry.Entry.{Entry}
use Rattle.tt_record.specs.declared.entry.Entry.TheVariants.{Change, Commit, Abort, Mark, Switch}
use Rattle.tt_model.specs.Trail.{Trail, trail_end, before}
use Rattle.tt_model.specs.Committed.{Cells, no_cells, put, changed, changed_by, after_commit as settled_cells, committed}
use Rattle.tt_model.specs.Live.{live, without_number}
use Rattle.tt_model.specs.Holds.{first_entry, first_entries, least_of, low}
use Rattle.tt_model.specs.Tables.{row_in, rows_of}
use Rattle.tt_model.specs.Opened.{created, only_first, first_head}
use Rattle.tt_model.specs.State.{State, Underway, trail, live_in, write_position, at_one, placed, with_entry}
use Rattle.tt_model.specs.Checkpoint.{with_all_copies, with_completion, begin_checkpoint}
use Rattle.tt_model.specs.Step.{Answered, stepped, line, unless_refused, end_length, commit_of, session_ended, forced_where, is_durable, no_checkpoint_number, least_open, begun_reply}
use Rattle.tt_model_runs.proofs.ConditionRuns.{Line, replies, after}
use Rattle.tt_model_runs.proofs.ExampleWords.{pairs}
use Rattle.tt_model.proofs.HolderLemmas.{first_entry-kept}
use Rattle.tt_model.proofs.LowLemmas.{before-end}
use Rattle.tt_model.proofs.AppendLemmas.{live-Commit, write_position-with_entry}
use Rattle.tt_model_runs.proofs.InsertRuns.{Inserter, IsInserting, Filled, IsFilledBy, inserts, counted_up, end_behind, replies-append, after-append, is_plain, is_plain_entry, are_plain, rows-none, files_more, next-file, same-file, place-none, stepped-alone}

-- ---- no bookmarks and no backup sets

plain_changed : (t q : ℕ) (e : Entry) (cells : Cells) → is_plain_entry e ≡ true → is_plain (cells q) ≡ true → is_plain (changed t e cells q) ≡ true
plain_changed t q (Change u p b a) cells y h = plain_by (nat_eq t u) (nat_eq q p) refl
  where
    plain_by : (c d : Bool) → nat_eq q p ≡ d → is_plain ((if c then put p a cells else cells) q) ≡ true
    plain_by true true e = ap (λ x. is_plain (if x then a else cells q)) e ∙ y
    plain_by true false e = ap (λ x. is_plain (if x then a else cells q)) e ∙ h
    plain_by false d e = h
plain_changed t q (Commit u) cells y h = h
plain_changed t q (Abort u) cells y h = h
plain_changed t q Mark cells y h = h
plain_changed t q (Switch f) cells y h = h

plain-changed_by : (t q : ℕ) (es : Trail) (cells : Cells) → are_plain es ≡ true → is_plain (cells q) ≡ true → is_plain (changed_by t es cells q) ≡ true
plain-changed_by t q [] cells y h = h
plain-changed_by t q (e ∷ es) cells y h =
    let parts : (is_plain_entry e.entry ≡ true) × (are_plain es ≡ true) = and_parts (is_plain_entry e.entry) (are_plain es) y in
    plain_changed t q e.entry (changed_by t es cells) (parts.0) (plain-changed_by t q es cells (parts.1) h)

plain_settled : (q : ℕ) (e : Entry) (es : Trail) (cells : Cells) → are_plain es ≡ true → is_plain (cells q) ≡ true → is_plain (settled_cells e es cells q) ≡ true
plain_settled q (Commit t) es cells y h = plain-changed_by t q es cells y h
plain_settled q (Change t p b a) es cells y h = h
plain_settled q (Abort t) es cells y h = h
plain_settled q Mark es cells y h = h
plain_settled q (Switch f) es cells y h = h

plain-committed : (q : ℕ) (es : Trail) → are_plain es ≡ true → is_plain (committed no_cells es q) ≡ true
unfolding committed
plain-committed q [] y = refl
plain-committed q (e ∷ es) y =
    let parts : (is_plain_entry e.entry ≡ true) × (are_plain es ≡ true) = and_parts (is_plain_entry e.entry) (are_plain es) y in
    plain_settled q e.entry es (committed no_cells es) (parts.1) (plain-committed q es (parts.1))

four_none : (cell : Cell) → is_plain cell ≡ true → row_in 4 cell ≡ None
four_none Empty h = refl
four_none (Full table row) h = by_test (nat_eq 4 table) (nat_eq 6 table) h
  where
    by_test : (c d : Bool) → not (c || d) ≡ true → (if c then Some row else None) ≡ None
    by_test true d h = absurd (true≢false (sym h))
    by_test false d h = refl

six_none : (cell : Cell) → is_plain cell ≡ true → row_in 6 cell ≡ None
six_none Empty h = refl
six_none (Full table row) h = by_test (nat_eq 4 table) (nat_eq 6 table) h
  where
    by_test : (c d : Bool) → not (c || d) ≡ true → (if d then Some row else None) ≡ None
    by_test true d h = absurd (true≢false (sym h))
    by_test false true h = absurd (true≢false (sym h))
    by_test false false h = refl

pub bookmarks-none : (n : ℕ) (es : Trail) → are_plain es ≡ true → rows_of 4 n (committed no_cells es) ≡ []
unfolding rows_of
bookmarks-none n es y = rows-none 4 n 0 (committed no_cells es) (λ q l. four_none (committed no_cells es q) (plain-committed q es y))

pub sets-none : (n : ℕ) (es : Trail) → are_plain es ≡ true → rows_of 6 n (committed no_cells es) ≡ []
unfolding rows_of
sets-none n es y = rows-none 6 n 0 (committed no_cells es) (λ q l. six_none (committed no_cells es q) (plain-committed q es y))

-- ---- the Low of the end

low_of : (es : Trail) → low (trail_end (position 0 0) es) (es ++ []) ≡ least_of (trail_end (position 0 0) es) (first_entries es)
unfolding low
low_of es =
    ap (λ (xs : Trail). least_of (trail_end (position 0 0) es) (first_entries (before (trail_end (position 0 0) es) xs))) (append-nil es)
    ∙ ap (λ (xs : Trail). least_of (trail_end (position 0 0) es) (first_entries xs)) (before-end (position 0 0) es)

-- It is the end where no transaction is live.
pub low-none : (es : Trail) (end : Position) → trail_end (position 0 0) es ≡ end → live (es ++ []) ≡ [] → low (trail_end (position 0 0) es) (es ++ []) ≡ end
low-none es end e l =
    low_of es
    ∙ (ap (λ (us : List ℕ). least_of (trail_end (position 0 0) es) (filter_map (λ t. first_entry t es) us)) (ap live (sym (append-nil es)) ∙ l) ∙ e)

-- It is the least of the end and the first entry, where one is live.
pub low-one : (t : ℕ) (es : Trail) (end first : Position) → trail_end (position 0 0) es ≡ end → live (es ++ []) ≡ t ∷ [] → first_entry t (es ++ []) ≡ Some first →
    low (trail_end (position 0 0) es) (es ++ []) ≡ least_of end (first ∷ [])
low-one t es end first e l f =
    low_of es
    ∙ (ap (λ (us : List ℕ). least_of (trail_end (position 0 0) es) (filter_map (λ u. first_entry u es) us)) (ap live (sym (append-nil es)) ∙ l)
    ∙ (ap (λ (o : Option Position). least_of (trail_end (position 0 0) es) (filter_map (λ (u : Option Position). u) (o ∷ []))) (ap (first_entry t) (sym (append-nil es)) ∙ f)
    ∙ ap (λ (p : Position). least_of p (first ∷ [])) e))

-- ---- the state

-- A state with so many pages, none of which was ever copied, and with these own and live transactions. Its log ends at a position.
pub record Written (set : Settings) (owned : ℕ → Option ℕ) (numbers : List ℕ) (count : ℕ) (at : Position) (s : State) : Type 0 where
  pub settings : s.settings ≡ set
  pub found : s.found ≡ created 1
  pub own : (session : ℕ) → s.own session ≡ owned session
  pub wish : (session : ℕ) → s.wish session ≡ false
  pub heads : s.heads ≡ only_first (first_head 0 1)
  pub newest : s.newest ≡ 0
  pub database : s.database ≡ 1
  pub underway : s.underway ≡ None
  pub live : live_in s ≡ numbers
  pub pages : s.pages ≡ count
  pub stale : (file page : ℕ) → s.stale file page ≡ nat_lt page count
  pub files : (n : ℕ) → s.files n ≡ nat_le n at.file
  pub end : write_position s ≡ at
  pub first : first_entry 2 (trail s) ≡ Some (position 0 206)
  pub plain : are_plain s.entries ≡ true

-- The same, with all that is known put in.
abbrev pub put_in : Settings → (ℕ → Option ℕ) → ℕ → Position → State → State
put_in settings own pages end s = record {
  settings = settings;
  found = created 1;
  entries = s.entries;
  forced = s.forced;
  own = own;
  wish = λ session. false;
  reader = s.reader;
  heads = only_first (first_head 0 1);
  newest = 0;
  stale = λ file page. nat_lt page pages;
  pages = pages;
  underway = None;
  files = λ n. nat_le n end.file;
  sets = s.sets;
  database = 1;
}

pub put-in : (settings : Settings) (own : ℕ → Option ℕ) (numbers : List ℕ) (pages : ℕ) (end : Position) (s : State) → Written settings own numbers pages end s →
    s ≡ put_in settings own pages end s
put-in settings own numbers pages end s h = λ i. record {
  settings = h.settings i;
  found = h.found i;
  entries = s.entries;
  forced = s.forced;
  own = λ session. h.own session i;
  wish = λ session. h.wish session i;
  reader = s.reader;
  heads = h.heads i;
  newest = h.newest i;
  stale = λ file page. h.stale file page i;
  pages = h.pages i;
  underway = h.underway i;
  files = λ n. h.files n i;
  sets = s.sets;
  database = h.database i;
}

-- ---- the commit

abbrev pub rows_committed : Inserter → State → State
rows_committed w s = session_ended w.session (with_entry (Commit w.number) s)

pub length-Commit : (t : ℕ) → length_of (Commit t) ≡ 9
unfolding big_endian
length-Commit t = refl

pub commits : (w : Inserter) (p k : ℕ) (end : Position) (s : State) → IsInserting w → w.settings.durable_commits ≡ false → Filled w p k end s → end.file + 1 < 1000000 →
    stepped w.session CommitLine s ≡ (Done, rows_committed w s)
unfolding line
commits w p k end s i d h f =
    let own : s.own w.session ≡ Some w.number = h.own w.session ∙ i.own in
    let durable : is_durable w.session s ≡ false = ap (λ (x : Settings). x.durable_commits || s.wish w.session) h.settings ∙ (ap (λ b. b || s.wish w.session) d ∙ h.wish w.session) in
    stepped-alone w.session CommitLine s h.underway
    ∙ (ap (λ (o : Option ℕ). commit_of w.session o s) own
    ∙ (ap (λ (o : Option Refusal). unless_refused o (Done, session_ended w.session (forced_where (is_durable w.session s) (with_entry (Commit w.number) s))) s) (place-none end_length s end h.end f)
    ∙ ap (λ b. (Done, session_ended w.session (forced_where b (with_entry (Commit w.number) s)))) durable))

no_wish : (other session : ℕ) (wish : ℕ → Bool) → wish other ≡ false → (c : Bool) → (if c then false else wish other) ≡ false
no_wish other session wish h true = refl
no_wish other session wish h false = h

abbrev pub commit_place : Inserter → Position → Position
commit_place w end = next_position end 9 w.settings.log_file_size

pub written-commit : (w : Inserter) (p k pages : ℕ) (end : Position) (s : State) → Filled w p k end s → s.pages ≡ pages →
    Written w.settings (at_one w.session None w.own) (without_number w.number w.live) pages (end_of (commit_place w end) 9) (rows_committed w s)
unfolding with_entry
written-commit w p k pages end s h g =
    let at : Position = (placed (Commit w.number) s).at in
    let place : at ≡ commit_place w end
    = ap (λ (x : Position). next_position x (length_of (Commit w.number)) s.settings.log_file_size) h.end
    ∙ (ap (λ (n : ℕ). next_position end n s.settings.log_file_size) (length-Commit w.number) ∙ ap (λ (x : Settings). next_position end 9 x.log_file_size) h.settings) in
    record {
      settings = h.settings;
      found = h.found;
      own = λ other. ap (λ (o : Option ℕ). if nat_eq other w.session then None else o) (h.own other);
      wish = λ other. no_wish other w.session s.wish (h.wish other) (nat_eq other w.session);
      heads = h.heads;
      newest = h.newest;
      database = h.database;
      underway = h.underway;
      live = live-Commit w.number s ∙ ap (without_number w.number) h.live;
      pages = g;
      stale = λ file page. h.stale file page ∙ ap (nat_lt page) g;
      files = λ n.
          ap (λ (x : Position). if nat_eq n x.file then true else s.files n) place
          ∙ (ap (λ b. if nat_eq n (commit_place w end).file then true else b) (h.files n)
          ∙ files_more n end.file ((commit_place w end).file) (same-file end 9 w.settings.log_file_size) (next-file end 9 w.settings.log_file_size));
      end =
          write_position-with_entry (Commit w.number) s
          ∙ (ap (λ (n : ℕ). end_of at n) (length-Commit w.number) ∙ ap (λ (x : Position). end_of x 9) place);
      first = first_entry-kept 2 (position 0 206) (placed (Commit w.number) s) (trail s) h.first;
      plain = h.plain;
    }

-- ---- inserts and their commit

-- What so many inserts and their commit are answered, the state that they leave, and that further lines go on from there.
pub record RowsAreWritten (w : Inserter) (n k pages : ℕ) (end : Position) (s : State) : Type 0 where
  pub state : State
  pub written : Written w.settings (at_one w.session None w.own) (without_number w.number w.live) pages end state
  pub told : (rest : List Line) → replies (pairs w.session n k 1 ++ (w.session, CommitLine) ∷ rest) s ≡ replicate n (Changed 1) ++ Done ∷ replies rest state
  pub left : (rest : List Line) → after (pairs w.session n k 1 ++ (w.session, CommitLine) ∷ rest) s ≡ after rest state

pub rows-written : (w : Inserter) → IsInserting w → w.settings.durable_commits ≡ false → (n p k q pages : ℕ) (end last : Position) (s : State) → Filled w p k end s →
    n + k < 2 ^ 63 → n + p + 32 ≤ 32 * w.settings.perm_pages → n + end.file < 1000000 →
    counted_up n p ≡ q → q ≤ 32 * pages → 32 * pages < q + 32 → end_behind w n end ≡ last → last.file + 1 < 1000000 →
    RowsAreWritten w n k pages (end_of (commit_place w last) 9) s
rows-written w i d n p k q pages end last s h l m f places least most ends file =
    let ran : IsFilledBy w n p k end s = inserts w i n p k end s h l m f in
    let rows : State = after (pairs w.session n k 1) s in
    let filled : Filled w (counted_up n p) (counted_up n k) last rows = subst (λ (x : Position). Filled w (counted_up n p) (counted_up n k) x rows) ends ran.filled in
    let low : counted_up n p ≤ 32 * rows.pages = filled.least in
    let high : 32 * rows.pages < counted_up n p + 32 = filled.most in
    let same : rows.pages ≡ pages = omega (arith, low, high, places, least, most) in
    let done : stepped w.session CommitLine rows ≡ (Done, rows_committed w rows) = commits w (counted_up n p) (counted_up n k) last rows i d filled file in
    record {
      state = rows_committed w rows;
      written = written-commit w (counted_up n p) (counted_up n k) pages last rows filled same;
      told = λ rest.
          replies-append (pairs w.session n k 1) ((w.session, CommitLine) ∷ rest) s
          ∙ (ap (λ (rs : List Reply). rs ++ replies ((w.session, CommitLine) ∷ rest) rows) ran.replies
          ∙ ap (λ (a : Answered). replicate n (Changed 1) ++ a.0 ∷ replies rest (a.1)) done);
      left = λ rest. after-append (pairs w.session n k 1) ((w.session, CommitLine) ∷ rest) s ∙ ap (λ (a : Answered). after rest (a.1)) done;
    }

-- ---- other lines

-- A blocking checkpoint where none is under way and no transaction is live.
pub blocking-alone : (session : ℕ) (s : State) → s.underway ≡ None → live_in s ≡ [] → no_checkpoint_number s ≡ None →
    stepped session CkptBlocking s ≡ (begun_reply s, with_completion (with_all_copies (begin_checkpoint s)))
unfolding line
blocking-alone session s u l n =
    let done : State = with_completion (with_all_copies (begin_checkpoint s)) in
    stepped-alone session CkptBlocking s u
    ∙ (ap (λ b. unless_refused (option_or (option_map (λ (x : Underway). CkptOpen x.number) b) (option_or (least_open (live_in s)) (no_checkpoint_number s))) (begun_reply s, done) s) u
    ∙ (ap (λ us. unless_refused (option_or (least_open us) (no_checkpoint_number s)) (begun_reply s, done) s) l
    ∙ ap (λ o. unless_refused o (begun_reply s, done) s) n))

-- A run by its first line and the others.
pub told-step : (l : Line) (rest : List Line) (s t : State) (r : Reply) (rs : List Reply) → stepped (l.0) (l.1) s ≡ (r, t) → replies rest t ≡ rs → replies (l ∷ rest) s ≡ r ∷ rs
told-step l rest s t r rs e h = ap (λ (a : Answered). a.0 ∷ replies rest (a.1)) e ∙ ap (λ (xs : List Reply). r ∷ xs) h

pub left-step : (l : Line) (rest : List Line) (s : State) (a : Answered) → stepped (l.0) (l.1) s ≡ a → after (l ∷ rest) s ≡ after rest (a.1)
left-step l rest s a e = ap (λ (x : Answered). after rest (x.1)) e

-- Only k itself is at least k and at most k.
pub one_alone : (k n : ℕ) → (nat_le k n && nat_le n k) ≡ nat_eq n k
one_alone k n = by_test (nat_eq n k) refl (nat_le k n) refl
  where
    by_test : (c : Bool) → nat_eq n k ≡ c → (d : Bool) → nat_le k n ≡ d → (d && nat_le n k) ≡ c
    by_test true e d l =
        let same : n ≡ k = eqb-true n k e in
        ap (λ x. x && nat_le n k) (sym l ∙ le-leb k n (omega (arith, same))) ∙ le-leb n k (omega (arith, same))
    by_test false e true l =
        let other : n ≢ k = eqb-false n k e in
        let above : k ≤ n = leb-true k n l in
        lt-leb n k (omega (arith, other, above))
    by_test false e false l = refl

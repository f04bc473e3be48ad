-- The steps of a scan.
use Rattle.std.proofs.Common.{◌≡◌, ◌⊎◌, inl, inr, ◌<◌, ◌≤◌, ◌+◌, ℕ, List, [], ◌∷◌, ◌++◌, length, drop, Bool, true, false, Option, Some, None, Ok, Err, refl, sym, ap, ◌∙◌, subst, arith, length-drop, if◌then◌else◌}
use Rattle.std.specs.Prelude.{IsOk}
use Rattle.std.proofs.lemmas.List.{drop-drop}
use Rattle.tt_disk.specs.declared.volume.Name.TheVariants.{Log as LogFile}
use Rattle.tt_disk.specs.Volume.{Keeps, Files, Outcomes}
use Rattle.tt_value.specs.declared.position.Position.{Position}
use Rattle.tt_record.specs.declared.entry.Entry.{Entry}
use Rattle.tt_record.specs.Entry.{length_of}
use Rattle.tt_record.specs.Read.{entry_at, entries_of, behind}
use Rattle.tt_record.specs.BodyLaws.{entries_end, entries_step, entries_bad}
use Rattle.tt_record.specs.Place.{position}
use Rattle.tt_log.specs.Lengths.{total}
use Rattle.tt_log.specs.declared.scan.Scan.{Scan}
use Rattle.tt_log.specs.declared.refusal.LogRefusal.{LogRefusal}
use Rattle.tt_log.specs.declared.refusal.LogRefusal.TheVariants.{Failed, NoMemory, Gap}
use Rattle.tt_log.specs.Walk.{Part, before, file_read, placed, in_front, on_part, log_of}
use Rattle.tt_log.specs.Batch.{rest_read, IsHeaded, IsRefused, IsPlain}
use Rattle.tt_log.specs.Log.{or_none, entries_in}
use Rattle.tt_log.specs.Scan.{waiting, gate_offset, part_left, joined_from, ahead, IsGoing}
use Rattle.tt_log.proofs.Sums.{total_more}
use Rattle.tt_log.proofs.Heads.{file_headed}
use Rattle.tt_log.proofs.Later.{found_ok}
use Rattle.tt_log.proofs.Walks.{placed_more, in_front_twice, Standing}
use Rattle.tt_log.proofs.Following.{log_step}

pub same_files : (a b : Files) (may_a may_b : Outcomes) → Keeps a b may_a may_b → b ≡ a
same_files a b may_a may_b keeps = λ i n. keeps.reads n i

none_in_front : (r : Standing) → in_front [] r ≡ r
none_in_front (Ok found) = refl
none_in_front (Err e) = refl

joined_zero : (n : ℕ) (part : Part) (more : Standing) → joined_from n 0 part more ≡ on_part n part more
joined_zero n (Ok (es, true)) more = refl
joined_zero n (Ok (es, false)) more = ap (λ (k : ℕ). found_ok (record { entries = placed n 0 es; end = position n k })) (omega arith)
joined_zero n (Err e) more = refl

pub none_waiting : (s : Scan) → s.at ≡ length s.body.items → entries_of (drop s.at s.body.items) ≡ Some []
none_waiting s all = entries_end (drop s.at s.body.items) (omega (arith, length-drop s.at s.body.items, all))

pub waits_none : (s : Scan) → s.at ≡ length s.body.items → waiting s ≡ []
waits_none s all = ap or_none (none_waiting s all)

-- a file that wasn't begun
pub start_ahead : (s : Scan) (files : Files) → s.begun ≡ false → s.at ≡ length s.body.items → s.offset ≡ 0 → s.file < 1000000 → ahead s files ≡ log_of s.file files
unfolding ahead
start_ahead s files begun all offset below =
    ap (λ es. in_front (placed s.file s.offset es) (joined_from s.file (gate_offset s) (part_left s files) (log_of (s.file + 1) files))) (waits_none s all)
    ∙ none_in_front (joined_from s.file (gate_offset s) (part_left s files) (log_of (s.file + 1) files))
    ∙ ap (λ (k : ℕ). joined_from s.file k (part_left s files) (log_of (s.file + 1) files)) (let zero : gate_offset s ≡ 0 = omega (arith, all, offset) in zero)
    ∙ ap (λ (b : Bool). joined_from s.file 0 (if b then rest_read s.file s.gate (gate_offset s) (files (LogFile s.file)) else file_read s.file (files (LogFile s.file))) (log_of (s.file + 1) files)) begun
    ∙ joined_zero s.file (file_read s.file (files (LogFile s.file))) (log_of (s.file + 1) files)
    ∙ sym (log_step s.file files below)

-- its header was read
pub entered : (s : Scan) (files other : Files) → s.begun ≡ false → other ≡ files → IsGoing s files → IsHeaded s.file (files (LogFile s.file))
    → in_front (placed s.file s.offset (waiting s)) (joined_from s.file (gate_offset s) (rest_read s.file s.gate (gate_offset s) (other (LogFile s.file))) (log_of (s.file + 1) other)) ≡ ahead s files
unfolding ahead
entered s files other begun same g headed =
    let at = g.unread begun in
    let front : Part → Files → Standing = λ (p : Part) (f : Files). in_front (placed s.file s.offset (waiting s)) (joined_from s.file (gate_offset s) p (log_of (s.file + 1) f)) in
    ap (λ (f : Files). front (rest_read s.file s.gate (gate_offset s) (f (LogFile s.file))) f) same
    ∙ ap (λ (p : Part). front p files) (ap (λ (k : ℕ). rest_read s.file k (gate_offset s) (files (LogFile s.file))) at.0 ∙ ap (λ (k : ℕ). rest_read s.file 16 k (files (LogFile s.file))) at.1 ∙ sym (file_headed s.file (files (LogFile s.file)) headed))
    ∙ ap (λ (b : Bool). front (if b then rest_read s.file s.gate (gate_offset s) (files (LogFile s.file)) else file_read s.file (files (LogFile s.file))) files) (sym begun)

-- what stands ahead can be read
pub part_bad : (s : Scan) (files : Files) (e : LogRefusal) → IsOk (ahead s files) → part_left s files ≡ Err e → ⊥
unfolding ahead
part_bad s files e whole is =
    let bad = subst (λ (p : Part). IsOk (in_front (placed s.file s.offset (waiting s)) (joined_from s.file (gate_offset s) p (log_of (s.file + 1) files)))) is whole in cc

pub header_good : (s : Scan) (files : Files) (e : LogRefusal) → s.begun ≡ false → IsGoing s files → (e ≡ Failed) ⊎ ((e ≡ Gap s.file) × (file_read s.file (files (LogFile s.file)) ≡ Err e)) → e ≡ Failed
header_good s files e begun g (inl failed) = failed
header_good s files e begun g (inr gap) =
    absurd (part_bad s files e g.whole (ap (λ (b : Bool). if b then rest_read s.file s.gate (gate_offset s) (files (LogFile s.file)) else file_read s.file (files (LogFile s.file))) begun ∙ gap.1))

pub left_is : (s : Scan) (files : Files) → s.begun ≡ true → s.at ≡ length s.body.items → part_left s files ≡ rest_read s.file s.gate s.offset (files (LogFile s.file))
left_is s files begun all =
    ap (λ (b : Bool). if b then rest_read s.file s.gate (gate_offset s) (files (LogFile s.file)) else file_read s.file (files (LogFile s.file))) begun
    ∙ ap (λ (k : ℕ). rest_read s.file s.gate k (files (LogFile s.file))) (let same : gate_offset s ≡ s.offset = omega (arith, all) in same)

-- all entries before the gate were given
pub full_ahead : (s : Scan) (files : Files) → s.begun ≡ true → s.at ≡ length s.body.items → ahead s files ≡ joined_from s.file s.offset (rest_read s.file s.gate s.offset (files (LogFile s.file))) (log_of (s.file + 1) files)
unfolding ahead
full_ahead s files begun all =
    ap (λ es. in_front (placed s.file s.offset es) (joined_from s.file (gate_offset s) (part_left s files) (log_of (s.file + 1) files))) (waits_none s all)
    ∙ none_in_front (joined_from s.file (gate_offset s) (part_left s files) (log_of (s.file + 1) files))
    ∙ ap (λ (k : ℕ). joined_from s.file k (part_left s files) (log_of (s.file + 1) files)) (let same : gate_offset s ≡ s.offset = omega (arith, all) in same)
    ∙ ap (λ p. joined_from s.file s.offset p (log_of (s.file + 1) files)) (left_is s files begun all)

pub closed_ahead : (s : Scan) (files : Files) → s.begun ≡ true → s.at ≡ length s.body.items → rest_read s.file s.gate s.offset (files (LogFile s.file)) ≡ Ok ([], false) → entries_in (ahead s files) ≡ []
closed_ahead s files begun all is = ap entries_in (full_ahead s files begun all ∙ ap (λ p. joined_from s.file s.offset p (log_of (s.file + 1) files)) is)

pub switched_ahead : (s t : Scan) (files other : Files) → s.begun ≡ true → s.at ≡ length s.body.items → rest_read s.file s.gate s.offset (files (LogFile s.file)) ≡ Ok ([], true) → other ≡ files
    → t.begun ≡ false → t.at ≡ length t.body.items → t.offset ≡ 0 → t.file ≡ s.file + 1 → t.file < 1000000 → ahead t other ≡ ahead s files
switched_ahead s t files other begun all is same begun' all' offset file below =
    start_ahead t other begun' all' offset below
    ∙ ap (λ (f : Files). log_of t.file f) same ∙ ap (λ (k : ℕ). log_of k files) file
    ∙ sym (full_ahead s files begun all ∙ ap (λ p. joined_from s.file s.offset p (log_of (s.file + 1) files)) is ∙ none_in_front (log_of (s.file + 1) files))

pub switched_going : (t : Scan) (other : Files) → t.begun ≡ false → t.at ≡ length t.body.items → t.offset ≡ 0 → t.gate ≡ 16 → IsOk (ahead t other) → IsGoing t other
switched_going t other begun all offset gate whole = record {
  headed = λ is. absurd (let bad : true ≡ false = sym is ∙ begun in cc);
  unread = λ _. (gate, omega (arith, all, offset));
  body = none_waiting t all ∙ ap (λ (l : List Entry). Some l) (sym (waits_none t all));
  long = ap total (waits_none t all) ∙ omega (arith, all);
  whole = whole;
}

joined_before : (n offset : ℕ) (es : List Entry) (part : Part) (more : Standing) → joined_from n offset (before es part) more ≡ in_front (placed n offset es) (joined_from n (offset + total es) part more)
joined_before n offset es (Ok (fs, true)) more = ap (λ (l : List (Position × Entry)). in_front l more) (placed_more n offset es fs) ∙ sym (in_front_twice (placed n offset es) (placed n (offset + total es) fs) more)
joined_before n offset es (Ok (fs, false)) more =
    ap (λ (l : List (Position × Entry)). found_ok (record { entries = l; end = position n (offset + total (es ++ fs)) })) (placed_more n offset es fs)
    ∙ ap (λ (k : ℕ). found_ok (record { entries = placed n offset es ++ placed n (offset + total es) fs; end = position n k })) (omega (arith, total_more es fs))
joined_before n offset es (Err e) more = refl

-- a body was read
pub record Filled (s t : Scan) (body : List ℕ) : Type 0 where
  pub file : t.file ≡ s.file
  pub begun : t.begun ≡ s.begun
  pub gate : t.gate ≡ s.gate + 9 + length body
  pub offset : t.offset ≡ s.offset
  pub body_is : t.body.items ≡ body
  pub at : t.at ≡ 0

filled_body : (s t : Scan) (body : List ℕ) → Filled s t body → drop t.at t.body.items ≡ body
filled_body s t body f = ap (λ (k : ℕ). drop k t.body.items) f.at ∙ f.body_is

filled_waits : (s t : Scan) (files : Files) (body : List ℕ) → Filled s t body → (p : IsPlain s.file s.gate s.offset (files (LogFile s.file)) body) → waiting t ≡ p.es
filled_waits s t files body f p = ap (λ (l : List ℕ). or_none (entries_of l)) (filled_body s t body f) ∙ ap or_none p.is

pub filled_ahead : (s t : Scan) (files other : Files) (body : List ℕ) → s.begun ≡ true → s.at ≡ length s.body.items → IsPlain s.file s.gate s.offset (files (LogFile s.file)) body → other ≡ files → Filled s t body → ahead t other ≡ ahead s files
unfolding ahead
filled_ahead s t files other body begun all p same f =
    let goff : gate_offset t ≡ s.offset + length body = omega (arith, f.offset, ap length f.body_is, f.at) in
    let goff' : gate_offset t ≡ s.offset + total p.es = goff ∙ ap (λ (k : ℕ). s.offset + k) (sym p.long) in
    let part : part_left t files ≡ rest_read s.file (s.gate + 9 + length body) (s.offset + length body) (files (LogFile s.file)) =
    ap (λ (b : Bool). if b then rest_read t.file t.gate (gate_offset t) (files (LogFile t.file)) else file_read t.file (files (LogFile t.file))) (f.begun ∙ begun)
    ∙ ap (λ (k : ℕ). rest_read k t.gate (gate_offset t) (files (LogFile k))) f.file ∙ ap (λ (k : ℕ). rest_read s.file k (gate_offset t) (files (LogFile s.file))) f.gate
    ∙ ap (λ (k : ℕ). rest_read s.file (s.gate + 9 + length body) k (files (LogFile s.file))) goff in
    let rest = rest_read s.file (s.gate + 9 + length body) (s.offset + length body) (files (LogFile s.file)) in
    ap (λ (h : Files). ahead t h) same
    ∙ ap (λ es. in_front (placed t.file t.offset es) (joined_from t.file (gate_offset t) (part_left t files) (log_of (t.file + 1) files))) (filled_waits s t files body f p)
    ∙ ap (λ q. in_front (placed t.file t.offset p.es) (joined_from t.file (gate_offset t) q (log_of (t.file + 1) files))) part
    ∙ ap (λ (k : ℕ). in_front (placed t.file t.offset p.es) (joined_from t.file k rest (log_of (t.file + 1) files))) goff'
    ∙ ap (λ (k : ℕ). in_front (placed t.file k p.es) (joined_from t.file (s.offset + total p.es) rest (log_of (t.file + 1) files))) f.offset
    ∙ ap (λ (k : ℕ). in_front (placed k s.offset p.es) (joined_from k (s.offset + total p.es) rest (log_of (k + 1) files))) f.file
    ∙ sym (full_ahead s files begun all ∙ ap (λ q. joined_from s.file s.offset q (log_of (s.file + 1) files)) p.goes ∙ joined_before s.file s.offset p.es rest (log_of (s.file + 1) files))

pub filled_going : (s t : Scan) (files other : Files) (body : List ℕ) → s.begun ≡ true → s.at ≡ length s.body.items → IsPlain s.file s.gate s.offset (files (LogFile s.file)) body → other ≡ files → Filled s t body → IsGoing s files → IsGoing t other
filled_going s t files other body begun all p same f g =
    let waits = filled_waits s t files body f p in
    record {
      headed = λ _. subst (λ (k : ℕ). IsHeaded k (other (LogFile k))) (sym f.file) (subst (λ (h : Files). IsHeaded s.file (h (LogFile s.file))) (sym same) (g.headed begun));
      unread = λ is. absurd (let bad : true ≡ false = sym (f.begun ∙ begun) ∙ is in cc);
      body = ap entries_of (filled_body s t body f) ∙ p.is ∙ ap (λ (l : List Entry). Some l) (sym waits);
      long = ap total waits ∙ p.long ∙ omega (arith, ap length f.body_is, f.at);
      whole = subst (λ (r : Standing). IsOk r) (sym (filled_ahead s t files other body begun all p same f)) g.whole;
    }

pub load_refused : (s : Scan) (files : Files) (e : LogRefusal) → s.begun ≡ true → s.at ≡ length s.body.items → IsGoing s files → IsRefused e (rest_read s.file s.gate s.offset (files (LogFile s.file))) → (e ≡ Failed) ⊎ (e ≡ NoMemory)
load_refused s files e begun all g (inl failed) = inl failed
load_refused s files e begun all g (inr (inl wanting)) = inr wanting
load_refused s files e begun all g (inr (inr is)) = absurd (part_bad s files e g.whole (left_is s files begun all ∙ is))

-- ---- one entry

behind_some : (e : Entry) (o : Option (List Entry)) (es : List Entry) → behind e o ≡ Some es → (gs : List Entry) × (o ≡ Some gs) × (es ≡ e ∷ gs)
behind_some e None es is = cc
behind_some e (Some gs) es is = (gs, refl, let same : e ∷ gs ≡ es = cc in sym same)

pub record Passed (s t : Scan) (e : Entry) (n : ℕ) : Type 0 where
  pub reads : entry_at (drop s.at s.body.items) ≡ Some (e, n)
  pub long : n ≡ length_of e
  pub within : s.at + n ≤ length s.body.items
  pub at : t.at ≡ s.at + n
  pub offset : t.offset ≡ s.offset + n
  pub file : t.file ≡ s.file
  pub begun : t.begun ≡ s.begun
  pub gate : t.gate ≡ s.gate
  pub body_is : t.body ≡ s.body

record Split (s t : Scan) (e : Entry) : Type 0 where
  pub all : waiting s ≡ e ∷ waiting t
  pub rest : entries_of (drop t.at t.body.items) ≡ Some (waiting t)

split : (s t : Scan) (files : Files) (e : Entry) (n : ℕ) → IsGoing s files → Passed s t e n → Split s t e
split s t files e n g p =
    let step : behind e (entries_of (drop n (drop s.at s.body.items))) ≡ Some (waiting s) = sym (entries_step (drop s.at s.body.items) e n p.reads) ∙ g.body in
    let h = behind_some e (entries_of (drop n (drop s.at s.body.items))) (waiting s) step in
    let same : drop t.at t.body.items ≡ drop n (drop s.at s.body.items) = ap (λ b. drop t.at b.items) p.body_is ∙ ap (λ (k : ℕ). drop k s.body.items) p.at ∙ sym (drop-drop n s.at s.body.items) in
    let rest : entries_of (drop t.at t.body.items) ≡ Some h.0 = ap entries_of same ∙ h.1 in
    let waits : waiting t ≡ h.0 = ap or_none rest in
    record { all = h.2 ∙ ap (λ (l : List Entry). e ∷ l) (sym waits); rest = rest ∙ ap (λ (l : List Entry). Some l) (sym waits) }

passed_goff : (s t : Scan) (e : Entry) (n : ℕ) → Passed s t e n → gate_offset t ≡ gate_offset s
passed_goff s t e n p = omega (arith, p.within, p.at, p.offset, ap (λ b. length b.items) p.body_is)

part_same : (s t : Scan) (files : Files) (e : Entry) (n : ℕ) → Passed s t e n → part_left t files ≡ part_left s files
part_same s t files e n p =
    ap (λ (k : ℕ). if t.begun then rest_read t.file t.gate k (files (LogFile t.file)) else file_read t.file (files (LogFile t.file))) (passed_goff s t e n p)
    ∙ ap (λ (k : ℕ). if t.begun then rest_read k t.gate (gate_offset s) (files (LogFile k)) else file_read k (files (LogFile k))) p.file
    ∙ ap (λ (k : ℕ). if t.begun then rest_read s.file k (gate_offset s) (files (LogFile s.file)) else file_read s.file (files (LogFile s.file))) p.gate
    ∙ ap (λ (b : Bool). if b then rest_read s.file s.gate (gate_offset s) (files (LogFile s.file)) else file_read s.file (files (LogFile s.file))) p.begun

pub passed_ahead : (s t : Scan) (files : Files) (e : Entry) (n : ℕ) → IsGoing s files → Passed s t e n → ahead s files ≡ in_front ((position s.file s.offset, e) ∷ []) (ahead t files)
unfolding ahead
passed_ahead s t files e n g p =
    let sp = split s t files e n g p in
    let tail : Part → ℕ → ℕ → Standing = λ (q : Part) (k o : ℕ). joined_from k o q (log_of (k + 1) files) in
    ap (λ es. in_front (placed s.file s.offset es) (tail (part_left s files) s.file (gate_offset s))) sp.all
    ∙ sym (in_front_twice ((position s.file s.offset, e) ∷ []) (placed s.file (s.offset + length_of e) (waiting t)) (tail (part_left s files) s.file (gate_offset s)))
    ∙ ap (λ (k : ℕ). in_front ((position s.file s.offset, e) ∷ []) (in_front (placed s.file k (waiting t)) (tail (part_left s files) s.file (gate_offset s)))) (sym (p.offset ∙ ap (λ (k : ℕ). s.offset + k) p.long))
    ∙ ap (λ (k : ℕ). in_front ((position s.file s.offset, e) ∷ []) (in_front (placed k t.offset (waiting t)) (tail (part_left s files) k (gate_offset s)))) (sym p.file)
    ∙ ap (λ (k : ℕ). in_front ((position s.file s.offset, e) ∷ []) (in_front (placed t.file t.offset (waiting t)) (tail (part_left s files) t.file k))) (sym (passed_goff s t e n p))
    ∙ ap (λ (q : Part). in_front ((position s.file s.offset, e) ∷ []) (in_front (placed t.file t.offset (waiting t)) (tail q t.file (gate_offset t)))) (sym (part_same s t files e n p))

front_ok : (ps : List (Position × Entry)) (r other : Standing) → IsOk r → r ≡ in_front ps other → IsOk other
front_ok ps r (Ok found) whole is = refl
front_ok ps r (Err e) whole is = absurd (let bad = subst (λ (q : Standing). IsOk q) is whole in cc)

pub passed_going : (s t : Scan) (files : Files) (e : Entry) (n : ℕ) → IsGoing s files → Passed s t e n → IsGoing t files
passed_going s t files e n g p =
    let sp = split s t files e n g p in
    record {
      headed = λ is. subst (λ (k : ℕ). IsHeaded k (files (LogFile k))) (sym p.file) (g.headed (sym p.begun ∙ is));
      unread = λ is. let u = g.unread (sym p.begun ∙ is) in (p.gate ∙ u.0, passed_goff s t e n p ∙ u.1);
      body = sp.rest;
      long = omega (arith, g.long, ap total sp.all, p.long, p.within, p.at, ap (λ b. length b.items) p.body_is);
      whole = front_ok ((position s.file s.offset, e) ∷ []) (ahead s files) (ahead t files) g.whole (passed_ahead s t files e n g p);
    }

-- an entry is at hand
pub entry_good : (s : Scan) (files : Files) → IsGoing s files → s.at < length s.body.items → entry_at (drop s.at s.body.items) ≡ None → ⊥
entry_good s files g below none =
    let bad = entries_bad (drop s.at s.body.items) (omega (arith, length-drop s.at s.body.items)) none in
    let clash : ◌≡◌ {A = Option (List Entry)} None (Some (waiting s)) = sym bad ∙ g.body in cc

-- Entries that are handed over, one after another.
use Rattle.std.proofs.Common.{◌≡◌, ◌<◌, ◌≤◌, ◌+◌, ℕ, List, [], ◌∷◌, ◌++◌, length, drop, Bool, true, false, Option, Some, None, Result, Ok, Err, sym, ap, ◌∙◌, subst, arith, append_assoc, length-drop}
use Rattle.std.specs.Prelude.{OnOk}
use Rattle.std.proofs.lemmas.List.{append-nil, drop-drop}
use Rattle.tt_disk.specs.declared.volume.Name.TheVariants.{Log}
use Rattle.tt_disk.specs.Volume.{Files, File}
use Rattle.tt_value.specs.declared.position.Position.{Position}
use Rattle.tt_record.specs.declared.entry.Entry.{Entry}
use Rattle.tt_record.specs.Place.{position}
use Rattle.tt_record.specs.Read.{entry_at, entries_of}
use Rattle.tt_record.specs.BodyLaws.{entries_step, entries_bad, entries_end}
use Rattle.tt_log.specs.Body.{joined}
use Rattle.tt_log.specs.Lengths.{total}
use Rattle.tt_log.specs.declared.file.FileEnd.{FileEnd}
use Rattle.tt_log.specs.declared.file.FileCursor.{FileCursor}
use Rattle.tt_log.specs.declared.file.BatchStep.{BatchStep}
use Rattle.tt_log.specs.declared.refusal.LogRefusal.{LogRefusal}
use Rattle.tt_log.specs.declared.opening.LogEnd.{LogEnd}
use Rattle.tt_log.specs.Walk.{Part, before, file_read, placed, in_front, on_part, log_of}
use Rattle.tt_log.specs.Batch.{rest_read}
use Rattle.tt_log.specs.Log.{entries_in}
use Rattle.tt_log.specs.File.{IsEnd}
use Rattle.tt_log.specs.Visitor.{Visits, VisitsOne, VisitsPart, VisitsUpTo, VisitsBatch, VisitsLog, at_first}
use Rattle.tt_log.proofs.Sums.{total_more}
use Rattle.tt_log.proofs.Walks.{placed_more, in_front_twice}
use Rattle.tt_log.proofs.Skips.{joined_behind, rest_of}
use Rattle.tt_log.proofs.Reaching.{before_twice}
use Rattle.tt_log.proofs.Following.{log_step}

abbrev pub Took : Type 1
Took = List (Position × Entry) → Type 0

takes_then : (old mid new : Took) (xs ys : List (Position × Entry)) → Visits old mid xs → Visits mid new ys → Visits old new (xs ++ ys)
takes_then old mid new xs ys one two ps t = subst new (append_assoc ps xs ys) (two (ps ++ xs) (one ps t))

-- ---- the entries of a body

-- those before an offset
pub record Handed (old now : Took) (bytes : List ℕ) (n offset at : ℕ) : Type 0 where
  pub es : List Entry
  pub is : entries_of bytes ≡ joined es (entries_of (drop at bytes))
  pub long : total es ≡ at
  pub takes : Visits old now (placed n offset es)

pub handed_one : (old mid new : Took) (bytes : List ℕ) (n offset at k : ℕ) (place : Position) → place ≡ position n (offset + at) → Handed old mid bytes n offset at → VisitsOne mid new bytes at k place → Handed old new bytes n offset (at + k)
handed_one old mid new bytes n offset at k place here s t =
    let h = t.has in
    let there : place ≡ position n (offset + total s.es) = here ∙ ap (λ (j : ℕ). position n (offset + j)) (sym s.long) in
    record {
      es = s.es ++ h.entry ∷ [];
      is = s.is ∙ ap (joined s.es) (entries_step (drop at bytes) h.entry k h.is) ∙ joined_behind s.es h.entry (entries_of (drop k (drop at bytes))) ∙ ap (λ (l : List ℕ). joined (s.es ++ h.entry ∷ []) (entries_of l)) (drop-drop k at bytes);
      long = total_more s.es (h.entry ∷ []) ∙ omega (arith, s.long, h.long);
      takes = subst (Visits old new) (ap (λ (q : Position). placed n offset s.es ++ (q, h.entry) ∷ []) there ∙ sym (placed_more n offset s.es (h.entry ∷ [])))
          (takes_then old mid new (placed n offset s.es) ((place, h.entry) ∷ []) s.takes t.takes);
    }

pub handed_all : (old now : Took) (bytes : List ℕ) (n offset at : ℕ) (es : List Entry) → length bytes ≤ at → Handed old now bytes n offset at → entries_of bytes ≡ Some es → Visits old now (placed n offset es)
handed_all old now bytes n offset at es above s is =
    let none = entries_end (drop at bytes) (omega (arith, length-drop at bytes, above)) in
    let same : s.es ≡ es = sym (append-nil s.es) ∙ cc in
    subst (λ (l : List Entry). Visits old now (placed n offset l)) same s.takes

pub handed_bad : (old now : Took) (bytes : List ℕ) (n offset at : ℕ) (es : List Entry) → at < length bytes → Handed old now bytes n offset at → entry_at (drop at bytes) ≡ None → entries_of bytes ≡ Some es → ⊥
handed_bad old now bytes n offset at es below s none is =
    let r = rest_of s.es es (entries_of (drop at bytes)) (sym s.is ∙ is) in
    let bad = entries_bad (drop at bytes) (omega (arith, length-drop at bytes)) none in
    let clash : ◌≡◌ {A = Option (List Entry)} None (Some r.gs) = sym bad ∙ r.is in cc

-- ---- the entries of a file

pub up_to_more : (n : ℕ) (old mid new : Took) (a b c : FileCursor) (file : File) → VisitsUpTo n old mid a b file → VisitsUpTo n mid new b c file → VisitsUpTo n old new a c file
up_to_more n old mid new a b c file x y = record {
  es = x.es ++ y.es;
  goes = x.goes ∙ ap (before x.es) y.goes ∙ before_twice x.es y.es (rest_read n c.gate c.offset file);
  long = omega (arith, x.long, y.long, total_more x.es y.es);
  takes = subst (Visits old new) (ap (λ (k : ℕ). placed n a.offset x.es ++ placed n k y.es) x.long ∙ sym (placed_more n a.offset x.es y.es))
      (takes_then old mid new (placed n a.offset x.es) (placed n b.offset y.es) x.takes y.takes);
}

pub visited_is : {T : Type 0} (visited : T → Took) (a b : T) (n : ℕ) (at : FileCursor) (file : File) (r : Result BatchStep LogRefusal) (w : BatchStep) {want : BatchStep} → VisitsBatch n visited a b at r file → r ≡ Ok w → w ≡ want → VisitsBatch n visited a b at (Ok want) file
visited_is visited a b n at file r w says is one =
    let P : Result BatchStep LogRefusal → Type 0 = λ q. VisitsBatch n visited a b at q file in
    subst P (is ∙ ap (λ (k : BatchStep). Ok k) one) says

abbrev whole_part : List Entry → Bool → Part
whole_part es switched = Ok (es, switched)

same_part : (es fs : List Entry) (a b : Bool) → whole_part es a ≡ whole_part fs b → es ≡ fs
same_part es fs a b is = let e : ◌≡◌ {A = List Entry × Bool} (es, a) (fs, b) = cc in ap (λ (p : List Entry × Bool). p.0) e

pub up_to_end : (n : ℕ) (old mid new : Took) (at : FileCursor) (end : FileEnd) (file : File) → VisitsUpTo n old mid at_first at file → (rest_read n at.gate at.offset file ≡ Ok ([], end.switched)) × Visits mid new [] → VisitsPart n old new (rest_read n 16 0 file)
up_to_end n old mid new at end file x ends es switched is =
    let whole : rest_read n 16 0 file ≡ Ok (x.es ++ [], end.switched) = x.goes ∙ ap (before x.es) ends.0 in
    let same : x.es ≡ es = sym (append-nil x.es) ∙ same_part (x.es ++ []) es end.switched switched (sym whole ∙ is) in
    subst (λ (l : List Entry). Visits old new (placed n 0 l)) same
    (subst (Visits old new) (append-nil (placed n 0 x.es)) (takes_then old mid new (placed n 0 x.es) [] x.takes ends.1))

pub part_same : (n : ℕ) (old new : Took) (part other : Part) → part ≡ other → VisitsPart n old new part → VisitsPart n old new other
part_same n old new part other same t = subst (λ (p : Part). VisitsPart n old new p) same t

-- ---- the entries of all files

-- those of the files up to this one
pub record TakesFiles (n k : ℕ) (old now : Took) (files : Files) : Type 0 where
  pub front : List (Position × Entry)
  pub is : log_of n files ≡ in_front front (log_of k files)
  pub takes : (fs : List Entry) (b : Bool) → file_read n (files (Log n)) ≡ Ok (fs, b) → (es : List Entry) (c : Bool) → file_read k (files (Log k)) ≡ Ok (es, c)
      → (ps : List (Position × Entry)) → old (ps ++ placed n 0 fs) → now ((ps ++ front) ++ placed k 0 es)

pub files_more : (n k : ℕ) (old mid new : Took) (files : Files) (end : FileEnd) → k < 1000000 → TakesFiles n k old mid files → IsEnd (file_read k (files (Log k))) end → end.switched ≡ true
    → VisitsPart (k + 1) mid new (file_read (k + 1) (files (Log (k + 1)))) → TakesFiles n (k + 1) old new files
files_more n k old mid new files end below g e switched part = record {
  front = g.front ++ placed k 0 e.es;
  is = g.is ∙ ap (in_front g.front) (log_step k files below ∙ ap (λ p. on_part k p (log_of (k + 1) files)) (e.is ∙ ap (λ (b : Bool). Ok (e.es, b)) switched))
      ∙ in_front_twice g.front (placed k 0 e.es) (log_of (k + 1) files);
  takes = λ fs b one es c two ps t.
      let m : mid ((ps ++ g.front) ++ placed k 0 e.es) = g.takes fs b one e.es end.switched e.is ps t in
      subst (λ (l : List (Position × Entry)). new (l ++ placed (k + 1) 0 es)) (append_assoc ps g.front (placed k 0 e.es)) (part es c two ((ps ++ g.front) ++ placed k 0 e.es) m);
}

pub files_end : (n k : ℕ) (old new : Took) (files : Files) (end : FileEnd) → k < 1000000 → TakesFiles n k old new files → IsEnd (file_read k (files (Log k))) end → end.switched ≡ false → VisitsLog n old new files
files_end n k old new files end below g e switched fs b one ps t =
    let all : entries_in (log_of n files) ≡ g.front ++ placed k 0 e.es =
    ap entries_in (g.is ∙ ap (in_front g.front) (log_step k files below ∙ ap (λ p. on_part k p (log_of (k + 1) files)) (e.is ∙ ap (λ (c : Bool). Ok (e.es, c)) switched))) in
    subst new (append_assoc ps g.front (placed k 0 e.es) ∙ ap (λ (l : List (Position × Entry)). ps ++ l) (sym all)) (g.takes fs b one e.es end.switched e.is ps t)

-- the first file, and then all
pub log_taken : (n : ℕ) (old mid new : Took) (files : Files) (end : FileEnd) → IsEnd (file_read n (files (Log n))) end → VisitsPart n old mid (file_read n (files (Log n))) → VisitsLog n mid new files → Visits old new (entries_in (log_of n files))
log_taken n old mid new files end e part more ps t = more e.es end.switched e.is ps (part e.es end.switched e.is ps t)

pub taken_all : (n : ℕ) (old mid new : Took) (files others : Files) (end : FileEnd) (r : Result LogEnd LogRefusal) → IsEnd (file_read n (files (Log n))) end → VisitsPart n old mid (file_read n (files (Log n))) → others ≡ files
    → OnOk r (VisitsLog n mid new others) → OnOk r (Visits old new (entries_in (log_of n files)))
taken_all n old mid new files others end (Ok at) e part same more = log_taken n old mid new files end e part (subst (λ (f : Files). VisitsLog n mid new f) same more)
taken_all n old mid new files others end (Err refusal) e part same more = more

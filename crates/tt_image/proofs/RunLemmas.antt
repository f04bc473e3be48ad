-- Pages that follow each other, written by one call.
use Rattle.std.proofs.Common.{◌≡◌, ◌≤◌, ◌<◌, ◌+◌, ◌-◌, ℕ, suc, max, List, [], ◌∷◌, ◌++◌, length, take, drop, get_or, slice_index, Option, Some, None, refl, sym, ◌∙◌, ap, ap₂, subst, arith, append_assoc, length-append, length-take, length-drop, add-zero}
use Rattle.std.proofs.Math.Seq.{take-add}
use Rattle.std.proofs.lemmas.List.{append-nil, take-append-drop, take-take, take_more, drop-take, drop-drop, get_or-map, get_or-drop}
use Rattle.std.proofs.lemmas.List.Elements.{All-take, All-drop}
use Rattle.tt_disk.specs.Volume.{overwritten, size_of, written}
use Rattle.tt_disk.specs.Laws.{end_written}
use Rattle.tt_cells.specs.declared.PageCopy.{PageCopy}
use Rattle.tt_cells.specs.Limits.{page_size}
use Rattle.tt_cells.specs.Copies.{AreWhole, joined, pages_of}
use Rattle.tt_image.specs.Head.{page_start}
use Rattle.tt_image.specs.Laws.{size_behind}
use Rattle.tt_image.specs.Pages.{AreFrom, BeginWithin, with_pages}

-- ---- which copies are a run

from_append : (page : ℕ) (copies : List PageCopy) (copy : PageCopy) → AreFrom page copies → copy.page ≡ page + length copies → AreFrom page (copies ++ copy ∷ [])
from_append page [] copy are is = (is ∙ add-zero page, tt)
from_append page (c ∷ copies) copy are is = (are.0, from_append (page + 1) copies copy are.1 (is ∙ (let e : page + suc (length copies) ≡ page + 1 + length copies = omega arith in e)))

no_copy : PageCopy
no_copy = record { page = 0; bytes = [] }

page_there : (copies : List PageCopy) (from n : ℕ) → from + n < length copies → slice_index (pages_of copies) (from + n) ≡ (get_or (drop from copies) n no_copy).page
page_there copies from n less =
    get_or-map (λ (copy : PageCopy). copy.page) copies (from + n) no_copy 0 less ∙ ap (λ (copy : PageCopy). copy.page) (sym (get_or-drop from copies n no_copy))

-- one more, of the page next to the last
pub run_more : (copies : List PageCopy) (first from n : ℕ) → from + n < length copies → AreFrom first (take n (drop from copies)) → slice_index (pages_of copies) (from + n) ≡ first + n → AreFrom first (take (n + 1) (drop from copies))
run_more copies first from n less are is =
    let rest = drop from copies in
    let counted : length (take n rest) ≡ n = omega (arith, length-take n rest, length-drop from copies, less) in
    let next : (get_or rest n no_copy).page ≡ first + length (take n rest) = sym (page_there copies from n less) ∙ is ∙ ap (λ (k : ℕ). first + k) (sym counted) in
    subst (AreFrom first) (sym (take_more rest n no_copy (omega (arith, length-drop from copies, less)))) (from_append first (take n rest) (get_or rest n no_copy) are next)

pub run_of_one : (copies : List PageCopy) (from : ℕ) → from < length copies → AreFrom (slice_index (pages_of copies) from) (take 1 (drop from copies))
run_of_one copies from less =
    run_more copies (slice_index (pages_of copies) from) from 0 (omega (arith, less)) tt (ap (slice_index (pages_of copies)) (add-zero from) ∙ sym (add-zero (slice_index (pages_of copies) from)))

pub run_of_whole : (copies : List PageCopy) (from n : ℕ) → AreWhole copies → AreWhole (take n (drop from copies))
run_of_whole copies from n whole =
    let P : PageCopy → Type 0 = λ copy. length copy.bytes ≡ page_size in
    All-take P n (drop from copies) (All-drop P from copies whole)

-- ---- one write of a run is the writes of its pages

written_nothing : (at : ℕ) (file : Option (List ℕ)) → written at [] file ≡ file
written_nothing at None = refl
written_nothing at (Some f) =
    ap (λ (l : List ℕ). Some l) (ap₂ (λ (l : List ℕ) (k : ℕ). l ++ drop k f) (append-nil (take at f)) (add-zero at) ∙ take-append-drop at f)

overwritten_twice : (at : ℕ) (a b f : List ℕ) → at ≤ length f → overwritten (at + length a) b (overwritten at a f) ≡ overwritten at (a ++ b) f
overwritten_twice at a b f le =
    let front = take at f in
    let counted : length (front ++ a) ≡ at + length a = omega (arith, length-append front a, length-take at f, le) in
    let rest : drop (length b) (drop (at + length a) f) ≡ drop (at + length (a ++ b)) f =
    drop-drop (length b) (at + length a) f ∙ ap (λ (k : ℕ). drop k f) (let e : at + length a + length b ≡ at + length (a ++ b) = omega (arith, length-append a b) in e) in
    end_written (front ++ a) (drop (at + length a) f) b (at + length a) counted
    ∙ sym (append_assoc (front ++ a) b (drop (length b) (drop (at + length a) f)))
    ∙ ap₂ (λ (x y : List ℕ). x ++ y) (append_assoc front a b) rest

written_twice : (at next : ℕ) (a b : List ℕ) (file : Option (List ℕ)) → next ≡ at + length a → at ≤ size_of file → written next b (written at a file) ≡ written at (a ++ b) file
written_twice at next a b None is le = refl
written_twice at next a b (Some f) is le = ap (λ (k : ℕ). Some (overwritten k b (overwritten at a f))) is ∙ ap (λ (l : List ℕ). Some l) (overwritten_twice at a b f le)

pub run_written : (page : ℕ) (run : List PageCopy) (file : Option (List ℕ)) → AreWhole run → AreFrom page run → page_start page ≤ size_of file → written (page_start page) (joined run) file ≡ with_pages run file
run_written page [] file whole are le = written_nothing (page_start page) file
run_written page (copy ∷ run) file whole are le =
    let long : length copy.bytes ≡ page_size = whole 0 copy (omega arith) in
    let others : AreWhole run = λ k d less. whole (suc k) d (omega (arith, less)) in
    let at = page_start page in
    let next : page_start (page + 1) ≡ at + length copy.bytes = omega (arith, long) in
    let starts : page_start copy.page ≡ at = ap page_start are.0 in
    let grown : size_of (written at copy.bytes file) ≡ max (size_of file) (page_start (page + 1)) = size_behind page copy.bytes file long le in
    sym (written_twice at (page_start (page + 1)) copy.bytes (joined run) file next le)
    ∙ run_written (page + 1) run (written at copy.bytes file) others are.1 (omega (arith, grown))
    ∙ ap (λ (k : ℕ). with_pages run (written k copy.bytes file)) (sym starts)

-- ---- one run after another

with_pages-append : (a b : List PageCopy) (file : Option (List ℕ)) → with_pages (a ++ b) file ≡ with_pages b (with_pages a file)
with_pages-append [] b file = refl
with_pages-append (copy ∷ a) b file = with_pages-append a b (written (page_start copy.page) copy.bytes file)

begin_behind : (a b : List PageCopy) (file : Option (List ℕ)) → AreWhole a → BeginWithin (size_of file) (a ++ b) → BeginWithin (size_of (with_pages a file)) b
begin_behind [] b file whole within = within
begin_behind (copy ∷ a) b file whole within =
    let long : length copy.bytes ≡ page_size = whole 0 copy (omega arith) in
    let others : AreWhole a = λ k d less. whole (suc k) d (omega (arith, less)) in
    begin_behind a b (written (page_start copy.page) copy.bytes file) others
    (subst (λ (n : ℕ). BeginWithin n (a ++ b)) (sym (size_behind copy.page copy.bytes file long within.0)) within.1)

first_begins : (page size : ℕ) (run rest : List PageCopy) → 1 ≤ length run → AreFrom page run → BeginWithin size (run ++ rest) → page_start page ≤ size
first_begins page size [] rest some are within = absurd (omega (arith, some))
first_begins page size (copy ∷ run) rest some are within = omega (arith, ap page_start are.0, within.0)

-- Of the first copies of a list, those from one on, and a run of them.
module _ (copies : List PageCopy) (count from n : ℕ) (within : from + n ≤ count) where
  abbrev all : List PageCopy
  all = take count copies

  abbrev run : List PageCopy
  run = take n (drop from copies)

  is_run : run ≡ take n (drop from all)
  is_run =
      let m = count - from in
      let whole : count ≡ from + m = omega (arith, within) in
      sym (take-take n m (drop from copies) (omega (arith, within))) ∙ ap (take n) (sym (drop-take from m copies) ∙ ap (λ (k : ℕ). drop from (take k copies)) (sym whole))

  parted : drop from all ≡ run ++ drop (from + n) all
  parted = sym (take-append-drop n (drop from all)) ∙ ap₂ (λ (x y : List PageCopy). x ++ y) (sym is_run) (drop-drop n from all)

  pub runs_written : (first now after : Option (List ℕ)) → now ≡ with_pages (take from all) first → after ≡ with_pages run now → after ≡ with_pages (take (from + n) all) first
  runs_written first now after before is =
      is ∙ ap (with_pages run) before ∙ sym (with_pages-append (take from all) run first)
      ∙ ap (λ (l : List PageCopy). with_pages l first) (ap (λ (l : List PageCopy). take from all ++ l) is_run ∙ sym (take-add from n all))

  pub begin_behind_run : (now after : Option (List ℕ)) → AreWhole copies → after ≡ with_pages run now → BeginWithin (size_of now) (drop from all) → BeginWithin (size_of after) (drop (from + n) all)
  begin_behind_run now after whole is begin =
      subst (λ (o : Option (List ℕ)). BeginWithin (size_of o) (drop (from + n) all)) (sym is)
      (begin_behind run (drop (from + n) all) now (run_of_whole copies from n whole) (subst (BeginWithin (size_of now)) parted begin))

  pub run_begins : (page size : ℕ) → 1 ≤ n → count ≤ length copies → AreFrom page run → BeginWithin size (drop from all) → page_start page ≤ size
  run_begins page size some few are begin =
      let counted : length run ≡ n = omega (arith, length-take n (drop from copies), length-drop from copies, within, few) in
      first_begins page size run (drop (from + n) all) (omega (arith, counted, some)) are (subst (BeginWithin size) parted begin)

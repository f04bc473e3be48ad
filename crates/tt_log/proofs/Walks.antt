-- One more batch in the last file of a walk, or one file more.
use Rattle.std.proofs.Common.{◌≡◌, ◌≤◌, ◌<◌, ◌+◌, ℕ, zero, suc, List, [], ◌∷◌, ◌++◌, refl, sym, ap, ◌∙◌, subst, true, false, arith, append_assoc, Result, Ok, Err}
use Rattle.std.proofs.lemmas.List.{append-nil}
use Rattle.tt_disk.specs.declared.volume.Name.TheVariants.{Log}
use Rattle.tt_disk.specs.Volume.{Files, File}
use Rattle.tt_record.specs.declared.entry.Entry.{Entry}
use Rattle.tt_value.specs.declared.position.Position.{Position}
use Rattle.tt_record.specs.Entry.{length_of}
use Rattle.tt_log.specs.Lengths.{total}
use Rattle.tt_log.proofs.Sums.{total_more}
use Rattle.tt_log.specs.declared.refusal.LogRefusal.{LogRefusal}
use Rattle.tt_log.specs.Walk.{Part, file_read, LogContents, placed, in_front, on_part, walk, with_more, switched}
use Rattle.tt_record.specs.Place.{position}
use Rattle.tt_log.proofs.Later.{found_ok, same_found}

abbrev pub Standing : Type 0
Standing = Result LogContents LogRefusal

-- The walk up to its last file, and what is read there. Files that agree up to there lead to the same place.
pub record LastOf (most n : ℕ) (files : Files) (found : LogContents) : Type 1 where
  pub front : List (Position × Entry)
  pub left : ℕ
  pub es : List Entry
  pub last : ℕ
  pub reads : file_read last (files (Log last)) ≡ Ok (es, false)
  pub is : found ≡ record { entries = front ++ placed last 0 es; end = position last (total es) }
  pub goes : (others : Files) → ((j : ℕ) → j < last → others (Log j) ≡ files (Log j)) → walk most n others ≡ in_front front (walk (suc left) last others)
  pub fuel : suc left + last ≡ most + n
  pub above : n ≤ last

pub in_front_twice : (ps qs : List (Position × Entry)) (r : Result LogContents LogRefusal) → in_front ps (in_front qs r) ≡ in_front (ps ++ qs) r
in_front_twice ps qs (Ok found) = ap (λ l. found_ok (record { entries = l; end = found.end })) (sym (append_assoc ps qs found.entries))
in_front_twice ps qs (Err e) = refl

in_front_none : (r : Result LogContents LogRefusal) → r ≡ in_front [] r
in_front_none (Ok found) = refl
in_front_none (Err e) = refl

last_here : (most n : ℕ) (files : Files) (found : LogContents) (es : List Entry) → file_read n (files (Log n)) ≡ Ok (es, false) → found ≡ record { entries = placed n 0 es; end = position n (total es) } → LastOf (suc most) n files found
last_here most n files found es reads is = record {
  front = [];
  left = most;
  es = es;
  last = n;
  reads = reads;
  is = is;
  goes = λ others same. in_front_none (walk (suc most) n others);
  fuel = refl;
  above = omega arith;
}

last_later : (most n : ℕ) (files : Files) (found : LogContents) (es : List Entry) (deep : LogContents) → file_read n (files (Log n)) ≡ Ok (es, true) → LastOf most (n + 1) files deep
    → found ≡ record { entries = placed n 0 es ++ deep.entries; end = deep.end } → LastOf (suc most) n files found
last_later most n files found es deep reads l is = record {
  front = placed n 0 es ++ l.front;
  left = l.left;
  es = l.es;
  last = l.last;
  reads = l.reads;
  is = is ∙ ap (λ (f : LogContents). record { entries = placed n 0 es ++ f.entries; end = f.end }) l.is
      ∙ ap (λ (ps : List (Position × Entry)). record { entries = ps; end = position l.last (total l.es) }) (sym (append_assoc (placed n 0 es) l.front (placed l.last 0 l.es)));
  goes = λ others same.
      ap (λ (o : File). on_part n (file_read n o) (walk most (n + 1) others)) (same n (omega (arith, l.above)))
      ∙ ap (λ p. on_part n p (walk most (n + 1) others)) reads
      ∙ ap (in_front (placed n 0 es)) (l.goes others same)
      ∙ in_front_twice (placed n 0 es) l.front (walk (suc l.left) l.last others);
  fuel = omega (arith, l.fuel);
  above = omega (arith, l.above);
}

by_more : (most n : ℕ) (files : Files) (found : LogContents) (es : List Entry) (more : Result LogContents LogRefusal) → ((deep : LogContents) → more ≡ Ok deep → LastOf most (n + 1) files deep)
    → file_read n (files (Log n)) ≡ Ok (es, true) → in_front (placed n 0 es) more ≡ Ok found → LastOf (suc most) n files found
by_more most n files found es (Err e) again reads is = absurd (let bad = is in cc)
by_more most n files found es (Ok deep) again reads is = last_later most n files found es deep reads (again deep refl) (sym (same_found _ _ is))

by_part : (most n : ℕ) (files : Files) (found : LogContents) (part : Part) → ((deep : LogContents) → walk most (n + 1) files ≡ Ok deep → LastOf most (n + 1) files deep)
    → file_read n (files (Log n)) ≡ part → on_part n part (walk most (n + 1) files) ≡ Ok found → LastOf (suc most) n files found
by_part most n files found (Err e) again reads is = absurd (let bad = is in cc)
by_part most n files found (Ok (es, false)) again reads is = last_here most n files found es reads (sym (same_found _ _ is))
by_part most n files found (Ok (es, true)) again reads is = by_more most n files found es (walk most (n + 1) files) again reads is

pub last_of : (most n : ℕ) (files : Files) (found : LogContents) → walk most n files ≡ Ok found → LastOf most n files found
last_of zero n files found is = absurd (let bad = is in cc)
last_of (suc most) n files found is = by_part most n files found (file_read n (files (Log n))) (λ deep there. last_of most (n + 1) files deep there) refl is

pub placed_more : (n at : ℕ) (es fs : List Entry) → placed n at (es ++ fs) ≡ placed n at es ++ placed n (at + total es) fs
placed_more n at [] fs = ap (λ (k : ℕ). placed n k fs) (omega arith)
placed_more n at (e ∷ es) fs =
    ap (λ (l : List (Position × Entry)). (position n at, e) ∷ l) (placed_more n (at + length_of e) es fs ∙ ap (λ (k : ℕ). placed n (at + length_of e) es ++ placed n k fs) (omega arith))

-- more entries in the last file
grown_at : (most n : ℕ) (files others : Files) (found : LogContents) (fs : List Entry) (l : LastOf most n files found) → ((j : ℕ) → j < l.last → others (Log j) ≡ files (Log j))
    → file_read l.last (others (Log l.last)) ≡ Ok (l.es ++ fs, false) → walk most n others ≡ with_more fs (found_ok found)
grown_at most n files others found fs l same read =
    l.goes others same
    ∙ ap (λ p. in_front l.front (on_part l.last p (walk l.left (l.last + 1) others))) read
    ∙ ap (λ (ps : List (Position × Entry)). found_ok (record { entries = ps; end = position l.last (total (l.es ++ fs)) }))
    (ap (λ (ps : List (Position × Entry)). l.front ++ ps) (placed_more l.last 0 l.es fs ∙ ap (λ (k : ℕ). placed l.last 0 l.es ++ placed l.last k fs) (omega arith)) ∙ sym (append_assoc l.front (placed l.last 0 l.es) (placed l.last (total l.es) fs)))
    ∙ ap (λ (k : ℕ). found_ok (record { entries = (l.front ++ placed l.last 0 l.es) ++ placed l.last (total l.es) fs; end = position l.last k })) (total_more l.es fs)
    ∙ ap (λ (f : LogContents). with_more fs (found_ok f)) (sym l.is)

pub grown : (most n m : ℕ) (files others : Files) (found : LogContents) (fs : List Entry) → walk most n files ≡ Ok found → found.end.file ≡ m → ((j : ℕ) → ¬ (j ≡ m) → others (Log j) ≡ files (Log j))
    → ((es : List Entry) → total es ≡ found.end.offset → file_read m (files (Log m)) ≡ Ok (es, false) → file_read m (others (Log m)) ≡ Ok (es ++ fs, false)) → walk most n others ≡ with_more fs (found_ok found)
grown most n m files others found fs is at same read =
    let l = last_of most n files found is in
    let last : m ≡ l.last = sym at ∙ ap (λ (f : LogContents). f.end.file) l.is in
    let read' = subst (λ k. (es : List Entry) → total es ≡ found.end.offset → file_read k (files (Log k)) ≡ Ok (es, false) → file_read k (others (Log k)) ≡ Ok (es ++ fs, false)) last read in
    grown_at most n files others found fs l (λ j below. same j (λ eq. omega (arith, last, below, eq))) (read' l.es (sym (ap (λ (f : LogContents). f.end.offset) l.is)) l.reads)

-- a Switch in the last file, and an empty one behind it
switched_at : (most n : ℕ) (files others : Files) (found : LogContents) (l : LastOf most n files found) → l.last + 2 ≤ most + n → ((j : ℕ) → j < l.last → others (Log j) ≡ files (Log j))
    → file_read l.last (others (Log l.last)) ≡ Ok (l.es, true) → file_read (l.last + 1) (others (Log (l.last + 1))) ≡ Ok ([], false) → walk most n others ≡ switched (found_ok found)
switched_at most n files others found l room same read next =
    l.goes others same
    ∙ ap (λ p. in_front l.front (on_part l.last p (walk l.left (l.last + 1) others))) read
    ∙ ap (λ r. in_front l.front (in_front (placed l.last 0 l.es) r)) (one_file l.left (omega (arith, l.fuel, room)))
    ∙ ap (λ (ps : List (Position × Entry)). found_ok (record { entries = l.front ++ ps; end = position (l.last + 1) 0 })) (append-nil (placed l.last 0 l.es))
    ∙ ap (λ (f : LogContents). switched (found_ok f)) (sym l.is)
  where
    one_file : (left : ℕ) → 0 < left → walk left (l.last + 1) others ≡ Ok (record { entries = []; end = position (l.last + 1) 0 })
    one_file zero some = absurd (omega arith)
    one_file (suc left) some = ap (λ p. on_part (l.last + 1) p (walk left (l.last + 1 + 1) others)) next

pub switches_over : (most n m : ℕ) (files others : Files) (found : LogContents) → walk most n files ≡ Ok found → found.end.file ≡ m → m + 2 ≤ most + n → ((j : ℕ) → j < m → others (Log j) ≡ files (Log j))
    → ((es : List Entry) → file_read m (files (Log m)) ≡ Ok (es, false) → file_read m (others (Log m)) ≡ Ok (es, true)) → file_read (m + 1) (others (Log (m + 1))) ≡ Ok ([], false)
    → walk most n others ≡ switched (found_ok found)
switches_over most n m files others found is at room same read next =
    let l = last_of most n files found is in
    let last : m ≡ l.last = sym at ∙ ap (λ (f : LogContents). f.end.file) l.is in
    let read' = subst (λ k. (es : List Entry) → file_read k (files (Log k)) ≡ Ok (es, false) → file_read k (others (Log k)) ≡ Ok (es, true)) last read in
    switched_at most n files others found l (omega (arith, last, room)) (λ j below. same j (omega (arith, last, below))) (read' l.es l.reads)
    (subst (λ k. file_read (k + 1) (others (Log (k + 1))) ≡ Ok ([], false)) last next)

-- files that read the same up to the last one
pub alike : (most n m : ℕ) (files others : Files) (found : LogContents) → walk most n files ≡ Ok found → found.end.file ≡ m → ((j : ℕ) → j < m → others (Log j) ≡ files (Log j)) → ((es : List Entry) → file_read m (files (Log m)) ≡ Ok (es, false) → file_read m (others (Log m)) ≡ Ok (es, false))
    → walk most n others ≡ found_ok found
alike most n m files others found is at same read =
    let l = last_of most n files found is in
    let last : m ≡ l.last = sym at ∙ ap (λ (f : LogContents). f.end.file) l.is in
    let read' = subst (λ k. (es : List Entry) → file_read k (files (Log k)) ≡ Ok (es, false) → file_read k (others (Log k)) ≡ Ok (es, false)) last read in
    l.goes others (λ j below. same j (omega (arith, last, below)))
    ∙ ap (λ p. in_front l.front (on_part l.last p (walk l.left (l.last + 1) others))) (read' l.es l.reads)
    ∙ ap found_ok (sym l.is)

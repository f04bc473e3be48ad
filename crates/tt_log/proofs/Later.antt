-- What is found from a later file of a log on.
use Rattle.std.proofs.Common.{◌≡◌, ◌≤◌, ◌<◌, ◌+◌, ◌-◌, ◌⊎◌, inl, inr, ℕ, zero, suc, List, [], ◌∷◌, ◌++◌, filter, refl, sym, ap, ◌∙◌, subst, Bool, true, false, arith, Result, Ok, Err, if◌then◌else◌}
use Rattle.std.proofs.lemmas.Bool.{le-leb, cases_eq}
use Rattle.std.proofs.lemmas.List.Elements.{filter-append}
use Rattle.tt_disk.specs.declared.volume.Name.TheVariants.{Log}
use Rattle.tt_log.proofs.Sums.{not_le}
use Rattle.tt_disk.specs.Volume.{Files}
use Rattle.tt_record.specs.declared.entry.Entry.{Entry}
use Rattle.tt_value.specs.declared.position.Position.{Position}
use Rattle.tt_record.specs.Entry.{length_of}
use Rattle.tt_log.specs.Lengths.{total}
use Rattle.tt_log.specs.declared.refusal.LogRefusal.{LogRefusal}
use Rattle.tt_log.specs.Walk.{Part, file_read, LogContents, placed, in_front, on_part, walk, log_of, is_since, since}
use Rattle.tt_record.specs.Place.{position}

abbrev pub found_ok : LogContents → Result LogContents LogRefusal
found_ok found = Ok found

pub same_found : (x y : LogContents) → found_ok x ≡ found_ok y → x ≡ y
same_found x y is = cc

none_since : (k n at : ℕ) (es : List Entry) → n < k → filter (is_since k) (placed n at es) ≡ []
none_since k n at [] below = refl
none_since k n at (e ∷ es) below =
    ap (λ (b : Bool). if b then (position n at, e) ∷ filter (is_since k) (placed n (at + length_of e) es) else filter (is_since k) (placed n (at + length_of e) es)) (not_le k n below)
    ∙ none_since k n (at + length_of e) es below

all_since : (k n at : ℕ) (es : List Entry) → k ≤ n → filter (is_since k) (placed n at es) ≡ placed n at es
all_since k n at [] le = refl
all_since k n at (e ∷ es) le =
    ap (λ (b : Bool). if b then (position n at, e) ∷ filter (is_since k) (placed n (at + length_of e) es) else filter (is_since k) (placed n (at + length_of e) es)) (le-leb k n le)
    ∙ ap (λ (l : List (Position × Entry)). (position n at, e) ∷ l) (all_since k n (at + length_of e) es le)

-- a walk's first file, and what is behind it
record Front (most n : ℕ) (files : Files) (found : LogContents) : Type 0 where
  pub es : List Entry
  pub deep : LogContents
  pub goes : walk most (n + 1) files ≡ Ok deep
  pub is : found ≡ record { entries = placed n 0 es ++ deep.entries; end = deep.end }

record Only (n : ℕ) (found : LogContents) : Type 0 where
  pub es : List Entry
  pub is : found ≡ record { entries = placed n 0 es; end = position n (total es) }

by_more : (most n : ℕ) (files : Files) (found : LogContents) (es : List Entry) (more : Result LogContents LogRefusal) → walk most (n + 1) files ≡ more → in_front (placed n 0 es) more ≡ Ok found → Front most n files found
by_more most n files found es (Err e) goes is = absurd (let bad = is in cc)
by_more most n files found es (Ok deep) goes is = record { es = es; deep = deep; goes = goes; is = sym (same_found _ _ is) }

by_part : (most n : ℕ) (files : Files) (found : LogContents) (part : Part) → on_part n part (walk most (n + 1) files) ≡ Ok found → Only n found ⊎ Front most n files found
by_part most n files found (Err e) is = absurd (let bad = is in cc)
by_part most n files found (Ok (es, false)) is = inl (record { es = es; is = sym (same_found _ _ is) })
by_part most n files found (Ok (es, true)) is = inr (by_more most n files found es (walk most (n + 1) files) refl is)

keeps_front : (k n : ℕ) (found deep : LogContents) (es : List Entry) → k ≤ n → found ≡ record { entries = placed n 0 es ++ deep.entries; end = deep.end } → filter (is_since k) deep.entries ≡ deep.entries → filter (is_since k) found.entries ≡ found.entries
keeps_front k n found deep es le is again =
    ap (λ (f : LogContents). filter (is_since k) f.entries) is ∙ filter-append (is_since k) (placed n 0 es) deep.entries
    ∙ ap (λ (l : List (Position × Entry)). l ++ filter (is_since k) deep.entries) (all_since k n 0 es le) ∙ ap (λ (l : List (Position × Entry)). placed n 0 es ++ l) again
    ∙ sym (ap (λ (f : LogContents). f.entries) is)

keeps_only : (k n : ℕ) (found : LogContents) → k ≤ n → Only n found → filter (is_since k) found.entries ≡ found.entries
keeps_only k n found le o = ap (λ (f : LogContents). filter (is_since k) f.entries) o.is ∙ all_since k n 0 o.es le ∙ sym (ap (λ (f : LogContents). f.entries) o.is)

all_later : (most n k : ℕ) (files : Files) (found : LogContents) → k ≤ n → walk most n files ≡ Ok found → filter (is_since k) found.entries ≡ found.entries
all_later zero n k files found le is = absurd (let bad = is in cc)
all_later (suc most) n k files found le is = elim (by_part most n files found (file_read n (files (Log n))) is) [
  | inl o ↦ keeps_only k n found le o
  | inr f ↦ keeps_front k n found f.deep f.es le f.is (all_later most (n + 1) k files f.deep (omega arith) f.goes)
]

since_all : (k : ℕ) (found : LogContents) → filter (is_since k) found.entries ≡ found.entries → found_ok found ≡ since k (Ok found)
since_all k found all = sym (ap (λ (l : List (Position × Entry)). found_ok (record { entries = l; end = found.end })) all)

drops_front : (k n : ℕ) (found deep : LogContents) (es : List Entry) → n < k → found ≡ record { entries = placed n 0 es ++ deep.entries; end = deep.end } → since k (Ok deep) ≡ since k (Ok found)
drops_front k n found deep es below is =
    sym (ap (λ (f : LogContents). since k (found_ok f)) is
    ∙ ap (λ (l : List (Position × Entry)). found_ok (record { entries = l; end = deep.end })) (filter-append (is_since k) (placed n 0 es) deep.entries ∙ ap (λ (l : List (Position × Entry)). l ++ filter (is_since k) deep.entries) (none_since k n 0 es below)))

-- the walk from a later file gives the rest
later : (most n k j : ℕ) (files : Files) (found : LogContents) → n ≤ k → k ≤ found.end.file → j + k ≡ most + n → walk most n files ≡ Ok found → walk j k files ≡ since k (Ok found)
later zero n k j files found low high fuel is = absurd (let bad = is in cc)
later (suc most) n k j files found low high fuel is = elim (cases_eq n k) [
  | inl same ↦ subst (λ i. walk j i files ≡ since i (found_ok found)) same
      (subst (λ i. walk i n files ≡ since n (found_ok found)) (let e : suc most ≡ j = omega arith in e) (is ∙ since_all n found (all_later (suc most) n n files found (omega arith) is)))
  | inr apart ↦ elim (by_part most n files found (file_read n (files (Log n))) is) [
    | inl o ↦ absurd (let e : found.end.file ≡ n = ap (λ (f : LogContents). f.end.file) o.is in omega arith)
    | inr f ↦ later most (n + 1) k j files f.deep (omega arith) (let e : found.end.file ≡ f.deep.end.file = ap (λ (g : LogContents). g.end.file) f.is in omega arith) (omega arith) f.goes ∙ drops_front k n found f.deep f.es (omega arith) f.is
  ]
]

-- no walk ends past the greatest number
ends_below : (most n : ℕ) (files : Files) (found : LogContents) → walk most n files ≡ Ok found → found.end.file < n + most
ends_below zero n files found is = absurd (let bad = is in cc)
ends_below (suc most) n files found is = elim (by_part most n files found (file_read n (files (Log n))) is) [
  | inl o ↦ (let e : found.end.file ≡ n = ap (λ (f : LogContents). f.end.file) o.is in omega (arith, e))
  | inr f ↦
      (let e : found.end.file ≡ f.deep.end.file = ap (λ (g : LogContents). g.end.file) f.is in
      let deep = ends_below most (n + 1) files f.deep f.goes in
      omega (arith, e, deep))
]

-- From a later file on, up to the one where the log ends, the walk finds the entries of that file and those behind it.
pub log_from_later : (first k : ℕ) (files : Files) (found : LogContents) → first ≤ k → k ≤ found.end.file → log_of first files ≡ Ok found → log_of k files ≡ since k (Ok found)
unfolding log_of
log_from_later first k files found low high is =
    let below = ends_below (1000000 - first) first files found is in
    later (1000000 - first) first k (1000000 - k) files found low high (omega (arith, low, high, below)) is

-- The entries of a body, one after the other.
use Rattle.std.proofs.Common.{◌≡◌, ◌≤◌, ◌<◌, ◌+◌, ◌⊎◌, inl, inr, ℕ, List, [], ◌∷◌, ◌++◌, length, drop, refl, sym, ap, ◌∙◌, Bool, true, false, arith, append_assoc, length-append, length-drop, Option, Some, None, if◌then◌else◌}
use Rattle.std.proofs.lemmas.List.{append-nil, drop-drop}
use Rattle.tt_record.specs.declared.entry.Entry.{Entry}
use Rattle.tt_record.specs.declared.entry.Entry.TheVariants.{Change, Commit, Abort, Mark, Switch}
use Rattle.tt_record.specs.Read.{entries_of, entry_at, behind}
use Rattle.tt_record.specs.Entry.{length_of}
use Rattle.tt_log.specs.Lengths.{total}
use Rattle.tt_record.specs.BodyLaws.{entries_step, entries_end, entries_some}
use Rattle.tt_log.specs.declared.body.Body.TheVariants.{Entries, NextFile, Bad}
use Rattle.tt_log.specs.Walk.{is_switch, no_switch, switches, switches_to}
use Rattle.tt_log.specs.Body.{body_in, joined, SoFar, switch_of}
use Rattle.tt_log.proofs.Sums.{total_more}

joined_none : (o : Option (List Entry)) → o ≡ joined [] o
joined_none None = refl
joined_none (Some fs) = refl

joined_behind : (es : List Entry) (e : Entry) (o : Option (List Entry)) → joined es (behind e o) ≡ joined (es ++ e ∷ []) o
joined_behind es e None = refl
joined_behind es e (Some fs) = ap (λ (l : List Entry). Some l) (sym (append_assoc es (e ∷ []) fs))

pub at_start : (bytes : List ℕ) → SoFar bytes 0
at_start bytes = record { es = []; is = joined_none (entries_of bytes); plain = refl; long = refl; none = λ _. refl; some = λ more. absurd (omega arith) }

plain_more : (es : List Entry) (e : Entry) → no_switch es ≡ true → is_switch e ≡ false → no_switch (es ++ e ∷ []) ≡ true
plain_more [] e plain not_one = ap (λ (b : Bool). if b then false else true) not_one
plain_more (f ∷ es) e plain not_one = by_test (is_switch f) plain (λ rest. plain_more es e rest not_one)
  where
    by_test : (b : Bool) → (if b then false else no_switch es) ≡ true → (no_switch es ≡ true → no_switch (es ++ e ∷ []) ≡ true) → (if b then false else no_switch (es ++ e ∷ [])) ≡ true
    by_test true plain again = cc
    by_test false plain again = again plain

pub next_one : (bytes : List ℕ) (at n : ℕ) (e : Entry) → SoFar bytes at → entry_at (drop at bytes) ≡ Some (e, n) → n ≡ length_of e → 0 < n → is_switch e ≡ false → SoFar bytes (at + n)
next_one bytes at n e s first long some plain = record {
  es = s.es ++ e ∷ [];
  is = s.is ∙ ap (joined s.es) (entries_step (drop at bytes) e n first) ∙ joined_behind s.es e (entries_of (drop n (drop at bytes))) ∙ ap (λ (l : List ℕ). joined (s.es ++ e ∷ []) (entries_of l)) (drop-drop n at bytes);
  plain = plain_more s.es e s.plain plain;
  long = total_more s.es (e ∷ []) ∙ omega (arith, s.long, long);
  none = λ zero_at. absurd (omega arith);
  some = λ _. omega (arith, length-append s.es (e ∷ []));
}

-- the end of the bytes
pub all_read : (number : ℕ) (bytes : List ℕ) (at : ℕ) → SoFar bytes at → at ≡ length bytes → body_in number (entries_of bytes) ≡ Entries (length bytes)
all_read number bytes at s is =
    let whole : entries_of bytes ≡ Some s.es = s.is ∙ ap (joined s.es) (entries_end (drop at bytes) (omega (arith, length-drop at bytes))) ∙ ap (λ (l : List Entry). Some l) (append-nil s.es) in
    ap (body_in number) whole ∙ ap (λ (b : Bool). if b then Entries (total s.es) else (if switches number s.es then NextFile else Bad)) s.plain ∙ ap (λ (k : ℕ). Entries k) (s.long ∙ is)

not_plain : (es fs : List Entry) (e : Entry) → is_switch e ≡ true → no_switch (es ++ e ∷ fs) ≡ false
not_plain [] fs e one = ap (λ (b : Bool). if b then false else no_switch fs) one
not_plain (f ∷ es) fs e one = by_test (is_switch f) (not_plain es fs e one)
  where
    by_test : (b : Bool) → no_switch (es ++ e ∷ fs) ≡ false → (if b then false else no_switch (es ++ e ∷ fs)) ≡ false
    by_test true again = refl
    by_test false again = again

switch_body : (number : ℕ) (es fs : List Entry) (e : Entry) → is_switch e ≡ true → body_in number (Some (es ++ e ∷ fs)) ≡ (if switches number (es ++ e ∷ fs) then NextFile else Bad)
switch_body number es fs e one = ap (λ (b : Bool). if b then Entries (total (es ++ e ∷ fs)) else (if switches number (es ++ e ∷ fs) then NextFile else Bad)) (not_plain es fs e one)

no_next_file : (number : ℕ) (es fs : List Entry) (e : Entry) → 0 < length es + length fs → switches number (es ++ e ∷ fs) ≡ false
no_next_file number [] [] e some = absurd (omega arith)
no_next_file number [] (f ∷ fs) e some = refl
no_next_file number (a ∷ []) fs e some = refl
no_next_file number (a ∷ b ∷ es) fs e some = refl

-- a Switch that doesn't stand alone
pub not_alone : (number : ℕ) (bytes : List ℕ) (at n : ℕ) (e : Entry) → SoFar bytes at → entry_at (drop at bytes) ≡ Some (e, n) → is_switch e ≡ true → (0 < at) ⊎ (at + n < length bytes) → body_in number (entries_of bytes) ≡ Bad
not_alone number bytes at n e s first one more =
    ap (body_in number) (s.is ∙ ap (joined s.es) (entries_step (drop at bytes) e n first)) ∙ by_rest (entries_of (drop n (drop at bytes))) refl
  where
    long : (fs : List Entry) → entries_of (drop n (drop at bytes)) ≡ Some fs → (0 < at) ⊎ (at + n < length bytes) → 0 < length s.es + length fs
    long fs is (inl some) = omega (arith, s.some some)
    long fs is (inr some) = omega (arith, entries_some (drop n (drop at bytes)) fs (omega (arith, length-drop n (drop at bytes), length-drop at bytes, some)) is)

    by_rest : (o : Option (List Entry)) → entries_of (drop n (drop at bytes)) ≡ o → body_in number (joined s.es (behind e o)) ≡ Bad
    by_rest None is = refl
    by_rest (Some fs) is = switch_body number s.es fs e one ∙ ap (λ (b : Bool). if b then NextFile else Bad) (no_next_file number s.es fs e (long fs is more))

pub alone : (number : ℕ) (bytes : List ℕ) (n : ℕ) (e : Entry) → SoFar bytes 0 → entry_at (drop 0 bytes) ≡ Some (e, n) → is_switch e ≡ true → length bytes ≤ n → body_in number (entries_of bytes) ≡ (if switches_to number e then NextFile else Bad)
alone number bytes n e s first one le =
    let whole : entries_of bytes ≡ Some (s.es ++ e ∷ []) = s.is ∙ ap (joined s.es) (entries_step (drop 0 bytes) e n first ∙ ap (behind e) (entries_end (drop n bytes) (omega (arith, length-drop n bytes)))) in
    ap (body_in number) whole ∙ switch_body number s.es [] e one ∙ ap (λ (es : List Entry). if switches number (es ++ e ∷ []) then NextFile else Bad) (s.none refl)

pub not_switch : (e : Entry) → switch_of e ≡ None → is_switch e ≡ false
not_switch (Change transaction place before after) none = refl
not_switch (Commit transaction) none = refl
not_switch (Abort transaction) none = refl
not_switch Mark none = refl
not_switch (Switch file) none = cc

pub one_switch : (e : Entry) (file : ℕ) → switch_of e ≡ Some file → e ≡ Switch file
one_switch (Change transaction place before after) file is = cc
one_switch (Commit transaction) file is = cc
one_switch (Abort transaction) file is = cc
one_switch Mark file is = cc
one_switch (Switch other) file is = let same : other ≡ file = cc in ap (λ (k : ℕ). Switch k) same

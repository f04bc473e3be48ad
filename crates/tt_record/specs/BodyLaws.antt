-- The entries of a whole body: what they are, step by step, and that its bytes determine them.
use Rattle.std.proofs.Common.{◌≡◌, ◌≤◌, ◌<◌, ℕ, zero, suc, List, [], ◌∷◌, ◌++◌, length, drop, refl, sym, ap, ◌∙◌, subst, arith, append_assoc, Option, Some, None, option_map}
use Rattle.std.specs.List.{AllByRecursion}
use Rattle.std.proofs.lemmas.Grind.{flat_map-append}
use Rattle.std.proofs.lemmas.List.{length-drop}
use Rattle.std.proofs.lemmas.List.Elements.{All-from_recursion, recursion_from_All}
use Rattle.std.proofs.Math.Seq.{drop-append_seam}
use Rattle.tt_value.specs.BigEndianLaws.{AreBytes, drop_bytes}
use Rattle.tt_record.specs.declared.entry.Entry.{Entry}
use Rattle.tt_record.specs.Entry.{entry_bytes, length_of, IsEntry, BeginsWith, body_bytes, IsBody}
use Rattle.tt_record.specs.Read.{entry_at, behind, with_rest, entries_within, entries_of}
use Rattle.tt_record.specs.EntryLaws.{takes, takes_some, again}

same_list : (es fs : List Entry) → Some es ≡ Some fs → es ≡ fs
same_list es fs e = cc

-- ---- step by step

by_same_front : (m k : ℕ) (z : List ℕ) (o : Option (Entry × ℕ)) → ((p : Entry × ℕ) → o ≡ Some p → entries_within m (drop p.1 z) ≡ entries_within k (drop p.1 z))
    → with_rest o (λ n. entries_within m (drop n z)) ≡ with_rest o (λ n. entries_within k (drop n z))
by_same_front m k z None more = refl
by_same_front m k z (Some p) more = ap (behind p.0) (more p refl)

-- a longer count changes nothing
enough : (m k : ℕ) (z : List ℕ) → length z ≤ m → length z ≤ k → entries_within m z ≡ entries_within k z
enough zero zero [] a b = refl
enough zero (suc k) [] a b = refl
enough (suc m) zero [] a b = refl
enough (suc m) (suc k) [] a b = refl
enough zero k (c ∷ z) a b = absurd (omega arith)
enough (suc m) zero (c ∷ z) a b = absurd (omega arith)
enough (suc m) (suc k) (c ∷ z) a b =
    by_same_front m k (c ∷ z) (entry_at (c ∷ z)) (λ p is. enough m k (drop p.1 (c ∷ z)) (omega (arith, length-drop p.1 (c ∷ z), takes_some (c ∷ z) p is)) (omega (arith, length-drop p.1 (c ∷ z), takes_some (c ∷ z) p is)))

-- the first entry, and those behind it
pub entries_step : (z : List ℕ) (e : Entry) (n : ℕ) → entry_at z ≡ Some (e, n) → entries_of z ≡ behind e (entries_of (drop n z))
unfolding entries_of entry_at
entries_step [] e n is = cc
entries_step (c ∷ z) e n is =
    ap (λ o. with_rest o (λ k. entries_within (length z) (drop k (c ∷ z)))) is
    ∙ ap (behind e) (enough (length z) (length (drop n (c ∷ z))) (drop n (c ∷ z)) (omega (arith, length-drop n (c ∷ z), takes_some (c ∷ z) (e, n) is)) (omega arith))

-- bytes that begin with no entry are no body
pub entries_bad : (z : List ℕ) → 0 < length z → entry_at z ≡ None → entries_of z ≡ None
unfolding entries_of
entries_bad [] some is = absurd (omega arith)
entries_bad (c ∷ z) some is = ap (λ o. with_rest o (λ k. entries_within (length z) (drop k (c ∷ z)))) is

pub entries_end : (z : List ℕ) → length z ≡ 0 → entries_of z ≡ Some []
unfolding entries_of
entries_end [] none = refl
entries_end (c ∷ z) none = absurd (omega arith)

some_behind : (o : Option (Entry × ℕ)) (more : ℕ → Option (List Entry)) (es : List Entry) → with_rest o more ≡ Some es → 0 < length es
some_behind None more es is = cc
some_behind (Some p) more es is = some_front p.0 (more p.1) es is
  where
    some_front : (e : Entry) (o : Option (List Entry)) (es : List Entry) → behind e o ≡ Some es → 0 < length es
    some_front e None es is = cc
    some_front e (Some fs) es is = omega (arith, ap length (same_list (e ∷ fs) es is))

-- a body with bytes has entries
pub entries_some : (z : List ℕ) (es : List Entry) → 0 < length z → entries_of z ≡ Some es → 0 < length es
unfolding entries_of
entries_some [] es some is = absurd (omega arith)
entries_some (c ∷ z) es some is = some_behind (entry_at (c ∷ z)) (λ k. entries_within (length z) (drop k (c ∷ z))) es is

-- ---- a body, and the entries that it has

step_behind : (e : Entry) (more : List ℕ) → IsEntry e → entries_of (entry_bytes e ++ more) ≡ behind e (entries_of more)
step_behind e more range =
    entries_step (entry_bytes e ++ more) e (length_of e) (again e more range)
    ∙ ap (λ z. behind e (entries_of z)) (drop-append_seam (entry_bytes e) more)

behind_all : (e : Entry) (es : List Entry) (o : Option (List Entry)) → behind e (option_map (λ fs. es ++ fs) o) ≡ option_map (λ fs. (e ∷ es) ++ fs) o
behind_all e es None = refl
behind_all e es (Some fs) = refl

nothing_before : (o : Option (List Entry)) → o ≡ option_map (λ fs. [] ++ fs) o
nothing_before None = refl
nothing_before (Some fs) = refl

in_front : (es : List Entry) (more : List ℕ) → AllByRecursion IsEntry es → entries_of (body_bytes es ++ more) ≡ option_map (λ fs. es ++ fs) (entries_of more)
in_front [] more range = nothing_before (entries_of more)
in_front (e ∷ es) more range =
    ap entries_of (append_assoc (entry_bytes e) (body_bytes es) more)
    ∙ step_behind e (body_bytes es ++ more) range.0
    ∙ ap (behind e) (in_front es more range.1)
    ∙ behind_all e es (entries_of more)

-- a body in front of other bytes puts its entries in front of theirs
pub entries_behind : (z more : List ℕ) (es : List Entry) → IsBody z es → entries_of (z ++ more) ≡ option_map (λ fs. es ++ fs) (entries_of more)
entries_behind z more es is = ap (λ l. entries_of (l ++ more)) is.whole ∙ in_front es more (recursion_from_All IsEntry es is.entries)

append_nothing : {X : Type 0} (xs : List X) → xs ++ [] ≡ xs
append_nothing [] = refl
append_nothing (x ∷ xs) = ap (λ l. x ∷ l) (append_nothing xs)

-- the entries of a body are found
pub body_is_read : (z : List ℕ) (es : List Entry) → IsBody z es → entries_of z ≡ Some es
body_is_read z es is =
    ap entries_of (sym (append_nothing z))
    ∙ entries_behind z [] es is
    ∙ ap (option_map (λ fs. es ++ fs)) (entries_end [] refl)
    ∙ ap (λ fs. Some fs) (append_nothing es)

-- a body's bytes determine its entries
pub one_body : (z : List ℕ) (es fs : List Entry) → IsBody z es → IsBody z fs → es ≡ fs
one_body z es fs is other = same_list es fs (sym (body_is_read z es is) ∙ body_is_read z fs other)

pub record Stands (z : List ℕ) (es : List Entry) : Type 0 where
  pub entries : AllByRecursion IsEntry es
  pub whole : z ≡ body_bytes es

one_more : (z : List ℕ) (p : Entry × ℕ) (o : Option (List Entry)) (es : List Entry) → BeginsWith z p.0 → p.1 ≡ length_of p.0 → ((fs : List Entry) → o ≡ Some fs → Stands (drop p.1 z) fs) → behind p.0 o ≡ Some es → Stands z es
one_more z p None es first count more is = cc
one_more z p (Some fs) es first count more is =
    let rest = more fs refl in
    let P : List Entry → Type 0 = λ l. Stands z l in
    subst P (same_list (p.0 ∷ fs) es is) (record {
      entries = (first.entry, rest.entries);
      whole = first.front ∙ ap (λ l. entry_bytes p.0 ++ l) (ap (λ k. drop k z) (sym count) ∙ rest.whole);
    })

stands_front : (z : List ℕ) (o : Option (Entry × ℕ)) (more : ℕ → Option (List Entry)) (es : List Entry) → AreBytes z → entry_at z ≡ o → ((k : ℕ) (fs : List Entry) → more k ≡ Some fs → Stands (drop k z) fs) → with_rest o more ≡ Some es → Stands z es
stands_front z None more es b is rest e = cc
stands_front z (Some p) more es b is rest e = let t = takes z p b is in one_more z p (more p.1) es t.first t.count (rest p.1) e

stands : (m : ℕ) (z : List ℕ) (es : List Entry) → AreBytes z → entries_within m z ≡ Some es → Stands z es
stands m [] es b is = let P : List Entry → Type 0 = λ l. Stands [] l in subst P (same_list [] es (none_left m is)) (record { entries = tt; whole = refl })
  where
    none_left : (m : ℕ) → entries_within m [] ≡ Some es → Some [] ≡ Some es
    none_left zero is = is
    none_left (suc m) is = is
stands zero (c ∷ z) es b is = cc
stands (suc m) (c ∷ z) es b is = stands_front (c ∷ z) (entry_at (c ∷ z)) (λ k. entries_within m (drop k (c ∷ z))) es b refl (λ k fs. stands m (drop k (c ∷ z)) fs (drop_bytes k (c ∷ z) b)) is

-- what is found in bytes is a body of them
pub read_is_body : (z : List ℕ) (es : List Entry) → AreBytes z → entries_of z ≡ Some es → IsBody z es
unfolding entries_of
read_is_body z es b is = let s = stands (length z) z es b is in record { entries = All-from_recursion IsEntry es s.entries; whole = s.whole }

-- ---- bodies joined

both_all : (es fs : List Entry) → AllByRecursion IsEntry es → AllByRecursion IsEntry fs → AllByRecursion IsEntry (es ++ fs)
both_all [] fs a b = b
both_all (e ∷ es) fs a b = (a.0, both_all es fs a.1 b)

pub no_body : IsBody [] []
no_body = record { entries = All-from_recursion IsEntry [] tt; whole = refl }

pub entry_body : (e : Entry) → IsEntry e → IsBody (entry_bytes e) (e ∷ [])
entry_body e range = record { entries = All-from_recursion IsEntry (e ∷ []) (range, tt); whole = sym (append_nothing (entry_bytes e)) }

pub bodies_join : (y z : List ℕ) (es fs : List Entry) → IsBody y es → IsBody z fs → IsBody (y ++ z) (es ++ fs)
bodies_join y z es fs a b = record {
  entries = All-from_recursion IsEntry (es ++ fs) (both_all es fs (recursion_from_All IsEntry es a.entries) (recursion_from_All IsEntry fs b.entries));
  whole = ap (λ l. l ++ z) a.whole ∙ ap (λ l. body_bytes es ++ l) b.whole ∙ sym (flat_map-append entry_bytes es fs);
}

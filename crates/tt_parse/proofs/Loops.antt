-- What a loop over the parts of a condition reads, one turn at a time, and a part by its levels.
use Rattle.std.proofs.Common.{◌≡◌, ℕ, zero, suc, ◌-◌, ◌<◌, Bool, true, false, List, length, Ok, Err, refl, ap, ◌∙◌, arith}
use Rattle.std.specs.Prelude.{codes}
use Rattle.std.specs.List.{fold}
use Rattle.tt_parse.specs.declared.cond.Cond.{Cond}
use Rattle.tt_parse.specs.declared.cond.Cond.TheVariants as c
use Rattle.tt_parse.specs.Grammar.{◌>>◌}
use Rattle.tt_parse.specs.Reader.{Read, after, with_front, next_is, read_many}
use Rattle.tt_parse.proofs.Exact.{Exact, never, Within}
use Rattle.tt_parse.proofs.ExactMany.{many-stops, many-goes_on}
use Rattle.tt_parse.proofs.ExactLaws.{step}
use Rattle.tt_parse.specs.declared.kind.Kind.TheVariants as k
use Rattle.tt_parse.specs.Tokens.{Token, same_kind}
use Rattle.tt_parse.specs.Script as g
use Rattle.tt_parse.specs.Script.{G}
use Rattle.tt_parse.specs.Symbols.{is_mark, is_word}
use Rattle.tt_parse.specs.Reading as r
use Rattle.tt_parse.specs.Reading.{joined}
use Rattle.tt_parse.specs.Cursor.{past_next}
use Rattle.tt_parse.proofs.Next.{word_yes}
use Rattle.tt_parse.proofs.Lists.{shrinks}
use Rattle.tt_parse.proofs.TokenTests.{word_other, or_false, begins_word, none_within}
use Rattle.tt_parse.proofs.Exactness.{exact-word, exact-part, exact-both, more_cond}

-- ---- items with a word between them, joined from the left

-- what a chain still reads, behind what was joined so far
abbrev pub rest_of : List ℕ → (Cond → Cond → Cond) → r.R Cond → Cond → r.R Cond
rest_of between join item left ts = joined join left (read_many (is_word between) (r.link between item) ts)

joined-front : (join : Cond → Cond → Cond) (left a : Cond) (x : Read Token (List Cond)) → joined join left (with_front a x) ≡ joined join (join left a) x
joined-front join left a (Ok x) = refl
joined-front join left a (Err rest) = refl

chain_start : (between : List ℕ) (join : Cond → Cond → Cond) (item : r.R Cond) (ts mid : List Token) (a : Cond) → item ts ≡ Ok (a, mid) →
    r.chain between join item ts ≡ rest_of between join item a mid
unfolding r.chain
chain_start between join item ts mid a e = rw e (go (read_many (is_word between) (r.link between item) mid)) where
  go : (x : Read Token (List Cond)) → after x (λ more rest. Ok (fold join a more, rest)) ≡ joined join a x
  go (Ok x) = refl
  go (Err rest) = refl

chain_early : (between : List ℕ) (join : Cond → Cond → Cond) (item : r.R Cond) (ts rest : List Token) → item ts ≡ Err rest → r.chain between join item ts ≡ Err rest
unfolding r.chain
chain_early between join item ts rest e = rw e refl

module _ (between : List ℕ) (join : Cond → Cond → Cond) (g-item : G Cond) (item : r.R Cond) (more last : Token → Bool)
    (spelled : is_word between (record { at = 0; kind = k.Word; bytes = between }) ≡ true) (each : Exact g-item item more)
    (apart : (s : Token) → is_word between s ≡ true → more s ≡ false) (within : Within more last) (stops : Within (is_word between) last) where
  link-exact : Exact (g.word between >> g-item) (r.link between item) more
  unfolding r.link
  link-exact = step (exact-word between spelled) (λ _. each)

  chain_on : (ts : List Token) → next_is (is_word between) ts ≡ true →
      read_many (is_word between) (r.link between item) ts ≡ after (r.link between item ts) (λ a mid. with_front a (read_many (is_word between) (r.link between item) mid))
  chain_on ts h = many-goes_on (is_word between) (g.word between >> g-item) (r.link between item) more last link-exact (begins_word between _) apart within stops ts h

  link-at : (ts mid : List Token) → r.word between ts ≡ Ok (tt, mid) → r.link between item ts ≡ item mid
  unfolding r.link
  link-at ts mid e = rw e refl

  chain_go : (left a : Cond) (ts mid end : List Token) → next_is (is_word between) ts ≡ true → r.word between ts ≡ Ok (tt, mid) → item mid ≡ Ok (a, end) →
      rest_of between join item left ts ≡ rest_of between join item (join left a) end
  chain_go left a ts mid end h w e =
      ap (λ (x : Read Token (List Cond)). joined join left x)
      (chain_on ts h ∙ ap (λ (x : Read Token Cond). after x (λ b rest. with_front b (read_many (is_word between) (r.link between item) rest))) (link-at ts mid w ∙ e))
      ∙ joined-front join left a (read_many (is_word between) (r.link between item) end)

  chain_fail : (left : Cond) (ts mid rest : List Token) → next_is (is_word between) ts ≡ true → r.word between ts ≡ Ok (tt, mid) → item mid ≡ Err rest →
      rest_of between join item left ts ≡ Err rest
  chain_fail left ts mid rest h w e =
      ap (λ (x : Read Token (List Cond)). joined join left x)
      (chain_on ts h ∙ ap (λ (x : Read Token Cond). after x (λ b rest. with_front b (read_many (is_word between) (r.link between item) rest))) (link-at ts mid w ∙ e))

  chain_stop : (left : Cond) (ts : List Token) → next_is (is_word between) ts ≡ false → rest_of between join item left ts ≡ Ok (left, ts)
  chain_stop left ts h =
      ap (λ (x : Read Token (List Cond)). joined join left x)
      (many-stops (is_word between) (g.word between >> g-item) (r.link between item) more last link-exact (begins_word between _) apart within stops ts h)

  chain_shrink : (ts mid end : List Token) (a : Cond) → r.word between ts ≡ Ok (tt, mid) → item mid ≡ Ok (a, end) → length end < length ts
  chain_shrink ts mid end a w e = shrinks (is_word between) link-exact (begins_word between _) ts end a (link-at ts mid w ∙ e)

-- parts with `and` between them

module _ (levels : ℕ) where
  abbrev pub both_rest : Cond → r.R Cond
  both_rest left = rest_of (codes "and") c.And (r.part levels) left

  pub both_start : (ts mid : List Token) (a : Cond) → r.part levels ts ≡ Ok (a, mid) → r.both (r.part levels) ts ≡ both_rest a mid
  unfolding r.both
  both_start ts mid a e = chain_start (codes "and") c.And (r.part levels) ts mid a e

  pub both_early : (ts rest : List Token) → r.part levels ts ≡ Err rest → r.both (r.part levels) ts ≡ Err rest
  unfolding r.both
  both_early ts rest e = chain_early (codes "and") c.And (r.part levels) ts rest e

  and_spelled : is_word (codes "and") (record { at = 0; kind = k.Word; bytes = codes "and" }) ≡ true
  unfolding is_word same_kind
  and_spelled = refl

  pub both_go : (left a : Cond) (ts end : List Token) → next_is (is_word (codes "and")) ts ≡ true → r.part levels (past_next ts) ≡ Ok (a, end) →
      both_rest left ts ≡ both_rest (c.And left a) end
  both_go left a ts end h e =
      chain_go (codes "and") c.And (g.part levels) (r.part levels) never (is_word (codes "and")) and_spelled (exact-part levels) (λ s h. refl) (none_within (is_word (codes "and"))) (λ s h. h) left a ts (past_next ts) end h (word_yes (codes "and") ts h) e

  pub both_fail : (left : Cond) (ts rest : List Token) → next_is (is_word (codes "and")) ts ≡ true → r.part levels (past_next ts) ≡ Err rest → both_rest left ts ≡ Err rest
  both_fail left ts rest h e =
      chain_fail (codes "and") c.And (g.part levels) (r.part levels) never (is_word (codes "and")) and_spelled (exact-part levels) (λ s h. refl) (none_within (is_word (codes "and"))) (λ s h. h) left ts (past_next ts) rest h (word_yes (codes "and") ts h) e

  pub both_stop : (left : Cond) (ts : List Token) → next_is (is_word (codes "and")) ts ≡ false → both_rest left ts ≡ Ok (left, ts)
  both_stop left ts h =
      chain_stop (codes "and") c.And (g.part levels) (r.part levels) never (is_word (codes "and")) and_spelled (exact-part levels) (λ s h. refl) (none_within (is_word (codes "and"))) (λ s h. h) left ts h

  pub both_shrink : (ts end : List Token) (a : Cond) → next_is (is_word (codes "and")) ts ≡ true → r.part levels (past_next ts) ≡ Ok (a, end) → length end < length ts
  both_shrink ts end a h e =
      chain_shrink (codes "and") c.And (g.part levels) (r.part levels) never (is_word (codes "and")) and_spelled (exact-part levels) (λ s h. refl) (none_within (is_word (codes "and"))) (λ s h. h) ts (past_next ts) end a (word_yes (codes "and") ts h) e

-- with `or` between these
module _ (levels : ℕ) where
  abbrev pub either_rest : Cond → r.R Cond
  either_rest left = rest_of (codes "or") c.Or (r.both (r.part levels)) left

  pub either_start : (ts mid : List Token) (a : Cond) → r.both (r.part levels) ts ≡ Ok (a, mid) → r.cond_of (r.part levels) ts ≡ either_rest a mid
  unfolding r.cond_of
  either_start ts mid a e = chain_start (codes "or") c.Or (r.both (r.part levels)) ts mid a e

  pub either_early : (ts rest : List Token) → r.both (r.part levels) ts ≡ Err rest → r.cond_of (r.part levels) ts ≡ Err rest
  unfolding r.cond_of
  either_early ts rest e = chain_early (codes "or") c.Or (r.both (r.part levels)) ts rest e

  or_no_and : (s : Token) → is_word (codes "or") s ≡ true → is_word (codes "and") s ≡ false
  or_no_and s h = word_other (codes "or") (codes "and") refl s h

  and_within : Within (is_word (codes "and")) more_cond
  unfolding more_cond
  and_within s h = (or_false (is_word (codes "and") s) (is_word (codes "or") s) h).0

  or_within : Within (is_word (codes "or")) more_cond
  unfolding more_cond
  or_within s h = (or_false (is_word (codes "and") s) (is_word (codes "or") s) h).1

  or_spelled : is_word (codes "or") (record { at = 0; kind = k.Word; bytes = codes "or" }) ≡ true
  unfolding is_word same_kind
  or_spelled = refl

  pub either_go : (left a : Cond) (ts end : List Token) → next_is (is_word (codes "or")) ts ≡ true → r.both (r.part levels) (past_next ts) ≡ Ok (a, end) →
      either_rest left ts ≡ either_rest (c.Or left a) end
  either_go left a ts end h e =
      chain_go (codes "or") c.Or (g.chain (codes "and") c.And (g.part levels)) (r.both (r.part levels)) (is_word (codes "and")) more_cond or_spelled (exact-both (g.part levels) (r.part levels) (exact-part levels)) or_no_and and_within or_within left a ts (past_next ts) end h (word_yes (codes "or") ts h) e

  pub either_fail : (left : Cond) (ts rest : List Token) → next_is (is_word (codes "or")) ts ≡ true → r.both (r.part levels) (past_next ts) ≡ Err rest → either_rest left ts ≡ Err rest
  either_fail left ts rest h e =
      chain_fail (codes "or") c.Or (g.chain (codes "and") c.And (g.part levels)) (r.both (r.part levels)) (is_word (codes "and")) more_cond or_spelled (exact-both (g.part levels) (r.part levels) (exact-part levels)) or_no_and and_within or_within left ts (past_next ts) rest h (word_yes (codes "or") ts h) e

  pub either_stop : (left : Cond) (ts : List Token) → next_is (is_word (codes "or")) ts ≡ false → either_rest left ts ≡ Ok (left, ts)
  either_stop left ts h =
      chain_stop (codes "or") c.Or (g.chain (codes "and") c.And (g.part levels)) (r.both (r.part levels)) (is_word (codes "and")) more_cond or_spelled (exact-both (g.part levels) (r.part levels) (exact-part levels)) or_no_and and_within or_within left ts h

  pub either_shrink : (ts end : List Token) (a : Cond) → next_is (is_word (codes "or")) ts ≡ true → r.both (r.part levels) (past_next ts) ≡ Ok (a, end) → length end < length ts
  either_shrink ts end a h e =
      chain_shrink (codes "or") c.Or (g.chain (codes "and") c.And (g.part levels)) (r.both (r.part levels)) (is_word (codes "and")) more_cond or_spelled (exact-both (g.part levels) (r.part levels) (exact-part levels)) or_no_and and_within or_within ts (past_next ts) end a (word_yes (codes "or") ts h) e

-- ---- a part, by how many levels may still be opened

pub part_none : (levels : ℕ) (ts : List Token) → levels ≡ 0 → r.part levels ts ≡ r.test ts
unfolding r.part
part_none zero ts h = refl
part_none (suc n) ts h = absurd (omega arith)

pub part_not : (levels : ℕ) (ts : List Token) → (levels ≡ 0 → ⊥) → next_is (is_word (codes "not")) ts ≡ true → r.part levels ts ≡ r.negation (r.part (levels - 1)) ts
unfolding r.part
part_not zero ts h e = absurd (h refl)
part_not (suc n) ts h e = let d : suc n - 1 ≡ n = omega arith in rw (e, d) refl

pub part_open : (levels : ℕ) (ts : List Token) → (levels ≡ 0 → ⊥) → next_is (is_word (codes "not")) ts ≡ false → next_is (is_mark k.Open) ts ≡ true → r.part levels ts ≡ r.parenthesized (r.part (levels - 1)) ts
unfolding r.part
part_open zero ts h e o = absurd (h refl)
part_open (suc n) ts h e o = let d : suc n - 1 ≡ n = omega arith in rw (e, o, d) refl

pub part_test : (levels : ℕ) (ts : List Token) → (levels ≡ 0 → ⊥) → next_is (is_word (codes "not")) ts ≡ false → next_is (is_mark k.Open) ts ≡ false → r.part levels ts ≡ r.test ts
unfolding r.part
part_test zero ts h e o = absurd (h refl)
part_test (suc n) ts h e o = rw (e, o) refl

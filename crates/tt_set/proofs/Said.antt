-- A text says one thing.
use Rattle.std.proofs.Common.{◌≡◌, ℕ, List, Result, Ok, Err, refl, sym, ap, ◌∙◌, subst, inl, inr, Ordering, Less, Equal, Greater, nat_cmp, ◌≢◌}
use Rattle.std.proofs.lemmas.Cmp.{nat_list_cmp_total}
use Rattle.std.proofs.lemmas.Map.Lookups.{exact_bytes}
use Rattle.std.proofs.lemmas.Option.{same_Some}
use Rattle.std.specs.Cmp.Lexicographic.{slice_cmp}
use Rattle.std.specs.Ordering.{ordering_reverse}
use Rattle.toml.specs.Data.{Members}
use Rattle.tt_set.specs.declared.settings.Settings.{Settings}
use Rattle.tt_set.specs.declared.settings.SetRefusal.{SetRefusal}
use Rattle.tt_set.specs.declared.settings.SetRefusal.TheVariants.{Bad, NoMemory}
use Rattle.tt_set.specs.Attribute.{IsNamed}
use Rattle.tt_set.specs.Settings.{settings_in, Reads, IsFirstWrong, Says, Gives}

same_members : (text : List ℕ) (ms others : Members) → Reads text ms → Reads text others → ms ≡ others
same_members text ms others a b = same_Some ms others (sym a.document ∙ b.document)

neither_greater : (a b : List ℕ) → slice_cmp nat_cmp a b ≢ Greater → slice_cmp nat_cmp b a ≢ Greater → a ≡ b
neither_greater a b first second = by_order (slice_cmp nat_cmp a b) refl
  where
    by_order : (o : Ordering) → slice_cmp nat_cmp a b ≡ o → a ≡ b
    by_order Less is = absurd (second (nat_list_cmp_total.antisymm b a ∙ ap ordering_reverse is))
    by_order Equal is = exact_bytes a b is
    by_order Greater is = absurd (first is)

one_first : (ms : Members) (a b : List ℕ) → IsFirstWrong ms a → IsFirstWrong ms b → a ≡ b
one_first ms a b is other = neither_greater a b (is.first b other.wrong) (other.first a is.wrong)

-- one document gives one answer
pub one_answer : (text : List ℕ) (a b : Result Settings (List ℕ)) → Says text a → Says text b → a ≡ b
one_answer text (Ok s) (Ok t) (ms, reads, right, is) (others, reads_others, right_others, is_other) =
    ap (λ (x : Settings). Ok x) (is ∙ ap settings_in (same_members text ms others reads reads_others) ∙ sym is_other)
one_answer text (Ok s) (Err name) (ms, reads, right, is) (inl (others, reads_others, first)) =
    absurd (right name (subst (λ m. IsFirstWrong m name) (same_members text others ms reads_others reads) first).wrong)
one_answer text (Ok s) (Err name) (ms, reads, right, is) (inr (none, empty)) = absurd (none ms reads)
one_answer text (Err name) (Ok s) (inl (others, reads_others, first)) (ms, reads, right, is) =
    absurd (right name (subst (λ m. IsFirstWrong m name) (same_members text others ms reads_others reads) first).wrong)
one_answer text (Err name) (Ok s) (inr (none, empty)) (ms, reads, right, is) = absurd (none ms reads)
one_answer text (Err a) (Err b) (inl (ms, reads, first)) (inl (others, reads_others, other)) =
    ap (λ (x : List ℕ). Err x) (one_first ms a b first (subst (λ m. IsFirstWrong m b) (same_members text others ms reads_others reads) other))
one_answer text (Err a) (Err b) (inl (ms, reads, first)) (inr (none, empty)) = absurd (none ms reads)
one_answer text (Err a) (Err b) (inr (none, empty)) (inl (others, reads_others, other)) = absurd (none others reads_others)
one_answer text (Err a) (Err b) (inr (none, empty)) (inr (none_other, empty_other)) = ap (λ (x : List ℕ). Err x) (empty ∙ sym empty_other)

-- a refusal of this name is what the text says
pub named_only : (text name : List ℕ) (r : SetRefusal) → IsNamed name r → Says text (Err name) → (said : Result Settings (List ℕ)) → Says text said → Gives (Err r) said
named_only text name (Bad found) is says said other =
    one_answer text said (Err name) other says ∙ ap (λ (x : List ℕ). Err x) (sym is)
named_only text name NoMemory is says said other = tt

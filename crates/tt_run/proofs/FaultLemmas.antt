-- Counts of faults over two calls, and where a status names another device.
use Rattle.std.proofs.Common.{◌≡◌, ◌≤◌, ◌⊎◌, inl, inr, ◌∙◌, ℕ, arith, refl}
use Rattle.tt_disk.specs.Faults.{Rose, RoseWhere, Stays}

-- No call was made.
pub not_called : (exact P : Type 0) (n : ℕ) → ¬ P → RoseWhere exact P n n
not_called exact P n none = record { later = omega arith; failed = λ p. absurd (none p); stays = inr (λ e. refl) }

-- No call failed.
pub none_failed : (exact P : Type 0) (before now : ℕ) → ¬ P → RoseWhere exact P before now → RoseWhere exact ⊥ before now
none_failed exact P before now none rose = record {
  later = rose.later;
  failed = λ p. absurd p;
  stays = elim rose.stays [ inl p ↦ absurd (none p) | inr same ↦ inr same ];
}

-- Behind calls of which none failed.
pub rose_behind : (exact P : Type 0) (a b c : ℕ) → RoseWhere exact ⊥ a b → RoseWhere exact P b c → RoseWhere exact P a c
rose_behind exact P a b c one two = record {
  later = let first = one.later in let second = two.later in omega (arith, first, second);
  failed = λ p. let first = one.later in let rose = two.failed p in omega (arith, first, rose);
  stays = elim two.stays [ inl p ↦ inl p | inr second ↦ elim one.stays [ inl p ↦ absurd p | inr first ↦ inr (λ e. second e ∙ first e) ] ];
}

-- The same is told by other words.
pub rose_if : (exact P Q : Type 0) (before now : ℕ) → (P → Q) → (Q → P) → RoseWhere exact P before now → RoseWhere exact Q before now
rose_if exact P Q before now on back rose = record {
  later = rose.later;
  failed = λ q. rose.failed (back q);
  stays = elim rose.stays [ inl p ↦ inl (on p) | inr same ↦ inr same ];
}

use Rattle.std.proofs.Common.{◌∙◌, ◌<◌, ap, sym, subst, refl, ℕ, ℤ, w64}
use Rattle.std.proofs.lemmas.Int.{to_z-of_z}
use Rattle.std.specs.BTreeSet.{contains}
use Rattle.std.specs.Ordering.{int_cmp}
use Rattle.tt_value.specs.declared.refusal.Refusal.TheVariants.{DuplicateKey, LogOut}
use Rattle.tt_engine.specs.declared.request.Request.TheVariants.{Insert}
use Rattle.tt_engine.specs.Memory.{IsDecided, IsInsert}
use Rattle.tt_engine.proofs.ChangeLemmas.{duplicate, insert_entry, numbers_out, own_is, plain_change, read_back}
use Rattle.tt_engine.proofs.DecidedLemmas.{refused_so}
use Rattle.tt_engine.proofs.memory.Memory.insert.Goals as goal

pub returns-then-has_key-clause-decided : goal.returns-then-has_key-clause-decided
returns-then-has_key-clause-decided c s ends h =
    refused_so (Insert c.args.key c.args.value) DuplicateKey s c.answered.result c.args.self.now h
    (duplicate c.args.key c.args.value s (sym (h.rows.keys c.args.key) ∙ sym (c.has_key.ensures ∙ ap (λ (k : ℤ). contains int_cmp c.args.self.now.rows.keys k) (to_z-of_z w64 c.args.key (record { sfits = c.ranges.key.sfits }))) ∙ c.if-has_key.true))
    c.answered.ensures.0 c.answered.ensures.1 c.answered.ensures.2

pub returns-in_default-clause-decided : goal.returns-in_default-clause-decided
returns-in_default-clause-decided c s ends h =
    refused_so (Insert c.args.key c.args.value) LogOut s c.answered-in_default.result c.args.self.now h
    (numbers_out c.args.self.now c.args.key c.args.value s h (sym (h.rows.keys c.args.key) ∙ sym (c.has_key.ensures ∙ ap (λ (k : ℤ). contains int_cmp c.args.self.now.rows.keys k) (to_z-of_z w64 c.args.key (record { sfits = c.ranges.key.sfits }))) ∙ c.if-has_key.false) c.in_default.ensures.number)
    c.answered-in_default.ensures.0 c.answered-in_default.ensures.1 c.answered-in_default.ensures.2

pub change-requires : goal.change-requires
change-requires c =
    let back = read_back c.in-Some.transaction c.in-Some-free_place.place c.in-Some-free_place.place c.args.key c.args.value c.in-Ok.entry c.in-Ok.ensures.entry refl (record { sfits = c.ranges.key.sfits }) (record { sfits = c.ranges.value.sfits }) in
    record {
      own = record {
        least = c.in-Some.ensures.range.0;
        most = c.in-Some.ensures.range.1;
        own = own_is c.args.self.now.transaction c.args.self.now.next_transaction c.in-Some.transaction (sym c.in-Some.ensures.number);
        plain = record {
          entry = insert_entry c.in-Some.transaction c.in-Some-free_place.place c.args.key c.args.value c.in-Ok.entry back c.in-Some.ensures.range.0 c.in-Some.ensures.range.1 c.in-Some-free_place.ensures.some.1
              (record { sfits = c.ranges.key.sfits }) (record { sfits = c.ranges.value.sfits });
          plain = plain_change c.in-Some.transaction c.in-Some-free_place.place c.args.key c.args.value c.in-Ok.entry back;
        };
        free = subst (λ (n : ℕ). n < 2097152) c.in-Some-free_place.ensures.some.0 c.in-Some-free_place.ensures.some.1;
      };
    }

pub returns-in-Ok-clause-decided : goal.returns-in-Ok-clause-decided
returns-in-Ok-clause-decided c s ends h =
    let i : IsInsert s c.args.self.now c.in-Some.transaction c.args.key c.args.value c.in-Ok.entry = record { is = read_back c.in-Some.transaction c.in-Some-free_place.place c.args.self.now.rows.free c.args.key c.args.value c.in-Ok.entry c.in-Ok.ensures.entry c.in-Some-free_place.ensures.some.0 (record { sfits = c.ranges.key.sfits }) (record { sfits = c.ranges.value.sfits }); fresh = sym (h.rows.keys c.args.key) ∙ sym (c.has_key.ensures ∙ ap (λ (k : ℤ). contains int_cmp c.args.self.now.rows.keys k) (to_z-of_z w64 c.args.key (record { sfits = c.ranges.key.sfits }))) ∙ c.if-has_key.false } in
    subst (λ (k : ℤ). IsInsert s c.args.self.now c.in-Some.transaction k c.args.value c.in-Ok.entry → IsDecided (Insert k c.args.value) s c.change.result c.change.new.self)
    (to_z-of_z w64 c.args.key (record { sfits = c.ranges.key.sfits })) (c.change.ensures.decided s c.args.value ends h) i

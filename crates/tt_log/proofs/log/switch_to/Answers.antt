use Rattle.std.proofs.Common.{◌≡◌, ◌<◌, ◌^◌, refl, ◌∷◌, ◌++◌, [], ℕ, List, length, drop, sym, ap, ◌∙◌, subst, arith}
use Rattle.std.proofs.lemmas.List.{append-nil, drop_all}
use Rattle.tt_value.specs.BigEndianLaws.{length-big_endian}
use Rattle.tt_record.specs.declared.entry.Entry.TheVariants.{Switch}
use Rattle.tt_record.specs.Entry.{entry_bytes, length_of, IsBody}
use Rattle.tt_record.specs.BodyLaws.{entry_body}
use Rattle.tt_log.proofs.log.switch_to.Goals as goal

five : (next : ℕ) → length_of (Switch next) ≡ 5
five next = omega (arith, length-big_endian 4 next)

written : (next : ℕ) (old new : List ℕ) → length old ≡ 5 → new ≡ entry_bytes (Switch next) ++ drop (length_of (Switch next)) old → new ≡ entry_bytes (Switch next)
written next old new long is =
    is ∙ ap (λ (l : List ℕ). entry_bytes (Switch next) ++ l) (drop_all (length_of (Switch next)) old (omega (arith, five next, long))) ∙ append-nil (entry_bytes (Switch next))

pub write_entry-requires-clause-room : goal.write_entry-requires-clause-room
write_entry-requires-clause-room c = omega (arith, five c.args.next)

pub returns-clause-bytes : goal.returns-clause-bytes
returns-clause-bytes c = written c.args.next (0 ∷ 0 ∷ 0 ∷ 0 ∷ 0 ∷ []) c.write_entry.new.out refl c.write_entry.ensures.bytes

pub returns-clause-body : goal.returns-clause-body
returns-clause-body c =
    subst (λ (l : List ℕ). IsBody l (Switch c.args.next ∷ [])) (sym (written c.args.next (0 ∷ 0 ∷ 0 ∷ 0 ∷ 0 ∷ []) c.write_entry.new.out refl c.write_entry.ensures.bytes)) (entry_body (Switch c.args.next) (let small : c.args.next < 2 ^ 32 = omega arith in small))

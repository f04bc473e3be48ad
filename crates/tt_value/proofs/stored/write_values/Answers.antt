use Rattle.std.proofs.Common.{arith, List, length, take, sym, ap, ◌∙◌, ◌++◌, ◌∷◌, [], ◌≡◌, ◌+◌, subst}
use Rattle.std.proofs.lemmas.List.{take_more}
use Rattle.tt_value.specs.declared.value.Value.{Value}
use Rattle.tt_value.proofs.WriteLemmas.{one_more_written, room_left, Written}
use Rattle.tt_value.proofs.stored.write_values.Goals as goal

pub write_value_at-length-requires-clause-room : goal.write_value_at-length-requires-clause-room
write_value_at-length-requires-clause-room c =
    omega (arith, c.values.invariant.end, c.values.auto.out, room_left c.args.values.now c.values.value-index (length c.args.out.now) c.value-item.result c.values-test.true c.value-item.is c.requires.room)

pub values-preserved : goal.values-preserved
values-preserved c =
    let v = c.value-item.result in
    let vs = c.args.values.now in
    let i = c.values.value-index in
    let more : take (i + 1) vs ≡ take i vs ++ v ∷ [] = take_more vs i v c.values-test.true ∙ ap (λ (x : Value). take i vs ++ x ∷ []) (sym c.value-item.is) in
    let P : List Value → Type 0 = λ ws. Written ws c.args.out.now c.write_value_at-length.new.out (c.values.at + c.write_value_at-length.result) in
    subst P (sym more) (rw (c.write_value_at-length.ensures.bytes, c.write_value_at-length.ensures.length) (one_more_written (take i vs) v c.args.out.now c.values.out c.values.at c.values.invariant))

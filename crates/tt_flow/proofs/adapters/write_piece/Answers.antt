use Rattle.std.proofs.Common.{◌≡◌, ℕ, List, ◌-◌, ◌+◌, ◌++◌, length, take, drop, ap, sym, ◌∙◌, arith, subst}
use Rattle.std.proofs.Math.Seq.{take-add}
use Rattle.std.proofs.lemmas.List.{take_rest}
use Rattle.std.proofs.KnownBytes.{Appends-trans, Appends-kept}
use Rattle.std.specs.Io.KnownBytes.{Appends}
use Rattle.std.proofs.lemmas.Grind.{common_steps}
use Rattle.tt_flow.proofs.adapters.write_piece.Goals.{in-Ok, in-Err+else-ne}
use Rattle.tt_flow.proofs.adapters.write_piece.Goals as goal

front : (xs : List ℕ) (i n : ℕ) → take i xs ++ take n (take (length xs - i) (drop i xs)) ≡ take (i + n) xs
front xs i n = ap (λ ys. take i xs ++ take n ys) (take_rest xs i) ∙ sym (take-add i n xs)

pub calls-preserved : goal.calls-preserved
calls-preserved g c =
    elim c.match-write.branch [
      | in-Ok w ↦ record {
        within = grind (arith, common_steps);
        bytes = subst (Appends (g.W.Write.contents c.args.writer.now) (g.W.Write.contents c.write.new.self)) (front c.args.piece.now c.calls.at w.in-Ok.count ∙ ap (λ n. take n c.args.piece.now) (sym w.at-is)) (Appends-trans _ _ _ _ _ c.calls.invariant.bytes w.in-Ok.ensures.bytes);
      }
      | in-Err+else-ne w ↦ record {
        within = grind (arith, common_steps);
        bytes = subst (λ n. Appends (g.W.Write.contents c.args.writer.now) (g.W.Write.contents c.write.new.self) (take n c.args.piece.now)) (sym w.at-is) (Appends-kept _ _ _ _ c.calls.invariant.bytes w.in-Err.ensures.bytes);
      }
    ]

use Rattle.std.proofs.Common.{◌≡◌, ◌⊎◌, ◌≤◌, ◌+◌, inl, inr, arith, length}
use Rattle.tt_gate.specs.Gate.{length_at}
use Rattle.tt_gate.proofs.Gates.{length_read, parsed_full, parsed_short}
use Rattle.tt_gate.proofs.walk.parse_gate.Goals as goal
use Rattle.tt_gate.proofs.walk.parse_gate.Goals.{then-left-lt10-via-then-left-lt10, then-left-lt10-via-else-left-lt10+then-length-eq0, then-left-lt10-via-else-left-lt10+else-length-eq0+then-length-left}

pub returns-then-left-lt10 : goal.returns-then-left-lt10
returns-then-left-lt10 c =
    let eight : length c.args.place ≡ 8 = omega arith in
    let n = length_read c.from_be_bytes-length.result c.args.place c.from_be_bytes-length.ensures eight in
    let short : (length_at c.args.place ≡ 0) ⊎ (c.args.left ≤ 9 + length_at c.args.place) = elim c.then-left-lt10.branch [
      | then-left-lt10-via-then-left-lt10 w ↦ inr (omega arith)
      | then-left-lt10-via-else-left-lt10+then-length-eq0 w ↦ inl (omega (arith, n))
      | then-left-lt10-via-else-left-lt10+else-length-eq0+then-length-left w ↦ inr (omega (arith, n))
    ] in
    parsed_short c.args.at c.args.left c.args.gate c.args.place c.if-gate-ne1.false short

pub returns : goal.returns
returns c =
    let eight : length c.args.place ≡ 8 = omega arith in
    let n = length_read c.from_be_bytes-length.result c.args.place c.from_be_bytes-length.ensures eight in
    parsed_full c.args.at c.args.left c.args.gate c.args.place c.from_be_bytes-length.result c.if-gate-ne1.false n (omega arith) (omega arith)

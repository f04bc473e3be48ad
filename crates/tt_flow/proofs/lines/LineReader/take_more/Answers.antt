use Rattle.std.proofs.Common.{◌+◌, ◌-◌, [], arith, refl, subst, sym, ap, take, add-zero}
use Rattle.std.proofs.KnownBytes.{Consumes-nil, Consumes-kept}
use Rattle.std.specs.Io.KnownBytes.{Consumes}
use Rattle.tt_flow.proofs.Kept.{kept_put, kept_put_none}
use Rattle.tt_flow.proofs.Taken.{Takes-err}
use Rattle.tt_flow.proofs.lines.LineReader.take_more.Goals as goal

pub returns-in_err-count-clause-took : goal.returns-in_err-count-clause-took
returns-in_err-count-clause-took g c =
    let self = c.args.self.now in
    let before = g.S.Source.left c.args.source.now in
    let after = g.S.Source.left c.take.new.self in (
      [],
      Takes-err [] c.from_residual.result self _ c.from_residual.ensures.0 (
        record {
          kept = kept_put_none self.start self.end (self.end + c.min-room.result - self.end) self.buffer c.take.new.buf self.ordered (omega arith);
          taken = sym (add-zero self.taken);
          skipping = refl;
        },
        refl,
        refl,
      ),
      Consumes-kept before before after [] (Consumes-nil before) c.in_err-count.ensures.bytes,
    )

pub returns-then-count-eq0-clause-took : goal.returns-then-count-eq0-clause-took
returns-then-count-eq0-clause-took g c =
    let self = c.args.self.now in (
      [],
      (
        record {
          kept = kept_put_none self.start self.end (self.end + c.min-room.result - self.end) self.buffer c.take.new.buf self.ordered (omega arith);
          taken = sym (add-zero self.taken);
          skipping = refl;
        },
        refl,
        refl,
      ),
      subst (λ n. Consumes (g.S.Source.left c.args.source.now) (g.S.Source.left c.take.new.self) (take n c.take.new.buf)) c.if-count-eq0.true c.in_ok-count.ensures.bytes.0,
    )

pub returns-clause-took : goal.returns-clause-took
returns-clause-took g c =
    let self = c.args.self.now in
    let bound = c.in_ok-count.ensures.bound in (
      take c.in_ok-count.count c.take.new.buf,
      (
        record {
          kept = kept_put self.start self.end (self.end + c.min-room.result - self.end) c.in_ok-count.count self.buffer c.take.new.buf self.ordered (omega arith) bound.0;
          taken = ap (λ n. self.taken + n) bound.1;
          skipping = refl;
        },
        omega (arith, bound.1, c.if-count-eq0.false),
        refl,
      ),
      c.in_ok-count.ensures.bytes.0,
    )

use Rattle.std.proofs.Common.{◌∙◌, subst, ap, Ok, arith}
use Rattle.tt_flow.specs.Pieces.{ReadsPiece}
use Rattle.tt_flow.proofs.Taken.{Reads-err}
use Rattle.tt_flow.proofs.lines.LineReader.next_taken.Goals as goal

pub returns-in_err-answer-clause-read : goal.returns-in_err-answer-clause-read
returns-in_err-answer-clause-read g c = λ script left given is h.
    let told = c.pieces.invariant.given script left given is h in
    Reads-err script _ c.next_piece.new.line given c.from_residual.result c.in_err-answer.field-0.0 _ _ c.from_residual.ensures.0 (c.in_err-answer.ensures.read script told.0 given told.1 told.2)

pub returns-in-Some-clause-read : goal.returns-in-Some-clause-read
returns-in-Some-clause-read g c = λ script left given is h.
    let told = c.pieces.invariant.given script left given is h in
    subst (λ a. ReadsPiece script given (Ok a) c.next_piece.new.line c.next_piece.new.self (g.S.Source.left c.next_piece.new.source)) c.in-Some.is
    (c.in_ok-answer.ensures.read script told.0 given told.1 told.2)

pub pieces-preserved : goal.pieces-preserved
pieces-preserved g c =
    let went = c.in_ok-answer.ensures.goes_on (ap (λ a. Ok a) c.in_default.is) in
    record {
      none = went.0;
      given = λ script left given is h.
          (
          let told = c.pieces.invariant.given script left given is h in
          subst (λ a. ReadsPiece script given (Ok a) c.next_piece.new.line c.next_piece.new.self (g.S.Source.left c.next_piece.new.source)) c.in_default.is
          (c.in_ok-answer.ensures.read script told.0 given told.1 told.2)
          );
      bound = omega (arith, c.in_ok-answer.ensures.bound, c.pieces.invariant.bound);
      later = omega (arith, c.next_piece.ensures.cause.later, c.pieces.invariant.later);
      stays = λ exact. c.in_ok-answer.ensures.cause.stays exact ∙ c.pieces.invariant.stays exact;
    }

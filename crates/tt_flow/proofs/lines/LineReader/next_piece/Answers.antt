use Rattle.std.proofs.Common.{◌≡◌, subst, sym, ap, ◌∙◌, Ok, length, take, arith, length-append}
use Rattle.std.proofs.lemmas.List.{take_at}
use Rattle.tt_flow.specs.Lines.{HasNoFeed, Reads, kept_bytes}
use Rattle.tt_flow.specs.Pieces.{Fills}
use Rattle.tt_flow.proofs.Taken.{ReadsPiece-err}
use Rattle.tt_flow.proofs.lines.LineReader.next_piece.Goals as goal

pub returns-in_err-fill-clause-read : goal.returns-in_err-fill-clause-read
returns-in_err-fill-clause-read g c = λ script left given is h.
    ReadsPiece-err script _ given c.from_residual.result c.in_err-fill.field-0.0 _ _ c.from_residual.ensures.0 (c.in_err-fill.ensures.read script left given is (c.drop_long-searched.ensures.given script left given h))

pub feed_from-requires-clause-within : goal.feed_from-requires-clause-within
feed_from-requires-clause-within g c =
    let kept = c.fill.ensures.kept in
    omega (arith, c.drop_long-searched.ensures.count, ap length kept.1, length-append (kept_bytes c.drop_long-searched.new.self) kept.0)

pub feed_from-requires-clause-none : goal.feed_from-requires-clause-none
feed_from-requires-clause-none g c =
    let kept = c.fill.ensures.kept in
    let searched : take c.drop_long-searched.result (kept_bytes c.fill.new.self) ≡ kept_bytes c.drop_long-searched.new.self =
    ap (take c.drop_long-searched.result) kept.1 ∙ take_at (kept_bytes c.drop_long-searched.new.self) kept.0 c.drop_long-searched.result (sym c.drop_long-searched.ensures.count) in
    subst HasNoFeed (sym searched) c.drop_long-searched.ensures.none

pub returns-in-Some-clause-read : goal.returns-in-Some-clause-read
returns-in-Some-clause-read g c = λ script left given is h.
    let told = subst (λ f. Fills script given (Ok f) c.fill.new.self (g.S.Source.left c.fill.new.source)) c.in-More.is (c.in_ok-fill.ensures.read script left given is (c.drop_long-searched.ensures.given script left given h)) in
    subst (λ o. Reads script given (Ok c.give.result) c.give.new.line c.give.new.self o) (sym told.1) (c.give.ensures.read script told.0 given told.2)

pub returns-in-None-clause-read : goal.returns-in-None-clause-read
returns-in-None-clause-read g c = λ script left given is h.
    subst (λ f. Fills script given (Ok f) c.fill.new.self (g.S.Source.left c.fill.new.source)) c.in-More.is (c.in_ok-fill.ensures.read script left given is (c.drop_long-searched.ensures.given script left given h))

pub returns-in-NoMore-clause-read : goal.returns-in-NoMore-clause-read
returns-in-NoMore-clause-read g c = λ script left given is h.
    let told = subst (λ f. Fills script given (Ok f) c.fill.new.self (g.S.Source.left c.fill.new.source)) c.in-NoMore.is (c.in_ok-fill.ensures.read script left given is (c.drop_long-searched.ensures.given script left given h)) in
    subst (λ o. Reads script given (Ok c.give_last.result) c.give_last.new.line c.give_last.new.self o) (sym told.1) (c.give_last.ensures.read script told.0 given told.2)

pub returns-in-TooMany-clause-read : goal.returns-in-TooMany-clause-read
returns-in-TooMany-clause-read g c = λ script left given is h.
    subst (λ f. Fills script given (Ok f) c.fill.new.self (g.S.Source.left c.fill.new.source)) c.in-TooMany.is (c.in_ok-fill.ensures.read script left given is (c.drop_long-searched.ensures.given script left given h))

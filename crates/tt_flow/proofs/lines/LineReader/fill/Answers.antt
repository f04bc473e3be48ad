use Rattle.std.proofs.Common.{subst, sym, ◌∙◌}
use Rattle.std.specs.Io.KnownBytes.{Consumes}
use Rattle.tt_flow.specs.Lines.{HasNoFeed}
use Rattle.tt_flow.proofs.Taken.{Fills-past, Fills-more, given_same}
use Rattle.tt_flow.proofs.lines.LineReader.fill.Goals as goal

pub returns-in-Open-clause-read : goal.returns-in-Open-clause-read
returns-in-Open-clause-read g c = λ script left given is h.
    let took = c.take_past.ensures.took in
    let after = g.S.Source.left c.take_past.new.source in
    Fills-past c.args.self.now c.take_past.new.self took.0 c.take_past.result after c.requires.none c.in-Open.is c.if-self-eq-SCRIPT_MOST.true took.1 c.take_past.ensures.end script left given
    (subst (λ b. Consumes b after took.0) is took.2) h

pub returns-in-Open-2-clause-read : goal.returns-in-Open-2-clause-read
returns-in-Open-2-clause-read g c = λ script left given is h.
    let took = c.take_more.ensures.took in
    let after = g.S.Source.left c.take_more.new.source in
    let room = c.make_room.ensures in
    Fills-more c.make_room.new.self c.take_more.new.self took.0 c.take_more.result after (subst HasNoFeed (sym room.kept) c.requires.none) (room.unchanged.input ∙ c.in-Open.is) took.1
    c.take_more.ensures.end script left given (subst (λ b. Consumes b after took.0) is took.2) (given_same c.args.self.now c.make_room.new.self room.kept room.unchanged c.in-Open.is script left given h)

use Rattle.std.proofs.Common.{take, drop, length, ◌-◌}
use Rattle.std.proofs.lemmas.List.{take_rest}
use Rattle.tt_flow.proofs.Kept.{no_feed_from, first_feed_from}
use Rattle.tt_flow.specs.Lines.{kept_bytes}
use Rattle.tt_flow.proofs.lines.LineReader.feed_from.Goals as goal

pub returns-in-Some : goal.returns-in-Some
returns-in-Some c =
    let kept = kept_bytes c.args.self.now in
    first_feed_from kept (take (length kept - c.args.searched) (drop c.args.searched kept)) c.args.searched c.in-Some.further (take_rest kept c.args.searched)
    c.requires.none c.in-Some.ensures.0 c.in-Some.ensures.1

pub returns-in-None : goal.returns-in-None
returns-in-None c =
    let kept = kept_bytes c.args.self.now in
    no_feed_from kept (take (length kept - c.args.searched) (drop c.args.searched kept)) c.args.searched (take_rest kept c.args.searched) c.requires.none
    c.in-None.ensures

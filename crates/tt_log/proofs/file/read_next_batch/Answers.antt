use Rattle.std.proofs.Common.{ℕ, List, subst, true, false}
use Rattle.tt_log.specs.File.{IsBehind}
use Rattle.tt_log.proofs.Reaching.{batch_is, ended, reached_more, closes_at, says_full}
use Rattle.tt_log.proofs.file.read_next_batch.Goals as goal

pub returns-in-Ok-Closed-clause-exact : goal.returns-in-Ok-Closed-clause-exact
returns-in-Ok-Closed-clause-exact g c told =
    let says = batch_is c.args.number c.args.at.gate c.args.at.offset _ c.read_batch.result c.in-Ok-Closed.field-0 (c.read_batch.ensures.exact told) c.in-Ok-Closed.is c.in-Ok-Closed.field-0-is in
    ended c.args.wanted c.args.number _ c.args.at c.end_at.result false (c.requires.reached told) says c.end_at.ensures.total c.end_at.ensures.switched c.end_at.ensures.place

pub returns-in-Ok-Closed-clause-closed : goal.returns-in-Ok-Closed-clause-closed
returns-in-Ok-Closed-clause-closed g c told =
    closes_at c.args.wanted c.args.number _ c.args.at c.end_at.result c.in-Ok-Closed.field-0 (c.requires.reached told) (c.in-Ok-Closed.ensures.gate told) c.in-Ok-Closed.field-0-is c.end_at.ensures.gate

pub returns-in-Ok-Switched-clause-exact : goal.returns-in-Ok-Switched-clause-exact
returns-in-Ok-Switched-clause-exact g c told =
    let says = batch_is c.args.number c.args.at.gate c.args.at.offset _ c.read_batch.result c.in-Ok-Switched.field-0 (c.read_batch.ensures.exact told) c.in-Ok-Switched.is c.in-Ok-Switched.field-0-is in
    ended c.args.wanted c.args.number _ c.args.at c.end_at-in-Ok-Switched.result true (c.requires.reached told) says c.end_at-in-Ok-Switched.ensures.total c.end_at-in-Ok-Switched.ensures.switched c.end_at-in-Ok-Switched.ensures.place

pub returns-in-Ok-clause-exact : goal.returns-in-Ok-clause-exact
returns-in-Ok-clause-exact g c told =
    let body = c.in-Ok-Entries.body.items in
    let plain = batch_is c.args.number c.args.at.gate c.args.at.offset _ c.read_batch.result c.in-Ok-Entries.field-0 (c.read_batch.ensures.exact told) c.in-Ok-Entries.is c.in-Ok-Entries.field-0-is in
    let behind = subst (λ (l : List ℕ). IsBehind c.args.wanted c.args.at l c.in-Ok.next) c.deref.ensures.value c.in-Ok.ensures.behind in
    let says = says_full c.args.at.gate _ c.in-Ok-Entries.field-0 c.in-Ok-Entries.body (c.in-Ok-Entries.ensures.gate told) c.in-Ok-Entries.field-0-is in
    reached_more c.args.wanted c.args.number _ c.args.at c.in-Ok.next body (c.requires.reached told) plain says behind

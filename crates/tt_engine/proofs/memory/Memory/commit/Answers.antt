use Rattle.tt_value.specs.declared.refusal.Refusal.TheVariants.{LogOut}
use Rattle.tt_record.specs.declared.entry.Entry.TheVariants.{Commit as CommitEntry}
use Rattle.tt_record.specs.Entry.{length_of}
use Rattle.tt_record.specs.Place.{position_of}
use Rattle.tt_log.specs.Log.{write_position_of, file_size_of}
use Rattle.tt_engine.specs.declared.request.Request.TheVariants.{Commit}
use Rattle.tt_engine.proofs.ChangeLemmas.{none_there, some_there}
use Rattle.tt_engine.proofs.CommitLemmas.{closes_so, commit_out, ends_so}
use Rattle.tt_engine.proofs.DecidedLemmas.{refused_so}
use Rattle.tt_engine.proofs.memory.Memory.commit.Goals as goal

pub returns-in_default-clause-decided : goal.returns-in_default-clause-decided
returns-in_default-clause-decided c s ends h = ends_so c.args.self.now c.ended.new.self s c.ended.result h c.in_default.is c.ended.ensures.work c.ended.ensures.own c.ended.ensures.unchanged

pub returns-then-not-has_place-clause-decided : goal.returns-then-not-has_place-clause-decided
returns-then-not-has_place-clause-decided c s ends h =
    let log = c.args.log.now in
    let none = none_there c.has_place.result (position_of (write_position_of log) (length_of (CommitEntry c.in-Some.transaction)) (file_size_of log)) c.has_place.ensures c.if-not-has_place.true in
    refused_so Commit LogOut s c.answered.result c.args.self.now h (commit_out log c.args.self.now s c.in-Some.transaction ends h c.in-Some.is none) c.answered.ensures.0 c.answered.ensures.1 c.answered.ensures.2

pub returns-clause-decided : goal.returns-clause-decided
returns-clause-decided c s ends h =
    let log = c.args.log.now in
    let some = some_there c.has_place.result (position_of (write_position_of log) (length_of (CommitEntry c.in-Some.transaction)) (file_size_of log)) c.has_place.ensures c.if-not-has_place.false in
    closes_so log c.args.self.now c.ended-2.new.self s c.in-Some.transaction c.ended-2.result ends h c.in-Some.is some c.ended-2.ensures.work c.ended-2.ensures.own c.ended-2.ensures.unchanged

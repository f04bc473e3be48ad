use Rattle.std.proofs.Common.{inl, ap, subst, sym, refl, ℤ, false, w64, ◌∷◌, []}
use Rattle.std.proofs.lemmas.Int.{to_z-of_z}
use Rattle.tt_record.specs.declared.entry.Entry.{Entry}
use Rattle.tt_record.specs.Entry.{length_of}
use Rattle.tt_record.specs.Place.{position_of}
use Rattle.tt_log.specs.Log.{write_position_of, file_size_of}
use Rattle.tt_model.specs.Works.{SameLog, performed}
use Rattle.tt_engine.specs.Rows.{Takes}
use Rattle.tt_engine.proofs.InsertLemmas.{filled}
use Rattle.tt_engine.proofs.ChangeLemmas.{filled_same, inserted, log_out, none_there, some_there, stands_filled}
use Rattle.tt_engine.proofs.DecidedLemmas.{one_follows, refused_so}
use Rattle.tt_value.specs.declared.refusal.Refusal.TheVariants.{LogOut}
use Rattle.tt_engine.specs.declared.request.Request.TheVariants.{Insert}
use Rattle.tt_engine.proofs.memory.Memory.change.Goals as goal

pub returns-then-not-has_place-clause-decided : goal.returns-then-not-has_place-clause-decided
returns-then-not-has_place-clause-decided c s value ends h i =
    let log = c.args.log.now in
    let none = none_there c.has_place.result (position_of (write_position_of log) (length_of c.args.entry) (file_size_of log)) c.has_place.ensures c.if-not-has_place.true in
    refused_so (Insert c.args.key value) LogOut s c.answered.result c.args.self.now h (log_out log c.args.self.now s c.args.transaction c.args.key value c.args.entry ends h c.requires.own.own c.requires.own.most i none)
    c.answered.ensures.0 c.answered.ensures.1 c.answered.ensures.2

pub returns-clause-decided : goal.returns-clause-decided
returns-clause-decided c s value ends h i =
    let log = c.args.log.now in
    let some = some_there c.has_place.result (position_of (write_position_of log) (length_of c.args.entry) (file_size_of log)) c.has_place.ensures c.if-not-has_place.false in
    let is = inserted log c.args.self.now s c.args.transaction c.args.key value c.args.entry ends h c.requires.own.own c.requires.own.most c.requires.own.free i some in
    let takes : Takes c.args.self.now.rows c.take.new.self c.args.key =
    subst (λ (k : ℤ). Takes c.args.self.now.rows c.take.new.self k) (to_z-of_z w64 c.args.key (record { sfits = c.ranges.key.sfits })) c.in-Ok.ensures.taken in
    record {
      after = filled c.args.transaction c.args.self.now.rows.free c.args.key value s;
      answers = inl (sym (ap (λ a. a.0) is), sym (ap (λ a. a.1) is));
      memory = stands_filled c.args.self.now _ s c.args.transaction c.args.key value h c.requires.own.own c.requires.own.free takes (record { own = refl; next = c.max-self.ensures; wish = refl; durable = refl });
      same = subst (λ (e : Entry). SameLog (filled c.args.transaction c.args.self.now.rows.free c.args.key value s) (performed (record { entries = e ∷ []; force = false }) s)) (sym i.is) (filled_same c.args.transaction c.args.self.now.rows.free c.args.key value s);
    }

pub returns-clause-follow : goal.returns-clause-follow
returns-clause-follow c =
    let log = c.args.log.now in
    one_follows (file_size_of log) (write_position_of log) c.args.entry c.requires.own.plain.entry c.requires.own.plain.plain
    (some_there c.has_place.result (position_of (write_position_of log) (length_of c.args.entry) (file_size_of log)) c.has_place.ensures c.if-not-has_place.false)

use Rattle.std.proofs.Common.{arith, sym, subst, ℕ, ◌≤◌, ◌+◌, ◌<◌, length}
use Rattle.tt_record.specs.Entry.{length_of}
use Rattle.tt_log.proofs.Adding.{file_forces, buffer_forces, nothing_waits}
use Rattle.tt_log.proofs.Presence.{kept_there, next_added, none_added, open_there}
use Rattle.tt_log.specs.Log.{AddsFile}
use Rattle.tt_log.proofs.log.Log.make_room.Goals as goal

pub returns-then-self-length-clause-waiting : goal.returns-then-self-length-clause-waiting
returns-then-self-length-clause-waiting g c =
    let past : c.args.self.now.file_size < c.args.self.now.forced_bytes + c.args.self.now.buffered + length_of c.args.entry.now = omega (arith, c.if-self-length.true, c.entry_length-length.ensures) in
    nothing_waits c.args.self.now c.switch_file.new.self c.args.entry.now (file_forces c.args.self.now c.args.entry.now past) c.in_ok-switch_file.ensures.switched.count

pub returns-then-self-length-2-clause-waiting : goal.returns-then-self-length-2-clause-waiting
returns-then-self-length-2-clause-waiting g c =
    let past : length c.args.self.now.buffer.items < c.args.self.now.buffered + length_of c.args.entry.now = omega (arith, c.if-self-length-2.true, c.entry_length-length.ensures, c.len.ensures) in
    nothing_waits c.args.self.now c.write_out.new.self c.args.entry.now (buffer_forces c.args.self.now c.args.entry.now past) c.in_ok-write_out.ensures.forced.forced.count

pub returns-then-self-length-clause-files : goal.returns-then-self-length-clause-files
returns-then-self-length-clause-files g c told =
    let log = c.args.self.now in
    let new = c.switch_file.new.self in
    let n = log.current_file in
    let was = g.V.Volume.now c.args.volume.now in
    let now = g.V.Volume.now c.switch_file.new.volume in
    let s = c.in_ok-switch_file.ensures.switched in
    let low : new.first_file ≤ n = omega (arith, s.sizes.0, log.ordered) in
    let at = λ (k : ℕ). open_there new now (g.V.Volume.may c.switch_file.new.volume) k (c.in_ok-switch_file.ensures.leaves.ready told) in
    subst (λ k. AddsFile k was now) (sym s.number)
    (next_added n was now _ _ (c.switch_file.ensures.others told) (open_there log was _ n (c.requires.open told) log.ordered (omega arith))
    (at n low (omega (arith, s.number))) (at (n + 1) (omega (arith, low)) (omega (arith, s.number))))

pub returns-then-self-length-2-clause-files : goal.returns-then-self-length-2-clause-files
returns-then-self-length-2-clause-files g c told =
    let log = c.args.self.now in
    let new = c.write_out.new.self in
    let n = log.current_file in
    let was = g.V.Volume.now c.args.volume.now in
    let now = g.V.Volume.now c.write_out.new.volume in
    let f = c.in_ok-write_out.ensures.forced.forced in
    subst (λ k. AddsFile k was now) (sym f.current)
    (kept_there n was now _ _ (c.write_out.ensures.others told) (open_there new now _ n (c.in_ok-write_out.ensures.leaves.ready told) (omega (arith, f.sizes.0, log.ordered)) (omega (arith, f.current))))

pub returns-clause-files : goal.returns-clause-files
returns-clause-files g c told =
    let log = c.args.self.now in
    none_added log.current_file (g.V.Volume.now c.args.volume.now) (open_there log _ (g.V.Volume.may c.args.volume.now) log.current_file (c.requires.open told) log.ordered (omega arith))

use Rattle.std.proofs.Common.{◌≡◌, ◌+◌, ◌-◌, ◌∙◌, ℕ, sym, ap, arith}
use Rattle.tt_log.specs.Opening.{starts_at}
use Rattle.tt_log.proofs.Skips.{starts_low, starts_high, starts_moved}
use Rattle.tt_log.proofs.entry_offsets.body_starts.Goals as goal

pub returns-then-wanted-offset-clause-starts : goal.returns-then-wanted-offset-clause-starts
returns-then-wanted-offset-clause-starts c es is long = sym (starts_low c.args.wanted c.args.offset es c.if-wanted-offset.true)

pub returns-then-at-bytes-clause-starts : goal.returns-then-at-bytes-clause-starts
returns-then-at-bytes-clause-starts c es is long = sym (starts_high c.args.wanted c.args.offset es (omega (arith, long, c.if-at-bytes.true, c.if-wanted-offset.false)))

pub returns-in-Ok-clause-starts : goal.returns-in-Ok-clause-starts
returns-in-Ok-clause-starts c es is long =
    c.in-Ok.ensures es is
    ∙ sym (starts_moved (c.args.wanted - c.args.offset) 0 c.args.offset es)
    ∙ ap (λ (k : ℕ). starts_at k (c.args.offset + 0) es) (let e : c.args.offset + (c.args.wanted - c.args.offset) ≡ c.args.wanted = omega (arith, c.if-wanted-offset.false) in e)
    ∙ ap (λ (k : ℕ). starts_at c.args.wanted k es) (let e : c.args.offset + 0 ≡ c.args.offset = omega arith in e)

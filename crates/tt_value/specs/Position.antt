-- The order of positions in the log.
use Rattle.std.specs.declared.cmp.Ordering.{Ordering}
use Rattle.std.specs.Ordering.{nat_cmp, on, then_cmp}
use Rattle.tt_value.specs.declared.position.Position.{Position}

-- by file, then by offset
abbrev pub position_cmp : Position → Position → Ordering
position_cmp = then_cmp (on (λ (p : Position). p.file) nat_cmp) (on (λ (p : Position). p.offset) nat_cmp)

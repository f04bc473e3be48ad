-- States of a run, one behind another.
use Rattle.std.proofs.Common.{length, ap, arith}
use Rattle.tt_model.specs.Opened.{Opened}
use Rattle.tt_model.specs.State.{State}
use Rattle.tt_journal.specs.LogTrail.{IsQuiet}
use Rattle.tt_engine.specs.Prefixes.{IsSinceOpening, IsStill}
use Rattle.tt_journal.specs.Onward.{IsOnward}

-- A later state is behind the opening, too.
pub since_onward : (s after : State) → IsSinceOpening s → IsOnward s after → IsSinceOpening after
since_onward s after since onward =
    let found = ap (λ (f : Opened). length f.entries) onward.found in
    let end = ap (λ (f : Opened). f.end.file) onward.found in
    let forced = since.forced in
    let file = since.file in
    let more = onward.forced in
    let later = onward.file in
    record { forced = omega (arith, found, forced, more); file = omega (arith, end, file, later) }

-- Where nothing was forced up to a later state, and no file began, nothing was up to the one before, and nothing is between them.
pub still_before : (s after : State) → IsSinceOpening s → IsOnward s after → IsStill after → IsStill s × IsQuiet s after
still_before s after since onward still =
    let found = ap (λ (f : Opened). length f.entries) onward.found in
    let end = ap (λ (f : Opened). f.end.file) onward.found in
    let forced = since.forced in
    let file = since.file in
    let more = onward.forced in
    let later = onward.file in
    let same = still.forced in
    let at = still.file in (
      record { forced = omega (arith, found, forced, more, same); file = omega (arith, end, file, later, at) },
      record { forced = omega (arith, found, forced, more, same); file = omega (arith, end, file, later, at) },
    )

-- What a pass over a log has read.
use Rattle.std.specs.Prelude.{◌≡◌, ℕ, [], Ok}
use Rattle.tt_log.specs.Log.{forced_of, unforced, write_position_of}
use Rattle.tt_model.specs.Opened.{Opened}
use Rattle.tt_model.specs.Live.{next_number}
use Rattle.tt_model.specs.Trail.{Trail}
use Rattle.tt_recover.specs.declared.progress.Progress.{Progress}
use Rattle.tt_recover.specs.declared.recovery.Recovered.{Recovered}
use Rattle.tt_recover.specs.Opening.{newest_first, opening}
use Rattle.tt_recover.specs.Replay.{HasTaken, cell_shown}
use Rattle.tt_disk.specs.Volume.{Files}

-- these entries were read
pub record HasRead (progress : Progress) (trail : Trail) : Type 0 where
  pub taken : HasTaken progress.replay trail
  pub next : progress.next ≡ next_number 1 trail

-- What is recovered from a log.
use Rattle.std.specs.Prelude.{◌≡◌, ℕ, [], Ok}
use Rattle.tt_log.specs.Log.{forced_of, unforced, write_position_of}
use Rattle.tt_model.specs.Opened.{Opened}
use Rattle.tt_model.specs.Live.{next_number}
use Rattle.tt_model.specs.Trail.{Trail}
use Rattle.tt_recover.specs.declared.progress.Progress.{Progress}
use Rattle.tt_recover.specs.declared.recovery.Recovered.{Recovered}
use Rattle.tt_recover.specs.Opening.{newest_first, opening}
use Rattle.tt_recover.specs.Replay.{HasTaken, cell_shown}
use Rattle.tt_disk.specs.Volume.{Files}

-- What was recovered is what opening finds in the files as they were. The log has the entries that were found, all forced: `now` are
-- the files as they are.
pub record IsRecovered (recovered : Recovered) (old now : Files) : Type 0 where
  pub found : Opened
  pub is : opening old ≡ Ok found
  pub cells : (q : ℕ) → cell_shown recovered.rows.items q ≡ found.cells q
  pub next : recovered.next_transaction ≡ found.next
  pub end : write_position_of recovered.log ≡ found.end
  pub entries : newest_first (forced_of recovered.log now) ≡ found.entries
  pub none : unforced recovered.log ≡ []

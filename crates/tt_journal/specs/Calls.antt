-- The words of `write` at a bound `V: Volume`. Of a volume that tells nothing they say nothing.
use Rattle.std.specs.Prelude.{Result, OnOk}
use Rattle.tt_disk.specs.declared.volume.Failed.{Failed}
use Rattle.tt_disk.specs.declared.volume.Volume.{Ghosts}
use Rattle.tt_log.specs.declared.log.Log.{Log}
use Rattle.tt_log.specs.Log.{IsOpen}
use Rattle.tt_model.specs.State.{State}
use Rattle.tt_journal.specs.Journal.{Performs}

-- The call leads each state whose trail the log was to the one that a function gives, or fails on the way there.
abbrev pub LeadsOn : {V T : Type 0} → Ghosts V → Log → V → Log → V → (State → State) → Result T Failed → Type 0
LeadsOn g log old log' new to result = g.told → Performs g log old log' new to result

-- The log's files stand as the call left them, where it was answered.
abbrev pub OpensOnOk : {V T E : Type 0} → Ghosts V → Log → V → Result T E → Type 0
OpensOnOk g log new result = g.told → OnOk result (IsOpen log (g.now new) (g.may new))

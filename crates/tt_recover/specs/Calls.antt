-- The words of `recover` at a bound `V: Volume`. Each ends in `On`. Of a volume that tells nothing they say nothing.
use Rattle.std.specs.Prelude.{◌≡◌, ◌⊎◌, ℕ, Result, IfOk, IfErr, Err}
use Rattle.tt_disk.specs.declared.volume.Volume.{Ghosts}
use Rattle.tt_log.specs.declared.log.Log.{Log}
use Rattle.tt_log.specs.declared.refusal.LogRefusal.{LogRefusal}
use Rattle.tt_log.specs.declared.refusal.LogRefusal.TheVariants.{Failed, NoMemory}
use Rattle.tt_log.specs.Log.{IsOpen, CrashLeavesForced, CrashLeavesLog}
use Rattle.tt_log.specs.Walk.{log_of}
use Rattle.tt_recover.specs.declared.recovery.Recovered.{Recovered}
use Rattle.tt_recover.specs.Opening.{opening}
use Rattle.tt_recover.specs.Recovery.{IsRecovered}

abbrev pub IsOpenOn : {V : Type 0} → Ghosts V → Log → V → Type 0
IsOpenOn g log volume = g.told → IsOpen log (g.now volume) (g.may volume)

-- A log that was recovered, and what it stands for in the files.
pub record RecoversOn {V : Type 0} (g : Ghosts V) (old : V) (r : Recovered) (new : V) : Type 0 where
  -- its rows and its next number are what opening finds in the files
  pub found : g.told → IsRecovered r (g.now old) (g.now new)
  -- the log's files stand as its last call left them
  pub ready : IsOpenOn g r.log new
  -- a crash leaves just what is forced, where one before left the log as it read
  pub kept : g.told → CrashLeavesLog 0 (log_of 0 (g.now old)) (g.may old) → CrashLeavesForced r.log (g.now new) (g.may new)

-- A refusal is the damage that opening finds, unless a call failed or memory was wanting.
abbrev pub RefusesOn : {V : Type 0} → Ghosts V → V → Result Recovered LogRefusal → Type 0
RefusesOn g old result = g.told → IfErr result (λ e. (e ≡ Failed) ⊎ ((e ≡ NoMemory) ⊎ (opening (g.now old) ≡ Err e)))

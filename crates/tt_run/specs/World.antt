-- The three volumes of a database as one world. Each file lies in the volume of its name, and a crash leaves each by itself. What is
-- said of a run over the volume of the log files is said with the same words of one over a world.
use Rattle.std.specs.Prelude.{◌≡◌, ◌+◌, ℕ, List, [], ◌∷◌}
use Rattle.tt_disk.specs.Volume.{Files, Outcomes}
use Rattle.tt_disk.specs.declared.volume.Name.TheVariants.{Ds, Log, SetImage, SetLog}
use Rattle.tt_disk.specs.declared.volume.Volume.{Ghosts}
use Rattle.tt_value.specs.declared.reply.Reply.{Reply}
use Rattle.tt_engine.specs.declared.request.Request.{Request}
use Rattle.tt_run.specs.Run.{AreLinesBetween, Moment}
use Rattle.tt_run.specs.declared.devices.Devices.{Devices}

-- The three volumes.
pub record World (L C B : Type 0) : Type 0 where
  pub logs : L
  pub images : C
  pub backups : B

-- those of the devices of a call
abbrev pub world_of : {S A K L C B : Type 0} → Devices S A K L C B → World L C B
world_of devices = record { logs = devices.logs; images = devices.images; backups = devices.backups }

-- the files of three volumes, each from the volume of its name
abbrev pub joined : Files → Files → Files → Files
joined logs images backups (Log n) = logs (Log n)
joined logs images backups (Ds n) = images (Ds n)
joined logs images backups (SetImage n) = backups (SetImage n)
joined logs images backups (SetLog n) = backups (SetLog n)

-- what a crash may leave of each, which is left by itself
abbrev pub joined_outcomes : Outcomes → Outcomes → Outcomes → Outcomes
joined_outcomes logs images backups (Log n) = logs (Log n)
joined_outcomes logs images backups (Ds n) = images (Ds n)
joined_outcomes logs images backups (SetImage n) = backups (SetImage n)
joined_outcomes logs images backups (SetLog n) = backups (SetLog n)

-- A world as one volume: it has the files of all three, tells them where each volume tells its own, and counts the faults of all.
abbrev pub whole : {L C B : Type 0} → Ghosts L → Ghosts C → Ghosts B → Ghosts (World L C B)
whole l c b = record {
  told = l.told × c.told × b.told;
  now = λ world. joined (l.now world.logs) (c.now world.images) (b.now world.backups);
  may = λ world. joined_outcomes (l.may world.logs) (c.may world.images) (b.may world.backups);
  faults = λ world. l.faults world.logs + (c.faults world.images + b.faults world.backups);
  exact = l.exact × c.exact × b.exact;
}

-- No volume had a call but that of the log files.
pub record OnlyLogsCalled {L C B : Type 0} (old new : World L C B) : Type 0 where
  pub images : new.images ≡ old.images
  pub backups : new.backups ≡ old.backups

-- at each moment of these lines, the first and the last among them, this holds of the volume
abbrev pub AtEachMoment : {V : Type 0} (g : Ghosts V) (settled : Type 0) → (V → Type 0) → (m : Moment V) (lines : List (Request × Reply)) (after : Moment V) → AreLinesBetween g settled m lines after → Type 0
AtEachMoment g settled P m [] after held = P m.logs
AtEachMoment g settled P m (line ∷ lines) after (holds, (next, is, more)) = P m.logs × AtEachMoment g settled P next lines after more

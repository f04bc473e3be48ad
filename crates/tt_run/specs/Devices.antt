-- The words of the devices of a call, by the dictionaries of their traits. Of a device that tells nothing they say nothing.
use Rattle.std.specs.Prelude.{◌≡◌}
use Rattle.tt_disk.specs.Calls.{KeepsFiles}
use Rattle.tt_disk.specs.Faults.{Rose, RoseWhere}
use Rattle.tt_disk.specs.declared.volume.Volume.{Ghosts}
use Rattle.tt_flow.specs.declared.stream.Sink.{Ghosts as SinkGhosts}
use Rattle.tt_flow.specs.declared.stream.Source.{Ghosts as SourceGhosts}
use Rattle.tt_value.specs.declared.reply.Stop.{Stop}
use Rattle.tt_run.specs.declared.devices.Devices.{Devices}
use Rattle.tt_run.specs.declared.status.Status.{Status}
use Rattle.tt_run.specs.declared.status.Status.TheVariants.{SinkFault, VolumeFault}

-- ---- counts of faults

-- the count of a source rose where this holds
abbrev pub SourceRose : {S : Type 0} → SourceGhosts S → Type 0 → S → S → Type 0
SourceRose g P old new = RoseWhere g.exact P (g.faults old) (g.faults new)

-- the count of a sink rose where this holds
abbrev pub SinkRose : {K : Type 0} → SinkGhosts K → Type 0 → K → K → Type 0
SinkRose g P old new = RoseWhere g.exact P (g.faults old) (g.faults new)

-- the count of a volume rose where this holds
abbrev pub VolumeRose : {V : Type 0} → Ghosts V → Type 0 → V → V → Type 0
VolumeRose g P old new = RoseWhere g.exact P (g.faults old) (g.faults new)

-- the count of a source rose where the run ended with the status that names it, and else stayed, if it is exact
abbrev pub SourceFaults : {S : Type 0} → SourceGhosts S → Status → S → S → Status → Type 0
SourceFaults g named old new status = RoseWhere g.exact (status ≡ named) (g.faults old) (g.faults new)

-- the count of a sink rose where the run ended with the status that names it, and else stayed, if it is exact
abbrev pub SinkFaults : {K : Type 0} → SinkGhosts K → K → K → Status → Type 0
SinkFaults g old new status = RoseWhere g.exact (status ≡ SinkFault) (g.faults old) (g.faults new)

-- the count of a volume rose where the run ended with the status that names it, and else stayed, if it is exact
abbrev pub VolumeFaults : {V : Type 0} → Ghosts V → Stop → V → V → Status → Type 0
VolumeFaults g named old new status = RoseWhere g.exact (status ≡ VolumeFault named) (g.faults old) (g.faults new)

-- a call of a source failed
abbrev pub SourceFailed : {S : Type 0} → SourceGhosts S → S → S → Type 0
SourceFailed g old new = Rose (g.faults old) (g.faults new)

-- a call of a sink failed
abbrev pub SinkFailed : {K : Type 0} → SinkGhosts K → K → K → Type 0
SinkFailed g old new = Rose (g.faults old) (g.faults new)

-- a call of a volume failed
abbrev pub VolumeFailed : {V : Type 0} → Ghosts V → V → V → Type 0
VolumeFailed g old new = Rose (g.faults old) (g.faults new)

-- ---- what was left alone

-- Nothing was read of the script or written, and no log file changed.
pub record DoesNothing {S A K L C B : Type 0} (g : Ghosts L) (old new : Devices S A K L C B) : Type 0 where
  pub script : new.script ≡ old.script
  pub sink : new.sink ≡ old.sink
  pub logs : KeepsFiles g old.logs new.logs

-- The attributes, the images and the backups had no call.
pub record KeepsRest {S A K L C B : Type 0} (old new : Devices S A K L C B) : Type 0 where
  pub attributes : new.attributes ≡ old.attributes
  pub images : new.images ≡ old.images
  pub backups : new.backups ≡ old.backups

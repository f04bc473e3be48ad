-- The words of the engine at a bound `L: Volume`. Of a volume that tells nothing they say nothing.
use Rattle.std.specs.Prelude.{Result}
use Rattle.tt_disk.specs.declared.volume.Failed.{Failed}
use Rattle.tt_disk.specs.declared.volume.Volume.{Ghosts}
use Rattle.tt_set.specs.declared.settings.Settings.{Settings}
use Rattle.tt_value.specs.declared.reply.Reply.{Reply}
use Rattle.tt_engine.specs.declared.engine.Engine.{Engine}
use Rattle.tt_engine.specs.declared.refusal.OpenRefusal.{OpenRefusal}
use Rattle.tt_engine.specs.declared.request.Request.{Request}
use Rattle.tt_engine.specs.Engine.{Ends, Steps}
use Rattle.tt_engine.specs.Starts.{Opens}

-- what came of a start over these files
abbrev pub OpensOn : {V : Type 0} → Ghosts V → Settings → V → V → Result Engine OpenRefusal → Type 0
OpensOn g settings old new result = g.told → Opens g settings old new result

-- what came of a line
abbrev pub StepsOn : {V : Type 0} → Ghosts V → Engine → V → Request → Engine → V → Result Reply Failed → Type 0
StepsOn g e old request e' new result = g.told → Steps g e old request e' new result

-- what came of the end of a script
abbrev pub EndsOn : {V T : Type 0} → Ghosts V → Engine → V → Engine → V → Result T Failed → Type 0
EndsOn g e old e' new result = g.told → Ends g e old e' new result

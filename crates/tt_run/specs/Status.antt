-- The number with which a program ends, and the words for how it ended.
use Rattle.std.specs.Prelude.{ℕ, List, ◌∷◌, ◌++◌, codes, decimal}
use Rattle.tt_value.specs.declared.reply.Stop.{Stop}
use Rattle.tt_value.specs.declared.reply.Stop.TheVariants.{Logs, Images, Backups}
use Rattle.tt_engine.specs.declared.refusal.Damage.{Damage}
use Rattle.tt_engine.specs.declared.refusal.Damage.TheVariants.{LogGap, BadBatch}
use Rattle.tt_run.specs.declared.status.Status.{Status}
use Rattle.tt_run.specs.declared.status.Status.TheVariants.{Done, ScriptFault, AttributesFault, SinkFault, VolumeFault, NoMemory, Usage, Damaged, Exists, NoDatabase, BadAttribute, LogOut, ScriptTooLong}

abbrev pub exit_of : Status → ℕ
exit_of Done = 0
exit_of ScriptFault = 1
exit_of AttributesFault = 1
exit_of SinkFault = 2
exit_of (VolumeFault stop) = 3
exit_of NoMemory = 4
exit_of Usage = 5
exit_of (Damaged damage) = 6
exit_of Exists = 7
exit_of NoDatabase = 7
exit_of (BadAttribute name) = 8
exit_of LogOut = 9
exit_of ScriptTooLong = 11

abbrev pub stop_words : Stop → List ℕ
stop_words Logs = codes "Logs"
stop_words Images = codes "Images"
stop_words Backups = codes "Backups"

-- a log file, and in it the offset of a gate
abbrev pub damage_words : Damage → List ℕ
damage_words (LogGap file) = codes "LogGap " ++ decimal file
damage_words (BadBatch file at) = codes "BadBatch " ++ (decimal file ++ (32 ∷ decimal at))

abbrev pub status_words : Status → List ℕ
status_words Done = codes "Done"
status_words ScriptFault = codes "ScriptFault"
status_words AttributesFault = codes "AttributesFault"
status_words SinkFault = codes "SinkFault"
status_words (VolumeFault stop) = codes "VolumeFault " ++ stop_words stop
status_words NoMemory = codes "NoMemory"
status_words Usage = codes "Usage"
status_words (Damaged damage) = codes "Damaged " ++ damage_words damage
status_words Exists = codes "Exists"
status_words NoDatabase = codes "NoDatabase"
status_words (BadAttribute name) = codes "BadAttribute " ++ name
status_words LogOut = codes "LogOut"
status_words ScriptTooLong = codes "ScriptTooLong"

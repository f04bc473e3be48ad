-- What each line means that reads or changes rows, as one function of the line.
use Rattle.std.specs.Prelude.{ℕ, []}
use Rattle.tt_parse.specs.declared.command.Command.{Command}
use Rattle.tt_parse.specs.declared.command.Command.TheVariants.{CreateTable, DropTable, CreateIndex, DropIndex, Insert, Update, Delete, XlaCreate, XlaDelete, XlaSubscribe, XlaUnsubscribe, XlaAcknowledge}
use Rattle.tt_model.specs.Meaning.{Meant, Makes, meant_by_insert, meant_by_update, meant_by_delete}
use Rattle.tt_model.specs.System.{meant_by_create_table, meant_by_drop_table, meant_by_create_index, meant_by_drop_index, meant_by_create_bookmark, meant_by_delete_bookmark, meant_by_subscribe, meant_by_unsubscribe, meant_by_acknowledge}
use Rattle.tt_model.specs.State.{State}

-- The other lines write no rows. A select gives rows, by `meant_by_select`.
abbrev pub meant : ℕ → Command → State → Meant
meant session (Insert table values) s = meant_by_insert session s table values
meant session (Update table sets cond) s = meant_by_update session s table sets cond
meant session (Delete table cond) s = meant_by_delete session s table cond
meant session (CreateTable name columns key) s = meant_by_create_table session s name columns key
meant session (DropTable name) s = meant_by_drop_table session s name
meant session (CreateIndex name table columns unique) s = meant_by_create_index session s name table columns unique
meant session (DropIndex name) s = meant_by_drop_index session s name
meant session (XlaCreate name) s = meant_by_create_bookmark session s name
meant session (XlaDelete name) s = meant_by_delete_bookmark session s name
meant session (XlaSubscribe table name) s = meant_by_subscribe session s table name
meant session (XlaUnsubscribe table name) s = meant_by_unsubscribe session s table name
meant session XlaAcknowledge s = meant_by_acknowledge session s
meant session _ s = Makes []

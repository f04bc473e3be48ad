-- What each line of the script's grammar has: names are names, sizes and literals are in their ranges.
use Rattle.std.specs.Prelude.{◌≡◌, ◌≤◌, ℕ, true, List, length, IsUtf8}
use Rattle.std.specs.Int.{w64}
use Rattle.std.specs.Int.RustNames.{FitsSigned}
use Rattle.tt_value.specs.Ident.{is_name}
use Rattle.tt_value.specs.declared.value.Value.{Value}
use Rattle.tt_value.specs.declared.value.Value.TheVariants.{Null, Int, Number, Text}
use Rattle.tt_value.specs.declared.value.ColumnType.{ColumnType}
use Rattle.tt_value.specs.declared.value.ColumnType.TheVariants.{BigInt, Varchar, Number as NumberOf}
use Rattle.tt_parse.specs.declared.command.ColumnText.{ColumnText}
use Rattle.tt_parse.specs.declared.command.SetItem.{SetItem}
use Rattle.tt_parse.specs.declared.command.SetSource.{SetSource}
use Rattle.tt_parse.specs.declared.command.SetSource.TheVariants.{Literal, Column, Plus, Minus}
use Rattle.tt_model.specs.WholeRuns.{Each}
use Rattle.tt_parse.specs.declared.command.Command.{Command}
use Rattle.tt_parse.specs.declared.command.Command.TheVariants.{CreateTable, CreateIndex, Insert, Update, Backup as BackupLine, XlaCreate}

abbrev pub IsName : List ℕ → Type 0
IsName bytes = is_name bytes ≡ true

abbrev pub IsType : ColumnType → Type 0
IsType BigInt = Unit {0}
IsType (Varchar most) = (1 ≤ most) × (most ≤ 200)
IsType (NumberOf scale) = scale ≤ 18

abbrev pub IsColumn : ColumnText → Type 0
IsColumn c = IsName c.name × IsType c.kind

abbrev pub IsLiteral : Value → Type 0
IsLiteral Null = Unit {0}
IsLiteral (Int n) = FitsSigned w64 n
IsLiteral (Number scale units) = (scale ≤ 18) × FitsSigned w64 units
IsLiteral (Text bytes) = IsUtf8 bytes

abbrev pub IsSource : SetSource → Type 0
IsSource (Literal v) = IsLiteral v
IsSource (Column name) = Unit {0}
IsSource (Plus name by) = IsLiteral by
IsSource (Minus name by) = IsLiteral by

abbrev pub HasRanges : Command → Type 0
HasRanges (CreateTable name columns key) = IsName name × (1 ≤ length columns) × Each IsColumn columns × (1 ≤ length key)
HasRanges (CreateIndex name table columns unique) = IsName name × (1 ≤ length columns)
HasRanges (Insert table values) = Each IsLiteral values
HasRanges (Update table sets cond) = Each (λ (set : SetItem). IsSource set.source) sets
HasRanges (BackupLine set kind) = (1 ≤ set) × (set ≤ 999)
HasRanges (XlaCreate name) = IsName name
HasRanges _ = Unit {0}

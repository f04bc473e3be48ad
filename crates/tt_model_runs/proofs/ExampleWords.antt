-- The words in which the example runs are written: settings, a database just created, one that is opened again, lines and rows.
use Rattle.std.proofs.Common.{◌≡◌, ℕ, nat_eq, pos, Bool, true, false, List, [], ◌∷◌, map, replicate, codes, Some, None}
use Rattle.tt_value.specs.declared.value.Value.{Value}
use Rattle.tt_value.specs.declared.value.Value.TheVariants.{Int, Text}
use Rattle.tt_value.specs.declared.value.Row.{Row}
use Rattle.tt_value.specs.declared.value.ColumnType.{ColumnType}
use Rattle.tt_value.specs.declared.value.ColumnType.TheVariants.{BigInt, Varchar}
use Rattle.tt_value.specs.declared.position.Position.{Position}
use Rattle.tt_value.specs.declared.reply.Edit.TheVariants.{Insert as InsertOf}
use Rattle.tt_value.specs.declared.reply.Update.{Update as UpdateGiven}
use Rattle.tt_value.specs.declared.reply.Hold.{Hold}
use Rattle.tt_value.specs.declared.reply.HoldKind.{HoldKind}
use Rattle.tt_parse.specs.declared.command.Command.{Command}
use Rattle.tt_parse.specs.declared.command.Command.TheVariants.{CreateTable, Insert, Update, Delete, Select}
use Rattle.tt_parse.specs.declared.command.ColumnText.{ColumnText}
use Rattle.tt_parse.specs.declared.command.SetSource.TheVariants.{Literal}
use Rattle.tt_parse.specs.declared.command.Items.TheVariants.{All}
use Rattle.tt_parse.specs.declared.cond.Op.TheVariants.{Eq}
use Rattle.tt_parse.specs.declared.cond.Operand.TheVariants.{Literal as OfLiteral}
use Rattle.tt_parse.specs.declared.cond.Cond.{Cond, roll-Cond}
use Rattle.tt_parse.specs.declared.cond.Cond.TheOpen.{Compare}
use Rattle.tt_set.specs.declared.settings.Settings.{Settings}
use Rattle.tt_model.specs.Trail.{Trail, oldest}
use Rattle.tt_model.specs.Committed.{no_cells}
use Rattle.tt_model.specs.Live.{next_number, numbers_from}
use Rattle.tt_model.specs.Opened.{Opened, created, only_first, first_head}
use Rattle.tt_model.specs.State.{State, trail, force_position}
use Rattle.tt_model.specs.Run.{begun}
use Rattle.tt_model.specs.Standing.{standing}
use Rattle.tt_model_runs.proofs.ConditionRuns.{Line, Meaning, comparison, means-comparison, meaning}

-- Whether each commit is durable, the size of a log file, the pages that may be filled, and the pages of a round.
abbrev pub settings_of : Bool → ℕ → ℕ → ℕ → Settings
settings_of durable file_size perm_pages ckpt_pages =
    record { durable_commits = durable; log_file_size = file_size; log_buf_size = 65536; perm_pages = perm_pages; ckpt_pages = ckpt_pages; database = 1 }

abbrev pub usual : Settings
usual = settings_of false 67108864 1024 8

abbrev pub durable : Settings
durable = settings_of true 67108864 1024 8

abbrev pub small_files : Settings
small_files = settings_of false 8192 1024 256

abbrev pub one_page_a_round : Settings
one_page_a_round = settings_of false 67108864 1024 1

abbrev pub one_page_filled : Settings
one_page_filled = settings_of false 67108864 1 8

-- A run over a database just created.
abbrev pub start : Settings → State
start settings = begun settings (created 1) (λ n. nat_eq n 0) (λ n. None)

-- What opening finds where a run stopped and just its forced entries are left, over the empty first image.
abbrev pub left_by : Trail → State → Opened
left_by entries s = record { cells = standing no_cells entries; entries = entries; end = force_position s; next = next_number 1 entries; heads = only_first (first_head 0 1) }

abbrev pub again_with : Settings → State → State
again_with settings s = begun settings (left_by (oldest s.forced (trail s)) s) (λ n. nat_eq n 0) (λ n. None)

abbrev pub again : State → State
again s = again_with s.settings s

abbrev pub column : List ℕ → ColumnType → ColumnText
column name kind = record { name = name; kind = kind; required = false }

abbrev pub whole : ℕ → Value
whole n = Int (pos n)

abbrev pub create_kv : Command
create_kv = CreateTable (codes "kv") (column (codes "k") BigInt ∷ column (codes "v") BigInt ∷ []) (codes "k" ∷ [])

abbrev pub pair : ℕ → ℕ → Command
pair k v = Insert (codes "kv") (whole k ∷ whole v ∷ [])

-- A count of pairs with keys from a first one on, each with this value, in this session.
abbrev pub pairs : ℕ → ℕ → ℕ → ℕ → List Line
pairs session n first v = map (λ k. (session, pair k v)) (numbers_from n first)

abbrev pub set_v : ℕ → Command
set_v n = Update (codes "kv") (record { column = codes "v"; source = Literal (whole n) } ∷ []) None

-- The rows whose column has this number.
abbrev pub is_number : List ℕ → ℕ → Cond
is_number name n = roll-Cond (Compare name Eq (OfLiteral (whole n)))

abbrev pub equals : List ℕ → ℕ → Meaning
equals name n = comparison name Eq (OfLiteral (whole n))

pub number_means : (name : List ℕ) (n : ℕ) → meaning (is_number name n) ≡ equals name n
number_means name n = means-comparison name Eq (OfLiteral (whole n))

-- The key of kv has this number.
abbrev pub key_is : ℕ → Meaning
key_is k = equals (codes "k") k

pub key_means : (k : ℕ) → meaning (is_number (codes "k") k) ≡ key_is k
key_means k = number_means (codes "k") k

abbrev pub set_v_of : ℕ → ℕ → Command
set_v_of k n = Update (codes "kv") (record { column = codes "v"; source = Literal (whole n) } ∷ []) (Some (is_number (codes "k") k))

abbrev pub delete_of : ℕ → Command
delete_of k = Delete (codes "kv") (Some (is_number (codes "k") k))

abbrev pub all_kv : Command
all_kv = Select (codes "kv") All None []

abbrev pub row_of : List Value → Row
row_of values = record { values = values }

abbrev pub pair_row : ℕ → ℕ → Row
pair_row k v = row_of (whole k ∷ whole v ∷ [])

-- A table of a key and a text, and its rows with a count of letters.
abbrev pub create_t : Command
create_t = CreateTable (codes "t") (column (codes "k") BigInt ∷ column (codes "s") (Varchar 200) ∷ []) (codes "k" ∷ [])

abbrev pub letters : ℕ → Value
letters n = Text (replicate n 120)

abbrev pub text_row : ℕ → ℕ → Command
text_row k n = Insert (codes "t") (whole k ∷ letters n ∷ [])

abbrev pub text_rows : ℕ → ℕ → ℕ → ℕ → List Line
text_rows session count first n = map (λ k. (session, text_row k n)) (numbers_from count first)

-- An inserted pair as a reader is given it.
abbrev pub given : Bool → Bool → ℕ → ℕ → ℕ → UpdateGiven
given first last t k v = record { first = first; last = last; transaction = t; table = codes "kv"; edit = InsertOf (pair_row k v) }

abbrev pub held : HoldKind → Position → Hold
held kind at = record { at = at; kind = kind }

-- A desk's day: three sessions, a reader and a checkpoint over two tables, by computing.
use Rattle.std.proofs.Common.{◌≡◌, ℕ, pos, true, false, List, [], ◌∷◌, map, codes, Some, None, refl, ap, ◌∙◌}
use Rattle.tt_value.specs.BigEndian.{big_endian}
use Rattle.tt_value.specs.declared.value.Value.{Value}
use Rattle.tt_value.specs.declared.value.Value.TheVariants.{Null, Number, Text}
use Rattle.tt_value.specs.declared.value.ColumnType.TheVariants.{BigInt, Varchar, Number as NumberOf}
use Rattle.tt_value.specs.declared.position.Position.{Position}
use Rattle.tt_value.specs.declared.refusal.Refusal.TheVariants.{LockConflict}
use Rattle.tt_value.specs.declared.reply.Reply.{Reply}
use Rattle.tt_value.specs.declared.reply.Reply.TheVariants.{Done, Changed, Rows, Checkpoint, Positions, Holds, Updates, Refused}
use Rattle.tt_value.specs.declared.reply.Edit.TheVariants.{Insert as InsertOf}
use Rattle.tt_value.specs.declared.reply.Update.{Update as UpdateGiven}
use Rattle.tt_value.specs.declared.reply.HoldKind.TheVariants.{Checkpoint as OfCheckpoint, Xla as OfBookmark}
use Rattle.tt_parse.specs.declared.command.Command.TheVariants.{CreateTable, CreateIndex, Insert, Update, Select, Commit, Flush, Ckpt, LogHolds, Bookmark, XlaCreate, XlaSubscribe, XlaOpen, XlaNext, XlaAcknowledge}
use Rattle.tt_parse.specs.declared.command.SetSource.TheVariants.{Literal, Minus}
use Rattle.tt_parse.specs.declared.command.Items.TheVariants.{All, Columns, Sums}
use Rattle.tt_parse.specs.declared.command.Aggregate.TheVariants.{Count, Sum}
use Rattle.tt_parse.specs.declared.cond.Op.TheVariants.{Eq}
use Rattle.tt_parse.specs.declared.cond.Operand.TheVariants.{Literal as OfLiteral}
use Rattle.tt_parse.specs.declared.cond.Cond.{Cond, roll-Cond}
use Rattle.tt_parse.specs.declared.cond.Cond.TheOpen.{Compare, Not}
use Rattle.tt_record.specs.Place.{position}
use Rattle.tt_model.specs.Trail.{before}
use Rattle.tt_model.specs.Committed.{committed}
use Rattle.tt_model.specs.Live.{live, in_use, next_number}
use Rattle.tt_model.specs.Holders.{holder, other_holder}
use Rattle.tt_model.specs.Forced.{forced_for}
use Rattle.tt_model.specs.Tables.{rows_of, catalog_of}
use Rattle.tt_model.specs.Holds.{first_entry, low, holds_of}
use Rattle.tt_model.specs.Meaning.{meant_by_insert, meant_by_update, meant_by_delete, meant_by_select}
use Rattle.tt_model.specs.System.{meant_by_create_table, meant_by_drop_table, meant_by_create_index, meant_by_drop_index, meant_by_create_bookmark, meant_by_delete_bookmark, meant_by_subscribe, meant_by_unsubscribe, meant_by_acknowledge}
use Rattle.tt_model.specs.Backups.{backup_refusal}
use Rattle.tt_model.specs.Due.{due, open_after}
use Rattle.tt_model.specs.Checkpoint.{with_copies, with_all_copies, with_completion, begin_checkpoint, completed}
use Rattle.tt_model.specs.State.{with_entry, all_forced, reversals}
use Rattle.tt_model.specs.Step.{line}
use Rattle.tt_model.specs.Run.{begun}
use Rattle.tt_model_runs.proofs.ConditionRuns.{Line, Meaning, replies, ends_after, comparison, means-comparison, negation, means-negation, conds_in, AreMeant, lines_by, replies_told, ends_told, replies-by, ends-by}
use Rattle.tt_model_runs.proofs.ExampleWords.{usual, start, column, whole, is_number, equals, number_means, row_of, held}

-- The accounts whose owner is Ada's desk.
abbrev owned_by_ada : Cond
owned_by_ada = roll-Cond (Compare (codes "owner") Eq (OfLiteral (Text (codes "Ada's desk"))))

abbrev ada_owns : Meaning
ada_owns = comparison (codes "owner") Eq (OfLiteral (Text (codes "Ada's desk")))

abbrev not_five : Meaning
not_five = negation (equals (codes "qty") 5)

-- An inserted order as the reader is given it, the first and the last of its transaction.
abbrev order_given : ℕ → List Value → UpdateGiven
order_given t values = record { first = true; last = true; transaction = t; table = codes "orders"; edit = InsertOf (row_of values) }

abbrev desk_lines : List Line
desk_lines =
    (1, CreateTable (codes "accounts") (column (codes "id") BigInt ∷ record { name = codes "owner"; kind = Varchar 30; required = true } ∷ record { name = codes "balance"; kind = NumberOf 4; required = true } ∷ []) (codes "id" ∷ []))
    ∷ (1, CreateTable (codes "orders") (column (codes "id") BigInt ∷ record { name = codes "account"; kind = BigInt; required = true } ∷ column (codes "qty") BigInt ∷ column (codes "price") (NumberOf 4) ∷ []) (codes "id" ∷ []))
    ∷ (1, CreateIndex (codes "orders_account") (codes "orders") (codes "account" ∷ []) false)
    ∷ (1, XlaCreate (codes "feed"))
    ∷ (1, XlaSubscribe (codes "orders") (codes "feed"))
    ∷ (1, Insert (codes "accounts") (whole 1 ∷ Text (codes "Ada's desk") ∷ whole 1000 ∷ []))
    ∷ (1, Insert (codes "accounts") (whole 2 ∷ Text (codes "Bo") ∷ Number 1 (pos 2505) ∷ []))
    ∷ (1, Commit)
    ∷ (2, Insert (codes "orders") (whole 10 ∷ whole 1 ∷ whole 100 ∷ Number 2 (pos 1225) ∷ []))
    ∷ (2, Update (codes "accounts") (record { column = codes "balance"; source = Minus (codes "balance") (Number 1 (pos 1255)) } ∷ []) (Some (is_number (codes "id") 1)))
    ∷ (3, Select (codes "accounts") (Columns (codes "balance" ∷ [])) (Some (is_number (codes "id") 1)) [])
    ∷ (3, Update (codes "accounts") (record { column = codes "balance"; source = Literal (whole 0) } ∷ []) (Some owned_by_ada))
    ∷ (2, Select (codes "accounts") All None (record { column = codes "balance"; down = true } ∷ []))
    ∷ (1, Ckpt)
    ∷ (2, Commit)
    ∷ (3, Insert (codes "orders") (whole 11 ∷ whole 2 ∷ Null ∷ Null ∷ []))
    ∷ (3, Commit)
    ∷ (3, Select (codes "orders") (Sums (Count ∷ Sum (codes "qty") ∷ [])) None [])
    ∷ (3, XlaOpen (codes "feed"))
    ∷ (3, XlaNext 10)
    ∷ (3, XlaAcknowledge)
    ∷ (3, LogHolds)
    ∷ (3, Flush)
    ∷ (3, XlaNext 10)
    ∷ (1, Bookmark)
    ∷ (2, Select (codes "orders") (Columns (codes "id" ∷ [])) (Some (roll-Cond (Not (is_number (codes "qty") 5)))) [])
    ∷ []

-- What its four conditions mean.
abbrev desk_meanings : List Meaning
desk_meanings = equals (codes "id") 1 ∷ equals (codes "id") 1 ∷ ada_owns ∷ not_five ∷ []

desk_means : AreMeant (conds_in desk_lines) desk_meanings
desk_means = (
  number_means (codes "id") 1,
  (
    number_means (codes "id") 1,
    (
      means-comparison (codes "owner") Eq (OfLiteral (Text (codes "Ada's desk"))),
      (means-negation (is_number (codes "qty") 5) ∙ ap negation (number_means (codes "qty") 5), tt),
    ),
  ),
)

abbrev desk_replies : List Reply
desk_replies =
    Done
    ∷ Done
    ∷ Done
    ∷ Done
    ∷ Done
    ∷ Changed 1
    ∷ Changed 1
    ∷ Done
    ∷ Changed 1
    ∷ Changed 1
    ∷ Rows (row_of (Number 4 (pos 10000000) ∷ []) ∷ [])
    ∷ Refused (LockConflict 7)
    ∷ Rows (row_of (whole 1 ∷ Text (codes "Ada's desk") ∷ Number 4 (pos 8745000) ∷ []) ∷ row_of (whole 2 ∷ Text (codes "Bo") ∷ Number 4 (pos 2505000) ∷ []) ∷ [])
    ∷ Checkpoint 2 1
    ∷ Done
    ∷ Changed 1
    ∷ Done
    ∷ Rows (row_of (whole 2 ∷ whole 100 ∷ []) ∷ [])
    ∷ Done
    ∷ Updates (order_given 7 (whole 10 ∷ whole 1 ∷ whole 100 ∷ Number 4 (pos 122500) ∷ []) ∷ [])
    ∷ Done
    ∷ Holds (held (OfCheckpoint 0) (position 0 0) ∷ held (OfCheckpoint 1) (position 0 1021) ∷ held (OfBookmark (codes "feed")) (position 0 1182) ∷ [])
    ∷ Done
    ∷ Updates (order_given 8 (whole 11 ∷ whole 2 ∷ Null ∷ Null ∷ []) ∷ [])
    ∷ Positions (position 0 1375) (position 0 1375) (position 0 0)
    ∷ Rows (row_of (whole 10 ∷ []) ∷ [])
    ∷ []

desk_told : replies_told (lines_by desk_meanings desk_lines) (start usual) ≡ desk_replies
unfolding begun with_entry all_forced reversals forced_for line with_copies with_all_copies with_completion begin_checkpoint completed meant_by_create_table meant_by_drop_table meant_by_create_index meant_by_drop_index meant_by_create_bookmark meant_by_delete_bookmark meant_by_subscribe meant_by_unsubscribe meant_by_acknowledge backup_refusal meant_by_insert meant_by_update meant_by_delete meant_by_select catalog_of rows_of committed live in_use next_number holder other_holder holds_of first_entry before low due open_after big_endian
desk_told = refl

-- Each line's reply.
desk : replies desk_lines (start usual) ≡ desk_replies
desk = replies-by desk_meanings desk_lines (start usual) desk_means ∙ desk_told

abbrev desk_offsets : List ℕ
desk_offsets = 303 ∷ 685 ∷ 764 ∷ 847 ∷ 912 ∷ 966 ∷ 1012 ∷ 1021 ∷ 1080 ∷ 1173 ∷ 1173 ∷ 1173 ∷ 1173 ∷ 1173 ∷ 1182 ∷ 1224 ∷ 1233 ∷ 1233 ∷ 1233 ∷ 1233 ∷ 1375 ∷ 1375 ∷ 1375 ∷ 1375 ∷ 1375 ∷ 1375 ∷ []

desk_ends_told : map (λ (p : Position). p.offset) (ends_told (lines_by desk_meanings desk_lines) (start usual)) ≡ desk_offsets
unfolding begun with_entry all_forced reversals forced_for line with_copies with_all_copies with_completion begin_checkpoint completed meant_by_create_table meant_by_drop_table meant_by_create_index meant_by_drop_index meant_by_create_bookmark meant_by_delete_bookmark meant_by_subscribe meant_by_unsubscribe meant_by_acknowledge backup_refusal meant_by_insert meant_by_update meant_by_delete meant_by_select catalog_of rows_of committed live in_use next_number holder other_holder holds_of first_entry before low due open_after big_endian
desk_ends_told = refl

-- Where each line leaves the end of the log.
desk_positions : map (λ (p : Position). p.offset) (ends_after desk_lines (start usual)) ≡ desk_offsets
desk_positions = ap (λ (ps : List Position). map (λ (p : Position). p.offset) ps) (ends-by desk_meanings desk_lines (start usual) desk_means) ∙ desk_ends_told

-- Each reader is exact for its part of the grammar: commands that make tables and indexes, change rows and select them.
use Rattle.std.proofs.Common.{◌≡◌, ℕ, Bool, true, false, List, [], ◌∷◌, None, Option, refl, ap}
use Rattle.std.specs.Prelude.{codes}
use Rattle.tt_value.specs.Ident.{is_name, is_reserved}
use Rattle.tt_value.specs.declared.value.ColumnType.TheVariants as column_types
use Rattle.tt_parse.specs.declared.command.SetSource.TheVariants as source
use Rattle.tt_parse.specs.declared.command.Items.TheVariants as items
use Rattle.tt_parse.specs.declared.command.Aggregate.TheVariants as aggregates
use Rattle.tt_parse.specs.declared.command.Command.TheVariants as commands
use Rattle.tt_parse.specs.Grammar.{nothing, one, ◌or_else◌, many}
use Rattle.tt_parse.proofs.Exact.{Exact, Begins, Follows, Within, never, exact-one, exact-nothing}
use Rattle.tt_parse.proofs.ExactLaws.{Finds, seq, step, alt, star, begins_one, begins_then, begins_or, follows_nothing, follows_or, follows_then, follows_first, exact-within}
use Rattle.tt_parse.specs.declared.kind.Kind.TheVariants as k
use Rattle.tt_parse.specs.Tokens.{Token, same_kind}
use Rattle.tt_parse.specs.Script as g
use Rattle.tt_parse.specs.Script.{G}
use Rattle.tt_parse.specs.Symbols as symbol
use Rattle.tt_parse.specs.Symbols.{folded, is_word, is_mark, is_a_name, the_word, the_mark, the_name, the_direction}
use Rattle.tt_parse.specs.Reading as r
use Rattle.tt_parse.specs.Reading.{has_some}
use Rattle.tt_parse.proofs.TokenTests.{when_some, kind_is, word_kind, word_other, name_kind, name_no_word, none_within, begins_word, begins_mark, follows_word, follows_mark, follows_name, one_of, mark_within, word_within, fewer_within, word_not, mark_apart}
use Rattle.tt_parse.proofs.Exactness.{exact-word, exact-mark, exact-name, exact-number, exact-digits, exact-eighteen, exact-literal, exact-optional_word, exact-comma_list, exact-plain_list, exact-names, exact-map, exact-filter, more_filter, mark_no_word, mark_no_mark, word_no_word, word_no_mark, literal_begins, name_no_literal, name_no_mark}

-- ---- tables and indexes

pub exact-column_type : Exact g.column_type r.column_type never
unfolding g.column_type r.column_type r.bigint r.varchar r.decimal r.eighteen symbol.is_between symbol.units is_word same_kind
exact-column_type =
    alt (is_word (codes "bigint")) (step (exact-word (codes "bigint") refl) (λ _. exact-nothing column_types.BigInt))
    (alt (is_word (codes "varchar"))
    (step (exact-word (codes "varchar") refl) (λ _. step (exact-mark k.Open) (λ _. step (exact-digits 1 200 refl) (λ bytes. step (exact-mark k.Close) (λ _. exact-nothing (column_types.Varchar bytes))))))
    (step (exact-word (codes "number") refl) (λ _. step (exact-mark k.Open) (λ _. step exact-eighteen (λ _. step (exact-mark k.Comma) (λ _.
    step (exact-digits 0 18 refl) (λ scale. step (exact-mark k.Close) (λ _. exact-nothing (column_types.Number scale))))))))
    (begins_word (codes "varchar") _)
    (follows_word (codes "number") _ (is_word (codes "varchar")) never (word_no_word (codes "number") (codes "varchar") refl))
    (none_within never) (none_within never))
    (begins_word (codes "bigint") _)
    (follows_or _ _ (is_word (codes "bigint")) never
    (follows_word (codes "varchar") _ (is_word (codes "bigint")) never (word_no_word (codes "varchar") (codes "bigint") refl))
    (follows_word (codes "number") _ (is_word (codes "bigint")) never (word_no_word (codes "number") (codes "bigint") refl)))
    (none_within never) (none_within never)

pub exact-required : Exact g.required r.required (is_word (codes "not"))
unfolding g.required r.required r.not_null is_word same_kind
exact-required =
    alt (is_word (codes "not")) (step (exact-word (codes "not") refl) (λ _. step (exact-word (codes "null") refl) (λ _. exact-nothing true))) (exact-nothing false)
    (begins_word (codes "not") _) (follows_nothing false (is_word (codes "not")) (is_word (codes "not")) (λ s h. h))
    (none_within (is_word (codes "not"))) (none_within (is_word (codes "not")))

pub exact-column : Exact g.column r.column never
unfolding g.column r.column same_kind
exact-column =
    step exact-name (λ name. step exact-column_type (λ kind.
    seq exact-required (λ required. step (exact-mark k.Comma) (λ _. exact-nothing (record { name = name; kind = kind; required = required })))
    (λ required. follows_mark k.Comma _ (is_word (codes "not")) never (mark_no_word k.Comma (codes "not") refl))))

no_name_primary : is_name (codes "primary") ≡ false
unfolding is_name is_reserved
no_name_primary = refl

name_is_column : Finds the_name r.is_column true
unfolding r.is_column is_mark
name_is_column s v h =
    let e = when_some (is_a_name s) (folded s) v h in
    rw (kind_is s.kind k.Word (name_kind s e), name_no_word (codes "primary") no_name_primary s e) refl

primary_no_column : Finds (the_word (codes "primary")) r.is_column false
unfolding r.is_column is_mark
primary_no_column s v h =
    let e = when_some (is_word (codes "primary") s) tt v h in
    rw (kind_is s.kind k.Word (word_kind (codes "primary") s e), e) refl

pub begins-column : Begins g.column r.is_column
unfolding g.column g.name
begins-column = begins_then (one the_name) _ r.is_column (begins_one the_name r.is_column name_is_column)

pub exact-more_columns : Exact (many g.column) r.more_columns r.is_column
unfolding r.more_columns
exact-more_columns = star r.is_column r.is_column exact-column begins-column (λ s h. refl) (none_within r.is_column) (λ s h. h)

pub exact-create_table : Exact g.create_table r.create_table never
unfolding g.create_table r.create_table r.columns_and_key is_word same_kind
exact-create_table =
    step (exact-word (codes "table") refl) (λ _. step exact-name (λ name. step (exact-mark k.Open) (λ _. step exact-column (λ first.
    seq exact-more_columns (λ more.
    step (exact-word (codes "primary") refl) (λ _. step (exact-word (codes "key") refl) (λ _. step exact-names (λ key.
    step (exact-mark k.Close) (λ _. exact-nothing (commands.CreateTable name (first ∷ more) key))))))
    (λ more. follows_word (codes "primary") _ r.is_column never primary_no_column)))))

pub exact-create_index : Exact g.create_index r.create_index never
unfolding g.create_index r.create_index is_word same_kind
exact-create_index =
    seq (exact-optional_word (codes "unique") refl) (λ unique.
    step (exact-word (codes "index") refl) (λ _. step exact-name (λ name. step (exact-word (codes "on") refl) (λ _. step exact-name (λ table.
    step exact-names (λ columns. exact-nothing (commands.CreateIndex name table columns unique)))))))
    (λ unique. follows_word (codes "index") _ (is_word (codes "unique")) never (word_no_word (codes "index") (codes "unique") refl))

pub exact-create : Exact g.create r.create never
unfolding g.create r.create g.create_table g.create_index g.optional_word is_word same_kind
exact-create =
    step (exact-word (codes "create") refl) (λ _.
    alt (is_word (codes "table")) exact-create_table exact-create_index
    (begins_word (codes "table") _)
    (follows_then (g.optional_word (codes "unique")) _ (is_word (codes "table")) never
    (follows_or _ _ (is_word (codes "table")) (is_word (codes "table"))
    (follows_word (codes "unique") _ (is_word (codes "table")) (is_word (codes "table")) (word_no_word (codes "unique") (codes "table") refl))
    (follows_nothing false (is_word (codes "table")) (is_word (codes "table")) (λ s h. h)))
    (λ unique. follows_word (codes "index") _ (is_word (codes "table")) never (word_no_word (codes "index") (codes "table") refl)))
    (none_within never) (none_within never))

pub exact-drop : Exact g.drop r.drop never
unfolding g.drop r.drop r.drop_table r.drop_index is_word same_kind
exact-drop =
    step (exact-word (codes "drop") refl) (λ _.
    alt (is_word (codes "table"))
    (step (exact-word (codes "table") refl) (λ _. step exact-name (λ name. exact-nothing (commands.DropTable name))))
    (step (exact-word (codes "index") refl) (λ _. step exact-name (λ name. exact-nothing (commands.DropIndex name))))
    (begins_word (codes "table") _)
    (follows_word (codes "index") _ (is_word (codes "table")) never (word_no_word (codes "index") (codes "table") refl))
    (none_within never) (none_within never))

-- ---- rows

pub exact-insert : Exact g.insert r.insert never
unfolding g.insert r.insert is_word same_kind
exact-insert =
    step (exact-word (codes "insert") refl) (λ _. step (exact-word (codes "into") refl) (λ _. step exact-name (λ table.
    step (exact-word (codes "values") refl) (λ _. step (exact-mark k.Open) (λ _.
    seq (exact-plain_list g.literal r.literal exact-literal) (λ values. step (exact-mark k.Close) (λ _. exact-nothing (commands.Insert table values)))
    (λ values. follows_mark k.Close _ (is_mark k.Comma) never (mark_no_mark k.Close k.Comma refl)))))))

-- what may go on with what a column is set to
abbrev pub more_source : Token → Bool
more_source = one_of (k.Plus ∷ k.Minus ∷ []) []

pub exact-column_source : (column : List ℕ) → Exact (g.column_source column) (r.column_source column) more_source
unfolding g.column_source r.column_source r.plus r.minus same_kind
exact-column_source column =
    alt (is_mark k.Plus) (step (exact-mark k.Plus) (λ _. step (exact-number false) (λ by. exact-nothing (source.Plus column by))))
    (alt (is_mark k.Minus) (step (exact-mark k.Minus) (λ _. step (exact-number false) (λ by. exact-nothing (source.Minus column by))))
    (exact-nothing (source.Column column))
    (begins_mark k.Minus _)
    (follows_nothing _ (is_mark k.Minus) more_source (mark_within k.Minus (k.Plus ∷ k.Minus ∷ []) [] refl))
    (none_within more_source) (none_within more_source))
    (begins_mark k.Plus _)
    (follows_or _ _ (is_mark k.Plus) more_source
    (follows_mark k.Minus _ (is_mark k.Plus) more_source (mark_no_mark k.Minus k.Plus refl))
    (follows_nothing _ (is_mark k.Plus) more_source (mark_within k.Plus (k.Plus ∷ k.Minus ∷ []) [] refl)))
    (none_within more_source) (λ s h. h)

pub exact-set_source : Exact g.set_source r.set_source more_source
unfolding g.set_source r.set_source r.literal_source r.name_source
exact-set_source =
    alt r.is_literal (step exact-literal (λ value. exact-nothing (source.Literal value))) (step exact-name (λ column. exact-column_source column))
    (begins_then g.literal _ r.is_literal literal_begins)
    (follows_name _ r.is_literal more_source name_no_literal)
    (none_within more_source) (λ s h. h)

pub exact-set_item : Exact g.set_item r.set_item more_source
unfolding g.set_item r.set_item
exact-set_item = step exact-name (λ column. step (exact-mark k.Equal) (λ _. exact-map (λ source. record { column = column; source = source }) exact-set_source))

abbrev pub more_sets : Token → Bool
more_sets = one_of (k.Comma ∷ k.Plus ∷ k.Minus ∷ []) []

pub comma_no_source : (s : Token) → is_mark k.Comma s ≡ true → more_source s ≡ false
unfolding same_kind
comma_no_source s h = mark_apart k.Comma (k.Plus ∷ k.Minus ∷ []) [] refl refl s h

pub source_within : Within more_source more_sets
unfolding same_kind
source_within = fewer_within (k.Plus ∷ k.Minus ∷ []) (k.Comma ∷ k.Plus ∷ k.Minus ∷ []) [] [] refl refl

pub comma_within_sets : Within (is_mark k.Comma) more_sets
unfolding same_kind
comma_within_sets = mark_within k.Comma (k.Comma ∷ k.Plus ∷ k.Minus ∷ []) [] refl

pub exact-sets : Exact (g.comma_list g.set_item) (r.comma_list r.set_item) more_sets
exact-sets = exact-comma_list g.set_item r.set_item more_source more_sets exact-set_item comma_no_source source_within comma_within_sets

abbrev pub more_update : Token → Bool
more_update = one_of (k.Comma ∷ k.Plus ∷ k.Minus ∷ []) (codes "where" ∷ codes "and" ∷ codes "or" ∷ [])

pub exact-update : Exact g.update r.update more_update
unfolding g.update r.update g.filter is_word same_kind
exact-update =
    step (exact-word (codes "update") refl) (λ _. step exact-name (λ table. step (exact-word (codes "set") refl) (λ _.
    seq exact-sets (λ sets.
    exact-within more_filter more_update (fewer_within [] (k.Comma ∷ k.Plus ∷ k.Minus ∷ []) (codes "where" ∷ codes "and" ∷ codes "or" ∷ []) (codes "where" ∷ codes "and" ∷ codes "or" ∷ []) refl refl)
    (exact-map (λ cond. commands.Update table sets cond) exact-filter))
    (λ sets. follows_then g.filter _ more_sets more_update
    (follows_or _ _ more_sets more_sets
    (follows_word (codes "where") _ more_sets more_sets (word_not (codes "where") (k.Comma ∷ k.Plus ∷ k.Minus ∷ []) [] refl refl))
    (follows_nothing None more_sets more_sets (λ s h. h)))
    (λ cond. follows_nothing _ more_sets more_update (fewer_within (k.Comma ∷ k.Plus ∷ k.Minus ∷ []) (k.Comma ∷ k.Plus ∷ k.Minus ∷ []) [] (codes "where" ∷ codes "and" ∷ codes "or" ∷ []) refl refl))))))

pub exact-delete : Exact g.delete r.delete more_filter
unfolding g.delete r.delete is_word same_kind
exact-delete =
    step (exact-word (codes "delete") refl) (λ _. step (exact-word (codes "from") refl) (λ _. step exact-name (λ table.
    exact-map (λ cond. commands.Delete table cond) exact-filter)))

-- ---- select

pub exact-columns : Exact g.columns r.columns (is_mark k.Comma)
unfolding g.columns r.columns r.all_columns r.named_columns g.comma_list same_kind
exact-columns =
    alt (is_mark k.Star) (step (exact-mark k.Star) (λ _. exact-nothing items.All))
    (exact-map (λ names. items.Columns names) (exact-plain_list g.name r.name exact-name))
    (begins_mark k.Star _)
    (follows_first (g.comma_list g.name) _ (is_mark k.Star) (is_mark k.Comma) (follows_name _ (is_mark k.Star) never (name_no_mark k.Star refl)))
    (none_within (is_mark k.Comma)) (λ s h. h)

pub exact-aggregate : Exact g.aggregate r.aggregate never
unfolding g.aggregate r.aggregate r.count r.sum is_word same_kind
exact-aggregate =
    alt (is_word (codes "count"))
    (step (exact-word (codes "count") refl) (λ _. step (exact-mark k.Open) (λ _. step (exact-mark k.Star) (λ _. step (exact-mark k.Close) (λ _. exact-nothing aggregates.Count)))))
    (step (exact-word (codes "sum") refl) (λ _. step (exact-mark k.Open) (λ _. step exact-name (λ column. step (exact-mark k.Close) (λ _. exact-nothing (aggregates.Sum column))))))
    (begins_word (codes "count") _)
    (follows_word (codes "sum") _ (is_word (codes "count")) never (word_no_word (codes "sum") (codes "count") refl))
    (none_within never) (none_within never)

abbrev pub more_direction : Token → Bool
more_direction = one_of [] (codes "asc" ∷ codes "desc" ∷ [])

direction_some : Finds the_direction r.is_direction true
unfolding r.is_direction
direction_some s v h = ap (λ (o : Option Bool). has_some o) h

direction_within : Within r.is_direction more_direction
unfolding r.is_direction the_direction
direction_within s h =
    rw (word_within (codes "asc") [] (codes "asc" ∷ codes "desc" ∷ []) refl s h)
    (rw (word_within (codes "desc") [] (codes "asc" ∷ codes "desc" ∷ []) refl s h) refl)

pub exact-direction : Exact (one the_direction or_else nothing false) r.direction more_direction
unfolding r.direction the_direction is_word same_kind
exact-direction =
    alt r.is_direction (exact-one the_direction (record { at = 0; kind = k.Word; bytes = codes "asc" }) false refl) (exact-nothing false)
    (begins_one the_direction r.is_direction direction_some)
    (follows_nothing false r.is_direction more_direction direction_within)
    (none_within more_direction) (none_within more_direction)

pub exact-order_item : Exact g.order_item r.order_item more_direction
unfolding g.order_item r.order_item
exact-order_item = step exact-name (λ column. exact-map (λ down. record { column = column; down = down }) exact-direction)

abbrev pub more_order_list : Token → Bool
more_order_list = one_of (k.Comma ∷ []) (codes "asc" ∷ codes "desc" ∷ [])

pub comma_no_direction : (s : Token) → is_mark k.Comma s ≡ true → more_direction s ≡ false
unfolding same_kind
comma_no_direction s h = mark_apart k.Comma [] (codes "asc" ∷ codes "desc" ∷ []) refl refl s h

pub direction_within_list : Within more_direction more_order_list
direction_within_list = fewer_within [] (k.Comma ∷ []) (codes "asc" ∷ codes "desc" ∷ []) (codes "asc" ∷ codes "desc" ∷ []) refl refl

pub comma_within_order : Within (is_mark k.Comma) more_order_list
unfolding same_kind
comma_within_order = mark_within k.Comma (k.Comma ∷ []) (codes "asc" ∷ codes "desc" ∷ []) refl

pub exact-order_list : Exact (g.comma_list g.order_item) (r.comma_list r.order_item) more_order_list
exact-order_list = exact-comma_list g.order_item r.order_item more_direction more_order_list exact-order_item comma_no_direction direction_within_list comma_within_order

abbrev pub more_order : Token → Bool
more_order = one_of (k.Comma ∷ []) (codes "order" ∷ codes "asc" ∷ codes "desc" ∷ [])

pub exact-order : Exact g.order r.order more_order
unfolding g.order r.order r.given_order is_word same_kind
exact-order =
    alt (is_word (codes "order"))
    (step (exact-word (codes "order") refl) (λ _. step (exact-word (codes "by") refl) (λ _. exact-order_list)))
    (exact-nothing [])
    (begins_word (codes "order") _)
    (follows_nothing [] (is_word (codes "order")) more_order (word_within (codes "order") (k.Comma ∷ []) (codes "order" ∷ codes "asc" ∷ codes "desc" ∷ []) refl))
    (fewer_within (k.Comma ∷ []) (k.Comma ∷ []) (codes "asc" ∷ codes "desc" ∷ []) (codes "order" ∷ codes "asc" ∷ codes "desc" ∷ []) refl refl)
    (none_within more_order)

abbrev pub more_select : Token → Bool
more_select = one_of (k.Comma ∷ []) (codes "where" ∷ codes "and" ∷ codes "or" ∷ codes "order" ∷ codes "asc" ∷ codes "desc" ∷ [])

filter_within_select : Within more_filter more_select
filter_within_select = fewer_within [] (k.Comma ∷ []) (codes "where" ∷ codes "and" ∷ codes "or" ∷ []) (codes "where" ∷ codes "and" ∷ codes "or" ∷ codes "order" ∷ codes "asc" ∷ codes "desc" ∷ []) refl refl

pub exact-select_sums : Exact g.select_sums r.select_sums more_filter
unfolding g.select_sums r.select_sums is_word same_kind
exact-select_sums =
    seq (exact-plain_list g.aggregate r.aggregate exact-aggregate) (λ sums.
    step (exact-word (codes "from") refl) (λ _. step exact-name (λ table.
    exact-map (λ cond. commands.Select table (items.Sums sums) cond []) exact-filter)))
    (λ sums. follows_word (codes "from") _ (is_mark k.Comma) more_filter (word_no_mark (codes "from") k.Comma refl))

pub exact-select_rows : Exact g.select_rows r.select_rows more_select
unfolding g.select_rows r.select_rows g.order is_word same_kind
exact-select_rows =
    seq exact-columns (λ columns. step (exact-word (codes "from") refl) (λ _. step exact-name (λ table.
    seq exact-filter (λ cond.
    exact-within more_order more_select (fewer_within (k.Comma ∷ []) (k.Comma ∷ []) (codes "order" ∷ codes "asc" ∷ codes "desc" ∷ []) (codes "where" ∷ codes "and" ∷ codes "or" ∷ codes "order" ∷ codes "asc" ∷ codes "desc" ∷ []) refl refl)
    (exact-map (λ order. commands.Select table columns cond order) exact-order))
    (λ cond. follows_then g.order _ more_filter more_select
    (follows_or _ _ more_filter more_filter
    (follows_word (codes "order") _ more_filter more_filter (word_not (codes "order") [] (codes "where" ∷ codes "and" ∷ codes "or" ∷ []) refl refl))
    (follows_nothing [] more_filter more_filter (λ s h. h)))
    (λ order. follows_nothing _ more_filter more_select filter_within_select)))))
    (λ columns. follows_word (codes "from") _ (is_mark k.Comma) more_select (word_no_mark (codes "from") k.Comma refl))

count_is : Finds (the_word (codes "count")) r.is_aggregate true
unfolding r.is_aggregate
count_is s v h = let e = when_some (is_word (codes "count") s) tt v h in rw e refl

sum_is : Finds (the_word (codes "sum")) r.is_aggregate true
unfolding r.is_aggregate is_word same_kind
sum_is s v h = let e = when_some (is_word (codes "sum") s) tt v h in rw (word_other (codes "sum") (codes "count") refl s e) e

begins-aggregates : Begins g.select_sums r.is_aggregate
unfolding g.select_sums g.comma_list g.aggregate g.word
begins-aggregates =
    begins_then (g.comma_list g.aggregate) _ r.is_aggregate (begins_then g.aggregate _ r.is_aggregate (begins_or _ _ r.is_aggregate
    (begins_then (one (the_word (codes "count"))) _ r.is_aggregate (begins_one (the_word (codes "count")) r.is_aggregate count_is))
    (begins_then (one (the_word (codes "sum"))) _ r.is_aggregate (begins_one (the_word (codes "sum")) r.is_aggregate sum_is))))

star_no_aggregate : Finds (the_mark k.Star) r.is_aggregate false
unfolding r.is_aggregate same_kind
star_no_aggregate s v h = rw (mark_no_word k.Star (codes "count") refl s v h) (mark_no_word k.Star (codes "sum") refl s v h)

no_name_count : is_name (codes "count") ≡ false
unfolding is_name is_reserved
no_name_count = refl

no_name_sum : is_name (codes "sum") ≡ false
unfolding is_name is_reserved
no_name_sum = refl

name_no_aggregate : Finds the_name r.is_aggregate false
unfolding r.is_aggregate
name_no_aggregate s v h =
    let e = when_some (is_a_name s) (folded s) v h in
    rw (name_no_word (codes "count") no_name_count s e) (name_no_word (codes "sum") no_name_sum s e)

columns_no_aggregate : Follows r.is_aggregate g.select_rows more_select
unfolding g.select_rows g.columns g.comma_list
columns_no_aggregate =
    follows_first g.columns _ r.is_aggregate more_select
    (follows_or _ _ r.is_aggregate never (follows_mark k.Star _ r.is_aggregate never star_no_aggregate)
    (follows_first (g.comma_list g.name) _ r.is_aggregate never (follows_name _ r.is_aggregate never name_no_aggregate)))

pub exact-select : Exact g.select r.select more_select
unfolding g.select r.select is_word same_kind
exact-select =
    step (exact-word (codes "select") refl) (λ _.
    alt r.is_aggregate exact-select_sums exact-select_rows begins-aggregates columns_no_aggregate filter_within_select (λ s h. h))

use Rattle.std.proofs.Common.{rules, ◌≡◌, ◌∙◌, Some, None, true, false, ap, sym}
use Rattle.std.specs.Map.{lookup}
use Rattle.std.specs.BTreeMap.{is_at}
use Rattle.std.specs.Ordering.{int_cmp}
use Rattle.std.specs.Option.{option_copied}
use Rattle.tt_value.specs.Order.{row_cmp}
use Rattle.tt_index.specs.Nulls.{is_null_row}
use Rattle.tt_index.specs.Numbers.{with_nulls}
use Rattle.tt_index.specs.Whole.{whole_of}
use Rattle.tt_index.proofs.Wholes.{row_is, row_is_null, look_whole, look_null, look_apart}
use Rattle.tt_index.proofs.numbers.places_of_key.Goals as goal

pub returns-in-Some : goal.returns-in-Some
returns-in-Some c =
    let es = c.args.keys.now.entries in
    let nulls = c.args.nulls.now in
    let found : option_copied c.get.result ≡ lookup (is_at (int_cmp c.in-Some.n.now)) es = search rules in
    let is : whole_of c.args.key.now ≡ Some c.in-Some.n.now = search rules in
    found ∙ sym (look_whole c.in-Some.n.now es nulls) ∙ ap (λ k. lookup (is_at (row_cmp k)) (with_nulls es nulls)) (sym (row_is c.args.key.now c.in-Some.n.now is))

pub returns-then-is_null : goal.returns-then-is_null
returns-then-is_null c =
    let es = c.args.keys.now.entries in
    let nulls = c.args.nulls.now in
    let null : is_null_row c.args.key.now ≡ true = search rules in
    let found : option_copied c.as_ref.result ≡ nulls = search rules in
    found ∙ sym (look_null es nulls) ∙ ap (λ k. lookup (is_at (row_cmp k)) (with_nulls es nulls)) (sym (row_is_null c.args.key.now null))

pub returns-else-is_null : goal.returns-else-is_null
returns-else-is_null c =
    let none : whole_of c.args.key.now ≡ None = search rules in
    let off : is_null_row c.args.key.now ≡ false = search rules in
    sym (look_apart c.args.key.now c.args.keys.now.entries c.args.nulls.now none off)

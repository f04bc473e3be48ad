use Rattle.std.proofs.Common.{rules, ◌≡◌, ◌∙◌, None, true, false, refl, ap, sym}
use Rattle.tt_value.specs.Order.{row_cmp}
use Rattle.tt_index.specs.Rows.{changed}
use Rattle.tt_index.specs.Indexes.{without_place}
use Rattle.tt_index.specs.Nulls.{is_null_row}
use Rattle.tt_index.specs.Numbers.{with_nulls}
use Rattle.tt_index.specs.Whole.{whole_of}
use Rattle.tt_index.proofs.Changes.{changed_missing}
use Rattle.tt_index.proofs.Wholes.{row_is, row_is_null, changed_whole, changed_null, look_apart}
use Rattle.tt_index.proofs.numbers.Numbers.drop_entry.Goals as goal

pub returns-in-Some : goal.returns-in-Some
returns-in-Some c =
    let n = c.self.inside in
    let key : c.args.key.now ≡ _ = row_is c.args.key.now c.in-Some.n.now (search rules) in
    ap (λ es. with_nulls es n.nulls) c.drop_whole.ensures
    ∙ sym (changed_whole (without_place c.args.place) c.in-Some.n.now n.keys.entries n.nulls)
    ∙ ap (λ k. changed row_cmp (without_place c.args.place) k (with_nulls n.keys.entries n.nulls)) (sym key)
    ∙ ap (changed row_cmp (without_place c.args.place) c.args.key.now) c.self.view_is

pub returns-then-is_null : goal.returns-then-is_null
returns-then-is_null c =
    let n = c.self.inside in
    let null : is_null_row c.args.key.now ≡ true = search rules in
    ap (with_nulls n.keys.entries) c.drop_null.ensures
    ∙ sym (changed_null (without_place c.args.place) n.keys.entries n.nulls)
    ∙ ap (λ k. changed row_cmp (without_place c.args.place) k (with_nulls n.keys.entries n.nulls)) (sym (row_is_null c.args.key.now null))
    ∙ ap (changed row_cmp (without_place c.args.place) c.args.key.now) c.self.view_is

pub returns-else-is_null : goal.returns-else-is_null
returns-else-is_null c =
    let n = c.self.inside in
    let none : whole_of c.args.key.now ≡ None = search rules in
    let off : is_null_row c.args.key.now ≡ false = search rules in
    sym c.self.view_is
    ∙ sym (changed_missing row_cmp (without_place c.args.place) c.args.key.now (with_nulls n.keys.entries n.nulls) (look_apart c.args.key.now n.keys.entries n.nulls none off) refl)
    ∙ ap (changed row_cmp (without_place c.args.place) c.args.key.now) c.self.view_is

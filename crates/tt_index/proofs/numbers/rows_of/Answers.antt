use Rattle.std.proofs.Common.{rules, ◌≡◌, [], ◌∷◌, ◌++◌, List, ℕ, ℤ, ap, sym, ◌∙◌, subst}
use Rattle.std.specs.List.Sorted.{IsStrictlySortedBy}
use Rattle.std.specs.Map.{keys_of}
use Rattle.std.specs.BTreeMap.{insert_entry}
use Rattle.std.specs.Ordering.{int_cmp}
use Rattle.tt_value.specs.Order.{row_cmp}
use Rattle.tt_index.specs.Numbers.{as_rows}
use Rattle.tt_index.specs.Whole.{whole_row}
use Rattle.tt_index.proofs.Wholes.{put_next, behind_none}
use Rattle.tt_index.proofs.numbers.rows_of.Goals as goal

pub keys-preserved : goal.keys-preserved
keys-preserved c =
    let n = c.in-Some.key.now in
    let ps = c.in-Some.places.now in
    let all = c.iter-left.result in
    let left = c.next.new.self in
    let step : c.keys.left ≡ (n, ps) ∷ left = search rules in
    let put : c.put_copy.new.rows.entries ≡ insert_entry row_cmp c.keys.rows.entries (whole_row n) ps = search rules in
    let P : List (ℤ × List ℕ) → Type 0 = λ es. c.keys.rows.entries ++ as_rows es ≡ as_rows all in
    let ascends : IsStrictlySortedBy int_cmp (keys_of all) = search rules in
    ap (λ rows. rows ++ as_rows left) put ∙ put_next all left c.keys.rows.entries n ps ascends (subst P step c.keys.invariant)

pub returns : goal.returns
returns c =
    let none : c.keys.left ≡ [] = search rules in
    let all : c.iter-left.result ≡ c.args.keys.now.entries = search rules in
    sym (behind_none c.keys.rows.entries)
    ∙ ap (λ es. c.keys.rows.entries ++ as_rows es) (sym none)
    ∙ c.keys.invariant
    ∙ ap as_rows all

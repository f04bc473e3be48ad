use Rattle.std.proofs.Common.{◌≡◌, ◌+◌, ◌-◌, ◌*◌, ◌++◌, ℕ, List, ap₂, take, drop, arith}
use Rattle.tt_cells.specs.Limits.{page_size}
use Rattle.tt_cells.proofs.copies.put.Goals as goal

pub returns-clause-bytes : goal.returns-clause-bytes
returns-clause-bytes c =
    let start = page_size * c.args.at in
    let width : (start + page_size) - start ≡ page_size = omega arith in
    ap₂ (λ (xs : List ℕ) (k : ℕ). take start c.args.bytes.now ++ (xs ++ drop k (drop start c.args.bytes.now))) c.copy_from_slice.ensures.after width

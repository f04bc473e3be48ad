use Rattle.std.proofs.Common.{◌∙◌, sym, subst, take, drop, arith}
use Rattle.tt_image.specs.Pages.{AreFrom}
use Rattle.tt_image.proofs.RunLemmas.{run_more, run_of_one}
use Rattle.tt_image.proofs.pages.run_length.Goals as goal

pub loop-count-init : goal.loop-count-init
loop-count-init c =
    let copies = c.args.copies.now.copies in
    subst (λ page. AreFrom page (take 1 (drop c.args.from copies))) (sym c.page-first.ensures) (run_of_one copies c.args.from (omega (arith, c.requires.some, c.requires.end)))

pub loop-count-preserved : goal.loop-count-preserved
loop-count-preserved c =
    let count = c.loop-count.count in
    run_more c.args.copies.now.copies c.page-first.result c.args.from count (omega (arith, c.requires.end, c.loop-count-test.true)) c.loop-count.invariant (sym c.page.ensures ∙ c.if-page-first.false)

use Rattle.std.proofs.Common.{◌≡◌, ◌∙◌, ℕ, List, take, drop, slice_index, ap₂, arith}
use Rattle.std.proofs.lemmas.Result.{on_ok_weaker}
use Rattle.tt_disk.specs.Volume.{written}
use Rattle.tt_cells.specs.Copies.{pages_of}
use Rattle.tt_image.specs.Head.{page_start}
use Rattle.tt_image.proofs.WriteLemmas.{still_shut}
use Rattle.tt_image.proofs.RunLemmas.{run_of_whole, run_written}
use Rattle.tt_image.proofs.pages.write_run.Goals as goal

pub returns-clause-written : goal.returns-clause-written
returns-clause-written g c told =
    let copies = c.args.copies.now.copies in
    let run = take c.args.count (drop c.args.from copies) in
    let page = slice_index (pages_of copies) c.args.from in
    let file = g.V.Volume.now c.args.volume.now c.args.name in
    let whole = run_of_whole copies c.args.from c.args.count c.requires.whole in
    let starts : c.start_of.result ≡ page_start page = c.start_of.ensures ∙ (λ i. page_start (c.page.ensures i)) in
    on_ok_weaker c.write_at.result
    (λ is. is ∙ ap₂ (λ (at : ℕ) (bytes : List ℕ). written at bytes file) starts c.bytes_of_run.ensures ∙ run_written page run file whole c.requires.run (c.requires.within told)) (c.write_at.ensures.written told)

pub returns-clause-shut : goal.returns-clause-shut
returns-clause-shut g c told = record {
  each = λ o left.
      let from = (c.write_at.ensures.steps told).crash o left in
      still_shut _ _ from.0 o (omega (arith, c.start_of.ensures)) ((c.requires.shut told).each from.0 from.1) from.2;
}

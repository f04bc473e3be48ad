use Rattle.std.proofs.Common.{◌≡◌, ◌++◌, [], ◌∷◌, sym, ◌∙◌, ap, subst, arith, take, ◌+◌}
use Rattle.std.proofs.lemmas.Grind.{common_steps}
use Rattle.tt_disk.specs.Steps.{contents}
use Rattle.tt_disk.specs.Leave.{each_contents, AreLeft, least_of}
use Rattle.tt_disk.proofs.Leave.{left_more, contents_more}
use Rattle.tt_disk.proofs.memory.leave.left_files.Goals as goal

pub loop-i-preserved : goal.loop-i-preserved
loop-i-preserved c =
    let pushed : c.push.new.self.items ≡ c.loop-i.left.items ++ c.in_ok-left_file.field-0 ∷ [] = grind (arith, common_steps) in
    record {
      left = subst (λ l. AreLeft (take (c.loop-i.i + 1) c.args.files.now) l) (sym pushed)
          (left_more c.args.files.now c.loop-i.left.items c.loop-i.i c.index-files-i.result c.in_ok-left_file.field-0 c.loop-i-test.true c.index-files-i.is c.loop-i.invariant.left c.in_ok-left_file.ensures.name c.in_ok-left_file.ensures.left c.in_ok-left_file.ensures.settled);
      least = λ none. ap each_contents pushed
          ∙ contents_more least_of c.args.files.now c.loop-i.left.items c.loop-i.i c.index-files-i.result c.in_ok-left_file.field-0 c.loop-i-test.true c.index-files-i.is (c.loop-i.invariant.least none) (c.in_ok-left_file.ensures.least none);
      as_read = λ one. ap each_contents pushed
          ∙ contents_more (λ file. contents file.bytes) c.args.files.now c.loop-i.left.items c.loop-i.i c.index-files-i.result c.in_ok-left_file.field-0 c.loop-i-test.true c.index-files-i.is (c.loop-i.invariant.as_read one) (c.in_ok-left_file.ensures.as_read one);
    }

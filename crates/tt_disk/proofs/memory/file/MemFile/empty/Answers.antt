use Rattle.std.proofs.Common.{◌≡◌, ◌++◌, [], ◌∷◌, inr, refl, arith}
use Rattle.std.proofs.lemmas.Grind.{common_steps}
use Rattle.tt_disk.specs.declared.memory.file.Step.TheVariants.{Create}
use Rattle.tt_disk.specs.Steps.{contents}
use Rattle.tt_disk.proofs.File.{half_done, noted, reached, led_on, led_still}
use Rattle.tt_disk.proofs.memory.file.MemFile.empty.Goals as goal

pub returns-then-is_err-clause-steps : goal.returns-then-is_err-clause-steps
returns-then-is_err-clause-steps c = half_done Create _ _ _ refl refl c.push.ensures.items refl

pub returns-then-fails-clause-steps : goal.returns-then-fails-clause-steps
returns-then-fails-clause-steps c = half_done Create _ _ _ refl refl c.push.ensures.items refl

pub returns-then-fails-clause-reaches : goal.returns-then-fails-clause-reaches
returns-then-fails-clause-reaches c =
    let pushed : c.push.new.self.items ≡ c.args.self.now.steps.items ++ Create ∷ [] = grind (arith, common_steps) in
    reached Create _ _ refl pushed

pub returns-clause-steps : goal.returns-clause-steps
returns-clause-steps c =
    let pushed : c.push.new.self.items ≡ c.args.self.now.steps.items ++ Create ∷ [] = grind (arith, common_steps) in
    noted Create _ _ refl refl pushed (inr ([], grind (arith, common_steps), omega arith))

pub returns-clause-reaches : goal.returns-clause-reaches
returns-clause-reaches c =
    let pushed : c.push.new.self.items ≡ c.args.self.now.steps.items ++ Create ∷ [] = grind (arith, common_steps) in
    reached Create _ _ refl pushed

pub invariant_of-self-then-fails : goal.invariant_of-self-then-fails
invariant_of-self-then-fails c = record { led = led_still Create c.args.self.now.steps.items _ (contents c.args.self.now.settled) (contents c.args.self.now.bytes) _ c.push.ensures.items c.args.self.now.led }

pub invariant_of-self-2 : goal.invariant_of-self-2
invariant_of-self-2 c =
    let pushed : c.push.new.self.items ≡ c.args.self.now.steps.items ++ Create ∷ [] = grind (arith, common_steps) in
    record { led = led_on Create c.args.self.now.steps.items _ (contents c.args.self.now.settled) (contents c.args.self.now.bytes) _ pushed (inr ([], grind (arith, common_steps), omega arith)) c.args.self.now.led }

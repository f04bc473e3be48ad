use Rattle.std.proofs.Common.{◌≡◌, ◌++◌, [], ◌∷◌, refl, arith, length}
use Rattle.std.proofs.lemmas.Grind.{common_steps}
use Rattle.tt_disk.specs.declared.memory.file.Step.TheVariants.{Write}
use Rattle.tt_disk.specs.Steps.{contents}
use Rattle.tt_disk.proofs.File.{half_done, noted, reached, led_on, led_still, if_noted, torn_result}
use Rattle.tt_disk.proofs.memory.file.MemFile.write_at.Goals as goal

pub returns-then-is_err-clause-steps : goal.returns-then-is_err-clause-steps
returns-then-is_err-clause-steps c = half_done (Write c.args.at (length c.args.bytes.now)) _ _ _ refl refl c.push.ensures.items refl

pub returns-then-fails-clause-steps : goal.returns-then-fails-clause-steps
returns-then-fails-clause-steps c = half_done (Write c.args.at (length c.args.bytes.now)) _ _ _ refl refl c.push.ensures.items refl

pub returns-then-fails-clause-reaches : goal.returns-then-fails-clause-reaches
returns-then-fails-clause-reaches c =
    let pushed : c.push.new.self.items ≡ c.args.self.now.steps.items ++ (Write c.args.at (length c.args.bytes.now)) ∷ [] = grind (arith, common_steps) in
    reached (Write c.args.at (length c.args.bytes.now)) _ _ refl pushed

pub returns-in-Some-clause-steps : goal.returns-in-Some-clause-steps
returns-in-Some-clause-steps c =
    let pushed : c.push.new.self.items ≡ c.args.self.now.steps.items ++ (Write c.args.at (length c.args.bytes.now)) ∷ [] = grind (arith, common_steps) in
    noted (Write c.args.at (length c.args.bytes.now)) _ _ refl refl pushed (torn_result c.overwrite.result c.args.at c.args.bytes.now _ _ _ c.in-Some.is c.requires.within c.overwrite.ensures.ok c.overwrite.ensures.err)

pub returns-in-Some-clause-reaches : goal.returns-in-Some-clause-reaches
returns-in-Some-clause-reaches c =
    let pushed : c.push.new.self.items ≡ c.args.self.now.steps.items ++ (Write c.args.at (length c.args.bytes.now)) ∷ [] = grind (arith, common_steps) in
    if_noted _ (reached (Write c.args.at (length c.args.bytes.now)) _ _ refl pushed)

pub invariant_of-self-then-fails : goal.invariant_of-self-then-fails
invariant_of-self-then-fails c = record { led = led_still (Write c.args.at (length c.args.bytes.now)) c.args.self.now.steps.items _ (contents c.args.self.now.settled) (contents c.args.self.now.bytes) _ c.push.ensures.items c.args.self.now.led }

pub invariant_of-self-in-Some : goal.invariant_of-self-in-Some
invariant_of-self-in-Some c =
    let pushed : c.push.new.self.items ≡ c.args.self.now.steps.items ++ (Write c.args.at (length c.args.bytes.now)) ∷ [] = grind (arith, common_steps) in
    record { led = led_on (Write c.args.at (length c.args.bytes.now)) c.args.self.now.steps.items _ (contents c.args.self.now.settled) (contents c.args.self.now.bytes) _ pushed (torn_result c.overwrite.result c.args.at c.args.bytes.now _ _ _ c.in-Some.is c.requires.within c.overwrite.ensures.ok c.overwrite.ensures.err) c.args.self.now.led }

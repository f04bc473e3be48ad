use Rattle.std.proofs.Common.{◌≤◌, sym, ◌∙◌, ap, subst, length, Some, arith}
use Rattle.std.specs.Prelude.{IsSome}
use Rattle.tt_disk.specs.Volume.{size_of, Gives}
use Rattle.tt_disk.specs.Steps.{contents}
use Rattle.tt_disk.proofs.Files.{now_index_or}
use Rattle.tt_disk.proofs.memory.files.read_file.Goals as goal

pub read_content-requires : goal.read_content-requires
read_content-requires c =
    let is = now_index_or c.args.files.now c.args.name c.in-Some.i c.in-Some.ensures c.index-files-i.result ∙ ap contents c.in-Some-bytes.is in
    let within = subst (λ o. c.args.at ≤ size_of o) is c.requires.within in
    omega (arith, within, ap length c.deref.ensures.value)

pub returns-in-Some-bytes-clause-bytes : goal.returns-in-Some-bytes-clause-bytes
returns-in-Some-bytes-clause-bytes c =
    let is = now_index_or c.args.files.now c.args.name c.in-Some.i c.in-Some.ensures c.index-files-i.result ∙ ap contents c.in-Some-bytes.is in
    subst (λ o. Gives o c.args.at c.read_content.new.buf c.read_content.result) (ap (λ l. Some l) c.deref.ensures.value ∙ sym is) c.read_content.ensures.bytes

pub returns-in-None-bytes-clause-unplanned : goal.returns-in-None-bytes-clause-unplanned
returns-in-None-bytes-clause-unplanned c fine =
    let is = now_index_or c.args.files.now c.args.name c.in-Some.i c.in-Some.ensures c.index-files-i.result ∙ ap contents c.in-None-bytes.is in
    subst (λ o. IsSome o) is c.requires.there

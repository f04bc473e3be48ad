use Rattle.std.proofs.Common.{◌≡◌, sym, ◌∙◌, ap, length, Some, rules}
use Rattle.std.specs.Prelude.{option_map}
use Rattle.tt_disk.specs.Steps.{contents}
use Rattle.tt_disk.proofs.Files.{now_index_or}
use Rattle.tt_disk.proofs.memory.files.length_of.Goals as goal

pub returns-in-Some-bytes : goal.returns-in-Some-bytes
returns-in-Some-bytes c =
    let counted : c.len.result ≡ length c.in-Some-bytes.content.items = search rules in
    ap (λ n. Some n) counted ∙ sym (ap (option_map length) (now_index_or c.args.files.now c.args.name c.in-Some.i c.in-Some.ensures c.index-files-i.result ∙ ap contents c.in-Some-bytes.is))

pub returns-in-None-bytes : goal.returns-in-None-bytes
returns-in-None-bytes c =
    sym (ap (option_map length) (now_index_or c.args.files.now c.args.name c.in-Some.i c.in-Some.ensures c.index-files-i.result ∙ ap contents c.in-None-bytes.is))

use Rattle.std.proofs.Common.{◌≡◌, ◌≤◌, ◌+◌, ◌++◌, ℕ, List, length, take, sym, ap, ◌∙◌, arith, append_assoc, length-append}
use Rattle.std.proofs.lemmas.List.{take_at, length-take}
use Rattle.tt_record.specs.Entry.{entry_bytes}
use Rattle.tt_log.proofs.log.append_entry_bytes.Goals as goal

behind : (used n : ℕ) (old new post bytes rest : List ℕ) → used ≤ length old → new ≡ bytes ++ rest → n ≡ length bytes → take (used + n) (take used old ++ (new ++ post)) ≡ take used old ++ bytes
behind used n old new post bytes rest le is long =
    ap (λ (l : List ℕ). take (used + n) (take used old ++ l)) (ap (λ (l : List ℕ). l ++ post) is ∙ append_assoc bytes rest post)
    ∙ ap (λ (l : List ℕ). take (used + n) l) (sym (append_assoc (take used old) bytes (rest ++ post)))
    ∙ take_at (take used old ++ bytes) (rest ++ post) (used + n) (omega (arith, length-append (take used old) bytes, length-take used old, le, long))

pub returns-clause-bytes : goal.returns-clause-bytes
returns-clause-bytes c =
    behind c.args.used c.write_entry.result c.args.buffer.now c.write_entry.new.out _ (entry_bytes c.args.entry.now) _ (omega (arith, c.requires.room)) c.write_entry.ensures.bytes c.write_entry.ensures.length

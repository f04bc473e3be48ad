use Rattle.tt_record.specs.BodyLaws.{entries_bad}
use Rattle.std.proofs.Common.{◌≡◌, ◌∙◌, ◌+◌, ◌≤◌, if◌then◌else◌, ℕ, length, drop, inl, inr, sym, ap, subst, arith, Some, true, length-drop}
use Rattle.tt_record.specs.declared.entry.Entry.{Entry}
use Rattle.tt_record.specs.Read.{entry_at}
use Rattle.tt_record.specs.Entry.{length_of}
use Rattle.tt_log.specs.Body.{SoFar, body_in, joined}
use Rattle.tt_log.specs.Walk.{is_switch, switches_to}
use Rattle.tt_log.specs.declared.body.Body.TheVariants.{NextFile, Bad}
use Rattle.tt_log.proofs.BodyParts.{next_one, not_alone, alone, not_switch, one_switch}
use Rattle.tt_log.proofs.body.read_step.Goals as goal

pub returns-in_default : goal.returns-in_default
returns-in_default c = sym (ap (body_in c.args.number) (c.requires.so_far.is ∙ ap (joined c.requires.so_far.es) (entries_bad (drop c.args.at c.args.bytes.now) (omega (arith, length-drop c.args.at c.args.bytes.now)) (sym c.in_ok-entry.ensures.first ∙ c.in_default.is))))

pub returns-in_default-next_file_of : goal.returns-in_default-next_file_of
returns-in_default-next_file_of c =
    let first : entry_at (drop c.args.at c.args.bytes.now) ≡ Some (c.in-Some.entry, c.in-Some.n) = sym c.in_ok-entry.ensures.first ∙ c.in-Some.is in
    let long : c.in-Some.n ≡ length_of c.in-Some.entry = rw c.in-Some.is at c.in_ok-entry.ensures.long in
    let within : (1 ≤ c.in-Some.n) × (c.args.at + c.in-Some.n ≤ length c.args.bytes.now) = rw c.in-Some.is at c.in_ok-entry.ensures.within in (
      omega (arith, within.0),
      within.1,
      next_one c.args.bytes.now c.args.at c.in-Some.n c.in-Some.entry c.requires.so_far first long within.0 (not_switch c.in-Some.entry (sym c.next_file_of.ensures ∙ c.in_default-next_file_of.is)),
    )

pub returns-then-at-gt0 : goal.returns-then-at-gt0
returns-then-at-gt0 c =
    let first : entry_at (drop c.args.at c.args.bytes.now) ≡ Some (c.in-Some.entry, c.in-Some.n) = sym c.in_ok-entry.ensures.first ∙ c.in-Some.is in
    let one : is_switch c.in-Some.entry ≡ true = ap is_switch (one_switch c.in-Some.entry c.in-Some-next_file_of.file (sym c.next_file_of.ensures ∙ c.in-Some-next_file_of.is)) in
    sym (not_alone c.args.number c.args.bytes.now c.args.at c.in-Some.n c.in-Some.entry c.requires.so_far first one (inl c.if-at-gt0.true))

pub returns-then-n-bytes : goal.returns-then-n-bytes
returns-then-n-bytes c =
    let first : entry_at (drop c.args.at c.args.bytes.now) ≡ Some (c.in-Some.entry, c.in-Some.n) = sym c.in_ok-entry.ensures.first ∙ c.in-Some.is in
    let one : is_switch c.in-Some.entry ≡ true = ap is_switch (one_switch c.in-Some.entry c.in-Some-next_file_of.file (sym c.next_file_of.ensures ∙ c.in-Some-next_file_of.is)) in
    sym (not_alone c.args.number c.args.bytes.now c.args.at c.in-Some.n c.in-Some.entry c.requires.so_far first one (inr (omega (arith, c.if-at-gt0.false, c.if-n-bytes.true))))

pub returns : goal.returns
returns c =
    let is = one_switch c.in-Some.entry c.in-Some-next_file_of.file (sym c.next_file_of.ensures ∙ c.in-Some-next_file_of.is) in
    let zero_at : c.args.at ≡ 0 = omega (arith, c.if-at-gt0.false) in
    let so_far : SoFar c.args.bytes.now 0 = subst (λ (k : ℕ). SoFar c.args.bytes.now k) zero_at c.requires.so_far in
    let first : entry_at (drop 0 c.args.bytes.now) ≡ Some (c.in-Some.entry, c.in-Some.n) = ap (λ (k : ℕ). entry_at (drop k c.args.bytes.now)) (sym zero_at) ∙ sym c.in_ok-entry.ensures.first ∙ c.in-Some.is in
    c.classify_switch.ensures ∙ ap (λ (e : Entry). if switches_to c.args.number e then NextFile else Bad) (sym is)
    ∙ sym (alone c.args.number c.args.bytes.now c.in-Some.n c.in-Some.entry so_far first (ap is_switch is) c.if-n-bytes.false)

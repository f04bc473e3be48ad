use Rattle.std.proofs.Common.{◌≡◌, ◌∙◌, None, ap, sym}
use Rattle.std.specs.List.{list_any}
use Rattle.std.specs.Map.{lookup}
use Rattle.std.proofs.lemmas.Map.Entries.{place_from_lookup}
use Rattle.tt_txn.specs.Locks.{Holdings, names_of, is_session}
use Rattle.tt_txn.specs.Same.{same_name}
use Rattle.tt_txn.proofs.Holdings.{names_of_map, none_holds, holder_found}
use Rattle.tt_txn.proofs.locks.Locks.holder.Goals as goal

pub returns-in_err-held : goal.returns-in_err-held
returns-in_err-held c =
    let es = c.self.inside.names.entries in
    let p = same_name c.args.name.now in
    let none : lookup p es ≡ None = sym c.in_err-held.ensures.value in
    λ s.
    ap (λ (hs : Holdings). list_any p (names_of s hs)) (sym c.self.view_is)
    ∙ ap (list_any p) (names_of_map es c.self.inside.slots s)
    ∙ none_holds c.self.inside.slots es c.self.invariant.0 p none s
    ∙ sym (ap (is_session s) c.from_residual.ensures)

pub returns : goal.returns
returns c =
    let es = c.self.inside.names.entries in
    let p = same_name c.args.name.now in
    let (i, k, at, same) = place_from_lookup p es c.in_ok-held.held.now (sym c.in_ok-held.ensures.value) in
    λ s.
    ap (λ (hs : Holdings). list_any p (names_of s hs)) (sym c.self.view_is)
    ∙ ap (list_any p) (names_of_map es c.self.inside.slots s)
    ∙ holder_found c.self.inside.slots es c.self.invariant.0 c.self.invariant.1 c.args.name.now i k c.in_ok-held.held.now at same s

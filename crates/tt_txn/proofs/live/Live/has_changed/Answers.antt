use Rattle.std.proofs.Common.{◌≡◌, ◌∙◌, ◌||◌, Bool, true, false, List, [], ◌∷◌, refl, sym, ap, reverse}
use Rattle.std.specs.List.{list_any}
use Rattle.std.proofs.lemmas.List.{reverse-append}
use Rattle.std.proofs.lemmas.List.Folds.{list_any-append}
use Rattle.tt_txn.specs.declared.noted.Noted.{Noted}
use Rattle.tt_txn.specs.Live.{LiveTransaction, has_changed}
use Rattle.tt_txn.specs.Noted.{is_on_table}
use Rattle.tt_txn.proofs.live.Live.has_changed.Goals as goal

either : (a b : Bool) → (a || (b || false)) ≡ (b || a)
either true true = refl
either true false = refl
either false true = refl
either false false = refl

any_turned : (p : Noted → Bool) (xs : List Noted) → list_any p (reverse xs) ≡ list_any p xs
any_turned p [] = refl
any_turned p (x ∷ xs) =
    ap (list_any p) (reverse-append (x ∷ []) xs)
    ∙ list_any-append p (reverse xs) (x ∷ [])
    ∙ either (list_any p (reverse xs)) (p x)
    ∙ ap (λ b. p x || b) (any_turned p xs)

pub returns : goal.returns
returns c =
    c.any_on.ensures
    ∙ ap (list_any (is_on_table c.args.table)) c.as_slice.ensures.value
    ∙ sym (any_turned (is_on_table c.args.table) c.self.inside.noted.items)
    ∙ ap (λ (l : LiveTransaction). has_changed c.args.table l) c.self.view_is

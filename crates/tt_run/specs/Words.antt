-- The forms of the words.
use Rattle.std.specs.Prelude.{ℕ, ◌==◌, Bool, false, if◌then◌else◌, List, [], ◌∷◌, Option, Some, None, bytes_eq, codes}
use Rattle.tt_run.specs.declared.words.Action.{Action}
use Rattle.tt_run.specs.declared.words.Action.TheVariants.{Create, Run}

abbrev pub action_of : List ℕ → Option Action
action_of word = if bytes_eq word (codes "create") then Some Create else if bytes_eq word (codes "run") then Some Run else None

abbrev pub begins_with_hyphen : List ℕ → Bool
begins_with_hyphen [] = false
begins_with_hyphen (byte ∷ bytes) = byte == 45

-- `create DIR` and `run DIR`; no word begins with a hyphen
abbrev pub form_of : List (List ℕ) → Option Action
form_of (word ∷ folder ∷ []) = if begins_with_hyphen folder then None else action_of word
form_of words = None

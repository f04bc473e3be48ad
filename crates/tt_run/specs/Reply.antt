-- The text of a reply.
use Rattle.std.specs.Prelude.{ℕ, List, [], ◌∷◌, ◌++◌, codes, decimal, Option, Some, None}
use Rattle.tt_value.specs.Refusal.{number_of, name_of, field_of}
use Rattle.tt_value.specs.declared.refusal.Refusal.{Refusal}
use Rattle.tt_value.specs.declared.reply.Reply.{Reply}
use Rattle.tt_value.specs.declared.reply.Reply.TheVariants.{Done, Changed, Positions, Refused}
use Rattle.tt_value.specs.declared.position.Position.{Position}

-- a blank, a field's name, a blank and its number
abbrev pub field_words : Option (List ℕ × ℕ) → List ℕ
field_words None = []
field_words (Some field) = 32 ∷ (field.0 ++ (32 ∷ decimal field.1))

-- a position: its file, and its offset in it
abbrev pub place_words : Position → List ℕ
place_words at = decimal at.file ++ (47 ∷ decimal at.offset)

-- a refusal: its number, its name, and its field where it has one
abbrev pub refusal_words : Refusal → List ℕ
refusal_words refusal = codes "error " ++ (decimal (number_of refusal) ++ (32 ∷ (name_of refusal ++ field_words (field_of refusal))))

abbrev pub words_of : Reply → List ℕ
words_of Done = codes "ok"
words_of (Changed n) = codes "changed " ++ decimal n
words_of (Positions write force hold) = codes "write " ++ (place_words write ++ (codes " force " ++ (place_words force ++ (codes " hold " ++ place_words hold))))
words_of (Refused refusal) = refusal_words refusal
words_of _ = []

-- its line, with the line feed
abbrev pub text_of : Reply → List ℕ
text_of reply = words_of reply ++ 10 ∷ []

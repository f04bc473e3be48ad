-- The test for UTF-8 and the fact.
use Rattle.std.proofs.Common.{◌≡◌, ℕ, List, Bool, true, false, String, Vec, refl, subst}
use Rattle.std.specs.Str.{is_utf8, IsUtf8}
use Rattle.std.specs.String.{string_vec}
use Rattle.std.proofs.lemmas.Str.{IsUtf8-from_is_utf8, is_utf8-from_IsUtf8, IsUtf8-string_bytes}

pub passes : (bytes : List ℕ) → IsUtf8 bytes → is_utf8 bytes ≡ true
passes bytes h = is_utf8-from_IsUtf8 bytes h

pub fails : (bytes : List ℕ) → ¬ IsUtf8 bytes → is_utf8 bytes ≡ false
fails bytes no_text = by (is_utf8 bytes) (λ h. no_text (IsUtf8-from_is_utf8 bytes h))
  where
    by : (b : Bool) → ¬ (b ≡ true) → b ≡ false
    by true f = absurd (f refl)
    by false f = refl

-- a text's bytes, told as a vector, are UTF-8
pub in_vec : {Z : Type 0} (text : String Z) (bytes : Vec ℕ Z) → string_vec text ≡ bytes → IsUtf8 bytes.items
in_vec {Z} text bytes is = subst (λ (v : Vec ℕ Z). IsUtf8 v.items) is (IsUtf8-string_bytes text)

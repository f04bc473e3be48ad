-- A grammar says of a list of symbols and a value whether the list is a spelling of the value.
use Rattle.std.specs.Prelude.{◌≡◌, List, [], ◌∷◌, ◌++◌, Option, Some, ◌⊎◌}

abbrev pub Grammar : Type 0 → Type 0 → Type 1
Grammar X A = List X → A → Type 0

-- no symbol at all
abbrev pub nothing : {X A : Type 0} → A → Grammar X A
nothing value ts a = (ts ≡ []) × (a ≡ value)

-- one symbol, which means what the test finds in it
abbrev pub one : {X A : Type 0} → (X → Option A) → Grammar X A
one {X} test ts a = (s : X) × (ts ≡ s ∷ []) × (test s ≡ Some a)

-- a spelling of the first, and behind it one of the second
infixl 10 ◌>>=◌
abbrev pub ◌>>=◌ : {X A B : Type 0} → Grammar X A → (A → Grammar X B) → Grammar X B
◌>>=◌ {X} {A} g k ts b = (front : List X) × (back : List X) × (a : A) × (ts ≡ front ++ back) × g front a × k a back b

infixl 10 ◌>>◌
abbrev pub ◌>>◌ : {X A B : Type 0} → Grammar X A → Grammar X B → Grammar X B
◌>>◌ g h = g >>= (λ _. h)

-- the one or the other
infixr 12 ◌or_else◌
abbrev pub ◌or_else◌ : {X A : Type 0} → Grammar X A → Grammar X A → Grammar X A
(g or_else h) ts a = g ts a ⊎ h ts a

-- any number of times, one after another
abbrev pub many : {X A : Type 0} → Grammar X A → Grammar X (List A)
many g ts [] = ts ≡ []
many {X} g ts (v ∷ vs) = (front : List X) × (back : List X) × (ts ≡ front ++ back) × g front v × many g back vs

-- these symbols begin a spelling
abbrev pub CanGoOn : {X A : Type 0} → Grammar X A → List X → Type 0
CanGoOn {X} {A} g front = (tail : List X) × (a : A) × g (front ++ tail) a

-- no spelling begins with these symbols and the next one; where there is no next, they are none
abbrev pub IsEnd : {X A : Type 0} → Grammar X A → List X → List X → Type 0
IsEnd {X} {A} g front [] = ¬ ((a : A) × g front a)
IsEnd g front (s ∷ _) = ¬ CanGoOn g (front ++ s ∷ [])

-- What stands from the first symbol on that no spelling has there: the symbols before it begin a spelling,
-- and with it they don't. Nothing stands there where the symbols end too early.
abbrev pub IsOff : {X A : Type 0} → Grammar X A → List X → List X → Type 0
IsOff {X} g ts behind = (front : List X) × (ts ≡ front ++ behind) × CanGoOn g front × IsEnd g front behind

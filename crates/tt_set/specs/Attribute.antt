-- The attributes of a database: their names, ranges and defaults.
use Rattle.std.specs.Prelude.{ℕ, ◌≤◌, pos, Bool, false, ◌&&◌, ◌==◌, nat_le, List, [], ◌∷◌, codes, length, Option, Some, None, is_some, unwrap_or, option_and_then, option_map, find, Result, Ok, Err, ◌≡◌, ◌≢◌, ◌⊎◌, if◌then◌else◌, IsUtf8}
use Rattle.std.specs.Cmp.Lexicographic.{slice_cmp}
use Rattle.std.specs.Ordering.{nat_cmp}
use Rattle.std.specs.declared.cmp.Ordering.TheVariants.{Greater}
use Rattle.std.specs.Str.{bytes_eq}
use Rattle.toml.specs.Data.{Data, integer, Members, get_member}
use Rattle.toml.specs.Parse.{parse_document}
use Rattle.tt_set.specs.Limits.{off, on, log_file_size_least, log_file_size_most, log_buf_size_least, log_buf_size_most, log_buf_size_default}
use Rattle.tt_set.specs.Limits.{perm_pages_least, perm_pages_most, perm_pages_default, ckpt_pages_least, ckpt_pages_most, ckpt_pages_default, database_least, database_most}
use Rattle.tt_set.specs.declared.attribute.Attribute.{Attribute}
use Rattle.tt_set.specs.declared.settings.Settings.{Settings}
use Rattle.tt_set.specs.declared.settings.SetRefusal.{SetRefusal}
use Rattle.tt_set.specs.declared.settings.SetRefusal.TheVariants.{Bad, NoMemory}

-- an attribute whose values are from least to most, and which has the default where it isn't named
abbrev pub attribute : ℕ → ℕ → ℕ → Attribute
attribute least most default = record { least = least; most = most; default = default }

-- the attributes by their names
abbrev pub attributes : List (List ℕ × Attribute)
attributes =
    (codes "DurableCommits", attribute off on off)
    ∷ (codes "LogFileSize", attribute log_file_size_least log_file_size_most log_file_size_most)
    ∷ (codes "LogBufSize", attribute log_buf_size_least log_buf_size_most log_buf_size_default)
    ∷ (codes "PermPages", attribute perm_pages_least perm_pages_most perm_pages_default)
    ∷ (codes "CkptPages", attribute ckpt_pages_least ckpt_pages_most ckpt_pages_default)
    ∷ (codes "Database", attribute database_least database_most database_least)
    ∷ []

-- the attribute of a name, where there is one
abbrev pub attribute_of : List ℕ → Option Attribute
attribute_of name = option_map (λ row. row.1) (find (λ row. bytes_eq name row.0) attributes)

-- a value as a number, where it is a whole one in the attribute's range
abbrev pub number_of : Attribute → Data → Option ℕ
number_of a (integer (pos n)) = if nat_le a.least n && nat_le n a.most then Some n else None
number_of a _ = None

-- the name is an attribute's, and the value is in its range
abbrev pub is_right : List ℕ → Data → Bool
is_right name value = is_some (option_and_then (λ a. number_of a value) (attribute_of name))

-- the number that the members have under a name for this attribute, or its default
abbrev pub number_in : Members → List ℕ → Attribute → ℕ
number_in ms name a = unwrap_or (option_and_then (number_of a) (get_member name ms)) a.default

-- the value of the attribute of a name (0 where no attribute has it)
abbrev pub value_of : Members → List ℕ → ℕ
value_of ms name = unwrap_or (option_map (number_in ms name) (attribute_of name)) 0

-- the name that a refusal carries, if it has one
abbrev pub IsNamed : List ℕ → SetRefusal → Type 0
IsNamed name (Bad found) = found ≡ name
IsNamed name NoMemory = Unit {0}

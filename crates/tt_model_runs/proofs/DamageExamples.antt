-- Which damage rows are, by computing: a table of a key and a number with one row, and one cell or two that are changed.
use Rattle.std.proofs.Common.{◌≡◌, ℕ, pos, List, [], ◌∷◌, codes, Option, Some, None, refl}
use Rattle.tt_value.specs.Ident.{is_name, is_reserved}
use Rattle.tt_value.specs.declared.value.Value.{Value}
use Rattle.tt_value.specs.declared.value.Value.TheVariants.{Null, Number, Text}
use Rattle.tt_value.specs.declared.value.Cell.{Cell}
use Rattle.tt_value.specs.declared.value.Cell.TheVariants.{Empty, Full}
use Rattle.tt_model.specs.declared.damage.Damage.{Damage}
use Rattle.tt_model.specs.declared.damage.Damage.TheVariants.{BadCatalog, BadRow}
use Rattle.tt_model.specs.Committed.{Cells, no_cells, put}
use Rattle.tt_model.specs.Tables.{catalog_of, rows_of}
use Rattle.tt_model.specs.System.{number}
use Rattle.tt_model.specs.Damage.{first_bad, first_bad_catalog, first_bad_row}

abbrev cell : ℕ → List Value → Cell
cell table values = Full table (record { values = values })

abbrev table_row : ℕ → List ℕ → Cell
table_row id name = cell 1 (number id ∷ Text name ∷ [])

-- A column of table 16: its position, type, size, whether it is required, its key position and its name.
abbrev column_row : ℕ → ℕ → ℕ → ℕ → ℕ → List ℕ → Cell
column_row position kind size required key name =
    cell 2 (number 16 ∷ number position ∷ number kind ∷ number size ∷ number required ∷ number key ∷ Text name ∷ [])

abbrev index_row : ℕ → ℕ → List ℕ → List ℕ → Cell
index_row id unique name positions = cell 3 (number id ∷ number 16 ∷ number unique ∷ Text name ∷ Text positions ∷ [])

abbrev bookmark_row : List ℕ → ℕ → ℕ → ℕ → Cell
bookmark_row name file offset skip = cell 4 (Text name ∷ number file ∷ number offset ∷ number skip ∷ number 0 ∷ number 0 ∷ [])

abbrev subscription_row : List ℕ → ℕ → Cell
subscription_row name table = cell 5 (Text name ∷ number table ∷ number 0 ∷ number 0 ∷ [])

abbrev set_row : ℕ → Cell
set_row set = cell 6 (number set ∷ number 0 ∷ number 0 ∷ [])

abbrev pair : ℕ → ℕ → Cell
pair k v = cell 16 (number k ∷ number v ∷ [])

-- The table in the places 0 to 2, and its row in place 3.
abbrev kv : Cells
kv = put 0 (table_row 16 (codes "kv")) (put 1 (column_row 1 1 0 1 1 (codes "k")) (put 2 (column_row 2 1 0 0 0 (codes "v")) (put 3 (pair 1 10) no_cells)))

abbrev damage : Cells → Option Damage
damage cells = first_bad 8 cells

abbrev with_one : ℕ → Cell → Option Damage
with_one place c = damage (put place c kv)

abbrev with_two : ℕ → Cell → ℕ → Cell → Option Damage
with_two place c other d = damage (put place c (put other d kv))

-- ---- tables and columns

tables_and_columns :
    damage kv
    ∷ with_one 0 Empty
    ∷ with_one 0 (table_row 15 (codes "kv"))
    ∷ with_one 0 (table_row 16 (codes "select"))
    ∷ with_one 0 (table_row 16 (codes "1kv"))
    ∷ with_one 0 (cell 1 (number 16 ∷ Text (codes "kv") ∷ number 1 ∷ []))
    ∷ with_one 0 (cell 1 (Text (codes "kv") ∷ number 16 ∷ []))
    ∷ with_one 1 (column_row 1 9 0 1 1 (codes "k"))
    ∷ with_one 1 (column_row 1 1 1 1 1 (codes "k"))
    ∷ with_one 1 (column_row 1 2 0 1 1 (codes "k"))
    ∷ with_one 1 (column_row 1 3 19 1 1 (codes "k"))
    ∷ with_one 1 (column_row 1 1 0 0 1 (codes "k"))
    ∷ with_one 1 (column_row 1 1 0 2 1 (codes "k"))
    ∷ with_one 2 (column_row 3 1 0 0 0 (codes "v"))
    ∷ with_one 2 (column_row 1 1 0 0 0 (codes "v"))
    ∷ with_one 2 (column_row 2 1 0 0 0 (codes "k"))
    ∷ with_one 1 (column_row 1 1 0 1 0 (codes "k"))
    ∷ with_one 1 (column_row 1 1 0 1 2 (codes "k"))
    ∷ with_one 4 (table_row 17 (codes "kv"))
    ∷ with_one 4 (cell 7 (number 1 ∷ []))
    ∷ []
    ≡ None
    ∷ Some (BadCatalog 1)
    ∷ Some (BadCatalog 0)
    ∷ Some (BadCatalog 0)
    ∷ Some (BadCatalog 0)
    ∷ Some (BadCatalog 0)
    ∷ Some (BadCatalog 0)
    ∷ Some (BadCatalog 1)
    ∷ Some (BadCatalog 1)
    ∷ Some (BadCatalog 1)
    ∷ Some (BadCatalog 1)
    ∷ Some (BadCatalog 1)
    ∷ Some (BadCatalog 1)
    ∷ Some (BadCatalog 0)
    ∷ Some (BadCatalog 0)
    ∷ Some (BadCatalog 0)
    ∷ Some (BadCatalog 0)
    ∷ Some (BadCatalog 0)
    ∷ Some (BadCatalog 4)
    ∷ Some (BadCatalog 4)
    ∷ []
unfolding first_bad_catalog first_bad_row catalog_of rows_of is_name is_reserved
tables_and_columns = refl

-- ---- indexes, bookmarks, subscriptions and sets

other_system_rows :
    with_one 4 (index_row 1 0 (codes "i") (codes "2"))
    ∷ with_one 4 (index_row 1 0 (codes "i") (codes "1,2"))
    ∷ with_one 4 (index_row 1 0 (codes "i") (codes "3"))
    ∷ with_one 4 (index_row 1 0 (codes "i") (codes "02"))
    ∷ with_one 4 (index_row 1 0 (codes "i") (codes "2,"))
    ∷ with_one 4 (index_row 1 0 (codes "i") (codes "2,2"))
    ∷ with_one 4 (index_row 2049 0 (codes "i") (codes "2"))
    ∷ with_two 4 (index_row 1 0 (codes "i") (codes "2")) 5 (index_row 1 0 (codes "j") (codes "2"))
    ∷ with_two 4 (index_row 1 0 (codes "i") (codes "2")) 5 (index_row 2 0 (codes "i") (codes "2"))
    ∷ with_one 4 (cell 3 (number 1 ∷ number 17 ∷ number 0 ∷ Text (codes "i") ∷ Text (codes "1") ∷ []))
    ∷ with_one 4 (bookmark_row (codes "b") 999999 67108864 4294967295)
    ∷ with_one 4 (bookmark_row (codes "b") 1000000 0 0)
    ∷ with_one 4 (bookmark_row (codes "b") 0 67108865 0)
    ∷ with_one 4 (bookmark_row (codes "b") 0 0 4294967296)
    ∷ with_one 4 (subscription_row (codes "b") 16)
    ∷ with_two 4 (subscription_row (codes "b") 16) 5 (bookmark_row (codes "b") 0 0 0)
    ∷ with_two 4 (subscription_row (codes "b") 17) 5 (bookmark_row (codes "b") 0 0 0)
    ∷ with_one 4 (set_row 999)
    ∷ with_one 4 (set_row 1000)
    ∷ with_one 4 (set_row 0)
    ∷ with_two 4 (set_row 1) 6 (set_row 1)
    ∷ []
    ≡ None
    ∷ None
    ∷ Some (BadCatalog 4)
    ∷ Some (BadCatalog 4)
    ∷ Some (BadCatalog 4)
    ∷ Some (BadCatalog 4)
    ∷ Some (BadCatalog 4)
    ∷ Some (BadCatalog 5)
    ∷ Some (BadCatalog 5)
    ∷ Some (BadCatalog 4)
    ∷ None
    ∷ Some (BadCatalog 4)
    ∷ Some (BadCatalog 4)
    ∷ Some (BadCatalog 4)
    ∷ Some (BadCatalog 4)
    ∷ None
    ∷ Some (BadCatalog 4)
    ∷ None
    ∷ Some (BadCatalog 4)
    ∷ Some (BadCatalog 4)
    ∷ Some (BadCatalog 6)
    ∷ []
unfolding first_bad_catalog first_bad_row catalog_of rows_of is_name is_reserved
other_system_rows = refl

-- ---- users' rows

users_rows :
    with_one 3 (cell 17 (number 1 ∷ number 10 ∷ []))
    ∷ with_one 3 (cell 16 (number 1 ∷ []))
    ∷ with_one 3 (cell 16 (number 1 ∷ Text (codes "a") ∷ []))
    ∷ with_one 3 (cell 16 (number 1 ∷ Number 0 (pos 1) ∷ []))
    ∷ with_one 3 (cell 16 (number 1 ∷ Null ∷ []))
    ∷ with_one 3 (cell 16 (Null ∷ number 1 ∷ []))
    ∷ with_one 4 (pair 1 20)
    ∷ with_one 4 (pair 2 10)
    ∷ with_two 4 (pair 2 10) 5 (index_row 1 1 (codes "i") (codes "2"))
    ∷ with_two 4 (pair 2 10) 5 (index_row 1 0 (codes "i") (codes "2"))
    ∷ with_two 4 (cell 16 (number 2 ∷ Null ∷ [])) 5 (index_row 1 1 (codes "i") (codes "2"))
    ∷ with_two 3 (cell 17 (number 1 ∷ number 10 ∷ [])) 6 (cell 7 (number 1 ∷ []))
    ∷ []
    ≡ Some (BadRow 3)
    ∷ Some (BadRow 3)
    ∷ Some (BadRow 3)
    ∷ Some (BadRow 3)
    ∷ None
    ∷ Some (BadRow 3)
    ∷ Some (BadRow 4)
    ∷ None
    ∷ Some (BadRow 4)
    ∷ None
    ∷ None
    ∷ Some (BadCatalog 6)
    ∷ []
unfolding first_bad_catalog first_bad_row catalog_of rows_of is_name is_reserved
users_rows = refl

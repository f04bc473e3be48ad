-- The refusals: their numbers, their names and their fields.
use Rattle.std.specs.Prelude.{ℕ, List, codes, Option, Some, None}
use Rattle.tt_value.specs.declared.refusal.Refusal.{Refusal}
use Rattle.tt_value.specs.declared.refusal.Refusal.TheVariants.{Syntax, NoTable, NoColumn, WrongType, TooWide, DuplicateKey, NullRefused, KeyUpdate, NameThere, NotEmpty, LockConflict, PermFull, InTransaction, CkptOpen, NoBookmark, BookmarkThere, BookmarkBusy, NotSubscribed, NoReader, SetThere, NoSet, NotIncremental, TooMany, OutOfRange, LineTooLong, LogOut, TransactionOpen, NoMemory, NoIndex, NotBuilt}

abbrev pub number_of : Refusal → ℕ
number_of (Syntax at) = 1
number_of NoTable = 2
number_of NoColumn = 3
number_of WrongType = 4
number_of (TooWide bytes) = 5
number_of DuplicateKey = 6
number_of NullRefused = 7
number_of KeyUpdate = 8
number_of NameThere = 9
number_of NotEmpty = 10
number_of (LockConflict holder) = 11
number_of (PermFull cells) = 12
number_of InTransaction = 13
number_of (CkptOpen number) = 14
number_of NoBookmark = 15
number_of BookmarkThere = 16
number_of (BookmarkBusy session) = 17
number_of NotSubscribed = 18
number_of NoReader = 19
number_of SetThere = 20
number_of NoSet = 21
number_of NotIncremental = 22
number_of (TooMany limit) = 23
number_of OutOfRange = 24
number_of LineTooLong = 25
number_of LogOut = 26
number_of (TransactionOpen number) = 27
number_of NoMemory = 28
number_of NoIndex = 29
number_of NotBuilt = 30

abbrev pub name_of : Refusal → List ℕ
name_of (Syntax at) = codes "Syntax"
name_of NoTable = codes "NoTable"
name_of NoColumn = codes "NoColumn"
name_of WrongType = codes "WrongType"
name_of (TooWide bytes) = codes "TooWide"
name_of DuplicateKey = codes "DuplicateKey"
name_of NullRefused = codes "NullRefused"
name_of KeyUpdate = codes "KeyUpdate"
name_of NameThere = codes "NameThere"
name_of NotEmpty = codes "NotEmpty"
name_of (LockConflict holder) = codes "LockConflict"
name_of (PermFull cells) = codes "PermFull"
name_of InTransaction = codes "InTransaction"
name_of (CkptOpen number) = codes "CkptOpen"
name_of NoBookmark = codes "NoBookmark"
name_of BookmarkThere = codes "BookmarkThere"
name_of (BookmarkBusy session) = codes "BookmarkBusy"
name_of NotSubscribed = codes "NotSubscribed"
name_of NoReader = codes "NoReader"
name_of SetThere = codes "SetThere"
name_of NoSet = codes "NoSet"
name_of NotIncremental = codes "NotIncremental"
name_of (TooMany limit) = codes "TooMany"
name_of OutOfRange = codes "OutOfRange"
name_of LineTooLong = codes "LineTooLong"
name_of LogOut = codes "LogOut"
name_of (TransactionOpen number) = codes "TransactionOpen"
name_of NoMemory = codes "NoMemory"
name_of NoIndex = codes "NoIndex"
name_of NotBuilt = codes "NotBuilt"

abbrev pub field_of : Refusal → Option (List ℕ × ℕ)
field_of (Syntax at) = Some (codes "at", at)
field_of (TooWide bytes) = Some (codes "bytes", bytes)
field_of (LockConflict holder) = Some (codes "holder", holder)
field_of (PermFull cells) = Some (codes "cells", cells)
field_of (CkptOpen number) = Some (codes "number", number)
field_of (BookmarkBusy session) = Some (codes "session", session)
field_of (TooMany limit) = Some (codes "limit", limit)
field_of (TransactionOpen number) = Some (codes "number", number)
field_of _ = None

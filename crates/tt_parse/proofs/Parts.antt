-- Reading names, numbers and texts.
use Rattle.std.proofs.Common.{◌≡◌, ℕ, ◌+◌, ◌^◌, ◌≤◌, ◌<◌, min, lit<, Bool, true, false, ◌&&◌, ◌||◌, List, [], ◌∷◌, length, map, Ok, Err, Some, None, Option, refl, ap, arith}
use Rattle.std.specs.Prelude.{nat_le, codes, not, if◌then◌else◌}
use Rattle.std.proofs.lemmas.Bool.{and_parts, leb-true, lt-leb}
use Rattle.std.specs.Char.{to_ascii_lowercase}
use Rattle.std.proofs.lemmas.List.{length-map}
use Rattle.std.specs.Str.{bytes_eq}
use Rattle.tt_value.specs.declared.value.Value.TheVariants as v
use Rattle.tt_parse.specs.declared.cond.Op.{Op}
use Rattle.tt_value.specs.Ident.{is_name}
use Rattle.tt_parse.specs.Reader.{found, next_is}
use Rattle.tt_parse.specs.declared.kind.Kind.{Kind}
use Rattle.tt_parse.specs.declared.kind.Kind.TheVariants as k
use Rattle.tt_parse.specs.Tokens.{Token, same_kind}
use Rattle.tt_parse.specs.Cursor.{next_kind, next_bytes, next_found, past_next}
use Rattle.tt_parse.specs.Symbols.{the_eighteen, the_direction, the_backup_kind, the_bare, is_mark, is_word, is_a_name, the_number, fits, number_value, the_digits, is_between, units, most, decimals, has_dot, the_text, undoubled, inside, the_op, op_of}
use Rattle.tt_parse.specs.Reading as read
use Rattle.tt_parse.specs.Reading.{has_some}
use Rattle.tt_parse.specs.declared.command.BackupKind.{BackupKind}
use Rattle.tt_parse.specs.declared.command.BackupKind.TheVariants as backup
use Rattle.tt_parse.specs.declared.command.Command.{Command}
use Rattle.tt_parse.specs.declared.command.Command.TheVariants as commands
use Rattle.tt_parse.proofs.Cursors.{kind_same}
use Rattle.tt_parse.proofs.Next.{one_no, one_yes}

pub same_le : (u n m : ℕ) → n ≡ min u (2 ^ 63 + 1) → m < 2 ^ 63 + 1 → nat_le u m ≡ nat_le n m
same_le u n m e h = grind arith

pub name_other_kind : (ts : List Token) → same_kind (next_kind ts) k.Word ≡ false → read.name ts ≡ Err ts
unfolding read.name is_a_name
name_other_kind [] h = refl
name_other_kind (s ∷ ts) h = one_no is_a_name (λ bytes. map to_ascii_lowercase bytes) (s ∷ ts) (rw h refl)

pub name_long : (ts : List Token) → same_kind (next_kind ts) k.Word ≡ true → 30 < length (next_bytes ts) → read.name ts ≡ Err ts
unfolding read.name is_a_name is_name
name_long [] h l = refl
name_long (s ∷ ts) h l =
    let long : nat_le (length (map to_ascii_lowercase s.bytes)) 30 ≡ false = lt-leb (length (map to_ascii_lowercase s.bytes)) 30 (omega (arith, length-map s.bytes to_ascii_lowercase)) in
    one_no is_a_name (λ bytes. map to_ascii_lowercase bytes) (s ∷ ts) (rw (h, long) (and_false (nat_le 1 (length (map to_ascii_lowercase s.bytes))) _ _))
  where
    and_false : (a b c : Bool) → (((a && false) && b) && c) ≡ false
    and_false true b c = refl
    and_false false b c = refl

pub name_no : (ts : List Token) → same_kind (next_kind ts) k.Word ≡ true → is_name (map to_ascii_lowercase (next_bytes ts)) ≡ false → read.name ts ≡ Err ts
unfolding read.name is_a_name
name_no [] h e = refl
name_no (s ∷ ts) h e = one_no is_a_name (λ bytes. map to_ascii_lowercase bytes) (s ∷ ts) (rw (h, e) refl)

pub name_yes : (ts : List Token) → same_kind (next_kind ts) k.Word ≡ true → is_name (map to_ascii_lowercase (next_bytes ts)) ≡ true → read.name ts ≡ Ok (map to_ascii_lowercase (next_bytes ts), past_next ts)
unfolding read.name is_a_name same_kind
name_yes [] h e = absurd (let f : false ≡ true = h in cc)
name_yes (s ∷ ts) h e = one_yes is_a_name (λ bytes. map to_ascii_lowercase bytes) (s ∷ ts) (rw (h, e) refl)

-- ---- numbers

pub number_other_kind : (minus : Bool) (ts : List Token) → same_kind (next_kind ts) k.Number ≡ false → read.number minus ts ≡ Err ts
unfolding read.number the_number
number_other_kind minus [] h = refl
number_other_kind minus (s ∷ ts) h = one_no (λ t. same_kind t.kind k.Number && fits minus t.bytes) (number_value minus) (s ∷ ts) (rw h refl)

pub number_no : (minus : Bool) (ts : List Token) → same_kind (next_kind ts) k.Number ≡ true → fits minus (next_bytes ts) ≡ false → read.number minus ts ≡ Err ts
unfolding read.number the_number
number_no minus [] h e = refl
number_no minus (s ∷ ts) h e = one_no (λ t. same_kind t.kind k.Number && fits minus t.bytes) (number_value minus) (s ∷ ts) (rw (h, e) refl)

pub number_yes : (minus : Bool) (ts : List Token) → same_kind (next_kind ts) k.Number ≡ true → fits minus (next_bytes ts) ≡ true → read.number minus ts ≡ Ok (number_value minus (next_bytes ts), past_next ts)
unfolding read.number the_number same_kind
number_yes minus [] h e = absurd (let f : false ≡ true = h in cc)
number_yes minus (s ∷ ts) h e = one_yes (λ t. same_kind t.kind k.Number && fits minus t.bytes) (number_value minus) (s ∷ ts) (rw (h, e) refl)

pub digits_other_kind : (low high : ℕ) (ts : List Token) → same_kind (next_kind ts) k.Number ≡ false → read.digits low high ts ≡ Err ts
unfolding read.digits the_digits
digits_other_kind low high [] h = refl
digits_other_kind low high (s ∷ ts) h = one_no (λ t. same_kind t.kind k.Number && is_between low high t.bytes) units (s ∷ ts) (rw h refl)

pub digits_no : (low high : ℕ) (ts : List Token) → same_kind (next_kind ts) k.Number ≡ true → is_between low high (next_bytes ts) ≡ false → read.digits low high ts ≡ Err ts
unfolding read.digits the_digits
digits_no low high [] h e = refl
digits_no low high (s ∷ ts) h e = one_no (λ t. same_kind t.kind k.Number && is_between low high t.bytes) units (s ∷ ts) (rw (h, e) refl)

pub digits_yes : (low high : ℕ) (ts : List Token) → same_kind (next_kind ts) k.Number ≡ true → is_between low high (next_bytes ts) ≡ true → read.digits low high ts ≡ Ok (units (next_bytes ts), past_next ts)
unfolding read.digits the_digits same_kind
digits_yes low high [] h e = absurd (let f : false ≡ true = h in cc)
digits_yes low high (s ∷ ts) h e = one_yes (λ t. same_kind t.kind k.Number && is_between low high t.bytes) units (s ∷ ts) (rw (h, e) refl)

pub eighteen_other_kind : (ts : List Token) → same_kind (next_kind ts) k.Number ≡ false → read.eighteen ts ≡ Err ts
unfolding read.eighteen the_eighteen
eighteen_other_kind [] h = refl
eighteen_other_kind (s ∷ ts) h = one_no (λ t. same_kind t.kind k.Number && bytes_eq t.bytes (codes "18")) (λ _. tt) (s ∷ ts) (rw h refl)

pub eighteen_no : (ts : List Token) → same_kind (next_kind ts) k.Number ≡ true → bytes_eq (next_bytes ts) (codes "18") ≡ false → read.eighteen ts ≡ Err ts
unfolding read.eighteen the_eighteen
eighteen_no [] h e = refl
eighteen_no (s ∷ ts) h e = one_no (λ t. same_kind t.kind k.Number && bytes_eq t.bytes (codes "18")) (λ _. tt) (s ∷ ts) (rw (h, e) refl)

pub eighteen_yes : (ts : List Token) → same_kind (next_kind ts) k.Number ≡ true → bytes_eq (next_bytes ts) (codes "18") ≡ true → read.eighteen ts ≡ Ok (tt, past_next ts)
unfolding read.eighteen the_eighteen same_kind
eighteen_yes [] h e = absurd (let f : false ≡ true = h in cc)
eighteen_yes (s ∷ ts) h e = one_yes (λ t. same_kind t.kind k.Number && bytes_eq t.bytes (codes "18")) (λ _. tt) (s ∷ ts) (rw (h, e) refl)

most_below : (minus : Bool) → most minus < 2 ^ 63 + 1
most_below true = lit< tt
most_below false = lit< tt

pub fits_of : (minus : Bool) (bytes : List ℕ) (n : ℕ) → n ≡ min (units bytes) (2 ^ 63 + 1) → fits minus bytes ≡ (nat_le n (most minus) && nat_le (decimals bytes) 18)
unfolding fits
fits_of minus bytes n e = ap (λ (b : Bool). b && nat_le (decimals bytes) 18) (same_le (units bytes) n (most minus) e (most_below minus))

pub fits_units : (minus : Bool) (bytes : List ℕ) → fits minus bytes ≡ true → units bytes ≤ most minus
unfolding fits
fits_units minus bytes h = leb-true (units bytes) (most minus) (and_parts (nat_le (units bytes) (most minus)) (nat_le (decimals bytes) 18) h).0

pub fits_decimals : (minus : Bool) (bytes : List ℕ) → fits minus bytes ≡ true → decimals bytes ≤ 18
unfolding fits
fits_decimals minus bytes h = leb-true (decimals bytes) 18 (and_parts (nat_le (units bytes) (most minus)) (nat_le (decimals bytes) 18) h).1

pub between_units : (low high : ℕ) (bytes : List ℕ) → is_between low high bytes ≡ true → units bytes ≤ high
unfolding is_between
between_units low high bytes h = leb-true (units bytes) high (and_parts (not (has_dot bytes) && nat_le low (units bytes)) (nat_le (units bytes) high) h).1

pub between_low : (low high : ℕ) (bytes : List ℕ) → is_between low high bytes ≡ true → low ≤ units bytes
unfolding is_between
between_low low high bytes h =
    leb-true low (units bytes) (and_parts (not (has_dot bytes)) (nat_le low (units bytes)) (and_parts (not (has_dot bytes) && nat_le low (units bytes)) (nat_le (units bytes) high) h).0).1

-- ---- texts

abbrev pub plain : List ℕ → List ℕ
plain bytes = undoubled false (inside bytes)

pub text_other_kind : (ts : List Token) → same_kind (next_kind ts) k.Text ≡ false → read.text ts ≡ Err ts
unfolding read.text the_text
text_other_kind [] h = refl
text_other_kind (s ∷ ts) h = one_no (λ t. same_kind t.kind k.Text) (λ b. v.Text (plain b)) (s ∷ ts) h

pub text_yes : (ts : List Token) → same_kind (next_kind ts) k.Text ≡ true → read.text ts ≡ Ok (v.Text (plain (next_bytes ts)), past_next ts)
unfolding read.text the_text same_kind
text_yes [] h = absurd (let f : false ≡ true = h in cc)
text_yes (s ∷ ts) h = one_yes (λ t. same_kind t.kind k.Text) (λ b. v.Text (plain b)) (s ∷ ts) h

pub is_text : (ts : List Token) → same_kind (next_kind ts) k.Text ≡ true → next_kind ts ≡ k.Text
is_text ts h = kind_same (next_kind ts) k.Text h

-- ---- tests of several kinds

pub next_or : (a b : Token → Bool) (ts : List Token) → next_is (λ s. a s || b s) ts ≡ (next_is a ts || next_is b ts)
next_or a b [] = refl
next_or a b (s ∷ ts) = refl

pub next_literal : (ts : List Token) → next_is read.is_literal ts ≡ (next_is (is_mark k.Minus) ts || next_is (is_mark k.Text) ts || next_is (is_mark k.Number) ts || next_is (is_word (codes "null")) ts)
unfolding read.is_literal
next_literal [] = refl
next_literal (s ∷ ts) = refl

pub op_no : (ts : List Token) → op_of (next_kind ts) ≡ None → read.op ts ≡ Err ts
unfolding read.op the_op
op_no [] h = refl
op_no (s ∷ ts) h = ap (λ (o : Option Op). found o s ts) h

pub op_yes : (ts : List Token) (o : Op) → op_of (next_kind ts) ≡ Some o → read.op ts ≡ Ok (o, past_next ts)
unfolding read.op the_op
op_yes [] o h = absurd cc
op_yes (s ∷ ts) o h = ap (λ (o : Option Op). found o s ts) h

kind_op : (a : Kind) → (same_kind a k.Equal || same_kind a k.NotEqual || same_kind a k.Less || same_kind a k.LessEqual || same_kind a k.Greater || same_kind a k.GreaterEqual) ≡ has_some (op_of a)
unfolding same_kind
kind_op k.Equal = refl
kind_op k.NotEqual = refl
kind_op k.Less = refl
kind_op k.LessEqual = refl
kind_op k.Greater = refl
kind_op k.GreaterEqual = refl
kind_op _ = refl

pub next_op : (ts : List Token) → next_is read.is_op ts ≡ has_some (op_of (next_kind ts))
unfolding read.is_op is_mark
next_op [] = refl
next_op (s ∷ ts) = kind_op s.kind

pub next_column : (ts : List Token) → next_is read.is_column ts ≡ (next_is (is_mark k.Word) ts && not (next_is (is_word (codes "primary")) ts))
unfolding read.is_column
next_column [] = refl
next_column (s ∷ ts) = refl

pub next_aggregate : (ts : List Token) → next_is read.is_aggregate ts ≡ (next_is (is_word (codes "count")) ts || next_is (is_word (codes "sum")) ts)
unfolding read.is_aggregate
next_aggregate [] = refl
next_aggregate (s ∷ ts) = refl

-- ---- words of which one is chosen

pub next_direction : (ts : List Token) → next_found the_direction ts ≡
    (if next_is (is_word (codes "asc")) ts then Some false else (if next_is (is_word (codes "desc")) ts then Some true else None))
unfolding the_direction
next_direction [] = refl
next_direction (s ∷ ts) = refl

pub direction_no : (ts : List Token) → next_found the_direction ts ≡ None → read.direction ts ≡ Ok (false, ts)
unfolding read.direction read.is_direction
direction_no [] h = refl
direction_no (s ∷ ts) h = rw h refl

pub direction_yes : (ts : List Token) (down : Bool) → next_found the_direction ts ≡ Some down → read.direction ts ≡ Ok (down, past_next ts)
unfolding read.direction read.is_direction
direction_yes [] down h = absurd cc
direction_yes (s ∷ ts) down h = rw h refl

pub next_backup_kind : (ts : List Token) → next_found the_backup_kind ts ≡
    (if next_is (is_word (codes "filefull")) ts then Some backup.Full
    else (if next_is (is_word (codes "filefullenable")) ts then Some backup.FullEnable
    else (if next_is (is_word (codes "fileincremental")) ts then Some backup.Incremental
    else (if next_is (is_word (codes "fileincrorfull")) ts then Some backup.IncrOrFull
    else (if next_is (is_word (codes "incrementalstop")) ts then Some backup.Stop
    else None)))))
unfolding the_backup_kind
next_backup_kind [] = refl
next_backup_kind (s ∷ ts) = refl

pub backup_kind_no : (ts : List Token) → next_found the_backup_kind ts ≡ None → read.backup_kind ts ≡ Err ts
unfolding read.backup_kind
backup_kind_no [] h = refl
backup_kind_no (s ∷ ts) h = ap (λ (o : Option BackupKind). found o s ts) h

pub backup_kind_yes : (ts : List Token) (kind : BackupKind) → next_found the_backup_kind ts ≡ Some kind → read.backup_kind ts ≡ Ok (kind, past_next ts)
unfolding read.backup_kind
backup_kind_yes [] kind h = absurd cc
backup_kind_yes (s ∷ ts) kind h = ap (λ (o : Option BackupKind). found o s ts) h

pub next_bare : (ts : List Token) → next_found the_bare ts ≡
    (if next_is (is_word (codes "commit")) ts then Some commands.Commit
    else (if next_is (is_word (codes "rollback")) ts then Some commands.Rollback
    else (if next_is (is_word (codes "flush")) ts then Some commands.Flush
    else (if next_is (is_word (codes "ttdurablecommit")) ts then Some commands.DurableCommit
    else (if next_is (is_word (codes "ttckpt")) ts then Some commands.Ckpt
    else (if next_is (is_word (codes "ttckptblocking")) ts then Some commands.CkptBlocking
    else (if next_is (is_word (codes "ttlogholds")) ts then Some commands.LogHolds
    else (if next_is (is_word (codes "ttbookmark")) ts then Some commands.Bookmark
    else (if next_is (is_word (codes "ttxlaacknowledge")) ts then Some commands.XlaAcknowledge
    else (if next_is (is_word (codes "ttxlaclose")) ts then Some commands.XlaClose
    else None))))))))))
unfolding the_bare
next_bare [] = refl
next_bare (s ∷ ts) = refl

pub not_bare : (ts : List Token) → next_found the_bare ts ≡ None → next_is read.is_bare ts ≡ false
unfolding read.is_bare
not_bare [] h = refl
not_bare (s ∷ ts) h = ap (λ (o : Option Command). has_some o) h

pub command_no : (ts : List Token) → next_found the_bare ts ≡ None → read.command ts ≡ read.statement ts
unfolding read.command
command_no ts h = rw (not_bare ts h) refl

pub command_yes : (ts : List Token) (command : Command) → next_found the_bare ts ≡ Some command → read.command ts ≡ Ok (command, past_next ts)
unfolding read.command read.bare read.is_bare
command_yes [] command h = absurd cc
command_yes (s ∷ ts) command h = rw h refl

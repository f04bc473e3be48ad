-- Each reader is exact for its part of the grammar: tokens, names, literals and conditions.
use Rattle.std.proofs.Common.{◌≡◌, ℕ, zero, suc, Bool, true, false, not, ◌&&◌, ◌||◌, List, [], ◌∷◌, Some, None, refl, ap, ◌∙◌}
use Rattle.std.specs.Prelude.{codes, pos, negsuc}
use Rattle.std.specs.List.{fold}
use Rattle.std.specs.Str.{bytes_eq}
use Rattle.std.proofs.lemmas.Bool.{and_parts}
use Rattle.tt_value.specs.Ident.{is_name, is_reserved}
use Rattle.tt_value.specs.declared.value.Value.{Value}
use Rattle.tt_value.specs.declared.value.Value.TheVariants as v
use Rattle.tt_parse.specs.declared.cond.Cond.{Cond}
use Rattle.tt_parse.specs.declared.cond.Cond.TheVariants as c
use Rattle.tt_parse.specs.declared.cond.Op.{Op}
use Rattle.tt_parse.specs.declared.cond.Op.TheVariants as op
use Rattle.tt_parse.specs.declared.cond.Operand.TheVariants as operand
use Rattle.tt_parse.specs.Grammar.{nothing, one, ◌>>=◌, ◌>>◌, many}
use Rattle.tt_parse.specs.Reader.{after, read_nothing, read_one}
use Rattle.tt_parse.proofs.Exact.{Exact, Begins, Follows, Within, never, exact-one, exact-nothing}
use Rattle.tt_parse.proofs.ExactLaws.{Finds, seq, step, alt, star, begins_one, begins_then, begins_or, follows_one, follows_one_then, follows_nothing, follows_or, follows_then, follows_many, exact-within}
use Rattle.tt_parse.specs.declared.kind.Kind.{Kind}
use Rattle.tt_parse.specs.declared.kind.Kind.TheVariants as k
use Rattle.tt_parse.specs.Tokens.{Token, same_kind}
use Rattle.tt_parse.specs.Script as g
use Rattle.tt_parse.specs.Script.{G}
use Rattle.tt_parse.specs.Symbols as symbol
use Rattle.tt_parse.specs.Symbols.{when, folded, is_word, is_mark, is_a_name, the_word, the_mark, the_name, the_digits, the_eighteen, the_number, the_text, the_op}
use Rattle.tt_parse.specs.Reading as r
use Rattle.tt_parse.proofs.Cursors.{kind_same}
use Rattle.tt_parse.proofs.TokenTests.{when_some, or_false, kind_is, word_kind, mark_kind, mark_other, word_other_kind, word_other, name_kind, name_no_word, none_within, finds_mark, begins_word, begins_mark, follows_word, follows_mark, one_of, word_within}

-- ---- one token

pub exact-word : (w : List ℕ) → is_word w (record { at = 0; kind = k.Word; bytes = w }) ≡ true → Exact (g.word w) (r.word w) never
unfolding g.word r.word
exact-word w h = exact-one (the_word w) (record { at = 0; kind = k.Word; bytes = w }) tt (rw h refl)

pub exact-mark : (a : Kind) → Exact (g.mark a) (r.mark a) never
unfolding g.mark r.mark is_mark
exact-mark a = exact-one (the_mark a) (record { at = 0; kind = a; bytes = [] }) tt (rw (kind_is a a refl) refl)

pub exact-name : Exact g.name r.name never
unfolding g.name r.name is_a_name is_name is_reserved same_kind
exact-name = exact-one the_name (record { at = 0; kind = k.Word; bytes = codes "a" }) (codes "a") refl

pub exact-number : (minus : Bool) → Exact (one (the_number minus)) (r.number minus) never
unfolding r.number the_number symbol.fits symbol.number_value symbol.signed same_kind symbol.units
exact-number true = exact-one (the_number true) (record { at = 0; kind = k.Number; bytes = codes "1" }) (v.Int (negsuc 0)) refl
exact-number false = exact-one (the_number false) (record { at = 0; kind = k.Number; bytes = codes "1" }) (v.Int (pos 1)) refl

pub exact-digits : (low high : ℕ) → symbol.is_between low high (codes "1") ≡ true → Exact (g.digits low high) (r.digits low high) never
unfolding g.digits r.digits the_digits same_kind
exact-digits low high h = exact-one (the_digits low high) (record { at = 0; kind = k.Number; bytes = codes "1" }) (symbol.units (codes "1")) (rw h refl)

pub exact-eighteen : Exact (one the_eighteen) r.eighteen never
unfolding r.eighteen the_eighteen same_kind
exact-eighteen = exact-one the_eighteen (record { at = 0; kind = k.Number; bytes = codes "18" }) tt refl

pub exact-text : Exact (one the_text) (read_one the_text) never
unfolding the_text symbol.undoubled symbol.inside same_kind
exact-text = exact-one the_text (record { at = 0; kind = k.Text; bytes = codes "''" }) (v.Text []) refl

pub exact-op : Exact (one the_op) r.op never
unfolding r.op the_op
exact-op = exact-one the_op (record { at = 0; kind = k.Equal; bytes = [] }) op.Eq refl

-- ---- what literals begin with

pub mark_no_word : (a : Kind) (w : List ℕ) → same_kind a k.Word ≡ false → Finds (the_mark a) (is_word w) false
mark_no_word a w d s v h = word_other_kind a d w s (mark_kind a s (when_some (is_mark a s) tt v h))

pub mark_no_mark : (a b : Kind) → same_kind a b ≡ false → Finds (the_mark a) (is_mark b) false
mark_no_mark a b d s v h = mark_other a b d s (mark_kind a s (when_some (is_mark a s) tt v h))

pub word_no_word : (a b : List ℕ) → bytes_eq a b ≡ false → Finds (the_word a) (is_word b) false
word_no_word a b d s v h = word_other a b d s (when_some (is_word a s) tt v h)

pub word_no_mark : (a : List ℕ) (b : Kind) → same_kind k.Word b ≡ false → Finds (the_word a) (is_mark b) false
word_no_mark a b d s v h = mark_other k.Word b d s (word_kind a s (when_some (is_word a s) tt v h))

text_kind : (s : Token) (v : Value) → the_text s ≡ Some v → s.kind ≡ k.Text
unfolding the_text
text_kind s v h = kind_same s.kind k.Text (when_some (same_kind s.kind k.Text) _ v h)

number_kind : (minus : Bool) (s : Token) (v : Value) → the_number minus s ≡ Some v → s.kind ≡ k.Number
unfolding the_number
number_kind minus s v h =
    kind_same s.kind k.Number (and_parts (same_kind s.kind k.Number) (symbol.fits minus s.bytes) (when_some (same_kind s.kind k.Number && symbol.fits minus s.bytes) _ v h)).0

text_no_mark : (b : Kind) → same_kind k.Text b ≡ false → Finds the_text (is_mark b) false
text_no_mark b d s v h = mark_other k.Text b d s (text_kind s v h)

text_no_word : (w : List ℕ) → Finds the_text (is_word w) false
unfolding same_kind
text_no_word w s v h = word_other_kind k.Text refl w s (text_kind s v h)

number_no_mark : (minus : Bool) (b : Kind) → same_kind k.Number b ≡ false → Finds (the_number minus) (is_mark b) false
number_no_mark minus b d s v h = mark_other k.Number b d s (number_kind minus s v h)

number_no_word : (minus : Bool) (w : List ℕ) → Finds (the_number minus) (is_word w) false
unfolding same_kind
number_no_word minus w s v h = word_other_kind k.Number refl w s (number_kind minus s v h)

text_mark : Finds the_text (is_mark k.Text) true
unfolding is_mark
text_mark s v h = kind_is s.kind k.Text (text_kind s v h)

pub exact-literal : Exact g.literal r.literal never
unfolding g.literal r.literal r.null r.negative r.text same_kind is_word
exact-literal =
    alt (is_word (codes "null")) (step (exact-word (codes "null") refl) (λ _. exact-nothing v.Null))
    (alt (is_mark k.Minus) (step (exact-mark k.Minus) (λ _. exact-number true))
    (alt (is_mark k.Text) exact-text (exact-number false)
    (begins_one the_text (is_mark k.Text) text_mark)
    (follows_one (the_number false) (is_mark k.Text) never (number_no_mark false k.Text refl))
    (none_within never) (none_within never))
    (begins_mark k.Minus _)
    (follows_or (one the_text) (one (the_number false)) (is_mark k.Minus) never
    (follows_one the_text (is_mark k.Minus) never (text_no_mark k.Minus refl))
    (follows_one (the_number false) (is_mark k.Minus) never (number_no_mark false k.Minus refl)))
    (none_within never) (none_within never))
    (begins_word (codes "null") _)
    (follows_or _ _ (is_word (codes "null")) never
    (follows_mark k.Minus _ (is_word (codes "null")) never (mark_no_word k.Minus (codes "null") refl))
    (follows_or (one the_text) (one (the_number false)) (is_word (codes "null")) never
    (follows_one the_text (is_word (codes "null")) never (text_no_word (codes "null")))
    (follows_one (the_number false) (is_word (codes "null")) never (number_no_word false (codes "null")))))
    (none_within never) (none_within never)

-- ---- lists

pub exact-optional_word : (w : List ℕ) → is_word w (record { at = 0; kind = k.Word; bytes = w }) ≡ true → Exact (g.optional_word w) (r.optional_word w) (is_word w)
unfolding g.optional_word r.optional_word
exact-optional_word w h =
    alt (is_word w) (step (exact-word w h) (λ _. exact-nothing true)) (exact-nothing false)
    (begins_word w _) (follows_nothing false (is_word w) (is_word w) (λ s e. e))
    (none_within (is_word w)) (none_within (is_word w))

module _ {A : Type 0} (item : G A) (reader : r.R A) (more last : Token → Bool) (each : Exact item reader more)
    (apart : (s : Token) → is_mark k.Comma s ≡ true → more s ≡ false) (within : Within more last) (stops : Within (is_mark k.Comma) last) where
  pub exact-comma_item : Exact (g.mark k.Comma >> item) (r.comma_item reader) more
  unfolding r.comma_item
  exact-comma_item = step (exact-mark k.Comma) (λ _. each)

  pub exact-more_items : Exact (many (g.mark k.Comma >> item)) (r.more_items reader) last
  unfolding r.more_items
  exact-more_items = star (is_mark k.Comma) last exact-comma_item (begins_mark k.Comma _) apart within stops

  pub exact-comma_list : Exact (g.comma_list item) (r.comma_list reader) last
  unfolding g.comma_list r.comma_list
  exact-comma_list =
      seq each (λ first.
      seq exact-more_items (λ others. exact-within never last (none_within last) (exact-nothing (first ∷ others)))
      (λ others. follows_nothing _ last last (λ s h. h)))
      (λ first. follows_then (many (g.mark k.Comma >> item)) _ more last
      (follows_many (g.mark k.Comma >> item) (is_mark k.Comma) more more (begins_mark k.Comma _) apart (λ s h. h))
      (λ others. follows_nothing _ more last within))

pub exact-map : {A B : Type 0} {item : G A} {reader : r.R A} {more : Token → Bool} (f : A → B) → Exact item reader more → Exact (item >>= (λ a. nothing (f a))) (λ ts. after (reader ts) (λ a. read_nothing (f a))) more
exact-map {A} {B} {item} {reader} {more} f each =
    seq each (λ a. exact-within never more (none_within more) (exact-nothing (f a))) (λ a. follows_nothing (f a) more more (λ s h. h))

-- of items that nothing goes on with
pub exact-plain_list : {A : Type 0} (item : G A) (reader : r.R A) → Exact item reader never → Exact (g.comma_list item) (r.comma_list reader) (is_mark k.Comma)
exact-plain_list item reader each = exact-comma_list item reader never (is_mark k.Comma) each (λ s h. refl) (none_within (is_mark k.Comma)) (λ s h. h)

-- ( name {, name} )
pub exact-names : Exact g.names r.names never
unfolding g.names r.names same_kind
exact-names =
    step (exact-mark k.Open) (λ _.
    seq (exact-plain_list g.name r.name exact-name) (λ names. step (exact-mark k.Close) (λ _. exact-nothing names))
    (λ names. follows_mark k.Close _ (is_mark k.Comma) never (mark_no_mark k.Close k.Comma refl)))

-- literal | name

literal_at_word : (s : Token) → s.kind ≡ k.Word → r.is_literal s ≡ is_word (codes "null") s
unfolding r.is_literal is_mark same_kind
literal_at_word s e = ap (λ (a : Kind). same_kind a k.Minus || same_kind a k.Text || same_kind a k.Number || is_word (codes "null") s) e

literal_word : Finds (the_word (codes "null")) r.is_literal true
literal_word s v h =
    let w = when_some (is_word (codes "null") s) tt v h in
    literal_at_word s (word_kind (codes "null") s w) ∙ w

literal_kind : (a : Kind) (s : Token) → s.kind ≡ a → (same_kind a k.Minus || same_kind a k.Text || same_kind a k.Number) ≡ true → r.is_literal s ≡ true
unfolding r.is_literal is_mark
literal_kind a s e h = rw (e, h) refl

pub literal_begins : Begins g.literal r.is_literal
unfolding g.literal g.word g.mark same_kind
literal_begins =
    begins_or _ _ r.is_literal (begins_then _ _ r.is_literal (begins_one (the_word (codes "null")) r.is_literal literal_word))
    (begins_or _ _ r.is_literal (begins_then _ _ r.is_literal (begins_one (the_mark k.Minus) r.is_literal (λ s v h. literal_kind k.Minus s (mark_kind k.Minus s (finds_mark k.Minus s v h)) refl)))
    (begins_or _ _ r.is_literal (begins_one the_text r.is_literal (λ s v h. literal_kind k.Text s (text_kind s v h) refl))
    (begins_one (the_number false) r.is_literal (λ s v h. literal_kind k.Number s (number_kind false s v h) refl))))

no_name_null : is_name (codes "null") ≡ false
unfolding is_name is_reserved
no_name_null = refl

pub name_no_literal : Finds the_name r.is_literal false
name_no_literal s v h =
    let n = when_some (is_a_name s) (folded s) v h in
    literal_at_word s (name_kind s n) ∙ name_no_word (codes "null") no_name_null s n

pub exact-right_side : Exact g.right_side r.right_side never
unfolding g.right_side r.right_side r.literal_side r.name_side g.name
exact-right_side =
    alt r.is_literal (step exact-literal (λ value. exact-nothing (operand.Literal value))) (step exact-name (λ column. exact-nothing (operand.Column column)))
    (begins_then g.literal _ r.is_literal literal_begins)
    (follows_one_then the_name _ r.is_literal never name_no_literal)
    (none_within never) (none_within never)

-- name ( op (literal | name) | 'is' ['not'] 'null' )

abbrev pub is_null_of : List ℕ → G Cond
is_null_of column = do
  g.word (codes "is")
  not ← g.optional_word (codes "not")
  g.word (codes "null")
  nothing (c.IsNull column not)

pub exact-is_null : (column : List ℕ) → Exact (is_null_of column) (r.is_null column) never
unfolding r.is_null is_word same_kind
exact-is_null column =
    step (exact-word (codes "is") refl) (λ _. seq (exact-optional_word (codes "not") refl) (λ not. step (exact-word (codes "null") refl) (λ _. exact-nothing (c.IsNull column not)))
    (λ not. follows_word (codes "null") _ (is_word (codes "not")) never (word_no_word (codes "null") (codes "not") refl)))

abbrev pub comparison_of : List ℕ → G Cond
comparison_of column = do
  op ← one the_op
  right ← g.right_side
  nothing (c.Compare column op right)

pub exact-comparison : (column : List ℕ) → Exact (comparison_of column) (r.comparison column) never
unfolding r.comparison
exact-comparison column = step exact-op (λ op. step exact-right_side (λ right. exact-nothing (c.Compare column op right)))

op_kinds : (a : Kind) (o : Op) → symbol.op_of a ≡ Some o → (same_kind a k.Equal || same_kind a k.NotEqual || same_kind a k.Less || same_kind a k.LessEqual || same_kind a k.Greater || same_kind a k.GreaterEqual) ≡ true
unfolding same_kind
op_kinds k.Equal o h = refl
op_kinds k.NotEqual o h = refl
op_kinds k.Less o h = refl
op_kinds k.LessEqual o h = refl
op_kinds k.Greater o h = refl
op_kinds k.GreaterEqual o h = refl
op_kinds _ o h = absurd cc

op_is : Finds the_op r.is_op true
unfolding the_op r.is_op is_mark
op_is s o h = op_kinds s.kind o h

word_no_op : (w : List ℕ) → Finds (the_word w) r.is_op false
unfolding r.is_op is_mark same_kind
word_no_op w s v h = let e = word_kind w s (when_some (is_word w s) tt v h) in rw e refl

pub exact-test : Exact g.test r.test never
unfolding g.test r.test
exact-test =
    step exact-name (λ column.
    alt r.is_op (exact-comparison column) (exact-is_null column)
    (begins_then (one the_op) _ r.is_op (begins_one the_op r.is_op op_is))
    (follows_word (codes "is") _ r.is_op never (word_no_op (codes "is")))
    (none_within never) (none_within never))

-- item {word item}, joined from the left

pub exact-chain : (between : List ℕ) (join : Cond → Cond → Cond) (item : G Cond) (reader : r.R Cond) (more last : Token → Bool) →
    is_word between (record { at = 0; kind = k.Word; bytes = between }) ≡ true → Exact item reader more →
    ((s : Token) → is_word between s ≡ true → more s ≡ false) → Within more last → Within (is_word between) last →
    Exact (g.chain between join item) (r.chain between join reader) last
unfolding g.chain r.chain r.link
exact-chain between join item reader more last spelled each apart within stops =
    let link = step (exact-word between spelled) (λ _. each) in
    seq each (λ first.
    seq (star (is_word between) last link (begins_word between _) apart within stops)
    (λ others. exact-within never last (none_within last) (exact-nothing (fold join first others)))
    (λ others. follows_nothing _ last last (λ s h. h)))
    (λ first. follows_then (many (g.word between >> item)) _ more last
    (follows_many (g.word between >> item) (is_word between) more more (begins_word between _) apart (λ s h. h))
    (λ others. follows_nothing _ more last within))

-- what may go on with a condition
unfoldable pub more_cond : Token → Bool
more_cond s = is_word (codes "and") s || is_word (codes "or") s

pub exact-both : (part : G Cond) (reader : r.R Cond) → Exact part reader never → Exact (g.chain (codes "and") c.And part) (r.both reader) (is_word (codes "and"))
unfolding r.both is_word same_kind
exact-both part reader each =
    exact-chain (codes "and") c.And part reader never (is_word (codes "and")) refl each (λ s h. refl) (none_within (is_word (codes "and"))) (λ s h. h)

pub exact-cond_of : (part : G Cond) (reader : r.R Cond) → Exact part reader never → Exact (g.cond_of part) (r.cond_of reader) more_cond
unfolding g.cond_of r.cond_of r.both more_cond is_word same_kind
exact-cond_of part reader each =
    exact-chain (codes "or") c.Or (g.chain (codes "and") c.And part) (r.both reader) (is_word (codes "and")) more_cond refl
    (exact-both part reader each)
    (word_other (codes "or") (codes "and") refl)
    (λ s h. (or_false (is_word (codes "and") s) (is_word (codes "or") s) h).0)
    (λ s h. (or_false (is_word (codes "and") s) (is_word (codes "or") s) h).1)

-- ---- conditions by levels

pub name_no_mark : (b : Kind) → same_kind k.Word b ≡ false → Finds the_name (is_mark b) false
name_no_mark b d s v h = mark_other k.Word b d s (name_kind s (when_some (is_a_name s) (folded s) v h))

name_other : (w : List ℕ) → is_name w ≡ false → Finds the_name (is_word w) false
name_other w d s v h = name_no_word w d s (when_some (is_a_name s) (folded s) v h)

no_name_not : is_name (codes "not") ≡ false
unfolding is_name is_reserved
no_name_not = refl

follows_test : (t last : Token → Bool) → Finds the_name t false → Follows t g.test last
unfolding g.test g.name
follows_test t last h = follows_one_then the_name _ t last h

close_no_more : Finds (the_mark k.Close) more_cond false
unfolding more_cond same_kind
close_no_more s v h = rw (mark_no_word k.Close (codes "and") refl s v h, mark_no_word k.Close (codes "or") refl s v h) refl

pub exact-part : (levels : ℕ) → Exact (g.part levels) (r.part levels) never
unfolding g.part r.part r.negation r.parenthesized is_word same_kind more_cond
exact-part zero = exact-test
exact-part (suc levels) =
    alt (is_word (codes "not")) (step (exact-word (codes "not") refl) (λ _. step (exact-part levels) (λ inner. exact-nothing (c.Not inner))))
    (alt (is_mark k.Open)
    (step (exact-mark k.Open) (λ _. seq (exact-cond_of (g.part levels) (r.part levels) (exact-part levels)) (λ inner. step (exact-mark k.Close) (λ _. exact-nothing inner))
    (λ inner. follows_mark k.Close _ more_cond never close_no_more)))
    exact-test
    (begins_mark k.Open _) (follows_test (is_mark k.Open) never (name_no_mark k.Open refl)) (none_within never) (none_within never))
    (begins_word (codes "not") _)
    (follows_or _ g.test (is_word (codes "not")) never
    (follows_mark k.Open _ (is_word (codes "not")) never (mark_no_word k.Open (codes "not") refl))
    (follows_test (is_word (codes "not")) never (name_other (codes "not") no_name_not)))
    (none_within never) (none_within never)

pub exact-cond : Exact g.cond r.cond more_cond
unfolding g.cond r.cond
exact-cond = exact-cond_of (g.part 64) (r.part 64) (exact-part 64)

-- ['where' cond]

-- what may go on with a filter
abbrev pub more_filter : Token → Bool
more_filter = one_of [] (codes "where" ∷ codes "and" ∷ codes "or" ∷ [])

filter_cond : Within more_cond more_filter
unfolding more_cond
filter_cond s h =
    rw (word_within (codes "and") [] (codes "where" ∷ codes "and" ∷ codes "or" ∷ []) refl s h)
    (word_within (codes "or") [] (codes "where" ∷ codes "and" ∷ codes "or" ∷ []) refl s h)

pub exact-filter : Exact g.filter r.filter more_filter
unfolding g.filter r.filter r.given_filter is_word same_kind
exact-filter =
    alt (is_word (codes "where"))
    (step (exact-word (codes "where") refl) (λ _. seq exact-cond (λ test. exact-within never more_cond (none_within more_cond) (exact-nothing (Some test))) (λ test. follows_nothing (Some test) more_cond more_cond (λ s h. h))))
    (exact-nothing None)
    (begins_word (codes "where") _)
    (follows_nothing None (is_word (codes "where")) more_filter (word_within (codes "where") [] (codes "where" ∷ codes "and" ∷ codes "or" ∷ []) refl))
    filter_cond (none_within more_filter)

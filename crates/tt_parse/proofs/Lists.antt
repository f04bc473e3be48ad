-- What a loop over a list reads, one turn at a time.
use Rattle.std.proofs.Common.{◌≡◌, ℕ, zero, suc, ◌<◌, ◌≤◌, Bool, true, false, List, [], ◌∷◌, ◌++◌, length, Result, Ok, Err, ◌≢◌, refl, sym, ap, ◌∙◌, append_assoc, arith}
use Rattle.std.proofs.lemmas.List.{length-append}
use Rattle.tt_value.specs.declared.value.Value.{Value}
use Rattle.tt_parse.specs.declared.command.ColumnText.{ColumnText}
use Rattle.tt_parse.specs.declared.command.SetItem.{SetItem}
use Rattle.tt_parse.specs.declared.command.Aggregate.{Aggregate}
use Rattle.tt_parse.specs.declared.command.OrderItem.{OrderItem}
use Rattle.tt_parse.specs.Grammar.{Grammar}
use Rattle.tt_parse.specs.Reader.{Read, Reader, after, with_front, next_is, read_many_in, read_many}
use Rattle.tt_parse.proofs.Exact.{Exact, Begins, append-[]}
use Rattle.tt_parse.proofs.ExactMany.{next-shown}
use Rattle.tt_parse.specs.declared.kind.Kind.TheVariants as k
use Rattle.tt_parse.specs.Tokens.{Token}
use Rattle.tt_parse.specs.Symbols.{is_mark}
use Rattle.tt_parse.specs.Reading as r
use Rattle.tt_parse.specs.Reading.{Reads, prepend}
use Rattle.tt_parse.specs.declared.fault.ParseError.{ParseError}
use Rattle.tt_parse.specs.declared.fault.ParseError.TheVariants.{NoMemory}
use Rattle.std.specs.Result.{IsErrAnd}
use Rattle.tt_parse.specs.Cursor.{past_next}
use Rattle.tt_parse.proofs.Next.{mark_yes}
use Rattle.tt_parse.proofs.Exactness.{exact-name, exact-literal}
use Rattle.tt_parse.proofs.ExactCommands.{exact-column, begins-column, exact-set_item, exact-aggregate, exact-order_item}

-- what is read takes a token at least
pub shrinks : {A : Type 0} {g : Grammar Token A} {r : Reader Token A} {more : Token → Bool} (test : Token → Bool) → Exact g r more → Begins g test →
    (ts rest : List Token) (a : A) → r ts ≡ Ok (a, rest) → length rest < length ts
shrinks test exact begins ts rest a e =
    let f = exact.got ts a rest e in
    let long = next-shown test f.front (begins f.front a f.fits) in
    omega (arith, ap length f.whole, length-append f.front rest)

prepend-front : {A : Type 0} (vs : List A) (a : A) (x : Read Token (List A)) → prepend vs (with_front a x) ≡ prepend (vs ++ a ∷ []) x
prepend-front {A} vs a (Ok x) = ap (λ (l : List A). Ok (l, x.1)) (sym (append_assoc vs (a ∷ []) x.0))
prepend-front vs a (Err rest) = refl

-- The items so far, and those that are still to be read from here, are the whole. Each turn takes a token at least, so what is
-- left of the count is enough.
pub record IsUnderWay {A : Type 0} (test : Token → Bool) (reader : r.R A) (items : List A) (ts : List Token) (whole : Read Token (List A)) : Type 0 where
  pub left : ℕ
  pub enough : length ts ≤ left
  pub rest : prepend items (read_many_in left test reader ts) ≡ whole

pub begins : {A : Type 0} (test : Token → Bool) (reader : r.R A) (items : List A) (ts : List Token) → IsUnderWay test reader items ts (prepend items (read_many test reader ts))
begins test reader items ts = record { left = length ts; enough = omega arith; rest = refl }

turn : {A : Type 0} (test : Token → Bool) (reader : r.R A) (left : ℕ) (ts : List Token) (x : Read Token A) → next_is test ts ≡ true → reader ts ≡ x →
    read_many_in (suc left) test reader ts ≡ after x (λ a mid. with_front a (read_many_in left test reader mid))
unfolding read_many_in
turn test reader left ts x h e = rw (h, e) refl

pub goes_on : {A : Type 0} (test : Token → Bool) (reader : r.R A) (items : List A) (ts mid : List Token) (whole : Read Token (List A)) (a : A) → IsUnderWay test reader items ts whole →
    next_is test ts ≡ true → reader ts ≡ Ok (a, mid) → length mid < length ts → IsUnderWay test reader (items ++ a ∷ []) mid whole
goes_on {A} test reader items ts mid whole a under h e shrinks = by under.left under.enough under.rest
  where
    by : (left : ℕ) → length ts ≤ left → prepend items (read_many_in left test reader ts) ≡ whole → IsUnderWay test reader (items ++ a ∷ []) mid whole
    by zero enough rest = absurd (omega (arith, shrinks))
    by (suc left) enough rest = record {
      left = left;
      enough = omega (arith, shrinks);
      rest =
          sym (prepend-front items a (read_many_in left test reader mid))
          ∙ ap (λ (x : Read Token (List A)). prepend items x) (sym (turn test reader left ts (Ok (a, mid)) h e)) ∙ rest;
    }

pub fails : {A : Type 0} (test : Token → Bool) (reader : r.R A) (items : List A) (ts rest : List Token) (whole : Read Token (List A)) → IsUnderWay test reader items ts whole →
    next_is test ts ≡ true → reader ts ≡ Err rest → whole ≡ Err rest
fails {A} test reader items ts rest whole under h e = by under.left under.enough under.rest
  where
    by : (left : ℕ) → length ts ≤ left → prepend items (read_many_in left test reader ts) ≡ whole → whole ≡ Err rest
    by zero enough is = absurd (omega (arith, next-shown test ts h))
    by (suc left) enough is = sym is ∙ ap (λ (x : Read Token (List A)). prepend items x) (turn test reader left ts (Err rest) h e)

pub stops : {A : Type 0} (test : Token → Bool) (reader : r.R A) (items : List A) (ts : List Token) (whole : Read Token (List A)) → IsUnderWay test reader items ts whole →
    next_is test ts ≡ false → whole ≡ Ok (items, ts)
unfolding read_many_in
stops {A} test reader items ts whole under h = by under.left under.rest
  where
    by : (left : ℕ) → prepend items (read_many_in left test reader ts) ≡ whole → whole ≡ Ok (items, ts)
    by zero is = sym is ∙ ap (λ (l : List A). Ok (l, ts)) (append-[] items)
    by (suc left) is = sym is ∙ rw h (ap (λ (l : List A). Ok (l, ts)) (append-[] items))

-- an error that is handed on tells that reading stopped, as it did before
pub handed_on : {A : Type 0} (outcome : Read Token (List A)) (answer : Result (List A) ParseError) (error : ParseError) (new : List Token) → IsErrAnd answer (λ e. e ≡ error) →
    (error ≢ NoMemory → outcome ≡ Err new) → Reads outcome answer new
handed_on outcome (Ok items) error new same stuck = absurd same
handed_on outcome (Err e) error new same stuck = λ other. stuck (λ (none : error ≡ NoMemory). other (same ∙ none))

-- ---- items with a comma between two

abbrev pub ItemsUnderWay : {A : Type 0} → r.R A → List A → List Token → Read Token (List A) → Type 0
ItemsUnderWay reader items ts whole = IsUnderWay (is_mark k.Comma) (r.comma_item reader) items ts whole

pub items_begin : {A : Type 0} (reader : r.R A) (items : List A) (ts : List Token) → ItemsUnderWay reader items ts (prepend items (r.more_items reader ts))
unfolding r.more_items
items_begin reader items ts = begins (is_mark k.Comma) (r.comma_item reader) items ts

item-at : {A : Type 0} (reader : r.R A) (ts : List Token) → next_is (is_mark k.Comma) ts ≡ true → r.comma_item reader ts ≡ reader (past_next ts)
unfolding r.comma_item
item-at reader ts h = rw (mark_yes k.Comma ts h) refl

pub shorter : (ts : List Token) → next_is (is_mark k.Comma) ts ≡ true → length (past_next ts) < length ts
shorter [] h = absurd cc
shorter (t ∷ ts) h = omega arith

pub items_go_on : {A : Type 0} (reader : r.R A) (items : List A) (ts mid : List Token) (whole : Read Token (List A)) (a : A) → ItemsUnderWay reader items ts whole →
    next_is (is_mark k.Comma) ts ≡ true → reader (past_next ts) ≡ Ok (a, mid) → length mid ≤ length (past_next ts) → ItemsUnderWay reader (items ++ a ∷ []) mid whole
items_go_on reader items ts mid whole a under h e within =
    goes_on (is_mark k.Comma) (r.comma_item reader) items ts mid whole a under h (item-at reader ts h ∙ e) (omega (arith, shorter ts h))

pub items_fail : {A : Type 0} (reader : r.R A) (items : List A) (ts rest : List Token) (whole : Read Token (List A)) → ItemsUnderWay reader items ts whole →
    next_is (is_mark k.Comma) ts ≡ true → reader (past_next ts) ≡ Err rest → whole ≡ Err rest
items_fail reader items ts rest whole under h e = fails (is_mark k.Comma) (r.comma_item reader) items ts rest whole under h (item-at reader ts h ∙ e)

-- no more tokens stand behind what is read than stood before it
not_longer : {A : Type 0} {g : Grammar Token A} {reader : Reader Token A} {more : Token → Bool} → Exact g reader more →
    (ts rest : List Token) (a : A) → reader ts ≡ Ok (a, rest) → length rest ≤ length ts
not_longer exact ts rest a e = let f = exact.got ts a rest e in omega (arith, ap length f.whole, length-append f.front rest)

pub name_within : (ts rest : List Token) (a : List ℕ) → r.name ts ≡ Ok (a, rest) → length rest ≤ length ts
name_within = not_longer exact-name

pub literal_within : (ts rest : List Token) (a : Value) → r.literal ts ≡ Ok (a, rest) → length rest ≤ length ts
literal_within = not_longer exact-literal

pub set_item_within : (ts rest : List Token) (a : SetItem) → r.set_item ts ≡ Ok (a, rest) → length rest ≤ length ts
set_item_within = not_longer exact-set_item

pub aggregate_within : (ts rest : List Token) (a : Aggregate) → r.aggregate ts ≡ Ok (a, rest) → length rest ≤ length ts
aggregate_within = not_longer exact-aggregate

pub order_item_within : (ts rest : List Token) (a : OrderItem) → r.order_item ts ≡ Ok (a, rest) → length rest ≤ length ts
order_item_within = not_longer exact-order_item

-- ---- columns, each with a comma behind it

abbrev pub ColumnsUnderWay : List ColumnText → List Token → Read Token (List ColumnText) → Type 0
ColumnsUnderWay columns ts whole = IsUnderWay r.is_column r.column columns ts whole

pub columns_begin : (columns : List ColumnText) (ts : List Token) → ColumnsUnderWay columns ts (prepend columns (r.more_columns ts))
unfolding r.more_columns
columns_begin columns ts = begins r.is_column r.column columns ts

pub columns_shrink : (ts mid : List Token) (a : ColumnText) → r.column ts ≡ Ok (a, mid) → length mid < length ts
columns_shrink ts mid a e = shrinks r.is_column exact-column begins-column ts mid a e

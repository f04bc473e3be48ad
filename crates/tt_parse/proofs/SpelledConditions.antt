-- A condition that the grammar gives within some levels is given by its spelling within as many.
use Rattle.std.proofs.Common.{◌≡◌, ℕ, zero, suc, Bool, true, false, List, [], ◌∷◌, ◌++◌, Some, None, refl, sym, ap, subst, ◌∙◌, append_assoc, inl, inr}
use Rattle.std.specs.Prelude.{codes}
use Rattle.std.specs.List.{fold}
use Rattle.std.proofs.lemmas.List.Sums.{fold-append}
use Rattle.tt_parse.specs.declared.cond.Cond.{Cond}
use Rattle.tt_parse.specs.declared.cond.Cond.TheOpen as shape
use Rattle.tt_parse.specs.declared.cond.Cond.TheFolds.{fold-roll-Cond}
use Rattle.tt_parse.specs.declared.cond.Cond.TheViews.{roll-Cond}
use denote.Hole.Carrier.{roll}
use Rattle.tt_parse.specs.declared.cond.Cond.TheVariants as c
use Rattle.tt_parse.specs.declared.cond.Op.{Op}
use Rattle.tt_parse.specs.declared.cond.Op.TheVariants as ops
use Rattle.tt_parse.specs.declared.cond.Operand.{Operand}
use Rattle.tt_parse.specs.declared.cond.Operand.TheVariants as operands
use Rattle.tt_parse.specs.declared.printer.Context.{Context}
use Rattle.tt_parse.specs.declared.printer.Context.TheVariants as context
use Rattle.tt_parse.specs.declared.kind.Kind.TheVariants as k
use Rattle.tt_parse.specs.Tokens.{Token}
use Rattle.tt_parse.specs.Grammar.{nothing, one, ◌>>=◌, ◌>>◌, ◌or_else◌, many}
use Rattle.tt_parse.specs.Script as g
use Rattle.tt_parse.specs.Script.{G}
use Rattle.tt_parse.specs.Symbols.{the_op, op_of}
use Rattle.tt_parse.specs.Spelling as spell
use Rattle.tt_parse.specs.Spelling.{Piece, condition, condition_of, is_part, is_under_and}
use Rattle.tt_parse.proofs.Exact.{append-[]}
use Rattle.tt_parse.proofs.Pieces.{Fine, fine_front, fine_back, Cut, Spells, Respells, halves, cut_append, spells_one, spells_nothing, spells_then, spells_left, spells_right, respells, after_nothing, after_then, after_or}
use Rattle.tt_parse.proofs.Cuts.{cut_open, cut_close, cut_equal, cut_less, cut_greater, cut_not_equal, cut_less_equal, cut_greater_equal, is_like_word}
use Rattle.tt_parse.proofs.Spelled.{spells_word, spells_mark, respell_word, respell_name, respell_literal}

-- ---- the equations of the spelling

compare_is : (column : List ℕ) (op : Op) (right : Operand) (here : Context) → condition (c.Compare column op right) here ≡ spell.word column ∷ spell.op_piece op ∷ spell.operand right
unfolding condition roll-Cond roll
compare_is column op right here = ap (λ (f : Context → List Piece). f here) (fold-roll-Cond (Context → List Piece) condition_of (shape.Compare column op right))

null_is : (column : List ℕ) (not : Bool) (here : Context) → condition (c.IsNull column not) here ≡ spell.word column ∷ spell.null_test not
unfolding condition roll-Cond roll
null_is column not here = ap (λ (f : Context → List Piece). f here) (fold-roll-Cond (Context → List Piece) condition_of (shape.IsNull column not))

not_is : (inner : Cond) (here : Context) → condition (c.Not inner) here ≡ spell.word (codes "not") ∷ condition inner context.Part
unfolding condition roll-Cond roll
not_is inner here = ap (λ (f : Context → List Piece). f here) (fold-roll-Cond (Context → List Piece) condition_of (shape.Not inner))

and_is : (a b : Cond) (here : Context) → condition (c.And a b) here
    ≡ spell.if_there spell.open_mark (is_part here) ++ (condition a context.And ++ spell.word (codes "and") ∷ (condition b context.Part ++ spell.if_there spell.close_mark (is_part here)))
unfolding condition roll-Cond roll
and_is a b here = ap (λ (f : Context → List Piece). f here) (fold-roll-Cond (Context → List Piece) condition_of (shape.And a b))

or_is : (a b : Cond) (here : Context) → condition (c.Or a b) here
    ≡ spell.if_there spell.open_mark (is_under_and here) ++ (condition a context.Or ++ spell.word (codes "or") ∷ (condition b context.And ++ spell.if_there spell.close_mark (is_under_and here)))
unfolding condition roll-Cond roll
or_is a b here = ap (λ (f : Context → List Piece). f here) (fold-roll-Cond (Context → List Piece) condition_of (shape.Or a b))

-- ---- tests of a column

op_cut : (o : Op) → Cut (spell.op_piece o)
op_cut ops.Eq = cut_equal
op_cut ops.Ne = cut_not_equal
op_cut ops.Lt = cut_less
op_cut ops.Le = cut_less_equal
op_cut ops.Gt = cut_greater
op_cut ops.Ge = cut_greater_equal

op_found : (o : Op) → op_of (spell.op_piece o).kind ≡ Some o
op_found ops.Eq = refl
op_found ops.Ne = refl
op_found ops.Lt = refl
op_found ops.Le = refl
op_found ops.Gt = refl
op_found ops.Ge = refl

respell_op : Respells (one the_op) (λ o. spell.op_piece o ∷ [])
unfolding the_op
respell_op ts o fine h = spells_one the_op (spell.op_piece o) o (op_cut o) (λ t s. rw s.0 (op_found o))

respell_operand : Respells g.right_side spell.operand
unfolding g.right_side
respell_operand =
    respells spell.operand (after_or [] spell.operand
    (after_then [] spell.literal spell.operand respell_literal (λ value. after_nothing spell.operand (spell.literal value) (operands.Literal value) refl))
    (after_then [] spell.name spell.operand respell_name (λ column. after_nothing spell.operand (spell.name column) (operands.Column column) refl)))

-- a word that is there or isn't
pub respell_optional : (w : List ℕ) → is_like_word w ≡ true → Respells (g.word w) (λ _. spell.word w ∷ []) → Respells (g.optional_word w) (spell.if_there (spell.word w))
unfolding g.optional_word
respell_optional w like there =
    respells (spell.if_there (spell.word w)) (after_or [] (spell.if_there (spell.word w))
    (after_then [] (λ _. spell.word w ∷ []) (spell.if_there (spell.word w)) there (λ _. after_nothing (spell.if_there (spell.word w)) (spell.word w ∷ []) true refl))
    (after_nothing (spell.if_there (spell.word w)) [] false refl))

abbrev at_part : Cond → List Piece
at_part cond = condition cond context.Part

null_pieces : (column : List ℕ) (not : Bool) →
    ((spell.name column ++ spell.word (codes "is") ∷ []) ++ spell.if_there (spell.word (codes "not")) not) ++ spell.word (codes "null") ∷ [] ≡ spell.word column ∷ spell.null_test not
null_pieces column true = refl
null_pieces column false = refl

respell_test : Respells g.test at_part
unfolding g.test
respell_test =
    respells at_part (after_then [] spell.name at_part respell_name (λ column.
    after_or (spell.name column) at_part
    (after_then (spell.name column) (λ o. spell.op_piece o ∷ []) at_part respell_op (λ o.
    after_then (spell.word column ∷ spell.op_piece o ∷ []) spell.operand at_part respell_operand (λ right.
    after_nothing at_part (spell.word column ∷ spell.op_piece o ∷ spell.operand right) (c.Compare column o right) (sym (compare_is column o right context.Part)))))
    (after_then (spell.name column) (λ _. spell.word (codes "is") ∷ []) at_part (respell_word (codes "is") (codes "is") refl refl) (λ _.
    after_then (spell.name column ++ spell.word (codes "is") ∷ []) (spell.if_there (spell.word (codes "not"))) at_part (respell_optional (codes "not") refl (respell_word (codes "not") (codes "not") refl refl)) (λ not.
    after_then ((spell.name column ++ spell.word (codes "is") ∷ []) ++ spell.if_there (spell.word (codes "not")) not) (λ _. spell.word (codes "null") ∷ []) at_part (respell_word (codes "null") (codes "null") refl refl) (λ _.
    after_nothing at_part (((spell.name column ++ spell.word (codes "is") ∷ []) ++ spell.if_there (spell.word (codes "not")) not) ++ spell.word (codes "null") ∷ []) (c.IsNull column not)
    (null_pieces column not ∙ sym (null_is column not context.Part))))))))

-- a test is spelled alike in each context
test_same : (ts : List Token) (x : Cond) → g.test ts x → (here : Context) → condition x here ≡ condition x context.Part
unfolding g.test
test_same ts x h here = go h.5 where
  same : (y : Cond) → x ≡ y → condition y here ≡ condition y context.Part → condition x here ≡ condition x context.Part
  same y e f = subst (λ (z : Cond). condition z here ≡ condition z context.Part) (sym e) f

  go : ((do o ← one the_op; right ← g.right_side; nothing (c.Compare h.2 o right))
      or_else (do g.word (codes "is"); not ← g.optional_word (codes "not"); g.word (codes "null"); nothing (c.IsNull h.2 not))) h.1 x →
      condition x here ≡ condition x context.Part
  go (inl w) = same (c.Compare h.2 w.2 w.5.2) w.5.5.1 (compare_is h.2 w.2 w.5.2 here ∙ sym (compare_is h.2 w.2 w.5.2 context.Part))
  go (inr w) = same (c.IsNull h.2 w.5.2) w.5.5.5.1 (null_is h.2 w.5.2 here ∙ sym (null_is h.2 w.5.2 context.Part))

-- ---- conditions that fit within some levels in a context

pub data Fits : ℕ → Context → Cond → Type 0 where
  fits_test : (n : ℕ) (here : Context) (x : Cond) → Spells g.test (condition x context.Part) x → ((there : Context) → condition x there ≡ condition x context.Part) → Fits n here x
  fits_not : (n : ℕ) (here : Context) (x inner : Cond) → x ≡ c.Not inner → Fits n context.Part inner → Fits (suc n) here x
  fits_and : (n : ℕ) (here : Context) (x a b : Cond) → x ≡ c.And a b → is_part here ≡ false → Fits n context.And a → Fits n context.Part b → Fits n here x
  fits_and_within : (n : ℕ) (here : Context) (x a b : Cond) → x ≡ c.And a b → is_part here ≡ true → Fits n context.And a → Fits n context.Part b → Fits (suc n) here x
  fits_or : (n : ℕ) (here : Context) (x a b : Cond) → x ≡ c.Or a b → is_under_and here ≡ false → Fits n context.Or a → Fits n context.And b → Fits n here x
  fits_or_within : (n : ℕ) (here : Context) (x a b : Cond) → x ≡ c.Or a b → is_under_and here ≡ true → Fits n context.Or a → Fits n context.And b → Fits (suc n) here x

-- levels that aren't needed
higher : (n : ℕ) (here : Context) (x : Cond) → Fits n here x → Fits (suc n) here x
higher n here x (fits_test m h y s t) = fits_test (suc n) here x s t
higher n here x (fits_not m h y inner e f) = fits_not (suc m) here x inner e (higher m context.Part inner f)
higher n here x (fits_and m h y a b e p f i) = fits_and (suc n) here x a b e p (higher n context.And a f) (higher n context.Part b i)
higher n here x (fits_and_within m h y a b e p f i) = fits_and_within (suc m) here x a b e p (higher m context.And a f) (higher m context.Part b i)
higher n here x (fits_or m h y a b e p f i) = fits_or (suc n) here x a b e p (higher n context.Or a f) (higher n context.And b i)
higher n here x (fits_or_within m h y a b e p f i) = fits_or_within (suc m) here x a b e p (higher m context.Or a f) (higher m context.And b i)

-- with and without parentheses
fits_and_at : (n : ℕ) (there : Context) (x a b : Cond) → x ≡ c.And a b → Fits n context.And a → Fits n context.Part b → Fits (suc n) there x
fits_and_at n there x a b e f i = go (is_part there) refl where
  go : (q : Bool) → is_part there ≡ q → Fits (suc n) there x
  go true d = fits_and_within n there x a b e d f i
  go false d = fits_and (suc n) there x a b e d (higher n context.And a f) (higher n context.Part b i)

fits_or_at : (n : ℕ) (there : Context) (x a b : Cond) → x ≡ c.Or a b → Fits n context.Or a → Fits n context.And b → Fits (suc n) there x
fits_or_at n there x a b e f i = go (is_under_and there) refl where
  go : (q : Bool) → is_under_and there ≡ q → Fits (suc n) there x
  go true d = fits_or_within n there x a b e d f i
  go false d = fits_or (suc n) there x a b e d (higher n context.Or a f) (higher n context.And b i)

-- with one level more it fits in each context
moved : (n : ℕ) (here : Context) (x : Cond) → Fits n here x → (there : Context) → Fits (suc n) there x
moved n here x (fits_test m h y s t) there = fits_test (suc n) there x s t
moved n here x (fits_not m h y inner e f) there = fits_not (suc m) there x inner e (higher m context.Part inner f)
moved n here x (fits_and m h y a b e p f i) there = fits_and_at n there x a b e f i
moved n here x (fits_and_within m h y a b e p f i) there = fits_and_at (suc m) there x a b e (higher m context.And a f) (higher m context.Part b i)
moved n here x (fits_or m h y a b e p f i) there = fits_or_at n there x a b e f i
moved n here x (fits_or_within m h y a b e p f i) there = fits_or_at (suc m) there x a b e (higher m context.Or a f) (higher m context.And b i)

-- where fewer conditions need parentheses
false_from : (p q : Bool) → (q ≡ true → p ≡ true) → p ≡ false → q ≡ false
false_from p true h e = absurd (let f : true ≡ false = sym (h refl) ∙ e in cc)
false_from p false h e = refl

wider : (n : ℕ) (here : Context) (x : Cond) → Fits n here x → (there : Context) → (is_part there ≡ true → is_part here ≡ true) → (is_under_and there ≡ true → is_under_and here ≡ true) → Fits n there x
wider n here x (fits_test m h y s t) there u w = fits_test n there x s t
wider n here x (fits_not m h y inner e f) there u w = fits_not m there x inner e f
wider n here x (fits_and m h y a b e p f i) there u w = fits_and n there x a b e (false_from (is_part here) (is_part there) u p) f i
wider n here x (fits_and_within m h y a b e p f i) there u w = fits_and_at m there x a b e f i
wider n here x (fits_or m h y a b e p f i) there u w = fits_or n there x a b e (false_from (is_under_and here) (is_under_and there) w p) f i
wider n here x (fits_or_within m h y a b e p f i) there u w = fits_or_at m there x a b e f i

-- ---- what the grammar gives fits

module _ (n : ℕ) (between : List ℕ) (join : Cond → Cond → Cond) (item : G Cond) (low high : Context)
    (each : (ts : List Token) (x : Cond) → Fine ts → item ts x → Fits n low x)
    (start : (x : Cond) → Fits n low x → Fits n high x)
    (more : (a b : Cond) → Fits n high a → Fits n low b → Fits n high (join a b)) where
  fold_fits : (xs : List Cond) (a : Cond) (ts : List Token) → Fine ts → many (g.word between >> item) ts xs → Fits n high a → Fits n high (fold join a xs)
  fold_fits [] a ts fine h f = f
  fold_fits (x ∷ xs) a ts fine h f =
      let both : Fine (h.0 ++ h.1) = subst Fine h.2 fine in
      let link : Fine (h.3.0 ++ h.3.1) = subst Fine h.3.3 (fine_front h.0 h.1 both) in
      fold_fits xs (join a x) h.1 (fine_back h.0 h.1 both) h.4 (more a x f (each h.3.1 x (fine_back h.3.0 h.3.1 link) h.3.5))

  pub chain_fits : (ts : List Token) (x : Cond) → Fine ts → g.chain between join item ts x → Fits n high x
  unfolding g.chain
  chain_fits ts x fine h =
      let both : Fine (h.0 ++ h.1) = subst Fine h.3 fine in
      let rest : Fine (h.5.0 ++ h.5.1) = subst Fine h.5.3 (fine_back h.0 h.1 both) in
      subst (λ (y : Cond). Fits n high y) (sym h.5.5.1)
      (fold_fits h.5.2 h.2 h.5.0 (fine_front h.5.0 h.5.1 rest) h.5.4 (start h.2 (each h.0 h.2 (fine_front h.0 h.1 both) h.4)))

abbrev FitsAll : ℕ → Context → G Cond → Type 0
FitsAll n here item = (ts : List Token) (x : Cond) → Fine ts → item ts x → Fits n here x

cond_fits : (n : ℕ) (item : G Cond) → FitsAll n context.Part item → FitsAll n context.Or (g.cond_of item)
unfolding g.cond_of
cond_fits n item each =
    chain_fits n (codes "or") c.Or (g.chain (codes "and") c.And item) context.And context.Or
    (chain_fits n (codes "and") c.And item context.Part context.And each
    (λ x f. wider n context.Part x f context.And (λ e. absurd cc) (λ e. refl))
    (λ a b f i. fits_and n context.And (c.And a b) a b refl refl f i))
    (λ x f. wider n context.And x f context.Or (λ e. absurd cc) (λ e. absurd cc))
    (λ a b f i. fits_or n context.Or (c.Or a b) a b refl refl f i)

test_fits : (n : ℕ) → FitsAll n context.Part g.test
test_fits n ts x fine h = fits_test n context.Part x (respell_test ts x fine h) (test_same ts x h)

part_fits : (n : ℕ) → FitsAll n context.Part (g.part n)
unfolding g.part
part_fits zero ts x fine h = test_fits 0 ts x fine h
part_fits (suc n) ts x fine (inl h) =
    let both : Fine (h.0 ++ h.1) = subst Fine h.3 fine in
    let rest : Fine (h.5.0 ++ h.5.1) = subst Fine h.5.3 (fine_back h.0 h.1 both) in
    fits_not n context.Part x h.5.2 h.5.5.1 (part_fits n h.5.0 h.5.2 (fine_front h.5.0 h.5.1 rest) h.5.4)
part_fits (suc n) ts x fine (inr (inl h)) =
    let both : Fine (h.0 ++ h.1) = subst Fine h.3 fine in
    let rest : Fine (h.5.0 ++ h.5.1) = subst Fine h.5.3 (fine_back h.0 h.1 both) in
    let inner = cond_fits n (g.part n) (part_fits n) h.5.0 h.5.2 (fine_front h.5.0 h.5.1 rest) h.5.4 in
    subst (λ (y : Cond). Fits (suc n) context.Part y) (sym h.5.5.5.1) (moved n context.Or h.5.2 inner context.Part)
part_fits (suc n) ts x fine (inr (inr h)) = test_fits (suc n) ts x fine h

-- ---- what fits is given by its spelling

many_push : {A : Type 0} (item : G A) (ts us : List Token) (xs : List A) (x : A) → many item ts xs → item us x → many item (ts ++ us) (xs ++ x ∷ [])
many_push {A} item ts us [] x h i = (us, [], ap (λ (y : List Token). y ++ us) h ∙ sym (append-[] us), i, refl)
many_push {A} item ts us (y ∷ xs) x h i =
    (h.0, h.1 ++ us, ap (λ (z : List Token). z ++ us) h.2 ∙ append_assoc h.0 h.1 us, h.3, many_push item h.1 us xs x h.4 i)

module _ (between : List ℕ) (join : Cond → Cond → Cond) (item : G Cond) where
  -- a chain of one
  pub chain_one : (ps : List Piece) (x : Cond) → Spells item ps x → Spells (g.chain between join item) ps x
  unfolding g.chain
  chain_one ps x s = record {
    cut = s.cut;
    fits = λ ts h. (ts, [], x, sym (append-[] ts), s.fits ts h, ([], [], [], refl, refl, (refl, refl)));
  }

  link : (word : Spells (g.word between) (spell.word between ∷ []) tt) (qs : List Piece) (b : Cond) → Spells item qs b → Spells (g.word between >> item) (spell.word between ∷ qs) b
  link word qs b s = spells_then (spell.word between ∷ []) qs tt b word s

  -- a chain with one more
  pub chain_more : (word : Spells (g.word between) (spell.word between ∷ []) tt) (ps qs : List Piece) (a b : Cond) →
      Spells (g.chain between join item) ps a → Spells item qs b → Spells (g.chain between join item) (ps ++ spell.word between ∷ qs) (join a b)
  unfolding g.chain
  chain_more word ps qs a b s t = record {
    cut = cut_append ps (spell.word between ∷ qs) s.cut (link word qs b t).cut;
    fits = λ ts h.
        (let r = halves ps (spell.word between ∷ qs) ts h in
        let x = s.fits r.0 r.3 in
        let y = (link word qs b t).fits r.1 r.4 in
        let rest = x.5 in
        let last = rest.5 in
        let same : x.1 ≡ rest.0 = rest.3 ∙ ap (λ (z : List Token). rest.0 ++ z) last.0 ∙ append-[] rest.0 in (
          x.0,
          x.1 ++ r.1,
          x.2,
          r.2 ∙ ap (λ (z : List Token). z ++ r.1) x.3 ∙ append_assoc x.0 x.1 r.1,
          x.4,
          (
            rest.0 ++ r.1,
            [],
            rest.2 ++ b ∷ [],
            ap (λ (z : List Token). z ++ r.1) same ∙ sym (append-[] (rest.0 ++ r.1)),
            many_push (g.word between >> item) rest.0 r.1 rest.2 b rest.4 y,
            (refl, ap (λ (z : Cond). join z b) last.1 ∙ sym (fold-append join x.2 rest.2 (b ∷ []))),
          ),
        ));
  }

abbrev grammar_at : ℕ → Context → G Cond
grammar_at n context.Part = g.part n
grammar_at n context.And = g.chain (codes "and") c.And (g.part n)
grammar_at n context.Or = g.cond_of (g.part n)

test_part : (n : ℕ) (ps : List Piece) (x : Cond) → Spells g.test ps x → Spells (g.part n) ps x
unfolding g.part
test_part zero ps x s = s
test_part (suc n) ps x s = spells_right (spells_right s)

part_at : (n : ℕ) (here : Context) (ps : List Piece) (x : Cond) → Spells (g.part n) ps x → Spells (grammar_at n here) ps x
unfolding g.cond_of
part_at n context.Part ps x s = s
part_at n context.And ps x s = chain_one (codes "and") c.And (g.part n) ps x s
part_at n context.Or ps x s = chain_one (codes "or") c.Or (g.chain (codes "and") c.And (g.part n)) ps x (chain_one (codes "and") c.And (g.part n) ps x s)

and_at : (n : ℕ) (here : Context) (ps : List Piece) (x : Cond) → is_part here ≡ false → Spells (g.chain (codes "and") c.And (g.part n)) ps x → Spells (grammar_at n here) ps x
unfolding g.cond_of
and_at n context.Part ps x e s = absurd cc
and_at n context.And ps x e s = s
and_at n context.Or ps x e s = chain_one (codes "or") c.Or (g.chain (codes "and") c.And (g.part n)) ps x s

or_at : (n : ℕ) (here : Context) (ps : List Piece) (x : Cond) → is_under_and here ≡ false → Spells (g.cond_of (g.part n)) ps x → Spells (grammar_at n here) ps x
or_at n context.Part ps x e s = absurd cc
or_at n context.And ps x e s = absurd cc
or_at n context.Or ps x e s = s

-- between parentheses
spells_open : Spells (g.mark k.Open) (spell.open_mark ∷ []) tt
spells_open = spells_mark spell.open_mark cut_open

spells_close : Spells (g.mark k.Close) (spell.close_mark ∷ []) tt
spells_close = spells_mark spell.close_mark cut_close

spells_inner : (ps : List Piece) (x : Cond) (item : G Cond) → Spells item ps x → Spells (do g.mark k.Open; inner ← item; g.mark k.Close; nothing inner) (spell.open_mark ∷ (ps ++ spell.close_mark ∷ [])) x
spells_inner ps x item s =
    spells_then (spell.open_mark ∷ []) (ps ++ spell.close_mark ∷ []) tt x spells_open
    (spells_then ps (spell.close_mark ∷ []) x x s (spells_then (spell.close_mark ∷ []) [] tt x spells_close (spells_nothing x)))

parenthesized : (n : ℕ) (ps : List Piece) (x : Cond) → Spells (g.cond_of (g.part n)) ps x → Spells (g.part (suc n)) (spell.open_mark ∷ (ps ++ spell.close_mark ∷ [])) x
unfolding g.part
parenthesized n ps x s = spells_right (spells_left (spells_inner ps x (g.cond_of (g.part n)) s))

negated : (n : ℕ) (ps : List Piece) (x : Cond) → Spells (g.part n) ps x → Spells (g.part (suc n)) (spell.word (codes "not") ∷ ps) (c.Not x)
unfolding g.part
negated n ps x s =
    spells_left (subst (λ (qs : List Piece). Spells (do g.word (codes "not"); inner ← g.part n; nothing (c.Not inner)) (spell.word (codes "not") ∷ qs) (c.Not x)) (append-[] ps)
    (spells_then (spell.word (codes "not") ∷ []) (ps ++ []) tt (c.Not x) (spells_word (codes "not") (codes "not") refl refl) (spells_then ps [] x (c.Not x) s (spells_nothing (c.Not x)))))

spells_and : (n : ℕ) (ps qs : List Piece) (a b : Cond) → Spells (g.chain (codes "and") c.And (g.part n)) ps a → Spells (g.part n) qs b →
    Spells (g.chain (codes "and") c.And (g.part n)) (ps ++ spell.word (codes "and") ∷ qs) (c.And a b)
spells_and n ps qs a b s t = chain_more (codes "and") c.And (g.part n) (spells_word (codes "and") (codes "and") refl refl) ps qs a b s t

spells_or : (n : ℕ) (ps qs : List Piece) (a b : Cond) → Spells (g.cond_of (g.part n)) ps a → Spells (g.chain (codes "and") c.And (g.part n)) qs b →
    Spells (g.cond_of (g.part n)) (ps ++ spell.word (codes "or") ∷ qs) (c.Or a b)
unfolding g.cond_of
spells_or n ps qs a b s t = chain_more (codes "or") c.Or (g.chain (codes "and") c.And (g.part n)) (spells_word (codes "or") (codes "or") refl refl) ps qs a b s t

abbrev Spelled : ℕ → Context → Cond → Type 0
Spelled n here x = Spells (grammar_at n here) (condition x here) x

with_pieces : (n : ℕ) (here : Context) (x : Cond) (ps : List Piece) → condition x here ≡ ps → Spells (grammar_at n here) ps x → Spelled n here x
with_pieces n here x ps e s = subst (λ (qs : List Piece). Spells (grammar_at n here) qs x) (sym e) s

of_value : (n : ℕ) (here : Context) (x y : Cond) → x ≡ y → Spelled n here y → Spelled n here x
of_value n here x y e s = subst (λ (z : Cond). Spelled n here z) (sym e) s

-- the pieces of a join, with and without parentheses
bare : (a b : List Piece) (w : Piece) (q : Bool) → q ≡ false → spell.if_there spell.open_mark q ++ (a ++ w ∷ (b ++ spell.if_there spell.close_mark q)) ≡ a ++ w ∷ b
bare a b w q e = rw e (ap (λ (ps : List Piece). a ++ w ∷ ps) (append-[] b))

between : (a b : List Piece) (w : Piece) (q : Bool) → q ≡ true → spell.if_there spell.open_mark q ++ (a ++ w ∷ (b ++ spell.if_there spell.close_mark q)) ≡ spell.open_mark ∷ ((a ++ w ∷ b) ++ spell.close_mark ∷ [])
between a b w q e = rw e (ap (λ (ps : List Piece). spell.open_mark ∷ ps) (sym (append_assoc a (w ∷ b) (spell.close_mark ∷ []))))

spelled : (n : ℕ) (here : Context) (x : Cond) → Fits n here x → Spelled n here x
spelled n here x (fits_test m h y s t) = with_pieces n here x (condition x context.Part) (t here) (part_at n here (condition x context.Part) x (test_part n (condition x context.Part) x s))
spelled n here x (fits_not m h y inner e f) =
    let s = negated m (condition inner context.Part) inner (spelled m context.Part inner f) in
    let ps = spell.word (codes "not") ∷ condition inner context.Part in
    of_value (suc m) here x (c.Not inner) e (with_pieces (suc m) here (c.Not inner) ps (not_is inner here) (part_at (suc m) here ps (c.Not inner) s))
spelled n here x (fits_and m h y a b e p f i) =
    let ps = condition a context.And ++ spell.word (codes "and") ∷ condition b context.Part in
    let s = spells_and n (condition a context.And) (condition b context.Part) a b (spelled n context.And a f) (spelled n context.Part b i) in
    of_value n here x (c.And a b) e
    (with_pieces n here (c.And a b) ps (and_is a b here ∙ bare (condition a context.And) (condition b context.Part) (spell.word (codes "and")) (is_part here) p) (and_at n here ps (c.And a b) p s))
spelled n here x (fits_and_within m h y a b e p f i) =
    let ps = condition a context.And ++ spell.word (codes "and") ∷ condition b context.Part in
    let s = spells_and m (condition a context.And) (condition b context.Part) a b (spelled m context.And a f) (spelled m context.Part b i) in
    let t = parenthesized m ps (c.And a b) (and_at m context.Or ps (c.And a b) refl s) in
    of_value (suc m) here x (c.And a b) e
    (with_pieces (suc m) here (c.And a b) (spell.open_mark ∷ (ps ++ spell.close_mark ∷ []))
    (and_is a b here ∙ between (condition a context.And) (condition b context.Part) (spell.word (codes "and")) (is_part here) p)
    (part_at (suc m) here (spell.open_mark ∷ (ps ++ spell.close_mark ∷ [])) (c.And a b) t))
spelled n here x (fits_or m h y a b e p f i) =
    let ps = condition a context.Or ++ spell.word (codes "or") ∷ condition b context.And in
    let s = spells_or n (condition a context.Or) (condition b context.And) a b (spelled n context.Or a f) (spelled n context.And b i) in
    of_value n here x (c.Or a b) e
    (with_pieces n here (c.Or a b) ps (or_is a b here ∙ bare (condition a context.Or) (condition b context.And) (spell.word (codes "or")) (is_under_and here) p) (or_at n here ps (c.Or a b) p s))
spelled n here x (fits_or_within m h y a b e p f i) =
    let ps = condition a context.Or ++ spell.word (codes "or") ∷ condition b context.And in
    let s = spells_or m (condition a context.Or) (condition b context.And) a b (spelled m context.Or a f) (spelled m context.And b i) in
    let t = parenthesized m ps (c.Or a b) s in
    of_value (suc m) here x (c.Or a b) e
    (with_pieces (suc m) here (c.Or a b) (spell.open_mark ∷ (ps ++ spell.close_mark ∷ []))
    (or_is a b here ∙ between (condition a context.Or) (condition b context.And) (spell.word (codes "or")) (is_under_and here) p)
    (part_at (suc m) here (spell.open_mark ∷ (ps ++ spell.close_mark ∷ [])) (c.Or a b) t))

-- a whole condition
pub respell_cond : Respells g.cond (λ x. condition x context.Or)
unfolding g.cond
respell_cond ts x fine h = spelled 64 context.Or x (cond_fits 64 (g.part 64) (part_fits 64) ts x fine h)

pub respell_filter : Respells g.filter spell.filter
unfolding g.filter
respell_filter =
    respells spell.filter (after_or [] spell.filter
    (after_then [] (λ _. spell.word (codes "where") ∷ []) spell.filter (respell_word (codes "where") (codes "where") refl refl) (λ _.
    after_then (spell.word (codes "where") ∷ []) (λ x. condition x context.Or) spell.filter respell_cond (λ x.
    after_nothing spell.filter (spell.word (codes "where") ∷ condition x context.Or) (Some x) refl)))
    (after_nothing spell.filter [] None refl))

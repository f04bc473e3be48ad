-- What a reader has given after each of its steps.
use Rattle.std.proofs.Common.{◌^◌, ◌≡◌, ◌≢◌, ◌⊎◌, inl, inr, ◌<◌, ◌≤◌, ◌+◌, ℕ, Bool, true, false, List, [], ◌∷◌, ◌++◌, length, take, refl, sym, ap, ◌∙◌, subst, append_assoc, append-nil, length-append, arith, Option, Some, Ok}
use Rattle.std.proofs.lemmas.List.{take_at}
use Rattle.std.specs.Str.Lines.{strip_carriage_return}
use Rattle.tt_flow.specs.declared.lines.LineReader.{LineReader}
use Rattle.tt_flow.specs.declared.lines.Input.TheVariants.{Open, Ended, Over}
use Rattle.tt_flow.specs.declared.lines.LineRead.{LineRead}
use Rattle.tt_flow.specs.declared.lines.LineRead.TheVariants.{Line, TooLong, End, ScriptTooLong}
use Rattle.tt_flow.specs.Script.{measured, script_lines, script_most, ended_part, ended_lines}
use Rattle.tt_flow.specs.PutsLine.{told_line, PutsLine}
use Rattle.tt_flow.specs.Lines.{HasGiven, HasNoFeed, Reads, kept_bytes}
use Rattle.tt_flow.specs.Pieces.{Took}
use Rattle.tt_flow.proofs.Cuts.{script_lines_feed, script_lines_last, script_lines_cut, ended_part_none, ended_part_feed, no_feed_append, told_line-strip, told_line-last}

abbrev IsCut : List ℕ → Type 0
IsCut front = (front ≡ []) ⊎ ((body : List ℕ) × (front ≡ body ++ 10 ∷ []))

lines_after : (front rest : List ℕ) → IsCut front → script_lines (front ++ rest) ≡ script_lines front ++ script_lines rest
lines_after front rest (inl e) = ap (λ f. script_lines (f ++ rest)) e ∙ sym (ap (λ f. script_lines f ++ script_lines rest) e)
lines_after front rest (inr (body, e)) =
    ap (λ f. script_lines (f ++ rest)) e ∙ script_lines_cut body rest ∙ sym (ap (λ f. script_lines f ++ script_lines rest) e)

ended_front : (front tail : List ℕ) → IsCut front → HasNoFeed tail → ended_part (front ++ tail) ≡ front
ended_front front tail (inl e) h = ap (λ f. ended_part (f ++ tail)) e ∙ ended_part_none tail h ∙ sym e
ended_front front tail (inr (body, e)) h =
    ap (λ f. ended_part (f ++ tail)) e ∙ ap ended_part (append_assoc body (10 ∷ []) tail) ∙ ended_part_feed body tail h ∙ sym e

-- where bytes were taken and not given, or more can come, what was given ends with a line
cut_if_more : (front tail : List ℕ) (ended : Type 0) → (front ≡ []) ⊎ (((body : List ℕ) × (front ≡ body ++ 10 ∷ [])) ⊎ (ended × (tail ≡ [])))
    → (ended → tail ≢ []) → IsCut front
cut_if_more front tail ended (inl e) more = inl e
cut_if_more front tail ended (inr (inl b)) more = inr b
cut_if_more front tail ended (inr (inr (e, t))) more = absurd (more e t)

not_nil : (xs : List ℕ) → 0 < length xs → xs ≢ []
not_nil xs h e = let l : length xs ≡ 0 = ap length e in absurd (omega arith)

line_joined : (front line kept left : List ℕ) → front ++ ((line ++ 10 ∷ kept) ++ left) ≡ (front ++ (line ++ 10 ∷ [])) ++ (kept ++ left)
line_joined front line kept left = simp append_assoc

pub given_line : (old new : LineReader) (body : List ℕ) → kept_bytes old ≡ body ++ 10 ∷ kept_bytes new → HasNoFeed body
    → new.skipping ≡ false → new.taken ≡ old.taken → new.input ≡ old.input
    → (script left : List ℕ) (given : List (Option (List ℕ))) → HasGiven script given old left
    → HasGiven script (given ++ told_line old.skipping (strip_carriage_return body) ∷ []) new left
given_line old new body kept no_feed skipping taken input script left given h =
    let dropped : List ℕ = h.holds.dropped in
    let line : List ℕ = dropped ++ body in
    let tail : h.tail ≡ line ++ 10 ∷ kept_bytes new =
    h.holds.whole ∙ ap (λ l. dropped ++ l) kept ∙ sym (append_assoc dropped body (10 ∷ kept_bytes new)) in
    let long : 0 < length h.tail = omega (arith, ap length tail, length-append line (10 ∷ kept_bytes new)) in
    let cut : IsCut h.front = cut_if_more h.front h.tail _ h.cut (λ _. not_nil h.tail long) in
    let one : script_lines (line ++ 10 ∷ []) ≡ told_line old.skipping (strip_carriage_return body) ∷ [] =
    script_lines_feed line [] (no_feed_append dropped body h.holds.one_line no_feed)
    ∙ ap (λ t. t ∷ []) (told_line-strip old.skipping dropped body h.holds.long h.holds.none) in
    record {
      front = h.front ++ (line ++ 10 ∷ []);
      tail = kept_bytes new;
      whole = h.whole ∙ ap (λ t. h.front ++ (t ++ left)) tail ∙ line_joined h.front line (kept_bytes new) left;
      count = omega (arith, taken, h.count, ap length tail, length-append line (10 ∷ kept_bytes new), length-append line (10 ∷ []), length-append h.front (line ++ 10 ∷ []));
      given = lines_after h.front (line ++ 10 ∷ []) cut ∙ ap (λ ls. ls ++ script_lines (line ++ 10 ∷ [])) h.given ∙ ap (λ ls. given ++ ls) one;
      cut = inr (inl (h.front ++ line, sym (append_assoc h.front line (10 ∷ []))));
      holds = record { dropped = []; whole = refl; one_line = refl; long = λ e. cc; none = λ _. refl };
      ended = λ e. h.ended (sym input ∙ e);
      not_over = λ e. h.not_over (sym input ∙ e);
    }

tail_long : (skipping : Bool) (dropped kept : List ℕ) → (skipping ≡ true → 4098 ≤ length dropped) → (skipping ≡ false → 0 < length kept) → 0 < length (dropped ++ kept)
tail_long true dropped kept long some = let l : 4098 ≤ length dropped = long refl in omega (arith, length-append dropped kept)
tail_long false dropped kept long some = let l : 0 < length kept = some refl in omega (arith, length-append dropped kept)

pub given_last : (old new : LineReader) → HasNoFeed (kept_bytes old) → kept_bytes new ≡ [] → (old.skipping ≡ false → 0 < length (kept_bytes old)) → old.input ≡ Ended
    → new.skipping ≡ false → new.taken ≡ old.taken → new.input ≡ old.input
    → (script left : List ℕ) (given : List (Option (List ℕ))) → HasGiven script given old left
    → HasGiven script (given ++ told_line old.skipping (kept_bytes old) ∷ []) new left
given_last old new no_feed empty some ended skipping taken input script left given h =
    let dropped : List ℕ = h.holds.dropped in
    let long : 0 < length h.tail =
    subst (λ t. 0 < length t) (sym h.holds.whole) (tail_long old.skipping dropped (kept_bytes old) h.holds.long some) in
    let cut : IsCut h.front = cut_if_more h.front h.tail _ h.cut (λ _. not_nil h.tail long) in
    let none : HasNoFeed h.tail = subst HasNoFeed (sym h.holds.whole) (no_feed_append dropped (kept_bytes old) h.holds.one_line no_feed) in
    let one : script_lines h.tail ≡ told_line old.skipping (kept_bytes old) ∷ [] =
    script_lines_last h.tail none long ∙ ap (λ t. measured t ∷ []) h.holds.whole
    ∙ ap (λ t. t ∷ []) (told_line-last old.skipping dropped (kept_bytes old) h.holds.long h.holds.none) in
    record {
      front = h.front ++ h.tail;
      tail = [];
      whole = h.whole ∙ sym (append_assoc h.front h.tail left);
      count = omega (arith, taken, h.count, length-append h.front h.tail);
      given = lines_after h.front h.tail cut ∙ ap (λ ls. ls ++ script_lines h.tail) h.given ∙ ap (λ ls. given ++ ls) one;
      cut = inr (inr (input ∙ ended, refl));
      holds = record { dropped = []; whole = sym empty; one_line = refl; long = λ e. cc; none = λ _. refl };
      ended = λ e. h.ended (sym input ∙ e);
      not_over = λ e. h.not_over (sym input ∙ e);
    }

-- nothing is left to give
pub given_all : (reader : LineReader) → kept_bytes reader ≡ [] → reader.skipping ≡ false → reader.input ≡ Ended → reader.taken ≤ 2 ^ 30
    → (script left : List ℕ) (given : List (Option (List ℕ))) → HasGiven script given reader left → (length script ≤ script_most) × (script_lines script ≡ given)
given_all reader empty skipping ended most script left given h =
    let tail : h.tail ≡ [] = h.holds.whole ∙ ap (λ d. d ++ kept_bytes reader) (h.holds.none skipping) ∙ empty in
    let whole : script ≡ h.front ++ ([] ++ []) = h.whole ∙ ap (λ t. h.front ++ (t ++ left)) tail ∙ ap (λ l. h.front ++ l) (h.ended ended) in
    let all : script ≡ h.front = whole ∙ append-nil h.front in
    (let long = ap (λ (l : List ℕ). length l) all in let count = h.count in omega (arith, long, count, most), ap script_lines all ∙ h.given)

dropped_long : (skipping : Bool) (dropped kept : List ℕ) → (skipping ≡ true → 4098 ≤ length dropped) → (skipping ≡ false → 4098 ≤ length kept) → 4098 ≤ length (dropped ++ kept)
dropped_long true dropped kept long some = let l : 4098 ≤ length dropped = long refl in omega (arith, length-append dropped kept)
dropped_long false dropped kept long some = let l : 4098 ≤ length kept = some refl in omega (arith, length-append dropped kept)

pub given_dropped : (old new : LineReader) → HasNoFeed (kept_bytes old) → kept_bytes new ≡ [] → (old.skipping ≡ false → 4098 ≤ length (kept_bytes old))
    → new.skipping ≡ true → new.taken ≡ old.taken → new.input ≡ old.input
    → (script left : List ℕ) (given : List (Option (List ℕ))) → HasGiven script given old left → HasGiven script given new left
given_dropped old new no_feed empty some skipping taken input script left given h =
    record {
      front = h.front;
      tail = h.tail;
      whole = h.whole;
      count = taken ∙ h.count;
      given = h.given;
      cut = elim h.cut [ inl e ↦ inl e | inr (inl b) ↦ inr (inl b) | inr (inr (e, t)) ↦ inr (inr (input ∙ e, t)) ];
      holds = record {
        dropped = h.tail;
        whole = sym (ap (λ l. h.tail ++ l) empty ∙ append-nil h.tail);
        one_line = subst HasNoFeed (sym h.holds.whole) (no_feed_append h.holds.dropped (kept_bytes old) h.holds.one_line no_feed);
        long = λ _. subst (λ t. 4098 ≤ length t) (sym h.holds.whole) (dropped_long old.skipping h.holds.dropped (kept_bytes old) h.holds.long some);
        none = λ e. cc;
      };
      ended = λ e. h.ended (sym input ∙ e);
      not_over = λ e. h.not_over (sym input ∙ e);
    }

both_inputs : (reader : LineReader) → reader.input ≡ Open → reader.input ≡ Ended → ⊥
both_inputs reader o e = cc

pub given_took : (old new : LineReader) (bytes : List ℕ) → Took bytes old new → old.input ≡ Open → new.input ≢ Over
    → (script left rest : List ℕ) (given : List (Option (List ℕ))) → (new.input ≡ Ended → rest ≡ []) → left ≡ bytes ++ rest
    → HasGiven script given old left → HasGiven script given new rest
given_took old new bytes took opened not_over script left rest given ended consumed h =
    record {
      front = h.front;
      tail = h.tail ++ bytes;
      whole = h.whole ∙ ap (λ l. h.front ++ (h.tail ++ l)) consumed ∙ ap (λ l. h.front ++ l) (sym (append_assoc h.tail bytes rest));
      count = omega (arith, took.taken, h.count, length-append h.tail bytes);
      given = h.given;
      cut = elim h.cut [ inl e ↦ inl e | inr (inl b) ↦ inr (inl b) | inr (inr (e, t)) ↦ absurd (both_inputs old opened e) ];
      holds = record {
        dropped = h.holds.dropped;
        whole = ap (λ l. l ++ bytes) h.holds.whole ∙ append_assoc h.holds.dropped (kept_bytes old) bytes ∙ ap (λ l. h.holds.dropped ++ l) (sym took.kept);
        one_line = h.holds.one_line;
        long = λ e. h.holds.long (sym took.skipping ∙ e);
        none = λ e. h.holds.none (sym took.skipping ∙ e);
      };
      ended = ended;
      not_over = not_over;
    }

no_feed_tail : (reader : LineReader) (script left : List ℕ) (given : List (Option (List ℕ))) (h : HasGiven script given reader left) → HasNoFeed (kept_bytes reader) → HasNoFeed h.tail
no_feed_tail reader script left given h no_feed =
    subst HasNoFeed (sym h.holds.whole) (no_feed_append h.holds.dropped (kept_bytes reader) h.holds.one_line no_feed)

-- each line whose line feed was taken was given
pub given_ended : (reader : LineReader) → HasNoFeed (kept_bytes reader) → reader.input ≡ Open
    → (script left : List ℕ) (given : List (Option (List ℕ))) → HasGiven script given reader left
    → (count : ℕ) → count ≡ reader.taken → ended_lines (take count script) ≡ given
given_ended reader no_feed opened script left given h count is =
    let cut : IsCut h.front = cut_if_more h.front h.tail _ h.cut (λ e _. both_inputs reader opened e) in
    let long : count ≡ length (h.front ++ h.tail) = omega (arith, is, h.count, length-append h.front h.tail) in
    let taken : take count script ≡ h.front ++ h.tail =
    ap (take count) (h.whole ∙ sym (append_assoc h.front h.tail left)) ∙ take_at (h.front ++ h.tail) left count (sym long) in
    ap ended_lines taken ∙ ap script_lines (ended_front h.front h.tail cut (no_feed_tail reader script left given h no_feed)) ∙ h.given

pub length-script : (reader : LineReader) (script left : List ℕ) (given : List (Option (List ℕ))) → HasGiven script given reader left → length script ≡ reader.taken + length left
length-script reader script left given h =
    omega (arith, h.count, ap length h.whole, length-append h.front (h.tail ++ left), length-append h.tail left)

-- the answer after a line was put
pub Reads-put : (script left body line : List ℕ) (given : List (Option (List ℕ))) (skipping : Bool) (answer : LineRead) (new : LineReader)
    → PutsLine body skipping answer line → HasGiven script (given ++ told_line skipping body ∷ []) new left → Reads script given (Ok answer) line new (Some left)
Reads-put script left body line given skipping Line new put h = (left, refl, subst (λ t. HasGiven script (given ++ t ∷ []) new left) put h)
Reads-put script left body line given skipping TooLong new put h = (left, refl, subst (λ t. HasGiven script (given ++ t ∷ []) new left) put h)
Reads-put script left body line given skipping End new put h = absurd put
Reads-put script left body line given skipping ScriptTooLong new put h = absurd put

-- The bytes of a buffer from one place to another, after a cut, a write behind them and a move.
use Rattle.std.proofs.Common.{◌≡◌, ◌<◌, ◌≤◌, ◌+◌, ◌-◌, ◌==◌, ℕ, suc, true, false, ◌||◌, List, [], ◌∷◌, ◌++◌, length, take, drop, get_or, refl, sym, ap, ◌∙◌, subst, arith, length-drop, length-take, take-append-drop}
use Rattle.std.proofs.lemmas.List.{drop-take, drop-drop, take-take, drop_more, get_or-drop, get_or-take, drop-append-le, take-append-le, length-take-le}
use Rattle.std.proofs.Math.Seq.{take-add, take-append-add}
use Rattle.std.proofs.lemmas.Slice.{between_is}
use borrow.Rule.Slice.PartMut.{put_mid}
use Rattle.memchr.specs.Find.{NoneBefore}
use Rattle.tt_flow.proofs.Cuts.{no_feed_append}
use Rattle.std.proofs.lemmas.Bool.Decides.{nat_tests}
use Rattle.std.specs.List.{list_any}
use Rattle.tt_flow.specs.Lines.{HasNoFeed}
use Rattle.tt_flow.specs.Pieces.{IsFirstFeed}

pub kept_after : (start end count : ℕ) (buffer : List ℕ) → start + count ≤ end
    → drop count (take (end - start) (drop start buffer)) ≡ take (end - (start + count)) (drop (start + count) buffer)
kept_after start end count buffer h =
    let e : end - start ≡ count + (end - (start + count)) = omega arith in
    ap (λ n. drop count (take n (drop start buffer))) e ∙ drop-take count (end - (start + count)) (drop start buffer)
    ∙ ap (take (end - (start + count))) (drop-drop count start buffer)

pub kept_front : (start end count : ℕ) (buffer : List ℕ) → start + count ≤ end
    → take count (take (end - start) (drop start buffer)) ≡ take (start + count - start) (drop start buffer)
kept_front start end count buffer h =
    let l : count ≤ end - start = omega arith in
    let e : count ≡ start + count - start = omega arith in
    take-take count (end - start) (drop start buffer) l ∙ ap (λ n. take n (drop start buffer)) e

pub length-kept : (start end : ℕ) (buffer : List ℕ) → start ≤ end → end ≤ length buffer → length (take (end - start) (drop start buffer)) ≡ end - start
length-kept start end buffer h k = simp (length-take, length-drop) (omega arith)

-- ---- where the first line feed stands

pub no_feed_each : (bytes : List ℕ) → ((k : ℕ) → k < length bytes → (get_or bytes k 0 == 10) ≡ true → ⊥) → HasNoFeed bytes
no_feed_each [] h = refl
no_feed_each (x ∷ xs) h =
    let rest : HasNoFeed xs = no_feed_each xs (λ k l. h (suc k) (omega arith)) in
    elim (x == 10) as (λ v. ((v ≡ true) → ⊥) → (v || list_any (λ b. b == 10) xs) ≡ false) [
      | true ↦ λ no. absurd (no refl)
      | false ↦ λ _. rest
    ] (h 0 (omega arith))

pub kept_none : (start : ℕ) (buffer : List ℕ) → take (start - start) (drop start buffer) ≡ []
kept_none start buffer = let e : start - start ≡ 0 = omega arith in ap (λ n. take n (drop start buffer)) e

-- no line feed is in what was searched before, and none behind it
pub no_feed_from : (kept rest : List ℕ) (searched : ℕ) → rest ≡ drop searched kept → HasNoFeed (take searched kept)
    → ((k : ℕ) → 0 ≤ k → k < length rest → (get_or rest k 0 == 10) ≡ true → ⊥) → HasNoFeed kept
no_feed_from kept rest searched is before h =
    subst HasNoFeed (ap (λ l. take searched kept ++ l) is ∙ take-append-drop searched kept)
    (no_feed_append (take searched kept) rest before (no_feed_each rest (λ k l. h k (omega arith) l)))

is_feed : (b : ℕ) → (b == 10) ≡ true → b ≡ 10
is_feed b h = grind (arith, nat_tests)

-- the first line feed behind what was searched before is the first of all
pub first_feed_from : (kept rest : List ℕ) (searched further : ℕ) → rest ≡ drop searched kept → HasNoFeed (take searched kept)
    → NoneBefore (λ k. (get_or rest k 0 == 10) ≡ true) 0 (length rest) further → (get_or rest further 0 == 10) ≡ true
    → IsFirstFeed kept (searched + further)
first_feed_from kept rest searched further is before none at =
    let within : searched + further < length kept = omega (arith, none.high, ap length is, length-drop searched kept) in
    let feed : get_or kept (searched + further) 0 ≡ 10 =
    sym (get_or-drop searched kept further 0) ∙ ap (λ l. get_or l further 0) (sym is) ∙ is_feed (get_or rest further 0) at in
    let more : HasNoFeed (take further rest) =
    no_feed_each (take further rest) (λ k l e.
    let below : k < further = omega (arith, length-take further rest) in
    none.before k (omega arith) below (sym (ap (λ b. b == 10) (get_or-take further rest k 0 below)) ∙ e)) in
    record {
      within = within;
      whole = sym (take-append-drop (searched + further) kept)
          ∙ ap (λ l. take (searched + further) kept ++ l) (drop_more kept (searched + further) 0 within ∙ ap (λ b. b ∷ drop (searched + further + 1) kept) feed);
      before = subst HasNoFeed (ap (λ l. take searched kept ++ take further l) is ∙ sym (take-add searched further kept)) (no_feed_append (take searched kept) (take further rest) before more);
    }

-- what a write behind the kept bytes adds to them
pub kept_put : (start end room count : ℕ) (buffer part : List ℕ) → start ≤ end → end ≤ length buffer → count ≤ length part
    → take (end + count - start) (drop start (put_mid end room buffer part)) ≡ take (end - start) (drop start buffer) ++ take count part
kept_put start end room count buffer part ordered within fits =
    let rest : List ℕ = drop room (drop end buffer) in
    let kept : List ℕ = take (end - start) (drop start buffer) in
    let long : length (take end buffer) ≡ end = length-take-le end buffer within in
    let low : start ≤ length (take end buffer) = omega arith in
    let front : drop start (take end buffer ++ (part ++ rest)) ≡ kept ++ (part ++ rest) =
    drop-append-le start (take end buffer) (part ++ rest) low ∙ ap (λ l. l ++ (part ++ rest)) (sym (between_is buffer start end)) in
    let sum : end + count - start ≡ length kept + count = omega (arith, length-kept start end buffer ordered within) in
    ap (take (end + count - start)) front ∙ ap (λ n. take n (kept ++ (part ++ rest))) sum ∙ take-append-add kept (part ++ rest) count
    ∙ ap (λ l. kept ++ l) (take-append-le count part rest fits)

-- a write past the kept bytes leaves them
pub kept_put_none : (start end room : ℕ) (buffer part : List ℕ) → start ≤ end → end ≤ length buffer
    → take (end - start) (drop start (put_mid end room buffer part)) ≡ take (end - start) (drop start buffer) ++ []
kept_put_none start end room buffer part ordered within =
    let e : end - start ≡ end + 0 - start = omega arith in
    ap (λ n. take n (drop start (put_mid end room buffer part))) e ∙ kept_put start end room 0 buffer part ordered within (omega arith)

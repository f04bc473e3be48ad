-- What a reader has given after it took from its source.
use Rattle.std.proofs.Common.{◌≡◌, ◌<◌, ◌-◌, ◌^◌, ℕ, List, [], ◌++◌, length, refl, sym, ap, ◌∙◌, subst, append-nil, length-append, arith, Option, Some, None, Result, Ok, Err}
use Rattle.std.specs.Result.{IsErr}
use Rattle.std.specs.Io.KnownBytes.{Consumes, IsAtEnd}
use Rattle.tt_disk.specs.declared.volume.Failed.{Failed}
use Rattle.tt_flow.specs.declared.lines.LineReader.{LineReader}
use Rattle.tt_flow.specs.declared.lines.Input.TheVariants.{Open, Ended, Over}
use Rattle.tt_flow.specs.declared.lines.LineRead.{LineRead}
use Rattle.tt_flow.specs.declared.lines.Filled.{Filled}
use Rattle.tt_flow.specs.declared.lines.Filled.TheVariants.{More, NoMore, TooMany}
use Rattle.tt_flow.specs.Script.{script_most}
use Rattle.tt_flow.specs.Lines.{HasGiven, HasNoFeed, Reads, kept_bytes}
use Rattle.tt_flow.specs.Pieces.{Took, Takes, TakesPast, Fills, ReadsPiece, ChangesOnlyBuffer}
use Rattle.tt_flow.proofs.Given.{given_took, given_ended, length-script}

pub Takes-err : (bytes : List ℕ) (r : Result Filled Failed) (old new : LineReader) → IsErr r → Took bytes old new × (bytes ≡ []) × (new.input ≡ old.input) → Takes bytes r old new
Takes-err bytes (Ok v) old new is took = let never : ⊥ = cc in absurd never
Takes-err bytes (Err e) old new is took = took

-- the source failed, and each line whose line feed was taken was given
fills_err : (old new : LineReader) → HasNoFeed (kept_bytes old) → old.input ≡ Open → Took [] old new → new.input ≡ old.input
    → (script left rest : List ℕ) (given : List (Option (List ℕ))) (failed : Failed) → left ≡ [] ++ rest → HasGiven script given old left → Fills script given (Err failed) new (Some rest)
fills_err old new no_feed opened took input script left rest given failed consumed h = (
  rest,
  refl,
  given_took old new [] took opened (λ e. h.not_over (sym input ∙ e)) script left rest given (λ e. sym consumed ∙ h.ended (sym input ∙ e)) consumed h,
  given_ended old no_feed opened script left given h (length script - length rest) (omega (arith, length-script old script left given h, ap length consumed)),
)

ended_over : Ended ≡ Over → ⊥
ended_over e = cc

open_ended : Open ≡ Ended → ⊥
open_ended e = cc

fills_end : (old new : LineReader) → old.input ≡ Open → Took [] old new → new.input ≡ Ended
    → (script left rest : List ℕ) (given : List (Option (List ℕ))) → left ≡ [] ++ rest → rest ≡ [] → HasGiven script given old left → Fills script given (Ok NoMore) new (Some rest)
fills_end old new opened took input script left rest given consumed end h =
    (rest, refl, given_took old new [] took opened (λ e. ended_over (sym input ∙ e)) script left rest given (λ _. end) consumed h)

nothing_taken : (bytes left rest : List ℕ) → bytes ≡ [] → left ≡ bytes ++ rest → left ≡ [] ++ rest
nothing_taken bytes left rest none is = is ∙ ap (λ b. b ++ rest) none

pub Fills-past : (old new : LineReader) (bytes : List ℕ) (r : Result Filled Failed) (after : Option (List ℕ))
    → HasNoFeed (kept_bytes old) → old.input ≡ Open → old.taken ≡ 2 ^ 30 → TakesPast bytes r old new
    → (r ≡ Ok NoMore → IsAtEnd after) → (script left : List ℕ) (given : List (Option (List ℕ))) → Consumes (Some left) after bytes → HasGiven script given old left → Fills script given r new after
Fills-past old new bytes r None no_feed opened most took end script left given consumed h = absurd consumed
Fills-past old new bytes (Ok More) (Some rest) no_feed opened most took end script left given consumed h = absurd took
Fills-past old new bytes (Ok NoMore) (Some rest) no_feed opened most took end script left given consumed h =
    fills_end old new opened took.0 took.2 script left rest given (nothing_taken bytes left rest took.1 consumed) (end refl) h
Fills-past old new bytes (Ok TooMany) (Some rest) no_feed opened most took end script left given consumed h =
    let some : 0 < length bytes = took.1 in (
      omega (arith, most, length-script old script left given h, ap length consumed, length-append bytes rest),
      given_ended old no_feed opened script left given h script_most (sym most),
    )
Fills-past old new bytes (Err failed) (Some rest) no_feed opened most took end script left given consumed h =
    fills_err old new no_feed opened took.0 took.2 script left rest given failed (nothing_taken bytes left rest took.1 consumed) h

none_taken : (old new : LineReader) (bytes : List ℕ) → bytes ≡ [] → Took bytes old new → Took [] old new
none_taken old new bytes e took = subst (λ b. Took b old new) e took

pub Fills-more : (old new : LineReader) (bytes : List ℕ) (r : Result Filled Failed) (after : Option (List ℕ))
    → HasNoFeed (kept_bytes old) → old.input ≡ Open → Takes bytes r old new
    → (r ≡ Ok NoMore → IsAtEnd after) → (script left : List ℕ) (given : List (Option (List ℕ))) → Consumes (Some left) after bytes → HasGiven script given old left → Fills script given r new after
Fills-more old new bytes r None no_feed opened took end script left given consumed h = absurd consumed
Fills-more old new bytes (Ok More) (Some rest) no_feed opened took end script left given consumed h =
    (rest, refl, given_took old new bytes took.0 opened (λ e. h.not_over (sym took.2 ∙ e)) script left rest given (λ e. absurd (open_ended (sym opened ∙ sym took.2 ∙ e))) consumed h)
Fills-more old new bytes (Ok NoMore) (Some rest) no_feed opened took end script left given consumed h =
    fills_end old new opened (none_taken old new bytes took.1 took.0) took.2 script left rest given (nothing_taken bytes left rest took.1 consumed) (end refl) h
Fills-more old new bytes (Ok TooMany) (Some rest) no_feed opened took end script left given consumed h = absurd took
Fills-more old new bytes (Err failed) (Some rest) no_feed opened took end script left given consumed h =
    fills_err old new no_feed opened (none_taken old new bytes took.1 took.0) took.2 script left rest given failed (nothing_taken bytes left rest took.1 consumed) h

-- a reader that moved its bytes alone
pub given_same : (old new : LineReader) → kept_bytes new ≡ kept_bytes old → ChangesOnlyBuffer old new → old.input ≡ Open
    → (script left : List ℕ) (given : List (Option (List ℕ))) → HasGiven script given old left → HasGiven script given new left
given_same old new kept same opened script left given h =
    given_took old new [] (record { kept = kept ∙ sym (append-nil (kept_bytes old)); taken = omega (arith, same.taken); skipping = same.skipping }) opened
    (λ e. h.not_over (sym same.input ∙ e)) script left left given (λ e. h.ended (sym same.input ∙ e)) refl h

pub ReadsPiece-err : (script line : List ℕ) (given : List (Option (List ℕ))) (r : Result (Option LineRead) Failed) (failed : Failed) (new : LineReader) (after : Option (List ℕ))
    → IsErr r → Fills script given (Err failed) new after → ReadsPiece script given r line new after
ReadsPiece-err script line given (Ok v) failed new after is fills = let never : ⊥ = cc in absurd never
ReadsPiece-err script line given (Err e) failed new after is fills = fills

pub Reads-err : (script line other : List ℕ) (given : List (Option (List ℕ))) (r : Result LineRead Failed) (failed : Failed) (new : LineReader) (after : Option (List ℕ))
    → IsErr r → Reads script given (Err failed) other new after → Reads script given r line new after
Reads-err script line other given (Ok v) failed new after is reads = let never : ⊥ = cc in absurd never
Reads-err script line other given (Err e) failed new after is reads = reads

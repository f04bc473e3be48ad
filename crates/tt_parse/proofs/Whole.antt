-- A line is read whole, or off the grammar at an offset.
use Rattle.std.proofs.Common.{◌≡◌, ℕ, List, [], ◌∷◌, Result, Ok, Err, refl, sym, ap, ◌∙◌, subst, length, ◌≢◌}
use Rattle.tt_parse.specs.declared.command.Command.{Command}
use Rattle.tt_parse.specs.Grammar.{IsOff}
use Rattle.tt_parse.specs.Reader.{Read, after}
use Rattle.tt_parse.proofs.ExactLaws.{all_read, read_all, stuck_off, behind_off, off_once, in_not_off}
use Rattle.tt_value.specs.declared.refusal.Refusal.{Refusal}
use Rattle.tt_value.specs.declared.refusal.Refusal.TheVariants.{Syntax, NoMemory}
use Rattle.tt_parse.specs.Tokens.{Token, tokens_of}
use Rattle.tt_parse.specs.Cursor.{offset_in}
use Rattle.tt_parse.specs.Script as g
use Rattle.tt_parse.specs.Reading as r
use Rattle.std.specs.Prelude.{IfOk, IsUtf8}
use Rattle.tt_parse.specs.Parse.{Ends, WentTo, commands, session_of, Says, IsGiven}
use Rattle.tt_parse.proofs.ExactLine.{exact-line, more_line}

commands-body : (n : ℕ) (x : Read Token Command) → commands (after x (λ command rest. Ok ((n, command), rest))) ≡ x
commands-body n (Ok x) = refl
commands-body n (Err rest) = refl

-- what the session's reader leaves to the rest
pub line_session : (ts mid : List Token) (n : ℕ) → r.session ts ≡ Ok (n, mid) → commands (r.line ts) ≡ r.body mid
unfolding r.line
line_session ts mid n e = rw e (commands-body n (r.body mid))

pub line_off : (ts rest : List Token) → r.session ts ≡ Err rest → commands (r.line ts) ≡ Err rest
unfolding r.line
line_off ts rest e = rw e refl

abbrev with_session : ℕ → Command → List Token → Read Token (ℕ × Command)
with_session n command rest = Ok ((n, command), rest)

abbrev behind_session : ℕ → List Token → Read Token (ℕ × Command)
behind_session n mid = after (r.body mid) (with_session n)

body_whole : (n : ℕ) (y : Read Token Command) (command : Command) → commands (after y (with_session n)) ≡ Ok (command, []) → after y (with_session n) ≡ Ok ((n, command), [])
body_whole n (Ok y) command e =
    let p : y ≡ (command, []) = cc in
    ap (λ (q : Command × List Token). Ok ((n, q.0), q.1)) p
body_whole n (Err rest) command e = absurd cc

session_whole : (x : Read Token ℕ) (command : Command) → commands (after x behind_session) ≡ Ok (command, []) →
    after x behind_session ≡ Ok ((session_of x, command), [])
session_whole (Ok x) command e = body_whole x.0 (r.body x.1) command e
session_whole (Err rest) command e = absurd cc

line_whole : (ts : List Token) (command : Command) → commands (r.line ts) ≡ Ok (command, []) → r.line ts ≡ Ok ((session_of (r.session ts), command), [])
unfolding r.line
line_whole ts command e = session_whole (r.session ts) command e

line_off_at : (ts : List Token) (length : ℕ) (at : ℕ) (x : Read Token (ℕ × Command)) → r.line ts ≡ x → WentTo (commands x) length (Syntax at) →
    (behind : List Token) × IsOff g.line ts behind × (at ≡ offset_in length behind)
line_off_at ts length at (Ok x) e w = go x.1 refl where
  go : (rest : List Token) → x.1 ≡ rest → (behind : List Token) × IsOff g.line ts behind × (at ≡ offset_in length behind)
  go [] h = absurd (w.0 h)
  go (s ∷ rest) h =
      (s ∷ rest, behind_off g.line r.line more_line exact-line ts x.0 s rest (e ∙ ap (λ (t : List Token). Ok (x.0, t)) h), w.1 ∙ ap (λ (t : List Token). offset_in length t) h)
line_off_at ts length at (Err rest) e w = (rest, stuck_off g.line r.line more_line exact-line ts rest e, w)

pub line_says : (line : List ℕ) (session : ℕ) (what : Result Command Refusal) → session ≡ session_of (r.session (tokens_of line)) →
    Ends (commands (r.line (tokens_of line))) (length line) what → Says line session what
line_says line session (Ok command) n e =
    all_read g.line r.line more_line exact-line (tokens_of line) (session, command) (line_whole (tokens_of line) command e ∙ ap (λ (m : ℕ). Ok ((m, command), [])) (sym n))
line_says line session (Err (Syntax at)) n e = line_off_at (tokens_of line) (length line) at (r.line (tokens_of line)) refl e
line_says line session (Err NoMemory) n e = tt
line_says line session (Err _) n e = absurd e

same_command : (command other : Command) (x : Read Token Command) → x ≡ Ok (command, []) → (len : ℕ) (what : Result Command Refusal) → Ends x len what → what ≢ Err NoMemory → what ≡ Ok command
same_command command other x e len (Ok c) h given =
    let p : ◌≡◌ {A = Read Token Command} (Ok (c, [])) (Ok (command, [])) = sym h ∙ e in
    let q : ◌≡◌ {A = Command × List Token} (c, []) (command, []) = cc in
    ap (λ (y : Command × List Token). Ok y.0) q
same_command command other x e len (Err (Syntax at)) h given = absurd ((subst (λ (y : Read Token Command). WentTo y len (Syntax at)) e h).0 refl)
same_command command other x e len (Err NoMemory) h given = absurd (given refl)
same_command command other x e len (Err _) h given = absurd h

-- a line of the grammar is read, unless memory is wanting
pub line_only : (line : List ℕ) (session : ℕ) (what : Result Command Refusal) → session ≡ session_of (r.session (tokens_of line)) →
    Ends (commands (r.line (tokens_of line))) (length line) what →
    (n : ℕ) (command : Command) → g.line (tokens_of line) (n, command) → what ≢ Err NoMemory → (session ≡ n) × (what ≡ Ok command)
line_only line session what s e n command f given =
    let read = read_all g.line r.line more_line exact-line (tokens_of line) (n, command) f in
    let c : commands (r.line (tokens_of line)) ≡ Ok (command, []) = ap commands read in
    let w : ◌≡◌ {A = Read Token (ℕ × Command)} (Ok ((session_of (r.session (tokens_of line)), command), [])) (Ok ((n, command), [])) = sym (line_whole (tokens_of line) command c) ∙ read in
    let p : ◌≡◌ {A = (ℕ × Command) × List Token} ((session_of (r.session (tokens_of line)), command), []) ((n, command), []) = cc in (
      s ∙ ap (λ (y : (ℕ × Command) × List Token). y.0.0) p,
      same_command command command (commands (r.line (tokens_of line))) c (length line) what e given,
    )

-- a line off the grammar is refused at its offset, unless memory is wanting
pub line_off_only : (line : List ℕ) (session : ℕ) (what : Result Command Refusal) → Says line session what →
    (behind : List Token) → IsOff g.line (tokens_of line) behind → what ≢ Err NoMemory → what ≡ Err (Syntax (offset_in (length line) behind))
line_off_only line session (Ok command) says behind off given = absurd (in_not_off g.line (tokens_of line) behind (session, command) says off)
line_off_only line session (Err (Syntax at)) says behind off given =
    ap (λ (n : ℕ). Err (Syntax n)) (says.2 ∙ ap (λ (ts : List Token). offset_in (length line) ts) (off_once g.line (tokens_of line) says.0 behind says.1 off))
line_off_only line session (Err NoMemory) says behind off given = absurd (given refl)
line_off_only line session (Err _) says behind off given = absurd says

pub line_given : (line : List ℕ) (session : ℕ) (what : Result Command Refusal) → IsUtf8 line → Says line session what → IfOk what IsGiven
line_given line session (Ok command) utf8 says = (line, session, utf8, says)
line_given line session (Err refusal) utf8 says = tt

use Rattle.std.proofs.Common.{ℕ, sym, subst}
use Rattle.tt_parse.specs.Tokens.{tokens_of}
use Rattle.tt_parse.specs.Parse.{IsSession}
use Rattle.tt_parse.proofs.Whole.{line_says, line_off_only, line_given}
use Rattle.tt_parse.proofs.Bare.{line_bare}
use Rattle.tt_parse.proofs.Sessions.{session_is}
use Rattle.tt_parse.proofs.parse.parse_text.Goals as goal

pub returns-clause-off : goal.returns-clause-off
returns-clause-off c =
    line_off_only c.args.line.now c.parse_tokens.result.session c.parse_tokens.result.what
    (line_says c.args.line.now c.parse_tokens.result.session c.parse_tokens.result.what c.parse_tokens.ensures.session c.parse_tokens.ensures.what)

pub returns-clause-session : goal.returns-clause-session
returns-clause-session c = subst (λ (n : ℕ). IsSession (tokens_of c.args.line.now) n) (sym c.parse_tokens.ensures.session) (session_is (tokens_of c.args.line.now))

pub returns-clause-without_memory : goal.returns-clause-without_memory
returns-clause-without_memory c = λ n command f bare.
    let next = line_bare (tokens_of c.args.line.now) n command f bare in
    c.parse_tokens.ensures.without_memory next.0 next.1 next.2 next.3

pub returns-clause-given : goal.returns-clause-given
returns-clause-given c =
    line_given c.args.line.now c.parse_tokens.result.session c.parse_tokens.result.what c.requires.utf8
    (line_says c.args.line.now c.parse_tokens.result.session c.parse_tokens.result.what c.parse_tokens.ensures.session c.parse_tokens.ensures.what)

-- A line whose command is one word has that word behind its session.
use Rattle.std.proofs.Common.{◌≡◌, inl, inr, ℕ, Bool, true, false, List, [], Ok, refl, sym, ap, ◌∙◌}
use Rattle.tt_parse.specs.declared.command.Command.{Command}
use Rattle.tt_parse.specs.Grammar.{nothing, ◌>>=◌ as ◌then◌, ◌or_else◌}
use Rattle.tt_parse.specs.Reader.{next_is, read_nothing, ◌>>=◌, ◌>>◌}
use Rattle.tt_parse.proofs.Exact.{after_ok, ok_value, which, if_false}
use Rattle.tt_parse.proofs.ExactLaws.{read_all}
use Rattle.tt_parse.specs.Tokens.{Token}
use Rattle.tt_parse.specs.Script as g
use Rattle.tt_parse.specs.Script.{G}
use Rattle.tt_parse.specs.Reading as r
use Rattle.tt_parse.specs.Parse.{is_bare}
use Rattle.tt_parse.proofs.ExactLine.{chosen-statement, exact-line, more_line}

-- each value that is spelled fails the test
abbrev Fails : {A : Type 0} → (A → Bool) → G A → Type 0
Fails {A} test grammar = (u : List Token) (a : A) → grammar u a → test a ≡ false

behind : {A B : Type 0} {first : G A} {next : A → G B} {test : B → Bool} → ((a : A) → Fails test (next a)) → Fails test (first then next)
behind fails u b w = fails w.2 w.1 b w.5

both : {A : Type 0} {one other : G A} {test : A → Bool} → Fails test one → Fails test other → Fails test (one or_else other)
both f h u a (inl w) = f u a w
both f h u a (inr w) = h u a w

made : {A : Type 0} (test : A → Bool) (value : A) → test value ≡ false → Fails test (nothing value)
made test value h u a w = ap test w.1 ∙ h

statement_fails : Fails is_bare g.statement
unfolding is_bare g.statement g.create g.create_table g.create_index g.drop g.insert g.update g.delete g.select g.select_sums g.select_rows g.utility g.backup g.on_bookmark g.on_table g.next_update
statement_fails =
    both (behind (λ _. (both (behind (λ _. (behind (λ _. (behind (λ _. (behind (λ _. (behind (λ _. (behind (λ _. (behind (λ _. (behind (λ _. (behind (λ _. (made is_bare _ refl)))))))))))))))))))
    (behind (λ _. (behind (λ _. (behind (λ _. (behind (λ _. (behind (λ _. (behind (λ _. (made is_bare _ refl))))))))))))))))
    (both (behind (λ _. (both (behind (λ _. (behind (λ _. (made is_bare _ refl))))) (behind (λ _. (behind (λ _. (made is_bare _ refl))))))))
    (both (behind (λ _. (behind (λ _. (behind (λ _. (behind (λ _. (behind (λ _. (behind (λ _. (behind (λ _. (made is_bare _ refl)))))))))))))))
    (both (behind (λ _. (behind (λ _. (behind (λ _. (behind (λ _. (behind (λ _. (made is_bare _ refl)))))))))))
    (both (behind (λ _. (behind (λ _. (behind (λ _. (behind (λ _. (made is_bare _ refl)))))))))
    (both (behind (λ _. (both (behind (λ _. (behind (λ _. (behind (λ _. (behind (λ _. (made is_bare _ refl))))))))) (behind (λ _. (behind (λ _. (behind (λ _. (behind (λ _. (behind (λ _. (made is_bare _ refl))))))))))))))
    (both (behind (λ _. (behind (λ _. (behind (λ _. (made is_bare _ refl)))))))
    (both (behind (λ _. (behind (λ _. (made is_bare _ refl)))))
    (both (behind (λ _. (behind (λ _. (made is_bare _ refl)))))
    (both (behind (λ _. (behind (λ _. (behind (λ _. (made is_bare _ refl)))))))
    (both (behind (λ _. (behind (λ _. (behind (λ _. (made is_bare _ refl)))))))
    (both (behind (λ _. (behind (λ _. (made is_bare _ refl)))))
    (behind (λ _. (behind (λ _. (made is_bare _ refl))))))))))))))))

bare_next : (ts rest : List Token) (command : Command) → r.command ts ≡ Ok (command, rest) → is_bare command ≡ true → next_is r.is_bare ts ≡ true
unfolding r.command
bare_next ts rest command e bare = elim (which (next_is r.is_bare ts)) [
  | inl passes ↦ passes
  | inr fails ↦
      (let read : r.statement ts ≡ Ok (command, rest) = sym (if_false (next_is r.is_bare ts) (r.bare ts) (r.statement ts) fails) ∙ e in
      let f = chosen-statement.exact.got ts command rest read in
      let other = statement_fails f.front command f.fits in
      absurd (let p : true ≡ false = sym bare ∙ other in cc))
]

body_bare : (ts rest : List Token) (command : Command) → r.body ts ≡ Ok (command, rest) → is_bare command ≡ true → next_is r.is_bare ts ≡ true
unfolding r.body
body_bare ts rest command e bare =
    let first = after_ok (r.command ts) (λ c. r.semicolon >> read_nothing c) command rest e in
    let last = after_ok (r.semicolon first.rest) (λ _. read_nothing first.value) command rest first.second in
    let same : first.value ≡ command = ok_value first.value command last.rest rest last.second in
    bare_next ts first.rest first.value first.first (ap is_bare same ∙ bare)

-- the session that is read, and the word behind it
pub line_bare : (ts : List Token) (session : ℕ) (command : Command) → g.line ts (session, command) → is_bare command ≡ true →
    (n : ℕ) × (mid : List Token) × (r.session ts ≡ Ok (n, mid)) × (next_is r.is_bare mid ≡ true)
unfolding r.line
line_bare ts session command f bare =
    let read : r.line ts ≡ Ok ((session, command), []) = read_all g.line r.line more_line exact-line ts (session, command) f in
    let first = after_ok (r.session ts) (λ n. r.body >>= (λ c. read_nothing (n, c))) (session, command) [] read in
    let last = after_ok (r.body first.rest) (λ c. read_nothing (first.value, c)) (session, command) [] first.second in
    let same : (first.value, last.value) ≡ (session, command) = ok_value (first.value, last.value) (session, command) last.rest [] last.second in
    (first.value, first.rest, first.first, body_bare first.rest last.rest last.value last.first (ap (λ (x : ℕ × Command). is_bare x.1) same ∙ bare))

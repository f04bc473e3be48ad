-- The session of a line, by the prefix of its tokens.
use Rattle.std.proofs.Common.{◌≡◌, inl, inr, ℕ, true, false, List, ◌++◌, Ok, Err, refl, sym, ap, ◌∙◌}
use Rattle.tt_parse.specs.Reader.{Read, next_is}
use Rattle.tt_parse.proofs.Exact.{which, if_true, if_false, next-append, never_ends}
use Rattle.tt_parse.specs.declared.kind.Kind.TheVariants as k
use Rattle.tt_parse.specs.Tokens.{Token}
use Rattle.tt_parse.specs.Symbols.{is_mark, session_most}
use Rattle.tt_parse.specs.Script as g
use Rattle.tt_parse.specs.Reading as r
use Rattle.tt_parse.specs.Parse.{IsSession, session_of}
use Rattle.tt_parse.proofs.TokenTests.{begins_mark}
use Rattle.tt_parse.proofs.ExactLine.{exact-prefix}

prefix_begins : (front behind : List Token) (n : ℕ) → g.prefix front n → next_is (is_mark k.At) (front ++ behind) ≡ true
unfolding g.prefix
prefix_begins front behind n f = next-append (is_mark k.At) front behind (begins_mark k.At (λ _. g.digits 1 session_most) front n f)

prefix_session : (ts : List Token) (x : Read Token ℕ) → r.prefix ts ≡ x → IsSession ts (session_of x)
prefix_session ts (Ok x) e =
    let f = exact-prefix.got ts x.0 x.1 e in
    inl (f.front, x.1, f.whole, f.fits)
prefix_session ts (Err rest) e =
    inr (
      refl,
      λ p.
          (let read : r.prefix ts ≡ Ok (p.2, p.1) = ap r.prefix p.3 ∙ exact-prefix.reads p.0 p.1 p.2 p.4 (never_ends p.1) in
          let both : ◌≡◌ {A = Read Token ℕ} (Err rest) (Ok (p.2, p.1)) = sym e ∙ read in
          cc),
    )

pub session_is : (ts : List Token) → IsSession ts (session_of (r.session ts))
unfolding r.session
session_is ts = elim (which (next_is (is_mark k.At) ts)) [
  | inl passes ↦ rw (if_true (next_is (is_mark k.At) ts) (r.prefix ts) (Ok (1, ts)) passes) (prefix_session ts (r.prefix ts) refl)
  | inr fails ↦
      rw (if_false (next_is (is_mark k.At) ts) (r.prefix ts) (Ok (1, ts)) fails)
      (inr (refl, λ p. (let begins : true ≡ false = sym (prefix_begins p.0 p.1 p.2 p.4) ∙ ap (next_is (is_mark k.At)) (sym p.3) ∙ fails in cc)))
]

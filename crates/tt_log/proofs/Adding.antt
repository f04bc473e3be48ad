-- One more entry in the buffer.
use Rattle.std.proofs.Common.{◌≡◌, ◌<◌, ◌+◌, ◌||◌, ℕ, List, [], ◌∷◌, ◌++◌, length, take, refl, sym, ap, ◌∙◌, subst, Bool, true, false, arith, if◌then◌else◌, nat_lt, not}
use Rattle.std.proofs.lemmas.Bool.{lt-ltb}
use Rattle.tt_record.specs.declared.entry.Entry.{Entry}
use Rattle.tt_record.specs.Read.{entries_of}
use Rattle.tt_record.specs.Entry.{entry_bytes, length_of, IsBody}
use Rattle.tt_log.specs.Lengths.{total}
use Rattle.tt_record.specs.BodyLaws.{body_is_read, entry_body, bodies_join}
use Rattle.std.specs.Prelude.{IsOk}
use Rattle.tt_gate.specs.GateFile.{IsReady}
use Rattle.tt_log.specs.declared.log.Log.{Log}
use Rattle.tt_log.specs.Walk.{log_of, no_switch, is_switch}
use Rattle.tt_record.specs.Place.{position}
use Rattle.tt_log.specs.Log.{IsOpen, Puts, unforced, or_none, begins_file, forces_earlier, walk_end}
use Rattle.tt_log.proofs.Sums.{total_more, not_le}
use Rattle.tt_log.proofs.Forcing.{no_entries}
use Rattle.tt_disk.specs.Volume.{Files, Outcomes}

pub none_left : (log : Log) → log.buffered ≡ 0 → unforced log ≡ []
none_left log none = ap (λ (k : ℕ). or_none (entries_of (take k log.buffer.items))) none ∙ ap or_none no_entries

pub file_forces : (log : Log) (e : Entry) → log.file_size < log.forced_bytes + log.buffered + length_of e → forces_earlier log e ≡ true
file_forces log e past = ap (λ (b : Bool). not b || nat_lt (length log.buffer.items) (log.buffered + length_of e)) (not_le (log.forced_bytes + log.buffered + length_of e) log.file_size past)

or_true : (a b : Bool) → b ≡ true → (a || b) ≡ true
or_true true b is = refl
or_true false b is = is

pub buffer_forces : (log : Log) (e : Entry) → length log.buffer.items < log.buffered + length_of e → forces_earlier log e ≡ true
buffer_forces log e past = or_true (begins_file log e) _ (lt-ltb (length log.buffer.items) (log.buffered + length_of e) past)

pub nothing_waits : (log log' : Log) (e : Entry) → forces_earlier log e ≡ true → log'.buffered ≡ 0 → unforced log' ≡ (if forces_earlier log e then [] else unforced log)
nothing_waits log log' e is none = none_left log' none ∙ sym (ap (λ (b : Bool). if b then [] else unforced log) is)

no_switch_more : (es : List Entry) (e : Entry) → no_switch es ≡ true → is_switch e ≡ false → no_switch (es ++ e ∷ []) ≡ true
no_switch_more [] e plain not_one = ap (λ (b : Bool). if b then false else true) not_one
no_switch_more (f ∷ es) e plain not_one = by_test (is_switch f) plain (λ rest. no_switch_more es e rest not_one)
  where
    by_test : (b : Bool) → (if b then false else no_switch es) ≡ true → (no_switch es ≡ true → no_switch (es ++ e ∷ []) ≡ true) → (if b then false else no_switch (es ++ e ∷ [])) ≡ true
    by_test true plain again = cc
    by_test false plain again = again plain

-- the buffer, with an entry put into it
body_put : (log log' : Log) (e : Entry) → IsBody (take log.buffered log.buffer.items) (unforced log) → Puts e log log' → IsBody (take log'.buffered log'.buffer.items) (unforced log ++ e ∷ [])
body_put log log' e body p =
    subst (λ (l : List ℕ). IsBody l (unforced log ++ e ∷ [])) (sym p.bytes) (bodies_join (take log.buffered log.buffer.items) (entry_bytes e) (unforced log) (e ∷ []) body (entry_body e p.entry))

pub waits_too : (log log' : Log) (e : Entry) (now : Files) (may : Outcomes) → IsOpen log now may → Puts e log log' → unforced log' ≡ unforced log ++ e ∷ []
waits_too log log' e now may o p = ap or_none (body_is_read _ _ (body_put log log' e o.body p))

pub still_open : (log log' : Log) (e : Entry) (now : Files) (may : Outcomes) → is_switch e ≡ false → IsOpen log now may → Puts e log log' → IsOpen log' now may
still_open log log' e now may plain o p =
    let more = waits_too log log' e now may o p in
    record {
      gate = subst (λ f. IsReady f now may) (sym p.file) o.gate;
      fresh = ap (λ f. f.staged) p.file ∙ o.fresh;
      body = subst (λ (l : List Entry). IsBody (take log'.buffered log'.buffer.items) l) (sym more) (body_put log log' e o.body p);
      plain = ap no_switch more ∙ no_switch_more (unforced log) e o.plain plain;
      long = ap total more ∙ total_more (unforced log) (e ∷ []) ∙ omega (arith, o.long, p.used);
      whole = subst (λ k. IsOk (log_of k now)) (sym p.first) o.whole;
      end = subst (λ k. walk_end (log_of k now) ≡ position log'.current_file log'.forced_bytes) (sym p.first) (o.end ∙ ap (λ (k : ℕ). position k log.forced_bytes) (sym p.number) ∙ ap (λ (k : ℕ). position log'.current_file k) (sym p.base));
    }

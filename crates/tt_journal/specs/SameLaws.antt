-- What is said of a state's log is so of each state that has the same.
use Rattle.std.proofs.Common.{◌≡◌, ℕ, sym, subst}
use Rattle.tt_log.specs.declared.log.Log.{Log}
use Rattle.tt_model.specs.State.{State}
use Rattle.tt_model.specs.Works.{SameLog}
use Rattle.tt_journal.specs.LogTrail.{HasEnds, HasTrail, IsQuiet, LeavesPrefix}
use Rattle.tt_journal.specs.Onward.{IsOnward}
use Rattle.tt_disk.specs.Volume.{Files, Outcomes}

-- one state's log, and what another keeps beside it
abbrev laid : State → State → State
laid a b = record b { settings = a.settings; found = a.found; entries = a.entries; forced = a.forced; pages = a.pages; files = a.files }

is_laid : (b a : State) → SameLog b a → laid a b ≡ b
is_laid b a x = sym (λ i. record b { settings = x.settings i; found = x.found i; entries = x.entries i; forced = x.forced i; pages = x.pages i; files = x.files i })

pub same_stands : (log : Log) (now : Files) (b a : State) → SameLog b a → HasTrail log now a → HasTrail log now b
same_stands log now b a x h =
    subst (λ (s : State). HasTrail log now s) (is_laid b a x)
    (record { first = h.first; entries = h.entries; forced = h.forced; bounds = h.bounds; write = h.write; force = h.force; files = h.files; sizes = h.sizes })

pub same_prefix : (least : ℕ) (may : Outcomes) (b a : State) → SameLog b a → LeavesPrefix least a may → LeavesPrefix least b may
same_prefix least may b a x leaves =
    subst (λ (s : State). LeavesPrefix least s may) (is_laid b a x)
    (λ files left. let p = leaves files left in let f = p.2 in (p.0, p.1, record { most = f.most; found = f.found; is = f.is; entries = f.entries; end = f.end }))

pub same_is_onward : (s b a : State) → SameLog b a → IsOnward s a → IsOnward s b
same_is_onward s b a x o = subst (λ (t : State). IsOnward s t) (is_laid b a x) (record { found = o.found; forced = o.forced; file = o.file })

pub same_is_quiet : (s b a : State) → SameLog b a → IsQuiet s b → IsQuiet s a
same_is_quiet s b a x q = let p : IsQuiet s (laid a b) = subst (λ (t : State). IsQuiet s t) (sym (is_laid b a x)) q in record { forced = p.forced; file = p.file }

pub ends_of : (log : Log) (now : Files) (s : State) → HasTrail log now s → HasEnds log s
ends_of log now s h = record { write = h.write; force = h.force; size = h.sizes.0 }

-- From a decided line and its write to the line's clauses: once for all lines.
use Rattle.std.proofs.Common.{◌≡◌, ◌≤◌, ◌∙◌, inl, inr, ℕ, Bool, true, false, [], ◌∷◌, length, Option, Some, None, refl, sym, ap, subst, arith}
use Rattle.std.specs.Prelude.{IsSome}
use Rattle.tt_value.specs.declared.position.Position.{Position}
use Rattle.tt_value.specs.declared.refusal.Refusal.{Refusal}
use Rattle.tt_value.specs.declared.refusal.Refusal.TheVariants.{NoMemory}
use Rattle.tt_value.specs.declared.reply.Reply.TheVariants.{Refused as RefusedSo}
use Rattle.tt_record.specs.declared.entry.Entry.{Entry}
use Rattle.tt_record.specs.Entry.{IsEntry, length_of}
use Rattle.tt_record.specs.Place.{position_of}
use Rattle.tt_log.specs.Walk.{log_of}
use Rattle.tt_model.specs.Entries.{is_switch}
use Rattle.tt_log.specs.Log.{IsOpen, CrashLeavesForced, CrashLeavesLog}
use Rattle.tt_model.specs.Opened.{Opened}
use Rattle.tt_model.specs.State.{State}
use Rattle.tt_model.specs.Works.{SameLog, performed}
use Rattle.tt_recover.specs.Opening.{opened_from, opened_of, newest_first, opening}
use Rattle.tt_journal.specs.LogTrail.{IsQuiet, LeavesPrefix}
use Rattle.tt_journal.specs.LineLaws.{breaks_same, writes_same}
use Rattle.tt_journal.specs.Journal.{Breaks, CanFollow, Writes, listed}
use Rattle.tt_journal.proofs.TrailLemmas.{forced_read, left_forced}
use Rattle.tt_engine.specs.declared.engine.Engine.{Engine}
use Rattle.tt_engine.specs.declared.memory.Decided.{Decided}
use Rattle.tt_engine.specs.declared.memory.Memory.{Memory}
use Rattle.tt_engine.specs.declared.request.Request.{Request}
use Rattle.tt_engine.specs.Engine.{Advances, Represents, Stops, at}
use Rattle.tt_engine.specs.Memory.{InMemory, IsDecided}
use Rattle.tt_engine.specs.OpeningLaws.{reads_settled}
use Rattle.tt_engine.specs.PrefixLaws.{prefix_opens}
use Rattle.tt_engine.specs.RepresentsLaws.{behind_found}
use Rattle.tt_engine.specs.Prefixes.{IsBehindFound, LeavesOpening, LogsAreSettled, OpensForced}
use Rattle.tt_engine.specs.Request.{Answers, answer, takes_memory}
use Rattle.tt_disk.specs.declared.volume.Volume.{Ghosts}
use Rattle.tt_disk.specs.Volume.{Files}

-- ---- a line

pub decided_advances : {V : Type 0} (g : Ghosts V) (e e' : Engine) (old new : V) (s : State) (request : Request) (d : Decided) → IsDecided request s d e'.memory
    → Writes g e.log old s e'.log new (performed (record { entries = listed d.entry; force = d.force }) s) → Advances g (at e old) s request d.reply (at e' new)
decided_advances g e e' old new s request d i w =
    let writes = writes_same g e.log old s e'.log new i.after _ i.same w in
    record { after = i.after; answers = i.answers; stands = record { log = writes.stands; memory = i.memory }; writes = writes }

pub decided_stops : {V : Type 0} (g : Ghosts V) (e e' : Engine) (old new : V) (s : State) (request : Request) (d : Decided) → Represents e (g.now old) s → IsDecided request s d e'.memory
    → Breaks g e.log old s new (performed (record { entries = listed d.entry; force = d.force }) s) → Stops g e old s request new
decided_stops g e e' old new s request d h i b = by i.answers
  where
    whole : Breaks g e.log old s new i.after
    whole = breaks_same g e.log old s new i.after (performed (record { entries = listed d.entry; force = d.force }) s) i.same b

    leaves : CrashLeavesForced e.log (g.now old) (g.may old) → LeavesOpening s.forced i.after (g.may new)
    leaves k =
        prefix_opens s.forced i.after (g.may new) (behind_found e'.memory i.after i.memory)
        (subst (λ (f : Opened). length f.entries ≤ s.forced) (sym whole.onward.found) h.log.bounds.0) (whole.crash k)

    by : Answers request s d.reply i.after → Stops g e old s request new
    by (inl (is, behind)) = record {
      leaves = λ k. subst (λ (t : State). LeavesOpening s.forced t (g.may new)) behind (leaves k);
      breaks = subst (λ (t : State). Breaks g e.log old s new t) behind whole;
    }
    by (inr (takes, is, behind)) = absurd (whole.moves (subst (λ (t : State). IsQuiet s t) (sym behind) (record { forced = refl; file = refl })))

-- ---- decided lines

-- an answer with this work
pub work_same : (d : Decided) (s after : State) (o : Option Entry) (c : Bool) → d.entry ≡ o → d.force ≡ c → SameLog after (performed (record { entries = listed o; force = c }) s)
    → SameLog after (performed (record { entries = listed d.entry; force = d.force }) s)
work_same d s after o c is_o is_c x =
    subst (λ (p : Option Entry). SameLog after (performed (record { entries = listed p; force = d.force }) s)) (sym is_o)
    (subst (λ (b : Bool). SameLog after (performed (record { entries = listed o; force = b }) s)) (sym is_c) x)

-- an answer that leaves the log
pub no_work_same : (d : Decided) (s : State) → d.entry ≡ None → d.force ≡ false → SameLog s (performed (record { entries = listed d.entry; force = d.force }) s)
no_work_same d s none still = work_same d s s None false none still (record { settings = refl; found = refl; entries = refl; forced = refl; pages = refl; files = refl })

-- a refusal that the model gives
pub refused_so : (request : Request) (r : Refusal) (s : State) (d : Decided) (m : Memory) → InMemory m s → answer request s ≡ (RefusedSo r, s) → d.reply ≡ RefusedSo r → d.entry ≡ None → d.force ≡ false
    → IsDecided request s d m
refused_so request r s d m h is reply none still = record {
  after = s;
  answers = inl (reply ∙ sym (ap (λ a. a.0) is), sym (ap (λ a. a.1) is));
  memory = h;
  same = no_work_same d s none still;
}

-- memory is wanting
pub wanting_so : (request : Request) (s : State) (d : Decided) (m : Memory) → InMemory m s → takes_memory request ≡ true → d.reply ≡ RefusedSo NoMemory → d.entry ≡ None → d.force ≡ false → IsDecided request s d m
wanting_so request s d m h takes reply none still = record { after = s; answers = inr (takes, reply, refl); memory = h; same = no_work_same d s none still }

-- ---- entries that may follow

pub none_follow : (size : ℕ) (end : Position) (o : Option Entry) → o ≡ None → CanFollow size end (listed o)
none_follow size end o is = subst (λ (p : Option Entry). CanFollow size end (listed p)) (sym is) (record { entries = tt; places = refl })

pub one_follows : (size : ℕ) (end : Position) (e : Entry) → IsEntry e → is_switch e ≡ false → IsSome (position_of end (length_of e) size) → CanFollow size end (e ∷ [])
one_follows size end e entry plain some = record { entries = (record { entry = entry; plain = plain }, tt); places = by (position_of end (length_of e) size) some }
  where
    by : (o : Option Position) → IsSome o → (elim o as (λ x. Bool) [ None ↦ false | Some at ↦ true ]) ≡ true
    by (Some at) some = refl
    by None some = cc

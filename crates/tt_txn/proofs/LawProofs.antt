-- The laws of live transactions.
use Rattle.std.proofs.Common.{ℕ, ap, refl}
use Rattle.std.specs.Option.{option_map}
use Rattle.std.proofs.lemmas.Bool.{ne_eqb}
use Rattle.tt_txn.specs.declared.noted.Noted.{Noted}
use Rattle.tt_txn.specs.Live.{begun, taking, giving_back, noting, undoing}
use Rattle.tt_txn.specs.Laws.{CallsKeepWhole, FirstsStay, OwnCallsAreSeen, HoldersAreOthers}
use Rattle.tt_txn.proofs.Wholes.{whole_begun, whole_without, whole_taking, whole_giving}
use Rattle.tt_txn.proofs.Firsts.{whole_noting, whole_undoing, firsts_same, firsts_begun, firsts_without, elsewhere}
use Rattle.tt_txn.proofs.Keeps.{live_changed, noted_undoing, undone_none}
use Rattle.tt_txn.proofs.Views.{no_holder, own_is, other_is}

pub calls_keep : CallsKeepWhole
calls_keep = record {
  none = record { ascending = tt; in_range = tt; sessions = λ s. tt; names = λ s. tt; places = λ s. tt };
  begun_one = λ s n p ls within none new whole. whole_begun (begun s n p) ls within refl refl none new whole;
  taken = λ n name ls free whole. whole_taking n name ls free whole;
  given_back = λ n name ls whole. whole_giving n name ls whole;
  noted = λ n c ls free whole. whole_noting n c ls free whole;
  undone = λ n ls whole. whole_undoing n ls whole;
  ended = λ n ls whole. whole_without n ls whole;
}

pub firsts_stay : FirstsStay
firsts_stay = record {
  begun_one = λ s n p place ls. ap (option_map (λ (f : ℕ × Noted × ℕ). (f.0, f.1.before))) (firsts_begun (begun s n p) place ls refl);
  taken = λ n name place ls. ap (option_map (λ (f : ℕ × Noted × ℕ). (f.0, f.1.before))) (firsts_same n (taking name) place ls (λ l. refl) (λ l. refl));
  given_back = λ n name place ls. ap (option_map (λ (f : ℕ × Noted × ℕ). (f.0, f.1.before))) (firsts_same n (giving_back name) place ls (λ l. refl) (λ l. refl));
  noted_elsewhere = λ n c place ls apart. ap (option_map (λ (f : ℕ × Noted × ℕ). (f.0, f.1.before))) (elsewhere n c place ls (ne_eqb place c.place apart));
  ended = λ n place ls none. ap (option_map (λ (f : ℕ × Noted × ℕ). (f.0, f.1.before))) (firsts_without n place ls none);
}

pub own_calls : OwnCallsAreSeen
own_calls = record {
  taken = λ n name ls. live_changed n (taking name) ls (λ l. refl);
  given_back = λ n name ls. live_changed n (giving_back name) ls (λ l. refl);
  noted = λ n c ls. live_changed n (noting c) ls (λ l. refl);
  undone = λ n ls. live_changed n undoing ls (λ l. refl);
  left = noted_undoing;
  nothing_left = undone_none;
}

pub holders_are : HoldersAreOthers
holders_are = record {
  none = λ n name ls e. (no_holder n name ls e).0;
  own = λ n name ls whole e. (own_is n name ls e whole.ascending (whole.names name)).0;
  other = λ n found name ls e apart. other_is n name found ls e apart;
}

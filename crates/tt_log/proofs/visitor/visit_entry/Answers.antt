use Rattle.std.proofs.Common.{◌∙◌, sym}
use Rattle.tt_log.proofs.visitor.visit_entry.Goals as goal

pub returns-in_ok-visit-in-Some : goal.returns-in_ok-visit-in-Some
returns-in_ok-visit-in-Some g c =
    let within = rw c.in-Some.is at c.in_ok-entry.ensures.within in
    record {
      visits = record {
        has = record {
          entry = c.in-Some.entry;
          is = sym c.in_ok-entry.ensures.first ∙ c.in-Some.is;
          long = rw c.in-Some.is at c.in_ok-entry.ensures.long;
          some = within.0;
          within = within.1;
        };
        takes = λ ps t. c.in_ok-visit-in-Some.ensures.visited ps t;
      };
    }

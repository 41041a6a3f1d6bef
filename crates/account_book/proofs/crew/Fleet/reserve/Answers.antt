use Rattle.std.proofs.Common.{◌≤◌, ◌-◌, length, ap}
use Rattle.std.proofs.lemmas.List.{length-set}
use Rattle.account_book.specs.Crew.{Crew}
use Rattle.account_book.proofs.Flown.{flown_reserved}
use Rattle.account_book.proofs.Visits.{in_flight_at}
use Rattle.account_book.proofs.crew.Fleet.reserve.Goals as goal

pub invariant_of-self : goal.invariant_of-self
invariant_of-self c =
    let there : c.args.function ≤ length c.self.inside.pool.functions = rw (ap (λ (k : Crew). length k.pool.functions) c.self.view_is) c.requires.there in
    record {
      due = c.self.invariant.due;
      places = c.self.invariant.places;
      pool =
          rw c.reserve.ensures
          (flown_reserved c.self.inside.sites.items c.self.inside.pool c.args.function c.args.count c.requires.from_one (in_flight_at c.self.inside c.args.function c.self.invariant c.requires.from_one there) c.self.invariant.pool);
      owned = rw (c.reserve.ensures, length-set c.self.inside.pool.functions (c.args.function - 1) _) c.self.invariant.owned;
      narrow = c.self.invariant.narrow;
      ten = c.self.invariant.ten;
      few = c.self.invariant.few;
    }

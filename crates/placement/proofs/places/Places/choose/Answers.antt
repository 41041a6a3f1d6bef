use Rattle.std.proofs.Common.{◌≡◌, ◌∙◌, ℕ, List, Option, sym, ap, rules, get_or}
use Rattle.std.specs.Option.{option_or}
use Rattle.placement.specs.declared.free.Free.{Free}
use Rattle.placement.specs.declared.places.Place.{Place}
use Rattle.placement.specs.Places.{place_among}
use Rattle.placement.proofs.First.{marks_at, place_found, none_found}
use Rattle.placement.proofs.places.Places.choose.Goals as goal

pub returns-in_err-free : goal.returns-in_err-free
returns-in_err-free c =
    c.from_residual.ensures
    ∙ sym (none_found c.self.inside.free.items c.args.function c.self.inside.places.items c.self.invariant (search rules))
    ∙ ap (λ (places : List Place). place_among places c.args.function) c.self.view_is

pub returns : goal.returns
returns c =
    let free : Free = c.in_ok-free.free.now in
    let is : free ≡ get_or c.self.inside.free.items c.args.function free = c.in_ok-free.ensures.lookup.1 ∙ ap (λ (sets : List Free). get_or sets c.args.function free) c.deref.ensures.value in
    let marks = marks_at c.self.inside.free.items c.self.inside.places.items c.args.function free c.self.invariant (search rules) is in
    c.or-2.ensures
    ∙ ap (λ (o : Option ℕ). option_or o c.lowest-3.result) c.or.ensures
    ∙ place_found free c.args.function c.self.inside.places.items c.self.invariant.fits marks c.lowest.result c.lowest-2.result c.lowest-3.result
    (record { some = c.lowest.ensures.some; none = c.lowest.ensures.none })
    (record { some = c.lowest-2.ensures.some; none = c.lowest-2.ensures.none })
    (record { some = c.lowest-3.ensures.some; none = c.lowest-3.ensures.none })
    ∙ ap (λ (places : List Place). place_among places c.args.function) c.self.view_is

use Rattle.std.proofs.Common.{◌≡◌, ◌∙◌, ◌-◌, List, sym, ap, ap₂, get_or, set, rules}
use Rattle.placement.specs.declared.places.Place.{Place}
use Rattle.placement.specs.Places.{place_at}
use Rattle.placement.proofs.Numbered.{place_is_at}
use Rattle.placement.proofs.Noted.{note_follows}
use Rattle.placement.proofs.places.Places.note.Goals as goal

pub invariant_of-self : goal.invariant_of-self
invariant_of-self c =
    note_follows c.self.inside.free.items c.self.inside.places.items
    (c.args.env - 1) c.index_mut-place.result.now c.args.class c.index_mut.result.now c.note.new.self
    c.self.invariant (search rules) c.index_mut-place.ensures.value c.index_mut.ensures.value c.note.ensures.whole c.note.ensures.here c.note.ensures.others

pub returns : goal.returns
returns c =
    let found : Place = c.index_mut-place.result.now in
    let here : found ≡ place_at c.args.self.now c.args.env =
    c.index_mut-place.ensures.value
    ∙ ap (λ (places : List Place). get_or places (c.args.env - 1) found) c.self.view_is
    ∙ sym (place_is_at c.args.self.now c.args.env found c.requires.from_one c.requires.there) in
    ap₂ (λ (places : List Place) (place : Place). set places (c.args.env - 1) (record { function = place.function; class = c.args.class })) c.self.view_is here

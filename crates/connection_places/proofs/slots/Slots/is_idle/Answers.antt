use Rattle.std.proofs.Common.{◌∙◌, ap, sym}
use Rattle.std.specs.List.{list_all}
use Rattle.std.proofs.lemmas.List.Folds.{list_all-map}
use Rattle.connection_places.specs.Places.{Places, is_free, standing}
use Rattle.connection_places.proofs.slots.Slots.is_idle.Goals as goal

pub returns : goal.returns
returns g c =
    c.are_free.ensures
    ∙ ap (list_all (λ slot. is_free (standing slot))) c.as_slice.ensures.value
    ∙ sym (list_all-map is_free standing c.self.inside.slots.items)
    ∙ ap (λ (p : Places). list_all is_free p.places) c.self.view_is

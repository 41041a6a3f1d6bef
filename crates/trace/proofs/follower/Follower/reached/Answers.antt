use Rattle.std.proofs.Common.{◌∙◌, ap, refl}
use Rattle.std.specs.List.{flat_map}
use Rattle.trace.specs.Sites.{seen}
use Rattle.trace.proofs.Reaching.{numbered_before, reached_say_all}
use Rattle.trace.proofs.follower.Follower.reached.Goals as goal

pub within-requires : goal.within-requires
within-requires c =
    rw c.deref.ensures.value (numbered_before (seen c.self.inside.reach) (λ s. refl) c.self.inside.sites.items (rw c.self.view_is c.requires))

pub returns : goal.returns
returns c f still =
    ap (flat_map f) (rw c.deref.ensures.value at c.within.ensures)
    ∙ reached_say_all f c.self.inside.reach c.self.inside.sites.items still
    ∙ ap (flat_map f) c.self.view_is

use Rattle.std.proofs.Common.{◌≡◌, ◌∙◌, List, map, ap, refl}
use Rattle.std.proofs.lemmas.List.{with_items_is}
use Rattle.trace.specs.Sites.{counted_in, moved_if, seen, visited, HasRoom, IsFew}
use Rattle.trace.specs.declared.follower.followed.Followed.{Followed}
use Rattle.trace.proofs.Reaching.{all_after, all_before, numbered_after, numbered_before, seen_next}
use Rattle.trace.proofs.follower.Follower.take.Goals as goal

pub count_all-requires : goal.count_all-requires
count_all-requires c =
    rw c.as_mut_slice-sites.ensures.value
    (all_before IsFew (seen c.self.inside.reach) (λ s few. few) c.self.inside.sites.items (rw c.self.view_is c.requires.few))

pub take_within-requires-clause-numbered : goal.take_within-requires-clause-numbered
take_within-requires-clause-numbered c =
    rw (c.count_all.ensures, c.as_mut_slice-sites.ensures.value)
    (numbered_after (counted_in c.args.arrival.now.call.now) (λ s. refl) c.self.inside.sites.items
    (numbered_before (seen c.self.inside.reach) (λ s. refl) c.self.inside.sites.items (rw c.self.view_is c.requires.numbered)))

pub take_within-requires-clause-roomy : goal.take_within-requires-clause-roomy
take_within-requires-clause-roomy c =
    rw (c.count_all.ensures, c.as_mut_slice-sites.ensures.value)
    (all_after IsFew HasRoom (counted_in c.args.arrival.now.call.now) (λ s few. few.0) c.self.inside.sites.items
    (all_before IsFew (seen c.self.inside.reach) (λ s few. few) c.self.inside.sites.items (rw c.self.view_is c.requires.few)))

pub returns : goal.returns
returns c =
    let raw : List Followed = c.self.inside.sites.items in
    let counted : c.count_all.new.sites ≡ map (counted_in c.args.arrival.now.call.now) raw = c.count_all.ensures ∙ ap (map (counted_in c.args.arrival.now.call.now)) c.as_mut_slice-sites.ensures.value in
    ap (map (seen c.args.arrival.now.reach))
    (with_items_is c.self.inside.sites c.take_within.new.sites (c.take_within.auto.sites ∙ c.count_all.auto.sites ∙ c.as_mut_slice-sites.ensures.len)
    ∙ c.take_within.ensures ∙ ap (map (moved_if c.args.arrival.now)) counted)
    ∙ seen_next c.args.arrival.now c.self.inside.reach raw
    ∙ ap (map (visited c.args.arrival.now)) c.self.view_is

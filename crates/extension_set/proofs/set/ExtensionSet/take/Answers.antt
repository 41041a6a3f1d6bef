use Rattle.std.proofs.Common.{◌≡◌, arith, length, refl, ap, add-one, ◌∙◌, reverse, map, get_or}
use Rattle.extension_set.specs.Turns.{member_after}
use Rattle.std.proofs.lemmas.List.{with_items_is}
use Rattle.extension_set.proofs.EachExtension.{each_more, each_whole}
use Rattle.extension_set.proofs.set.ExtensionSet.take.Goals as goal

pub loop-member-preserved : goal.loop-member-preserved
loop-member-preserved c = rw (add-one c.loop-member.member-index, c.take.ensures.after)
    (each_more _ _ c.loop-member.member-index c.member-item.result (get_or c.loop-member.member-items c.loop-member.member-index c.member-item.result) _ _ _ _ _ c.loop-member.invariant c.loop-member-test.true refl c.take.ensures.given)

pub returns-clause-after : goal.returns-clause-after
returns-clause-after c =
    let at : c.loop-member.member-index ≡ length c.deref_mut-member-items.result.now = omega (arith, c.loop-member.auto.member-index-end, c.loop-member-test.false) in
    let long : length c.loop-member.member-items ≡ c.self.inside.members.len = omega (arith, c.loop-member.auto.member-items, c.deref_mut-member-items.ensures.len) in
    ap reverse (with_items_is c.self.inside.members c.loop-member.member-items long)
    ∙ (each_whole _ _ c.loop-member.member-index _ _ _ _ c.loop-member.invariant at).0
    ∙ ap (λ xs. map (member_after c.args.turn c.args.call.now) (reverse xs)) c.deref_mut-member-items.ensures.value
    ∙ ap (map (member_after c.args.turn c.args.call.now)) c.self.view_is

use Rattle.std.proofs.Common.{◌≡◌, arith, length, refl, ap, add-one, ◌∙◌, Some, reverse, map, get_or}
use Rattle.environment_step.specs.After.{member_second}
use Rattle.std.proofs.lemmas.List.{with_items_is}
use Rattle.extension_set.proofs.EachExtension.{each_more, each_whole}
use Rattle.extension_set.proofs.set.ExtensionSet.take_invoke.Goals as goal

pub loop-member-preserved : goal.loop-member-preserved
loop-member-preserved c = rw (add-one c.loop-member.member-index, c.offer.ensures.told)
    (each_more _ _ c.loop-member.member-index c.member-item.result (get_or c.loop-member.member-items c.loop-member.member-index c.member-item.result) _ _ _ _ _ c.loop-member.invariant c.loop-member-test.true refl c.offer.ensures.given)

pub returns-clause-told : goal.returns-clause-told
returns-clause-told c =
    let at : c.loop-member.member-index ≡ length c.deref_mut-member-items.result.now = omega (arith, c.loop-member.auto.member-index-end, c.loop-member-test.false) in
    let long : length c.loop-member.member-items ≡ c.self.inside.members.len = omega (arith, c.loop-member.auto.member-items, c.deref_mut-member-items.ensures.len) in
    ap reverse (with_items_is c.self.inside.members c.loop-member.member-items long)
    ∙ (each_whole _ _ c.loop-member.member-index _ _ _ _ c.loop-member.invariant at).0
    ∙ ap (λ xs. map (member_second (Some (c.args.invoke, c.args.deadline))) (reverse xs)) c.deref_mut-member-items.ensures.value
    ∙ ap (map (member_second (Some (c.args.invoke, c.args.deadline)))) c.self.view_is

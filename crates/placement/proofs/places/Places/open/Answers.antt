use Rattle.std.proofs.Common.{◌≡◌, ◌∙◌, ◌+◌, ◌-◌, ◌<◌, ◌++◌, ◌∷◌, [], ℕ, sym, ap, arith, map, length, length-set}
use Rattle.arn_ids.specs.Environments.{count_from, function_of}
use Rattle.arn_ids.proofs.Bounds.{environments_256}
use Rattle.placement.specs.declared.places.Place.{Place}
use Rattle.placement.specs.declared.class.Class.TheVariants.{StartingFree}
use Rattle.placement.proofs.Numbered.{count_more, numbered_length}
use Rattle.placement.proofs.First.{marks_at}
use Rattle.placement.proofs.Noted.{push_follows, function_there}
use Rattle.placement.proofs.places.Places.open.Goals as goal

pub index_mut-requires : goal.index_mut-requires
index_mut-requires c =
    let there = function_there c.args.config.now c.loop-index.index _ _ (length c.loop-index.free.items) c.environments-index-end.ensures c.loop-index-test.true c.function_of-function.ensures c.loop-index.invariant.1 in
    omega (arith, there, c.loop-index.free.ok)

pub note-requires-clause-whole : goal.note-requires-clause-whole
note-requires-clause-whole c =
    let there = function_there c.args.config.now c.loop-index.index _ _ (length c.loop-index.free.items) c.environments-index-end.ensures c.loop-index-test.true c.function_of-function.ensures c.loop-index.invariant.1 in
    (marks_at c.loop-index.free.items c.loop-index.places.items c.function_of-function.result c.index_mut.result.now c.loop-index.invariant.2 there c.index_mut.ensures.value).whole

pub note-requires-clause-within : goal.note-requires-clause-within
note-requires-clause-within c =
    omega (arith, environments_256 c.args.config.now c.functions.ensures.sound, c.loop-index-test.true, c.environments-index-end.ensures)

pub loop-index-preserved : goal.loop-index-preserved
loop-index-preserved c =
    let opened_at = λ (e : ℕ). let place : Place = record { function = function_of c.args.config.now e; class = StartingFree } in place in
    let place : Place = record { function = c.function_of-function.result; class = StartingFree } in
    let number : c.loop-index.index + 1 ≡ 1 + c.loop-index.index = omega arith in
    let last : c.loop-index.index + 1 - 1 ≡ length c.loop-index.places.items =
    (let e : c.loop-index.index + 1 - 1 ≡ c.loop-index.index = omega arith in e)
    ∙ sym (ap length c.loop-index.invariant.0 ∙ numbered_length opened_at 1 c.loop-index.index) in
    let there = function_there c.args.config.now c.loop-index.index _ _ (length c.loop-index.free.items) c.environments-index-end.ensures c.loop-index-test.true c.function_of-function.ensures c.loop-index.invariant.1 in
    let within : c.loop-index.index + 1 - 1 < 256 = omega (arith, environments_256 c.args.config.now c.functions.ensures.sound, c.loop-index-test.true, c.environments-index-end.ensures) in (
      c.in_ok-push.ensures.items
          ∙ ap (λ places. places ++ place ∷ []) c.loop-index.invariant.0
          ∙ ap
          (λ f. map opened_at (count_from 1 c.loop-index.index) ++ record { function = f; class = StartingFree } ∷ [])
          (c.function_of-function.ensures ∙ ap (function_of c.args.config.now) number)
          ∙ sym (count_more opened_at 1 c.loop-index.index),
      length-set c.loop-index.free.items c.function_of-function.result c.note.new.self ∙ c.loop-index.invariant.1,
      rw c.in_ok-push.ensures.items
          (push_follows c.loop-index.free.items c.loop-index.places.items (c.loop-index.index + 1 - 1) place c.index_mut.result.now c.note.new.self c.loop-index.invariant.2 last within there c.index_mut.ensures.value c.note.ensures.whole c.note.ensures.here c.note.ensures.others),
    )

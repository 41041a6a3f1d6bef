use Rattle.std.proofs.Common.{◌++◌, List, ℕ, ap, ap₂, ◌∙◌, arith}
use Rattle.handler_desk.proofs.Claiming.{Known, all, others, together, looks_as, apart}
use Rattle.handler_desk.proofs.claims.Claims.differ.Goals as goal

pub split_seat-lent-requires : goal.split_seat-lent-requires
split_seat-lent-requires g = (g.requires.other, (let one = g.args.self.now.one_word in omega arith), all _ _)

pub join_seat-requires : goal.join_seat-requires
join_seat-requires g =
    let lent = g.split_seat-lent.ensures in (
      g.requires.one,
      lent.3 ∙ g.requires.other,
      ap (λ (m : Known). m.1) lent.4,
      (let one = g.args.self.now.one_word in omega arith),
      together _ _ _ _,
    )

pub load-requires : goal.load-requires
load-requires g =
    let joined = g.join_seat.ensures in (
      joined.0 ∙ g.requires.one,
      (let one = g.args.self.now.one_word in omega arith),
      looks_as _ _ _ (ap (λ (m : Known). m.1) joined.2 ∙ ap (λ (m : Known). m.1) g.args.one.now.own),
    )

pub split_seat-back-requires : goal.split_seat-back-requires
split_seat-back-requires g = (
  g.load.ensures.0 ∙ g.join_seat.ensures.0 ∙ g.requires.one,
  (let one = g.args.self.now.one_word in omega arith),
  others _ _,
)

pub join_seat-requires-2 : goal.join_seat-requires-2
join_seat-requires-2 g =
    let back = g.split_seat-back.ensures in (
      g.split_seat-lent.ensures.0 ∙ g.requires.other,
      back.3 ∙ g.load.ensures.0 ∙ g.join_seat.ensures.0 ∙ g.requires.one,
      ap (λ (m : Known). m.1) back.4,
      (let one = g.args.self.now.one_word in omega arith),
      together _ _ _ _,
    )

pub returns-clause-differ : goal.returns-clause-differ
returns-clause-differ g =
    let ids : Known → List ℕ = λ m. m.0.ids in
    let lent = ap ids g.split_seat-lent.ensures.4 ∙ ap ids g.args.other.now.own in
    let both = ap ids g.join_seat.ensures.2 ∙ ap₂ (λ (a b : List ℕ). a ++ b) (ap ids g.args.one.now.own) lent in
    apart _ _ _ both g.load.ensures.2.1

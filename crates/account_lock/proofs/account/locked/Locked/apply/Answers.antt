use Rattle.std.proofs.Common.{ap, sym, ◌∙◌}
use Rattle.account_lock.proofs.Written.{goes_on, sees, took, turned_away}
use Rattle.account_lock.proofs.account.locked.Locked.apply.Goals as goal

pub write-requires : goal.write-requires
write-requires g c =
    goes_on _ _ _ _ _ _ (c.self.invariant.2 ∙ sym c.show.ensures.same)
    (ap (λ desk. desk.book.history) c.in-Ok.ensures.taken.taken)

pub returns-clause-taken : goal.returns-clause-taken
returns-clause-taken g c =
    (
    took (λ k l. Unit {0}) _ c.self.invariant.0 c.self.invariant.3 c.facts.ensures.reached c.self.invariant.2
    c.show.ensures.longer (c.token-2.ensures.all ∙ (c.token.ensures.same ∙ c.write.ensures)) c.requires.within
    c.in-Ok.ensures.taken tt).0

pub returns-in-Err-clause-refused : goal.returns-in-Err-clause-refused
returns-in-Err-clause-refused g c = (
  c.in-Err.ensures.refused.0,
  c.in-Err.ensures.same.1,
  turned_away c.self.inside.desk c.self.invariant.0 c.self.invariant.3 (c.self.invariant.2 ∙ sym c.show.ensures.all)
      (sees c.self.invariant.0 c.self.invariant.3 c.facts.ensures.reached c.self.invariant.2 c.show.ensures.all
      c.show.ensures.longer)
      c.in-Err.ensures.refused,
)

use Rattle.std.proofs.Common.{◌≡◌, false, ap, sym, ◌∙◌}
use Rattle.account_book.specs.Premature.{premature}
use Rattle.account_lock.proofs.Written.{not_taken, goes_on, sees, took}
use Rattle.account_lock.proofs.account.locked.Locked.submit_unless_premature.Goals as goal

pub write-requires : goal.write-requires
write-requires g c =
    goes_on _ _ _ _ _ _ (c.self.invariant.2 ∙ sym c.show.ensures.same)
    (ap (λ desk. desk.book.history) c.in-Ok.ensures.taken.0.taken)

pub returns-clause-taken : goal.returns-clause-taken
returns-clause-taken g c =
    took (λ k l. premature k l c.args.now c.args.call ≡ false) _ c.self.invariant.0 c.self.invariant.3
    c.facts.ensures.reached c.self.invariant.2 c.show.ensures.longer
    (c.token-2.ensures.all ∙ (c.token.ensures.same ∙ c.write.ensures)) c.requires.within
    c.in-Ok.ensures.taken.0 c.in-Ok.ensures.taken.1

pub returns-in-Err-clause-not_taken : goal.returns-in-Err-clause-not_taken
returns-in-Err-clause-not_taken g c = (
  c.in-Err.ensures.same.1,
  not_taken _ _ _ _ c.self.inside.desk c.self.invariant.0 c.self.invariant.3 (c.self.invariant.2 ∙ sym c.show.ensures.all)
      (sees c.self.invariant.0 c.self.invariant.3 c.facts.ensures.reached c.self.invariant.2 c.show.ensures.all
      c.show.ensures.longer)
      c.in-Err.ensures.not_taken,
)

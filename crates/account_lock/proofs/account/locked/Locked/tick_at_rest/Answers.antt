use Rattle.std.proofs.Common.{◌≡◌, true, Option, Some, IfSome, ap, subst, sym, ◌∙◌}
use Rattle.account_lock.specs.Desks.{at_rest}
use Rattle.account_lock.proofs.Written.{goes_on, took}
use Rattle.account_lock.proofs.account.locked.Locked.tick_at_rest.Goals as goal

-- what is said of a value that is there
if_there : {A : Type 0} (Q : A → Type 0) {o : Option A} {a : A} → o ≡ Some a → IfSome o Q → Q a
if_there {A} Q same said = subst (λ (x : Option A). IfSome x Q) same said

pub write-requires : goal.write-requires
write-requires g c =
    let made = if_there _ c.in-Ok-Some.field-0-is c.in-Ok-Some.ensures.taken in
    goes_on _ _ _ _ _ _ (c.self.invariant.2 ∙ sym c.show.ensures.same) (ap (λ desk. desk.book.history) made.0.taken)

pub returns-clause-taken : goal.returns-clause-taken
returns-clause-taken g c =
    let made = if_there _ c.in-Ok-Some.field-0-is c.in-Ok-Some.ensures.taken in
    took (λ k l. at_rest k l ≡ true) _ c.self.invariant.0 c.self.invariant.3 c.facts.ensures.reached
    c.self.invariant.2 c.show.ensures.longer (c.token.ensures.all ∙ c.write.ensures) tt made.0 made.1

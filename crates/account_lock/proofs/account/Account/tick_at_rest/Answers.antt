use Rattle.std.proofs.Common.{◌≡◌, Option, Some, IfSome, subst}
use Rattle.account_lock.proofs.account.Account.tick_at_rest.Goals as goal

if_there : {A : Type 0} (Q : A → Type 0) {o : Option A} {a : A} → o ≡ Some a → IfSome o Q → Q a
if_there {A} Q same said = subst (λ (x : Option A). IfSome x Q) same said

pub returns-in-Ok-Some-clause-taken : goal.returns-in-Ok-Some-clause-taken
returns-in-Ok-Some-clause-taken g c =
    rw c.ring_out.ensures (if_there _ c.in-Ok-Some.field-0-is c.in-Ok-Some.ensures.taken)

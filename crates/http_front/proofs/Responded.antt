-- What a response's future gives, by what its exchange gives.
use Rattle.std.proofs.Common.{◌≡◌, Option, Some, None, Result, Ok, Err, IfOk, MatchOption, IsSomeAnd, subst, sym}

-- Of exchanges, which give results, of which responses are; and of refusals, of which responses are.
module _ {F B M R X : Type 0} (gives : B → M → Type 0) (answers : M → R → Type 0) (refuses : F → R → Type 0) where
  -- A response that a future gives with this refusal or this exchange.
  abbrev Gives : Option F → Option B → Result R X → Type 0
  Gives refusal exchange answer = IfOk answer (λ response. MatchOption refusal
      (IsSomeAnd exchange (λ e. (made : M) × gives e made × answers made response)) (λ f. refuses f response))

  -- What it gives after its exchange has moved on, it gave before.
  pub given_before : (refusal : Option F) (exchange : Option B) (before after : B) → exchange ≡ Some before
      → ((made : M) → gives after made → gives before made) → (answer : Result R X)
      → Gives refusal (Some after) answer → Gives refusal exchange answer
  given_before refusal exchange before after at same (Err fault) given = given
  given_before (Some f) exchange before after at same (Ok response) given = given
  given_before None exchange before after at same (Ok response) given =
      subst (λ (e : Option B). IsSomeAnd e (λ e. (made : M) × gives e made × answers made response)) (sym at)
      (given.0, same given.0 given.1, given.2)

  -- It gives the response of what its exchange gave.
  pub given_by : (refusal : Option F) (exchange : Option B) (before : B) (made : M) → refusal ≡ None
      → exchange ≡ Some before → gives before made → (answer : Result R X) → IfOk answer (answers made)
      → Gives refusal exchange answer
  given_by refusal exchange before made is at gave (Err fault) answered = answered
  given_by refusal exchange before made is at gave (Ok response) answered =
      subst (λ (r : Option F). MatchOption r
      (IsSomeAnd exchange (λ e. (made : M) × gives e made × answers made response)) (λ f. refuses f response)) (sym is)
      (subst (λ (e : Option B). IsSomeAnd e (λ e. (made : M) × gives e made × answers made response)) (sym at)
      (made, gave, answered))

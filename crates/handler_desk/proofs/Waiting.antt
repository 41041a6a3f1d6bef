-- Who waits.
use Rattle.std.proofs.Common.{ℕ, zero, suc, Bool, true, false, cond, List, [], ◌∷◌, IfSome, refl, arith}
use Rattle.std.specs.List.{Contains}
use Rattle.std.specs.Map.{remove_entry}
use Rattle.handover.specs.Counters.{first_of, others_of}
use Rattle.handover.specs.declared.request.Request.{Request}

module _ {X : Type 0} where
  -- what is in the second list is in the first
  abbrev pub Remains : List X → List X → Type 0
  Remains before after = (x : X) → Contains after x → Contains before x

  there : (y : X) (xs : List X) (x : X) → Contains xs x → Contains (y ∷ xs) x
  there y xs x c = (suc c.0, (let h = c.1 in omega arith), c.2)

  here : (x : X) (xs : List X) → Contains (x ∷ xs) x
  here x xs = (0, (omega arith), refl)

kept : {X : Type 0} (e : X) (es less : List X) (x : X) → (Contains less x → Contains es x)
    → Contains (e ∷ less) x → Contains (e ∷ es) x
kept e es less x by (zero, short, is) = (zero, (omega arith), is)
kept e es less x by (suc k, short, is) = there e es x (by (k, (let h = short in omega arith), is))

pub removed : {X : Type 0} (test : ℕ → Bool) (entries : List (ℕ × X)) → Remains entries (remove_entry test entries)
removed test [] x = λ c. c
removed test (e ∷ es) x =
    elim (test e.0) as (λ b. Contains (cond b es (e ∷ remove_entry test es)) x → Contains (e ∷ es) x)
    [ true ↦ there e es x | false ↦ kept e es (remove_entry test es) x (removed test es x) ]

pub others : (waiting : List (ℕ × Request)) → Remains waiting (others_of waiting)
others [] x c = c
others (e ∷ es) x c = there e es x c

pub first : (waiting : List (ℕ × Request)) → IfSome (first_of waiting) (Contains waiting)
first [] = tt
first (e ∷ es) = here e es

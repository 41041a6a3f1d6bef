-- The roles of parked Nexts, those of extensions among them.
use Rattle.std.proofs.Common.{◌≡◌, ℕ, suc, ◌<◌, Bool, true, false, List, [], ◌∷◌, Option, Some, sym, refl, ap, ap₂, ◌∙◌}
use Rattle.std.proofs.Common.{subst, inl, inr, arith, ◌⊎◌, is_some, ◌&&◌, map, true≢false, if◌then◌else◌}
use Rattle.std.specs.List.{find}
use Rattle.call_types.specs.declared.call.Entry.{Entry}
use Rattle.arn_ids.specs.declared.config.Config.{Config}
use Rattle.call_model.specs.History.{call_of}
use Rattle.call_model.specs.Generation.{Generation, Extension, Actor, TheRuntime, TheExtension, parked, asks, extensions, member, members}
use Rattle.call_model.specs.Stand.{is_number, at_hand, role, RuntimePoll, ExtensionPoll, waits_as}
use Rattle.call_model.specs.Life.{life, stand, seen, request_at, registrations}
use Rattle.call_model.specs.Next.{IsLegal}
use Rattle.call_types.specs.Calls.{is_invoke}
use Rattle.call_model.proofs.AtHand.{held}
use Rattle.call_model.proofs.BoundWaits.{IsPart, generation_part, invoke_asks}
use Rattle.environment_step.proofs.Extensions.{IsUnder, counts_fall}
use Rattle.call_model.proofs.Basics.{eqb-self}
use Rattle.call_types.specs.declared.answer.Phase.{Phase}
use Rattle.call_model.proofs.Roles.{parked_asks_for, one_asker, not_both, other_number, not_waiting}

abbrev pub IsIn : Extension → List Extension → Type 0
IsIn x [] = ⊥
IsIn x (y ∷ ys) = (x ≡ y) ⊎ IsIn x ys

pub map_in : {B : Type 0} (f g : Extension → B) (xs : List Extension) → ((x : Extension) → IsIn x xs → f x ≡ g x) → map f xs ≡ map g xs
map_in f g [] e = refl
map_in f g (x ∷ xs) e = ap₂ ◌∷◌ (e x (inl refl)) (map_in f g xs (λ y i. e y (inr i)))

pub under_in : (b : ℕ) (xs : List Extension) (x : Extension) → IsUnder b xs → IsIn x xs → x.count < b
under_in b [] x u i = absurd i
under_in b (y ∷ ys) x u i = elim i [
  | inl q ↦ subst (λ (z : Extension). z.count < b) (sym q) u.0
  | inr k ↦ (let small : x.count < y.count = under_in y.count ys x u.1 k in let top : y.count < b = u.0 in omega (arith, small, top))
]

if_yes : {A : Type 0} (b : Bool) (x y : A) → b ≡ true → (if b then x else y) ≡ x
if_yes true x y e = refl
if_yes false x y e = absurd (true≢false (sym e))

pub find_member : (h : List Entry) (g : Generation) (x : Extension) (t b : ℕ) → IsPart h g
    → parked h g (TheExtension x.count) ≡ Some t → (xs : List Extension) → IsUnder b xs → IsIn x xs
    → find (λ y. is_number y.next t) (map (member h g) xs) ≡ Some (member h g x)
find_member h g x t b p q [] u i = absurd i
find_member h g x t b p q (y ∷ ys) u i = elim i [
  | inl same ↦ here same
  | inr k ↦ rw (other_number (parked h g (TheExtension y.count)) t (λ r. apart k r)) (find_member h g x t y.count p q ys u.1 k)
]
  where
    here : x ≡ y
        → (if is_number (parked h g (TheExtension y.count)) t then Some (member h g y) else find (λ z. is_number z.next t) (map (member h g) ys)) ≡ Some (member h g x)
    here same =
        if_yes (is_number (parked h g (TheExtension y.count)) t) (Some (member h g y)) _ (ap (λ (o : Option ℕ). is_number o t) (ap (λ (z : Extension). parked h g (TheExtension z.count)) (sym same) ∙ q) ∙ eqb-self t)
        ∙ ap (λ (z : Extension). Some (member h g z)) (sym same)

    apart : IsIn x ys → parked h g (TheExtension y.count) ≡ Some t → ⊥
    apart k r =
        let less : x.count < y.count = under_in y.count ys x u.1 k in let equal : x.count ≡ y.count = one_asker (call_of h t) x.count y.count (parked_asks_for h g (TheExtension x.count) t p q) (parked_asks_for h g (TheExtension y.count) t p r) in omega (arith, less, equal)

-- The role of an extension's parked Next.
pub role_member : (config : Config) (h : List Entry) (e t : ℕ) (x : Extension) → IsLegal config h
    → IsIn x (extensions (life config h e).generation)
    → parked h (life config h e).generation (TheExtension x.count) ≡ Some t
    → role (stand config h e) t ≡ ExtensionPoll (member h (life config h e).generation x)
unfolding role seen members
role_member config h e t x l i q =
    rw
    (not_waiting config h e t (TheExtension x.count) l asker, other_number (parked h g TheRuntime) t no_runtime, find_member h g x t (suc (registrations h e)) (generation_part config h e) q (extensions g) (counts_fall config h e l) i) refl
  where
    g : Generation
    g = (life config h e).generation

    asker : asks (TheExtension x.count) (call_of h t) ≡ true
    asker = parked_asks_for h g (TheExtension x.count) t (generation_part config h e) q

    no_runtime : parked h g TheRuntime ≡ Some t → ⊥
    no_runtime r = not_both (call_of h t) x.count (parked_asks_for h g TheRuntime t (generation_part config h e) r) asker

-- what is at hand isn't a Next, where it is an Invoke
no_wait_at : (config : Config) (h : List Entry) (e t : ℕ) (P : Phase) (g : Generation) (actor : Actor)
    → (at_hand P ≡ Some t → is_invoke (call_of h t) ≡ true) → asks actor (call_of h t) ≡ true
    → waits_as (seen config h e (record { phase = P; generation = g })) t ≡ false
unfolding seen
no_wait_at config h e t P g actor held a = go (is_some (request_at config h e (at_hand P)))
  where
    go : (b : Bool) → (b && is_number (at_hand P) t) ≡ false
    go false = refl
    go true = other_number (at_hand P) t (λ q. invoke_asks actor (call_of h t) (held q) a)

-- The role of an extension's parked Next.
pub member_poll : (config : Config) (h : List Entry) (e t b : ℕ) (P : Phase) (g : Generation) (x : Extension)
    → IsPart h g → IsUnder b (extensions g) → IsIn x (extensions g)
    → (at_hand P ≡ Some t → is_invoke (call_of h t) ≡ true) → parked h g (TheExtension x.count) ≡ Some t
    → role (seen config h e (record { phase = P; generation = g })) t ≡ ExtensionPoll (member h g x)
unfolding role seen members
member_poll config h e t b P g x p u i held q =
    rw
    (no_wait_at config h e t P g (TheExtension x.count) held asker, other_number (parked h g TheRuntime) t no_runtime, find_member h g x t b p q (extensions g) u i) refl
  where
    asker : asks (TheExtension x.count) (call_of h t) ≡ true
    asker = parked_asks_for h g (TheExtension x.count) t p q

    no_runtime : parked h g TheRuntime ≡ Some t → ⊥
    no_runtime r = not_both (call_of h t) x.count (parked_asks_for h g TheRuntime t p r) asker

-- The role of the runtime's parked Next.
pub runtime_poll : (config : Config) (h : List Entry) (e t : ℕ) (P : Phase) (g : Generation) → IsPart h g
    → (at_hand P ≡ Some t → is_invoke (call_of h t) ≡ true) → parked h g TheRuntime ≡ Some t
    → role (seen config h e (record { phase = P; generation = g })) t ≡ RuntimePoll
unfolding role seen
runtime_poll config h e t P g p held q = rw (no_wait_at config h e t P g TheRuntime held (parked_asks_for h g TheRuntime t p q), q, eqb-self t) refl

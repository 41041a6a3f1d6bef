-- A parked Next is its actor's last one, still pending; an extension's has the role of that extension's poll.
use Rattle.std.proofs.Common.{◌≡◌, ℕ, Bool, true, List, Some, None, ap, ◌∙◌, if◌then◌else◌, false, Option, sym, refl, ◌==◌, [], ◌∷◌, ◌||◌, map, true≢false}
use Rattle.std.proofs.lemmas.Bool.{eqb-true}
use Rattle.std.specs.List.{list_any, find}
use Rattle.call_types.specs.declared.call.Entry.{Entry}
use Rattle.arn_ids.specs.declared.config.Config.{Config}
use Rattle.call_model.specs.History.{pending, call_of}
use Rattle.call_model.specs.Generation.{Generation, Actor, parked, if_pending, last_next, extensions, Extension}
use Rattle.call_model.specs.Generation.{TheExtension, member, TheRuntime, Member, asks, members}
use Rattle.call_model.specs.Stand.{is_number, role, ExtensionPoll}
use Rattle.call_model.specs.Life.{life, stand, seen}
use Rattle.call_model.specs.Next.{IsLegal}
use Rattle.call_model.proofs.BoundWaits.{generation_part, last_asks}
use Rattle.call_model.proofs.Basics.{some-none, eqb-self, number_some}
use Rattle.call_model.proofs.Roles.{not_waiting, one_asker, not_both}

pub parked_is : (h : List Entry) (g : Generation) (actor : Actor) (t : ℕ) → last_next g actor ≡ Some t → pending h t ≡ true → parked h g actor ≡ Some t
parked_is h g actor t q w = ap (if_pending h) q ∙ ap (λ (b : Bool). if b then Some t else None) w

pub is_parked : (h : List Entry) (g : Generation) (actor : Actor) (t : ℕ) → parked h g actor ≡ Some t → (last_next g actor ≡ Some t) × (pending h t ≡ true)
is_parked h g actor t q = go (last_next g actor) refl q
  where
    at_one : (u : ℕ) (b : Bool) → pending h u ≡ b → last_next g actor ≡ Some u → (if b then Some u else None) ≡ Some t
        → (last_next g actor ≡ Some t) × (pending h t ≡ true)
    at_one u true p k r = let same : u ≡ t = cc in (k ∙ r, ap (pending h) (sym same) ∙ p)
    at_one u false p k r = absurd (some-none (sym r))

    go : (o : Option ℕ) → last_next g actor ≡ o → if_pending h o ≡ Some t → (last_next g actor ≡ Some t) × (pending h t ≡ true)
    go None k r = absurd (some-none (sym r))
    go (Some u) k r = at_one u (pending h u) refl k r

-- an extension by its count is one of the generation
abbrev pub is_member : Generation → ℕ → Bool
is_member g x = list_any (λ y. y.count == x) (extensions g)

find_member : (h : List Entry) (g : Generation) (x t : ℕ) → parked h g (TheExtension x) ≡ Some t → (ys : List Extension)
    → list_any (λ y. y.count == x) ys ≡ true
    → (y : Extension) × ((find (λ s. is_number s.next t) (map (member h g) ys) ≡ Some (member h g y)) × (parked h g (TheExtension y.count) ≡ Some t))
find_member h g x t p [] k = absurd (true≢false (sym k))
find_member h g x t p (y ∷ ys) k = go (is_number (parked h g (TheExtension y.count)) t) refl (y.count == x) refl (find_member h g x t p ys) k
  where
    go : (b : Bool) → is_number (parked h g (TheExtension y.count)) t ≡ b → (c : Bool) → (y.count == x) ≡ c
        → (list_any (λ z. z.count == x) ys ≡ true → (z : Extension) × ((find (λ s. is_number s.next t) (map (member h g) ys) ≡ Some (member h g z)) × (parked h g (TheExtension z.count) ≡ Some t)))
        → (c || list_any (λ z. z.count == x) ys) ≡ true
        → (z : Extension) × (((if b then Some (member h g y) else find (λ s. is_number s.next t) (map (member h g) ys)) ≡ Some (member h g z)) × (parked h g (TheExtension z.count) ≡ Some t))
    go true q c w ih r = (y, (refl, number_some (parked h g (TheExtension y.count)) t q))
    go false q true w ih r =
        absurd
        (true≢false (sym (ap (λ (o : Option ℕ). is_number o t) (ap (λ (n : ℕ). parked h g (TheExtension n)) (eqb-true y.count x w) ∙ p) ∙ eqb-self t) ∙ q))
    go false q false w ih r = ih r

-- the parked Next of an extension
pub extension_role : (config : Config) (h : List Entry) (e x t : ℕ) → IsLegal config h
    → parked h (life config h e).generation (TheExtension x) ≡ Some t → is_member (life config h e).generation x ≡ true
    → (s : Member) × ((role (stand config h e) t ≡ ExtensionPoll s) × (s.extension.count ≡ x))
unfolding role seen members
extension_role config h e x t l q m = made (find_member h g x t q (extensions g) m)
  where
    g : Generation
    g = (life config h e).generation

    asked : asks (TheExtension x) (call_of h t) ≡ true
    asked = last_asks h g (TheExtension x) t (generation_part config h e) (is_parked h g (TheExtension x) t q).0

    not_runtime : (b : Bool) → is_number (parked h g TheRuntime) t ≡ b → is_number (parked h g TheRuntime) t ≡ false
    not_runtime false k = k
    not_runtime true k =
        absurd
        (not_both (call_of h t) x (last_asks h g TheRuntime t (generation_part config h e) (is_parked h g TheRuntime t (number_some (parked h g TheRuntime) t k)).0) asked)

    made : (y : Extension) × ((find (λ s. is_number s.next t) (map (member h g) (extensions g)) ≡ Some (member h g y)) × (parked h g (TheExtension y.count) ≡ Some t))
        → (s : Member) × ((role (stand config h e) t ≡ ExtensionPoll s) × (s.extension.count ≡ x))
    made f = (
      member h g (f.0),
      (
        rw (not_waiting config h e t (TheExtension x) l asked, not_runtime (is_number (parked h g TheRuntime) t) refl, f.1.0) refl,
        sym
            (one_asker (call_of h t) x (f.0).count asked (last_asks h g (TheExtension (f.0).count) t (generation_part config h e) (is_parked h g (TheExtension (f.0).count) t (f.1.1)).0)),
      ),
    )

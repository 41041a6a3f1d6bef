-- The verdict on an Invoke of a reserved function is the same in the function's own history.
use Rattle.std.proofs.Common.{◌≡◌, ℕ, ◌+◌, ◌<◌, Bool, true, false, cond, List, [], ◌∷◌, length, Option, Some, None, sym}
use Rattle.std.proofs.Common.{refl, ap, ◌∙◌, arith, is_some, ◌&&◌, ◌||◌, ◌==◌, true≢false, if◌then◌else◌, count_by}
use Rattle.std.proofs.lemmas.Bool.{eqb-true}
use Rattle.call_types.specs.declared.answer.Phase.{Phase}
use Rattle.call_types.specs.declared.call.Call.{Call}
use Rattle.call_types.specs.declared.call.Call.TheVariants.{Reserve}
use Rattle.call_types.specs.declared.call.Entry.{Entry}
use Rattle.arn_ids.specs.declared.config.Config.{Config}
use Rattle.arn_ids.specs.Environments.{function_of}
use Rattle.call_model.specs.History.{answer_in, pending, stopped, is_invoke_of, with_tickets, or_else}
use Rattle.call_model.specs.Life.{phase}
use Rattle.call_model.specs.Limits.{place, lowest, is_free_starting, is_free_closing, verdict, AfterStop, Refuses}
use Rattle.call_model.specs.Limits.{by_limits, where_placed, reservation, reserves, reserved_by, in_flight}
use Rattle.call_model.specs.Limits.{is_charged_at, busy_at, is_busy_with}
use Rattle.call_types.specs.declared.answer.Throttle.TheVariants.{Function as ByFunction}
use Rattle.call_model.specs.Isolation.{IsUnnamed}
use Rattle.call_model.specs.Stand.{is_idle}
use Rattle.std.specs.List.{find}
use Rattle.std.proofs.Common.{nat_le}
use Rattle.arn_ids.specs.Environments.{environments, function_at}
use Rattle.call_model.proofs.OwnTickets.{placed_function, own_length, own_pending}
use Rattle.call_model.proofs.OwnHistory.{invoke_own, own_stopped}
use Rattle.call_model.proofs.OwnStands.{own_phase}
use Rattle.call_model.specs.Next.{IsLegal}
use Rattle.call_model.specs.Own.{own, own_entry, own_ticket, is_own}
use Rattle.call_model.proofs.Pairs.{eqb-other}
use Rattle.call_model.proofs.Basics.{eqb-self, count_cons}

find_same : (p q : ℕ → Bool) → ((x : ℕ) → p x ≡ q x) → (xs : List ℕ) → find p xs ≡ find q xs
find_same p q e [] = refl
find_same p q e (x ∷ xs) = λ i. if e x i then Some x else find_same p q e xs i

own_lowest : (config : Config) (h : List Entry) (f : ℕ) (passes : Phase → Bool) → IsLegal config h
    → lowest config (own config h f) f passes ≡ lowest config h f passes
own_lowest config h f passes l = find_same _ _ each (environments config)
  where
    each : (e : ℕ) → ((function_of config e == f) && passes (phase config (own config h f) e)) ≡ ((function_of config e == f) && passes (phase config h e))
    each e = go (function_of config e == f) refl
      where
        go : (b : Bool) → (function_of config e == f) ≡ b → (b && passes (phase config (own config h f) e)) ≡ (b && passes (phase config h e))
        go true q = ap passes (own_phase config h f e l (eqb-true (function_of config e) f q))
        go false q = refl

-- the function's next place
pub own_next_place : (config : Config) (h : List Entry) (f : ℕ) → IsLegal config h → place config (own config h f) f ≡ place config h f
unfolding place
own_next_place config h f l =
    λ i. or_else (own_lowest config h f is_idle l i) (or_else (own_lowest config h f is_free_starting l i) (own_lowest config h f is_free_closing l i))

-- what is charged of an older part s of the history
flight_part : (config : Config) (h s : List Entry) (f : ℕ) → IsLegal config h → IsLegal config s
    → ((t : ℕ) → t < length s → own_ticket config h f t ≡ own_ticket config s f t)
    → count_by (λ taken. is_invoke_of f taken.1.call && is_charged_at config (own config h f) taken.0 taken.1.place) (with_tickets (own config s f)) ≡ count_by (λ taken. is_invoke_of f taken.1.call && is_charged_at config h taken.0 taken.1.place) (with_tickets s)
unfolding own
flight_part config h [] f l m a = refl
flight_part config h (entry ∷ s) f l m a =
    count_cons (counts (own config h f)) (length (own config s f), own_entry (is_own config s f entry.call) config s f entry) (with_tickets (own config s f))
    ∙ (λ i. cond (head (is_own config s f entry.call) refl i) 1 0 + flight_part config h s f l m.0 older i)
    ∙ sym (count_cons (counts h) (length s, entry) (with_tickets s))
  where
    counts : List Entry → ℕ × Entry → Bool
    counts k taken = is_invoke_of f taken.1.call && is_charged_at config k taken.0 taken.1.place

    older : (t : ℕ) → t < length s → own_ticket config h f t ≡ own_ticket config s f t
    older t lt = a t (omega (arith, lt)) ∙ rw (eqb-other t (length s) (omega (arith, lt))) refl

    mine : is_own config s f entry.call ≡ true → own_ticket config h f (length s) ≡ true
    mine w = a (length s) (omega arith) ∙ rw (eqb-self (length s)) w

    busy : is_own config s f entry.call ≡ true → (o : Option ℕ) → entry.place ≡ o → busy_at config (own config h f) o (length s) ≡ busy_at config h o (length s)
    busy w None q = refl
    busy w (Some d) q =
        ap (λ (x : Phase). is_busy_with x (length s))
        (own_phase config h f d l (eqb-true (function_of config d) f (sym (placed_function config s entry.call f d (sym (m.1.place) ∙ q)) ∙ w)))

    head : (b : Bool) → is_own config s f entry.call ≡ b
        → counts (own config h f) (length (own config s f), own_entry b config s f entry) ≡ counts h (length s, entry)
    head true w =
        ap
        (λ (n : ℕ). is_invoke_of f entry.call && (is_some entry.place && (pending (own config h f) n || busy_at config (own config h f) entry.place n)))
        (own_length config s f)
        ∙ (λ i. is_invoke_of f entry.call && (is_some entry.place && (own_pending config h f (length s) l (mine w) i || busy w entry.place refl i)))
    head false w = sym (ap (λ (b : Bool). b && is_charged_at config h (length s) entry.place) (invoke_own config s f entry.call w))

-- the function has as many in flight alone
pub own_in_flight : (config : Config) (h : List Entry) (f : ℕ) → IsLegal config h → in_flight config (own config h f) f ≡ in_flight config h f
unfolding in_flight
own_in_flight config h f l = flight_part config h h f l l (λ t lt. refl)

no_reserve : (config : Config) (h : List Entry) (f g : ℕ) (call : Call) → is_own config h f call ≡ true → reserves g call ≡ false
no_reserve config h f g (Reserve k count) q = absurd (true≢false (sym q))
no_reserve config h f g call q = refl

own_reservation : (config : Config) (h : List Entry) (f g : ℕ) → reservation config (own config h f) g ≡ (function_at config g).reserved
unfolding own reservation
own_reservation config [] f g = refl
own_reservation config (entry ∷ h) f g = go (is_own config h f entry.call) refl (own_reservation config h f g)
  where
    go : (b : Bool) → is_own config h f entry.call ≡ b → reservation config (own config h f) g ≡ (function_at config g).reserved
        → (if reserves g (own_entry b config h f entry).call then reserved_by (answer_in (own_entry b config h f entry).answers (length (own config h f))) (reservation config (own config h f) g) else reservation config (own config h f) g) ≡ (function_at config g).reserved
    go true w ih = rw (no_reserve config h f g entry.call w) ih
    go false w ih = ih

reservation_unnamed : (config : Config) (h : List Entry) (f : ℕ) → IsUnnamed f h → reservation config h f ≡ (function_at config f).reserved
unfolding reservation
reservation_unnamed config [] f u = refl
reservation_unnamed config (entry ∷ h) f u = rw (u.1) (reservation_unnamed config h f u.0)

-- The verdict on an Invoke of the function is the same alone.
pub own_verdict : (config : Config) (h : List Entry) (f limit : ℕ) → IsLegal config h
    → (function_at config f).reserved ≡ Some limit → IsUnnamed f h
    → verdict config (own config h f) f ≡ verdict config h f
unfolding verdict
own_verdict config h f limit l r u =
    (λ i. if own_stopped config h f i then AfterStop else by_limits config (own config h f) f ((own_reservation config h f f ∙ r) i))
    ∙
    (λ i. if stopped h then AfterStop else (if nat_le limit (own_in_flight config h f l i) then Refuses ByFunction else where_placed (own_next_place config h f l i)))
    ∙ sym (λ i. if stopped h then AfterStop else by_limits config h f ((reservation_unnamed config h f u ∙ r) i))

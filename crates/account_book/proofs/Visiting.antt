-- What holds of the environment that a call reaches.
use Rattle.std.proofs.Common.{◌≡◌, ℕ, ◌+◌, ◌-◌, ◌<◌, ◌≤◌, All, Bool, true, false, List, ◌∷◌, length, Option, Some, None}
use Rattle.std.proofs.Common.{sym, refl, ap, ◌∙◌, arith, inl, inr, true≢false, if◌then◌else◌, ◌==◌}
use Rattle.std.proofs.lemmas.Bool.{cases_lt, eqb-true}
use Rattle.arn_ids.specs.declared.config.Config.{Config}
use Rattle.arn_ids.specs.Environments.{owners, function_of}
use Rattle.arn_ids.proofs.Bounds.{label_between}
use Rattle.call_types.specs.declared.answer.Throttle.{Throttle}
use Rattle.call_types.specs.declared.call.Call.{Call}
use Rattle.call_types.specs.declared.call.Call.TheVariants.{Invoke, RuntimeNext, Response, ResponseTooLarge, Failure}
use Rattle.call_types.specs.declared.call.Call.TheVariants.{InitFailure, Register, ExtNext, ExtInitFailure}
use Rattle.call_types.specs.declared.call.Call.TheVariants.{ExtExitFailure, Tick, Withdraw, Spindown, Stop, Expire}
use Rattle.call_types.specs.declared.call.Call.TheVariants.{Reserve}
use Rattle.call_types.specs.declared.call.Entry.{Entry}
use Rattle.call_model.specs.History.{call_of, or_else, is_stop, stopped, poll_env}
use Rattle.call_types.specs.Calls.{env_of, is_invoke}
use Rattle.call_model.specs.Limits.{Verdict, AfterStop, Refuses, Admits, admitted_to, verdict, place_for, by_limits, reservation}
use Rattle.call_model.specs.Limits as limits
use Rattle.call_model.specs.Life.{stand}
use Rattle.call_model.specs.Next.{IsLegal, Follows}
use Rattle.call_model.proofs.Basics.{none-some, eqb-self}
use Rattle.call_model.proofs.Flight.{place_for_between}
use Rattle.call_model.proofs.OwnTickets.{placed_function}
use Rattle.concurrency_pool.specs.Meets.{numbers, by_throttle}
use Rattle.concurrency_pool.specs.Pools.{throttle}
use Rattle.concurrency_pool.proofs.History as pool
use Rattle.env_phase.specs.Taking.{registered_name, IsShort}
use Rattle.env_phase.proofs.Meets.{few_here, ten_members}
use Rattle.call_model.proofs.PastLemmas.{no_call}
use Rattle.call_types.specs.Within.{IsEnv}
use Rattle.account_book.specs.Answering.{most_answers}
use Rattle.fleet.specs.declared.reach.Reach.{Reach}
use Rattle.fleet.specs.declared.reach.Reach.TheVariants.{Nowhere, At, Everywhere}
use Rattle.account_book.specs.Fleets.{no_site, site_at, moves_at}
use Rattle.fleet.specs.Reaches.{reach, reaches, at_most}
use Rattle.fleet.specs.Sites.{site, sites}
use Rattle.account_book.specs.Taking.{request_counts, IsKnown, AllKnown}
use Rattle.account_book.proofs.EntryMoves.{env_within, known_call, moves_there}
use Rattle.account_book.proofs.FleetMeets.{sites_length}
use Rattle.account_book.proofs.RequestCounts.{numbered_at}
use Rattle.account_book.proofs.Visits.{site_is_at}

one_env : (o : Option ℕ) (e : ℕ) → at_most o ≡ At e → o ≡ Some e
one_env None e q = absurd (nowhere q)
  where
    nowhere : Nowhere ≡ At e → ⊥
    nowhere k = cc
one_env (Some d) e q = cc

poll_named : (call : Call) (e : ℕ) → poll_env call ≡ Some e → env_of call ≡ Some e
poll_named (RuntimeNext d) e q = q
poll_named (ExtNext d x) e q = q
poll_named call e q = absurd (none-some q)

everywhere : (e : ℕ) → Everywhere ≡ At e → ⊥
everywhere e k = cc

-- the environment that is reached is one that there is
pub reach_within : (config : Config) (h : List Entry) (call : Call) (place : Option ℕ) (e : ℕ) → AllKnown config h
    → IsKnown config call → place ≡ place_for config h call → reach h place call ≡ At e → IsEnv config e
reach_within config h call place e all known placed q = go call known placed q
  where
    named : (c : Call) → IsKnown config c → (p : Option ℕ) → p ≡ place_for config h c → or_else p (env_of c) ≡ Some e → IsEnv config e
    named c k None r s = env_within config c e k s
    named c k (Some d) r s = let b = place_for_between config h c e (sym r ∙ s) in (omega (arith, b.0), omega (arith, b.1))

    polled : (t : ℕ) → poll_env (call_of h t) ≡ Some e → IsEnv config e
    polled t s = elim (cases_lt t (length h)) [
      | inl lt ↦ env_within config (call_of h t) e (known_call config h t all lt) (poll_named (call_of h t) e s)
      | inr ge ↦ absurd (none-some (ap poll_env (sym (no_call h t ge)) ∙ s))
    ]

    go : (c : Call) → IsKnown config c → place ≡ place_for config h c → reach h place c ≡ At e → IsEnv config e
    go Stop k p r = absurd (everywhere e r)
    go (Withdraw t) k p r = polled t (one_env (poll_env (call_of h t)) e r)
    go (Invoke f qualified trace body) k p r = named (Invoke f qualified trace body) k place p (one_env _ e r)
    go (RuntimeNext d) k p r = named (RuntimeNext d) k place p (one_env _ e r)
    go (Response d id body) k p r = named (Response d id body) k place p (one_env _ e r)
    go (ResponseTooLarge d id) k p r = named (ResponseTooLarge d id) k place p (one_env _ e r)
    go (Failure d id body) k p r = named (Failure d id body) k place p (one_env _ e r)
    go (InitFailure d body) k p r = named (InitFailure d body) k place p (one_env _ e r)
    go (Register d name invoke shutdown account) k p r = named (Register d name invoke shutdown account) k place p (one_env _ e r)
    go (ExtNext d x) k p r = named (ExtNext d x) k place p (one_env _ e r)
    go (ExtInitFailure d x body) k p r = named (ExtInitFailure d x body) k place p (one_env _ e r)
    go (ExtExitFailure d x body) k p r = named (ExtExitFailure d x body) k place p (one_env _ e r)
    go Tick k p r = named Tick k place p (one_env _ e r)
    go (Spindown d) k p r = named (Spindown d) k place p (one_env _ e r)
    go (Expire d) k p r = named (Expire d) k place p (one_env _ e r)
    go (Reserve f count) k p r = named (Reserve f count) k place p (one_env _ e r)

-- it is known by its number
pub site_of : (config : Config) (h : List Entry) (e : ℕ) → 1 ≤ e → e ≤ length (owners config) → site_at (sites config h) e ≡ site config h e
site_of config h e low high =
    let back : 1 + (e - 1) ≡ e = omega (arith, low) in
    site_is_at (sites config h) e no_site low (rw (sites_length config h) high)
    ∙ numbered_at (site config h) 1 (length (owners config)) (e - 1) no_site (omega (arith, low, high))
    ∙ ap (site config h) back

-- no Stop reaches one environment alone
pub no_stop : (h : List Entry) (place : Option ℕ) (call : Call) (e : ℕ) → reach h place call ≡ At e → is_stop call ≡ false
no_stop h place Stop e q = absurd (everywhere e q)
no_stop h place call e q = refl

-- the name that a known call brings has its place
pub known_short : (config : Config) (call : Call) → IsKnown config call → IsShort (registered_name call)
known_short config (Register e name invoke shutdown account) k = (label_between name k.1).1
known_short config call k = tt

-- only a Stop reaches all
pub all_stop : (h : List Entry) (place : Option ℕ) (call : Call) → reach h place call ≡ Everywhere → is_stop call ≡ true
all_stop h place Stop q = refl
all_stop h place (Withdraw t) q = absurd (one (poll_env (call_of h t)) q)
  where
    one : (o : Option ℕ) → at_most o ≡ Everywhere → ⊥
    one None k = cc
    one (Some d) k = cc
all_stop h place call q = absurd (one (or_else place (env_of call)) q)
  where
    one : (o : Option ℕ) → at_most o ≡ Everywhere → ⊥
    one None k = cc
    one (Some d) k = cc

-- an environment that is reached answers each of its waiting tickets once at most
few_where : (config : Config) (h : List Entry) (entry : Entry) (e : ℕ) → IsLegal config h → Follows config h entry
    → reaches (reach h entry.place entry.call) e ≡ true → 1 ≤ e → e ≤ length (owners config)
    → length (moves_at (length h) entry.moment (request_counts config (entry ∷ h)) entry.call (site config h e)) ≤ length (stand config h e).members + 3
few_where config h entry e l w here low high = rw (moves_there config h entry e l w low high here) (few_here config h entry e (l, w))

pub few_there : (config : Config) (h : List Entry) (entry : Entry) (e : ℕ) → IsLegal config h → Follows config h entry
    → reach h entry.place entry.call ≡ At e → 1 ≤ e → e ≤ length (owners config)
    → length (moves_at (length h) entry.moment (request_counts config (entry ∷ h)) entry.call (site config h e)) ≤ length (stand config h e).members + 3
few_there config h entry e l w r low high = few_where config h entry e l w (ap (λ (x : Reach). reaches x e) r ∙ eqb-self e) low high

-- and so each of all, where all are reached
pub few_everywhere : (config : Config) (h : List Entry) (entry : Entry) → IsLegal config h → Follows config h entry
    → reach h entry.place entry.call ≡ Everywhere
    → All (λ s. length (moves_at (length h) entry.moment (request_counts config (entry ∷ h)) entry.call s) ≤ 13) (sites config h)
few_everywhere config h entry l w r i d lt =
    let there : i < length (owners config) = omega (arith, lt, sites_length config h) in
    rw (numbered_at (site config h) 1 (length (owners config)) i d there)
    (omega (arith, few_where config h entry (1 + i) l w (ap (λ (x : Reach). reaches x (1 + i)) r) (omega arith) (omega (arith, there)), ten_members config h (1 + i) l))

-- so there is room for its answers, and for one more
pub room_there : (h : List Entry) (place : Option ℕ) (call : Call) (e widest environments moves members : ℕ)
    → reach h place call ≡ At e → moves ≤ members + 3 → members ≤ widest
    → moves + 1 ≤ most_answers widest environments call
room_there h place call e widest environments moves members r few narrow = rw (no_stop h place call e r) (omega (arith, few, narrow))

-- an Invoke that reaches an environment is admitted there
pub admitted_there : (config : Config) (h : List Entry) (call : Call) (place : Option ℕ) (e : ℕ) → IsKnown config call
    → place ≡ place_for config h call → reach h place call ≡ At e → is_invoke call ≡ true
    → throttle (numbers config h) (function_of config e) ≡ None
unfolding verdict
admitted_there config h (Invoke f qualified trace body) place e known placed r i =
    let at : place_for config h (Invoke f qualified trace body) ≡ Some e = sym placed ∙ only place (one_env (or_else place None) e r) in
    let same : function_of config e ≡ f = eqb-true (function_of config e) f (sym (placed_function config h (Invoke f qualified trace body) f e at) ∙ self f) in
    rw same (unthrottled (by_verdict at))
  where
    only : (o : Option ℕ) → or_else o None ≡ Some e → o ≡ Some e
    only None q = q
    only (Some d) q = q

    self : (n : ℕ) → (n == n) ≡ true
    self n = eqb-self n

    admits : (b : Bool) (v : Verdict) → admitted_to (if b then AfterStop else v) ≡ Some e → v ≡ Admits e
    admits true v q = absurd (none-some q)
    admits false (Admits d) q = ap (λ (n : ℕ). Admits n) (let k : d ≡ e = cc in k)
    admits false AfterStop q = absurd (none-some q)
    admits false (Refuses reason) q = absurd (none-some q)

    by_verdict : admitted_to (verdict config h f) ≡ Some e → by_limits config h f (reservation config h f) ≡ Admits e
    by_verdict q = admits (stopped h) (by_limits config h f (reservation config h f)) q

    unthrottled : by_limits config h f (reservation config h f) ≡ Admits e → throttle (numbers config h) f ≡ None
    unthrottled q = go (throttle (numbers config h) f) (sym (pool.verdict_is config h f known.0.0 known.0.1) ∙ q)
      where
        go : (o : Option Throttle) → by_throttle o (limits.place config h f) ≡ Admits e → o ≡ None
        go None k = refl
        go (Some reason) k = absurd (refused k)
          where
            refused : Refuses reason ≡ Admits e → ⊥
            refused j = cc
admitted_there config h call place e known placed r i = absurd (true≢false (sym i))

-- The environments that an entry reaches, among all.
use Rattle.std.proofs.Common.{◌≡◌, ℕ, zero, suc, ◌+◌, ◌<◌, ◌==◌, Bool, true, false, if◌then◌else◌, cond, List, [], ◌∷◌}
use Rattle.std.proofs.Common.{◌++◌, length, map, take, drop, get_or, set, All, Option, Some, None, ◌⊎◌, inl, inr, refl}
use Rattle.std.proofs.Common.{sym, ap, ◌∙◌, arith, true≢false}
use Rattle.std.proofs.lemmas.Bool.{ne_eqb}
use Rattle.std.proofs.lemmas.List.{length-map, map-id}
use Rattle.std.specs.List.{filter, flat_map}
use Rattle.arn_ids.specs.declared.config.Config.{Config}
use Rattle.arn_ids.specs.Environments.{count_from, environments, owners}
use Rattle.call_types.specs.declared.answer.Phase.{Phase}
use Rattle.call_types.specs.declared.answer.Phase.TheVariants.{Starting, Idle, Busy, Closing, Off}
use Rattle.call_types.specs.declared.answer.Reason.{Reason}
use Rattle.call_types.specs.declared.answer.Reason.TheVariants.{Timeout, Failure, Spindown}
use Rattle.call_types.specs.Calls.{is_invoke}
use Rattle.call_types.specs.declared.call.Call.{Call}
use Rattle.call_types.specs.declared.call.Call.TheVariants.{Invoke, RuntimeNext, Response, ResponseTooLarge, Failure}
use Rattle.call_types.specs.declared.call.Call.TheVariants.{InitFailure, Register, ExtNext, ExtInitFailure}
use Rattle.call_types.specs.declared.call.Call.TheVariants.{ExtExitFailure, Tick, Withdraw, Spindown, Stop, Expire}
use Rattle.call_types.specs.declared.call.Call.TheVariants.{Reserve}
use Rattle.call_types.specs.declared.call.Entry.{Entry}
use Rattle.call_model.specs.Laws.{no_longer}
use Rattle.call_model.specs.Life.{life, seen as met}
use Rattle.call_model.specs.Stand.{at_hand}
use Rattle.call_model.proofs.Basics.{eqb-self, map_map, map_same}
use Rattle.env_phase.specs.Taking.{unused}
use Rattle.json.specs.Token.{Token}
use Rattle.trace.specs.Object.{moved, released, told}
use Rattle.trace.specs.PhaseObject.{same_option, same_phase, same_reason}
use Rattle.fleet.specs.Reaches.{reaches}
use Rattle.fleet.proofs.Loops.{count_length}
use Rattle.trace.specs.Sites.{counted_in, moved_if, seen, site, sites, turn_of, visited, IsNumbered}
use Rattle.trace.specs.declared.follower.arrival.Arrival.{Arrival}
use Rattle.fleet.specs.declared.reach.Reach.{Reach}
use Rattle.fleet.specs.declared.reach.Reach.TheVariants.{Nowhere}
use Rattle.trace.specs.declared.follower.followed.Followed.{Followed}
use Rattle.trace.proofs.Telling.{flat_mapped}

-- some environment, of which nothing is known
pub no_site : Followed
no_site =
    record { number = 0; requests = 0; before = Off; site = record { function = 0; environment = record { fixed = record { timeout = 0; expected = [] }; stand = unused } } }

-- ---- the environment with a number

abbrev number : Followed → ℕ
number s = s.number

abbrev first : List ℕ → ℕ
first [] = 0
first (n ∷ ns) = n

abbrev rest : List ℕ → List ℕ
rest [] = []
rest (n ∷ ns) = ns

-- the environments are in the order of their numbers, from `a` on
abbrev IsFrom : ℕ → List Followed → Type 0
IsFrom a ss = map (λ s. s.number) ss ≡ count_from a (length ss)

is_other : (e a : ℕ) (s : Followed) → s.number ≡ a → (e ≡ a → ⊥) → (e == s.number) ≡ false
is_other e a s is other = ap (λ n. e == n) is ∙ ne_eqb e a other

is_own : (e a : ℕ) (s : Followed) → s.number ≡ a → e ≡ a → (e == s.number) ≡ true
is_own e a s is own = ap (λ n. e == n) (is ∙ sym own) ∙ eqb-self e

-- no environment has the number
pub none_has : (e a : ℕ) (ss : List Followed) → IsFrom a ss → ((i : ℕ) → i < length ss → e ≡ a + i → ⊥) → filter (λ s. e == s.number) ss ≡ []
none_has e a [] is away = refl
none_has e a (s ∷ ss) is away =
    rw (is_other e a s (ap first is) (λ same. away 0 (omega arith) (omega (arith, same))))
    (none_has e (suc a) ss (ap rest is) (λ i lt same. away (suc i) (omega (arith, lt)) (omega (arith, same))))

pub none_moves : (g : Followed → Followed) (e a : ℕ) (ss : List Followed) → IsFrom a ss
    → ((i : ℕ) → i < length ss → e ≡ a + i → ⊥) → ss ≡ map (λ s. if e == s.number then g s else s) ss
none_moves g e a [] is away = refl
none_moves g e a (s ∷ ss) is away =
    rw (is_other e a s (ap first is) (λ same. away 0 (omega arith) (omega (arith, same))))
    (ap (λ xs. s ∷ xs) (none_moves g e (suc a) ss (ap rest is) (λ i lt same. away (suc i) (omega (arith, lt)) (omega (arith, same)))))

-- a number that no environment has
pub outside : (e n : ℕ) → (e ≡ 0) ⊎ ((e ≡ 0 → ⊥) × (n < e)) → (i : ℕ) → i < n → e ≡ 1 + i → ⊥
outside e n (inl none) i lt same = omega (arith, none, same)
outside e n (inr above) i lt same = omega (arith, above.1, lt, same)

pub outside_too : (e n : ℕ) → ((e ≡ 0 → ⊥) × (n < e)) ⊎ (e ≡ 0) → (i : ℕ) → i < n → e ≡ 1 + i → ⊥
outside_too e n (inl above) i lt same = omega (arith, above.1, lt, same)
outside_too e n (inr none) i lt same = omega (arith, none, same)

-- one has it
pub one_has : (e a i : ℕ) (ss : List Followed) → IsFrom a ss → i < length ss → e ≡ a + i → take 1 (drop i ss) ≡ filter (λ s. e == s.number) ss
one_has e a i [] is lt own = absurd (omega (arith, lt))
one_has e a zero (s ∷ ss) is lt own =
    rw (is_own e a s (ap first is) (omega (arith, own)))
    (ap (λ xs. s ∷ xs) (sym (none_has e (suc a) ss (ap rest is) (λ i lt same. omega (arith, own, same)))))
one_has e a (suc i) (s ∷ ss) is lt own =
    rw (is_other e a s (ap first is) (λ same. omega (arith, own, same)))
    (one_has e (suc a) i ss (ap rest is) (omega (arith, lt)) (omega (arith, own)))

pub one_moves : (g : Followed → Followed) (e a i : ℕ) (ss : List Followed) (d : Followed) → IsFrom a ss → i < length ss → e ≡ a + i
    → set ss i (g (get_or ss i d)) ≡ map (λ s. if e == s.number then g s else s) ss
one_moves g e a i [] d is lt own = absurd (omega (arith, lt))
one_moves g e a zero (s ∷ ss) d is lt own =
    rw (is_own e a s (ap first is) (omega (arith, own)))
    (ap (λ xs. g s ∷ xs) (none_moves g e (suc a) ss (ap rest is) (λ i lt same. omega (arith, own, same))))
one_moves g e a (suc i) (s ∷ ss) d is lt own =
    rw (is_other e a s (ap first is) (λ same. omega (arith, own, same)))
    (ap (λ xs. s ∷ xs) (one_moves g e (suc a) i ss d (ap rest is) (omega (arith, lt)) (omega (arith, own))))

-- none is reached, or all are
pub none_kept : (ss : List Followed) → [] ≡ filter (λ s. false) ss
none_kept [] = refl
none_kept (s ∷ ss) = none_kept ss

pub all_kept : (ss : List Followed) → ss ≡ filter (λ s. true) ss
all_kept [] = refl
all_kept (s ∷ ss) = ap (λ xs. s ∷ xs) (all_kept ss)

-- ---- what is true of all stays true

numbers_kept : (f : Followed → Followed) → ((s : Followed) → (f s).number ≡ s.number) → (ss : List Followed)
    → map (λ s. s.number) (map f ss) ≡ map (λ s. s.number) ss
numbers_kept f same ss = sym (map_map number f ss) ∙ map_same (λ s. (f s).number) number same ss

pub numbered_after : (f : Followed → Followed) → ((s : Followed) → (f s).number ≡ s.number) → (ss : List Followed) → IsNumbered ss → IsNumbered (map f ss)
numbered_after f same ss is = numbers_kept f same ss ∙ is ∙ ap (count_from 1) (sym (length-map ss f))

pub numbered_before : (f : Followed → Followed) → ((s : Followed) → (f s).number ≡ s.number) → (ss : List Followed) → IsNumbered (map f ss) → IsNumbered ss
numbered_before f same ss is = sym (numbers_kept f same ss) ∙ is ∙ ap (count_from 1) (length-map ss f)

pub all_before : (P : Followed → Type 0) (f : Followed → Followed) → ((s : Followed) → P (f s) → P s) → (ss : List Followed) → All P (map f ss) → All P ss
all_before P f back [] all i d lt = absurd (omega (arith, lt))
all_before P f back (s ∷ ss) all zero d lt = back s (all 0 d (omega arith))
all_before P f back (s ∷ ss) all (suc i) d lt = all_before P f back ss (λ k c less. all (suc k) c (omega (arith, less))) i d (omega (arith, lt))

pub all_after : (P Q : Followed → Type 0) (f : Followed → Followed) → ((s : Followed) → P s → Q (f s)) → (ss : List Followed) → All P ss → All Q (map f ss)
all_after P Q f next [] all i d lt = absurd (omega (arith, lt))
all_after P Q f next (s ∷ ss) all zero d lt = next s (all 0 s (omega arith))
all_after P Q f next (s ∷ ss) all (suc i) d lt = all_after P Q f next ss (λ k c less. all (suc k) c (omega (arith, less))) i d (omega (arith, lt))

pub numbered_sites : (config : Config) (h : List Entry) → IsNumbered (sites config h)
numbered_sites config h =
    sym (map_map number (site config h) (environments config))
    ∙ map-id (environments config)
    ∙ ap (count_from 1) (sym (length-map (environments config) (site config h) ∙ count_length 1 (length (owners config))))

-- ---- what a follower sees

-- a call that is no Invoke is not counted
pub nothing_counted : (call : Call) (ss : List Followed) → is_invoke call ≡ false → ss ≡ map (counted_in call) ss
nothing_counted call ss is = sym (map-id ss) ∙ map_same (λ s. s) (counted_in call) (go call is) ss
  where
    none : (s : Followed) → s ≡ (let same : Followed = record s { requests = 0 + s.requests } in same)
    none s = let zero : s.requests ≡ 0 + s.requests = omega arith in ap (λ (n : ℕ). let same : Followed = record s { requests = n } in same) zero

    go : (call : Call) → is_invoke call ≡ false → (s : Followed) → s ≡ counted_in call s
    go (Invoke f qualified trace body) is s = absurd (true≢false is)
    go (RuntimeNext e) is s = none s
    go (Response e id body) is s = none s
    go (ResponseTooLarge e id) is s = none s
    go (Failure e id body) is s = none s
    go (InitFailure e body) is s = none s
    go (Register e name invoke shutdown account) is s = none s
    go (ExtNext e x) is s = none s
    go (ExtInitFailure e x body) is s = none s
    go (ExtExitFailure e x body) is s = none s
    go Tick is s = none s
    go (Withdraw t) is s = none s
    go (Spindown e) is s = none s
    go Stop is s = none s
    go (Expire e) is s = none s
    go (Reserve f count) is s = none s

-- before any entry
pub seen_first : (config : Config) → map (seen Nowhere) (sites config []) ≡ sites config []
unfolding life met
seen_first config =
    sym (map_map (seen Nowhere) (site config []) (environments config))
    ∙ map_same (λ e. seen Nowhere (site config [] e)) (site config []) (λ e. refl) (environments config)

seen_one : (arrival : Arrival) (r : Reach) (s : Followed) → seen arrival.reach (moved_if arrival (counted_in arrival.call.now s)) ≡ visited arrival (seen r s)
seen_one arrival r s = go (reaches arrival.reach s.number) refl
  where
    go : (b : Bool) → reaches arrival.reach s.number ≡ b → seen arrival.reach (moved_if arrival (counted_in arrival.call.now s)) ≡ visited arrival (seen r s)
    go true q = rw (q, q) refl
    go false q = rw (q, q) refl

-- after one more
pub seen_next : (arrival : Arrival) (r : Reach) (ss : List Followed)
    → map (seen arrival.reach) (map (moved_if arrival) (map (counted_in arrival.call.now) ss)) ≡ map (visited arrival) (map (seen r) ss)
seen_next arrival r [] = refl
seen_next arrival r (s ∷ ss) = rw (seen_one arrival r s) (ap (λ xs. visited arrival (seen r s) ∷ xs) (seen_next arrival r ss))

-- ---- those that were not reached did not move

-- what is told of those that were reached is what is told of all
pub reached_say_all : (f : Followed → List Token) (r : Reach) (ss : List Followed) → ((s : Followed) → s.before ≡ s.site.environment.stand.phase → f s ≡ [])
    → flat_map f (filter (λ s. reaches r s.number) ss) ≡ flat_map f (map (seen r) ss)
reached_say_all f r [] still = refl
reached_say_all f r (s ∷ ss) still = go (reaches r s.number) refl (reached_say_all f r ss still)
  where
    go : (b : Bool) → reaches r s.number ≡ b → flat_map f (filter (λ x. reaches r x.number) ss) ≡ flat_map f (map (seen r) ss)
        → flat_map f (filter (λ x. reaches r x.number) (s ∷ ss)) ≡ f (seen r s) ++ flat_map f (map (seen r) ss)
    go true q later = rw q (ap (λ ts. f s ++ ts) later)
    go false q later =
        ap (λ b. flat_map f (cond b (s ∷ filter (λ x. reaches r x.number) ss) (filter (λ x. reaches r x.number) ss))) q
        ∙ later
        ∙ ap (λ ts. ts ++ flat_map f (map (seen r) ss)) (sym (still (seen r s) (ap (λ b. if b then s.before else s.site.environment.stand.phase) q)))

option_self : (o : Option ℕ) → same_option o o ≡ true
option_self None = refl
option_self (Some n) = eqb-self n

reason_self : (r : Reason) → same_reason r r ≡ true
reason_self Timeout = refl
reason_self Failure = refl
reason_self Spindown = refl

phase_self : (p : Phase) → same_phase p p ≡ true
phase_self (Starting d bound) = rw (option_self d, option_self bound) refl
phase_self Idle = refl
phase_self (Busy p d) = rw (eqb-self p, eqb-self d) refl
phase_self (Closing reason until bound) = rw (reason_self reason, eqb-self until, option_self bound) refl
phase_self Off = refl

pub still_moved : (s : Followed) → s.before ≡ s.site.environment.stand.phase → moved (turn_of s) ≡ []
still_moved s still = rw (still, phase_self s.site.environment.stand.phase) refl

none_ended : (o : Option ℕ) → no_longer o o ≡ None
none_ended None = refl
none_ended (Some t) = rw (eqb-self t) refl

pub still_released : (s : Followed) → s.before ≡ s.site.environment.stand.phase → released (turn_of s) ≡ []
still_released s still = rw (still, none_ended (at_hand s.site.environment.stand.phase)) refl

-- so the object has the same phases and the same invocations that ended
pub told_of : (bodies : Bool) (config : Config) (salt : ℕ) (h : List Entry) (ticket : ℕ) (entry : Entry) (ss all : List Followed)
    → ((f : Followed → List Token) → ((s : Followed) → s.before ≡ s.site.environment.stand.phase → f s ≡ []) → flat_map f ss ≡ flat_map f all)
    → told bodies config salt h ticket entry (map turn_of ss) ≡ told bodies config salt h ticket entry (map turn_of all)
unfolding told
told_of bodies config salt h ticket entry ss all same = rw (
  sym (flat_mapped moved turn_of ss) ∙ same (λ s. moved (turn_of s)) still_moved ∙ flat_mapped moved turn_of all,
  sym (flat_mapped released turn_of ss) ∙ same (λ s. released (turn_of s)) still_released ∙ flat_mapped released turn_of all,
) refl

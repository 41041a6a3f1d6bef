-- An entry answers at an environment its own ticket, that of the waiting call, the runtime's parked Next and those of the
-- extensions, each once at most.
use Rattle.std.proofs.Common.{◌≡◌, ◌≢◌, ℕ, suc, ◌+◌, ◌<◌, ◌≤◌, Bool, true, false, eqb, List, [], ◌∷◌, ◌++◌, length, map}
use Rattle.std.proofs.Common.{Option, Some, None, sym, refl, ap, ◌∙◌, arith, if◌then◌else◌, ◌||◌, inl, inr, true≢false}
use Rattle.std.proofs.Common.{nat_lt, length-append}
use Rattle.std.proofs.lemmas.Bool.Decides.{eqb_tells}
use Rattle.call_types.specs.declared.answer.Answer.{Answer}
use Rattle.call_types.specs.declared.call.Call.{Call}
use Rattle.environment_step.specs.After.{Fixed, Step, put, give, give_each, waiting_call, first_moves, first_stand}
use Rattle.environment_step.specs.After.{runtime_first, members_first, fresh_members, member_first, member_gets}
use Rattle.environment_step.specs.After.{actor_gets, poll_gets, left, turned_moves, served_moves, closing_ends}
use Rattle.environment_step.specs.After.{settled_phase, numbered_from, finished_moves, moves_of, expires_now}
use Rattle.call_model.specs.Generation.{Extension, Member, TheRuntime, TheExtension, asks, as_registered}
use Rattle.call_model.specs.Polls.{begun, delivered}
use Rattle.call_model.specs.Stand.{Stand, RuntimePoll, ExtensionPoll}
use Rattle.call_model.specs.Table.{own_answer, to_waiting}
use Rattle.call_model.proofs.Basics.{eqb-self, some-none}
use Rattle.call_model.proofs.Pairs.{eqb-other}
use Rattle.environment_step.proofs.Rising.{IsRising}

-- whether a ticket is one of these
abbrev pub has : ℕ → List ℕ → Bool
has t [] = false
has t (u ∷ us) = eqb u t || has t us

-- without the first that is this one
abbrev pub without : ℕ → List ℕ → List ℕ
without t [] = []
without t (u ∷ us) = if eqb u t then us else u ∷ without t us

one_less : (t : ℕ) (us : List ℕ) → has t us ≡ true → suc (length (without t us)) ≡ length us
one_less t [] q = absurd (true≢false (sym q))
one_less t (u ∷ us) q = go (eqb u t) (one_less t us) q
  where
    go : (b : Bool) → (has t us ≡ true → suc (length (without t us)) ≡ length us) → (b || has t us) ≡ true
        → suc (length (if b then us else u ∷ without t us)) ≡ suc (length us)
    go true ih r = refl
    go false ih r = ap suc (ih r)

still : (t v : ℕ) (us : List ℕ) → t ≢ v → has v us ≡ true → has v (without t us) ≡ true
still t v [] ne q = absurd (true≢false (sym q))
still t v (u ∷ us) ne q = elim (eqb_tells u t) [
  | inl same ↦ rw same.0 (later (eqb-other u v (λ e. ne (sym same.1 ∙ e))) q)
  | inr other ↦ rw other.0 (go (eqb u v) (still t v us ne) q)
]
  where
    later : eqb u v ≡ false → (eqb u v || has v us) ≡ true → has v us ≡ true
    later r s = rw r at s

    go : (b : Bool) → (has v us ≡ true → has v (without t us) ≡ true) → (b || has v us) ≡ true → (b || has v (without t us)) ≡ true
    go true ih r = refl
    go false ih r = ih r

-- answers to such tickets
abbrev pub AreIn : List ℕ → List (ℕ × Answer) → Type 0
AreIn us [] = Unit {0}
AreIn us (a ∷ rest) = (has a.0 us ≡ true) × AreIn us rest

fewer : (t n : ℕ) (us : List ℕ) (xs : List (ℕ × Answer)) → IsRising n xs → t < n → AreIn us xs → AreIn (without t us) xs
fewer t n us [] r lt k = tt
fewer t n us (a ∷ rest) r lt k = (still t a.0 us (λ e. apart e) k.0, fewer t (suc a.0) us rest r.1 (omega (arith, lt, r.0)) k.1)
  where
    apart : t ≡ a.0 → ⊥
    apart e = omega (arith, e, lt, r.0)

-- rising tickets are no more than there are
pub rising_few : (n : ℕ) (us : List ℕ) (xs : List (ℕ × Answer)) → IsRising n xs → AreIn us xs → length xs ≤ length us
rising_few n us [] r k = omega arith
rising_few n us (a ∷ rest) r k =
    omega (arith, rising_few (suc a.0) (without a.0 us) rest r.1 (fewer a.0 (suc a.0) us rest r.1 (omega arith) k.1), one_less a.0 us k.0)

put_in : (us : List ℕ) (a : ℕ × Answer) (xs : List (ℕ × Answer)) → has a.0 us ≡ true → AreIn us xs → AreIn us (put a xs)
put_in us a [] q k = (q, tt)
put_in us a (b ∷ rest) q k = go (nat_lt a.0 b.0) (put_in us b rest k.0 k.1) (put_in us a rest q k.1)
  where
    go : (c : Bool) → AreIn us (put b rest) → AreIn us (put a rest) → AreIn us (if c then a ∷ put b rest else b ∷ put a rest)
    go true x y = (q, x)
    go false x y = (k.0, y)

-- a ticket, where there is one, is one of these
abbrev pub IsIn : List ℕ → Option ℕ → Type 0
IsIn us o = (t : ℕ) → o ≡ Some t → has t us ≡ true

give_in : (us : List ℕ) (o : Option ℕ) (a : Option Answer) (xs : List (ℕ × Answer)) → IsIn us o → AreIn us xs → AreIn us (give o a xs)
give_in us (Some t) (Some a) xs q k = put_in us (t, a) xs (q t refl) k
give_in us (Some t) None xs q k = k
give_in us None a xs q k = k

-- the parked Nexts of extensions are
abbrev pub AllIn : List ℕ → List Member → Type 0
AllIn us [] = Unit {0}
AllIn us (x ∷ xs) = IsIn us x.next × AllIn us xs

each_in : (us : List ℕ) (f : Member → Option Answer) (xs : List Member) (moves : List (ℕ × Answer)) → AllIn us xs
    → AreIn us moves → AreIn us (give_each f xs moves)
each_in us f [] moves q k = k
each_in us f (x ∷ xs) moves q k = give_in us x.next (f x) (give_each f xs moves) q.0 (each_in us f xs moves q.1 k)

numbered_in : (us : List ℕ) (n : ℕ) (xs : List (ℕ × Answer)) → AreIn us xs → AreIn us (numbered_from n xs)
numbered_in us n [] k = tt
numbered_in us n (a ∷ rest) k = (k.0, numbered_in us _ rest k.1)

-- the tickets that an entry may answer there
abbrev pub option_list : Option ℕ → List ℕ
option_list None = []
option_list (Some t) = t ∷ []

abbrev pub nexts : List Member → List ℕ
nexts [] = []
nexts (x ∷ xs) = option_list x.next ++ nexts xs

abbrev pub tickets : ℕ → Stand → List ℕ
tickets own s = own ∷ (option_list (waiting_call s) ++ (option_list s.runtime ++ nexts s.members))

has_front : (t : ℕ) (us vs : List ℕ) → has t us ≡ true → has t (us ++ vs) ≡ true
has_front t [] vs q = absurd (true≢false (sym q))
has_front t (u ∷ us) vs q = go (eqb u t) (has_front t us vs) q
  where
    go : (b : Bool) → (has t us ≡ true → has t (us ++ vs) ≡ true) → (b || has t us) ≡ true → (b || has t (us ++ vs)) ≡ true
    go true ih r = refl
    go false ih r = ih r

has_back : (t : ℕ) (us vs : List ℕ) → has t vs ≡ true → has t (us ++ vs) ≡ true
has_back t [] vs q = q
has_back t (u ∷ us) vs q = go (eqb u t) (has_back t us vs q)
  where
    go : (b : Bool) → has t (us ++ vs) ≡ true → (b || has t (us ++ vs)) ≡ true
    go true r = refl
    go false r = r

option_in : (o : Option ℕ) → IsIn (option_list o) o
option_in (Some u) t q = let same : u ≡ t = cc in rw (same, eqb-self t) refl
option_in None t q = absurd (some-none (sym q))

behind_own : (own t : ℕ) (us : List ℕ) → has t us ≡ true → has t (own ∷ us) ≡ true
behind_own own t us q = has_back t (own ∷ []) us q

nexts_in : (us : List ℕ) (xs : List Member) → ((t : ℕ) → has t (nexts xs) ≡ true → has t us ≡ true) → AllIn us xs
nexts_in us [] k = tt
nexts_in us (x ∷ xs) k =
    ((λ t q. k t (has_front t (option_list x.next) (nexts xs) (option_in x.next t q))), nexts_in us xs (λ t q. k t (has_back t (option_list x.next) (nexts xs) q)))

waiting_in : (own : ℕ) (s : Stand) → IsIn (tickets own s) (waiting_call s)
waiting_in own s t q = behind_own own t _ (has_front t (option_list (waiting_call s)) _ (option_in (waiting_call s) t q))

runtime_in : (own : ℕ) (s : Stand) → IsIn (tickets own s) s.runtime
runtime_in own s t q =
    behind_own own t _ (has_back t (option_list (waiting_call s)) _ (has_front t (option_list s.runtime) (nexts s.members) (option_in s.runtime t q)))

members_in : (own : ℕ) (s : Stand) → AllIn (tickets own s) s.members
members_in own s =
    nexts_in (tickets own s) s.members
    (λ t q. behind_own own t _ (has_back t (option_list (waiting_call s)) _ (has_back t (option_list s.runtime) (nexts s.members) q)))

own_in : (own : ℕ) (s : Stand) → IsIn (tickets own s) (Some own)
own_in own s t q = let same : own ≡ t = cc in rw (same, eqb-self t) refl

-- what is left of a Next is the one that stood there or the call's own
left_in : (us : List ℕ) (own : ℕ) (a : Option Answer) (b : Bool) (o : Option ℕ) → IsIn us (Some own) → IsIn us o → IsIn us (left a (if b then Some own else o))
left_in us own None true o p q = p
left_in us own None false o p q = q
left_in us own (Some a) b o p q = λ t r. absurd (some-none (sym r))

firsts_in : (us : List ℕ) (step : Step) (s : Stand) (call : Call) (xs : List Member) → IsIn us (Some step.ticket)
    → AllIn us xs → AllIn us (map (member_first step s call) xs)
firsts_in us step s call [] p k = tt
firsts_in us step s call (x ∷ xs) p k =
    (left_in us step.ticket (member_gets step s call x) (asks (TheExtension x.extension.count) call) x.next p k.0, firsts_in us step s call xs p k.1)

fresh_in : (us : List ℕ) (o : Option Extension) (xs : List Member) → AllIn us xs → AllIn us (fresh_members o ++ xs)
fresh_in us None xs k = k
fresh_in us (Some x) xs k = ((λ t q. absurd (some-none (sym q))), k)

first_in : (step : Step) (s : Stand) (call : Call) → AreIn (tickets step.ticket s) (first_moves step s call)
unfolding first_moves
first_in step s call =
    give_in (tickets step.ticket s) (Some step.ticket) (own_answer s call) _ (own_in step.ticket s)
    (each_in (tickets step.ticket s) (λ x. poll_gets step s call (ExtensionPoll x) x.next) s.members _ (members_in step.ticket s)
    (give_in (tickets step.ticket s) s.runtime (poll_gets step s call RuntimePoll s.runtime) _ (runtime_in step.ticket s)
    (give_in (tickets step.ticket s) (waiting_call s) (to_waiting step.ticket s call) [] (waiting_in step.ticket s) tt)))

turned_in : (fixed : Fixed) (step : Step) (s : Stand) (call : Call)
    → AreIn (tickets step.ticket s) (turned_moves fixed step.now (expires_now s call) s.phase (first_stand fixed step s call) (first_moves step s call))
unfolding turned_moves first_stand
turned_in fixed step s call =
    go (closing_ends (expires_now s call) (first_stand fixed step s call)) (begun s.phase (settled_phase fixed step.now (first_stand fixed step s call)))
  where
    us : List ℕ
    us = tickets step.ticket s

    go : (c : Bool) (b : Option (ℕ × ℕ))
        → AreIn us (if c then first_moves step s call else served_moves b (first_stand fixed step s call) (first_moves step s call))
    go true b = first_in step s call
    go false b =
        each_in us (λ x. delivered b (ExtensionPoll x)) (members_first step s call) _
        (fresh_in us (as_registered call (own_answer s call)) _ (firsts_in us step s call s.members (own_in step.ticket s) (members_in step.ticket s)))
        (give_in us (runtime_first step s call) (delivered b RuntimePoll) (first_moves step s call)
        (left_in us step.ticket (actor_gets TheRuntime step s call RuntimePoll s.runtime) (asks TheRuntime call) s.runtime (own_in step.ticket s) (runtime_in step.ticket s))
        (first_in step s call))

-- An environment gives answers to these tickets alone.
pub moves_in : (fixed : Fixed) (step : Step) (s : Stand) (call : Call) → AreIn (tickets step.ticket s) (moves_of fixed step s call)
unfolding moves_of finished_moves first_stand
moves_in fixed step s call = numbered_in (tickets step.ticket s) s.events _ (turned_in fixed step s call)

few_option : (o : Option ℕ) → length (option_list o) ≤ 1
few_option None = omega arith
few_option (Some t) = omega arith

few_nexts : (xs : List Member) → length (nexts xs) ≤ length xs
few_nexts [] = omega arith
few_nexts (x ∷ xs) = omega (arith, length-append (option_list x.next) (nexts xs), few_option x.next, few_nexts xs)

-- They are the call's own, that of the waiting call, the runtime's, and one of each extension.
pub few_tickets : (own : ℕ) (s : Stand) → length (tickets own s) ≤ length s.members + 3
few_tickets own s =
    omega
    (arith, length-append (option_list (waiting_call s)) (option_list s.runtime ++ nexts s.members), length-append (option_list s.runtime) (nexts s.members), few_option (waiting_call s), few_option s.runtime, few_nexts s.members)

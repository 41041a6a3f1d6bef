-- The answers that an entry gives at the environments that it reaches.
use Rattle.std.proofs.Common.{◌≡◌, ℕ, zero, suc, ◌+◌, ◌<◌, ◌≤◌, Bool, true, false, List, [], ◌∷◌, length, map, Option}
use Rattle.std.proofs.Common.{Some, None, is_some, sym, refl, ap, ap₂, ◌∙◌, arith, if◌then◌else◌, ◌==◌, nat_lt}
use Rattle.std.proofs.Common.{true≢false}
use Rattle.std.proofs.lemmas.Bool.Decides.{nat_tests}
use Rattle.std.proofs.lemmas.Bool.{eqb-true}
use Rattle.arn_ids.specs.declared.config.Config.{Config}
use Rattle.arn_ids.specs.Environments.{owners, count_from}
use Rattle.call_types.specs.declared.answer.Answer.{Answer}
use Rattle.call_types.specs.declared.call.Call.{Call}
use Rattle.call_types.specs.declared.call.Call.TheVariants.{Invoke, RuntimeNext, Response, ResponseTooLarge, Failure}
use Rattle.call_types.specs.declared.call.Call.TheVariants.{InitFailure, Register, ExtNext, ExtInitFailure}
use Rattle.call_types.specs.declared.call.Call.TheVariants.{ExtExitFailure, Tick, Withdraw, Spindown, Stop, Expire}
use Rattle.call_types.specs.declared.call.Call.TheVariants.{Reserve}
use Rattle.call_types.specs.declared.call.Entry.{Entry}
use Rattle.call_model.specs.Answers.{home}
use Rattle.call_model.specs.History.{answer_in, call_of, or_else, place_of}
use Rattle.call_types.specs.Calls.{env_of}
use Rattle.call_model.specs.Limits.{place_for}
use Rattle.call_model.specs.Next.{IsLegal, Follows}
use Rattle.call_model.specs.Stand.{is_number}
use Rattle.call_model.proofs.Basics.{eqb-self, none-some}
use Rattle.call_model.proofs.Flight.{placed_between}
use Rattle.environment_step.proofs.Puts.{filter_answer}
use Rattle.environment_step.proofs.Rising.{IsRising, rising_same}
use Rattle.environment_step.proofs.StepLaws.{moves_are}
use Rattle.env_phase.proofs.Homes.{home_new, home_old}
use Rattle.call_types.specs.Within.{IsEnv}
use Rattle.fleet.specs.declared.reach.Reach.{Reach}
use Rattle.fleet.specs.declared.reach.Reach.TheVariants.{Nowhere, At, Everywhere}
use Rattle.account_book.specs.Fleets.{moves_at, put_all, merged}
use Rattle.fleet.specs.Reaches.{reach, reaches, at_most}
use Rattle.fleet.specs.Sites.{site, sites}
use Rattle.account_book.specs.Taking.{request_counts, IsKnown, AllKnown}
use Rattle.fleet.proofs.Entered.{concerns_reach}
use Rattle.account_book.proofs.Concerned.{count_here}
use Rattle.account_book.proofs.EntryAnswers.{Answered, Own, Older, part, part_same, part_rising, has_home}
use Rattle.account_book.proofs.Merging.{merge_rising, merge_answer}

-- the moves at an environment that is reached are the entry's answers to its tickets
pub moves_there : (config : Config) (h : List Entry) (entry : Entry) (e : ℕ) → IsLegal config h → Follows config h entry
    → 1 ≤ e → e ≤ length (owners config) → reaches (reach h entry.place entry.call) e ≡ true
    → moves_at (length h) entry.moment (request_counts config (entry ∷ h)) entry.call (site config h e) ≡ part (λ t. is_number (home (entry ∷ h) t) e) entry
moves_there config h entry e l w low high here =
    rw (count_here config (entry ∷ h) e low high) (sym (moves_are config h entry e l w (concerns_reach config h entry e w ∙ here)))

-- the environment of the entry's own ticket is the one that is reached
own_reach : (config : Config) (h : List Entry) (call : Call) (place : Option ℕ) (e : ℕ)
    → place ≡ place_for config h call → or_else place (env_of call) ≡ Some e → reach h place call ≡ At e
own_reach config h Stop place e p q = absurd (none-some (rw p at q))
own_reach config h (Withdraw t) place e p q = absurd (none-some (rw p at q))
own_reach config h (Invoke f qualified trace body) place e p q = ap at_most q
own_reach config h (RuntimeNext d) place e p q = ap at_most q
own_reach config h (Response d id body) place e p q = ap at_most q
own_reach config h (ResponseTooLarge d id) place e p q = ap at_most q
own_reach config h (Failure d id body) place e p q = ap at_most q
own_reach config h (InitFailure d body) place e p q = ap at_most q
own_reach config h (Register d name invoke shutdown account) place e p q = ap at_most q
own_reach config h (ExtNext d x) place e p q = ap at_most q
own_reach config h (ExtInitFailure d x body) place e p q = ap at_most q
own_reach config h (ExtExitFailure d x body) place e p q = ap at_most q
own_reach config h Tick place e p q = ap at_most q
own_reach config h (Spindown d) place e p q = ap at_most q
own_reach config h (Expire d) place e p q = ap at_most q
own_reach config h (Reserve f count) place e p q = ap at_most q

-- an answered ticket with an environment is one of an environment that is reached
pub reached_home : (config : Config) (h : List Entry) (entry : Entry) (t d : ℕ) → Follows config h entry
    → Answered config h entry t → home (entry ∷ h) t ≡ Some d → reaches (reach h entry.place entry.call) d ≡ true
reached_home config h entry t d w (Own s) q =
    ap (λ (r : Reach). reaches r d) (own_reach config h entry.call entry.place d w.place (sym (home_new entry h) ∙ ap (home (entry ∷ h)) (sym s) ∙ q))
    ∙ eqb-self d
reached_home config h entry t d w (Older lt e s r) q = let same : e ≡ d = the e d (sym s ∙ sym (home_old entry h t lt) ∙ q) in rw (sym same) r
  where
    the : (x y : ℕ) → Some x ≡ Some y → x ≡ y
    the x y k = cc

none_part : (pairs : List (ℕ × Answer)) → (entry : Entry) → entry.answers ≡ pairs → part (λ t. false) entry ≡ []
none_part pairs entry same = empty entry.answers
  where
    empty : (xs : List (ℕ × Answer)) → part (λ t. false) (record entry { answers = xs }) ≡ []
    empty [] = refl
    empty (x ∷ xs) = empty xs

no_part : (entry : Entry) → part (λ t. false) entry ≡ []
no_part entry = none_part entry.answers entry refl

-- An entry that reaches no environment gives nothing there;
pub homed_nowhere : (config : Config) (h : List Entry) (entry : Entry) → Follows config h entry
    → reach h entry.place entry.call ≡ Nowhere → part (has_home h entry) entry ≡ []
homed_nowhere config h entry w r = part_same config h entry (has_home h entry) (λ t. false) w (λ t a. each t a (home (entry ∷ h) t) refl) ∙ no_part entry
  where
    each : (t : ℕ) → Answered config h entry t → (o : Option ℕ) → home (entry ∷ h) t ≡ o → has_home h entry t ≡ false
    each t a None q = ap is_some q
    each t a (Some d) q = absurd (true≢false (sym (reached_home config h entry t d w a q) ∙ ap (λ (x : Reach). reaches x d) r))

-- answers put among none
among_none : (moves : List (ℕ × Answer)) → IsRising 0 moves → put_all moves [] ≡ moves
among_none moves r =
    rising_same 0 (put_all moves []) moves (merge_rising 0 moves [] r tt (λ u q. refl)) r
    (λ u. merge_answer 0 moves [] u r tt (λ v q. refl) ∙ behind (answer_in moves u))
  where
    behind : (o : Option Answer) → or_else o None ≡ o
    behind None = refl
    behind (Some b) = refl

-- one that reaches an environment gives the moves there;
pub homed_at : (config : Config) (h : List Entry) (entry : Entry) (e : ℕ) → IsLegal config h → Follows config h entry
    → reach h entry.place entry.call ≡ At e → 1 ≤ e → e ≤ length (owners config)
    → part (has_home h entry) entry ≡ put_all (moves_at (length h) entry.moment (request_counts config (entry ∷ h)) entry.call (site config h e)) []
homed_at config h entry e l w r low high =
    part_same config h entry (has_home h entry) here w (λ t a. each t a (home (entry ∷ h) t) refl)
    ∙ sym (among_none (part here entry) (part_rising config h entry here w))
    ∙ ap (λ ms. put_all ms []) (sym (moves_there config h entry e l w low high (ap (λ (x : Reach). reaches x e) r ∙ eqb-self e)))
  where
    here : ℕ → Bool
    here t = is_number (home (entry ∷ h) t) e

    each : (t : ℕ) → Answered config h entry t → (o : Option ℕ) → home (entry ∷ h) t ≡ o → has_home h entry t ≡ here t
    each t a None q = ap is_some q ∙ sym (ap (λ (o : Option ℕ). is_number o e) q)
    each t a (Some d) q =
        let this : e ≡ d = eqb-true e d (sym (ap (λ (x : Reach). reaches x d) r) ∙ reached_home config h entry t d w a q) in
        ap is_some q ∙ sym (ap (λ (o : Option ℕ). is_number o e) q ∙ let same : (d == e) ≡ true = grind (arith, nat_tests, this) in same)

-- the environments of tickets are those of the configuration
named_within : (config : Config) (d e : ℕ) → IsEnv config d → Some d ≡ Some e → IsEnv config e
named_within config d e w q = let same : d ≡ e = cc in (omega (arith, same, w.0), omega (arith, same, w.1))

pub env_within : (config : Config) (call : Call) (e : ℕ) → IsKnown config call → env_of call ≡ Some e → IsEnv config e
env_within config (Invoke f qualified trace body) e k q = absurd (none-some q)
env_within config Tick e k q = absurd (none-some q)
env_within config (Withdraw t) e k q = absurd (none-some q)
env_within config Stop e k q = absurd (none-some q)
env_within config (Reserve f count) e k q = absurd (none-some q)
env_within config (RuntimeNext d) e k q = named_within config d e k q
env_within config (Response d id body) e k q = named_within config d e k.0 q
env_within config (ResponseTooLarge d id) e k q = named_within config d e k.0 q
env_within config (Failure d id body) e k q = named_within config d e k.0 q
env_within config (InitFailure d body) e k q = named_within config d e k.0 q
env_within config (Register d name invoke shutdown account) e k q = named_within config d e k.0 q
env_within config (ExtNext d x) e k q = named_within config d e k.0 q
env_within config (ExtInitFailure d x body) e k q = named_within config d e k.0 q
env_within config (ExtExitFailure d x body) e k q = named_within config d e k.0 q
env_within config (Spindown d) e k q = named_within config d e k q
env_within config (Expire d) e k q = named_within config d e k q

pub known_call : (config : Config) (h : List Entry) (t : ℕ) → AllKnown config h → t < length h → IsKnown config (call_of h t)
known_call config [] t k lt = absurd (omega arith)
known_call config (entry ∷ h) t k lt = go (known_call config h t k.0) (t == length h) refl
  where
    go : (t < length h → IsKnown config (call_of h t)) → (b : Bool) → (t == length h) ≡ b → IsKnown config (if b then entry.call else call_of h t)
    go older true q = k.1
    go older false q = older (let ne : t < length h = grind (arith, nat_tests, q, lt) in ne)

pub home_within : (config : Config) (h : List Entry) (t d : ℕ) → IsLegal config h → AllKnown config h → t < length h → home h t ≡ Some d → IsEnv config d
home_within config h t d l k lt q = go (place_of h t) refl q
  where
    go : (o : Option ℕ) → place_of h t ≡ o → or_else o (env_of (call_of h t)) ≡ Some d → IsEnv config d
    go None r s = env_within config (call_of h t) d (known_call config h t k lt) s
    go (Some e) r s = let b = placed_between config h t d l (r ∙ s) in (omega (arith, b.0), omega (arith, b.1))

answered_within : (config : Config) (h : List Entry) (entry : Entry) (t d : ℕ) → IsLegal config h
    → Follows config h entry → AllKnown config h → IsKnown config entry.call → Answered config h entry t
    → home (entry ∷ h) t ≡ Some d → IsEnv config d
answered_within config h entry t d l w k known (Own s) q = home_within config (entry ∷ h) t d (l, w) (k, known) (omega (arith, s)) q
answered_within config h entry t d l w k known (Older lt e s r) q = home_within config (entry ∷ h) t d (l, w) (k, known) (omega (arith, lt)) q

-- whether a ticket's environment has a number below this
abbrev below : ℕ → Option ℕ → Bool
below a None = false
below a (Some d) = nat_lt d a

-- the answers at the environments from a on, among those at the environments before them
merged_from : (config : Config) (h : List Entry) (entry : Entry) → IsLegal config h → Follows config h entry
    → reach h entry.place entry.call ≡ Everywhere → (a n : ℕ) → 1 ≤ a → a + n ≤ 1 + length (owners config)
    → merged (moves_at (length h) entry.moment (request_counts config (entry ∷ h)) entry.call) (map (site config h) (count_from a n)) (part (λ t. below a (home (entry ∷ h) t)) entry) ≡ part (λ t. below (a + n) (home (entry ∷ h) t)) entry
merged_from config h entry l w r a zero low high = let same : a ≡ a + 0 = omega arith in ap (λ b. part (λ t. below b (home (entry ∷ h) t)) entry) same
merged_from config h entry l w r a (suc n) low high =
    ap (merged (moves_at (length h) entry.moment (request_counts config (entry ∷ h)) entry.call) (map (site config h) (count_from (suc a) n))) one
    ∙ merged_from config h entry l w r (suc a) n (omega (arith, low)) (omega (arith, high))
    ∙ (let same : suc a + n ≡ a + suc n = omega arith in ap (λ b. part (λ t. below b (home (entry ∷ h) t)) entry) same)
  where
    here : ℕ → Bool
    here t = is_number (home (entry ∷ h) t) a

    before : ℕ → Bool
    before t = below a (home (entry ∷ h) t)

    after : ℕ → Bool
    after t = below (suc a) (home (entry ∷ h) t)

    both : (o : Option ℕ) → is_number o a ≡ true → below a o ≡ true → ⊥
    both None p q = true≢false (sym p)
    both (Some d) p q = let e : d ≡ a = eqb-true d a p in let lt : d < a = grind (arith, nat_tests, q) in omega (arith, e, lt)

    either : (o : Option ℕ) (x : Option Answer)
        → or_else (if is_number o a then x else None) (if below a o then x else None) ≡ (if below (suc a) o then x else None)
    either None x = refl
    either (Some d) x = cases (d == a) (nat_lt d a) (nat_lt d (suc a)) (grind (arith, nat_tests)) (grind (arith, nat_tests)) (grind (arith, nat_tests))
      where
        cases : (b c k : Bool) → (b ≡ true → k ≡ true) → (c ≡ true → k ≡ true) → (b ≡ false → c ≡ false → k ≡ false)
            → or_else (if b then x else None) (if c then x else None) ≡ (if k then x else None)
        cases true true k p q s = rw (p refl) (twice x)
          where
            twice : (y : Option Answer) → or_else y y ≡ y
            twice None = refl
            twice (Some z) = refl
        cases true false k p q s = rw (p refl) (alone x)
          where
            alone : (y : Option Answer) → or_else y None ≡ y
            alone None = refl
            alone (Some z) = refl
        cases false true k p q s = rw (q refl) refl
        cases false false k p q s = rw (s refl refl) refl

    apart : (u : ℕ) → is_some (answer_in (part here entry) u) ≡ true → answer_in (part before entry) u ≡ None
    apart u q = filter_answer before entry.answers u ∙ go (here u) refl (before u) refl (ap is_some (sym (filter_answer here entry.answers u)) ∙ q)
      where
        go : (b : Bool) → here u ≡ b → (c : Bool) → before u ≡ c
            → is_some (if b then answer_in entry.answers u else None) ≡ true
            → (if c then answer_in entry.answers u else None) ≡ None
        go true p true s k = absurd (both (home (entry ∷ h) u) p s)
        go b p false s k = refl
        go false p true s k = absurd (true≢false (sym k))

    one : put_all (moves_at (length h) entry.moment (request_counts config (entry ∷ h)) entry.call (site config h a)) (part before entry) ≡ part after entry
    one =
        ap (λ ms. put_all ms (part before entry)) (moves_there config h entry a l w low (omega (arith, high)) (ap (λ (x : Reach). reaches x a) r))
        ∙ rising_same 0 (put_all (part here entry) (part before entry)) (part after entry)
        (merge_rising 0 (part here entry) (part before entry) (part_rising config h entry here w) (part_rising config h entry before w) apart)
        (part_rising config h entry after w)
        (λ u. merge_answer 0 (part here entry) (part before entry) u (part_rising config h entry here w) (part_rising config h entry before w) apart
        ∙ ap₂ or_else (filter_answer here entry.answers u) (filter_answer before entry.answers u)
        ∙ either (home (entry ∷ h) u) (answer_in entry.answers u)
        ∙ sym (filter_answer after entry.answers u))

-- one that reaches all gives the moves at each.
pub homed_everywhere : (config : Config) (h : List Entry) (entry : Entry) → IsLegal config h → Follows config h entry
    → AllKnown config h → IsKnown config entry.call → reach h entry.place entry.call ≡ Everywhere
    → part (has_home h entry) entry ≡ merged (moves_at (length h) entry.moment (request_counts config (entry ∷ h)) entry.call) (sites config h) []
homed_everywhere config h entry l w k known r =
    part_same config h entry (has_home h entry) (λ t. below (1 + length (owners config)) (home (entry ∷ h) t)) w (λ t a. each t a (home (entry ∷ h) t) refl)
    ∙ sym (merged_from config h entry l w r 1 (length (owners config)) (omega arith) (omega arith))
    ∙ ap (merged (moves_at (length h) entry.moment (request_counts config (entry ∷ h)) entry.call) (sites config h))
    (part_same config h entry (λ t. below 1 (home (entry ∷ h) t)) (λ t. false) w (λ t a. none t a (home (entry ∷ h) t) refl) ∙ no_part entry)
  where
    each : (t : ℕ) → Answered config h entry t → (o : Option ℕ) → home (entry ∷ h) t ≡ o
        → is_some (home (entry ∷ h) t) ≡ below (1 + length (owners config)) (home (entry ∷ h) t)
    each t a None q = rw q refl
    each t a (Some d) q =
        let within = answered_within config h entry t d l w k known a q in rw q (let lt : nat_lt d (1 + length (owners config)) ≡ true = grind (arith, nat_tests, within.1) in sym lt)

    none : (t : ℕ) → Answered config h entry t → (o : Option ℕ) → home (entry ∷ h) t ≡ o → below 1 (home (entry ∷ h) t) ≡ false
    none t a None q = rw q refl
    none t a (Some d) q =
        let within = answered_within config h entry t d l w k known a q in rw q (let ge : nat_lt d 1 ≡ false = grind (arith, nat_tests, within.0) in ge)

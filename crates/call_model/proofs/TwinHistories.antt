-- Two histories whose tickets of one kind fare alike: what an environment's scans and its next phase make of them.
use Rattle.std.proofs.Common.{◌≡◌, ℕ, Bool, true, false, List, [], ◌∷◌, length, Option, Some, None, sym, refl, ap, ap₂}
use Rattle.std.proofs.Common.{◌∙◌, subst, is_some, ◌&&◌, ◌||◌, map, true≢false, if◌then◌else◌}
use Rattle.std.specs.List.{cons_option}
use Rattle.call_types.specs.declared.call.Entry.{Entry}
use Rattle.arn_ids.specs.declared.config.Config.{Config}
use Rattle.call_model.specs.History.{answer_in, pending, stopped, requests, upto}
use Rattle.call_model.specs.Generation.{Generation, Extension, Actor, TheRuntime, TheExtension, asks, last_next, parked}
use Rattle.call_model.specs.Generation.{if_pending, extensions, as_registered, told, asked_again, exited}
use Rattle.call_model.specs.Generation.{answer_to_next, is_ending, is_accepted, reports_exit, member, members, ready}
use Rattle.call_types.specs.declared.answer.Phase.{Phase}
use Rattle.arn_ids.specs.Environments.{expected_at, function_of}
use Rattle.call_model.specs.Stand.{at_hand, bound_of}
use Rattle.call_model.specs.Table.{reborn, settled, after_cell}
use Rattle.call_model.specs.Life.{Lifecycle, Visit, after, ends, ends_here, seen, request_at, first_part, limit_of}
use Rattle.call_model.specs.Life.{history_with, generation_with, members_with, phase_by_table, waits}
use Rattle.call_model.proofs.Basics.{map_same, some-none}
use Rattle.call_model.proofs.Visits.{visit_from, if_ended}

-- an entry and what the function sees of it: the same ticket and call, and the same answers to the function's tickets
pub record IsAlike (P : ℕ → Bool) (x y : ℕ × Entry) : Type 0 where
  pub ticket : x.0 ≡ y.0
  pub call : x.1.call ≡ y.1.call
  pub own : P y.0 ≡ true
  pub answers : (t : ℕ) → P t ≡ true → answer_in x.1.answers t ≡ answer_in y.1.answers t

abbrev pub AreAlike : (ℕ → Bool) → Generation → Generation → Type 0
AreAlike P [] [] = Unit {0}
AreAlike P (x ∷ g) (y ∷ k) = IsAlike P x y × AreAlike P g k
AreAlike P g k = ⊥

own_given : (P : ℕ → Bool) (x y : ℕ × Entry) → IsAlike P x y → answer_in x.1.answers x.0 ≡ answer_in y.1.answers y.0
own_given P x y a = ap (answer_in x.1.answers) a.ticket ∙ a.answers y.0 a.own

extensions_alike : (P : ℕ → Bool) (g k : Generation) → AreAlike P g k → extensions g ≡ extensions k
extensions_alike P [] [] a = refl
extensions_alike P [] (y ∷ k) a = absurd a
extensions_alike P (x ∷ g) [] a = absurd a
extensions_alike P (x ∷ g) (y ∷ k) a = ap₂ cons_option (ap₂ as_registered a.0.call (own_given P x y a.0)) (extensions_alike P g k a.1)

last_alike : (P : ℕ → Bool) (g k : Generation) (actor : Actor) → AreAlike P g k → last_next g actor ≡ last_next k actor
last_alike P [] [] actor a = refl
last_alike P [] (y ∷ k) actor a = absurd a
last_alike P (x ∷ g) [] actor a = absurd a
last_alike P (x ∷ g) (y ∷ k) actor a = λ i. if asks actor (a.0.call i) then Some (a.0.ticket i) else last_alike P g k actor a.1 i

last_own : (P : ℕ → Bool) (g k : Generation) (actor : Actor) (t : ℕ) → AreAlike P g k → last_next k actor ≡ Some t → P t ≡ true
last_own P [] [] actor t a q = absurd (some-none (sym q))
last_own P [] (y ∷ k) actor t a q = absurd a
last_own P (x ∷ g) [] actor t a q = absurd a
last_own P (x ∷ g) (y ∷ k) actor t a q = go (asks actor y.1.call) (last_own P g k actor t a.1) q
  where
    go : (b : Bool) → (last_next k actor ≡ Some t → P t ≡ true) → (if b then Some y.0 else last_next k actor) ≡ Some t → P t ≡ true
    go true ih r = let same : y.0 ≡ t = cc in subst (λ n. P n ≡ true) same (a.0.own)
    go false ih r = ih r

next_alike : (P : ℕ → Bool) (x y : ℕ × Entry) (g k : Generation) (actor : Actor) → IsAlike P x y → AreAlike P (x ∷ g) (y ∷ k)
    → answer_to_next x.1 (last_next (x ∷ g) actor) ≡ answer_to_next y.1 (last_next (y ∷ k) actor)
next_alike P x y g k actor a all = ap (answer_to_next x.1) (last_alike P (x ∷ g) (y ∷ k) actor all) ∙ go (last_next (y ∷ k) actor) refl
  where
    go : (o : Option ℕ) → last_next (y ∷ k) actor ≡ o → answer_to_next x.1 o ≡ answer_to_next y.1 o
    go None q = refl
    go (Some t) q = a.answers t (last_own P (x ∷ g) (y ∷ k) actor t all q)

told_alike : (P : ℕ → Bool) (g k : Generation) (n : ℕ) → AreAlike P g k → told g n ≡ told k n
told_alike P [] [] n a = refl
told_alike P [] (y ∷ k) n a = absurd a
told_alike P (x ∷ g) [] n a = absurd a
told_alike P (x ∷ g) (y ∷ k) n a = ap₂ ◌||◌ (told_alike P g k n a.1) (ap is_ending (next_alike P x y g k (TheExtension n) a.0 a))

again_alike : (P : ℕ → Bool) (g k : Generation) (n : ℕ) → AreAlike P g k → asked_again g n ≡ asked_again k n
again_alike P [] [] n a = refl
again_alike P [] (y ∷ k) n a = absurd a
again_alike P (x ∷ g) [] n a = absurd a
again_alike P (x ∷ g) (y ∷ k) n a = ap₂ ◌||◌ (again_alike P g k n a.1) (ap₂ ◌&&◌ (told_alike P g k n a.1) (ap (asks (TheExtension n)) a.0.call))

exited_alike : (P : ℕ → Bool) (g k : Generation) (n : ℕ) → AreAlike P g k → exited g n ≡ exited k n
exited_alike P [] [] n a = refl
exited_alike P [] (y ∷ k) n a = absurd a
exited_alike P (x ∷ g) [] n a = absurd a
exited_alike P (x ∷ g) (y ∷ k) n a = ap₂ ◌||◌ (ap₂ ◌&&◌ (ap (reports_exit n) a.0.call) (ap is_accepted (own_given P x y a.0))) (exited_alike P g k n a.1)

-- the two histories: the tickets that pass P are pending in both or in neither
pub record IsTwin (P : ℕ → Bool) (o h : List Entry) : Type 0 where
  pub size : length o ≡ length h
  pub pend : (t : ℕ) → P t ≡ true → pending o t ≡ pending h t
  pub stop : stopped o ≡ stopped h

-- an actor's pending Next
pub parked_alike : (P : ℕ → Bool) (o h : List Entry) (g k : Generation) (actor : Actor) → IsTwin P o h → AreAlike P g k → parked o g actor ≡ parked h k actor
parked_alike P o h g k actor w a = ap (if_pending o) (last_alike P g k actor a) ∙ go (last_next k actor) refl
  where
    go : (n : Option ℕ) → last_next k actor ≡ n → if_pending o n ≡ if_pending h n
    go None q = refl
    go (Some t) q = ap (λ (b : Bool). if b then Some t else None) (w.pend t (last_own P g k actor t a q))

-- The extensions of the generation stand alike.
pub members_alike : (P : ℕ → Bool) (o h : List Entry) (g k : Generation) → IsTwin P o h → AreAlike P g k → members o g ≡ members h k
unfolding members
members_alike P o h g k w a = ap (map (member o g)) (extensions_alike P g k a) ∙ map_same (member o g) (member h k) each (extensions k)
  where
    each : (x : Extension) → member o g x ≡ member h k x
    each x = λ i. record {
      extension = x;
      next = parked_alike P o h g k (TheExtension x.count) w a i;
      told = told_alike P g k x.count a i;
      again = again_alike P g k x.count a i;
      exited = exited_alike P g k x.count a i;
    }

-- the invocation at hand passes P
abbrev pub IsMine : (ℕ → Bool) → Phase → Type 0
IsMine P phase = (p : ℕ) → at_hand phase ≡ Some p → P p ≡ true

waits_alike : (config : Config) (P : ℕ → Bool) (o h : List Entry) (e : ℕ) (hand : Option ℕ) → IsTwin P o h
    → ((p : ℕ) → hand ≡ Some p → P p ≡ true)
    → is_some (request_at config o e hand) ≡ is_some (request_at config h e hand)
waits_alike config P o h e None w mine = refl
waits_alike config P o h e (Some p) w mine = go (pending o p) (pending h p) (w.pend p (mine p refl))
  where
    go : (a b : Bool) → a ≡ b
        → is_some (if a then Some (requests (upto o p) (function_of config e)) else None) ≡ is_some (if b then Some (requests (upto h p) (function_of config e)) else None)
    go true true q = refl
    go false false q = refl
    go true false q = absurd (true≢false q)
    go false true q = absurd (true≢false (sym q))

abbrev pub IsSameLife : (ℕ → Bool) → Lifecycle → Lifecycle → Type 0
IsSameLife P l m = (l.phase ≡ m.phase) × AreAlike P l.generation m.generation

-- what an entry makes of an environment that it concerns
pub after_alike : (config : Config) (P : ℕ → Bool) (o h : List Entry) (e : ℕ) (x y : Entry) (l m : Lifecycle)
    → x.call ≡ y.call → x.moment ≡ y.moment → seen config o e l ≡ seen config h e m → IsTwin P o h
    → IsTwin P (first_part x ∷ o) (first_part y ∷ h)
    → AreAlike P ((length o, x) ∷ l.generation) ((length h, y) ∷ m.generation) → l.phase ≡ m.phase
    → IsMine P (phase_by_table (visit_from config h e y m))
    → IsSameLife P (after (visit_from config o e x l)) (after (visit_from config h e y m))
unfolding after
after_alike config P o h e x y l m call moment same old new a phase mine =
    subst (λ (b : Bool). IsSameLife P (if_ended b v) (after w)) (sym over) (go (ends_here w))
  where
    v : Visit
    v = visit_from config o e x l

    w : Visit
    w = visit_from config h e y m

    cells : phase_by_table v ≡ phase_by_table w
    cells = λ i. after_cell (moment i) (limit_of config e (moment i)) (old.size i) (same i) (call i)

    extensions : members_with v ≡ members_with w
    extensions = members_alike P (history_with v) (history_with w) (generation_with v) (generation_with w) new a

    over : ends_here v ≡ ends_here w
    over = λ i. ends (phase i) (call i) (cells i) (extensions i)

    waiting : waits v ≡ waits w
    waiting =
        ap (λ (c : Phase). is_some (request_at config (history_with v) e (at_hand c))) cells
        ∙ waits_alike config P (history_with v) (history_with w) e (at_hand (phase_by_table w)) new mine

    go : (b : Bool) → IsSameLife P (if_ended b v) (if_ended b w)
    go true = ((λ i. reborn (new.stop i) (moment i) (bound_of (cells i))), tt)
    go false =
        ((λ i. settled (limit_of config e (moment i)) (ready (parked_alike P (history_with v) (history_with w) (generation_with v) (generation_with w) TheRuntime new a i) (extensions i) (expected_at config e)) (waiting i) (cells i)), a)

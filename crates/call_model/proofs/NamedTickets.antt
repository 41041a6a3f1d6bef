-- An entry answers no later ticket, and what its answers are made of is no later call.
use Rattle.std.proofs.Common.{◌≡◌, ℕ, zero, suc, ◌+◌, ◌≤◌, List, [], ◌∷◌, length, Option, Some, None, sym, refl, ap, ◌∙◌, subst, arith}
use Rattle.call_types.specs.declared.answer.Answer.{Answer}
use Rattle.call_types.specs.declared.call.Entry.{Entry}
use Rattle.arn_ids.specs.declared.config.Config.{Config}
use Rattle.call_model.specs.History.{answer_in, or_else}
use Rattle.call_model.specs.Life.{phase, stand}
use Rattle.call_model.specs.Stand.{at_hand, role}
use Rattle.call_model.specs.Polls.{begun}
use Rattle.call_model.specs.Answers.{answers, each_from, with_answer, first_entry, second_answer, second_at, answer_to, numbered, event_at, home}
use Rattle.call_model.specs.Isolation.{named}
use Rattle.call_model.specs.Next.{IsLegal}
use Rattle.call_model.proofs.Basics.{some-none}
use Rattle.call_model.proofs.AtHand.{held}
use Rattle.call_model.proofs.FirstPhase.{first_in, phase_first}
use Rattle.call_model.proofs.OwnTexts.{names_of, of_first, begun_hand, delivered_number, keeps_named}

-- answers to tickets up to n, made of calls up to n
abbrev pub IsBounded : ℕ → List (ℕ × Answer) → Type 0
IsBounded n [] = Unit {0}
IsBounded n (a ∷ rest) = (a.0 ≤ n) × ((p : ℕ) → named a.1 ≡ Some p → p ≤ n) × IsBounded n rest

-- an answer, if there is one, is made of a call up to n
abbrev IsMadeUpTo : ℕ → Option Answer → Type 0
IsMadeUpTo n a = (p : ℕ) → names_of a ≡ Some p → p ≤ n

each_bounded : (n t m : ℕ) (f : ℕ → Option Answer) → t + m ≤ suc n → ((u : ℕ) → u ≤ n → IsMadeUpTo n (f u)) → IsBounded n (each_from t m f)
each_bounded n t zero f le h = tt
each_bounded n t (suc m) f le h = go (f t) (h t (omega (arith, le))) (each_bounded n (suc t) m f (omega (arith, le)) h)
  where
    go : (a : Option Answer) → IsMadeUpTo n a → IsBounded n (each_from (suc t) m f) → IsBounded n (with_answer t a (each_from (suc t) m f))
    go None k r = r
    go (Some a) k r = (omega (arith, le), k, r)

event_keeps : (h : List Entry) (entry : Entry) (before : List (ℕ × Answer)) (o : Option ℕ) (a : Answer) → named (event_at h entry before o a) ≡ named a
event_keeps h entry before None a = refl
event_keeps h entry before (Some e) a = keeps_named _ a

numbered_bounded : (n : ℕ) (h : List Entry) (entry : Entry) (before pairs : List (ℕ × Answer)) → IsBounded n pairs → IsBounded n (numbered h entry before pairs)
numbered_bounded n h entry before [] w = tt
numbered_bounded n h entry before (a ∷ rest) w =
    (w.0, λ p e. w.1 p (sym (event_keeps h entry before _ a.1) ∙ e), numbered_bounded n h entry (a ∷ before) rest w.2)

pub entry_bounded : (config : Config) (h : List Entry) (entry : Entry) → IsLegal config (entry ∷ h) → IsBounded (length h) entry.answers
unfolding answers answer_to second_answer
entry_bounded config h entry l =
    subst (IsBounded (length h)) (sym (l.1.answers))
    (numbered_bounded (length h) h y [] (each_from 0 (suc (length h)) (answer_to config h y)) (each_bounded (length h) 0 (suc (length h)) (answer_to config h y) (omega arith) made))
  where
    y : Entry
    y = first_entry config h entry.moment entry.call

    second : (t : ℕ) (o : Option ℕ) → IsMadeUpTo (length h) (second_at config h y t o)
    second t None p q = absurd (some-none (sym q))
    second t (Some d) p q =
        let hand = begun_hand (phase config h d) (phase config (y ∷ h) d) p (delivered_number (begun (phase config h d) (phase config (y ∷ h) d)) (role (stand config (y ∷ h) d) t) p q) in
        let at = held config (entry ∷ h) d p l (ap at_hand (sym (phase_first config h entry d l.1)) ∙ hand) in
        omega (arith, at.older)

    either : (t : ℕ) (a b : Option Answer) → IsMadeUpTo (length h) a → IsMadeUpTo (length h) b → IsMadeUpTo (length h) (or_else a b)
    either t None b p q = q
    either t (Some a) b p q = p

    first : (t : ℕ) → t ≤ length h → IsMadeUpTo (length h) (answer_in y.answers t)
    first t le p q =
        let own = of_first config h entry.moment entry.call t p (sym (ap names_of (first_in config h entry.moment entry.call t le)) ∙ q) in omega (arith, own)

    made : (t : ℕ) → t ≤ length h → IsMadeUpTo (length h) (answer_to config h y t)
    made t le = either t (answer_in y.answers t) (second_answer config h y t) (first t le) (second t (home (y ∷ h) t))

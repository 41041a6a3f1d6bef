-- The tickets that a stand holds are different ones, and what each gets of what is given by roles.
use Rattle.std.proofs.Common.{◌≡◌, ℕ, ◌<◌, Bool, true, false, eqb, List, [], ◌∷◌, Option, Some, None, sym, refl, ap}
use Rattle.std.proofs.Common.{◌∙◌, inl, inr, arith, is_some, ◌&&◌, map, true≢false, if◌then◌else◌}
use Rattle.std.specs.List.{find}
use Rattle.std.proofs.lemmas.Bool.Decides.{eqb_tells}
use Rattle.call_types.specs.declared.answer.Answer.{Answer}
use Rattle.call_types.specs.declared.call.Entry.{Entry}
use Rattle.call_model.specs.History.{answer_in, call_of}
use Rattle.call_model.specs.Generation.{Generation, Extension, Member, TheRuntime, TheExtension, parked, extensions, member, members}
use Rattle.call_model.specs.Stand.{Stand, Role, NoRole, Waiting, RuntimePoll, ExtensionPoll, is_number, role, member_role, waits_as, at_hand}
use Rattle.environment_step.specs.After.{give, give_each, waiting_call}
use Rattle.call_types.specs.Calls.{is_invoke}
use Rattle.call_model.proofs.BoundWaits.{IsPart, invoke_asks}
use Rattle.environment_step.proofs.Extensions.{IsUnder}
use Rattle.environment_step.proofs.MemberRoles.{IsIn, under_in}
use Rattle.call_model.proofs.Roles.{other_number, not_both, one_asker, parked_asks_for}
use Rattle.environment_step.proofs.Rising.{IsRising}
use Rattle.environment_step.proofs.Puts.{given_at, IsFresh, give_rising, give_answer}
use Rattle.call_model.proofs.Basics.{eqb-self, number_some, some-none}

abbrev pub holder : List Member → ℕ → Option Member
holder xs t = find (λ x. is_number x.next t) xs

abbrev pub AreApart : List Member → Type 0
AreApart [] = Unit {0}
AreApart (x ∷ xs) = ((t : ℕ) → x.next ≡ Some t → holder xs t ≡ None) × AreApart xs

pub record IsOrderly (runtime : Option ℕ) (xs : List Member) (hand : Option ℕ) : Type 0 where
  pub apart : AreApart xs
  pub one_runtime : (t : ℕ) → runtime ≡ Some t → holder xs t ≡ None
  pub no_runtime : (t : ℕ) → hand ≡ Some t → is_number runtime t ≡ false
  pub no_member : (t : ℕ) → hand ≡ Some t → holder xs t ≡ None

pub none_holds : (h : List Entry) (g : Generation) (t : ℕ) (xs : List Extension)
    → ((x : Extension) → IsIn x xs → parked h g (TheExtension x.count) ≡ Some t → ⊥)
    → holder (map (member h g) xs) t ≡ None
none_holds h g t [] e = refl
none_holds h g t (x ∷ xs) e = rw (other_number (parked h g (TheExtension x.count)) t (e x (inl refl))) (none_holds h g t xs (λ y i. e y (inr i)))

all_apart : (h : List Entry) (g : Generation) (b : ℕ) (xs : List Extension) → IsPart h g → IsUnder b xs → AreApart (map (member h g) xs)
all_apart h g b [] p u = tt
all_apart h g b (x ∷ xs) p u =
    ((λ t q. none_holds h g t xs (λ y i r. let less : y.count < x.count = under_in x.count xs y u.1 i in let equal : y.count ≡ x.count = one_asker (call_of h t) y.count x.count (parked_asks_for h g (TheExtension y.count) t p r) (parked_asks_for h g (TheExtension x.count) t p q) in omega (arith, less, equal))), all_apart h g x.count xs p u.1)

-- what a history's generation holds is orderly
pub orderly : (h : List Entry) (g : Generation) (b : ℕ) (hand : Option ℕ) → IsPart h g → IsUnder b (extensions g)
    → ((t : ℕ) → hand ≡ Some t → is_invoke (call_of h t) ≡ true) → IsOrderly (parked h g TheRuntime) (members h g) hand
unfolding members
orderly h g b hand p u i = record {
  apart = all_apart h g b (extensions g) p u;
  one_runtime =
      λ t q. none_holds h g t (extensions g) (λ x j r. not_both (call_of h t) x.count (parked_asks_for h g TheRuntime t p q) (parked_asks_for h g (TheExtension x.count) t p r));
  no_runtime = λ t q. other_number (parked h g TheRuntime) t (λ r. invoke_asks TheRuntime (call_of h t) (i t q) (parked_asks_for h g TheRuntime t p r));
  no_member =
      λ t q. none_holds h g t (extensions g) (λ x j r. invoke_asks (TheExtension x.count) (call_of h t) (i t q) (parked_asks_for h g (TheExtension x.count) t p r));
}

-- what the ticket of a member gets
abbrev pub member_or : (ℕ → Role → Option Answer) → ℕ → Option Member → Option Answer → Option Answer
member_or F t None before = before
member_or F t (Some x) before = F t (ExtensionPoll x)

abbrev pub AreFresh : List Member → List (ℕ × Answer) → Type 0
AreFresh [] moves = Unit {0}
AreFresh (x ∷ xs) moves = IsFresh x.next moves × AreFresh xs moves

pub record IsEach (F : ℕ → Role → Option Answer) (xs : List Member) (before now : List (ℕ × Answer)) : Type 0 where
  pub rising : IsRising 0 now
  pub value : (t : ℕ) → answer_in now t ≡ member_or F t (holder xs t) (answer_in before t)

pub each_given : (F : ℕ → Role → Option Answer) (f : Member → Option Answer)
    → ((x : Member) (t : ℕ) → x.next ≡ Some t → f x ≡ F t (ExtensionPoll x))
    → (xs : List Member) (moves : List (ℕ × Answer)) → IsRising 0 moves → AreApart xs → AreFresh xs moves
    → IsEach F xs moves (give_each f xs moves)
each_given F f same [] moves r a k = record { rising = r; value = λ t. refl }
each_given F f same (x ∷ xs) moves r a k = more (each_given F f same xs moves r a.1 k.1)
  where
    rest : List (ℕ × Answer)
    rest = give_each f xs moves

    more : IsEach F xs moves rest → IsEach F (x ∷ xs) moves (give x.next (f x) rest)
    more w = record { rising = give_rising x.next (f x) rest w.rising free; value = λ t. give_answer x.next (f x) rest t w.rising free ∙ at t x.next refl }
      where
        free : IsFresh x.next rest
        free t q = w.value t ∙ ap (λ (o : Option Member). member_or F t o (answer_in moves t)) (a.0 t q) ∙ k.0 t q

        at : (t : ℕ) (o : Option ℕ) → x.next ≡ o
            → given_at o (f x) t (answer_in rest t) ≡ member_or F t (if is_number o t then Some x else holder xs t) (answer_in moves t)
        at t None q = w.value t
        at t (Some u) q = elim (eqb_tells u t) [
          | inl p ↦ rw p.0 (mine (f x) p.0 (same x t (q ∙ ap (λ (n : ℕ). Some n) p.1)) (free t (q ∙ ap (λ (n : ℕ). Some n) p.1)))
          | inr p ↦ rw p.0 (other (f x) p.0 (w.value t))
        ]
          where
            mine : (o : Option Answer) → eqb u t ≡ true → o ≡ F t (ExtensionPoll x) → answer_in rest t ≡ None
                → given_at (Some u) o t (answer_in rest t) ≡ F t (ExtensionPoll x)
            mine None z e n = n ∙ e
            mine (Some c) z e n = rw z e

            other : (o : Option Answer) → eqb u t ≡ false
                → answer_in rest t ≡ member_or F t (holder xs t) (answer_in moves t)
                → given_at (Some u) o t (answer_in rest t) ≡ member_or F t (holder xs t) (answer_in moves t)
            other None z e = e
            other (Some c) z e = rw z e

-- What a ticket gets where each role is given its answer.
pub record IsRoled (F : ℕ → Role → Option Answer) (s : Stand) (now : List (ℕ × Answer)) : Type 0 where
  pub rising : IsRising 0 now
  pub value : (t : ℕ) → answer_in now t ≡ F t (role s t)

pub given_role : (F : ℕ → Role → Option Answer) (r : Role) (o : Option ℕ) (a : Option Answer) (t : ℕ) (b : Option Answer)
    → ((u : ℕ) → o ≡ Some u → a ≡ F u r) → (is_number o t ≡ true → b ≡ None)
    → given_at o a t b ≡ (if is_number o t then F t r else b)
given_role F r None a t b e k = refl
given_role F r (Some u) a t b e k = elim (eqb_tells u t) [
  | inl p ↦ rw p.0 (mine a p.0 (e u refl ∙ ap (λ (n : ℕ). F n r) p.1) (k p.0))
  | inr p ↦ rw p.0 (other a p.0)
]
  where
    mine : (o : Option Answer) → eqb u t ≡ true → o ≡ F t r → b ≡ None → given_at (Some u) o t b ≡ F t r
    mine None z e n = n ∙ e
    mine (Some c) z e n = rw z e

    other : (o : Option Answer) → eqb u t ≡ false → given_at (Some u) o t b ≡ b
    other None z = refl
    other (Some c) z = rw z refl

-- no ticket of the members has an answer
pub fresh_all : (xs : List Member) (moves : List (ℕ × Answer)) → ((t : ℕ) → (holder xs t ≡ None → ⊥) → answer_in moves t ≡ None) → AreFresh xs moves
fresh_all [] moves e = tt
fresh_all (x ∷ xs) moves e =
    ((λ t q. e t (λ k. some-none (sym (ap (λ (b : Bool). if b then Some x else holder xs t) (ap (λ (m : Option ℕ). is_number m t) q ∙ eqb-self t)) ∙ k))), fresh_all xs moves (λ t k. e t (λ m. k (tail t (is_number x.next t) m))))
  where
    tail : (t : ℕ) (b : Bool) → (if b then Some x else holder xs t) ≡ None → holder xs t ≡ None
    tail t true m = absurd (some-none m)
    tail t false m = m

pub roled : (F : ℕ → Role → Option Answer) (s : Stand) (f : Member → Option Answer) (r w : Option Answer) → IsOrderly s.runtime s.members (at_hand s.phase)
    → ((x : Member) (t : ℕ) → x.next ≡ Some t → f x ≡ F t (ExtensionPoll x))
    → ((t : ℕ) → s.runtime ≡ Some t → r ≡ F t RuntimePoll) → ((t : ℕ) → waiting_call s ≡ Some t → w ≡ F t Waiting)
    → ((t : ℕ) → F t NoRole ≡ None)
    → IsRoled F s (give_each f s.members (give s.runtime r (give (waiting_call s) w [])))
unfolding role
roled F s f r w o fs fr fw fn = finish (each_given F f fs s.members second rise_second (o.apart) (fresh_all s.members second (λ t k. unheld t k)))
  where
    first : List (ℕ × Answer)
    first = give (waiting_call s) w []

    second : List (ℕ × Answer)
    second = give s.runtime r first

    first_free : IsFresh (waiting_call s) []
    first_free t q = refl

    rise_first : IsRising 0 first
    rise_first = give_rising (waiting_call s) w [] tt first_free

    value_first : (t : ℕ) → answer_in first t ≡ (if is_number (waiting_call s) t then F t Waiting else None)
    value_first t = give_answer (waiting_call s) w [] t tt first_free ∙ given_role F Waiting (waiting_call s) w t None fw (λ q. refl)

    hand : (t : ℕ) → waiting_call s ≡ Some t → at_hand s.phase ≡ Some t
    hand t q = go (is_some s.request) q
      where
        go : (b : Bool) → (if b then at_hand s.phase else None) ≡ Some t → at_hand s.phase ≡ Some t
        go true k = k
        go false k = absurd (some-none (sym k))

    second_free : IsFresh s.runtime first
    second_free t q =
        value_first t
        ∙ rw (other_number (waiting_call s) t (λ k. true≢false (sym (ap (λ (m : Option ℕ). is_number m t) q ∙ eqb-self t) ∙ o.no_runtime t (hand t k)))) refl

    rise_second : IsRising 0 second
    rise_second = give_rising s.runtime r first rise_first second_free

    value_second : (t : ℕ) → answer_in second t ≡ (if is_number s.runtime t then F t RuntimePoll else answer_in first t)
    value_second t =
        give_answer s.runtime r first t rise_first second_free
        ∙ given_role F RuntimePoll s.runtime r t (answer_in first t) fr (λ q. second_free t (number_some s.runtime t q))

    unheld : (t : ℕ) → (holder s.members t ≡ None → ⊥) → answer_in second t ≡ None
    unheld t k =
        value_second t
        ∙ rw (other_number s.runtime t (λ q. k (o.one_runtime t q))) (value_first t ∙ rw (other_number (waiting_call s) t (λ q. k (o.no_member t (hand t q)))) refl)

    waits : (t : ℕ) → is_number (waiting_call s) t ≡ waits_as s t
    waits t = go (is_some s.request)
      where
        go : (b : Bool) → is_number (if b then at_hand s.phase else None) t ≡ (b && is_number (at_hand s.phase) t)
        go true = refl
        go false = refl

    finish : IsEach F s.members second (give_each f s.members second) → IsRoled F s (give_each f s.members second)
    finish k = record { rising = k.rising; value = λ t. k.value t ∙ by_wait t (waits_as s t) refl }
      where
        held_by : (t : ℕ) (x : Option Member) (b : Option Answer) → b ≡ None → member_or F t x b ≡ F t (member_role x)
        held_by t None b n = n ∙ sym (fn t)
        held_by t (Some x) b n = refl

        by_runtime : (t : ℕ) → answer_in first t ≡ None → (c : Bool) → is_number s.runtime t ≡ c
            → member_or F t (holder s.members t) (answer_in second t) ≡ F t (if c then RuntimePoll else member_role (holder s.members t))
        by_runtime t n true q = rw (o.one_runtime t (number_some s.runtime t q)) (value_second t ∙ rw q refl)
        by_runtime t n false q = held_by t (holder s.members t) (answer_in second t) (value_second t ∙ rw q n)

        by_wait : (t : ℕ) → (b : Bool) → waits_as s t ≡ b
            → member_or F t (holder s.members t) (answer_in second t) ≡ F t (if b then Waiting else if is_number s.runtime t then RuntimePoll else member_role (holder s.members t))
        by_wait t true q =
            let h : at_hand s.phase ≡ Some t = hand t (number_some (waiting_call s) t (waits t ∙ q)) in rw (o.no_member t h) (value_second t ∙ rw (o.no_runtime t h) (value_first t ∙ rw (waits t ∙ q) refl))
        by_wait t false q = by_runtime t (value_first t ∙ rw (waits t ∙ q) refl) (is_number s.runtime t) refl

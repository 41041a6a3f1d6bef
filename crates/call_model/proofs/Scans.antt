-- What one entry changes of what a history says of an environment.
use Rattle.std.proofs.Common.{◌≡◌, ℕ, suc, ◌<◌, Bool, true, false, List, [], ◌∷◌, ◌++◌, length, Option, Some, None, sym}
use Rattle.std.proofs.Common.{refl, ap, ◌∙◌, arith, is_some, is_none, not, ◌&&◌, ◌||◌, map, true≢false, if◌then◌else◌}
use Rattle.call_types.specs.declared.answer.Answer.{Answer}
use Rattle.call_types.specs.declared.call.Call.{Call}
use Rattle.call_types.specs.declared.call.Call.TheVariants.{RuntimeNext, ExtNext, Expire}
use Rattle.std.specs.List.{cons_option}
use Rattle.call_types.specs.declared.call.Entry.{Entry}
use Rattle.arn_ids.specs.declared.config.Config.{Config}
use Rattle.call_model.specs.History.{answer_in, answer_of, pending, is_expiry, or_else}
use Rattle.call_model.specs.Generation.{Generation, Extension, Actor, TheRuntime, TheExtension, Member, parked}
use Rattle.call_model.specs.Generation.{if_pending, last_next, asks, extensions, member, members, told, asked_again}
use Rattle.call_model.specs.Generation.{exited, answer_to_next, is_ending, reports_exit, is_accepted, as_registered}
use Rattle.call_model.specs.Life.{life, lived, after, concerns, ends_here}
use Rattle.call_model.specs.Next.{Follows, FollowsBy, IsTimely, Rule}
use Rattle.call_model.proofs.Once.{pending_cons, silent}
use Rattle.call_model.proofs.Basics.{some-none, eqb-self, map_map, map_same}
use Rattle.call_model.proofs.Visits.{visit, if_concerned, if_ended}

-- each entry of a generation is older than n
abbrev pub IsBelow : ℕ → Generation → Type 0
IsBelow n [] = Unit {0}
IsBelow n (taken ∷ g) = (taken.0 < n) × IsBelow n g

below_more : (n : ℕ) (g : Generation) → IsBelow n g → IsBelow (suc n) g
below_more n [] b = tt
below_more n (taken ∷ g) b = (omega (arith, b.0), below_more n g b.1)

-- a generation has entries of the history only
pub generation_below : (config : Config) (h : List Entry) (e : ℕ) → IsBelow (length h) (life config h e).generation
unfolding life lived after
generation_below config [] e = tt
generation_below config (entry ∷ h) e = go (concerns h e entry) (generation_below config h e)
  where
    go : (b : Bool) → IsBelow (length h) (life config h e).generation → IsBelow (suc (length h)) (if_concerned b (visit config h e entry)).generation
    go false k = below_more (length h) (life config h e).generation k
    go true k = at_end (ends_here (visit config h e entry))
      where
        at_end : (b : Bool) → IsBelow (suc (length h)) (if_ended b (visit config h e entry)).generation
        at_end true = tt
        at_end false = (omega arith, below_more (length h) (life config h e).generation k)

-- what is left of a pending Next after an entry
abbrev pub still : Entry → Option ℕ → Option ℕ
still entry None = None
still entry (Some t) = if is_none (answer_in entry.answers t) then Some t else None

pub last_below : (n : ℕ) (g : Generation) (actor : Actor) → IsBelow n g → (t : ℕ) → last_next g actor ≡ Some t → t < n
last_below n [] actor b t q = absurd (some-none (sym q))
last_below n (taken ∷ g) actor b t q = go (asks actor taken.1.call) (last_below n g actor b.1 t) q
  where
    go : (c : Bool) → (last_next g actor ≡ Some t → t < n) → (if c then Some taken.0 else last_next g actor) ≡ Some t → t < n
    go true ih p = let same : taken.0 ≡ t = cc in omega (arith, b.0, same)
    go false ih p = ih p

-- an actor that doesn't ask keeps its pending Next, unless the entry answers it
pub parked_other : (entry : Entry) (h : List Entry) (g : Generation) (actor : Actor) → IsBelow (length h) g
    → asks actor entry.call ≡ false → parked (entry ∷ h) ((length h, entry) ∷ g) actor ≡ still entry (parked h g actor)
parked_other entry h g actor b silent_call = rw silent_call (go (last_next g actor) refl)
  where
    go : (o : Option ℕ) → last_next g actor ≡ o → if_pending (entry ∷ h) o ≡ still entry (if_pending h o)
    go None q = refl
    go (Some t) q = rw (pending_cons entry h t (λ same. omega (arith, same, last_below (length h) g actor b t q))) (both (pending h t))
      where
        both : (p : Bool) → (if p && is_none (answer_in entry.answers t) then Some t else None) ≡ still entry (if p then Some t else None)
        both true = refl
        both false = refl

-- an actor that asks has its Next of now, unless the entry answers it
pub parked_asks : (entry : Entry) (h : List Entry) (g : Generation) (actor : Actor) → is_expiry entry.call ≡ false
    → answer_of h (length h) ≡ None → asks actor entry.call ≡ true
    → parked (entry ∷ h) ((length h, entry) ∷ g) actor ≡ still entry (Some (length h))
parked_asks entry h g actor call_kind none asks_now = rw (asks_now, eqb-self (length h), call_kind, none) (go (answer_in entry.answers (length h)))
  where
    go : (a : Option Answer) → (if not (is_some (or_else a None)) then Some (length h) else None) ≡ (if is_none a then Some (length h) else None)
    go None = refl
    go (Some a) = refl

-- an entry answers no older ticket that isn't pending
abbrev pub IsSilent : List Entry → Entry → Type 0
IsSilent h entry = (t : ℕ) → t < length h → pending h t ≡ false → answer_in entry.answers t ≡ None

pub silent_by : (rule : Rule) (config : Config) (h : List Entry) (entry : Entry) → FollowsBy rule config h entry → IsSilent h entry
silent_by rule config h entry f t lt e = rw (f.answers) (silent config h entry.moment entry.call t (omega (arith, lt)) e)

pub legal_silent : (config : Config) (h : List Entry) (entry : Entry) → Follows config h entry → IsSilent h entry
legal_silent config h entry f = silent_by IsTimely config h entry f

-- the actor's last Next after a call, where it was this before
abbrev pub asked : Actor → Call → ℕ → Option ℕ → Option ℕ
asked actor call n before = if asks actor call then Some n else before

not_expiry : (actor : Actor) (call : Call) → asks actor call ≡ true → is_expiry call ≡ false
not_expiry TheRuntime (RuntimeNext e) q = refl
not_expiry (TheExtension x) (ExtNext e y) q = refl
not_expiry TheRuntime (Expire e) q = absurd (true≢false (sym q))
not_expiry (TheExtension x) (Expire e) q = absurd (true≢false (sym q))
not_expiry actor call q = refl

-- An actor's pending Next after an entry: the new one where it asks, unless the entry answers it.
pub parked_step : (e1 e2 : Entry) (h : List Entry) (g : Generation) (actor : Actor) → e1.call ≡ e2.call → IsBelow (length h) g → answer_of h (length h) ≡ None
    → parked (e1 ∷ h) ((length h, e2) ∷ g) actor ≡ still e1 (asked actor e2.call (length h) (parked h g actor))
parked_step e1 e2 h g actor same b none = go (asks actor e1.call) refl (ap (asks actor) same)
  where
    go : (c : Bool) → asks actor e1.call ≡ c → asks actor e1.call ≡ asks actor e2.call
        → parked (e1 ∷ h) ((length h, e2) ∷ g) actor ≡ still e1 (asked actor e2.call (length h) (parked h g actor))
    go true q w = rw (sym w ∙ q) (rw q at (parked_asks e1 h g actor (not_expiry actor e1.call q) none q))
    go false q w = rw (sym w ∙ q) (rw q at (parked_other e1 h g actor b q))

-- the answer that an actor's last Next gets is that of its pending one
pub last_parked : (h : List Entry) (entry : Entry) (g : Generation) (actor : Actor) → IsSilent h entry
    → IsBelow (length h) g → answer_to_next entry (last_next g actor) ≡ answer_to_next entry (parked h g actor)
last_parked h entry g actor quiet b = go (last_next g actor) refl
  where
    go : (o : Option ℕ) → last_next g actor ≡ o → answer_to_next entry o ≡ answer_to_next entry (if_pending h o)
    go None q = refl
    go (Some t) q = both (pending h t) refl
      where
        both : (p : Bool) → pending h t ≡ p → answer_in entry.answers t ≡ answer_to_next entry (if p then Some t else None)
        both true e = refl
        both false e = quiet t (last_below (length h) g actor b t q) e

-- an extension after an entry; e1 is the entry as far as it answers now
abbrev pub member_step : Entry → Entry → ℕ → Member → Member
member_step e1 e2 n s = record {
  extension = s.extension;
  next = still e1 (asked (TheExtension s.extension.count) e2.call n s.next);
  told = s.told || is_ending (answer_to_next e2 (asked (TheExtension s.extension.count) e2.call n s.next));
  again = s.again || (s.told && asks (TheExtension s.extension.count) e2.call);
  exited = (reports_exit s.extension.count e2.call && is_accepted (answer_in e2.answers n)) || s.exited;
}

pub member_steps : (e1 e2 : Entry) (h : List Entry) (g : Generation) → e1.call ≡ e2.call → IsBelow (length h) g → answer_of h (length h) ≡ None → IsSilent h e2
    → (x : Extension) → member (e1 ∷ h) ((length h, e2) ∷ g) x ≡ member_step e1 e2 (length h) (member h g x)
member_steps e1 e2 h g same b none quiet x = λ i. record {
  extension = x;
  next = parked_step e1 e2 h g (TheExtension x.count) same b none i;
  told = told g x.count || is_ending (told_is (asks (TheExtension x.count) e2.call) i);
  again = asked_again g x.count || (told g x.count && asks (TheExtension x.count) e2.call);
  exited = (reports_exit x.count e2.call && is_accepted (answer_in e2.answers (length h))) || exited g x.count;
}
  where
    told_is : (c : Bool)
        → answer_to_next e2 (if c then Some (length h) else last_next g (TheExtension x.count)) ≡ answer_to_next e2 (if c then Some (length h) else parked h g (TheExtension x.count))
    told_is true = refl
    told_is false = last_parked h e2 g (TheExtension x.count) quiet b

-- the newly registered extension, where there is one
abbrev pub new_member : List Entry → Generation → Option Extension → List Member
new_member h g None = []
new_member h g (Some x) = member h g x ∷ []

-- The extensions of the generation after an entry.
pub members_step : (e1 e2 : Entry) (h : List Entry) (g : Generation) → e1.call ≡ e2.call → IsBelow (length h) g → answer_of h (length h) ≡ None → IsSilent h e2
    → members (e1 ∷ h) ((length h, e2) ∷ g) ≡ new_member (e1 ∷ h) ((length h, e2) ∷ g) (as_registered e2.call (answer_in e2.answers (length h))) ++ map (member_step e1 e2 (length h)) (members h g)
unfolding members
members_step e1 e2 h g same b none quiet = go (as_registered e2.call (answer_in e2.answers (length h)))
  where
    rest : map (member (e1 ∷ h) ((length h, e2) ∷ g)) (extensions g) ≡ map (member_step e1 e2 (length h)) (map (member h g) (extensions g))
    rest =
        map_same (member (e1 ∷ h) ((length h, e2) ∷ g)) (λ x. member_step e1 e2 (length h) (member h g x)) (member_steps e1 e2 h g same b none quiet) (extensions g)
        ∙ map_map (member_step e1 e2 (length h)) (member h g) (extensions g)

    go : (o : Option Extension)
        → map (member (e1 ∷ h) ((length h, e2) ∷ g)) (cons_option o (extensions g)) ≡ new_member (e1 ∷ h) ((length h, e2) ∷ g) o ++ map (member_step e1 e2 (length h)) (map (member h g) (extensions g))
    go None = rest
    go (Some x) = ap (λ xs. member (e1 ∷ h) ((length h, e2) ∷ g) x ∷ xs) rest

-- The extensions of a generation have different counts; one that isn't registered has no part in it and stands blank.
use Rattle.std.proofs.lemmas.List.Sums.{sum_by-cons}
use Rattle.std.proofs.Common.{◌≡◌, ℕ, suc, ◌+◌, ◌<◌, ◌≤◌, Bool, true, false, cond, List, [], ◌∷◌, length, Option, Some}
use Rattle.std.proofs.Common.{None, sym, refl, ap, ◌∙◌, arith, ◌&&◌, ◌||◌, if◌then◌else◌, eqb, subst, is_none, map}
use Rattle.std.proofs.Common.{true≢false}
use Rattle.std.specs.List.{list_any, cons_option}
use Rattle.std.proofs.lemmas.Bool.{eqb-true}
use Rattle.call_types.specs.declared.answer.Answer.{Answer}
use Rattle.call_types.specs.declared.answer.Answer.TheVariants.{Registered, Refused}
use Rattle.call_types.specs.declared.answer.Rejection.TheVariants.{Container, Unknown}
use Rattle.call_types.specs.declared.call.Call.{Call}
use Rattle.call_types.specs.declared.call.Call.TheVariants.{Invoke, RuntimeNext, Response, ResponseTooLarge, Failure}
use Rattle.call_types.specs.declared.call.Call.TheVariants.{InitFailure, Register, ExtNext, ExtInitFailure}
use Rattle.call_types.specs.declared.call.Call.TheVariants.{ExtExitFailure, Tick, Withdraw, Spindown, Stop, Expire}
use Rattle.call_types.specs.declared.call.Call.TheVariants.{Reserve}
use Rattle.call_types.specs.declared.call.Entry.{Entry}
use Rattle.arn_ids.specs.declared.config.Config.{Config}
use Rattle.call_model.specs.History.{answer_in, with_tickets, or_else}
use Rattle.call_types.specs.Calls.{env_of}
use Rattle.call_model.specs.Generation.{Generation, Extension, extensions, as_registered, members, TheExtension, Member}
use Rattle.call_model.specs.Generation.{asks, member, is_ending, is_accepted, reports_exit, answer_to_next, told}
use Rattle.call_model.specs.Generation.{asked_again, exited, has_count}
use Rattle.call_model.specs.Stand.{Stand, is_number, is_known}
use Rattle.call_model.specs.Table.{is_registered, own_answer, Cell, extension_row}
use Rattle.call_model.specs.Life.{life, lived, after, stand, seen, concerns, names, registrations, ends_here}
use Rattle.call_model.specs.Answers.{first_answer, second_answer, first_entry, own_first, own_at}
use Rattle.call_model.specs.Next.{IsLegal, Follows, IsTimely}
use Rattle.environment_step.proofs.Frame.{env_place, parked_elsewhere}
use Rattle.call_model.proofs.AnswerValues.{plain, stripped, valued}
use Rattle.environment_step.proofs.FirstValues.{ending_plain, accepted_plain}
use Rattle.call_model.proofs.Basics.{eqb-self, some-none}
use Rattle.call_types.specs.declared.answer.Rejection.{Rejection}
use Rattle.call_model.proofs.Pairs.{eqb-other}
use Rattle.call_model.proofs.Once.{fresh}
use Rattle.call_model.proofs.Scans.{still, member_step, member_steps, generation_below, legal_silent}
use Rattle.call_model.proofs.Visits.{visit, if_concerned, if_ended}
use Rattle.call_model.proofs.Cells.{own_values, of_row}

-- the first answer to the call's own ticket
own_first_is : (config : Config) (h : List Entry) (call : Call) (d : ℕ) → env_of call ≡ Some d → own_first config h call ≡ own_answer (stand config h d) call
unfolding own_first
own_first_is config h (RuntimeNext e) d q = ap (own_at config h (RuntimeNext e)) q
own_first_is config h (Response e id body) d q = ap (own_at config h (Response e id body)) q
own_first_is config h (ResponseTooLarge e id) d q = ap (own_at config h (ResponseTooLarge e id)) q
own_first_is config h (Failure e id body) d q = ap (own_at config h (Failure e id body)) q
own_first_is config h (InitFailure e body) d q = ap (own_at config h (InitFailure e body)) q
own_first_is config h (Register e name invoke shutdown account) d q = ap (own_at config h (Register e name invoke shutdown account)) q
own_first_is config h (ExtNext e x) d q = ap (own_at config h (ExtNext e x)) q
own_first_is config h (ExtInitFailure e x body) d q = ap (own_at config h (ExtInitFailure e x body)) q
own_first_is config h (ExtExitFailure e x body) d q = ap (own_at config h (ExtExitFailure e x body)) q
own_first_is config h (Spindown e) d q = ap (own_at config h (Spindown e)) q
own_first_is config h (Expire e) d q = ap (own_at config h (Expire e)) q
own_first_is config h (Invoke f qualified trace body) d q = absurd (some-none (sym q))
own_first_is config h Tick d q = absurd (some-none (sym q))
own_first_is config h (Withdraw t) d q = absurd (some-none (sym q))
own_first_is config h Stop d q = absurd (some-none (sym q))
own_first_is config h (Reserve f count) d q = absurd (some-none (sym q))

pub own_value : (config : Config) (h : List Entry) (now : ℕ) (call : Call) (d : ℕ) → env_of call ≡ Some d
    → first_answer config h now call (length h) ≡ own_answer (stand config h d) call
unfolding first_answer
own_value config h now call d q = rw (eqb-self (length h)) (own_first_is config h call d q)

-- where the table answers a call at once, the entry has that answer
pub own_given : (config : Config) (h : List Entry) (entry : Entry) (d : ℕ) (a : Answer) → Follows config h entry
    → env_of entry.call ≡ Some d → own_answer (stand config h d) entry.call ≡ Some a
    → plain (answer_in entry.answers (length h)) ≡ stripped a
own_given config h entry d a w q e =
    ap (λ xs. plain (answer_in xs (length h))) (w.answers) ∙ valued config h entry.moment entry.call (length h) (omega arith)
    ∙ ap (λ o. plain (or_else o (second_answer config h (first_entry config h entry.moment entry.call) (length h))))
    (own_value config h entry.moment entry.call d q ∙ e)

-- the counts fall, from below b
abbrev pub IsUnder : ℕ → List Extension → Type 0
IsUnder b [] = Unit {0}
IsUnder b (x ∷ xs) = (x.count < b) × IsUnder x.count xs

under_more : (b c : ℕ) (xs : List Extension) → b ≤ c → IsUnder b xs → IsUnder c xs
under_more b c [] le u = tt
under_more b c (x ∷ xs) le u = (omega (arith, le, u.0), u.1)

pub registrations_more : (h : List Entry) (entry : Entry) (e : ℕ)
    → registrations (entry ∷ h) e ≡ cond (is_number (env_of entry.call) e && is_registered (answer_in entry.answers (length h))) 1 0 + registrations h e
registrations_more h entry e =
    sum_by-cons
    (λ (taken : ℕ × Entry). cond (is_number (env_of taken.1.call) e && is_registered (answer_in taken.1.answers taken.0)) 1 0)
    (length h, entry) (with_tickets h)

-- a registration has the next count
pub registered_count : (s : Stand) (e c : ℕ) (name : List ℕ) (invoke shutdown account : Bool) (o : Option Answer)
    → own_answer s (Register e name invoke shutdown account) ≡ o → plain (Some (Registered c)) ≡ plain o
    → c ≡ suc s.registrations
registered_count s e c name invoke shutdown account o q r =
    own_values (λ a. plain (Some (Registered c)) ≡ plain a → c ≡ suc s.registrations) s (λ k. absurd (cc))
    (λ k. absurd (cc)) (λ kind k. absurd (cc)) (λ k. cc) (λ reason until k. absurd (cc))
    (Register e name invoke shutdown account) (r ∙ ap plain (sym q))

-- a call that names an environment concerns that one only
pub named_here : (config : Config) (h : List Entry) (entry : Entry) (e d : ℕ) → Follows config h entry
    → env_of entry.call ≡ Some d → concerns h e entry ≡ true → d ≡ e
named_here config h entry e d w q c =
    eqb-true d e
    (ap (λ (o : Option ℕ). is_number o e) (sym q) ∙ named entry.call q (ap (λ (o : Option ℕ). is_number o e || names h e entry.call) (sym (w.place ∙ env_place config h entry.call d q)) ∙ c))
  where
    named : (call : Call) → env_of call ≡ Some d → names h e call ≡ true → is_number (env_of call) e ≡ true
    named Stop r k = absurd (some-none (sym r))
    named (Withdraw t) r k = absurd (some-none (sym r))
    named call r k = k

pub register_answers : (s : Stand) (e : ℕ) (name : List ℕ) (invoke shutdown account : Bool) → own_answer s (Register e name invoke shutdown account) ≡ None → ⊥
unfolding own_answer
register_answers s e name invoke shutdown account r =
    of_row (λ (cell : Cell). cell.own ≡ None → ⊥) s _ _ _ _ _ _ (λ k. some-none k) (λ k. some-none k) (λ k. some-none k)
    (λ k. some-none k) (λ k. some-none k) (λ k. some-none k) r

-- The counts of the extensions of a generation fall, from that of the last registration.
pub counts_fall : (config : Config) (h : List Entry) (e : ℕ) → IsLegal config h → IsUnder (suc (registrations h e)) (extensions (life config h e).generation)
unfolding life lived after seen
counts_fall config [] e l = tt
counts_fall config (entry ∷ h) e l = go (concerns h e entry) refl (counts_fall config h e l.0)
  where
    g : Generation
    g = (life config h e).generation

    more : (b : Bool) → registrations h e ≤ cond b 1 0 + registrations h e
    more true = omega arith
    more false = omega arith

    grows : registrations h e ≤ registrations (entry ∷ h) e
    grows = rw (registrations_more h entry e) (more (is_number (env_of entry.call) e && is_registered (answer_in entry.answers (length h))))

    fresh : (call : Call) (o : Option Answer) → entry.call ≡ call → answer_in entry.answers (length h) ≡ o
        → concerns h e entry ≡ true → IsUnder (suc (registrations h e)) (extensions g)
        → IsUnder (suc (registrations (entry ∷ h) e)) (cons_option (as_registered call o) (extensions g))
    fresh (Register d name invoke shutdown account) (Some (Registered c)) p q k u =
        (omega (arith, count, grown), under_more (suc (registrations h e)) c (extensions g) (omega (arith, count)) u)
      where
        same : d ≡ e
        same = named_here config h entry e d l.1 (ap env_of p) k

        grown : registrations (entry ∷ h) e ≡ 1 + registrations h e
        grown = registrations_more h entry e ∙ rw (p, q, same, eqb-self e) refl

        count : c ≡ suc (registrations h e)
        count = given (own_answer (stand config h d) (Register d name invoke shutdown account)) refl
          where
            at_e : suc (registrations h d) ≡ suc (registrations h e)
            at_e = ap (λ n. suc (registrations h n)) same

            given : (a : Option Answer) → own_answer (stand config h d) (Register d name invoke shutdown account) ≡ a → c ≡ suc (registrations h e)
            given None r = absurd (register_answers (stand config h d) d name invoke shutdown account r)
            given (Some a) r =
                registered_count (stand config h d) d c name invoke shutdown account (Some a) r (ap plain (sym q) ∙ own_given config h entry d a l.1 (ap env_of p) (ap (own_answer (stand config h d)) p ∙ r))
                ∙ at_e
    fresh (Register d name invoke shutdown account) None p q k u =
        under_more (suc (registrations h e)) (suc (registrations (entry ∷ h) e)) (extensions g) (omega (arith, grows)) u
    fresh call o p q k u = under_more (suc (registrations h e)) (suc (registrations (entry ∷ h) e)) (extensions g) (omega (arith, grows)) u

    at_end : (b : Bool) → concerns h e entry ≡ true → IsUnder (suc (registrations h e)) (extensions g)
        → IsUnder (suc (registrations (entry ∷ h) e)) (extensions (if_ended b (visit config h e entry)).generation)
    at_end true c u = tt
    at_end false c u = fresh entry.call (answer_in entry.answers (length h)) refl refl c u

    go : (b : Bool) → concerns h e entry ≡ b → IsUnder (suc (registrations h e)) (extensions g)
        → IsUnder (suc (registrations (entry ∷ h) e)) (extensions (if_concerned b (visit config h e entry)).generation)
    go false c u = under_more (suc (registrations h e)) (suc (registrations (entry ∷ h) e)) (extensions g) (omega (arith, grows)) u
    go true c u = at_end (ends_here (visit config h e entry)) c u

abbrev pub blank : Extension → Member
blank x = record { extension = x; next = None; told = false; again = false; exited = false }

none_known : (h : List Entry) (g : Generation) (n b : ℕ) (xs : List Extension) → IsUnder b xs → b ≤ n → list_any (has_count n) (map (member h g) xs) ≡ false
none_known h g n b [] u le = refl
none_known h g n b (x ∷ xs) u le =
    let other : eqb x.count n ≡ false = eqb-other x.count n (λ same. let top : x.count < b = u.0 in omega (arith, top, le, same)) in rw other (none_known h g n x.count xs u.1 (let top : x.count < b = u.0 in omega (arith, top, le)))

pub unknown : (config : Config) (h : List Entry) (e n : ℕ) → IsLegal config h → registrations h e < n → is_known (stand config h e) n ≡ false
unfolding seen members
unknown config h e n l lt =
    none_known h (life config h e).generation n (suc (registrations h e)) (extensions (life config h e).generation)
    (counts_fall config h e l) (omega (arith, lt))

-- an unknown extension is refused
unknown_row : (s : Stand) (n : ℕ) (a b c d e : Cell) → is_known s n ≡ false → (k : Rejection) × ((extension_row s n a b c d e).own ≡ Some (Refused k))
unknown_row s n a b c d e u =
    rw u
    (of_row (λ (cell : Cell). (k : Rejection) × (cell.own ≡ Some (Refused k))) s _ _ _ _ _ _ (Unknown, refl) (Unknown, refl) (Unknown, refl) (Unknown, refl) (Unknown, refl) (Container, refl))

unknown_next : (s : Stand) (e n : ℕ) → is_known s n ≡ false → (k : Rejection) × (own_answer s (ExtNext e n) ≡ Some (Refused k))
unfolding own_answer
unknown_next s e n u = unknown_row s n _ _ _ _ _ u

unknown_report : (s : Stand) (call : Call) (n : ℕ) → is_known s n ≡ false → reports_exit n call ≡ true
    → (k : Rejection) × (own_answer s call ≡ Some (Refused k))
unfolding own_answer
unknown_report s (ExtInitFailure e y body) n u q = unknown_row s y _ _ _ _ _ (ap (is_known s) (eqb-true y n q) ∙ u)
unknown_report s (ExtExitFailure e y body) n u q = unknown_row s y _ _ _ _ _ (ap (is_known s) (eqb-true y n q) ∙ u)
unknown_report s call n u q = absurd (true≢false (sym q))

refused_some : (o : Option Answer) (k : Rejection) → plain o ≡ Some (Refused k) → is_none o ≡ false
refused_some None k q = absurd (cc)
refused_some (Some a) k q = refl

refused_ending : (o : Option Answer) (k : Rejection) → plain o ≡ Some (Refused k) → is_ending o ≡ false
refused_ending o k q = sym (ending_plain o) ∙ ap is_ending q

refused_accepted : (o : Option Answer) (k : Rejection) → plain o ≡ Some (Refused k) → is_accepted o ≡ false
refused_accepted o k q = sym (accepted_plain o) ∙ ap is_accepted q

-- an extension that isn't registered after an entry
blank_step : (config : Config) (h : List Entry) (entry : Entry) (e : ℕ) (x : Extension) → IsLegal config h
    → Follows config h entry → concerns h e entry ≡ true → registrations h e < x.count
    → member_step entry entry (length h) (blank x) ≡ blank x
blank_step config h entry e x l w c lt =
    λ i. record { extension = x; next = next_is (asks (TheExtension x.count) entry.call) refl i; told = told_is (asks (TheExtension x.count) entry.call) refl i; again = false; exited = exited_is (reports_exit x.count entry.call) refl i }
  where
    no : (d : ℕ) → d ≡ e → is_known (stand config h d) x.count ≡ false
    no d same = unknown config h d x.count l (subst (λ m. registrations h m < x.count) (sym same) lt)

    asking : (call : Call) → entry.call ≡ call → asks (TheExtension x.count) call ≡ true
        → (k : Rejection) × (plain (answer_in entry.answers (length h)) ≡ Some (Refused k))
    asking (ExtNext d y) p q =
        let same : y ≡ x.count = eqb-true y x.count q in
        let u = unknown_next (stand config h d) d y (subst (λ m. is_known (stand config h d) m ≡ false) (sym same) (no d (named_here config h entry e d w (ap env_of p) c))) in
        (u.0, own_given config h entry d (Refused u.0) w (ap env_of p) (ap (own_answer (stand config h d)) p ∙ u.1))
    asking call p q = absurd (true≢false (sym q))

    reporting : (call : Call) → entry.call ≡ call → reports_exit x.count call ≡ true
        → (k : Rejection) × (plain (answer_in entry.answers (length h)) ≡ Some (Refused k))
    reporting (ExtInitFailure d y body) p q =
        let u = unknown_report (stand config h d) (ExtInitFailure d y body) x.count (no d (named_here config h entry e d w (ap env_of p) c)) q in
        (u.0, own_given config h entry d (Refused u.0) w (ap env_of p) (ap (own_answer (stand config h d)) p ∙ u.1))
    reporting (ExtExitFailure d y body) p q =
        let u = unknown_report (stand config h d) (ExtExitFailure d y body) x.count (no d (named_here config h entry e d w (ap env_of p) c)) q in
        (u.0, own_given config h entry d (Refused u.0) w (ap env_of p) (ap (own_answer (stand config h d)) p ∙ u.1))
    reporting call p q = absurd (true≢false (sym q))

    next_is : (b : Bool) → asks (TheExtension x.count) entry.call ≡ b → still entry (if b then Some (length h) else None) ≡ None
    next_is false q = refl
    next_is true q =
        let k = asking entry.call refl q in ap (λ (b : Bool). if b then Some (length h) else None) (refused_some (answer_in entry.answers (length h)) k.0 k.1)

    told_is : (b : Bool) → asks (TheExtension x.count) entry.call ≡ b → is_ending (answer_to_next entry (if b then Some (length h) else None)) ≡ false
    told_is false q = refl
    told_is true q = let k = asking entry.call refl q in refused_ending (answer_in entry.answers (length h)) k.0 k.1

    exited_is : (b : Bool) → reports_exit x.count entry.call ≡ b → ((b && is_accepted (answer_in entry.answers (length h))) || false) ≡ false
    exited_is false q = refl
    exited_is true q = let k = reporting entry.call refl q in ap (λ (b : Bool). b || false) (refused_accepted (answer_in entry.answers (length h)) k.0 k.1)

registrations_grow : (h : List Entry) (entry : Entry) (e : ℕ) → registrations h e ≤ registrations (entry ∷ h) e
registrations_grow h entry e = rw (registrations_more h entry e) (more (is_number (env_of entry.call) e && is_registered (answer_in entry.answers (length h))))
  where
    more : (b : Bool) → registrations h e ≤ cond b 1 0 + registrations h e
    more true = omega arith
    more false = omega arith

-- An extension that isn't registered stands blank.
pub unregistered : (config : Config) (h : List Entry) (e : ℕ) (x : Extension) → IsLegal config h
    → registrations h e < x.count → member h (life config h e).generation x ≡ blank x
unfolding life lived after seen
unregistered config [] e x l lt = refl
unregistered config (entry ∷ h) e x l lt = go (concerns h e entry) refl (unregistered config h e x l.0 older)
  where
    g : Generation
    g = (life config h e).generation

    older : registrations h e < x.count
    older = omega (arith, lt, registrations_grow h entry e)

    at_end : (b : Bool) → concerns h e entry ≡ true → member h g x ≡ blank x → member (entry ∷ h) (if_ended b (visit config h e entry)).generation x ≡ blank x
    at_end true c k = refl
    at_end false c k =
        member_steps entry entry h g refl (generation_below config h e) (fresh config h (length h) l.0 (omega arith)) (legal_silent config h entry l.1) x
        ∙ ap (member_step entry entry (length h)) k ∙ blank_step config h entry e x l.0 l.1 c older

    go : (b : Bool) → concerns h e entry ≡ b → member h g x ≡ blank x → member (entry ∷ h) (if_concerned b (visit config h e entry)).generation x ≡ blank x
    go false c k =
        (λ i. record { extension = x; next = parked_elsewhere IsTimely config h entry e (TheExtension x.count) l.0 l.1 c i; told = told g x.count; again = asked_again g x.count; exited = exited g x.count })
        ∙ k
    go true c k = at_end (ends_here (visit config h e entry)) c k

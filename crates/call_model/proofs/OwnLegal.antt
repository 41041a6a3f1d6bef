-- The function's own history is legal, save that at a Tick something may be due.
use Rattle.std.proofs.Common.{◌≡◌, ℕ, ◌≤◌, Bool, true, false, List, [], ◌∷◌, Option, Some, None, sym, refl, ap, ◌∙◌}
use Rattle.std.proofs.Common.{subst, inl, inr, ◌⊎◌, ◌||◌, ◌==◌, map, filter, true≢false, if◌then◌else◌}
use Rattle.std.proofs.lemmas.Bool.{eqb-true}
use Rattle.call_types.specs.declared.answer.Answer.{Answer}
use Rattle.call_types.specs.declared.answer.Answer.TheVariants.{Done}
use Rattle.call_types.specs.declared.call.Call.{Call}
use Rattle.call_types.specs.declared.call.Call.TheVariants.{Invoke, RuntimeNext, Response, ResponseTooLarge, Failure}
use Rattle.call_types.specs.declared.call.Call.TheVariants.{InitFailure, Register, ExtNext, ExtInitFailure}
use Rattle.call_types.specs.declared.call.Call.TheVariants.{ExtExitFailure, Tick, Withdraw, Spindown, Stop, Expire}
use Rattle.call_types.specs.declared.call.Call.TheVariants.{Reserve}
use Rattle.call_types.specs.declared.call.Entry.{Entry}
use Rattle.arn_ids.specs.declared.config.Config.{Config}
use Rattle.arn_ids.specs.Environments.{function_of}
use Rattle.call_model.specs.History.{call_of, poll_env, is_stop, stopped}
use Rattle.call_model.specs.Table.{settled, kept, closes, or_closing, nothing, tells_stopped}
use Rattle.call_model.specs.Stand.{is_number}
use Rattle.call_model.specs.Life.{Lifecycle, life, phase, seen, lived, after, phase_by_table, concerns, names}
use Rattle.call_model.specs.Limits.{place_for}
use Rattle.arn_ids.specs.Environments.{environments, function_at}
use Rattle.call_types.specs.declared.answer.Phase.TheVariants.{Starting, Off}
use Rattle.call_model.specs.Next.{due, due_at, deadline_of, by_deadline, first, IsTimely, last_moment, IsLegal, FollowsBy}
use Rattle.call_model.specs.Isolation.{IsUnnamed, IsTimelySave, IsLegalSave}
use Rattle.call_model.proofs.OwnVerdict.{own_verdict}
use Rattle.call_model.proofs.OwnAnswers.{own_answers, tick_answers, own_place_for}
use Rattle.call_model.proofs.OwnTickets.{placed_function, own_length}
use Rattle.std.proofs.Common.{filter_map, nat_le}
use Rattle.std.specs.List.{cons_option}
use Rattle.call_model.specs.Generation.{members}
use Rattle.call_model.proofs.OwnStands.{own_phase}
use Rattle.call_model.proofs.OwnHistory.{own_names}
use Rattle.call_model.specs.Own.{own, own_entry, is_own, of_function}
use Rattle.call_model.proofs.Pairs.{eqb-other}
use Rattle.call_model.proofs.Basics.{number_some}
use Rattle.call_model.proofs.Deadlines.{filter_deadline}
use Rattle.call_model.proofs.Visits.{visit, visit_from, if_concerned}

-- an environment of others, in the function's own history: untouched, or off after a Stop
abbrev IsQuiet : List Entry → Lifecycle → Type 0
IsQuiet o l = ((l ≡ record { phase = Starting None None; generation = [] }) × (stopped o ≡ false)) ⊎ (l.phase ≡ Off)

-- of the function's calls only a Stop concerns it
far_concerns : (config : Config) (h : List Entry) (entry : Entry) (f e : ℕ)
    → entry.place ≡ place_for config h entry.call → (function_of config e == f) ≡ false
    → is_own config h f entry.call ≡ true → concerns h e entry ≡ is_stop entry.call
far_concerns config h entry f e pl far w = ap (λ (b : Bool). b || names h e entry.call) (not_placed (is_number entry.place e) refl) ∙ not_named entry.call w
  where
    not_placed : (b : Bool) → is_number entry.place e ≡ b → is_number entry.place e ≡ false
    not_placed false p = p
    not_placed true p = absurd (true≢false (sym w ∙ placed_function config h entry.call f e (sym pl ∙ number_some entry.place e p) ∙ far))

    no_env : (o : Option ℕ) → of_function config f o ≡ true → is_number o e ≡ false
    no_env None p = refl
    no_env (Some d) p = eqb-other d e (λ same. true≢false (sym p ∙ ap (λ (n : ℕ). function_of config n == f) same ∙ far))

    not_named : (call : Call) → is_own config h f call ≡ true → names h e call ≡ is_stop call
    not_named Stop p = refl
    not_named (Withdraw t) p = no_env (poll_env (call_of h t)) p
    not_named (Invoke g qualified trace body) p = refl
    not_named Tick p = refl
    not_named (Reserve g count) p = refl
    not_named (RuntimeNext d) p = no_env (Some d) p
    not_named (Response d id body) p = no_env (Some d) p
    not_named (ResponseTooLarge d id) p = no_env (Some d) p
    not_named (Failure d id body) p = no_env (Some d) p
    not_named (InitFailure d body) p = no_env (Some d) p
    not_named (Register d name invoke shutdown account) p = no_env (Some d) p
    not_named (ExtNext d x) p = no_env (Some d) p
    not_named (ExtInitFailure d x body) p = no_env (Some d) p
    not_named (ExtExitFailure d x body) p = no_env (Some d) p
    not_named (Spindown d) p = no_env (Some d) p
    not_named (Expire d) p = no_env (Some d) p

abbrev stop_entry : ℕ → List (ℕ × Answer) → Option ℕ → Entry
stop_entry now given pl = record { moment = now; call = Stop; answers = given; place = pl }

first_stop : (config : Config) (o : List Entry) (e now : ℕ) (given : List (ℕ × Answer)) (pl : Option ℕ)
    → stopped o ≡ false
    → (after (visit_from config o e (stop_entry now given pl) (record { phase = Starting None None; generation = [] }))).phase ≡ Off
unfolding after seen closes kept members
first_stop config o e now given pl q = rw q refl

settled_off : (limit : ℕ) (r w : Bool) → settled limit r w Off ≡ Off
settled_off limit true true = refl
settled_off limit true false = refl
settled_off limit false true = refl
settled_off limit false false = refl

stop_off : (config : Config) (o : List Entry) (e now : ℕ) (given : List (ℕ × Answer)) (pl : Option ℕ) (l : Lifecycle)
    → l.phase ≡ Off → (after (visit_from config o e (stop_entry now given pl) l)).phase ≡ Off
unfolding after seen closes kept
stop_off config o e now given pl l q = rw cell (settled_off _ _ _)
  where
    both : (b : Bool) → or_closing now (if b then nothing else tells_stopped).close (if b then Off else Off) ≡ Off
    both true = refl
    both false = refl

    cell : phase_by_table (visit_from config o e (stop_entry now given pl) l) ≡ Off
    cell = rw q (both (stopped o))

quiet_step : (config : Config) (o : List Entry) (x : Entry) (e : ℕ) → concerns o e x ≡ is_stop x.call
    → IsQuiet o (life config o e) → IsQuiet (x ∷ o) (life config (x ∷ o) e)
unfolding life lived
quiet_step config o x e c ih = go x.call refl
  where
    stops : x.call ≡ Stop → stop_entry x.moment x.answers x.place ≡ x
    stops q = λ i. record { moment = x.moment; call = sym q i; answers = x.answers; place = x.place }

    is_stopping : (call : Call) → is_stop call ≡ true → call ≡ Stop
    is_stopping Stop q = refl
    is_stopping call q = absurd (true≢false (sym q))

    kept_quiet : (b : Bool) → is_stop x.call ≡ b → IsQuiet (x ∷ o) (if_concerned b (visit config o e x))
    kept_quiet true q = inr (elim ih [
      | inl new ↦ ap (λ z. (after (visit config o e z)).phase) (sym (stops (is_stopping x.call q)))
          ∙ ap (λ (l : Lifecycle). (after (visit_from config o e (stop_entry x.moment x.answers x.place) l)).phase) (new.0)
          ∙ first_stop config o e x.moment x.answers x.place (new.1)
      | inr off ↦ ap (λ z. (after (visit config o e z)).phase) (sym (stops (is_stopping x.call q)))
          ∙ stop_off config o e x.moment x.answers x.place (life config o e) off
    ])
    kept_quiet false q = stays ih
      where
        stays : IsQuiet o (life config o e) → IsQuiet (x ∷ o) ((life config o e))
        stays (inl new) = inl (new.0, rw q (new.1))
        stays (inr off) = inr (off)

    go : (call : Call) → x.call ≡ call → IsQuiet (x ∷ o) (if_concerned (concerns o e x) (visit config o e x))
    go call r = subst (λ b. IsQuiet (x ∷ o) (if_concerned b (visit config o e x))) (sym c) (kept_quiet (is_stop x.call) refl)

quiet : (config : Config) (h : List Entry) (f e : ℕ) → IsLegal config h → (function_of config e == f) ≡ false
    → IsQuiet (own config h f) (life config (own config h f) e)
unfolding own life
quiet config [] f e l far = inl (refl, refl)
quiet config (entry ∷ h) f e l far = go (is_own config h f entry.call) refl (quiet config h f e l.0 far)
  where
    go : (b : Bool) → is_own config h f entry.call ≡ b → IsQuiet (own config h f) (life config (own config h f) e)
        → IsQuiet (own_entry b config h f entry ∷ own config h f) (life config (own_entry b config h f entry ∷ own config h f) e)
    go true w ih =
        quiet_step config (own config h f) (own_entry true config h f entry) e
        (ap (λ (b : Bool). is_number entry.place e || b) (own_names config h f e entry.call w) ∙ far_concerns config h entry f e (l.1.place) far w) ih
    go false w ih = quiet_step config (own config h f) (own_entry false config h f entry) e refl ih

-- no environment of others has a deadline there
pub no_deadline : (config : Config) (h : List Entry) (f e : ℕ) → IsLegal config h → (function_of config e == f) ≡ false
    → deadline_of (phase config (own config h f) e) ≡ None
no_deadline config h f e l far = elim (quiet config h f e l far) [
  | inl new ↦ ap (λ (m : Lifecycle). deadline_of m.phase) (new.0)
  | inr off ↦ ap deadline_of off
]

abbrev of_f : Config → ℕ → ℕ × ℕ → Bool
of_f config f a = function_of config a.1 == f

part_due : (config : Config) (h : List Entry) (f m : ℕ) → IsLegal config h → (es : List ℕ)
    → filter_map (λ e. due_at m e (deadline_of (phase config (own config h f) e))) es ≡ filter (of_f config f) (filter_map (λ e. due_at m e (deadline_of (phase config h e))) es)
part_due config h f m l [] = refl
part_due config h f m l (e ∷ es) = go (function_of config e == f) refl (part_due config h f m l es)
  where
    rest : List (ℕ × ℕ)
    rest = filter_map (λ d. due_at m d (deadline_of (phase config h d))) es

    here : (o : Option ℕ) → (function_of config e == f) ≡ true
        → cons_option (due_at m e o) (filter (of_f config f) rest) ≡ filter (of_f config f) (cons_option (due_at m e o) rest)
    here None q = refl
    here (Some d) q = both (nat_le d m)
      where
        both : (c : Bool)
            → cons_option (if c then Some (d, e) else None) (filter (of_f config f) rest) ≡ filter (of_f config f) (cons_option (if c then Some (d, e) else None) rest)
        both true = rw q refl
        both false = refl

    there : (o : Option ℕ) → (function_of config e == f) ≡ false → filter (of_f config f) rest ≡ filter (of_f config f) (cons_option (due_at m e o) rest)
    there None q = refl
    there (Some d) q = both (nat_le d m)
      where
        both : (c : Bool) → filter (of_f config f) rest ≡ filter (of_f config f) (cons_option (if c then Some (d, e) else None) rest)
        both true = rw q refl
        both false = refl

    go : (b : Bool) → (function_of config e == f) ≡ b
        → filter_map (λ d. due_at m d (deadline_of (phase config (own config h f) d))) es ≡ filter (of_f config f) rest
        → cons_option (due_at m e (deadline_of (phase config (own config h f) e))) (filter_map (λ d. due_at m d (deadline_of (phase config (own config h f) d))) es) ≡ filter (of_f config f) (cons_option (due_at m e (deadline_of (phase config h e))) rest)
    go true q ih =
        (λ i. cons_option (due_at m e (deadline_of (own_phase config h f e l (eqb-true (function_of config e) f q) i))) (ih i))
        ∙ here (deadline_of (phase config h e)) q
    go false q ih = (λ i. cons_option (due_at m e (no_deadline config h f e l q i)) (ih i)) ∙ there (deadline_of (phase config h e)) q

-- What is due alone is what is due of the function's environments.
pub own_due : (config : Config) (h : List Entry) (f m : ℕ) → IsLegal config h
    → due config (own config h f) m ≡ map (λ a. a.1) (filter (of_f config f) (by_deadline (filter_map (λ e. due_at m e (deadline_of (phase config h e))) (environments config))))
unfolding due
own_due config h f m l =
    ap (λ xs. map (λ (a : ℕ × ℕ). a.1) (by_deadline xs)) (part_due config h f m l (environments config))
    ∙ ap (map (λ (a : ℕ × ℕ). a.1)) (filter_deadline (of_f config f) _)

own_timely : (config : Config) (h : List Entry) (f m : ℕ) (call : Call) → IsLegal config h
    → is_own config h f call ≡ true → IsTimely m call (due config h m)
    → IsTimelySave m call (due config (own config h f) m)
unfolding due
own_timely config h f m call l w t =
    subst (IsTimelySave m call) (sym (own_due config h f m l))
    (go call w (by_deadline (filter_map (λ e. due_at m e (deadline_of (phase config h e))) (environments config))) t)
  where
    none : (xs : List (ℕ × ℕ)) → map (λ a. a.1) xs ≡ [] → map (λ a. a.1) (filter (of_f config f) xs) ≡ []
    none [] q = refl
    none (a ∷ rest) q = absurd (cc)

    first_own : (e : ℕ) → (function_of config e == f) ≡ true → (xs : List (ℕ × ℕ)) → first (map (λ a. a.1) xs) ≡ Some e
        → first (map (λ a. a.1) (filter (of_f config f) xs)) ≡ Some e
    first_own e q [] k = k
    first_own e q (a ∷ rest) k = let same : a.1 ≡ e = cc in rw (ap (λ (n : ℕ). function_of config n == f) same ∙ q) k

    go : (call : Call) → is_own config h f call ≡ true → (xs : List (ℕ × ℕ)) → IsTimely m call (map (λ a. a.1) xs)
        → IsTimelySave m call (map (λ a. a.1) (filter (of_f config f) xs))
    go Tick q xs k = tt
    go (Expire e) q xs k = first_own e q xs k
    go call q xs k = none xs k

own_moment : (config : Config) (h : List Entry) (f : ℕ) → last_moment (own config h f) ≡ last_moment h
unfolding own
own_moment config [] f = refl
own_moment config (entry ∷ h) f = go (is_own config h f entry.call)
  where
    go : (b : Bool) → (own_entry b config h f entry).moment ≡ entry.moment
    go true = refl
    go false = refl

-- The function's own history is legal, save that at a Tick something may be due.
pub own_legal : (config : Config) (h : List Entry) (f limit : ℕ) → IsLegal config h
    → (function_at config f).reserved ≡ Some limit → IsUnnamed f h → IsLegalSave config (own config h f)
unfolding own
own_legal config [] f limit l r u = tt
own_legal config (entry ∷ h) f limit l r u = (own_legal config h f limit l.0 r u.0, go (is_own config h f entry.call) refl)
  where
    o : List Entry
    o = own config h f

    go : (b : Bool) → is_own config h f entry.call ≡ b → FollowsBy IsTimelySave config o (own_entry b config h f entry)
    go true w = record {
      later = subst (λ n. n ≤ entry.moment) (sym (own_moment config h f)) (l.1.later);
      timely = own_timely config h f entry.moment entry.call l.0 w (l.1.timely);
      answers = own_answers config h entry f l (own_verdict config h f limit l.0 r u.0) w;
      place = l.1.place ∙ sym (own_place_for config h f entry.call (own_verdict config h f limit l.0 r u.0) w);
    }
    go false w = record {
      later = subst (λ n. n ≤ entry.moment) (sym (own_moment config h f)) (l.1.later);
      timely = tt;
      answers = sym (tick_answers config o entry.moment ∙ ap (λ (n : ℕ). (n, Done) ∷ []) (own_length config h f));
      place = refl;
    }

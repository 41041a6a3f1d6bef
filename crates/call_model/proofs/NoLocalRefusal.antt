-- A reserved function never meets the local reason.
use Rattle.std.proofs.Common.{◌≡◌, ℕ, zero, suc, ◌+◌, ◌-◌, ◌≤◌, Bool, true, false, cond, List, [], ◌∷◌, ◌++◌, length}
use Rattle.std.proofs.Common.{Option, Some, None, sym, refl, ap, ap₂, ◌∙◌, subst, arith, is_some, ◌&&◌, ◌||◌, ◌==◌, map}
use Rattle.std.proofs.Common.{true≢false, if◌then◌else◌, count_by, nat_le, nat_lt}
use Rattle.std.proofs.lemmas.Bool.Decides.{nat_tests}
use Rattle.std.proofs.lemmas.Bool.{eqb-true}
use Rattle.std.specs.List.{find}
use Rattle.call_types.specs.declared.answer.Answer.{Answer}
use Rattle.call_types.specs.declared.answer.Answer.TheVariants.{Told, Ending, Stopped, Refused, Reserved}
use Rattle.call_types.specs.declared.answer.Rejection.TheVariants.{BadReservation}
use Rattle.call_types.specs.declared.answer.Reason.{Reason}
use Rattle.call_types.specs.declared.answer.Phase.{Phase}
use Rattle.call_types.specs.declared.answer.Phase.TheVariants.{Starting, Idle, Busy, Closing, Off}
use Rattle.call_types.specs.declared.answer.Throttle.TheVariants.{Function as ByFunction, Environments as ByEnvironments}
use Rattle.call_types.specs.declared.call.Call.{Call}
use Rattle.call_types.specs.declared.call.Call.TheVariants.{Invoke, RuntimeNext, Register, ExtNext, Stop, Reserve}
use Rattle.call_types.specs.declared.call.Entry.{Entry}
use Rattle.arn_ids.specs.declared.config.Config.{Config}
use Rattle.arn_ids.specs.declared.config.Function.{Function}
use Rattle.arn_ids.specs.declared.config.Slot.{Slot}
use Rattle.arn_ids.specs.Environments.{no_function, at, numbered as item_numbered, function_of, environments, owners, owners_from, count_from, function_at}
use Rattle.call_model.specs.History.{answer_in, stopped, is_stop, or_else}
use Rattle.call_model.specs.Stand.{Stand, at_hand, bound_of, is_idle, is_known}
use Rattle.call_model.specs.Table.{reborn, settled, kept, closes, or_closing, placed, clock_started, unbound, is_registered, own_answer}
use Rattle.call_model.specs.Life.{Lifecycle, life, phase, stand, seen, concerns, limit_of}
use Rattle.call_model.specs.Limits.{in_flight, place, lowest, is_free_starting, is_free_closing, verdict, AfterStop}
use Rattle.call_model.specs.Limits.{Refuses, Admits, by_limits, where_placed, reservation, reserves, reserved_by}
use Rattle.call_model.specs.Limits.{or_zero, reserved_in_all}
use Rattle.call_model.specs.Answers.{answers, first_answer, second_answer, first_entry, own_first, reserve_answer}
use Rattle.call_model.specs.Next.{IsLegal}
use Rattle.call_model.proofs.Once.{fresh}
use Rattle.call_model.proofs.Scans.{legal_silent}
use Rattle.call_model.proofs.PhaseStep.{phase_step, cell_of}
use Rattle.call_model.proofs.Flight.{flight, serves}
use Rattle.call_model.proofs.Basics.{count_cons, some-none, eqb-self}
use Rattle.call_model.proofs.Elsewhere.{life_elsewhere}
use Rattle.call_model.proofs.AnswerValues.{valued, plain}

-- no environment is Off before a Stop
abbrev pub is_off : Phase → Bool
is_off Off = true
is_off _ = false

on_clock : (now : ℕ) (P : Phase) → is_off P ≡ false → is_off (clock_started now P) ≡ false
on_clock now (Starting d b) e = refl
on_clock now P e = e

on_placed : (now limit n : ℕ) (P : Phase) → is_off P ≡ false → is_off (placed now limit n P) ≡ false
on_placed now limit n Idle e = refl
on_placed now limit n (Starting d b) e = refl
on_placed now limit n (Closing reason until b) e = refl
on_placed now limit n P e = e

on_unbound : (P : Phase) → is_off P ≡ false → is_off (unbound P) ≡ false
on_unbound (Closing reason until b) e = refl
on_unbound P e = e

on_choice : (P Q : Phase) (b : Bool) → is_off P ≡ false → is_off Q ≡ false → is_off (if b then P else Q) ≡ false
on_choice P Q true e f = e
on_choice P Q false e f = f

on_kept : (now limit n : ℕ) (s : Stand) (call : Call) → is_off s.phase ≡ false → is_off (kept now limit n s call) ≡ false
unfolding kept
on_kept now limit n s (Invoke f qualified trace body) e = on_placed now limit n s.phase e
on_kept now limit n s (RuntimeNext d) e = on_clock now s.phase e
on_kept now limit n s (ExtNext d x) e = on_choice (clock_started now s.phase) s.phase (is_known s x) (on_clock now s.phase e) e
on_kept now limit n s (Register d name invoke shutdown account) e =
    on_choice (clock_started now s.phase) s.phase (is_registered (own_answer s (Register d name invoke shutdown account))) (on_clock now s.phase e) e
on_kept now limit n s Stop e = on_choice s.phase (unbound s.phase) s.stopped e (on_unbound s.phase e)
on_kept now limit n s call e = e

on_closing : (now : ℕ) (c : Option Reason) (P : Phase) → is_off P ≡ false → is_off (or_closing now c P) ≡ false
on_closing now None P e = e
on_closing now (Some reason) P e = refl

on_settled : (limit : ℕ) (r w : Bool) (P : Phase) → is_off P ≡ false → is_off (settled limit r w P) ≡ false
on_settled limit true w (Starting d None) e = refl
on_settled limit true w (Starting d (Some q)) e = refl
on_settled limit true false (Busy q d) e = refl
on_settled limit true true (Busy q d) e = refl
on_settled limit true w Idle e = refl
on_settled limit true w (Closing reason until b) e = refl
on_settled limit true w Off e = e
on_settled limit false w Idle e = refl
on_settled limit false w (Starting d b) e = refl
on_settled limit false w (Busy q d) e = refl
on_settled limit false w (Closing reason until b) e = refl
on_settled limit false w Off e = e

on_reborn : (now : ℕ) (b : Option ℕ) → is_off (reborn false now b) ≡ false
on_reborn now None = refl
on_reborn now (Some p) = refl

on_after : (b over r w : Bool) (now limit : ℕ) (cell : Phase) → over ≡ false → is_off cell ≡ false
    → is_off (if b then reborn over now (bound_of cell) else settled limit r w cell) ≡ false
on_after true over r w now limit cell o e = rw o (on_reborn now (bound_of cell))
on_after false over r w now limit cell o e = on_settled limit r w cell e

pub not_off : (config : Config) (h : List Entry) (e : ℕ) → IsLegal config h → stopped h ≡ false → is_off (phase config h e) ≡ false
unfolding life seen
not_off config [] e l s = refl
not_off config (entry ∷ h) e l s = go (concerns h e entry) refl (not_off config h e l.0)
  where
    last : (a b : Bool) → (a || b) ≡ false → b ≡ false
    last true b q = absurd (true≢false q)
    last false b q = q

    go : (c : Bool) → concerns h e entry ≡ c → (stopped h ≡ false → is_off (phase config h e) ≡ false) → is_off (phase config (entry ∷ h) e) ≡ false
    go false w ih = ap (λ (x : Lifecycle). is_off x.phase) (life_elsewhere config h entry e w) ∙ ih (last (is_stop entry.call) (stopped h) s)
    go true w ih =
        ap is_off (phase_step config h entry e w (fresh config h (length h) l.0 (omega arith)) (legal_silent config h entry l.1))
        ∙ on_after _ _ _ _ entry.moment (limit_of config e entry.moment) (cell_of config e entry (length h) (stand config h e)) s
        (on_closing entry.moment (closes (stand config h e) entry.call) (kept entry.moment (limit_of config e entry.moment) (length h) (stand config h e) entry.call)
        (on_kept entry.moment (limit_of config e entry.moment) (length h) (stand config h e) entry.call (ih (last (is_stop entry.call) (stopped h) s))))

reserved_plain : (a : Option Answer) (before : Option ℕ) → reserved_by (plain a) before ≡ reserved_by a before
reserved_plain None before = refl
reserved_plain (Some (Told p d event)) before = refl
reserved_plain (Some (Ending reason until event)) before = refl
reserved_plain (Some a) before = refl

reserve_first : (config : Config) (h : List Entry) (now f : ℕ) (c : Option ℕ)
    → first_answer config h now (Reserve f c) (length h) ≡ Some (if stopped h then Stopped else reserve_answer config h f c)
unfolding first_answer own_first
reserve_first config h now f c = rw (eqb-self (length h)) refl

-- what a Reserve is answered leaves a reservation within the environments
fits_answer : (config : Config) (h : List Entry) (f : ℕ) (c before : Option ℕ) (n : ℕ)
    → (before ≡ Some n → n ≤ length (function_at config f).slots)
    → reserved_by (Some (if stopped h then Stopped else reserve_answer config h f c)) before ≡ Some n
    → n ≤ length (function_at config f).slots
fits_answer config h f c before n ih q = go (stopped h) c q
  where
    tested : (k : ℕ) (a b : Bool) → nat_lt (length (function_at config f).slots) k ≡ a
        → reserved_by (Some (if a || b then Refused BadReservation else Reserved k)) before ≡ Some n
        → n ≤ length (function_at config f).slots
    tested k true b t r = ih r
    tested k false true t r = ih r
    tested k false false t r = let same : k ≡ n = cc in grind (arith, nat_tests, t, same)

    go : (b : Bool) (c : Option ℕ)
        → reserved_by (Some (if b then Stopped else reserve_answer config h f c)) before ≡ Some n
        → n ≤ length (function_at config f).slots
    go true c r = ih r
    go false None r = absurd (some-none (sym r))
    go false (Some k) r =
        tested k (nat_lt (length (function_at config f).slots) k)
        (nat_lt config.account_limit (((reserved_in_all config h - or_zero (reservation config h f)) + k) + config.least_remainder)) refl r

-- a reservation in force is at most the function's environments
pub reservation_fits : (config : Config) (h : List Entry) (f n : ℕ) → IsLegal config h
    → ((m : ℕ) → (function_at config f).reserved ≡ Some m → m ≤ length (function_at config f).slots)
    → reservation config h f ≡ Some n → n ≤ length (function_at config f).slots
unfolding reservation
reservation_fits config [] f n l c q = c n q
reservation_fits config (entry ∷ h) f n l c q = go (reserves f entry.call) refl (reservation_fits config h f n l.0 c) q
  where
    by_call : (call : Call) → entry.call ≡ call → reserves f call ≡ true
        → (reservation config h f ≡ Some n → n ≤ length (function_at config f).slots)
        → reserved_by (answer_in entry.answers (length h)) (reservation config h f) ≡ Some n
        → n ≤ length (function_at config f).slots
    by_call (Reserve g k) w r ih p = fits_answer config h f k (reservation config h f) n ih
        (sym (sym (reserved_plain (answer_in entry.answers (length h)) (reservation config h f)) ∙ ap (λ (a : Option Answer). reserved_by a (reservation config h f))
        (ap (λ (pairs : List (ℕ × Answer)). plain (answer_in pairs (length h))) (l.1.answers ∙ ap (answers config h entry.moment) w)
        ∙ valued config h entry.moment (Reserve g k) (length h) (omega arith)
        ∙ ap
        (λ (a : Option Answer). plain (or_else a (second_answer config h (first_entry config h entry.moment (Reserve g k)) (length h))))
        (reserve_first config h entry.moment g k)
        ∙ ap (λ (d : ℕ). plain (Some (if stopped h then Stopped else reserve_answer config h d k))) (eqb-true g f r))
        ∙ reserved_plain (Some (if stopped h then Stopped else reserve_answer config h f k)) (reservation config h f))
        ∙ p)
    by_call call w r ih p = absurd (true≢false (sym r))

    go : (b : Bool) → reserves f entry.call ≡ b
        → (reservation config h f ≡ Some n → n ≤ length (function_at config f).slots)
        → (if b then reserved_by (answer_in entry.answers (length h)) (reservation config h f) else reservation config h f) ≡ Some n
        → n ≤ length (function_at config f).slots
    go false k ih r = ih r
    go true k ih r = by_call entry.call refl k ih r

-- a function's environments are counted by its number
count_append : {X : Type 0} (p : X → Bool) (xs ys : List X) → count_by p (xs ++ ys) ≡ count_by p xs + count_by p ys
count_append p [] ys = none (count_by p ys)
  where
    none : (n : ℕ) → n ≡ 0 + n
    none n = omega arith
count_append p (x ∷ xs) ys = rw (count_cons p x (xs ++ ys), count_cons p x xs) (add (cond (p x) 1 0) (count_append p xs ys))
  where
    add : (a : ℕ) → count_by p (xs ++ ys) ≡ count_by p xs + count_by p ys → a + count_by p (xs ++ ys) ≡ (a + count_by p xs) + count_by p ys
    add a k = omega (arith, k)

count_all : (k : ℕ) (fun : Function) (slots : List Slot) → count_by {X = ℕ × Function} (λ o. o.0 == k) (map (λ _. (k, fun)) slots) ≡ length slots
count_all k fun [] = refl
count_all k fun (slot ∷ slots) =
    count_cons (λ (o : ℕ × Function). o.0 == k) (k, fun) (map (λ _. (k, fun)) slots)
    ∙ ap₂ (λ (b : Bool) (m : ℕ). cond b 1 0 + m) (eqb-self k) (count_all k fun slots) ∙ add (length slots)
  where
    add : (m : ℕ) → 1 + m ≡ suc m
    add m = omega arith

owned : (k i : ℕ) (funs : List Function) → length (at no_function funs i).slots ≤ count_by (λ o. o.0 == k + i) (owners_from k funs)
owned k i [] = omega arith
owned k zero (fun ∷ funs) =
    let at_k : k + 0 ≡ k = omega arith in
    rw (at_k, count_append (λ (o : ℕ × Function). o.0 == k) (map (λ _. (k, fun)) fun.slots) (owners_from (suc k) funs), count_all k fun fun.slots) (omega arith)
owned k (suc i) (fun ∷ funs) =
    let at_k : k + suc i ≡ suc k + i = omega arith in
    rw
    (at_k, count_append (λ (o : ℕ × Function). o.0 == suc k + i) (map (λ _. (k, fun)) fun.slots) (owners_from (suc k) funs))
    (omega (arith, owned (suc k) i funs))

-- a count over numbers is one over the list that they number
count_numbers : {X : Type 0} (d : X) (p : X → Bool) (g : ℕ → Bool) (a : ℕ) (xs : List X)
    → ((i : ℕ) → g (a + i) ≡ p (at d xs i)) → count_by g (count_from a (length xs)) ≡ count_by p xs
count_numbers d p g a [] f = refl
count_numbers d p g a (x ∷ xs) f =
    count_cons g a (count_from (suc a) (length xs))
    ∙ ap₂ (λ (b : Bool) (m : ℕ). cond b 1 0 + m) (ap g (start a) ∙ f 0) (count_numbers d p g (suc a) xs (λ i. ap g (shift i) ∙ f (suc i)))
    ∙ sym (count_cons p x xs)
  where
    start : (a : ℕ) → a ≡ a + 0
    start a = omega arith

    shift : (i : ℕ) → suc a + i ≡ a + suc i
    shift i = omega arith

pub environments_of : (config : Config) (f : ℕ) → length (function_at config f).slots ≤ count_by (λ e. function_of config e == f) (environments config)
environments_of config zero = omega arith
environments_of config (suc f) =
    rw (count_numbers (0, no_function) (λ (o : ℕ × Function). o.0 == suc f) (λ e. function_of config e == suc f) 1 (owners config) at_number)
    (subst (λ (n : ℕ). length (function_at config (suc f)).slots ≤ count_by (λ o. o.0 == n) (owners config)) (suc_of f) (owned 1 f config.functions))
  where
    suc_of : (i : ℕ) → 1 + i ≡ suc i
    suc_of i = omega arith

    at_number : (i : ℕ) → (function_of config (1 + i) == suc f) ≡ ((at (0, no_function) (owners config) i).0 == suc f)
    at_number i = ap (λ (n : ℕ). (item_numbered (0, no_function) (owners config) n).0 == suc f) (suc_of i)

-- where none of three tests finds anything, what passes p passes q
count_found : (p q a b c : ℕ → Bool) → ((x : ℕ) → p x ≡ true → a x ≡ false → b x ≡ false → c x ≡ false → q x ≡ true)
    → (xs : List ℕ) → find a xs ≡ None → find b xs ≡ None → find c xs ≡ None → count_by p xs ≤ count_by q xs
count_found p q a b c f [] u v w = omega arith
count_found p q a b c f (x ∷ xs) u v w =
    let na : (a x ≡ false) × (find a xs ≡ None) = step (a x) (find a xs) refl u in
    let nb : (b x ≡ false) × (find b xs ≡ None) = step (b x) (find b xs) refl v in
    let nc : (c x ≡ false) × (find c xs ≡ None) = step (c x) (find c xs) refl w in
    rw (count_cons p x xs, count_cons q x xs) (go (p x) (q x) (λ k. f x k na.0 nb.0 nc.0) (count_found p q a b c f xs na.1 nb.1 nc.1))
  where
    step : {t : Bool} (s : Bool) (o : Option ℕ) → t ≡ s → (if s then Some x else o) ≡ None → (t ≡ false) × (o ≡ None)
    step true o e q = absurd (some-none q)
    step false o e q = (e, q)

    go : (s t : Bool) → (s ≡ true → t ≡ true) → count_by p xs ≤ count_by q xs → cond s 1 0 + count_by p xs ≤ cond t 1 0 + count_by q xs
    go true true g k = omega (arith, k)
    go true false g k = absurd (true≢false (sym (g refl)))
    go false true g k = omega (arith, k)
    go false false g k = omega (arith, k)

no_place : (config : Config) (h : List Entry) (f : ℕ) → place config h f ≡ None
    → (lowest config h f is_idle ≡ None) × (lowest config h f is_free_starting ≡ None) × (lowest config h f is_free_closing ≡ None)
unfolding place
no_place config h f q = go (lowest config h f is_idle) (lowest config h f is_free_starting) (lowest config h f is_free_closing) q
  where
    go : (a b c : Option ℕ) → or_else a (or_else b c) ≡ None → (a ≡ None) × (b ≡ None) × (c ≡ None)
    go None None None r = (refl, refl, refl)
    go None None (Some c) r = absurd (some-none r)
    go None (Some b) c r = absurd (some-none r)
    go (Some a) b c r = absurd (some-none r)

-- an environment that is neither free nor Off has an invocation at hand
not_free : (P : Phase) → is_off P ≡ false → is_idle P ≡ false → is_free_starting P ≡ false → is_free_closing P ≡ false → is_some (at_hand P) ≡ true
not_free Idle o a b c = sym a
not_free (Starting d None) o a b c = sym b
not_free (Starting d (Some p)) o a b c = refl
not_free (Busy p d) o a b c = refl
not_free (Closing reason until None) o a b c = sym c
not_free (Closing reason until (Some p)) o a b c = refl
not_free Off o a b c = sym o

-- where an Invoke of f has no place, all of f's environments serve
pub all_serve : (config : Config) (h : List Entry) (f : ℕ) → IsLegal config h → stopped h ≡ false
    → place config h f ≡ None → count_by (λ e. function_of config e == f) (environments config) ≤ in_flight config h f
all_serve config h f l s q =
    let none : (lowest config h f is_idle ≡ None) × (lowest config h f is_free_starting ≡ None) × (lowest config h f is_free_closing ≡ None) = no_place config h f q in
    rw (flight config h f l)
    (count_found (λ e. function_of config e == f) (serves config h f) (λ e. (function_of config e == f) && is_idle (phase config h e)) (λ e. (function_of config e == f) && is_free_starting (phase config h e)) (λ e. (function_of config e == f) && is_free_closing (phase config h e)) each (environments config) none.0 none.1 none.2)
  where
    each : (e : ℕ) → (function_of config e == f) ≡ true
        → ((function_of config e == f) && is_idle (phase config h e)) ≡ false
        → ((function_of config e == f) && is_free_starting (phase config h e)) ≡ false
        → ((function_of config e == f) && is_free_closing (phase config h e)) ≡ false → serves config h f e ≡ true
    each e k a b c = rw k (not_free (phase config h e) (not_off config h e l s) (rw k at a) (rw k at b) (rw k at c))

-- A reserved function never meets the local reason.
pub never_crowded : (config : Config) (h : List Entry) (f n : ℕ) → IsLegal config h
    → ((m : ℕ) → (function_at config f).reserved ≡ Some m → m ≤ length (function_at config f).slots)
    → reservation config h f ≡ Some n → verdict config h f ≡ Refuses ByEnvironments → ⊥
unfolding verdict
never_crowded config h f n l c r v = go (stopped h) refl (rw r at v)
  where
    by_place : (o : Option ℕ) → place config h f ≡ o → stopped h ≡ false → nat_le n (in_flight config h f) ≡ false → where_placed o ≡ Refuses ByEnvironments → ⊥
    by_place None q s t w = enough (in_flight config h f) t (all_serve config h f l s q) (environments_of config f) (reservation_fits config h f n l c r)
      where
        enough : (m : ℕ) → nat_le n m ≡ false → count_by (λ e. function_of config e == f) (environments config) ≤ m
            → length (function_at config f).slots ≤ count_by (λ e. function_of config e == f) (environments config)
            → n ≤ length (function_at config f).slots → ⊥
        enough m t a b c = grind (arith, nat_tests, t, a, b, c)
    by_place (Some e) q s t w = different w
      where
        different : {d : ℕ} → Admits d ≡ Refuses ByEnvironments → ⊥
        different w = cc

    tested : (b : Bool) → nat_le n (in_flight config h f) ≡ b → stopped h ≡ false
        → (if b then Refuses ByFunction else where_placed (place config h f)) ≡ Refuses ByEnvironments → ⊥
    tested true t s w = different w
      where
        different : Refuses ByFunction ≡ Refuses ByEnvironments → ⊥
        different w = cc
    tested false t s w = by_place (place config h f) refl s t w

    go : (b : Bool) → stopped h ≡ b → (if b then AfterStop else by_limits config h f (Some n)) ≡ Refuses ByEnvironments → ⊥
    go true s w = different w
      where
        different : AfterStop ≡ Refuses ByEnvironments → ⊥
        different w = cc
    go false s w = tested (nat_le n (in_flight config h f)) refl s w

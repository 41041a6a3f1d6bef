-- The next history of a legal one is legal.
use Rattle.std.proofs.Common.{◌≡◌, ℕ, ◌+◌, ◌<◌, ◌≤◌, Bool, true, false, cond, List, [], ◌∷◌, ◌++◌, length, Option, Some}
use Rattle.std.proofs.Common.{None, sym, refl, ap, ◌∙◌, subst, inl, inr, arith, ◌≢◌, not, ◌&&◌, ◌||◌, ◌==◌, map, filter}
use Rattle.std.proofs.Common.{filter_map, true≢false, if◌then◌else◌, count_by, nat_le}
use Rattle.std.proofs.lemmas.Bool.{eq-eqb}
use Rattle.std.proofs.lemmas.Bool.Decides.{eqb_tells, nat_tests}
use Rattle.std.specs.List.{cons_option}
use Rattle.call_types.specs.declared.answer.Reason.{Reason}
use Rattle.call_types.specs.declared.answer.Reason.TheVariants.{Timeout}
use Rattle.call_types.specs.declared.answer.Phase.{Phase}
use Rattle.call_types.specs.declared.answer.Phase.TheVariants.{Starting, Idle, Busy, Closing, Off}
use Rattle.call_types.specs.declared.call.Call.{Call}
use Rattle.call_types.specs.declared.call.Call.TheVariants.{Expire}
use Rattle.call_types.specs.declared.call.Entry.{Entry}
use Rattle.arn_ids.specs.declared.config.Config.{Config}
use Rattle.arn_ids.specs.Environments.{environments}
use Rattle.call_model.specs.History.{is_expiry}
use Rattle.call_model.specs.Stand.{Stand, bound_of, is_starting, is_busy, is_closing}
use Rattle.call_model.specs.Table.{reborn, settled, closes, kept, or_closing, Cell}
use Rattle.call_model.specs.Laws.{is_due}
use Rattle.call_model.specs.Life.{Lifecycle, phase, stand, seen, limit_of}
use Rattle.call_model.specs.Answers.{answers}
use Rattle.std.proofs.lemmas.List.{append_assoc}
use Rattle.call_model.specs.Next.{entry_of, expiries, expiries_at, added, moment_at, due, due_at, deadline_of}
use Rattle.call_model.specs.Next.{by_deadline, entered, next, last_moment, IsLegal, Follows, IsTimely, first}
use Rattle.call_model.proofs.Pairs.{eqb-other}
use Rattle.call_model.proofs.Once.{fresh}
use Rattle.call_model.proofs.Scans.{legal_silent}
use Rattle.call_model.proofs.PhaseStep.{phase_step}
use Rattle.call_model.proofs.Basics.{count_cons, eqb-self}
use Rattle.call_model.proofs.DueList.{come_once}
use Rattle.call_model.proofs.Deadlines.{filter_deadline, count_deadline}
use Rattle.call_model.proofs.Elsewhere.{life_elsewhere}
use Rattle.call_model.proofs.Cells.{in_row}

keep_all : (e : ℕ) (xs : List (ℕ × ℕ)) → count_by (λ a. e == a.1) xs ≡ 0 → filter (λ a. not (e == a.1)) xs ≡ xs
keep_all e [] q = refl
keep_all e (x ∷ xs) q = go (e == x.1) (sym (count_cons (λ (a : ℕ × ℕ). e == a.1) x xs) ∙ q) (keep_all e xs)
  where
    rest : ℕ
    rest = count_by (λ a. e == a.1) xs

    no : 1 + rest ≡ 0 → ⊥
    no k = omega (arith, k)

    drop : 0 + rest ≡ 0 → rest ≡ 0
    drop k = omega (arith, k)

    go : (b : Bool) → cond b 1 0 + rest ≡ 0 → (rest ≡ 0 → filter (λ a. not (e == a.1)) xs ≡ xs)
        → (if not b then x ∷ filter (λ a. not (e == a.1)) xs else filter (λ a. not (e == a.1)) xs) ≡ x ∷ xs
    go true k ih = absurd (no k)
    go false k ih = ap (λ (ys : List (ℕ × ℕ)). x ∷ ys) (ih (drop k))

-- the rest of what is due, where an environment is no more so
due_filter : (e m : ℕ) (f g : ℕ → Option ℕ) → ((d : ℕ) → d ≢ e → g d ≡ f d) → due_at m e (g e) ≡ None → (xs : List ℕ)
    → filter_map (λ d. due_at m d (g d)) xs ≡ filter (λ a. not (e == a.1)) (filter_map (λ d. due_at m d (f d)) xs)
due_filter e m f g same none [] = refl
due_filter e m f g same none (x ∷ xs) = elim (eqb_tells e x) [
  | inl q ↦ at_e q.0 (sym q.1) (f x) (due_filter e m f g same none xs)
  | inr q ↦ ap (λ (o : Option ℕ). cons_option (due_at m x o) (filter_map (λ d. due_at m d (g d)) xs)) (same x (λ p. q.1 (sym p)))
      ∙ other q.0 (f x) (due_filter e m f g same none xs)
]
  where
    left : List (ℕ × ℕ)
    left = filter_map (λ d. due_at m d (f d)) xs

    gone : (e == x) ≡ true → (n : ℕ) (b : Bool)
        → filter (λ a. not (e == a.1)) left ≡ filter (λ a. not (e == a.1)) (cons_option (if b then Some (n, x) else None) left)
    gone q n true = rw q refl
    gone q n false = refl

    at_e : (e == x) ≡ true → x ≡ e → (o : Option ℕ) → filter_map (λ d. due_at m d (g d)) xs ≡ filter (λ a. not (e == a.1)) left
        → cons_option (due_at m x (g x)) (filter_map (λ d. due_at m d (g d)) xs) ≡ filter (λ a. not (e == a.1)) (cons_option (due_at m x o) left)
    at_e q p None ih = ap (λ (k : Option (ℕ × ℕ)). cons_option k (filter_map (λ d. due_at m d (g d)) xs)) (ap (λ (n : ℕ). due_at m n (g n)) p ∙ none) ∙ ih
    at_e q p (Some n) ih =
        ap (λ (k : Option (ℕ × ℕ)). cons_option k (filter_map (λ d. due_at m d (g d)) xs)) (ap (λ (n : ℕ). due_at m n (g n)) p ∙ none)
        ∙ ih ∙ gone q n (nat_le n m)

    stays : (e == x) ≡ false → (n : ℕ) (b : Bool)
        → filter_map (λ d. due_at m d (g d)) xs ≡ filter (λ a. not (e == a.1)) left
        → cons_option (if b then Some (n, x) else None) (filter_map (λ d. due_at m d (g d)) xs) ≡ filter (λ a. not (e == a.1)) (cons_option (if b then Some (n, x) else None) left)
    stays q n true ih = rw (q, ih) refl
    stays q n false ih = ih

    other : (e == x) ≡ false → (o : Option ℕ)
        → filter_map (λ d. due_at m d (g d)) xs ≡ filter (λ a. not (e == a.1)) left
        → cons_option (due_at m x o) (filter_map (λ d. due_at m d (g d)) xs) ≡ filter (λ a. not (e == a.1)) (cons_option (due_at m x o) left)
    other q None ih = ih
    other q (Some n) ih = stays q n (nat_le n m) ih

-- where the first of a list by deadlines is left out, the rest is left
drop_first : (e : ℕ) (xs : List (ℕ × ℕ)) (rest : List ℕ) → count_by (λ a. e == a.1) xs ≤ 1
    → map (λ a. a.1) xs ≡ e ∷ rest → map (λ a. a.1) (filter (λ a. not (e == a.1)) xs) ≡ rest
drop_first e [] rest c q = absurd (empty q)
  where
    empty : [] ≡ e ∷ rest → ⊥
    empty r = cc
drop_first e (x ∷ xs) rest c q =
    let head : (e == x.1) ≡ true = eq-eqb e x.1 (sym (first q)) in
    rw (head, keep_all e xs (none (count_by (λ a. e == a.1) xs) (rw head at (subst (λ (n : ℕ). n ≤ 1) (count_cons (λ (a : ℕ × ℕ). e == a.1) x xs) c)))) (tail q)
  where
    first : (x.1 ∷ map (λ a. a.1) xs) ≡ e ∷ rest → x.1 ≡ e
    first r = cc

    tail : (x.1 ∷ map (λ a. a.1) xs) ≡ e ∷ rest → map (λ a. a.1) xs ≡ rest
    tail r = cc

    none : (n : ℕ) → 1 + n ≤ 1 → n ≡ 0
    none n k = omega (arith, k)

-- after its expiry an environment isn't due
not_due : (m d : ℕ) → m < d → (e : ℕ) → due_at m e (Some d) ≡ None
not_due m d lt e = rw (later lt) refl
  where
    later : m < d → nat_le d m ≡ false
    later k = grind (arith, nat_tests, k)

due_reborn : (over : Bool) (m e : ℕ) (b : Option ℕ) → due_at m e (deadline_of (reborn over m b)) ≡ None
due_reborn true m e b = refl
due_reborn false m e None = refl
due_reborn false m e (Some p) = not_due m (m + 10000) (omega arith) e

due_settled : (limit m e : ℕ) (r w : Bool) (P : Phase) → is_starting P ≡ false → is_busy P ≡ false
    → due_at m e (deadline_of P) ≡ None → due_at m e (deadline_of (settled limit r w P)) ≡ None
due_settled limit m e r w (Starting d b) s k q = absurd (true≢false s)
due_settled limit m e r w (Busy p d) s k q = absurd (true≢false k)
due_settled limit m e true w Idle s k q = refl
due_settled limit m e false w Idle s k q = refl
due_settled limit m e true w (Closing reason until b) s k q = q
due_settled limit m e false w (Closing reason until b) s k q = q
due_settled limit m e true w Off s k q = refl
due_settled limit m e false w Off s k q = refl

-- the phase after an expiry, by the phase before it
due_cell : (m e limit n : ℕ) (s : Stand) (a over r w : Bool)
    → due_at m e (deadline_of (if is_closing (or_closing m (closes s (Expire e)) (kept m limit n s (Expire e))) && (a || (is_closing s.phase && true)) then reborn over m (bound_of (or_closing m (closes s (Expire e)) (kept m limit n s (Expire e)))) else settled limit r w (or_closing m (closes s (Expire e)) (kept m limit n s (Expire e))))) ≡ None
unfolding closes kept
due_cell m e limit n s a over r w =
    in_row
    (λ P (cell : Cell). due_at m e (deadline_of (if is_closing (or_closing m cell.close P) && (a || (is_closing P && true)) then reborn over m (bound_of (or_closing m cell.close P)) else settled limit r w (or_closing m cell.close P))) ≡ None) s _ _ _ _ _ _
    (λ d b. closed (a || false)) (due_settled limit m e r w Idle refl refl refl) (λ p d. closed (a || false))
    (λ p d. closed (a || false)) (λ reason until b. ended reason until b a)
    (due_settled limit m e r w Off refl refl refl)
  where
    closed : (b : Bool) → due_at m e (deadline_of (if b then reborn over m None else settled limit r w (Closing Timeout (m + 2000) None))) ≡ None
    closed true = due_reborn over m e None
    closed false = due_settled limit m e r w (Closing Timeout (m + 2000) None) refl refl (not_due m (m + 2000) (omega arith) e)

    ended : (reason : Reason) (until : ℕ) (b : Option ℕ) (a : Bool)
        → due_at m e (deadline_of (if a || true then reborn over m b else settled limit r w (Closing reason until b))) ≡ None
    ended reason until b true = due_reborn over m e b
    ended reason until b false = due_reborn over m e b

due_after : (config : Config) (h : List Entry) (m e : ℕ) → IsLegal config h
    → Follows config h (record { moment = m; call = Expire e; answers = answers config h m (Expire e); place = None })
    → due_at m e (deadline_of (phase config (entered config h m (Expire e)) e)) ≡ None
unfolding seen
due_after config h m e l w =
    ap (λ (P : Phase). due_at m e (deadline_of P))
    (phase_step config h entry e (eqb-self e) (fresh config h (length h) l (omega arith)) (legal_silent config h entry w))
    ∙ due_cell m e (limit_of config e m) (length h) (stand config h e) _ _ _ _
  where
    entry : Entry
    entry = record { moment = m; call = Expire e; answers = answers config h m (Expire e); place = None }

rest_due : (config : Config) (h : List Entry) (m e : ℕ) (rest : List ℕ) → IsLegal config h
    → Follows config h (record { moment = m; call = Expire e; answers = answers config h m (Expire e); place = None })
    → due config h m ≡ e ∷ rest → due config (entered config h m (Expire e)) m ≡ rest
unfolding due
rest_due config h m e rest l w q =
    ap (λ (xs : List (ℕ × ℕ)). map (λ a. a.1) (by_deadline xs))
    (due_filter e m (λ d. deadline_of (phase config h d)) (λ d. deadline_of (phase config (entered config h m (Expire e)) d)) others (due_after config h m e l w) (environments config))
    ∙ ap (λ (xs : List (ℕ × ℕ)). map (λ a. a.1) xs) (filter_deadline (λ a. not (e == a.1)) old)
    ∙ drop_first e (by_deadline old) rest (rw (count_deadline (λ (a : ℕ × ℕ). e == a.1) old, come_once config h m e) (once (is_due config h m e))) q
  where
    old : List (ℕ × ℕ)
    old = filter_map (λ d. due_at m d (deadline_of (phase config h d))) (environments config)

    others : (d : ℕ) → d ≢ e → deadline_of (phase config (entered config h m (Expire e)) d) ≡ deadline_of (phase config h d)
    others d ne =
        ap (λ (x : Lifecycle). deadline_of x.phase)
        (life_elsewhere config h (record { moment = m; call = Expire e; answers = answers config h m (Expire e); place = None }) d (eqb-other e d (λ same. ne (sym same))))

    once : (b : Bool) → cond b 1 0 ≤ 1
    once true = omega arith
    once false = omega arith

-- The expiry of the first that is due keeps the history legal,
pub legal_expiry : (config : Config) (h : List Entry) (m e : ℕ) (rest : List ℕ) → IsLegal config h → last_moment h ≤ m
    → due config h m ≡ e ∷ rest → IsLegal config (entered config h m (Expire e))
legal_expiry config h m e rest l le q = (l, record { later = le; timely = ap first q; answers = refl; place = refl })

-- and then the rest is due.
pub due_after_expiry : (config : Config) (h : List Entry) (m e : ℕ) (rest : List ℕ) → IsLegal config h
    → last_moment h ≤ m → due config h m ≡ e ∷ rest → due config (entered config h m (Expire e)) m ≡ rest
due_after_expiry config h m e rest l le q = rest_due config h m e rest l ((legal_expiry config h m e rest l le q).1) q

-- an environment expires, and then the others do
pub expiries_on : (config : Config) (m e : ℕ) (rest : List ℕ) (h : List Entry)
    → expiries config m rest (entered config h m (Expire e)) ++ entered config h m (Expire e) ≡ expiries config m (e ∷ rest) h ++ h
expiries_on config m e rest h = sym (append_assoc (expiries config m rest (entered config h m (Expire e))) (entry_of config h m (Expire e) ∷ []) h)

-- a legal history at whose end nothing is due at a moment
pub record HasNoneDue (config : Config) (m : ℕ) (h : List Entry) : Type 0 where
  pub legal : IsLegal config h
  pub later : last_moment h ≤ m
  pub none_due : due config h m ≡ []

-- what is due expires, one after the other, and then nothing is due
none_due_by : (config : Config) (m : ℕ) (es : List ℕ) (h : List Entry) → IsLegal config h → last_moment h ≤ m
    → due config h m ≡ es → HasNoneDue config m (expiries config m es h ++ h)
none_due_by config m [] h l le q = record { legal = l; later = le; none_due = q }
none_due_by config m (e ∷ rest) h l le q =
    subst (HasNoneDue config m) (expiries_on config m e rest h)
    (none_due_by config m rest (entered config h m (Expire e)) (legal_expiry config h m e rest l le q) (omega arith) (due_after_expiry config h m e rest l le q))

pub none_due_at : (config : Config) (h : List Entry) (m : ℕ) → IsLegal config h → last_moment h ≤ m → HasNoneDue config m (expiries_at config h m ++ h)
none_due_at config h m l le = none_due_by config m (due config h m) h l le refl

pub none_due_after : (config : Config) (h : List Entry) (m : ℕ) → IsLegal config h → last_moment h ≤ m → due config (expiries_at config h m ++ h) m ≡ []
none_due_after config h m l le = (none_due_at config h m l le).none_due

is_timely : (m : ℕ) (call : Call) (es : List ℕ) → is_expiry call ≡ false → es ≡ [] → IsTimely m call es
is_timely m (Expire e) es x q = absurd (true≢false x)
is_timely m call es x q = q

-- A call that is entered where nothing is due keeps the history legal.
pub legal_entered : (config : Config) (h : List Entry) (m : ℕ) (call : Call) → IsLegal config h → last_moment h ≤ m
    → due config h m ≡ [] → is_expiry call ≡ false → IsLegal config (entered config h m call)
legal_entered config h m call l le q x = (l, record { later = le; timely = is_timely m call (due config h m) x q; answers = refl; place = refl })

-- The next history is the one in which first everything due expires and then the call is entered.
pub next_entered : (config : Config) (h : List Entry) (now : ℕ) (call : Call)
    → next config h now call ≡ entered config (expiries_at config h (moment_at h now) ++ h) (moment_at h now) call
unfolding next added
next_entered config h now call = refl

-- The next history of a legal one is legal.
pub legal_next : (config : Config) (h : List Entry) (now : ℕ) (call : Call) → IsLegal config h → is_expiry call ≡ false
    → IsLegal config (next config h now call)
legal_next config h now call l x =
    let k = none_due_at config h (moment_at h now) l (omega arith) in
    subst (IsLegal config) (sym (next_entered config h now call))
    (legal_entered config (expiries_at config h (moment_at h now) ++ h) (moment_at h now) call k.legal k.later k.none_due x)

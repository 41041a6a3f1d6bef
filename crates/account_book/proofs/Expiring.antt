-- A loop in which the environments that are due expire, one after the other.
use Rattle.std.proofs.Common.{◌≡◌, ℕ, zero, suc, ◌+◌, ◌<◌, ◌≤◌, Bool, true, false, List, [], ◌∷◌, ◌++◌, ◌-◌, length}
use Rattle.std.proofs.Common.{map, filter_map, All, Option, Some, None, sym, refl, ap, ◌∙◌, arith, nat_le}
use Rattle.std.proofs.Common.{if◌then◌else◌}
use Rattle.std.specs.List.{cons_option}
use Rattle.arn_ids.specs.declared.config.Config.{Config}
use Rattle.arn_ids.specs.Environments.{environments, count_from, owners}
use Rattle.call_model.proofs.Basics.{none-some}
use Rattle.call_types.specs.declared.answer.Answer.{Answer}
use Rattle.call_types.specs.declared.answer.Phase.{Phase}
use Rattle.call_types.specs.declared.call.Call.TheVariants.{Expire}
use Rattle.call_types.specs.declared.call.Entry.{Entry}
use Rattle.call_model.specs.Life.{phase}
use Rattle.call_model.specs.Next.{IsLegal, due, due_at, deadline_of, in_order, by_deadline, expiries, expiries_at, entered, last_moment}
use Rattle.call_model.specs.Next.{first}
use Rattle.call_model.proofs.NextLegal.{due_after_expiry, expiries_on}
use Rattle.call_types.specs.Within.{IsEnv}
use Rattle.account_book.specs.Room.{IsRoom, first_or_zero}
use Rattle.account_book.specs.Pages.{Pages}

-- every environment that is due is one that there is
abbrev AreWithin : ℕ → ℕ → List (ℕ × ℕ) → Type 0
AreWithin a b [] = Unit {0}
AreWithin a b (x ∷ xs) = ((a ≤ x.1) × (x.1 < b)) × AreWithin a b xs

wider : (a b c : ℕ) (xs : List (ℕ × ℕ)) → c ≤ a → AreWithin a b xs → AreWithin c b xs
wider a b c [] le w = tt
wider a b c (x ∷ xs) le w = ((omega (arith, le, w.0.0), w.0.1), wider a b c xs le w.1)

in_order_within : (a b : ℕ) (x : ℕ × ℕ) (xs : List (ℕ × ℕ)) → (a ≤ x.1) × (x.1 < b) → AreWithin a b xs → AreWithin a b (in_order x xs)
in_order_within a b x [] here w = (here, tt)
in_order_within a b x (y ∷ ys) here w = go (nat_le x.0 y.0) (in_order_within a b x ys here w.1)
  where
    go : (t : Bool) → AreWithin a b (in_order x ys) → AreWithin a b (if t then x ∷ y ∷ ys else y ∷ in_order x ys)
    go true k = (here, w)
    go false k = (w.0, k)

by_deadline_within : (a b : ℕ) (xs : List (ℕ × ℕ)) → AreWithin a b xs → AreWithin a b (by_deadline xs)
by_deadline_within a b [] w = tt
by_deadline_within a b (x ∷ xs) w = in_order_within a b x (by_deadline xs) w.0 (by_deadline_within a b xs w.1)

come_within : (m : ℕ) (P : ℕ → Phase) (a n : ℕ) → AreWithin a (a + n) (filter_map (λ e. due_at m e (deadline_of (P e))) (count_from a n))
come_within m P a zero = tt
come_within m P a (suc n) =
    go (deadline_of (P a))
    (let same : suc a + n ≡ a + suc n = omega arith in wider (suc a) (a + suc n) a _ (omega arith) (rw same at (come_within m P (suc a) n)))
  where
    rest : List (ℕ × ℕ)
    rest = filter_map (λ e. due_at m e (deadline_of (P e))) (count_from (suc a) n)

    tested : (d : ℕ) (t : Bool) → AreWithin a (a + suc n) rest → AreWithin a (a + suc n) (cons_option (if t then Some (d, a) else None) rest)
    tested d true k = ((omega arith, omega arith), k)
    tested d false k = k

    go : (o : Option ℕ) → AreWithin a (a + suc n) rest → AreWithin a (a + suc n) (cons_option (due_at m a o) rest)
    go None k = k
    go (Some d) k = tested d (nat_le d m) k

pub due_within : (config : Config) (h : List Entry) (m e : ℕ) → first (due config h m) ≡ Some e → IsEnv config e
unfolding due
due_within config h m e q =
    go (by_deadline (filter_map (λ e. due_at m e (deadline_of (phase config h e))) (environments config)))
    (by_deadline_within 1 (1 + length (owners config)) _ (come_within m (phase config h) 1 (length (owners config)))) q
  where
    go : (xs : List (ℕ × ℕ)) → AreWithin 1 (1 + length (owners config)) xs → first (map (λ a. a.1) xs) ≡ Some e → IsEnv config e
    go [] w r = absurd (none-some r)
    go (x ∷ xs) w r = let same : x.1 ≡ e = the x.1 r in (omega (arith, same, w.0.0), omega (arith, same, w.0.1))
      where
        the : (d : ℕ) → Some d ≡ Some e → d ≡ e
        the d k = cc

pub record IsExpiring (m : ℕ) (first now : Pages) (first_rooms rooms : List (List (ℕ × Answer) × ℕ)) : Type 0 where
  pub same : now.config ≡ first.config
  pub widest : now.widest ≡ first.widest
  pub legal : IsLegal now.config now.history
  pub later : last_moment now.history ≤ m
  pub as_many : length rooms ≡ length (due now.config now.history m)
  pub supplied : All (IsRoom first.widest) rooms
  pub enough : length rooms ≤ now.room
  pub room : now.room + length first_rooms ≡ first.room + length rooms
  pub runs : expiries_at now.config now.history m ++ now.history ≡ expiries_at first.config first.history m ++ first.history

-- one environment more has expired
pub expires_one : (m : ℕ) (first now after : Pages) (all rooms rest : List (List (ℕ × Answer) × ℕ))
    → IsExpiring m first now all rooms → suc (length rest) ≡ length rooms → All (IsRoom first.widest) rest
    → after ≡ record now { history = entered now.config now.history m (Expire (first_or_zero (due now.config now.history m))); room = now.room - 1 }
    → IsLegal after.config after.history → IsExpiring m first after all rest
expires_one m first now after all rooms rest k longer empty became legal = go (due now.config now.history m) refl
  where
    go : (es : List ℕ) → due now.config now.history m ≡ es → IsExpiring m first after all rest
    go [] q = absurd (omega (arith, longer, k.as_many, ap length q))
    go (e ∷ es) q =
        let later : due now.config (entered now.config now.history m (Expire e)) m ≡ es = due_after_expiry now.config now.history m e es k.legal k.later q in
        let here : after ≡ record now { history = entered now.config now.history m (Expire e); room = now.room - 1 } = became ∙ rw q refl in
        let lawful : IsLegal now.config (entered now.config now.history m (Expire e)) = rw here at legal in
        rw here (record {
          same = k.same;
          widest = k.widest;
          legal = lawful;
          later = omega arith;
          as_many = rw later (omega (arith, longer, k.as_many, ap length q));
          supplied = empty;
          enough = omega (arith, longer, k.enough);
          room = omega (arith, longer, k.room, k.enough);
          runs = rw later (expiries_on now.config m e es now.history ∙ ap (λ ds. expiries now.config m ds now.history ++ now.history) (sym q) ∙ k.runs);
        })

-- What the list of what is due says: each environment whose deadline has come, once, in order.
use Rattle.std.proofs.Common.{◌≡◌, ℕ, zero, suc, ◌+◌, ◌<◌, Bool, true, false, cond, List, [], ◌∷◌, length, Option, Some}
use Rattle.std.proofs.Common.{None, sym, refl, ap, ap₂, ◌∙◌, arith, ◌&&◌, ◌==◌, map, filter_map, if◌then◌else◌}
use Rattle.std.proofs.Common.{count_by, nat_le, nat_lt}
use Rattle.std.proofs.lemmas.Bool.Decides.{nat_tests}
use Rattle.std.specs.List.{cons_option, list_all}
use Rattle.call_types.specs.declared.call.Entry.{Entry}
use Rattle.arn_ids.specs.declared.config.Config.{Config}
use Rattle.arn_ids.specs.Environments.{environments, count_from, owners}
use Rattle.call_model.specs.Stand.{is_number}
use Rattle.call_model.specs.Life.{phase}
use Rattle.call_model.specs.Laws.{is_due, deadlines_of, comes_before, are_in_order}
use Rattle.call_model.specs.Next.{due, due_at, has_come, with_number, deadline_of, in_order, by_deadline}
use Rattle.call_model.proofs.Deadlines.{count_deadline, list_all_order, list_all_deadline}
use Rattle.call_model.proofs.Basics.{count_cons, count_map, counted_once, eqb-self, number_some, and_left, and_right}

-- ---- each once

-- how often an environment stands among the deadlines that have come
count_due : (e m : ℕ) (D : ℕ → Option ℕ) (xs : List ℕ)
    → count_by (λ a. e == a.1) (filter_map (λ d. due_at m d (D d)) xs) ≡ count_by (λ d. (e == d) && has_come m (D d)) xs
count_due e m D [] = refl
count_due e m D (x ∷ xs) = go (D x) (count_due e m D xs) ∙ sym (count_cons (λ (d : ℕ). (e == d) && has_come m (D d)) x xs)
  where
    rest : List (ℕ × ℕ)
    rest = filter_map (λ d. due_at m d (D d)) xs

    both : (b : Bool) (k n : ℕ) → k ≡ n → k ≡ cond (b && false) 1 0 + n
    both true k n q = omega (arith, q)
    both false k n q = omega (arith, q)

    one : (b : Bool) → ◌≡◌ {A = ℕ} (cond b 1 0) (cond (b && true) 1 0)
    one true = refl
    one false = refl

    go : (o : Option ℕ) → count_by (λ a. e == a.1) rest ≡ count_by (λ d. (e == d) && has_come m (D d)) xs
        → count_by (λ a. e == a.1) (cons_option (due_at m x o) rest) ≡ cond ((e == x) && has_come m o) 1 0 + count_by (λ d. (e == d) && has_come m (D d)) xs
    go None ih = both (e == x) _ _ ih
    go (Some d) ih = tested (nat_le d m)
      where
        tested : (b : Bool)
            → count_by (λ a. e == a.1) (cons_option (if b then Some (d, x) else None) rest) ≡ cond ((e == x) && b) 1 0 + count_by (λ d. (e == d) && has_come m (D d)) xs
        tested true = count_cons (λ (a : ℕ × ℕ). e == a.1) (d, x) rest ∙ ap₂ (λ (k n : ℕ). k + n) (one (e == x)) ih
        tested false = both (e == x) _ _ ih

pub come_once : (config : Config) (h : List Entry) (m e : ℕ)
    → count_by (λ a. e == a.1) (filter_map (λ d. due_at m d (deadline_of (phase config h d))) (environments config)) ≡ cond (is_due config h m e) 1 0
come_once config h m e =
    count_due e m (λ d. deadline_of (phase config h d)) (environments config)
    ∙ counted_once e (λ d. has_come m (deadline_of (phase config h d))) 1 (length (owners config))

-- Exactly what is due stands in the list, each environment once.
pub listed_once : (config : Config) (h : List Entry) (m e : ℕ) → count_by (λ d. e == d) (due config h m) ≡ cond (is_due config h m e) 1 0
unfolding due
listed_once config h m e =
    let come : List (ℕ × ℕ) = filter_map (λ d. due_at m d (deadline_of (phase config h d))) (environments config) in
    count_map (λ d. e == d) (λ (a : ℕ × ℕ). a.1) (by_deadline come) ∙ count_deadline (λ a. e == a.1) come ∙ come_once config h m e

-- ---- in order

all_pass : (p q : ℕ × ℕ → Bool) → ((x : ℕ × ℕ) → p x ≡ true → q x ≡ true) → (xs : List (ℕ × ℕ)) → list_all p xs ≡ true → list_all q xs ≡ true
all_pass p q f [] k = refl
all_pass p q f (x ∷ xs) k = rw (f x (and_left (p x) (list_all p xs) k)) (all_pass p q f xs (and_right (p x) (list_all p xs) k))

-- in order with one more, whose number is lower than theirs
stays_in_order : (a : ℕ × ℕ) (xs : List (ℕ × ℕ)) → list_all (λ x. nat_lt a.1 x.1) xs ≡ true → are_in_order xs ≡ true → are_in_order (in_order a xs) ≡ true
stays_in_order a [] low o = refl
stays_in_order a (x ∷ xs) low o =
    go (nat_le a.0 x.0) refl
    (stays_in_order a xs (and_right (nat_lt a.1 x.1) (list_all (λ y. nat_lt a.1 y.1) xs) low) (and_right (list_all (comes_before x) xs) (are_in_order xs) o))
  where
    first : list_all (comes_before x) xs ≡ true
    first = and_left (list_all (comes_before x) xs) (are_in_order xs) o

    lower : nat_lt a.1 x.1 ≡ true
    lower = and_left (nat_lt a.1 x.1) (list_all (λ y. nat_lt a.1 y.1) xs) low

    before : nat_le a.0 x.0 ≡ true → comes_before a x ≡ true
    before q = grind (arith, nat_tests, q, lower)

    behind : nat_le a.0 x.0 ≡ false → comes_before x a ≡ true
    behind q = grind (arith, nat_tests, q)

    through : comes_before a x ≡ true → (y : ℕ × ℕ) → comes_before x y ≡ true → comes_before a y ≡ true
    through p y q = grind (arith, nat_tests, p, q)

    go : (b : Bool) → nat_le a.0 x.0 ≡ b → are_in_order (in_order a xs) ≡ true → are_in_order (if b then a ∷ x ∷ xs else x ∷ in_order a xs) ≡ true
    go true q ih = rw (before q, all_pass (comes_before x) (comes_before a) (through (before q)) xs first) o
    go false q ih = rw (list_all_order (comes_before x) a xs, behind q, first) ih

-- numbers that count up
come_from : (m e : ℕ) (D : ℕ → Option ℕ) (a n : ℕ) → e < a → list_all (λ x. nat_lt e x.1) (filter_map (λ d. due_at m d (D d)) (count_from a n)) ≡ true
come_from m e D a zero lt = refl
come_from m e D a (suc n) lt = go (D a) (come_from m e D (suc a) n (omega (arith, lt)))
  where
    rest : List (ℕ × ℕ)
    rest = filter_map (λ d. due_at m d (D d)) (count_from (suc a) n)

    lower : nat_lt e a ≡ true
    lower = grind (arith, nat_tests, lt)

    tested : (d : ℕ) (b : Bool) → list_all (λ x. nat_lt e x.1) rest ≡ true
        → list_all (λ x. nat_lt e x.1) (cons_option (if b then Some (d, a) else None) rest) ≡ true
    tested d true ih = rw lower ih
    tested d false ih = ih

    go : (o : Option ℕ) → list_all (λ x. nat_lt e x.1) rest ≡ true → list_all (λ x. nat_lt e x.1) (cons_option (due_at m a o) rest) ≡ true
    go None ih = ih
    go (Some d) ih = tested d (nat_le d m) ih

come_in_order : (m : ℕ) (D : ℕ → Option ℕ) (a n : ℕ) → are_in_order (by_deadline (filter_map (λ d. due_at m d (D d)) (count_from a n))) ≡ true
come_in_order m D a zero = refl
come_in_order m D a (suc n) = go (D a) (come_in_order m D (suc a) n)
  where
    rest : List (ℕ × ℕ)
    rest = filter_map (λ d. due_at m d (D d)) (count_from (suc a) n)

    tested : (d : ℕ) (b : Bool) → are_in_order (by_deadline rest) ≡ true
        → are_in_order (by_deadline (cons_option (if b then Some (d, a) else None) rest)) ≡ true
    tested d true ih = stays_in_order (d, a) (by_deadline rest) (list_all_deadline (λ x. nat_lt a x.1) rest ∙ come_from m a D (suc a) n (omega arith)) ih
    tested d false ih = ih

    go : (o : Option ℕ) → are_in_order (by_deadline rest) ≡ true → are_in_order (by_deadline (cons_option (due_at m a o) rest)) ≡ true
    go None ih = ih
    go (Some d) ih = tested d (nat_le d m) ih

-- the environments that come have the deadlines with which they come
come_with : (m : ℕ) (D : ℕ → Option ℕ) (xs : List ℕ) → list_all (λ a. is_number (D a.1) a.0) (filter_map (λ d. due_at m d (D d)) xs) ≡ true
come_with m D [] = refl
come_with m D (x ∷ xs) = go (D x) refl (come_with m D xs)
  where
    rest : List (ℕ × ℕ)
    rest = filter_map (λ d. due_at m d (D d)) xs

    tested : (d : ℕ) (b : Bool) → D x ≡ Some d → list_all (λ a. is_number (D a.1) a.0) rest ≡ true
        → list_all (λ a. is_number (D a.1) a.0) (cons_option (if b then Some (d, x) else None) rest) ≡ true
    tested d true q ih = rw (q, eqb-self d) ih
    tested d false q ih = ih

    go : (o : Option ℕ) → D x ≡ o → list_all (λ a. is_number (D a.1) a.0) rest ≡ true
        → list_all (λ a. is_number (D a.1) a.0) (cons_option (due_at m x o) rest) ≡ true
    go None q ih = ih
    go (Some d) q ih = tested d (nat_le d m) q ih

with_deadlines : (D : ℕ → Option ℕ) (xs : List (ℕ × ℕ)) → list_all (λ a. is_number (D a.1) a.0) xs ≡ true
    → filter_map (λ e. with_number e (D e)) (map (λ a. a.1) xs) ≡ xs
with_deadlines D [] q = refl
with_deadlines D (x ∷ xs) q =
    let own : D x.1 ≡ Some x.0 = number_some (D x.1) x.0 (and_left (is_number (D x.1) x.0) (list_all (λ a. is_number (D a.1) a.0) xs) q) in
    rw own (ap (λ (ys : List (ℕ × ℕ)). x ∷ ys) (with_deadlines D xs (and_right (is_number (D x.1) x.0) (list_all (λ a. is_number (D a.1) a.0) xs) q)))

-- The list is in order, by deadline and number.
pub listed_in_order : (config : Config) (h : List Entry) (m : ℕ) → are_in_order (deadlines_of config h (due config h m)) ≡ true
unfolding due
listed_in_order config h m =
    let D : ℕ → Option ℕ = λ e. deadline_of (phase config h e) in
    let come : List (ℕ × ℕ) = filter_map (λ d. due_at m d (D d)) (environments config) in
    ap are_in_order (with_deadlines D (by_deadline come) (list_all_deadline (λ a. is_number (D a.1) a.0) come ∙ come_with m D (environments config)))
    ∙ come_in_order m D 1 (length (owners config))

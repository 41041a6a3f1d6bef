-- The first of what is due, one environment after the other.
use Rattle.std.proofs.Common.{◌≡◌, ℕ, zero, suc, ◌≤◌, Bool, true, false, not, List, [], ◌∷◌, length, map, filter_map}
use Rattle.std.proofs.Common.{Option, Some, None, IfSome, refl, ap, ◌∙◌, arith, nat_le, nat_lt, if◌then◌else◌}
use Rattle.std.proofs.Common.{option_map, replicate}
use Rattle.std.specs.List.{cons_option}
use Rattle.std.proofs.lemmas.Bool.Decides.{nat_tests}
use Rattle.arn_ids.specs.declared.config.Config.{Config}
use Rattle.arn_ids.specs.Environments.{environments, count_from, owners}
use Rattle.call_types.specs.declared.call.Entry.{Entry}
use Rattle.call_model.specs.Laws.{comes_before}
use Rattle.call_model.specs.Life.{phase, life}
use Rattle.call_model.specs.Next.{due, due_at, with_number, deadline_of, in_order, by_deadline, first}
use Rattle.deadlines.specs.Due.{come, due_among, first_due}
use Rattle.deadlines.specs.Tree.{sooner, first_of}
use Rattle.deadlines.specs.Meets.{deadlines}

-- an environment with a deadline that has come, or the best of those with greater numbers, whichever is due first
abbrev earlier_of : ℕ → ℕ → Option (ℕ × ℕ) → Option (ℕ × ℕ)
earlier_of deadline e None = Some (deadline, e)
earlier_of deadline e (Some best) = if nat_lt best.0 deadline then Some best else Some (deadline, e)

-- the same, whatever its deadline
abbrev earlier : ℕ → Option ℕ → ℕ → Option (ℕ × ℕ) → Option (ℕ × ℕ)
earlier now None e best = best
earlier now (Some deadline) e best = if nat_lt now deadline then best else earlier_of deadline e best

in_order_first : (a : ℕ × ℕ) (xs : List (ℕ × ℕ)) → first (in_order a xs) ≡ earlier_of a.0 a.1 (first xs)
in_order_first a [] = refl
in_order_first a (x ∷ xs) = go (nat_lt x.0 a.0) (nat_le a.0 x.0) (grind (arith, nat_tests))
  where
    go : (b c : Bool) → c ≡ not b → first (if c then a ∷ x ∷ xs else x ∷ in_order a xs) ≡ (if b then Some x else Some (a.0, a.1))
    go true c q = rw q refl
    go false c q = rw q refl

not_less : (d m : ℕ) → nat_le d m ≡ not (nat_lt m d)
not_less d m = grind (arith, nat_tests)

-- one environment before the others
first_of_more : (now e : ℕ) (deadline : Option ℕ) (rest : List (ℕ × ℕ))
    → first (by_deadline (cons_option (due_at now e deadline) rest)) ≡ earlier now deadline e (first (by_deadline rest))
first_of_more now e None rest = refl
first_of_more now e (Some d) rest = rw (not_less d now) (go (nat_lt now d) refl)
  where
    go : (b : Bool) → nat_lt now d ≡ b
        → first (by_deadline (cons_option (if not b then Some (d, e) else None) rest)) ≡ (if b then first (by_deadline rest) else earlier_of d e (first (by_deadline rest)))
    go true q = refl
    go false q = in_order_first (d, e) (by_deadline rest)

-- a deadline with its environment, where it has come
abbrev pub if_come : ℕ → Option (ℕ × ℕ) → Option (ℕ × ℕ)
if_come now None = None
if_come now (Some a) = if nat_lt now a.0 then None else Some a

earlier_come : (now e : ℕ) (deadline : Option ℕ) (rest : Option (ℕ × ℕ)) → IfSome rest (λ a. suc e ≤ a.1)
    → earlier now deadline e (if_come now rest) ≡ if_come now (sooner (with_number e deadline) rest)
earlier_come now e None rest from = refl
earlier_come now e (Some d) None from = refl
earlier_come now e (Some d) (Some b) from = grind (arith, nat_tests)

sooner_from : (e : ℕ) (a b : Option (ℕ × ℕ)) → IfSome a (λ x. e ≤ x.1) → IfSome b (λ x. e ≤ x.1) → IfSome (sooner a b) (λ x. e ≤ x.1)
sooner_from e None b p q = q
sooner_from e (Some a) None p q = p
sooner_from e (Some a) (Some b) p q = go (comes_before b a)
  where
    go : (c : Bool) → IfSome (if c then Some b else Some a) (λ x. e ≤ x.1)
    go true = q
    go false = p

numbers_from : (e : ℕ) (deadlines : List (Option ℕ)) → IfSome (first_of e deadlines) (λ a. e ≤ a.1)
numbers_from e [] = tt
numbers_from e (deadline ∷ deadlines) =
    sooner_from e (with_number e deadline) (first_of (suc e) deadlines) (own deadline) (behind (first_of (suc e) deadlines) (numbers_from (suc e) deadlines))
  where
    own : (deadline : Option ℕ) → IfSome (with_number e deadline) (λ a. e ≤ a.1)
    own None = tt
    own (Some d) = omega arith

    behind : (rest : Option (ℕ × ℕ)) → IfSome rest (λ a. suc e ≤ a.1) → IfSome rest (λ a. e ≤ a.1)
    behind None p = tt
    behind (Some a) p = omega arith

-- the first of those that have come is the first of all, where that has come
first_come : (now e : ℕ) (deadlines : List (Option ℕ)) → first (due_among now e deadlines) ≡ if_come now (first_of e deadlines)
first_come now e [] = refl
first_come now e (deadline ∷ deadlines) =
    first_of_more now e deadline (come now (suc e) deadlines) ∙ ap (earlier now deadline e) (first_come now (suc e) deadlines)
    ∙ earlier_come now e deadline (first_of (suc e) deadlines) (numbers_from (suc e) deadlines)

pub due_is : (now : ℕ) (deadlines : List (Option ℕ)) → first_due now deadlines ≡ option_map (λ a. a.1) (if_come now (first_of 1 deadlines))
unfolding first_due
due_is now deadlines = ap (option_map (λ a. a.1)) (first_come now 1 deadlines)

-- what has come of the phases' deadlines
come_is : (now : ℕ) (D : ℕ → Option ℕ) (a n : ℕ) → come now a (map D (count_from a n)) ≡ filter_map (λ e. due_at now e (D e)) (count_from a n)
come_is now D a zero = refl
come_is now D a (suc n) = ap (cons_option (due_at now a (D a))) (come_is now D (suc a) n)

through : (xs : List (ℕ × ℕ)) → option_map (λ a. a.1) (first xs) ≡ first (map (λ a. a.1) xs)
through [] = refl
through (x ∷ xs) = refl

pub first_is : (config : Config) (h : List Entry) (now : ℕ) → first_due now (deadlines config h) ≡ first (due config h now)
unfolding first_due due
first_is config h now =
    ap (λ xs. option_map (λ a. a.1) (first (by_deadline xs))) (come_is now (λ e. deadline_of (phase config h e)) 1 (length (owners config)))
    ∙ through (by_deadline (filter_map (λ e. due_at now e (deadline_of (phase config h e))) (environments config)))

none_each : (D : ℕ → Option ℕ) → ((e : ℕ) → D e ≡ None) → (a n : ℕ) → replicate n None ≡ map D (count_from a n)
none_each D none a zero = refl
none_each D none a (suc n) = rw (none a, ← none_each D none (suc a) n) refl

pub opened_is : (config : Config) → replicate (length (owners config)) None ≡ deadlines config []
unfolding life
opened_is config = none_each (λ e. deadline_of (phase config [] e)) (λ e. refl) 1 (length (owners config))

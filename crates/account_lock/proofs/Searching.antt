-- Where a ticket's bell stands among bells in rising order, and that what stays of them is in that order.
use Rattle.std.proofs.Common.{◌≡◌, ◌≢◌, ℕ, zero, suc, ◌+◌, ◌<◌, ◌≤◌, ◌==◌, List, [], ◌∷◌, ◌++◌, Bool, true, false}
use Rattle.std.proofs.Common.{length, get_or, remove, refl, sym, ap, ◌∙◌, subst, nat_lt, if◌then◌else◌, Option, Some}
use Rattle.std.proofs.Common.{None, arith}
use Rattle.std.specs.List.{list_all, AllWithin}
use Rattle.std.specs.List.Sorted.{IsPartitionedBy}
use Rattle.std.proofs.lemmas.Bool.Decides.{nat_tests}
use Rattle.std.proofs.lemmas.List.{append-nil}
use Rattle.arn_ids.specs.declared.config.Config.{Config}
use Rattle.call_types.specs.declared.answer.Answer.{Answer}
use Rattle.call_types.specs.declared.call.Call.{Call}
use Rattle.call_types.specs.declared.call.Entry.{Entry}
use Rattle.call_model.specs.History.{pending}
use Rattle.call_model.specs.Next.{next}
use Rattle.account_lock.specs.Bells.{of_ticket, other_bells, are_rising, own_bell, bells_after}
use Rattle.account_lock.proofs.Waiting.{and_true, both_true, all_by, all_both, known, not_true, past}

-- a ticket has no bell among these
abbrev pub HasNone : {B : Type 0} → ℕ → List (ℕ × B) → Type 0
HasNone t bells = (of_ticket t bells ≡ []) × (other_bells t bells ≡ bells)

passed : {B : Type 0} (t : ℕ) (bell : ℕ × B) (bells : List (ℕ × B)) (rings : List B) (left : List (ℕ × B)) → (bell.0 == t) ≡ false
    → (of_ticket t bells ≡ rings) × (other_bells t bells ≡ left) → (of_ticket t (bell ∷ bells) ≡ rings) × (other_bells t (bell ∷ bells) ≡ bell ∷ left)
passed t bell bells rings left other h = (
  ap (λ (c : Bool). if c then bell.1 ∷ of_ticket t bells else of_ticket t bells) other ∙ h.0,
  ap (λ (c : Bool). if c then other_bells t bells else bell ∷ other_bells t bells) other ∙ ap (λ bs. bell ∷ bs) h.1,
)

differs : (a t : ℕ) → a ≢ t → (a == t) ≡ false
differs a t other = go (a == t) refl
  where
    go : (b : Bool) → (a == t) ≡ b → b ≡ false
    go true e = let same : a ≡ t = grind (arith, nat_tests) in absurd (other same)
    go false e = refl

lower : (a t : ℕ) → nat_lt a t ≡ true → (a == t) ≡ false
lower a t lt = differs a t (λ e. let l : a < t = grind (arith, nat_tests) in absurd (omega arith))

greater : (a t : ℕ) → nat_lt t a ≡ true → (a == t) ≡ false
greater a t lt = differs a t (λ e. let l : t < a = grind (arith, nat_tests) in absurd (omega arith))

none_above : {B : Type 0} (t : ℕ) (bells : List (ℕ × B)) → list_all (λ bell. nat_lt t bell.0) bells ≡ true → HasNone t bells
none_above t [] w = (refl, refl)
none_above t (bell ∷ bells) w = let s = and_true _ _ w in passed t bell bells [] bells (greater bell.0 t s.0) (none_above t bells s.1)

-- the bell of a ticket, at its place
pub found : {B : Type 0} (t : ℕ) (bells : List (ℕ × B)) (i : ℕ) (bell seen : ℕ × B) → i < length bells
    → bell ≡ get_or bells i bell → seen ≡ get_or bells i seen → seen.0 ≡ t
    → AllWithin (λ b. nat_lt b.0 t ≡ true) bells 0 i → are_rising bells ≡ true → (of_ticket t bells ≡ bell.1 ∷ []) × (other_bells t bells ≡ remove bells i)
found t [] i bell seen lt is so e below r = absurd (omega arith)
found {B = B} t (x ∷ bells) zero bell seen lt is so e below r =
    let s = and_true _ _ r in
    let at : x.0 ≡ t = sym (ap (λ (b : ℕ × B). b.0) so) ∙ e in
    let rest = none_above t bells (subst (λ n. list_all (λ other. nat_lt n other.0) bells ≡ true) at s.0) in
    let same : (x.0 == t) ≡ true = grind (arith, nat_tests, at) in (
      ap (λ (c : Bool). if c then x.1 ∷ of_ticket t bells else of_ticket t bells) same ∙ ap (λ rs. x.1 ∷ rs) rest.0 ∙ ap (λ (b : ℕ × B). b.1 ∷ []) (sym is),
      ap (λ (c : Bool). if c then other_bells t bells else x ∷ other_bells t bells) same ∙ rest.1,
    )
found t (x ∷ bells) (suc i) bell seen lt is so e below r =
    passed t x bells (bell.1 ∷ []) (remove bells i) (lower x.0 t (below 0 x (omega arith) (omega arith)))
    (found t bells i bell seen (omega arith) is so e (λ k d from to. below (suc k) d (omega arith) (omega arith)) (and_true _ _ r).1)

-- no bell of a ticket, where none stands at its place
pub absent : {B : Type 0} (t : ℕ) (bells : List (ℕ × B)) (i : ℕ) → AllWithin (λ b. nat_lt b.0 t ≡ true) bells 0 i
    → AllWithin (λ b. nat_lt b.0 t ≡ false) bells i (length bells)
    → are_rising bells ≡ true → (i < length bells → (seen : ℕ × B) × (seen ≡ get_or bells i seen) × (seen.0 ≢ t)) → HasNone t bells
absent t [] i below above r other = (refl, refl)
absent {B = B} t (x ∷ bells) zero below above r other =
    let s : (list_all (λ b. nat_lt x.0 b.0) bells ≡ true) × (are_rising bells ≡ true) = and_true _ _ r in
    let seen = other (omega arith) in
    let away : x.0 ≢ t = λ e. seen.2 (ap (λ (b : ℕ × B). b.0) seen.1 ∙ e) in
    let from = above 0 x (omega arith) (omega arith) in
    let behind : nat_lt t x.0 ≡ true = grind (arith, nat_tests) in
    none_above t (x ∷ bells) (both_true _ _ behind (all_by (λ b. nat_lt x.0 b.0) (λ b. nat_lt t b.0) bells (λ b v. further x.0 b.0 behind v) s.0))
  where
    further : (a b : ℕ) → nat_lt t a ≡ true → nat_lt a b ≡ true → nat_lt t b ≡ true
    further a b p q = grind (arith, nat_tests)
absent t (x ∷ bells) (suc i) below above r other =
    passed t x bells [] bells (lower x.0 t (below 0 x (omega arith) (omega arith)))
    (absent t bells i (λ k d from to. below (suc k) d (omega arith) (omega arith)) (λ k d from to. above (suc k) d (omega arith) (omega arith)) (and_true _ _ r).1 (λ lt. other (omega arith)))

others : {B : Type 0} (p : ℕ × B → Bool) (t : ℕ) (bells : List (ℕ × B)) → list_all p bells ≡ true → list_all p (other_bells t bells) ≡ true
others p t [] w = refl
others p t (x ∷ bells) w = let s = and_true _ _ w in go (x.0 == t) s.0 (others p t bells s.1)
  where
    go : (b : Bool) → p x ≡ true → list_all p (other_bells t bells) ≡ true → list_all p (if b then other_bells t bells else x ∷ other_bells t bells) ≡ true
    go true v k = k
    go false v k = both_true _ _ v k

pub others_rise : {B : Type 0} (t : ℕ) (bells : List (ℕ × B)) → are_rising bells ≡ true → are_rising (other_bells t bells) ≡ true
others_rise t [] r = refl
others_rise t (x ∷ bells) r = let s = and_true _ _ r in go (x.0 == t) (others (λ b. nat_lt x.0 b.0) t bells s.0) (others_rise t bells s.1)
  where
    go : (b : Bool) → list_all (λ b. nat_lt x.0 b.0) (other_bells t bells) ≡ true
        → are_rising (other_bells t bells) ≡ true
        → are_rising (if b then other_bells t bells else x ∷ other_bells t bells) ≡ true
    go true v k = k
    go false v k = both_true _ _ v k

-- what answers leave of bells in rising order is in that order
pub after_rise : {B : Type 0} (answers : List (ℕ × Answer)) (bells : List (ℕ × B)) → are_rising bells ≡ true → are_rising (bells_after answers bells) ≡ true
after_rise [] bells r = r
after_rise (a ∷ answers) bells r = after_rise answers (other_bells a.0 bells) (others_rise a.0 bells r)

-- the bell of a ticket behind all others
pub own_rise : {B : Type 0} (bells : List (ℕ × B)) (t : ℕ) (bell : Option B) → are_rising bells ≡ true
    → list_all (λ b. nat_lt b.0 t) bells ≡ true → are_rising (bells ++ own_bell t bell) ≡ true
own_rise bells t None r w = ap are_rising (append-nil bells) ∙ r
own_rise [] t (Some bell) r w = refl
own_rise (x ∷ bells) t (Some bell) r w =
    let s = and_true _ _ r in
    let v = and_true _ _ w in
    both_true _ _ (all_both (λ b. nat_lt x.0 b.0) bells (own_bell t (Some bell)) s.0 (both_true _ _ v.0 refl)) (own_rise bells t (Some bell) s.1 v.1)

-- the bell that a call brings stands behind those of the tickets that waited before
pub with_own : {B : Type 0} (config : Config) (h : List Entry) (now : ℕ) (call : Call) (t : ℕ) (bells : List (ℕ × B)) (bell : Option B)
    → t + 1 ≡ length (next config h now call) → list_all (λ b. pending h b.0) bells ≡ true → are_rising bells ≡ true
    → are_rising (bells ++ own_bell t bell) ≡ true
unfolding next
with_own config h now call t bells bell last w r =
    let behind = past config h now call t last in
    own_rise bells t bell r (all_by (λ b. pending h b.0) (λ b. nat_lt b.0 t) bells (λ b v. before b.0 behind v) w)
  where
    before : (s : ℕ) → length h ≤ t → pending h s ≡ true → nat_lt s t ≡ true
    before s behind v = let lt = known h s (not_true _ (and_true _ _ v).0) in grind (arith, nat_tests)

each : {X : Type 0} (p : X → Bool) (xs : List X) (i : ℕ) (d : X) → list_all p xs ≡ true → i < length xs → p (get_or xs i d) ≡ true
each p [] i d w lt = absurd (omega arith)
each p (x ∷ xs) zero d w lt = (and_true _ _ w).0
each p (x ∷ xs) (suc i) d w lt = each p xs i d (and_true _ _ w).1 (omega arith)

-- the bells of lower tickets stand before the others
pub parted : {B : Type 0} (t : ℕ) (bells : List (ℕ × B)) → are_rising bells ≡ true → IsPartitionedBy (λ b. nat_lt b.0 t) bells
parted t [] r i j d le lt e = absurd (omega arith)
parted t (x ∷ bells) r zero zero d le lt e = e
parted t (x ∷ bells) r zero (suc j) d le lt e = let first = each (λ b. nat_lt x.0 b.0) bells j d (and_true _ _ r).0 (omega arith) in grind (arith, nat_tests)
parted t (x ∷ bells) r (suc i) zero d le lt e = absurd (omega arith)
parted t (x ∷ bells) r (suc i) (suc j) d le lt e = parted t bells (and_true _ _ r).1 i j d (omega arith) (omega arith) e

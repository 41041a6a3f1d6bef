-- Identifiers that ascend: what stays so when a request comes, is taken or goes.
use Rattle.std.proofs.Common.{◌≡◌, ℕ, ◌+◌, ◌<◌, ◌≤◌, Bool, true, false, List, [], ◌∷◌, ◌++◌, refl}
use Rattle.std.proofs.Common.{arith, cond}
use Rattle.std.specs.BTreeMap.{insert_entry}
use Rattle.std.specs.List.{filter}
use Rattle.std.specs.Map.{remove_entry, keys_of}
use Rattle.std.specs.Ordering.{nat_cmp}
use Rattle.handover.specs.Order.{Ascend}

-- The bounds are in order.
pub ascend_bounds : (low high : ℕ) (ids : List ℕ) → Ascend low ids high → low ≤ high
ascend_bounds low high [] h = h
ascend_bounds low high (id ∷ ids) h = omega (arith, h.0, ascend_bounds (id + 1) high ids h.1)

-- The bounds may be further apart.
pub ascend_wider : (low high low' high' : ℕ) (ids : List ℕ) → low' ≤ low → high ≤ high' → Ascend low ids high → Ascend low' ids high'
ascend_wider low high low' high' [] l h a = omega arith
ascend_wider low high low' high' (id ∷ ids) l h a =
    (omega (arith, a.0), ascend_wider (id + 1) high (id + 1) high' ids (omega arith) h a.1)

-- What ascends below a number, and what ascends from it on, ascend together.
pub ascend_joined : (low mid high : ℕ) (xs ys : List ℕ) → Ascend low xs mid → Ascend mid ys high → Ascend low (xs ++ ys) high
ascend_joined low mid high [] ys a b = ascend_wider mid high low high ys a (omega arith) b
ascend_joined low mid high (x ∷ xs) ys a b = (a.0, ascend_joined (x + 1) mid high xs ys a.1 b)

-- Where two lists that ascend together meet.
pub ascend_parted : (low high : ℕ) (xs ys : List ℕ) → Ascend low (xs ++ ys) high
    → (mid : ℕ) × Ascend low xs mid × Ascend mid ys high
ascend_parted low high [] ys a = (low, omega arith, a)
ascend_parted low high (x ∷ xs) ys a =
    let rest = ascend_parted (x + 1) high xs ys a.1 in (rest.0, (a.0, rest.1), rest.2)

-- An identifier above all others is put behind them.
pub insert_last : {X : Type 0} (low k : ℕ) (es : List (ℕ × X)) (v : X) → Ascend low (keys_of es) k
    → insert_entry nat_cmp es k v ≡ es ++ (k, v) ∷ []
insert_last low k [] v a = refl
insert_last low k (e ∷ es) v a =
    let above : e.0 < k = omega (arith, ascend_bounds (e.0 + 1) k (keys_of es) a.1) in
    let more : insert_entry nat_cmp es k v ≡ es ++ (k, v) ∷ [] = insert_last (e.0 + 1) k es v a.1 in
    grind (arith, above, more)

-- Without one of them.
pub ascend_removed : {X : Type 0} (test : ℕ → Bool) (low high : ℕ) (es : List (ℕ × X)) → Ascend low (keys_of es) high
    → Ascend low (keys_of (remove_entry test es)) high
ascend_removed test low high [] a = a
ascend_removed test low high (e ∷ es) a =
    elim (test e.0) as (λ b. Ascend low (keys_of (cond b es (e ∷ remove_entry test es))) high) [
      | true ↦ ascend_wider (e.0 + 1) high low high (keys_of es) (omega (arith, a.0)) (omega arith) a.1
      | false ↦ (a.0, ascend_removed test (e.0 + 1) high es a.1)
    ]

-- Without those that fail a test.
pub ascend_filtered : {X : Type 0} (test : ℕ × X → Bool) (low high : ℕ) (es : List (ℕ × X)) → Ascend low (keys_of es) high
    → Ascend low (keys_of (filter test es)) high
ascend_filtered test low high [] a = a
ascend_filtered test low high (e ∷ es) a =
    elim (test e) as (λ b. Ascend low (keys_of (cond b (e ∷ filter test es) (filter test es))) high) [
      | true ↦ (a.0, ascend_filtered test (e.0 + 1) high es a.1)
      | false ↦ ascend_wider (e.0 + 1) high low high (keys_of (filter test es)) (omega (arith, a.0)) (omega arith) (ascend_filtered test (e.0 + 1) high es a.1)
    ]

-- How often an identifier is in a list, after each change of the list.
use Rattle.std.proofs.Common.{Some, ◌≡◌, ℕ, ◌+◌, ◌==◌, ◌≤◌, Bool, true, false, cond, not, is_some, List, [], ◌∷◌, ◌++◌, map, refl, ◌∙◌, ap, arith}
use Rattle.std.proofs.lemmas.List.{map-append}
use Rattle.std.proofs.lemmas.List.Sums.{sum_by-cons, sum_by-append}
use Rattle.std.specs.BTreeMap.{is_at}
use Rattle.std.specs.List.{filter}
use Rattle.std.specs.Map.{lookup, remove_entry, keys_of}
use Rattle.std.specs.Ordering.{nat_cmp}
use Rattle.handover.specs.Runs.{End, times, times_given, ended_if}

abbrev pub one_if : ℕ → ℕ → ℕ
one_if id other = cond (other == id) 1 0

pub times_cons : (id x : ℕ) (xs : List ℕ) → times id (x ∷ xs) ≡ one_if id x + times id xs
times_cons id x xs = sum_by-cons (one_if id) x xs

pub times_append : (id : ℕ) (xs ys : List ℕ) → times id (xs ++ ys) ≡ times id xs + times id ys
times_append id xs ys = sum_by-append (one_if id) xs ys

pub times_one : (id x : ℕ) → times id (x ∷ []) ≡ one_if id x
times_one id x = times_cons id x [] ∙ omega arith

pub keys_append : {X : Type 0} (id : ℕ) (xs ys : List (ℕ × X))
    → times id (keys_of (xs ++ ys)) ≡ times id (keys_of xs) + times id (keys_of ys)
keys_append {X} id xs ys = rw (map-append (λ (e : ℕ × X). e.0) xs ys) (times_append id (keys_of xs) (keys_of ys))

-- The number to which a query compares as equal is the one that was asked for.
pub is_same : (id k : ℕ) → is_at (nat_cmp id) k ≡ (k == id)
is_same id k = grind arith

-- One more identifier is given.
pub given_more : (id next : ℕ) → times_given id (next + 1) ≡ times_given id next + one_if id next
given_more id next = grind arith

module _ {X : Type 0} (id other : ℕ) (end : End) where
  by_head : (b : Bool) (k : ℕ) (v : X) (es : List (ℕ × X)) → b ≡ (k == other)
      → times id (keys_of (remove_entry (is_at (nat_cmp other)) es)) + times id (keys_of (ended_if (is_some (lookup (is_at (nat_cmp other)) es)) other end)) ≡ times id (keys_of es)
      → times id (keys_of (cond b es ((k, v) ∷ remove_entry (is_at (nat_cmp other)) es)))
      + times id (keys_of (ended_if (is_some (cond b (Some v) (lookup (is_at (nat_cmp other)) es))) other end))
      ≡ times id (k ∷ keys_of es)
  by_head true k v es is rest =
      let same : k ≡ other = grind (arith, is) in
      rw (times_cons id k (keys_of es), same, times_one id other) (omega arith)
  by_head false k v es is rest =
      rw (times_cons id k (keys_of es), times_cons id k (keys_of (remove_entry (is_at (nat_cmp other)) es))) (omega (arith, rest))

  -- What is removed is no longer in the list.
  pub times_removed : (es : List (ℕ × X))
      → times id (keys_of (remove_entry (is_at (nat_cmp other)) es)) + times id (keys_of (ended_if (is_some (lookup (is_at (nat_cmp other)) es)) other end)) ≡ times id (keys_of es)
  times_removed [] = refl
  times_removed (e ∷ es) = by_head (is_at (nat_cmp other) e.0) e.0 e.1 es (is_same other e.0) (times_removed es)

module _ {X : Type 0} (id : ℕ) (test : ℕ × X → Bool) where
  by_test : (b : Bool) (k : ℕ) (v : X) (es : List (ℕ × X))
      → times id (keys_of (filter (λ e. not (test e)) es)) + times id (keys_of (filter test es)) ≡ times id (keys_of es)
      → times id (keys_of (cond (not b) ((k, v) ∷ filter (λ e. not (test e)) es) (filter (λ e. not (test e)) es)))
      + times id (keys_of (cond b ((k, v) ∷ filter test es) (filter test es)))
      ≡ times id (k ∷ keys_of es)
  by_test true k v es rest = rw (times_cons id k (keys_of es), times_cons id k (keys_of (filter test es))) (omega (arith, rest))
  by_test false k v es rest = rw (times_cons id k (keys_of es), times_cons id k (keys_of (filter (λ e. not (test e)) es))) (omega (arith, rest))

  -- What passes a test, and what does not, are together what there is.
  pub times_filtered : (es : List (ℕ × X))
      → times id (keys_of (filter (λ e. not (test e)) es)) + times id (keys_of (filter test es)) ≡ times id (keys_of es)
  times_filtered [] = refl
  times_filtered (e ∷ es) = by_test (test e) e.0 e.1 es (times_filtered es)

-- The identifiers of those that end in the same way.
pub keys_of_ends : (end : End) (ids : List ℕ) → keys_of (map (λ id. (id, end)) ids) ≡ ids
keys_of_ends end [] = refl
keys_of_ends end (id ∷ ids) = ap (λ (rest : List ℕ). id ∷ rest) (keys_of_ends end ids)

-- At first none is given.
pub none_given : (id : ℕ) → times_given id 0 ≡ 0
none_given id = grind arith

pub given_once : (id next : ℕ) → times_given id next ≤ 1
given_once id next = grind arith

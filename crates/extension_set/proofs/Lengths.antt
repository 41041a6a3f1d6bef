-- How many answers there are after some were given, and how many of them are events.
use Rattle.std.proofs.Common.{◌≡◌, ℕ, suc, ◌+◌, ◌≤◌, length, List, [], ◌∷◌, Option, Some, None, ltb, Bool, true, false, arith, refl, ap, if◌then◌else◌}
use Rattle.call_types.specs.declared.answer.Answer.{Answer}
use Rattle.call_model.specs.Generation.{Member}
use Rattle.call_model.specs.Life.{is_event}
use Rattle.environment_step.specs.After.{put, give, give_each, numbered_from, events_of}

pub put_length : (a : ℕ × Answer) (moves : List (ℕ × Answer)) → length (put a moves) ≡ suc (length moves)
put_length a [] = refl
put_length a (b ∷ rest) = go (ltb a.0 b.0) (put_length a rest) (put_length b rest)
  where
    go : (c : Bool) → length (put a rest) ≡ suc (length rest) → length (put b rest) ≡ suc (length rest)
        → length (if c then a ∷ put b rest else b ∷ put a rest) ≡ suc (suc (length rest))
    go true e f = ap suc f
    go false e f = ap suc e

pub give_length : (t : Option ℕ) (a : Option Answer) (moves : List (ℕ × Answer)) → length (give t a moves) ≤ suc (length moves)
give_length (Some t) (Some a) moves = omega (arith, put_length (t, a) moves)
give_length None a moves = omega arith
give_length (Some t) None moves = omega arith

pub each_length : (f : Member → Option Answer) (xs : List Member) (moves : List (ℕ × Answer)) → length (give_each f xs moves) ≤ length xs + length moves
each_length f [] moves = omega arith
each_length f (x ∷ xs) moves = omega (arith, give_length x.next (f x) (give_each f xs moves), each_length f xs moves)

pub numbered_length : (n : ℕ) (moves : List (ℕ × Answer)) → length (numbered_from n moves) ≡ length moves
numbered_length n [] = refl
numbered_length n (a ∷ rest) = ap suc (numbered_length (if is_event a.1 then suc n else n) rest)

pub events_few : (moves : List (ℕ × Answer)) → events_of moves ≤ length moves
events_few [] = omega arith
events_few (a ∷ rest) = one_more (is_event a.1) (events_of rest) (length rest) (events_few rest)
  where
    one_more : (b : Bool) (m n : ℕ) → m ≤ n → (if b then 1 else 0) + m ≤ suc n
    one_more true m n le = omega (arith, le)
    one_more false m n le = omega (arith, le)

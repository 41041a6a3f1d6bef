-- How many answers a step gives.
use Rattle.std.proofs.Common.{◌≡◌, ◌+◌, List, [], ◌∷◌, ◌++◌, length, reverse, ap, arith, length-append}
use Rattle.std.proofs.lemmas.List.{reverse-append}
use Rattle.call_types.specs.declared.call.Entry.{Entry}
use Rattle.account_book.specs.Answering.{answers_in}
use Rattle.account_lock.specs.Bells.{given, answers_of}

answers_append : (xs ys : List Entry) → length (answers_of (xs ++ ys)) ≡ length (answers_of xs) + length (answers_of ys)
answers_append [] ys = omega arith
answers_append (x ∷ xs) ys = omega (arith, length-append x.answers (answers_of (xs ++ ys)), length-append x.answers (answers_of xs), answers_append xs ys)

pub given_length : (entries : List Entry) → length (given entries) ≡ answers_in entries
given_length [] = omega arith
given_length (entry ∷ entries) =
    omega
    (arith, ap (λ (es : List Entry). length (answers_of es)) (reverse-append (entry ∷ []) entries), answers_append (reverse entries) (entry ∷ []), length-append entry.answers [], given_length entries)

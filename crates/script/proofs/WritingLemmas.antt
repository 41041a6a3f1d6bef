-- What stands before stays in front of what is added.
use Rattle.std.proofs.Common.{◌≡◌, ℕ, List, [], ◌∷◌, ◌++◌, length, take, drop, Result, Ok, Err, refl, sym, ap, ◌∙◌, append_assoc}
use Rattle.std.specs.Result.{IsErrAnd}
use Rattle.script.specs.Writing.{Adds, spaced}
use Rattle.script.proofs.Fronts.{added, onward}
use Rattle.std.proofs.lemmas.List.{append-nil}

-- what stood before a text that was added stays in front
pub kept_in_front : (front old mid new : List ℕ) → mid ≡ old ++ front → take (length mid) new ≡ mid → take (length old) new ≡ old
kept_in_front front old mid new e stays = onward old mid new (added old front mid e) stays

-- what fails behind a text that was added
pub fails_after : {T E : Type 0} → (Q : E → Type 0) (r : Result T E) (text front old mid new : List ℕ) → IsErrAnd r Q
    → mid ≡ old ++ front → take (length mid) new ≡ mid → Adds r text old new
fails_after Q (Ok x) text front old mid new failed e stays = absurd failed
fails_after Q (Err x) text front old mid new failed e stays = kept_in_front front old mid new e stays

-- what is added behind a text that was added
pub adds_after : {T E : Type 0} (r : Result T E) (front text old mid new : List ℕ) → mid ≡ old ++ front → Adds r text mid new → Adds r (front ++ text) old new
adds_after (Ok x) front text old mid new e added = rw (added, e) (append_assoc old front text)
adds_after (Err x) front text old mid new e added = kept_in_front front old mid new e added

-- one word, behind a space
pub adds_one : {T E : Type 0} → (r : Result T E) (a old new : List ℕ) → Adds r (32 ∷ a) old new → Adds r (spaced (a ∷ [])) old new
adds_one r a old new added = rw append-nil added

-- two words, each behind a space
pub adds_two : {T E : Type 0} → (r : Result T E) (a b old mid new : List ℕ) → mid ≡ old ++ 32 ∷ a
    → Adds r (32 ∷ b) mid new → Adds r (spaced (a ∷ b ∷ [])) old new
adds_two r a b old mid new e added = rw append-nil (adds_after r (32 ∷ a) (32 ∷ b) old mid new e added)

-- the first of some words, and the others
pub first_and_others : (words : List (List ℕ)) (first : List ℕ) → take 1 words ≡ first ∷ [] → 32 ∷ first ++ spaced (drop 1 words) ≡ spaced words
first_and_others [] first e = cc
first_and_others (word ∷ words) first e = let same : first ≡ word = cc in rw same refl

-- a mark, two numbers, words and the end of the line
pub marked_whole : (mark number ticket words end : List ℕ)
    → (mark ++ (number ++ 32 ∷ ticket)) ++ (words ++ end) ≡ mark ++ ((number ++ (32 ∷ ticket ++ words)) ++ end)
marked_whole mark number ticket words end =
    append_assoc mark (number ++ 32 ∷ ticket) (words ++ end)
    ∙ ap (λ line. mark ++ line)
    (append_assoc number (32 ∷ ticket) (words ++ end) ∙ ap (λ rest. number ++ rest) (sym (append_assoc (32 ∷ ticket) words end)) ∙ sym (append_assoc number (32 ∷ ticket ++ words) end))

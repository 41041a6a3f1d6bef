-- What is read of a body, one frame more at a time.
use Rattle.std.proofs.Common.{◌≡◌, ◌≤◌, ◌-◌, ℕ, List, [], ◌∷◌, ◌++◌, length, take, Some, None, Result, Ok, Err}
use Rattle.std.proofs.Common.{MatchResult, refl, sym, ap, ◌∙◌, inl, inr, append_assoc, append-nil, arith, zero, suc}
use Rattle.std.proofs.lemmas.List.{take_all}
use Rattle.bytes.proofs.Ranges.{take-append_past}
use Rattle.futures.specs.Runs.{Runs, After, Within}
use Rattle.futures.proofs.RunLemmas.{Begins-Within}
use Rattle.http_body.specs.declared.frame.Frame.{Frame}
use Rattle.long_poll.specs.Bodies.{most_bytes, IsDataOf, Collects}
use Rattle.long_poll.specs.declared.exchange.fault.ExchangeFault.{ExchangeFault}
use Rattle.long_poll.specs.declared.exchange.fault.ExchangeFault.TheVariants.{BodyFailed, OutOfMemory, BellLost}

-- the first of two lists is taken whole, and then what is left of the number
pub taken_behind : (n : ℕ) (xs ys : List ℕ) → length xs ≤ n → take n (xs ++ ys) ≡ xs ++ take (n - length xs) ys
taken_behind n xs ys few = take-append_past xs ys (n - length xs) n (omega arith)

-- what was taken once is taken again
take_again : (n : ℕ) (xs ys : List ℕ) → take n (take n xs ++ ys) ≡ take n (xs ++ ys)
take_again zero xs ys = refl
take_again (suc n) [] ys = refl
take_again (suc n) (x ∷ xs) ys = ap (λ (t : List ℕ). x ∷ t) (take_again n xs ys)

-- the same with more behind it
take_more : (n : ℕ) (held bytes rest next read : List ℕ) → next ≡ take n (held ++ bytes) → read ≡ take n (next ++ rest)
    → read ≡ take n (held ++ (bytes ++ rest))
take_more n held bytes rest next read is was =
    was ∙ ap (λ (t : List ℕ). take n (t ++ rest)) is ∙ take_again n (held ++ bytes) rest ∙ ap (take n) (append_assoc held bytes rest)

module _ {D E : Type 0} (reads : D → List ℕ → Type 0) (old : Runs (Result (Frame D) E)) where
  -- what comes of a later body may come of this one
  pub collects_within : (new : Runs (Result (Frame D) E)) (held : List ℕ) → Within old new
      → (r : Result (List ℕ) ExchangeFault) → Collects reads new held r → Collects reads old held r
  collects_within new held within (Ok read) h = record {
    frames = h.frames;
    bytes = h.bytes;
    are = h.are;
    first = h.first;
    came = elim h.came [ inl k ↦ inl (within _ _ k) | inr k ↦ inr (k.0, Begins-Within old new _ within k.1) ];
  }
  collects_within new held within (Err BodyFailed) h = record { frames = h.frames; error = h.error; came = within _ _ h.came }
  collects_within new held within (Err OutOfMemory) h = tt
  collects_within new held within (Err BellLost) h = h

  -- the body failed
  pub collects_failure : (held : List ℕ) (e : E) → old [] (Some (Err e)) → Collects reads old held (Err BodyFailed)
  collects_failure held e came = record { frames = []; error = e; came = came }

  -- the body ended
  pub collects_end : (held : List ℕ) → length held ≤ most_bytes → old [] None → Collects reads old held (Ok held)
  collects_end held few came = record {
    frames = [];
    bytes = [];
    are = refl;
    first = sym (ap (take most_bytes) (append-nil held) ∙ take_all most_bytes held few);
    came = inl came;
  }

  -- what was collected is given, where there is memory for it
  pub collects_taken : (held read : List ℕ) → Collects reads old held (Ok read)
      → (r : Result (List ℕ) ExchangeFault) → MatchResult r (λ bytes. bytes ≡ read) (λ fault. fault ≡ OutOfMemory)
      → Collects reads old held r
  collects_taken held read h (Ok bytes) is = rw is h
  collects_taken held read h (Err fault) is = rw is tt

  -- a frame came, and it has all that is wanted
  pub collects_full : (held next bytes : List ℕ) (frame : Frame D) → old [] (Some (Ok frame)) → IsDataOf reads frame bytes
      → next ≡ take most_bytes (held ++ bytes) → length next ≡ most_bytes → Collects reads old held (Ok next)
  collects_full held next bytes frame came are is full = record {
    frames = frame ∷ [];
    bytes = bytes ++ [];
    are = (bytes, [], refl, are, refl);
    first = is ∙ ap (λ (t : List ℕ). take most_bytes (held ++ t)) (sym (append-nil bytes));
    came = inr (full, (came, tt));
  }

  -- a frame came, and others after it
  pub collects_frame : (new : Runs (Result (Frame D) E)) (held next bytes : List ℕ) (frame : Frame D) → After old (Ok frame) new
      → old [] (Some (Ok frame)) → IsDataOf reads frame bytes → next ≡ take most_bytes (held ++ bytes)
      → (r : Result (List ℕ) ExchangeFault) → Collects reads new next r → Collects reads old held r
  collects_frame new held next bytes frame after came are is (Ok read) h = record {
    frames = frame ∷ h.frames;
    bytes = bytes ++ h.bytes;
    are = (bytes, h.bytes, refl, are, h.are);
    first = take_more most_bytes held bytes h.bytes next read is h.first;
    came = elim h.came [ inl k ↦ inl (after _ _ k) | inr k ↦ inr (k.0, (came, Begins-Within (λ ys. old (Ok frame ∷ ys)) new _ after k.1)) ];
  }
  collects_frame new held next bytes frame after came are is (Err BodyFailed) h =
      record { frames = frame ∷ h.frames; error = h.error; came = after _ _ h.came }
  collects_frame new held next bytes frame after came are is (Err OutOfMemory) h = tt
  collects_frame new held next bytes frame after came are is (Err BellLost) h = h

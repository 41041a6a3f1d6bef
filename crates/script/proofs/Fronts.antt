-- A text stays in front of what is added to it.
use Rattle.std.proofs.Common.{◌≡◌, ℕ, ◌≤◌, List, ◌++◌, length, take, sym, ap, ◌∙◌, arith}
use Rattle.std.proofs.lemmas.List.{length-take, take-take}
use Rattle.std.proofs.Math.Seq.{take-append_seam, take-length}

-- after one addition
pub added : (old text new : List ℕ) → new ≡ old ++ text → take (length old) new ≡ old
added old text new e = rw e (take-append_seam old text)

-- after none
pub same : (old new : List ℕ) → new ≡ old → take (length old) new ≡ old
same old new e = rw e (take-length old)

-- after two
pub onward : (old mid new : List ℕ) → take (length old) mid ≡ old → take (length mid) new ≡ mid
    → take (length old) new ≡ old
onward old mid new a b =
    let short : length old ≤ length mid = omega (arith, length-take (length old) mid, ap length a) in
    sym (take-take (length old) (length mid) new short) ∙ rw b a

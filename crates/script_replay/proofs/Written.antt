-- What was written, piece by piece.
use Rattle.std.proofs.Common.{◌≡◌, ℕ, List, [], ◌++◌, take, drop, Option, Some, None, refl, sym, ap, ◌∙◌, append_assoc}
use Rattle.std.proofs.lemmas.List.{append-nil, take-append-drop}
use Rattle.std.specs.Io.KnownBytes.{Appends, Keeps}

pub appends_nothing : (old : Option (List ℕ)) → Appends old old []
appends_nothing None = tt
appends_nothing (Some xs) = sym (append-nil xs)

pub appends_kept : (old mid new : Option (List ℕ)) (a : List ℕ) → Appends old mid a → Keeps mid new → Appends old new a
appends_kept None mid new a first kept = tt
appends_kept (Some xs) None new a first kept = absurd first
appends_kept (Some xs) (Some ys) None a first kept = absurd kept
appends_kept (Some xs) (Some ys) (Some zs) a first kept = kept ∙ first

pub appends_more : (old mid new : Option (List ℕ)) (a b : List ℕ) → Appends old mid a → Appends mid new b → Appends old new (a ++ b)
appends_more None mid new a b first second = tt
appends_more (Some xs) None new a b first second = absurd first
appends_more (Some xs) (Some ys) None a b first second = absurd second
appends_more (Some xs) (Some ys) (Some zs) a b first second = rw (second, first, append_assoc) refl

-- the bytes of which the part was written, up to the rest
pub record WroteUpTo (old new : Option (List ℕ)) (bytes rest : List ℕ) : Type 0 where
  pub part : List ℕ
  pub split : bytes ≡ part ++ rest
  pub wrote : Appends old new part

pub wrote_more : (old mid new : Option (List ℕ)) (bytes rest : List ℕ) (n : ℕ) → WroteUpTo old mid bytes rest
    → Appends mid new (take n rest) → WroteUpTo old new bytes (drop n rest)
wrote_more old mid new bytes rest n so_far more = record {
  part = so_far.part ++ take n rest;
  split = so_far.split ∙ rw append_assoc (ap (λ (x : List ℕ). so_far.part ++ x) (sym (take-append-drop n rest)));
  wrote = appends_more old mid new so_far.part (take n rest) so_far.wrote more;
}

pub wrote_kept : (old mid new : Option (List ℕ)) (bytes rest : List ℕ) → WroteUpTo old mid bytes rest → Keeps mid new → WroteUpTo old new bytes rest
wrote_kept old mid new bytes rest so_far kept =
    record { part = so_far.part; split = so_far.split; wrote = appends_kept old mid new so_far.part so_far.wrote kept }

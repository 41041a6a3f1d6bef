-- Where no Busy begins no extension is served.
use Rattle.std.proofs.Common.{◌≡◌, List, [], ◌∷◌, map, None, refl, ap}
use Rattle.call_model.specs.Generation.{Member}
use Rattle.environment_step.specs.After.{member_second}

pub none_served : (xs : List Member) → map (member_second None) xs ≡ xs
none_served [] = refl
none_served (x ∷ xs) = ap (λ ys. x ∷ ys) (none_served xs)

-- The names of the extensions that are registered.
use Rattle.std.specs.List.{list_any}
use Rattle.std.specs.Prelude.{ℕ, Bool, not, List, bytes_eq}
use Rattle.call_model.specs.Generation.{Member}

-- Whether no extension has this name.
abbrev pub lacks : List Member → List ℕ → Bool
lacks xs name = not (list_any (λ x. bytes_eq name x.extension.name) xs)

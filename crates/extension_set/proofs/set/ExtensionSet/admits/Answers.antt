use Rattle.std.proofs.Common.{◌≡◌, ℕ, ◌<◌, Bool, true, false, not, List, length, Ok, bytes_eq, refl, sym, arith}
use Rattle.std.specs.List.{list_any}
use Rattle.std.proofs.lemmas.Bool.{lt-leb}
use Rattle.std.proofs.lemmas.List.{length-reverse}
use Rattle.call_model.specs.Generation.{Member}
use Rattle.extension_set.specs.Names.{lacks}
use Rattle.extension_set.specs.Registering.{admits}
use Rattle.extension_set.proofs.set.ExtensionSet.admits.Goals as goal

admitted : (xs : List Member) (name : List ℕ) → lacks xs name ≡ true → length xs < 10 → Ok tt ≡ admits xs name
admitted xs name free few = rw (unused (list_any (λ x. bytes_eq name x.extension.name) xs) free, lt-leb 10 (length xs) few) refl
  where
    unused : (b : Bool) → not b ≡ true → b ≡ false
    unused true e = cc
    unused false e = refl

pub returns-else-len-ge-MOST_EXTENSIONS : goal.returns-else-len-ge-MOST_EXTENSIONS
returns-else-len-ge-MOST_EXTENSIONS c =
    let few : length c.args.self.now < 10 = rw (← c.self.view_is, length-reverse) (omega arith) in
    admitted c.args.self.now c.args.name.now (sym c.if-not-lacks.ensures) few

use Rattle.std.proofs.Common.{◌≡◌, ◌∙◌, length, List, sym, ap}
use Rattle.std.proofs.Math.Seq.{take-length}
use Rattle.arn_ids.specs.Faults.{first_fault}
use Rattle.arn_ids.specs.Places.{with_first}
use Rattle.arn_ids.specs.declared.config.Config.{Config}
use Rattle.arn_ids.specs.declared.config.Function.{Function}
use Rattle.arn_ids.proofs.search.place_in.Goals as goal

-- all functions are the configuration's
all_of_them : (config : Config) → with_first (length config.functions) config ≡ config
all_of_them config = ap (λ (functions : List Function). let same : Config = record config { functions = functions } in same) (take-length config.functions)

pub returns : goal.returns
returns c = record {
  first = sym (ap first_fault (all_of_them c.args.config.now)) ∙ sym (rw c.as_slice.ensures at c.fault_of_first.ensures) ∙ c.in_ok-fault.was;
  comes = c.comes_in_with.ensures;
}

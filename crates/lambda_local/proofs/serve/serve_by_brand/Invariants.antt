use Rattle.std.specs.Arc.{arc_value}
use Rattle.lambda_local.proofs.serve.serve_by_brand.Given as goal

-- configuration, salt and limit are the plan's, and the ledgers are those of the blanks
abbrev pub ghosts-serve_plan-S-Identity : goal.ghosts-serve_plan-S-Identity
ghosts-serve_plan-S-Identity g a =
    record { config = arc_value a.plan.config; salt = a.plan.salt; most = a.plan.max_entries }

abbrev pub ghosts-serve_plan-S-Ledgers : goal.ghosts-serve_plan-S-Ledgers
ghosts-serve_plan-S-Ledgers g a = record { names = a.blanks }

use Rattle.std.proofs.Common.{rules}
use Rattle.lambda_wire.proofs.MembersLemmas.{has_only_keys, has_only_object}
use Rattle.lambda_wire.specs.Configuration.{is_function_member}
use Rattle.lambda_wire.proofs.config_reader.has_function_members.Goals as goal

pub returns-in-Some : goal.returns-in-Some
returns-in-Some c =
    rw (has_only_object is_function_member _ _ c.in-Some.ensures, has_only_keys is_function_member c.in-Some.members.now.entries) (search rules)

use Rattle.std.proofs.lemmas.List.Sums.{AllPass-from_list_all}
use Rattle.http_header.specs.Token.{is_value_byte}
use Rattle.http_routes.proofs.refusals.refused_by_api.Goals as goal

pub invoke_fault_reply-requires : goal.invoke_fault_reply-requires
invoke_fault_reply-requires c = record { kind = AllPass-from_list_all is_value_byte c.args.kind.now c.requires }

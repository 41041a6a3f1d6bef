use Rattle.std.proofs.Common.{◌≡◌, sym, true, false}
use Rattle.http_routes.proofs.PathLemmas.{none_unless}
use Rattle.http_routes.proofs.identifiers.uuid_in.Goals as goal

pub returns-in-Err : goal.returns-in-Err
returns-in-Err c = sym (none_unless _ (λ u. let h : false ≡ true = c.in-Err.ensures.ok.1 u in cc))

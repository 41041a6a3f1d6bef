use Rattle.std.proofs.Common.{◌≡◌, true, false, refl}
use Rattle.http_routes.proofs.HeadLemmas.{visible_there, hidden}
use Rattle.http_routes.proofs.heads.header_text.Goals as goal

pub returns-in-Ok : goal.returns-in-Ok
returns-in-Ok c = rw (← c.in-Some.ensures.value, visible_there c.in-Some.value.now.bytes (c.in-Ok.ensures.succeeds.0 refl), c.in-Ok.ensures.ok) refl

pub returns-in-Err : goal.returns-in-Err
returns-in-Err c =
    rw (← c.in-Some.ensures.value, hidden c.in-Some.value.now.bytes (λ h. let k : false ≡ true = c.in-Err.ensures.succeeds.1 h in cc)) refl

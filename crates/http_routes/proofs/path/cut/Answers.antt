use Rattle.std.proofs.Common.{◌≡◌, ◌==◌, arith, lit<, false}
use Rattle.std.proofs.lemmas.List.Splits.{slice_split_first, slice_split_none}
use Rattle.std.proofs.lemmas.List.Elements.{All-from_get_or}
use Rattle.std.proofs.lemmas.List.Sums.{fails_before_first}
use Rattle.http_routes.proofs.path.cut.Goals as goal

pub returns-in-Some : goal.returns-in-Some
returns-in-Some c =
    let at = c.in-Some.ensures.byte (lit< tt) (λ w o h. h) in
    rw (at.0, at.1) (slice_split_first (λ b. b == 47) c.args.path.now 0 at.2)

pub returns-in-None : goal.returns-in-None
returns-in-None c =
    let at = c.in-None.ensures.byte (lit< tt) (λ w o h. h) in
    slice_split_none (λ b. b == 47) c.args.path.now
    (All-from_get_or (λ x. (x == 47) ≡ false) c.args.path.now 0 (λ i within. fails_before_first (λ b. b == 47) c.args.path.now i 0 (omega (arith, at))))

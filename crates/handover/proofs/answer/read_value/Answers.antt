use Rattle.std.proofs.Common.{Ok, sym, ap}
use Rattle.handover.proofs.Fields.{a_value}
use Rattle.handover.proofs.answer.read_value.Goals as goal

pub returns-in-Ok : goal.returns-in-Ok
returns-in-Ok c =
    let known = a_value c.args.text.now (λ bad. let e = c.in-Ok.ensures.invalid.1 bad in cc) in
    rw known (ap (λ v. Ok v) (sym c.in-Ok.ensures.ok))

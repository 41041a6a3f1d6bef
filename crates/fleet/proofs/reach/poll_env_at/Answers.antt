use Rattle.std.proofs.Common.{◌∙◌, ap, arith}
use Rattle.call_types.specs.declared.call.Entry.{Entry}
use Rattle.call_model.specs.History.{poll_env}
use Rattle.fleet.proofs.Earlier.{near_call}
use Rattle.fleet.proofs.reach.poll_env_at.Goals as goal

pub returns : goal.returns
returns c =
    c.poll_env.ensures
    ∙ ap (λ (x : Entry). poll_env x.call) (c.at.ensures c.at.result.now)
    ∙ near_call c.args.entries.now.0 c.args.own c.args.ticket c.at.result.now c.requires (omega (arith, c.if-ticket-own.false))

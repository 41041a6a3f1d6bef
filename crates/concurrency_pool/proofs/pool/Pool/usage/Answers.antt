use Rattle.std.proofs.Common.{◌∙◌, ◌-◌, sym, ap, get_or}
use Rattle.concurrency_pool.specs.declared.pool.Usage.{Usage}
use Rattle.concurrency_pool.proofs.Numbered.{usage_is_at}
use Rattle.concurrency_pool.proofs.pool.Pool.usage.Goals as goal

pub returns-clause-value : goal.returns-clause-value
returns-clause-value c =
    let found : Usage = c.index.result.now in
    c.index.ensures
    ∙ ap (λ pool. get_or pool.functions (c.args.function - 1) found) c.self.view_is
    ∙ sym (usage_is_at c.args.self.now c.args.function found c.requires.from_one c.requires.there)

-- The environments of an account, with what is kept of their functions.
use Rattle.std.specs.Prelude.{ℕ, List}
use Rattle.concurrency_pool.specs.Numbers.{Numbers}
use Rattle.fleet.specs.declared.site.Site.{Site}

-- The environments in the order of their numbers, the pool (what each function may have and has in flight), and the
-- most extensions that any environment has had at once.
pub record Crew : Type 0 where
  pub sites : List Site
  pub pool : Numbers
  pub widest : ℕ

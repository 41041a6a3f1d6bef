use Rattle.std.proofs.lemmas.Bool.{eq-eqb}
use Rattle.extension_set.proofs.member.Member.replaced.Goals as goal

pub returns-then-self-ext : goal.returns-then-self-ext
returns-then-self-ext c = rw (c.in-ExtNext.is, ← c.self.view_is, eq-eqb _ _ c.if-self-ext.true)

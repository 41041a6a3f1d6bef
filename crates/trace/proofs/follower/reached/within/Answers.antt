use Rattle.trace.proofs.Reaching.{all_kept, none_kept}
use Rattle.trace.proofs.follower.reached.within.Goals as goal

pub returns-in-Nowhere : goal.returns-in-Nowhere
returns-in-Nowhere c = rw c.in-Nowhere.is (none_kept c.args.sites.now)

pub returns-in-Everywhere : goal.returns-in-Everywhere
returns-in-Everywhere c = rw c.in-Everywhere.is (all_kept c.args.sites.now)

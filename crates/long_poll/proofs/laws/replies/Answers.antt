use Rattle.long_poll.proofs.Replying.{replies}
use Rattle.long_poll.proofs.laws.replies.Goals as goal

pub returns : goal.returns
returns g c =
    replies c.args.connection.now g.N.Clock g.S.Identity.config g.S.Identity.most g.S.Identity.salt
    (λ had before now call bell ticket seen then after s. s.0.taken)
    (λ had before now call bell refused then after s. s.2)
    (λ seen ticket reply then r. r)
    c.stands_where_it_was_taken.ensures.there c.stands_where_it_was_taken.ensures.later
    c.stands_where_it_was_taken.ensures.fresh c.stands_where_it_was_taken.ensures.same

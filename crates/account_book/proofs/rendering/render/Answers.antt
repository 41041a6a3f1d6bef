use Rattle.std.proofs.Common.{◌≡◌, ◌<◌, length, reverse, Some, IfOk, sym, subst}
use Rattle.replies.specs.Gists.{IsTraced}
use Rattle.replies.specs.Replies.{reply_of}
use Rattle.account_book.specs.ReplyText.{reply_text}
use Rattle.account_book.proofs.Rendered.{all_traced, answered_here, same_gist}
use Rattle.account_book.proofs.rendering.render.Goals as goal

pub call_at-requires : goal.call_at-requires
call_at-requires c = (answered_here c.args.past.now.config.now c.args.past.now.entries.now.0 c.args.ticket c.args.answer c.requires.legal c.requires.answered).0

pub call_at-requires-2 : goal.call_at-requires-2
call_at-requires-2 c =
    subst (λ s. s < length c.args.past.now.entries.now.0) (sym c.source_of-source.ensures)
    (answered_here c.args.past.now.config.now c.args.past.now.entries.now.0 c.args.ticket c.args.answer c.requires.legal c.requires.answered).1

pub reply-requires : goal.reply-requires
reply-requires c =
    subst IsTraced (sym c.call_at-2.ensures)
    (all_traced c.args.past.now.config.now (reverse c.args.past.now.entries.now.0) c.source_of-source.result c.requires.known)

pub returns : goal.returns
unfolding reply_text
returns c =
    let h = reverse c.args.past.now.entries.now.0 in
    let same = same_gist h c.args.ticket c.source_of-source.result c.args.answer c.call_at.result.now c.call_at-2.result.now c.count.result c.count-2.result
    c.requires.answered c.source_of-source.ensures c.call_at.ensures c.count.ensures c.call_at-2.ensures c.count-2.ensures in
    subst (λ g. IfOk c.reply.result (λ r. Some r ≡ reply_of c.args.past.now.config.now c.args.past.now.salt g)) same c.reply.ensures

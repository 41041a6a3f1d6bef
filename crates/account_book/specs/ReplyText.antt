-- The reply that the client of a call gets.
use Rattle.std.specs.Prelude.{ℕ, List, Option}
use Rattle.arn_ids.specs.declared.config.Config.{Config}
use Rattle.lambda_wire.specs.declared.reply.Reply.{Reply}
use Rattle.call_types.specs.declared.answer.Answer.{Answer}
use Rattle.call_types.specs.declared.call.Entry.{Entry}
use Rattle.call_model.specs.History.{answer_of, call_of, upto}
use Rattle.call_model.specs.Isolation.{Gist, named_in, source_of}
use Rattle.call_model.specs.CallCounts.{request_count}
use Rattle.replies.specs.Replies.{reply_of}

-- The gist of a ticket with this answer, and with the call at the ticket `source` as the call that the answer names.
-- Each count is that of the call's own function.
abbrev pub gist_with : List Entry → ℕ → Option Answer → ℕ → Gist
gist_with h t a source = record {
  answer = a;
  call = call_of h t;
  count = request_count (upto h t) (call_of h t);
  source = call_of h source;
  source_count = request_count (upto h source) (call_of h source);
}

-- The gist of a ticket: all that the reply to the ticket depends on, beside the configuration and the salt.
abbrev pub own_gist : List Entry → ℕ → Gist
own_gist h t = gist_with h t (answer_of h t) (source_of t (named_in (answer_of h t)))

-- The reply to a ticket, if it was answered: a function of the configuration, the salt and the ticket's gist, which is
-- what isolation compares.
unfoldable pub reply_text : Config → ℕ → List Entry → ℕ → Option Reply
reply_text config salt h t = reply_of config salt (own_gist h t)

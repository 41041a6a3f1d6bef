-- The reply to an answer: its status, its headers and its body.
use Rattle.std.specs.Prelude.{ℕ, true, false, Option, option_map}
use Rattle.lambda_wire.specs.declared.reply.Reply.{Reply}
use Rattle.arn_ids.specs.declared.config.Config.{Config}
use Rattle.call_types.specs.declared.answer.Answer.{Answer}
use Rattle.call_types.specs.declared.answer.Answer.TheVariants.{Delivered, Told, Ending, Registered, Accepted, Done}
use Rattle.call_types.specs.declared.answer.Answer.TheVariants.{Output, Error, TimedOut, InitTimedOut, OutputTooLarge}
use Rattle.call_types.specs.declared.answer.Answer.TheVariants.{Throttled, Stopped, Withdrawn, Refused}
use Rattle.call_types.specs.declared.answer.Answer.TheVariants.{Reserved, Unreserved}
use Rattle.call_model.specs.Isolation.{Gist}
use Rattle.replies.specs.Refusals.{refused, withdrawn}
use Rattle.replies.specs.Polls.{delivery, invoke_event, shutdown_event, registration}
use Rattle.replies.specs.Outcomes.{outcome, timed_out, init_timed_out, output_too_large, throttled, request_named}
use Rattle.replies.specs.Outcomes.{stopped, done_with, reserved, unreserved}

-- The reply to an answer, from the calls and the counts that it refers to.
unfoldable pub reply_to : Config → ℕ → Gist → Answer → Reply
reply_to config salt gist (Delivered invoke deadline) = delivery config salt gist deadline
reply_to config salt gist (Told invoke deadline event) = invoke_event config salt gist deadline event
reply_to config salt gist (Ending reason until event) = shutdown_event salt gist reason until event
reply_to config salt gist (Registered count) = registration config salt gist count
reply_to config salt gist Accepted = done_with 202
reply_to config salt gist Done = done_with 200
reply_to config salt gist (Output source) = outcome salt gist false
reply_to config salt gist (Error source) = outcome salt gist true
reply_to config salt gist TimedOut = timed_out config salt gist
reply_to config salt gist InitTimedOut = init_timed_out salt gist
reply_to config salt gist OutputTooLarge = output_too_large salt gist
reply_to config salt gist (Throttled reason) = throttled salt gist reason
reply_to config salt gist Stopped = stopped (request_named salt gist.call gist.count)
reply_to config salt gist Withdrawn = withdrawn
reply_to config salt gist (Refused refusal) = refused refusal
reply_to config salt gist (Reserved count) = reserved count
reply_to config salt gist Unreserved = unreserved

-- The reply that the client of a ticket gets; `None` before there is an answer.
abbrev pub reply_of : Config → ℕ → Gist → Option Reply
reply_of config salt gist = option_map (reply_to config salt gist) gist.answer

-- The replies to runtimes and extensions: deliveries, events and registrations.
use Rattle.std.specs.Prelude.{ℕ}
use Rattle.lambda_wire.specs.Bodies.{invoke_event_text, shutdown_event_text, registered_text}
use Rattle.lambda_wire.specs.Headers.{next_headers, event_headers, registered_headers}
use Rattle.lambda_wire.specs.declared.reply.Reply.{Reply}
use Rattle.arn_ids.specs.declared.config.Config.{Config}
use Rattle.arn_ids.specs.declared.identifiers.IdKind.TheVariants.{Extension, Event}
use Rattle.call_types.specs.declared.answer.Reason.{Reason}
use Rattle.call_model.specs.Isolation.{Gist}
use Rattle.call_types.specs.Calls.{body_of}
use Rattle.call_types.specs.Words.{reason_word}
use Rattle.replies.specs.Words.{request_text, env_text, env_function, arn_text, trace_text, account_text}

-- The reply that delivers an invocation to a runtime: the payload of its Invoke, unchanged (Runtime API, Next
-- invocation).
unfoldable pub delivery : Config → ℕ → Gist → ℕ → Reply
delivery config salt gist deadline = record {
  status = 200;
  headers = next_headers (request_text salt gist.source gist.source_count) deadline
      (arn_text config gist.source) (trace_text gist.source);
  body = body_of gist.source;
}

-- The reply that notifies an extension of an invocation (Extensions API, Next: INVOKE event).
unfoldable pub invoke_event : Config → ℕ → Gist → ℕ → ℕ → Reply
invoke_event config salt gist deadline event = record {
  status = 200;
  headers = event_headers (env_text salt Event gist.call event);
  body = invoke_event_text deadline (arn_text config gist.source)
      (request_text salt gist.source gist.source_count) (trace_text gist.source);
}

-- The reply that notifies an extension of the end of its environment (Extensions API, Next: SHUTDOWN event).
unfoldable pub shutdown_event : ℕ → Gist → Reason → ℕ → ℕ → Reply
shutdown_event salt gist reason until event = record {
  status = 200;
  headers = event_headers (env_text salt Event gist.call event);
  body = shutdown_event_text until (reason_word reason);
}

-- The reply to an extension that is registered (Extensions API, Register).
unfoldable pub registration : Config → ℕ → Gist → ℕ → Reply
registration config salt gist count = record {
  status = 200;
  headers = registered_headers (env_text salt Extension gist.call count);
  body = registered_text (account_text config gist.call)
      (env_function config gist.call).name (env_function config gist.call).handler;
}

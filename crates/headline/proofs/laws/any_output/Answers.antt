use Rattle.std.proofs.Common.{◌<◌, ℕ, All, false, List, [], ◌∷◌, None, refl, arith}
use Rattle.call_types.specs.declared.call.Call.{Call}
use Rattle.call_types.specs.declared.call.Call.TheVariants.{Invoke, Response, RuntimeNext}
use Rattle.call_model.specs.Answers.{answers, first_answers, own_first, first_answer, second_answer, answer_to}
use Rattle.call_model.specs.Generation.{members}
use Rattle.call_model.specs.Life.{seen, after, lived, life}
use Rattle.call_model.specs.Limits.{in_flight, place, reservation, verdict}
use Rattle.call_model.specs.Next.{added, due, next}
use Rattle.call_model.specs.Sample.{invoke, one}
use Rattle.call_model.specs.Stand.{role}
use Rattle.call_model.specs.Table.{own_answer, closes, kept, to_waiting}
use Rattle.account_book.specs.Reached.{AreTaken, led_to}
use Rattle.account_book.specs.ReplyText.{reply_text}
use Rattle.headline.specs.AnyOutput.{HasOutput, HasPayload, IsSent}
use Rattle.headline.proofs.laws.any_output.Goals as goal

-- The runtime asks, a caller invokes, and the runtime responds.
abbrev answered_with : List ℕ → List (ℕ × Call)
answered_with body = (2, Response 1 1 body) ∷ (1, invoke 1) ∷ (0, RuntimeNext 1) ∷ []

-- The runtime asks, and a caller invokes.
abbrev invoked_with : List ℕ → List (ℕ × Call)
invoked_with body = (1, Invoke 1 false None body) ∷ (0, RuntimeNext 1) ∷ []

-- an empty body consists of bytes
no_bytes : All (λ (b : ℕ). b < 256) []
no_bytes = λ k d low. omega (arith, low)

asks : AreTaken one 100 ((0, RuntimeNext 1) ∷ [])
unfolding due answers first_answers first_answer second_answer answer_to own_first role own_answer closes kept
    to_waiting members seen after lived life verdict in_flight reservation place
asks = (tt, record { timed = (omega arith, (omega arith, omega arith)); bytes = no_bytes; room = refl })

output : (body : List ℕ) → IsSent body → HasOutput body (led_to one (answered_with body))
unfolding next added due answers first_answers first_answer second_answer answer_to own_first role own_answer closes
    kept to_waiting members seen after lived life verdict in_flight reservation place reply_text
output body sent = record {
  reached = record {
    calls = answered_with body;
    taken = (
      (asks, record { timed = (omega arith, ((omega arith, omega arith), tt, refl)); bytes = no_bytes; room = refl }),
      record { timed = (omega arith, ((omega arith, omega arith), omega arith, sent.short)); bytes = sent.bytes; room = refl },
    );
    led = refl;
  };
  invoked = refl;
  answered = refl;
  output_is = refl;
  replied = refl;
}

payload : (body : List ℕ) → IsSent body → HasPayload body (led_to one (invoked_with body))
unfolding next added due answers first_answers first_answer second_answer answer_to own_first role own_answer closes
    kept to_waiting members seen after lived life verdict in_flight reservation place reply_text
payload body sent = record {
  reached = record {
    calls = invoked_with body;
    taken = (asks, record { timed = (omega arith, ((omega arith, omega arith), tt, sent.short)); bytes = sent.bytes; room = refl });
    led = refl;
  };
  asked = refl;
  answered = refl;
  payload_is = refl;
  replied = refl;
}

pub returns-clause-output : goal.returns-clause-output
returns-clause-output c = λ body sent. (led_to one (answered_with body), output body sent)

pub returns-clause-payload : goal.returns-clause-payload
returns-clause-payload c = λ body sent. (led_to one (invoked_with body), payload body sent)

-- Histories that calls led to, in which an invocation has whatever output, or whatever payload.
use Rattle.std.specs.Prelude.{◌≡◌, ◌<◌, ℕ, true, false, List, Some, None, All, is_some}
use Rattle.call_types.specs.Within.{is_body}
use Rattle.call_types.specs.declared.answer.Answer.TheVariants.{Delivered, Output}
use Rattle.call_types.specs.declared.call.Call.TheVariants.{Invoke, Response, RuntimeNext}
use Rattle.call_types.specs.declared.call.Entry.{Entry}
use Rattle.call_model.specs.History.{answer_of, call_of}
use Rattle.call_model.specs.Sample.{invoke, one}
use Rattle.account_book.specs.Reached.{IsReached}
use Rattle.account_book.specs.ReplyText.{reply_text}

-- A body that a request can have: bytes, and no more of them than a payload or an output may have.
pub record IsSent (body : List ℕ) : Type 0 where
  pub bytes : All (λ b. b < 256) body
  pub short : is_body body ≡ true

-- The Invoke with ticket 1 has this output, and its caller a reply, in a history to which calls led.
pub record HasOutput (output : List ℕ) (h : List Entry) : Type 0 where
  pub reached : IsReached one 100 h
  pub invoked : call_of h 1 ≡ invoke 1
  pub answered : answer_of h 1 ≡ Some (Output 2)
  pub output_is : call_of h 2 ≡ Response 1 1 output
  pub replied : is_some (reply_text one 0 h 1) ≡ true

-- The Next with ticket 0 gets an invocation with this payload, in a history to which calls led.
pub record HasPayload (payload : List ℕ) (h : List Entry) : Type 0 where
  pub reached : IsReached one 100 h
  pub asked : call_of h 0 ≡ RuntimeNext 1
  pub answered : answer_of h 0 ≡ Some (Delivered 1 3001)
  pub payload_is : call_of h 1 ≡ Invoke 1 false None payload
  pub replied : is_some (reply_text one 0 h 0) ≡ true

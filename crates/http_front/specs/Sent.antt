-- What the service sends as the body of a response that shows nothing of the account.
use Rattle.std.specs.Prelude.{◌≡◌, ℕ, List}
use Rattle.handler_desk.specs.declared.pipe.PipeReceiver.{PipeReceiver}
use Rattle.http_body_util.specs.declared.either.Either.{Either}
use Rattle.http_body_util.specs.declared.either.Either.TheVariants.{Left, Right}
use Rattle.http_body_util.specs.declared.full.Full.{Full}
use Rattle.http_front.specs.declared.at_desk.passed.PassedBody.{PassedBody}

-- Bytes that are there at once, or a handler's answer while it comes.
abbrev pub SentBody : Type 0
SentBody = Either (Full (List ℕ)) PassedBody

-- A body is what comes out of this pipe.
abbrev pub IsPassed : {H : Type 0} → PipeReceiver → Either SentBody H → Type 0
IsPassed receiver (Left (Left full)) = ⊥
IsPassed receiver (Left (Right passed)) = passed.receiver ≡ receiver
IsPassed receiver (Right body) = ⊥

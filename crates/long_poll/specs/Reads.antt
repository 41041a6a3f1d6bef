-- What an account shows to a token, which has then seen the history that it is read from.
use Rattle.std.specs.Prelude.{◌≡◌, ℕ, Bool, List, Option, is_some}
use Rattle.arn_ids.specs.declared.config.Config.{Config}
use Rattle.call_types.specs.declared.call.Entry.{Entry}
use Rattle.call_types.specs.declared.stats.Stats.{Stats}
use Rattle.call_model.specs.Counts.{stats}
use Rattle.call_model.specs.History.{answer_of}
use Rattle.call_model.specs.Limits.{reservation}
use Rattle.lambda_wire.specs.declared.reply.Reply.{Reply}
use Rattle.account_book.specs.Books.{life}
use Rattle.account_book.specs.HistoryText.{opening_text}
use Rattle.account_book.specs.ReplyText.{reply_text}
use Rattle.account_lock.specs.Looks.{look_of}
use Rattle.account_lock.specs.Shown.{IsTextOf, Sees}
use Rattle.account_lock.specs.Trails.{GoesOn, IsLineOf, Trailed, is_off}
use Rattle.account_lock.specs.declared.desk.Look.{Look}
use Rattle.trace.specs.EnvironmentObject.{environments_text}

module _ (config : Config) (most : ℕ) where
  -- The answer to a ticket, if any, in a history that extends the one that was seen before.
  abbrev pub Looks : List Entry → ℕ → Look → List Entry → Type 0
  Looks before ticket look seen = Sees config most before seen × (look ≡ look_of (answer_of seen ticket))

  -- The counts of such a history.
  abbrev pub Counts : List Entry → Stats → List Entry → Type 0
  Counts before counted seen = Sees config most before seen × (counted ≡ stats config seen)

  -- A function's reservation in such a history.
  abbrev pub Reserves : List Entry → ℕ → Option ℕ → List Entry → Type 0
  Reserves before function count seen = Sees config most before seen × (count ≡ reservation config seen function)

  -- A trail of such a history that has passed no entry.
  abbrev pub Begins : List Entry → Trailed → Type 0
  Begins before trail = (trail.next ≡ 0) × Sees config most before trail.seen

  -- A trail passed the entry that comes next in such a history, or that history has no further entry.
  abbrev pub Passes : Trailed → Bool → Trailed → Type 0
  Passes before passed trail = Sees config most before.seen trail.seen × GoesOn passed before trail

  -- Such a history is off, or not. The trail has passed no entry.
  abbrev pub Closes : Trailed → Bool → Trailed → Type 0
  Closes before off trail =
      Sees config most before.seen trail.seen × (trail.next ≡ before.next) × (off ≡ is_off (life config trail.seen))

  module _ (salt : ℕ) where
    -- The reply to the client of the call with a ticket in such a history, if the ticket was answered.
    abbrev pub Renders : List Entry → ℕ → Option Reply → List Entry → Type 0
    Renders before ticket reply seen =
        Sees config most before seen × (reply ≡ reply_text config salt seen ticket)

    -- The text of the entry with a ticket in such a history, if the history has the entry.
    abbrev pub Tells : List Entry → ℕ → Option (List ℕ) → List Entry → Type 0
    Tells before ticket text seen = Sees config most before seen × IsTextOf config salt ticket text seen

    -- The line of the entry that comes next on a trail in such a history, which the trail has then passed; none if the
    -- history has no further entry.
    abbrev pub Traces : Trailed → Bool → Option (List ℕ) → Trailed → Type 0
    Traces before bodies line trail =
        Sees config most before.seen trail.seen × IsLineOf config salt bodies before.next line trail.seen
        × GoesOn (is_some line) before trail

    -- The text of the environments in such a history.
    abbrev pub Lists : List Entry → List ℕ → List Entry → Type 0
    Lists before text seen = Sees config most before seen × (text ≡ environments_text config salt seen)

    -- The text before the first entry.
    abbrev pub Opens : List ℕ → Type 0
    Opens text = text ≡ opening_text config salt most

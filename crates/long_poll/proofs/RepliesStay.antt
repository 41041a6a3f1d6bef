-- A reply that a history gives, each history that a token sees after it gives too.
use Rattle.std.proofs.Common.{◌≡◌, ◌<◌, ◌⊎◌, ℕ, List, ◌++◌, length, Some, inl, inr, sym, subst, ◌∙◌, arith, length-append}
use Rattle.account_book.specs.ReplyText.{reply_text}
use Rattle.account_book.specs.Reached.{IsReached}
use Rattle.account_lock.specs.Shown.{Sees}
use Rattle.arn_ids.specs.declared.config.Config.{Config}
use Rattle.call_model.specs.History.{call_of}
use Rattle.call_types.specs.declared.call.Call.{Call}
use Rattle.call_types.specs.declared.call.Entry.{Entry}
use Rattle.lambda_wire.specs.declared.reply.Reply.{Reply}
use Rattle.long_poll.specs.Replies.{IsBeginning, IsReplyIn, IsReplyOf, AreOfOne}

-- By the law of account_book.
module _ (calls : (h newer : List Entry) (ticket : ℕ) → ticket < length h
    → call_of (newer ++ h) ticket ≡ call_of h ticket)
    (replies : (config : Config) (salt most : ℕ) (h newer : List Entry) (ticket : ℕ) (reply : Reply)
    → IsReached config most (newer ++ h) → reply_text config salt h ticket ≡ Some reply
    → reply_text config salt (newer ++ h) ticket ≡ Some reply) where
  pub stays : (config : Config) (most salt : ℕ) (h later : List Entry) (call : Call) (reply : Reply)
      → Sees config most h later → IsReplyIn config salt h call reply → IsReplyIn config salt later call reply
  stays config most salt h later call reply sees given =
      let newer = sees.later.0 in
      let is : later ≡ newer ++ h = sees.later.1 in
      let lt : given.ticket < length h = given.there in
      subst (λ (k : List Entry). IsReplyIn config salt k call reply) (sym is)
      (record {
        ticket = given.ticket;
        there = omega (arith, lt, length-append newer h);
        stands = calls h newer given.ticket lt ∙ given.stands;
        gives = replies config salt most h newer given.ticket reply (subst (IsReached config most) is sees.reached)
            given.gives;
      })

  pub one : (config : Config) (most salt : ℕ) (call call' : Call) (reply reply' : Reply) (h h' : List Entry)
      → IsReplyOf config most salt call reply h → IsReplyOf config most salt call' reply' h'
      → IsBeginning h h' ⊎ IsBeginning h' h → AreOfOne config most salt call reply call' reply'
  one config most salt call call' reply reply' h h' given given' (inl later) = record {
    history = h';
    reached = given'.reached;
    one = stays config most salt h h' call reply (record { later = later; reached = given'.reached }) given.is;
    other = given'.is;
  }
  one config most salt call call' reply reply' h h' given given' (inr later) = record {
    history = h;
    reached = given.reached;
    one = given.is;
    other = stays config most salt h' h call' reply' (record { later = later; reached = given.reached }) given'.is;
  }

-- A call that a history has, and a reply that it gives, each history that continues it has and gives too.
use Rattle.std.proofs.Common.{◌≡◌, ◌<◌, ℕ, true, false, not, nat_lt, ◌&&◌, List, [], ◌∷◌, ◌++◌, length, Option, Some}
use Rattle.std.proofs.Common.{None, is_some, refl, sym, ap, ◌∙◌, arith, length-append}
use Rattle.std.proofs.lemmas.Bool.Decides.{nat_tests}
use Rattle.arn_ids.specs.declared.config.Config.{Config}
use Rattle.call_types.specs.declared.answer.Answer.{Answer}
use Rattle.call_types.specs.declared.call.Entry.{Entry}
use Rattle.call_model.specs.CallCounts.{request_count}
use Rattle.call_model.specs.History.{answer_in, answer_of, call_of, is_expiry, or_else, pending, upto}
use Rattle.call_model.specs.Isolation.{named, named_in, source_of}
use Rattle.call_model.specs.Next.{IsLegal}
use Rattle.call_model.proofs.AfterEntry.{call_of_old}
use Rattle.call_model.proofs.Basics.{and_false}
use Rattle.call_model.proofs.Once.{silent}
use Rattle.lambda_wire.specs.declared.reply.Reply.{Reply}
use Rattle.replies.specs.Replies.{reply_of}
use Rattle.account_book.specs.Reached.{IsReached}
use Rattle.account_book.specs.ReplyText.{gist_with, own_gist, reply_text}
use Rattle.account_book.proofs.Reaching.{reached_legal}
use Rattle.account_book.proofs.Rendered.{answered_there, same_gist}

-- ---- one entry more

upto_old : (e : Entry) (h : List Entry) (t : ℕ) → t < length h → upto h t ≡ upto (e ∷ h) t
upto_old e h t lt = let is : nat_lt t (length h) ≡ true = grind (arith, nat_tests) in rw is refl

count_old : (e : Entry) (h : List Entry) (t : ℕ) → t < length h → request_count (upto h t) (call_of h t) ≡ request_count (upto (e ∷ h) t) (call_of (e ∷ h) t)
count_old e h t lt =
    ap (λ (k : List Entry). request_count k (call_of h t)) (upto_old e h t lt)
    ∙ ap (request_count (upto (e ∷ h) t)) (sym (call_of_old e h t lt))

answer_old : (config : Config) (e : Entry) (h : List Entry) (t : ℕ) (a : Answer) → IsLegal config (e ∷ h)
    → answer_of h t ≡ Some a → t < length h → answer_of (e ∷ h) t ≡ Some a
answer_old config e h t a l is lt =
    let quiet : pending h t ≡ false =
    ap (λ (o : Option Answer). not (is_expiry (call_of h t)) && not (is_some o)) is ∙ and_false (not (is_expiry (call_of h t))) in
    let none : answer_in e.answers t ≡ None =
    ap (λ (xs : List (ℕ × Answer)). answer_in xs t) l.1.answers ∙ silent config h e.moment e.call t (omega (arith, lt)) quiet in
    ap (λ (o : Option Answer). or_else o (answer_of h t)) none ∙ is

gist_old : (config : Config) (e : Entry) (h : List Entry) (t : ℕ) (a : Answer) → IsLegal config (e ∷ h)
    → answer_of h t ≡ Some a → own_gist (e ∷ h) t ≡ own_gist h t
gist_old config e h t a l is =
    let s = source_of t (named a) in
    let there = answered_there config h t a l.0 is in
    let count = request_count (upto h t) (call_of h t) in
    let source_count = request_count (upto h s) (call_of h s) in
    sym (same_gist (e ∷ h) t s a (call_of h t) (call_of h s) count source_count (answer_old config e h t a l is there.0) refl
    (sym (call_of_old e h t there.0)) (count_old e h t there.0) (sym (call_of_old e h s there.1)) (count_old e h s there.1))
    ∙ same_gist h t s a (call_of h t) (call_of h s) count source_count is refl refl refl refl refl

reply_old : (config : Config) (salt : ℕ) (e : Entry) (h : List Entry) (t : ℕ) (reply : Reply) → IsLegal config (e ∷ h)
    → reply_text config salt h t ≡ Some reply → reply_text config salt (e ∷ h) t ≡ Some reply
unfolding reply_text
reply_old config salt e h t reply l given = go (answer_of h t) refl
  where
    none : answer_of h t ≡ None → reply_of config salt (own_gist h t) ≡ None
    none q = ap (λ (o : Option Answer). reply_of config salt (gist_with h t o (source_of t (named_in o)))) q

    go : (o : Option Answer) → answer_of h t ≡ o → reply_of config salt (own_gist (e ∷ h) t) ≡ Some reply
    go None q = let absent : reply_of config salt (own_gist h t) ≡ None = none q in absurd (cc)
    go (Some a) q = ap (reply_of config salt) (gist_old config e h t a l q) ∙ given

-- ---- all that a history continues by

pub calls_stay : (h newer : List Entry) (ticket : ℕ) → ticket < length h → call_of (newer ++ h) ticket ≡ call_of h ticket
calls_stay h [] ticket lt = refl
calls_stay h (e ∷ newer) ticket lt =
    call_of_old e (newer ++ h) ticket (omega (arith, lt, length-append newer h)) ∙ calls_stay h newer ticket lt

legal_stay : (config : Config) (salt : ℕ) (h newer : List Entry) (t : ℕ) (reply : Reply) → IsLegal config (newer ++ h)
    → reply_text config salt h t ≡ Some reply → reply_text config salt (newer ++ h) t ≡ Some reply
legal_stay config salt h [] t reply l given = given
legal_stay config salt h (e ∷ newer) t reply l given =
    reply_old config salt e (newer ++ h) t reply l (legal_stay config salt h newer t reply l.0 given)

pub replies_stay : (config : Config) (salt max_entries : ℕ) (h newer : List Entry) (ticket : ℕ) (reply : Reply) → IsReached config max_entries (newer ++ h)
    → reply_text config salt h ticket ≡ Some reply → reply_text config salt (newer ++ h) ticket ≡ Some reply
replies_stay config salt max_entries h newer ticket reply reached =
    legal_stay config salt h newer ticket reply (reached_legal config max_entries (newer ++ h) reached)

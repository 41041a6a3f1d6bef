-- A ticket of a function has the same reply in the function's own history.
use Rattle.std.proofs.Common.{◌≡◌, ◌==◌, ℕ, Bool, true, false, List, [], ◌∷◌, length, Option, Some, None, sym, refl, ap, ◌∙◌, if◌then◌else◌, true≢false}
use Rattle.std.proofs.lemmas.Bool.{eqb-true}
use Rattle.arn_ids.specs.declared.config.Config.{Config}
use Rattle.call_types.specs.declared.answer.Answer.{Answer}
use Rattle.call_types.specs.declared.call.Call.{Call}
use Rattle.call_types.specs.declared.call.Call.TheVariants.{Invoke}
use Rattle.call_types.specs.declared.call.Entry.{Entry}
use Rattle.call_model.specs.History.{answer_of, call_of, requests, upto}
use Rattle.call_model.specs.Isolation.{named, named_in, source_of}
use Rattle.call_model.specs.Next.{IsLegal}
use Rattle.call_model.specs.Own.{own, own_ticket, is_own}
use Rattle.call_model.proofs.OwnHistory.{own_requests_upto}
use Rattle.call_model.proofs.OwnTexts.{named_own}
use Rattle.call_model.proofs.OwnTickets.{own_answer_of, own_call}
use Rattle.replies.specs.Replies.{reply_of}
use Rattle.call_model.specs.CallCounts.{request_count}
use Rattle.account_book.specs.ReplyText.{own_gist, reply_text}

-- an Invoke at a ticket of a function is one of that function
abbrev InvokesOf : ℕ → Call → Type 0
InvokesOf f (Invoke g qualified trace body) = g ≡ f
InvokesOf f _ = Unit {0}

own_invokes : (config : Config) (h : List Entry) (f : ℕ) (call : Call) → is_own config h f call ≡ true → InvokesOf f call
own_invokes config h f (Invoke g qualified trace body) q = eqb-true g f q
own_invokes config h f call q = tt

invokes_at : (config : Config) (h : List Entry) (f t : ℕ) → own_ticket config h f t ≡ true → InvokesOf f (call_of h t)
invokes_at config [] f t q = absurd (true≢false (sym q))
invokes_at config (entry ∷ h) f t q = go (t == length h) (invokes_at config h f t) q
  where
    go : (b : Bool) → (own_ticket config h f t ≡ true → InvokesOf f (call_of h t))
        → (if b then is_own config h f entry.call else own_ticket config h f t) ≡ true
        → InvokesOf f (if b then entry.call else call_of h t)
    go true k r = own_invokes config h f entry.call r
    go false k r = k r

-- its count is then that of the function's Invokes
count_same : (f : ℕ) (h k : List Entry) (call : Call) → InvokesOf f call → requests h f ≡ requests k f → request_count h call ≡ request_count k call
count_same f h k (Invoke g qualified trace body) i q = ap (requests h) i ∙ q ∙ ap (requests k) (sym i)
count_same f h k call i q = refl

counts_same : (f : ℕ) (h k : List Entry) (c d : Call) → c ≡ d → InvokesOf f d → requests h f ≡ requests k f → request_count h c ≡ request_count k d
counts_same f h k c d same i q = ap (request_count h) same ∙ count_same f h k d i q

-- the ticket that an answer names is the function's too
source_own : (config : Config) (h : List Entry) (f t : ℕ) → IsLegal config h → own_ticket config h f t ≡ true
    → own_ticket config h f (source_of t (named_in (answer_of h t))) ≡ true
source_own config h f t l q = go (answer_of h t) refl
  where
    at : (a : Answer) → answer_of h t ≡ Some a → (o : Option ℕ) → named a ≡ o → own_ticket config h f (source_of t o) ≡ true
    at a is None r = q
    at a is (Some p) r = named_own config h f t p a l q is r

    go : (o : Option Answer) → answer_of h t ≡ o → own_ticket config h f (source_of t (named_in o)) ≡ true
    go None is = q
    go (Some a) is = at a is (named a) refl

same_gist : (config : Config) (h : List Entry) (f t : ℕ) → IsLegal config h → own_ticket config h f t ≡ true → own_gist (own config h f) t ≡ own_gist h t
same_gist config h f t l q =
    let k = own config h f in
    let answer : answer_of k t ≡ answer_of h t = own_answer_of config h f t l q in
    let source : ℕ = source_of t (named_in (answer_of h t)) in
    let source_alone : ℕ = source_of t (named_in (answer_of k t)) in
    let same : source_alone ≡ source = ap (λ (a : Option Answer). source_of t (named_in a)) answer in
    let mine : own_ticket config h f source ≡ true = source_own config h f t l q in
    let call : call_of k t ≡ call_of h t = own_call config h f t q in
    let source_call : call_of k source_alone ≡ call_of h source = ap (call_of k) same ∙ own_call config h f source mine in
    (λ i. record {
      answer = answer i;
      call = call i;
      count = counts_same f (upto k t) (upto h t) (call_of k t) (call_of h t) call (invokes_at config h f t q) (own_requests_upto config h f t) i;
      source = source_call i;
      source_count = counts_same f (upto k source_alone) (upto h source) (call_of k source_alone) (call_of h source)
          source_call (invokes_at config h f source mine) (ap (λ (n : ℕ). requests (upto k n) f) same ∙ own_requests_upto config h f source) i;
    })

pub same_reply : (config : Config) (salt : ℕ) (h : List Entry) (f t : ℕ) → IsLegal config h
    → own_ticket config h f t ≡ true → reply_text config salt (own config h f) t ≡ reply_text config salt h t
unfolding reply_text
same_reply config salt h f t l q = ap (reply_of config salt) (same_gist config h f t l q)

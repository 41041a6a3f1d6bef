-- The identifiers that answers show stay as they are when entries are added.
use Rattle.std.proofs.Common.{◌≡◌, ℕ, ◌<◌, true, nat_lt, List, ◌∷◌, length, unwrap_or, refl, ap, ◌∙◌, arith}
use Rattle.std.proofs.lemmas.Bool.Decides.{nat_tests}
use Rattle.arn_ids.specs.Identifiers.{id_word}
use Rattle.arn_ids.specs.declared.identifiers.IdKind.{IdKind}
use Rattle.arn_ids.specs.declared.identifiers.IdKind.TheVariants.{Request}
use Rattle.call_types.specs.declared.call.Call.{Call}
use Rattle.call_types.specs.declared.call.Entry.{Entry}
use Rattle.call_types.specs.Calls.{env_of, invoked}
use Rattle.call_model.specs.CallCounts.{request_count}
use Rattle.call_model.specs.History.{call_of, upto}
use Rattle.call_model.specs.Identifiers.{env_word, request_word}
use Rattle.call_model.proofs.AfterEntry.{call_of_old}

upto_old : (e : Entry) (h : List Entry) (t : ℕ) → t < length h → upto (e ∷ h) t ≡ upto h t
upto_old e h t lt = let is : nat_lt t (length h) ≡ true = grind (arith, nat_tests) in rw is refl

pub request_old : (salt : ℕ) (e : Entry) (h : List Entry) (p : ℕ) → p < length h → request_word salt (e ∷ h) p ≡ request_word salt h p
request_old salt e h p lt =
    ap (λ (c : Call). id_word salt Request (unwrap_or (invoked c) 0) (request_count (upto (e ∷ h) p) c)) (call_of_old e h p lt)
    ∙ ap (λ (k : List Entry). id_word salt Request (unwrap_or (invoked (call_of h p)) 0) (request_count k (call_of h p))) (upto_old e h p lt)

pub env_old : (salt : ℕ) (kind : IdKind) (e : Entry) (h : List Entry) (t count : ℕ) → t < length h
    → env_word salt kind (e ∷ h) t count ≡ env_word salt kind h t count
env_old salt kind e h t count lt = ap (λ (c : Call). id_word salt kind (unwrap_or (env_of c) 0) count) (call_of_old e h t lt)

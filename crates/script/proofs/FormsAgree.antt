-- A line that is a call in form 1 is the same call in form 2.
use Rattle.std.proofs.Common.{◌≡◌, ℕ, Bool, true, false, ◌&&◌, List, [], ◌∷◌, codes, bytes_eq, Option, Some, None}
use Rattle.std.proofs.Common.{option_and_then, if◌then◌else◌, refl, sym, ap, ◌∙◌}
use Rattle.std.proofs.lemmas.Slice.Eq.{bytes_eq-Decides}
use Rattle.arn_ids.specs.declared.config.Config.{Config}
use Rattle.call_types.specs.declared.call.Call.{Call}
use Rattle.arn_ids.specs.Numbers.{number_in}
use Rattle.arn_ids.specs.Limits.{greatest_moment}
use Rattle.script.specs.Lines.{fields, reserve_in, extension_call_in, runtime_call_in, call_by_word, timed_call_in, call_in}

no_call : (config : Config) (line : List (List ℕ)) → runtime_call_in config (codes "reserve") line ≡ None
unfolding runtime_call_in extension_call_in
no_call config line = refl

-- the word of a reservation stands for no other call
not_reserve : (config : Config) (word : List ℕ) (line : List (List ℕ)) (call : Call) (b : Bool)
    → bytes_eq word (codes "reserve") ≡ b
    → (if b && false then reserve_in config line else runtime_call_in config word line) ≡ Some call
    → (if b && true then reserve_in config line else runtime_call_in config word line) ≡ Some call
not_reserve config word line call false is e = e
not_reserve config word line call true is e =
    let none = ap (λ (w : List ℕ). runtime_call_in config w line) ((bytes_eq-Decides word (codes "reserve")).0 is) ∙ no_call config line in
    let never : None ≡ Some call = sym none ∙ e in
    cc

-- one of two, the first the same
either : (b : Bool) (x y z : Option Call) (call : Call) → (y ≡ Some call → z ≡ Some call) → (if b then x else y) ≡ Some call → (if b then x else z) ≡ Some call
either true x y z call h e = e
either false x y z call h e = h e

word_same : (config : Config) (word : List ℕ) (line : List (List ℕ)) (call : Call)
    → call_by_word false config word line ≡ Some call → call_by_word true config word line ≡ Some call
unfolding call_by_word
word_same config word line call =
    either (bytes_eq word (codes "invoke")) _ _ _ call
    (either (bytes_eq word (codes "tick")) _ _ _ call
    (either (bytes_eq word (codes "stop")) _ _ _ call
    (either (bytes_eq word (codes "spindown")) _ _ _ call
    (either (bytes_eq word (codes "withdraw")) _ _ _ call
    (not_reserve config word line call (bytes_eq word (codes "reserve")) refl)))))

-- a moment, and then the call
moment_same : (m : ℕ) (a b : Option Call) (timed : ℕ × Call) → ((call : Call) → a ≡ Some call → b ≡ Some call)
    → option_and_then (λ call. Some (m, call)) a ≡ Some timed → option_and_then (λ call. Some (m, call)) b ≡ Some timed
moment_same m None b timed h e = cc
moment_same m (Some call) b timed h e = rw (h call refl) e

timed_same : (config : Config) (line : List (List ℕ)) (timed : ℕ × Call) → timed_call_in false config line ≡ Some timed
    → timed_call_in true config line ≡ Some timed
timed_same config [] timed e = e
timed_same config (moment ∷ []) timed e = e
timed_same config (moment ∷ word ∷ line) timed e = go (number_in greatest_moment moment) e
  where
    go : (o : Option ℕ) → option_and_then (λ m. option_and_then (λ call. Some (m, call)) (call_by_word false config word line)) o ≡ Some timed
        → option_and_then (λ m. option_and_then (λ call. Some (m, call)) (call_by_word true config word line)) o ≡ Some timed
    go None k = k
    go (Some m) k = moment_same m (call_by_word false config word line) (call_by_word true config word line) timed (word_same config word line) k

pub call_same : (config : Config) (line : List ℕ) (timed : ℕ × Call) → call_in false config line ≡ Some timed → call_in true config line ≡ Some timed
unfolding call_in
call_same config line timed = timed_same config (fields line) timed

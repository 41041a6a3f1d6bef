use Rattle.std.proofs.Common.{◌≡◌, ◌<◌, ◌≤◌, ℕ, ◌+◌, suc, List, [], ◌∷◌, ◌++◌, length, length-append, append_assoc, ap, sym, ◌∙◌, arith}
use Rattle.arn_ids.specs.declared.config.Config.{Config}
use Rattle.call_types.specs.declared.call.Call.{Call}
use Rattle.call_types.specs.declared.call.Entry.{Entry}
use Rattle.call_model.specs.History.{call_of}
use Rattle.call_model.specs.Next.{added, due, moment_at}
use Rattle.call_model.proofs.Added.{added_length}
use Rattle.call_model.proofs.AfterEntry.{call_of_old}
use Rattle.account_lock.specs.Shown.{IsTaken, Sees}
use Rattle.account_lock.proofs.Stepping.{next_is}
use Rattle.shared_history.specs.Sharing.{Extends}
use Rattle.account_lock.proofs.laws.stands_where_it_was_taken.Goals as goal

-- more entries leave the call of a ticket as it is
later : (newer h : List Entry) (ticket : ℕ) → ticket < length h → call_of (newer ++ h) ticket ≡ call_of h ticket
later [] h ticket lt = refl
  where
    refl : call_of h ticket ≡ call_of h ticket
    refl = λ i. call_of h ticket
later (entry ∷ newer) h ticket lt =
    let more : ticket < length (newer ++ h) = omega (arith, lt, length-append newer h) in
    call_of_old entry (newer ++ h) ticket more ∙ later newer h ticket lt

there : (config : Config) (most : ℕ) (had : List Entry) (now : ℕ) (call : Call) (ticket : ℕ)
    (seen then : List Entry) → IsTaken config most had now call ticket seen → Sees config most seen then → ticket < length then
there config most had now call ticket seen then taken sees =
    let longer : length then ≡ length sees.later.0 + length seen = ap length sees.later.1 ∙ length-append sees.later.0 seen in
    let last : ticket + 1 ≡ length seen = taken.newest in omega arith

same : (config : Config) (most : ℕ) (had : List Entry) (now : ℕ) (call : Call) (ticket : ℕ)
    (seen then : List Entry) → IsTaken config most had now call ticket seen → Sees config most seen then → call_of then ticket ≡ call
same config most had now call ticket seen then taken sees =
    let last : ticket + 1 ≡ length seen = taken.newest in
    let lt : ticket < length seen = omega arith in
    ap (λ (h : List Entry). call_of h ticket) sees.later.1 ∙ (later sees.later.0 seen ticket lt ∙ taken.stands)

-- what goes on with what goes on does too
further : (had before h more : List Entry) → Extends had before → h ≡ more ++ before → Extends had h
further had before h more later is =
    (more ++ later.0, is ∙ (ap (λ (k : List Entry). more ++ k) later.1 ∙ sym (append_assoc more later.0 had)))

continues : (config : Config) (most : ℕ) (had : List Entry) (now : ℕ) (call : Call) (ticket : ℕ)
    (seen : List Entry) → IsTaken config most had now call ticket seen → Extends had seen
continues config most had now call ticket seen taken =
    further had taken.before seen (added config taken.before now call) taken.sees.later
    (taken.goes_on ∙ next_is config taken.before now call)

fresh : (config : Config) (most : ℕ) (had : List Entry) (now : ℕ) (call : Call) (ticket : ℕ)
    (seen : List Entry) → IsTaken config most had now call ticket seen → length had ≤ ticket
fresh config most had now call ticket seen taken =
    let last : ticket + 1 ≡ length seen = taken.newest in
    let longer : length taken.before ≡ length taken.sees.later.0 + length had =
    ap length taken.sees.later.1 ∙ length-append taken.sees.later.0 had in
    let made : length seen ≡ length (added config taken.before now call) + length taken.before =
    ap length (taken.goes_on ∙ next_is config taken.before now call) ∙ length-append (added config taken.before now call) taken.before in
    let some : length (added config taken.before now call) ≡ suc (length (due config taken.before (moment_at taken.before now))) =
    added_length config taken.before now call in omega arith

pub returns-clause-there : goal.returns-clause-there
returns-clause-there c = there

pub returns-clause-same : goal.returns-clause-same
returns-clause-same c = same

pub returns-clause-later : goal.returns-clause-later
returns-clause-later c = continues

pub returns-clause-fresh : goal.returns-clause-fresh
returns-clause-fresh c = fresh

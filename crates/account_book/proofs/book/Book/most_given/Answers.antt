use Rattle.std.proofs.Common.{ℕ, ◌+◌, ◌*◌, ◌≤◌, Bool, true, false, if◌then◌else◌, sym, ap, arith}
use Rattle.std.proofs.Math.Nat.{mul-le-mul_left}
use Rattle.arn_ids.specs.Limits.{most_extensions}
use Rattle.call_types.specs.declared.call.Call.{Call}
use Rattle.call_model.specs.History.{is_stop}
use Rattle.account_book.specs.Answering.{most_answers, most_of_one}
use Rattle.account_book.specs.Book.{Kept}
use Rattle.account_book.proofs.GivenAnswers.{few_given}
use Rattle.account_book.proofs.book.Book.most_given.Goals as goal

-- with the most extensions an entry has the most
with_most : (expiries environments widest : ℕ) (call : Call) → widest ≤ most_extensions
    → expiries * (most_of_one widest + 1) + most_answers widest environments call ≤ (most_of_one most_extensions + 1) * expiries + most_answers most_extensions environments call
with_most expiries environments widest call ten = own (is_stop call)
  where
    each : expiries * (most_of_one widest + 1) ≤ expiries * 14
    each = mul-le-mul_left expiries (omega (arith, ten))

    own : (b : Bool)
        → expiries * (most_of_one widest + 1) + (if b then most_of_one most_extensions * environments + 1 else most_of_one widest + 1) ≤ (most_of_one most_extensions + 1) * expiries + (if b then most_of_one most_extensions * environments + 1 else most_of_one most_extensions + 1)
    own true = omega (arith, each)
    own false = omega (arith, each, ten)

pub returns-clause-enough : goal.returns-clause-enough
returns-clause-enough c = λ now is.
    let j = c.self.inside.journal in
    rw (sym c.self.view_is, c.answers_wanted-own.ensures, c.environments.ensures.value, c.most_of_one.ensures, rw (sym c.self.view_is) at is)
    (few_given j.config j.history now c.args.call.now c.widest-widest.result c.facts.ensures.legal c.facts.ensures.all_known (rw (ap (λ (k : Kept). k.config) (sym c.self.view_is)) at c.requires.within) (rw (sym c.widest-widest.ensures.value) at c.facts.ensures.narrow))

pub returns-clause-few : goal.returns-clause-few
returns-clause-few c =
    rw (sym c.self.view_is, c.answers_wanted-own.ensures, c.environments.ensures.value, c.most_of_one.ensures)
    (with_most c.args.expiries _ c.widest-widest.result c.args.call.now c.widest-widest.ensures.ten)

use Rattle.std.proofs.Common.{◌≡◌, ◌<◌, ◌-◌, ◌∙◌, ap, ℕ, List, arith, length, drop, Option}
use Rattle.std.proofs.lemmas.List.Elements.{All-get_or}
use Rattle.call_types.specs.declared.answer.Answer.{Answer}
use Rattle.call_types.specs.declared.answer.Answer.TheVariants.{Delivered}
use Rattle.account_book.proofs.Indexed.{noted_length}
use Rattle.account_book.proofs.ledger.note.Goals as goal

pub set-requires : goal.set-requires
set-requires c =
    let long : length c.loop-index.given.0 ≡ length c.args.given.now.0 = ap (λ (g : List (Option Answer) × ℕ). length g.0) c.loop-index.invariant.0 ∙ noted_length (drop c.loop-index.index c.args.answers.now) c.args.given.now.0 in
    rw long
    (All-get_or (λ (a : ℕ × Answer). a.0 < length c.args.given.now.0) c.args.answers.now (c.loop-index.index - 1) (0, Delivered 0 0) (omega (arith, c.loop-index-test.true, c.loop-index.invariant.1)) c.requires)

use Rattle.std.specs.Arc.{arc_value}
use Rattle.call_model.proofs.Once.{fresh}
use Rattle.account_book.proofs.journal.Journal.answer.Goals as goal

pub answer-requires : goal.answer-requires
answer-requires c = λ t le. fresh (arc_value c.self.inside.config) c.self.inside.ledger.history t c.self.invariant.legal le

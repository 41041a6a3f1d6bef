use Rattle.replies.proofs.FieldValues.{kind_fits}
use Rattle.replies.proofs.refusals.refused.Goals as goal

pub invoke_fault_reply-requires : goal.invoke_fault_reply-requires
invoke_fault_reply-requires c = record { kind = rw c.refusal_words-status.ensures.kind (kind_fits c.args.refusal) }

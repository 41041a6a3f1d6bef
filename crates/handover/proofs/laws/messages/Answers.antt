use Rattle.handover.proofs.Messages.{line_is, bytes_are}
use Rattle.handover.proofs.laws.messages.Goals as goal

pub returns-clause-line : goal.returns-clause-line
returns-clause-line c id port method target fields = line_is id port method target fields

pub returns-clause-bytes_stay : goal.returns-clause-bytes_stay
returns-clause-bytes_stay c bytes small = bytes_are bytes small

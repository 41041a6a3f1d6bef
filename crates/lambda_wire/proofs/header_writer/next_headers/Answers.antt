use Rattle.lambda_wire.proofs.FieldValues.{number_value}
use Rattle.lambda_wire.proofs.header_writer.next_headers.Goals as goal

pub from_known_valid-requires-2 : goal.from_known_valid-requires-2
from_known_valid-requires-2 c = rw c.in_ok-texts.ensures.deadline (number_value c.args.deadline c.ranges.deadline.fits)

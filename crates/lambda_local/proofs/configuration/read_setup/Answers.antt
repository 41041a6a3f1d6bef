use Rattle.lambda_local.proofs.Reading.{as_input}
use Rattle.lambda_local.proofs.configuration.read_setup.Goals as goal

pub returns : goal.returns
returns g c = as_input _ _ _ c.in_ok-text.ensures.text (rw c.as_slice.ensures.value at c.setup_of.ensures)

use Rattle.handler_desk.proofs.Claiming.{begins}
use Rattle.handler_desk.proofs.claims.Claims.new.Goals as goal

pub of_words-requires : goal.of_words-requires
of_words-requires g = begins

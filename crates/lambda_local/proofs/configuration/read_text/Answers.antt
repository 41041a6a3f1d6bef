use Rattle.lambda_local.proofs.Reading.{cut_off}
use Rattle.lambda_local.proofs.configuration.read_text.Goals as goal

pub returns-in-Ok-clause-text : goal.returns-in-Ok-clause-text
returns-in-Ok-clause-text g c =
    cut_off (g.R.Read.remaining c.args.reader) 20000001 c.new-text.result.items _ c.new-text.ensures.items
    (rw (c.take.ensures.limit, c.take.ensures.inner) at c.in-Ok.ensures.bytes)

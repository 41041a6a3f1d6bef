use Rattle.arn_ids.specs.Identifiers.{identifier_of}
use Rattle.arn_ids.proofs.WordsRead.{reads_back}
use Rattle.arn_ids.proofs.identifiers.identifier.Goals as goal

pub returns-clause-reads_back : goal.returns-clause-reads_back
unfolding identifier_of
returns-clause-reads_back c =
    rw (c.from_u64_pair.ensures, c.salt_word.ensures, c.low_word.ensures)
    (reads_back c.args.salt c.args.kind c.args.number c.args.count c.ranges.salt.fits c.requires.number c.requires.count)

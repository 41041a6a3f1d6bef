use Rattle.arn_ids.proofs.identifiers.event_id.Goals as goal

pub returns-clause-value : goal.returns-clause-value
returns-clause-value c = c.identifier.ensures.value

pub returns-clause-reads_back : goal.returns-clause-reads_back
returns-clause-reads_back c = c.identifier.ensures.reads_back

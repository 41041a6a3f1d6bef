use Rattle.std.proofs.Common.{append_assoc}
use Rattle.arn_ids.proofs.names.arn_text.Goals as goal

pub returns : goal.returns
returns c =
    let written = rw (c.as_str-region.ensures, c.as_str-account.ensures, c.qualifier_text-qualifier.ensures, c.in_ok-text.ensures.bytes) at c.in_ok-write.ensures.bytes in
    simp append_assoc written

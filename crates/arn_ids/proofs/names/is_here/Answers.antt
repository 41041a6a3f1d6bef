use Rattle.std.proofs.Common.{refl}
use Rattle.arn_ids.proofs.names.is_here.Goals as goal

pub returns-then-is_none_or_same : goal.returns-then-is_none_or_same
returns-then-is_none_or_same c =
    let account = rw c.as_str.ensures at c.is_none_or_same.ensures in
    let region = rw c.as_str-then-is_none_or_same.ensures at c.is_none_or_same-then-is_none_or_same.ensures in
    rw (← account, c.if-is_none_or_same.true) region

pub returns-else-is_none_or_same : goal.returns-else-is_none_or_same
returns-else-is_none_or_same c =
    let account = rw c.as_str.ensures at c.is_none_or_same.ensures in
    rw (← account, c.if-is_none_or_same.false) refl

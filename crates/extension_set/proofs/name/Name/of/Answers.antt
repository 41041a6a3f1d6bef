use Rattle.std.proofs.lemmas.Str.{is_utf8-from_IsUtf8}
use Rattle.extension_set.proofs.name.Name.of.Goals as goal

pub invariant_of-result : goal.invariant_of-result
invariant_of-result c =
    (rw (c.as_bytes-text.ensures.value, c.as_str.ensures) c.requires, rw c.array_of.ensures (is_utf8-from_IsUtf8 _ c.as_bytes-text.ensures.utf8))

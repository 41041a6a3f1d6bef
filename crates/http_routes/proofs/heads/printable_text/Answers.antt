use Rattle.std.proofs.Common.{◌≡◌, true, false, sym}
use Rattle.arn_ids.proofs.Printable.{utf8_from_word}
use Rattle.http_routes.proofs.heads.printable_text.Goals as goal

pub unreachable-requires : goal.unreachable-requires
unreachable-requires c =
    let word = utf8_from_word c.args.most c.args.bytes.now (sym c.if-not-is_printable_word.ensures) in
    let never : false ≡ true = c.in-Err.ensures.succeeds (rw c.in_ok-from_slice.ensures.items word) in cc

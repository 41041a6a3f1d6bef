use Rattle.std.proofs.Common.{◌≡◌, true}
use Rattle.arn_ids.specs.Words.{is_word, is_printable}
use Rattle.arn_ids.proofs.Printable.{utf8_from_word}
use Rattle.script.proofs.text_fields.printable_text.Goals as goal

pub unreachable-requires : goal.unreachable-requires
unreachable-requires c =
    let word : is_word is_printable c.args.most c.in-Some.bytes.items ≡ true = cc in
    let never = c.in-Err.ensures.succeeds (utf8_from_word c.args.most c.in-Some.bytes.items word) in cc

use Rattle.account_book.proofs.TextParts.{text_in_parts as in_parts}
use Rattle.account_book.proofs.laws.text_in_parts.Goals as goal

pub returns : goal.returns
returns c = in_parts

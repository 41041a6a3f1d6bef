-- The parts that a name was split into, as contracts see them.
use Rattle.std.specs.Prelude.{List, ℕ, option_map}
use Rattle.std.specs.Borrow.{Bor}
use Rattle.arn_ids.specs.Grammar.{Written}
use Rattle.arn_ids.specs.declared.names.Spelled.{Spelled}

-- The text that a reference points to.
abbrev pub text_of : Bor (List ℕ) → List ℕ
text_of text = text.now

-- The parts of a name, as the grammar sees them.
abbrev pub written : Spelled → Written
written s = record {
  region = option_map text_of s.region;
  account = option_map text_of s.account;
  name = s.name.now;
  qualifier = option_map text_of s.qualifier;
}

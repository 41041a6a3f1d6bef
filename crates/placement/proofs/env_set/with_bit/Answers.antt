use Rattle.std.proofs.Common.{w64, ap, sym, ◌∙◌}
use Rattle.std.proofs.lemmas.Nat.Bits.{bit_at_set_same, bit_at_set_other, bit_at_clear_same, bit_at_clear_other}
use Rattle.placement.specs.Sets.{digit}
use Rattle.placement.proofs.env_set.with_bit.Goals as goal

pub returns-then-is_set-clause-here : goal.returns-then-is_set-clause-here
returns-then-is_set-clause-here c = bit_at_set_same w64 c.args.word c.args.bit c.requires ∙ sym (ap digit c.if-is_set.true)

pub returns-then-is_set-clause-others : goal.returns-then-is_set-clause-others
returns-then-is_set-clause-others c i within other = bit_at_set_other w64 c.args.word c.args.bit c.requires i other

pub returns-else-is_set-clause-here : goal.returns-else-is_set-clause-here
returns-else-is_set-clause-here c = bit_at_clear_same w64 c.args.word c.args.bit c.requires ∙ sym (ap digit c.if-is_set.false)

pub returns-else-is_set-clause-others : goal.returns-else-is_set-clause-others
returns-else-is_set-clause-others c i within other = bit_at_clear_other w64 c.args.word c.args.bit c.requires i within other

use Rattle.std.proofs.Common.{◌≡◌, ◌++◌, length, take}
use Rattle.percent_encoding.specs.Iter.{encoded_text}
use Rattle.script.proofs.words.push_pieces.Given as goal

abbrev pub invariant-loop-piece : goal.invariant-loop-piece
invariant-loop-piece l = record {
  goes_on : l.out.items ++ encoded_text l.piece-iterator ≡ l.fn.out.items ++ encoded_text l.fn.pieces;
  in_front : take (length l.fn.out.items) l.out.items ≡ l.fn.out.items;
}

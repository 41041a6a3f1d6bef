use Rattle.std.proofs.Common.{◌≡◌, ◌++◌, take, map}
use Rattle.script.specs.Writing.{spaced, word_text}
use Rattle.script.proofs.words.push_words.Given as goal

abbrev pub invariant-loop-word : goal.invariant-loop-word
invariant-loop-word g l = g.W.Sink.text l.out ≡ g.W.Sink.text l.fn.out ++ spaced (map word_text (take l.word-index l.words))

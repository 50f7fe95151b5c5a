use Rattle.std.proofs.Common.{take}
use Rattle.std.specs.List.{flat_map}
use Rattle.cat_protocol.specs.sending.Out.{PassesOn}
use Rattle.cat_protocol.specs.replies.Words.{behind_space}
use Rattle.cat_protocol.proofs.replies.words.put_words.Given as goal

abbrev pub invariant-loop-word : goal.invariant-loop-word
invariant-loop-word g l = PassesOn (g.W.Write.contents l.fn.to) (g.W.Write.contents l.to) l.fn.line l.line (flat_map behind_space (take l.word-index l.words))

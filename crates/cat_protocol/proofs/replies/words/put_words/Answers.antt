use Rattle.std.proofs.Common.{append-nil, arith, sym}
use Rattle.std.proofs.lemmas.List.{take_all}
use Rattle.cat_protocol.proofs.sending.Written.{gathered_at_fault, taken_in}
use Rattle.cat_protocol.specs.replies.Words.{behind_space}
use Rattle.cat_protocol.proofs.replies.Pieces.{gathered_within, gathered_more}
use Rattle.cat_protocol.proofs.replies.words.put_words.Goals as goal

pub loop-word-preserved : goal.loop-word-preserved
loop-word-preserved g c =
    gathered_more behind_space c.args.words.now c.loop-word.word-index _ _ _ _ _ _ _ c.loop-word-test.true c.loop-word.invariant c.in_ok-put_behind_space.ensures

pub returns-in_err-put_behind_space : goal.returns-in_err-put_behind_space
returns-in_err-put_behind_space g c =
    gathered_at_fault _ _ _ _ c.from_residual.ensures.0
    (gathered_within behind_space c.args.words.now c.loop-word.word-index _ _ _ _ _ _ c.loop-word-test.true c.loop-word.invariant c.in_err-put_behind_space.ensures)

pub loop-word-init : goal.loop-word-init
loop-word-init g c = taken_in _ _ _ _ (sym (append-nil _))

pub returns : goal.returns
returns g c = rw (take_all c.loop-word.word-index c.args.words.now (omega (arith, c.loop-word-test.false))) at c.loop-word.invariant

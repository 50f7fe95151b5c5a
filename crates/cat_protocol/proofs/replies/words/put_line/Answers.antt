use Rattle.std.proofs.Common.{◌++◌, codes}
use Rattle.std.specs.List.{flat_map}
use Rattle.cat_protocol.specs.replies.Words.{behind_space}
use Rattle.cat_protocol.proofs.sending.Written.{gathered_at_fault, gathered_before, gathered_behind, gathered_front}
use Rattle.cat_protocol.proofs.replies.Pieces.{line_in_pieces}
use Rattle.cat_protocol.proofs.replies.words.put_line.Goals as goal

pub returns-in_err-put_session : goal.returns-in_err-put_session
returns-in_err-put_session g c =
    rw (line_in_pieces c.args.session c.args.words.now)
    (gathered_at_fault _ _ _ _ c.from_residual.ensures.0 (gathered_before _ _ (flat_map behind_space c.args.words.now ++ codes "\n") c.in_err-put_session.ensures))

pub returns-in_err-put_words : goal.returns-in_err-put_words
returns-in_err-put_words g c =
    rw (line_in_pieces c.args.session c.args.words.now)
    (gathered_at_fault _ _ _ _ c.from_residual-in_err-put_words.ensures.0
    (gathered_front _ _ _ _ _ _ _ c.in_ok-put_session.ensures (gathered_before _ _ (codes "\n") c.in_err-put_words.ensures)))

pub returns : goal.returns
returns g c =
    rw (line_in_pieces c.args.session c.args.words.now)
    (gathered_behind _ _ _ _ _ _ _ _ _ c.in_ok-put_session.ensures
    (gathered_behind _ _ _ _ _ _ _ _ (codes "\n") c.in_ok-put_words.ensures c.end_line.ensures))

use Rattle.std.proofs.Common.{refl, ap, ◌∙◌}
use Rattle.cat_model.specs.Lines.{key_text}
use Rattle.cat_protocol.proofs.sending.Written.{gathered_at_fault, gathered_before, gathered_front, gathered_behind}
use Rattle.cat_protocol.specs.replies.Words.{word_text}
use Rattle.cat_protocol.proofs.replies.Pieces.{entry_in_pieces, id_on, key_on}
use Rattle.cat_protocol.proofs.replies.lists.put_entry.Goals as goal

pub returns-in_err-put_first : goal.returns-in_err-put_first
returns-in_err-put_first g c =
    let e = c.args.entry.now in
    rw (entry_in_pieces c.args.session.now e c.number.result e.id (key_text e.key) c.number.ensures refl refl)
    (gathered_at_fault _ _ _ _ c.from_residual.ensures.0 (gathered_before _ _ (id_on e.id (key_text e.key)) c.in_err-put_first.ensures))

pub returns-in_err-put_behind_space : goal.returns-in_err-put_behind_space
returns-in_err-put_behind_space g c =
    let e = c.args.entry.now in
    rw (entry_in_pieces c.args.session.now e c.number.result c.as_bytes.result.now (key_text e.key) c.number.ensures (c.as_bytes.ensures.value ∙ c.id.ensures) refl)
    (gathered_at_fault _ _ _ _ c.from_residual-in_err-put_behind_space.ensures.0
    (gathered_front _ _ _ _ _ _ _ c.in_ok-put_first.ensures (gathered_before _ _ (key_on (key_text e.key)) c.in_err-put_behind_space.ensures)))

pub returns : goal.returns
returns g c =
    rw (entry_in_pieces c.args.session.now c.args.entry.now c.number.result c.as_bytes.result.now (word_text c.key_word.result) c.number.ensures (c.as_bytes.ensures.value ∙ c.id.ensures)
    (c.key_word.ensures ∙ ap key_text c.key.ensures))
    (gathered_behind _ _ _ _ _ _ _ _ _ c.in_ok-put_first.ensures (gathered_behind _ _ _ _ _ _ _ _ _ c.in_ok-put_behind_space.ensures c.put_last.ensures))

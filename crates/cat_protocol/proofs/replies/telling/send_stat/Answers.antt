use Rattle.std.proofs.Common.{refl}
use Rattle.cat_protocol.proofs.replies.Listed.{stat_cut, stat_sent}
use Rattle.cat_protocol.proofs.replies.telling.send_stat.Goals as goal

pub returns-in_err-send_line : goal.returns-in_err-send_line
returns-in_err-send_line g c =
    stat_cut c.args.session c.stat_words.result c.args.stat.now c.args.stat.now.segments.items _ _ c.from_residual.result c.in_err-send_line.ensures c.from_residual.ensures.0 c.stat_words.ensures refl

pub returns : goal.returns
returns g c =
    stat_sent c.args.session c.stat_words.result c.args.stat.now c.as_slice.result.now _ _ _ c.send_segments.result c.in_ok-send_line.ensures c.send_segments.ensures c.stat_words.ensures c.as_slice.ensures.value

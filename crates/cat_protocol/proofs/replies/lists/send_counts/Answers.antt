use Rattle.std.specs.Fmt.{decimal}
use Rattle.std.specs.List.{flat_map}
use Rattle.cat_protocol.proofs.sending.Written.{both_taken, gathered_before, gathered_front, gathered_sent, sent_at_fault, unwaited}
use Rattle.cat_protocol.proofs.replies.Listed.{counts_listed}
use Rattle.cat_protocol.proofs.replies.Pieces.{counted_line}
use Rattle.cat_protocol.proofs.replies.lists.send_counts.Goals as goal

pub returns-in_err-put_line : goal.returns-in_err-put_line
returns-in_err-put_line g c =
    rw (counts_listed c.args.session c.matching.result c.met.result c.args.facets.now c.counts-counts.result.now c.matching.ensures c.met.ensures c.counts-counts.ensures)
    (sent_at_fault _ c.from_residual.ensures.0
    (unwaited _ _ c.new-lines.ensures (gathered_before _ _ (flat_map (counted_line (decimal c.args.session)) c.counts-counts.result.now) c.in_err-put_line.ensures)))

pub returns-in_err-put_labels : goal.returns-in_err-put_labels
returns-in_err-put_labels g c =
    rw (counts_listed c.args.session c.matching.result c.met.result c.args.facets.now c.counts-counts.result.now c.matching.ensures c.met.ensures c.counts-counts.ensures)
    (sent_at_fault _ c.from_residual-in_err-put_labels.ensures.0
    (unwaited _ _ c.new-lines.ensures (gathered_front _ _ _ _ _ _ _ c.in_ok-put_line.ensures c.in_err-put_labels.ensures)))

pub returns : goal.returns
returns g c =
    rw (counts_listed c.args.session c.matching.result c.met.result c.args.facets.now c.counts-counts.result.now c.matching.ensures c.met.ensures c.counts-counts.ensures)
    (gathered_sent _ _ _ _ _ _ _ c.new-lines.ensures (both_taken _ _ _ _ _ _ _ _ c.in_ok-put_line.ensures c.in_ok-put_labels.ensures) c.finish.ensures)

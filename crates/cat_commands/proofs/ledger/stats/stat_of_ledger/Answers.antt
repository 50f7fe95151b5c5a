use Rattle.std.proofs.Common.{◌≡◌, ◌∙◌, ap, map}
use Rattle.cat_ledger.specs.Ledgers.{shape_in}
use Rattle.cat_ledger.specs.Stats.{segment_stat}
use Rattle.cat_ledger_laws.proofs.shape.Leaves.{map_twice}
use Rattle.cat_protocol.specs.replies.Reply.{segment_stat_of}
use Rattle.cat_commands.specs.ledger.Chores.{segment_told, stat_told}
use Rattle.cat_commands.proofs.ledger.stats.stat_of_ledger.Goals as goal

pub returns : goal.returns
returns g c =
    let told = c.in_ok-told.ensures in
    let leaves = (shape_in c.args.ledger.now).leaves in
    let segments : map segment_stat_of c.in_ok-segments.segments.items ≡ map segment_told leaves =
    ap (map segment_stat_of) (c.in_ok-segments.ensures ∙ ap (map stat_told) (c.as_slice.ensures.value ∙ told.segments))
    ∙ map_twice stat_told segment_stat_of (map segment_stat leaves)
    ∙ map_twice segment_stat (λ x. segment_stat_of (stat_told x)) leaves in
    λ i. record {
      writes = told.writes i;
      buffered = told.buffered i;
      views = told.views i;
      cached = c.len.ensures.value i;
      pending = told.pending i;
      segments = segments i;
    }

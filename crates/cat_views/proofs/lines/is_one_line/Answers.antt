use Rattle.cat_views.proofs.LineFeeds.{decided}
use Rattle.cat_views.proofs.lines.is_one_line.Goals as goal

pub returns : goal.returns
returns c = decided c.args.bytes.now c.memchr.result c.is_none.result c.memchr.ensures c.is_none.ensures

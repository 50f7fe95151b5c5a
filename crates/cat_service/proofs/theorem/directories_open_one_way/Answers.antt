use Rattle.cat_service.proofs.theorem.Found.{open_one_way}
use Rattle.cat_service.proofs.theorem.directories_open_one_way.Goals as goal

pub returns : goal.returns
returns c = open_one_way c.segments_are_told_by_their_bytes.ensures c.live_rows_are_told_by_their_bytes.ensures.rows

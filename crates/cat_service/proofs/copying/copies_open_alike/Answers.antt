use Rattle.cat_service.proofs.Copied.{copies_open_alike}
use Rattle.cat_service.proofs.copying.copies_open_alike.Goals as goal

pub returns : goal.returns
returns c =
    copies_open_alike c.segments_are_told_by_their_bytes.ensures c.live_rows_are_told_by_their_bytes.ensures.rows
    c.commits_are_told_by_their_bytes.ensures

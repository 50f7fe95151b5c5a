use Rattle.cat_commits.proofs.reading.Agreeing.{leaves_agree}
use Rattle.cat_commits.proofs.reading.laws.leaves_are_told_by_their_files.Goals as goal

pub returns : goal.returns
returns c = leaves_agree c.segments_are_told_by_their_bytes.ensures c.live_rows_are_told_by_their_bytes.ensures.rows

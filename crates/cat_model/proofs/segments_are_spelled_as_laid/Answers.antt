use Rattle.cat_model.proofs.SegmentBytes.{spelled_as_laid}
use Rattle.cat_model.proofs.segments_are_spelled_as_laid.Goals as goal

pub returns : goal.returns
returns c = spelled_as_laid

use Rattle.cat_model.proofs.Merged.{merged_show_the_end}
use Rattle.cat_model.proofs.merged_show_the_end.Goals as goal

pub returns : goal.returns
returns c = merged_show_the_end

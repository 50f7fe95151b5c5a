use Rattle.cat_model.proofs.Windows.{levels_are_one, windows_are_one}
use Rattle.cat_model.proofs.windows_are_one.Goals as goal

pub returns : goal.returns
returns c = record { levels = levels_are_one; windows = windows_are_one }

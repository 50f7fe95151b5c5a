use Rattle.std.proofs.Common.{rules}
use Rattle.cat_directory.proofs.system_folder.SystemFolder.sync_one.Goals as goal

pub returns : goal.returns
returns g c = search rules depth 1

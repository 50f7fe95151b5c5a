use Rattle.std.proofs.Common.{rules}
use Rattle.cat_directory.proofs.lock.LockRefusal.of.Goals as goal

pub returns-in-WouldBlock : goal.returns-in-WouldBlock
returns-in-WouldBlock c = search rules depth 1

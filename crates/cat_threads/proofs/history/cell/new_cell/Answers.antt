use Rattle.std.proofs.Common.{rules}
use Rattle.cat_threads.proofs.history.Keeps.{begins}
use Rattle.cat_threads.proofs.history.cell.new_cell.Goals as goal

pub ruled-requires : goal.ruled-requires
ruled-requires c = (search rules, (search rules, begins))

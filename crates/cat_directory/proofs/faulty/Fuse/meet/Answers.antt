use Rattle.std.proofs.Common.{rules}
use Rattle.cat_directory.proofs.faulty.Fuse.meet.Goals as goal

pub returns-clause-calls : goal.returns-clause-calls
returns-clause-calls c = search rules depth 1

pub returns-in-All-clause-calls : goal.returns-in-All-clause-calls
returns-in-All-clause-calls c = search rules depth 1

pub returns-in-Never-clause-calls : goal.returns-in-Never-clause-calls
returns-in-Never-clause-calls c = search rules depth 1

pub returns-in-One-clause-calls : goal.returns-in-One-clause-calls
returns-in-One-clause-calls c = search rules depth 1

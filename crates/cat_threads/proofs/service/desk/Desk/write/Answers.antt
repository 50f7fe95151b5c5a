use Rattle.std.proofs.Common.{refl}
use Rattle.cat_threads.proofs.service.desk.Desk.write.Goals as goal

pub write_as-requires-clause-cell : goal.write_as-requires-clause-cell
write_as-requires-clause-cell g c = c.requires

pub write_as-requires-clause-named : goal.write_as-requires-clause-named
write_as-requires-clause-named g c = refl

pub returns-clause-told : goal.returns-clause-told
returns-clause-told g c = c.write_as.ensures.told

pub returns-clause-list : goal.returns-clause-list
returns-clause-list g c = c.write_as.ensures.list

pub returns-clause-same : goal.returns-clause-same
returns-clause-same g c = c.write_as.ensures.same

pub returns-clause-token : goal.returns-clause-token
returns-clause-token g c = c.write_as.ensures.token

pub returns-clause-seen : goal.returns-clause-seen
returns-clause-seen g c = c.write_as.ensures.seen

pub returns-clause-wrote : goal.returns-clause-wrote
returns-clause-wrote g c = c.write_as.ensures.wrote

pub returns-clause-idle : goal.returns-clause-idle
returns-clause-idle g c = c.write_as.ensures.idle

pub returns-clause-kind : goal.returns-clause-kind
returns-clause-kind g c = c.write_as.ensures.kind

pub returns-clause-refusal : goal.returns-clause-refusal
returns-clause-refusal g c = c.write_as.ensures.refusal

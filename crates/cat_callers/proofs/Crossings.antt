-- Where a thread takes its lines may be sent to it. A channel is deep.
use denote.Param.Send.{IsSend, sendable}
use Rattle.std.proofs.Crossing.{crosses}
use Rattle.cat_callers.specs.contracts.queues.Taking as Taking

pub taking_send : IsSend Taking.the_row
taking_send = search (sendable, crosses) depth 200 fits 30000

use denote.Param.Send.{sendable}
use Rattle.std.proofs.Crossing.{crosses}
use Rattle.cat_items.proofs.schema.Schema.TheSendSync as schema
use Rattle.cat_threads.proofs.service.ServiceCrosses.{service_sync, pass_send}
use Rattle.cat_callers.proofs.Crossings.{taking_send}
use Rattle.cat_callers.proofs.streams.start_answerer.Goals as goal

-- What is sent lends the front, and so the service, which a search doesn't go down through by itself. The bounds of the types are named:
-- which may be sent, then name and handle, which may be shared.
pub spawn-requires-send-F : goal.spawn-requires-send-F
spawn-requires-send-F g c κs within =
    let bounds = c.requires-raw.1.1.1.1.1.1 in
    let j = bounds.0 in let d = bounds.1.0 in let s = bounds.1.1.0 in let w = bounds.1.1.1.0 in let y = bounds.1.1.1.1.0 in let r = bounds.1.1.1.1.1 in
    search (sendable, crosses, service_sync, schema.the_sync, pass_send, taking_send) depth 40

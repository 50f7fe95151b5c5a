use denote.Param.Send.{sendable}
use Rattle.std.proofs.Crossing.{crosses}
use Rattle.cat_threads.proofs.service.ServiceCrosses.{service_sync}
use Rattle.cat_threads.proofs.running.fn.run_threads.scope.Goals as goal

-- What is sent lends the service, which a search doesn't go down through by itself. Nor does it look at all fields of `c`, so the bounds
-- of the types are named where `c` has many: directory, name and caller may be sent, then name and handle shared.
pub spawn-requires-send-F : goal.spawn-requires-send-F
spawn-requires-send-F g c κs within = search (sendable, crosses, service_sync) depth 40

pub spawn-requires-2-send-F : goal.spawn-requires-2-send-F
spawn-requires-2-send-F g c κs within =
    let bounds = c.requires-raw.1.1.1.1.1.1 in
    let d = bounds.0 in let j = bounds.1.0 in let w = bounds.1.1.1.1.0 in let y = bounds.1.1.1.1.1.0 in let r = bounds.1.1.1.1.1.1 in
    search (sendable, crosses, service_sync) depth 40

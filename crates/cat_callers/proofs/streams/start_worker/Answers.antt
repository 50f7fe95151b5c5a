use denote.Param.Send.{sendable}
use Rattle.std.proofs.Crossing.{crosses}
use Rattle.cat_threads.proofs.service.ServiceCrosses.{service_sync}
use Rattle.cat_callers.proofs.streams.start_worker.Goals as goal

-- What is sent lends the service, which a search doesn't go down through by itself.
pub spawn-requires-send-F : goal.spawn-requires-send-F
spawn-requires-send-F g c κs within = search (sendable, crosses, service_sync) depth 40

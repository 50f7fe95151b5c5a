use denote.Param.Send.{sendable}
use Rattle.std.proofs.Crossing.{crosses}
use Rattle.cat_threads.proofs.service.ServiceCrosses.{service_sync, pass_send}
use Rattle.cat_threads.proofs.running.start.Goals as goal

-- What is sent lends the service, which a search doesn't go down through by itself.
pub spawn_with-requires-send-F : goal.spawn_with-requires-send-F
spawn_with-requires-send-F g c κs within = search (sendable, crosses, service_sync, pass_send) depth 40

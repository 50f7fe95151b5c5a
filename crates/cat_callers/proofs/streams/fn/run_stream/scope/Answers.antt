use denote.Param.Send.{sendable}
use Rattle.std.proofs.Crossing.{crosses}
use Rattle.cat_callers.proofs.streams.fn.run_stream.scope.Goals as goal

-- A search doesn't go down to the bounds of the types, of which there are many, so each is named.
pub start_all-requires-send-J : goal.start_all-requires-send-J
start_all-requires-send-J g c κs within =
    let bounds = c.requires.1.1.1.1.1.1 in
    let sent = bounds.0 in
    search (sendable, crosses) depth 40

pub start_all-requires-send-D : goal.start_all-requires-send-D
start_all-requires-send-D g c κs within =
    let bounds = c.requires.1.1.1.1.1.1 in
    let sent = bounds.1 in
    search (sendable, crosses) depth 40

pub start_all-requires-send-S : goal.start_all-requires-send-S
start_all-requires-send-S g c κs within =
    let bounds = c.requires.1.1.1.1.1.1 in
    let sent = bounds.2 in
    search (sendable, crosses) depth 40

pub start_all-requires-send-W : goal.start_all-requires-send-W
start_all-requires-send-W g c κs within =
    let bounds = c.requires.1.1.1.1.1.1 in
    let sent = bounds.3 in
    search (sendable, crosses) depth 40

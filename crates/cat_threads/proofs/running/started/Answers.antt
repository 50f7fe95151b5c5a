use Rattle.std.specs.Vec.Iter.{into_iter_items}
use Rattle.std.proofs.Common.{arith}
use Rattle.std.proofs.lemmas.Grind.{common_steps}
use Rattle.cat_threads.specs.running.Sessions.{sessions_of}
use Rattle.cat_threads.proofs.running.Promises.{started_more}
use Rattle.cat_threads.proofs.running.started.Goals as goal

pub loop-seated-preserved : goal.loop-seated-preserved
loop-seated-preserved g c =
    let i = c.loop-seated.invariant in
    started_more (λ h. h.promise.0) c.loop-seated.handles.items c.push.new.self.items c.in_ok-handle.handle (into_iter_items c.loop-seated.seated-iterator)
    (into_iter_items c.next.new.self) c.in-Some.seated _ i c.in-Some.ensures.steps.0 c.in-Ok.ensures.items c.in_ok-handle.ensures

pub returns : goal.returns
returns c = grind (arith, common_steps)

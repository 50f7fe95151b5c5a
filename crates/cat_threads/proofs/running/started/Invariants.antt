use Rattle.std.proofs.Common.{◌≡◌, ◌++◌, map}
use Rattle.std.specs.Vec.Iter.{into_iter_items}
use Rattle.cat_threads.specs.running.Sessions.{sessions_of}
use Rattle.cat_threads.proofs.running.started.Given as goal

-- the threads that were started are of the sessions that are gone through
abbrev pub invariant-loop-seated : goal.invariant-loop-seated
invariant-loop-seated g l = map (λ h. h.promise.0) l.handles.items ++ sessions_of (into_iter_items l.seated-iterator) ≡ sessions_of (into_iter_items l.initial.seated-iterator)

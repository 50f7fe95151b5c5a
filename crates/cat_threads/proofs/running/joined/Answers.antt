use Rattle.std.proofs.Common.{◌≡◌, ◌∙◌, rules}
use Rattle.cat_threads.proofs.running.Promises.{all_kept}
use Rattle.cat_threads.proofs.running.joined.Goals as goal

pub returns-in-Ok : goal.returns-in-Ok
returns-in-Ok g c =
    let e = c.in-Ok.ensures in
    all_kept (λ h. h.promise.0) (λ p. p.session) c.args.handles.items c.in-Ok.all.items (search rules) (λ i d lt. let k = (e.each i d (search rules)).1 in (k.handle, k.handle_is, k.kept))

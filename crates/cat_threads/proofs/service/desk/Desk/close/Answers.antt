use Rattle.crossbeam_utils.specs.Seq.{cell_view}
use Rattle.std.specs.Prelude.{OnOk, Result, Ok, Err, ◌≡◌}
use Rattle.cat_commands.specs.cat_ledger.cat_ledger_state.cat_views.Holds.{HeldView}
use Rattle.cat_commands.specs.cat_ledger.declared.views.Released.{Released}
use Rattle.cat_threads.proofs.service.Answering.{released}
use Rattle.cat_threads.proofs.service.Beside.{by_release}
use Rattle.cat_threads.proofs.service.desk.Desk.close.Goals as goal

second : (A B : Type 0) (r : Result Released HeldView) → OnOk r (A × B) → OnOk r B
second A B (Ok x) h = h.1
second A B (Err e) h = h

pub invariant_of-self : goal.invariant_of-self
invariant_of-self g c =
    let i = c.self.invariant in
    let e = c.release.ensures in
    let v = cell_view c.self.inside.scribe in (
      i.0,
      i.1,
      i.2,
      released g.D.Holder.bytes c.self.inside.ledger c.release.new.self g.J.Naming.from g.J.Naming.sessions v v c.args.session c.args.hold.view.token c.release.result
          i.3 (second _ _ c.release.result e.right) e.held e.err e.same i.3.agrees.whole,
      by_release g.D.Holder.bytes c.self.inside.filters c.self.inside.ledger c.release.new.self c.args.session c.args.hold.view.token _ c.release.result e.right e.held e.err e.same i.4,
    )

use Rattle.std.proofs.Common.{sym, ap, ◌∙◌}
use Rattle.crossbeam_utils.specs.Seq.{cell_view}
use Rattle.cat_threads.specs.history.Rules.{Sight}
use Rattle.cat_threads.proofs.service.Granting.{apart_again}
use Rattle.cat_threads.proofs.service.Spelled.{scribe_alone, scribe_own}
use Rattle.cat_threads.proofs.service.Telling.{ends_told}
use Rattle.cat_threads.proofs.service.desk.check.Goals as goal

pub join-requires-clause-desk : goal.join-requires-clause-desk
join-requires-clause-desk g c = (c.requires.cell.1 ∙ sym c.requires.cell.0, scribe_alone (cell_view c.args.scribe.now) g.J.Naming.sessions c.requires.desk)

pub join-requires-clause-mine : goal.join-requires-clause-mine
join-requires-clause-mine g c = (c.pass.invariant.0 ∙ sym c.requires.cell.0, ap (λ (x : Sight). x.scribe) c.pass.invariant.1)

pub part-requires : goal.part-requires
part-requires g c =
    let v = cell_view c.args.scribe.now in
    let j = c.join.ensures.desk in
    (j.0 ∙ (c.requires.cell.1 ∙ sym c.requires.cell.0), scribe_own (cell_view c.join.new.desk) v.list v.token v.seated (cell_view c.pass.inside.seat).own j.1)

pub returns-clause-same : goal.returns-clause-same
returns-clause-same g c =
    let j = c.join.ensures.desk in
    let p = c.part.ensures.desk in
    let again = apart_again (cell_view c.args.scribe.now) (cell_view c.join.new.desk) (cell_view c.part.new.desk) g.J.Naming.sessions (cell_view c.pass.inside.seat).own c.requires.desk j.1 p.1 in
    (p.0 ∙ j.0, again ∙ sym c.requires.desk)

pub returns-clause-ends : goal.returns-clause-ends
returns-clause-ends g c =
    ends_told g.J.Naming.from.start.token c.pass.inside.session (cell_view c.pass.inside.seat) (cell_view c.join.new.desk) (cell_view c.part.new.desk) c.args.pass c.pass.view_is c.join.ensures.seen
    c.pass.invariant.1 (ap (λ (x : Sight). x.list) c.part.ensures.desk.1)

use Rattle.std.proofs.Common.{◌∙◌, ◌++◌, ap}
use Rattle.cat_service_tests.proofs.plain.catalogue.Written.{entry_line, pieces_all, pieces_more}
use Rattle.cat_service_tests.proofs.plain.output.push_entries.Goals as goal

pub loop-entry-preserved : goal.loop-entry-preserved
loop-entry-preserved c =
    let line = entry_line c.args.session.now in
    pieces_more line c.args.entries.now c.loop-entry.entry-index c.entry-item.result c.args.to.now.items c.loop-entry.to.items c.push_entry.new.to.items
    c.loop-entry-test.true c.loop-entry.invariant (c.in_ok-push_entry.ensures ∙ ap (λ x. c.loop-entry.to.items ++ line x) c.entry-item.is)

pub returns : goal.returns
returns c =
    pieces_all (entry_line c.args.session.now) c.args.entries.now c.loop-entry.entry-index c.args.to.now.items c.loop-entry.to.items c.loop-entry-test.false c.loop-entry.invariant

use Rattle.cat_commands.specs.cat_ledger.Ledgers.{shape_in}
use Rattle.cat_commands.proofs.sets.Right.{recorded_are_known, remembered_are_right}
use Rattle.cat_threads.proofs.service.lending.prepare.Goals as goal

pub lend-requires : goal.lend-requires
lend-requires g c =
    recorded_are_known c.args.filters.now (shape_in c.args.ledger.now) c.args.token c.in-Some.view.now c.requires c.in-Some.ensures.some.1

pub returns-in-Some-clause-sets : goal.returns-in-Some-clause-sets
returns-in-Some-clause-sets g c =
    remembered_are_right (shape_in c.args.ledger.now) c.args.filters.now c.lend.new.filters c.lend.ensures.known c.lend.ensures.below c.requires

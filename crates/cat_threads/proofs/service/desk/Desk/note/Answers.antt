use Rattle.cat_commands.specs.cat_ledger.Ledgers.{shape_in}
use Rattle.cat_commands.proofs.sets.Right.{remembered_are_right}
use Rattle.cat_threads.proofs.service.desk.Desk.note.Goals as goal

pub invariant_of-self : goal.invariant_of-self
invariant_of-self g c =
    let i = c.self.invariant in
    (i.0, i.1, i.2, i.3, (i.4.0, remembered_are_right (shape_in c.self.inside.ledger) c.self.inside.filters c.note.new.self c.note.ensures.known c.note.ensures.below i.4.1))

use Rattle.std.proofs.Common.{arith}
use Rattle.cat_threads.proofs.service.desk.note_number.Goals as goal

pub note-requires-clause-words : goal.note-requires-clause-words
note-requires-clause-words g c =
    let number = c.requires.number in
    let newest = c.requires.newest in
    (omega arith, omega arith)

pub returns : goal.returns
returns g c = c.note.ensures

pub note-requires-clause-desk : goal.note-requires-clause-desk
note-requires-clause-desk g c = c.requires.desk

pub note-requires-clause-own : goal.note-requires-clause-own
note-requires-clause-own g c = c.requires.own

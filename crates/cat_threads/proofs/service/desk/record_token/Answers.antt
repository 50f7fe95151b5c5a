use Rattle.std.proofs.Common.{arith, refl}
use Rattle.cat_threads.proofs.service.desk.record_token.Goals as goal

pub record-requires-clause-words : goal.record-requires-clause-words
record-requires-clause-words g c =
    let token = c.requires.token in
    let rises = c.requires.rises in
    (omega arith, omega arith)

pub returns-clause-scribe : goal.returns-clause-scribe
returns-clause-scribe g c = c.record.ensures

pub record-requires-clause-desk : goal.record-requires-clause-desk
record-requires-clause-desk g c = c.requires.desk

pub returns-clause-newest : goal.returns-clause-newest
returns-clause-newest g c = refl

use Rattle.cat_commands.proofs.searches.Asked.{is_fault, spelled_unread, unread_no_fault, unspelled}
use Rattle.cat_commands.proofs.searches.asking.read_query.Goals as goal

pub returns-in-Memory-clause-spelled : goal.returns-in-Memory-clause-spelled
returns-in-Memory-clause-spelled c =
    spelled_unread c.args.schema.now c.args.text.now c.in-Err.refusal c.in-Memory.is c.in-Err.ensures.judged c.in-Err.ensures.due

pub returns-in_default-clause-err : goal.returns-in_default-clause-err
returns-in_default-clause-err c =
    is_fault c.args.schema.now c.args.text.now c.in-Err.refusal c.in_default.not-Memory c.in-Err.ensures.err

pub returns-in_default-clause-unspelled : goal.returns-in_default-clause-unspelled
returns-in_default-clause-unspelled c =
    unspelled c.args.schema.now c.args.text.now c.fields.ensures.valid c.in-Err.refusal
    (is_fault c.args.schema.now c.args.text.now c.in-Err.refusal c.in_default.not-Memory c.in-Err.ensures.err)

pub returns-in-Memory-clause-due : goal.returns-in-Memory-clause-due
returns-in-Memory-clause-due c = λ place fault.
    absurd (unread_no_fault c.args.schema.now c.args.text.now c.in-Err.refusal c.in-Memory.is c.in-Err.ensures.due place fault)

use Rattle.std.proofs.Common.{◌≡◌, ℕ, sym, subst}
use Rattle.std.specs.Prelude.{IfOk, IfErr}
use Rattle.cat_base.specs.declared.refusal.Refusal.TheVariants.{Kind}
use Rattle.cat_model.specs.Write as model
use Rattle.cat_commands.specs.cat_ledger.cat_ledger_state.cat_query.View.{query_of}
use Rattle.cat_commands.specs.cat_ledger.Answering.{AnswersCommand}
use Rattle.cat_commands.specs.cat_ledger.Ledgers.{shape_in}
use Rattle.cat_ledger_laws.specs.lines.LineLaws.{tells}
use Rattle.cat_ledger_laws.specs.lines.RefusalLaws.{command_of}
use Rattle.cat_threads.specs.service.Writes.{PutsForeign, write_of}
use Rattle.cat_threads.proofs.service.Answering.{delete_answers, delete_where_answers, left_refused, put_answers, same_refused}
use Rattle.cat_threads.proofs.service.Refusing.{among_all, first_kind, never_kind}
use Rattle.cat_threads.proofs.service.writes.accept.Goals as goal

pub returns-in-Put-clause-answers : goal.returns-in-Put-clause-answers
returns-in-Put-clause-answers g c =
    let e = c.put.ensures in
    let bytes = g.D.Holder.bytes in
    subst (λ w. IfOk c.put.result (λ n. (session : ℕ) → AnswersCommand bytes session (command_of (write_of w)) c.args.ledger.now (tells n) c.put.new.self)) (sym c.in-Put.is)
    (put_answers bytes c.args.ledger.now c.put.new.self c.in-Put.item c.put.result e.number e.item e.left e.ok)

pub returns-in-Put-clause-refused : goal.returns-in-Put-clause-refused
returns-in-Put-clause-refused g c = left_refused g.D.Holder.bytes c.args.ledger.now c.put.new.self (write_of c.args.write) c.put.result c.put.ensures.err

pub returns-in-Delete-clause-answers : goal.returns-in-Delete-clause-answers
returns-in-Delete-clause-answers g c =
    let e = c.delete.ensures in
    let bytes = g.D.Holder.bytes in
    subst (λ w. IfOk c.delete.result (λ n. (session : ℕ) → AnswersCommand bytes session (command_of (write_of w)) c.args.ledger.now (tells n) c.delete.new.self)) (sym c.in-Delete.is)
    (subst (λ id. IfOk c.delete.result (λ n. (session : ℕ) → AnswersCommand bytes session (command_of (model.Write.delete id)) c.args.ledger.now (tells n) c.delete.new.self)) c.as_str.ensures
    (delete_answers bytes c.args.ledger.now c.delete.new.self c.as_str.result.now c.delete.result e.number e.left e.ok))

pub returns-in-Delete-clause-refused : goal.returns-in-Delete-clause-refused
returns-in-Delete-clause-refused g c = same_refused g.D.Holder.bytes c.args.ledger.now c.delete.new.self (write_of c.args.write) c.delete.result c.delete.ensures.err

pub returns-in-DeleteWhere-clause-answers : goal.returns-in-DeleteWhere-clause-answers
returns-in-DeleteWhere-clause-answers g c =
    let e = c.delete_where.ensures in
    let bytes = g.D.Holder.bytes in
    subst (λ w. IfOk c.delete_where.result (λ n. (session : ℕ) → AnswersCommand bytes session (command_of (write_of w)) c.args.ledger.now (tells n) c.delete_where.new.self)) (sym c.in-DeleteWhere.is)
    (delete_where_answers bytes c.args.ledger.now c.delete_where.new.self (query_of c.in-DeleteWhere.query) c.delete_where.result e.number e.left e.ok)

pub returns-in-DeleteWhere-clause-refused : goal.returns-in-DeleteWhere-clause-refused
returns-in-DeleteWhere-clause-refused g c = same_refused g.D.Holder.bytes c.args.ledger.now c.delete_where.new.self (write_of c.args.write) c.delete_where.result c.delete_where.ensures.err

pub returns-in-Put-clause-kind : goal.returns-in-Put-clause-kind
returns-in-Put-clause-kind g c =
    subst (λ w. IfErr c.put.result (λ e. e ≡ Kind → PutsForeign (shape_in c.args.ledger.now).schema (write_of w))) (sym c.in-Put.is)
    (first_kind _ _ c.put.result c.put.ensures.kind)

pub returns-in-Delete-clause-kind : goal.returns-in-Delete-clause-kind
returns-in-Delete-clause-kind g c = never_kind _ c.delete.result c.delete.ensures.refusal

pub returns-in-Delete-clause-refusal : goal.returns-in-Delete-clause-refusal
returns-in-Delete-clause-refusal g c = among_all c.delete.result c.delete.ensures.refusal

pub returns-in-DeleteWhere-clause-kind : goal.returns-in-DeleteWhere-clause-kind
returns-in-DeleteWhere-clause-kind g c = never_kind _ c.delete_where.result c.delete_where.ensures.refusal

pub returns-in-DeleteWhere-clause-refusal : goal.returns-in-DeleteWhere-clause-refusal
returns-in-DeleteWhere-clause-refusal g c = among_all c.delete_where.result c.delete_where.ensures.refusal

pub returns-in-Put-clause-number : goal.returns-in-Put-clause-number
returns-in-Put-clause-number g c = c.put.ensures.number

pub returns-in-Delete-clause-number : goal.returns-in-Delete-clause-number
returns-in-Delete-clause-number g c = c.delete.ensures.number

pub returns-in-DeleteWhere-clause-number : goal.returns-in-DeleteWhere-clause-number
returns-in-DeleteWhere-clause-number g c = c.delete_where.ensures.number

pub returns-in-Put-clause-refusal : goal.returns-in-Put-clause-refusal
returns-in-Put-clause-refusal g c = c.put.ensures.refusal

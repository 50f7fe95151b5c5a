use Rattle.std.proofs.Common.{refl}
use Rattle.cat_model.specs.Reader.{read_query}
use Rattle.cat_query.proofs.Judging.{spelled_if_read, faulty_if_refused, fault_is_told, query_judged}
use Rattle.cat_query.proofs.query.Query.parse.Goals as goal

pub returns-clause-ok : goal.returns-clause-ok
returns-clause-ok c = spelled_if_read c.args.schema.now c.args.text.now c.read.result (read_query c.args.schema.now c.args.text.now) refl c.read.ensures.gives

pub returns-clause-err : goal.returns-clause-err
returns-clause-err c = faulty_if_refused c.args.schema.now c.args.text.now c.read.result (read_query c.args.schema.now c.args.text.now) c.read.ensures.under refl c.read.ensures.gives

pub returns-clause-due : goal.returns-clause-due
returns-clause-due c = fault_is_told c.args.schema.now c.args.text.now c.read.result c.read.ensures.under c.read.ensures.gives

pub returns-clause-judged : goal.returns-clause-judged
returns-clause-judged c = query_judged c.args.schema.now c.args.text.now c.read.ensures.under

use Rattle.std.proofs.Common.{◌||◌, refl, ap, sym, ◌∙◌}
use Rattle.cat_model.specs.Query as model
use Rattle.cat_query.specs.View.{primary_of, clauses_of}
use Rattle.cat_query.proofs.AcceptSteps.{all_heard, must_fails, must_obeyed, must_supported, must_not_fails, must_not_obeyed, must_not_supported, should_obeyed, should_supported}
use Rattle.cat_query.proofs.RowTests.{everything_is, group_is, field_is}
use Rattle.cat_query.proofs.accepting.+accepting.Goals as goal
use Rattle.cat_query.proofs.accepting.+accepting.Goals.{clauses_accept-in-Must+else-not-found, clauses_accept-in-MustNot+else-found, clauses_accept-in-Should+then-supported, clauses_accept-in-Should+else-supported}

pub clauses_accept-loop-clause-init : goal.clauses_accept-loop-clause-init
clauses_accept-loop-clause-init t c = record { obeyed = refl; supported = refl }

pub clauses_accept-returns-then-not-found : goal.clauses_accept-returns-then-not-found
clauses_accept-returns-then-not-found t c = must_fails c.args.item.now c.args.clauses.now c.loop-clause.clause-index c.clause-item.result c.loop-clause-test.true c.clause-item.is c.primary_accepts-found.result c.primary_accepts-found.ensures c.loop-clause.supported c.loop-clause.invariant.obeyed c.loop-clause.invariant.supported c.in-Must.is c.if-not-found.true

pub clauses_accept-returns-then-found : goal.clauses_accept-returns-then-found
clauses_accept-returns-then-found t c = must_not_fails c.args.item.now c.args.clauses.now c.loop-clause.clause-index c.clause-item.result c.loop-clause-test.true c.clause-item.is c.primary_accepts-found.result c.primary_accepts-found.ensures c.loop-clause.supported c.loop-clause.invariant.obeyed c.loop-clause.invariant.supported c.in-MustNot.is c.if-found.true

pub clauses_accept-loop-clause-preserved : goal.clauses_accept-loop-clause-preserved
clauses_accept-loop-clause-preserved t c =
    let found = c.primary_accepts-found.result in
    elim c.match-clause.branch [
      | clauses_accept-in-Must+else-not-found w ↦ record {
        obeyed = must_obeyed c.args.item.now c.args.clauses.now c.loop-clause.clause-index c.clause-item.result c.loop-clause-test.true c.clause-item.is c.primary_accepts-found.result c.primary_accepts-found.ensures c.loop-clause.supported c.loop-clause.invariant.obeyed c.loop-clause.invariant.supported w.in-Must.is w.if-not-found.false;
        supported = must_supported c.args.item.now c.args.clauses.now c.loop-clause.clause-index c.clause-item.result c.loop-clause-test.true c.clause-item.is c.primary_accepts-found.result c.primary_accepts-found.ensures c.loop-clause.supported c.loop-clause.invariant.obeyed c.loop-clause.invariant.supported w.in-Must.is w.if-not-found.false _ w.supported-is;
      }
      | clauses_accept-in-MustNot+else-found w ↦ record {
        obeyed = must_not_obeyed c.args.item.now c.args.clauses.now c.loop-clause.clause-index c.clause-item.result c.loop-clause-test.true c.clause-item.is c.primary_accepts-found.result c.primary_accepts-found.ensures c.loop-clause.supported c.loop-clause.invariant.obeyed c.loop-clause.invariant.supported w.in-MustNot.is w.if-found.false;
        supported = must_not_supported c.args.item.now c.args.clauses.now c.loop-clause.clause-index c.clause-item.result c.loop-clause-test.true c.clause-item.is c.primary_accepts-found.result c.primary_accepts-found.ensures c.loop-clause.supported c.loop-clause.invariant.obeyed c.loop-clause.invariant.supported w.in-MustNot.is _ w.supported-is;
      }
      | clauses_accept-in-Should+then-supported w ↦ record {
        obeyed = should_obeyed c.args.item.now c.args.clauses.now c.loop-clause.clause-index c.clause-item.result c.loop-clause-test.true c.clause-item.is c.primary_accepts-found.result c.primary_accepts-found.ensures c.loop-clause.supported c.loop-clause.invariant.obeyed c.loop-clause.invariant.supported w.in-Should.is;
        supported = should_supported c.args.item.now c.args.clauses.now c.loop-clause.clause-index c.clause-item.result c.loop-clause-test.true c.clause-item.is c.primary_accepts-found.result c.primary_accepts-found.ensures c.loop-clause.supported c.loop-clause.invariant.obeyed c.loop-clause.invariant.supported w.in-Should.is _ (w.supported-is ∙ w.if-supported.true ∙ sym (ap (λ b. b || found) w.if-supported.true));
      }
      | clauses_accept-in-Should+else-supported w ↦ record {
        obeyed = should_obeyed c.args.item.now c.args.clauses.now c.loop-clause.clause-index c.clause-item.result c.loop-clause-test.true c.clause-item.is c.primary_accepts-found.result c.primary_accepts-found.ensures c.loop-clause.supported c.loop-clause.invariant.obeyed c.loop-clause.invariant.supported w.in-Should.is;
        supported = should_supported c.args.item.now c.args.clauses.now c.loop-clause.clause-index c.clause-item.result c.loop-clause-test.true c.clause-item.is c.primary_accepts-found.result c.primary_accepts-found.ensures c.loop-clause.supported c.loop-clause.invariant.obeyed c.loop-clause.invariant.supported w.in-Should.is _ (w.supported-is ∙ sym (ap (λ b. b || found) w.if-supported.false));
      }
    ]

pub clauses_accept-returns : goal.clauses_accept-returns
clauses_accept-returns t c =
    all_heard c.args.item.now c.args.clauses.now c.loop-clause.clause-index c.loop-clause-test.false c.loop-clause.supported c.loop-clause.invariant.obeyed c.loop-clause.invariant.supported

pub primary_accepts-returns-in-Everything : goal.primary_accepts-returns-in-Everything
primary_accepts-returns-in-Everything t c = rw (ap primary_of c.in-Everything.is ∙ everything_is) refl

pub primary_accepts-returns-in-Group : goal.primary_accepts-returns-in-Group
primary_accepts-returns-in-Group t c =
    rw (ap primary_of c.in-Group.is ∙ group_is c.in-Group.clauses ∙ ap (λ cs. model.Primary.group (clauses_of cs)) (sym c.deref.ensures.value)) c.clauses_accept.ensures

pub primary_accepts-returns-in-Field : goal.primary_accepts-returns-in-Field
primary_accepts-returns-in-Field t c = rw (ap primary_of c.in-Field.is ∙ field_is c.in-Field.name c.in-Field.test) c.field_accepts.ensures

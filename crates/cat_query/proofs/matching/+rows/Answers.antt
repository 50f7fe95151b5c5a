use Rattle.std.proofs.Common.{◌∙◌, sym, ap, refl, true, false}
use Rattle.cat_model.specs.Query as model
use Rattle.cat_model.specs.Query.{matches, supported}
use Rattle.cat_model.specs.RowSets.{either}
use Rattle.cat_model.specs.View.{item_in}
use Rattle.cat_query.specs.View.{primary_of, clauses_of}
use Rattle.cat_query.proofs.RowTests.{retold, everything_is, group_is, field_is, all_supported, all_say, starts, must_joined, must_not_joined, should_passed, should_joined, others_passed, obeyed_ends, supported_ends}
use Rattle.cat_query.proofs.matching.+rows.Goals as goal
use Rattle.cat_query.proofs.matching.+rows.Goals.{clauses_set-in-Must+in_ok-primary_set-in-Must, clauses_set-in-MustNot+in_ok-primary_set-in-MustNot, clauses_set-in-Should, supported_set-in-Should+in_ok-primary_set-in-Should, supported_set-in_default}

pub clauses_set-loop-clause-preserved : goal.clauses_set-loop-clause-preserved
clauses_set-loop-clause-preserved t c =
    elim c.match-clause.branch [
      | clauses_set-in-Must+in_ok-primary_set-in-Must w ↦ must_joined c.args.segment.now.rows (λ r. matches (clauses_of c.args.clauses.now) (item_in r)) c.args.clauses.now c.loop-clause.clause-index c.clause-item.result c.loop-clause-test.true c.clause-item.is _ _ c.loop-clause.invariant w.in-Must.is _ w.in_ok-primary_set-in-Must.ensures (w.rows-is ∙ w.and_with.ensures)
      | clauses_set-in-MustNot+in_ok-primary_set-in-MustNot w ↦ must_not_joined c.args.segment.now.rows (λ r. matches (clauses_of c.args.clauses.now) (item_in r)) c.args.clauses.now c.loop-clause.clause-index c.clause-item.result c.loop-clause-test.true c.clause-item.is _ _ c.loop-clause.invariant w.in-MustNot.is _ w.in_ok-primary_set-in-MustNot.ensures (w.rows-is ∙ w.and_not.ensures)
      | clauses_set-in-Should w ↦ should_passed c.args.segment.now.rows (λ r. matches (clauses_of c.args.clauses.now) (item_in r)) c.args.clauses.now c.loop-clause.clause-index c.clause-item.result c.loop-clause-test.true c.clause-item.is _ _ c.loop-clause.invariant w.in-Should.is w.rows-is
    ]

pub clauses_set-returns : goal.clauses_set-returns
clauses_set-returns t c = obeyed_ends c.args.segment.now.rows (λ r. matches (clauses_of c.args.clauses.now) (item_in r)) c.args.clauses.now c.loop-clause.clause-index c.loop-clause-test.false c.loop-clause.rows c.loop-clause.invariant

pub primary_set-returns-in-Everything : goal.primary_set-returns-in-Everything
primary_set-returns-in-Everything t c =
    rw (ap primary_of c.in-Everything.is ∙ everything_is) (retold c.all.result (all_say true (λ r. true) (λ r. refl) c.args.segment.now.rows c.len.result c.len.ensures.same) c.all.ensures.ok)

pub primary_set-returns-in-Group : goal.primary_set-returns-in-Group
primary_set-returns-in-Group t c =
    rw (ap primary_of c.in-Group.is ∙ group_is c.in-Group.clauses ∙ ap (λ cs. model.Primary.group (clauses_of cs)) (sym c.deref.ensures.value)) c.clauses_set.ensures

pub primary_set-returns-in-Field : goal.primary_set-returns-in-Field
primary_set-returns-in-Field t c = rw (ap primary_of c.in-Field.is ∙ field_is c.in-Field.name c.in-Field.test) c.field_set.ensures

pub supported_set-returns-then-has_must : goal.supported_set-returns-then-has_must
supported_set-returns-then-has_must t c =
    retold c.all.result (all_say true (λ r. supported (clauses_of c.args.clauses.now) (item_in r)) (λ r. all_supported c.args.clauses.now r (sym c.has_must.ensures ∙ c.if-has_must.true)) c.args.segment.now.rows c.len.result c.len.ensures.same) c.all.ensures.ok

pub supported_set-loop-clause-init : goal.supported_set-loop-clause-init
supported_set-loop-clause-init t c =
    starts either false (λ b. refl) c.args.segment.now.rows (λ r. supported (clauses_of c.args.clauses.now) (item_in r)) c.in_ok-rows.rows c.len-2.result c.len-2.ensures.same c.in_ok-rows.ensures.ok

pub supported_set-loop-clause-preserved : goal.supported_set-loop-clause-preserved
supported_set-loop-clause-preserved t c =
    elim c.match-clause.branch [
      | supported_set-in-Should+in_ok-primary_set-in-Should w ↦ should_joined c.args.segment.now.rows (λ r. supported (clauses_of c.args.clauses.now) (item_in r)) c.args.clauses.now c.loop-clause.clause-index c.clause-item.result c.loop-clause-test.true c.clause-item.is _ _ c.loop-clause.invariant w.in-Should.is _ w.in_ok-primary_set-in-Should.ensures (w.rows-is ∙ w.or_with.ensures)
      | supported_set-in_default w ↦ others_passed c.args.segment.now.rows (λ r. supported (clauses_of c.args.clauses.now) (item_in r)) c.args.clauses.now c.loop-clause.clause-index c.clause-item.result c.loop-clause-test.true c.clause-item.is _ _ c.loop-clause.invariant (sym c.has_must.ensures ∙ c.if-has_must.false) w.in_default.not-Should w.rows-is
    ]

pub supported_set-returns : goal.supported_set-returns
supported_set-returns t c = supported_ends c.args.segment.now.rows (λ r. supported (clauses_of c.args.clauses.now) (item_in r)) c.args.clauses.now c.loop-clause.clause-index c.loop-clause-test.false c.loop-clause.rows c.loop-clause.invariant

use Rattle.std.proofs.Common.{refl, ap, sym}
use Rattle.cat_query.specs.View.{primary_of}
use Rattle.cat_query.proofs.CopySteps.{copied_more, all_copied, group_copied, field_copied}
use Rattle.cat_query.proofs.copies.+copying.Goals as goal

pub copy_clauses-loop-clause-init : goal.copy_clauses-loop-clause-init
copy_clauses-loop-clause-init t c = rw c.in_ok-copied.ensures.items refl

pub copy_clauses-loop-clause-preserved : goal.copy_clauses-loop-clause-preserved
copy_clauses-loop-clause-preserved t c =
    copied_more c.args.clauses.now c.loop-clause.clause-index c.clause-item.result c.loop-clause-test.true c.clause-item.is c.loop-clause.copied.items c.push.new.self.items _
    c.in_ok-push.ensures.items refl c.in_ok-primary.ensures c.loop-clause.invariant

pub copy_clauses-returns : goal.copy_clauses-returns
copy_clauses-returns t c = all_copied c.args.clauses.now c.loop-clause.clause-index c.loop-clause-test.false c.loop-clause.copied.items c.loop-clause.invariant

pub copy_primary-returns-in-Everything : goal.copy_primary-returns-in-Everything
copy_primary-returns-in-Everything t c = sym (ap primary_of c.in-Everything.is)

pub copy_primary-returns-in_ok-copy_clauses-in-Group : goal.copy_primary-returns-in_ok-copy_clauses-in-Group
copy_primary-returns-in_ok-copy_clauses-in-Group t c =
    group_copied c.args.primary.now c.in-Group.clauses c.in_ok-copy_clauses-in-Group.field-0 c.in-Group.is c.deref.result.now c.deref.ensures.value c.in_ok-copy_clauses-in-Group.ensures

pub copy_primary-returns-in_ok-copy_test-in-Field : goal.copy_primary-returns-in_ok-copy_test-in-Field
copy_primary-returns-in_ok-copy_test-in-Field t c =
    field_copied c.args.primary.now c.in-Field.name c.in_ok-copy-in-Field.field-0 c.in-Field.test c.in_ok-copy_test-in-Field.field-0 c.in-Field.is c.in_ok-copy-in-Field.ensures.ok c.in_ok-copy_test-in-Field.ensures

use Rattle.std.proofs.Common.{◌∙◌}
use Rattle.cat_service_tests.proofs.plain.catalogue.Grown.{copied_more}
use Rattle.cat_service_tests.proofs.plain.tables.copy_records.Goals as goal

pub loop-record-preserved : goal.loop-record-preserved
loop-record-preserved c =
    copied_more c.args.records.now c.loop-record.record-index c.record-item.result c.loop-record-test.true c.loop-record.copies.items c.push.new.self.items _
    c.loop-record.invariant c.in_ok-push.ensures.items (c.in_ok-copy.ensures.ok ∙ c.record-item.is)

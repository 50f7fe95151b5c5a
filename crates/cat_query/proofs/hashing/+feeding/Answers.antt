use Rattle.cat_query.proofs.FedSteps.{fed_more, fed_all, fed_everything, fed_group, fed_field}
use Rattle.cat_query.proofs.hashing.+feeding.Goals as goal

pub feed_clauses-loop-clause-preserved : goal.feed_clauses-loop-clause-preserved
feed_clauses-loop-clause-preserved g t c =
    fed_more g.H.Hasher.write c.args.clauses.now c.loop-clause.clause-index c.clause-item.result c.loop-clause-test.true c.clause-item.is c.loop-clause.state c.feed_sign.new.state c.feed_primary.new.state _
    c.feed_sign.ensures c.feed_primary.ensures c.loop-clause.invariant

pub feed_clauses-returns : goal.feed_clauses-returns
feed_clauses-returns g t c =
    fed_all g.H.Hasher.write c.args.clauses.now c.loop-clause.clause-index c.loop-clause-test.false c.loop-clause.state c.write_u8.new.self _ c.write_u8.ensures c.loop-clause.invariant

pub feed_primary-returns-in-Everything : goal.feed_primary-returns-in-Everything
feed_primary-returns-in-Everything g t c = fed_everything g.H.Hasher.write c.args.primary.now c.in-Everything.is c.args.state.now c.write_u8.new.self c.write_u8.ensures

pub feed_primary-returns-in-Group : goal.feed_primary-returns-in-Group
feed_primary-returns-in-Group g t c =
    fed_group g.H.Hasher.write c.args.primary.now c.in-Group.clauses c.in-Group.is c.deref.result.now c.deref.ensures.value c.args.state.now c.write_u8-in-Group.new.self c.feed_clauses.new.state
    c.write_u8-in-Group.ensures c.feed_clauses.ensures

pub feed_primary-returns-in-Field : goal.feed_primary-returns-in-Field
feed_primary-returns-in-Field g t c =
    fed_field g.H.Hasher.write c.args.primary.now c.in-Field.name c.in-Field.test c.in-Field.is c.kind_number.result c.kind_number.ensures c.as_str.result.now c.as_str.ensures
    c.args.state.now c.write_u8-in-Field.new.self c.hash.new.state c.feed_test.new.state c.write_u8-in-Field.ensures c.hash.ensures c.feed_test.ensures

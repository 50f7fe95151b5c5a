use Rattle.cat_base.proofs.TextSets.{IsTextSet-nil}
use Rattle.cat_base.proofs.text.TextSet.new.Goals as goal

pub invariant_of-result : goal.invariant_of-result
invariant_of-result c = rw c.new.ensures.items IsTextSet-nil

use Rattle.cat_model.proofs.QueryLaws.{texts_are_judged, no_fault}
use Rattle.cat_model.proofs.texts_are_judged.Goals as goal

pub returns-clause-judged : goal.returns-clause-judged
returns-clause-judged c = texts_are_judged

pub returns-clause-one_way : goal.returns-clause-one_way
returns-clause-one_way c = no_fault

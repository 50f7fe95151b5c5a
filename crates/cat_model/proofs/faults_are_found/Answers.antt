use Rattle.cat_model.proofs.QueryLaws.{faults_are_found}
use Rattle.cat_model.proofs.faults_are_found.Goals as goal

pub returns : goal.returns
returns c = faults_are_found

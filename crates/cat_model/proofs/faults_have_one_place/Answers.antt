use Rattle.cat_model.proofs.QueryLaws.{place_is_one}
use Rattle.cat_model.proofs.faults_have_one_place.Goals as goal

pub returns : goal.returns
returns c = place_is_one

use Rattle.cat_service.proofs.replicas.Beginnings.{commits_begin}
use Rattle.cat_service.proofs.replicas.Openings.{answer_alike}
use Rattle.cat_service.proofs.replicas.replicas_answer_alike.Goals as goal

pub returns-clause-alike : goal.returns-clause-alike
returns-clause-alike c = answer_alike

pub returns-clause-commits : goal.returns-clause-commits
returns-clause-commits c = commits_begin

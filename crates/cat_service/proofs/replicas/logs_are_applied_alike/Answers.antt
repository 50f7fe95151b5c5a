use Rattle.cat_service.proofs.replicas.Logs.{logs_alike}
use Rattle.cat_service.proofs.replicas.logs_are_applied_alike.Goals as goal

pub returns : goal.returns
returns c = logs_alike

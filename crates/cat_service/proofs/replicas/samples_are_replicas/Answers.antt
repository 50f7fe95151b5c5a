use Rattle.cat_service.proofs.replicas.Samples.{samples}
use Rattle.cat_service.proofs.replicas.samples_are_replicas.Goals as goal

pub returns : goal.returns
returns c = samples

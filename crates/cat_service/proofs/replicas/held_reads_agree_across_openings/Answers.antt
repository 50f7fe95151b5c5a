use Rattle.cat_service.proofs.replicas.Openings.{across_openings, over_one_log}
use Rattle.cat_service.proofs.replicas.held_reads_agree_across_openings.Goals as goal

pub returns-clause-across : goal.returns-clause-across
returns-clause-across c = across_openings

pub returns-clause-of_one_log : goal.returns-clause-of_one_log
returns-clause-of_one_log c = over_one_log

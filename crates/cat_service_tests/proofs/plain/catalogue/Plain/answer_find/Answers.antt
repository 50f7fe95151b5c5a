use Rattle.cat_service_tests.proofs.plain.catalogue.Openings.{fault_is}
use Rattle.cat_service_tests.proofs.plain.catalogue.Plain.answer_find.Goals as goal

pub returns-in_err-find : goal.returns-in_err-find
returns-in_err-find c = rw (fault_is c.from_residual.result c.in_err-find.field-0.0 c.from_residual.ensures) c.in_err-find.ensures

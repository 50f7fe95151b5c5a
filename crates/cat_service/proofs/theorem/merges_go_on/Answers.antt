use Rattle.cat_items.specs.Reading.{json}
use Rattle.cat_directory.specs.Names.{by_names}
use Rattle.cat_service.proofs.theorem.Merges as law
use Rattle.cat_service.proofs.theorem.merges_go_on.Goals as goal

pub returns : goal.returns
returns g c = law.merges_go_on json (by_names g.D.Holder.bytes g.D.Holder.may_leave g.D.Holder.can_fail g.D.Holder.fault_count)
